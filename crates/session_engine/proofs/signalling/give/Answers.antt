use Rattle.std.proofs.Common.{List, ℕ, refl, sym, subst}
use Rattle.inno_types.specs.declared.reply.Reply.TheVariants.{Done}
use Rattle.inno_model.specs.declared.event.Event.TheVariants.{Signal}
use Rattle.sql_history.specs.Legal.{MaySignal}
use Rattle.shared_lists.specs.State.{Adds}
use Rattle.sql_lists.specs.Kept.{MayReply}
use Rattle.session_engine.proofs.Signalled.{may_give, may_end_given, gave, gave_none, ends_after, where_ok, where_err}
use Rattle.session_engine.proofs.signalling.give.Goals as goal

pub signal-requires-clause-may : goal.signal-requires-clause-may
signal-requires-clause-may g c =
    subst (λ (name : List ℕ). MaySignal name c.args.lists.now.past) (sym c.in-Ok.ensures)
    (may_give c.args.s c.args.name c.args.lists.now.past c.requires.asked c.requires.spent c.history.ensures.sound)

pub end_signal-requires-clause-may : goal.end_signal-requires-clause-may
end_signal-requires-clause-may g c =
    let adds : Adds (Signal c.args.name) c.args.s c.args.lists.now c.signal.new.self =
    subst (λ (name : List ℕ). Adds (Signal name) c.args.s c.args.lists.now c.signal.new.self) c.in-Ok.ensures
    (where_ok c.signal.result c.if-is_err.ensures.negation c.signal.ensures.ok) in
    subst (MayReply c.args.s Done) (sym adds.past_is) (may_end_given c.args.s c.args.name c.args.lists.now.past c.requires.asked c.history.ensures.legal)

pub returns : goal.returns
returns g c =
    let adds : Adds (Signal c.args.name) c.args.s c.args.lists.now c.signal.new.self =
    subst (λ (name : List ℕ). Adds (Signal name) c.args.s c.args.lists.now c.signal.new.self) c.in-Ok.ensures
    (where_ok c.signal.result c.if-is_err.ensures.negation c.signal.ensures.ok) in
    (gave c.args.s c.args.name c.args.lists.now c.signal.new.self c.end_signal.new.self c.requires.asked.asked adds c.end_signal.ensures, refl, tt)

pub returns-then-is_err : goal.returns-then-is_err
returns-then-is_err g c =
    let mid = c.signal.new.self in
    let stays = where_err c.signal.result c.if-is_err.ensures.negation c.signal.ensures.err in
    let none = c.give_none-then-is_err.ensures in
    gave_none c.args.s c.args.name c.args.lists.now c.give_none-then-is_err.new.lists _ _
    (ends_after c.args.s _ c.args.lists.now mid c.give_none-then-is_err.new.lists stays none.ends) none.seat none.answer
