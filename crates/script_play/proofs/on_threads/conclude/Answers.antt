use Rattle.std.proofs.Common.{◌≡◌, false, List, sym, subst, ◌∙◌, arith}
use Rattle.std.specs.List.{list_any}
use Rattle.turn_engine.specs.Sessions.{Sitting}
use Rattle.script_play.proofs.ThreadsSetUp.{set_up_left}
use Rattle.script_play.proofs.Concluding.{any_of, not_true, follows_left, rest_left, plays_left}
use Rattle.script_play.proofs.on_threads.conclude.Goals.{then-all, else-all}
use Rattle.script_play.proofs.on_threads.conclude.Goals as goal

pub gather-engine-requires-clause-all : goal.gather-engine-requires-clause-all
gather-engine-requires-clause-all g c = λ x above below.
    any_of 1 x c.args.receipts.items c.requires.numbered.0 (omega (arith, above)) (let counted = c.requires.numbered.1 in omega (arith, below, counted))

pub returns-then-gone-clause-follows : goal.returns-then-gone-clause-follows
returns-then-gone-clause-follows g c =
    follows_left c.args.hall c.args.script.now (g.E.Recorded.board c.gather-engine.result) (g.E.Recorded.board c.let_leave-gone.new.engine) c.args.first
    c.args.receipts.items c.requires.first.0 c.requires.first.1 c.requires.begun c.requires.numbered.0 c.requires.numbered.1 c.gather-engine.ensures.first
    c.gather-engine.ensures.receipts c.gather-engine.ensures.others c.let_leave-gone.ensures.calls

pub returns-else-whole-clause-follows : goal.returns-else-whole-clause-follows
returns-else-whole-clause-follows g c =
    follows_left c.args.hall c.args.script.now (g.E.Recorded.board c.gather-engine.result) (g.E.Recorded.board c.let_leave-gone.new.engine) c.args.first
    c.args.receipts.items c.requires.first.0 c.requires.first.1 c.requires.begun c.requires.numbered.0 c.requires.numbered.1 c.gather-engine.ensures.first
    c.gather-engine.ensures.receipts c.gather-engine.ensures.others c.let_leave-gone.ensures.calls

pub returns-then-gone-clause-set_up : goal.returns-then-gone-clause-set_up
returns-then-gone-clause-set_up g c =
    set_up_left c.args.first (g.E.Recorded.board c.gather-engine.result).past (g.E.Recorded.board c.let_leave-gone.new.engine).past c.requires.first.0
    c.requires.set_up c.requires.first.1.0.1.rests c.gather-engine.ensures.first.extends c.gather-engine.ensures.first.calls c.gather-engine.ensures.others
    c.let_leave-gone.ensures.extends c.let_leave-gone.ensures.calls

pub returns-else-whole-clause-set_up : goal.returns-else-whole-clause-set_up
returns-else-whole-clause-set_up g c =
    set_up_left c.args.first (g.E.Recorded.board c.gather-engine.result).past (g.E.Recorded.board c.let_leave-gone.new.engine).past c.requires.first.0
    c.requires.set_up c.requires.first.1.0.1.rests c.gather-engine.ensures.first.extends c.gather-engine.ensures.first.calls c.gather-engine.ensures.others
    c.let_leave-gone.ensures.extends c.let_leave-gone.ensures.calls

pub returns-then-gone-clause-rests : goal.returns-then-gone-clause-rests
returns-then-gone-clause-rests g c =
    rest_left c.args.hall c.args.script.now (g.E.Recorded.board c.gather-engine.result) (g.E.Recorded.board c.let_leave-gone.new.engine) c.args.first
    c.args.receipts.items c.requires.first.0 c.requires.first.1 c.requires.begun c.requires.numbered.0 c.requires.numbered.1 c.gather-engine.ensures.first
    c.gather-engine.ensures.receipts c.gather-engine.ensures.others c.let_leave-gone.ensures.calls

pub returns-then-gone-clause-played : goal.returns-then-gone-clause-played
returns-then-gone-clause-played g c = elim c.if-all.branch [
  | then-all w ↦
      plays_left c.args.hall c.args.script.now (g.E.Recorded.board c.gather-engine.result) (g.E.Recorded.board c.let_leave-gone.new.engine) c.args.first
      c.args.receipts.items c.requires.first.0 c.requires.first.1 c.requires.begun c.requires.numbered.0 c.requires.numbered.1 c.gather-engine.ensures.first
      c.gather-engine.ensures.receipts c.gather-engine.ensures.others c.let_leave-gone.ensures.calls
      (c.requires.whole w.if-all.true)
      (subst (λ (list : List Sitting). list_any (λ (r : Sitting). r.lost) list ≡ false) w.deref.ensures.value
      (sym w.any_lost.ensures ∙ not_true w.any_lost.result (sym w.whole-is ∙ c.if-whole.true))) c.requires.each_named
      (c.let_leave-gone.ensures.names ∙ c.gather-engine.ensures.names)
  | else-all w ↦ (let e = sym c.if-whole.true ∙ w.whole-is in cc)
]
