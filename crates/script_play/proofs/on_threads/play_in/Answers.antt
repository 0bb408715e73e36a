use Rattle.std.proofs.lemmas.Grind.{common_steps}
use Rattle.std.proofs.Common.{◌≡◌, ◌++◌, ◌∷◌, List, ℕ, length, take, sym, ap, subst, ◌∙◌, arith}
use Rattle.std.specs.Prelude.{All}
use Rattle.std.proofs.Math.Seq.{take-length}
use Rattle.atomic_table.specs.Seated.{TableId}
use Rattle.script.specs.declared.script.ScriptItem.{ScriptItem}
use Rattle.inno_model.specs.Boards.{calls_of}
use Rattle.turn_engine.specs.Sessions.{Sitting, own, setup}
use Rattle.script_play.specs.Playing.{HasBegun, HasBegunIn, HasPlayedIn, IsWhole}
use Rattle.script_play.proofs.Openings.{named_so_far}
use Rattle.script_play.proofs.Concluding.{only}
use Rattle.script_play.proofs.on_threads.play_in.Goals as goal

-- the first session has played, whoever has joined since
still_played : (hall : TableId) (list script : List ScriptItem) (made joined : Sitting) → list ≡ script → made.hall ≡ hall → made.number ≡ 0
    → (joined.hall ≡ made.hall) × (joined.number ≡ 0) × (own joined ≡ own made) × (joined.lost ≡ made.lost)
    → HasBegun list made → IsWhole list made → (joined.number ≡ 0) × HasPlayedIn hall script joined
still_played hall list script made joined e h n same begun whole =
    let numbers : joined.number ≡ made.number = same.1 ∙ sym n in
    let calls = same.2 in
    let items_are = begun.items_are in
    let rests = begun.rests in (
      same.1,
      (
        (same.0 ∙ h, record { left = begun.left; items_are = cc; rests = cc }),
        (λ kept. let all = whole (sym same.3 ∙ kept) in cc),
      ),
    )

pub make_calls-requires-clause-takes : goal.make_calls-requires-clause-takes
make_calls-requires-clause-takes g c =
    subst (λ (list : List ScriptItem). All (λ x. g.E.Turns.takes x.item) list) (sym c.as_slice.ensures) c.requires.takes

pub conclude-requires-clause-begun : goal.conclude-requires-clause-begun
conclude-requires-clause-begun g c =
    only (HasPlayedIn c.args.hall c.args.script.now.items) (HasBegunIn c.args.hall c.args.script.now.items) c.play_all-receipts.result.items (λ r is. is.0)
    c.play_all-receipts.ensures.played

pub conclude-requires-clause-named : goal.conclude-requires-clause-named
conclude-requires-clause-named g c =
    named_so_far c.args.script.now c.split_all-joined.new.first.seen.names c.args.others.now (length c.split_all-joined.new.sessions.items) c.requires.names.0
    (c.split_all-joined.ensures.names
    ∙ ap (λ (list : List (List ℕ)). list ++ take (length c.split_all-joined.new.sessions.items) c.args.others.now)
    (c.make_calls.ensures.names c.requires.first.1 ∙ c.requires.first.2))

pub conclude-requires-clause-whole : goal.conclude-requires-clause-whole
conclude-requires-clause-whole g c = λ all. record {
  named = c.split_all-joined.ensures.names
      ∙ (ap (λ (list : List (List ℕ)). list ++ take (length c.split_all-joined.new.sessions.items) c.args.others.now)
      (c.make_calls.ensures.names c.requires.first.1 ∙ c.requires.first.2)
      ∙ (ap (λ n. setup ∷ take n c.args.others.now) (c.split_all-joined.ensures.all c.if-joined.true)
      ∙ (ap (λ (list : List (List ℕ)). setup ∷ list) (take-length c.args.others.now) ∙ sym c.requires.names.0)));
  kept = sym c.is_lost.ensures ∙ c.if-not-is_lost.true;
  whole = only (HasPlayedIn c.args.hall c.args.script.now.items) (IsWhole c.args.script.now.items) c.play_all-receipts.result.items (λ r is. is.1)
      c.play_all-receipts.ensures.played;
}

pub conclude-requires-else-joined-clause-named : goal.conclude-requires-else-joined-clause-named
conclude-requires-else-joined-clause-named g c =
    named_so_far c.args.script.now c.split_all-joined.new.first.seen.names c.args.others.now (length c.split_all-joined.new.sessions.items) c.requires.names.0
    (c.split_all-joined.ensures.names
    ∙ ap (λ (list : List (List ℕ)). list ++ take (length c.split_all-joined.new.sessions.items) c.args.others.now)
    (c.make_calls.ensures.names c.requires.first.1 ∙ c.requires.first.2))

pub conclude-requires-clause-set_up : goal.conclude-requires-clause-set_up
conclude-requires-clause-set_up g c = record {
  before = c.make_calls.new.session.seen.past;
  seen = c.split_all-joined.ensures.seen;
  over = c.split_all-joined.ensures.same.2
      ∙ ap (λ (x : ℕ). calls_of x c.make_calls.new.session.seen.past) (c.make_calls.ensures.same.1 ∙
      (c.requires.first.1 ∙ sym c.split_all-joined.ensures.same.1));
  alone = λ x above below. c.split_all-joined.ensures.uncalled x
      (let one = ap length (c.make_calls.ensures.names c.requires.first.1 ∙ c.requires.first.2) in omega (arith, above, one)) below;
}

pub conclude-requires-else-joined-clause-set_up : goal.conclude-requires-else-joined-clause-set_up
conclude-requires-else-joined-clause-set_up g c = record {
  before = c.make_calls.new.session.seen.past;
  seen = c.split_all-joined.ensures.seen;
  over = c.split_all-joined.ensures.same.2
      ∙ ap (λ (x : ℕ). calls_of x c.make_calls.new.session.seen.past) (c.make_calls.ensures.same.1 ∙
      (c.requires.first.1 ∙ sym c.split_all-joined.ensures.same.1));
  alone = λ x above below. c.split_all-joined.ensures.uncalled x
      (let one = ap length (c.make_calls.ensures.names c.requires.first.1 ∙ c.requires.first.2) in omega (arith, above, one)) below;
}

pub conclude-requires-clause-numbered : goal.conclude-requires-clause-numbered
conclude-requires-clause-numbered g c = grind (arith, common_steps) steps 2000000

pub conclude-requires-else-joined-clause-numbered : goal.conclude-requires-else-joined-clause-numbered
conclude-requires-else-joined-clause-numbered g c = grind (arith, common_steps) steps 2000000

pub returns-then-not-is_lost-clause-named : goal.returns-then-not-is_lost-clause-named
returns-then-not-is_lost-clause-named g c = c.conclude.ensures.named

pub returns-else-joined-clause-named : goal.returns-else-joined-clause-named
returns-else-joined-clause-named g c = c.conclude-else-joined.ensures.named

pub returns-then-not-is_lost-clause-follows : goal.returns-then-not-is_lost-clause-follows
returns-then-not-is_lost-clause-follows g c = c.conclude.ensures.follows

pub returns-else-joined-clause-follows : goal.returns-else-joined-clause-follows
returns-else-joined-clause-follows g c = c.conclude-else-joined.ensures.follows

pub returns-then-not-is_lost-clause-played : goal.returns-then-not-is_lost-clause-played
returns-then-not-is_lost-clause-played g c = c.conclude.ensures.played

pub returns-else-joined-clause-played : goal.returns-else-joined-clause-played
returns-else-joined-clause-played g c = c.conclude-else-joined.ensures.played

pub returns-then-not-is_lost-clause-rests : goal.returns-then-not-is_lost-clause-rests
returns-then-not-is_lost-clause-rests g c = c.conclude.ensures.rests

pub returns-else-joined-clause-rests : goal.returns-else-joined-clause-rests
returns-else-joined-clause-rests g c = c.conclude-else-joined.ensures.rests

pub returns-then-not-is_lost-clause-set_up : goal.returns-then-not-is_lost-clause-set_up
returns-then-not-is_lost-clause-set_up g c = c.conclude.ensures.set_up

pub returns-else-joined-clause-set_up : goal.returns-else-joined-clause-set_up
returns-else-joined-clause-set_up g c = c.conclude-else-joined.ensures.set_up

pub conclude-requires-clause-first : goal.conclude-requires-clause-first
conclude-requires-clause-first g c =
    still_played c.args.hall c.as_slice.result.now c.args.script.now.items c.make_calls.new.session c.split_all-joined.new.first c.as_slice.ensures
    (c.make_calls.ensures.same.0 ∙ c.requires.first.0.0) (c.make_calls.ensures.same.1 ∙ c.requires.first.1) c.split_all-joined.ensures.same
    c.make_calls.ensures.begun c.make_calls.ensures.whole

pub conclude-requires-else-joined-clause-first : goal.conclude-requires-else-joined-clause-first
conclude-requires-else-joined-clause-first g c =
    still_played c.args.hall c.as_slice.result.now c.args.script.now.items c.make_calls.new.session c.split_all-joined.new.first c.as_slice.ensures
    (c.make_calls.ensures.same.0 ∙ c.requires.first.0.0) (c.make_calls.ensures.same.1 ∙ c.requires.first.1) c.split_all-joined.ensures.same
    c.make_calls.ensures.begun c.make_calls.ensures.whole

pub conclude-requires-else-joined-clause-begun : goal.conclude-requires-else-joined-clause-begun
conclude-requires-else-joined-clause-begun g c = c.end_all-receipts.ensures.begun
