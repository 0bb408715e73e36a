use Rattle.std.proofs.Common.{◌≡◌, ℕ, ◌-◌, ◌<◌, true, false, Some, List, length, refl, sym, ap, ◌∙◌, arith}
use Rattle.std.specs.Prelude.{take, drop, reverse}
use Rattle.std.specs.List.{list_any}
use Rattle.session_engine.specs.declared.seats.SignalItem.TheVariants.{Awaits}
use Rattle.session_engine.specs.Signals.{gives}
use Rattle.session_engine.proofs.Signalled.{found, none_given, seen_now, may_end_found, may_give_up, ended_waiting, rest_is, waited_since}
use Rattle.session_engine.proofs.signalling.look.Goals as goal

pub end_signal-requires-clause-may : goal.end_signal-requires-clause-may
end_signal-requires-clause-may g c =
    let es = c.events-entries.result.now in
    let past = c.args.lists.now.past in
    let turned : reverse es ≡ past = c.events-entries.ensures ∙ c.history.ensures.past in
    let any : list_any (gives c.args.wait.name) (drop c.args.wait.seen es) ≡ true =
    ap (list_any (gives c.args.wait.name)) (sym (rest_is c.args.wait.seen es))
    ∙ (ap (λ (name : List ℕ). list_any (gives name) (take (length es - c.args.wait.seen) (drop c.args.wait.seen es))) (sym c.as_slice.ensures)
    ∙ sym c.any_gives.ensures ∙ c.if-any_gives.true) in
    may_end_found c.args.s c.args.wait.name past c.requires.asked.0 (found c.args.wait.name c.args.wait.seen es past c.requires.asked.1 turned any)

pub end-requires-clause-may : goal.end-requires-clause-may
end-requires-clause-may g c =
    let es = c.events-entries.result.now in
    let past = c.args.lists.now.past in
    let turned : reverse es ≡ past = c.events-entries.ensures ∙ c.history.ensures.past in
    let none : list_any (gives c.args.wait.name) (drop c.args.wait.seen es) ≡ false =
    ap (list_any (gives c.args.wait.name)) (sym (rest_is c.args.wait.seen es))
    ∙ (ap (λ (name : List ℕ). list_any (gives name) (take (length es - c.args.wait.seen) (drop c.args.wait.seen es))) (sym c.as_slice.ensures)
    ∙ sym c.any_gives.ensures ∙ c.if-any_gives.false) in
    may_give_up c.args.s c.saturating_sub-waited.result c.args.wait.name past c.requires.asked.0
    (none_given c.args.wait.name c.args.wait.seen es past c.requires.asked.1 turned none) c.if-waited-ge-LONGEST_WAIT.true

pub returns-then-waited-ge-LONGEST_WAIT : goal.returns-then-waited-ge-LONGEST_WAIT
returns-then-waited-ge-LONGEST_WAIT g c =
    let es = c.events-entries.result.now in
    let past = c.args.lists.now.past in
    let turned : reverse es ≡ past = c.events-entries.ensures ∙ c.history.ensures.past in
    let none : list_any (gives c.args.wait.name) (drop c.args.wait.seen es) ≡ false =
    ap (list_any (gives c.args.wait.name)) (sym (rest_is c.args.wait.seen es))
    ∙ (ap (λ (name : List ℕ). list_any (gives name) (take (length es - c.args.wait.seen) (drop c.args.wait.seen es))) (sym c.as_slice.ensures)
    ∙ sym c.any_gives.ensures ∙ c.if-any_gives.false) in
    let long =
    waited_since c.args.wait.since c.args.now c.unwrap_or-since.result c.saturating_sub-waited.result c.unwrap_or-since.ensures
    c.saturating_sub-waited.ensures c.if-waited-ge-LONGEST_WAIT.true in (
      ended_waiting c.args.s _ c.args.lists.now c.end.new.self c.end.ensures,
      refl,
      (
        none_given c.args.wait.name c.args.wait.seen es past c.requires.asked.1 turned none,
        long.0,
        long.1,
        long.2,
        long.3,
      ),
    )

pub returns : goal.returns
returns g c =
    let es = c.events-entries.result.now in
    let past = c.args.lists.now.past in
    let turned : reverse es ≡ past = c.events-entries.ensures ∙ c.history.ensures.past in
    let none : list_any (gives c.args.wait.name) (drop c.args.wait.seen es) ≡ false =
    ap (list_any (gives c.args.wait.name)) (sym (rest_is c.args.wait.seen es))
    ∙ (ap (λ (name : List ℕ). list_any (gives name) (take (length es - c.args.wait.seen) (drop c.args.wait.seen es))) (sym c.as_slice.ensures)
    ∙ sym c.any_gives.ensures ∙ c.if-any_gives.false) in
    let none_stands = none_given c.args.wait.name c.args.wait.seen es past c.requires.asked.1 turned none in
    let short : c.args.now - c.unwrap_or-since.result < 50 =
    omega (arith, c.if-waited-ge-LONGEST_WAIT.false, c.saturating_sub-waited.ensures) in (
      refl,
      (c.args.wait.name, c.requires.asked.0.asked, none_stands),
      (
        Awaits (record { name = c.args.wait.name; seen = length es; since = Some c.unwrap_or-since.result }),
        (c.requires.asked.0, seen_now c.args.wait.name c.args.wait.seen es past c.requires.asked.1 turned none),
        (c.unwrap_or-since.result, refl, short),
        ap Some c.unwrap_or-since.ensures,
        refl,
      ),
    )
