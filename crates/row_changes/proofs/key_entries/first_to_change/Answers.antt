use Rattle.std.proofs.lemmas.Grind.{elements}
use Rattle.std.proofs.Common.{◌≡◌, length, get_or, sym, ap, ◌∙◌, arith, ⊎_elim, Some, slice_get}
use Rattle.std.proofs.lemmas.{Bool.cases_eq, Option.slice_get_within, Option.slice_get-get_or}
use Rattle.row_changes.proofs.Sessions.{one_found}
use Rattle.row_changes.proofs.key_entries.first_to_change.Goals as goal

pub loop-which-preserved : goal.loop-which-preserved
loop-which-preserved c = λ w k from_there below is.
    let key = get_or c.as_slice-keys.result.now c.loop-which.which c.index-keys-which.result in
    let there : slice_get c.args.schema.now.keys c.loop-which.which ≡ Some key =
    rw (← c.as_slice-keys.ensures) (slice_get-get_or c.as_slice-keys.result.now c.loop-which.which c.index-keys-which.result c.loop-which-test.true) in
    ⊎_elim (λ e. rw (one_found k key is (ap (slice_get c.args.schema.now.keys) e ∙ there)) (sym c.value_stays.ensures ∙ c.if-not-value_stays.false))
    (λ differs. c.loop-which.invariant w k from_there (omega (arith, below, differs)) is) (cases_eq w c.loop-which.which)

pub returns : goal.returns
returns c =
    let ends : length c.as_slice-keys.result.now ≡ length c.args.schema.now.keys = ap length c.as_slice-keys.ensures in
    record {
      from_there = omega arith;
      within = omega arith;
      stay = λ which key from_there below is. c.loop-which.invariant which key from_there (omega (arith, below)) is;
      changes =
          λ key is. let within = slice_get_within c.args.schema.now.keys (length c.as_slice-keys.result.now) key is in absurd (omega (arith, ends, within));
    }

pub returns-then-not-value_stays : goal.returns-then-not-value_stays
returns-then-not-value_stays c = grind (arith, elements) steps 2000000
