use Rattle.std.proofs.Common.{arith}
use Rattle.std.proofs.lemmas.Grind.{common_steps}
use Rattle.std.proofs.Common.{◌≡◌, ◌⊎◌, ◌-◌, ◌∷◌, [], ◌++◌, ℕ, List, length, drop, true, sym, ◌∙◌, ap, subst}
use Rattle.log_format.specs.Group.{group_bytes}
use Rattle.log_format.specs.Scan.{NoGroup, IsScan, HasWhole}
use Rattle.log_format.specs.Given.{ReaderView, HasGiven}
use Rattle.log_format.proofs.Streamed.{one_given, drop_to, from_on, all_given}
use Rattle.log_format.proofs.reader.Reader.take_group.Goals as goal

pub returns-in-None-clause-gives : goal.returns-in-None-clause-gives
returns-in-None-clause-gives c = λ first area given past is.
    let i = c.self.inside in
    let r : ReaderView = record { run = i.run; block = i.block; next = i.next; rest = drop i.at i.stream.items; ended = i.ended } in
    let none : NoGroup i.next (drop i.at i.stream.items) =
    subst (λ (l : List ℕ). NoGroup i.next l) (from_on i.at c.deref.result.now ∙ ap (λ (l : List ℕ). drop i.at l) c.deref.ensures.value)
    (rw c.in-None.is at c.in_ok-next_group.ensures.none) in
    let settled : (i.ended ≡ true) ⊎ HasWhole (drop i.at i.stream.items) =
    subst (λ (v : ReaderView). (v.ended ≡ true) ⊎ HasWhole v.rest) (sym c.self.view_is) c.requires in (
      is,
      subst (λ (v : ReaderView). IsScan v.run first area given) c.self.view_is
          (all_given first area given r (subst (λ (v : ReaderView). HasGiven first area given v) (sym c.self.view_is) is) none settled),
    )

pub returns-in-Some-checked_add-clause-gives : goal.returns-in-Some-checked_add-clause-gives
returns-in-Some-checked_add-clause-gives c = λ first area given past is.
    let i = c.self.inside in
    let g = c.in-Some.group in
    let after = c.in-Some.after.now in
    let r : ReaderView = record { run = i.run; block = i.block; next = i.next; rest = drop i.at i.stream.items; ended = i.ended } in
    let found = rw c.in-Some.is at c.in_ok-next_group.ensures.found in
    let begins : drop i.at i.stream.items ≡ group_bytes g ++ after =
    ap (λ (l : List ℕ). drop i.at l) (sym c.deref.ensures.value) ∙ sym (from_on i.at c.deref.result.now) ∙ found.2 in
    let now = one_given first area given r (subst (λ (v : ReaderView). HasGiven first area given v) (sym c.self.view_is) is) g after found.0 found.1 begins in
    let at : c.len.result ≡ length i.stream.items = c.len.ensures ∙ i.stream.ok.0 in
    let rest : drop (c.len.result - length after) i.stream.items ≡ after =
    ap (λ (n : ℕ). drop (n - length after) i.stream.items) at ∙ drop_to i.at i.stream.items (group_bytes g) after begins in
    subst
    (λ (l : List ℕ). HasGiven first area (given ++ g ∷ [])
    (record { run = i.run; block = i.block; next = c.in-Some-checked_add.next; rest = l; ended = i.ended }))
    (sym rest)
    (subst (λ (n : ℕ). HasGiven first area (given ++ g ∷ []) (record { run = i.run; block = i.block; next = n; rest = after; ended = i.ended }))
    (sym c.in-Some-checked_add.ensures.1) now)

pub overflow_sub-self : goal.overflow_sub-self
overflow_sub-self c = grind (arith, common_steps) steps 2000000
