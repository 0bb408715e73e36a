-- Why no table is made, over several calls one after another.
use Rattle.std.proofs.Common.{◌≡◌, ℕ, ◌+◌, ◌<◌, ◌≤◌, ◌==◌, ◌||◌, inl, inr, ◌⊎◌, List, [], ◌++◌, length, length-append, Bool, true, false, Some, refl, sym, ap, ◌∙◌, subst, arith}
use Rattle.std.specs.Prelude.{IsTrue, Option, OnErr, Result, Ok, Err}
use Rattle.store_api.specs.Causes.{Rose}
use Rattle.store_api.specs.declared.visits.Visit.{Visit}
use Rattle.store_api.specs.declared.visits.Visit.TheVariants.{Failed, Again, Bad}
use Rattle.store_api.specs.declared.visits.SpaceBad.{SpaceBad}
use Rattle.store_api.specs.declared.visits.SpaceBad.TheVariants as space
use Rattle.mtr.specs.Seen.{MtrState, is_in, capacity_of, IsShut}
use Rattle.mtr.specs.Calls.{Goes, IsReason}
use Rattle.space_map.specs.Map.{mark_of, IsFree, free_among}
use Rattle.space_map.specs.Taking.{map_pages, Miscounts, IsTakeReason}
use Rattle.catalog.specs.Creating.{ReservesPages, Reserves, asked_pages, FreesFixed, IsVisitReason, IsPutReason, IsFreshReason, IsCreateReason, Attempts}
use Rattle.catalog.proofs.Freeing.{none_free}
use Rattle.catalog.proofs.Reserving.{is_out, reserves_then}

-- ---- pages that are asked for

or_more : (a b c d rest : Bool) → (a || (b || (c || (d || false)))) ≡ true → (a || (b || (c || (d || rest)))) ≡ true
or_more true b c d rest h = refl
or_more false true c d rest h = refl
or_more false false true d rest h = refl
or_more false false false true rest h = refl
or_more false false false false rest h = absurd (cc)

pub map_asked : (page : ℕ) → is_in page map_pages ≡ true → is_in page asked_pages ≡ true
map_asked page h = or_more (0 == page) (2 == page) (3 == page) (4 == page) _ h

-- ---- a single reason

widened : (page rule : ℕ) (s : MtrState) → (s.fault page ≡ Some rule) ⊎ Miscounts page rule s.seen → (s.fault page ≡ Some rule) ⊎ Miscounts page rule s.seen ⊎ FreesFixed page rule s.seen
widened page rule s (inl fault) = inl fault
widened page rule s (inr counts) = inr (inl counts)

pub visit_reason : (pages : List ℕ) → ((page : ℕ) → is_in page pages ≡ true → is_in page asked_pages ≡ true) → (old new : MtrState) (why : Visit) → IsReason pages Miscounts old new why → IsVisitReason old new why
visit_reason pages asked old new Failed reason = reason
visit_reason pages asked old new Again reason = (reason.0, inl (asked reason.0 reason.1), reason.2)
visit_reason pages asked old new (Bad page rule) reason = (asked page reason.0, λ told. widened page rule old (reason.1 told))

pub take_reason : (old new : MtrState) (why : SpaceBad) → IsTakeReason old new why → IsCreateReason 1 old new why
take_reason old new space.Full reason = λ told.
    let none = none_free old.seen (capacity_of old) (λ page below unmarked. reason told page (record { within = below; unmarked = unmarked })) in
    omega (arith, none)
take_reason old new (space.Visit why) reason = visit_reason map_pages map_asked old new why reason
take_reason old new space.NoMemory reason = tt

-- ---- after pages were taken

rose_later : (a b c : ℕ) → a ≤ b → Rose b c → Rose a c
rose_later a b c first rose = omega arith

module _ (roots written : List ℕ) (old mid new : MtrState) (taken : Reserves roots written old mid) (goes : Goes mid new) where
  out_if_free : (page : ℕ) → ReservesPages roots written old mid → mark_of mid.seen page ≡ 0 → is_in page roots ≡ false
  out_if_free page pages unmarked = is_out (is_in page roots) (λ h. omega (arith, unmarked, pages.used page h))

  broken_before : (page rule : ℕ) → ReservesPages roots written old mid → (mid.fault page ≡ Some rule) ⊎ Miscounts page rule mid.seen ⊎ FreesFixed page rule mid.seen → (old.fault page ≡ Some rule) ⊎ Miscounts page rule old.seen ⊎ FreesFixed page rule old.seen
  broken_before page rule pages (inl fault) = inl (sym (ap (λ (f : ℕ → Option ℕ). f page) pages.fault) ∙ fault)
  broken_before page rule pages (inr (inl counts)) = inr (inl (counts.0, counts.1, λ bounds. counts.2 (omega (arith, bounds.0, pages.counted), omega (arith, bounds.1, pages.counted))))
  broken_before page rule pages (inr (inr frees)) =
      let fixed = frees.2.0 in
      inr (inr (frees.0, frees.1, (fixed, frees.2.1, sym (pages.marks fixed (omega (arith, frees.2.1)) (out_if_free fixed pages frees.2.2)) ∙ frees.2.2)))

  pub visit_reason_later : (why : Visit) → IsVisitReason mid new why → IsVisitReason old new why
  visit_reason_later Failed reason = rose_later old.faults mid.faults new.faults taken.goes.faults reason
  visit_reason_later Again reason = (
    reason.0,
    elim reason.1 [
      | inl asked ↦ inl asked
      | inr free ↦ inr (λ told.
          let pages = taken.pages (goes.told told) in
          let here = free told in
          (here.0, record { within = omega (arith, here.1.within, pages.counted); unmarked = sym (pages.marks reason.0 here.0 (out_if_free reason.0 pages here.1.unmarked)) ∙ here.1.unmarked }))
    ],
    reason.2,
  )
  visit_reason_later (Bad page rule) reason = (reason.0, λ told. broken_before page rule (taken.pages (goes.told told)) (reason.1 told))

  pub create_reason_later : (less need : ℕ) (why : SpaceBad) → length roots + less ≤ need → IsCreateReason less mid new why → IsCreateReason need old new why
  create_reason_later less need space.Full enough reason = λ told.
      let pages = taken.pages (goes.told told) in
      omega (arith, reason told, pages.free, ap (free_among mid.seen 0) pages.counted, enough)
  create_reason_later less need (space.Visit why) enough reason = visit_reason_later why reason
  create_reason_later less need space.NoMemory enough reason = tt

-- ---- what is left

pub attempts_then : (roots : List ℕ) (old mid new : MtrState) (less most : ℕ) → Reserves roots [] old mid → length roots + less ≤ most → Attempts less mid new → Attempts most old new
attempts_then roots old mid new less most taken enough attempts = record {
  roots = roots ++ attempts.roots;
  few = omega (arith, length-append roots attempts.roots, attempts.few, enough);
  takes = reserves_then roots attempts.roots [] [] old mid new taken attempts.takes;
}

pub attempts_taken : (roots : List ℕ) (old new : MtrState) (most : ℕ) → Reserves roots [] old new → length roots ≤ most → Attempts most old new
attempts_taken roots old new most taken enough = record { roots = roots; few = enough; takes = taken }

-- ---- answers

pub on_err : {T E : Type 0} (r : Result T E) (P : Type 0) → P → OnErr r P
on_err (Ok value) P p = tt
on_err (Err why) P p = p
