-- Calls that go on within a mini-transaction, one after another.
use Rattle.std.proofs.Common.{◌≡◌, inl, inr, ℕ, ◌+◌, ◌<◌, ◌≤◌, List, [], ◌∷◌}
use Rattle.std.proofs.Common.{◌++◌, length, Bool, true, false, refl, sym, ◌∙◌, ap, subst, arith, length-append}
use Rattle.std.specs.Prelude.{IsTrue, if◌then◌else◌}
use Rattle.std.proofs.lemmas.Bool.{false≢true}
use Rattle.std.proofs.lemmas.Bool.Decides.{nat_tests}
use Rattle.store_api.specs.Causes.{Rose}
use Rattle.store_api.specs.declared.visits.Visit.{Visit}
use Rattle.store_api.specs.declared.visits.Visit.TheVariants.{Failed, Again, Bad}
use Rattle.store_api.specs.declared.visits.SpaceBad.{SpaceBad}
use Rattle.store_api.specs.declared.visits.SpaceBad.TheVariants as space
use Rattle.stored_pages.specs.Words.{u32_at}
use Rattle.mtr.specs.Seen.{MtrState, is_in, visit, visit_all, claim, AreAmong, Visits}
use Rattle.mtr.specs.Calls.{Goes, Makes, Consults}
use Rattle.mtr.proofs.Claims.{visited_now, visited_stays, claim_least}
use Rattle.mtr.proofs.Consulting.{goes_then, claim_left}
use Rattle.space_map.specs.Map.{mark_of}
use Rattle.space_map.specs.Taking.{map_pages, Miscounts, Marks}
use Rattle.space_map.proofs.Places.{distinct_map_pages}
use Rattle.btree_change.specs.Calls.{Touches, Rewrites}
use Rattle.btree_grow.specs.Going.{GoesOn, IsStop, IsHalt}

-- ---- how many pages are dealt with

grown : (p : ℕ) (v : List ℕ) (b : Bool) → length (if b then v else v ++ p ∷ []) ≤ 1 + length v
grown p v true = omega arith
grown p v false = omega (arith, length-append v (p ∷ []))

pub length-visit : (p : ℕ) (v : List ℕ) → length (visit p v) ≤ 1 + length v
length-visit p v = grown p v (is_in p v)

stays_all : (asked : List ℕ) (q : ℕ) (v : List ℕ) → is_in q v ≡ true → is_in q (visit_all asked v) ≡ true
stays_all [] q v is = is
stays_all (p ∷ asked) q v is = stays_all asked q (visit p v) (visited_stays q p v is)

one_more : (b c : Bool) → (b ≡ true → c ≡ true) → (if c then 0 else 1) ≤ (if b then 0 else 1)
one_more true true on = omega arith
one_more true false on = absurd (false≢true (on refl))
one_more false true on = omega arith
one_more false false on = omega arith

claim_one : (pages : List ℕ) (p : ℕ) (v : List ℕ) → claim pages (visit p v) ≤ 1 + claim pages v
claim_one [] p v = length-visit p v
claim_one (q ∷ pages) p v = omega (arith, one_more (is_in q v) (is_in q (visit p v)) (visited_stays q p v), claim_one pages p v)

-- there is a place for one more
pub few_visit : (p : ℕ) (v : List ℕ) → length (visit p v) ≤ 1 + claim map_pages v
few_visit p v = omega (arith, length-visit p v, claim_least map_pages v)

-- a page that was dealt with before takes no more place
same_page : (q page : ℕ) → is_in q (page ∷ []) ≡ true → q ≡ page
same_page q page is = grind (arith, nat_tests)

known_all : (page : ℕ) (asked v : List ℕ) → AreAmong asked (page ∷ []) → is_in page v ≡ true → visit_all asked v ≡ v
known_all page [] v among is = refl
known_all page (q ∷ asked) v among is =
    let known : is_in q v ≡ true = subst (λ (p : ℕ). is_in p v ≡ true) (sym (same_page q page among.0)) is in
    let same : visit q v ≡ v = ap (λ (b : Bool). if b then v else v ++ q ∷ []) known in
    ap (visit_all asked) same ∙ known_all page asked v among.1 is

asked_more : (page : ℕ) (asked v : List ℕ) → AreAmong asked (page ∷ []) → claim map_pages (visit_all asked v) ≤ 1 + claim map_pages v
asked_more page [] v among = omega arith
asked_more page (q ∷ asked) v among =
    let here : q ≡ page = same_page q page among.0 in
    let rest : visit_all asked (visit q v) ≡ visit q v =
    known_all page asked (visit q v) among.1 (subst (λ (p : ℕ). is_in p (visit q v) ≡ true) here (visited_now q v)) in
    subst (λ l. claim map_pages l ≤ 1 + claim map_pages v) (sym rest) (claim_one map_pages q v)

page_longer : (page : ℕ) (old new : MtrState) → Visits (page ∷ []) old new → claim map_pages new.visited ≤ 1 + claim map_pages old.visited
page_longer page old new visits =
    subst (λ l. claim map_pages l ≤ 1 + claim map_pages old.visited) (sym visits.visited_is) (asked_more page visits.asked old.visited visits.known)

map_longer : (old new : MtrState) → Visits map_pages old new → claim map_pages new.visited ≡ claim map_pages old.visited
map_longer old new visits = claim_left map_pages old new distinct_map_pages visits

visits_stay : (pages : List ℕ) (old new : MtrState) → Visits pages old new → (page : ℕ) → is_in page old.visited ≡ true → is_in page new.visited ≡ true
visits_stay pages old new visits page is = subst (λ v. is_in page v ≡ true) (sym visits.visited_is) (stays_all visits.asked page old.visited is)

-- ---- what goes on

pub on_then : (n k t : ℕ) (a b c : MtrState) → n + k ≤ t → GoesOn n a b → GoesOn k b c → GoesOn t a c
on_then n k t a b c within first next = record {
  goes = goes_then a b c first.goes next.goes;
  standing = λ told. next.standing told ∙ first.standing (next.goes.told told);
  fault = λ told. next.fault told ∙ first.fault (next.goes.told told);
  longer = omega (arith, within, first.longer, next.longer);
  stay = λ page is. next.stay page (first.stay page is);
}

pub on_more : (n t : ℕ) (a b : MtrState) → n ≤ t → GoesOn n a b → GoesOn t a b
on_more n t a b within on = record {
  goes = on.goes;
  standing = on.standing;
  fault = on.fault;
  longer = omega (arith, within, on.longer);
  stay = on.stay;
}

pub looked_map_on : (a b : MtrState) → Consults map_pages a b → GoesOn 0 a b
looked_map_on a b looked = record {
  goes = looked.goes;
  standing = λ told. (looked.same told).standing;
  fault = λ told. (looked.same told).fault;
  longer = omega (arith, map_longer a b looked.visits);
  stay = visits_stay map_pages a b looked.visits;
}

pub looked_on : (page : ℕ) (a b : MtrState) → Consults (page ∷ []) a b → GoesOn 1 a b
looked_on page a b looked = record {
  goes = looked.goes;
  standing = λ told. (looked.same told).standing;
  fault = λ told. (looked.same told).fault;
  longer = page_longer page a b looked.visits;
  stay = visits_stay (page ∷ []) a b looked.visits;
}

-- a page that was dealt with before
same_visited : (page : ℕ) (a b : MtrState) → is_in page a.visited ≡ true → Visits (page ∷ []) a b → b.visited ≡ a.visited
same_visited page a b is visits = visits.visited_is ∙ known_all page visits.asked a.visited visits.known is

pub looked_known_on : (page : ℕ) (a b : MtrState) → is_in page a.visited ≡ true → Consults (page ∷ []) a b → GoesOn 0 a b
looked_known_on page a b is looked = record {
  goes = looked.goes;
  standing = λ told. (looked.same told).standing;
  fault = λ told. (looked.same told).fault;
  longer = omega (arith, ap (claim map_pages) (same_visited page a b is looked.visits));
  stay = visits_stay (page ∷ []) a b looked.visits;
}

pub touched_known_on : (page : ℕ) (a b : MtrState) → is_in page a.visited ≡ true → Touches page a b → GoesOn 0 a b
touched_known_on page a b is touched = record {
  goes = touched.goes;
  standing = touched.standing;
  fault = touched.fault;
  longer = omega (arith, ap (claim map_pages) (same_visited page a b is touched.visits));
  stay = visits_stay (page ∷ []) a b touched.visits;
}

pub marked_on : (page mark : ℕ) (a b : MtrState) → Marks page mark a b → GoesOn 0 a b
marked_on page mark a b marks = record {
  goes = marks.goes;
  standing = λ told. (marks.pages told).seen.standing;
  fault = λ told. (marks.pages told).seen.fault;
  longer = omega (arith, map_longer a b marks.visits);
  stay = visits_stay map_pages a b marks.visits;
}

pub made_on : (page : ℕ) (a b : MtrState) → Makes page a b → GoesOn 1 a b
made_on page a b makes = record {
  goes = makes.goes;
  standing = λ told. (makes.pages told).standing;
  fault = λ told. (makes.pages told).fault;
  longer = subst (λ v. claim map_pages v ≤ 1 + claim map_pages a.visited) (sym makes.visited_is) (claim_one map_pages page a.visited);
  stay = λ other is. subst (λ v. is_in other v ≡ true) (sym makes.visited_is) (visited_stays other page a.visited is);
}

pub rewrote_on : (page : ℕ) (bytes : List ℕ) (a b : MtrState) → Rewrites page bytes a b → GoesOn 0 a b
rewrote_on page bytes a b done = record {
  goes = done.goes;
  standing = λ told. (done.pages told).standing;
  fault = λ told. (done.pages told).fault;
  longer = omega (arith, ap (claim map_pages) done.visited_is);
  stay = λ other is. subst (λ v. is_in other v ≡ true) (sym done.visited_is) is;
}

pub nothing_on : (n : ℕ) (s : MtrState) → GoesOn n s s
nothing_on n s = record {
  goes = record { told = λ told. told; stays = λ told good. told; faults = omega arith; whole = refl };
  standing = λ told. refl;
  fault = λ told. refl;
  longer = omega arith;
  stay = λ page is. is;
}

-- ---- why nothing goes on

rose_later : (a b c : ℕ) → a ≤ b → Rose b c → Rose a c
rose_later a b c first rose = omega arith

module _ {M : Type 0} (state : M → MtrState) where
  -- after pages that were looked at
  pub stop_later : (pages : List ℕ) (a b c : MtrState) (why : Visit) → Consults pages a b → Goes b c → IsStop state b c why → IsStop state a c why
  stop_later pages a b c Failed looked goes rose = rose_later a.faults b.faults c.faults looked.goes.faults rose
  stop_later pages a b c Again looked goes shut = shut
  stop_later pages a b c (Bad number rule) looked goes bad = λ told.
      let same = looked.same (goes.told told) in
      elim (bad told) [
        | inl fault ↦ inl (sym (ap (λ (f : ℕ → _). f number) same.fault) ∙ fault)
        | inr broken ↦ inr (subst (Miscounts number rule) same.seen broken)
      ]

  pub halt_later : (pages : List ℕ) (a b c : MtrState) (why : SpaceBad) → Consults pages a b → Goes b c → IsHalt state b c why → IsHalt state a c why
  halt_later pages a b c space.Full looked goes full = λ told page free.
      let same = (looked.same (goes.told told)).seen in
      full told page (record {
        within = subst (λ (f : ℕ → List ℕ). page < u32_at 44 (f 0)) (sym same) free.within;
        unmarked = subst (λ (f : ℕ → List ℕ). mark_of f page ≡ 0) (sym same) free.unmarked;
      })
  halt_later pages a b c (space.Visit why) looked goes stop = stop_later pages a b c why looked goes stop
  halt_later pages a b c space.NoMemory looked goes none = tt

  -- after calls that leave page 0
  pub stop_after : (n : ℕ) (a b c : MtrState) (why : Visit) → GoesOn n a b → (IsTrue b.told → b.seen 0 ≡ a.seen 0) → Goes b c → IsStop state b c why
      → IsStop state a c why
  stop_after n a b c Failed on header goes rose = rose_later a.faults b.faults c.faults on.goes.faults rose
  stop_after n a b c Again on header goes shut = shut
  stop_after n a b c (Bad number rule) on header goes bad = λ told.
      let before = goes.told told in
      elim (bad told) [
        | inl fault ↦ inl (sym (ap (λ (f : ℕ → _). f number) (on.fault before)) ∙ fault)
        | inr broken ↦ inr (broken.0, broken.1, λ has. broken.2 (subst (λ (l : List ℕ). (21 ≤ u32_at 44 l) × (u32_at 44 l ≤ 65536)) (sym (header before)) has))
      ]
