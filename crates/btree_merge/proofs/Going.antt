-- Calls that go on within a mini-transaction, one after another, and what stops them.
use Rattle.std.proofs.Common.{◌≡◌, inl, inr, ℕ, suc, ◌+◌, ◌≤◌, List, [], ◌∷◌}
use Rattle.std.proofs.Common.{◌++◌, length, Bool, true, false, refl, sym, ◌∙◌, ap, subst, arith, length-append}
use Rattle.std.specs.Prelude.{IsTrue, Result, Err, if◌then◌else◌}
use Rattle.std.proofs.lemmas.Bool.Decides.{nat_tests}
use Rattle.store_api.specs.Causes.{Rose}
use Rattle.store_api.specs.declared.visits.Visit.{Visit}
use Rattle.store_api.specs.declared.visits.Visit.TheVariants.{Failed, Again, Bad}
use Rattle.store_api.specs.declared.visits.SpaceBad.{SpaceBad}
use Rattle.store_api.specs.declared.visits.SpaceBad.TheVariants as space
use Rattle.stored_pages.specs.Words.{u32_at}
use Rattle.mtr.specs.Seen.{MtrState, is_in, visit, visit_all, claim, AreAmong, AreDistinct, Visits}
use Rattle.mtr.specs.Calls.{Goes, Looks, Explains, Makes, Asks, Consults, IsReason}
use Rattle.mtr.proofs.Claims.{visited_stays, claim_least}
use Rattle.mtr.proofs.Consulting.{goes_then, claim_left}
use Rattle.space_map.specs.Taking.{map_pages, Miscounts, Marks, IsGiveReason}
use Rattle.space_map.proofs.Places.{distinct_map_pages}
use Rattle.btree_change.specs.Calls.{Touches, Rewrites}
use Rattle.btree_merge.specs.Going.{GoesOn, Reads, IsStop, IsMergeReason}

-- ---- how many pages are dealt with

grown : (p : ℕ) (v : List ℕ) (b : Bool) → length (if b then v else v ++ p ∷ []) ≤ 1 + length v
grown p v true = omega arith
grown p v false = omega (arith, length-append v (p ∷ []))

pub length-visit : (p : ℕ) (v : List ℕ) → length (visit p v) ≤ 1 + length v
length-visit p v = grown p v (is_in p v)

stays_all : (asked : List ℕ) (q : ℕ) (v : List ℕ) → is_in q v ≡ true → is_in q (visit_all asked v) ≡ true
stays_all [] q v is = is
stays_all (p ∷ asked) q v is = stays_all asked q (visit p v) (visited_stays q p v is)

one_at : (b : Bool) (n k : ℕ) → n ≤ k → (if b then 0 else 1) + n ≤ suc k
one_at true n k le = omega (arith, le)
one_at false n k le = omega (arith, le)

pub claim_most : (pages v : List ℕ) → claim pages v ≤ length pages + length v
claim_most [] v = omega arith
claim_most (p ∷ pages) v = omega (arith, one_at (is_in p v) (claim pages v) (length pages + length v) (claim_most pages v))

visits_longer : (pages : List ℕ) (old new : MtrState) → AreDistinct pages → Visits pages old new → length new.visited ≤ length pages + length old.visited
visits_longer pages old new distinct visits =
    omega (arith, claim_least pages new.visited, claim_left pages old new distinct visits, claim_most pages old.visited)

visits_stay : (pages : List ℕ) (old new : MtrState) → Visits pages old new → (page : ℕ) → is_in page old.visited ≡ true → is_in page new.visited ≡ true
visits_stay pages old new visits page is = subst (λ v. is_in page v ≡ true) (sym visits.visited_is) (stays_all visits.asked page old.visited is)

-- ---- what goes on

pub on_then : (n k t : ℕ) (a b c : MtrState) → n + k ≤ t → GoesOn n a b → GoesOn k b c → GoesOn t a c
on_then n k t a b c within first next = record {
  goes = goes_then a b c first.goes next.goes;
  standing = λ told. next.standing told ∙ first.standing (next.goes.told told);
  fault = λ told. next.fault told ∙ first.fault (next.goes.told told);
  longer = omega (arith, within, first.longer, next.longer);
  stay = λ page is. next.stay page (first.stay page is);
}

pub on_more : (n t : ℕ) (a b : MtrState) → n ≤ t → GoesOn n a b → GoesOn t a b
on_more n t a b within on = record {
  goes = on.goes;
  standing = on.standing;
  fault = on.fault;
  longer = omega (arith, within, on.longer);
  stay = on.stay;
}

pub consulted_on : (pages : List ℕ) (a b : MtrState) → AreDistinct pages → Consults pages a b → GoesOn (length pages) a b
consulted_on pages a b distinct looked = record {
  goes = looked.goes;
  standing = λ told. (looked.same told).standing;
  fault = λ told. (looked.same told).fault;
  longer = visits_longer pages a b distinct looked.visits;
  stay = visits_stay pages a b looked.visits;
}

same_page : (q page : ℕ) → is_in q (page ∷ []) ≡ true → q ≡ page
same_page q page is = grind (arith, nat_tests)

known_all : (page : ℕ) (asked v : List ℕ) → AreAmong asked (page ∷ []) → is_in page v ≡ true → visit_all asked v ≡ v
known_all page [] v among is = refl
known_all page (q ∷ asked) v among is =
    let known : is_in q v ≡ true = subst (λ (p : ℕ). is_in p v ≡ true) (sym (same_page q page among.0)) is in
    let same : visit q v ≡ v = ap (λ (b : Bool). if b then v else v ++ q ∷ []) known in
    ap (visit_all asked) same ∙ known_all page asked v among.1 is

-- a page that was dealt with before takes no more place
pub touched_on : (page : ℕ) (a b : MtrState) → is_in page a.visited ≡ true → Touches page a b → GoesOn 0 a b
touched_on page a b is touched =
    let same : b.visited ≡ a.visited = touched.visits.visited_is ∙ known_all page touched.visits.asked a.visited touched.visits.known is in
    record {
      goes = touched.goes;
      standing = touched.standing;
      fault = touched.fault;
      longer = omega (arith, ap length same);
      stay = λ other was. subst (λ v. is_in other v ≡ true) (sym same) was;
    }

pub marked_on : (page mark : ℕ) (a b : MtrState) → Marks page mark a b → GoesOn 4 a b
marked_on page mark a b marks = record {
  goes = marks.goes;
  standing = λ told. (marks.pages told).seen.standing;
  fault = λ told. (marks.pages told).seen.fault;
  longer = visits_longer map_pages a b distinct_map_pages marks.visits;
  stay = visits_stay map_pages a b marks.visits;
}

pub made_on : (page : ℕ) (a b : MtrState) → Makes page a b → GoesOn 1 a b
made_on page a b makes = record {
  goes = makes.goes;
  standing = λ told. (makes.pages told).standing;
  fault = λ told. (makes.pages told).fault;
  longer = subst (λ v. length v ≤ 1 + length a.visited) (sym makes.visited_is) (length-visit page a.visited);
  stay = λ other is. subst (λ v. is_in other v ≡ true) (sym makes.visited_is) (visited_stays other page a.visited is);
}

pub rewrote_on : (page : ℕ) (bytes : List ℕ) (a b : MtrState) → Rewrites page bytes a b → GoesOn 0 a b
rewrote_on page bytes a b done = record {
  goes = done.goes;
  standing = λ told. (done.pages told).standing;
  fault = λ told. (done.pages told).fault;
  longer = omega (arith, ap length done.visited_is);
  stay = λ other is. subst (λ v. is_in other v ≡ true) (sym done.visited_is) is;
}

pub nothing_on : (n : ℕ) (s : MtrState) → GoesOn n s s
nothing_on n s = record {
  goes = record { told = λ told. told; stays = λ told good. told; faults = omega arith; whole = refl };
  standing = λ told. refl;
  fault = λ told. refl;
  longer = omega arith;
  stay = λ page is. is;
}

-- ---- what is only read

pub reads_one : (page : ℕ) (a b : MtrState) → Consults (page ∷ []) a b → Reads 1 a b
reads_one page a b looked = record { on = consulted_on (page ∷ []) a b (refl, tt) looked; seen = λ told. (looked.same told).seen }

pub reads_then : (n k t : ℕ) (a b c : MtrState) → n + k ≤ t → Reads n a b → Reads k b c → Reads t a c
reads_then n k t a b c within first next = record {
  on = on_then n k t a b c within first.on next.on;
  seen = λ told. next.seen told ∙ first.seen (next.on.goes.told told);
}

pub reads_more : (n t : ℕ) (a b : MtrState) → n ≤ t → Reads n a b → Reads t a b
reads_more n t a b within reads = record { on = on_more n t a b within reads.on; seen = reads.seen }

-- ---- why nothing goes on

rose_later : (a b c : ℕ) → a ≤ b → Rose b c → Rose a c
rose_later a b c first rose = omega arith

rose_sooner : (a b c : ℕ) → b ≤ c → Rose a b → Rose a c
rose_sooner a b c next rose = omega arith

module _ {M : Type 0} (state : M → MtrState) where
  -- after calls that leave page 0
  pub stop_later : (n : ℕ) (a b c : MtrState) (why : Visit) → GoesOn n a b → (IsTrue b.told → b.seen 0 ≡ a.seen 0) → Goes b c → IsStop state b c why
      → IsStop state a c why
  stop_later n a b c Failed on zero goes rose = rose_later a.faults b.faults c.faults on.goes.faults rose
  stop_later n a b c Again on zero goes shut = shut
  stop_later n a b c (Bad number rule) on zero goes bad = λ told.
      let before = goes.told told in
      elim (bad told) [
        | inl fault ↦ inl (sym (ap (λ (f : ℕ → _). f number) (on.fault before)) ∙ fault)
        | inr broken ↦ inr (
          broken.0,
          broken.1,
          λ count. broken.2 (subst (λ l. (21 ≤ u32_at 44 l) × (u32_at 44 l ≤ 65536)) (sym (zero before)) count),
        )
      ]

  pub reason_later : (n : ℕ) (a b c : MtrState) (why : SpaceBad) → GoesOn n a b → (IsTrue b.told → b.seen 0 ≡ a.seen 0) → Goes b c
      → IsMergeReason state b c why → IsMergeReason state a c why
  reason_later n a b c space.Full on zero goes none = none
  reason_later n a b c (space.Visit why) on zero goes stop = stop_later n a b c why on zero goes stop
  reason_later n a b c space.NoMemory on zero goes none = tt
