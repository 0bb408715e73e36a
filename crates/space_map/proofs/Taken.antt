-- A page is looked for and then marked.
use Rattle.std.proofs.Common.{◌≡◌, ℕ, ◌≤◌, List, [], ◌∷◌, length, Option, Some, None, sym, ap, ◌∙◌, subst, arith}
use Rattle.std.specs.Prelude.{IsTrue}
use Rattle.stored_pages.specs.Words.{u32_at}
use Rattle.store_api.specs.declared.visits.SpaceBad.{SpaceBad}
use Rattle.store_api.specs.declared.visits.SpaceBad.TheVariants.{Full, Visit, NoMemory}
use Rattle.mtr.specs.Seen.{MtrState, capacity_of, IsWithin, with_bytes}
use Rattle.mtr.specs.Calls.{Goes, SamePages, SeesAt, Consults}
use Rattle.mtr.proofs.Consulting.{goes_then, visits_then, consults_then, reason_later}
use Rattle.space_map.specs.Map.{map_page, byte_of, mark_of, IsFirstFree}
use Rattle.space_map.specs.Taking.{map_pages, HasPageCount, Miscounts, MarksPage, Marks, Takes, IsTakeReason, IsGiveReason}
use Rattle.space_map.proofs.Marked.{seen_through}

marks_page_later : (page mark : ℕ) (old between new : MtrState) → SamePages old between → MarksPage page mark between new → MarksPage page mark old new
marks_page_later page mark old between new same marked = record {
  size = sym (ap (λ (f : ℕ → List ℕ). length (f (map_page page))) same.seen) ∙ marked.size;
  byte = marked.byte;
  seen = seen_through (map_page page) _ old between new same (subst (λ (f : ℕ → List ℕ). SeesAt (map_page page) (with_bytes (byte_of page) (marked.byte ∷ []) (f (map_page page))) between new) same.seen marked.seen);
  here = marked.here;
  others = λ other ne. marked.others other ne ∙ ap (λ (f : ℕ → List ℕ). mark_of f other) same.seen;
}

pub marks_later : (page mark : ℕ) (old between new : MtrState) → Consults map_pages old between → Marks page mark between new → Marks page mark old new
marks_later page mark old between new looked marked = record {
  goes = goes_then old between new looked.goes marked.goes;
  pages = λ told. marks_page_later page mark old between new (looked.same (marked.goes.told told)) (marked.pages told);
  visits = visits_then map_pages old between new looked.visits marked.visits;
  spare = λ enough. omega (arith, marked.spare (omega (arith, looked.spare)), looked.spare);
}

-- page 0 counts 21 pages at least, and so those of the map
pub map_within : (count : ℕ) (old between : MtrState) → Consults map_pages old between → (IsTrue between.told → count ≡ capacity_of old) → 21 ≤ count → IsWithin 20 between
map_within count old between looked counted some = λ told.
    let same : capacity_of between ≡ capacity_of old = ap (λ (f : ℕ → List ℕ). u32_at 44 (f 0)) (looked.same told).seen in
    omega (arith, counted told, same)

-- a number that a file can have is that which page 0 counts
pub page_count_is : (count : ℕ) (s : MtrState) → count ≡ capacity_of s → (21 ≤ count) × (count ≤ 65536) → HasPageCount s.seen
page_count_is count s is bounds = (omega (arith, is, bounds.0), omega (arith, is, bounds.1))

first_as_seen : (count : ℕ) (found : Option ℕ) (old counted new : MtrState) → Consults map_pages old counted → Consults map_pages counted new → (IsTrue new.told → IsFirstFree counted.seen 0 count found) → IsTrue new.told → IsFirstFree old.seen 0 count found
first_as_seen count found old counted new first next free told = subst (λ (f : ℕ → List ℕ). IsFirstFree f 0 count found) (first.same (next.goes.told told)).seen (free told)

pub takes : (page count : ℕ) (found : Option ℕ) (old counted looked new : MtrState) → Consults map_pages old counted → Consults map_pages counted looked → (IsTrue counted.told → count ≡ capacity_of old) → (IsTrue looked.told → IsFirstFree counted.seen 0 count found)
    → found ≡ Some page → Marks page 1 looked new → Takes page old new
takes page count found old counted looked new first next value free is marked =
    let both = consults_then map_pages old counted looked first next in
    record {
      marks = marks_later page 1 old looked new both marked;
      was_free = λ told.
          let told_looked = marked.goes.told told in
          let here = subst (IsFirstFree old.seen 0 count) is (first_as_seen count found old counted looked first next free told_looked) in
          record { within = omega (arith, here.1, value (next.goes.told told_looked)); unmarked = here.2 };
      first = λ told other below.
          let here = subst (IsFirstFree old.seen 0 count) is (first_as_seen count found old counted looked first next free (marked.goes.told told)) in
          here.3 other (omega arith) below;
    }

differ : (n : ℕ) → n ≡ 0 → n ≡ 1 → ⊥
differ n zero_is one_is = omega arith

pub none_free : (count : ℕ) (found : Option ℕ) (old counted looked : MtrState) → Consults map_pages old counted → Consults map_pages counted looked → (IsTrue counted.told → count ≡ capacity_of old) → (IsTrue looked.told → IsFirstFree counted.seen 0 count found)
    → found ≡ None → IsTakeReason old looked Full
none_free count found old counted looked first next value free is = λ told page is_free.
    let here = subst (IsFirstFree old.seen 0 count) is (first_as_seen count found old counted looked first next free told) in
    differ (mark_of old.seen page) is_free.unmarked (here page (omega arith) (omega (arith, is_free.within, value (next.goes.told told))))

-- ---- reasons
