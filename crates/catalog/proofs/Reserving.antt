-- Pages taken one after another: what was taken before stays taken, and all else stays as it was.
use Rattle.std.proofs.Common.{◌≡◌, ◌≢◌, ℕ, ◌<◌, ◌≤◌, ◌==◌, ◌||◌, inl, inr, ◌⊎◌, List, [], ◌∷◌, ◌++◌, Bool, true, false, ◌+◌, length, take, drop, refl, sym, ap, ◌∙◌, subst, arith, length-append, length-drop, eq-eqb}
use Rattle.std.specs.Prelude.{slice_index, IsTrue}
use Rattle.std.proofs.lemmas.Bool.{cases_eq}
use Rattle.std.proofs.lemmas.List.{length-take-le}
use Rattle.std.proofs.lemmas.Bool.Decides.{nat_tests}
use Rattle.std.proofs.lemmas.List.Folds.{list_any-append}
use Rattle.stored_pages.specs.Words.{u32_at}
use Rattle.mtr.specs.Seen.{MtrState, is_in, capacity_of, AreDistinct, with_bytes}
use Rattle.mtr.specs.Calls.{SamePages, SeesAt, Consults}
use Rattle.mtr.proofs.Consulting.{goes_then}
use Rattle.space_map.specs.Map.{map_page, byte_of, mark_of, IsFree, free_among}
use Rattle.space_map.specs.Taking.{HasPageCount, MarksPage}
use Rattle.space_map.specs.Taking as taking
use Rattle.space_map.proofs.Marked.{index_other, byte_inside}
use Rattle.catalog.specs.Creating.{the_map, KeepsMap, ReservesPages, Reserves}
use Rattle.catalog.proofs.Freeing.{free_same, free_one_less, mark_kept}

-- ---- pages of two lists

pub in_both : (p : ℕ) (a b : List ℕ) → is_in p (a ++ b) ≡ (is_in p a || is_in p b)
in_both p a b = list_any-append (λ (x : ℕ). x == p) a b

or_cases : (a b : Bool) → (a || b) ≡ true → (a ≡ true) ⊎ (b ≡ true)
or_cases true b h = inl refl
or_cases false b h = inr h

or_neither : (a b : Bool) → (a || b) ≡ false → (a ≡ false) × (b ≡ false)
or_neither true b h = absurd (cc)
or_neither false b h = (refl, h)

pub in_either : (p : ℕ) (a b : List ℕ) → is_in p (a ++ b) ≡ true → (is_in p a ≡ true) ⊎ (is_in p b ≡ true)
in_either p a b h = or_cases (is_in p a) (is_in p b) (sym (in_both p a b) ∙ h)

pub in_neither : (p : ℕ) (a b : List ℕ) → is_in p (a ++ b) ≡ false → (is_in p a ≡ false) × (is_in p b ≡ false)
in_neither p a b h = or_neither (is_in p a) (is_in p b) (sym (in_both p a b) ∙ h)

-- what isn't true is false
pub is_out : (b : Bool) → (b ≡ true → ⊥) → b ≡ false
is_out true h = absurd (h refl)
is_out false h = refl

pub same_if_in : (p page : ℕ) → is_in p (page ∷ []) ≡ true → page ≡ p
same_if_in p page h = grind (arith, nat_tests)

apart_if_out : (p page : ℕ) → is_in p (page ∷ []) ≡ false → p ≢ page
apart_if_out p page h = grind (arith, nat_tests)

pub in_head : (p : ℕ) (rest : List ℕ) → is_in p (p ∷ rest) ≡ true
in_head p rest = ap (λ (b : Bool). b || is_in p rest) (eq-eqb p p refl)

pub in_tail : (p q : ℕ) (rest : List ℕ) → is_in p rest ≡ true → is_in p (q ∷ rest) ≡ true
in_tail p q rest h = elim (q == p) as (λ b. (b || is_in p rest) ≡ true) [ true ↦ refl | false ↦ h ]

distinct_then : (a b : List ℕ) → AreDistinct a → AreDistinct b → ((p : ℕ) → is_in p a ≡ true → is_in p b ≡ false) → AreDistinct (a ++ b)
distinct_then [] b first next apart = next
distinct_then (p ∷ a) b first next apart = (
  in_both p a b ∙ ap (λ (x : Bool). x || is_in p b) first.0 ∙ apart p (in_head p a),
  distinct_then a b first.1 next (λ q h. apart q (in_tail q p a h)),
)

-- ---- the bytes of the map

pub out_of_map : (p : ℕ) → 5 ≤ p → is_in p the_map ≡ false
out_of_map p behind = grind (arith, nat_tests)

pub true_false : (b : Bool) → b ≡ true → b ≡ false → ⊥
true_false b yes' no' = cc

same_length : (at byte : ℕ) (l : List ℕ) → at < length l → length (with_bytes at (byte ∷ []) l) ≡ length l
same_length at byte l inside =
    let rest = byte ∷ drop (at + 1) l in
    omega (arith, length-append (take at l) rest, length-take-le at l (omega arith), length-drop (at + 1) l)

keeps_same : (old new : ℕ → List ℕ) → new ≡ old → KeepsMap [] old new
keeps_same old new same = record {
  sizes = λ page inside. ap (λ (f : ℕ → List ℕ). length (f page)) same;
  bytes = λ page at inside apart. ap (λ (f : ℕ → List ℕ). slice_index (f page) at) same;
}

in_first : (p : ℕ) (a b : List ℕ) → is_in p a ≡ true → is_in p (a ++ b) ≡ true
in_first p a b h = in_both p a b ∙ ap (λ (x : Bool). x || is_in p b) h

or_last : (a b : Bool) → b ≡ true → (a || b) ≡ true
or_last true b h = refl
or_last false b h = h

in_last : (p : ℕ) (a b : List ℕ) → is_in p b ≡ true → is_in p (a ++ b) ≡ true
in_last p a b h = in_both p a b ∙ or_last (is_in p a) (is_in p b) h

keeps_then : (a b : List ℕ) (old mid new : ℕ → List ℕ) → KeepsMap a old mid → KeepsMap b mid new → KeepsMap (a ++ b) old new
keeps_then a b old mid new first next = record {
  sizes = λ page inside. next.sizes page inside ∙ first.sizes page inside;
  bytes = λ page at inside apart.
      next.bytes page at inside (λ root h. apart root (in_last root a b h)) ∙ first.bytes page at inside (λ root h. apart root (in_first root a b h));
}

-- a page behind the map is written
keeps_behind : (roots : List ℕ) (page : ℕ) (bytes : List ℕ) (old mid new : MtrState) → 5 ≤ page → KeepsMap roots old.seen mid.seen → SeesAt page bytes mid new → KeepsMap roots old.seen new.seen
keeps_behind roots page bytes old mid new behind kept sees =
    let same : (p : ℕ) → is_in p the_map ≡ true → new.seen p ≡ mid.seen p = λ p inside. sees.elsewhere p (λ is. true_false (is_in p the_map) inside (out_of_map p (omega (arith, is)))) in
    record {
      sizes = λ p inside. ap (λ (l : List ℕ). length l) (same p inside) ∙ kept.sizes p inside;
      bytes = λ p at inside apart. ap (λ (l : List ℕ). slice_index l at) (same p inside) ∙ kept.bytes p at inside apart;
    }

-- the bit of one page is set
keeps_marked : (page mark : ℕ) (old new : MtrState) → MarksPage page mark old new → KeepsMap (page ∷ []) old.seen new.seen
keeps_marked page mark old new marked =
    let map = map_page page in
    let at = byte_of page in
    let inside : at < length (old.seen map) = omega (arith, marked.size, byte_inside page) in
    record {
      sizes = λ p known. elim (cases_eq p map) [
        | inl same ↦ subst (λ (n : ℕ). length (new.seen n) ≡ length (old.seen n)) (sym same) (ap (λ (l : List ℕ). length l) marked.seen.here ∙ same_length at marked.byte (old.seen map) inside)
        | inr apart ↦ ap (λ (l : List ℕ). length l) (marked.seen.elsewhere p apart)
      ];
      bytes = λ p i known apart. elim (cases_eq p map) [
        | inl same ↦
            let other : i ≢ at = λ here. apart page (in_head page []) (sym same) (sym here) in
            subst (λ (n : ℕ). slice_index (new.seen n) i ≡ slice_index (old.seen n) i) (sym same) (ap (λ (l : List ℕ). slice_index l i) marked.seen.here ∙ index_other at marked.byte i (old.seen map) inside other)
        | inr elsewhere ↦ ap (λ (l : List ℕ). slice_index l i) (marked.seen.elsewhere p elsewhere)
      ];
    }

-- ---- nothing is taken

pub reserves_same : (old new : MtrState) → SamePages old new → ReservesPages [] [] old new
reserves_same old new same = record {
  standing = same.standing;
  fault = same.fault;
  counted = ap (λ (f : ℕ → List ℕ). u32_at 44 (f 0)) same.seen;
  distinct = tt;
  inside = λ page h. absurd (cc);
  were_free = λ page h. absurd (cc);
  used = λ page h. absurd (cc);
  marks = λ page inside out. ap (λ (f : ℕ → List ℕ). mark_of f page) same.seen;
  free = omega (arith, ap (λ (f : ℕ → List ℕ). free_among f 0 (capacity_of old)) same.seen);
  map = keeps_same old.seen new.seen same.seen;
  elsewhere = λ page out written map. ap (λ (f : ℕ → List ℕ). f page) same.seen;
}

pub reserves_none : (pages : List ℕ) (old new : MtrState) → Consults pages old new → Reserves [] [] old new
reserves_none pages old new looked = record { goes = looked.goes; pages = λ told. reserves_same old new (looked.same told) }

-- ---- one after another

module _ (a b wa wb : List ℕ) (old mid new : MtrState) (first : ReservesPages a wa old mid) (next : ReservesPages b wb mid new) where
  taken_apart : (p : ℕ) → is_in p a ≡ true → is_in p b ≡ false
  taken_apart p h = is_out (is_in p b) (λ k. omega (arith, first.used p h, (next.were_free p k).unmarked))

  free_apart : (p : ℕ) → is_in p b ≡ true → is_in p a ≡ false
  free_apart p h = is_out (is_in p a) (λ k. omega (arith, first.used p k, (next.were_free p h).unmarked))

  pub reserves_pages_then : ReservesPages (a ++ b) (wa ++ wb) old new
  reserves_pages_then = record {
    standing = next.standing ∙ first.standing;
    fault = next.fault ∙ first.fault;
    counted = next.counted ∙ first.counted;
    distinct = distinct_then a b first.distinct next.distinct taken_apart;
    inside = λ p h. elim (in_either p a b h) [ inl in_a ↦ first.inside p in_a | inr in_b ↦ next.inside p in_b ];
    were_free = λ p h. elim (in_either p a b h) [
      | inl in_a ↦ first.were_free p in_a
      | inr in_b ↦
          let free = next.were_free p in_b in
          record { within = omega (arith, free.within, first.counted); unmarked = sym (first.marks p (next.inside p in_b) (free_apart p in_b)) ∙ free.unmarked }
    ];
    used = λ p h. elim (in_either p a b h) [
      | inl in_a ↦ next.marks p (first.inside p in_a) (taken_apart p in_a) ∙ first.used p in_a
      | inr in_b ↦ next.used p in_b
    ];
    marks = λ p inside h. let out = in_neither p a b h in next.marks p inside out.1 ∙ first.marks p inside out.0;
    free =
        let last = ap (free_among new.seen 0) first.counted in
        let between = ap (free_among mid.seen 0) first.counted in
        omega (arith, first.free, next.free, last, between, length-append a b);
    map = keeps_then a b old.seen mid.seen new.seen first.map next.map;
    elsewhere = λ p h w m.
        let out = in_neither p a b h in
        let unwritten = in_neither p wa wb w in
        next.elsewhere p out.1 unwritten.1 m ∙ first.elsewhere p out.0 unwritten.0 m;
  }

pub reserves_then : (a b wa wb : List ℕ) (old mid new : MtrState) → Reserves a wa old mid → Reserves b wb mid new → Reserves (a ++ b) (wa ++ wb) old new
reserves_then a b wa wb old mid new first next = record {
  goes = goes_then old mid new first.goes next.goes;
  pages = λ told. reserves_pages_then a b wa wb old mid new (first.pages (next.goes.told told)) (next.pages told);
}

-- ---- one page

first_out : (p q : ℕ) (rest : List ℕ) → is_in p (q ∷ rest) ≡ false → is_in p (q ∷ []) ≡ false
first_out p q rest h = let parts = or_neither (q == p) (is_in p rest) h in ap (λ (b : Bool). b || false) parts.0

rest_out : (p q : ℕ) (rest : List ℕ) → is_in p (q ∷ rest) ≡ false → is_in p rest ≡ false
rest_out p q rest h = (or_neither (q == p) (is_in p rest) h).1

not_map : (p page : ℕ) → page < 65536 → is_in p the_map ≡ false → p ≢ map_page page
not_map p page inside out =
    let two = apart_if_out p 2 (first_out p 2 (3 ∷ 4 ∷ []) out) in
    let three = apart_if_out p 3 (first_out p 3 (4 ∷ []) (rest_out p 2 (3 ∷ 4 ∷ []) out)) in
    let four = apart_if_out p 4 (rest_out p 3 (4 ∷ []) (rest_out p 2 (3 ∷ 4 ∷ []) out)) in
    λ same. omega (arith, two, three, four, same)

pub reserves_taken : (page : ℕ) (old new : MtrState) → taking.Takes page old new → (IsTrue new.told → HasPageCount old.seen) → Reserves (page ∷ []) [] old new
reserves_taken page old new takes counts = record {
  goes = takes.marks.goes;
  pages = λ told.
      let marked = takes.marks.pages told in
      let free = takes.was_free told in
      let inside : page < 65536 = omega (arith, free.within, (counts told).1) in
      record {
        standing = marked.seen.standing;
        fault = marked.seen.fault;
        counted = ap (u32_at 44) (marked.seen.elsewhere 0 (λ same. omega (arith, same)));
        distinct = (refl, tt);
        inside = λ p h. omega (arith, same_if_in p page h, inside);
        were_free = λ p h. subst (IsFree old) (same_if_in p page h) free;
        used = λ p h. ap (mark_of new.seen) (sym (same_if_in p page h)) ∙ marked.here;
        marks = λ p under out. marked.others p (apart_if_out p page out);
        free = free_one_less old.seen new.seen page (capacity_of old) free.within free.unmarked marked.here marked.others;
        map = keeps_marked page 1 old new marked;
        elsewhere = λ p out written map. marked.seen.elsewhere p (not_map p page inside map);
      };
}

-- bytes are put on a page that was taken
pub reserves_put : (roots : List ℕ) (page : ℕ) (bytes : List ℕ) (old mid new : MtrState) → capacity_of old ≤ 65536 → 21 ≤ page → is_in page roots ≡ true → ReservesPages roots [] old mid → SeesAt page bytes mid new → ReservesPages roots [] old new
reserves_put roots page bytes old mid new few above known first sees = record {
  standing = sees.standing ∙ first.standing;
  fault = sees.fault ∙ first.fault;
  counted = ap (u32_at 44) (sees.elsewhere 0 (λ same. omega (arith, same))) ∙ first.counted;
  distinct = first.distinct;
  inside = first.inside;
  were_free = first.were_free;
  used = λ p h. mark_kept mid new page bytes (omega arith) sees p (first.inside p h) ∙ first.used p h;
  marks = λ p inside h. mark_kept mid new page bytes (omega arith) sees p inside ∙ first.marks p inside h;
  free =
      let same = free_same mid.seen new.seen (capacity_of old) (λ p below. mark_kept mid new page bytes (omega arith) sees p (omega arith)) in
      omega (arith, same, first.free);
  map = keeps_behind roots page bytes old mid new (omega arith) first.map sees;
  elsewhere = λ p h w m. sees.elsewhere p (λ same. true_false (is_in p roots) (ap (λ (n : ℕ). is_in n roots) same ∙ known) h) ∙ first.elsewhere p h w m;
}

-- bytes are put on another page
pub reserves_written : (page : ℕ) (bytes : List ℕ) (old new : MtrState) → capacity_of old ≤ 65536 → 5 ≤ page → SeesAt page bytes old new → ReservesPages [] (page ∷ []) old new
reserves_written page bytes old new few behind sees = record {
  standing = sees.standing;
  fault = sees.fault;
  counted = ap (u32_at 44) (sees.elsewhere 0 (λ same. omega (arith, same)));
  distinct = tt;
  inside = λ p h. absurd (cc);
  were_free = λ p h. absurd (cc);
  used = λ p h. absurd (cc);
  marks = λ p inside h. mark_kept old new page bytes behind sees p inside;
  free =
      let same = free_same old.seen new.seen (capacity_of old) (λ p below. mark_kept old new page bytes behind sees p (omega arith)) in
      omega (arith, same);
  map = keeps_behind [] page bytes old old new behind (keeps_same old.seen old.seen refl) sees;
  elsewhere = λ p h w m. sees.elsewhere p (apart_if_out p page w);
}

pub out_if_apart : (p page : ℕ) → p ≢ page → is_in p (page ∷ []) ≡ false
out_if_apart p page apart = grind (arith, nat_tests)
