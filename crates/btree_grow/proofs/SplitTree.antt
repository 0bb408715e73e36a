-- A placed tree of which a page was split on a page that was taken.
use Rattle.std.proofs.Common.{◌≡◌, ◌≢◌, inl, inr, ℕ, suc, ◌+◌, ◌-◌, ◌*◌, ◌/◌, ◌%◌, ◌<◌, ◌≤◌, ◌||◌, Bool, true}
use Rattle.std.proofs.Common.{false, List, [], ◌∷◌, ◌++◌, length, drop, get_or, refl, sym, ◌∙◌, ap, subst, append_assoc, eq-eqb, arith}
use Rattle.std.specs.Prelude.{if◌then◌else◌, slice_index}
use Rattle.std.specs.Int.{bit_at}
use Rattle.std.specs.Ordering.{is_le}
use Rattle.std.specs.List.{AllByRecursion}
use Rattle.std.proofs.lemmas.Bool.{cases_eq}
use Rattle.std.proofs.lemmas.Bool.Decides.{nat_tests}
use Rattle.std.proofs.lemmas.List.{length-take-le, length-drop}
use Rattle.entries.specs.Pairs.{Pair, key_cmp}
use Rattle.page_format.specs.Words.{level_of, count_of, record_len_of, records_of}
use Rattle.stored_pages.specs.Words.{u32_at}
use Rattle.page_format.specs.Shape.{HasTreeFields}
use Rattle.page_format.proofs.Edited.{ordered}
use Rattle.page_format.proofs.Pieces.{length-pieces}
use Rattle.mtr.specs.Seen.{is_in, IsShown}
use Rattle.law_flat_tree.specs.Leaves.{AreOthers}
use Rattle.law_flat_tree.specs.Descents.{Holds}
use Rattle.law_flat_tree.specs.Pages.{child_of}
use Rattle.law_flat_tree.specs.PageSplits.{StandsNowhere}
use Rattle.law_flat_tree.specs.Trees.{AreNumbered, nodes}
use Rattle.law_flat_tree.proofs.Apart.{behind_of, with_both, numbers_from, numbers_below}
use Rattle.law_tree_changes.specs.Splits.{IsSoundSplit}
use Rattle.law_tree_changes.proofs.Splitting.{with_page}
use Rattle.space_map.specs.Map.{byte_of, mark_of, free_among}
use Rattle.btree.specs.declared.tree.Tree.{Tree}
use Rattle.btree.specs.Sound.{levels_of, IsTreePage, tree_pairs}
use Rattle.btree.proofs.Shown.{same_count}
use Rattle.btree_change.specs.Edits.{HasRoom}
use Rattle.btree_split.specs.Halves.{child_under, IsTakenFor, SplitsChild}
use Rattle.btree_split.specs.Placed.{IsPlacedPage, IsPlacedTree, IsParent}
use Rattle.btree_split.specs.Ways.{AreFull}
use Rattle.btree_split.proofs.Placing as placing
use Rattle.btree_grow.specs.declared.splits.Cut.{Cut}
use Rattle.btree_grow.specs.Cuts.{IsCut, IsReady}
use Rattle.btree_grow.specs.Taken.{TakesPage}
use Rattle.btree_grow.specs.Grown.{Grows, StandsAbove, HasGrown, free_in}
use Rattle.btree_grow.proofs.Below.{GoesOnWith, with_next, way_each, way_stays, full_stays}
use Rattle.btree_grow.proofs.Free.{one_taken}
use Rattle.btree_grow.proofs.PutHalves.{ne_false}
use Rattle.btree_grow.proofs.TakenTree.{of_level, holds_stays, page_apart, page_stays, taken_levels, taken_pairs, taken_placed, taken_for}

-- ---- one page alone

pub not_one : (page q : ℕ) → is_in page (q ∷ []) ≡ false → q ≢ page
not_one page q out = grind (arith, nat_tests)

pub is_one : (q : ℕ) → is_in q (q ∷ []) ≡ true
is_one q = ap (λ (b : Bool). b || false) (eq-eqb q q refl)

pub other_than : (page q : ℕ) → page ≢ q → is_in page (q ∷ []) ≡ false
other_than page q apart = ap (λ (b : Bool). b || false) (ne_false q page (λ e. apart (sym e)))

-- either of two pages that were dealt with
pub one_of_two : (b : Bool) (q p : ℕ) (visited : List ℕ) → is_in q visited ≡ true → is_in p visited ≡ true → is_in (if b then q else p) visited ≡ true
one_of_two true q p visited one other = one
one_of_two false q p visited one other = other

-- one page less on one level
one_less : (P : ℕ → Type 0) (xs ys : List ℕ) (p q : ℕ) → AllByRecursion P (xs ++ p ∷ q ∷ ys) → AllByRecursion P (xs ++ p ∷ ys)
one_less P [] ys p q all = (all.0, all.1.1)
one_less P (x ∷ xs) ys p q all = (all.0, one_less P xs ys p q all.1)

without_page : (P : ℕ → Type 0) (tops : List (List ℕ)) (upper xs ys : List ℕ) (under : List (List ℕ)) (p q : ℕ)
    → AllByRecursion (AllByRecursion P) (tops ++ upper ∷ (xs ++ p ∷ q ∷ ys) ∷ under)
    → AllByRecursion (AllByRecursion P) (tops ++ upper ∷ (xs ++ p ∷ ys) ∷ under)
without_page P [] upper xs ys under p q all = (all.0, (one_less P xs ys p q all.1.0, all.1.1))
without_page P (top ∷ tops) upper xs ys under p q all = (all.0, without_page P tops upper xs ys under p q all.1)

-- ---- one page fewer is free

pub one_fewer : (tree : Tree) (a b c : ℕ → List ℕ) (q : ℕ) (pairs : List Pair) → TakesPage q a b → Grows tree pairs (q ∷ []) a c → c 0 ≡ a 0
    → free_in a ≡ 1 + free_in c
one_fewer tree a b c q pairs takes grows header =
    let mark = λ (page : ℕ) (below : page < u32_at 44 (a 0)). grows.marks page (omega (arith, below, takes.covered)) in
    one_taken a c q (u32_at 44 (a 0)) takes.counted takes.was_free
    (mark q takes.counted ∙ ap (λ (b : Bool). if b then 1 else mark_of a q) (is_one q))
    (λ page below apart. mark page below ∙ ap (λ (b : Bool). if b then 1 else mark_of a page) (other_than page q apart))
    ∙ ap (λ (l : List ℕ). 1 + free_among c 0 (u32_at 44 l)) (sym header)

-- ---- room in a half

room_for : (count w k : ℕ) → 208 + count * w ≤ 4096 → k < count → 208 + (k + 1) * w ≤ 4096
room_for count w k inside fewer = let order = ordered (k + 1) count w (omega (arith, fewer)) in omega (arith, order, inside)

room_of : (old new : List ℕ) (k : ℕ) → 208 + count_of old * record_len_of old ≤ 4096 → record_len_of new ≡ record_len_of old → length (records_of new) ≡ k
    → k < count_of old → HasRoom new
room_of old new k inside width number fewer =
    let count : count_of new ≡ k = sym (length-pieces (record_len_of new) (count_of new) (drop 208 new)) ∙ number in
    subst (λ w. 208 + (count_of new + 1) * w ≤ 4096) (sym width)
    (subst (λ c. 208 + (c + 1) * record_len_of old ≤ 4096) (sym count) (room_for (count_of old) (record_len_of old) k inside fewer))

module _ (tree : Tree) (key : List ℕ) (n : ℕ) (cut : Cut) (above bytes : List ℕ) (a b : ℕ → List ℕ) (q : ℕ)
    (ready : IsReady tree key n cut above bytes a) (takes : TakesPage q a b) (place : cut.place < count_of above) where
  abbrev w : ℕ
  w = tree.key_len

  abbrev u : ℕ
  u = cut.parent

  before : IsPlacedTree tree a
  before = ready.stands.placed

  way : GoesOnWith tree a key (length ready.stands.tops) u cut.child ready.rest
  way = with_next tree key (suc n) u a ready.stands cut.child ready.rest ready.next

  abbrev parent_a : IsParent tree a key u
  parent_a = record { tops = way.tops; upper = way.upper; lower = way.lower; under = way.under; at = way.at; holds = way.holds }

  -- what holds of all pages of the tree
  each_below : (P : ℕ → Type 0) → AllByRecursion (AllByRecursion P) (levels_of tree a) → AllByRecursion (AllByRecursion P) (way.upper ∷ way.lower ∷ way.under)
  each_below P all =
      behind_of (AllByRecursion P) way.tops (way.upper ∷ way.lower ∷ way.under) (subst (λ l. AllByRecursion (AllByRecursion P) l) way.at all)

  of_child : (P : ℕ → Type 0) → AllByRecursion (AllByRecursion P) (levels_of tree a) → P cut.child
  of_child P all = of_level P (nodes w a) way.lower key cut.child way.child_holds (each_below P all).1.0

  pub parent_used : IsPlacedPage w a u
  parent_used = placing.parent_placed tree a key u before parent_a

  pub child_used : IsPlacedPage w a cut.child
  child_used = of_child (IsPlacedPage w a) before.placed

  pub parent_same : b u ≡ a u
  parent_same = page_stays tree a b q before takes u parent_used

  pub child_same : b cut.child ≡ a cut.child
  child_same = page_stays tree a b q before takes cut.child child_used

  placed : IsPlacedTree tree b
  placed = taken_placed tree a b q before takes

  taken : IsTakenFor tree b q
  taken = taken_for tree a b q before takes

  levels : levels_of tree b ≡ levels_of tree a
  levels = taken_levels tree a b q before takes

  abbrev parent : IsParent tree b key u
  parent = record {
    tops = way.tops;
    upper = way.upper;
    lower = way.lower;
    under = way.under;
    at = levels ∙ way.at;
    holds = holds_stays w a b way.upper key u parent_same way.holds;
  }

  abbrev p : ℕ
  p = child_under w b u cut.place

  child_is : cut.child ≡ p
  child_is = ready.child_is ∙ ap (λ (l : List ℕ). child_of w (get_or (records_of l) cut.place [])) (sym parent_same)

  inside : cut.place < length (records_of (b u))
  inside =
      subst (λ l. cut.place < length (records_of l)) (sym parent_same)
      (omega (arith, place, length-pieces (record_len_of (a u)) (count_of (a u)) (drop 208 (a u)), same_count above (a u) ready.parent_shown.same))

  pub child_page : IsTreePage tree b p
  child_page = placing.child_page tree b key u placed parent cut.place inside

  pub parent_page : IsTreePage tree b u
  parent_page = placing.parent_page tree b key u placed parent

  parent_level : level_of (b u) ≡ suc (length way.under)
  parent_level = placing.parent_level tree b key u placed parent

  child_level : level_of (b p) ≡ length way.under
  child_level = placing.child_level tree b key u placed parent cut.place inside

  pub child_apart : cut.child ≢ u
  child_apart same =
      let one = parent_level in
      let other = child_level in
      let is : p ≡ u = sym child_is ∙ same in
      omega (arith, one, other, ap (λ r. get_or (b r) 21 0) is)

  child_holds : Holds (nodes w b) way.lower key cut.child
  child_holds = holds_stays w a b way.lower key cut.child child_same way.child_holds

  counted_b : AllByRecursion (AllByRecursion (λ r. r < u32_at 44 (b 0))) (levels_of tree a)
  counted_b = subst (λ l. AllByRecursion (AllByRecursion (λ r. r < u32_at 44 (b 0))) l) levels placed.whole.counted

  parent_counted : u < u32_at 44 (b 0)
  parent_counted = of_level (λ r. r < u32_at 44 (b 0)) (nodes w a) way.upper key u way.holds (each_below (λ r. r < u32_at 44 (b 0)) counted_b).0

  pub cut_ready : IsCut cut q above bytes b
  cut_ready = record {
    parent_shown = subst (λ l. IsShown l above) (sym parent_same) ready.parent_shown;
    child_shown = subst (λ l. IsShown l bytes) (sym child_same) ready.child_shown;
    blank = takes.blank;
    parent_fields = parent_page.fields;
    child_fields = subst (λ r. HasTreeFields (b r)) (sym child_is) child_page.fields;
    child_apart = child_apart;
    number_apart = λ same. page_apart tree a b q before takes u parent_used (sym same);
    halves_apart = λ same. page_apart tree a b q before takes cut.child child_used (sym same);
    some_parent = parent_page.some;
    some_child = λ none. omega (arith, none, child_used.beyond);
    some_number = λ none. omega (arith, none, takes.beyond);
    parent_counted = parent_counted;
    child_counted = of_child (λ r. r < u32_at 44 (b 0)) counted_b;
    number_counted = taken.counted;
  }

  module _ (c : ℕ → List ℕ) (fence : List ℕ) (i : ℕ) (splits : SplitsChild tree fence i cut.place u cut.child q b c) where
    splits' : SplitsChild tree fence i cut.place u p q b c
    splits' = subst (λ r. SplitsChild tree fence i cut.place u r q b c) child_is splits

    done : IsSoundSplit tree b c way.tops way.upper way.lower way.under p q
    done = placing.stands_split tree b key u placed parent cut.place inside c fence i q splits' taken

    same_mark : (r : ℕ) → r < 65536 → mark_of c r ≡ mark_of b r
    same_mark r few =
        let map : 2 + r / 32512 ≤ 4 = omega (arith, few) in
        ap (λ (l : List ℕ). bit_at (slice_index l (byte_of r)) (r % 8))
        (splits.others (2 + r / 32512) (λ is. omega (arith, is, map, parent_used.beyond)) (λ is. omega (arith, is, map, child_used.beyond))
        (λ is. omega (arith, is, map, takes.beyond)))

    levels_before : levels_of tree a ≡ way.tops ++ way.upper ∷ (done.xs ++ p ∷ done.ys) ∷ way.under
    levels_before = way.at ∙ ap (λ l. way.tops ++ way.upper ∷ l ∷ way.under) done.stood

    stands : StandsNowhere q (levels_of tree c) → ⊥
    stands nowhere =
        let rest : AllByRecursion (AreOthers q) (way.upper ∷ (done.xs ++ p ∷ q ∷ done.ys) ∷ way.under) =
        behind_of (AreOthers q) way.tops (way.upper ∷ (done.xs ++ p ∷ q ∷ done.ys) ∷ way.under)
        (subst (λ l. AllByRecursion (AreOthers q) l) done.levels nowhere) in
        (behind_of (λ r. r ≢ q) done.xs (p ∷ q ∷ done.ys) rest.1.0).1.0 refl

    not_parent : (page : ℕ) → StandsNowhere page (levels_of tree a) → page ≢ u
    not_parent page nowhere same =
        of_level (λ r. r ≢ page) (nodes w a) way.upper key u way.holds (each_below (λ r. r ≢ page) nowhere).0 (sym same)

    not_child : (page : ℕ) → StandsNowhere page (levels_of tree a) → page ≢ cut.child
    not_child page nowhere same = of_child (λ r. r ≢ page) nowhere (sym same)

    pub grows : Grows tree (tree_pairs tree a) (q ∷ []) a c
    grows = record {
      placed = placing.placed_split tree b key u placed parent cut.place inside c fence i q splits' taken;
      pairs_are = done.pairs ∙ taken_pairs tree a b q before takes;
      were_free = (takes.was_free, tt);
      stand = (stands, tt);
      rest = λ page nowhere out.
          subst (λ l. StandsNowhere page l) (sym done.levels)
          (with_page (λ r. r ≢ page) way.tops way.upper done.xs done.ys way.under p q (not_one page q out)
          (subst (λ l. StandsNowhere page l) levels_before nowhere));
      keep = λ page nowhere.
          subst (λ l. StandsNowhere page l) (sym levels_before)
          (without_page (λ r. r ≢ page) way.tops way.upper done.xs done.ys way.under p q (subst (λ l. StandsNowhere page l) done.levels nowhere));
      marks = λ page few. elim (cases_eq page q) [
        | inl same ↦
            subst (λ r. mark_of c r ≡ (if is_in r (q ∷ []) then 1 else mark_of a r)) (sym same)
            (same_mark q takes.small ∙ takes.used ∙ sym (ap (λ (b : Bool). if b then 1 else mark_of a q) (is_one q)))
        | inr apart ↦
            same_mark page few ∙ takes.marks page few apart ∙ sym (ap (λ (b : Bool). if b then 1 else mark_of a page) (other_than page q apart))
      ];
      others = λ page nowhere out far.
          let apart : page ≢ q = λ same. not_one page q out (sym same) in
          splits.others page (not_parent page nowhere) (not_child page nowhere) apart ∙ takes.others page apart far;
    }

    pub lower_room : HasRoom (c cut.child)
    lower_room =
        room_of (b cut.child) (c cut.child) i (subst (λ r. 208 + count_of (b r) * record_len_of (b r) ≤ 4096) (sym child_is) child_page.fields.inside)
        splits.lower.width
        (ap length splits.lower.part.records ∙ length-take-le i (records_of (b cut.child)) (omega (arith, splits.within)))
        (omega (arith, splits.within, length-pieces (record_len_of (b cut.child)) (count_of (b cut.child)) (drop 208 (b cut.child))))

    pub upper_room : HasRoom (c q)
    upper_room =
        room_of (b cut.child) (c q) (count_of (b cut.child) - i)
        (subst (λ r. 208 + count_of (b r) * record_len_of (b r) ≤ 4096) (sym child_is) child_page.fields.inside)
        splits.upper.width
        (ap length splits.upper.part.records ∙ length-drop i (records_of (b cut.child))
        ∙ ap (λ k. k - i) (length-pieces (record_len_of (b cut.child)) (count_of (b cut.child)) (drop 208 (b cut.child))))
        (omega (arith, splits.some, splits.within, length-pieces (record_len_of (b cut.child)) (count_of (b cut.child)) (drop 208 (b cut.child))))

    -- ---- the way below stays

    -- a page below the two
    stays : (r : ℕ) → level_of (b r) < length way.under → IsPlacedPage w a r → c r ≡ a r
    stays r low used =
        let one = parent_level in
        let other = child_level in
        splits.others r (λ same. omega (arith, low, one, ap (λ (f : ℕ). get_or (b f) 21 0) same))
        (λ same. omega (arith, low, other, ap (λ (f : ℕ). get_or (b f) 21 0) (same ∙ child_is)))
        (page_apart tree a b q before takes r used)
        ∙ page_stays tree a b q before takes r used

    low_b : AllByRecursion (AllByRecursion (λ r. level_of (b r) < length way.under)) way.under
    low_b =
        let rest : AreNumbered b (way.upper ∷ way.lower ∷ way.under) =
        numbers_from b way.tops (way.upper ∷ way.lower ∷ way.under) (subst (λ l. AreNumbered b l) (levels ∙ way.at) placed.whole.sound.stands.numbered) in
        numbers_below b (length way.under) way.under (omega arith) rest.1.1

    same_below : AllByRecursion (λ r. c r ≡ a r) ready.rest
    same_below =
        with_both (λ r. level_of (b r) < length way.under) (IsPlacedPage w a) (λ r. c r ≡ a r) stays ready.rest
        (way_each (λ r. level_of (b r) < length way.under) (nodes w a) key way.under ready.rest way.leads low_b)
        (way_each (IsPlacedPage w a) (nodes w a) key way.under ready.rest way.leads (each_below (IsPlacedPage w a) before.placed).1.1)

    full_rest : AreFull a ready.rest
    full_rest = (subst (λ l. AreFull a l) ready.next ready.stands.full).1

    many_rest : length ready.rest ≡ n
    many_rest = let long : length (cut.child ∷ ready.rest) ≡ suc n = sym (ap length ready.next) ∙ ready.stands.many in omega (arith, long)

    -- ---- the half on the key's side

    room_for_half : (le : Bool) → HasRoom (c (if le then q else cut.child))
    room_for_half true = upper_room
    room_for_half false = lower_room

    pub half_above : (half : ℕ) → half ≡ (if is_le (key_cmp fence key) then q else cut.child) → StandsAbove tree key n half c
    half_above half is = record {
      placed = grows.placed;
      tops = way.tops ++ way.upper ∷ [];
      upper = done.xs ++ p ∷ q ∷ done.ys;
      under = way.under;
      at = done.levels ∙ sym (append_assoc way.tops (way.upper ∷ []) ((done.xs ++ p ∷ q ∷ done.ys) ∷ way.under));
      holds = subst (λ r. Holds (nodes w c) (done.xs ++ p ∷ q ∷ done.ys) key r) (sym is)
          (placing.half_holds tree b c key fence i cut.place u cut.child q way.lower (done.xs ++ p ∷ q ∷ done.ys) splits child_holds done.xs done.ys
          (ap (λ r. done.xs ++ r ∷ q ∷ done.ys) (sym child_is)));
      room = subst (λ r. HasRoom (c r)) (sym is) (room_for_half (is_le (key_cmp fence key)));
      way = ready.rest;
      leads = way_stays w a c key way.under ready.rest same_below way.leads;
      full = full_stays a c ready.rest same_below full_rest;
      many = many_rest;
    }

    header : c 0 ≡ a 0
    header =
        splits.others 0 (λ is. parent_page.some (sym is)) (λ is. omega (arith, is, child_used.beyond)) (λ is. omega (arith, is, takes.beyond))
        ∙ takes.others 0 (λ is. omega (arith, is, takes.beyond)) (inl (omega arith))

    pub has_split : (half : ℕ) → half ≡ (if is_le (key_cmp fence key) then q else cut.child) → HasGrown tree key 1 n half a c
    has_split half is = record {
      taken = q ∷ [];
      many = refl;
      distinct = (refl, tt);
      grows = grows;
      above = half_above half is;
      fewer = one_fewer tree a b c q (tree_pairs tree a) takes grows header;
      header = header;
    }
