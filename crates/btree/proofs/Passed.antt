-- How far a walk to the right has come along the leaves of a tree whose pages stand as they should.
use Rattle.std.proofs.Common.{◌≡◌, ◌≢◌, ℕ, Bool, true, false, ◌||◌, ◌+◌, ◌<◌, ◌≤◌, List, [], ◌∷◌}
use Rattle.std.proofs.Common.{◌++◌, length, map, Option, None, Some, refl, sym, ◌∙◌, ap, subst, append_assoc, length-append, arith}
use lib.Dec.{eqb}
use borrow.Author.Tests.{eqb-true}
use Rattle.std.specs.Option.{option_or}
use Rattle.std.specs.List.{AllByRecursion, IsDistinct, slice_get, list_any}
use Rattle.std.proofs.lemmas.Bool.{false≢true}
use Rattle.std.proofs.lemmas.Bool.Decides.{nat_tests}
use Rattle.std.proofs.lemmas.Map.Steps.{length-le_from_distinct_below}
use Rattle.entries.specs.Pairs.{Pair}
use Rattle.page_format.specs.Words.{level_of, right_of, records_of}
use Rattle.law_flat_tree.specs.Levels.{Fence, Node, head_or, IsRow}
use Rattle.law_flat_tree.specs.Levels.Fence.{First, Last}
use Rattle.law_flat_tree.specs.Leaves.{HaveRoom, AreOthers, first_or}
use Rattle.law_flat_tree.specs.Descents.{leaves_of}
use Rattle.law_flat_tree.specs.Pages.{pair_of, leaf_pairs}
use Rattle.law_flat_tree.specs.Trees.{nodes, pairs_in}
use Rattle.law_flat_tree.proofs.Edits.{leaves_room}
use Rattle.law_flat_tree.proofs.Fences.{others_behind}
use Rattle.law_flat_tree.proofs.PageSplits.{all_in}
use Rattle.law_flat_tree.proofs.Reading as reading
use Rattle.law_flat_tree.proofs.Trees.{bottom_row, leaves_numbered}
use Rattle.btree.specs.declared.tree.Tree.{Tree}
use Rattle.btree.specs.declared.tree.Bound.{Bound}
use Rattle.btree.specs.declared.tree.Bound.TheVariants.{AtOrAbove, Above}
use Rattle.btree.specs.declared.leaf.Spot.{Spot}
use Rattle.btree.specs.declared.leaf.Met.TheVariants.{Here, Beyond}
use Rattle.btree.specs.Sound.{lows_of, levels_of, IsTreePage, IsSoundTree, HoldsKey, tree_pairs, first_by}
use Rattle.btree.specs.Walks.{IsReadableLeaf, Meets, Begins, AreRest, Shows, first_in}
use Rattle.btree.proofs.Rows.{first_at, none_past, row_there, head_pair}

-- The walk has come to this page, so many leaves behind the first of these, and none that it passed has a pair.
pub record Passed (tree : Tree) (pages : ℕ → List ℕ) (ys : List ℕ) (n page : ℕ) : Type 0 where
  pub zs : List ℕ
  pub rest : AreRest tree pages page zs
  pub same : first_in tree pages ys ≡ first_in tree pages zs
  pub count : length zs + n ≤ length ys

pub leaves_each : (P : ℕ → Type 0) (level : List ℕ) (lows : List (List ℕ)) → AllByRecursion (AllByRecursion P) (level ∷ lows)
    → AllByRecursion P (leaves_of (level ∷ lows))
leaves_each P level [] each = each.0
leaves_each P level (low ∷ lows) each = leaves_each P low lows each.1

-- ---- how many leaves there are

ne_false : (p q : ℕ) → p ≢ q → eqb p q ≡ false
ne_false p q ne = grind (arith, nat_tests)

apart : (p : ℕ) (xs : List ℕ) → AreOthers p xs → AllByRecursion (λ q. eqb p q ≡ false) xs
apart p [] others = tt
apart p (x ∷ xs) others = (ne_false p x (λ same. others.0 (sym same)), apart p xs others.1)

distinct : (node : ℕ → Node) (low high : Fence) (next : ℕ) (xs : List ℕ) → IsRow node low xs high next → HaveRoom node xs → IsDistinct eqb xs
unfolding IsDistinct
distinct node low high next [] row rooms = tt
distinct node low high next (x ∷ xs) row rooms =
    (apart x xs (others_behind node low high next [] xs x row rooms), distinct node (node x).high high next xs row.2 rooms.1)

below : (q n : ℕ) (xs : List ℕ) → AllByRecursion (λ p. p < n) xs → list_any (eqb q) xs ≡ true → q < n
below q n [] all is = absurd (false≢true is)
below q n (x ∷ xs) all is = go (eqb q x) refl (below q n xs all.1) is where
  go : (b : Bool) → b ≡ eqb q x → (list_any (eqb q) xs ≡ true → q < n) → (b || list_any (eqb q) xs) ≡ true → q < n
  go true same rest is = subst (λ k. k < n) (sym (eqb-true q x (sym same))) all.0
  go false same rest is = rest is

all_below : (tree : Tree) (pages : ℕ → List ℕ) (xs : List ℕ) → AllByRecursion (IsTreePage tree pages) xs → AllByRecursion (λ p. p < 65536) xs
all_below tree pages [] all = tt
all_below tree pages (x ∷ xs) all = (all.0.within, all_below tree pages xs all.1)

module _ (tree : Tree) (pages : ℕ → List ℕ) (sound : IsSoundTree tree pages) where
  leaves_sound : AllByRecursion (IsTreePage tree pages) (leaves_of (levels_of tree pages))
  leaves_sound = leaves_each (IsTreePage tree pages) (tree.root ∷ []) (lows_of tree pages) sound.each

  few_leaves : length (leaves_of (levels_of tree pages)) ≤ 65536
  few_leaves =
      let node = nodes tree.key_len pages in
      length-le_from_distinct_below (leaves_of (levels_of tree pages)) 65536
      (distinct node First Last 0 (leaves_of (levels_of tree pages)) (bottom_row node (tree.root ∷ []) (lows_of tree pages) sound.stands.levels)
      (leaves_room node (pairs_in tree.key_len pages) (leaves_of (levels_of tree pages)) sound.stands.leaves))
      (λ q. below q 65536 (leaves_of (levels_of tree pages)) (all_below tree pages (leaves_of (levels_of tree pages)) leaves_sound))

  -- ---- one leaf

  pub leaf_sound : (xs ys : List ℕ) (page : ℕ) → leaves_of (levels_of tree pages) ≡ xs ++ page ∷ ys → IsTreePage tree pages page
  leaf_sound xs ys page whole =
      all_in (IsTreePage tree pages) xs ys page (subst (λ l. AllByRecursion (IsTreePage tree pages) l) whole leaves_sound)

  leaf_level : (xs ys : List ℕ) (page : ℕ) → leaves_of (levels_of tree pages) ≡ xs ++ page ∷ ys → level_of (pages page) ≡ 0
  leaf_level xs ys page whole =
      all_in (λ q. level_of (pages q) ≡ 0) xs ys page
      (subst (λ l. AllByRecursion (λ q. level_of (pages q) ≡ 0) l) whole
      (leaves_numbered pages (tree.root ∷ []) (lows_of tree pages) sound.stands.numbered))

  pub leaf_readable : (xs ys : List ℕ) (page : ℕ) → leaves_of (levels_of tree pages) ≡ xs ++ page ∷ ys → IsReadableLeaf tree (pages page)
  leaf_readable xs ys page whole =
      let is = leaf_sound xs ys page whole in
      record { laid_out = record { width = is.width; inside = is.fields.inside }; leaf = leaf_level xs ys page whole }

  right : (xs ys : List ℕ) (page : ℕ) → leaves_of (levels_of tree pages) ≡ xs ++ page ∷ ys → right_of (pages page) ≡ head_or 0 ys
  right xs ys page whole = reading.right_neighbour tree.key_len pages tree.root (lows_of tree pages) xs ys page sound.stands whole

  -- ---- a walk

  pub walk_begins : (page : ℕ) (ys : List ℕ) → AreRest tree pages page ys → Passed tree pages ys 0 page
  walk_begins page ys rest = record { zs = ys; rest = rest; same = refl; count = omega arith }

  module _ (ys : List ℕ) (n page : ℕ) (passed : Passed tree pages ys n page) where
    pub at_readable : page ≢ 0 → IsReadableLeaf tree (pages page)
    at_readable some = go passed.zs passed.rest where
      go : (zs : List ℕ) → AreRest tree pages page zs → IsReadableLeaf tree (pages page)
      go [] rest = absurd (some rest.first)
      go (z ∷ zs) rest = subst (λ q. IsReadableLeaf tree (pages q)) (sym rest.first) (leaf_readable rest.xs zs z rest.whole)

    pub at_end : page ≡ 0 → Shows tree pages (first_in tree pages ys) None
    at_end none = go passed.zs passed.rest passed.same where
      go : (zs : List ℕ) → AreRest tree pages page zs → first_in tree pages ys ≡ first_in tree pages zs → Shows tree pages (first_in tree pages ys) None
      go [] rest same = record { same = sym same; spot = tt }
      go (z ∷ zs) rest same = absurd ((leaf_sound rest.xs zs z rest.whole).some (sym rest.first ∙ none))

    pub at_here : (place : ℕ) → page ≢ 0 → Begins (pages page) (Here place)
        → Shows tree pages (first_in tree pages ys) (Some (record { page = page; place = place }))
    at_here place some begins = go passed.zs passed.rest passed.same where
      go : (zs : List ℕ) → AreRest tree pages page zs → first_in tree pages ys ≡ first_in tree pages zs
          → Shows tree pages (first_in tree pages ys) (Some (record { page = page; place = place }))
      go [] rest same = absurd (some rest.first)
      go (z ∷ zs) rest same = record {
        same =
            ap (λ k. slice_get (leaf_pairs tree.key_len (pages page)) k) begins.0
            ∙ head_pair tree.key_len (records_of (pages page)) (first_in tree pages zs) begins.1
            ∙ ap (λ q. first_or (leaf_pairs tree.key_len (pages q)) (first_in tree pages zs)) rest.first ∙ sym same;
        spot =
            record {
              readable = subst (λ q. IsReadableLeaf tree (pages q)) (sym rest.first) (leaf_readable rest.xs zs z rest.whole);
              inside = subst (λ k. k < length (records_of (pages page))) (sym begins.0) begins.1;
            };
      }

    pub at_beyond : (next : ℕ) → page ≢ 0 → Begins (pages page) (Beyond next) → Passed tree pages ys (n + 1) next
    at_beyond next some begins = go passed.zs passed.rest passed.same passed.count where
      go : (zs : List ℕ) → AreRest tree pages page zs → first_in tree pages ys ≡ first_in tree pages zs → length zs + n ≤ length ys
          → Passed tree pages ys (n + 1) next
      go [] rest same count = absurd (some rest.first)
      go (z ∷ zs) rest same count =
          let none : records_of (pages z) ≡ [] = subst (λ q. records_of (pages q) ≡ []) rest.first begins.1 in
          record {
            zs = zs;
            rest =
                record {
                  xs = rest.xs ++ z ∷ [];
                  whole = rest.whole ∙ sym (append_assoc rest.xs (z ∷ []) zs);
                  first = begins.0 ∙ ap (λ q. right_of (pages q)) rest.first ∙ right rest.xs zs z rest.whole;
                };
            same = same ∙ ap (λ (rs : List (List ℕ)). first_or (map (pair_of tree.key_len) rs) (first_in tree pages zs)) none;
            count = omega (arith, count);
          }

    -- no walk is longer than the leaves are many
    pub not_endless : (from : ℕ) → AreRest tree pages from ys → n ≡ 65537 → ⊥
    not_endless from rest is =
        let all : length (leaves_of (levels_of tree pages)) ≡ length rest.xs + length ys = ap length rest.whole ∙ length-append rest.xs ys in
        omega (arith, all, few_leaves, passed.count, is)

  -- ---- from the leaf of a key

  module _ (bound : Bound) (key : List ℕ) (leaf : ℕ) (holds : HoldsKey tree pages key leaf) where
    pub held_readable : IsReadableLeaf tree (pages leaf)
    held_readable = leaf_readable holds.xs holds.ys leaf holds.whole

    law : first_by bound key (tree_pairs tree pages)
        ≡ option_or (first_by bound key (leaf_pairs tree.key_len (pages leaf))) (first_in tree pages holds.ys)
    law = go bound where
      go : (bound : Bound) → first_by bound key (tree_pairs tree pages)
          ≡ option_or (first_by bound key (leaf_pairs tree.key_len (pages leaf))) (first_in tree pages holds.ys)
      go AtOrAbove = reading.seeking tree.key_len pages tree.root (lows_of tree pages) key leaf sound.stands holds
      go Above = reading.following tree.key_len pages tree.root (lows_of tree pages) key leaf sound.stands holds

    pub leaf_here : (place : ℕ) → Meets tree bound key (pages leaf) (Here place)
        → Shows tree pages (first_by bound key (tree_pairs tree pages)) (Some (record { page = leaf; place = place }))
    leaf_here place meets =
        let records = records_of (pages leaf) in
        let rest = first_in tree pages holds.ys in
        record {
          same =
              sym (law
              ∙ ap (λ (o : Option Pair). option_or o rest) (first_at tree.key_len bound key records place
              (meets.1 (leaf_sound holds.xs holds.ys leaf holds.whole).rising))
              ∙ row_there tree.key_len records place rest meets.0);
          spot = record { readable = held_readable; inside = meets.0 };
        }

    pub leaf_rest : (next : ℕ) → Meets tree bound key (pages leaf) (Beyond next) → AreRest tree pages next holds.ys
    leaf_rest next meets = record {
      xs = holds.xs ++ leaf ∷ [];
      whole = holds.whole ∙ sym (append_assoc holds.xs (leaf ∷ []) holds.ys);
      first = meets.0 ∙ right holds.xs holds.ys leaf holds.whole;
    }

    pub leaf_none : (next : ℕ) → Meets tree bound key (pages leaf) (Beyond next)
        → first_by bound key (tree_pairs tree pages) ≡ first_in tree pages holds.ys
    leaf_none next meets =
        let records = records_of (pages leaf) in
        law
        ∙ ap (λ (o : Option Pair). option_or o (first_in tree pages holds.ys)) (first_at tree.key_len bound key records (length records)
        (meets.1 (leaf_sound holds.xs holds.ys leaf holds.whole).rising) ∙ none_past tree.key_len records)

    -- what the leaves to the right show, the tree shows
    pub beyond_shows : (now : ℕ → List ℕ) (next : ℕ) (found : Option Spot) → now ≡ pages → Meets tree bound key (pages leaf) (Beyond next)
        → ((ys : List ℕ) → AreRest tree now next ys → Shows tree now (first_in tree now ys) found)
        → Shows tree pages (first_by bound key (tree_pairs tree pages)) found
    beyond_shows now next found same meets shown =
        subst (λ (pair : Option Pair). Shows tree pages pair found) (sym (leaf_none next meets))
        (subst (λ (f : ℕ → List ℕ). (ys : List ℕ) → AreRest tree f next ys → Shows tree f (first_in tree f ys) found) same shown holds.ys
        (leaf_rest next meets))
