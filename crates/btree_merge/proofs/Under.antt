-- Two leaves under their parent, and what the bytes that were read say of them.
use Rattle.std.proofs.Common.{◌≡◌, ◌≢◌, ℕ, suc, ◌+◌, ◌*◌, ◌<◌, ◌≤◌, List, [], ◌∷◌, ◌++◌, length, drop, get_or, refl, sym, ◌∙◌, ap, subst, arith}
use Rattle.page_format.specs.Words.{level_of, count_of, record_len_of, records_of}
use Rattle.page_format.proofs.Pieces.{length-pieces}
use Rattle.mtr.specs.Seen.{IsShown}
use Rattle.law_flat_tree.specs.Pages.{child_of}
use Rattle.btree.specs.declared.tree.Tree.{Tree}
use Rattle.btree.specs.declared.page.Down.TheVariants.{Child}
use Rattle.btree.specs.Descents.{IsReadable, Leads}
use Rattle.btree.specs.Sound.{HoldsKey}
use Rattle.btree.specs.Walks.{IsReadableLeaf}
use Rattle.btree.proofs.Shown.{same_count, same_width, same_records, same_level, readable_shown, leads_shown}
use Rattle.btree.proofs.Standing.{Reached, at_child, at_leaf}
use Rattle.btree_split.specs.Placed.{IsPlacedTree}
use Rattle.btree_merge.specs.Parents.{IsParent}
use Rattle.btree_merge.specs.Merges.{IsAboveLeaves}
use Rattle.btree_split.specs.Halves.{child_under}
use Rattle.btree_merge.proofs.Merging as merging
use Rattle.btree_merge.specs.declared.look.Couple.{Couple}
use Rattle.btree_merge.specs.Merged.{FitTogether, HoldsFew, CanMerge}
use Rattle.btree_merge.specs.Siblings.{IsCouple, AreToMerge}
use Rattle.btree_merge.specs.Tidied.{IsLeafUnder}

-- room, as it is read and as it is
pub fit_shown : (a b one other : List ℕ) → drop 20 a ≡ drop 20 one → drop 20 b ≡ drop 20 other → FitTogether a b → FitTogether one other
fit_shown a b one other same same' fits =
    subst (λ n. 208 + (n + count_of other) * record_len_of one ≤ 4096) (same_count a one same)
    (subst (λ n. 208 + (count_of a + n) * record_len_of one ≤ 4096) (same_count b other same')
    (subst (λ n. 208 + (count_of a + count_of b) * n ≤ 4096) (same_width a one same) fits))

pub few_shown : (a one : List ℕ) → drop 20 a ≡ drop 20 one → HoldsFew a → HoldsFew one
few_shown a one same few =
    subst (λ n. 208 + (2 * n + 1) * record_len_of one ≤ 4096) (same_count a one same)
    (subst (λ n. 208 + (2 * count_of a + 1) * n ≤ 4096) (same_width a one same) few)

pub of_parent : (tree : Tree) (pages : ℕ → List ℕ) (key : List ℕ) (u : ℕ) → IsParent tree pages key u → IsAboveLeaves tree pages u
of_parent tree pages key u parent = record {
  tops = parent.tops;
  cs = parent.holds.xs;
  ds = parent.holds.ys;
  leaves = parent.lower;
  at = parent.at ∙ ap (λ l. parent.tops ++ l ∷ parent.lower ∷ []) parent.holds.whole;
}

module _ (tree : Tree) (pages : ℕ → List ℕ) (u : ℕ) (placed : IsPlacedTree tree pages) (above : IsAboveLeaves tree pages u) where
  pub parent_readable : IsReadable tree (pages u)
  parent_readable =
      let page = merging.parent_page tree pages u placed above in
      record {
        laid_out = record { width = page.width; inside = page.fields.inside };
        some = λ _. merging.some_records tree pages u placed above;
      }

  pub parent_inner : level_of (pages u) ≢ 0
  parent_inner none = omega (arith, none, merging.parent_level tree pages u placed above)

  pub leaf_reads : (k : ℕ) → k < length (records_of (pages u)) → IsReadableLeaf tree (pages (child_under tree.key_len pages u k))
  leaf_reads k within =
      let page = merging.leaf_page tree pages u placed above k within in
      record {
        laid_out = record { width = page.width; inside = page.fields.inside };
        leaf = merging.leaf_level tree pages u placed above k within;
      }

  module _ (bytes : List ℕ) (shown : IsShown (pages u) bytes) where
    -- the parent isn't refused
    pub not_refused : (IsReadable tree bytes → level_of bytes ≢ 0 → ⊥) → ⊥
    not_refused refused =
        refused (readable_shown bytes (pages u) shown.same tree parent_readable) (λ none. parent_inner (sym (same_level bytes (pages u) shown.same) ∙ none))

    counted : count_of bytes ≡ length (records_of (pages u))
    counted = same_count bytes (pages u) shown.same ∙ sym (length-pieces (record_len_of (pages u)) (count_of (pages u)) (drop 208 (pages u)))

    pub child_shown : (k : ℕ) → child_of tree.key_len (get_or (records_of bytes) k []) ≡ child_under tree.key_len pages u k
    child_shown k = ap (λ (rs : List (List ℕ)). child_of tree.key_len (get_or rs k [])) (same_records bytes (pages u) shown.same)

    pub none_behind : (j : ℕ) → length (records_of bytes) ≤ suc j → CanMerge tree pages u j → ⊥
    none_behind j last can = omega (arith, last, can.within, ap (λ (rs : List (List ℕ)). length rs) (same_records bytes (pages u) shown.same))

    pub within_shown : (k : ℕ) → k < count_of bytes → k < length (records_of (pages u))
    within_shown k within = omega (arith, within, counted)

    module _ (j : ℕ) (couple : Couple) (is : IsCouple tree bytes j couple) where
      abbrev p : ℕ
      p = child_under tree.key_len pages u j

      abbrev q : ℕ
      q = child_under tree.key_len pages u (suc j)

      left_is : couple.left ≡ p
      left_is = is.left_is ∙ child_shown j

      right_is : couple.right ≡ q
      right_is = is.right_is ∙ child_shown (suc j)

      pub left_reads : IsReadableLeaf tree (pages couple.left)
      left_reads = subst (λ r. IsReadableLeaf tree (pages r)) (sym left_is) (leaf_reads j (within_shown j (omega (arith, is.within))))

      pub right_reads : IsReadableLeaf tree (pages couple.right)
      right_reads = subst (λ r. IsReadableLeaf tree (pages r)) (sym right_is) (leaf_reads (suc j) (within_shown (suc j) is.within))

      module _ (left right : List ℕ) (left_shown : IsShown (pages couple.left) left) (right_shown : IsShown (pages couple.right) right) where
        pub full : (FitTogether left right → ⊥) → CanMerge tree pages u j → ⊥
        full none can =
            none (fit_shown (pages couple.left) (pages couple.right) left right (sym left_shown.same) (sym right_shown.same)
            (subst (λ r. FitTogether (pages r) (pages couple.right)) (sym left_is) (subst (λ r. FitTogether (pages p) (pages r)) (sym right_is) can.fits)))

        pub to_merge : FitTogether left right → AreToMerge tree pages u j (record { couple = couple; above = bytes; left = left; right = right })
        to_merge fits = record {
          placed = placed;
          above = above;
          can =
              record {
                within = within_shown (suc j) is.within;
                fits = subst (λ r. FitTogether (pages r) (pages q)) left_is
                    (subst (λ r. FitTogether (pages couple.left) (pages r)) right_is
                    (fit_shown left right (pages couple.left) (pages couple.right) left_shown.same right_shown.same fits));
              };
          left_is = left_is;
          right_is = right_is;
          above_shown = shown;
          left_shown = left_shown;
          right_shown = right_shown;
        }

-- the leaf of a key
module _ (tree : Tree) (pages : ℕ → List ℕ) (key : List ℕ) (u : ℕ) (placed : IsPlacedTree tree pages) (parent : IsParent tree pages key u) where
  reached : Reached tree pages key (length parent.tops) u
  reached = record {
    tops = parent.tops;
    upper = parent.upper;
    under = parent.lower ∷ [];
    at = parent.at;
    depth = refl;
    holds = parent.holds;
  }

  above : IsAboveLeaves tree pages u
  above = of_parent tree pages key u parent

  module _ (bytes : List ℕ) (shown : IsShown (pages u) bytes) (place : ℕ) (inside : place < count_of bytes)
      (leads : Leads tree key bytes (Child (child_of tree.key_len (get_or (records_of bytes) place [])))) where
    abbrev leaf : ℕ
    leaf = child_of tree.key_len (get_or (records_of bytes) place [])

    leaf_is : leaf ≡ child_under tree.key_len pages u place
    leaf_is = child_shown tree pages u placed above bytes shown place

    within : place < length (records_of (pages u))
    within = within_shown tree pages u placed above bytes shown place inside

    leaf_holds : HoldsKey tree pages key leaf
    leaf_holds =
        at_leaf tree pages placed.whole.sound key (length parent.tops + 1) leaf
        (at_child tree pages placed.whole.sound key (length parent.tops) u reached leaf (leads_shown bytes (pages u) shown.same tree key (Child leaf) leads))
        (subst (λ r. level_of (pages r) ≡ 0) (sym leaf_is) (merging.leaf_level tree pages u placed above place within))

    pub leaf_under : IsLeafUnder tree pages key u place
    leaf_under = record { parent = parent; within = within; holds = subst (λ r. HoldsKey tree pages key r) leaf_is leaf_holds }

    pub key_leaf_reads : IsReadableLeaf tree (pages leaf)
    key_leaf_reads = subst (λ r. IsReadableLeaf tree (pages r)) (sym leaf_is) (leaf_reads tree pages u placed above place within)

    module _ (leaf_bytes : List ℕ) (leaf_shown' : IsShown (pages leaf) leaf_bytes) where
      same_leaf : drop 20 leaf_bytes ≡ drop 20 (pages (child_under tree.key_len pages u place))
      same_leaf = subst (λ r. drop 20 leaf_bytes ≡ drop 20 (pages r)) leaf_is leaf_shown'.same

      pub is_few : HoldsFew leaf_bytes → HoldsFew (pages (child_under tree.key_len pages u place))
      is_few few = few_shown leaf_bytes (pages (child_under tree.key_len pages u place)) same_leaf few

      pub not_few : (HoldsFew leaf_bytes → ⊥) → HoldsFew (pages (child_under tree.key_len pages u place)) → ⊥
      not_few none few = none (few_shown (pages (child_under tree.key_len pages u place)) leaf_bytes (sym same_leaf) few)
