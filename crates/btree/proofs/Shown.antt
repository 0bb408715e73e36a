-- What stands behind a page's first 20 bytes tells the same in bytes that show the page.
use Rattle.std.proofs.Common.{◌≡◌, ℕ, ◌+◌, ◌*◌, ◌≤◌, ◌<◌, Bool, List, Option, length, take, drop, map, sym, ◌∙◌, ap, subst, arith}
use Rattle.std.specs.Int.{w16, from_be_bytes}
use Rattle.mtr.proofs.Behind.{drop-behind, u32-behind, byte-behind}
use Rattle.page_format.specs.Words.{level_of, count_of, record_len_of, right_of, records_of, pieces}
use Rattle.stored_pages.specs.Words.{u16_at}
use Rattle.page_format.specs.Shape.{AreRising}
use Rattle.btree.specs.declared.tree.Tree.{Tree}
use Rattle.btree.specs.declared.page.Down.{Down}
use Rattle.btree.specs.declared.page.Down.TheVariants.{Leaf, Child}
use Rattle.std.specs.List.{slice_get}
use Rattle.entries.specs.Pairs.{Pair}
use Rattle.entries.specs.Calls.{HasKey}
use Rattle.law_flat_tree.specs.Pages.{pair_of, leaf_pairs}
use Rattle.btree.specs.declared.tree.Bound.{Bound}
use Rattle.btree.specs.declared.leaf.Met.{Met}
use Rattle.btree.specs.declared.leaf.Met.TheVariants.{Here, Beyond}
use Rattle.btree.specs.Places.{record_passes, StartsAt}
use Rattle.btree.specs.Walks.{IsReadableLeaf, HasRow, Meets, Begins}
use Rattle.btree.specs.Layout.{width_of, IsLaidOut}
use Rattle.btree.specs.Descents.{IsReadable, IsChildFor, Leads}

pub u16-behind : (at : ℕ) (a b : List ℕ) → 20 ≤ at → drop 20 a ≡ drop 20 b → u16_at at a ≡ u16_at at b
unfolding u16_at
u16-behind at a b begins same = ap (λ (l : List ℕ). from_be_bytes w16 (take 2 l)) (drop-behind at a b begins same)

module _ (a b : List ℕ) (same : drop 20 a ≡ drop 20 b) where
  pub same_level : level_of a ≡ level_of b
  same_level = byte-behind 21 a b (omega arith) same

  pub same_count : count_of a ≡ count_of b
  same_count = u16-behind 22 a b (omega arith) same

  pub same_width : record_len_of a ≡ record_len_of b
  same_width = u16-behind 32 a b (omega arith) same

  pub same_right : right_of a ≡ right_of b
  same_right = u32-behind 28 a b (omega arith) same

  pub same_records : records_of a ≡ records_of b
  same_records =
      let bytes : drop 208 a ≡ drop 208 b = drop-behind 208 a b (omega arith) same in
      λ j. pieces (same_width j) (same_count j) (bytes j)

  pub laid_out_shown : (tree : Tree) → IsLaidOut tree b → IsLaidOut tree a
  laid_out_shown tree is = record {
    width = same_width ∙ is.width ∙ ap (width_of tree) (sym same_level);
    inside = subst (λ n. 208 + n * record_len_of a ≤ 4096) (sym same_count)
        (subst (λ n. 208 + count_of b * n ≤ 4096) (sym same_width) is.inside);
  }

  pub readable_shown : (tree : Tree) → IsReadable tree b → IsReadable tree a
  readable_shown tree is = record {
    laid_out = laid_out_shown tree is.laid_out;
    some = λ inner. subst (λ rs. 0 < length rs) (sym same_records) (is.some (λ leaf. inner (same_level ∙ leaf)));
  }

  pub leads_shown : (tree : Tree) (key : List ℕ) (down : Down) → Leads tree key a down → Leads tree key b down
  leads_shown tree key Leaf leads = sym same_level ∙ leads
  leads_shown tree key (Child child) leads = (
    λ leaf. leads.0 (same_level ∙ leaf),
    λ rising. subst (λ rs. IsChildFor tree.key_len key rs child) same_records
        (leads.1 (subst (λ rs. AreRising (map (take tree.key_len) rs)) (sym same_records) rising)),
  )

  pub leaf_shown : (tree : Tree) → IsReadableLeaf tree b → IsReadableLeaf tree a
  leaf_shown tree is = record { laid_out = laid_out_shown tree is.laid_out; leaf = same_level ∙ is.leaf }

  pub row_shown : (tree : Tree) (place : ℕ) → HasRow tree place b → HasRow tree place a
  row_shown tree place is = record {
    readable = leaf_shown tree is.readable;
    inside = subst (λ rs. place < length rs) (sym same_records) is.inside;
  }

  starts_shown : (tree : Tree) (test : List ℕ → Bool) (place : List (List ℕ) → ℕ)
      → (AreRising (map (take tree.key_len) (records_of a)) → StartsAt test (records_of a) (place (records_of a)))
      → AreRising (map (take tree.key_len) (records_of b)) → StartsAt test (records_of b) (place (records_of b))
  starts_shown tree test place starts =
      subst (λ rs. AreRising (map (take tree.key_len) rs) → StartsAt test rs (place rs)) same_records starts

  pub meets_shown : (tree : Tree) (bound : Bound) (key : List ℕ) (met : Met) → Meets tree bound key a met → Meets tree bound key b met
  meets_shown tree bound key (Here place) meets = (
    subst (λ rs. place < length rs) same_records meets.0,
    starts_shown tree (record_passes tree.key_len bound key) (λ rs. place) meets.1,
  )
  meets_shown tree bound key (Beyond page) meets = (
    meets.0 ∙ same_right,
    starts_shown tree (record_passes tree.key_len bound key) (λ rs. length rs) meets.1,
  )

  pub begins_shown : (met : Met) → Begins a met → Begins b met
  begins_shown (Here place) begins = (begins.0, subst (λ rs. 0 < length rs) same_records begins.1)
  begins_shown (Beyond page) begins = (begins.0 ∙ same_right, sym same_records ∙ begins.1)

  pub pairs_shown : (n i : ℕ) (found : Option Pair) → slice_get (leaf_pairs n a) i ≡ found → slice_get (leaf_pairs n b) i ≡ found
  pairs_shown n i found is = subst (λ rs. slice_get (map (pair_of n) rs) i ≡ found) same_records is

  pub key_shown : (n i : ℕ) (key : List ℕ) → HasKey key (slice_get (leaf_pairs n a) i) → HasKey key (slice_get (leaf_pairs n b) i)
  key_shown n i key has = subst (λ rs. HasKey key (slice_get (map (pair_of n) rs) i)) same_records has
