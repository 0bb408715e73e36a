-- What the root had is put on another page, and the new root.
use Rattle.std.proofs.Common.{◌≡◌, ℕ, ◌<◌, List, length, drop, sym, ◌∙◌, ap, subst, arith}
use Rattle.std.specs.Prelude.{IsTrue}
use Rattle.page_format.specs.Shape.{HasTreeFields}
use Rattle.mtr.specs.Seen.{MtrState, IsWithin, with_bytes, capacity_of}
use Rattle.mtr.specs.Calls.{Puts}
use Rattle.btree.specs.declared.tree.Tree.{Tree}
use Rattle.btree_change.specs.Calls.{Rewrites}
use Rattle.btree_change.proofs.Steps.{put_rewrites}
use Rattle.btree_grow.specs.Raised.{IsRaised, RaisesTree}
use Rattle.btree_grow.proofs.Laid.{root_put}
use Rattle.btree_split.proofs.Put.{fields_shown}
use Rattle.btree_grow.specs.Going.{GoesOn}
use Rattle.btree_grow.specs.Raising.{IsRaiseReady}
use Rattle.btree_grow.proofs.Going.{on_then, rewrote_on}
use Rattle.btree_grow.proofs.PutHalves.{put_from}

module _ (tree : Tree) (number level : ℕ) (bytes image : List ℕ) (old first : MtrState)
    (good : IsTrue old.told → IsRaiseReady tree.root number level bytes old.seen) (put_moved : Puts number 20 (drop 20 bytes) old first) where
  one : Rewrites number (with_bytes 20 (drop 20 bytes) (old.seen number)) old first
  one = put_rewrites number 20 (drop 20 bytes) old first (λ told. (good told).some_number) put_moved

  module _ (second : MtrState) (put_root : Puts tree.root 20 (drop 20 image) first second) where
    two : Rewrites tree.root (with_bytes 20 (drop 20 image) (first.seen tree.root)) first second
    two = put_rewrites tree.root 20 (drop 20 image) first second (λ told. (good (one.goes.told told)).some_root) put_root

    pub raises : length bytes ≡ 4096 → length image ≡ 4096 → (HasTreeFields bytes → IsRaised tree.key_len number level bytes image) → IsTrue second.told
        → RaisesTree tree number old.seen second.seen
    raises size image_size image_is told =
        let told_one = two.goes.told told in
        let is = good (one.goes.told told_one) in
        let shown = is.shown.same in
        let page = old.seen tree.root in
        let new_number : second.seen number ≡ with_bytes 20 (drop 20 bytes) (old.seen number) =
        (two.pages told).elsewhere number is.apart ∙ (one.pages told_one).here in
        let new_root : second.seen tree.root ≡ with_bytes 20 (drop 20 image) page =
        (two.pages told).here ∙ ap (with_bytes 20 (drop 20 image)) ((one.pages told_one).elsewhere tree.root (λ same. is.apart (sym same))) in
        record {
          moved = ap (drop 20) new_number ∙ put_from (old.seen number) bytes is.blank size ∙ shown;
          root =
              subst (λ k. IsRaised tree.key_len number k page (second.seen tree.root)) is.level_is
              (root_put tree.key_len number level bytes page image (second.seen tree.root) shown
              (ap (drop 20) new_root ∙ put_from page image is.shown.size image_size) (image_is (fields_shown bytes page shown is.fields)));
          others = λ r not_root not_number. (two.pages told).elsewhere r not_root ∙ (one.pages told_one).elsewhere r not_number;
        }
