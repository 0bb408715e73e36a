-- The bytes that a change of a leaf puts, as the page's records tell them.
use Rattle.std.proofs.Common.{◌≡◌, ℕ, zero, suc, ◌+◌, ◌-◌, ◌*◌, ◌<◌, ◌≤◌, List, [], ◌∷◌, ◌++◌, length, take, drop, get_or, set, refl, sym, ap, subst, ◌∙◌}
use Rattle.std.proofs.Common.{append_assoc, length-append, arith}
use Rattle.std.specs.Prelude.{insert, remove, replicate}
use Rattle.std.specs.Int.{w16, from_be_bytes, to_be_bytes}
use Rattle.std.specs.List.{concat}
use Rattle.std.proofs.lemmas.List.{take-take, drop-take, drop-drop, take-append-le, drop-append-le, length-take-le, length-drop}
use Rattle.std.proofs.lemmas.List.{length-set, length-replicate, drop-replicate, take-replicate}
use Rattle.std.proofs.Math.Seq.{take-append-add, drop-append-add, drop-append_seam}
use Rattle.mtr.specs.Seen.{with_bytes}
use Rattle.mtr.proofs.Behind.{drop-behind}
use Rattle.page_format.specs.Words.{count_of, record_len_of, records_of}
use Rattle.stored_pages.specs.Words.{u16_at}
use Rattle.page_format.specs.Shape.{HasTreeFields}
use Rattle.page_format.specs.Changes.{KeepsFields}
use Rattle.page_format.proofs.Pieces.{AreWide, IsBody, length-pieces}
use Rattle.page_format.proofs.Edited.{same_part, body_of, edited, ordered, inserted_record, removed_record}
use Rattle.btree.specs.declared.tree.Tree.{Tree}
use Rattle.btree.specs.Layout.{width_of}
use Rattle.btree.specs.Walks.{IsReadableLeaf}
use Rattle.btree.proofs.Shown.{same_count, same_width}
use Rattle.btree_change.specs.declared.edit.Edit.{Edit}
use Rattle.btree_change.specs.Edits.{piece_of, begin_of, IsInsertion, IsRemoval, HasRoom}
use Rattle.btree_change.specs.Edits as edits

-- What a change makes of a page: it has these records instead.
pub record HasRecords (rs : List (List ℕ)) (old new : List ℕ) : Type 0 where
  pub fields : HasTreeFields new
  pub records : records_of new ≡ rs
  pub kept : KeepsFields old new

-- ---- the bytes that were read, and the page

module _ (bytes page : List ℕ) (shown : drop 20 bytes ≡ drop 20 page) where
  pub begin_shown : (i : ℕ) → begin_of i bytes ≡ begin_of i page
  begin_shown i = ap (λ w. 208 + i * w) (same_width bytes page shown)

  behind_shown : (at place : ℕ) → at ≡ place → 208 ≤ place → drop at bytes ≡ drop place page
  behind_shown at place is behind = ap (λ k. drop k bytes) is ∙ drop-behind place bytes page (omega (arith, behind)) shown

  end_shown : begin_of (count_of bytes) bytes ≡ begin_of (count_of page) page
  end_shown = ap (λ k. begin_of k bytes) (same_count bytes page shown) ∙ begin_shown (count_of page)

  pub insertion_shown : (i : ℕ) (rec : List ℕ) (edit : Edit) → IsInsertion i rec bytes edit → IsInsertion i rec page edit
  insertion_shown i rec edit is = record {
    at = is.at ∙ begin_shown i;
    piece = is.piece ∙ (λ j. rec ++ take (end_shown j - begin_shown i j) (behind_shown (begin_of i bytes) (begin_of i page) (begin_shown i) (omega arith) j));
    count = is.count ∙ ap (λ k. k + 1) (same_count bytes page shown);
  }

  pub removal_shown : (i : ℕ) (edit : Edit) → IsRemoval i bytes edit → IsRemoval i page edit
  removal_shown i edit is =
      let width = same_width bytes page shown in
      let next : begin_of i bytes + record_len_of bytes ≡ begin_of i page + record_len_of page = λ j. begin_shown i j + width j in
      let rest = behind_shown (begin_of i bytes + record_len_of bytes) (begin_of i page + record_len_of page) next (omega arith) in
      record {
        at = is.at ∙ begin_shown i;
        piece =
            is.piece
            ∙ (λ j. take (end_shown j - next j) (rest j) ++ replicate (width j) 0);
        count = is.count ∙ ap (λ k. k - 1) (same_count bytes page shown);
      }

-- zeros that were there already
pub zeros_behind : (n w : ℕ) (moved new : List ℕ) → length moved + w ≤ n
    → new ≡ take 0 (replicate n 0) ++ (moved ++ drop (0 + length moved) (replicate n 0)) → take (length moved + w) new ≡ moved ++ replicate w 0
zeros_behind n w moved new room is =
    let m = length moved in
    let none : 0 + m ≡ m = omega arith in
    let rest : drop m (replicate n 0) ≡ replicate (n - m) 0 = drop-replicate m n 0 in
    ap (take (m + w)) (is ∙ ap (λ k. moved ++ drop k (replicate n 0)) none)
    ∙ take-append-add moved (drop m (replicate n 0)) w
    ∙ ap (λ l. moved ++ take w l) rest
    ∙ ap (λ l. moved ++ l) (take-replicate w (n - m) 0 (omega (arith, room)))

-- ---- a record more

same_count_put : (n : ℕ) (page : List ℕ) → with_bytes 22 (to_be_bytes w16 n) page ≡ take 22 page ++ (to_be_bytes w16 n ++ drop 24 page)
same_count_put n page = refl

pub inserted_page : (page rec : List ℕ) (i : ℕ) (edit : Edit) → length page ≡ 4096 → HasTreeFields page → i ≤ count_of page → length rec ≡ record_len_of page
    → HasRoom page → IsInsertion i rec page edit → HasRecords (insert (records_of page) i rec) page (edits.edited edit page)
inserted_page page rec i edit size fields place wide room is =
    let w = record_len_of page in
    let count = count_of page in
    let from = begin_of i page in
    let to = begin_of count page in
    let moved = take (to - from) (drop from page) in
    let order = ordered i count w place in
    let moved_length : length moved ≡ to - from =
    length-take-le (to - from) (drop from page) (omega (arith, length-drop from page, size, fields.inside, order)) in
    let end : edit.at + length (piece_of edit) ≡ to + length rec =
    ap (λ k. k + length (piece_of edit)) is.at ∙ ap (λ l. from + length l) is.piece ∙ omega (arith, length-append rec moved, moved_length, order) in
    let new = with_bytes edit.at (piece_of edit) page in
    let new_is : new ≡ take from page ++ (rec ++ (moved ++ drop (to + length rec) page)) =
    (λ j. take (is.at j) page ++ (is.piece j ++ drop (end j) page)) ∙ ap (λ l. take from page ++ l) (append_assoc rec moved (drop (to + length rec) page)) in
    let final_is : edits.edited edit page ≡ take 22 new ++ (to_be_bytes w16 (count + 1) ++ drop 24 new) =
    same_count_put edit.count new ∙ ap (λ k. take 22 new ++ (to_be_bytes w16 k ++ drop 24 new)) is.count in
    let done = inserted_record page new (edits.edited edit page) rec i size fields place wide room new_is final_is in
    record { fields = done.0; records = done.1; kept = done.2 }

pub removed_page : (page : List ℕ) (i : ℕ) (edit : Edit) → length page ≡ 4096 → HasTreeFields page → i < count_of page
    → IsRemoval i page edit → HasRecords (remove (records_of page) i) page (edits.edited edit page)
removed_page page i edit size fields place is =
    let w = record_len_of page in
    let count = count_of page in
    let from = begin_of i page in
    let to = begin_of count page in
    let moved = take (to - (from + w)) (drop (from + w) page) in
    let zeros : List ℕ = replicate w 0 in
    let order : from + w ≤ to = omega (arith, ordered (suc i) count w (omega (arith, place))) in
    let moved_length : length moved ≡ to - (from + w) =
    length-take-le (to - (from + w)) (drop (from + w) page) (omega (arith, length-drop (from + w) page, size, fields.inside, order)) in
    let end : edit.at + length (piece_of edit) ≡ to =
    ap (λ k. k + length (piece_of edit)) is.at ∙ ap (λ l. from + length l) is.piece
    ∙ omega (arith, length-append moved zeros, moved_length, length-replicate {A = ℕ} w 0, order) in
    let new = with_bytes edit.at (piece_of edit) page in
    let new_is : new ≡ take from page ++ (moved ++ (zeros ++ drop to page)) =
    (λ j. take (is.at j) page ++ (is.piece j ++ drop (end j) page)) ∙ ap (λ l. take from page ++ l) (append_assoc moved zeros (drop to page)) in
    let final_is : edits.edited edit page ≡ take 22 new ++ (to_be_bytes w16 (count - 1) ++ drop 24 new) =
    same_count_put edit.count new ∙ ap (λ k. take 22 new ++ (to_be_bytes w16 k ++ drop 24 new)) is.count in
    let done = removed_record page new (edits.edited edit page) i size fields place new_is final_is in
    record { fields = done.0; records = done.1; kept = done.2 }

-- ---- the end of a record written over

with_behind : (r v x : List ℕ) (k : ℕ) → with_bytes (length r + k) v (r ++ x) ≡ r ++ with_bytes k v x
with_behind r v x k =
    let place : length r + k + length v ≡ length r + (k + length v) = omega arith in
    (λ j. take-append-add r x k j ++ (v ++ (ap (λ n. drop n (r ++ x)) place ∙ drop-append-add r x (k + length v)) j))
    ∙ append_assoc r (take k x) (v ++ drop (k + length v) x)

with_front : (r v x : List ℕ) (n : ℕ) → n + length v ≡ length r → with_bytes n v (r ++ x) ≡ (take n r ++ v) ++ x
with_front r v x n whole =
    let front : take n (r ++ x) ≡ take n r = take-append-le n r x (omega (arith, whole)) in
    let back : drop (n + length v) (r ++ x) ≡ x = ap (λ k. drop k (r ++ x)) whole ∙ drop-append_seam r x in
    (λ j. front j ++ (v ++ back j)) ∙ sym (append_assoc (take n r) v x)

with_end : (w n i : ℕ) (rs : List (List ℕ)) (v rest : List ℕ) → AreWide w rs → n + length v ≡ w → i < length rs
    → with_bytes (i * w + n) v (concat rs ++ rest) ≡ concat (set rs i (take n (get_or rs i []) ++ v)) ++ rest
with_end w n i [] v rest wide whole within = absurd (omega (arith, within))
with_end w n zero (r ∷ rs) v rest wide whole within =
    let none : zero * w + n ≡ n = omega arith in
    ap (λ k. with_bytes k v ((r ++ concat rs) ++ rest)) none
    ∙ ap (with_bytes n v) (append_assoc r (concat rs) rest)
    ∙ with_front r v (concat rs ++ rest) n (whole ∙ sym wide.0)
    ∙ sym (append_assoc (take n r ++ v) (concat rs) rest)
with_end w n (suc i) (r ∷ rs) v rest wide whole within =
    let next : suc i * w + n ≡ length r + (i * w + n) = omega (arith, wide.0) in
    let more = concat (set rs i (take n (get_or rs i []) ++ v)) in
    ap (λ k. with_bytes k v ((r ++ concat rs) ++ rest)) next
    ∙ ap (with_bytes (length r + (i * w + n)) v) (append_assoc r (concat rs) rest)
    ∙ with_behind r v (concat rs ++ rest) (i * w + n)
    ∙ ap (λ l. r ++ l) (with_end w n i rs v rest wide.1 whole (omega (arith, within)))
    ∙ sym (append_assoc r more rest)

wide_set : (w : ℕ) (rs : List (List ℕ)) (i : ℕ) (r : List ℕ) → AreWide w rs → length r ≡ w → AreWide w (set rs i r)
wide_set w [] i r wide is = tt
wide_set w (x ∷ xs) zero r wide is = (is, wide.1)
wide_set w (x ∷ xs) (suc i) r wide is = (wide.0, wide_set w xs i r wide.1 is)

wide_at : (w : ℕ) (rs : List (List ℕ)) (i : ℕ) → AreWide w rs → i < length rs → length (get_or rs i []) ≡ w
wide_at w [] i wide within = absurd (omega (arith, within))
wide_at w (x ∷ xs) zero wide within = wide.0
wide_at w (x ∷ xs) (suc i) wide within = wide_at w xs i wide.1 (omega (arith, within))

-- a page that is written over from a place behind the fields on
kept_front : (page v : List ℕ) (k : ℕ) → length page ≡ 4096 → 208 + k ≤ 4096
    → KeepsFields page (with_bytes (208 + k) v page) × (count_of (with_bytes (208 + k) v page) ≡ count_of page)
    × (drop 208 (with_bytes (208 + k) v page) ≡ with_bytes k v (drop 208 page))
unfolding u16_at
kept_front page v k size inside =
    let tail = v ++ drop (208 + k + length v) page in
    let new = take (208 + k) page ++ tail in
    let kept : length (take (208 + k) page) ≡ 208 + k = length-take-le (208 + k) page (omega (arith, size, inside)) in
    let front : take 208 new ≡ take 208 page =
    take-append-le 208 (take (208 + k) page) tail (omega (arith, kept)) ∙ take-take 208 (208 + k) page (omega arith) in
    let place : 208 + k + length v ≡ 208 + (k + length v) = omega arith in
    let back : drop (208 + k + length v) page ≡ drop (k + length v) (drop 208 page) = ap (λ n. drop n page) place ∙ sym (drop-drop (k + length v) 208 page) in (
      record {
        head = sym (take-take 22 208 new (omega arith)) ∙ ap (take 22) front ∙ take-take 22 208 page (omega arith);
        middle = same_part new page 24 184 208 (omega arith) front;
      },
      ap (from_be_bytes w16) (same_part new page 22 2 208 (omega arith) front),
      drop-append-le 208 (take (208 + k) page) tail (omega (arith, kept)) ∙ (λ j. drop-take 208 k page j ++ (v ++ back j)),
    )

pub replaced_page : (page key value : List ℕ) (i : ℕ) → length page ≡ 4096 → HasTreeFields page → i < count_of page
    → length key + length value ≡ record_len_of page → take (length key) (get_or (records_of page) i []) ≡ key
    → HasRecords (set (records_of page) i (key ++ value)) page (with_bytes (begin_of i page + length key) value page)
replaced_page page key value i size fields place wide here =
    let w = record_len_of page in
    let count = count_of page in
    let rs = records_of page in
    let n = length key in
    let k = i * w + n in
    let at : begin_of i page + n ≡ 208 + k = omega arith in
    let rs_length : length rs ≡ count = length-pieces w count (drop 208 page) in
    let order = ordered (suc i) count w (omega (arith, place)) in
    let body = body_of page size fields in
    let new = with_bytes (208 + k) value page in
    let done = kept_front page value k size (omega (arith, order, fields.inside, wide)) in
    let changed = set rs i (key ++ value) in
    let changed_is : set rs i (take n (get_or rs i []) ++ value) ≡ changed = ap (λ l. set rs i (l ++ value)) here in
    let whole : drop 208 new ≡ concat changed ++ body.rest =
    done.2 ∙ ap (with_bytes k value) body.whole ∙ with_end w n i rs value body.rest body.wide wide (omega (arith, place, rs_length))
    ∙ ap (λ l. concat l ++ body.rest) changed_is in
    let made : IsBody w changed (drop 208 new) = record {
      wide = wide_set w rs i (key ++ value) body.wide (length-append key value ∙ wide);
      rest = body.rest;
      whole = whole;
      zeros = body.zeros;
    } in
    let length_is : length changed ≡ length rs = length-set rs i (key ++ value) in
    let room : 208 + length changed * w ≤ 4096 = rw (length_is, rs_length) fields.inside in
    let result = edited page new changed fields done.0 (done.1 ∙ sym rs_length ∙ sym length_is) room made in
    subst (λ m. HasRecords changed page (with_bytes m value page)) (sym at) (record { fields = result.0; records = result.1; kept = done.0 })

-- a value lies within its page
pub value_inside : (tree : Tree) (bytes key value : List ℕ) (i : ℕ) → IsReadableLeaf tree bytes → length key ≡ tree.key_len → length value ≡ tree.value_len
    → i < count_of bytes → begin_of i bytes + length key + length value ≤ 4096
value_inside tree bytes key value i reads long short place =
    let width : record_len_of bytes ≡ tree.key_len + tree.value_len = reads.laid_out.width ∙ ap (width_of tree) reads.leaf in
    omega (arith, width, long, short, ordered (suc i) (count_of bytes) (record_len_of bytes) (omega (arith, place)), reads.laid_out.inside)
