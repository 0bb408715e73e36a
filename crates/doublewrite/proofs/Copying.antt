-- While the copies of a batch are written, each page is read with its old content or with that of the batch.
use Rattle.std.proofs.Common.{◌≡◌, ◌⊎◌, inl, inr, ⊎_elim, ℕ, ◌+◌, ◌-◌, ◌*◌, ◌<◌, ◌≤◌, min, Option, Some, None, List, [], ◌∷◌, ◌++◌, length, take, drop, replicate, sym, ◌∙◌, ap, subst, arith}
use Rattle.std.proofs.lemmas.List.{take_at, take_all}
use Rattle.store_api.specs.Areas.{Write, Contents, State, Image, MayLeave, IsImage, IsHonest, PassesSum, Puts, WasWhole, piece, write_of, overwritten}
use Rattle.store_api.proofs.Pieces.{piece_front}
use Rattle.stored_pages.specs.Reading.{IsGoodPage, IsCopyIn, IsPageIn, place_of}
use Rattle.doublewrite.specs.Batches.{BatchView, IsBatch, IsInBatch, IsInBatchToo, page_at}
use Rattle.doublewrite.specs.Kept.{HadCopy, IsSettled, IsReady, IsPageReady, WasPage, KeepsPages, IsStaged, filled}
use Rattle.doublewrite.proofs.Bytes.{filled_same, filled_whole, untouched}
use Rattle.stored_pages.proofs.Newest.{inside}
use Rattle.doublewrite.proofs.Wholes.{wrote_by, honest_page, settled_good}

-- the write of all copies, as it is made
abbrev pub copies_write : State → BatchView → Write
copies_write before batch = write_of before.double.seen 0 batch.bytes

at_front : (seen bytes : List ℕ) → write_of seen 0 bytes ≡ record { at = 0; bytes = bytes }
at_front seen bytes =
    let at : min 0 (length seen) ≡ 0 = omega arith in
    let gap : 0 - length seen ≡ 0 = omega arith in
    λ i. record { at = at i; bytes = replicate (gap i) 0 ++ bytes }

-- the state before that write is synced
pub record IsCopying (before : State) (batch : BatchView) (s : State) : Type 0 where
  pub synced : s.double.synced ≡ before.double.synced
  pub writes : s.double.writes ≡ before.double.writes ++ copies_write before batch ∷ []
  pub pages_is : s.pages ≡ before.pages
  pub log_is : s.log ≡ before.log

module _ (before : State) (batch : BatchView) (is : IsBatch batch) (ready : IsReady before) where
  -- a good copy that this write put whole is the batch's
  put_copy : (number k : ℕ) (bytes : List ℕ) → IsGoodPage number bytes → Puts (4096 * k) bytes (copies_write before batch) → IsInBatch batch number bytes
  put_copy number k bytes good puts =
      let w : Write = record { at = 0; bytes = batch.bytes } in
      let start : 4096 * k ≡ 4096 * k - 0 = omega arith in
      let put : Puts (4096 * k) bytes w = subst (Puts (4096 * k) bytes) (at_front before.double.seen batch.bytes) puts in
      record {
        slot = k;
        below = omega (arith, put.ends, good.size, is.whole);
        page = (λ i. take (sym good.size i) (drop (start i) batch.bytes)) ∙ put.same;
        number_is = good.number_is;
      }

  module _ (s : State) (now : IsCopying before batch s) (image : Image) (left : IsImage s image) (honest : IsHonest s image) where
    left_pages : MayLeave before.pages image.pages
    left_pages = subst (λ (c : Contents). MayLeave c image.pages) now.pages_is left.pages

    -- a page that isn't good in its place had no copy
    none_had : (number : ℕ) → IsPageReady batch before number → (IsGoodPage number (place_of number image.pages) → ⊥) → (bytes : List ℕ) → HadCopy number before.double bytes → ⊥
    none_had number page bad bytes had =
        ⊎_elim
        (λ (settled : IsSettled number before.pages). bad (settled_good number before.pages image.pages settled left_pages))
        (λ (none : (other : List ℕ) → HadCopy number before.double other → ⊥). none bytes had)
        page.settled

    -- a copy is the batch's then
    copy_of : (number : ℕ) (bytes : List ℕ) → IsPageReady batch before number → (IsGoodPage number (place_of number image.pages) → ⊥) → IsCopyIn image.double number bytes → IsInBatch batch number bytes
    copy_of number bytes page bad copy =
        let good : IsGoodPage number (piece 4096 copy.slot image.double) = subst (IsGoodPage number) (sym copy.stands) copy.good in
        let whole : WasWhole s.double (4096 * copy.slot) bytes = subst (WasWhole s.double (4096 * copy.slot)) copy.stands (honest_page copy.slot number s.double image.double honest.double good) in
        ⊎_elim
        (λ (old : WasWhole before.double (4096 * copy.slot) bytes). absurd (none_had number page bad bytes (record { slot = copy.slot; below = copy.below; good = copy.good; whole = old })))
        (λ (new : Puts (4096 * copy.slot) bytes (copies_write before batch)). put_copy number copy.slot bytes copy.good new)
        (wrote_by before.double s.double (copies_write before batch) (4096 * copy.slot) bytes now.synced now.writes whole)

    place_was : (number : ℕ) (bytes : List ℕ) → place_of number image.pages ≡ bytes → IsGoodPage number bytes → WasPage before number (Some bytes)
    place_was number bytes stands good = (
      good,
      subst (λ (c : Contents). WasWhole c (4096 * number) bytes) now.pages_is
          (subst (WasWhole s.pages (4096 * number)) stands (honest_page number number s.pages image.pages honest.pages (subst (IsGoodPage number) (sym stands) good))),
    )

    read_copying : (number : ℕ) (content : Option (List ℕ)) → IsPageReady batch before number → IsPageIn image.pages image.double number content → WasPage before number content ⊎ IsInBatchToo batch number content
    read_copying number (Some bytes) page read = elim read [
      | inl there ↦ inl (place_was number bytes there.0 there.1)
      | inr copied ↦ inr (copy_of number bytes page copied.0 copied.1.copy)
    ]
    read_copying number None page read = inl (λ settled. read.0 (settled_good number before.pages image.pages settled left_pages))

  pub keeps_copying : (s : State) → IsCopying before batch s → KeepsPages before batch s
  keeps_copying s now = record {
    each = λ image left honest number content page read. read_copying s now image left honest number content page read;
    log_is = now.log_is;
  }

  -- ---- once it is synced

  abbrev pub double_then : List ℕ
  double_then = overwritten before.double.seen (copies_write before batch)

  then_is : double_then ≡ batch.bytes ++ drop (length batch.bytes) before.double.seen
  then_is =
      let zero_more : 0 + length batch.bytes ≡ length batch.bytes = omega arith in
      ap (overwritten before.double.seen) (at_front before.double.seen batch.bytes) ∙ ap (λ (n : ℕ). batch.bytes ++ drop n before.double.seen) zero_more

  copies_then : (k : ℕ) → k < batch.count → piece 4096 k double_then ≡ page_at batch k
  copies_then k below =
      let rest = drop (length batch.bytes) before.double.seen in
      ap (λ (l : List ℕ). piece 4096 k l) then_is
      ∙ piece_front 4096 batch.count k (batch.bytes ++ rest) batch.bytes below
      (take_at batch.bytes rest (4096 * batch.count) is.whole ∙ sym (take_all (4096 * batch.count) batch.bytes (omega (arith, is.whole))))

  others_then : (number k : ℕ) → batch.count ≤ k → IsGoodPage number (piece 4096 k double_then) → WasWhole before.double (4096 * k) (piece 4096 k double_then)
  others_then number k from good =
      let seen = before.double.seen in
      let within = inside k double_then good.size in
      let same : filled k double_then ≡ filled k seen = filled_same k double_then seen (λ i low high. untouched seen 0 batch.bytes i (inr (omega (arith, low, from, is.whole)))) in
      let piece_is : filled k seen ≡ piece 4096 k double_then = sym same ∙ filled_whole k double_then within in
      subst (WasWhole before.double (4096 * k)) piece_is (ready.read_copies k (subst PassesSum (sym piece_is) good.sum))

  pub staged : (s : State) → s.double ≡ record { seen = double_then; synced = double_then; writes = [] } → s.pages ≡ before.pages → s.log ≡ before.log → IsStaged before batch s
  staged s double pages log = record {
    double = double_then;
    double_is = double;
    copies = copies_then;
    others = others_then;
    held = λ number bytes good whole. inr (subst (λ (c : Contents). WasWhole c (4096 * number) bytes) pages whole);
    settled = λ number out settled. subst (IsSettled number) (sym pages) settled;
    log_is = log;
  }
