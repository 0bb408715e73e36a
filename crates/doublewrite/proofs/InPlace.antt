-- What the write of one page in place, and the sync of all, make of a batch that is staged.
use Rattle.std.proofs.Common.{◌≡◌, ◌≢◌, ◌⊎◌, inl, inr, ⊎_elim, ℕ, ◌+◌, ◌-◌, ◌*◌, ◌<◌, ◌≤◌, List, [], ◌∷◌, ◌++◌, length, take, drop, replicate, get_or, sym, ◌∙◌, ap, subst, arith, get_or-take, get_or-drop}
use Rattle.std.specs.Prelude.{All, Contains}
use Rattle.std.proofs.lemmas.Bool.{cases_lt, cases_eq}
use Rattle.std.proofs.lemmas.List.{drop_at, take_all, get_or_append_left, get_or-replicate}
use Rattle.std.proofs.lemmas.List.Elements.{All-nil, All-push, Contains-push}
use Rattle.store_api.specs.Areas.{Write, Contents, State, MayLeave, PassesSum, Puts, WasWhole, write_of, overwritten, end_of}
use Rattle.stored_pages.specs.Reading.{IsGoodPage, place_of}
use Rattle.doublewrite.specs.Batches.{BatchView, IsBatch, IsInBatch, page_at, number_at}
use Rattle.doublewrite.specs.Kept.{IsSettled, Spares, HasHonestReads, IsStaged, HasPlaced, filled}
use Rattle.doublewrite.proofs.Bytes.{filled_same, filled_whole, length-gap, end_is, untouched, written_there, length-written}
use Rattle.stored_pages.proofs.Newest.{inside}
use Rattle.doublewrite.proofs.Zeros.{blank_fails}
use Rattle.doublewrite.proofs.Batched.{good_at, in_batch_at, one_number}
use Rattle.doublewrite.proofs.Wholes.{WasWhole-same, wrote_before, wrote_by, stood, stood_page, settled_good}

-- ---- the write of a good page in its place

module _ (n : ℕ) (b : List ℕ) (size : length b ≡ 4096) (c d : Contents) (seen : MayLeave c c.seen) (synced : d.synced ≡ c.synced) (writes : d.writes ≡ c.writes ++ write_of c.seen (4096 * n) b ∷ []) where
  abbrev w : Write
  w = write_of c.seen (4096 * n) b

  abbrev gap : List ℕ
  gap = replicate (4096 * n - length c.seen) 0

  end : end_of w ≡ 4096 * n + 4096
  end = omega (arith, end_is c.seen (4096 * n) b, size)

  -- it leaves other places alone, but for zeros past the end
  spares_settled : (m : ℕ) → m ≢ n → IsSettled m c → Spares m w
  spares_settled m other settled =
      let within = inside m c.synced settled.good.size in
      elim (cases_lt m n) [
        | inl before ↦ inr (omega (arith, within, seen.no_shorter, before))
        | inr from ↦ let behind : n < m = elim (cases_lt n m) [ inl lt ↦ lt | inr le ↦ absurd (other (omega (arith, from, le))) ] in inl (omega (arith, end, behind))
      ]

  pub still_settled : (m : ℕ) → m ≢ n → IsSettled m c → IsSettled m d
  still_settled m other settled = record {
    good = subst (λ (l : List ℕ). IsGoodPage m (place_of m l)) (sym synced) settled.good;
    spared = subst (All (Spares m)) (sym writes) (All-push (Spares m) c.writes w settled.spared (spares_settled m other settled));
  }

  -- the zeros that it puts past the end are no page
  gap_fails : (m : ℕ) (bytes : List ℕ) → m < n → length bytes ≡ 4096 → PassesSum bytes → Puts (4096 * m) bytes w → ⊥
  gap_fails m bytes before whole passes puts =
      let j = 4096 * m - w.at in
      let room : j + 4096 ≤ length gap = omega (arith, before, puts.begins, length-gap (4096 * n) c.seen) in
      blank_fails bytes whole
      (λ i below.
      let lt : i < length bytes = omega (arith, below, whole) in
      let in_gap : j + i < length gap = omega (arith, room, below) in
      ap (λ (l : List ℕ). get_or l i 0) (sym puts.same) ∙ get_or-take (length bytes) (drop j w.bytes) i 0 lt ∙ get_or-drop j w.bytes i 0
      ∙ get_or_append_left gap b 0 (j + i) in_gap ∙ get_or-replicate (4096 * n - length c.seen) (j + i) 0 0 (omega (arith, in_gap, length-gap (4096 * n) c.seen)))
      passes

  behind_gap : drop (4096 * n - w.at) w.bytes ≡ b
  behind_gap = drop_at gap b (4096 * n - w.at) (omega (arith, length-gap (4096 * n) c.seen))

  -- what it puts whole in the place of a page is the page
  pub put_page : (m : ℕ) (bytes : List ℕ) → length bytes ≡ 4096 → PassesSum bytes → Puts (4096 * m) bytes w → (m ≡ n) × (bytes ≡ b)
  put_page m bytes whole passes puts =
      let to : m ≤ n = omega (arith, puts.ends, end, whole) in
      elim (cases_lt m n) [
        | inl before ↦ absurd (gap_fails m bytes before whole passes puts)
        | inr from ↦
            let here : m ≡ n = omega (arith, from, to) in
            let start : 4096 * m - w.at ≡ 4096 * n - w.at = ap (λ (k : ℕ). 4096 * k - w.at) here in
            (here, sym puts.same ∙ (λ i. take (whole i) (drop (start i) w.bytes)) ∙ ap (take 4096) behind_gap ∙ take_all 4096 b (omega (arith, size)))
      ]

  puts_it : Puts (4096 * n) b w
  puts_it = record { begins = omega arith; ends = omega (arith, end, size); same = ap (take (length b)) behind_gap ∙ take_all (length b) b (omega arith) }

  module _ (reads : d.seen ≡ overwritten c.seen (write_of c.seen (4096 * n) b)) where
    other_bytes : (i : ℕ) → (i < 4096 * n) ⊎ (4096 * n + 4096 ≤ i) → get_or d.seen i 0 ≡ get_or c.seen i 0
    other_bytes i misses =
        ap (λ (l : List ℕ). get_or l i 0) reads
        ∙ untouched c.seen (4096 * n) b i (⊎_elim (λ (before : i < 4096 * n). inl before) (λ (behind : 4096 * n + 4096 ≤ i). inr (omega (arith, behind, size))) misses)

    pub filled_other : (k : ℕ) → k ≢ n → filled k d.seen ≡ filled k c.seen
    filled_other k other =
        filled_same k d.seen c.seen
        (λ i low high. other_bytes i (elim (cases_lt k n) [
          | inl before ↦ inl (omega (arith, before, high))
          | inr from ↦ let behind : n < k = elim (cases_lt n k) [ inl lt ↦ lt | inr le ↦ absurd (other (omega (arith, from, le))) ] in inr (omega (arith, behind, low))
        ]))

    pub place_written : place_of n d.seen ≡ b
    place_written = ap (place_of n) reads ∙ written_there n c.seen b size

    longer : length c.seen ≤ length d.seen
    longer = subst (λ (l : List ℕ). length c.seen ≤ length l) (sym reads) (length-written c.seen (4096 * n) b)

    -- other whole places are read as before
    pub place_other : (k : ℕ) → k ≢ n → length (place_of k c.seen) ≡ 4096 → place_of k d.seen ≡ place_of k c.seen
    place_other k other whole =
        let within = inside k c.seen whole in
        sym (filled_whole k d.seen (omega (arith, within, longer))) ∙ filled_other k other ∙ filled_whole k c.seen within

    pub still_honest : HasHonestReads c → HasHonestReads d
    still_honest honest k passes =
        ⊎_elim
        (λ (here : k ≡ n).
        let is : place_of n d.seen ≡ b = place_written in
        let within = inside n d.seen (ap length is ∙ size) in
        let filled_is : b ≡ filled k d.seen = sym (ap (λ (m : ℕ). filled m d.seen) here ∙ filled_whole n d.seen within ∙ is) in
        let put : WasWhole d (4096 * n) b = inr (w, subst (λ (l : List Write). Contains l w) (sym writes) (Contains-push c.writes w), puts_it) in
        subst (λ (l : List ℕ). WasWhole d (4096 * k) l) filled_is (subst (λ (m : ℕ). WasWhole d (4096 * m) b) (sym here) put))
        (λ (other : k ≡ n → ⊥).
        let same = filled_other k other in
        subst (WasWhole d (4096 * k)) (sym same) (wrote_before c d w (4096 * k) (filled k c.seen) synced writes (honest k (subst PassesSum same passes))))
        (cases_eq k n)

-- ---- a batch

module _ (before : State) (batch : BatchView) (is : IsBatch batch) (slot : ℕ) (below : slot < batch.count) (s : State) (staged : IsStaged before batch s) (seen : MayLeave s.pages s.pages.seen) where
  abbrev n : ℕ
  n = number_at batch slot

  abbrev b : List ℕ
  b = page_at batch slot

  pub wrote_one : (t : State) → t.pages.synced ≡ s.pages.synced → t.pages.writes ≡ s.pages.writes ++ write_of s.pages.seen (4096 * n) b ∷ [] → t.double ≡ s.double → t.log ≡ s.log → IsStaged before batch t
  wrote_one t synced writes double log =
      let page = good_at batch is slot below in
      record {
        double = staged.double;
        double_is = double ∙ staged.double_is;
        copies = staged.copies;
        others = staged.others;
        held = λ number bytes good whole.
            ⊎_elim
            (λ (old : WasWhole s.pages (4096 * number) bytes). staged.held number bytes good old)
            (λ (new : Puts (4096 * number) bytes (write_of s.pages.seen (4096 * n) b)).
            let put = put_page n b page.size s.pages t.pages seen synced writes number bytes good.size good.sum new in
            inl (record { slot = slot; below = below; page = sym put.1; number_is = good.number_is }))
            (wrote_by s.pages t.pages (write_of s.pages.seen (4096 * n) b) (4096 * number) bytes synced writes whole);
        settled = λ number out settled.
            still_settled n b page.size s.pages t.pages seen synced writes number (λ (same : number ≡ n). out b (subst (λ (m : ℕ). IsInBatch batch m b) (sym same) (in_batch_at batch slot below))) (staged.settled number out settled);
        log_is = log ∙ staged.log_is;
      }

module _ (batch : BatchView) (is : IsBatch batch) (slot : ℕ) (below : slot < batch.count) (s : State) (seen : MayLeave s.pages s.pages.seen) where
  pub placed_one : (t : State) → t.pages.seen ≡ overwritten s.pages.seen (write_of s.pages.seen (4096 * number_at batch slot) (page_at batch slot)) → t.pages.synced ≡ s.pages.synced → t.pages.writes ≡ s.pages.writes ++ write_of s.pages.seen (4096 * number_at batch slot) (page_at batch slot) ∷ [] → HasPlaced (record { batch = batch; placed = slot }) s
      → (k : ℕ) → k < slot + 1 → place_of (number_at batch k) t.pages.seen ≡ page_at batch k
  placed_one t reads synced writes placed k upto =
      let page = good_at batch is slot below in
      elim (cases_lt k slot) [
        | inl earlier ↦
            let in_k : k < batch.count = omega (arith, earlier, below) in
            let apart : number_at batch k ≢ number_at batch slot = λ same. let one = one_number batch is k slot in_k below same in omega (arith, one, earlier) in
            let there = placed.each k earlier in
            place_other (number_at batch slot) (page_at batch slot) page.size s.pages t.pages seen synced writes reads (number_at batch k) apart (ap length there ∙ (good_at batch is k in_k).size) ∙ there
        | inr last ↦
            let here : k ≡ slot = omega (arith, last, upto) in
            subst (λ (m : ℕ). place_of (number_at batch m) t.pages.seen ≡ page_at batch m) (sym here) (place_written (number_at batch slot) (page_at batch slot) page.size s.pages t.pages seen synced writes reads)
      ]

module _ (before : State) (batch : BatchView) (s : State) (staged : IsStaged before batch s) (seen : MayLeave s.pages s.pages.seen) where
  -- a sync that failed
  pub sync_failed : (t : State) → t.pages.synced ≡ s.pages.synced → t.pages.writes ≡ s.pages.writes → t.double ≡ s.double → t.log ≡ s.log → IsStaged before batch t
  sync_failed t synced writes double log = record {
    double = staged.double;
    double_is = double ∙ staged.double_is;
    copies = staged.copies;
    others = staged.others;
    held = λ number bytes good whole. staged.held number bytes good (WasWhole-same t.pages s.pages (4096 * number) bytes (sym synced) (sym writes) whole);
    settled = λ number out settled.
        let still = staged.settled number out settled in
        record { good = subst (λ (l : List ℕ). IsGoodPage number (place_of number l)) (sym synced) still.good; spared = subst (All (Spares number)) (sym writes) still.spared };
    log_is = log ∙ staged.log_is;
  }

  -- and one that didn't
  pub synced_all : (t : State) → t.pages ≡ record { seen = s.pages.seen; synced = s.pages.seen; writes = [] } → HasHonestReads s.pages → t.double ≡ s.double → t.log ≡ s.log → IsStaged before batch t
  synced_all t pages honest double log =
      let none : t.pages.writes ≡ [] = ap (λ (c : Contents). c.writes) pages in
      let same : t.pages.synced ≡ s.pages.seen = ap (λ (c : Contents). c.synced) pages in
      record {
        double = staged.double;
        double_is = double ∙ staged.double_is;
        copies = staged.copies;
        others = staged.others;
        held = λ number bytes good whole.
            let place : place_of number s.pages.seen ≡ bytes = ap (place_of number) (sym same) ∙ stood_page number bytes t.pages.synced good (stood t.pages (4096 * number) bytes none whole) in
            let within = inside number s.pages.seen (ap length place ∙ good.size) in
            let read : filled number s.pages.seen ≡ bytes = filled_whole number s.pages.seen within ∙ place in
            staged.held number bytes good (subst (WasWhole s.pages (4096 * number)) read (honest number (subst PassesSum (sym read) good.sum)));
        settled = λ number out settled.
            let still = staged.settled number out settled in
            record {
              good = subst (λ (l : List ℕ). IsGoodPage number (place_of number l)) (sym same) (settled_good number s.pages s.pages.seen still seen);
              spared = subst (All (Spares number)) (sym none) (All-nil (Spares number));
            };
        log_is = log ∙ staged.log_is;
      }
