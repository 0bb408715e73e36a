-- What each step of a repair makes of the areas, and how pages are read meanwhile.
use Rattle.std.proofs.Common.{◌≡◌, ◌≢◌, inl, inr, ⊎_elim, ℕ, ◌+◌, ◌*◌, ◌<◌, ◌≤◌, Option, Some, None, List, [], ◌∷◌, ◌++◌, length, take, drop, replicate, refl, sym, ◌∙◌, ap, subst, arith}
use Rattle.std.specs.Prelude.{All}
use Rattle.std.proofs.lemmas.Bool.{cases_lt, cases_eq}
use Rattle.std.proofs.lemmas.List.{length-replicate, get_or-replicate}
use Rattle.std.proofs.lemmas.List.Elements.{All-nil}
use Rattle.store_api.specs.Areas.{Contents, State, Image, MayLeave, IsImage, IsHonest, PassesSum, Puts, WasWhole, piece, write_of, overwritten}
use Rattle.store_api.proofs.Pieces.{piece-take}
use Rattle.store_api.proofs.Overwritten.{length-overwritten}
use Rattle.stored_pages.specs.Reading.{IsGoodPage, place_of, IsCopyIn, IsNewestCopy, IsPageIn}
use Rattle.doublewrite.specs.Kept.{Spares, filled}
use Rattle.doublewrite.specs.Repairing.{IsQuiet, WasRead, ReadsAs, IsUnharmed, IsRestoring, IsRestored, IsClearing, IsRepaired}
use Rattle.doublewrite.proofs.Bytes.{length-page, filled_whole, end_is}
use Rattle.stored_pages.proofs.Newest.{inside}
use Rattle.doublewrite.proofs.Zeros.{blank_fails}
use Rattle.doublewrite.proofs.Wholes.{WasWhole-same, wrote_by, stood, stood_page, left_alone, honest_page, settled_good}
use Rattle.doublewrite.proofs.InPlace.{still_settled, put_page, still_honest, place_written, place_other, filled_other}

-- ---- while pages are written in place

unharmed_double : (before s : State) → IsUnharmed before s → (image : Image) → IsImage s image → image.double ≡ before.double.synced
unharmed_double before s un image left =
    left_alone s.double image.double un.double_rest left.double ∙ un.double_synced

module _ (before s : State) (un : IsUnharmed before s) (image : Image) (left : IsImage s image) (honest : IsHonest s image) where
  bad_before : (number : ℕ) → (IsGoodPage number (place_of number image.pages) → ⊥) → IsGoodPage number (place_of number before.pages.synced) → ⊥
  bad_before number bad good = bad (settled_good number s.pages image.pages (un.settled number good) left.pages)

  read_unharmed : (number : ℕ) (content : Option (List ℕ)) → IsPageIn image.pages image.double number content → WasRead before number content
  read_unharmed number (Some bytes) read = elim read [
    | inl there ↦
        let good : IsGoodPage number (place_of number image.pages) = subst (IsGoodPage number) (sym there.0) there.1 in
        un.held number bytes there.1 (subst (WasWhole s.pages (4096 * number)) there.0 (honest_page number number s.pages image.pages honest.pages good))
    | inr copied ↦ inr (bad_before number copied.0, subst (λ (d : List ℕ). IsNewestCopy d number bytes) (unharmed_double before s un image left) copied.1)
  ]
  read_unharmed number None read = (bad_before number read.0, subst (λ (d : List ℕ). (bytes : List ℕ) → IsCopyIn d number bytes → ⊥) (unharmed_double before s un image left) read.1)

pub reads_unharmed : (before s : State) → IsUnharmed before s → ReadsAs before s
reads_unharmed before s un = record { each = λ image left honest number content small read. read_unharmed before s un image left honest number content read; log_is = un.log_is }

pub begun : (before : State) → IsQuiet before → IsRestoring before 0 before
begun before quiet = record {
  unharmed = record {
    quiet = quiet;
    double_synced = refl;
    double_rest = quiet.double_rest;
    log_is = refl;
    held = λ number bytes good whole. inl (stood_page number bytes before.pages.synced good (stood before.pages (4096 * number) bytes quiet.pages_rest whole), good);
    settled = λ number good. record { good = good; spared = subst (All (Spares number)) (sym quiet.pages_rest) (All-nil (Spares number)) };
  };
  double_seen = quiet.double_seen;
  honest = quiet.honest;
  restored = λ slot number below small good. absurd (omega (arith, below));
}

-- only what was written matters
pub still_unharmed : (before b s : State) → IsUnharmed before b → s.pages.synced ≡ b.pages.synced → s.pages.writes ≡ b.pages.writes → s.double.synced ≡ b.double.synced → s.double.writes ≡ b.double.writes → s.log ≡ b.log → IsUnharmed before s
still_unharmed before b s un synced writes double double_writes log = record {
  quiet = un.quiet;
  double_synced = double ∙ un.double_synced;
  double_rest = double_writes ∙ un.double_rest;
  log_is = log ∙ un.log_is;
  held = λ number bytes good whole. un.held number bytes good (WasWhole-same s.pages b.pages (4096 * number) bytes (sym synced) (sym writes) whole);
  settled = λ number good.
      let still = un.settled number good in
      record { good = subst (λ (l : List ℕ). IsGoodPage number (place_of number l)) (sym synced) still.good; spared = subst (All (Spares number)) (sym writes) still.spared };
}

-- a read changes nothing
pub still_restoring : (before b s : State) (upto : ℕ) → IsRestoring before upto b → s.pages.synced ≡ b.pages.synced → s.pages.writes ≡ b.pages.writes → s.pages.seen ≡ b.pages.seen → s.double ≡ b.double → s.log ≡ b.log → IsRestoring before upto s
still_restoring before b s upto is synced writes seen double log = record {
  unharmed = still_unharmed before b s is.unharmed synced writes (ap (λ (c : Contents). c.synced) double) (ap (λ (c : Contents). c.writes) double) log;
  double_seen = ap (λ (c : Contents). c.seen) double ∙ is.double_seen;
  honest = λ k passes.
      let same : filled k s.pages.seen ≡ filled k b.pages.seen = ap (filled k) seen in
      subst (WasWhole s.pages (4096 * k)) (sym same) (WasWhole-same b.pages s.pages (4096 * k) (filled k b.pages.seen) synced writes (is.honest k (subst PassesSum same passes)));
  restored = λ slot number below small good. subst (λ (l : List ℕ). IsGoodPage number (place_of number l)) (sym seen) (is.restored slot number below small good);
}

-- the page of one copy more is good
pub one_more : (before s : State) (upto : ℕ) → IsRestoring before upto s → ((number : ℕ) → number < 65536 → IsGoodPage number (piece 4096 upto before.double.synced) → IsGoodPage number (place_of number s.pages.seen)) → IsRestoring before (upto + 1) s
one_more before s upto is here = record {
  unharmed = is.unharmed;
  double_seen = is.double_seen;
  honest = is.honest;
  restored = λ slot number below small good. elim (cases_lt slot upto) [
    | inl earlier ↦ is.restored slot number earlier small good
    | inr last ↦ let at : slot ≡ upto = omega (arith, last, below) in here number small (subst (λ (k : ℕ). IsGoodPage number (piece 4096 k before.double.synced)) at good)
  ];
}

-- ---- the write of a page from its newest copy

module _ (before b : State) (upto : ℕ) (is : IsRestoring before upto b) (law : MayLeave b.pages b.pages.seen) (n : ℕ) (page : List ℕ) (good : IsGoodPage n page) (newest : IsNewestCopy before.double.synced n page)
    (bad : IsGoodPage n (place_of n b.pages.seen) → ⊥) (s : State) (synced : s.pages.synced ≡ b.pages.synced) (writes : s.pages.writes ≡ b.pages.writes ++ write_of b.pages.seen (4096 * n) page ∷ []) (double : s.double ≡ b.double) (log : s.log ≡ b.log) where
  bad_at_first : IsGoodPage n (place_of n before.pages.synced) → ⊥
  bad_at_first there = bad (settled_good n b.pages b.pages.seen (is.unharmed.settled n there) law)

  pub wrote_copy : IsUnharmed before s
  wrote_copy = record {
    quiet = is.unharmed.quiet;
    double_synced = ap (λ (c : Contents). c.synced) double ∙ is.unharmed.double_synced;
    double_rest = ap (λ (c : Contents). c.writes) double ∙ is.unharmed.double_rest;
    log_is = log ∙ is.unharmed.log_is;
    held = λ number bytes whole_page whole.
        ⊎_elim
        (λ (old : WasWhole b.pages (4096 * number) bytes). is.unharmed.held number bytes whole_page old)
        (λ (new : Puts (4096 * number) bytes (write_of b.pages.seen (4096 * n) page)).
        let put = put_page n page good.size b.pages s.pages law synced writes number bytes whole_page.size whole_page.sum new in
        subst (λ (m : ℕ). WasRead before m (Some bytes)) (sym put.0) (subst (λ (l : List ℕ). WasRead before n (Some l)) (sym put.1) (inr (bad_at_first, newest))))
        (wrote_by b.pages s.pages (write_of b.pages.seen (4096 * n) page) (4096 * number) bytes synced writes whole);
    settled = λ number there.
        still_settled n page good.size b.pages s.pages law synced writes number (λ (same : number ≡ n). bad_at_first (subst (λ (m : ℕ). IsGoodPage m (place_of m before.pages.synced)) same there)) (is.unharmed.settled number there);
  }

  module _ (reads : s.pages.seen ≡ overwritten b.pages.seen (write_of b.pages.seen (4096 * n) page)) where
    good_then : (number : ℕ) → (number ≢ n → IsGoodPage number (place_of number b.pages.seen)) → IsGoodPage number (place_of number s.pages.seen)
    good_then number there =
        ⊎_elim
        (λ (here : number ≡ n). subst (λ (m : ℕ). IsGoodPage m (place_of m s.pages.seen)) (sym here) (subst (IsGoodPage n) (sym (place_written n page good.size b.pages s.pages law synced writes reads)) good))
        (λ (other : number ≡ n → ⊥). let was = there other in subst (IsGoodPage number) (sym (place_other n page good.size b.pages s.pages law synced writes reads number other was.size)) was)
        (cases_eq number n)

    -- and then the page of that copy is good
    pub restored_copy : IsGoodPage n (piece 4096 upto before.double.synced) → IsRestoring before (upto + 1) s
    restored_copy own =
        let so_far : IsRestoring before upto s = record {
          unharmed = wrote_copy;
          double_seen = ap (λ (c : Contents). c.seen) double ∙ is.double_seen;
          honest = still_honest n page good.size b.pages s.pages law synced writes reads is.honest;
          restored = λ slot number below small copy. good_then number (λ other. is.restored slot number below small copy);
        } in
        one_more before s upto so_far
        (λ number small copy.
        let here : number ≡ n = sym copy.number_is ∙ own.number_is in
        good_then number (λ other. absurd (other here)))

-- ---- the sync of all pages

pub all_restored : (before b : State) → IsRestoring before 64 b → MayLeave b.pages b.pages.seen → (s : State) → s.pages ≡ record { seen = b.pages.seen; synced = b.pages.seen; writes = [] } → s.double ≡ b.double → s.log ≡ b.log → IsClearing before 0 s
all_restored before b is law s pages double log =
    let stands : s.pages.synced ≡ b.pages.seen = ap (λ (c : Contents). c.synced) pages in
    let seen_is : s.double.seen ≡ before.double.synced = ap (λ (c : Contents). c.seen) double ∙ is.double_seen in
    let synced_is : s.double.synced ≡ before.double.synced = ap (λ (c : Contents). c.synced) double ∙ is.unharmed.double_synced in
    let none : s.double.writes ≡ [] = ap (λ (c : Contents). c.writes) double ∙ is.unharmed.double_rest in
    record {
      restored = record {
        rest = ap (λ (c : Contents). c.writes) pages;
        seen = ap (λ (c : Contents). c.seen) pages ∙ sym stands;
        held = λ number bytes good place.
            let there : place_of number b.pages.seen ≡ bytes = ap (place_of number) (sym stands) ∙ place in
            let read : filled number b.pages.seen ≡ bytes = filled_whole number b.pages.seen (inside number b.pages.seen (ap length there ∙ good.size)) ∙ there in
            is.unharmed.held number bytes good (subst (WasWhole b.pages (4096 * number)) read (is.honest number (subst PassesSum (sym read) good.sum)));
        settled = λ number good. subst (λ (l : List ℕ). IsGoodPage number (place_of number l)) (sym stands) (settled_good number b.pages b.pages.seen (is.unharmed.settled number good) law);
        restored = λ slot number below small good. subst (λ (l : List ℕ). IsGoodPage number (place_of number l)) (sym stands) (is.restored slot number below small good);
        copies = λ slot number bytes below good whole.
            (λ i. take (sym good.size i) (drop (4096 * slot) (sym synced_is i))) ∙ stood s.double (4096 * slot) bytes none whole;
        log_is = log ∙ is.unharmed.log_is;
      };
      cleared = λ slot number below good. absurd (omega (arith, below));
      others = λ slot from. ap (filled slot) seen_is;
      long = ap length seen_is;
    }

-- ---- while copies are overwritten

module _ (before s : State) (is : IsRestored before s) (image : Image) (left : IsImage s image) (honest : IsHonest s image) where
  pages_are : image.pages ≡ s.pages.synced
  pages_are = left_alone s.pages image.pages is.rest left.pages

  place_is : (number : ℕ) → place_of number image.pages ≡ place_of number s.pages.synced
  place_is number = ap (place_of number) pages_are

  -- a page that isn't good in its place has no copy, and had none
  bad_then : (number : ℕ) → (IsGoodPage number (place_of number image.pages) → ⊥) → IsGoodPage number (place_of number s.pages.synced) → ⊥
  bad_then number bad good = bad (subst (IsGoodPage number) (sym (place_is number)) good)

  had_none : (number : ℕ) → number < 65536 → (IsGoodPage number (place_of number image.pages) → ⊥) → (bytes : List ℕ) → IsCopyIn before.double.synced number bytes → ⊥
  had_none number small bad bytes copy = bad_then number bad (is.restored copy.slot number copy.below small (subst (IsGoodPage number) (sym copy.stands) copy.good))

  copy_was : (number : ℕ) (bytes : List ℕ) → IsCopyIn image.double number bytes → IsCopyIn before.double.synced number bytes
  copy_was number bytes copy =
      let good : IsGoodPage number (piece 4096 copy.slot image.double) = subst (IsGoodPage number) (sym copy.stands) copy.good in
      let whole = subst (WasWhole s.double (4096 * copy.slot)) copy.stands (honest_page copy.slot number s.double image.double honest.double good) in
      record { slot = copy.slot; below = copy.below; stands = is.copies copy.slot number bytes copy.below copy.good whole; good = copy.good }

  read_restored : (number : ℕ) (content : Option (List ℕ)) → number < 65536 → IsPageIn image.pages image.double number content → WasRead before number content
  read_restored number (Some bytes) small read = elim read [
    | inl there ↦ is.held number bytes there.1 (sym (place_is number) ∙ there.0)
    | inr copied ↦ absurd (had_none number small copied.0 bytes (copy_was number bytes copied.1.copy))
  ]
  read_restored number None small read = (λ good. bad_then number read.0 (is.settled number good), λ bytes copy. had_none number small read.0 bytes copy)

pub reads_restored : (before s : State) → IsRestored before s → ReadsAs before s
reads_restored before s is = record { each = λ image left honest number content small read. read_restored before s is image left honest number content small read; log_is = is.log_is }

-- ---- the write of zeros over a copy

blank_bad : (number : ℕ) → IsGoodPage number (replicate 4096 0) → ⊥
blank_bad number good = blank_fails (replicate 4096 0) (length-replicate {A = ℕ} 4096 0) (λ i below. get_or-replicate 4096 i 0 0 below) good.sum

-- only what was written matters
pub still_restored : (before b s : State) → IsRestored before b → s.pages ≡ b.pages → s.double.synced ≡ b.double.synced → s.double.writes ≡ b.double.writes → s.log ≡ b.log → IsRestored before s
still_restored before b s is pages synced writes log =
    let stands : s.pages.synced ≡ b.pages.synced = ap (λ (c : Contents). c.synced) pages in
    record {
      rest = ap (λ (c : Contents). c.writes) pages ∙ is.rest;
      seen = ap (λ (c : Contents). c.seen) pages ∙ is.seen ∙ sym stands;
      held = λ number bytes good place. is.held number bytes good (ap (place_of number) (sym stands) ∙ place);
      settled = λ number good. subst (λ (l : List ℕ). IsGoodPage number (place_of number l)) (sym stands) (is.settled number good);
      restored = λ slot number below small good. subst (λ (l : List ℕ). IsGoodPage number (place_of number l)) (sym stands) (is.restored slot number below small good);
      copies = λ slot number bytes below good whole. is.copies slot number bytes below good (WasWhole-same s.double b.double (4096 * slot) bytes (sym synced) (sym writes) whole);
      log_is = log ∙ is.log_is;
    }

-- a whole piece of Double as a read gives it now is as it was, if its slot is not dealt with yet
kept_piece : (before s : State) (upto slot : ℕ) → IsClearing before upto s → upto ≤ slot → length (piece 4096 slot s.double.seen) ≡ 4096 → piece 4096 slot s.double.seen ≡ piece 4096 slot before.double.synced
kept_piece before s upto slot is from size =
    let within = inside slot s.double.seen size in
    sym (filled_whole slot s.double.seen within) ∙ is.others slot from ∙ filled_whole slot before.double.synced (omega (arith, within, is.long))

-- a slot without a good copy
pub no_copy_there : (before s : State) (upto : ℕ) → IsClearing before upto s → ((number : ℕ) → IsGoodPage number (piece 4096 upto before.double.synced) → ⊥) → IsClearing before (upto + 1) s
no_copy_there before s upto is none = record {
  restored = is.restored;
  cleared = λ slot number below good. elim (cases_lt slot upto) [
    | inl earlier ↦ is.cleared slot number earlier good
    | inr last ↦
        let at : slot ≡ upto = omega (arith, last, below) in
        let here : IsGoodPage number (piece 4096 upto s.double.seen) = subst (λ (k : ℕ). IsGoodPage number (piece 4096 k s.double.seen)) at good in
        none number (subst (IsGoodPage number) (kept_piece before s upto upto is (omega arith) here.size) here)
  ];
  others = λ slot from. is.others slot (omega (arith, from));
  long = is.long;
}

module _ (before b : State) (upto : ℕ) (is : IsClearing before upto b) (law : MayLeave b.double b.double.seen) (within : 4096 * upto + 4096 ≤ length before.double.synced) (s : State)
    (synced : s.double.synced ≡ b.double.synced) (writes : s.double.writes ≡ b.double.writes ++ write_of b.double.seen (4096 * upto) (replicate 4096 0) ∷ []) (pages : s.pages ≡ b.pages) (log : s.log ≡ b.log) where
  size : length {A = ℕ} (replicate 4096 0) ≡ 4096
  size = length-replicate {A = ℕ} 4096 0

  pub wrote_zeros : IsRestored before s
  wrote_zeros =
      let stands : s.pages.synced ≡ b.pages.synced = ap (λ (c : Contents). c.synced) pages in
      let was = is.restored in
      record {
        rest = ap (λ (c : Contents). c.writes) pages ∙ was.rest;
        seen = ap (λ (c : Contents). c.seen) pages ∙ was.seen ∙ sym stands;
        held = λ number bytes good place. was.held number bytes good (ap (place_of number) (sym stands) ∙ place);
        settled = λ number good. subst (λ (l : List ℕ). IsGoodPage number (place_of number l)) (sym stands) (was.settled number good);
        restored = λ slot number below small good. subst (λ (l : List ℕ). IsGoodPage number (place_of number l)) (sym stands) (was.restored slot number below small good);
        copies = λ slot number bytes below good whole.
            ⊎_elim
            (λ (old : WasWhole b.double (4096 * slot) bytes). was.copies slot number bytes below good old)
            (λ (new : Puts (4096 * slot) bytes (write_of b.double.seen (4096 * upto) (replicate 4096 0))).
            let put = put_page upto (replicate 4096 0) size b.double s.double law synced writes slot bytes good.size good.sum new in
            absurd (blank_bad number (subst (IsGoodPage number) put.1 good)))
            (wrote_by b.double s.double (write_of b.double.seen (4096 * upto) (replicate 4096 0)) (4096 * slot) bytes synced writes whole);
        log_is = log ∙ was.log_is;
      }

  module _ (reads : s.double.seen ≡ overwritten b.double.seen (write_of b.double.seen (4096 * upto) (replicate 4096 0))) where
    long_still : length s.double.seen ≡ length before.double.synced
    long_still =
        omega (
          arith,
          ap length reads,
          length-overwritten b.double.seen (write_of b.double.seen (4096 * upto) (replicate 4096 0)) (omega arith),
          end_is b.double.seen (4096 * upto) (replicate 4096 0),
          size,
          within,
          is.long,
        )

    pub cleared_one : IsClearing before (upto + 1) s
    cleared_one = record {
      restored = wrote_zeros;
      cleared = λ slot number below good. elim (cases_lt slot upto) [
        | inl earlier ↦
            let apart : slot ≢ upto = λ same. omega (arith, same, earlier) in
            let in_old : 4096 * slot + 4096 ≤ length b.double.seen = omega (arith, earlier, within, is.long) in
            let old = length-page slot b.double.seen in_old in
            is.cleared slot number earlier (subst (IsGoodPage number) (place_other upto (replicate 4096 0) size b.double s.double law synced writes reads slot apart old) good)
        | inr last ↦
            let at : slot ≡ upto = omega (arith, last, below) in
            let here : IsGoodPage number (piece 4096 upto s.double.seen) = subst (λ (k : ℕ). IsGoodPage number (piece 4096 k s.double.seen)) at good in
            blank_bad number (subst (IsGoodPage number) (place_written upto (replicate 4096 0) size b.double s.double law synced writes reads) here)
      ];
      others = λ slot from.
          filled_other upto (replicate 4096 0) size b.double s.double law synced writes reads slot (λ same. omega (arith, same, from)) ∙ is.others slot (omega (arith, from));
      long = long_still;
    }

-- ---- the sync of all copies

module _ (before b : State) (is : IsClearing before 64 b) (s : State) (double : s.double ≡ record { seen = b.double.seen; synced = b.double.seen; writes = [] }) (pages : s.pages ≡ b.pages) (log : s.log ≡ b.log) where
  stands_double : s.double.synced ≡ b.double.seen
  stands_double = ap (λ (c : Contents). c.synced) double

  none_left : (number slot : ℕ) → slot < 64 → IsGoodPage number (piece 4096 slot s.double.synced) → ⊥
  none_left number slot below good = is.cleared slot number below (subst (λ (l : List ℕ). IsGoodPage number (piece 4096 slot l)) stands_double good)

  pub all_cleared : IsRestored before s
  all_cleared =
      let stands : s.pages.synced ≡ b.pages.synced = ap (λ (c : Contents). c.synced) pages in
      let was = is.restored in
      record {
        rest = ap (λ (c : Contents). c.writes) pages ∙ was.rest;
        seen = ap (λ (c : Contents). c.seen) pages ∙ was.seen ∙ sym stands;
        held = λ number bytes good place. was.held number bytes good (ap (place_of number) (sym stands) ∙ place);
        settled = λ number good. subst (λ (l : List ℕ). IsGoodPage number (place_of number l)) (sym stands) (was.settled number good);
        restored = λ slot number below small good. subst (λ (l : List ℕ). IsGoodPage number (place_of number l)) (sym stands) (was.restored slot number below small good);
        copies = λ slot number bytes below good whole.
            let there : piece 4096 slot s.double.synced ≡ bytes =
            (λ i. take (sym good.size i) (drop (4096 * slot) s.double.synced)) ∙ stood s.double (4096 * slot) bytes (ap (λ (c : Contents). c.writes) double) whole in
            absurd (none_left number slot below (subst (IsGoodPage number) (sym there) good));
        log_is = log ∙ was.log_is;
      }

  pub repaired : IsRepaired s
  repaired = record {
    pages_rest = all_cleared.rest;
    pages_seen = all_cleared.seen;
    double_rest = ap (λ (c : Contents). c.writes) double;
    double_seen = ap (λ (c : Contents). c.seen) double ∙ sym stands_double;
    no_copy = λ number bytes copy. none_left number copy.slot copy.below (subst (IsGoodPage number) (sym copy.stands) copy.good);
  }

-- ---- the copies as they were read

-- the first 64 copies are all that matters
copy_of : (double area : List ℕ) → double ≡ take 262144 area → (slot : ℕ) → slot < 64 → piece 4096 slot double ≡ piece 4096 slot area
copy_of double area is slot below = ap (piece 4096 slot) is ∙ piece-take 4096 64 slot area below

pub good_copy : (double area : List ℕ) → double ≡ take 262144 area → (slot number : ℕ) → slot < 64 → IsGoodPage number (piece 4096 slot double) → IsGoodPage number (piece 4096 slot area)
good_copy double area is slot number below good = subst (IsGoodPage number) (copy_of double area is slot below) good

pub no_good_copy : (double area : List ℕ) → double ≡ take 262144 area → (slot number : ℕ) → slot < 64 → (IsGoodPage number (piece 4096 slot double) → ⊥) → IsGoodPage number (piece 4096 slot area) → ⊥
no_good_copy double area is slot number below bad good = bad (subst (IsGoodPage number) (sym (copy_of double area is slot below)) good)

pub newest_too : (double area : List ℕ) → double ≡ take 262144 area → (number : ℕ) (bytes : List ℕ) → IsNewestCopy double number bytes → IsNewestCopy area number bytes
newest_too double area is number bytes newest =
    let copy = newest.copy in
    record {
      copy = record { slot = copy.slot; below = copy.below; stands = sym (copy_of double area is copy.slot copy.below) ∙ copy.stands; good = copy.good };
      newest = λ other there. newest.newest other (record { slot = there.slot; below = there.below; stands = copy_of double area is there.slot there.below ∙ there.stands; good = there.good });
    }

-- a copy that is good was read whole
pub read_whole : (double area : List ℕ) → double ≡ take 262144 area → (slot number : ℕ) → slot < 64 → IsGoodPage number (piece 4096 slot double) → 4096 * slot + 4096 ≤ length area
read_whole double area is slot number below good = inside slot area (good_copy double area is slot number below good).size
