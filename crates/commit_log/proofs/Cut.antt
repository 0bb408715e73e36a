-- What is left of a draft when the newest changes are taken back.
use Rattle.std.proofs.Common.{◌≡◌, ℕ, zero, suc, ◌-◌, ◌<◌, ◌≤◌, Bool, List, [], ◌∷◌, ◌++◌, length, take, drop, get_or, refl, sym, ◌∙◌}
use Rattle.std.proofs.Common.{ap, subst, arith, append_assoc, length-append, length-drop}
use Rattle.std.specs.List.{AllByRecursion}
use Rattle.std.proofs.lemmas.List.{take_at}
use Rattle.std.proofs.Math.Seq.{get_or-append_seam}
use Rattle.inno_db.specs.declared.change.Change.{Change}
use Rattle.inno_model.specs.Past.{oldest}
use Rattle.log_format.specs.Group.{record_bytes, IsRecord}
use Rattle.law_crashes.specs.Records.{record_of}
use Rattle.commit_log.specs.DraftsView.{bytes_of}
use Rattle.commit_log.specs.Drafted.{starts_of, IsDraft}
use Rattle.commit_log.proofs.DraftSpelling.{bytes_of-push, length_starts, count_is}

-- the older changes stand in front, and the others begin where these end
record CutAt (older changes : List Change) : Type 0 where
  pub rest : List ℕ
  pub bytes : bytes_of changes ≡ bytes_of older ++ rest
  pub more : List ℕ
  pub starts : starts_of changes ≡ starts_of older ++ length (bytes_of older) ∷ more

cut_behind : (k : ℕ) (changes : List Change) → k < length changes → CutAt (drop (suc k) changes) changes
cut_behind k [] within = absurd (omega (arith, within))
cut_behind zero (c ∷ cs) within = record { rest = record_bytes (record_of c); bytes = bytes_of-push c cs; more = []; starts = refl }
cut_behind (suc k) (c ∷ cs) within =
    let at = cut_behind k cs (omega (arith, within)) in
    let older = drop (suc k) cs in
    record {
      rest = at.rest ++ record_bytes (record_of c);
      bytes =
          bytes_of-push c cs
          ∙ ap (λ (l : List ℕ). l ++ record_bytes (record_of c)) at.bytes
          ∙ append_assoc (bytes_of older) at.rest (record_bytes (record_of c));
      more = at.more ++ length (bytes_of cs) ∷ [];
      starts =
          ap (λ (l : List ℕ). l ++ length (bytes_of cs) ∷ []) at.starts
          ∙ append_assoc (starts_of older) (length (bytes_of older) ∷ at.more) (length (bytes_of cs) ∷ []);
    }

all_behind : {X : Type 0} (P : X → Type 0) (k : ℕ) (xs : List X) → AllByRecursion P xs → AllByRecursion P (drop k xs)
all_behind P zero [] all = tt
all_behind P (suc k) [] all = tt
all_behind P zero (x ∷ xs) all = all
all_behind P (suc k) (x ∷ xs) all = all_behind P k xs all.1

pub length_oldest : (keep : ℕ) (changes : List Change) → keep ≤ length changes → length (oldest keep changes) ≡ keep
length_oldest keep changes within = omega (arith, within, length-drop (length changes - keep) changes)

pub all_oldest : (keep : ℕ) (changes : List Change) → length changes ≤ keep → oldest keep changes ≡ changes
all_oldest keep changes few =
    let none : length changes - keep ≡ 0 = omega (arith, few) in
    ap (λ (n : ℕ). drop n changes) none

module _
    (changes : List Change) (bytes starts : List ℕ) (ready : Bool) (promised has_bytes has_starts : ℕ)
    (is : IsDraft changes bytes starts ready promised has_bytes has_starts) (keep : ℕ) (within : keep < length starts) where
  some : keep < length changes
  some = omega (arith, within, count_is changes bytes starts ready promised has_bytes has_starts is)

  at : CutAt (oldest keep changes) changes
  at =
      let k = length changes - keep - 1 in
      let is_suc : suc k ≡ length changes - keep = omega (arith, some) in
      subst (λ (n : ℕ). CutAt (drop n changes) changes) is_suc (cut_behind k changes (omega (arith, some)))

  kept_long : length (starts_of (oldest keep changes)) ≡ keep
  kept_long = length_starts (oldest keep changes) ∙ length_oldest keep changes (omega (arith, some))

  -- there the newer ones begin
  pub start_is : (d : ℕ) → get_or starts keep d ≡ length (bytes_of (oldest keep changes))
  start_is d =
      ap (λ (l : List ℕ). get_or l keep d) (is.starts_are ∙ at.starts)
      ∙ ap (λ (n : ℕ). get_or (starts_of (oldest keep changes) ++ length (bytes_of (oldest keep changes)) ∷ at.more) n d) (sym kept_long)
      ∙ get_or-append_seam (starts_of (oldest keep changes)) (length (bytes_of (oldest keep changes))) at.more d

  pub start_within : length (bytes_of (oldest keep changes)) ≤ length bytes
  start_within = omega (arith, ap length is.bytes_are, ap length at.bytes, length-append (bytes_of (oldest keep changes)) at.rest)

  pub cut : (start has_bytes_now has_starts_now : ℕ) → start ≡ length (bytes_of (oldest keep changes)) → has_bytes ≤ has_bytes_now → has_starts ≤ has_starts_now
      → IsDraft (oldest keep changes) (take start bytes) (take keep starts) ready promised has_bytes_now has_starts_now
  cut start has_bytes_now has_starts_now start_is more_bytes more_starts =
      let older = oldest keep changes in
      let bytes_now : take start bytes ≡ bytes_of older =
      ap (take start) (is.bytes_are ∙ at.bytes) ∙ take_at (bytes_of older) at.rest start (sym start_is) in
      let shorter : length (take start bytes) ≤ length bytes = omega (arith, ap length bytes_now, start_within) in
      let count : length older ≡ keep = length_oldest keep changes (omega (arith, some)) in
      record {
        each = all_behind (λ c. IsRecord (record_of c)) (length changes - keep) changes is.each;
        bytes_are = bytes_now;
        starts_are = ap (take keep) (is.starts_are ∙ at.starts) ∙ take_at (starts_of older) (length (bytes_of older) ∷ at.more) keep kept_long;
        few = omega (arith, is.few, count, some);
        fits = is.fits;
        promise = λ left. let promise = is.promise (omega (arith, some)) in omega (arith, promise, shorter);
        room = λ e. let room = is.room e in record {
          few = omega (arith, room.few, count, some);
          bytes_fit = omega (arith, room.bytes_fit, shorter, more_bytes);
          starts_fit = omega (arith, room.starts_fit, count, some, more_starts);
          promise = omega (arith, room.promise, shorter);
        };
      }
