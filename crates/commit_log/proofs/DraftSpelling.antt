-- The bytes of drafted changes spell them, and tell them again.
use Rattle.std.proofs.Common.{◌≡◌, ℕ, ◌+◌, ◌*◌, ◌^◌, ◌<◌, ◌≤◌, Bool, true, false, List, [], ◌∷◌, ◌++◌, length, All, refl, sym, ◌∙◌, ap}
use Rattle.std.proofs.Common.{subst, arith, length-append}
use Rattle.std.specs.List.{AllByRecursion}
use Rattle.std.proofs.lemmas.List.{append-nil}
use Rattle.std.proofs.lemmas.List.Concat.{flat_map-append}
use Rattle.std.proofs.lemmas.List.Elements.{All-push, All-from_recursion}
use Rattle.inno_db.specs.declared.change.Change.{Change}
use Rattle.schema_codec.proofs.Spells.{list_again}
use Rattle.log_format.specs.Group.{record_bytes, IsRecord, IsSpelled}
use Rattle.log_format.specs.Block.{blocks_for}
use Rattle.log_format.specs.Reading.{record_at}
use Rattle.log_format.proofs.TwoLaws.{record_spells}
use Rattle.redo_log.specs.View.{room_of}
use Rattle.law_crashes.specs.Records.{record_of, records_of}
use Rattle.law_crashes.proofs.Records.{changes_back}
use Rattle.commit_log.specs.Room.{HasRecord}
use Rattle.commit_log.specs.DraftsView.{DraftView, bytes_of}
use Rattle.commit_log.specs.Drafted.{told, drafted, starts_of, IsDraft}

pub bytes_of-push : (change : Change) (earlier : List Change) → bytes_of (change ∷ earlier) ≡ bytes_of earlier ++ record_bytes (record_of change)
bytes_of-push change earlier =
    flat_map-append record_bytes (records_of earlier) (record_of change ∷ [])
    ∙ ap (λ (l : List ℕ). bytes_of earlier ++ l) (append-nil (record_bytes (record_of change)))

pub length_records : (changes : List Change) → length (records_of changes) ≡ length changes
length_records [] = refl
length_records (c ∷ cs) = omega (arith, length-append (records_of cs) (record_of c ∷ []), length_records cs)

pub length_starts : (changes : List Change) → length (starts_of changes) ≡ length changes
length_starts [] = refl
length_starts (c ∷ cs) = omega (arith, length-append (starts_of cs) (length (bytes_of cs) ∷ []), length_starts cs)

each_record : (changes : List Change) → AllByRecursion (λ c. IsRecord (record_of c)) changes → All IsRecord (records_of changes)
each_record [] each = All-from_recursion IsRecord [] tt
each_record (c ∷ cs) each = All-push IsRecord (records_of cs) (record_of c) (each_record cs each.1) each.0

module _
    (changes : List Change) (bytes starts : List ℕ) (ready : Bool) (promised has_bytes has_starts : ℕ)
    (is : IsDraft changes bytes starts ready promised has_bytes has_starts) where
  pub count_is : length starts ≡ length changes
  count_is = ap length is.starts_are ∙ length_starts changes

  pub drafted_is : drafted (length starts) bytes ≡ changes
  drafted_is =
      let count : length starts ≡ length (records_of changes) = count_is ∙ sym (length_records changes) in
      let spelled : bytes ≡ bytes_of changes ++ [] = is.bytes_are ∙ sym (append-nil (bytes_of changes)) in
      let read = list_again record_at record_bytes IsRecord record_spells (records_of changes) [] (each_record changes is.each) in
      ap (λ (n : ℕ). drafted n bytes) count ∙ ap (λ (l : List ℕ). drafted (length (records_of changes)) l) spelled ∙ ap told read ∙ changes_back changes

  -- it is the draft of the changes that it tells
  pub kept : IsDraft (drafted (length starts) bytes) bytes starts ready promised has_bytes has_starts
  kept = subst (λ (l : List Change). IsDraft l bytes starts ready promised has_bytes has_starts) (sym drafted_is) is

  -- so many records stand in its bytes
  pub spelled : IsSpelled (records_of changes) (length starts) bytes
  spelled = record {
    are = record { count = omega (arith, length_records changes, is.few); each = each_record changes is.each };
    number = count_is ∙ sym (length_records changes);
    spelled = is.bytes_are;
  }

  pub room_promised : 0 < length starts → room_of (records_of changes) ≤ promised
  room_promised some =
      let promise = is.promise (omega (arith, some, count_is)) in
      let long : length bytes ≡ length (bytes_of changes) = ap length is.bytes_are in
      omega (arith, promise, long)

  -- a change more
  pub added : (change : Change) → ready ≡ true → HasRecord change → (has_bytes_now has_starts_now : ℕ)
      → IsDraft (change ∷ changes) (bytes ++ record_bytes (record_of change)) (starts ++ length bytes ∷ []) false promised has_bytes_now has_starts_now
  added change is_ready has has_bytes_now has_starts_now =
      let room = is.room is_ready in
      record {
        each = (has.fits, is.each);
        bytes_are = ap (λ (l : List ℕ). l ++ record_bytes (record_of change)) is.bytes_are ∙ sym (bytes_of-push change changes);
        starts_are =
            ap (λ (l : List ℕ). l ++ length bytes ∷ []) is.starts_are
            ∙ ap (λ (l : List ℕ). starts_of changes ++ length l ∷ []) is.bytes_are;
        few = omega (arith, room.few);
        fits = is.fits;
        promise = λ some. omega (arith, room.promise, has.short, length-append bytes (record_bytes (record_of change)));
        room = λ e. absurd (cc);
      }

  -- more memory changes nothing
  pub grown : (bytes_now starts_now : List ℕ) (has_bytes_now has_starts_now : ℕ) → bytes_now ≡ bytes → starts_now ≡ starts
      → has_bytes ≤ has_bytes_now → has_starts ≤ has_starts_now → IsDraft changes bytes_now starts_now ready promised has_bytes_now has_starts_now
  grown bytes_now starts_now has_bytes_now has_starts_now same_bytes same_starts more_bytes more_starts =
      let same_long : length bytes_now ≡ length bytes = ap length same_bytes in record {
        each = is.each;
        bytes_are = same_bytes ∙ is.bytes_are;
        starts_are = same_starts ∙ is.starts_are;
        few = is.few;
        fits = is.fits;
        promise = λ some. let promise = is.promise some in omega (arith, promise, same_long);
        room = λ e. let room = is.room e in record {
          few = room.few;
          bytes_fit = omega (arith, room.bytes_fit, more_bytes, same_long);
          starts_fit = omega (arith, room.starts_fit, more_starts);
          promise = omega (arith, room.promise, same_long);
        };
      }

  -- room for one more
  pub made_ready : (now has_bytes_now has_starts_now : ℕ) → now ≡ 512 * blocks_for (14 + length bytes + 5433) → now < 2 ^ 32 → length starts + 1 < 2 ^ 16
      → length bytes + 5433 ≤ has_bytes_now → length starts + 1 ≤ has_starts_now → IsDraft changes bytes starts true now has_bytes_now has_starts_now
  made_ready now has_bytes_now has_starts_now now_is fits few bytes_fit starts_fit = record {
    each = is.each;
    bytes_are = is.bytes_are;
    starts_are = is.starts_are;
    few = is.few;
    fits = fits;
    promise = λ some. omega (arith, now_is);
    room = λ e. record {
      few = omega (arith, few, count_is);
      bytes_fit = bytes_fit;
      starts_fit = omega (arith, starts_fit, count_is);
      promise = omega (arith, now_is);
    };
  }

pub none : (has_bytes has_starts : ℕ) → IsDraft [] [] [] false 0 has_bytes has_starts
none has_bytes has_starts = record {
  each = tt;
  bytes_are = refl;
  starts_are = refl;
  few = omega arith;
  fits = omega arith;
  promise = λ some. absurd (omega (arith, some));
  room = λ e. absurd (cc);
}

-- no bytes
pub empty_draft : (bytes starts : List ℕ) (has_bytes has_starts : ℕ) → bytes ≡ [] → starts ≡ [] → IsDraft [] bytes starts false 0 has_bytes has_starts
empty_draft bytes starts has_bytes has_starts no_bytes no_starts =
    grown [] [] [] false 0 0 0 (none 0 0) bytes starts has_bytes has_starts no_bytes no_starts (omega arith) (omega arith)

abbrev pub as_view : List Change → Bool → ℕ → DraftView
as_view changes ready promised = record { changes = changes; ready = ready; promised = promised }
