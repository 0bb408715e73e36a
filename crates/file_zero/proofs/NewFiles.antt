-- What the write of page 0 and the sync behind it make of empty files.
use Rattle.std.proofs.Common.{◌≡◌, ◌⊎◌, inl, inr, ℕ, ◌+◌, ◌-◌, ◌*◌, ◌≤◌, Bool, true, false, Some, None, List, [], ◌∷◌, ◌++◌, length, take, drop, replicate, refl, sym, ◌∙◌, ap, subst, arith, length-take, length-drop, length-append}
use Rattle.std.specs.Prelude.{All, IsTrue}
use Rattle.std.proofs.lemmas.Bool.{cases_eq}
use Rattle.std.proofs.lemmas.List.{append-nil, drop_all, take_all, nil_from_length}
use Rattle.std.proofs.lemmas.List.Elements.{All-nil, All-contains, All-cons}
use Rattle.sum64.specs.Fnv.{fnv_of}
use Rattle.std.specs.Int.{w64, from_be_bytes}
use Rattle.store_api.specs.declared.disk.Area.TheVariants.{Log, Double, Pages}
use Rattle.store_api.specs.Areas.{Contents, State, Image, Write, MayLeave, IsImage, WasWhole, seen_image, piece, write_of, overwritten, Within, Wrote, Synced}
use Rattle.store_api.specs.Past.{Past, Ticks, Now, Goes, Meanwhile}
use Rattle.store_api.proofs.Moments.{Now-goes, Now-weaker, Meanwhile-none, Meanwhile-goes}
use Rattle.log_format.specs.Block.{IsGood}
use Rattle.log_format.specs.Group.{group_bytes}
use Rattle.log_format.proofs.Groups.{length-group}
use Rattle.stored_pages.specs.Words.{number_of}
use Rattle.stored_pages.specs.Reading.{IsGoodPage, place_of, IsCopyIn, IsPageIn}
use Rattle.law_crashes.specs.Header.{IsHeader}
use Rattle.law_crashes.specs.RowScan.{HasRowsOnly, IsRowScan}
use Rattle.law_crashes.specs.Records.{no_db}
use Rattle.law_crashes.specs.Files.{IsAtRest, StandsFor}
use Rattle.law_crashes.proofs.AtRest.{left_at_rest}
use Rattle.store_api.specs.declared.answers.MountBad.{MountBad}
use Rattle.store_api.specs.declared.answers.MountBad.TheVariants.{Disk, NotEmpty}
use Rattle.store_api.specs.Causes.{next_count}
use Rattle.store_api.specs.Looks.{HoldsSame, Looks, LeavesState}
use Rattle.file_zero.specs.Looks.{Had}
use Rattle.file_zero.specs.Making.{IsEmptyArea, AreEmpty, AreNew, AreBeingMade, HasBytes, IsNotMade, IsPageAlone}
use Rattle.store_api.proofs.Looks.{looks_join}

-- ---- pages that are good or not

good_or_not : (bytes : List ℕ) → IsGoodPage 0 bytes ⊎ (IsGoodPage 0 bytes → ⊥)
good_or_not bytes = elim (cases_eq (length bytes) 4096) [
  | inl size ↦ elim (cases_eq (from_be_bytes w64 (take 8 bytes)) (fnv_of (drop 8 bytes))) [
    | inl sum ↦ elim (cases_eq (number_of bytes) 0) [
      | inl number ↦ inl (record { size = size; sum = sum; number_is = number })
      | inr other ↦ inr (λ good. other good.number_is)
    ]
    | inr bad ↦ inr (λ good. bad good.sum)
  ]
  | inr long ↦ inr (λ good. long good.size)
]

length-nothing : (size k : ℕ) → length (piece size k []) ≤ 0
length-nothing size k = omega (arith, length-take {A = ℕ} size (drop (size * k) []), length-drop {A = ℕ} (size * k) [])

no_page : (number k : ℕ) → IsGoodPage number (piece 4096 k []) → ⊥
no_page number k good = absurd (omega (arith, good.size, length-nothing 4096 k))

no_copy : (number : ℕ) (bytes : List ℕ) → IsCopyIn [] number bytes → ⊥
no_copy number bytes copy = no_page number copy.slot (subst (IsGoodPage number) (sym copy.stands) copy.good)

-- ---- an empty log

no_block : (run k : ℕ) → IsGood run k [] → ⊥
no_block run k good = let inside = good.inside in absurd (omega (arith, inside))

empty_scan : (run first : ℕ) → IsRowScan run first [] []
empty_scan run first = record {
  stream = [];
  payload = record { blocks = 0; good = λ k below. absurd (omega arith); bad = no_block run 0; payload = refl };
  rest = [];
  whole = refl;
  each = tt;
  of_rows = All-nil HasRowsOnly;
  ends = λ g more is rows lsn begins. absurd (omega (arith, ap length begins, length-append (group_bytes g) more, length-group g));
}

-- ---- what a crash leaves

left_empty : (c : Contents) (image : List ℕ) → IsEmptyArea c → MayLeave c image → image ≡ []
left_empty c image empty left = left_at_rest c image empty.1 left ∙ empty.0

-- nothing at all
nothing_left : (image : Image) → image.pages ≡ [] → image.double ≡ [] → IsPageIn image.pages image.double 0 None
nothing_left image pages double = (
  λ good. no_page 0 0 (subst (λ (l : List ℕ). IsGoodPage 0 (place_of 0 l)) pages good),
  λ bytes copy. no_copy 0 bytes (subst (λ (l : List ℕ). IsCopyIn l 0 bytes) double copy),
)

pub empty_made : (s : State) → AreEmpty s → AreBeingMade s
empty_made s empty = λ image left honest.
    inl (nothing_left image (left_empty s.pages image.pages empty.pages left.pages) (left_empty s.double image.double empty.double left.double))

same_empty : (b s : Contents) → HoldsSame b s → IsEmptyArea b → IsEmptyArea s
same_empty b s same empty = (same.0 ∙ empty.0, same.1 ∙ empty.1)

pub looks_made : (old new : Past) → Looks old new → Now AreEmpty old → Meanwhile AreBeingMade old new
looks_made old new looks known = record {
  later = looks.later;
  kept = looks.kept;
  each = λ m s ticks low high is.
      let look = looks.each m s ticks (omega (arith, low)) high is in
      let b = look.0 in
      let empty = known b (omega (arith, looks.later, ticks)) look.1 in
      empty_made s (record {
        log = same_empty b.log s.log look.2.log empty.log;
        double = same_empty b.double s.double look.2.double empty.double;
        pages = same_empty b.pages s.pages look.2.pages empty.pages;
      });
}

none_synced : (c : Contents) → MayLeave c c.seen → length c.seen ≤ 0 → c.synced ≡ []
none_synced c law none = nil_from_length c.synced (omega (arith, law.no_shorter, none))

-- Files without a byte, in which nothing is pending.
pub now_empty : (past : Past) (bytes : ℕ) → ((m : ℕ) (s : State) → past.state_at m ≡ Some s → IsImage s (seen_image s)) → bytes ≤ 0 → Now (HasBytes bytes) past
    → Now IsAtRest past → Now AreEmpty past
now_empty past bytes law none has rest = λ s ticks is.
    let total = has s ticks is in
    let left = law past.moment s is in
    let rests = rest s ticks is in
    record {
      log = (none_synced s.log left.log (omega (arith, total, none)), rests.log);
      double = (none_synced s.double left.double (omega (arith, total, none)), rests.double);
      pages = (none_synced s.pages left.pages (omega (arith, total, none)), rests.pages);
    }

next_ticks : (before now : ℕ) → now ≡ next_count before → Ticks now → Ticks before
next_ticks before now is ticks = omega arith

pub no_bytes : (past : Past) (bytes : ℕ) → bytes ≤ 0 → Now (HasBytes bytes) past → Now (HasBytes 0) past
no_bytes past bytes none has = let same : bytes ≡ 0 = omega (arith, none) in subst (λ (n : ℕ). Now (HasBytes n) past) same has

-- what a disk holds after two calls it held before, and so what was known of it
pub had_none : (p0 p1 p2 : Past) (first second : State → State → Type 0) → Now (HasBytes 0) p0 → Goes first p0 p1 → Goes second p1 p2
    → Had (HasBytes 0) p0 p2
had_none p0 p1 p2 first second none one other = λ s ticks is.
    let before = next_ticks p1.moment p2.moment other.clock ticks in
    let mid = other.now s before is in
    let begins = next_ticks p0.moment p1.moment one.clock before in
    let root = one.now mid.0 begins mid.1 in
    (begins, root.0, root.1, none root.0 begins root.1)

-- and before calls that left it as it was
pub had_before : (P : State → Type 0) (root mid now : Past) → LeavesState root mid → Had P mid now → Had P root now
had_before P root mid now stays had = λ s ticks is.
    let at = had s ticks is in
    let first = stays at.1 at.0 at.2 in
    (first.0, at.1, first.1, at.3)

pub not_made_later : (old mid new : Past) (why : MountBad) → old.faults ≤ mid.faults → Looks old mid → IsNotMade mid new why → IsNotMade old new why
not_made_later old mid new Disk le looks rose = omega (arith, le, rose)
not_made_later old mid new (NotEmpty bytes) le looks made = (made.0, made.1, looks_join old mid new looks made.2)
not_made_later old mid new why le looks made = absurd made

module _ (page : List ℕ) (good : IsGoodPage 0 page) (header : IsHeader 1 1 page) where
  -- page 0 in its place, and nothing in the other files
  stands : (image : Image) → image.log ≡ [] → place_of 0 image.pages ≡ page → StandsFor image no_db
  stands image log place = record {
    of_run = 1;
    begins = 1;
    groups = [];
    says = record {
      page = page;
      read = inl (place, good);
      each = λ other read. elim read [
        | inl here ↦ subst (IsHeader 1 1) (sym place ∙ here.0) header
        | inr copy ↦ absurd (copy.0 (subst (IsGoodPage 0) (sym place) good))
      ];
    };
    scan = subst (λ (l : List ℕ). IsRowScan 1 1 l []) (sym log) (empty_scan 1 1);
    makes = refl;
  }

  IsFirst : Write → Type 0
  IsFirst w = (w.at ≡ 0) × (w.bytes ≡ page)

  -- page 0 has been written, or some of it
  record IsWritten (ok : Bool) (s : State) : Type 0 where
    log : IsEmptyArea s.log
    double : IsEmptyArea s.double
    synced : s.pages.synced ≡ []
    writes : All IsFirst s.pages.writes
    seen : IsTrue ok → s.pages.seen ≡ page

  -- what passes its sum is what was written
  is_page : (ok : Bool) (s : State) (bytes : List ℕ) → IsWritten ok s → IsGoodPage 0 bytes → WasWhole s.pages 0 bytes → bytes ≡ page
  unfolding IsFirst
  is_page ok s bytes is passes whole = elim whole [
    | inl was ↦
        let front = length-take (length bytes) (drop 0 s.pages.synced) in
        absurd (omega (arith, passes.size, ap length was, front, length-drop 0 s.pages.synced, ap length is.synced))
    | inr put ↦
        let first = All-contains IsFirst s.pages.writes put.0 is.writes put.1 in
        let puts = put.2 in
        let from : 0 - put.0.at ≡ 0 = omega arith in
        let same : take (length bytes) put.0.bytes ≡ bytes = ap (λ (n : ℕ). take (length bytes) (drop n put.0.bytes)) (sym from) ∙ puts.same in
        sym same ∙ (λ i. take (passes.size i) (first.1 i)) ∙ take_all 4096 page (omega (arith, good.size))
  ]

  made : (ok : Bool) (s : State) → IsWritten ok s → AreBeingMade s
  made ok s is = λ image left honest.
      elim (good_or_not (place_of 0 image.pages)) [
        | inl there ↦
            let inside : 4096 * (0 + 1) ≤ length image.pages =
            omega (arith, there.size, length-take 4096 (drop (4096 * 0) image.pages), length-drop (4096 * 0) image.pages) in
            inr (stands image (left_empty s.log image.log is.log left.log) (is_page ok s (place_of 0 image.pages) is there (honest.pages 0 inside there.sum)))
        | inr none ↦
            inl (none, λ bytes copy. no_copy 0 bytes (subst (λ (l : List ℕ). IsCopyIn l 0 bytes) (left_empty s.double image.double is.double left.double) copy))
      ]

  over_nothing : (seen : List ℕ) → seen ≡ [] → overwritten seen (write_of seen 0 page) ≡ page
  over_nothing seen is =
      let w = write_of seen 0 page in
      let at : w.at ≡ 0 = omega arith in
      let none : 0 - length seen ≡ 0 = omega arith in
      let bytes : w.bytes ≡ page = ap (λ (n : ℕ). replicate n 0 ++ page) none in
      (λ i. take w.at (is i) ++ w.bytes ++ drop (w.at + length w.bytes) (is i))
      ∙ (λ i. take (at i) [] ++ bytes i ++ drop (at i + length (bytes i)) [])
      ∙ ap (λ (l : List ℕ). page ++ l) (drop_all (0 + length page) [] (omega arith))
      ∙ append-nil page

  record IsReady (s : State) : Type 0 where
    empty : AreEmpty s
    seen : s.pages.seen ≡ []

  ready : (s : State) → IsImage s (seen_image s) → AreEmpty s → IsReady s
  ready s law empty = record { empty = empty; seen = left_empty s.pages s.pages.seen empty.pages law.pages }

  written : (ok : Bool) (b s : State) → IsReady b → Within Pages (Wrote 0 page ok) b s → IsWritten ok s
  unfolding IsFirst
  written ok b s is within =
      let w = write_of b.pages.seen 0 page in
      let at : w.at ≡ 0 = omega arith in
      let none : 0 - length b.pages.seen ≡ 0 = omega arith in
      let bytes : w.bytes ≡ page = ap (λ (n : ℕ). replicate n 0 ++ page) none in
      let log : s.log ≡ b.log = within.elsewhere Log (λ same. cc) in
      let double : s.double ≡ b.double = within.elsewhere Double (λ same. cc) in
      record {
        log = subst IsEmptyArea (sym log) is.empty.log;
        double = subst IsEmptyArea (sym double) is.empty.double;
        synced = within.here.synced ∙ is.empty.pages.0;
        writes = subst (All IsFirst) (sym (within.here.writes ∙ ap (λ (ws : List Write). ws ++ w ∷ []) is.empty.pages.1))
            (All-cons IsFirst w [] (at, bytes) (All-nil IsFirst));
        seen = λ done. within.here.seen done ∙ over_nothing b.pages.seen is.seen;
      }

  failed : (b s : State) → IsWritten true b → Within Pages (Synced false) b s → AreBeingMade s
  failed b s is within =
      let here = within.here.failed refl in
      let log : s.log ≡ b.log = within.elsewhere Log (λ same. cc) in
      let double : s.double ≡ b.double = within.elsewhere Double (λ same. cc) in
      let same : IsWritten false s = record {
        log = subst IsEmptyArea (sym log) is.log;
        double = subst IsEmptyArea (sym double) is.double;
        synced = here.0 ∙ is.synced;
        writes = subst (All IsFirst) (sym here.1) is.writes;
        seen = λ done. cc;
      } in
      made false s same

  synced : (b s : State) → IsWritten true b → Within Pages (Synced true) b s → (image : Image) → IsImage s image → StandsFor image no_db
  synced b s is within = λ image left.
      let done = within.here.done refl in
      let log : s.log ≡ b.log = within.elsewhere Log (λ same. cc) in
      let pages : image.pages ≡ page =
      left_at_rest s.pages image.pages (ap (λ (c : Contents). c.writes) done) left.pages ∙ ap (λ (c : Contents). c.synced) done ∙ is.seen refl in
      stands image (left_empty s.log image.log (subst IsEmptyArea (sym log) is.log) left.log)
      (ap (place_of 0) pages ∙ take_all 4096 page (omega (arith, good.size)))

  rests : (b s : State) → IsWritten true b → Within Pages (Synced true) b s → IsAtRest s
  rests b s is within = record {
    log = ap (λ (c : Contents). c.writes) (within.elsewhere Log (λ same. cc)) ∙ is.log.1;
    double = ap (λ (c : Contents). c.writes) (within.elsewhere Double (λ same. cc)) ∙ is.double.1;
    pages = ap (λ (c : Contents). c.writes) (within.here.done refl);
  }

  record IsNew (s : State) : Type 0 where
    rests : IsAtRest s
    each : (image : Image) → IsImage s image → StandsFor image no_db

  -- ---- what reads give, whatever was pending

  alone_written : (b s : State) → HasBytes 0 b → Within Pages (Wrote 0 page true) b s → IsPageAlone s
  alone_written b s none within =
      let log : s.log ≡ b.log = within.elsewhere Log (λ same. cc) in
      let double : s.double ≡ b.double = within.elsewhere Double (λ same. cc) in
      let seen = within.here.seen refl ∙ over_nothing b.pages.seen (nil_from_length b.pages.seen (omega (arith, none))) in
      record {
        log = ap (λ (c : Contents). c.seen) log ∙ nil_from_length b.log.seen (omega (arith, none));
        double = ap (λ (c : Contents). c.seen) double ∙ nil_from_length b.double.seen (omega (arith, none));
        page = subst (IsGoodPage 0) (sym seen) good;
        header = subst (IsHeader 1 1) (sym seen) header;
      }

  alone_synced : (b s : State) → IsPageAlone b → Within Pages (Synced true) b s → IsPageAlone s
  alone_synced b s alone within =
      let log : s.log ≡ b.log = within.elsewhere Log (λ same. cc) in
      let double : s.double ≡ b.double = within.elsewhere Double (λ same. cc) in
      let seen : s.pages.seen ≡ b.pages.seen = ap (λ (c : Contents). c.seen) (within.here.done refl) in
      record {
        log = ap (λ (c : Contents). c.seen) log ∙ alone.log;
        double = ap (λ (c : Contents). c.seen) double ∙ alone.double;
        page = subst (IsGoodPage 0) (sym seen) alone.page;
        header = subst (IsHeader 1 1) (sym seen) alone.header;
      }

  pub alone_after : (p0 p1 p2 : Past) → Now (HasBytes 0) p0 → Goes (Within Pages (Wrote 0 page true)) p0 p1 → Goes (Within Pages (Synced true)) p1 p2
      → Now IsPageAlone p2
  alone_after p0 p1 p2 none write sync =
      let wrote = Now-goes (HasBytes 0) IsPageAlone (Within Pages (Wrote 0 page true)) p0 p1 none write alone_written in
      Now-goes IsPageAlone IsPageAlone (Within Pages (Synced true)) p1 p2 wrote sync alone_synced

  module _ (p0 p1 : Past) (law : (m : ℕ) (s : State) → p0.state_at m ≡ Some s → IsImage s (seen_image s)) (known : Now AreEmpty p0) (ok : Bool)
      (write : Goes (Within Pages (Wrote 0 page ok)) p0 p1) where
    is_written : Now (IsWritten ok) p1
    is_written =
        Now-goes IsReady (IsWritten ok) (Within Pages (Wrote 0 page ok)) p0 p1 (λ s ticks is. ready s (law p0.moment s is) (known s ticks is)) write
        (written ok)

    pub during_write : Meanwhile AreBeingMade p0 p1
    during_write =
        Meanwhile-goes AreBeingMade _ p0 p0 p1 (Meanwhile-none AreBeingMade p0) write
        (Now-weaker (IsWritten ok) AreBeingMade p1 is_written (made ok))

  module _ (p0 p1 p2 : Past) (law : (m : ℕ) (s : State) → p0.state_at m ≡ Some s → IsImage s (seen_image s)) (known : Now AreEmpty p0)
      (write : Goes (Within Pages (Wrote 0 page true)) p0 p1) where
    pub during_failed : Goes (Within Pages (Synced false)) p1 p2 → Meanwhile AreBeingMade p0 p2
    during_failed sync =
        Meanwhile-goes AreBeingMade _ p0 p1 p2 (during_write p0 p1 law known true write) sync
        (Now-goes (IsWritten true) AreBeingMade (Within Pages (Synced false)) p1 p2 (is_written p0 p1 law known true write) sync failed)

    is_new : Goes (Within Pages (Synced true)) p1 p2 → Now IsNew p2
    is_new sync =
        Now-goes (IsWritten true) IsNew (Within Pages (Synced true)) p1 p2 (is_written p0 p1 law known true write) sync
        (λ b s is within. record { rests = rests b s is within; each = synced b s is within })

    pub after_sync : ((m : ℕ) (s : State) → p2.state_at m ≡ Some s → IsImage s (seen_image s)) → Goes (Within Pages (Synced true)) p1 p2 → Now AreNew p2
    after_sync law2 sync = λ s ticks is. let new = is_new sync s ticks is in (new.rests, new.each (seen_image s) (law2 p2.moment s is))

    pub during_sync : Goes (Within Pages (Synced true)) p1 p2 → Meanwhile AreBeingMade p0 p2
    during_sync sync =
        Meanwhile-goes AreBeingMade _ p0 p1 p2 (during_write p0 p1 law known true write) sync
        (Now-weaker IsNew AreBeingMade p2 (is_new sync) (λ s new image left honest. inr (new.each image left)))
