-- What is known of a disk of which page 0, the pages and the log were read.
use Rattle.std.proofs.Common.{◌≡◌, inl, inr, ℕ, ◌+◌, ◌<◌, ◌≤◌, Bool, true, false, Option, Some, None, List, length, refl, sym, ap, subst, ◌∙◌, arith}
use Rattle.std.specs.Prelude.{Result, Ok, Err, IfOk, OnOk, IfSome, IfNone, MatchBool, slice_index_or, slice_set}
use Rattle.std.proofs.lemmas.Bool.{cases_lt, cases_eq}
use Rattle.std.proofs.lemmas.List.{get_or-set_same, get_or-set_other}
use Rattle.store_api.specs.Areas.{State}
use Rattle.store_api.specs.Past.{Past, Ticks, Now}
use Rattle.stored_pages.specs.Reading.{IsGoodPage, place_of}
use Rattle.page_recovery.specs.declared.bad.RecoverBad.{RecoverBad}
use Rattle.page_recovery.specs.declared.bad.RecoverBad.TheVariants.{Failed, NoMemory, NoHeader, NoDatabase, Version, Capacity, PastTheEnd}
use Rattle.page_recovery.specs.Looking.{Since}
use Rattle.store_api.specs.Looks.{Looks, LeavesState}
use Rattle.page_recovery.specs.Reading.{StandsIn, AreStanding, IsTaken, IsFollowed, EndsBefore}
use Rattle.log_format.specs.declared.group.Group.{Group}
use Rattle.log_format.specs.Scan.{IsScan, EndsAt}
use Rattle.log_format.specs.Given.{ReaderView, HasGiven}
use Rattle.page_recovery.specs.declared.header.Header.{Header}
use Rattle.page_recovery.specs.declared.recovering.Recovered.{Recovered}
use Rattle.page_recovery.specs.Applying.{AreWithin, NamesPast}
use Rattle.page_recovery.specs.Refused.{IsOther, IsFailed}
use Rattle.page_recovery.specs.Recovering.{SaysHeader, IsRead, IsRecovered, IsCause}
use Rattle.page_recovery.proofs.Looking.{Since-looks}

abbrev Slots : Type 0
Slots = List (Option (List ℕ))

-- ---- one place

abbrev pub IsTold : ℕ → List ℕ → Bool → State → Type 0
IsTold page place good s = MatchBool good (StandsIn s.pages.seen page (Some place)) (StandsIn s.pages.seen page None)

pub stands_there : (page : ℕ) (place : List ℕ) (good : Bool) (past : Past) → good ≡ true → Now (IsTold page place good) past
    → Now (λ s. StandsIn s.pages.seen page (Some place)) past
stands_there page place good past is told = λ s ticks at. subst (λ (b : Bool). IsTold page place b s) is (told s ticks at)

pub stands_not : (page : ℕ) (place : List ℕ) (good : Bool) (past : Past) → good ≡ false → Now (IsTold page place good) past
    → Now (λ s. StandsIn s.pages.seen page None) past
stands_not page place good past is told = λ s ticks at. subst (λ (b : Bool). IsTold page place b s) is (told s ticks at)

pub other_cause : (read : ℕ → Option (List ℕ) → Type 0) (log page : List ℕ) (why : RecoverBad) → read 0 (Some page) → IsOther page why → IsCause read log why
other_cause read log page Failed is other = absurd other
other_cause read log page NoMemory is other = absurd other
other_cause read log page NoHeader is other = absurd other
other_cause read log page NoDatabase is other = (page, is, other)
other_cause read log page (Version found) is other = (page, is, other)
other_cause read log page (Capacity found) is other = (page, is, other)
other_cause read log page (PastTheEnd past) is other = absurd other

abbrev pub Cause : RecoverBad → State → Type 0
Cause why s = IsCause (StandsIn s.pages.seen) s.log.seen why

-- ---- all places

pub taken : (area : List ℕ) (page : ℕ) (place : List ℕ) (old new : Slots) → page < length old → StandsIn area page (Some place)
    → new ≡ slice_set old page (Some place) → IsTaken area page old new
taken area page place old new within stands is =
    subst (IsTaken area page old) (sym is)
    (record {
      here = λ none. subst (StandsIn area page) (sym (get_or-set_same old page (Some place) None within)) stands;
      others = λ other unlike. get_or-set_other old page other (Some place) None unlike;
    })

pub not_taken : (area : List ℕ) (page : ℕ) (old : Slots) → StandsIn area page None → IsTaken area page old old
not_taken area page old stands = record {
  here = λ none. subst (StandsIn area page) (sym none) stands;
  others = λ other unlike. refl;
}

pub standing_next : (area : List ℕ) (page : ℕ) (old new : Slots) → AreStanding area page old → IsTaken area page old new → AreStanding area (page + 1) new
standing_next area page old new are is = record {
  each = λ other below. elim (cases_eq other page) [
    | inl same ↦ subst (λ (p : ℕ). StandsIn area p (slice_index_or new p None)) (sym same) (is.here (are.others page (omega arith)))
    | inr unlike ↦ subst (StandsIn area other) (sym (is.others other unlike)) (are.each other (omega (arith, below, unlike)))
  ];
  others = λ other past. is.others other (omega (arith, past)) ∙ are.others other (omega (arith, past));
}

pub standing_all : (area : List ℕ) (count capacity : ℕ) (slots : Slots) → count ≤ capacity
    → ((page : ℕ) → count ≤ page → page < capacity → IsGoodPage page (place_of page area) → ⊥) → AreStanding area count slots → AreStanding area capacity slots
standing_all area count capacity slots few none are = record {
  each = λ page below. elim (cases_lt page count) [
    | inl there ↦ are.each page there
    | inr past ↦ subst (StandsIn area page) (sym (are.others page past)) (none page past below)
  ];
  others = λ page past. are.others page (omega (arith, past, few));
}

-- ---- whatever was answered

pub failed_from : (a b now : ℕ) (why : RecoverBad) → a ≤ b → IsFailed b now why → IsFailed a now why
failed_from a b now Failed upto rose = omega (arith, upto, rose)
failed_from a b now NoMemory upto failed = tt
failed_from a b now NoHeader upto failed = absurd failed
failed_from a b now NoDatabase upto failed = absurd failed
failed_from a b now (Version found) upto failed = absurd failed
failed_from a b now (Capacity found) upto failed = absurd failed
failed_from a b now (PastTheEnd page) upto failed = absurd failed

-- a call that has failed tells nothing of the files
pub no_cause : (why : RecoverBad) (a now : ℕ) (old new : Past) → IsFailed a now why → Looks old new → Since (Cause why) old new
no_cause Failed a now old new failed looks = Since-looks (Cause Failed) old new looks (λ s ticks at. tt)
no_cause NoMemory a now old new failed looks = Since-looks (Cause NoMemory) old new looks (λ s ticks at. tt)
no_cause NoHeader a now old new failed looks = absurd failed
no_cause NoDatabase a now old new failed looks = absurd failed
no_cause (Version found) a now old new failed looks = absurd failed
no_cause (Capacity found) a now old new failed looks = absurd failed
no_cause (PastTheEnd page) a now old new failed looks = absurd failed

-- what was read leads to an answer, once it is known
pub ok_since_read : {T E : Type 0} (r : Result T E) (Known : State → Type 0) (P : State → T → Type 0) (p0 p1 p2 : Past) → LeavesState p0 p1
    → OnOk r (LeavesState p1 p2) → Now Known p1 → IfOk r (λ x. Now (λ s. Known s → P s x) p2) → IfOk r (λ x. Since (λ s. P s x) p0 p2)
ok_since_read (Ok x) Known P p0 p1 p2 before stays known told = λ s ticks is.
    let then = stays s ticks is in
    let first = before s then.0 then.1 in
    (s, first.1, told s ticks is (known s then.0 then.1))
ok_since_read (Err e) Known P p0 p1 p2 before stays known told = tt

-- so it does to a cause
pub since_known : (Known P : State → Type 0) (p0 p1 p2 : Past) → LeavesState p0 p1 → p1.moment ≤ p2.moment → Now Known p1
    → Since (λ s. Known s → P s) p1 p2 → Since P p0 p2
since_known Known P p0 p1 p2 stays later known since = λ s ticks is.
    let from = since s ticks is in
    let ticked : Ticks p1.moment = omega (arith, later, ticks) in
    let first = stays from.0 ticked from.1 in
    (from.0, first.1, from.2 (known from.0 ticked from.1))

-- ---- the pages that were brought on

-- the log changes a page that the file can't have
pub past_the_end : (area log : List ℕ) (header : Header) (pages after : Slots) (r : ReaderView) (count page : ℕ) → IsRead area header pages
    → length pages ≡ header.capacity → r.run ≡ header.run → IsFollowed header.first log pages after r count (Some page)
    → IsCause (StandsIn area) log (PastTheEnd page)
past_the_end area log header pages after r count page read capacity run_is followed = record {
  capacity = header.capacity;
  run = header.run;
  first = header.first;
  groups = followed.groups;
  header = read.says;
  scan = subst (λ (n : ℕ). IsScan n header.first log followed.groups) run_is followed.scan;
  bad = subst (λ (n : ℕ). NamesPast n page followed.groups) capacity followed.brought.0;
}

pub brought : (area log : List ℕ) (header : Header) (pages : Slots) (reader : ReaderView) (r : Recovered) → IsRead area header pages
    → length pages ≡ header.capacity → reader.run ≡ header.run → IsFollowed header.first log pages r.pages reader r.count None
    → ((groups : List Group) → HasGiven header.first log groups reader → EndsBefore reader.run log groups r.block)
    → r.run ≡ header.run → r.first ≡ header.first → r.next ≡ reader.next → IsRecovered (StandsIn area) log r
brought area log header pages reader r read capacity reads followed behind run_is first_is next_is =
    let groups = followed.groups in
    let became = followed.brought.1 in
    let same : length r.pages ≡ header.capacity = became.count ∙ capacity in
    let runs : reader.run ≡ r.run = reads ∙ sym run_is in
    let ends = behind groups followed.given in
    let says : SaysHeader (StandsIn area) (length r.pages) r.run r.first =
    subst (λ (n : ℕ). SaysHeader (StandsIn area) n r.run r.first) (sym same)
    (subst (λ (n : ℕ). SaysHeader (StandsIn area) header.capacity n r.first) (sym run_is)
    (subst (λ (n : ℕ). SaysHeader (StandsIn area) header.capacity header.run n) (sym first_is) read.says)) in
    record {
      groups = groups;
      header = says;
      scan =
          subst (λ (n : ℕ). IsScan n r.first log groups) runs (subst (λ (n : ℕ). IsScan reader.run n log groups) (sym first_is) followed.scan);
      ends = subst (λ (m : ℕ). IfSome r.block (λ n. EndsAt m n log groups)) runs ends.ends;
      none = subst (λ (m : ℕ). IfNone r.block ((n : ℕ) → EndsAt m n log groups → ⊥)) runs ends.none;
      count_is = followed.count_is;
      next_is = next_is ∙ followed.given.number ∙ ap (λ (n : ℕ). n + length groups) (sym first_is);
      within = subst (λ (n : ℕ). AreWithin n groups) (sym became.count) followed.brought.0;
      pages = λ page below. (slice_index_or pages page None, read.standing.each page (omega (arith, below, same)), became.pages page);
    }
