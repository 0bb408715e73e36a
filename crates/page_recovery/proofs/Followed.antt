-- How recovery goes on along a log: group after group, and back over the blocks of what was cut off.
use Rattle.std.proofs.Common.{◌≡◌, inl, inr, ℕ, ◌+◌, ◌-◌, ◌<◌, ◌≤◌, Bool, true, false, Option, Some, None, List, [], ◌∷◌, ◌++◌, length, take, refl, sym, ap}
use Rattle.std.proofs.Common.{subst, ◌∙◌, arith, add-one, length-append, length-take}
use Rattle.std.specs.Prelude.{All, ◌||◌, IsTrue}
use Rattle.std.specs.List.{list_any}
use Rattle.std.proofs.lemmas.Bool.{cases_lt}
use Rattle.std.proofs.lemmas.List.{length_push, take_at}
use Rattle.std.proofs.lemmas.List.Elements.{All-nil, All-cons, All-append}
use Rattle.std.proofs.lemmas.List.Folds.{list_any-append}
use Rattle.store_api.specs.declared.disk.Area.TheVariants.{Log}
use Rattle.store_api.specs.Areas.{piece}
use Rattle.store_api.specs.Past.{Past, Ticks, Now}
use Rattle.log_format.specs.declared.group.Group.{Group}
use Rattle.log_format.specs.declared.reader.ReadBad.{ReadBad}
use Rattle.log_format.specs.declared.reader.ReadBad.TheVariants as reading
use Rattle.log_format.specs.Block.{payload_of, IsGood, payloads}
use Rattle.log_format.specs.Scan.{stream_of, IsScan}
use Rattle.log_format.specs.Given.{ReaderView, HasGiven, Reads, FailedRose}
use Rattle.log_format.proofs.Behind.{payloads-front}
use Rattle.law_logged_pages.specs.Applied.{names, with_group}
use Rattle.store_api.specs.Looks.{Looks, LeavesState}
use Rattle.page_recovery.specs.Pages.{BecomeBy}
use Rattle.page_recovery.specs.Applying.{IsWithin, AreWithin, ArePast, AreBroughtOn}
use Rattle.page_recovery.specs.Reading.{IsFollowed, EndsBefore}
use Rattle.page_recovery.specs.Refused.{of_reading, IsFailed}
use Rattle.store_api.proofs.Looks.{looks_goes, stays_goes}
use Rattle.page_recovery.proofs.Becoming.{groups_next}

abbrev Slots : Type 0
Slots = List (Option (List ℕ))

-- ---- one read of the log, or none

pub looks_reads : (ok : Bool) (old mid new : Past) → Looks old mid → Reads ok mid new → Looks old new
looks_reads ok old mid new looks (inl same) = subst (λ (p : Past). Looks old p) (sym same) looks
looks_reads ok old mid new looks (inr goes) = looks_goes Log ok old mid new looks goes

pub stays_reads : (old new : Past) → Reads true old new → LeavesState old new
stays_reads old new (inl same) = λ s ticks is. subst (λ (p : Past). Ticks p.moment × (p.state_at p.moment ≡ Some s)) same (ticks, is)
stays_reads old new (inr goes) = stays_goes Log old new goes

pub failed_reading : (a b now : ℕ) (bad : ReadBad) → a ≤ b → FailedRose b now bad → IsFailed a now (of_reading bad)
failed_reading a b now reading.Failed upto rose = omega (arith, upto, rose)
failed_reading a b now reading.NoMemory upto rose = tt

-- ---- one group more

module _ (start : Slots) (groups : List Group) (g : Group) where
  within_more : (count : ℕ) → AreWithin count groups → All (IsWithin count) g.records → AreWithin count (groups ++ g ∷ [])
  within_more count all one =
      All-append (λ (h : Group). All (IsWithin count) h.records) groups (g ∷ []) all
      (All-cons (λ (h : Group). All (IsWithin count) h.records) g [] one (All-nil (λ (h : Group). All (IsWithin count) h.records)))

  names_push : (page : ℕ) → list_any (names page) (groups ++ g ∷ []) ≡ (list_any (names page) groups || (names page g || false))
  names_push page = list_any-append (names page) groups (g ∷ [])

  or_left : (a b : Bool) → IsTrue a → IsTrue (a || b)
  or_left true b is = is
  or_left false b is = absurd cc

  or_middle : (a b : Bool) → IsTrue b → IsTrue (a || (b || false))
  or_middle true b is = refl
  or_middle false true is = is
  or_middle false false is = is

  -- a page past the end that was named stays so
  pub named_still : (page : ℕ) (pages : Slots) → AreBroughtOn start groups (Some page) pages → AreBroughtOn start (groups ++ g ∷ []) (Some page) pages
  named_still page pages on = ((on.0.0, subst IsTrue (sym (names_push page)) (or_left (list_any (names page) groups) (names page g || false) on.0.1)), on.1)

  pub named_now : (page count : ℕ) (pages : Slots) → count ≡ length pages → AreBroughtOn start groups None pages → ArePast count page g.records
      → AreBroughtOn start (groups ++ g ∷ []) (Some page) pages
  named_now page count pages count_is on past = (
    (omega (arith, past.0, count_is, on.1.count), subst IsTrue (sym (names_push page)) (or_middle (list_any (names page) groups) (names page g) past.1)),
    on.1.count,
  )

  pub none_named : (old new : Slots) → AreBroughtOn start groups None old → All (IsWithin (length old)) g.records
      → BecomeBy (λ page bytes. with_group page g bytes) old new → AreBroughtOn start (groups ++ g ∷ []) None new
  none_named old new on within one = (
    within_more (length start) on.0 (subst (λ (n : ℕ). All (IsWithin n) g.records) on.1.count within),
    groups_next groups (groups ++ g ∷ []) g start old new refl on.1 one,
  )

-- ---- the groups so far

-- What the groups that were given have made of the pages. Where the disk tells its log, they are its first ones.
pub record SoFar (start : Slots) (begun : ReaderView) (now : Past) (pages : Slots) (r : ReaderView) (count : ℕ) (named : Option ℕ) : Type 0 where
  pub groups : List Group
  pub given : (first : ℕ) → ((area : List ℕ) → HasGiven first area [] begun) → Now (λ s. HasGiven first s.log.seen groups r) now
  pub count_is : count ≡ length groups
  pub brought : AreBroughtOn start groups named pages

pub none_so_far : (start : Slots) (begun : ReaderView) (now : Past) → SoFar start begun now start begun 0 None
none_so_far start begun now = record {
  groups = [];
  given = λ first begins s ticks is. begins s.log.seen;
  count_is = refl;
  brought = (All-nil (λ (h : Group). All (IsWithin (length start)) h.records), record { count = refl; pages = λ page. refl });
}

module _ (start : Slots) (begun : ReaderView) (old new : Past) (pages : Slots) (r next : ReaderView) (count : ℕ) (named : Option ℕ)
    (stays : LeavesState old new) (so_far : SoFar start begun old pages r count named) where
  pub one_more : (g : Group) (after : Slots) (now : Option ℕ)
      → ((first : ℕ) (area : List ℕ) (given : List Group) → HasGiven first area given r → HasGiven first area (given ++ g ∷ []) next)
      → ((from : Slots) (groups : List Group) → AreBroughtOn from groups named pages → AreBroughtOn from (groups ++ g ∷ []) now after)
      → SoFar start begun new after next (count + 1) now
  one_more g after now gives on = record {
    groups = so_far.groups ++ g ∷ [];
    given = λ first begins s ticks is.
        let then = stays s ticks is in gives first s.log.seen so_far.groups (so_far.given first begins s then.0 then.1);
    count_is = omega (arith, so_far.count_is, length_push so_far.groups g);
    brought = on start so_far.groups so_far.brought;
  }

  pub a_piece : ((first : ℕ) (area : List ℕ) (given : List Group) → HasGiven first area given r
      → Now (λ s. s.log.seen ≡ area → HasGiven first area given next) old)
      → SoFar start begun new pages next count named
  a_piece gives = record {
    groups = so_far.groups;
    given = λ first begins s ticks is.
        let then = stays s ticks is in
        gives first s.log.seen so_far.groups (so_far.given first begins s then.0 then.1) s then.0 then.1 refl;
    count_is = so_far.count_is;
    brought = so_far.brought;
  }

  pub all_followed : ((first : ℕ) (area : List ℕ) (given : List Group) → HasGiven first area given r
      → HasGiven first area given next × IsScan next.run first area given)
      → (first : ℕ) → ((area : List ℕ) → HasGiven first area [] begun) → Now (λ s. IsFollowed first s.log.seen start pages next count named) new
  all_followed gives first begins = λ s ticks is.
      let then = stays s ticks is in
      let end = gives first s.log.seen so_far.groups (so_far.given first begins s then.0 then.1) in
      record { groups = so_far.groups; given = end.0; scan = end.1; count_is = so_far.count_is; brought = so_far.brought }

-- ---- back from the last block that was read

-- the payloads of fewer blocks are no longer
fewer_blocks : (n m : ℕ) (log : List ℕ) → n ≤ m → length (payloads n log) ≤ length (payloads m log)
fewer_blocks n m log upto =
    let more = m - n in
    let all : n + more ≡ m = omega (arith, upto) in
    let front = payloads-front n more log in
    omega (arith, ap length front, length-take (length (payloads n log)) (payloads (n + more) log), ap (λ (k : ℕ). length (payloads k log)) all)

-- so many bytes of the payloads of the first blocks stand behind the groups
pub record WalksBack (log : List ℕ) (groups : List Group) (block left : ℕ) : Type 0 where
  pub long : length (payloads block log) ≡ length (stream_of groups) + left

module _ (first : ℕ) (log : List ℕ) (groups : List Group) (r : ReaderView) (is : HasGiven first log groups r) where
  pub back_from_the_end : WalksBack log groups r.block (length r.rest)
  back_from_the_end = record { long = ap length is.whole ∙ length-append (stream_of groups) r.rest }

  module _ (block left : ℕ) (within : block ≤ r.block) (walks : WalksBack log groups block left) where
    pub behind_here : left ≡ 0 → EndsBefore r.run log groups (Some block)
    behind_here none = record {
      ends = record {
        good = λ k below. is.good k (omega (arith, below, within));
        stored =
            let more = r.block - block in
            let all : block + more ≡ r.block = omega (arith, within) in
            let front = payloads-front block more log in
            sym front
            ∙ ap (λ (m : ℕ). take (length (payloads block log)) (payloads m log)) all
            ∙ ap (λ (l : List ℕ). take (length (payloads block log)) l) is.whole
            ∙ take_at (stream_of groups) r.rest (length (payloads block log)) (omega (arith, walks.long, none));
      };
      none = tt;
    }

    -- no block is left, and bytes are
    pub behind_nowhere : block ≡ 0 → 0 < left → EndsBefore r.run log groups None
    behind_nowhere none some =
        let empty : length (payloads block log) ≡ 0 = ap (λ (n : ℕ). length (payloads n log)) none in
        absurd (omega (arith, empty, walks.long, some))

    module _ (before len : ℕ) (number : block ≡ before + 1) (len_is : IsGood r.run before log → len ≡ length (payload_of (piece 512 before log))) where
      shorter : length (payloads block log) ≡ length (payloads before log) + len
      shorter =
          ap (λ (n : ℕ). length (payloads n log)) (number ∙ add-one before)
          ∙ length-append (payloads before log) (payload_of (piece 512 before log))
          ∙ ap (λ (n : ℕ). length (payloads before log) + n) (sym (len_is (is.good before (omega (arith, number, within)))))

      pub one_back : len ≤ left → WalksBack log groups before (left - len)
      one_back fits = record { long = omega (arith, shorter, walks.long, fits) }

      -- the groups end within a block
      pub behind_within : 0 < left → left < len → EndsBefore r.run log groups None
      behind_within some past = record {
        ends = tt;
        none = λ n ends.
            let long = ap length ends.stored in
            elim (cases_lt n block) [
              | inl less ↦ let few = fewer_blocks n before log (omega (arith, less, number)) in absurd (omega (arith, few, long, shorter, walks.long, past))
              | inr more ↦ let few = fewer_blocks block n log more in absurd (omega (arith, few, long, walks.long, some))
            ];
      }
