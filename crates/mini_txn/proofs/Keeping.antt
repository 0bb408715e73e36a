-- What a call leaves of the pool's slots.
use Rattle.std.proofs.Common.{◌≡◌, ◌≢◌, ℕ, ◌+◌, ◌-◌, ◌<◌, ◌≤◌, Bool, true, false, cond, ◌⊎◌, inl, inr, List, [], length, Option, Some, None, refl, sym, ap}
use Rattle.std.proofs.Common.{subst, ◌∙◌, arith}
use Rattle.std.specs.Prelude.{◌==◌, ◌&&◌, option_map, slice_set, slice_index_or, is_some, MatchOption}
use Rattle.std.specs.List.{swap}
use Rattle.std.specs.Option.{option_map_or}
use Rattle.std.proofs.lemmas.Bool.{cases_eq, cases_lt, eqb-true, eqb-false}
use Rattle.std.proofs.lemmas.List.{length-set, get_or-set_same, get_or-set_other, get_or_past}
use Rattle.std.proofs.lemmas.List.Edits.{swap_is, length-swap}
use Rattle.buffer_pool.specs.declared.frame.Content.{Content}
use Rattle.buffer_pool.specs.declared.frame.Content.TheVariants.{Empty, New, Clean, Dirty}
use Rattle.buffer_pool.specs.Frames.{HasOneMore}
use Rattle.buffer_pool.specs.Frames.{FrameView, PoolView, slot_of, is_pooled, is_standing, fixes_of, holds_page, is_page, is_kept, is_written, is_idle}
use Rattle.buffer_pool.specs.Frames.{is_idle_at, next_idle, at_slot, with_used, moved, marked, content_after, fixed, unfixed}
use Rattle.buffer_pool.proofs.Orders.{last_where_passes}
use Rattle.buffer_pool.proofs.SlotEdits.{idle_within}
use Rattle.mini_txn.specs.Edits.{blank}
use Rattle.mini_txn.specs.View.{body_of, standing_in, IsResident, FixesPage, KeepsPages, TakesFrame}

abbrev Slots : Type 0
Slots = List (Option FrameView)

-- ---- slots

pub at_same : (slots : Slots) (page : ℕ) (slot : Option FrameView) → page < length slots → slice_index_or (slice_set slots page slot) page None ≡ slot
at_same slots page slot within = get_or-set_same slots page slot None within

-- an edit of an absent frame is none
pub edit_here : (slots : Slots) (page : ℕ) (edit : FrameView → FrameView)
    → slice_index_or (slice_set slots page (option_map edit (slice_index_or slots page None))) page None ≡ option_map edit (slice_index_or slots page None)
edit_here slots page edit = go (cases_lt page (length slots)) where
  go : (page < length slots) ⊎ (length slots ≤ page) → slice_index_or
      (slice_set slots page (option_map edit (slice_index_or slots page None))) page None ≡ option_map edit (slice_index_or slots page None)
  go (inl within) = at_same slots page (option_map edit (slice_index_or slots page None)) within
  go (inr past) =
      let gone : slice_index_or slots page None ≡ None = get_or_past slots page None past in
      get_or_past (slice_set slots page (option_map edit (slice_index_or slots page None))) page None
      (omega (arith, past, length-set slots page (option_map edit (slice_index_or slots page None))))
      ∙ sym (ap (option_map edit) gone)

pub edit_elsewhere : (slots : Slots) (page q : ℕ) (slot : Option FrameView) → q ≢ page → slice_index_or (slice_set slots page slot) q None
    ≡ slice_index_or slots q None
edit_elsewhere slots page q slot apart = get_or-set_other slots page q slot None apart

-- ---- what a slot shows

abbrev pub holds : Option FrameView → Bool
holds slot = option_map_or holds_page slot false

abbrev pub stands : Option FrameView → Bool
stands slot = option_map_or (λ (frame : FrameView). is_written frame.content) slot false

abbrev pub fixes_in : Option FrameView → ℕ
fixes_in slot = option_map_or (λ (frame : FrameView). frame.fixes) slot 0

abbrev pub shown_in : Option FrameView → List ℕ
shown_in slot = cond (stands slot) (body_of (option_map_or (λ (frame : FrameView). frame.bytes) slot [])) blank

-- what is in the slot is fixed
abbrev pub IsHeld : Option FrameView → Type 0
IsHeld slot = holds slot ≡ true → 0 < fixes_in slot

-- the same page stands there, or none does
pub record IsAlike (old new : Option FrameView) : Type 0 where
  pub standing : stands new ≡ stands old
  pub shown : shown_in new ≡ shown_in old

pub alike_same : (slot new : Option FrameView) → new ≡ slot → IsAlike slot new
alike_same slot new is = record { standing = ap stands is; shown = ap shown_in is }

bare_stands : (slot : Option FrameView) → holds slot ≡ false → stands slot ≡ false
bare_stands None h = refl
bare_stands (Some frame) h = go frame.content h where
  go : (content : Content) → is_page content ≡ false → is_written content ≡ false
  go Empty k = refl
  go New k = refl
  go Clean k = cc
  go Dirty k = cc

-- a page that stands is there
pub stands_holds : (slot : Option FrameView) → stands slot ≡ true → holds slot ≡ true
stands_holds None h = cc
stands_holds (Some frame) h = go frame.content h where
  go : (content : Content) → is_written content ≡ true → is_page content ≡ true
  go Empty k = cc
  go New k = cc
  go Clean k = refl
  go Dirty k = refl

none_shown : (slot : Option FrameView) → stands slot ≡ false → shown_in slot ≡ blank
none_shown slot h = ap (λ b. cond b (body_of (option_map_or (λ (frame : FrameView). frame.bytes) slot [])) blank) h

-- no page stands in either
pub alike_none : (old new : Option FrameView) → stands old ≡ false → stands new ≡ false → IsAlike old new
alike_none old new a b = record { standing = b ∙ sym a; shown = none_shown new b ∙ sym (none_shown old a) }

pub keeps_by : (old new : PoolView) → length new.slots ≡ length old.slots → ((q : ℕ) → IsHeld (slot_of new q))
    → ((q : ℕ) → IsAlike (slot_of old q) (slot_of new q)) → KeepsPages old new
keeps_by old new long held alike = record { resident = held; slots = long; standing = λ q. (alike q).standing; pages = λ q. (alike q).shown }

pub keeps_none : (pool : PoolView) → IsResident pool → KeepsPages pool pool
keeps_none pool resident = record { resident = resident; slots = refl; standing = λ q. refl; pages = λ q. refl }

pub keeps_then : (a b c : PoolView) → KeepsPages a b → KeepsPages b c → KeepsPages a c
keeps_then a b c first next = record {
  resident = next.resident;
  slots = next.slots ∙ first.slots;
  standing = λ q. next.standing q ∙ first.standing q;
  pages = λ q. next.pages q ∙ first.pages q;
}

-- ---- fixing

pub held_fixes : (pool : PoolView) (page : ℕ) → (is_pooled pool page ≡ true → 0 < fixes_of pool page) → FixesPage page pool pool
held_fixes pool page held = record { slots = refl; standing = λ q. refl; pages = λ q. refl; here = held; elsewhere = λ q apart. refl }

-- the first pages are fixed
pub record AreFirstFixed (old : PoolView) (page : ℕ) (new : PoolView) : Type 0 where
  pub first : (q : ℕ) → q < page → is_pooled new q ≡ true → 0 < fixes_of new q
  pub slots : length new.slots ≡ length old.slots
  pub standing : (q : ℕ) → is_standing new q ≡ is_standing old q
  pub pages : (q : ℕ) → standing_in new q ≡ standing_in old q

pub none_fixed : (pool : PoolView) → AreFirstFixed pool 0 pool
none_fixed pool = record { first = λ q below. absurd (omega (arith, below)); slots = refl; standing = λ q. refl; pages = λ q. refl }

pub one_fixed : (old : PoolView) (page : ℕ) (pool new : PoolView) → AreFirstFixed old page pool → FixesPage page pool new → AreFirstFixed old (page + 1) new
one_fixed old page pool new first next = record {
  first = λ q below there. elim (cases_eq q page) [
    | inl same ↦ subst (λ (n : ℕ). 0 < fixes_of new n) (sym same) (next.here (subst (λ (n : ℕ). is_pooled new n ≡ true) same there))
    | inr apart ↦
        let same : slot_of new q ≡ slot_of pool q = next.elsewhere q apart in
        let before : q < page = omega (arith, below, apart) in
        subst (λ (s : Option FrameView). 0 < fixes_in s) (sym same) (first.first q before (sym (ap holds same) ∙ there))
  ];
  slots = next.slots ∙ first.slots;
  standing = λ q. next.standing q ∙ first.standing q;
  pages = λ q. next.pages q ∙ first.pages q;
}

pub all_fixed : (old : PoolView) (page : ℕ) (new : PoolView) → length old.slots ≤ page → AreFirstFixed old page new → KeepsPages old new
all_fixed old page new all first = record {
  resident = λ q there. elim (cases_lt q page) [
    | inl below ↦ first.first q below there
    | inr past ↦
        let none : slot_of new q ≡ None = get_or_past new.slots q None (omega (arith, past, all, first.slots)) in
        let clash : true ≡ false = sym there ∙ ap holds none in
        absurd cc
  ];
  slots = first.slots;
  standing = first.standing;
  pages = first.pages;
}

-- ---- giving a frame back

-- ---- taking a frame

and_left : (a b : Bool) → (a && b) ≡ true → a ≡ true
and_left true b k = refl
and_left false b k = cc

idle_bare : (slot : Option FrameView) → IsHeld slot → option_map_or is_idle slot false ≡ true → holds slot ≡ false
idle_bare None held h = refl
idle_bare (Some frame) held h = go (holds_page frame) refl where
  go : (b : Bool) → holds_page frame ≡ b → holds_page frame ≡ false
  go false is = is
  go true is =
      let free : (frame.fixes == 0) ≡ true = and_left (frame.fixes == 0) (is_kept frame.content) h in
      let none : frame.fixes ≡ 0 = eqb-true frame.fixes 0 free in
      absurd (omega (arith, held is, none))

module _ (slots : Slots) (from page : ℕ) (slot : Option FrameView) (hf : from < length slots) (hp : page < length slots) where
  swapped : slice_set (slice_set slots from (slice_index_or slots page None)) page (slice_index_or slots from None) ≡ swap slots from page
  swapped = swap_is slots from page None hf hp

  pub moved_here : slice_index_or (slice_set (swap slots from page) page slot) page None ≡ slot
  moved_here = get_or-set_same (swap slots from page) page slot None (omega (arith, hp, length-swap slots from page))

  other_is : (q : ℕ) → q ≢ page → slice_index_or (slice_set (swap slots from page) page slot) q None
      ≡ slice_index_or (slice_set slots from (slice_index_or slots page None)) q None
  other_is q apart =
      get_or-set_other (swap slots from page) page q slot None apart
      ∙ ap (λ (xs : Slots). slice_index_or xs q None) (sym swapped)
      ∙ get_or-set_other (slice_set slots from (slice_index_or slots page None)) page q (slice_index_or slots from None) None apart

  pub moved_from : from ≢ page → slice_index_or (slice_set (swap slots from page) page slot) from None ≡ slice_index_or slots page None
  moved_from apart = other_is from apart ∙ get_or-set_same slots from (slice_index_or slots page None) None hf

  pub moved_elsewhere : (q : ℕ) → q ≢ page → q ≢ from → slice_index_or (slice_set (swap slots from page) page slot) q None ≡ slice_index_or slots q None
  moved_elsewhere q apart from_apart = other_is q apart ∙ get_or-set_other slots from q (slice_index_or slots page None) None from_apart

-- a new page takes the frame that goes next
pub frame_taken : (pool : PoolView) (from page : ℕ) (frame : FrameView) → IsResident pool → page < length pool.slots → is_pooled pool page ≡ false
    → next_idle pool ≡ Some from
    → holds_page frame ≡ true → is_written frame.content ≡ false → 0 < frame.fixes → TakesFrame page pool (moved from page frame pool)
frame_taken pool from page frame resident within absent next there new held =
    let slots = pool.slots in
    let idle : is_idle_at slots from ≡ true = last_where_passes (is_idle_at slots) pool.order from next in
    let hf : from < length slots = idle_within slots from idle in
    let bare : is_pooled pool from ≡ false = idle_bare (slot_of pool from) (resident from) idle in
    let here : slice_index_or (slice_set (swap slots from page) page (Some frame)) page None ≡ Some frame = moved_here slots from page (Some frame) hf within in
    record {
      keeps = keeps_by pool (moved from page frame pool) (length-set (swap slots from page) page (Some frame) ∙ length-swap slots from page)
          (λ q. elim (cases_eq q page) [
            | inl same ↦ subst (λ (n : ℕ). IsHeld (slot_of (moved from page frame pool) n)) (sym same) (subst IsHeld (sym here) (λ h. held))
            | inr apart ↦ elim (cases_eq q from) [
              | inl same ↦
                  let apart_from : from ≢ page = λ e. apart (same ∙ e) in
                  subst (λ (n : ℕ). IsHeld (slot_of (moved from page frame pool) n)) (sym same)
                  (subst IsHeld (sym (moved_from slots from page (Some frame) hf within apart_from)) (resident page))
              | inr from_apart ↦ subst IsHeld (sym (moved_elsewhere slots from page (Some frame) hf within q apart from_apart)) (resident q)
            ]
          ])
          (λ q. elim (cases_eq q page) [
            | inl same ↦ subst (λ (n : ℕ). IsAlike (slot_of pool n) (slot_of (moved from page frame pool) n)) (sym same)
                (subst (IsAlike (slot_of pool page)) (sym here) (alike_none (slot_of pool page) (Some frame) (bare_stands (slot_of pool page) absent) new))
            | inr apart ↦ elim (cases_eq q from) [
              | inl same ↦
                  let apart_from : from ≢ page = λ e. apart (same ∙ e) in
                  subst (λ (n : ℕ). IsAlike (slot_of pool n) (slot_of (moved from page frame pool) n)) (sym same)
                  (subst (IsAlike (slot_of pool from)) (sym (moved_from slots from page (Some frame) hf within apart_from))
                  (alike_none (slot_of pool from) (slot_of pool page) (bare_stands (slot_of pool from) bare) (bare_stands (slot_of pool page) absent)))
              | inr from_apart ↦ alike_same (slot_of pool q) (slot_of (moved from page frame pool) q)
                  (moved_elsewhere slots from page (Some frame) hf within q apart from_apart)
            ]
          ]);
      pooled = λ q was. elim (cases_eq q page) [
        | inl same ↦ subst (λ (n : ℕ). is_pooled (moved from page frame pool) n ≡ true) (sym same) (ap holds here ∙ there)
        | inr apart ↦ elim (cases_eq q from) [
          | inl same ↦
              let was_there : is_pooled pool from ≡ true = subst (λ (n : ℕ). is_pooled pool n ≡ true) same was in
              let clash : true ≡ false = sym was_there ∙ bare in
              absurd cc
          | inr from_apart ↦ ap holds (moved_elsewhere slots from page (Some frame) hf within q apart from_apart) ∙ was
        ]
      ];
      here = λ below some. ap holds here ∙ there;
    }

pub frame_if_any : (pool : PoolView) (page : ℕ) (frame : FrameView) (new : PoolView) (result : Bool) → IsResident pool → page < length pool.slots
    → is_pooled pool page ≡ false
    → holds_page frame ≡ true → is_written frame.content ≡ false → 0 < frame.fixes
    → MatchOption (next_idle pool) ((result ≡ false) × (new ≡ pool)) (λ from. (result ≡ true) × (new ≡ moved from page frame pool)) → TakesFrame page pool new
frame_if_any pool page frame new result resident within absent there fresh held outcome = go (next_idle pool) refl outcome where
  go : (o : Option ℕ) → next_idle pool ≡ o → MatchOption o ((result ≡ false) × (new ≡ pool)) (λ from. (result ≡ true)
      × (new ≡ moved from page frame pool)) → TakesFrame page pool new
  go None is same = subst (TakesFrame page pool) (sym same.1) (record {
    keeps = keeps_none pool resident;
    pooled = λ q was. was;
    here = λ below some. let clash : true ≡ false = sym some ∙ ap is_some is in absurd cc;
  })
  go (Some from) is taken = subst (TakesFrame page pool) (sym taken.1) (frame_taken pool from page frame resident within absent is there fresh held)

-- an empty frame more
pub frame_added : (page : ℕ) (pool new : PoolView) → page < length pool.slots → is_some (slot_of pool page) ≡ false → IsResident pool → HasOneMore page pool new
    → KeepsPages pool new × ((q : ℕ) → is_pooled pool q ≡ true → is_pooled new q ≡ true)
frame_added page pool new within bare resident more = subst (λ (p : PoolView). KeepsPages pool p
    × ((q : ℕ) → is_pooled pool q ≡ true → is_pooled p q ≡ true)) (sym more.new_is) (
      keeps_by pool now (length-set pool.slots page (Some more.frame))
          (λ q. elim (cases_eq q page) [
            | inl same ↦ subst (λ (n : ℕ). IsHeld (slot_of now n)) (sym same) (subst IsHeld (sym here) empty_held)
            | inr apart ↦ subst IsHeld (sym (elsewhere q apart)) (resident q)
          ])
          (λ q. elim (cases_eq q page) [
            | inl same ↦ subst (λ (n : ℕ). IsAlike (slot_of pool n) (slot_of now n)) (sym same)
                (subst (IsAlike (slot_of pool page)) (sym here)
                (alike_none (slot_of pool page) (Some more.frame) (bare_stands (slot_of pool page) (none_holds (slot_of pool page) bare))
                (ap is_written more.content)))
            | inr apart ↦ alike_same (slot_of pool q) (slot_of now q) (elsewhere q apart)
          ]),
      λ q was. elim (cases_eq q page) [
        | inl same ↦
            let there : holds (slot_of pool page) ≡ true = subst (λ (n : ℕ). is_pooled pool n ≡ true) same was in
            let clash : true ≡ false = sym there ∙ none_holds (slot_of pool page) bare in
            absurd cc
        | inr apart ↦ ap holds (elsewhere q apart) ∙ was
      ],
    ) where
      now : PoolView
      now = record { slots = slice_set pool.slots page (Some more.frame); order = pool.order }

      here : slot_of now page ≡ Some more.frame
      here = at_same pool.slots page (Some more.frame) within

      elsewhere : (q : ℕ) → q ≢ page → slot_of now q ≡ slot_of pool q
      elsewhere q apart = edit_elsewhere pool.slots page q (Some more.frame) apart

      none_holds : (slot : Option FrameView) → is_some slot ≡ false → holds slot ≡ false
      none_holds None h = refl
      none_holds (Some frame) h = cc

      empty_held : IsHeld (Some more.frame)
      empty_held there = let clash : true ≡ false = sym there ∙ ap is_page more.content in absurd cc
