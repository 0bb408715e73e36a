-- A page that is to be made has its frame.
use Rattle.std.proofs.Common.{◌≡◌, ℕ, ◌<◌, Bool, true, false, inl, inr, List, length, Option, Some, None, refl, sym, ap, subst, ◌∙◌}
use Rattle.std.specs.Prelude.{◌||◌, option_map, is_some, MatchOption}
use Rattle.std.proofs.lemmas.Bool.{cases_lt}
use Rattle.store_api.specs.Past.{Past}
use Rattle.log_format.specs.declared.group.Record.{Record}
use Rattle.buffer_pool.specs.Frames.{FrameView, PoolView, slot_of, is_pooled, is_idle_at, next_idle, at_slot, with_used, moved, fixed}
use Rattle.buffer_pool.proofs.Orders.{last_where_passes}
use Rattle.buffer_pool.proofs.SlotEdits.{idle_within}
use Rattle.mtr.specs.Seen.{is_in}
use Rattle.mini_txn.specs.declared.dealt.Entry.{Entry}
use Rattle.mini_txn.specs.Dealt.{pages_of}
use Rattle.mini_txn.proofs.Keeping.{edit_here, moved_here}
use Rattle.paged_txn.specs.View.{is_known, place_in, can_be_read, holds, IsPaged}
use Rattle.paged_txn.specs.Fixing.{new_frame, IsSecured}
use Rattle.paged_txn.proofs.Slots.{same_bare, bare_stands, frame_is}
use Rattle.paged_txn.proofs.Fixed.{held_fixes, moved_fixes}
use Rattle.paged_txn.proofs.Meeting.{Readies, ready_known, ready_past, ready_fixed}

module _ (pool : PoolView) (past : Past) (dealt : List Entry) (records : List Record) (told : Bool) (page : ℕ) (is : IsPaged pool past dealt records told) where
  frame_held : (slot : Option FrameView) → holds (option_map fixed slot) ≡ holds slot
  frame_held None = refl
  frame_held (Some f) = refl

  ready_held : is_in page (pages_of dealt) ≡ false → is_pooled pool page ≡ true
      → Readies (is_known told past) page past pool (with_used page (at_slot page fixed pool)) dealt
  ready_held unknown there = ready_fixed pool past dealt records told page is (with_used page (at_slot page fixed pool)) unknown
      (held_fixes (is_known told past) page past pool
      (frame_is (is_known told past) page (place_in past page) (is_in page (pages_of dealt)) false (slot_of pool page) (slot_of pool page) (sym unknown) refl
      (is.frames page)) there)
      (ap holds (edit_here pool.slots page fixed) ∙ frame_held (slot_of pool page) ∙ there)

  ready_moved : (from : ℕ) → is_in page (pages_of dealt) ≡ false → page < length pool.slots → is_pooled pool page ≡ false → next_idle pool ≡ Some from
      → Readies (is_known told past) page past pool (moved from page new_frame pool) dealt
  ready_moved from unknown within absent next = ready_fixed pool past dealt records told page is (moved from page new_frame pool) unknown
      (moved_fixes (is_known told past) page from past past new_frame pool (λ q. is_in q (pages_of dealt)) (λ k q. refl) is.frames within absent next
      (record { fixes = refl; written = λ d h. absurd cc; kept = λ k clean. absurd cc })
      (λ k. same_bare (can_be_read (length pool.slots) page (place_in past page)) (place_in past page) (slot_of pool page) (Some new_frame)
      (bare_stands (slot_of pool page) absent) refl))
      (ap holds (moved_here pool.slots from page (Some new_frame) (idle_within pool.slots from
      (last_where_passes (is_idle_at pool.slots) pool.order from next)) within))

  pub ready_by : (b : Bool) (new : PoolView) → b ≡ is_in page (pages_of dealt) → (b || (is_pooled pool page || is_some (next_idle pool))) ≡ true
      → IsSecured b page pool new → Readies (is_known told past) page past pool new dealt
  ready_by true new is_b opens secured = subst (λ (p : PoolView). Readies (is_known told past) page past pool p dealt) (sym (secured.known_is refl))
      (ready_known pool past dealt records told page is (sym is_b))
  ready_by false new is_b opens secured = elim (cases_lt page (length pool.slots)) [
    | inr past_end ↦ subst (λ (p : PoolView). Readies (is_known told past) page past pool p dealt) (sym (secured.past past_end))
        (ready_past pool past dealt records told page is past_end)
    | inl within ↦ go within (is_pooled pool page) refl opens
  ] where
    go : page < length pool.slots → (b : Bool) → is_pooled pool page ≡ b → (b || is_some (next_idle pool)) ≡ true
        → Readies (is_known told past) page past pool new dealt
    go within true there opens = subst (λ (p : PoolView). Readies (is_known told past) page past pool p dealt) (sym (secured.there refl within there))
        (ready_held (sym is_b) there)
    go within false absent opens = last (next_idle pool) refl opens (secured.absent refl within absent) where
      last : (o : Option ℕ) → next_idle pool ≡ o → is_some o ≡ true → MatchOption o (new ≡ pool) (λ from. new ≡ moved from page new_frame pool)
          → Readies (is_known told past) page past pool new dealt
      last None next some outcome = absurd cc
      last (Some from) next some outcome = subst (λ (p : PoolView). Readies (is_known told past) page past pool p dealt) (sym outcome)
          (ready_moved from (sym is_b) within absent next)

pub never_shut : (known pooled free : Bool) → (known || (pooled || free)) ≡ true → (pooled || known) ≡ false → free ≡ false → ⊥
never_shut true true free opens absent none = cc
never_shut true false free opens absent none = cc
never_shut false true free opens absent none = cc
never_shut false false true opens absent none = cc
never_shut false false false opens absent none = cc
