-- A page is fixed: one of the pool, or one that takes the frame of another.
use Rattle.std.proofs.Common.{◌≡◌, ◌≢◌, ℕ, ◌<◌, Bool, true, false, cond, inl, inr, length, Some, refl, sym, ap, subst, ◌∙◌}
use Rattle.std.specs.Prelude.{◌&&◌, option_map}
use Rattle.std.specs.List.{swap}
use Rattle.std.proofs.lemmas.Bool.{cases_eq, lt-ltb}
use Rattle.std.proofs.lemmas.List.{length-set}
use Rattle.std.proofs.lemmas.List.Edits.{length-swap}
use Rattle.store_api.specs.Past.{Past}
use Rattle.buffer_pool.specs.Frames.{FrameView, PoolView, slot_of, is_pooled, is_idle_at, next_idle, at_slot, with_used, moved, fixed}
use Rattle.buffer_pool.proofs.Orders.{last_where_passes}
use Rattle.buffer_pool.proofs.SlotEdits.{idle_within}
use Rattle.mini_txn.proofs.Keeping.{edit_here, edit_elsewhere, moved_here, moved_from, moved_elsewhere}
use Rattle.paged_txn.specs.View.{place_in, can_be_read, holds, fixes_in, standing_by, fault_by, standing_in, fault_in, IsFrame}
use Rattle.paged_txn.specs.Fixing.{Fixes, IsGivenUp}
use Rattle.paged_txn.proofs.Slots.{IsSame, same_is, fixed_frame, fixed_same, idle_unfixed, given_same}

-- what is the same in a slot is the same of its page
module _ (q : ℕ) (before now : Past) (old new : PoolView) (long : length new.slots ≡ length old.slots) (place : place_in now q ≡ place_in before q)
    (same : IsSame (can_be_read (length old.slots) q (place_in before q)) (place_in before q) (slot_of old q) (slot_of new q)) where
  pub same_standing : standing_in new now q ≡ standing_in old before q
  same_standing =
      ap (λ n. standing_by (slot_of new q) (can_be_read n q (place_in now q)) (place_in now q)) long
      ∙ ap (λ p. standing_by (slot_of new q) (can_be_read (length old.slots) q p) p) place
      ∙ same.standing

  pub same_fault : fault_in new now q ≡ fault_in old before q
  same_fault =
      ap (λ n. fault_by (slot_of new q) (can_be_read n q (place_in now q))) long
      ∙ ap (λ p. fault_by (slot_of new q) (can_be_read (length old.slots) q p)) place
      ∙ same.fault

-- a page of the pool
module _ (known : Bool) (page : ℕ) (past : Past) (pool : PoolView) (frame : IsFrame known page (place_in past page) false (slot_of pool page))
    (there : is_pooled pool page ≡ true) where
  abbrev held : PoolView
  held = with_used page (at_slot page fixed pool)

  held_here : slot_of held page ≡ option_map fixed (slot_of pool page)
  held_here = edit_here pool.slots page fixed

  held_other : (q : ℕ) → q ≢ page → slot_of held q ≡ slot_of pool q
  held_other q apart = edit_elsewhere pool.slots page q (option_map fixed (slot_of pool page)) apart

  held_long : length held.slots ≡ length pool.slots
  held_long = length-set pool.slots page (option_map fixed (slot_of pool page))

  held_same : (q : ℕ) → IsSame (can_be_read (length pool.slots) q (place_in past q)) (place_in past q) (slot_of pool q) (slot_of held q)
  held_same q = elim (cases_eq q page) [
    | inl is ↦ subst (λ (n : ℕ). IsSame (can_be_read (length pool.slots) n (place_in past n)) (place_in past n) (slot_of pool n) (slot_of held n)) (sym is)
        (subst (IsSame (can_be_read (length pool.slots) page (place_in past page)) (place_in past page) (slot_of pool page)) (sym held_here)
        (fixed_same (can_be_read (length pool.slots) page (place_in past page)) (place_in past page) (slot_of pool page)))
    | inr apart ↦ same_is (can_be_read (length pool.slots) q (place_in past q)) (place_in past q) (slot_of pool q) (slot_of held q) (held_other q apart)
  ]

  pub held_fixes : Fixes known page past past pool (with_used page (at_slot page fixed pool))
  held_fixes = record {
    slots = held_long;
    here = subst (IsFrame known page (place_in past page) true) (sym held_here) (fixed_frame known page (place_in past page) (slot_of pool page) frame there);
    others = λ q apart. inl (held_other q apart);
    places = λ k q. refl;
    standing = λ k q. same_standing q past past pool held held_long refl (held_same q);
    faults = λ k q. same_fault q past past pool held held_long refl (held_same q);
  }

-- a page that takes the frame that goes next
module _ (known : Bool) (page from : ℕ) (before now : Past) (frame : FrameView) (pool : PoolView) (dealt : ℕ → Bool)
    (places : known ≡ true → (q : ℕ) → place_in now q ≡ place_in before q)
    (frames : (q : ℕ) → IsFrame known q (place_in before q) (dealt q) (slot_of pool q))
    (within : page < length pool.slots) (absent : is_pooled pool page ≡ false) (next : next_idle pool ≡ Some from)
    (here : IsFrame known page (place_in now page) true (Some frame))
    (same : known ≡ true → IsSame (can_be_read (length pool.slots) page (place_in before page)) (place_in before page) (slot_of pool page) (Some frame)) where
  abbrev new : PoolView
  new = moved from page frame pool

  idle : is_idle_at pool.slots from ≡ true
  idle = last_where_passes (is_idle_at pool.slots) pool.order from next

  from_within : from < length pool.slots
  from_within = idle_within pool.slots from idle

  new_long : length new.slots ≡ length pool.slots
  new_long = length-set (swap pool.slots from page) page (Some frame) ∙ length-swap pool.slots from page

  new_here : slot_of new page ≡ Some frame
  new_here = moved_here pool.slots from page (Some frame) from_within within

  new_from : from ≢ page → slot_of new from ≡ slot_of pool page
  new_from apart = moved_from pool.slots from page (Some frame) from_within within apart

  new_other : (q : ℕ) → q ≢ page → q ≢ from → slot_of new q ≡ slot_of pool q
  new_other q apart from_apart = moved_elsewhere pool.slots from page (Some frame) from_within within q apart from_apart

  bare_unfixed : fixes_in (slot_of pool page) ≡ 0
  bare_unfixed = (frames page).fixes ∙ none (dealt page) (holds (slot_of pool page)) absent where
    none : (a b : Bool) → b ≡ false → ◌≡◌ {A = ℕ} (cond (a && b) 1 0) 0
    none true b h = ap (λ t. cond t 1 0) h
    none false b h = refl

  given : from ≢ page → IsGivenUp (slot_of pool from) (slot_of new from)
  given apart = (
    idle_unfixed (slot_of pool from) idle,
    ap holds (new_from apart) ∙ absent,
    ap fixes_in (new_from apart) ∙ bare_unfixed,
  )

  new_same : known ≡ true → (q : ℕ) → IsSame (can_be_read (length pool.slots) q (place_in before q)) (place_in before q) (slot_of pool q) (slot_of new q)
  new_same k q = elim (cases_eq q page) [
    | inl is ↦ subst (λ (n : ℕ). IsSame (can_be_read (length pool.slots) n (place_in before n)) (place_in before n) (slot_of pool n) (slot_of new n)) (sym is)
        (subst (IsSame (can_be_read (length pool.slots) page (place_in before page)) (place_in before page) (slot_of pool page)) (sym new_here) (same k))
    | inr apart ↦ elim (cases_eq q from) [
      | inl is ↦
          let apart_from : from ≢ page = λ e. apart (is ∙ e) in
          subst (λ (n : ℕ). IsSame (can_be_read (length pool.slots) n (place_in before n)) (place_in before n) (slot_of pool n) (slot_of new n)) (sym is)
          (given_same known from (length pool.slots) (place_in before from) (dealt from) (slot_of pool from) (slot_of new from) k
          (lt-ltb from (length pool.slots) from_within) (frames from) idle (given apart_from).1)
      | inr from_apart ↦ same_is (can_be_read (length pool.slots) q (place_in before q)) (place_in before q) (slot_of pool q) (slot_of new q)
          (new_other q apart from_apart)
    ]
  ]

  pub moved_fixes : Fixes known page before now pool (moved from page frame pool)
  moved_fixes = record {
    slots = new_long;
    here = subst (IsFrame known page (place_in now page) true) (sym new_here) here;
    others = λ q apart. elim (cases_eq q from) [
      | inl is ↦
          let apart_from : from ≢ page = λ e. apart (is ∙ e) in
          inr (subst (λ (n : ℕ). IsGivenUp (slot_of pool n) (slot_of new n)) (sym is) (given apart_from))
      | inr from_apart ↦ inl (new_other q apart from_apart)
    ];
    places = places;
    standing = λ k q. same_standing q before now pool new new_long (places k q) (new_same k q);
    faults = λ k q. same_fault q before now pool new new_long (places k q) (new_same k q);
  }
