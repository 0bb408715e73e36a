-- What it makes of the pool that a page is fixed, read or made there: another clean page may be given up for it.
use Rattle.std.specs.Prelude.{◌≡◌, ◌≢◌, ◌⊎◌, ℕ, ◌<◌, ◌≤◌, Bool, true, false, length, replicate, Option, MatchOption}
use Rattle.store_api.specs.Past.{Past}
use Rattle.stored_pages.specs.declared.layout.TheConstants.{PAGE}
use Rattle.buffer_pool.specs.declared.frame.Content.TheVariants.{New}
use Rattle.buffer_pool.specs.Frames.{FrameView, PoolView, slot_of, is_pooled, next_idle, at_slot, fixed, with_used, moved}
use Rattle.paged_txn.specs.View.{IsFrame, holds, fixes_in, place_in, standing_in, fault_in}

-- the frame of a page that nobody has fixed went to another page
abbrev pub IsGivenUp : Option FrameView → Option FrameView → Type 0
IsGivenUp old new = (fixes_in old ≡ 0) × (holds new ≡ false) × (fixes_in new ≡ 0)

-- The page's frame is that of one dealt with. If the pages are known, each stands as before.
pub record Fixes (known : Bool) (page : ℕ) (before now : Past) (old new : PoolView) : Type 0 where
  pub slots : length new.slots ≡ length old.slots
  pub here : IsFrame known page (place_in now page) true (slot_of new page)
  pub others : (q : ℕ) → q ≢ page → (slot_of new q ≡ slot_of old q) ⊎ IsGivenUp (slot_of old q) (slot_of new q)
  pub places : known ≡ true → (q : ℕ) → place_in now q ≡ place_in before q
  pub standing : known ≡ true → (q : ℕ) → standing_in new now q ≡ standing_in old before q
  pub faults : known ≡ true → (q : ℕ) → fault_in new now q ≡ fault_in old before q

-- a frame of zeros, for a page that is made
abbrev pub new_frame : FrameView
new_frame = record { bytes = replicate PAGE 0; content = New; fixes = 1 }

-- A page that isn't dealt with is fixed, or has a frame of zeros if there was one for it.
pub record IsSecured (known : Bool) (page : ℕ) (old new : PoolView) : Type 0 where
  pub known_is : known ≡ true → new ≡ old
  pub past : length old.slots ≤ page → new ≡ old
  pub there : known ≡ false → page < length old.slots → is_pooled old page ≡ true → new ≡ with_used page (at_slot page fixed old)
  pub absent : known ≡ false → page < length old.slots → is_pooled old page ≡ false
      → MatchOption (next_idle old) (new ≡ old) (λ from. new ≡ moved from page new_frame old)
