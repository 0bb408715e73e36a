-- Which pages of the pool are changed, whatever is done with the others.
use Rattle.std.proofs.Common.{◌≡◌, ◌≢◌, ℕ, ◌<◌, Bool, true, false, cond, ◌⊎◌, inl, inr, length, Option, Some, None, refl, sym, ap, subst, ◌∙◌}
use Rattle.std.specs.Prelude.{◌==◌, ◌&&◌, not, option_map, MatchOption}
use Rattle.std.specs.Option.{option_map_or}
use Rattle.std.proofs.lemmas.Bool.{cases_eq, cases_lt}
use Rattle.store_api.specs.Past.{Past}
use Rattle.buffer_pool.specs.declared.frame.Content.{Content}
use Rattle.buffer_pool.specs.declared.frame.Content.TheVariants.{Empty, New, Clean, Dirty}
use Rattle.buffer_pool.specs.Frames.{FrameView, PoolView, slot_of, is_pooled, is_dirty, is_page, is_written, is_changed, is_kept, is_idle, is_idle_at}
use Rattle.buffer_pool.specs.Frames.{next_idle, at_slot, with_used, moved, fixed, unfixed, content_after}
use Rattle.buffer_pool.proofs.Orders.{last_where_passes}
use Rattle.buffer_pool.proofs.SlotEdits.{idle_within}
use Rattle.mini_txn.proofs.Keeping.{edit_here, edit_elsewhere, moved_here, moved_from, moved_elsewhere}
use Rattle.paged_txn.specs.Ending.{let_go, LetsGoOne}
use Rattle.paged_txn.specs.View.{HasNoPage, holds, stands, bytes_in, is_clean, is_clean_in}
use Rattle.paged_txn.specs.Fixing.{new_frame, IsSecured}
use Rattle.paged_txn.specs.Bringing.{IsHeld, IsLetIn}
use Rattle.paged_txn.proofs.Slots.{IsLetGo}

abbrev pub dirty_in : Option FrameView → Bool
dirty_in slot = option_map_or (λ (frame : FrameView). is_changed frame.content) slot false

-- ---- a slot

-- it is changed in both, and as the same
pub record HasSame (old new : Option FrameView) : Type 0 where
  pub dirty : dirty_in new ≡ dirty_in old
  pub bytes : dirty_in old ≡ true → bytes_in new ≡ bytes_in old

pub has_itself : (old new : Option FrameView) → new ≡ old → HasSame old new
has_itself old new is = record { dirty = ap dirty_in is; bytes = λ d. ap bytes_in is }

neither : (old new : Option FrameView) → dirty_in old ≡ false → dirty_in new ≡ false → HasSame old new
neither old new a b = record { dirty = b ∙ sym a; bytes = λ d. let clash : false ≡ true = sym a ∙ d in cc }

fixed_has : (slot : Option FrameView) → HasSame slot (option_map fixed slot)
fixed_has None = record { dirty = refl; bytes = λ d. refl }
fixed_has (Some frame) = record { dirty = refl; bytes = λ d. refl }

bare_dirty : (slot : Option FrameView) → holds slot ≡ false → dirty_in slot ≡ false
bare_dirty None h = refl
bare_dirty (Some frame) h = go frame.content h where
  go : (content : Content) → is_page content ≡ false → is_changed content ≡ false
  go Empty k = refl
  go New k = cc
  go Clean k = cc
  go Dirty k = cc

and_right : (a b : Bool) → (a && b) ≡ true → b ≡ true
and_right true b k = k
and_right false b k = cc

idle_dirty : (slot : Option FrameView) → option_map_or is_idle slot false ≡ true → dirty_in slot ≡ false
idle_dirty None h = cc
idle_dirty (Some frame) h = go frame.content (and_right (frame.fixes == 0) (is_kept frame.content) h) where
  go : (content : Content) → is_kept content ≡ true → is_changed content ≡ false
  go Empty k = refl
  go New k = cc
  go Clean k = refl
  go Dirty k = cc

-- what stands is clean or changed
split : (slot : Option FrameView) → dirty_in slot ≡ (stands slot && not (is_clean_in slot))
split None = refl
split (Some frame) = go frame.content where
  go : (content : Content) → is_changed content ≡ (is_written content && not (is_clean content))
  go Empty = refl
  go New = refl
  go Clean = refl
  go Dirty = refl

pub dirty_stands : (slot : Option FrameView) → dirty_in slot ≡ true → (stands slot ≡ true) × (is_clean_in slot ≡ false)
dirty_stands None d = cc
dirty_stands (Some frame) d = go frame.content d where
  go : (content : Content) → is_changed content ≡ true → (is_written content ≡ true) × (is_clean content ≡ false)
  go Empty k = cc
  go New k = cc
  go Clean k = cc
  go Dirty k = (refl, refl)

pub stands_clean : (slot : Option FrameView) → stands slot ≡ true → dirty_in slot ≡ false → is_clean_in slot ≡ true
stands_clean None s d = cc
stands_clean (Some frame) s d = go frame.content s d where
  go : (content : Content) → is_written content ≡ true → is_changed content ≡ false → is_clean content ≡ true
  go Empty k d = cc
  go New k d = cc
  go Clean k d = refl
  go Dirty k d = cc

pub gone_has : (old new : Option FrameView) → IsLetGo old new → HasSame old new
gone_has old new gone = record {
  dirty = split new ∙ ap (λ b. b && not (is_clean_in new)) gone.stands_is ∙ ap (λ b. stands old && not b) gone.clean ∙ sym (split old);
  bytes = λ d. gone.bytes;
}

-- ---- a pool

-- the same pages are changed, as the same
abbrev pub HasSameChanged : PoolView → PoolView → Type 0
HasSameChanged old new = (q : ℕ) → HasSame (slot_of old q) (slot_of new q)

pub same_pool : (old new : PoolView) → new ≡ old → HasSameChanged old new
same_pool old new is q = has_itself (slot_of old q) (slot_of new q) (ap (λ (p : PoolView). slot_of p q) is)

held_changed : (pool : PoolView) (page : ℕ) → HasSameChanged pool (with_used page (at_slot page fixed pool))
held_changed pool page q = elim (cases_eq q page) [
  | inl is ↦ subst (λ (n : ℕ). HasSame (slot_of pool n) (slot_of (with_used page (at_slot page fixed pool)) n)) (sym is)
      (subst (HasSame (slot_of pool page)) (sym (edit_here pool.slots page fixed)) (fixed_has (slot_of pool page)))
  | inr apart ↦ has_itself (slot_of pool q) (slot_of (with_used page (at_slot page fixed pool)) q)
      (edit_elsewhere pool.slots page q (option_map fixed (slot_of pool page)) apart)
]

module _ (pool : PoolView) (page from : ℕ) (frame : FrameView) (within : page < length pool.slots) (absent : is_pooled pool page ≡ false)
    (next : next_idle pool ≡ Some from) (unchanged : is_changed frame.content ≡ false) where
  abbrev new : PoolView
  new = moved from page frame pool

  idle : is_idle_at pool.slots from ≡ true
  idle = last_where_passes (is_idle_at pool.slots) pool.order from next

  from_within : from < length pool.slots
  from_within = idle_within pool.slots from idle

  bare : dirty_in (slot_of pool page) ≡ false
  bare = bare_dirty (slot_of pool page) absent

  moved_changed : HasSameChanged pool new
  moved_changed q = elim (cases_eq q page) [
    | inl is ↦ subst (λ (n : ℕ). HasSame (slot_of pool n) (slot_of new n)) (sym is)
        (neither (slot_of pool page) (slot_of new page) bare (ap dirty_in (moved_here pool.slots from page (Some frame) from_within within) ∙ unchanged))
    | inr apart ↦ elim (cases_eq q from) [
      | inl is ↦
          let apart_from : from ≢ page = λ e. apart (is ∙ e) in
          subst (λ (n : ℕ). HasSame (slot_of pool n) (slot_of new n)) (sym is)
          (neither (slot_of pool from) (slot_of new from) (idle_dirty (slot_of pool from) idle)
          (ap dirty_in (moved_from pool.slots from page (Some frame) from_within within apart_from) ∙ bare))
      | inr from_apart ↦ has_itself (slot_of pool q) (slot_of new q) (moved_elsewhere pool.slots from page (Some frame) from_within within q apart from_apart)
    ]
  ]

pub brought_changed : (page : ℕ) (before now : Past) (pool new : PoolView) → IsHeld page before now pool new ⊎ IsLetIn page before now pool new
    → HasSameChanged pool new
brought_changed page before now pool after (inl held) =
    subst (λ (p : PoolView). HasSameChanged pool p) (sym held.pool_is) (held_changed pool page)
brought_changed page before now pool after (inr brought) =
    subst (λ (p : PoolView). HasSameChanged pool p) (sym brought.pool_is)
    (moved_changed pool page brought.from (record { bytes = brought.bytes; content = Clean; fixes = 1 }) brought.within brought.absent brought.from_is refl)

pub secured_changed : (known : Bool) (page : ℕ) (pool new : PoolView) → IsSecured known page pool new → HasSameChanged pool new
secured_changed true page pool new secured = same_pool pool new (secured.known_is refl)
secured_changed false page pool new secured = elim (cases_lt page (length pool.slots)) [
  | inr past ↦ same_pool pool new (secured.past past)
  | inl within ↦ go within (is_pooled pool page) refl
] where
  go : page < length pool.slots → (b : Bool) → is_pooled pool page ≡ b → HasSameChanged pool new
  go within true there = subst (λ (p : PoolView). HasSameChanged pool p) (sym (secured.there refl within there)) (held_changed pool page)
  go within false absent = last (next_idle pool) refl (secured.absent refl within absent) where
    last : (o : Option ℕ) → next_idle pool ≡ o → MatchOption o (new ≡ pool) (λ from. new ≡ moved from page new_frame pool) → HasSameChanged pool new
    last None next outcome = same_pool pool new outcome
    last (Some from) next outcome = subst (λ (p : PoolView). HasSameChanged pool p) (sym outcome)
        (moved_changed pool page from new_frame within absent next refl)

-- ---- no page was in the pool, and one was looked at

let_go_dirty : (slot : Option FrameView) → dirty_in (option_map let_go slot) ≡ dirty_in slot
let_go_dirty None = refl
let_go_dirty (Some frame) = go (frame.fixes == 0) where
  after : (content : Content) (b : Bool) → is_changed (content_after content frame.fixes) ≡ is_changed content
  after Empty b = refl
  after Clean b = refl
  after Dirty b = refl
  after New b = new_one (frame.fixes == 1) where
    new_one : (one : Bool) → is_changed (cond one Empty New) ≡ false
    new_one true = refl
    new_one false = refl

  go : (b : Bool) → is_changed ((cond b frame (unfixed frame)).content) ≡ is_changed frame.content
  go true = refl
  go false = after frame.content false

pub opened_clean : (page : ℕ) (before now : Past) (pool mid after : PoolView) → HasNoPage (length pool.slots) pool
    → IsHeld page before now pool mid ⊎ IsLetIn page before now pool mid → LetsGoOne page mid after → (q : ℕ) → is_dirty after q ≡ false
opened_clean page before now pool mid after empty brought goes q =
    ap dirty_in (goes.each q) ∙ go (q == page) ∙ (brought_changed page before now pool mid brought q).dirty ∙ bare_dirty (slot_of pool q) (empty.none q).0 where
      go : (b : Bool) → dirty_in (cond b (option_map let_go (slot_of mid q)) (slot_of mid q)) ≡ dirty_in (slot_of mid q)
      go true = let_go_dirty (slot_of mid q)
      go false = refl

pub unopened_clean : (pool after : PoolView) → HasNoPage (length pool.slots) pool → after ≡ pool → (q : ℕ) → is_dirty after q ≡ false
unopened_clean pool after empty is q = ap (λ (p : PoolView). is_dirty p q) is ∙ bare_dirty (slot_of pool q) (empty.none q).0
