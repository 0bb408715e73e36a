-- Page 0 of a pool, changed and then placed.
use Rattle.std.proofs.Common.{◌≡◌, ◌≢◌, inl, inr, ℕ, ◌<◌, Bool, true, false, Option, Some, None, List, [], cond, length, refl, sym, ap, subst, ◌∙◌}
use Rattle.std.specs.Prelude.{IsTrue, option_map, ◌==◌}
use Rattle.std.specs.Option.{option_map_or}
use Rattle.std.proofs.lemmas.Bool.{cases_lt, eq-eqb}
use Rattle.std.proofs.lemmas.List.{length-set, get_or-set_same, get_or-set_other, get_or_past}
use Rattle.stored_pages.specs.Words.{lsn_of}
use Rattle.buffer_pool.specs.declared.frame.Content.TheVariants.{Clean, Dirty}
use Rattle.buffer_pool.specs.Frames.{FrameView, PoolView, slot_of, is_pooled, is_changed, is_written, holds_page, bytes_of, at_slot, changed, placed}
use Rattle.page_checkpoint.specs.Beginning.{HasHeader}

module _ (pool : PoolView) (header : List ℕ) (lsn : ℕ) (there : IsTrue (is_pooled pool 0)) where
  within : 0 < length pool.slots
  within = elim (cases_lt 0 (length pool.slots)) [
    | inl inside ↦ inside
    | inr past ↦
        let none : slot_of pool 0 ≡ None = get_or_past pool.slots 0 None past in
        let wrong : false ≡ true = sym (ap (λ (slot : Option FrameView). option_map_or holds_page slot false) none) ∙ there in absurd cc
  ]

  abbrev Changed : PoolView
  Changed = at_slot 0 (changed header) pool

  slot_changed : slot_of Changed 0 ≡ option_map (changed header) (slot_of pool 0)
  slot_changed = get_or-set_same pool.slots 0 (option_map (changed header) (slot_of pool 0)) None within

  pooled_by : (slot : Option FrameView) → IsTrue (option_map_or holds_page slot false)
      → IsTrue (option_map_or holds_page (option_map (changed header) slot) false)
  pooled_by None is = let wrong : false ≡ true = is in absurd cc
  pooled_by (Some frame) is = refl

  pub still_pooled : IsTrue (is_pooled Changed 0)
  still_pooled =
      subst (λ (slot : Option FrameView). IsTrue (option_map_or holds_page slot false)) (sym slot_changed) (pooled_by (slot_of pool 0) there)

  abbrev Placed : PoolView
  Placed = at_slot 0 (placed lsn) Changed

  module _ (same : lsn_of header ≡ lsn) where
    slot_placed : (slot : Option FrameView) → slot_of pool 0 ≡ slot → IsTrue (option_map_or holds_page slot false)
        → (frame : FrameView) × (slot_of pool 0 ≡ Some frame) × (slot_of Placed 0 ≡ Some (record { bytes = header; content = Clean; fixes = frame.fixes }))
    slot_placed None is held = let wrong : false ≡ true = held in absurd cc
    slot_placed (Some frame) is held =
        let long : 0 < length Changed.slots = subst (λ (n : ℕ). 0 < n) (sym (length-set pool.slots 0 (option_map (changed header) (slot_of pool 0)))) within in
        let first : slot_of Changed 0 ≡ Some (changed header frame) = slot_changed ∙ ap (option_map (changed header)) is in
        let second : slot_of Placed 0 ≡ option_map (placed lsn) (slot_of Changed 0) =
        get_or-set_same Changed.slots 0 (option_map (placed lsn) (slot_of Changed 0)) None long in
        let test : (lsn_of header == lsn) ≡ true = eq-eqb (lsn_of header) lsn same in (
          frame,
          is,
          second ∙ ap (option_map (placed lsn)) first
              ∙ ap (λ (b : Bool). Some (record { bytes = header; content = cond b Clean Dirty; fixes = frame.fixes })) test,
        )

    now : (frame : FrameView) × (slot_of pool 0 ≡ Some frame) × (slot_of Placed 0 ≡ Some (record { bytes = header; content = Clean; fixes = frame.fixes }))
    now = slot_placed (slot_of pool 0) refl there

    pub is_header : bytes_of Placed 0 ≡ header
    is_header = ap (λ (slot : Option FrameView). option_map_or (λ (frame : FrameView). frame.bytes) slot []) now.2

    other : (page : ℕ) → page ≢ 0 → slot_of Placed page ≡ slot_of pool page
    other page unlike =
        get_or-set_other Changed.slots 0 page (option_map (placed lsn) (slot_of Changed 0)) None unlike
        ∙ get_or-set_other pool.slots 0 page (option_map (changed header) (slot_of pool 0)) None unlike

    pub has_header : HasHeader pool Placed
    has_header = record {
      clean = ap (λ (slot : Option FrameView). option_map_or (λ (frame : FrameView). is_changed frame.content) slot false) now.2;
      standing = ap (λ (slot : Option FrameView). option_map_or (λ (frame : FrameView). is_written frame.content) slot false) now.2;
      fixes =
          ap (λ (slot : Option FrameView). option_map_or (λ (frame : FrameView). frame.fixes) slot 0) now.2
          ∙ sym (ap (λ (slot : Option FrameView). option_map_or (λ (frame : FrameView). frame.fixes) slot 0) now.1);
      others = other;
      order = refl;
    }
