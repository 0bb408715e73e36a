-- What a session has started and whether anything of it is under way is told by its own entries.
use Rattle.std.proofs.Common.{◌≡◌, ℕ, List, [], ◌∷◌, ◌++◌, refl, ap, inl, inr}
use Rattle.std.proofs.lemmas.Bool.Decides.{eqb_tells}
use Rattle.inno_model.specs.declared.event.Event.{Event}
use Rattle.inno_model.specs.declared.event.Event.TheVariants.{Started, Ended}
use Rattle.inno_model.specs.Past.{under_way}
use Rattle.inno_model.specs.Text.{items}
use Rattle.inno_model.specs.Boards.{calls_of}

pub items_by_calls : (x : ℕ) (past : List Event) → items x past ≡ items x (calls_of x past)
items_by_calls x [] = refl
items_by_calls x (Started s j item ∷ past) = elim (eqb_tells s x) [
  | inl same ↦ rw same.0 (rw same.0 (ap (λ list. list ++ item ∷ []) (items_by_calls x past)))
  | inr other ↦ rw other.0 (items_by_calls x past)
]
items_by_calls x (Ended s j reply ∷ past) = elim (eqb_tells s x) [
  | inl same ↦ rw same.0 (items_by_calls x past)
  | inr other ↦ rw other.0 (items_by_calls x past)
]
items_by_calls x (other ∷ past) = items_by_calls x past

pub under_way_by_calls : (x : ℕ) (past : List Event) → under_way x past ≡ under_way x (calls_of x past)
under_way_by_calls x [] = refl
under_way_by_calls x (Started s j item ∷ past) = elim (eqb_tells s x) [
  | inl same ↦ rw same.0 (rw same.0 refl)
  | inr other ↦ rw other.0 (under_way_by_calls x past)
]
under_way_by_calls x (Ended s j reply ∷ past) = elim (eqb_tells s x) [
  | inl same ↦ rw same.0 (rw same.0 refl)
  | inr other ↦ rw other.0 (under_way_by_calls x past)
]
under_way_by_calls x (other ∷ past) = under_way_by_calls x past
