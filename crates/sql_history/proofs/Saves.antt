-- Savepoints by name.
use Rattle.std.proofs.Common.{◌≡◌, ℕ, Bool, true, false, Some, List, [], ◌∷◌, refl, arith}
use Rattle.std.proofs.lemmas.Bool.Decides.{nat_tests}
use Rattle.std.specs.Prelude.{bytes_eq}
use Rattle.sql_history.specs.declared.settings.Save.{Save}
use Rattle.sql_history.specs.Settings.{made_at, saved, back_to}

same_bytes : (name : List ℕ) → bytes_eq name name ≡ true
same_bytes [] = refl
same_bytes (b ∷ name) = grind (arith, nat_tests, same_bytes name)

pub kept_at : (name : List ℕ) (made : ℕ) (saves : List Save) → made_at name (saved name made true saves) ≡ Some made
kept_at name made saves = rw (same_bytes name) refl

by_name : (b : Bool) (name : List ℕ) (save : Save) (saves : List Save) → bytes_eq save.name name ≡ b
    → made_at name (back_to name saves) ≡ made_at name saves → made_at name (back_to name (save ∷ saves)) ≡ made_at name (save ∷ saves)
by_name true name save saves is behind = rw is (rw is refl)
by_name false name save saves is behind = rw is behind

pub kept_behind : (name : List ℕ) (saves : List Save) → made_at name (back_to name saves) ≡ made_at name saves
kept_behind name [] = refl
kept_behind name (save ∷ saves) = by_name (bytes_eq save.name name) name save saves refl (kept_behind name saves)
