-- A latch of a target that its actor doesn't hold.
use Rattle.std.proofs.Common.{◌≡◌, false, cond, List, [], ◌∷◌, ◌++◌, refl, ap, ◌∙◌}
use Rattle.std.specs.Prelude.{◌&&◌, ◌||◌, not}
use Rattle.lock_rules.specs.Kinds.{is_shared}
use Rattle.lock_rules.proofs.Booleans.{or_false, or_false-left, or_false-right}
use Rattle.latch_table.specs.declared.latches.Latch.{Latch}
use Rattle.latch_table.specs.Held.{is_of, is_held, covers, is_covered, without, with_latch}

uncovered : (asked : Latch) (xs : List Latch) → is_held asked.actor asked.target xs ≡ false → is_covered asked xs ≡ false
uncovered asked [] free = refl
uncovered asked (x ∷ xs) free =
    let here = or_false-left (is_of asked.actor asked.target x) (is_held asked.actor asked.target xs) free in
    let rest = or_false-right (is_of asked.actor asked.target x) (is_held asked.actor asked.target xs) free in
    or_false (covers x asked) (is_covered asked xs) (ap (λ b. b && (is_shared asked.mode || not (is_shared x.mode))) here) (uncovered asked xs rest)

without-same : (asked : Latch) (xs : List Latch) → is_held asked.actor asked.target xs ≡ false → without asked.actor asked.target xs ≡ xs
without-same asked [] free = refl
without-same asked (x ∷ xs) free =
    let here = or_false-left (is_of asked.actor asked.target x) (is_held asked.actor asked.target xs) free in
    let rest = or_false-right (is_of asked.actor asked.target x) (is_held asked.actor asked.target xs) free in
    ap (λ b. cond (not b) (x ∷ without asked.actor asked.target xs) (without asked.actor asked.target xs)) here ∙ ap (λ ws. x ∷ ws) (without-same asked xs rest)

pub with_latch-first : (asked : Latch) (held : List Latch) → is_held asked.actor asked.target held ≡ false → with_latch asked held ≡ held ++ asked ∷ []
with_latch-first asked held free =
    ap (λ b. cond b held (without asked.actor asked.target held ++ asked ∷ [])) (uncovered asked held free)
    ∙ ap (λ ws. ws ++ asked ∷ []) (without-same asked held free)
