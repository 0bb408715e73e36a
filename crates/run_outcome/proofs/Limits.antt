-- A script that is refused is not printed.
use Rattle.std.proofs.Common.{◌≡◌, ◌⊎◌, ℕ, List, Option, None, Some, refl, sym, subst, inl, ⊎_elim, ap}
use Rattle.script.specs.declared.script.ScriptBad.{ScriptBad}
use Rattle.script.specs.declared.script.ScriptBad.TheVariants as bad
use Rattle.run_outcome.specs.Faults.{IsInputFault, IsPrinted}
use Rattle.run_outcome.specs.Generating.{script_fault, IsGenerateFault}

pub refused_printed : (why : ScriptBad) (known : Option (List ℕ)) (text : List ℕ) → IsPrinted (script_fault why) known known text
refused_printed (bad.Line line) known text = refl
refused_printed (bad.Limit what found most) known text = refl
refused_printed bad.NoMemory known text = refl

pub refused : (why : ScriptBad) (limit : Option ScriptBad) → (limit ≡ Some why) ⊎ ((why ≡ bad.NoMemory) × (limit ≡ None))
    → IsGenerateFault limit (script_fault why)
refused why limit by = ⊎_elim
    (λ is. subst (λ (o : Option ScriptBad). IsGenerateFault o (script_fault why)) (sym is) refl)
    (λ none. subst (λ (o : Option ScriptBad). IsGenerateFault o (script_fault why)) (sym none.1)
    (subst (λ (w : ScriptBad). IsGenerateFault None (script_fault w)) (sym none.0) tt))
    by

pub of_input : (why : ScriptBad) → IsInputFault (script_fault why)
of_input (bad.Line line) = tt
of_input (bad.Limit what found most) = tt
of_input bad.NoMemory = tt
