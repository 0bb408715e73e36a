-- When two scripts are the same, and when bytes are read as a script.
use Rattle.std.proofs.Common.{◌≡◌, subst, ap, ℕ, List, Bool, true, false}
use Rattle.std.specs.Bool.{MatchBool}
use Rattle.std.specs.Prelude.{Result, Ok}
use Rattle.script.specs.declared.script.Script.{Script}
use Rattle.script.specs.declared.script.ScriptItem.{ScriptItem}
use Rattle.script.specs.declared.script.Tick.{Tick}
use Rattle.script.specs.declared.script.ScriptBad.{ScriptBad}
use Rattle.script.specs.declared.script.Directives.{Directives}
use Rattle.script.specs.Script.{Spells}
use Rattle.script.proofs.Meaning.{one_reading}

same_ok : (a b : Script) → ◌≡◌ {A = Result Script ScriptBad} (Ok a) (Ok b) → a ≡ b
same_ok a b is = cc

pub read_as : (allowed : Directives) (bytes : List ℕ) (read script : Script) (same : Bool) → Spells allowed bytes read → MatchBool same (read ≡ script) (read ≡ script → ⊥)
    → MatchBool same (Spells allowed bytes script) (Spells allowed bytes script → ⊥)
read_as allowed bytes read script true spells is = subst (Spells allowed bytes) is spells
read_as allowed bytes read script false spells differs = λ other. differs (same_ok read script (one_reading spells other))

joined : (n n' : List (List ℕ)) (i i' : List ScriptItem) (t t' : List Tick) → n ≡ n' → i ≡ i' → t ≡ t' → ◌≡◌ {A = Script} (record { names = n; items = i; ticks = t }) (record { names = n'; items = i'; ticks = t' })
joined n n' i i' t t' names items ticks = cc

pub same_parts : (a b : Script) (same : Bool) → a.names ≡ b.names → a.items ≡ b.items → MatchBool same (a.ticks ≡ b.ticks) (a.ticks ≡ b.ticks → ⊥) → MatchBool same (a ≡ b) (a ≡ b → ⊥)
same_parts a b true names items is = joined a.names b.names a.items b.items a.ticks b.ticks names items is
same_parts a b false names items differs = λ e. differs (ap (λ (s : Script). s.ticks) e)
