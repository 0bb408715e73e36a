-- Bytes have one meaning.
use Rattle.std.proofs.Common.{◌≡◌, refl, ap, ℕ, ◌<◌, ◌≤◌, List, length, subst, arith}
use Rattle.std.specs.Prelude.{Result, Ok, Err, IfOk, IfErr}
use Rattle.script.specs.declared.script.Script.{Script}
use Rattle.script.specs.declared.script.Directives.{Directives}
use Rattle.script.specs.declared.script.ScriptBad.{ScriptBad}
use Rattle.script.specs.declared.reading.Reading.{Reading}
use Rattle.script.specs.declared.script.ScriptBad.TheVariants.{Line, Limit, NoMemory}
use Rattle.script.specs.Reading.{begun, step, finished, IsTold}
use Rattle.script.specs.Script.{Reads, ended, stopped, more, IsScript, IsRefused}

apart : {A B : Type 0} (x : A) (y : B) (r : Result A B) → r ≡ Ok x → r ≡ Err y → ⊥
apart x y r is is' = cc

same_ok : {A B : Type 0} (x y : A) (r : Result A B) → r ≡ Ok x → r ≡ Ok y → x ≡ y
same_ok x y r is is' = cc

same_err : {A B : Type 0} (x y : B) (r : Result A B) → r ≡ Err x → r ≡ Err y → x ≡ y
same_err x y r is is' = cc

pub one_reading : {allowed : Directives} {bytes : List ℕ} {reading : Reading} {one other : Result Script ScriptBad} → Reads allowed bytes reading one → Reads allowed bytes reading other → one ≡ other
one_reading (ended end) (ended end') = refl
one_reading (ended end) (stopped go is) = absurd (omega arith)
one_reading (ended end) (more go is rest) = absurd (omega arith)
one_reading (stopped go is) (ended end) = absurd (omega arith)
one_reading (stopped {bad = bad} go is) (stopped {bad = bad'} go' is') = ap (λ (b : ScriptBad). Err b) (same_err bad bad' _ is is')
one_reading (stopped {bad = bad} go is) (more {next = next} go' is' rest) = absurd (apart next bad _ is' is)
one_reading (more go is rest) (ended end) = absurd (omega arith)
one_reading (more {next = next} go is rest) (stopped {bad = bad} go' is') = absurd (apart next bad _ is is')
one_reading {allowed} {bytes} {reading} {one} {other} (more {next = next} go is rest) (more {next = next'} go' is' rest') =
    one_reading rest (subst (λ (r : Reading). Reads allowed bytes r other) (same_ok next' next _ is' is) rest')

-- what the bytes are from a reading on, they are
pub record LeadsTo (allowed : Directives) (bytes : List ℕ) (reading : Reading) : Type 0 where
  pub means : (meaning : Result Script ScriptBad) → Reads allowed bytes reading meaning → Reads allowed bytes begun meaning

pub leads_from_the_front : (allowed : Directives) (bytes : List ℕ) → LeadsTo allowed bytes begun
leads_from_the_front allowed bytes = record { means = λ meaning reads. reads }

pub leads_on : (allowed : Directives) (bytes : List ℕ) (reading next : Reading) → reading.at < length bytes → step allowed bytes reading ≡ Ok next → LeadsTo allowed bytes reading → LeadsTo allowed bytes next
leads_on allowed bytes reading next go is leads = record { means = λ meaning reads. leads.means meaning (more go is reads) }

no_script : (allowed : Directives) (bytes : List ℕ) (bad : ScriptBad) → Reads allowed bytes begun (Err bad) → IsScript allowed bytes → ⊥
no_script allowed bytes bad means is = apart is.0 bad _ (one_reading means is.1) refl

-- for whatever reason that is told
refuses : (allowed : Directives) (bytes : List ℕ) (bad : ScriptBad) → Reads allowed bytes begun (Err bad) → IsRefused allowed bytes bad
refuses allowed bytes (Line line) means = (means, no_script allowed bytes (Line line) means)
refuses allowed bytes (Limit what found most) means = (means, no_script allowed bytes (Limit what found most) means)
refuses allowed bytes NoMemory means = tt

pub refused_by_step : (allowed : Directives) (bytes : List ℕ) (reading : Reading) (bad : ScriptBad) → reading.at < length bytes → IsTold bad (step allowed bytes reading) → LeadsTo allowed bytes reading → IsRefused allowed bytes bad
refused_by_step allowed bytes reading (Line line) go is leads = refuses allowed bytes (Line line) (leads.means _ (stopped go is))
refused_by_step allowed bytes reading (Limit what found most) go is leads = refuses allowed bytes (Limit what found most) (leads.means _ (stopped go is))
refused_by_step allowed bytes reading NoMemory go is leads = tt

at_end : (allowed : Directives) (bytes : List ℕ) (reading : Reading) (meaning : Result Script ScriptBad) → length bytes ≤ reading.at → finished bytes reading ≡ meaning → Reads allowed bytes reading meaning
at_end allowed bytes reading meaning end is = subst (λ (m : Result Script ScriptBad). Reads allowed bytes reading m) is (ended end)

pub refused_at_end : (allowed : Directives) (bytes : List ℕ) (reading : Reading) (bad : ScriptBad) → length bytes ≤ reading.at → IsTold bad (finished bytes reading) → LeadsTo allowed bytes reading → IsRefused allowed bytes bad
refused_at_end allowed bytes reading (Line line) end is leads = refuses allowed bytes (Line line) (leads.means _ (at_end allowed bytes reading _ end is))
refused_at_end allowed bytes reading (Limit what found most) end is leads = refuses allowed bytes (Limit what found most) (leads.means _ (at_end allowed bytes reading _ end is))
refused_at_end allowed bytes reading NoMemory end is leads = tt

pub spelled_at_end : (allowed : Directives) (bytes : List ℕ) (reading : Reading) (script : Script) → length bytes ≤ reading.at → finished bytes reading ≡ Ok script → LeadsTo allowed bytes reading → Reads allowed bytes begun (Ok script)
spelled_at_end allowed bytes reading script end is leads = leads.means (Ok script) (at_end allowed bytes reading (Ok script) end is)

pub if_ok : {T E : Type 0} (P Q : T → Type 0) (r : Result T E) → ((x : T) → P x → Q x) → IfOk r P → IfOk r Q
if_ok P Q (Ok x) f h = f x h
if_ok P Q (Err e) f h = tt

pub if_err : {T E : Type 0} (P Q : E → Type 0) (r : Result T E) → ((e : E) → P e → Q e) → IfErr r P → IfErr r Q
if_err P Q (Ok x) f h = tt
if_err P Q (Err e) f h = f e h
