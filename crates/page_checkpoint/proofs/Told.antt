-- Clauses that speak of any state before a call, used with what is known of the one state that the disk was in.
use Rattle.std.proofs.Common.{◌≡◌, ⊎_elim, ◌-◌, ◌^◌, ◌<◌, ◌≤◌, ℕ, List, [], ◌∷◌, Option, Some, None, sym, ◌∙◌, ap, arith}
use Rattle.std.proofs.lemmas.Bool.{cases_lt}
use Rattle.store_api.specs.Areas.{Contents, State}
use Rattle.store_api.specs.Past.{Past, Now, Meanwhile}
use Rattle.store_api.proofs.Moments.{Meanwhile-weaker}
use Rattle.doublewrite.specs.Kept.{IsReady, IsReadyAs}

-- ---- no state of a disk is told by two others

abbrev no_bytes : Contents
no_bytes = record { seen = []; synced = []; writes = [] }

abbrev some_bytes : Contents
some_bytes = record { seen = 0 ∷ []; synced = []; writes = [] }

abbrev state_of : Contents → State
state_of c = record { log = c; double = c; pages = c }

apart : (c : Contents) → c ≡ no_bytes → c ≡ some_bytes → ⊥
apart c bare some = let same : ◌≡◌ {A = List ℕ} [] (0 ∷ []) = ap (λ (c : Contents). c.seen) (sym bare ∙ some) in absurd cc

never : (P : State → State → Type 0) (s : State) → ((x : State) → P x s → s.log ≡ x.log) → ((x : State) → P x s) → ⊥
never P s says each = apart s.log (says (state_of no_bytes) (each (state_of no_bytes))) (says (state_of some_bytes) (each (state_of some_bytes)))

same_some : (a b : State) → Some a ≡ Some b → a ≡ b
same_some a b same = cc

-- ---- the state before the call, if it is told

module _ (P : State → State → Type 0) (R Q : State → Type 0) (says : (x s : State) → P x s → s.log ≡ x.log) (old new : Past) (ready : Now IsReady old)
    (known : Now R old) (gives : (b s : State) → R b → P b s → Q s) where
  here : (b : State) → old.state_at old.moment ≡ Some b → Now (IsReadyAs b) old
  here b told s ticks is = (same_some s b (sym is ∙ told), ready s ticks is)

  module _ (call : (x : State) → Now (IsReadyAs x) old → Meanwhile (P x) old new) where
    untold : ((x : State) → Now (IsReadyAs x) old) → Meanwhile Q old new
    untold all =
        let run : (x : State) → Meanwhile (P x) old new = λ x. call x (all x) in
        record {
          later = (run (state_of no_bytes)).later;
          kept = (run (state_of no_bytes)).kept;
          each = λ m s ticks low high is. absurd (never P s (λ x. says x s) (λ x. (run x).each m s ticks low high is));
        }

    meanwhile_by : (o : Option State) → old.state_at old.moment ≡ o → Meanwhile Q old new
    meanwhile_by None is = untold (λ x s ticks told. let wrong : None ≡ Some s = sym is ∙ told in absurd cc)
    meanwhile_by (Some b) is =
        ⊎_elim
        (λ (ticks : old.moment < 2 ^ 64 - 1).
        Meanwhile-weaker (P b) Q old new (call b (here b is)) (λ s p. gives b s (known b ticks is) p))
        (λ (stands : 2 ^ 64 - 1 ≤ old.moment). untold (λ x s ticks told. absurd (omega (arith, ticks, stands))))
        (cases_lt old.moment (2 ^ 64 - 1))

    pub meanwhile : Meanwhile Q old new
    meanwhile = meanwhile_by (old.state_at old.moment) (λ i. old.state_at old.moment)

  module _ (call : (x : State) → Now (IsReadyAs x) old → Now (P x) new) where
    untold_now : ((x : State) → Now (IsReadyAs x) old) → Now Q new
    untold_now all s ticks is = absurd (never P s (λ x. says x s) (λ x. call x (all x) s ticks is))

    now_by : (o : Option State) → old.state_at old.moment ≡ o → Now Q new
    now_by None is = untold_now (λ x s ticks told. let wrong : None ≡ Some s = sym is ∙ told in absurd cc)
    now_by (Some b) is =
        ⊎_elim
        (λ (ticks : old.moment < 2 ^ 64 - 1). λ s t told. gives b s (known b ticks is) (call b (here b is) s t told))
        (λ (stands : 2 ^ 64 - 1 ≤ old.moment). untold_now (λ x s ticks told. absurd (omega (arith, ticks, stands))))
        (cases_lt old.moment (2 ^ 64 - 1))

    pub afterwards : Now Q new
    afterwards = now_by (old.state_at old.moment) (λ i. old.state_at old.moment)
