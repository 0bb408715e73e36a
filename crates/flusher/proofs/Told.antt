-- Clauses that speak of any state before a call, used with what is known of the one state that the disk was in.
use Rattle.std.proofs.Common.{◌≡◌, ⊎_elim, ℕ, ◌-◌, ◌^◌, ◌<◌, ◌≤◌, List, [], ◌∷◌, Option, Some, None, sym, ◌∙◌, ap, subst, arith}
use Rattle.std.proofs.lemmas.Bool.{cases_lt}
use Rattle.store_api.specs.Areas.{Contents, State}
use Rattle.store_api.specs.Past.{Past, Now, Meanwhile}
use Rattle.store_api.proofs.Moments.{Meanwhile-weaker}

-- ---- no state of a disk is told by two others

abbrev no_bytes : Contents
no_bytes = record { seen = []; synced = []; writes = [] }

abbrev some_bytes : Contents
some_bytes = record { seen = 0 ∷ []; synced = []; writes = [] }

abbrev state_of : Contents → State
state_of c = record { log = c; double = c; pages = c }

apart : (c : Contents) → c ≡ no_bytes → c ≡ some_bytes → ⊥
apart c bare some = let same : ◌≡◌ {A = List ℕ} [] (0 ∷ []) = ap (λ (c : Contents). c.seen) (sym bare ∙ some) in absurd cc

pub not_each_log : (P : State → State → Type 0) (s : State) → ((x : State) → P x s → s.log ≡ x.log) → ((x : State) → P x s) → ⊥
not_each_log P s says each = apart s.log (says (state_of no_bytes) (each (state_of no_bytes))) (says (state_of some_bytes) (each (state_of some_bytes)))

pub not_each_double : (P : State → State → Type 0) (s : State) → ((x : State) → P x s → s.double ≡ x.double) → ((x : State) → P x s) → ⊥
not_each_double P s says each = apart s.double (says (state_of no_bytes) (each (state_of no_bytes))) (says (state_of some_bytes) (each (state_of some_bytes)))

-- ---- the state before the call, if it is told

same_some : (a b : State) → Some a ≡ Some b → a ≡ b
same_some a b same = cc

module _ (K P : State → State → Type 0) (Q : State → Type 0) (never : (s : State) → ((x : State) → P x s) → ⊥) (old new : Past) where
  here : (x b : State) → K x b → old.state_at old.moment ≡ Some b → Now (K x) old
  here x b known told s ticks is = subst (K x) (same_some b s (sym told ∙ is)) known

  module _ (R : State → State → Type 0) (known : Now (λ (b : State). (x : State) × K x b × R x b) old)
      (gives : (x b s : State) → K x b → R x b → P x s → Q s) where
    module _ (call : (x : State) → Now (K x) old → Meanwhile (P x) old new) where
      untold : ((x : State) → Now (K x) old) → Meanwhile Q old new
      untold all =
          let run : (x : State) → Meanwhile (P x) old new = λ x. call x (all x) in
          record {
            later = (run (state_of no_bytes)).later;
            kept = (run (state_of no_bytes)).kept;
            each = λ m s ticks low high is. absurd (never s (λ x. (run x).each m s ticks low high is));
          }

      meanwhile_by : (o : Option State) → old.state_at old.moment ≡ o → Meanwhile Q old new
      meanwhile_by None is = untold (λ x s ticks told. let wrong : None ≡ Some s = sym is ∙ told in absurd cc)
      meanwhile_by (Some b) is =
          ⊎_elim
          (λ (ticks : old.moment < 2 ^ 64 - 1).
          let from = known b ticks is in
          Meanwhile-weaker (P from.0) Q old new (call from.0 (here from.0 b from.1 is)) (λ s p. gives from.0 b s from.1 from.2 p))
          (λ (stands : 2 ^ 64 - 1 ≤ old.moment). untold (λ x s ticks told. absurd (omega (arith, ticks, stands))))
          (cases_lt old.moment (2 ^ 64 - 1))

      pub meanwhile : Meanwhile Q old new
      meanwhile = meanwhile_by (old.state_at old.moment) (λ i. old.state_at old.moment)

    module _ (call : (x : State) → Now (K x) old → Now (P x) new) where
      untold_now : ((x : State) → Now (K x) old) → Now Q new
      untold_now all s ticks is = absurd (never s (λ x. call x (all x) s ticks is))

      now_by : (o : Option State) → old.state_at old.moment ≡ o → Now Q new
      now_by None is = untold_now (λ x s ticks told. let wrong : None ≡ Some s = sym is ∙ told in absurd cc)
      now_by (Some b) is =
          ⊎_elim
          (λ (ticks : old.moment < 2 ^ 64 - 1).
          let from = known b ticks is in
          λ s t told. gives from.0 b s from.1 from.2 (call from.0 (here from.0 b from.1 is) s t told))
          (λ (stands : 2 ^ 64 - 1 ≤ old.moment). untold_now (λ x s ticks told. absurd (omega (arith, ticks, stands))))
          (cases_lt old.moment (2 ^ 64 - 1))

      pub afterwards : Now Q new
      afterwards = now_by (old.state_at old.moment) (λ i. old.state_at old.moment)

-- ---- two facts of one state

pub both : (P Q : State → Type 0) (past : Past) → Now P past → Now Q past → Now (λ (s : State). P s × Q s) past
both P Q past p q s ticks is = (p s ticks is, q s ticks is)
