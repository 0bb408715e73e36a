-- The last seat takes in the others.
use Rattle.std.proofs.Common.{◌≡◌, ℕ, zero, suc, ◌<◌, ◌≤◌, true, false, List, [], ◌∷◌, ◌++◌, length, map, sym, ap, ◌∙◌, subst, arith, append_assoc, inl, inr}
use Rattle.std.specs.Prelude.{slice_index_or, remove, Any, All}
use Rattle.std.specs.List.{AllByRecursion}
use Rattle.std.proofs.lemmas.List.{append-nil}
use Rattle.std.proofs.lemmas.List.Elements.{All-from_recursion}
use Rattle.inno_model.specs.declared.board.Board.{Board}
use Rattle.inno_model.specs.declared.board.Phase.TheVariants.{Idle}
use Rattle.inno_model.specs.Boards.{calls_of, phase_of}
use Rattle.inno_model.proofs.Places.{kept_calls}
use Rattle.turn_rule.specs.declared.rule.Claim.{Claim}
use Rattle.turn_rule.specs.declared.rule.View.{View}
use Rattle.turn_rule.specs.Turnstile.{Among}
use Rattle.turn_rule.specs.Steps.{Holds, AllHeld, IsLast, with_sessions}
use Rattle.turn_engine.specs.Sessions.{Sitting, claim_of, gathered, HasCalls}

pub remove_first : {A : Type 0} (xs : List A) (x : A) → 0 < length xs → x ≡ slice_index_or xs 0 x → xs ≡ x ∷ remove xs 0
remove_first [] x h e = absurd (omega arith)
remove_first (y ∷ xs) x h e = ap (λ (z : _). z ∷ xs) (sym e)

-- one receipt is taken in
pub absorbed : (v w u : View) (all left : List Sitting) (r : Sitting) → all ≡ r ∷ left → w.joined ≡ [] → w.mine ≡ claim_of r → u ≡ with_sessions v w
    → gathered u left ≡ gathered v all
absorbed v w u all left r is alone mine step =
    let joined : (v.joined ++ w.mine ∷ w.joined) ++ map claim_of left ≡ v.joined ++ map claim_of all =
    append_assoc v.joined (w.mine ∷ w.joined) (map claim_of left) ∙
    (ap (λ (cs : List Claim). v.joined ++ w.mine ∷ (cs ++ map claim_of left)) alone ∙
    (ap (λ (c : Claim). v.joined ++ c ∷ map claim_of left) mine ∙ ap (λ (l : List Sitting). v.joined ++ map claim_of l) (sym is))) in
    ap (λ (x : View). gathered x left) step ∙ ap
    (λ (cs : List Claim). record { live = v.live; turn = v.turn; seated = v.seated; mine = v.mine; joined = cs }) joined

among_any : (rs : List Sitting) (x k : ℕ) (r : Sitting) → k < length rs → slice_index_or rs k r ≡ r → r.number ≡ x → Among (map claim_of rs) x
among_any [] x k r h e n = absurd (omega arith)
among_any (q ∷ rs) x zero r h e n = inl (ap (λ (s : Sitting). s.number) e ∙ n)
among_any (q ∷ rs) x (suc k) r h e n = inr (among_any rs x k r (omega arith) e n)

has_calls : (b : Board) (s : Sitting) → Holds b (claim_of s) → HasCalls b s
has_calls b s h = record {
  calls = kept_calls s.number s.seen b h.keeps;
  places = sym h.own;
  extends = (h.keeps.newer, h.keeps.past);
  phase = h.keeps.phase;
}

all_have_calls : (b : Board) (rs : List Sitting) → AllHeld b (map claim_of rs) → AllByRecursion (HasCalls b) rs
all_have_calls b [] h = tt
all_have_calls b (r ∷ rs) h = (has_calls b r h.0, all_have_calls b rs h.1)

-- the last seat may close the hall
pub is_last : (v u : View) (s : Sitting) (rs : List Sitting) → v.live ≡ true → v.turn ≡ false → v.joined ≡ [] → v.mine ≡ claim_of s → s.number ≡ 0
    → u ≡ gathered v rs
    → ((x : ℕ) → 0 < x → x < length s.seen.names → Any (λ r. r.number ≡ x) rs) → IsLast u
is_last v u s rs live idle alone mine first is all = subst IsLast (sym is) (record {
  live = live;
  idle = idle;
  first = ap (λ (c : Claim). c.number) mine ∙ first;
  all = each;
})
  where
    each : (x : ℕ) → x < length v.mine.seen.names → Among (v.mine ∷ (v.joined ++ map claim_of rs)) x
    each zero within = inl (ap (λ (c : Claim). c.number) mine ∙ first)
    each (suc x) within =
        let inside : suc x < length s.seen.names = subst (λ (c : Claim). suc x < length c.seen.names) mine within in
        let found = all (suc x) (omega arith) inside in
        inr (subst (λ (cs : List Claim). Among (cs ++ map claim_of rs) (suc x)) (sym alone) (among_any rs (suc x) found.0 found.1 found.2 found.3 found.4))

-- what the closed hall's engine has
pub gathers : (v u : View) (s : Sitting) (rs : List Sitting) (b : Board) → v.joined ≡ [] → v.mine ≡ claim_of s → s.number ≡ 0 → u ≡ gathered v rs
    → AllHeld b (u.mine ∷ u.joined) → HasCalls b s × All (HasCalls b) rs × (b.names ≡ s.seen.names)
gathers v u s rs b alone mine first is h =
    let k = subst (λ (x : View). AllHeld b (x.mine ∷ x.joined)) is h in
    let own : Holds b (claim_of s) = subst (λ (c : Claim). Holds b c) mine k.0 in
    let others = subst (λ (cs : List Claim). AllHeld b (cs ++ map claim_of rs)) alone k.1 in (
      has_calls b s own,
      All-from_recursion (HasCalls b) rs (all_have_calls b rs others),
      own.keeps.names ∙ (ap (λ l. s.seen.names ++ l) (own.keeps.alone first) ∙ append-nil s.seen.names),
    )

-- the first session has nothing under way
pub first_idle : (b : Board) (s : Sitting) → HasCalls b s → s.number ≡ 0 → phase_of s.seen s.number ≡ Idle → phase_of b 0 ≡ Idle
first_idle b s has first idle = subst (λ (x : ℕ). phase_of b x ≡ Idle) first (has.phase ∙ idle)

-- who never joined has no calls
pub others_quiet : (b : Board) (s : Sitting) → b.names ≡ s.seen.names → ((x : ℕ) → length b.names ≤ x → calls_of x b.past ≡ []) → (x : ℕ)
    → length s.seen.names ≤ x → calls_of x b.past ≡ []
others_quiet b s same unseated x beyond = unseated x (subst (λ (l : List (List ℕ)). length l ≤ x) (sym same) beyond)
