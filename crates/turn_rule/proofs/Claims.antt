-- Facts about lists of sessions and of seats, on which the proofs of the steps stand.
use Rattle.std.proofs.Common.{◌≡◌, ◌≢◌, ◌⊎◌, ℕ, zero, suc, ◌<◌, ◌==◌, true, false, cond, true≢false, List, [], ◌∷◌, ◌++◌, length, set, refl, sym, ap, ◌∙◌, subst, inl, inr, ⊎_elim, eq-eqb, ne_eqb, arith}
use mathlib.Core.Logic.{dite}
use mathlib.Core.Option.{some, some-injective, some-ne-none}
use native.Mathlib.Decide.{ℕ_discrete}
use lib.ListN.{get_elem?}
use Rattle.atomic_table.proofs.Lists.{at_set, set_here, set_else}
use Rattle.inno_model.specs.declared.board.Board.{Board}
use Rattle.inno_model.specs.Boards.{Keeps, Grows}
use Rattle.inno_model.proofs.Keeping.{keeps_trans}
use Rattle.inno_model.proofs.Places.{kept_places}
use Rattle.turn_rule.specs.declared.rule.Claim.{Claim}
use Rattle.turn_rule.specs.declared.rule.View.{View}
use Rattle.turn_rule.specs.Turnstile.{IsKept, AllKept, Among, AreApart, HasSession, AreSeated}
use Rattle.turn_rule.specs.Steps.{AllHeld}

pub off : false ≡ true → ⊥
off e = true≢false (sym e)

pub within : {A : Type 0} (l : List A) (i : ℕ) (a : A) → get_elem? l i ≡ some a → i < length l
within [] i a e = absurd (some-ne-none a (sym e))
within (x ∷ xs) zero a e = omega arith
within (x ∷ xs) (suc i) a e = let h = within xs i a e in omega arith

-- an element of a list that is one longer
pub at_longer : {A : Type 0} (l : List A) (a b : A) (j : ℕ) → get_elem? (l ++ a ∷ []) j ≡ some b → (get_elem? l j ≡ some b) ⊎ ((a ≡ b) × (j ≡ length l))
at_longer [] a b zero e = inr (some-injective a b e, refl)
at_longer [] a b (suc j) e = absurd (some-ne-none b (sym e))
at_longer (x ∷ xs) a b zero e = inl e
at_longer (x ∷ xs) a b (suc j) e = ⊎_elim (λ t. inl t) (λ (t : (a ≡ b) × (j ≡ length xs)). inr (t.0, ap suc t.1)) (at_longer xs a b j e)

pub cond_yes : {A : Type 0} (x y : ℕ) (a b : A) → x ≡ y → cond (x == y) a b ≡ a
cond_yes x y a b e = ap (λ t. cond t a b) (eq-eqb x y e)

pub cond_no : {A : Type 0} (x y : ℕ) (a b : A) → x ≢ y → cond (x == y) a b ≡ b
cond_no x y a b e = ap (λ t. cond t a b) (ne_eqb x y e)

-- of all seats after one seat's step
pub seats_stay : (P : ℕ → View → Type 0) (vs : List View) (id : ℕ) (w : View) → P id w → ((j : ℕ) (u : View) → j ≢ id → get_elem? vs j ≡ some u → P j u) → (j : ℕ) (u : View) → get_elem? (set vs id w) j ≡ some u → P j u
seats_stay P vs id w mine others j u e = ⊎_elim
    (λ (t : (j ≡ id) × (w ≡ u)). subst (λ (x : ℕ × View). P x.0 x.1) (λ i. (sym t.0 i, t.1 i)) mine)
    (λ (t : (j ≢ id) × (get_elem? vs j ≡ some u)). others j u t.0 t.1)
    (at_set vs id j w u e)

-- what is known of the sessions stays, by a step from each one to itself
pub all_kept : (a b : Board) (t u : ℕ) (o p : ℕ → ℕ) (j k : ℕ) → ((c : Claim) → IsKept a t o j c → IsKept b u p k c) → (cs : List Claim) → AllKept a t o j cs → AllKept b u p k cs
all_kept a b t u o p j k f [] h = tt
all_kept a b t u o p j k f (c ∷ cs) h = (f c h.0, all_kept a b t u o p j k f cs h.1)

pub all_kept-append : (a : Board) (t : ℕ) (o : ℕ → ℕ) (j : ℕ) (cs ds : List Claim) → AllKept a t o j cs → AllKept a t o j ds → AllKept a t o j (cs ++ ds)
all_kept-append a t o j [] ds h k = k
all_kept-append a t o j (c ∷ cs) ds h k = (h.0, all_kept-append a t o j cs ds h.1 k)

pub owned_by : (a : Board) (t : ℕ) (o : ℕ → ℕ) (j : ℕ) (cs : List Claim) (x : ℕ) → AllKept a t o j cs → Among cs x → o x ≡ j
owned_by a t o j [] x h m = absurd m
owned_by a t o j (c ∷ cs) x h m = ⊎_elim (λ (e : c.number ≡ x). ap o (sym e) ∙ h.0.owned) (λ (n : Among cs x). owned_by a t o j cs x h.1 n) m

pub all_held : (a : Board) (t : ℕ) (o : ℕ → ℕ) (j : ℕ) (cs : List Claim) → AllKept a t o j cs → AllHeld a cs
all_held a t o j [] h = tt
all_held a t o j (c ∷ cs) h = (record { keeps = h.0.seen; own = h.0.own }, all_held a t o j cs h.1)

-- a session whose history goes on without its calls
pub kept_on : (a b : Board) (t : ℕ) (o : ℕ → ℕ) (j : ℕ) (c : Claim) → IsKept a t o j c → Keeps c.number a b → IsKept b t o j c
kept_on a b t o j c k on = record {
  seen = keeps_trans c.number c.seen a b k.seen on;
  own = k.own ∙ sym (kept_places c.number a b on);
  owned = k.owned;
  named = k.named;
}

-- the other sessions of a seat, while its own one calls
pub others_on : (a b : Board) (t : ℕ) (o : ℕ → ℕ) (j x : ℕ) (cs : List Claim) → (Among cs x → ⊥) → Grows x a b → AllKept a t o j cs → AllKept b t o j cs
others_on a b t o j x [] none' g h = tt
others_on a b t o j x (c ∷ cs) none' g h = (kept_on a b t o j c h.0 (g c.number (λ same. none' (inl same))), others_on a b t o j x cs (λ m. none' (inr m)) g h.1)

among_either : (cs ds : List Claim) (x : ℕ) → Among (cs ++ ds) x → Among cs x ⊎ Among ds x
among_either [] ds x m = inr m
among_either (c ∷ cs) ds x m = ⊎_elim (λ (e : c.number ≡ x). inl (inl e)) (λ (n : Among (cs ++ ds) x). ⊎_elim (λ (l : Among cs x). inl (inr l)) (λ (r : Among ds x). inr r) (among_either cs ds x n)) m

pub apart-append : (cs ds : List Claim) → AreApart cs → AreApart ds → ((x : ℕ) → Among cs x → Among ds x → ⊥) → AreApart (cs ++ ds)
apart-append [] ds h k between = k
apart-append (c ∷ cs) ds h k between = (
  λ m. ⊎_elim (λ (l : Among cs c.number). h.0 l) (λ (r : Among ds c.number). between c.number (inl refl) r) (among_either cs ds c.number m),
  apart-append cs ds h.1 k (λ x l r. between x (inr l) r),
)

pub among-append : (cs ds : List Claim) (x : ℕ) → Among ds x → Among (cs ++ ds) x
among-append [] ds x m = m
among-append (c ∷ cs) ds x m = inr (among-append cs ds x m)

pub among-front : (cs ds : List Claim) (x : ℕ) → Among cs x → Among (cs ++ ds) x
among-front [] ds x m = absurd m
among-front (c ∷ cs) ds x m = ⊎_elim (λ (e : c.number ≡ x). inl e) (λ (n : Among cs x). inr (among-front cs ds x n)) m

pub has_among : (w : View) (x : ℕ) → HasSession w x → Among (w.mine ∷ w.joined) x
has_among w x m = ⊎_elim (λ (t : (w.live ≡ true) × (w.mine.number ≡ x)). inl t.1) (λ (t : Among w.joined x). inr t) m

-- a seat's step leaves its sessions
pub covers : (vs : List View) (id : ℕ) (v w : View) (o : ℕ → ℕ) (t : ℕ) → get_elem? vs id ≡ some v → ((x : ℕ) → HasSession v x → HasSession w x) → AreSeated vs o t → AreSeated (set vs id w) o t
covers vs id v w o t at same h x below =
    let was = h x below in
    dite (ℕ_discrete (o x) id)
    (λ here. let one : v ≡ was.0 = some-injective v was.0 (sym at ∙ (ap (λ k. get_elem? vs k) (sym here) ∙ was.1)) in
    (w, ap (λ k. get_elem? (set vs id w) k) here ∙ set_here vs id w (within vs id v at), same x (subst (λ (u : View). HasSession u x) (sym one) was.2)))
    (λ apart. (was.0, set_else vs id (o x) w apart ∙ was.1, was.2))
