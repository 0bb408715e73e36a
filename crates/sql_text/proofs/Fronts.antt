-- Tokens that a statement begins with: reading them meets no fault, and they can be finished.
use Rattle.std.proofs.Common.{◌≡◌, ℕ, List, [], ◌∷◌, ◌++◌, length, true, Ok, Err, refl, sym, subst, arith}
use Rattle.std.specs.Prelude.{◌==◌}
use Rattle.std.specs.Bool.{Decides}
use Rattle.std.proofs.lemmas.Bool.{eqb-true}
use Rattle.std.proofs.lemmas.List.{append-nil}
use Rattle.inno_types.specs.declared.stmt.Stmt.{Stmt}
use Rattle.sql_grammar.specs.declared.token.Token.{Token}
use Rattle.sql_grammar.specs.Grammar.{Statement}
use Rattle.sql_text.specs.Whole.{statement_of}
use Rattle.sql_text.specs.Parsed.{IsFront}
use Rattle.sql_text.proofs.CompleteStatements.{statement_complete}
use Rattle.sql_text.proofs.Steady.{Said, Settles, whole, wrong, short, said_nothing}
use Rattle.sql_text.proofs.SteadyConditions.{of_sound}
use Rattle.sql_text.proofs.SteadyStatements.{statement_settles}
use Rattle.sql_text.proofs.TreesOfStatements.{IsOne, statement_sound}

tree : (xs : List Token) (u : Unit {0}) → statement_of xs ≡ Ok u → (s : Stmt) × Statement xs s
tree xs u e = of_sound (statement_of xs) (IsOne xs) u (statement_sound xs) e

-- a fault among the tokens stays, whatever comes behind them
no_front : (xs : List Token) (t : Token) (rest : List Token) → ((zs : List Token) → statement_of (xs ++ zs) ≡ Err (t ∷ (rest ++ zs))) → IsFront xs → ⊥
no_front xs t rest h p =
    let read : statement_of (xs ++ p.0) ≡ Ok tt = statement_complete p.2 in
    let fault : statement_of (xs ++ p.0) ≡ Err (t ∷ (rest ++ p.0)) = h p.0 in
    cc

-- tokens with bytes of their own finish any front
pub finish : (xs : List Token) → IsFront xs → (g : List Token) × Said g × ((s : Stmt) × Statement (xs ++ g) s)
finish xs p = by_reading (statement_settles xs)
  where
    by_reading : Settles (statement_of xs) (λ zs. statement_of (xs ++ zs)) → (g : List Token) × Said g × ((s : Stmt) × Statement (xs ++ g) s)
    by_reading (whole u e) = ([], said_nothing, subst (λ (ts : List Token). (s : Stmt) × Statement ts s) (sym (append-nil xs)) (tree xs u e))
    by_reading (wrong t rest e h) = absurd (no_front xs t rest h p)
    by_reading (short g u e said h) = (g, said, tree (xs ++ g) u h)

pub whole_front : (xs : List Token) (s : Stmt) → Statement xs s → Decides true (IsFront xs)
whole_front xs s st = ((λ f. ([], s, subst (λ (ts : List Token). Statement ts s) (sym (append-nil xs)) st)), (λ p. refl))

pub by_left : (xs rest : List Token) (left : ℕ) → statement_of xs ≡ Err rest → length rest ≡ left → Decides (left == 0) (IsFront xs)
by_left xs [] left e l = ((λ f. by_reading (statement_settles xs)), (λ p. subst (λ (n : ℕ). (n == 0) ≡ true) l refl))
  where
    by_reading : Settles (statement_of xs) (λ zs. statement_of (xs ++ zs)) → IsFront xs
    by_reading (whole u h) = absurd (cc)
    by_reading (wrong t rest h k) = absurd (cc)
    by_reading (short g u h said k) = let one = tree (xs ++ g) u k in (g, one.0, one.1)
by_left xs (t ∷ rest) left e l =
    ((λ f. let z : left ≡ 0 = eqb-true left 0 f in absurd (omega (arith, l, z))), (λ p. absurd (by_reading (statement_settles xs) p)))
  where
    by_reading : Settles (statement_of xs) (λ zs. statement_of (xs ++ zs)) → IsFront xs → ⊥
    by_reading (whole u h) p = cc
    by_reading (wrong t rest h k) p = no_front xs t rest k p
    by_reading (short g u h said k) p = cc
