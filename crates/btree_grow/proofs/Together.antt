-- A tree that has grown by some pages, and then by others.
use Rattle.std.proofs.Common.{◌≡◌, ◌≢◌, inl, inr, ℕ, ◌+◌, ◌<◌, ◌||◌, ◌==◌, Bool, true, false, List, [], ◌∷◌, ◌++◌}
use Rattle.std.proofs.Common.{refl, sym, ◌∙◌, ap, subst, length-append, arith}
use Rattle.std.specs.Prelude.{if◌then◌else◌}
use Rattle.std.specs.List.{AllByRecursion}
use Rattle.std.proofs.lemmas.Bool.{cases_lt, false≢true}
use Rattle.std.proofs.lemmas.List.Folds.{list_any-append}
use Rattle.entries.specs.Pairs.{Pair}
use Rattle.mtr.specs.Seen.{is_in, AreDistinct}
use Rattle.law_flat_tree.specs.Leaves.{AreOthers}
use Rattle.law_flat_tree.specs.PageSplits.{StandsNowhere}
use Rattle.law_flat_tree.proofs.Apart.{each_of, with_both}
use Rattle.law_flat_tree.proofs.Leaves.{both}
use Rattle.space_map.specs.Map.{mark_of}
use Rattle.btree.specs.declared.tree.Tree.{Tree}
use Rattle.btree.specs.Sound.{levels_of, IsTreePage, tree_pairs}
use Rattle.btree_grow.specs.Grown.{Grows, StandsAbove, HasGrown}

in_both : (page : ℕ) (more taken : List ℕ) → is_in page (more ++ taken) ≡ (is_in page more || is_in page taken)
in_both page more taken = list_any-append (λ (x : ℕ). x == page) more taken

-- one of neither list
outs : (x y : Bool) → (x || y) ≡ false → (x ≡ false) × (y ≡ false)
outs true y out = absurd (false≢true (sym out))
outs false y out = (refl, out)

marks_then : (x y : Bool) (a b c : ℕ) → c ≡ (if x then 1 else b) → b ≡ (if y then 1 else a) → c ≡ (if x || y then 1 else a)
marks_then true y a b c two one = two
marks_then false y a b c two one = two ∙ one

-- what is free now was free, and isn't a page that was taken
free_was : (x : Bool) (m k : ℕ) → k ≡ 0 → k ≡ (if x then 1 else m) → (x ≡ false) × (m ≡ 0)
free_was true m k none is = absurd (omega (arith, none, is))
free_was false m k none is = (refl, sym is ∙ none)

module _ (tree : Tree) (were pairs : List Pair) (a b c : ℕ → List ℕ) (taken more : List ℕ) (one : Grows tree were taken a b)
    (two : Grows tree pairs more b c) where
  small : (p : ℕ) → (StandsNowhere p (levels_of tree c) → ⊥) → p < 65536
  small p stands = elim (cases_lt p 65536) [
    | inl few ↦ few
    | inr many ↦ absurd (stands
        (each_of (AllByRecursion (IsTreePage tree c)) (AreOthers p)
        (λ level all. each_of (IsTreePage tree c) (λ r. r ≢ p) (λ r is same. omega (arith, is.within, same, many)) level all)
        (levels_of tree c) two.placed.whole.sound.each))
  ]

  was : (p : ℕ) → mark_of b p ≡ 0 → (StandsNowhere p (levels_of tree c) → ⊥) → (is_in p taken ≡ false) × (mark_of a p ≡ 0)
  was p free stands = free_was (is_in p taken) (mark_of a p) (mark_of b p) free (one.marks p (small p stands))

  distinct_both : (new : List ℕ) → AreDistinct new → AllByRecursion (λ p. mark_of b p ≡ 0) new
      → AllByRecursion (λ p. StandsNowhere p (levels_of tree c) → ⊥) new → AreDistinct taken → AreDistinct (new ++ taken)
  distinct_both [] apart free stands olds = olds
  distinct_both (p ∷ new) apart free stands olds = (
    in_both p new taken ∙ ap (λ (x : Bool). x || is_in p taken) apart.0 ∙ (was p free.0 stands.0).0,
    distinct_both new apart.1 free.1 stands.1 olds,
  )

  pub grows_distinct : AreDistinct taken → AreDistinct more → AreDistinct (more ++ taken)
  grows_distinct olds news = distinct_both more news two.were_free two.stand olds

  pub grows_both : Grows tree pairs (more ++ taken) a c
  grows_both =
      let parts = λ (page : ℕ) (out : is_in page (more ++ taken) ≡ false).
      outs (is_in page more) (is_in page taken) (sym (in_both page more taken) ∙ out) in
      record {
        placed = two.placed;
        pairs_are = two.pairs_are;
        were_free =
            both (λ p. mark_of a p ≡ 0) more taken
            (with_both (λ p. mark_of b p ≡ 0) (λ p. StandsNowhere p (levels_of tree c) → ⊥) (λ p. mark_of a p ≡ 0)
            (λ p free stands. (was p free stands).1) more two.were_free two.stand) one.were_free;
        stand =
            both (λ p. StandsNowhere p (levels_of tree c) → ⊥) more taken two.stand
            (each_of (λ p. StandsNowhere p (levels_of tree b) → ⊥) (λ p. StandsNowhere p (levels_of tree c) → ⊥)
            (λ p stands nowhere. stands (two.keep p nowhere)) taken one.stand);
        rest = λ page nowhere out. let o = parts page out in two.rest page (one.rest page nowhere o.1) o.0;
        keep = λ page nowhere. one.keep page (two.keep page nowhere);
        marks = λ page few.
            subst (λ (x : Bool). mark_of c page ≡ (if x then 1 else mark_of a page)) (sym (in_both page more taken))
            (marks_then (is_in page more) (is_in page taken) (mark_of a page) (mark_of b page) (mark_of c page) (two.marks page few) (one.marks page few));
        others = λ page nowhere out far.
            let o = parts page out in two.others page (one.rest page nowhere o.1) o.0 far ∙ one.others page nowhere o.1 far;
      }

-- pages are taken, and then more
pub grown_then : (tree : Tree) (key : List ℕ) (k m t n s page next : ℕ) (a b c : ℕ → List ℕ) → k + m ≡ t → HasGrown tree key k n page a b
    → HasGrown tree key m s next b c → HasGrown tree key t s next a c
grown_then tree key k m t n s page next a b c sum one two = record {
  taken = two.taken ++ one.taken;
  many = length-append two.taken one.taken ∙ omega (arith, sum, one.many, two.many);
  distinct = grows_distinct tree (tree_pairs tree a) (tree_pairs tree b) a b c one.taken two.taken one.grows two.grows one.distinct two.distinct;
  grows = subst (λ l. Grows tree l (two.taken ++ one.taken) a c) one.grows.pairs_are
      (grows_both tree (tree_pairs tree a) (tree_pairs tree b) a b c one.taken two.taken one.grows two.grows);
  above = two.above;
  fewer = let before = one.fewer in let after = two.fewer in omega (arith, before, after, sum);
  header = two.header ∙ one.header;
}

-- nothing is done yet
pub grown_none : (tree : Tree) (key : List ℕ) (n page : ℕ) (a : ℕ → List ℕ) → StandsAbove tree key n page a → HasGrown tree key 0 n page a a
grown_none tree key n page a stands = record {
  taken = [];
  many = refl;
  distinct = tt;
  grows =
      record {
        placed = stands.placed;
        pairs_are = refl;
        were_free = tt;
        stand = tt;
        rest = λ other nowhere out. nowhere;
        keep = λ other nowhere. nowhere;
        marks = λ other few. refl;
        others = λ other nowhere out far. refl;
      };
  above = stands;
  fewer = omega arith;
  header = refl;
}
