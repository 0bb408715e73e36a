-- Of the same tokens one condition is read, up to where its boxes lie, where no AND and no OR follows it:
-- the machine reads the tree of whatever condition the tokens spell.
use Rattle.std.proofs.Common.{◌≡◌, List, [], ◌∷◌, Option, None, refl, ap}
use Rattle.inno_types.specs.declared.stmt.Operand.{Operand}
use Rattle.inno_types.specs.declared.stmt.Filter.{Filter}
use Rattle.sql_grammar.specs.declared.token.Word.TheVariants as word
use Rattle.sql_grammar.specs.declared.token.Token.{Token}
use Rattle.sql_grammar.specs.declared.token.Token.TheVariants.{Key, Open, Close}
use Rattle.sql_grammar.specs.Grammar.{Name, Oper, Atom, Condition, Strength, Loose, Tight, Single}
use Rattle.sql_grammar.specs.Grammar as grammar
use Rattle.law_histories.specs.Trees.{FilterTree, filter_tree}
use Rattle.law_histories.specs.Trees as tree
use Rattle.law_histories.proofs.Machine.{Frame, Takes, Adds, Bracket, Follow, Closing, Nothing, Opening, Before, State, Wants, Has, next, Run, whole, step, leaf, one_run, MayTight, MayLoose, NoTight, NoOperator, loose_tight, no_operator, tight_goes, loose_goes, adds_goes, ends}
use Rattle.law_histories.proofs.Machine as machine
use Rattle.law_histories.proofs.Parts.{Same, atom_one}

abbrev pub follow : List Token → Follow FilterTree
follow (Key word.And ∷ rest) = machine.Tight tree.And rest
follow (Key word.Or ∷ rest) = machine.Loose tree.Or rest
follow (Close ∷ rest) = Closing rest
follow rest = Nothing

abbrev opening : List Token → Opening FilterTree
opening (Key word.Not ∷ rest) = Before (Takes tree.Not) rest
opening (Open ∷ rest) = Before Bracket rest
opening rest = machine.Leaf

-- a comparison or a test as a leaf
abbrev Leaf : List Token → FilterTree → List Token → Type 0
Leaf xs a ys = (f : Filter) × Atom xs f ys × (tree.Leaf f ≡ a)

leaf_of : {xs ys : List Token} {f : Filter} → Atom xs f ys → Leaf xs (filter_tree f) ys
leaf_of (grammar.compare o p) = (_, grammar.compare o p, refl)
leaf_of (grammar.between n l h) = (_, grammar.between n l h, refl)
leaf_of (grammar.not_between n l h) = (_, grammar.not_between n l h, refl)
leaf_of (grammar.among n t) = (_, grammar.among n t, refl)
leaf_of (grammar.not_among n t) = (_, grammar.not_among n t, refl)
leaf_of (grammar.is_null n) = (_, grammar.is_null n, refl)
leaf_of (grammar.is_not_null n) = (_, grammar.is_not_null n, refl)

-- a comparison or a test begins with neither NOT nor a bracket
oper_opens : {xs ys : List Token} {o : Operand} → Oper xs o ys → opening xs ≡ machine.Leaf
oper_opens (grammar.of_literal grammar.number) = refl
oper_opens (grammar.of_literal grammar.negative) = refl
oper_opens (grammar.of_literal grammar.text) = refl
oper_opens (grammar.of_literal grammar.null) = refl
oper_opens (grammar.of_column grammar.bare) = refl
oper_opens (grammar.of_column grammar.quoted) = refl

atom_opens : {xs ys : List Token} {f : Filter} → Atom xs f ys → opening xs ≡ machine.Leaf
atom_opens (grammar.compare o p) = oper_opens o
atom_opens (grammar.between n l h) = oper_opens (grammar.of_column n)
atom_opens (grammar.not_between n l h) = oper_opens (grammar.of_column n)
atom_opens (grammar.among n t) = oper_opens (grammar.of_column n)
atom_opens (grammar.not_among n t) = oper_opens (grammar.of_column n)
atom_opens (grammar.is_null n) = oper_opens (grammar.of_column n)
atom_opens (grammar.is_not_null n) = oper_opens (grammar.of_column n)

abbrev go : State FilterTree → Option (State FilterTree)
go s = next follow opening s

apart : (below : List (Frame FilterTree)) (xs ys : List Token) (a : FilterTree) → Leaf xs a ys → go (Wants below xs) ≡ None
apart below xs ys a l = ap (λ (o : Opening FilterTree). machine.opened below o) (atom_opens l.1)

leaf_one : (xs ys zs : List Token) (a b : FilterTree) → Leaf xs a ys → Leaf xs b zs → Same a b ys zs
leaf_one xs ys zs a b l k = let s = atom_one l.1 k.1 in (cc, s.1)

-- what waits below an operand and what follows it leave it so strong
abbrev Stands : Strength → List (Frame FilterTree) → List Token → Type 0
Stands Loose below tokens = MayLoose below × NoTight (follow tokens)
Stands Tight below tokens = MayTight below
Stands Single below tokens = Unit {0}

-- the machine reads what the grammar spells
runs : {s : Strength} {xs ys : List Token} {f : Filter} → Condition s xs f ys → (below : List (Frame FilterTree)) → Stands s below ys
    → {zs : List Token} {b : FilterTree} → Run go Leaf (Has below (filter_tree f) ys) b zs → Run go Leaf (Wants below xs) b zs
runs (grammar.atom a) below h r = leaf (leaf_of a) r
runs (grammar.not c) below h r = step refl (runs c (Takes tree.Not ∷ below) tt (step refl r))
runs (grammar.brackets c) below h r = step refl (runs c (Bracket ∷ below) (tt, tt) (step refl r))
runs (grammar.neg c) below h r = runs c below tt r
runs (grammar.conj c) below h r = runs c below (loose_tight follow opening below h.0) r
runs (grammar.and {ys = ys} {f = f} c d) below h r =
    runs c below h (step (tight_goes follow opening below (filter_tree f) tree.And (Key word.And ∷ ys) ys refl h)
    (runs d (Takes (tree.And (filter_tree f)) ∷ below) tt (step refl r)))
runs (grammar.or {ys = ys} {zs = zs} {f = f} {g = g} c d) below h r =
    runs c below (h.0, tt) (step (loose_goes follow opening below (filter_tree f) tree.Or (Key word.Or ∷ ys) ys refl h.0)
    (runs d (Adds (tree.Or (filter_tree f)) ∷ below) tt (step (adds_goes follow opening (tree.Or (filter_tree f)) below (filter_tree g) zs h.1) r)))

run_of : {xs ys : List Token} {f : Filter} → Condition Loose xs f ys → NoOperator (follow ys) → Run go Leaf (Wants [] xs) (filter_tree f) ys
run_of {ys = ys} {f = f} c h = runs c [] (tt, no_operator follow opening (follow ys) h) (whole (ends follow opening (filter_tree f) ys h))

pub condition_one : {xs ys zs : List Token} {f g : Filter} → Condition Loose xs f ys → Condition Loose xs g zs → NoOperator (follow ys)
    → NoOperator (follow zs) → Same (filter_tree f) (filter_tree g) ys zs
condition_one c d h k = one_run go Leaf apart leaf_one (run_of c h) (run_of d k)
