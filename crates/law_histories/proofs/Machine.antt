-- A machine that reads operands and the operators between them from left to right. Each of its steps has one outcome,
-- so what it reads of some tokens is one thing. Conditions and expressions are both read so.
use Rattle.std.proofs.Common.{◌≡◌, List, [], ◌∷◌, Option, Some, None, refl, ap, subst}
use Rattle.sql_grammar.specs.declared.token.Token.{Token}

-- what waits for an operand: an operator that takes the very next one, the left side of a loose operator, an open bracket
pub data Frame (T : Type 0) : Type 0 where
  Takes : (T → T) → Frame T
  Adds : (T → T) → Frame T
  Bracket : Frame T

-- what stands behind an operand, and the tokens behind that
pub data Follow (T : Type 0) : Type 0 where
  Tight : (T → T → T) → List Token → Follow T
  Loose : (T → T → T) → List Token → Follow T
  Closing : List Token → Follow T
  Nothing : Follow T

-- what stands where an operand is wanted
pub data Opening (T : Type 0) : Type 0 where
  Before : Frame T → List Token → Opening T
  Leaf : Opening T

pub data State (T : Type 0) : Type 0 where
  Wants : List (Frame T) → List Token → State T
  Has : List (Frame T) → T → List Token → State T

-- ---- its steps

abbrev pub opened : {T : Type 0} → List (Frame T) → Opening T → Option (State T)
opened below (Before frame rest) = Some (Wants (frame ∷ below) rest)
opened below Leaf = None

abbrev pub at_bottom : {T : Type 0} → T → Follow T → Option (State T)
at_bottom a (Tight f rest) = Some (Wants (Takes (f a) ∷ []) rest)
at_bottom a (Loose f rest) = Some (Wants (Adds (f a) ∷ []) rest)
at_bottom a (Closing rest) = None
at_bottom a Nothing = None

abbrev pub in_sum : {T : Type 0} → (T → T) → List (Frame T) → T → List Token → Follow T → Option (State T)
in_sum g below a tokens (Tight f rest) = Some (Wants (Takes (f a) ∷ Adds g ∷ below) rest)
in_sum g below a tokens (Loose f rest) = Some (Has below (g a) tokens)
in_sum g below a tokens (Closing rest) = Some (Has below (g a) tokens)
in_sum g below a tokens Nothing = Some (Has below (g a) tokens)

abbrev pub in_brackets : {T : Type 0} → List (Frame T) → T → Follow T → Option (State T)
in_brackets below a (Tight f rest) = Some (Wants (Takes (f a) ∷ Bracket ∷ below) rest)
in_brackets below a (Loose f rest) = Some (Wants (Adds (f a) ∷ Bracket ∷ below) rest)
in_brackets below a (Closing rest) = Some (Has below a rest)
in_brackets below a Nothing = None

abbrev pub next : {T : Type 0} → (List Token → Follow T) → (List Token → Opening T) → State T → Option (State T)
next follow opening (Wants below tokens) = opened below (opening tokens)
next follow opening (Has [] a tokens) = at_bottom a (follow tokens)
next follow opening (Has (Takes g ∷ below) a tokens) = Some (Has below (g a) tokens)
next follow opening (Has (Adds g ∷ below) a tokens) = in_sum g below a tokens (follow tokens)
next follow opening (Has (Bracket ∷ below) a tokens) = in_brackets below a (follow tokens)

-- ---- its runs, and that each is the only one

-- from this state on it reads this, and these tokens follow
pub data Run {T : Type 0} (go : State T → Option (State T)) (Operand : List Token → T → List Token → Type 0) : State T → T → List Token → Type 0 where
  whole : {a : T} {tokens : List Token} → go (Has [] a tokens) ≡ None → Run go Operand (Has [] a tokens) a tokens
  step : {s t : State T} {a : T} {tokens : List Token} → go s ≡ Some t → Run go Operand t a tokens → Run go Operand s a tokens
  leaf : {below : List (Frame T)} {xs ys zs : List Token} {a b : T} → Operand xs a ys → Run go Operand (Has below a ys) b zs
      → Run go Operand (Wants below xs) b zs

module _ {T : Type 0} (go : State T → Option (State T)) (Operand : List Token → T → List Token → Type 0)
    (apart : (below : List (Frame T)) (xs ys : List Token) (a : T) → Operand xs a ys → go (Wants below xs) ≡ None)
    (one : (xs ys zs : List Token) (a b : T) → Operand xs a ys → Operand xs b zs → (a ≡ b) × (ys ≡ zs)) where
  pub one_run : {s : State T} {a b : T} {ys zs : List Token} → Run go Operand s a ys → Run go Operand s b zs → (a ≡ b) × (ys ≡ zs)
  one_run (whole e) (whole f) = (refl, refl)
  one_run (whole e) (step f q) = absurd (cc)
  one_run (step e r) (whole f) = absurd (cc)
  one_run {b = b} {zs = zs} (step {t = t} e r) (step {t = u} f q) =
      let same : u ≡ t = cc in
      one_run r (subst (λ (t : State T). Run go Operand t b zs) same q)
  one_run (step {t = t} e r) (leaf {below = below} {xs = xs} {ys = ys} {a = a} v q) =
      let none = apart below xs ys a v in absurd (cc)
  one_run (leaf {below = below} {xs = xs} {ys = ys} {a = a} v r) (step f q) =
      let none = apart below xs ys a v in absurd (cc)
  one_run {b = b} {zs = zs} (leaf {below = below} {xs = xs} {ys = ys} {a = a} v r) (leaf {ys = us} {a = c} u q) =
      let both = one xs us ys c a u v in
      let moved = subst (λ (x : T). Run go Operand (Has below x us) b zs) both.0 q in
      one_run r (subst (λ (ts : List Token). Run go Operand (Has below a ts) b zs) both.1 moved)

-- ---- what may wait below an operand

abbrev pub MayTight : {T : Type 0} → List (Frame T) → Type 0
MayTight [] = Unit {0}
MayTight (Takes g ∷ below) = ⊥
MayTight (Adds g ∷ below) = Unit {0}
MayTight (Bracket ∷ below) = Unit {0}

abbrev pub MayLoose : {T : Type 0} → List (Frame T) → Type 0
MayLoose [] = Unit {0}
MayLoose (Takes g ∷ below) = ⊥
MayLoose (Adds g ∷ below) = ⊥
MayLoose (Bracket ∷ below) = Unit {0}

abbrev pub NoTight : {T : Type 0} → Follow T → Type 0
NoTight (Tight f rest) = ⊥
NoTight (Loose f rest) = Unit {0}
NoTight (Closing rest) = Unit {0}
NoTight Nothing = Unit {0}

abbrev pub NoOperator : {T : Type 0} → Follow T → Type 0
NoOperator (Tight f rest) = ⊥
NoOperator (Loose f rest) = ⊥
NoOperator (Closing rest) = Unit {0}
NoOperator Nothing = Unit {0}

module _ {T : Type 0} (follow : List Token → Follow T) (opening : List Token → Opening T) where
  pub loose_tight : (below : List (Frame T)) → MayLoose below → MayTight below
  loose_tight [] h = tt
  loose_tight (Takes g ∷ below) h = h
  loose_tight (Adds g ∷ below) h = absurd h
  loose_tight (Bracket ∷ below) h = tt

  pub no_operator : (f : Follow T) → NoOperator f → NoTight f
  no_operator (Tight f rest) h = h
  no_operator (Loose f rest) h = tt
  no_operator (Closing rest) h = tt
  no_operator Nothing h = tt

  -- behind an operand that may be the left side of a tight operator
  pub tight_goes : (below : List (Frame T)) (a : T) (f : T → T → T) (tokens rest : List Token) → follow tokens ≡ Tight f rest → MayTight below
      → next follow opening (Has below a tokens) ≡ Some (Wants (Takes (f a) ∷ below) rest)
  tight_goes [] a f tokens rest e h = ap (λ (x : Follow T). at_bottom a x) e
  tight_goes (Takes g ∷ below) a f tokens rest e h = absurd h
  tight_goes (Adds g ∷ below) a f tokens rest e h = ap (λ (x : Follow T). in_sum g below a tokens x) e
  tight_goes (Bracket ∷ below) a f tokens rest e h = ap (λ (x : Follow T). in_brackets below a x) e

  pub loose_goes : (below : List (Frame T)) (a : T) (f : T → T → T) (tokens rest : List Token) → follow tokens ≡ Loose f rest → MayLoose below
      → next follow opening (Has below a tokens) ≡ Some (Wants (Adds (f a) ∷ below) rest)
  loose_goes [] a f tokens rest e h = ap (λ (x : Follow T). at_bottom a x) e
  loose_goes (Takes g ∷ below) a f tokens rest e h = absurd h
  loose_goes (Adds g ∷ below) a f tokens rest e h = absurd h
  loose_goes (Bracket ∷ below) a f tokens rest e h = ap (λ (x : Follow T). in_brackets below a x) e

  -- behind the right side of a loose operator
  sum_ends : (g : T → T) (below : List (Frame T)) (a : T) (tokens : List Token) (x : Follow T) → NoTight x
      → in_sum g below a tokens x ≡ Some (Has below (g a) tokens)
  sum_ends g below a tokens (Tight f rest) h = absurd h
  sum_ends g below a tokens (Loose f rest) h = refl
  sum_ends g below a tokens (Closing rest) h = refl
  sum_ends g below a tokens Nothing h = refl

  pub adds_goes : (g : T → T) (below : List (Frame T)) (a : T) (tokens : List Token) → NoTight (follow tokens)
      → next follow opening (Has (Adds g ∷ below) a tokens) ≡ Some (Has below (g a) tokens)
  adds_goes g below a tokens h = sum_ends g below a tokens (follow tokens) h

  bottom_ends : (a : T) (x : Follow T) → NoOperator x → at_bottom a x ≡ None
  bottom_ends a (Tight f rest) h = absurd h
  bottom_ends a (Loose f rest) h = absurd h
  bottom_ends a (Closing rest) h = refl
  bottom_ends a Nothing h = refl

  pub ends : (a : T) (tokens : List Token) → NoOperator (follow tokens) → next follow opening (Has [] a tokens) ≡ None
  ends a tokens h = bottom_ends a (follow tokens) h
