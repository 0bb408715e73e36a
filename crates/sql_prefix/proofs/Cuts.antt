-- Tokens that are cut off amid a statement can be finished: the parts with names and literals.
use Rattle.std.proofs.Common.{◌≡◌, ℕ, zero, suc, List, [], ◌∷◌, ◌++◌, Option, None, refl, ◌∙◌}
use Rattle.inno_types.specs.declared.stmt.Comparison.TheVariants.{NotEqual, Less, LessOrEqual, Greater, GreaterOrEqual}
use Rattle.inno_types.specs.declared.stmt.Literal.{Literal}
use Rattle.inno_types.specs.declared.stmt.Literal.TheVariants as literal
use Rattle.sql_grammar.specs.declared.token.Word.{Word}
use Rattle.sql_grammar.specs.declared.token.Token.{Token}
use Rattle.sql_grammar.specs.declared.token.Token.TheVariants.{Key, Bare, Quoted, Number, Text, Compare, Open, Close, Comma, Star, Plus, Minus}
use Rattle.sql_grammar.specs.Grammar.{plain_number, negative_number, Name, Lit, Commas, Tuple}
use Rattle.sql_grammar.specs.Grammar as grammar
use Rattle.sql_prefix.proofs.Depth.{level}

-- ---- fronts of tokens

-- the second stands wherever the first does
pub data Like : Token → Token → Type 0 where
  key : {w : Word} → Like (Key w) (Key w)
  bare : {meaning : Option Word} {a b : List ℕ} → Like (Bare meaning a) (Bare meaning b)
  quoted : {a b : List ℕ} → Like (Quoted a) (Quoted b)
  number : {digits : List ℕ} → Like (Number digits) (Number digits)
  long_number : {a b : ℕ} {digits others : List ℕ} → Like (Number (a ∷ b ∷ digits)) (Number others)
  text : {a b : List ℕ} → Like (Text a) (Text b)
  compare : {how : _} → Like (Compare how) (Compare how)
  less_or_equal : Like (Compare LessOrEqual) (Compare Less)
  not_equal : Like (Compare NotEqual) (Compare Less)
  greater_or_equal : Like (Compare GreaterOrEqual) (Compare Greater)
  opens : Like Open Open
  closes : Like Close Close
  comma : Like Comma Comma
  star : Like Star Star
  plus : Like Plus Plus
  minus : Like Minus Minus

-- the second is a front of the first, or of what stands wherever it does
pub data Under : List Token → List Token → Type 0 where
  cut : {ts : List Token} → Under ts []
  keep : {t u : Token} {ts us : List Token} → Like t u → Under ts us → Under (t ∷ ts) (u ∷ us)

abbrev pub closers : ℕ → List Token
closers zero = []
closers (suc n) = Close ∷ closers n

-- so many more
abbrev pub deeper : ℕ → ℕ → ℕ
deeper zero depth = depth
deeper (suc n) depth = deeper n (suc depth)

-- a part that is cut off: it can be finished by such tokens and closing brackets, or it is whole
pub data Cut {A : Type 0} (Part : List Token → A → List Token → Type 0) (Ends : ℕ → List Token → Type 0) (ys us : List Token) : Type 0 where
  inside : (f : List Token) (n : ℕ) → Ends n f → ((d : ℕ) → level d us ≡ deeper n d) → (a : A) → ((zs : List Token) → Part (us ++ (f ++ (closers n ++ zs))) a zs) → Cut Part Ends ys us
  beyond : (vs : List Token) → Under ys vs → ((d : ℕ) → level d us ≡ level d vs) → (a : A) → ((zs : List Token) → Part (us ++ zs) a (vs ++ zs)) → Cut Part Ends ys us

-- these tokens alone
pub data Just (f : List Token) : ℕ → List Token → Type 0 where
  just : Just f 0 f

abbrev pub X : Token
X = Bare None (120 ∷ [])

abbrev pub Zero : Token
Zero = Number (48 ∷ [])

pub name_cut : {xs ys us : List Token} {name : List ℕ} → Name xs name ys → Under xs us → Cut Name (Just (X ∷ [])) ys us
name_cut n cut = inside (X ∷ []) 0 just (λ d. refl) (120 ∷ []) (λ zs. grammar.bare)
name_cut grammar.bare (keep (bare {b = b}) u) = beyond _ u (λ d. refl) b (λ zs. grammar.bare)
name_cut grammar.quoted (keep (quoted {b = b}) u) = beyond _ u (λ d. refl) b (λ zs. grammar.quoted)

pub lit_cut : {xs ys us : List Token} {value : Literal} → Lit xs value ys → Under xs us → Cut Lit (Just (Zero ∷ [])) ys us
lit_cut l cut = inside (Zero ∷ []) 0 just (λ d. refl) (plain_number (48 ∷ [])) (λ zs. grammar.number)
lit_cut grammar.number (keep (number {digits = e}) u) = beyond _ u (λ d. refl) (plain_number e) (λ zs. grammar.number)
lit_cut grammar.number (keep (long_number {others = e}) u) = beyond _ u (λ d. refl) (plain_number e) (λ zs. grammar.number)
lit_cut grammar.negative (keep minus cut) = inside (Zero ∷ []) 0 just (λ d. refl) (negative_number (48 ∷ [])) (λ zs. grammar.negative)
lit_cut grammar.negative (keep minus (keep (number {digits = e}) u)) = beyond _ u (λ d. refl) (negative_number e) (λ zs. grammar.negative)
lit_cut grammar.negative (keep minus (keep (long_number {others = e}) u)) = beyond _ u (λ d. refl) (negative_number e) (λ zs. grammar.negative)
lit_cut grammar.text (keep (text {b = b}) u) = beyond _ u (λ d. refl) (literal.Text b) (λ zs. grammar.text)
lit_cut grammar.null (keep key u) = beyond _ u (λ d. refl) literal.Null (λ zs. grammar.null)

-- ---- parts behind one another

-- behind a part that is whole
pub seq : {A B : Type 0} {First : List Token → List Token → Type 0} {Then : List Token → A → List Token → Type 0} {Both : List Token → B → List Token → Type 0} {Ends : ℕ → List Token → Type 0} {ys us vs : List Token}
    → ((d : ℕ) → level d us ≡ level d vs) → ((zs : List Token) → First (us ++ zs) (vs ++ zs)) → (make : A → B)
    → ((ps qs rs : List Token) (a : A) → First ps qs → Then qs a rs → Both ps (make a) rs) → Cut Then Ends ys vs → Cut Both Ends ys us
seq l r make join (inside f n e m a s) = inside f n e (λ d. l d ∙ m d) (make a) (λ zs. join _ _ _ _ (r (f ++ (closers n ++ zs))) (s zs))
seq l r make join (beyond ws u m a s) = beyond ws u (λ d. l d ∙ m d) (make a) (λ zs. join _ _ _ _ (r zs) (s zs))

-- the same with other words
pub made : {A B : Type 0} {Part : List Token → A → List Token → Type 0} {Other : List Token → B → List Token → Type 0} {Ends : ℕ → List Token → Type 0} {ys us : List Token}
    → (make : A → B) → ((ps qs : List Token) (a : A) → Part ps a qs → Other ps (make a) qs) → Cut Part Ends ys us → Cut Other Ends ys us
made make join (inside f n e l a r) = inside f n e l (make a) (λ zs. join _ _ _ (r zs))
made make join (beyond vs u l a r) = beyond vs u l (make a) (λ zs. join _ _ _ (r zs))

pub wider : {A : Type 0} {Part : List Token → A → List Token → Type 0} {Ends More : ℕ → List Token → Type 0} {ys us : List Token}
    → ((n : ℕ) (f : List Token) → Ends n f → More n f) → Cut Part Ends ys us → Cut Part More ys us
wider w (inside f n e l a r) = inside f n (w n f e) l a r
wider w (beyond vs u l a r) = beyond vs u l a r

-- behind a token that is no bracket
pub behind : {A B : Type 0} {Then : List Token → A → List Token → Type 0} {Both : List Token → B → List Token → Type 0} {Ends : ℕ → List Token → Type 0} {ys us : List Token}
    → (t : Token) → ((d : ℕ) → level d (t ∷ us) ≡ level d us) → (make : A → B)
    → ((ps qs : List Token) (a : A) → Then ps a qs → Both (t ∷ ps) (make a) qs) → Cut Then Ends ys us → Cut Both Ends ys (t ∷ us)
behind t l make join (inside f n e m a r) = inside f n e (λ d. l d ∙ m d) (make a) (λ zs. join _ _ _ (r zs))
behind t l make join (beyond ws u m a r) = beyond ws u (λ d. l d ∙ m d) (make a) (λ zs. join _ _ _ (r zs))

-- ---- lists and tuples

module _ {A : Type 0} (Item : List Token → A → List Token → Type 0) (Ends : ℕ → List Token → Type 0) (item_cut : (xs ys us : List Token) (a : A) → Item xs a ys → Under xs us → Cut Item Ends ys us) where
  one : {ys us : List Token} → Cut Item Ends ys us → Cut (Commas Item) Ends ys us
  one (inside f n e l a r) = inside f n e l (a ∷ []) (λ zs. grammar.last (r zs))
  one (beyond vs u l a r) = beyond vs u l (a ∷ []) (λ zs. grammar.last (r zs))

  several : {ys zs us : List Token} → Cut Item Ends (Comma ∷ ys) us → ((vs : List Token) → Under ys vs → Cut (Commas Item) Ends zs vs) → Cut (Commas Item) Ends zs us
  several (inside f n e l a r) rest = inside f n e l (a ∷ []) (λ zs. grammar.last (r zs))
  several (beyond _ cut l a r) rest = beyond [] cut l (a ∷ []) (λ zs. grammar.last (r zs))
  several (beyond _ (keep {us = vs} comma u) l a r) rest =
      seq {First = λ ps qs. Item ps a (Comma ∷ qs)} l r (λ others. a ∷ others) (λ ps qs rs b i c. grammar.more i c) (rest vs u)

  pub commas_cut : {xs ys us : List Token} {items : List A} → Commas Item xs items ys → Under xs us → Cut (Commas Item) Ends ys us
  commas_cut (grammar.last i) u = one (item_cut _ _ _ _ i u)
  commas_cut (grammar.more i c) u = several (item_cut _ _ _ _ i u) (λ vs v. commas_cut c v)

pub names_cut : {xs ys us : List Token} {names : List (List ℕ)} → Commas Name xs names ys → Under xs us → Cut (Commas Name) (Just (X ∷ [])) ys us
names_cut c u = commas_cut Name (Just (X ∷ [])) (λ xs ys us a i v. name_cut i v) c u

pub lits_cut : {xs ys us : List Token} {literals : List Literal} → Commas Lit xs literals ys → Under xs us → Cut (Commas Lit) (Just (Zero ∷ [])) ys us
lits_cut c u = commas_cut Lit (Just (Zero ∷ [])) (λ xs ys us a i v. lit_cut i v) c u

pub data InTuple : ℕ → List Token → Type 0 where
  whole : InTuple 0 (Open ∷ Zero ∷ Close ∷ [])
  last : InTuple 1 (Zero ∷ [])
  none : InTuple 1 []

in_tuple : {ys us : List Token} → Cut (Commas Lit) (Just (Zero ∷ [])) (Close ∷ ys) us → Cut Tuple InTuple ys (Open ∷ us)
in_tuple (inside _ _ just l a r) = inside (Zero ∷ []) 1 last (λ d. l (suc d)) a (λ zs. grammar.tuple (r (Close ∷ zs)))
in_tuple (beyond _ cut l a r) = inside [] 1 none (λ d. l (suc d)) a (λ zs. grammar.tuple (r (Close ∷ zs)))
in_tuple (beyond _ (keep closes u) l a r) = beyond _ u (λ d. l (suc d)) a (λ zs. grammar.tuple (r zs))

pub tuple_cut : {xs ys us : List Token} {literals : List Literal} → Tuple xs literals ys → Under xs us → Cut Tuple InTuple ys us
tuple_cut t cut = inside (Open ∷ Zero ∷ Close ∷ []) 0 whole (λ d. refl) (plain_number (48 ∷ []) ∷ []) (λ zs. grammar.tuple (grammar.last grammar.number))
tuple_cut (grammar.tuple c) (keep opens u) = in_tuple (lits_cut c u)

pub tuples_cut : {xs ys us : List Token} {tuples : List (List Literal)} → Commas Tuple xs tuples ys → Under xs us → Cut (Commas Tuple) InTuple ys us
tuples_cut c u = commas_cut Tuple InTuple (λ xs ys us a i v. tuple_cut i v) c u
