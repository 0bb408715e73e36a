-- What is read is spelled so: names, literals and lists of them.
use Rattle.std.proofs.Common.{◌≡◌, ℕ, zero, suc, List, [], ◌∷◌, length, Result, Ok, Err, IfOk, refl, subst}
use Rattle.sql_grammar.specs.declared.token.Word.TheVariants as word
use Rattle.sql_grammar.specs.declared.token.Token.{Token}
use Rattle.sql_grammar.specs.declared.token.Token.TheVariants.{Key, Bare, Quoted, Number, Text, Open, Close, Comma, Minus}
use Rattle.sql_grammar.specs.Grammar.{Name, Lit, Commas, Tuple}
use Rattle.sql_grammar.specs.Grammar as grammar
use Rattle.sql_conditions.specs.Parts.{Read, ◌>>=◌, name_at, lit_at, after_comma, next_item, items_at, commas_at, after_close, tuple_at, end_of, ends_as}

-- a part, and then what is read behind it
pub bind : {A B : Type 0} (r : Result A (List Token)) (f : A → Result B (List Token)) (P : A → Type 0) (Q : B → Type 0) → IfOk r P → ((a : A) → P a → IfOk (f a) Q) → IfOk (r >>= f) Q
bind (Ok a) f P Q h k = k a h
bind (Err e) f P Q h k = tt

pub weaker : {A : Type 0} (r : Result A (List Token)) (P Q : A → Type 0) → IfOk r P → ((a : A) → P a → Q a) → IfOk r Q
weaker (Ok a) P Q h k = k a h
weaker (Err e) P Q h k = tt

pub name_sound : (xs : List Token) → IfOk (name_at xs) (λ r. Name xs r.0 r.1)
unfolding name_at
name_sound [] = tt
name_sound (Bare meaning name ∷ rest) = grammar.bare
name_sound (Quoted name ∷ rest) = grammar.quoted
name_sound (other ∷ rest) = tt

pub lit_sound : (xs : List Token) → IfOk (lit_at xs) (λ r. Lit xs r.0 r.1)
unfolding lit_at
lit_sound [] = tt
lit_sound (Number digits ∷ rest) = grammar.number
lit_sound (Minus ∷ Number digits ∷ rest) = grammar.negative
lit_sound (Minus ∷ rest) = tt
lit_sound (Text bytes ∷ rest) = grammar.text
lit_sound (Key word.Null ∷ rest) = grammar.null
lit_sound (other ∷ rest) = tt

module _ {A : Type 0} (item : List Token → Read A) (Item : List Token → A → List Token → Type 0) (sound : (xs : List Token) → IfOk (item xs) (λ r. Item xs r.0 r.1)) where
  next_sound : (others : List Token → Read (List A)) (xs : List Token) (a : A) (ys : List Token) → Item xs a ys → ((more : List Token) → IfOk (others more) (λ r. Commas Item more r.0 r.1))
      → IfOk (next_item a others ys (after_comma ys)) (λ r. Commas Item xs r.0 r.1)
  next_sound others xs a [] i h = grammar.last i
  next_sound others xs a (Comma ∷ more) i h =
      bind (others more) (λ x. Ok (a ∷ x.0, x.1)) (λ r. Commas Item more r.0 r.1) (λ r. Commas Item xs r.0 r.1) (h more) (λ r c. grammar.more i c)
  next_sound others xs a (other ∷ more) i h = grammar.last i

  pub items_sound : (n : ℕ) (xs : List Token) → IfOk (items_at item n xs) (λ r. Commas Item xs r.0 r.1)
  unfolding items_at
  items_sound zero xs = tt
  items_sound (suc n) xs =
      bind (item xs) (λ x. next_item x.0 (items_at item n) x.1 (after_comma x.1)) (λ r. Item xs r.0 r.1) (λ r. Commas Item xs r.0 r.1) (sound xs) (λ r i. next_sound (items_at item n) xs r.0 r.1 i (items_sound n))

-- a closing bracket
pub close_sound : (xs : List Token) → IfOk (after_close xs) (λ ys. xs ≡ Close ∷ ys)
close_sound [] = tt
close_sound (Close ∷ ys) = refl
close_sound (other ∷ ys) = tt

pub tuple_sound : (xs : List Token) → IfOk (tuple_at xs) (λ r. Tuple xs r.0 r.1)
unfolding tuple_at
tuple_sound [] = tt
tuple_sound (Open ∷ xs) =
    bind (commas_at lit_at xs) (λ literals. after_close literals.1 >>= λ rest. Ok (literals.0, rest)) (λ r. Commas Lit xs r.0 r.1) (λ r. Tuple (Open ∷ xs) r.0 r.1) (items_sound lit_at Lit lit_sound (length xs) xs)
    (λ literals c. bind (after_close literals.1) (λ rest. Ok (literals.0, rest)) (λ ys. literals.1 ≡ Close ∷ ys) (λ r. Tuple (Open ∷ xs) r.0 r.1) (close_sound literals.1)
    (λ ys e. grammar.tuple (subst (λ (ts : List Token). Commas Lit xs literals.0 ts) e c)))
tuple_sound (other ∷ xs) = tt

-- ---- the end

pub end_sound : (xs : List Token) → IfOk (end_of xs) (λ _. xs ≡ [])
end_sound [] = refl
end_sound (x ∷ xs) = tt

pub ends_sound : {A : Type 0} (a : A) (P : A → Type 0) (xs : List Token) → (xs ≡ [] → P a) → IfOk (ends_as a xs) P
ends_sound a P [] h = h refl
ends_sound a P (x ∷ xs) h = tt
