-- Reading parts of a statement from left to right: what a part is and the tokens behind it, or the tokens from the first that can't stand there.
use Rattle.std.specs.Prelude.{◌≡◌, ℕ, zero, suc, List, [], ◌∷◌, length, Option, Some, None, Result, Ok, Err}
use Rattle.inno_types.specs.declared.stmt.Literal.{Literal}
use Rattle.inno_types.specs.declared.stmt.Literal.TheVariants as literal
use Rattle.sql_grammar.specs.declared.token.Word.TheVariants as word
use Rattle.sql_grammar.specs.declared.token.Token.{Token}
use Rattle.sql_grammar.specs.declared.token.Token.TheVariants.{Key, Bare, Quoted, Number, Text, Open, Close, Comma, Minus}
use Rattle.sql_grammar.specs.Grammar.{plain_number, negative_number}
use Rattle.sql_conditions.specs.declared.refusal.Refusal.{Refusal}
use Rattle.sql_conditions.specs.declared.refusal.Refusal.TheVariants as refusal

-- a part and the tokens behind it, or the tokens from the fault on
abbrev pub Read : Type 0 → Type 0
Read A = Result (A × List Token) (List Token)

infixl 10 ◌>>=◌
abbrev pub ◌>>=◌ : {A B : Type 0} → Result A (List Token) → (A → Result B (List Token)) → Result B (List Token)
(Ok x) >>= f = f x
(Err e) >>= f = Err e

-- What a function returned, seen by view, is what reading gives, unless memory ran out.
abbrev pub Fails : {Y : Type 0} → Refusal → Result Y (List Token) → Type 0
Fails refusal.NoMemory read = Unit {0}
Fails (refusal.Unexpected left) read = (rest : List Token) × (read ≡ Err rest) × (length rest ≡ left)

abbrev pub Gives : {X Y : Type 0} → (X → Y) → Result X Refusal → Result Y (List Token) → Type 0
Gives view (Ok x) read = read ≡ Ok (view x)
Gives view (Err e) read = Fails e read

unfoldable pub name_at : List Token → Read (List ℕ)
name_at (Bare meaning name ∷ rest) = Ok (name, rest)
name_at (Quoted name ∷ rest) = Ok (name, rest)
name_at tokens = Err tokens

unfoldable pub lit_at : List Token → Read Literal
lit_at (Number digits ∷ rest) = Ok (plain_number digits, rest)
lit_at (Minus ∷ Number digits ∷ rest) = Ok (negative_number digits, rest)
lit_at (Minus ∷ rest) = Err rest
lit_at (Text bytes ∷ rest) = Ok (literal.Text bytes, rest)
lit_at (Key word.Null ∷ rest) = Ok (literal.Null, rest)
lit_at tokens = Err tokens

-- what follows a comma, if one stands there
abbrev pub after_comma : List Token → Option (List Token)
after_comma (Comma ∷ rest) = Some rest
after_comma rest = None

-- behind an item: the other items behind a comma, or what stands there
abbrev pub next_item : {A : Type 0} → A → (List Token → Read (List A)) → List Token → Option (List Token) → Read (List A)
next_item a others rest None = Ok (a ∷ [], rest)
next_item a others rest (Some more) = others more >>= λ x. Ok (a ∷ x.0, x.1)

-- at most n items with commas between them
unfoldable pub items_at : {A : Type 0} → (List Token → Read A) → ℕ → List Token → Read (List A)
items_at item zero tokens = Err tokens
items_at item (suc n) tokens = item tokens >>= λ x. next_item x.0 (items_at item n) x.1 (after_comma x.1)

-- as many items as there are
abbrev pub commas_at : {A : Type 0} → (List Token → Read A) → List Token → Read (List A)
commas_at item tokens = items_at item (length tokens) tokens

abbrev pub after_open : List Token → Result (List Token) (List Token)
after_open (Open ∷ rest) = Ok rest
after_open rest = Err rest

abbrev pub after_close : List Token → Result (List Token) (List Token)
after_close (Close ∷ rest) = Ok rest
after_close rest = Err rest

unfoldable pub tuple_at : List Token → Read (List Literal)
tuple_at (Open ∷ tokens) = do
  literals ← commas_at lit_at tokens
  rest ← after_close literals.1
  Ok (literals.0, rest)
tuple_at tokens = Err tokens

-- nothing may follow
abbrev pub end_of : List Token → Result (Unit {0}) (List Token)
end_of [] = Ok tt
end_of rest = Err rest

abbrev pub ends_as : {A : Type 0} → A → List Token → Result A (List Token)
ends_as a tokens = end_of tokens >>= λ nothing. Ok a

-- that it was read, and not what was
abbrev pub read_it : {A : Type 0} → Result A (List Token) → Result (Unit {0}) (List Token)
read_it r = r >>= λ a. Ok tt
