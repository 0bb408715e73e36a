-- Names, literals and lists of them, where more tokens come behind.
use Rattle.std.proofs.Common.{◌≡◌, ℕ, zero, suc, ◌<◌, ◌≤◌, List, [], ◌∷◌, ◌++◌, length, None, Ok, Err, refl, ◌∙◌, arith}
use Rattle.inno_types.specs.declared.stmt.Literal.TheVariants as literal
use Rattle.inno_types.specs.declared.stmt.Comparison.TheVariants.{Equal}
use Rattle.sql_grammar.specs.declared.token.Word.TheVariants as word
use Rattle.sql_grammar.specs.declared.token.Token.{Token}
use Rattle.sql_grammar.specs.declared.token.Token.TheVariants.{Key, Bare, Quoted, Number, Text, Compare, Open, Close, Comma, Minus}
use Rattle.sql_grammar.specs.Grammar.{plain_number, negative_number}
use Rattle.sql_grammar.specs.Tokens.{after_blank, token_at, sign_at, word_token, AreTokens}
use Rattle.sql_grammar.specs.Tokens as spelled
use Rattle.sql_conditions.specs.Parts.{Read, ◌>>=◌, name_at, lit_at, after_comma, next_item, items_at, commas_at}
use Rattle.sql_text.proofs.Steady.{Said, Stays, Starts, took, faulty, cut_off, unsaid, same_stays, reads, then, made_of, said_both}

abbrev pub X : Token
X = Bare None (120 ∷ [])

abbrev pub Zero : Token
Zero = Number (48 ∷ [])

-- ---- tokens and their bytes

pub said_x : Said (X ∷ [])
unfolding after_blank token_at word_token
said_x = (120 ∷ 32 ∷ [], λ rest more a. spelled.token refl refl (spelled.blank refl a))

pub said_zero : Said (Zero ∷ [])
unfolding after_blank token_at
said_zero = (48 ∷ 32 ∷ [], λ rest more a. spelled.token refl refl (spelled.blank refl a))

pub said_open : Said (Open ∷ [])
unfolding after_blank token_at sign_at
said_open = (40 ∷ [], λ rest more a. spelled.token refl refl a)

pub said_close : Said (Close ∷ [])
unfolding after_blank token_at sign_at
said_close = (41 ∷ [], λ rest more a. spelled.token refl refl a)

pub said_equal : Said (Compare Equal ∷ [])
unfolding after_blank token_at sign_at
said_equal = (61 ∷ 32 ∷ [], λ rest more a. spelled.token refl refl (spelled.blank refl a))

pub said_before : (t : Token) (us : List Token) → Said (t ∷ []) → Said us → Said (t ∷ us)
said_before t us s u = said_both (t ∷ []) us s u

-- ---- what may follow

-- anything
abbrev pub Any : List Token → Type 0
Any zs = Unit {0}

-- the end, or a token that goes on with no list, expression or condition, nor with what a column has
pub data Apart : List Token → Type 0 where
  at_end : Apart []
  at_close : {rest : List Token} → Apart (Close ∷ rest)
  at_from : {rest : List Token} → Apart (Key word.From ∷ rest)
  at_values : {rest : List Token} → Apart (Key word.Values ∷ rest)
  at_name : {rest : List Token} → Apart (X ∷ rest)

abbrev pub pair : {A : Type 0} → A → List Token → A × List Token
pair a rest = (a, rest)

-- where only the rest is given
abbrev pub alone : Unit {0} → List Token → List Token
alone u rest = rest

-- ---- names and literals

pub name_stays : {Fits : List Token → Type 0} (xs : List Token) → Stays pair Fits (name_at xs) (λ zs. name_at (xs ++ zs))
unfolding name_at
name_stays [] = cut_off (X ∷ []) (120 ∷ []) refl said_x (λ zs z. refl)
name_stays (Bare meaning name ∷ rest) = reads name rest refl (λ zs. refl)
name_stays (Quoted name ∷ rest) = reads name rest refl (λ zs. refl)
name_stays (t ∷ rest) = faulty t rest refl (λ zs. refl)

pub lit_stays : {Fits : List Token → Type 0} (xs : List Token) → Stays pair Fits (lit_at xs) (λ zs. lit_at (xs ++ zs))
unfolding lit_at
lit_stays [] = cut_off (Zero ∷ []) (plain_number (48 ∷ [])) refl said_zero (λ zs z. refl)
lit_stays (Number digits ∷ rest) = reads (plain_number digits) rest refl (λ zs. refl)
lit_stays (Minus ∷ []) = cut_off (Zero ∷ []) (negative_number (48 ∷ [])) refl said_zero (λ zs z. refl)
lit_stays (Minus ∷ Number digits ∷ rest) = reads (negative_number digits) rest refl (λ zs. refl)
lit_stays (Minus ∷ t ∷ rest) = faulty t rest refl (λ zs. refl)
lit_stays (Text bytes ∷ rest) = reads (literal.Text bytes) rest refl (λ zs. refl)
lit_stays (Key word.Null ∷ rest) = reads literal.Null rest refl (λ zs. refl)
lit_stays (t ∷ rest) = faulty t rest refl (λ zs. refl)

-- ---- items with commas between them

no_comma : {zs : List Token} → Apart zs → after_comma zs ≡ None
no_comma at_end = refl
no_comma at_close = refl
no_comma at_from = refl
no_comma at_values = refl
no_comma at_name = refl

module _ {A : Type 0} (item : List Token → Read A) (none : item [] ≡ Err [])
    (shorter : (xs rest : List Token) (a : A) → item xs ≡ Ok (a, rest) → length rest < length xs) where
  abbrev next : (List Token → Read (List A)) → A × List Token → Read (List A)
  next others x = next_item x.0 others x.1 (after_comma x.1)

  next_same : (others more : List Token → Read (List A)) (a : A) (rest : List Token) → ((ys : List Token) → length ys < length rest → others ys ≡ more ys)
      → next others (a, rest) ≡ next more (a, rest)
  next_same others more a [] same = refl
  next_same others more a (Comma ∷ rest) same = rw (same rest (omega arith)) refl
  next_same others more a (t ∷ rest) same = refl

  bind_same : (others more : List Token → Read (List A)) (n : ℕ) (xs : List Token) → length xs ≤ suc n
      → ((ys : List Token) → length ys ≤ n → others ys ≡ more ys) → (item xs >>= next others) ≡ (item xs >>= next more)
  bind_same others more n xs le same = by_read (item xs) refl
    where
      by_read : (r : Read A) → item xs ≡ r → (r >>= next others) ≡ (r >>= next more)
      by_read (Err e) h = refl
      by_read (Ok (a, rest)) h = let lt = shorter xs rest a h in next_same others more a rest (λ ys less. same ys (omega (arith, lt, le, less)))

  same_step : (n m : ℕ) (xs : List Token) (r : Read A) → item xs ≡ r → length xs ≤ suc n → length xs ≤ suc m
      → ((ys : List Token) → length ys ≤ n → length ys ≤ m → items_at item n ys ≡ items_at item m ys)
      → (r >>= next (items_at item n)) ≡ (r >>= next (items_at item m))
  same_step n m xs (Err e) h le lf same = refl
  same_step n m xs (Ok (a, rest)) h le lf same =
      let lt = shorter xs rest a h in
      next_same (items_at item n) (items_at item m) a rest (λ ys less. same ys (omega (arith, lt, le, less)) (omega (arith, lt, lf, less)))

  same_items : (n m : ℕ) (xs : List Token) → length xs ≤ n → length xs ≤ m → items_at item n xs ≡ items_at item m xs
  unfolding items_at
  same_items zero zero xs le lf = refl
  same_items zero (suc m) [] le lf = rw none refl
  same_items zero (suc m) (t ∷ xs) le lf = absurd (omega (arith, le))
  same_items (suc n) zero [] le lf = rw none refl
  same_items (suc n) zero (t ∷ xs) le lf = absurd (omega (arith, lf))
  same_items (suc n) (suc m) xs le lf = same_step n m xs (item xs) refl le lf (λ ys less fewer. same_items n m ys less fewer)

  one_item : (xs : List Token) → commas_at item xs ≡ (item xs >>= next (commas_at item))
  unfolding items_at
  one_item xs =
      let more : commas_at item xs ≡ items_at item (suc (length xs)) xs = same_items (length xs) (suc (length xs)) xs (omega arith) (omega arith) in
      more ∙ bind_same (items_at item (length xs)) (commas_at item) (length xs) xs (omega arith)
      (λ ys le. same_items (length xs) (length ys) ys le (omega arith))

  module _ (stays : (xs : List Token) → Stays pair Apart (item xs) (λ zs. item (xs ++ zs))) where
    abbrev Stay : List Token → Type 0
    Stay xs = Stays pair Apart (commas_at item xs) (λ zs. commas_at item (xs ++ zs))

    next_starts : (a : A) → Starts pair Apart Apart (λ zs. next (commas_at item) (a, zs))
    next_starts a = unsaid (a ∷ []) refl (λ zs z. z) (λ zs z. rw (no_comma z) refl)

    next_stays : (a : A) (t : Token) (rest : List Token) → ((ys : List Token) → length ys < length (t ∷ rest) → Stay ys)
        → Stays pair Apart (next (commas_at item) (a, t ∷ rest)) (λ zs. next (commas_at item) (a, t ∷ (rest ++ zs)))
    next_stays a Comma rest stay = made_of (λ x. Ok (a ∷ x.0, x.1)) (λ others. a ∷ others) (λ others zs. refl) (stay rest (omega arith))
    next_stays a t rest stay = took (a ∷ []) t rest refl (λ zs. refl)

    items_stay : (n : ℕ) (xs : List Token) → length xs ≤ n → Stay xs
    items_stay zero xs le =
        same_stays (one_item xs) (λ zs. one_item (xs ++ zs)) (then (next (commas_at item)) (stays xs)
        (λ a t rest e. absurd (omega (arith, shorter xs (t ∷ rest) a e, le))) next_starts)
    items_stay (suc n) xs le =
        same_stays (one_item xs) (λ zs. one_item (xs ++ zs)) (then (next (commas_at item)) (stays xs)
        (λ a t rest e. next_stays a t rest (λ ys less. items_stay n ys (omega (arith, shorter xs (t ∷ rest) a e, le, less)))) next_starts)

    pub commas_stay : (xs : List Token) → Stays pair Apart (commas_at item xs) (λ zs. commas_at item (xs ++ zs))
    commas_stay xs = items_stay (length xs) xs (omega arith)
