-- A blank and a token take at least one byte.
use Rattle.std.proofs.Common.{◌≡◌, ℕ, suc, ◌+◌, ◌<◌, ◌≤◌, Bool, true, false, cond, ◌||◌, List, [], ◌∷◌, length, drop, Option, Some, None, IfSome, refl, subst, arith, length-drop}
use Rattle.std.specs.Prelude.{◌==◌}
use Rattle.std.specs.List.{prefix_len}
use Rattle.sql_grammar.specs.declared.token.Token.{Token}
use Rattle.sql_grammar.specs.declared.token.Token.TheVariants.{Number, Quoted, Text}
use Rattle.sql_grammar.specs.Tokens as spelled

-- ---- blanks

line_step : (b : ℕ) (bytes : List ℕ) → length (spelled.after_line bytes) ≤ length bytes → length (spelled.after_line (b ∷ bytes)) ≤ suc (length bytes)
unfolding spelled.after_line
line_step b bytes h = grind arith

line_shorter : (bytes : List ℕ) → length (spelled.after_line bytes) ≤ length bytes
unfolding spelled.after_line
line_shorter [] = omega arith
line_shorter (b ∷ bytes) = line_step b bytes (line_shorter bytes)

comment_step : (b : ℕ) (bytes : List ℕ) → IfSome (spelled.after_comment bytes) (λ r. length r ≤ length bytes) → IfSome (spelled.after_comment (b ∷ bytes)) (λ r. length r ≤ suc (length bytes))
unfolding spelled.after_comment
comment_step b bytes h = grind (arith, length-drop)

comment_shorter : (bytes : List ℕ) → IfSome (spelled.after_comment bytes) (λ r. length r ≤ length bytes)
unfolding spelled.after_comment
comment_shorter [] = tt
comment_shorter (b ∷ bytes) = comment_step b bytes (comment_shorter bytes)

blank_within : (b : ℕ) (bytes : List ℕ) → IfSome (spelled.after_blank (b ∷ bytes)) (λ r. length r ≤ length bytes)
unfolding spelled.after_blank
blank_within b bytes =
    let line = line_shorter bytes in
    let comment = comment_shorter (drop 1 bytes) in
    grind (arith, length-drop)

pub no_blank : (rest : List ℕ) → spelled.after_blank [] ≡ Some rest → ⊥
unfolding spelled.after_blank
no_blank rest e = cc

pub blank_shorter : (bytes rest : List ℕ) → spelled.after_blank bytes ≡ Some rest → length rest < length bytes
blank_shorter [] rest e = absurd (no_blank rest e)
blank_shorter (b ∷ bytes) rest e =
    let h : length rest ≤ length bytes = subst (λ (r : Option (List ℕ)). IfSome r (λ r. length r ≤ length bytes)) e (blank_within b bytes) in
    omega arith

-- ---- tokens

-- what follows, if anything was read
abbrev Within : {A : Type 0} → ℕ → Option (A × List ℕ) → Type 0
Within n read = IfSome read (λ r. length r.1 ≤ n)

with_front_within : (n : ℕ) (front : List ℕ) (read : Option (List ℕ × List ℕ)) → Within n read → Within n (spelled.with_front front read)
with_front_within n front None h = tt
with_front_within n front (Some read) h = h

more_within : {A : Type 0} (n m : ℕ) (read : Option (A × List ℕ)) → n ≤ m → Within n read → Within m read
more_within n m None le h = tt
more_within n m (Some read) le h = omega arith

one_more : (front : List ℕ) (bytes : List ℕ) (read : Option (List ℕ × List ℕ)) → Within (length bytes) read → Within (suc (length bytes)) (spelled.with_front front read)
one_more front bytes read h = with_front_within (suc (length bytes)) front read (more_within (length bytes) (suc (length bytes)) read (omega arith) h)

quoted_step : (quote b : ℕ) (bytes : List ℕ) → Within (length bytes) (spelled.quoted quote bytes) → Within (length bytes) (spelled.doubled quote bytes)
    → Within (suc (length bytes)) (spelled.quoted quote (b ∷ bytes)) × Within (suc (length bytes)) (spelled.doubled quote (b ∷ bytes))
unfolding spelled.quoted
quoted_step quote b bytes h k =
    let plain = one_more (b ∷ []) bytes (spelled.quoted quote bytes) h in
    let one = one_more (quote ∷ []) bytes (spelled.quoted quote bytes) h in
    let behind = more_within (length bytes) (suc (length bytes)) (spelled.doubled quote bytes) (omega arith) k in
    (grind arith, grind arith)

quoted_within : (quote : ℕ) (bytes : List ℕ) → Within (length bytes) (spelled.quoted quote bytes) × Within (length bytes) (spelled.doubled quote bytes)
unfolding spelled.quoted
quoted_within quote [] = (tt, omega arith)
quoted_within quote (b ∷ bytes) = let h = quoted_within quote bytes in quoted_step quote b bytes h.0 h.1

text_step : (quote b : ℕ) (bytes : List ℕ) → Within (length bytes) (spelled.text_in quote bytes) → Within (length bytes) (spelled.closes quote bytes) → Within (length bytes) (spelled.escapes quote bytes)
    → Within (suc (length bytes)) (spelled.text_in quote (b ∷ bytes)) × Within (suc (length bytes)) (spelled.closes quote (b ∷ bytes)) × Within (suc (length bytes)) (spelled.escapes quote (b ∷ bytes))
unfolding spelled.text_in
text_step quote b bytes h k l =
    let plain = one_more (b ∷ []) bytes (spelled.text_in quote bytes) h in
    let one = one_more (quote ∷ []) bytes (spelled.text_in quote bytes) h in
    let behind_quote = more_within (length bytes) (suc (length bytes)) (spelled.closes quote bytes) (omega arith) k in
    let behind_backslash = more_within (length bytes) (suc (length bytes)) (spelled.escapes quote bytes) (omega arith) l in
    (grind arith, grind arith, one_more (spelled.escaped b) bytes (spelled.text_in quote bytes) h)

text_within : (quote : ℕ) (bytes : List ℕ) → Within (length bytes) (spelled.text_in quote bytes) × Within (length bytes) (spelled.closes quote bytes) × Within (length bytes) (spelled.escapes quote bytes)
unfolding spelled.text_in
text_within quote [] = (tt, omega arith, tt)
text_within quote (b ∷ bytes) = let h = text_within quote bytes in text_step quote b bytes h.0 h.1 h.2

as_token_within : (n : ℕ) (may : List ℕ → Bool) (token : List ℕ → Token) (read : List ℕ × List ℕ) → length read.1 ≤ n → Within n (spelled.as_token may token read)
as_token_within n may token read h = grind arith

as_token_if_within : (n : ℕ) (may : List ℕ → Bool) (token : List ℕ → Token) (read : Option (List ℕ × List ℕ)) → Within n read → Within n (spelled.as_token_if may token read)
as_token_if_within n may token None h = tt
as_token_if_within n may token (Some read) h = as_token_within n may token read h

-- a run that takes its first byte
run_within : (p : ℕ → Bool) (b : ℕ) (bytes : List ℕ) → p b ≡ true → length (drop (prefix_len p (b ∷ bytes)) (b ∷ bytes)) ≤ length bytes
run_within p b bytes e = rw e (omega (arith, length-drop (1 + prefix_len p bytes) (b ∷ bytes)))

word_within : (b : ℕ) (bytes : List ℕ) → spelled.starts_word b ≡ true → Within (length bytes) (spelled.as_token spelled.fits_name spelled.word_token (spelled.front_while spelled.is_in_word (b ∷ bytes)))
word_within b bytes e =
    let in_word : spelled.is_in_word b ≡ true = rw e refl in
    as_token_within (length bytes) spelled.fits_name spelled.word_token (spelled.front_while spelled.is_in_word (b ∷ bytes)) (run_within spelled.is_in_word b bytes in_word)

number_within : (b : ℕ) (bytes : List ℕ) → spelled.is_digit b ≡ true → Within (length bytes) (spelled.as_token (λ _. true) Number (spelled.front_while spelled.is_digit (b ∷ bytes)))
number_within b bytes e = as_token_within (length bytes) (λ _. true) Number (spelled.front_while spelled.is_digit (b ∷ bytes)) (run_within spelled.is_digit b bytes e)

sign_within : (b : ℕ) (bytes : List ℕ) → Within (length bytes) (spelled.sign_at (b ∷ bytes))
unfolding spelled.sign_at
sign_within b bytes = grind (arith, length-drop)

-- which of two was taken
if_within : {A : Type 0} (n : ℕ) (t : Bool) (x y : Option (A × List ℕ)) → (t ≡ true → Within n x) → Within n y → Within n (cond t x y)
if_within n true x y hx hy = hx refl
if_within n false x y hx hy = hy

token_within : (b : ℕ) (bytes : List ℕ) → Within (length bytes) (spelled.token_at (b ∷ bytes))
unfolding spelled.token_at
token_within b bytes =
    let n = length bytes in
    let word = spelled.as_token spelled.fits_name spelled.word_token (spelled.front_while spelled.is_in_word (b ∷ bytes)) in
    let number = spelled.as_token (λ _. true) Number (spelled.front_while spelled.is_digit (b ∷ bytes)) in
    let name = spelled.as_token_if spelled.fits_name Quoted (spelled.quoted 96 bytes) in
    let text = spelled.as_token_if (λ _. true) Text (spelled.text_in b bytes) in
    let sign = spelled.sign_at (b ∷ bytes) in
    let quotes = b == 39 || b == 34 in
    if_within n (spelled.starts_word b) word (cond (spelled.is_digit b) number (cond (b == 96) name (cond quotes text sign))) (word_within b bytes)
    (if_within n (spelled.is_digit b) number (cond (b == 96) name (cond quotes text sign)) (number_within b bytes)
    (if_within n (b == 96) name (cond quotes text sign) (λ _. as_token_if_within n spelled.fits_name Quoted (spelled.quoted 96 bytes) (quoted_within 96 bytes).0)
    (if_within n quotes text sign (λ _. as_token_if_within n (λ _. true) Text (spelled.text_in b bytes) (text_within b bytes).0)
    (sign_within b bytes))))

pub no_token : (token : Token) (rest : List ℕ) → spelled.token_at [] ≡ Some (token, rest) → ⊥
unfolding spelled.token_at
no_token token rest e = cc

pub token_shorter : (bytes : List ℕ) (token : Token) (rest : List ℕ) → spelled.token_at bytes ≡ Some (token, rest) → length rest < length bytes
token_shorter [] token rest e = absurd (no_token token rest e)
token_shorter (b ∷ bytes) token rest e =
    let h : length rest ≤ length bytes = subst (λ (r : Option (Token × List ℕ)). Within (length bytes) r) e (token_within b bytes) in
    omega arith
