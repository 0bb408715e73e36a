-- How a bare word that is cut off goes on.
use Rattle.std.proofs.Common.{◌≡◌, ℕ, ◌-◌, ◌≤◌, List, [], ◌∷◌, ◌++◌, length, Option, Some, None, Bool, true, false, refl, ◌∙◌, ap, sym, subst, arith}
use Rattle.std.specs.Prelude.{◌==◌, nat_le, nat_lt, if◌then◌else◌}
use Rattle.std.specs.Char.{to_ascii_uppercase}
use Rattle.std.specs.Str.{bytes_eq}
use Rattle.std.proofs.lemmas.List.{map-append}
use Rattle.std.proofs.lemmas.Str.Ascii.{uppercase-uppercase}
use Rattle.std.proofs.lemmas.Slice.Eq.{bytes_eq-Decides}
use Rattle.sql_grammar.specs.declared.token.Word.{Word}
use Rattle.sql_grammar.specs.declared.token.Token.{Token}
use Rattle.sql_grammar.specs.declared.token.Token.TheVariants as token
use Rattle.sql_grammar.specs.declared.token.Token.TheVariants.{Key, Bare, Quoted}
use Rattle.sql_grammar.specs.Tokens.{is_in_word, front_while, word_token}
use Rattle.sql_grammar.specs.Words.{spelling, reserved, others, word_among, capitals}
use Rattle.sql_prefix.proofs.Cuts.{Like}
use Rattle.sql_prefix.proofs.Cuts as cuts
use Rattle.sql_prefix.proofs.Spelled.{takes, leaves}

-- ---- capitals

caps_caps : (bs : List ℕ) → capitals (capitals bs) ≡ capitals bs
caps_caps [] = refl
caps_caps (b ∷ bs) = rw (uppercase-uppercase b, caps_caps bs) refl

caps_append : (xs ys : List ℕ) → capitals (xs ++ ys) ≡ capitals xs ++ capitals ys
caps_append xs ys = map-append to_ascii_uppercase xs ys

caps_same : (p c : List ℕ) → capitals (p ++ capitals c) ≡ capitals (p ++ c)
caps_same p c = caps_append p (capitals c) ∙ ap (λ (x : List ℕ). capitals p ++ x) (caps_caps c) ∙ sym (caps_append p c)

le_true : (a b : ℕ) → a ≤ b → nat_le a b ≡ true
le_true a b h = grind arith

capital_in_word : (b : ℕ) → nat_lt b 97 ≡ false → nat_lt b 123 ≡ true → is_in_word (b - 32) ≡ true
capital_in_word b e f =
    let low : 65 ≤ b - 32 = grind arith in
    let high : b - 32 ≤ 90 = grind arith in
    rw (le_true 65 (b - 32) low, le_true (b - 32) 90 high) refl

upper_in_word : (b : ℕ) → is_in_word b ≡ true → is_in_word (to_ascii_uppercase b) ≡ true
upper_in_word b e = by_case (nat_lt b 97) (nat_lt b 123) refl refl
  where
    by_case : (t u : Bool) → nat_lt b 97 ≡ t → nat_lt b 123 ≡ u → is_in_word (to_ascii_uppercase b) ≡ true
    by_case true u f g = let same : to_ascii_uppercase b ≡ b = rw f refl in subst (λ (x : ℕ). is_in_word x ≡ true) (sym same) e
    by_case false false f g = let same : to_ascii_uppercase b ≡ b = rw (f, g) refl in subst (λ (x : ℕ). is_in_word x ≡ true) (sym same) e
    by_case false true f g = let same : to_ascii_uppercase b ≡ b - 32 = rw (f, g) refl in subst (λ (x : ℕ). is_in_word x ≡ true) (sym same) (capital_in_word b f g)

-- capitals of a run are a run
pub caps_run : (c tail : List ℕ) → front_while is_in_word (capitals (front_while is_in_word c).0 ++ (10 ∷ tail)) ≡ (capitals (front_while is_in_word c).0, 10 ∷ tail)
caps_run [] tail = refl
caps_run (b ∷ c) tail = step (is_in_word b) refl (caps_run c tail)
  where
    step : (t : Bool) → is_in_word b ≡ t → front_while is_in_word (capitals (front_while is_in_word c).0 ++ (10 ∷ tail)) ≡ (capitals (front_while is_in_word c).0, 10 ∷ tail)
        → front_while is_in_word (capitals (front_while is_in_word (b ∷ c)).0 ++ (10 ∷ tail)) ≡ (capitals (front_while is_in_word (b ∷ c)).0, 10 ∷ tail)
    step true e h = subst (λ (w : List ℕ). front_while is_in_word (capitals w ++ (10 ∷ tail)) ≡ (capitals w, 10 ∷ tail)) (sym (ap (λ (x : List ℕ × List ℕ). x.0) (takes is_in_word b c e)))
        (takes is_in_word (to_ascii_uppercase b) (capitals (front_while is_in_word c).0 ++ (10 ∷ tail)) (upper_in_word b e) ∙ ap (λ (x : List ℕ × List ℕ). (to_ascii_uppercase b ∷ x.0, x.1)) h)
    step false e h = subst (λ (w : List ℕ). front_while is_in_word (capitals w ++ (10 ∷ tail)) ≡ (capitals w, 10 ∷ tail)) (sym (ap (λ (x : List ℕ × List ℕ). x.0) (leaves is_in_word b c e))) refl

-- ---- no key word has an underscore

abbrev no_underscore : List ℕ → Bool
no_underscore [] = true
no_underscore (b ∷ bs) = if b == 95 then false else no_underscore bs

abbrev all_plain : List Word → Bool
all_plain [] = true
all_plain (w ∷ ws) = if no_underscore (spelling w) then all_plain ws else false

underscore_last : (bs : List ℕ) → no_underscore (bs ++ (95 ∷ [])) ≡ false
underscore_last [] = refl
underscore_last (b ∷ bs) = step (b == 95) refl (underscore_last bs)
  where
    step : (t : Bool) → (b == 95) ≡ t → no_underscore (bs ++ (95 ∷ [])) ≡ false → no_underscore (b ∷ (bs ++ (95 ∷ []))) ≡ false
    step true e h = rw e refl
    step false e h = rw e h

same_bytes : (xs ys : List ℕ) → bytes_eq xs ys ≡ true → xs ≡ ys
same_bytes xs ys e = (bytes_eq-Decides xs ys).0 e

plain_one : (w : Word) (ws : List Word) (u : Bool) → no_underscore (spelling w) ≡ u → all_plain (w ∷ ws) ≡ true → (no_underscore (spelling w) ≡ true) × (all_plain ws ≡ true)
plain_one w ws true e a = (e, subst (λ (x : Bool). (if x then all_plain ws else false) ≡ true) e a)
plain_one w ws false e a = let f : false ≡ true = subst (λ (x : Bool). (if x then all_plain ws else false) ≡ true) e a in absurd (cc)

no_word : (w : Word) (bs : List ℕ) → no_underscore (spelling w) ≡ true → bytes_eq (bs ++ (95 ∷ [])) (spelling w) ≡ true → ⊥
no_word w bs plain e =
    let same : no_underscore (bs ++ (95 ∷ [])) ≡ no_underscore (spelling w) = ap (λ (x : List ℕ). no_underscore x) (same_bytes (bs ++ (95 ∷ [])) (spelling w) e) in
    let f : false ≡ true = sym (underscore_last bs) ∙ same ∙ plain in
    cc

not_among_step : (w : Word) (ws : List Word) (bs : List ℕ) (t : Bool) → bytes_eq (bs ++ (95 ∷ [])) (spelling w) ≡ t → no_underscore (spelling w) ≡ true → word_among ws (bs ++ (95 ∷ [])) ≡ None → word_among (w ∷ ws) (bs ++ (95 ∷ [])) ≡ None
not_among_step w ws bs true e plain h = absurd (no_word w bs plain e)
not_among_step w ws bs false e plain h = rw e h

not_among : (ws : List Word) (bs : List ℕ) → all_plain ws ≡ true → word_among ws (bs ++ (95 ∷ [])) ≡ None
not_among [] bs a = refl
not_among (w ∷ ws) bs a =
    let p = plain_one w ws (no_underscore (spelling w)) refl a in
    not_among_step w ws bs (bytes_eq (bs ++ (95 ∷ [])) (spelling w)) refl p.0 (not_among ws bs p.1)

-- ---- tokens of words

with_underscore : (p : List ℕ) → word_token (p ++ (95 ∷ [])) ≡ Bare None (p ++ (95 ∷ []))
unfolding word_token
with_underscore p =
    let caps : capitals (p ++ (95 ∷ [])) ≡ capitals p ++ (95 ∷ []) = caps_append p (95 ∷ []) in
    let key : word_among reserved (capitals (p ++ (95 ∷ []))) ≡ None = rw caps (not_among reserved (capitals p) refl) in
    let other : word_among others (capitals (p ++ (95 ∷ []))) ≡ None = rw caps (not_among others (capitals p) refl) in
    rw (key, other) refl

pub like_itself : (t : Token) → Like t t
like_itself (Key w) = cuts.key
like_itself (Bare m a) = cuts.bare
like_itself (Quoted a) = cuts.quoted
like_itself (token.Number d) = cuts.number
like_itself (token.Text a) = cuts.text
like_itself (token.Compare h) = cuts.compare
like_itself token.Open = cuts.opens
like_itself token.Close = cuts.closes
like_itself token.Comma = cuts.comma
like_itself token.Star = cuts.star
like_itself token.Plus = cuts.plus
like_itself token.Minus = cuts.minus

-- the bytes that go on as the word is spelled, or as no key word is
pub data WordEnd (p c : List ℕ) : Type 0 where
  as_it_is : c ≡ [] → WordEnd p c
  spelled_on : (w : Word) → capitals p ++ capitals c ≡ spelling w → Like (word_token (p ++ c)) (word_token (p ++ capitals c)) → WordEnd p c
  underscored : 1 ≤ length c → Like (word_token (p ++ c)) (word_token (p ++ (95 ∷ []))) → WordEnd p c

among : (ws : List Word) (bs : List ℕ) (w : Word) → word_among ws bs ≡ Some w → bs ≡ spelling w
among [] bs w e = absurd (cc)
among (v ∷ ws) bs w e = step (bytes_eq bs (spelling v)) refl (λ f. among ws bs w f)
  where
    or_else : Option Word → Word
    or_else None = v
    or_else (Some x) = x

    step : (t : Bool) → bytes_eq bs (spelling v) ≡ t → (word_among ws bs ≡ Some w → bs ≡ spelling w) → bs ≡ spelling w
    step true f h =
        let found : Some v ≡ Some w = subst (λ (t : Bool). (if t then Some v else word_among ws bs) ≡ Some w) f e in
        let same : v ≡ w = ap (λ (o : Option Word). or_else o) found in
        same_bytes bs (spelling v) f ∙ ap (λ (x : Word). spelling x) same
    step false f h = h (subst (λ (t : Bool). (if t then Some v else word_among ws bs) ≡ Some w) f e)

spelled_as : (p c : List ℕ) (w : Word) → capitals (p ++ c) ≡ spelling w → capitals p ++ capitals c ≡ spelling w
spelled_as p c w e = sym (caps_append p c) ∙ e

as_key : (p c : List ℕ) (w : Word) → word_among reserved (capitals (p ++ c)) ≡ Some w → Like (word_token (p ++ c)) (word_token (p ++ capitals c))
unfolding word_token
as_key p c w e = rw (caps_same p c, e) cuts.key

bare_token : (bs : List ℕ) → word_among reserved (capitals bs) ≡ None → word_token bs ≡ Bare (word_among others (capitals bs)) bs
unfolding word_token
bare_token bs e = rw e refl

as_other : (p c : List ℕ) → word_among reserved (capitals (p ++ c)) ≡ None → Like (word_token (p ++ c)) (word_token (p ++ capitals c))
as_other p c e =
    let first = bare_token (p ++ c) e in
    let second = bare_token (p ++ capitals c) (ap (λ (x : List ℕ). word_among reserved x) (caps_same p c) ∙ e) in
    let other : Bare (word_among others (capitals (p ++ capitals c))) (p ++ capitals c) ≡ Bare (word_among others (capitals (p ++ c))) (p ++ capitals c) = ap (λ (x : List ℕ). Bare (word_among others x) (p ++ capitals c)) (caps_same p c) in
    subst (λ (t : Token). Like t (word_token (p ++ capitals c))) (sym first) (subst (λ (t : Token). Like (Bare (word_among others (capitals (p ++ c))) (p ++ c)) t) (sym (second ∙ other)) cuts.bare)

as_name : (p c : List ℕ) → word_among reserved (capitals (p ++ c)) ≡ None → word_among others (capitals (p ++ c)) ≡ None → Like (word_token (p ++ c)) (word_token (p ++ (95 ∷ [])))
unfolding word_token
as_name p c e f = rw (with_underscore p, e, f) cuts.bare

other_end : (p : List ℕ) (b : ℕ) (c : List ℕ) (n : Option Word) → word_among reserved (capitals (p ++ (b ∷ c))) ≡ None → word_among others (capitals (p ++ (b ∷ c))) ≡ n → WordEnd p (b ∷ c)
other_end p b c None e f = underscored (omega arith) (as_name p (b ∷ c) e f)
other_end p b c (Some w) e f = spelled_on w (spelled_as p (b ∷ c) w (among others (capitals (p ++ (b ∷ c))) w f)) (as_other p (b ∷ c) e)

key_end : (p : List ℕ) (b : ℕ) (c : List ℕ) (m : Option Word) → word_among reserved (capitals (p ++ (b ∷ c))) ≡ m → WordEnd p (b ∷ c)
key_end p b c None e = other_end p b c (word_among others (capitals (p ++ (b ∷ c)))) e refl
key_end p b c (Some w) e = spelled_on w (spelled_as p (b ∷ c) w (among reserved (capitals (p ++ (b ∷ c))) w e)) (as_key p (b ∷ c) w e)

pub word_end : (p c : List ℕ) → WordEnd p c
word_end p [] = as_it_is refl
word_end p (b ∷ c) = key_end p b c (word_among reserved (capitals (p ++ (b ∷ c)))) refl
