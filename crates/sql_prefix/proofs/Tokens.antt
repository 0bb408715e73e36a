-- Bytes that are cut off amid a statement can be finished so that they spell a front of its tokens.
use Rattle.std.proofs.Common.{◌≡◌, ℕ, ◌≤◌, List, [], ◌∷◌, ◌++◌, length, Option, Some, None, Bool, true, false, ◌&&◌, refl, ◌∙◌, ap, sym, subst, arith, length-append, append_assoc}
use Rattle.std.specs.Prelude.{◌==◌}
use Rattle.std.proofs.lemmas.Bool.{eqb-true}
use Rattle.std.proofs.lemmas.List.{length-map}
use Rattle.std.specs.Char.{to_ascii_uppercase}
use Rattle.inno_types.specs.declared.stmt.Comparison.TheVariants.{Equal, NotEqual, Less, LessOrEqual, Greater, GreaterOrEqual}
use Rattle.sql_grammar.specs.declared.token.Word.{Word}
use Rattle.sql_grammar.specs.declared.token.Token.{Token}
use Rattle.sql_grammar.specs.declared.token.Token.TheVariants.{Quoted, Number, Text, Compare, Open, Close, Comma, Star, Plus, Minus}
use Rattle.sql_grammar.specs.Words.{spelling, capitals}
use Rattle.sql_grammar.specs.Tokens.{is_space, is_digit, starts_word, is_in_word, begins, opens_line, after_line, after_comment, after_blank, with_front, quoted, doubled, text_in, closes, escapes, front_while, fits_name, word_token, as_token, as_token_if, sign_at, token_at, AreTokens}
use Rattle.sql_grammar.specs.Tokens as spelled
use Rattle.sql_prefix.proofs.Cuts.{Like, Under, cut, keep}
use Rattle.sql_prefix.proofs.Cuts as cuts
use Rattle.sql_prefix.proofs.Spelled.{LineCut, CommentCut, Run, QuoteCut, TextCut, line_cut, comment_cut, run, quote_cut, text_cut, takes, leaves}
use Rattle.sql_prefix.proofs.Spelled as run_of
use Rattle.sql_prefix.proofs.Words.{WordEnd, word_end, as_it_is, spelled_on, underscored, caps_run, like_itself}

-- ---- what finishes a token or a blank

pub data Fixed : List ℕ → Type 0 where
  nothing : Fixed []
  underscore : Fixed (95 ∷ [])
  equal : Fixed (61 ∷ [])
  minus : Fixed (45 ∷ [])
  end_of_comment : Fixed (42 ∷ 47 ∷ [])
  comment : Fixed (42 ∷ 42 ∷ 47 ∷ [])
  backquote : Fixed (96 ∷ [])
  name : Fixed (120 ∷ 96 ∷ [])
  backquotes : Fixed (96 ∷ 96 ∷ [])
  quote : Fixed (39 ∷ [])
  text : Fixed (120 ∷ 39 ∷ [])
  double_quote : Fixed (34 ∷ [])
  double_text : Fixed (120 ∷ 34 ∷ [])

-- the bytes that may finish what the bytes p end with
pub data LexEnd (p : List ℕ) : List ℕ → Type 0 where
  fixed : {e : List ℕ} → Fixed e → LexEnd p e
  rest_of_word : (w : Word) (front head tail : List ℕ) → 1 ≤ length head → p ≡ front ++ head → capitals head ++ tail ≡ spelling w → LexEnd p tail

further : {p e : List ℕ} (q : List ℕ) → LexEnd p e → LexEnd (q ++ p) e
further q (fixed f) = fixed f
further q (rest_of_word w front head tail le e f) = rest_of_word w (q ++ front) head tail le (ap (λ (x : List ℕ). q ++ x) e ∙ sym (append_assoc q front head)) f

or_else : {A : Type 0} → A → Option A → A
or_else x None = x
or_else x (Some y) = y

some_same : {A : Type 0} (x y : A) → Some x ≡ Some y → x ≡ y
unfolding or_else
some_same x y e = ap (λ o. or_else x o) e

nothing_is_something : {A B : Type 0} (x : A) → None ≡ Some x → B
nothing_is_something x e = absurd (cc)

-- ---- blanks

data BlankCut (p c rest : List ℕ) : Type 0 where
  within : (q r : List ℕ) → p ≡ q ++ r → rest ≡ r ++ c → ((x : List ℕ) → after_blank (p ++ x) ≡ Some (r ++ x)) → BlankCut p c rest
  open_blank : (e : List ℕ) → Fixed e → ((tail : List ℕ) (more : List Token) → AreTokens tail more → AreTokens (p ++ (e ++ (10 ∷ tail))) more) → BlankCut p c rest

blank_within : (p c rest q r : List ℕ) → after_blank (p ++ c) ≡ Some rest → p ≡ q ++ r → ((x : List ℕ) → after_blank (p ++ x) ≡ Some (r ++ x)) → BlankCut p c rest
blank_within p c rest q r f e g = within q r e (some_same rest (r ++ c) (sym f ∙ g c)) g

line_end : (tail : List ℕ) (more : List Token) → AreTokens tail more → AreTokens (10 ∷ tail) more
unfolding after_blank
line_end tail more a = spelled.blank refl a

hash_cut : (p c rest : List ℕ) → LineCut p → after_blank (35 ∷ (p ++ c)) ≡ Some rest → BlankCut (35 ∷ p) c rest
unfolding after_blank
hash_cut p c rest (run_of.ended q r e g) f = blank_within (35 ∷ p) c rest (35 ∷ q) r f (ap (λ (x : List ℕ). 35 ∷ x) e) (λ x. ap (λ (y : List ℕ). Some y) (g x))
hash_cut p c rest (run_of.open_line g) f = open_blank [] nothing (λ tail more a. spelled.blank (ap (λ (y : List ℕ). Some y) (g tail)) a)

two_dashes : (tail : List ℕ) → after_blank (45 ∷ 45 ∷ 10 ∷ tail) ≡ Some tail
unfolding after_blank after_line
two_dashes tail = refl

dashes_cut : (x y : ℕ) (p c rest : List ℕ) → x == 45 && is_space y ≡ true → LineCut (x ∷ y ∷ p) → after_blank (45 ∷ x ∷ y ∷ (p ++ c)) ≡ Some rest → BlankCut (45 ∷ x ∷ y ∷ p) c rest
unfolding after_blank
dashes_cut x y p c rest t (run_of.ended q r e g) f = blank_within (45 ∷ x ∷ y ∷ p) c rest (45 ∷ q) r f (ap (λ (x : List ℕ). 45 ∷ x) e) (λ z. rw t (ap (λ (y : List ℕ). Some y) (g z)))
dashes_cut x y p c rest t (run_of.open_line g) f = open_blank [] nothing (λ tail more a. spelled.blank (rw t (ap (λ (y : List ℕ). Some y) (g tail))) a)

no_line : (x : ℕ) (c : List ℕ) → (x == 45) ≡ false → after_blank (45 ∷ x ∷ c) ≡ None
unfolding after_blank
no_line x [] e = rw e refl
no_line x (y ∷ c) e = rw e refl

no_line_of : (x y : ℕ) (c : List ℕ) → x == 45 && is_space y ≡ false → after_blank (45 ∷ x ∷ y ∷ c) ≡ None
unfolding after_blank
no_line_of x y c e = rw e refl

dash_alone : (x : ℕ) (c rest : List ℕ) (t : Bool) → (x == 45) ≡ t → after_blank (45 ∷ x ∷ c) ≡ Some rest → BlankCut (45 ∷ x ∷ []) c rest
dash_alone x c rest true t f =
    subst (λ (z : ℕ). BlankCut (45 ∷ z ∷ []) c rest) (sym (eqb-true x 45 t)) (open_blank [] nothing (λ tail more a. spelled.blank (two_dashes tail) a))
dash_alone x c rest false t f = nothing_is_something rest (sym (no_line x c t) ∙ f)

dash_pair : (x y : ℕ) (p c rest : List ℕ) (t : Bool) → x == 45 && is_space y ≡ t → after_blank (45 ∷ x ∷ y ∷ (p ++ c)) ≡ Some rest → BlankCut (45 ∷ x ∷ y ∷ p) c rest
dash_pair x y p c rest true t f = dashes_cut x y p c rest t (line_cut (x ∷ y ∷ p)) f
dash_pair x y p c rest false t f = nothing_is_something rest (sym (no_line_of x y (p ++ c) t) ∙ f)

dash_cut : (p c rest : List ℕ) → after_blank (45 ∷ (p ++ c)) ≡ Some rest → BlankCut (45 ∷ p) c rest
dash_cut [] c rest f = open_blank (45 ∷ []) minus (λ tail more a. spelled.blank (two_dashes tail) a)
dash_cut (x ∷ []) c rest f = dash_alone x c rest (x == 45) refl f
dash_cut (x ∷ y ∷ p) c rest f = dash_pair x y p c rest (x == 45 && is_space y) refl f

whole_comment : (tail : List ℕ) → after_blank (47 ∷ 42 ∷ 42 ∷ 47 ∷ 10 ∷ tail) ≡ Some (10 ∷ tail)
unfolding after_blank after_comment
whole_comment tail = refl

in_comment : (bs : List ℕ) → after_blank (47 ∷ 42 ∷ bs) ≡ after_comment bs
unfolding after_blank
in_comment bs = refl

no_comment : (x : ℕ) (bs : List ℕ) → (x == 42) ≡ false → after_blank (47 ∷ x ∷ bs) ≡ None
unfolding after_blank
no_comment x bs e = rw e refl

star_cut : (p c rest : List ℕ) → CommentCut p → after_blank (47 ∷ 42 ∷ (p ++ c)) ≡ Some rest → BlankCut (47 ∷ 42 ∷ p) c rest
star_cut p c rest (run_of.ended q r e g) f = blank_within (47 ∷ 42 ∷ p) c rest (47 ∷ 42 ∷ q) r f (ap (λ (x : List ℕ). 47 ∷ 42 ∷ x) e) (λ x. in_comment (p ++ x) ∙ g x)
star_cut p c rest (run_of.open_comment g) f = open_blank (42 ∷ 47 ∷ []) end_of_comment (λ tail more a. spelled.blank (in_comment (p ++ (42 ∷ 47 ∷ 10 ∷ tail)) ∙ g (10 ∷ tail)) (line_end tail more a))

slash_pair : (x : ℕ) (p c rest : List ℕ) (t : Bool) → (x == 42) ≡ t → after_blank (47 ∷ x ∷ (p ++ c)) ≡ Some rest → BlankCut (47 ∷ x ∷ p) c rest
slash_pair x p c rest true t f =
    let e = eqb-true x 42 t in
    subst (λ (z : ℕ). BlankCut (47 ∷ z ∷ p) c rest) (sym e) (star_cut p c rest (comment_cut p) (subst (λ (z : ℕ). after_blank (47 ∷ z ∷ (p ++ c)) ≡ Some rest) e f))
slash_pair x p c rest false t f = nothing_is_something rest (sym (no_comment x (p ++ c) t) ∙ f)

slash_cut : (p c rest : List ℕ) → after_blank (47 ∷ (p ++ c)) ≡ Some rest → BlankCut (47 ∷ p) c rest
slash_cut [] c rest f = open_blank (42 ∷ 42 ∷ 47 ∷ []) comment (λ tail more a. spelled.blank (whole_comment tail) (line_end tail more a))
slash_cut (x ∷ p) c rest f = slash_pair x p c rest (x == 42) refl f

space_blank : (b : ℕ) (bs : List ℕ) → is_space b ≡ true → after_blank (b ∷ bs) ≡ Some bs
unfolding after_blank
space_blank b bs e = rw e refl

-- neither a space nor `#`, `-` or `/`
no_blank : (b : ℕ) (bs : List ℕ) → is_space b ≡ false → (b == 35) ≡ false → (b == 45) ≡ false → (b == 47) ≡ false → after_blank (b ∷ bs) ≡ None
unfolding after_blank
no_blank b bs s h d l = rw (s, h, d, l) refl

blank_by : (b : ℕ) (p c rest : List ℕ) (s h d l : Bool) → is_space b ≡ s → (b == 35) ≡ h → (b == 45) ≡ d → (b == 47) ≡ l → after_blank (b ∷ (p ++ c)) ≡ Some rest → BlankCut (b ∷ p) c rest
blank_by b p c rest true h d l es eh ed el f = blank_within (b ∷ p) c rest (b ∷ []) p f refl (λ x. space_blank b (p ++ x) es)
blank_by b p c rest false true d l es eh ed el f =
    let e = eqb-true b 35 eh in
    subst (λ (z : ℕ). BlankCut (z ∷ p) c rest) (sym e) (hash_cut p c rest (line_cut p) (subst (λ (z : ℕ). after_blank (z ∷ (p ++ c)) ≡ Some rest) e f))
blank_by b p c rest false false true l es eh ed el f =
    let e = eqb-true b 45 ed in
    subst (λ (z : ℕ). BlankCut (z ∷ p) c rest) (sym e) (dash_cut p c rest (subst (λ (z : ℕ). after_blank (z ∷ (p ++ c)) ≡ Some rest) e f))
blank_by b p c rest false false false true es eh ed el f =
    let e = eqb-true b 47 el in
    subst (λ (z : ℕ). BlankCut (z ∷ p) c rest) (sym e) (slash_cut p c rest (subst (λ (z : ℕ). after_blank (z ∷ (p ++ c)) ≡ Some rest) e f))
blank_by b p c rest false false false false es eh ed el f = nothing_is_something rest (sym (no_blank b (p ++ c) es eh ed el) ∙ f)

blank_cut : (b : ℕ) (p c rest : List ℕ) → after_blank (b ∷ (p ++ c)) ≡ Some rest → BlankCut (b ∷ p) c rest
blank_cut b p c rest f = blank_by b p c rest (is_space b) (b == 35) (b == 45) (b == 47) refl refl refl refl f

-- ---- tokens

data TokenCut (p c : List ℕ) (t : Token) (rest : List ℕ) : Type 0 where
  passed : (q r : List ℕ) → p ≡ q ++ r → rest ≡ r ++ c → ((x : List ℕ) → after_blank (p ++ x) ≡ None) → ((x : List ℕ) → token_at (p ++ x) ≡ Some (t, r ++ x)) → TokenCut p c t rest
  ends : (e : List ℕ) → LexEnd p e → (u : Token) → Like t u → ((tail : List ℕ) → after_blank (p ++ (e ++ (10 ∷ tail))) ≡ None) → ((tail : List ℕ) → token_at (p ++ (e ++ (10 ∷ tail))) ≡ Some (u, 10 ∷ tail)) → TokenCut p c t rest
  comments : (e : List ℕ) → Fixed e → ((tail : List ℕ) (more : List Token) → AreTokens tail more → AreTokens (p ++ (e ++ (10 ∷ tail))) more) → TokenCut p c t rest

token_same : {t u : Token} {r s : List ℕ} → ◌≡◌ {A = Option (Token × List ℕ)} (Some (t, r)) (Some (u, s)) → (t ≡ u) × (r ≡ s)
token_same {t = t} {u = u} {r = r} {s = s} e = let both = some_same (t, r) (u, s) e in (ap (λ (x : Token × List ℕ). x.0) both, ap (λ (x : Token × List ℕ). x.1) both)

passed_by : (p c : List ℕ) (t : Token) (rest q r : List ℕ) (v : Token) → token_at (p ++ c) ≡ Some (t, rest) → p ≡ q ++ r → ((x : List ℕ) → after_blank (p ++ x) ≡ None) → ((x : List ℕ) → token_at (p ++ x) ≡ Some (v, r ++ x)) → TokenCut p c t rest
passed_by p c t rest q r v f e n g =
    let same = token_same (sym (g c) ∙ f) in
    subst (λ (z : Token). TokenCut p c z rest) same.0 (passed q r e (sym same.1) n g)

ends_by : (p c : List ℕ) (t : Token) (rest e : List ℕ) (v : Token) (other : List ℕ) (u : Token) → token_at (p ++ c) ≡ Some (t, rest) → token_at (p ++ c) ≡ Some (v, other) → LexEnd p e → Like v u
    → ((tail : List ℕ) → after_blank (p ++ (e ++ (10 ∷ tail))) ≡ None) → ((tail : List ℕ) → token_at (p ++ (e ++ (10 ∷ tail))) ≡ Some (u, 10 ∷ tail)) → TokenCut p c t rest
ends_by p c t rest e v other u f g l k n h =
    let same = token_same (sym g ∙ f) in
    ends e l u (subst (λ (z : Token). Like z u) same.0 k) n h

-- ---- words

word_token_at : (b : ℕ) (bs : List ℕ) → starts_word b ≡ true → token_at (b ∷ bs) ≡ as_token fits_name word_token (front_while is_in_word (b ∷ bs))
unfolding token_at
word_token_at b bs e = rw e refl

as_word : (w rest : List ℕ) → fits_name w ≡ true → as_token fits_name word_token (w, rest) ≡ Some (word_token w, rest)
as_word w rest e = rw e refl

no_fit : (w rest : List ℕ) → fits_name w ≡ false → as_token fits_name word_token (w, rest) ≡ None
no_fit w rest e = rw e refl

fits_shorter : (b : ℕ) (p x y : List ℕ) → fits_name (b ∷ (p ++ x)) ≡ true → length y ≤ length x → fits_name (b ∷ (p ++ y)) ≡ true
fits_shorter b p x y e l = grind (arith, length-append)

word_at : (b : ℕ) (p x w d : List ℕ) → starts_word b ≡ true → front_while is_in_word (b ∷ (p ++ x)) ≡ (w, d) → token_at (b ∷ (p ++ x)) ≡ as_token fits_name word_token (w, d)
word_at b p x w d e h = word_token_at b (p ++ x) e ∙ ap (λ (z : List ℕ × List ℕ). as_token fits_name word_token z) h

-- a word that goes on to the end of the bytes
word_ends : (b : ℕ) (p c : List ℕ) (t : Token) (rest w d e : List ℕ) → starts_word b ≡ true → ((x : List ℕ) → after_blank (b ∷ x) ≡ None)
    → ((x : List ℕ) → front_while is_in_word (b ∷ (p ++ x)) ≡ (b ∷ (p ++ (front_while is_in_word x).0), (front_while is_in_word x).1))
    → token_at (b ∷ (p ++ c)) ≡ Some (t, rest) → token_at (b ∷ (p ++ c)) ≡ Some (word_token (b ∷ (p ++ w)), d)
    → LexEnd (b ∷ p) e → ((tail : List ℕ) → front_while is_in_word (e ++ (10 ∷ tail)) ≡ (e, 10 ∷ tail)) → fits_name (b ∷ (p ++ e)) ≡ true → Like (word_token (b ∷ (p ++ w))) (word_token (b ∷ (p ++ e))) → TokenCut (b ∷ p) c t rest
word_ends b p c t rest w d e s n h f g l runs fits k =
    ends_by (b ∷ p) c t rest e (word_token (b ∷ (p ++ w))) d (word_token (b ∷ (p ++ e))) f g l k (λ tail. n (p ++ (e ++ (10 ∷ tail))))
    (λ tail. word_at b p (e ++ (10 ∷ tail)) (b ∷ (p ++ e)) (10 ∷ tail) s (h (e ++ (10 ∷ tail)) ∙ ap (λ (z : List ℕ × List ℕ). (b ∷ (p ++ z.0), z.1)) (runs tail)) ∙ as_word (b ∷ (p ++ e)) (10 ∷ tail) fits)

length_caps : (bs : List ℕ) → length (capitals bs) ≡ length bs
length_caps bs = length-map bs to_ascii_uppercase

word_goes : (b : ℕ) (p c : List ℕ) (t : Token) (rest : List ℕ) → starts_word b ≡ true → ((x : List ℕ) → after_blank (b ∷ x) ≡ None)
    → ((x : List ℕ) → front_while is_in_word (b ∷ (p ++ x)) ≡ (b ∷ (p ++ (front_while is_in_word x).0), (front_while is_in_word x).1))
    → token_at (b ∷ (p ++ c)) ≡ Some (t, rest) → fits_name (b ∷ (p ++ (front_while is_in_word c).0)) ≡ true → WordEnd (b ∷ p) (front_while is_in_word c).0 → TokenCut (b ∷ p) c t rest
word_goes b p c t rest s n h f fits (as_it_is e) =
    let w = (front_while is_in_word c).0 in
    let d = (front_while is_in_word c).1 in
    let g = word_at b p c (b ∷ (p ++ w)) d s (h c) ∙ as_word (b ∷ (p ++ w)) d fits in
    word_ends b p c t rest w d [] s n h f g (fixed nothing) (λ tail. refl) (fits_shorter b p w [] fits (omega arith))
    (subst (λ (z : List ℕ). Like (word_token (b ∷ (p ++ z))) (word_token (b ∷ (p ++ [])))) (sym e) (like_itself (word_token (b ∷ (p ++ [])))))
word_goes b p c t rest s n h f fits (spelled_on v e k) =
    let w = (front_while is_in_word c).0 in
    let d = (front_while is_in_word c).1 in
    let g = word_at b p c (b ∷ (p ++ w)) d s (h c) ∙ as_word (b ∷ (p ++ w)) d fits in
    word_ends b p c t rest w d (capitals w) s n h f g (rest_of_word v [] (b ∷ p) (capitals w) (omega arith) refl e) (caps_run c) (fits_shorter b p w (capitals w) fits (omega (arith, length_caps w))) k
word_goes b p c t rest s n h f fits (underscored l k) =
    let w = (front_while is_in_word c).0 in
    let d = (front_while is_in_word c).1 in
    let g = word_at b p c (b ∷ (p ++ w)) d s (h c) ∙ as_word (b ∷ (p ++ w)) d fits in
    word_ends b p c t rest w d (95 ∷ []) s n h f g (fixed underscore) (λ tail. refl) (fits_shorter b p w (95 ∷ []) fits (omega (arith, l))) k

word_fit : (b : ℕ) (p c : List ℕ) (t : Token) (rest w d : List ℕ) (u : Bool) → fits_name w ≡ u → token_at (b ∷ (p ++ c)) ≡ as_token fits_name word_token (w, d) → token_at (b ∷ (p ++ c)) ≡ Some (t, rest) → fits_name w ≡ true
word_fit b p c t rest w d true e g f = e
word_fit b p c t rest w d false e g f = nothing_is_something (t, rest) (sym (g ∙ no_fit w d e) ∙ f)

word_cut : (b : ℕ) (p c : List ℕ) (t : Token) (rest : List ℕ) → starts_word b ≡ true → ((x : List ℕ) → after_blank (b ∷ x) ≡ None) → token_at (b ∷ (p ++ c)) ≡ Some (t, rest) → Run is_in_word (b ∷ p) → TokenCut (b ∷ p) c t rest
word_cut b p c t rest s n f (run_of.stops q r e h) =
    let fits = word_fit b p c t rest q (r ++ c) (fits_name q) refl (word_at b p c q (r ++ c) s (h c)) f in
    passed_by (b ∷ p) c t rest q r (word_token q) f e (λ x. n (p ++ x)) (λ x. word_at b p x q (r ++ x) s (h x) ∙ as_word q (r ++ x) fits)
word_cut b p c t rest s n f (run_of.goes h) =
    let w = (front_while is_in_word c).0 in
    let d = (front_while is_in_word c).1 in
    let fits = word_fit b p c t rest (b ∷ (p ++ w)) d (fits_name (b ∷ (p ++ w))) refl (word_at b p c (b ∷ (p ++ w)) d s (h c)) f in
    word_goes b p c t rest s n h f fits (word_end (b ∷ p) w)

-- ---- numbers

number_token_at : (b : ℕ) (bs : List ℕ) → starts_word b ≡ false → is_digit b ≡ true → token_at (b ∷ bs) ≡ as_token (λ _. true) Number (front_while is_digit (b ∷ bs))
unfolding token_at
number_token_at b bs e f = rw (e, f) refl

number_at : (b : ℕ) (bs w d : List ℕ) → starts_word b ≡ false → is_digit b ≡ true → front_while is_digit (b ∷ bs) ≡ (w, d) → token_at (b ∷ bs) ≡ Some (Number w, d)
number_at b bs w d e f h = number_token_at b bs e f ∙ ap (λ (z : List ℕ × List ℕ). as_token (λ _. true) Number z) h

longer : (b : ℕ) (p w : List ℕ) → Like (Number (b ∷ (p ++ w))) (Number (b ∷ (p ++ [])))
longer b [] [] = cuts.number
longer b [] (x ∷ w) = cuts.long_number
longer b (x ∷ p) w = cuts.long_number

number_cut : (b : ℕ) (p c : List ℕ) (t : Token) (rest : List ℕ) → starts_word b ≡ false → is_digit b ≡ true → ((x : List ℕ) → after_blank (b ∷ x) ≡ None) → token_at (b ∷ (p ++ c)) ≡ Some (t, rest) → Run is_digit (b ∷ p) → TokenCut (b ∷ p) c t rest
number_cut b p c t rest s g n f (run_of.stops q r e h) = passed_by (b ∷ p) c t rest q r (Number q) f e (λ x. n (p ++ x)) (λ x. number_at b (p ++ x) q (r ++ x) s g (h x))
number_cut b p c t rest s g n f (run_of.goes h) =
    ends_by (b ∷ p) c t rest [] (Number (b ∷ (p ++ (front_while is_digit c).0))) (front_while is_digit c).1 (Number (b ∷ (p ++ []))) f (number_at b (p ++ c) (b ∷ (p ++ (front_while is_digit c).0)) (front_while is_digit c).1 s g (h c))
    (fixed nothing) (longer b p (front_while is_digit c).0) (λ tail. n (p ++ (10 ∷ tail))) (λ tail. number_at b (p ++ (10 ∷ tail)) (b ∷ (p ++ [])) (10 ∷ tail) s g (h (10 ∷ tail)))

-- ---- quoted names

name_token_at : (bs : List ℕ) → token_at (96 ∷ bs) ≡ as_token_if fits_name Quoted (quoted 96 bs)
unfolding token_at
name_token_at bs = refl

no_name : (n r : List ℕ) → fits_name n ≡ false → as_token_if fits_name Quoted (Some (n, r)) ≡ None
no_name n r e = rw e refl

is_name : (n r : List ℕ) → fits_name n ≡ true → as_token_if fits_name Quoted (Some (n, r)) ≡ Some (Quoted n, r)
is_name n r e = rw e refl

-- what was read as a quoted name
record IsQuoted (read : Option (List ℕ × List ℕ)) (t : Token) : Type 0 where
  name : List ℕ
  rest : List ℕ
  was : read ≡ Some (name, rest)
  fits : fits_name name ≡ true
  token : t ≡ Quoted name

quoted_if : (n r : List ℕ) (t : Token) (rest : List ℕ) (u : Bool) → fits_name n ≡ u → as_token_if fits_name Quoted (Some (n, r)) ≡ Some (t, rest) → IsQuoted (Some (n, r)) t
quoted_if n r t rest true e f = record { name = n; rest = r; was = refl; fits = e; token = (token_same (sym f ∙ is_name n r e)).0 }
quoted_if n r t rest false e f = nothing_is_something (t, rest) (sym (no_name n r e) ∙ f)

quoted_is : (read : Option (List ℕ × List ℕ)) (t : Token) (rest : List ℕ) → as_token_if fits_name Quoted read ≡ Some (t, rest) → IsQuoted read t
quoted_is None t rest f = nothing_is_something (t, rest) f
quoted_is (Some x) t rest f = quoted_if x.0 x.1 t rest (fits_name x.0) refl f

-- a name with more in front
record Fronted (front name : List ℕ) : Type 0 where
  more : List ℕ
  whole : name ≡ front ++ more

fronted : (front : List ℕ) (read : Option (List ℕ × List ℕ)) (n r : List ℕ) → with_front front read ≡ Some (n, r) → Fronted front n
fronted front None n r e = nothing_is_something (n, r) e
fronted front (Some x) n r e = record { more = x.0; whole = sym (ap (λ (z : List ℕ × List ℕ). z.0) (some_same (front ++ x.0, x.1) (n, r) e)) }

-- a name that has a byte fits without what follows it
fits_alone : (b : ℕ) (p : List ℕ) (read : Option (List ℕ × List ℕ)) (t : Token) → IsQuoted (with_front (b ∷ p) read) t → fits_name (b ∷ (p ++ [])) ≡ true
fits_alone b p read t i =
    let more = fronted (b ∷ p) read i.name i.rest i.was in
    fits_shorter b p more.more [] (subst (λ (z : List ℕ). fits_name z ≡ true) more.whole i.fits) (omega arith)

-- read to the end of the bytes, it is finished so
name_ends : (p c : List ℕ) (t : Token) (rest e n : List ℕ) → ((x : List ℕ) → after_blank (96 ∷ x) ≡ None) → Fixed e → token_at (96 ∷ (p ++ c)) ≡ Some (t, rest) → ((tail : List ℕ) → quoted 96 (p ++ (e ++ (10 ∷ tail))) ≡ Some (n, 10 ∷ tail)) → fits_name n ≡ true → TokenCut (96 ∷ p) c t rest
name_ends p c t rest e n quiet l f h fits =
    let i = quoted_is (quoted 96 (p ++ c)) t rest (sym (name_token_at (p ++ c)) ∙ f) in
    ends e (fixed l) (Quoted n) (subst (λ (z : Token). Like z (Quoted n)) (sym i.token) cuts.quoted) (λ tail. quiet (p ++ (e ++ (10 ∷ tail))))
    (λ tail. name_token_at (p ++ (e ++ (10 ∷ tail))) ∙ ap (λ (z : Option (List ℕ × List ℕ)). as_token_if fits_name Quoted z) (h tail) ∙ is_name n (10 ∷ tail) fits)

one_backquote : (tail : List ℕ) → doubled 96 (96 ∷ 96 ∷ 10 ∷ tail) ≡ Some (96 ∷ [], 10 ∷ tail)
unfolding quoted
one_backquote tail = refl

closed_there : (tail : List ℕ) → doubled 96 (10 ∷ tail) ≡ Some ([], 10 ∷ tail)
unfolding quoted
closed_there tail = refl

closed_next : (tail : List ℕ) → quoted 96 (96 ∷ 10 ∷ tail) ≡ Some ([], 10 ∷ tail)
unfolding quoted
closed_next tail = refl

closed_x : (tail : List ℕ) → quoted 96 (120 ∷ 96 ∷ 10 ∷ tail) ≡ Some (120 ∷ [], 10 ∷ tail)
unfolding quoted
closed_x tail = refl

name_cut : (p c : List ℕ) (t : Token) (rest : List ℕ) → ((x : List ℕ) → after_blank (96 ∷ x) ≡ None) → token_at (96 ∷ (p ++ c)) ≡ Some (t, rest) → QuoteCut 96 (quoted 96) p → TokenCut (96 ∷ p) c t rest
name_cut p c t rest quiet f (run_of.ended n front r e h) =
    let i = quoted_if n (r ++ c) t rest (fits_name n) refl (sym (name_token_at (p ++ c) ∙ ap (λ (z : Option (List ℕ × List ℕ)). as_token_if fits_name Quoted z) (h c)) ∙ f) in
    let same = some_same (n, r ++ c) (i.name, i.rest) i.was in
    let fits : fits_name n ≡ true = subst (λ (z : List ℕ). fits_name z ≡ true) (sym (ap (λ (z : List ℕ × List ℕ). z.0) same)) i.fits in
    passed_by (96 ∷ p) c t rest (96 ∷ front) r (Quoted n) f (ap (λ (x : List ℕ). 96 ∷ x) e) (λ x. quiet (p ++ x))
    (λ x. name_token_at (p ++ x) ∙ ap (λ (z : Option (List ℕ × List ℕ)). as_token_if fits_name Quoted z) (h x) ∙ is_name n (r ++ x) fits)
name_cut p c t rest quiet f (run_of.at_quote [] h) =
    name_ends p c t rest (96 ∷ 96 ∷ []) (96 ∷ []) quiet backquotes f (λ tail. h (96 ∷ 96 ∷ 10 ∷ tail) ∙ ap (λ (z : Option (List ℕ × List ℕ)). with_front [] z) (one_backquote tail)) refl
name_cut p c t rest quiet f (run_of.at_quote (b ∷ n) h) =
    let i = quoted_is (with_front (b ∷ n) (doubled 96 c)) t rest (sym (name_token_at (p ++ c) ∙ ap (λ (z : Option (List ℕ × List ℕ)). as_token_if fits_name Quoted z) (h c)) ∙ f) in
    name_ends p c t rest [] (b ∷ (n ++ [])) quiet nothing f (λ tail. h (10 ∷ tail) ∙ ap (λ (z : Option (List ℕ × List ℕ)). with_front (b ∷ n) z) (closed_there tail)) (fits_alone b n (doubled 96 c) t i)
name_cut p c t rest quiet f (run_of.unclosed [] h) =
    name_ends p c t rest (120 ∷ 96 ∷ []) (120 ∷ []) quiet name f (λ tail. h (120 ∷ 96 ∷ 10 ∷ tail) ∙ ap (λ (z : Option (List ℕ × List ℕ)). with_front [] z) (closed_x tail)) refl
name_cut p c t rest quiet f (run_of.unclosed (b ∷ n) h) =
    let i = quoted_is (with_front (b ∷ n) (quoted 96 c)) t rest (sym (name_token_at (p ++ c) ∙ ap (λ (z : Option (List ℕ × List ℕ)). as_token_if fits_name Quoted z) (h c)) ∙ f) in
    name_ends p c t rest (96 ∷ []) (b ∷ (n ++ [])) quiet backquote f (λ tail. h (96 ∷ 10 ∷ tail) ∙ ap (λ (z : Option (List ℕ × List ℕ)). with_front (b ∷ n) z) (closed_next tail)) (fits_alone b n (quoted 96 c) t i)

-- ---- texts

-- what is known of a quote
record IsQuote (q : ℕ) : Type 0 where
  tokens : (bs : List ℕ) → token_at (q ∷ bs) ≡ as_token_if (λ _. true) Text (text_in q bs)
  quiet : (bs : List ℕ) → after_blank (q ∷ bs) ≡ None
  closed_there : (tail : List ℕ) → closes q (10 ∷ tail) ≡ Some ([], 10 ∷ tail)
  closed_next : (tail : List ℕ) → text_in q (q ∷ 10 ∷ tail) ≡ Some ([], 10 ∷ tail)
  closed_x : (tail : List ℕ) → escapes q (120 ∷ q ∷ 10 ∷ tail) ≡ Some (120 ∷ [], 10 ∷ tail)
  ends_next : Fixed (q ∷ [])
  ends_x : Fixed (120 ∷ q ∷ [])

single : IsQuote 39
unfolding token_at after_blank text_in
single = record { tokens = λ bs. refl; quiet = λ bs. refl; closed_there = λ tail. refl; closed_next = λ tail. refl; closed_x = λ tail. refl; ends_next = quote; ends_x = text }

double : IsQuote 34
unfolding token_at after_blank text_in
double = record { tokens = λ bs. refl; quiet = λ bs. refl; closed_there = λ tail. refl; closed_next = λ tail. refl; closed_x = λ tail. refl; ends_next = double_quote; ends_x = double_text }

like_text : (read : Option (List ℕ × List ℕ)) (t : Token) (rest n : List ℕ) → as_token_if (λ _. true) Text read ≡ Some (t, rest) → Like t (Text n)
like_text None t rest n f = nothing_is_something (t, rest) f
like_text (Some x) t rest n f = subst (λ (z : Token). Like z (Text n)) (token_same f).0 cuts.text

text_ends : (q : ℕ) (p c : List ℕ) (t : Token) (rest e n : List ℕ) → IsQuote q → Fixed e → token_at (q ∷ (p ++ c)) ≡ Some (t, rest) → ((tail : List ℕ) → text_in q (p ++ (e ++ (10 ∷ tail))) ≡ Some (n, 10 ∷ tail)) → TokenCut (q ∷ p) c t rest
text_ends q p c t rest e n i l f h =
    ends e (fixed l) (Text n) (like_text (text_in q (p ++ c)) t rest n (sym (i.tokens (p ++ c)) ∙ f)) (λ tail. i.quiet (p ++ (e ++ (10 ∷ tail))))
    (λ tail. i.tokens (p ++ (e ++ (10 ∷ tail))) ∙ ap (λ (z : Option (List ℕ × List ℕ)). as_token_if (λ _. true) Text z) (h tail))

text_token_cut : (q : ℕ) (p c : List ℕ) (t : Token) (rest : List ℕ) → IsQuote q → token_at (q ∷ (p ++ c)) ≡ Some (t, rest) → TextCut q (text_in q) p → TokenCut (q ∷ p) c t rest
text_token_cut q p c t rest i f (run_of.ended n front r e h) =
    passed_by (q ∷ p) c t rest (q ∷ front) r (Text n) f (ap (λ (x : List ℕ). q ∷ x) e) (λ x. i.quiet (p ++ x))
    (λ x. i.tokens (p ++ x) ∙ ap (λ (z : Option (List ℕ × List ℕ)). as_token_if (λ _. true) Text z) (h x))
text_token_cut q p c t rest i f (run_of.at_quote n h) =
    text_ends q p c t rest [] (n ++ []) i nothing f (λ tail. h (10 ∷ tail) ∙ ap (λ (z : Option (List ℕ × List ℕ)). with_front n z) (i.closed_there tail))
text_token_cut q p c t rest i f (run_of.unclosed n h) =
    text_ends q p c t rest (q ∷ []) (n ++ []) i i.ends_next f (λ tail. h (q ∷ 10 ∷ tail) ∙ ap (λ (z : Option (List ℕ × List ℕ)). with_front n z) (i.closed_next tail))
text_token_cut q p c t rest i f (run_of.escaping n h) =
    text_ends q p c t rest (120 ∷ q ∷ []) (n ++ (120 ∷ [])) i i.ends_x f (λ tail. h (120 ∷ q ∷ 10 ∷ tail) ∙ ap (λ (z : Option (List ℕ × List ℕ)). with_front n z) (i.closed_x tail))

-- ---- signs

-- a sign of one byte, whatever follows
lone : (b : ℕ) (p c : List ℕ) (t : Token) (rest : List ℕ) (v : Token) → ((bs : List ℕ) → after_blank (b ∷ bs) ≡ None) → ((bs : List ℕ) → token_at (b ∷ bs) ≡ Some (v, bs)) → token_at (b ∷ (p ++ c)) ≡ Some (t, rest) → TokenCut (b ∷ p) c t rest
lone b p c t rest v n g f = passed_by (b ∷ p) c t rest (b ∷ []) p v f refl (λ x. n (p ++ x)) (λ x. g (p ++ x))

minus_token : (bs : List ℕ) → token_at (45 ∷ bs) ≡ Some (Minus, bs)
unfolding token_at sign_at
minus_token bs = refl

dash_lone : (x : ℕ) (c : List ℕ) (t : Token) (rest : List ℕ) (u : Bool) → (x == 45) ≡ u → token_at (45 ∷ x ∷ c) ≡ Some (t, rest) → TokenCut (45 ∷ x ∷ []) c t rest
dash_lone x c t rest true e f =
    subst (λ (z : ℕ). TokenCut (45 ∷ z ∷ []) c t rest) (sym (eqb-true x 45 e)) (comments [] nothing (λ tail more a. spelled.blank (two_dashes tail) a))
dash_lone x c t rest false e f = passed_by (45 ∷ x ∷ []) c t rest (45 ∷ []) (x ∷ []) Minus f refl (λ y. no_line x y e) (λ y. minus_token (x ∷ y))

opens_comment : (x y : ℕ) (c : List ℕ) → x == 45 && is_space y ≡ true → after_blank (45 ∷ x ∷ y ∷ c) ≡ Some (after_line (x ∷ y ∷ c))
unfolding after_blank
opens_comment x y c e = rw e refl

dash_two : (x y : ℕ) (p c : List ℕ) (t : Token) (rest : List ℕ) (u : Bool) → x == 45 && is_space y ≡ u → after_blank (45 ∷ x ∷ y ∷ (p ++ c)) ≡ None → token_at (45 ∷ x ∷ y ∷ (p ++ c)) ≡ Some (t, rest) → TokenCut (45 ∷ x ∷ y ∷ p) c t rest
dash_two x y p c t rest true e n f = nothing_is_something (after_line (x ∷ y ∷ (p ++ c))) (sym n ∙ opens_comment x y (p ++ c) e)
dash_two x y p c t rest false e n f = passed_by (45 ∷ x ∷ y ∷ p) c t rest (45 ∷ []) (x ∷ y ∷ p) Minus f refl (λ z. no_line_of x y (p ++ z) e) (λ z. minus_token (x ∷ y ∷ (p ++ z)))

dash_token : (p c : List ℕ) (t : Token) (rest : List ℕ) → after_blank (45 ∷ (p ++ c)) ≡ None → token_at (45 ∷ (p ++ c)) ≡ Some (t, rest) → TokenCut (45 ∷ p) c t rest
dash_token [] c t rest n f = ends_by (45 ∷ []) c t rest [] Minus c Minus f (minus_token c) (fixed nothing) cuts.minus (λ tail. no_line 10 tail refl) (λ tail. minus_token (10 ∷ tail))
dash_token (x ∷ []) c t rest n f = dash_lone x c t rest (x == 45) refl f
dash_token (x ∷ y ∷ p) c t rest n f = dash_two x y p c t rest (x == 45 && is_space y) refl n f

bang_yes : (x : ℕ) (bs : List ℕ) → (x == 61) ≡ true → token_at (33 ∷ x ∷ bs) ≡ Some (Compare NotEqual, bs)
unfolding token_at sign_at
bang_yes x bs e = rw e refl

bang_no : (x : ℕ) (bs : List ℕ) → (x == 61) ≡ false → token_at (33 ∷ x ∷ bs) ≡ None
unfolding token_at sign_at
bang_no x bs e = rw e refl

bang_nothing : token_at (33 ∷ []) ≡ None
unfolding token_at sign_at
bang_nothing = refl

quiet_bang : (bs : List ℕ) → after_blank (33 ∷ bs) ≡ None
unfolding after_blank
quiet_bang bs = refl

bang_next : (x : ℕ) (c : List ℕ) (t : Token) (rest : List ℕ) (u : Bool) → (x == 61) ≡ u → token_at (33 ∷ x ∷ c) ≡ Some (t, rest) → TokenCut (33 ∷ []) (x ∷ c) t rest
bang_next x c t rest true e f = ends_by (33 ∷ []) (x ∷ c) t rest (61 ∷ []) (Compare NotEqual) c (Compare NotEqual) f (bang_yes x c e) (fixed equal) cuts.compare (λ tail. quiet_bang (61 ∷ 10 ∷ tail)) (λ tail. bang_yes 61 (10 ∷ tail) refl)
bang_next x c t rest false e f = nothing_is_something (t, rest) (sym (bang_no x c e) ∙ f)

bang_alone : (c : List ℕ) (t : Token) (rest : List ℕ) → token_at (33 ∷ c) ≡ Some (t, rest) → TokenCut (33 ∷ []) c t rest
bang_alone [] t rest f = nothing_is_something (t, rest) (sym bang_nothing ∙ f)
bang_alone (x ∷ c) t rest f = bang_next x c t rest (x == 61) refl f

bang_pair : (x : ℕ) (p c : List ℕ) (t : Token) (rest : List ℕ) (u : Bool) → (x == 61) ≡ u → token_at (33 ∷ x ∷ (p ++ c)) ≡ Some (t, rest) → TokenCut (33 ∷ x ∷ p) c t rest
bang_pair x p c t rest true e f = passed_by (33 ∷ x ∷ p) c t rest (33 ∷ x ∷ []) p (Compare NotEqual) f refl (λ y. quiet_bang (x ∷ (p ++ y))) (λ y. bang_yes x (p ++ y) e)
bang_pair x p c t rest false e f = nothing_is_something (t, rest) (sym (bang_no x (p ++ c) e) ∙ f)

bang_cut : (p c : List ℕ) (t : Token) (rest : List ℕ) → token_at (33 ∷ (p ++ c)) ≡ Some (t, rest) → TokenCut (33 ∷ p) c t rest
bang_cut [] c t rest f = bang_alone c t rest f
bang_cut (x ∷ p) c t rest f = bang_pair x p c t rest (x == 61) refl f

less_equal : (x : ℕ) (bs : List ℕ) → (x == 61) ≡ true → token_at (60 ∷ x ∷ bs) ≡ Some (Compare LessOrEqual, bs)
unfolding token_at sign_at
less_equal x bs e = rw e refl

less_greater : (x : ℕ) (bs : List ℕ) → (x == 61) ≡ false → (x == 62) ≡ true → token_at (60 ∷ x ∷ bs) ≡ Some (Compare NotEqual, bs)
unfolding token_at sign_at
less_greater x bs e f = rw (e, f) refl

less_other : (x : ℕ) (bs : List ℕ) → (x == 61) ≡ false → (x == 62) ≡ false → token_at (60 ∷ x ∷ bs) ≡ Some (Compare Less, x ∷ bs)
unfolding token_at sign_at
less_other x bs e f = rw (e, f) refl

less_nothing : token_at (60 ∷ []) ≡ Some (Compare Less, [])
unfolding token_at sign_at
less_nothing = refl

quiet_less : (bs : List ℕ) → after_blank (60 ∷ bs) ≡ None
unfolding after_blank
quiet_less bs = refl

less_ends : (c : List ℕ) (t : Token) (rest : List ℕ) (v : Token) (other : List ℕ) → token_at (60 ∷ c) ≡ Some (t, rest) → token_at (60 ∷ c) ≡ Some (v, other) → Like v (Compare Less) → TokenCut (60 ∷ []) c t rest
less_ends c t rest v other f g k = ends_by (60 ∷ []) c t rest [] v other (Compare Less) f g (fixed nothing) k (λ tail. quiet_less (10 ∷ tail)) (λ tail. less_other 10 tail refl refl)

less_next : (x : ℕ) (c : List ℕ) (t : Token) (rest : List ℕ) (u v : Bool) → (x == 61) ≡ u → (x == 62) ≡ v → token_at (60 ∷ x ∷ c) ≡ Some (t, rest) → TokenCut (60 ∷ []) (x ∷ c) t rest
less_next x c t rest true v e g f = less_ends (x ∷ c) t rest (Compare LessOrEqual) c f (less_equal x c e) cuts.less_or_equal
less_next x c t rest false true e g f = less_ends (x ∷ c) t rest (Compare NotEqual) c f (less_greater x c e g) cuts.not_equal
less_next x c t rest false false e g f = less_ends (x ∷ c) t rest (Compare Less) (x ∷ c) f (less_other x c e g) cuts.compare

less_pair : (x : ℕ) (p c : List ℕ) (t : Token) (rest : List ℕ) (u v : Bool) → (x == 61) ≡ u → (x == 62) ≡ v → token_at (60 ∷ x ∷ (p ++ c)) ≡ Some (t, rest) → TokenCut (60 ∷ x ∷ p) c t rest
less_pair x p c t rest true v e g f = passed_by (60 ∷ x ∷ p) c t rest (60 ∷ x ∷ []) p (Compare LessOrEqual) f refl (λ y. quiet_less (x ∷ (p ++ y))) (λ y. less_equal x (p ++ y) e)
less_pair x p c t rest false true e g f = passed_by (60 ∷ x ∷ p) c t rest (60 ∷ x ∷ []) p (Compare NotEqual) f refl (λ y. quiet_less (x ∷ (p ++ y))) (λ y. less_greater x (p ++ y) e g)
less_pair x p c t rest false false e g f = passed_by (60 ∷ x ∷ p) c t rest (60 ∷ []) (x ∷ p) (Compare Less) f refl (λ y. quiet_less (x ∷ (p ++ y))) (λ y. less_other x (p ++ y) e g)

less_cut : (p c : List ℕ) (t : Token) (rest : List ℕ) → token_at (60 ∷ (p ++ c)) ≡ Some (t, rest) → TokenCut (60 ∷ p) c t rest
less_cut [] [] t rest f = less_ends [] t rest (Compare Less) [] f less_nothing cuts.compare
less_cut [] (x ∷ c) t rest f = less_next x c t rest (x == 61) (x == 62) refl refl f
less_cut (x ∷ p) c t rest f = less_pair x p c t rest (x == 61) (x == 62) refl refl f

greater_equal : (x : ℕ) (bs : List ℕ) → (x == 61) ≡ true → token_at (62 ∷ x ∷ bs) ≡ Some (Compare GreaterOrEqual, bs)
unfolding token_at sign_at
greater_equal x bs e = rw e refl

greater_other : (x : ℕ) (bs : List ℕ) → (x == 61) ≡ false → token_at (62 ∷ x ∷ bs) ≡ Some (Compare Greater, x ∷ bs)
unfolding token_at sign_at
greater_other x bs e = rw e refl

greater_nothing : token_at (62 ∷ []) ≡ Some (Compare Greater, [])
unfolding token_at sign_at
greater_nothing = refl

quiet_greater : (bs : List ℕ) → after_blank (62 ∷ bs) ≡ None
unfolding after_blank
quiet_greater bs = refl

greater_ends : (c : List ℕ) (t : Token) (rest : List ℕ) (v : Token) (other : List ℕ) → token_at (62 ∷ c) ≡ Some (t, rest) → token_at (62 ∷ c) ≡ Some (v, other) → Like v (Compare Greater) → TokenCut (62 ∷ []) c t rest
greater_ends c t rest v other f g k = ends_by (62 ∷ []) c t rest [] v other (Compare Greater) f g (fixed nothing) k (λ tail. quiet_greater (10 ∷ tail)) (λ tail. greater_other 10 tail refl)

greater_next : (x : ℕ) (c : List ℕ) (t : Token) (rest : List ℕ) (u : Bool) → (x == 61) ≡ u → token_at (62 ∷ x ∷ c) ≡ Some (t, rest) → TokenCut (62 ∷ []) (x ∷ c) t rest
greater_next x c t rest true e f = greater_ends (x ∷ c) t rest (Compare GreaterOrEqual) c f (greater_equal x c e) cuts.greater_or_equal
greater_next x c t rest false e f = greater_ends (x ∷ c) t rest (Compare Greater) (x ∷ c) f (greater_other x c e) cuts.compare

greater_pair : (x : ℕ) (p c : List ℕ) (t : Token) (rest : List ℕ) (u : Bool) → (x == 61) ≡ u → token_at (62 ∷ x ∷ (p ++ c)) ≡ Some (t, rest) → TokenCut (62 ∷ x ∷ p) c t rest
greater_pair x p c t rest true e f = passed_by (62 ∷ x ∷ p) c t rest (62 ∷ x ∷ []) p (Compare GreaterOrEqual) f refl (λ y. quiet_greater (x ∷ (p ++ y))) (λ y. greater_equal x (p ++ y) e)
greater_pair x p c t rest false e f = passed_by (62 ∷ x ∷ p) c t rest (62 ∷ []) (x ∷ p) (Compare Greater) f refl (λ y. quiet_greater (x ∷ (p ++ y))) (λ y. greater_other x (p ++ y) e)

greater_cut : (p c : List ℕ) (t : Token) (rest : List ℕ) → token_at (62 ∷ (p ++ c)) ≡ Some (t, rest) → TokenCut (62 ∷ p) c t rest
greater_cut [] [] t rest f = greater_ends [] t rest (Compare Greater) [] f greater_nothing cuts.compare
greater_cut [] (x ∷ c) t rest f = greater_next x c t rest (x == 61) refl f
greater_cut (x ∷ p) c t rest f = greater_pair x p c t rest (x == 61) refl f

-- ---- by the first byte

open_token : (bs : List ℕ) → token_at (40 ∷ bs) ≡ Some (Open, bs)
unfolding token_at sign_at
open_token bs = refl

close_token : (bs : List ℕ) → token_at (41 ∷ bs) ≡ Some (Close, bs)
unfolding token_at sign_at
close_token bs = refl

comma_token : (bs : List ℕ) → token_at (44 ∷ bs) ≡ Some (Comma, bs)
unfolding token_at sign_at
comma_token bs = refl

star_token : (bs : List ℕ) → token_at (42 ∷ bs) ≡ Some (Star, bs)
unfolding token_at sign_at
star_token bs = refl

plus_token : (bs : List ℕ) → token_at (43 ∷ bs) ≡ Some (Plus, bs)
unfolding token_at sign_at
plus_token bs = refl

equal_token : (bs : List ℕ) → token_at (61 ∷ bs) ≡ Some (Compare Equal, bs)
unfolding token_at sign_at
equal_token bs = refl

slash_token : (bs : List ℕ) → token_at (47 ∷ bs) ≡ None
unfolding token_at sign_at
slash_token bs = refl

other_token : (b : ℕ) (bs : List ℕ) → (b == 40) ≡ false → (b == 41) ≡ false → (b == 44) ≡ false → (b == 42) ≡ false → (b == 43) ≡ false → (b == 45) ≡ false → (b == 61) ≡ false → (b == 33) ≡ false → (b == 60) ≡ false → (b == 62) ≡ false
    → sign_at (b ∷ bs) ≡ None
unfolding sign_at
other_token b bs e1 e2 e3 e4 e5 e6 e7 e8 e9 e10 = rw (e1, e2, e3, e4, e5, e6, e7, e8, e9, e10) refl

sign_token_at : (b : ℕ) (bs : List ℕ) → starts_word b ≡ false → is_digit b ≡ false → (b == 96) ≡ false → (b == 39) ≡ false → (b == 34) ≡ false → token_at (b ∷ bs) ≡ sign_at (b ∷ bs)
unfolding token_at
sign_token_at b bs w g q s d = rw (w, g, q, s, d) refl

-- the same for another first byte, which it is
at_byte : (b n : ℕ) (p c : List ℕ) (t : Token) (rest : List ℕ) → (b == n) ≡ true → (token_at (n ∷ (p ++ c)) ≡ Some (t, rest) → TokenCut (n ∷ p) c t rest) → token_at (b ∷ (p ++ c)) ≡ Some (t, rest) → TokenCut (b ∷ p) c t rest
at_byte b n p c t rest e h f =
    let same = eqb-true b n e in
    subst (λ (z : ℕ). TokenCut (z ∷ p) c t rest) (sym same) (h (subst (λ (z : ℕ). token_at (z ∷ (p ++ c)) ≡ Some (t, rest)) same f))

-- either it is, or something else holds
either : (b n : ℕ) (p c : List ℕ) (t : Token) (rest : List ℕ) (u : Bool) → (b == n) ≡ u → (token_at (n ∷ (p ++ c)) ≡ Some (t, rest) → TokenCut (n ∷ p) c t rest) → ((b == n) ≡ false → TokenCut (b ∷ p) c t rest) → token_at (b ∷ (p ++ c)) ≡ Some (t, rest) → TokenCut (b ∷ p) c t rest
either b n p c t rest true e h k f = at_byte b n p c t rest e h f
either b n p c t rest false e h k f = k e

hash_blank : (bs : List ℕ) → after_blank (35 ∷ bs) ≡ Some (after_line bs)
unfolding after_blank
hash_blank bs = refl

quiet_by : (b : ℕ) (bs : List ℕ) (s h : Bool) → is_space b ≡ s → (b == 35) ≡ h → (b == 45) ≡ false → (b == 47) ≡ false → after_blank (b ∷ bs) ≡ None → (x : List ℕ) → after_blank (b ∷ x) ≡ None
quiet_by b bs true h es eh ed el n x = nothing_is_something bs (sym n ∙ space_blank b bs es)
quiet_by b bs false true es eh ed el n x =
    let f : after_blank (35 ∷ bs) ≡ None = subst (λ (z : ℕ). after_blank (z ∷ bs) ≡ None) (eqb-true b 35 eh) n in
    nothing_is_something (after_line bs) (sym f ∙ hash_blank bs)
quiet_by b bs false false es eh ed el n x = no_blank b x es eh ed el

sign_cut : (b : ℕ) (p c : List ℕ) (t : Token) (rest : List ℕ) → ((x : List ℕ) → after_blank (b ∷ x) ≡ None) → (b == 45) ≡ false → starts_word b ≡ false → is_digit b ≡ false → (b == 96) ≡ false → (b == 39) ≡ false → (b == 34) ≡ false → token_at (b ∷ (p ++ c)) ≡ Some (t, rest) → TokenCut (b ∷ p) c t rest
unfolding after_blank
sign_cut b p c t rest n ed w g q s d f =
    either b 40 p c t rest (b == 40) refl (lone 40 p c t rest Open (λ x. refl) open_token) (λ e1.
    either b 41 p c t rest (b == 41) refl (lone 41 p c t rest Close (λ x. refl) close_token) (λ e2.
    either b 44 p c t rest (b == 44) refl (lone 44 p c t rest Comma (λ x. refl) comma_token) (λ e3.
    either b 42 p c t rest (b == 42) refl (lone 42 p c t rest Star (λ x. refl) star_token) (λ e4.
    either b 43 p c t rest (b == 43) refl (lone 43 p c t rest Plus (λ x. refl) plus_token) (λ e5.
    either b 61 p c t rest (b == 61) refl (lone 61 p c t rest (Compare Equal) (λ x. refl) equal_token) (λ e7.
    either b 33 p c t rest (b == 33) refl (bang_cut p c t rest) (λ e8.
    either b 60 p c t rest (b == 60) refl (less_cut p c t rest) (λ e9.
    either b 62 p c t rest (b == 62) refl (greater_cut p c t rest) (λ e10.
    nothing_is_something (t, rest) (sym (sign_token_at b (p ++ c) w g q s d ∙ other_token b (p ++ c) e1 e2 e3 e4 e5 ed e7 e8 e9 e10) ∙ f)) f) f) f) f) f) f) f) f) f

quote_by : (b : ℕ) (p c : List ℕ) (t : Token) (rest : List ℕ) → ((x : List ℕ) → after_blank (b ∷ x) ≡ None) → (b == 45) ≡ false → starts_word b ≡ false → is_digit b ≡ false → token_at (b ∷ (p ++ c)) ≡ Some (t, rest) → TokenCut (b ∷ p) c t rest
unfolding after_blank
quote_by b p c t rest n ed w g f =
    either b 96 p c t rest (b == 96) refl (λ h. name_cut p c t rest (λ x. refl) h (quote_cut 96 p).0) (λ q.
    either b 39 p c t rest (b == 39) refl (λ h. text_token_cut 39 p c t rest single h (text_cut 39 p).0) (λ s.
    either b 34 p c t rest (b == 34) refl (λ h. text_token_cut 34 p c t rest double h (text_cut 34 p).0) (λ d.
    sign_cut b p c t rest n ed w g q s d f) f) f) f

number_by : (b : ℕ) (p c : List ℕ) (t : Token) (rest : List ℕ) (g : Bool) → ((x : List ℕ) → after_blank (b ∷ x) ≡ None) → (b == 45) ≡ false → starts_word b ≡ false → is_digit b ≡ g → token_at (b ∷ (p ++ c)) ≡ Some (t, rest) → TokenCut (b ∷ p) c t rest
number_by b p c t rest true n ed w eg f = number_cut b p c t rest w eg n f (run is_digit (b ∷ p))
number_by b p c t rest false n ed w eg f = quote_by b p c t rest n ed w eg f

word_by : (b : ℕ) (p c : List ℕ) (t : Token) (rest : List ℕ) (w : Bool) → ((x : List ℕ) → after_blank (b ∷ x) ≡ None) → (b == 45) ≡ false → starts_word b ≡ w → token_at (b ∷ (p ++ c)) ≡ Some (t, rest) → TokenCut (b ∷ p) c t rest
word_by b p c t rest true n ed ew f = word_cut b p c t rest ew n f (run is_in_word (b ∷ p))
word_by b p c t rest false n ed ew f = number_by b p c t rest (is_digit b) n ed ew refl f

token_by : (b : ℕ) (p c : List ℕ) (t : Token) (rest : List ℕ) (d l : Bool) → (b == 45) ≡ d → (b == 47) ≡ l → after_blank (b ∷ (p ++ c)) ≡ None → token_at (b ∷ (p ++ c)) ≡ Some (t, rest) → TokenCut (b ∷ p) c t rest
token_by b p c t rest true l ed el n f =
    let same = eqb-true b 45 ed in
    at_byte b 45 p c t rest ed (dash_token p c t rest (subst (λ (z : ℕ). after_blank (z ∷ (p ++ c)) ≡ None) same n)) f
token_by b p c t rest false true ed el n f = at_byte b 47 p c t rest el (λ h. nothing_is_something (t, rest) (sym (slash_token (p ++ c)) ∙ h)) f
token_by b p c t rest false false ed el n f = word_by b p c t rest (starts_word b) (quiet_by b (p ++ c) (is_space b) (b == 35) refl refl ed el n) ed refl f

token_cut : (b : ℕ) (p c : List ℕ) (t : Token) (rest : List ℕ) → after_blank (b ∷ (p ++ c)) ≡ None → token_at (b ∷ (p ++ c)) ≡ Some (t, rest) → TokenCut (b ∷ p) c t rest
token_cut b p c t rest n f = token_by b p c t rest (b == 45) (b == 47) refl refl n f

-- ---- all of the bytes

-- the bytes and such an end spell a front of the tokens, whatever follows in a new line
pub data LexCut (p : List ℕ) (all : List Token) : Type 0 where
  lexed : (e : List ℕ) (us : List Token) → LexEnd p e → Under all us → ((tail : List ℕ) (more : List Token) → AreTokens tail more → AreTokens (p ++ (e ++ (10 ∷ tail))) (us ++ more)) → LexCut p all

behind_blank : (p q r : List ℕ) (all : List Token) → p ≡ q ++ r → ((x : List ℕ) → after_blank (p ++ x) ≡ Some (r ++ x)) → LexCut r all → LexCut p all
behind_blank p q r all e g (lexed f us l u h) =
    lexed f us (subst (λ (z : List ℕ). LexEnd z f) (sym e) (further q l)) u (λ tail more a. spelled.blank (g (f ++ (10 ∷ tail))) (h tail more a))

behind_token : (p q r : List ℕ) (t : Token) (all : List Token) → p ≡ q ++ r → ((x : List ℕ) → after_blank (p ++ x) ≡ None) → ((x : List ℕ) → token_at (p ++ x) ≡ Some (t, r ++ x)) → LexCut r all → LexCut p (t ∷ all)
behind_token p q r t all e n g (lexed f us l u h) =
    lexed f (t ∷ us) (subst (λ (z : List ℕ). LexEnd z f) (sym e) (further q l)) (keep (like_itself t) u) (λ tail more a. spelled.token (n (f ++ (10 ∷ tail))) (g (f ++ (10 ∷ tail))) (h tail more a))

of_blank : (p c rest : List ℕ) (all : List Token) → BlankCut p c rest → ((r : List ℕ) → rest ≡ r ++ c → LexCut r all) → LexCut p all
of_blank p c rest all (within q r e f g) others = behind_blank p q r all e g (others r f)
of_blank p c rest all (open_blank e l h) others = lexed e [] (fixed l) cut h

of_token : (p c rest : List ℕ) (t : Token) (all : List Token) → TokenCut p c t rest → ((r : List ℕ) → rest ≡ r ++ c → LexCut r all) → LexCut p (t ∷ all)
of_token p c rest t all (passed q r e f n g) others = behind_token p q r t all e n g (others r f)
of_token p c rest t all (ends e l u k n g) others = lexed e (u ∷ []) l (keep k cut) (λ tail more a. spelled.token (n tail) (g tail) (line_end tail more a))
of_token p c rest t all (comments e l h) others = lexed e [] (fixed l) cut h

pub lex_cut : {bytes : List ℕ} {all : List Token} → AreTokens bytes all → (p c : List ℕ) → bytes ≡ p ++ c → LexCut p all
lex_cut a [] c e = lexed [] [] (fixed nothing) cut (λ tail more b. line_end tail more b)
lex_cut spelled.nothing (b ∷ p) c e = absurd (cc)
lex_cut (spelled.blank {rest = rest} {tokens = all} f a) (b ∷ p) c e =
    of_blank (b ∷ p) c rest all (blank_cut b p c rest (subst (λ (z : List ℕ). after_blank z ≡ Some rest) e f)) (λ r g. lex_cut a r c g)
lex_cut (spelled.token {rest = rest} {first = t} {tokens = all} n f a) (b ∷ p) c e =
    of_token (b ∷ p) c rest t all (token_cut b p c t rest (subst (λ (z : List ℕ). after_blank z ≡ None) e n) (subst (λ (z : List ℕ). token_at z ≡ Some (t, rest)) e f)) (λ r g. lex_cut a r c g)
