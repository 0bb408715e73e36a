-- Bytes that end in a new line spell the same tokens where more stand behind them.
use Rattle.std.proofs.Common.{◌≡◌, ℕ, List, [], ◌∷◌, ◌++◌, Option, Some, None, Bool, true, false, cond, ◌||◌, ◌&&◌, refl, ◌∙◌, ap, sym, subst}
use Rattle.std.specs.Prelude.{◌==◌, drop}
use Rattle.std.proofs.lemmas.Bool.{eqb-true}
use Rattle.sql_grammar.specs.declared.token.Token.{Token}
use Rattle.sql_grammar.specs.declared.token.Token.TheVariants.{Quoted, Number, Text, Compare, Open, Close, Comma, Star, Plus, Minus}
use Rattle.inno_types.specs.declared.stmt.Comparison.TheVariants.{Equal, NotEqual, Less, LessOrEqual, Greater, GreaterOrEqual}
use Rattle.sql_grammar.specs.Tokens.{is_space, is_digit, starts_word, is_in_word, begins, opens_line, after_line, after_comment, after_blank, quoted, text_in}
use Rattle.sql_grammar.specs.Tokens.{front_while, fits_name, word_token, as_token, as_token_if, sign_at, token_at, AreTokens}
use Rattle.sql_grammar.specs.Tokens as spelled
use Rattle.sql_prefix.proofs.Spelled.{Run, QuoteCut, TextCut, LineCut, line_cut, run, quote_cut, text_cut, leaves}
use Rattle.sql_prefix.proofs.Spelled as run_of

-- what is read of p and a new line ends before the line does, or nothing is read
data Seam {Y : Type 0} (read : List ℕ → Option (Y × List ℕ)) (p : List ℕ) : Type 0 where
  none : read (p ++ (10 ∷ [])) ≡ None → Seam read p
  some : (y : Y) (r : List ℕ) → ((tail : List ℕ) → read (p ++ (10 ∷ tail)) ≡ Some (y, r ++ (10 ∷ tail))) → Seam read p

-- ---- tokens

either : {Y : Type 0} (u : Bool) (p : List ℕ) {read other : List ℕ → Option (Y × List ℕ)} → (u ≡ true → Seam read p) → (u ≡ false → Seam other p)
    → Seam (λ x. cond u (read x) (other x)) p
either {Y} true p {read} {other} h k = by_seam (h refl)
  where
    by_seam : Seam read p → Seam (λ x. cond true (read x) (other x)) p
    by_seam (none e) = none e
    by_seam (some y r e) = some y r e
either {Y} false p {read} {other} h k = by_seam (k refl)
  where
    by_seam : Seam other p → Seam (λ x. cond false (read x) (other x)) p
    by_seam (none e) = none e
    by_seam (some y r e) = some y r e

run_seam : (g : ℕ → Bool) (p : List ℕ) → g 10 ≡ false → Run g p
    → (q : List ℕ) × (r : List ℕ) × ((tail : List ℕ) → front_while g (p ++ (10 ∷ tail)) ≡ (q, r ++ (10 ∷ tail)))
run_seam g p e (run_of.stops q r f h) = (q, r, λ tail. h (10 ∷ tail))
run_seam g p e (run_of.goes h) = (p ++ [], [], λ tail. h (10 ∷ tail) ∙ ap (λ (x : List ℕ × List ℕ). (p ++ x.0, x.1)) (leaves g 10 tail e))

as_token_seam : (may : List ℕ → Bool) (token : List ℕ → Token) (p q r : List ℕ) (u : Bool) (read : List ℕ → List ℕ × List ℕ)
    → ((tail : List ℕ) → read (p ++ (10 ∷ tail)) ≡ (q, r ++ (10 ∷ tail))) → may q ≡ u → Seam (λ x. as_token may token (read x)) p
as_token_seam may token p q r true read h e = some (token q) r (λ tail. rw (h tail, e) refl)
as_token_seam may token p q r false read h e = none (rw (h [], e) refl)

by_run : (g : ℕ → Bool) (may : List ℕ → Bool) (token : List ℕ → Token) (b : ℕ) (p : List ℕ) → g 10 ≡ false
    → Seam (λ x. as_token may token (front_while g (b ∷ x))) p
by_run g may token b p e = let s = run_seam g (b ∷ p) e (run g (b ∷ p)) in as_token_seam may token p s.0 s.1 (may s.0) (λ x. front_while g (b ∷ x)) s.2 refl

if_token_seam : (may : List ℕ → Bool) (token : List ℕ → Token) (read : List ℕ → Option (List ℕ × List ℕ)) (p : List ℕ) → Seam read p
    → Seam (λ x. as_token_if may token (read x)) p
if_token_seam may token read p (none e) = none (rw e refl)
if_token_seam may token read p (some y r h) = by_may (may y) refl
  where
    by_may : (u : Bool) → may y ≡ u → Seam (λ x. as_token_if may token (read x)) p
    by_may true e = some (token y) r (λ tail. rw (h tail, e) refl)
    by_may false e = none (rw (h [], e) refl)

name_seam : (p : List ℕ) → QuoteCut 96 (quoted 96) p → Seam (quoted 96) p
unfolding quoted
name_seam p (run_of.ended name front r e h) = some name r (λ tail. h (10 ∷ tail))
name_seam p (run_of.at_quote name h) = some (name ++ []) [] (λ tail. h (10 ∷ tail))
name_seam p (run_of.unclosed name h) = none (h (10 ∷ []))

text_seam : (q : ℕ) (p : List ℕ) → (10 == q) ≡ false → TextCut q (text_in q) p → Seam (text_in q) p
unfolding text_in
text_seam q p e (run_of.ended text front r f h) = some text r (λ tail. h (10 ∷ tail))
text_seam q p e (run_of.at_quote text h) = some (text ++ []) [] (λ tail. h (10 ∷ tail) ∙ rw e refl)
text_seam q p e (run_of.unclosed text h) = none (h (10 ∷ []) ∙ rw e refl)
text_seam q p e (run_of.escaping text h) = none (h (10 ∷ []))

quote_is_no_line : (b : ℕ) (s d : Bool) → (b == 39) ≡ s → (b == 34) ≡ d → s || d ≡ true → (10 == b) ≡ false
quote_is_no_line b true d e f h = rw (eqb-true b 39 e) refl
quote_is_no_line b false true e f h = rw (eqb-true b 34 f) refl
quote_is_no_line b false false e f h = absurd (cc)

-- a sign of one byte
one : (t : Token) (p : List ℕ) → Seam (λ x. Some (t, x)) p
one t p = some t p (λ tail. refl)

nothing : {Y : Type 0} (p : List ℕ) → Seam {Y = Y} (λ x. None) p
nothing p = none refl

sign_seam : (b : ℕ) (p : List ℕ) → Seam (λ x. sign_at (b ∷ x)) p
unfolding sign_at
sign_seam b [] =
    either (b == 40) [] (λ e. one Open []) (λ e. either (b == 41) [] (λ e. one Close [])
    (λ e. either (b == 44) [] (λ e. one Comma []) (λ e. either (b == 42) [] (λ e. one Star []) (λ e.
    either (b == 43) [] (λ e. one Plus []) (λ e. either (b == 45) [] (λ e. one Minus []) (λ e. either (b == 61) [] (λ e. one (Compare Equal) []) (λ e.
    either (b == 33) [] (λ e. none refl) (λ e. either (b == 60) [] (λ e. some (Compare Less) [] (λ tail. refl))
    (λ e. either (b == 62) [] (λ e. some (Compare Greater) [] (λ tail. refl)) (λ e. none refl))))))))))
sign_seam b (c ∷ p) =
    let all = c ∷ p in
    either (b == 40) all (λ e. one Open all) (λ e. either (b == 41) all (λ e. one Close all)
    (λ e. either (b == 44) all (λ e. one Comma all) (λ e. either (b == 42) all (λ e. one Star all) (λ e.
    either (b == 43) all (λ e. one Plus all) (λ e. either (b == 45) all (λ e. one Minus all) (λ e. either (b == 61) all (λ e. one (Compare Equal) all) (λ e.
    either (b == 33) all (λ e. bang (c == 61) refl) (λ e. either (b == 60) all (λ e. less (c == 61) (c == 62) refl refl)
    (λ e. either (b == 62) all (λ e. greater (c == 61) refl) (λ e. none refl))))))))))
  where
    bang : (u : Bool) → (c == 61) ≡ u → Seam (λ x. cond (begins 61 x) (Some (Compare NotEqual, drop 1 x)) None) (c ∷ p)
    bang true e = some (Compare NotEqual) p (λ tail. rw e refl)
    bang false e = none (rw e refl)

    less : (u v : Bool) → (c == 61) ≡ u → (c == 62) ≡ v
        → Seam
        (λ x. cond (begins 61 x) (Some (Compare LessOrEqual, drop 1 x)) (cond (begins 62 x) (Some (Compare NotEqual, drop 1 x)) (Some (Compare Less, x))))
        (c ∷ p)
    less true v e f = some (Compare LessOrEqual) p (λ tail. rw e refl)
    less false true e f = some (Compare NotEqual) p (λ tail. rw (e, f) refl)
    less false false e f = some (Compare Less) (c ∷ p) (λ tail. rw (e, f) refl)

    greater : (u : Bool) → (c == 61) ≡ u → Seam (λ x. cond (begins 61 x) (Some (Compare GreaterOrEqual, drop 1 x)) (Some (Compare Greater, x))) (c ∷ p)
    greater true e = some (Compare GreaterOrEqual) p (λ tail. rw e refl)
    greater false e = some (Compare Greater) (c ∷ p) (λ tail. rw e refl)

token_seam : (b : ℕ) (p : List ℕ) → Seam (λ x. token_at (b ∷ x)) p
unfolding token_at
token_seam b p =
    either (starts_word b) p (λ e. by_run is_in_word fits_name word_token b p refl) (λ e.
    either (is_digit b) p (λ e. by_run is_digit (λ _. true) Number b p refl) (λ e.
    either (b == 96) p (λ e. if_token_seam fits_name Quoted (quoted 96) p (name_seam p (quote_cut 96 p).0)) (λ e.
    either (b == 39 || b == 34) p (λ e. if_token_seam (λ _. true) Text (text_in b) p
    (text_seam b p (quote_is_no_line b (b == 39) (b == 34) refl refl e) (text_cut b p).0)) (λ e.
    sign_seam b p))))

-- ---- blanks

data BlankSeam (p : List ℕ) : Type 0 where
  within : (r : List ℕ) → ((tail : List ℕ) → after_blank (p ++ (10 ∷ tail)) ≡ Some (r ++ (10 ∷ tail))) → BlankSeam p
  through : ((tail : List ℕ) → after_blank (p ++ (10 ∷ tail)) ≡ Some tail) → BlankSeam p
  quiet : ((tail : List ℕ) → after_blank (p ++ (10 ∷ tail)) ≡ None) → BlankSeam p
  -- a comment without end
  open_comment : after_blank (p ++ (10 ∷ [])) ≡ None → token_at (p ++ (10 ∷ [])) ≡ None → BlankSeam p

opens_same : (p : List ℕ) → (u : Bool) × ((tail : List ℕ) → opens_line (p ++ (10 ∷ tail)) ≡ u)
opens_same [] = (false, no_dash)
  where
    no_dash : (tail : List ℕ) → opens_line (10 ∷ tail) ≡ false
    no_dash [] = refl
    no_dash (c ∷ tail) = refl
opens_same (x ∷ []) = (x == 45 && true, λ tail. refl)
opens_same (x ∷ y ∷ p) = (x == 45 && is_space y, λ tail. refl)

begins_same : (n : ℕ) (p : List ℕ) → (u : Bool) × ((tail : List ℕ) → begins n (p ++ (10 ∷ tail)) ≡ u)
begins_same n [] = (10 == n, λ tail. refl)
begins_same n (x ∷ p) = (x == n, λ tail. refl)

data CommentSeam (p : List ℕ) : Type 0 where
  closed : (r : List ℕ) → ((tail : List ℕ) → after_comment (p ++ (10 ∷ tail)) ≡ Some (r ++ (10 ∷ tail))) → CommentSeam p
  open' : after_comment (p ++ (10 ∷ [])) ≡ None → CommentSeam p

comment_step : (b x : ℕ) (p : List ℕ) (u : Bool) → (b == 42 && x == 47) ≡ u → CommentSeam (x ∷ p) → CommentSeam (b ∷ x ∷ p)
unfolding after_comment
comment_step b x p true e h = closed p (λ tail. rw e refl)
comment_step b x p false e (closed r h) = closed r (λ tail. rw e (h tail))
comment_step b x p false e (open' h) = open' (rw e h)

comment_alone : (b : ℕ) (u : Bool) → (b == 42) ≡ u → after_comment (b ∷ 10 ∷ []) ≡ None
unfolding after_comment
comment_alone b true e = rw e refl
comment_alone b false e = rw e refl

comment_seam : (p : List ℕ) → CommentSeam p
unfolding after_comment
comment_seam [] = open' refl
comment_seam (b ∷ []) = open' (comment_alone b (b == 42) refl)
comment_seam (b ∷ x ∷ p) = comment_step b x p (b == 42 && x == 47) refl (comment_seam (x ∷ p))

after_blank_is : (b : ℕ) (p : List ℕ) (o s : Bool) → ((tail : List ℕ) → opens_line (p ++ (10 ∷ tail)) ≡ o)
    → ((tail : List ℕ) → begins 42 (p ++ (10 ∷ tail)) ≡ s) → (tail : List ℕ)
    → after_blank (b ∷ (p ++ (10 ∷ tail))) ≡ cond (is_space b) (Some (p ++ (10 ∷ tail)))
    (cond (b == 35 || b == 45 && o) (Some (after_line (p ++ (10 ∷ tail)))) (cond (b == 47 && s) (after_comment (drop 1 (p ++ (10 ∷ tail)))) None))
unfolding after_blank
after_blank_is b p o s h k tail = rw (h tail, k tail) refl

line_seam : (b : ℕ) (p : List ℕ) → ((tail : List ℕ) → after_blank (b ∷ (p ++ (10 ∷ tail))) ≡ Some (after_line (p ++ (10 ∷ tail)))) → LineCut p
    → BlankSeam (b ∷ p)
line_seam b p h (run_of.ended q r e g) = within r (λ tail. h tail ∙ ap (λ (x : List ℕ). Some x) (g (10 ∷ tail)))
line_seam b p h (run_of.open_line g) = through (λ tail. h tail ∙ ap (λ (x : List ℕ). Some x) (g tail))

slash_none : (bs : List ℕ) → token_at (47 ∷ bs) ≡ None
unfolding token_at sign_at
slash_none bs = refl

slashes : (b : ℕ) (s : Bool) → (b == 47 && s) ≡ true → (b ≡ 47) × (s ≡ true)
slashes b s e = by_slash (b == 47) refl s e
  where
    by_slash : (u : Bool) → (b == 47) ≡ u → (s : Bool) → u && s ≡ true → (b ≡ 47) × (s ≡ true)
    by_slash true f true e = (eqb-true b 47 f, refl)
    by_slash true f false e = absurd (cc)
    by_slash false f s e = absurd (cc)

star_seam : (b x : ℕ) (p : List ℕ) → b ≡ 47 → ((tail : List ℕ) → after_blank (b ∷ x ∷ (p ++ (10 ∷ tail))) ≡ after_comment (p ++ (10 ∷ tail))) → CommentSeam p
    → BlankSeam (b ∷ x ∷ p)
star_seam b x p e h (closed r g) = within r (λ tail. h tail ∙ g tail)
star_seam b x p e h (open' g) = open_comment (h [] ∙ g) (rw e (slash_none (x ∷ (p ++ (10 ∷ [])))))

slash_seam : (b : ℕ) (p : List ℕ) → b ≡ 47 → ((tail : List ℕ) → begins 42 (p ++ (10 ∷ tail)) ≡ true)
    → ((tail : List ℕ) → after_blank (b ∷ (p ++ (10 ∷ tail))) ≡ after_comment (drop 1 (p ++ (10 ∷ tail)))) → BlankSeam (b ∷ p)
slash_seam b [] e s h = let no : false ≡ true = s [] in absurd (cc)
slash_seam b (x ∷ p) e s h = star_seam b x p e h (comment_seam p)

blank_by : (b : ℕ) (p : List ℕ) (o s u v w : Bool) → ((tail : List ℕ) → opens_line (p ++ (10 ∷ tail)) ≡ o)
    → ((tail : List ℕ) → begins 42 (p ++ (10 ∷ tail)) ≡ s) → is_space b ≡ u → (b == 35 || b == 45 && o) ≡ v → (b == 47 && s) ≡ w → BlankSeam (b ∷ p)
blank_by b p o s true v w h k e f g = within p (λ tail. after_blank_is b p o s h k tail ∙ rw e refl)
blank_by b p o s false true w h k e f g = line_seam b p (λ tail. after_blank_is b p o s h k tail ∙ rw (e, f) refl) (line_cut p)
blank_by b p o s false false true h k e f g =
    let both = slashes b s g in
    slash_seam b p both.0 (λ tail. k tail ∙ both.1) (λ tail. after_blank_is b p o s h k tail ∙ rw (e, f, g) refl)
blank_by b p o s false false false h k e f g = quiet (λ tail. after_blank_is b p o s h k tail ∙ rw (e, f, g) refl)

blank_seam : (p : List ℕ) → BlankSeam p
unfolding after_blank
blank_seam [] = through (λ tail. refl)
blank_seam (b ∷ p) =
    let o = opens_same p in let s = begins_same 42 p in
    blank_by b p o.0 s.0 (is_space b) (b == 35 || b == 45 && o.0) (b == 47 && s.0) o.1 s.1 refl refl refl

-- ---- all of the bytes

or_else : {A : Type 0} → A → Option A → A
or_else x None = x
or_else x (Some y) = y

some_same : {A : Type 0} (x y : A) → Some x ≡ Some y → x ≡ y
unfolding or_else
some_same x y e = ap (λ o. or_else x o) e

no_some : {A B : Type 0} (x : A) → None ≡ Some x → B
no_some x e = absurd (cc)

no_tokens : {bytes : List ℕ} {tokens : List Token} → AreTokens bytes tokens → bytes ≡ [] → tokens ≡ []
unfolding after_blank token_at
no_tokens spelled.nothing e = refl
no_tokens (spelled.blank {rest = rest} f a) e = let g : after_blank [] ≡ Some rest = subst (λ (z : List ℕ). after_blank z ≡ Some rest) e f in absurd (cc)
no_tokens (spelled.token {rest = rest} {first = t} n f a) e =
    let g : token_at [] ≡ Some (t, rest) = subst (λ (z : List ℕ). token_at z ≡ Some (t, rest)) e f in absurd (cc)

-- whatever stands behind
abbrev Goes : List ℕ → List Token → Type 0
Goes p tokens = (tail : List ℕ) (more : List Token) → AreTokens tail more → AreTokens (p ++ (10 ∷ tail)) (tokens ++ more)

over_blank : (p rest : List ℕ) (tokens : List Token) → after_blank (p ++ (10 ∷ [])) ≡ Some rest → AreTokens rest tokens → BlankSeam p
    → ((r : List ℕ) → rest ≡ r ++ (10 ∷ []) → Goes r tokens) → Goes p tokens
over_blank p rest tokens f a (within r h) goes tail more b = spelled.blank (h tail) (goes r (some_same rest (r ++ (10 ∷ [])) (sym f ∙ h [])) tail more b)
over_blank p rest tokens f a (through h) goes tail more b =
    let none_left : tokens ≡ [] = no_tokens a (some_same rest [] (sym f ∙ h [])) in
    subst (λ (ts : List Token). AreTokens (p ++ (10 ∷ tail)) (ts ++ more)) (sym none_left) (spelled.blank (h tail) b)
over_blank p rest tokens f a (quiet h) goes tail more b = no_some rest (sym (h []) ∙ f)
over_blank p rest tokens f a (open_comment e g) goes tail more b = no_some rest (sym e ∙ f)

by_token : (b : ℕ) (p rest : List ℕ) (t : Token) (tokens : List Token) → ((tail : List ℕ) → after_blank (b ∷ (p ++ (10 ∷ tail))) ≡ None)
    → token_at (b ∷ (p ++ (10 ∷ []))) ≡ Some (t, rest) → Seam (λ x. token_at (b ∷ x)) p
    → ((r : List ℕ) → rest ≡ r ++ (10 ∷ []) → Goes r tokens) → Goes (b ∷ p) (t ∷ tokens)
by_token b p rest t tokens h f (none e) goes tail more a = no_some (t, rest) (sym e ∙ f)
by_token b p rest t tokens h f (some y r g) goes tail more a =
    let same : (t, rest) ≡ (y, r ++ (10 ∷ [])) = some_same (t, rest) (y, r ++ (10 ∷ [])) (sym f ∙ g []) in
    let is : t ≡ y = ap (λ (x : Token × List ℕ). x.0) same in
    let left : rest ≡ r ++ (10 ∷ []) = ap (λ (x : Token × List ℕ). x.1) same in
    subst (λ (z : Token). AreTokens (b ∷ (p ++ (10 ∷ tail))) (z ∷ (tokens ++ more))) (sym is) (spelled.token (h tail) (g tail) (goes r left tail more a))

line_blank : after_blank (10 ∷ []) ≡ Some []
unfolding after_blank
line_blank = refl

over_token : (p rest : List ℕ) (t : Token) (tokens : List Token) → after_blank (p ++ (10 ∷ [])) ≡ None → token_at (p ++ (10 ∷ [])) ≡ Some (t, rest)
    → BlankSeam p → ((r : List ℕ) → rest ≡ r ++ (10 ∷ []) → Goes r tokens) → Goes p (t ∷ tokens)
over_token p rest t tokens n f (within r h) goes = no_some (r ++ (10 ∷ [])) (sym n ∙ h [])
over_token p rest t tokens n f (through h) goes = no_some [] (sym n ∙ h [])
over_token p rest t tokens n f (open_comment e g) goes = no_some (t, rest) (sym g ∙ f)
over_token [] rest t tokens n f (quiet h) goes = no_some [] (sym n ∙ line_blank)
over_token (b ∷ p) rest t tokens n f (quiet h) goes = by_token b p rest t tokens h f (token_seam b p) goes

pub seam : {bytes : List ℕ} {tokens : List Token} → AreTokens bytes tokens → (p : List ℕ) → bytes ≡ p ++ (10 ∷ []) → Goes p tokens
seam spelled.nothing [] e = absurd (cc)
seam spelled.nothing (b ∷ p) e = absurd (cc)
seam (spelled.blank {rest = rest} {tokens = tokens} f a) p e =
    over_blank p rest tokens (subst (λ (z : List ℕ). after_blank z ≡ Some rest) e f) a (blank_seam p) (λ r g. seam a r g)
seam (spelled.token {rest = rest} {first = t} {tokens = tokens} n f a) p e =
    over_token p rest t tokens (subst (λ (z : List ℕ). after_blank z ≡ None) e n) (subst (λ (z : List ℕ). token_at z ≡ Some (t, rest)) e f) (blank_seam p)
    (λ r g. seam a r g)
