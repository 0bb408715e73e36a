-- That a text begins a statement exactly where one of these ends makes it the first tokens of one.
use Rattle.std.proofs.Common.{◌≡◌, ◌⊎◌, inl, inr, ℕ, ◌+◌, ◌-◌, ◌<◌, ◌≤◌, List, [], ◌∷◌, ◌++◌, length, take, drop, Some, Result, Ok, Err, Bool, true}
use Rattle.std.proofs.Common.{false, refl, ◌∙◌, ap, sym, subst, arith, append_assoc, length-append}
use Rattle.std.specs.Prelude.{◌==◌, IfOk, codes, Any, Contains, slice_index_or}
use Rattle.std.proofs.lemmas.Bool.{eqb-true}
use Rattle.std.specs.Bool.{Decides}
use Rattle.std.proofs.lemmas.Slice.Eq.{bytes_eq-Decides}
use Rattle.std.proofs.lemmas.List.{append-nil, length-map, get_or_read}
use Rattle.std.specs.Char.{to_ascii_uppercase}
use Rattle.std.proofs.Math.Seq.{take-append_seam, drop-append_seam, take-length}
use Rattle.inno_types.specs.declared.stmt.Stmt.TheVariants as stmt
use Rattle.sql_grammar.specs.declared.token.Word.{Word}
use Rattle.sql_grammar.specs.declared.token.Word.TheVariants as word
use Rattle.sql_grammar.specs.declared.token.Token.{Token}
use Rattle.sql_grammar.specs.declared.token.Token.TheVariants.{Bare}
use Rattle.sql_grammar.specs.Words.{capitals, spelling, reserved, others}
use Rattle.sql_grammar.specs.Tokens.{after_blank, token_at, sign_at, word_token, AreTokens}
use Rattle.sql_grammar.specs.Tokens as spelled
use Rattle.sql_grammar.specs.Grammar.{Spells, Statement}
use Rattle.sql_grammar.specs.Grammar as grammar
use Rattle.sql_prefix.specs.declared.prefix.TokenEnd.{TokenEnd}
use Rattle.sql_prefix.specs.declared.prefix.TokenEnd.TheVariants as token
use Rattle.sql_prefix.specs.Endings.{token_end}
use Rattle.sql_prefix.specs.Prefix.{Begins, ended, IsCutOff, GoesOnByToken, ends_in, GoesOnAt, GoesOn, GoesOnByWord, IsBetween, IsLongestPrefix}
use Rattle.sql_prefix.proofs.Cuts.{closers}
use Rattle.sql_prefix.proofs.CutStatements.{Done, done, statement_done}
use Rattle.sql_prefix.proofs.Tokens.{Fixed, LexEnd, LexCut, lexed, fixed, rest_of_word, lex_cut}
use Rattle.sql_prefix.proofs.Tokens as tokens
use Rattle.sql_text.specs.Parsed.{IsFront}
use Rattle.sql_text.proofs.Fronts.{finish}
use Rattle.sql_prefix.proofs.Seam.{seam}

-- ---- what is cut off is found

front_of : {us : List Token} → Done Statement us → IsFront us
front_of (done f g n e l s st) = (f ++ (closers n ++ g), s, st)

cut_off : (p e : List ℕ) (us : List Token) → ((tail : List ℕ) (more : List Token) → AreTokens tail more → AreTokens (p ++ (e ++ (10 ∷ tail))) (us ++ more))
    → IsFront us → IsCutOff p e
cut_off p e us reads d =
    record { tokens = us; lexed = subst (λ (z : List Token). AreTokens (ended p e) z) (append-nil us) (reads [] [] spelled.nothing); begun = d }

fixed_end : {e : List ℕ} → Fixed e → (t : TokenEnd) × (e ≡ token_end t)
fixed_end tokens.nothing = (token.Nothing, refl)
fixed_end tokens.underscore = (token.Underscore, refl)
fixed_end tokens.equal = (token.Equal, refl)
fixed_end tokens.minus = (token.Minus, refl)
fixed_end tokens.end_of_comment = (token.EndOfComment, refl)
fixed_end tokens.comment = (token.Comment, refl)
fixed_end tokens.backquote = (token.Backquote, refl)
fixed_end tokens.name = (token.Name, refl)
fixed_end tokens.backquotes = (token.Backquotes, refl)
fixed_end tokens.quote = (token.Quote, refl)
fixed_end tokens.text = (token.Text, refl)
fixed_end tokens.double_quote = (token.DoubleQuote, refl)
fixed_end tokens.double_text = (token.DoubleText, refl)

front_taken : (xs ys : List ℕ) → take (length xs) (xs ++ ys) ≡ xs
front_taken xs ys = take-append_seam xs ys

front_dropped : (xs ys : List ℕ) → drop (length xs) (xs ++ ys) ≡ ys
front_dropped xs ys = drop-append_seam xs ys

ends_with_it : (front last : List ℕ) → ends_in (front ++ last) (capitals last) ≡ true
ends_with_it front last =
    let caps : length (capitals last) ≡ length last = length-map last to_ascii_uppercase in
    let skipped : length (front ++ last) - length (capitals last) ≡ length front = omega (arith, caps, length-append front last) in
    let rest : drop (length (front ++ last) - length (capitals last)) (front ++ last) ≡ last = ap
    (λ (n : ℕ). drop n (front ++ last)) skipped ∙ front_dropped front last in
    (bytes_eq-Decides (capitals (drop (length (front ++ last) - length (capitals last)) (front ++ last))) (capitals last)).1
    (ap (λ (z : List ℕ). capitals z) rest)

word_goes_on : (front head tail : List ℕ) → 1 ≤ length head → IsCutOff (front ++ head) tail → GoesOn (front ++ head) (capitals head ++ tail)
word_goes_on front head tail le c =
    let n = length (capitals head) in (
      n,
      omega (arith, le, length-map head to_ascii_uppercase),
      omega (arith, length-append (capitals head) tail),
      (
        subst (λ (z : List ℕ). ends_in (front ++ head) z ≡ true) (sym (front_taken (capitals head) tail)) (ends_with_it front head),
        subst (λ (z : List ℕ). IsCutOff (front ++ head) z) (sym (front_dropped (capitals head) tail)) c,
      ),
    )

by_end : (p e : List ℕ) → LexEnd p e → IsCutOff p e → GoesOnByToken p ⊎ GoesOnByWord p
by_end p e (fixed f) c = let t = fixed_end f in inl (t.0, subst (λ (z : List ℕ). IsCutOff p z) t.1 c)
by_end p e (rest_of_word w front head tail le parts same) c =
    inr (
      w,
      subst (λ (z : List ℕ). GoesOn p z) same (subst (λ (z : List ℕ). GoesOn z (capitals head ++ e)) (sym parts)
          (word_goes_on front head e le (subst (λ (z : List ℕ). IsCutOff z e) parts c))),
    )

pub begins_found : (bytes : List ℕ) → Begins bytes → GoesOnByToken bytes ⊎ GoesOnByWord bytes
begins_found bytes b = by_cut (lex_cut b.1.1.lexed bytes b.0 refl)
  where
    by_cut : LexCut bytes b.1.1.tokens → GoesOnByToken bytes ⊎ GoesOnByWord bytes
    by_cut (lexed e us l u reads) = by_end bytes e l (cut_off bytes e us reads (front_of (statement_done b.1.1.parsed u)))

-- ---- what is found begins a statement

pub cut_off_begins : (bytes e : List ℕ) → IsCutOff bytes e → Begins bytes
cut_off_begins bytes e c =
    let f = finish c.tokens c.begun in
    let tail = f.1.0 ++ [] in
    let line : ended bytes e ≡ (bytes ++ e) ++ (10 ∷ []) = sym (append_assoc bytes e (10 ∷ [])) in
    let all = seam c.lexed (bytes ++ e) line tail (f.0 ++ []) (f.1.1 [] [] spelled.nothing) in
    let tokens = subst (λ (g : List Token). AreTokens ((bytes ++ e) ++ (10 ∷ tail)) (c.tokens ++ g)) (append-nil f.0) all in
    let read = subst (λ (z : List ℕ). AreTokens z (c.tokens ++ f.0)) (append_assoc bytes e (10 ∷ tail)) tokens in
    (e ++ (10 ∷ tail), (f.2.0, record { tokens = c.tokens ++ f.0; lexed = read; parsed = f.2.1 }))

pub token_begins : (bytes : List ℕ) → GoesOnByToken bytes → Begins bytes
token_begins bytes g = cut_off_begins bytes (token_end g.0) g.1

pub word_begins : (bytes : List ℕ) → GoesOnByWord bytes → Begins bytes
word_begins bytes g = cut_off_begins bytes (drop g.1.0 (spelling g.0)) g.1.3.1

begin_read : AreTokens (codes "BEGIN") (Bare (Some word.Begin) (codes "BEGIN") ∷ [])
unfolding after_blank token_at word_token
begin_read = spelled.token refl refl spelled.nothing

pub nothing_begins : Begins []
nothing_begins = (
  codes "BEGIN",
  (
    stmt.Begin false,
    record {
      tokens = Bare (Some word.Begin)
          (codes "BEGIN") ∷ [];
      lexed = begin_read;
      parsed = grammar.begin grammar.unsaid;
    },
  ),
)

-- ---- each of them is tried

abbrev pub all_token_ends : List TokenEnd
all_token_ends =
    token.Nothing ∷ token.Underscore ∷ token.Equal ∷ token.Minus ∷ token.EndOfComment ∷ token.Comment ∷ token.Backquote ∷ token.Name ∷ token.Backquotes ∷
    token.Quote ∷ token.Text ∷ token.DoubleQuote ∷ token.DoubleText ∷ []

pub has_token_end : (e : TokenEnd) → Contains all_token_ends e
has_token_end token.Nothing = (0, omega arith, refl)
has_token_end token.Underscore = (1, omega arith, refl)
has_token_end token.Equal = (2, omega arith, refl)
has_token_end token.Minus = (3, omega arith, refl)
has_token_end token.EndOfComment = (4, omega arith, refl)
has_token_end token.Comment = (5, omega arith, refl)
has_token_end token.Backquote = (6, omega arith, refl)
has_token_end token.Name = (7, omega arith, refl)
has_token_end token.Backquotes = (8, omega arith, refl)
has_token_end token.Quote = (9, omega arith, refl)
has_token_end token.Text = (10, omega arith, refl)
has_token_end token.DoubleQuote = (11, omega arith, refl)
has_token_end token.DoubleText = (12, omega arith, refl)

-- a key word is in one of the two lists
has_word : (w : Word) → Contains reserved w ⊎ Contains others w
has_word word.And = inl (0, omega arith, refl)
has_word word.Between = inl (1, omega arith, refl)
has_word word.BigInt = inl (2, omega arith, refl)
has_word word.Create = inl (3, omega arith, refl)
has_word word.Delete = inl (4, omega arith, refl)
has_word word.Exists = inl (5, omega arith, refl)
has_word word.For = inl (6, omega arith, refl)
has_word word.From = inl (7, omega arith, refl)
has_word word.If = inl (8, omega arith, refl)
has_word word.In = inl (9, omega arith, refl)
has_word word.Index = inl (10, omega arith, refl)
has_word word.Insert = inl (11, omega arith, refl)
has_word word.Into = inl (12, omega arith, refl)
has_word word.Is = inl (13, omega arith, refl)
has_word word.Key = inl (14, omega arith, refl)
has_word word.Lock = inl (15, omega arith, refl)
has_word word.Not = inl (16, omega arith, refl)
has_word word.Null = inl (17, omega arith, refl)
has_word word.Or = inl (18, omega arith, refl)
has_word word.Primary = inl (19, omega arith, refl)
has_word word.Select = inl (20, omega arith, refl)
has_word word.Set = inl (21, omega arith, refl)
has_word word.Table = inl (22, omega arith, refl)
has_word word.To = inl (23, omega arith, refl)
has_word word.Update = inl (24, omega arith, refl)
has_word word.Values = inl (25, omega arith, refl)
has_word word.VarBinary = inl (26, omega arith, refl)
has_word word.Where = inl (27, omega arith, refl)
has_word word.With = inl (28, omega arith, refl)
has_word word.Autocommit = inr (0, omega arith, refl)
has_word word.Begin = inr (1, omega arith, refl)
has_word word.Commit = inr (2, omega arith, refl)
has_word word.Committed = inr (3, omega arith, refl)
has_word word.Consistent = inr (4, omega arith, refl)
has_word word.Engine = inr (5, omega arith, refl)
has_word word.InnoDb = inr (6, omega arith, refl)
has_word word.Isolation = inr (7, omega arith, refl)
has_word word.Level = inr (8, omega arith, refl)
has_word word.Mode = inr (9, omega arith, refl)
has_word word.Off = inr (10, omega arith, refl)
has_word word.On = inr (11, omega arith, refl)
has_word word.Read = inr (12, omega arith, refl)
has_word word.Repeatable = inr (13, omega arith, refl)
has_word word.Rollback = inr (14, omega arith, refl)
has_word word.Savepoint = inr (15, omega arith, refl)
has_word word.Serializable = inr (16, omega arith, refl)
has_word word.Session = inr (17, omega arith, refl)
has_word word.Share = inr (18, omega arith, refl)
has_word word.Snapshot = inr (19, omega arith, refl)
has_word word.Start = inr (20, omega arith, refl)
has_word word.Transaction = inr (21, omega arith, refl)
has_word word.Uncommitted = inr (22, omega arith, refl)
has_word word.Value = inr (23, omega arith, refl)
has_word word.Work = inr (24, omega arith, refl)

-- by one of all, or by none
pub tried : {A : Type 0} (P : A → Type 0) (xs : List A) → ((x : A) → Contains xs x) → (b : Bool) → Decides b (Any P xs) → Decides b ((x : A) × P x)
tried P xs has b d = ((λ e. let a = d.0 e in (a.1, a.4)), (λ p. let c = has p.0 in d.1 (c.0, p.0, c.1, c.2, p.1)))

-- what is tried decides
pub by_token : (bytes : List ℕ) (b : Bool) → b ≡ true → Decides b (GoesOnByToken bytes) → Decides true (Begins bytes)
by_token bytes b e d = ((λ f. token_begins bytes (d.0 e)), (λ g. refl))

pub by_word : (bytes : List ℕ) (b w : Bool) → b ≡ false → Decides b (GoesOnByToken bytes) → Decides w (GoesOnByWord bytes) → Decides w (Begins bytes)
by_word bytes b w e d h = ((λ f. word_begins bytes (h.0 f)), (λ g. either (begins_found bytes g)))
  where
    either : GoesOnByToken bytes ⊎ GoesOnByWord bytes → w ≡ true
    either (inl t) = let f : false ≡ true = sym e ∙ d.1 t in absurd (cc)
    either (inr t) = h.1 t

-- by a reserved word, or by another one
pub by_one_of : (bytes : List ℕ) (words : List Word) (b : Bool) → b ≡ true → Decides b (Any (λ w. GoesOn bytes (spelling w)) words)
    → Decides true (GoesOnByWord bytes)
by_one_of bytes words b e d = ((λ f. let a = d.0 e in (a.1, a.4)), (λ g. refl))

by_either : (bytes : List ℕ) (first second : List Word) (b w : Bool) → first ≡ reserved → second ≡ others → b ≡ false
    → Decides b (Any (λ w. GoesOn bytes (spelling w)) first) → Decides w (Any (λ w. GoesOn bytes (spelling w)) second) → Decides w (GoesOnByWord bytes)
by_either bytes first second b w p q e d h = ((λ f. let a = h.0 f in (a.1, a.4)), (λ g. either g (has_word g.0)))
  where
    either : (g : GoesOnByWord bytes) → Contains reserved g.0 ⊎ Contains others g.0 → w ≡ true
    either g (inl a) =
        let c = subst (λ (ws : List Word). Contains ws g.0) (sym p) a in
        let f : false ≡ true = sym e ∙ d.1 (c.0, g.0, c.1, c.2, g.1) in
        absurd (cc)
    either g (inr a) = let c = subst (λ (ws : List Word). Contains ws g.0) (sym q) a in h.1 (c.0, g.0, c.1, c.2, g.1)

-- ---- texts with an end

-- ---- loops

-- the first items fail
abbrev pub NoneBefore : {A : Type 0} → (A → Type 0) → List A → ℕ → Type 0
NoneBefore P xs n = (k : ℕ) (x : _) → k < n → slice_index_or xs k x ≡ x → P x → ⊥

pub none_more : {A : Type 0} (P : A → Type 0) (xs : List A) (n : ℕ) (y : A) → n < length xs → slice_index_or xs n y ≡ y → (P y → ⊥) → NoneBefore P xs n
    → NoneBefore P xs (n + 1)
none_more P xs n y le e h none k x l f p = by_place (k == n) refl
  where
    by_place : (t : Bool) → (k == n) ≡ t → ⊥
    by_place true g =
        let same : k ≡ n = eqb-true k n g in
        let one : slice_index_or xs n x ≡ x = subst (λ (z : ℕ). slice_index_or xs z x ≡ x) same f in
        h (subst (λ (z : _). P z) (sym one ∙ sym (get_or_read xs n y le (sym e) x)) p)
    by_place false g = none k x (grind arith) f p

pub none_at_all : {A : Type 0} (P : A → Type 0) (xs : List A) (n : ℕ) → length xs ≤ n → NoneBefore P xs n → Decides false (Any P xs)
none_at_all P xs n le none = ((λ e. absurd (cc)), (λ a. absurd (none a.0 a.1 (omega (arith, a.2)) a.3 a.4)))

pub one_there : {A : Type 0} (P : A → Type 0) (xs : List A) (n : ℕ) (y : A) → n < length xs → slice_index_or xs n y ≡ y → P y → Decides true (Any P xs)
one_there P xs n y le e p = ((λ f. (n, y, le, e, p)), (λ a. refl))

-- ---- the search of the place

pub from_nothing : (bytes : List ℕ) → (Begins bytes → ⊥) → IsBetween bytes 0 (length bytes)
from_nothing [] h = absurd (h nothing_begins)
from_nothing (x ∷ bytes) h =
    record { apart = omega arith; within = omega arith; begins = nothing_begins; fails = λ g. h (subst (λ (z : List ℕ). Begins z) (take-length (x ∷ bytes)) g) }

pub from_there : (bytes front : List ℕ) (at : ℕ) (b : Bool) → (Begins bytes → ⊥) → at < length bytes → front ≡ take at bytes → b ≡ true
    → Decides b (Begins front) → IsBetween bytes at (length bytes)
from_there bytes front at b h le same e d =
    record {
      apart = le;
      within = omega arith;
      begins = subst (λ (z : List ℕ). Begins z) same (d.0 e);
      fails = λ g. h (subst (λ (z : List ℕ). Begins z) (take-length bytes) g);
    }

pub end_search : (bytes : List ℕ) (low high : ℕ) → high - low ≤ 1 → IsBetween bytes low high → IsLongestPrefix bytes low
end_search bytes low high le b =
    let next : high ≡ low + 1 = omega (arith, b.apart, le) in
    record { within = omega (arith, b.apart, b.within); begins = b.begins; longest = λ l g. b.fails (subst (λ (n : ℕ). Begins (take n bytes)) (sym next) g) }

-- ---- the same of a result

pub tried_ok : {A : Type 0} {E : Type 0} (P : A → Type 0) (xs : List A) → ((x : A) → Contains xs x) → (r : Result Bool E) → IfOk r (λ b. Decides b (Any P xs))
    → IfOk r (λ b. Decides b ((x : A) × P x))
tried_ok P xs has (Ok b) d = tried P xs has b d
tried_ok P xs has (Err e) d = tt

pub by_word_ok : {E : Type 0} (bytes : List ℕ) (b : Bool) (r : Result Bool E) → b ≡ false → Decides b (GoesOnByToken bytes)
    → IfOk r (λ w. Decides w (GoesOnByWord bytes)) → IfOk r (λ w. Decides w (Begins bytes))
by_word_ok bytes b (Ok w) e d h = by_word bytes b w e d h
by_word_ok bytes b (Err x) e d h = tt

pub by_either_ok : {E : Type 0} (bytes : List ℕ) (first second : List Word) (b : Bool) (r : Result Bool E) → first ≡ reserved → second ≡ others → b ≡ false
    → Decides b (Any (λ w. GoesOn bytes (spelling w)) first) → IfOk r (λ w. Decides w (Any (λ w. GoesOn bytes (spelling w)) second))
    → IfOk r (λ w. Decides w (GoesOnByWord bytes))
by_either_ok bytes first second b (Ok w) p q e d h = by_either bytes first second b w p q e d h
by_either_ok bytes first second b (Err x) p q e d h = tt

pub one_place : (bytes word : List ℕ) (n : ℕ) → n < length word → GoesOnAt bytes word (n + 1) → Decides true (GoesOn bytes word)
one_place bytes word n le g = ((λ f. (n + 1, omega arith, omega (arith, le), g)), (λ h. refl))
