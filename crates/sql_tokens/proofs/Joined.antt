-- One more blank or token behind what was read, and what follows from all of it.
use Rattle.std.proofs.Common.{◌≡◌, ℕ, Bool, true, List, [], ◌∷◌, ◌++◌, length, Option, Some, None, refl, sym, ap, ◌∙◌, subst, arith}
use Rattle.std.specs.Prelude.{◌==◌}
use Rattle.sql_tokens.proofs.Shorter.{no_blank, no_token}
use Rattle.sql_grammar.specs.declared.token.Token.{Token}
use Rattle.sql_grammar.specs.Tokens.{after_blank, token_at, AreTokens}
use Rattle.sql_grammar.specs.Tokens as spelled
use Rattle.sql_tokens.specs.Reading.{BeginWith, Stops, IsLexed}
use Rattle.sql_tokens.specs.Reading as read

pub blank_more : {bytes rest after lefts : List ℕ} {tokens : List Token} → BeginWith bytes tokens lefts rest → after_blank rest ≡ Some after → BeginWith bytes tokens lefts after
blank_more read.here e = read.blank e read.here
blank_more (read.blank f b) e = read.blank f (blank_more b e)
blank_more (read.token f g b) e = read.token f g (blank_more b e)

pub token_more : {bytes rest after lefts : List ℕ} {tokens : List Token} {token : Token} → BeginWith bytes tokens lefts rest → after_blank rest ≡ None → token_at rest ≡ Some (token, after)
    → BeginWith bytes (tokens ++ token ∷ []) (lefts ++ length rest ∷ []) after
token_more read.here n e = read.token n e read.here
token_more (read.blank f b) n e = read.blank f (token_more b n e)
token_more (read.token f g b) n e = read.token f g (token_more b n e)

abbrev or_else : {A : Type 0} → A → Option A → A
or_else x None = x
or_else x (Some y) = y

-- ---- all of the bytes

pub tokens_to_end : {bytes lefts : List ℕ} {tokens : List Token} → BeginWith bytes tokens lefts [] → AreTokens bytes tokens
tokens_to_end read.here = spelled.nothing
tokens_to_end (read.blank e b) = spelled.blank e (tokens_to_end b)
tokens_to_end (read.token n e b) = spelled.token n e (tokens_to_end b)

pub begun : (bytes lefts : List ℕ) (tokens : List Token) → tokens ≡ [] → lefts ≡ [] → BeginWith bytes tokens lefts bytes
begun bytes lefts tokens e f = rw (e, f) read.here

pub ended : (rest : List ℕ) (empty : Bool) → empty ≡ (length rest == 0) → empty ≡ true → Stops rest
ended [] empty e t = read.ends
ended (b ∷ rest) empty e t = absurd (grind arith)

-- ---- no other tokens

blank_only : {bytes after : List ℕ} {tokens : List Token} → AreTokens bytes tokens → after_blank bytes ≡ Some after → AreTokens after tokens
blank_only spelled.nothing e = absurd (no_blank _ e)
blank_only {after = after} {tokens = tokens} (spelled.blank {rest = rest} f a) e = let same : rest ≡ after = cc in subst (λ (r : List ℕ). AreTokens r tokens) same a
blank_only (spelled.token n f a) e = cc

token_only : {bytes after : List ℕ} {tokens : List Token} {t : Token} → AreTokens bytes tokens → after_blank bytes ≡ None → token_at bytes ≡ Some (t, after) → (more : List Token) × (tokens ≡ t ∷ more) × AreTokens after more
token_only spelled.nothing n e = absurd (no_token _ _ e)
token_only (spelled.blank f a) n e = cc
token_only {after = after} {t = t} (spelled.token {rest = rest} {first = first} {tokens = others} m f a) n e =
    let both : Some (first, rest) ≡ Some (t, after) = sym f ∙ e in
    let token_same : first ≡ t = ap (λ (o : Option (Token × List ℕ)). (or_else (first, rest) o).0) both in
    let rest_same : rest ≡ after = ap (λ (o : Option (Token × List ℕ)). (or_else (first, rest) o).1) both in
    (others, ap (λ (x : Token). x ∷ others) token_same, subst (λ (r : List ℕ). AreTokens r others) rest_same a)

none_left : {rest : List ℕ} {tokens : List Token} → Stops rest → AreTokens rest tokens → (length rest ≡ 0) × (tokens ≡ [])
none_left s spelled.nothing = (refl, refl)
none_left read.ends (spelled.blank f a) = absurd (no_blank _ f)
none_left (read.no_token n m) (spelled.blank f a) = cc
none_left read.ends (spelled.token m f a) = absurd (no_token _ _ f)
none_left (read.no_token n m) (spelled.token k f a) = cc

-- the tokens of all of the bytes are those that were read, and nothing is left
rest_of_all : {bytes rest lefts : List ℕ} {tokens others : List Token} → BeginWith bytes tokens lefts rest → Stops rest → AreTokens bytes others → (length rest ≡ 0) × (others ≡ tokens)
rest_of_all read.here s a = none_left s a
rest_of_all (read.blank e b) s a = rest_of_all b s (blank_only a e)
rest_of_all (read.token {first = first} n e b) s a =
    let t = token_only a n e in
    let r = rest_of_all b s t.2 in
    (r.0, t.1 ∙ ap (λ (ts : List Token). first ∷ ts) r.1)

pub others_same : (bytes lefts : List ℕ) (tokens others : List Token) (unread : ℕ) → IsLexed bytes tokens lefts unread → AreTokens bytes others → (unread ≡ 0) × (others ≡ tokens)
others_same bytes lefts tokens others unread l a = let r = rest_of_all l.begin l.stops a in (sym l.left ∙ r.0, r.1)

at_end : (rest bytes lefts : List ℕ) (tokens : List Token) → length rest ≡ 0 → BeginWith bytes tokens lefts rest → AreTokens bytes tokens
at_end [] bytes lefts tokens e b = tokens_to_end b
at_end (x ∷ rest) bytes lefts tokens e b = absurd (omega arith)

pub whole : (bytes lefts : List ℕ) (tokens : List Token) (unread : ℕ) → IsLexed bytes tokens lefts unread → unread ≡ 0 → AreTokens bytes tokens
whole bytes lefts tokens unread l e = at_end l.rest bytes lefts tokens (l.left ∙ e) l.begin
