-- The same bytes are one list of tokens: what is a blank is no token, and each is as long as it goes.
-- The two lists are compared from their fronts.
use Rattle.std.proofs.Common.{◌≡◌, ℕ, List, [], Some, refl, sym, ap, ◌∙◌, subst}
use Rattle.sql_grammar.specs.declared.token.Token.{Token}
use Rattle.sql_grammar.specs.Tokens.{after_blank, token_at, AreTokens, nothing, blank, token}

no_blank : {A : Type 0} {rest : List ℕ} → after_blank [] ≡ Some rest → A
unfolding after_blank
no_blank e = absurd (cc)

no_token : {A : Type 0} {read : Token × List ℕ} → token_at [] ≡ Some read → A
unfolding token_at
no_token e = absurd (cc)

read_same : {x y : Token × List ℕ} → Some x ≡ Some y → (x.0 ≡ y.0) × (x.1 ≡ y.1)
read_same {x = x} {y = y} e = let both : x ≡ y = cc in (ap (λ (r : Token × List ℕ). r.0) both, ap (λ (r : Token × List ℕ). r.1) both)

pub tokens_one : {bytes : List ℕ} {ts us : List Token} → AreTokens bytes ts → AreTokens bytes us → ts ≡ us
tokens_one nothing nothing = refl
tokens_one nothing (blank f b) = no_blank f
tokens_one nothing (token n f b) = no_token f
tokens_one (blank e a) nothing = no_blank e
tokens_one {us = us} (blank {rest = rest} e a) (blank {rest = other} f b) =
    let same : other ≡ rest = cc in tokens_one a (subst (λ (r : List ℕ). AreTokens r us) same b)
tokens_one (blank e a) (token n f b) = absurd (cc)
tokens_one (token n e a) nothing = no_token e
tokens_one (token n e a) (blank f b) = absurd (cc)
tokens_one (token {rest = rest} {first = first} {tokens = ts} n e a) (token {rest = other} {first = second} {tokens = us} m f b) =
    let same = read_same (sym e ∙ f) in
    let more = tokens_one a (subst (λ (r : List ℕ). AreTokens r us) (sym same.1) b) in cc
