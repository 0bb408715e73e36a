-- From the parser's answers to those of this crate, and what a refusal's place is.
use Rattle.std.proofs.Common.{◌≡◌, ℕ, ◌≤◌, List, length, refl, sym, subst, arith}
use Rattle.std.specs.Prelude.{min}
use Rattle.sql_text.specs.declared.parser.NotParsed.TheVariants.{NoStatement}
use Rattle.sql_text.specs.Parsed.{IsRefused}
use Rattle.sql_prefix.specs.declared.parser.ParseBad.{ParseBad}
use Rattle.sql_prefix.specs.declared.parser.ParseBad.TheVariants.{Syntax}
use Rattle.sql_prefix.specs.Prefix.{IsLongestPrefix}
use Rattle.sql_prefix.specs.Refused.{IsFirstBad, IsRefusedAt}

pub refused_at : (bytes : List ℕ) (e : ParseBad) (longest : ℕ) → e ≡ Syntax (min longest 4294967295) → IsLongestPrefix bytes longest
    → IsRefused bytes NoStatement → IsRefusedAt bytes e
refused_at bytes e longest same l r = subst (λ (z : ParseBad). IsRefusedAt bytes z) (sym same) (longest, l, refl, r)

pub first_bad : (bytes : List ℕ) (at : ℕ) → IsRefusedAt bytes (Syntax at) → IsFirstBad bytes at
first_bad bytes at r = (r.0, r.1, r.2)

pub exactly : (bytes : List ℕ) (at : ℕ) → IsFirstBad bytes at → length bytes ≤ 4294967295 → IsLongestPrefix bytes at
exactly bytes at p le =
    let same : p.0 ≡ at = omega (arith, p.2, p.1.within, le) in
    subst (λ (n : ℕ). IsLongestPrefix bytes n) same p.1
