-- What was read so far, and what is still read.
use Rattle.std.proofs.Common.{◌≡◌, ℕ, List, [], ◌++◌, Option, Some, None, refl, ap, sym, append_assoc}
use Rattle.std.proofs.lemmas.List.Sums.{prefix_len-le-length}
use Rattle.sql_grammar.specs.Tokens.{with_front}

pub front_none : (read : Option (List ℕ × List ℕ)) → with_front [] read ≡ read
front_none None = refl
front_none (Some read) = refl

pub front_more : (out more : List ℕ) (read : Option (List ℕ × List ℕ)) → with_front out (with_front more read) ≡ with_front (out ++ more) read
front_more out more None = refl
front_more out more (Some read) = ap (λ (front : List ℕ). Some (front, read.1)) (sym (append_assoc out more read.0))

pub ruleset fronts = (front_none, front_more)

pub ruleset runs = prefix_len-le-length
