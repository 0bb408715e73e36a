-- What follows what was read doesn't depend on what was read before.
use Rattle.std.proofs.Common.{◌≡◌, ℕ, List, Option, Some, None, refl}
use Rattle.std.proofs.lemmas.List.Sums.{prefix_len-le-length}
use Rattle.sql_grammar.specs.Tokens.{with_front}
use Rattle.script.specs.Parts.{behind}

pub behind_front : (front : List ℕ) (read : Option (List ℕ × List ℕ)) → behind (with_front front read) ≡ behind read
behind_front front None = refl
behind_front front (Some read) = refl

pub ruleset fronts = behind_front

pub ruleset runs = prefix_len-le-length
