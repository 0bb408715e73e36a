-- What is written of a script.
use Rattle.std.proofs.lemmas.List.Sums.{prefix_len-le-length}

pub ruleset runs = prefix_len-le-length
