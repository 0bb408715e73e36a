use Rattle.law_locks.proofs.Spots.{some_spot, one_spot}
use Rattle.law_locks.proofs.searching.each_key_has_one_spot.Goals as goal

pub returns : goal.returns
returns c = record {
  some = λ records key. some_spot records key;
  one = λ records key spot other first second. one_spot records key spot other first second;
}
