use Rattle.law_locks.proofs.Pinning.{newest_all, older_later}
use Rattle.law_locks.proofs.searching.records_found_are_pinned.Goals as goal

pub returns : goal.returns
returns c = record {
  found = λ txn index records locks key log stands own. record { pins = record { stands = stands; own = own }; older = newest_all index key log };
  later = λ txn index records locks key made later log le was. record { pins = was.pins; older = older_later index key made later log le was.older };
}
