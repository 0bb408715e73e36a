use Rattle.catalog.proofs.Declaring.{declared_could_be_made}
use Rattle.catalog.proofs.Declares.{could_be_declared}
use Rattle.catalog.proofs.laws.made_is_declared.Goals as goal

pub returns-clause-makeable : goal.returns-clause-makeable
returns-clause-makeable c = λ s d. declared_could_be_made s d

pub returns-clause-declared : goal.returns-clause-declared
returns-clause-declared c = λ s made. could_be_declared s made
