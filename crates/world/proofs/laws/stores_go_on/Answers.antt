use Rattle.world.proofs.Stores.{store_stays, store_goes_on}
use Rattle.world.proofs.laws.stores_go_on.Goals as goal

pub returns-clause-stays : goal.returns-clause-stays
returns-clause-stays c = store_stays

pub returns-clause-goes : goal.returns-clause-goes
returns-clause-goes c = store_goes_on
