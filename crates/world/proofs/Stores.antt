-- How a store goes on: from itself, and by one step after another.
use Rattle.std.proofs.Common.{Option, None, Some, arith}
use Rattle.world.specs.Stores.{Pages, StoreGoes}

pub store_stays : (store : Option Pages) → StoreGoes store store
store_stays None = tt
store_stays (Some paged) = record { faults = omega arith }

pub store_goes_on : (old mid new : Option Pages) → StoreGoes old mid → StoreGoes mid new → StoreGoes old new
store_goes_on None None None first next = tt
store_goes_on None None (Some new) first next = absurd next
store_goes_on None (Some mid) new first next = absurd first
store_goes_on (Some old) None new first next = absurd first
store_goes_on (Some old) (Some mid) None first next = absurd next
store_goes_on (Some old) (Some mid) (Some new) first next = record { faults = omega (arith, first.faults, next.faults) }
