-- What a store shows of which nothing is ever put off: it tells everything, and has no pages, or all of them are at hand.
use Rattle.std.specs.Prelude.{ℕ, IsTrue, IsSome, IfSome}
use Rattle.world.specs.AtHand.{ArePagesAtHand, AreVersionsAtHand, IsIndexAtHand}
use Rattle.index_store.specs.State.{StoreState}

pub record IsStoreAtHand (store : StoreState) : Type 0 where
  pub pairs : (index : ℕ) → IsSome (store.indexes index).pairs
  pub versions : IsTrue store.versions.told
  pub pages : IfSome store.paged ArePagesAtHand
  pub pages_of_index : (index : ℕ) → IsIndexAtHand (store.indexes index)
  pub pages_of_versions : IfSome store.versions.paged AreVersionsAtHand
