-- A world over a store of which nothing is ever put off is such a world.
use Rattle.world.specs.AtHand.{IsAtHand}
use Rattle.index_store.specs.State.{StoreState}
use Rattle.index_store.specs.AtHand.{IsStoreAtHand}
use Rattle.parts_world.specs.Parts.{Parts, world_of}

pub at_hand : {S : Type 0} (store : StoreState) (parts : Parts S) → IsStoreAtHand store → IsAtHand (world_of store parts)
at_hand store parts kept = record {
  told = record { pairs = kept.pairs; versions = kept.versions };
  pages = kept.pages;
  indexes = kept.pages_of_index;
  versions = kept.pages_of_versions;
}
