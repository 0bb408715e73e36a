-- A store in memory tells everything, and has no pages: so nothing is ever put off, and pages are never lacking.
use Rattle.std.specs.Prelude.{◌≡◌, ℕ, IsSome, slice_get, Option, None, Some, refl}
use Rattle.entries.specs.declared.list_index.ListIndex.{ListIndex}
use Rattle.world.specs.AtHand.{IsIndexAtHand}
use Rattle.index_store.specs.AtHand.{IsStoreAtHand}
use Rattle.list_store.specs.Parts.{ListParts, store_of, index_of_list}

pairs_of_list : (list : Option ListIndex) → IsSome (index_of_list list).pairs
pairs_of_list None = refl
pairs_of_list (Some list) = refl

no_page_of_list : (list : Option ListIndex) → (index_of_list list).paged ≡ None
no_page_of_list None = refl
no_page_of_list (Some list) = refl

list_at_hand : (list : Option ListIndex) → IsIndexAtHand (index_of_list list)
list_at_hand None = record {}
list_at_hand (Some list) = record {}

pub at_hand : (parts : ListParts) → IsStoreAtHand (store_of parts)
at_hand parts = record {
  pairs = λ index. pairs_of_list (slice_get parts.indexes index);
  versions = refl;
  pages = record {};
  pages_of_index = λ index. list_at_hand (slice_get parts.indexes index);
  pages_of_versions = record {};
}

pub no_page_of_index : (parts : ListParts) (index : ℕ) → ((store_of parts).indexes index).paged ≡ None
no_page_of_index parts index = no_page_of_list (slice_get parts.indexes index)
