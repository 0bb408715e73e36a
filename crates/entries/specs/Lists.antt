-- What contracts see of an index that is a sorted vector.
use Rattle.std.specs.Prelude.{[], None, Some}
use Rattle.std.specs.Ordering.{nat_cmp}
use Rattle.std.specs.BTreeMap.{get}
use Rattle.entries.specs.declared.list_index.ListIndex.{ListIndex}
use Rattle.entries.specs.Index.{Index}

-- Its pairs are always told, and it has no pages.
abbrev pub shown : ListIndex → Index
shown list = record { pairs = Some list.pairs; place = get nat_cmp list.places; awaited = list.awaited; paged = None }

-- an index with no pairs, in which no actor has a place or is awaited
abbrev pub empty_index : Index
empty_index = record { pairs = Some []; place = λ actor. None; awaited = None; paged = None }
