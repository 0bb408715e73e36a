use Rattle.std.proofs.Common.{◌≡◌, length, Some, refl, ap}
use Rattle.std.specs.Prelude.{slice_get}
use Rattle.std.proofs.lemmas.Option.{slice_get_read}
use Rattle.entries.specs.Index.{IsAsBefore}
use Rattle.world.specs.State.{IsIndex}
use Rattle.list_store.specs.Parts.{ListParts}
use Rattle.list_store.proofs.Indexed.{tidied, index_within, calls_one}
use Rattle.list_store.proofs.store_calls.ListStoreIndexStore.stay.Goals as goal

pub returns : goal.returns
returns c =
    let l = c.self.inside in
    let schemas : l.schemas ≡ c.args.self.now.schemas = ap (λ (p : ListParts). p.schemas) c.self.view_is in
    let index : IsIndex l.schemas c.args.index = rw schemas c.requires in
    let there : slice_get l.indexes.items c.args.index ≡ Some c.index_mut.result.now =
    slice_get_read l.indexes.items (length l.indexes.items) c.args.index c.index_mut.result.now refl
    (index_within l.schemas c.args.index (length l.indexes.items) index c.self.invariant.numbered) c.index_mut.ensures.value in
    let parts : ListParts = record { schemas = l.schemas; indexes = l.indexes.items; slots = l.slots; rooms = l.rooms.items } in
    rw (← c.self.view_is) (calls_one parts c.args.index c.index_mut.result.now c.tidy.new.self IsAsBefore there
    (tidied 0 c.index_mut.result.now c.tidy.new.self c.tidy.result c.tidy.ensures.answer) c.tidy.ensures.sound)
