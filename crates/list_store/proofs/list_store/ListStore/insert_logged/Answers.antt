use Rattle.std.proofs.Common.{◌≡◌, length, Some, refl, ap}
use Rattle.std.specs.Prelude.{slice_get}
use Rattle.std.proofs.lemmas.Option.{slice_get_read}
use Rattle.store_api.specs.declared.moves.Move.TheVariants.{Done}
use Rattle.entries.specs.Lists.{shown}
use Rattle.world.specs.State.{IsIndex}
use Rattle.world.specs.Indexes.{InsertsWith}
use Rattle.list_store.specs.Parts.{ListParts}
use Rattle.list_store.proofs.Indexed.{index_within, inserts_with, changes_none, changes_logged}
use Rattle.list_store.proofs.list_store.ListStore.insert_logged.Goals as goal

pub returns-in-Done : goal.returns-in-Done
returns-in-Done c =
    let l = c.self.inside in
    let schemas : l.schemas ≡ c.args.self.now.schemas = ap (λ (p : ListParts). p.schemas) c.self.view_is in
    let index : IsIndex l.schemas c.args.index = rw schemas c.requires.index in
    let there : slice_get l.indexes.items c.args.index ≡ Some c.index_mut.result.now =
    slice_get_read l.indexes.items (length l.indexes.items) c.args.index c.index_mut.result.now refl
    (index_within l.schemas c.args.index (length l.indexes.items) index c.self.invariant.numbered) c.index_mut.ensures.value in
    let parts : ListParts = record { schemas = l.schemas; indexes = l.indexes.items; slots = l.slots; rooms = l.rooms.items } in
    let called : InsertsWith (Some c.args.undo.now) c.args.actor c.args.key.now c.args.value.now (shown c.index_mut.result.now)
    (shown c.insert-answer.new.self) Done =
    rw c.in-Done.is at (inserts_with c.args.undo.now c.args.actor c.args.key.now c.args.value.now (shown c.index_mut.result.now)
    (shown c.insert-answer.new.self) c.insert-answer.result c.insert-answer.ensures.answer) in
    rw (c.in-Done.is, ← c.self.view_is) (changes_logged parts c.log.new.self c.args.index c.args.actor c.args.undo.now c.index_mut.result.now
    c.insert-answer.new.self (λ before after answer. InsertsWith (Some c.args.undo.now) c.args.actor c.args.key.now c.args.value.now before after answer)
    there called c.insert-answer.ensures.sound c.log.ensures.indexes c.log.ensures.logged)

pub returns-in_default-answer : goal.returns-in_default-answer
returns-in_default-answer c =
    let l = c.self.inside in
    let schemas : l.schemas ≡ c.args.self.now.schemas = ap (λ (p : ListParts). p.schemas) c.self.view_is in
    let index : IsIndex l.schemas c.args.index = rw schemas c.requires.index in
    let there : slice_get l.indexes.items c.args.index ≡ Some c.index_mut.result.now =
    slice_get_read l.indexes.items (length l.indexes.items) c.args.index c.index_mut.result.now refl
    (index_within l.schemas c.args.index (length l.indexes.items) index c.self.invariant.numbered) c.index_mut.ensures.value in
    let parts : ListParts = record { schemas = l.schemas; indexes = l.indexes.items; slots = l.slots; rooms = l.rooms.items } in
    rw (← c.self.view_is) (changes_none parts c.args.index c.args.actor c.args.undo.now c.index_mut.result.now c.insert-answer.new.self
    (λ before after answer. InsertsWith (Some c.args.undo.now) c.args.actor c.args.key.now c.args.value.now before after answer)
    c.insert-answer.result there c.in_default-answer.not-Done
    (inserts_with c.args.undo.now c.args.actor c.args.key.now c.args.value.now (shown c.index_mut.result.now)
    (shown c.insert-answer.new.self) c.insert-answer.result c.insert-answer.ensures.answer) c.insert-answer.ensures.sound)
