use Rattle.std.proofs.Common.{◌∙◌, refl, sym, arith}
use Rattle.undo_apply.proofs.{Columns.has_key_at}
use Rattle.undo_apply.proofs.Goes.{Leaves, written_leaves, room_leaves, within_key, look_kept, look_gone, look_same, look_on}
use Rattle.undo_apply.proofs.key_steps.look_at_key.Goals.{else-had_row-via-then-had_row+else-have_one_entry, else-had_row-via-else-had_row}
use Rattle.undo_apply.proofs.key_steps.look_at_key.Goals as goal

pub returns-then-from-number_of_keys : goal.returns-then-from-number_of_keys
returns-then-from-number_of_keys g c = λ chains beside place actor is.
    let to = c.go_to.ensures in
    rw (to.step, to.room) (look_kept actor is c.args.which c.requires.stage c.number_of_keys.ensures
    (omega (arith, c.if-from-number_of_keys.true, c.from.ensures)))

pub returns-then-is_marked : goal.returns-then-is_marked
returns-then-is_marked g c = λ chains beside place actor is.
    let within = within_key actor is c.args.which c.requires.stage c.number_of_keys.ensures (omega (arith, c.if-from-number_of_keys.false, c.from.ensures)) in
    let to = c.go_to-then-is_marked.ensures in
    rw (to.step, to.room, c.after_entry.ensures) (look_gone actor is c.args.which c.requires.stage within c.is_marked.result
    (rw c.deref.ensures.value at c.is_marked.ensures) c.if-is_marked.true)

pub have_one_entry-requires : goal.have_one_entry-requires
have_one_entry-requires g c =
    let old = g.W.World.state c.args.world.now in
    let is = c.requires.under_way.3 in
    let within = within_key 0 is c.args.which c.requires.stage c.number_of_keys.ensures (omega (arith, c.if-from-number_of_keys.false, c.from.ensures)) in
    has_key_at old.schemas old c.args.undo.now is.schema c.requires.under_way.2 c.args.which refl is.tells within

pub returns-then-have_one_entry : goal.returns-then-have_one_entry
returns-then-have_one_entry g c = λ chains beside place actor is.
    let within = within_key actor is c.args.which c.requires.stage c.number_of_keys.ensures (omega (arith, c.if-from-number_of_keys.false, c.from.ensures)) in
    let to = c.go_to-then-have_one_entry.ensures in
    rw (to.step, to.room) (look_same actor is c.args.which c.requires.stage within c.is_marked.result (rw c.deref.ensures.value at c.is_marked.ensures)
    c.if-is_marked.false (sym c.had_row.ensures ∙ c.if-had_row.true) c.have_one_entry.new.entries c.have_one_entry.result
    (rw (c.deref-then-had_row.ensures.value, c.as_slice.ensures) at c.have_one_entry.ensures) c.if-have_one_entry.true)

pub returns : goal.returns
returns g c = λ chains beside place actor is.
    let mid = c.else-had_row.room in
    let within = within_key actor is c.args.which c.requires.stage c.number_of_keys.ensures (omega (arith, c.if-from-number_of_keys.false, c.from.ensures)) in
    let leaves : Leaves actor is mid
    = elim c.else-had_row.branch [
      | else-had_row-via-then-had_row+else-have_one_entry w ↦ rw w.room-is (written_leaves actor is w.have_one_entry.new.entries)
      | else-had_row-via-else-had_row w ↦ rw w.room-is (room_leaves actor is)
    ] in
    rw (c.go_to-2.ensures.step, c.go_to-2.ensures.room) (look_on actor is c.args.which c.requires.stage within c.is_marked.result
    (rw c.deref.ensures.value at c.is_marked.ensures) c.if-is_marked.false c.pointer_of-pointer.result
    (rw c.deref-2.ensures.value at c.pointer_of-pointer.ensures) mid leaves)
