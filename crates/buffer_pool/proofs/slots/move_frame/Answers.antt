use Rattle.buffer_pool.proofs.SlotEdits.{put_moved}
use Rattle.buffer_pool.proofs.slots.move_frame.Goals as goal

pub returns : goal.returns
returns c =
    put_moved c.args.slots.now.items c.args.from c.args.page _ c.requires.from c.requires.within c.requires.idle c.swap.ensures.items c.put_slot-slot.ensures.value c.put_slot-slot.ensures.items c.put_slot.ensures.items c.brought.ensures
