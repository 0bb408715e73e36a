use Rattle.buffer_pool.specs.Frames as frames
use Rattle.buffer_pool.proofs.SlotEdits.{put_twice}
use Rattle.buffer_pool.proofs.slots.place_slot.Goals as goal

pub returns : goal.returns
returns c = put_twice c.args.slots.now.items c.args.page (frames.placed c.args.lsn) c.put_slot-slot.ensures.value c.put_slot-slot.ensures.items c.put_slot.ensures.items c.placed.ensures
