use Rattle.undo_log.proofs.Opened.{spelled}
use Rattle.undo_log.proofs.slots.bytes_of_slot.Goals as goal

pub returns : goal.returns
returns c = spelled c.args.id c.args.page c.u64_bytes.result c.u32_bytes.result c.u64_bytes.ensures c.u32_bytes.ensures
