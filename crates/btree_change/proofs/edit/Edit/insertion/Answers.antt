use Rattle.std.proofs.Common.{◌+◌, ◌<◌, arith}
use Rattle.page_format.specs.Words.{count_of, record_len_of}
use Rattle.page_format.proofs.Edited.{few}
use Rattle.btree_change.proofs.edit.Edit.insertion.Goals as goal

pub overflow_add-result : goal.overflow_add-result
overflow_add-result c =
    let bytes = c.args.bytes.now in
    let some : 0 < record_len_of bytes = omega arith in
    omega (arith, few (count_of bytes + 1) (record_len_of bytes) some c.requires.room)
