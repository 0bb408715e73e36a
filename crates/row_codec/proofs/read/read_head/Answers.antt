use Rattle.std.proofs.Common.{◌^◌, ◌<◌, Some, ap, rules}
use Rattle.row_codec.specs.declared.read.Head.{Head}
use Rattle.row_codec.specs.Heads.{version_head}
use Rattle.row_codec.proofs.Once.{head_of_record}
use Rattle.row_codec.proofs.read.read_head.Goals as goal

pub returns-in_err-head-clause-back : goal.returns-in_err-head-clause-back
returns-in_err-head-clause-back c = λ schema version key fits is. absurd (c.in_err-head.ensures.none (version_head version) _ is.value_is)

pub returns-clause-back : goal.returns-clause-back
returns-clause-back c = λ schema version key fits is.
    let head = c.in_ok-head.head in
    let writer : head.writer < 2 ^ 64 = search rules in
    let pointer : head.pointer < 2 ^ 64 = search rules in
    ap (λ (h : Head). Some h) (head_of_record schema version key c.args.value.now _ head writer pointer c.in_ok-head.ensures.found fits is)
