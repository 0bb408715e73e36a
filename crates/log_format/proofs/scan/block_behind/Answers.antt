use Rattle.std.proofs.Common.{ap, ◌∙◌}
use Rattle.log_format.specs.Block.{payload_of}
use Rattle.log_format.proofs.Scanned.{cut_out, fields_good, good_fields}
use Rattle.log_format.proofs.Behind.{passed_one, none_at_all}
use Rattle.log_format.proofs.scan.block_behind.Goals as goal

pub returns-then-not-is_good-clause-none : goal.returns-then-not-is_good-clause-none
returns-then-not-is_good-clause-none c =
    let n = c.loop-number.number in
    let area = c.args.bytes.now in
    none_at_all c.args.run area c.args.len c.loop-number.total n c.loop-number.invariant c.if-total-len.false
    (λ good. absurd (cc (c.is_good.ensures.1 (good_fields c.args.run n area _ (cut_out n area) good), c.if-not-is_good.true)))

pub loop-number-preserved : goal.loop-number-preserved
loop-number-preserved c =
    let n = c.loop-number.number in
    let area = c.args.bytes.now in
    let good = fields_good c.args.run n area _ c.loop-number-test.true (cut_out n area) (c.is_good.ensures.0 c.if-not-is_good.false) in
    passed_one c.args.run area c.args.len c.loop-number.total n c.loop-number.invariant c.if-total-len.false good c.payload.result.now (c.payload.ensures.payload ∙ ap payload_of (cut_out n area)) c.payload.ensures.small
