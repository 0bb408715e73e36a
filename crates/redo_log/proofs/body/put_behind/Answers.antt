use Rattle.std.proofs.Common.{◌+◌, ◌≤◌, length, ap, arith, vec_len, vec_capacity, length-append}
use Rattle.log_format.specs.Block.{payload_of}
use Rattle.log_format.proofs.Open.{length_payload}
use Rattle.redo_log.proofs.body.put_behind.Goals as goal

pub returns-clause-full : goal.returns-clause-full
returns-clause-full c = λ room rs is small fits.
    let there : vec_len c.put_payload.new.out + room ≤ vec_capacity c.put_payload.new.out =
    omega (
      arith,
      fits,
      length_payload c.args.last.now,
      c.put_payload.new.out.ok.0,
      ap length c.put_payload.ensures.items,
      length-append c.clear.new.self.items (payload_of c.args.last.now),
      ap length c.clear.ensures.items,
      c.put_payload.ensures.grows,
      c.clear.ensures.capacity,
    ) in
    c.put_body_as.ensures.full room rs is small there
