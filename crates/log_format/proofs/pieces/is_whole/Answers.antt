use Rattle.std.proofs.Common.{◌+◌, ◌≤◌, length, take, arith}
use Rattle.std.specs.Int.{w32, from_be_bytes}
use Rattle.std.proofs.lemmas.Bool.Decides.{nat_tests}
use Rattle.log_format.proofs.Groups.{none_with_more}
use Rattle.log_format.proofs.pieces.is_whole.Goals as goal

pub returns-then-bytes-ge4-clause-settled : goal.returns-then-bytes-ge4-clause-settled
returns-then-bytes-ge4-clause-settled c = λ test lsn more none.
    let bytes = c.args.bytes.now in
    let within : 4 + from_be_bytes w32 (take 4 bytes) ≤ length bytes = grind (arith, nat_tests, test, c.u32_at.ensures.number) in
    none_with_more lsn bytes more (c.if-bytes-ge4.true, within) none
