use Rattle.std.proofs.Common.{◌≡◌, ◌+◌, ◌-◌, ◌*◌, ◌<◌, length, true, ◌∙◌, arith, vec_capacity}
use Rattle.log_format.specs.Block.{blocks_for}
use Rattle.commit_log.specs.Drafted.{drafted}
use Rattle.commit_log.proofs.DraftSpelling.{kept, made_ready, grown}
use Rattle.commit_log.proofs.draft.Draft.reserve.Goals as goal

pub invariant_of-self-2 : goal.invariant_of-self-2
invariant_of-self-2 c =
    let i = c.self.inside in
    let changes = drafted (length i.starts.items) i.bytes.items in
    let now = c.in-Ok.total - c.args.others in
    let bytes = c.take_room.new.bytes in
    let starts = c.take_room.new.starts in
    let long : c.len-2.result ≡ length i.bytes.items = c.len-2.ensures ∙ i.bytes.ok.0 in
    let count : c.len.result ≡ length i.starts.items = c.len.ensures ∙ i.starts.ok.0 in
    let total_is : c.in-Ok.total ≡ c.args.others + 512 * blocks_for (14 + c.len-2.result + 5433) = grind (arith, c.in-Ok.ensures) in
    let now_is : now ≡ 512 * blocks_for (14 + length i.bytes.items + 5433) = omega (arith, total_is, long) in
    let few : length i.starts.items + 1 < 65536 = omega (arith, c.if-len-ge-MOST_CHANGES.false, count) in
    let ready = made_ready changes i.bytes.items i.starts.items i.ready i.promised (vec_capacity i.bytes) (vec_capacity i.starts) c.self.invariant
    now (vec_capacity bytes) (vec_capacity starts) now_is (omega arith) few
    (omega (arith, c.in_ok-take_room.ensures.bytes, i.bytes.ok.0)) (omega (arith, c.in_ok-take_room.ensures.starts, i.starts.ok.0)) in
    kept changes bytes.items starts.items true now (vec_capacity bytes) (vec_capacity starts)
    (grown changes i.bytes.items i.starts.items true now (vec_capacity bytes) (vec_capacity starts) ready
    bytes.items starts.items (vec_capacity bytes) (vec_capacity starts)
    c.in_ok-take_room.ensures.bytes_same c.in_ok-take_room.ensures.starts_same (omega arith) (omega arith))
