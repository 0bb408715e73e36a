use Rattle.std.proofs.Common.{◌≡◌, ◌<◌, false, length, refl, sym, ◌∙◌, arith}
use Rattle.buffer_pool.specs.Frames.{is_pooled}
use Rattle.mini_txn.proofs.Keeping.{frame_if_any}
use Rattle.mini_txn.proofs.placing.take_frame.Goals as goal

pub returns-then-not-is_pooled : goal.returns-then-not-is_pooled
returns-then-not-is_pooled c =
    let within : c.args.page < length c.args.pool.now.slots = omega (arith, c.if-page-pages.true, c.pages.ensures) in
    let absent : is_pooled c.args.pool.now c.args.page ≡ false = sym c.is_pooled.ensures ∙ c.if-not-is_pooled.true in
    frame_if_any c.args.pool.now c.args.page _ c.fix_new.new.self c.fix_new.result c.requires within absent refl refl (omega arith) c.fix_new.ensures
