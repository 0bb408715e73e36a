use Rattle.std.proofs.Common.{◌≡◌, ◌<◌, false, length, Result, Ok, Err, sym, subst}
use Rattle.std.specs.Prelude.{OnOk, OnErr, is_some}
use Rattle.buffer_pool.specs.Frames.{PoolView, HasOneMore, slot_of}
use Rattle.mini_txn.specs.View.{MiniView, IsMini}
use Rattle.mini_txn.proofs.Keeping.{frame_added}
use Rattle.mini_txn.proofs.Meeting.{kept_mini}
use Rattle.mini_txn.proofs.work.Work.add_frame.Goals as goal

pub invariant_of-self : goal.invariant_of-self
invariant_of-self c = go c.add_frame.result c.add_frame.ensures.ok c.add_frame.ensures.err where
  go : {T E : Type 0} (r : Result T E) → OnOk r (HasOneMore c.args.page c.self.inside.pool c.add_frame.new.self)
      → OnErr r (c.add_frame.new.self ≡ c.self.inside.pool)
      → IsMini c.add_frame.new.self c.self.inside.dealt c.self.inside.edits c.self.inside.told
  go (Ok done) more same =
      let i = c.self.inside in
      let within = subst (λ (m : MiniView). c.args.page < length m.pool.slots) (sym c.self.view_is) c.requires.within in
      let bare = subst (λ (m : MiniView). is_some (slot_of m.pool c.args.page) ≡ false) (sym c.self.view_is) c.requires.bare in
      let kept = frame_added c.args.page i.pool c.add_frame.new.self within bare c.self.invariant.resident more in
      kept_mini i.pool c.add_frame.new.self i.dealt i.edits i.told c.self.invariant kept.0 kept.1
  go (Err none) more same = subst (λ (p : PoolView). IsMini p c.self.inside.dealt c.self.inside.edits c.self.inside.told) (sym same) c.self.invariant
