use Rattle.std.proofs.Common.{◌≡◌, ◌+◌, ℕ, subst}
use Rattle.std.specs.Prelude.{IsTrue, OnOk}
use Rattle.mini_txn.specs.View.{MiniView, IsPut}
use Rattle.mini_txn.proofs.mini.MiniTxnMtr.commit.Goals as goal

pub returns-clause-frames : goal.returns-clause-frames
returns-clause-frames c =
    let new = c.commit.new.self in
    subst (λ (m : MiniView). OnOk c.commit.result (IsTrue m.told → (lsn page : ℕ) → lsn + 1 ≡ new.log.next
    → IsPut m new lsn page)) c.self.view_is c.commit.ensures.frames
