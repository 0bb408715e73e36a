-- What holds of a call, whatever it answers.
use Rattle.std.proofs.Common.{◌≡◌, ℕ, Option, Some, Result, Ok, Err, sym, ap, ◌∙◌}
use Rattle.std.specs.Prelude.{OnOk, OnErr}
use Rattle.world.specs.State.{Session, Work, txn_of}

pub ok_then : {T E : Type 0} {P Q : Type 0} (result : Result T E) → OnOk result P → (P → Q) → OnOk result Q
ok_then (Ok x) p then = then p
ok_then (Err e) p then = tt

pub either_way : {T E : Type 0} {P Q R : Type 0} (result : Result T E) → OnOk result P → OnErr result Q → (P → R) → (Q → R) → R
either_way (Ok x) p q ok err = ok p
either_way (Err e) p q ok err = err q

-- ---- the number of the open transaction that a session was read to have

pub is_there : (work : Work) (read session : Session) (txn : Option ℕ) → read ≡ session → session.work ≡ Some work → txn ≡ txn_of read.work
    → txn ≡ Some work.txn
is_there work read session txn here has is = is ∙ ap (λ (x : Session). txn_of x.work) here ∙ ap txn_of has

pub is_number : (work : Work) (txn : Option ℕ) (number : ℕ) → txn ≡ Some work.txn → txn ≡ Some number → number ≡ work.txn
is_number work txn number there some = same_number (sym some ∙ there)
  where
    same_number : Some number ≡ Some work.txn → number ≡ work.txn
    same_number same = cc
