-- What one more entry of another session leaves as it was.
use Rattle.std.proofs.Common.{◌≡◌, ℕ, false, List, ◌∷◌, arith}
use Rattle.std.proofs.lemmas.Bool.Decides.{nat_tests}
use Rattle.inno_model.specs.declared.event.Event.{Event}
use Rattle.inno_model.specs.Past.{is_of, started, under_way, before_item, of_item, level, txn, own, view_of}

-- all that is a session's own
pub record IsUntouched (old new : List Event) (s : ℕ) : Type 0 where
  pub count : started s new ≡ started s old
  pub item : under_way s new ≡ under_way s old
  pub before : before_item s new ≡ before_item s old
  pub entries : of_item s new ≡ of_item s old
  pub level_is : level s new ≡ level s old
  pub txn_is : txn s new ≡ txn s old
  pub own_is : own s new ≡ own s old
  pub view_is : view_of s new ≡ view_of s old

-- What is a session's own changes at its own entries alone.
pub untouched : (e : Event) (past : List Event) (s : ℕ) → is_of s e ≡ false → IsUntouched past (e ∷ past) s
untouched e past s other =
    record {
      count = grind (arith, nat_tests);
      item = grind (arith, nat_tests);
      before = grind (arith, nat_tests);
      entries = grind (arith, nat_tests);
      level_is = grind (arith, nat_tests);
      txn_is = grind (arith, nat_tests);
      own_is = grind (arith, nat_tests);
      view_is = grind (arith, nat_tests);
    }
