-- A serial history is calm.
use Rattle.std.proofs.Common.{◌≡◌, ap, ℕ, false, List, [], ◌∷◌, arith}
use Rattle.std.specs.Prelude.{◌==◌, is_some}
use Rattle.std.proofs.lemmas.Bool.Decides.{nat_tests}
use Rattle.inno_model.specs.declared.event.Event.{Event}
use Rattle.inno_model.specs.declared.event.Event.TheVariants.{Committed}
use Rattle.sql_history.specs.Items.{Language}
use Rattle.sql_history.specs.Legal.{IsLegal}
use Rattle.law_histories.proofs.Alike.{ReadsOne}
use Rattle.law_isolation.specs.Calm.{SeesLatest, MeetsNone, IsCalm}
use Rattle.law_isolation.specs.Turns.{IsSerial}
use Rattle.law_isolation.proofs.Turns.{no_commit, open_works}
use Rattle.law_isolation.proofs.Seeing.{sees_base}

module _ (says : Language) (one : ReadsOne says) where
  pub serial_sees : (s : ℕ) (past : List Event) → IsLegal says past → IsSerial past → SeesLatest says s past
  serial_sees s past legal serial statement l alone db asks on_rows on unbroken level_is within sees =
      sees_base says one s asks.0 statement asks.2 on_rows l alone db past (record { legal = legal; asked = asks.1; unbroken = unbroken; on = on }, serial)
      (ap is_some level_is) within sees

  meets_none : (s : ℕ) (e : Event) (past : List Event) → IsSerial (e ∷ past) → MeetsNone says s e past
  meets_none s (Committed t) past serial =
      λ differ is_open. let other : (t == s) ≡ false = grind (arith, nat_tests, differ) in no_commit t s past other serial (open_works s past is_open)
  meets_none s e past serial = tt

  pub serial_calm : (past : List Event) → IsLegal says past → IsSerial past → (s : ℕ) → IsCalm says s past
  serial_calm [] legal serial s = tt
  serial_calm (e ∷ past) legal serial s = (meets_none s e past serial, serial_sees s past legal.1 serial.1, serial_calm past legal.1 serial.1 s)
