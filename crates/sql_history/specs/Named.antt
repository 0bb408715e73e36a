-- Savepoints by their names, and the settings as one value.
use Rattle.std.specs.Prelude.{ℕ, List, Bool, Option, bytes_eq, refl}
use Rattle.std.specs.Coded.{Coded, code_by, coded×, coded_list, coded_option, coded_bool}
use Rattle.inno_types.specs.declared.lock.Level.{Level}
use Rattle.inno_types.specs.contracts.lock.Level as of_level
use Rattle.inno_types.specs.declared.stmt.Stmt.{Stmt}
use Rattle.inno_types.specs.declared.stmt.Stmt.TheVariants.{Savepoint}
use Rattle.sql_history.specs.declared.settings.Save.{Save}
use Rattle.sql_history.specs.contracts.settings.Save as of_save
use Rattle.sql_history.specs.Settings.{Setting}

abbrev pub is_named : List ℕ → Save → Bool
is_named name save = bytes_eq save.name name

abbrev pub setting_code : Coded Setting
setting_code =
    code_by (Bool × (Level × (Option Level × List Save)))
    (coded× coded_bool (coded× of_level.the_row.coded (coded× (coded_option of_level.the_row.coded) (coded_list of_save.the_row.coded))))
    (λ s. (s.autocommit, (s.later, (s.next, s.saves)))) (λ p. record { autocommit = p.0; later = p.1.0; next = p.1.1.0; saves = p.1.1.1 }) (λ _. refl)

-- any statement but SAVEPOINT
abbrev pub KeepsNoName : Stmt → Type 0
KeepsNoName (Savepoint name) = ⊥
KeepsNoName other = Unit {0}
