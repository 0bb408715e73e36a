-- The lists as one value.
use Rattle.std.specs.{Prelude.ℕ, Prelude.List, Prelude.refl, Coded.Coded, Coded.code_by, Coded.coded×, Coded.coded_list, Coded.coded_ℕ}
use Rattle.sql_history.specs.{Settings.Setting, Named.setting_code}
use Rattle.shared_lists.specs.State.{State, Lists, state_code}

abbrev pub lists_code : Coded Lists
lists_code =
    code_by (State × (List Setting × ℕ)) (coded× state_code (coded× (coded_list setting_code) coded_ℕ))
    (λ l. (l.state, (l.settings, l.rows))) (λ p. record { state = p.0; settings = p.1.0; rows = p.1.1 }) (λ _. refl)
