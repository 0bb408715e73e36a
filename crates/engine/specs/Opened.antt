-- An engine that was opened on the database that its files stand for.
use Rattle.std.specs.Prelude.{◌≡◌, [], ◌∷◌}
use Rattle.inno_db.specs.Database.{Database}
use Rattle.inno_model.specs.declared.event.Event.TheVariants.{Opened}
use Rattle.durable_engine.specs.State.{State}

-- nobody has joined, and nothing has happened but the opening
pub record IsOpened {D : Type 0} (state : State D) : Type 0 where
  pub names : state.names ≡ []
  pub nobody : state.seats ≡ []
  pub db : Database
  pub past : state.past ≡ Opened db ∷ []
