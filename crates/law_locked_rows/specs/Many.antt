-- What holds of a store between calls where several sessions may be at work on rows, each at a place that is its own by the locks of
-- records. It is `IsHeld` of desks without the one who may write.
use Rattle.std.specs.Prelude.{◌≡◌, ℕ, ◌≤◌, List, length, None, Some}
use Rattle.inno_types.specs.declared.lock.Lock.{Lock}
use Rattle.inno_model.specs.Past.{started}
use Rattle.row_versions.specs.Chains.{Chains}
use Rattle.law_world_agreement.specs.Agreement.{Agrees}
use Rattle.shared_lists.specs.Fitting.{FitsThen}
use Rattle.law_logged_changes.specs.Logs.{LogsAgree}
use Rattle.lock_table.specs.Queue.{AreApart}
use Rattle.desks.specs.Holding.{AreFew, HasRoom, SearchHeld}
use Rattle.desks.specs.{declared.desk.Desk.Desk, Desks.Store, Desks.desk_at, Desks.doing_at, Desks.started_at, Desks.HasRooms, Leaves.Does}
use Rattle.desks.specs.Holding.{RowsHeld}
use Rattle.law_locked_rows.specs.Owning.{AreOwned}

pub record IsHeldByAll (store : Store) (granted : List Lock) : Type 0 where
  pub chains : Chains
  pub agrees : Agrees chains store.world
  pub fits : FitsThen store.world.past
  pub rows : RowsHeld chains store.world store.desks
  pub owned : AreOwned store.world store.desks granted
  pub apart : AreApart granted
  -- by views: nobody reads the newest rows by the right to write
  pub searches : (s : ℕ) → SearchHeld chains (record store { writer = None }) s (doing_at s store.desks)
  pub logs : LogsAgree store.world
  pub has_room : HasRoom store.world
  pub started : (s : ℕ) → started s store.world.past ≡ started_at s store.desks
  pub rooms : (s : ℕ) (desk : Desk) → desk_at s store.desks ≡ Some desk → HasRooms desk
  pub count : length store.desks ≡ length store.world.names
  pub few : length store.world.names ≤ 68
  pub cut : store.cuts ≤ length store.world.past
  pub short : AreFew chains store.world.past

-- a step of the session, whoever may write
abbrev pub DoesFor : ℕ → Chains → Chains → Store → Store → Type 0
DoesFor t before after old new = Does t before after (record old { writer = Some t }) (record new { writer = Some t })
