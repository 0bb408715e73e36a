-- Who reads by a view finds what its view shows, however many others are changing rows, each at its place.
use Rattle.std.proofs.Common.{◌≡◌, ◌∙◌, ap, ℕ, ◌≤◌, true, List, length, Some, slice_get}
use Rattle.inno_types.specs.{declared.lock.Lock.Lock, declared.value.Schema.Schema}
use Rattle.law_stored_rows.specs.Tables.{in_table}
use Rattle.law_past_agreement.specs.Ids.{id_of}
use Rattle.world.specs.Told.{IsTold}
use Rattle.read_view.specs.Sight.{Sight as ReadSight}
use Rattle.row_search.specs.{declared.scan.Scan.Scan, declared.sight.Sight.Sight, declared.sight.Sight.TheVariants.View, Sights.sees_by, Tables.ShowsRows}
use Rattle.desks.specs.{Desks.Store, Desks.doing_at, Desks.is_quiet_doing, Holding.IsOwnView}
use Rattle.law_other_places.proofs.Readers.{shows_beside, unseen_by}
use Rattle.law_locked_rows.specs.Many.{IsHeldByAll}

pub shows_all : {store : Store} {granted : List Lock} (held : IsHeldByAll store granted) → IsTold store.world → (s : ℕ)
    → is_quiet_doing (doing_at s store.desks) ≡ true → {schema : Schema} (scan : Scan) (view : ReadSight) (reader : ℕ) → scan.sight ≡ View view reader
    → slice_get store.world.schemas scan.table ≡ Some schema → scan.which ≤ length schema.keys → IsOwnView store.world s view reader
    → ShowsRows schema scan store.world (in_table scan.table held.chains)
shows_all {store} held told s searching scan view reader sight there le mine =
    shows_beside held.rows held.agrees told s searching scan there le
    (λ w logged place differs last. ap (λ (x : Sight). sees_by x (id_of store.world.past w)) sight ∙ unseen_by held.agrees last differs mine)
