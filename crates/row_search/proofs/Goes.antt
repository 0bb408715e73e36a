-- What the calls of a world leave of it, and by that how a step goes on, or is to be made again.
use Rattle.std.proofs.Common.{Vec, Global, ◌≡◌, ◌∙◌, sym, ap, subst, refl, ℕ, List, Option, Some, slice_get, ◌≢◌, ⊎_elim, None}
use Rattle.std.specs.Prelude.{is_some}
use Rattle.inno_types.specs.{declared.value.Value.Value, declared.value.Schema.Schema, Order.IsBelow}
use Rattle.store_api.specs.declared.moves.Move.TheVariants.{At, End, Done, Step, Latch, Again, Failed, Bad, NoMemory}
use Rattle.store_api.specs.declared.moves.Move.{Move}
use Rattle.entries.specs.{Pairs.Pair, Pairs.value_of, Index.Index, Index.AreKept, Index.IsAsBefore, Index.IsGiven, Calls.Delays, Calls.Seeks, Calls.Fetches}
use Rattle.row_versions.specs.{declared.kept.Kept.Kept, declared.version.Version.Version}
use Rattle.law_stored_rows.specs.Records.{IsRecordWith, kept_of}
use Rattle.law_stored_rows.proofs.RowRecords.{record_of}
use Rattle.sql_plan.specs.Visits.{kind_if, kind_at}
use Rattle.world.specs.{State.WorldState, Undoing.IsUnchanged, Indexes.Calls}
use Rattle.inno_db.specs.Indexes.{index_of}
use Rattle.row_search.specs.{declared.found.FoundRow.FoundRow, declared.scan.Scan.Scan, declared.phase.Phase.Phase, Sights.rows_seen, Others.KeepsWay}
use Rattle.row_search.specs.{Tables.ShowsTable, Tables.HoldsTable, Tables.ShowsRows, Steps.OnlyMoves, Steps.GoesOn, Steps.Waits, Steps.PhaseWaits}
use Rattle.row_search.specs.{Steps.MayWait, Searches.place_in, Searches.PhaseHolds, Searches.IsSearching, Searches.IsRecordKept, Searches.IsSeenAmong}
use Rattle.row_search.specs.{Searches.PhaseFinds, Searches.HasToGo}
use Rattle.row_search.proofs.Others.{way_still, holds_still}
use Rattle.std.proofs.lemmas.Bool.{cases_eq}
use Rattle.world.proofs.Stores.{store_stays}

-- ---- delays

-- the call has not ended, and its index is as it was
put_off : (actor : ℕ) (old new : Index) (move : Move) → Delays actor old new move → IsAsBefore old new × MayWait actor old new move
put_off actor old new Failed h = (record { pairs = h.pairs; place = h.place; awaited = h.awaited }, h)
put_off actor old new Step h = (h.all, h)
put_off actor old new (Latch by) h = (h.all, h)
put_off actor old new Again h = (h.all, h)
put_off actor old new (Bad page rule) h = (h.all, h)
put_off actor old new other h = absurd h

pub seek_put_off : (actor : ℕ) (from : List ℕ) (old new : Index) (move : Move) → Seeks actor from old new move
    → ((key value : List ℕ) → move ≢ At key value) → move ≢ End → IsAsBefore old new × MayWait actor old new move
seek_put_off actor from old new (At key value) h not_at not_end = absurd (not_at key value refl)
seek_put_off actor from old new End h not_at not_end = absurd (not_end refl)
seek_put_off actor from old new NoMemory h not_at not_end = (h, tt)
seek_put_off actor from old new move h not_at not_end = put_off actor old new move h

pub fetch_put_off : (actor : ℕ) (key read : List ℕ) (old new : Index) (move : Move) → Fetches actor key read old new move → move ≢ Done → move ≢ End
    → IsAsBefore old new × MayWait actor old new move
fetch_put_off actor key read old new Done h not_done not_end = absurd (not_done refl)
fetch_put_off actor key read old new End h not_done not_end = absurd (not_end refl)
fetch_put_off actor key read old new move h not_done not_end = put_off actor old new move h

-- ---- the whole world

kept_itself : (pairs : Option (List Pair)) → AreKept pairs pairs
kept_itself None = tt
kept_itself (Some pairs) = refl

pub unchanged_itself : (state : WorldState) → IsUnchanged state state
unchanged_itself state =
    record {
      indexes = λ index. record { pairs = kept_itself (state.indexes index).pairs; place = refl; awaited = refl };
      versions = record { told = λ t. t; kept = λ t. refl };
      rest = refl;
      later = store_stays state.paged;
    }

-- nothing that has changed is no more than a move
pub moves_unchanged : (actor index : ℕ) (old new : WorldState) → IsUnchanged old new → OnlyMoves actor index old new
moves_unchanged actor index old new u =
    record {
      pairs = λ other. (u.indexes other).pairs;
      places = λ other apart. (u.indexes other).place;
      others = λ other apart. ap (λ (f : ℕ → Option Pair). f other) (u.indexes index).place;
      awaited = λ other. (u.indexes other).awaited;
      versions = u.versions;
      rest = u.rest;
      later = u.later;
    }

module _ {index : ℕ} {call : Index → Index → Type 0} {old new : WorldState} (c : Calls index call old new) where
  everywhere : (P : ℕ → Type 0) → P index → ((other : ℕ) → IsAsBefore (old.indexes other) (new.indexes other) → P other) → (other : ℕ) → P other
  everywhere P here elsewhere other =
      ⊎_elim (λ e. subst P (sym e) here) (λ apart. elsewhere other (c.index_is.elsewhere other apart)) (cases_eq other index)

  pub call_unchanged : IsAsBefore (old.indexes index) (new.indexes index) → IsUnchanged old new
  call_unchanged here =
      record {
        indexes = everywhere (λ k. IsAsBefore (old.indexes k) (new.indexes k)) here (λ other same. same);
        versions = c.beside.versions;
        rest = c.beside.rest;
        later = c.beside.later;
      }

  pub call_moves : (actor : ℕ) (pair : Pair) → IsGiven actor pair (old.indexes index) (new.indexes index) → OnlyMoves actor index old new
  call_moves actor pair given =
      record {
        pairs = everywhere (λ k. AreKept (old.indexes k).pairs (new.indexes k).pairs) given.pairs (λ other same. same.pairs);
        places = λ other apart. (c.index_is.elsewhere other apart).place;
        others = given.others;
        awaited = everywhere (λ k. (new.indexes k).awaited ≡ (old.indexes k).awaited) given.awaited (λ other same. same.awaited);
        versions = c.beside.versions;
        rest = c.beside.rest;
        later = c.beside.later;
      }

-- ---- a step

module _ {actor : ℕ} {schema : Schema} {old : WorldState} {scan : Scan} {phase : Phase}
    (is : IsSearching actor schema old (record { scan = scan; phase = phase })) where
  abbrev pub index : ℕ
  index = index_of scan.table scan.which

  abbrev pub at_old : Option Pair
  at_old = place_in actor scan old

  -- the step goes on, and leaves these rows and this phase
  abbrev pub Goes : WorldState → Vec FoundRow Global → Phase → Type 0
  Goes new rows next = GoesOn actor schema old new (record { scan = scan; phase = phase }) (record { scan = record scan { rows = rows }; phase = next })

  -- what has been found by the actor's place, the rows and the phase
  abbrev pub FindsAt : Option Pair → Vec FoundRow Global → Phase → (Value → List Version) → Type 0
  FindsAt place rows next versions_at =
      PhaseFinds schema (record scan { rows = rows }) (rows_seen scan.sight versions_at) old.versions.kept_at place next

  abbrev pub GoesFinding : Option Pair → Vec FoundRow Global → Phase → Type 0
  GoesFinding place rows next =
      (versions_at : Value → List Version) → ShowsRows schema scan old versions_at → FindsAt at_old scan.rows phase versions_at
      → FindsAt place rows next versions_at

  -- less is left than before
  abbrev pub GoesNearer : Option Pair → Phase → Type 0
  GoesNearer place next =
      (versions_at : Value → List Version) (shows : ShowsRows schema scan old versions_at) (n : List ℕ) → FindsAt at_old scan.rows phase versions_at
      → HasToGo schema old.versions.kept_at at_old shows.searched phase n
      → (m : List ℕ) × HasToGo schema old.versions.kept_at place shows.searched next m × IsBelow m n

  searching : {new : WorldState} → OnlyMoves actor index old new → (rows : Vec FoundRow Global) (next : Phase)
      → PhaseHolds actor schema (record scan { rows = rows }) new next
      → IsSearching actor schema new (record { scan = record scan { rows = rows }; phase = next })
  searching moves rows next holds =
      record { there = ap (λ (s : WorldState). slice_get s.schemas scan.table) moves.rest ∙ is.there; key = is.key; few = is.few; phase = holds }

  -- by the actor's place behind the step
  pub goes_to : {new : WorldState} → OnlyMoves actor index old new → (place : Option Pair) → place_in actor scan new ≡ place
      → (rows : Vec FoundRow Global) (next : Phase) → PhaseHolds actor schema (record scan { rows = rows }) new next → GoesFinding place rows next
      → GoesNearer place next → Goes new rows next
  goes_to moves place there rows next holds finds nears =
      record {
        moves = moves;
        same = record { table = refl; which = refl; range = refl; sight = refl };
        holds = searching moves rows next holds;
        finds = λ versions_at shows was. subst (λ (o : Option Pair). FindsAt o rows next versions_at) (sym there) (finds versions_at shows was);
        nears = λ versions_at shows n was to_go.
            subst (λ (o : Option Pair). (m : List ℕ) × HasToGo schema old.versions.kept_at o shows.searched next m × IsBelow m n) (sym there)
            (nears versions_at shows n was to_go);
      }

  -- ---- nothing has changed

  module _ {new : WorldState} (unchanged : IsUnchanged old new) where
    place_stays : place_in actor scan new ≡ at_old
    place_stays = ap (λ (f : ℕ → Option Pair). f actor) (unchanged.indexes index).place

    holds_on : (rows : Vec FoundRow Global) (next : Phase) → PhaseHolds actor schema (record scan { rows = rows }) old next
        → PhaseHolds actor schema (record scan { rows = rows }) new next
    holds_on rows next =
        holds_still actor schema (record scan { rows = rows }) old new place_stays unchanged.versions.told next
        (λ told. subst (λ (kept : ℕ → Option Kept). KeepsWay schema scan.sight old.versions.kept_at kept next) (sym (unchanged.versions.kept told))
        (way_still schema scan.sight old.versions.kept_at old.versions.kept_at next (λ pointer found there. there)))

    pub goes : (rows : Vec FoundRow Global) (next : Phase) → PhaseHolds actor schema (record scan { rows = rows }) old next → GoesFinding at_old rows next
        → GoesNearer at_old next → Goes new rows next
    goes rows next holds finds nears =
        goes_to (moves_unchanged actor index old new unchanged) at_old place_stays rows next (holds_on rows next holds) finds nears

    -- a step that was put off is to be made again
    pub waits : (why : Move) → PhaseWaits actor old new scan phase why
        → Waits actor schema old new (record { scan = scan; phase = phase }) (record { scan = scan; phase = phase }) why
    waits why cause =
        record {
          unchanged = unchanged;
          scan_is = record { table = refl; which = refl; range = refl; sight = refl };
          rows_are = refl;
          phase_is = refl;
          holds = searching (moves_unchanged actor index old new unchanged) scan.rows phase (holds_on scan.rows phase is.phase);
          finds = λ versions_at was. subst (λ (o : Option Pair). FindsAt o scan.rows phase versions_at) (sym place_stays) was;
          cause = cause;
        }

  -- ---- a record was found at a key of the clustered index

  module _ (key bytes : List ℕ) (there : (versions_at : Value → List Version) (shows : ShowsTable schema scan.table old versions_at)
      → value_of key shows.pairs ≡ Some bytes) where
    -- it has the versions of its row
    recorded : (versions_at : Value → List Version) → ShowsTable schema scan.table old versions_at
        → (value : Value) × IsRecordWith schema key old.versions.kept_at (Some bytes) (versions_at value)
        × IsSeenAmong schema scan (rows_seen scan.sight versions_at) key (versions_at value)
    recorded versions_at shows =
        let is = shows.clustered in
        let some = is.keys key (ap is_some (there versions_at shows)) in
        let kind : kind_at schema.columns schema.primary ≡ is.primary.kind = ap kind_if is.primary_is in
        let own : IsRecordWith schema key (kept_of old.versions.kept_at scan.table key) (value_of key shows.pairs) (versions_at some.0) =
        subst (λ k. IsRecordWith schema k (kept_of old.versions.kept_at scan.table k) (value_of k shows.pairs) (versions_at some.0)) (sym some.2)
        (is.records some.0 some.1) in
        let held = record_of schema key old.versions.kept_at scan.table (value_of key shows.pairs) (versions_at some.0) own in (
          some.0,
          subst (λ (o : Option (List ℕ)). IsRecordWith schema key old.versions.kept_at o (versions_at some.0)) (there versions_at shows) held,
          record { value = some.0; has_key = rw kind some.1; key_is = rw kind some.2; seen = refl },
        )

    pub record_found : (versions_at : Value → List Version) → ShowsTable schema scan.table old versions_at
        → (versions : List Version) × IsRecordWith schema key old.versions.kept_at (Some bytes) versions
        × IsSeenAmong schema scan (rows_seen scan.sight versions_at) key versions
    record_found versions_at shows = let r = recorded versions_at shows in (versions_at r.0, r.1, r.2)

    pub record_kept : HoldsTable schema scan.table old → IsRecordKept schema old key bytes
    record_kept holds told = let shows = holds told in let r = recorded shows.0 shows.1 in (shows.0 r.0, r.1, shows.2 r.0)
