-- Steps that move a session's places leave all rows, and may follow one another; a world that is held stays so.
use Rattle.std.proofs.Common.{◌≡◌, ◌≢◌, ◌⊎◌, ⊎_elim, ℕ, Bool, true, false, List, Option, Some, None, refl, sym, ap, subst, ◌∙◌, ◌<◌, ◌≤◌, length, ◌+◌}
use Rattle.std.proofs.Common.{arith}
use Rattle.std.proofs.{lemmas.Bool.Decides.eqb_tells, lemmas.Bool.cases_eq}
use Rattle.std.specs.Prelude.{◌==◌, if◌then◌else◌, slice_get, List}
use Rattle.law_other_places.proofs.{Sessions.each, Quiet.still_kept}
use Rattle.law_held_steps.proofs.AnyStep.{quiet_step, does_beside, held_beside, desk_elsewhere, started_still, doing_mine, as_many}
use Rattle.law_held_steps.proofs.AnyStep.{doing_stays, rooms_then, quiet_undoes_not}
use Rattle.law_logged_changes.proofs.Leaving.{logs_beside, own_beside, agrees_beside, left_told, rows_leave, all_left}
use Rattle.desks.specs.{Desks.desk_at, Desks.doing_at, Desks.with_doing, Desks.is_quiet_doing, Desks.Store, Holding.SearchHeld, Holding.IsHeld}
use Rattle.desks.specs.{declared.desk.Desk.Desk, declared.desk.Doing.Doing, declared.desk.Doing.TheVariants.Nothing, declared.desk.Doing.TheVariants.Searching}
use Rattle.law_held_steps.specs.Leaving.{MovesPlaces, LeavesTable, is_searching}
use Rattle.row_versions.specs.{Versions.Versions, Versions.Stays, Chains.Chains}
use Rattle.row_changes.proofs.Sessions.{same_pairs, same_versions}
use Rattle.world.proofs.Stores.{store_stays, store_goes_on}
use Rattle.row_search.specs.Steps.{OnlyMoves}
use Rattle.entries.specs.{Pairs.Pair, Index.AreKept, Calls.Leaves, Calls.released}
use Rattle.world.specs.{State.WorldState, Told.IsTold, Told.LeavesRows, Indexes.Calls, Undoing.IsUnchanged}
use Rattle.inno_db.specs.Indexes.{index_of}
use Rattle.inno_types.specs.declared.value.Schema.{Schema}
use Rattle.row_changes.specs.Awaited.{IsOfTable}

kept_same : {old new : Option (List Pair)} → new ≡ old → AreKept old new
kept_same {old} same = subst (AreKept old) (sym same) (same_pairs old)

kept_then : (old between new : Option (List Pair)) → AreKept old between → AreKept between new → AreKept old new
kept_then old between None first second = record {}
kept_then old None (Some new) first second = absurd second
kept_then None (Some between) (Some new) first second = absurd first
kept_then (Some old) (Some between) (Some new) first second = second ∙ first

stays_then : (old between new : Versions) → Stays old between → Stays between new → Stays old new
stays_then old between new first second =
    record { told = λ told. first.told (second.told told); kept = λ told. second.kept told ∙ first.kept (second.told told) }

-- who is awaited still, once this actor isn't: it is another
pub left_over : (s : ℕ) (awaited : Option ℕ) (by : ℕ) → released s awaited ≡ Some by → (awaited ≡ Some by) × (by ≢ s)
left_over s None by is = absurd (cc)
left_over s (Some holder) by is = kept (holder == s) (eqb_tells holder s) is
  where
    kept : (mine : Bool) → ((mine ≡ true) × (holder ≡ s)) ⊎ ((mine ≡ false) × (holder ≢ s)) → (if mine then None else Some holder) ≡ Some by
        → (Some holder ≡ Some by) × (by ≢ s)
    kept true tells none = absurd (cc)
    kept false tells same = (same, ⊎_elim (λ t. let no : false ≡ true = t.0 in absurd (cc)) (λ f at. f.1 (let one : holder ≡ by = cc in one ∙ at)) tells)

pub none_moves : {s : ℕ} {state : WorldState} → MovesPlaces s state state
none_moves {state} = record {
  pairs = λ index. kept_same refl;
  places = λ other index differs. refl;
  fewer = λ index by is. is;
  versions = same_versions state.versions;
  rest = refl;
  later = store_stays state.paged;
}

pub moves_then : {s : ℕ} {old between new : WorldState} → MovesPlaces s old between → MovesPlaces s between new → MovesPlaces s old new
moves_then {old} {between} {new} first second = record {
  pairs = λ index. kept_then (old.indexes index).pairs (between.indexes index).pairs (new.indexes index).pairs (first.pairs index) (second.pairs index);
  places = λ other index differs. second.places other index differs ∙ first.places other index differs;
  fewer = λ index by is. first.fewer index by (second.fewer index by is);
  versions = stays_then old.versions between.versions new.versions first.versions second.versions;
  rest = second.rest ∙ ap (λ (state : WorldState). record state { indexes = new.indexes; versions = new.versions; paged = new.paged }) first.rest;
  later = store_goes_on old.paged between.paged new.paged first.later second.later;
}

pub moves_in_one : {s index : ℕ} {old new : WorldState} → OnlyMoves s index old new → MovesPlaces s old new
moves_in_one {index} {old} {new} moves = record {
  pairs = moves.pairs;
  places = λ other at differs. each index (λ i. (new.indexes i).place other ≡ (old.indexes i).place other) (moves.others other differs)
      (λ i elsewhere. ap (λ place. place other) (moves.places i elsewhere)) at;
  fewer = λ at by is. sym (moves.awaited at) ∙ is;
  versions = moves.versions;
  rest = moves.rest;
  later = moves.later;
}

pub moves_nothing : {s : ℕ} {old new : WorldState} → IsUnchanged old new → MovesPlaces s old new
moves_nothing same = record {
  pairs = λ index. (same.indexes index).pairs;
  places = λ other index differs. ap (λ place. place other) (same.indexes index).place;
  fewer = λ index by is. sym (same.indexes index).awaited ∙ is;
  versions = same.versions;
  rest = same.rest;
  later = same.later;
}

pub leaving_moves : (s index : ℕ) (old new : WorldState) → Calls index (Leaves s) old new → MovesPlaces s old new
leaving_moves s index old new calls = record {
  pairs = each index (λ i. AreKept (old.indexes i).pairs (new.indexes i).pairs)
      (kept_same calls.index_is.here.pairs) (λ i elsewhere. (calls.index_is.elsewhere i elsewhere).pairs);
  places = λ other at differs. each index (λ i. (new.indexes i).place other ≡ (old.indexes i).place other) (calls.index_is.here.others other differs)
      (λ i elsewhere. ap (λ place. place other) (calls.index_is.elsewhere i elsewhere).place) at;
  fewer = λ at by. each index (λ i. (new.indexes i).awaited ≡ Some by → (old.indexes i).awaited ≡ Some by) (λ is. (left_over s (old.indexes index).awaited by
      (sym calls.index_is.here.awaited ∙ is)).0) (λ i elsewhere is. sym (calls.index_is.elsewhere i elsewhere).awaited ∙ is) at;
  versions = calls.beside.versions;
  rest = calls.beside.rest;
  later = calls.beside.later;
}

pub moves_leave : {s : ℕ} {old new : WorldState} → MovesPlaces s old new → LeavesRows old new
moves_leave moves = record { schemas = ap (λ (state : WorldState). state.schemas) moves.rest; pairs = moves.pairs; versions = moves.versions }

pub moves_told : {s : ℕ} {old new : WorldState} → MovesPlaces s old new → IsTold new → IsTold old
moves_told {old} {new} moves = left_told old new (moves_leave moves)

module _ {s : ℕ} {store : Store} {new : WorldState} (moves : MovesPlaces s store.world new) (held : IsHeld store) (doing : Doing) where
  pub held_stays : is_quiet_doing (doing_at s store.desks) ≡ true → is_quiet_doing doing ≡ true → IsTold new
      → SearchHeld held.chains (record store { world = new; desks = with_doing s doing store.desks }) s doing
      → IsHeld (record store { world = new; desks = with_doing s doing store.desks })
  held_stays was is told search =
      let now = with_doing s doing store.desks in
      let rows = moves_leave moves in
      let same : (u : ℕ) → u ≢ s → desk_at u now ≡ desk_at u store.desks
      = λ u differs. desk_elsewhere s u (λ (desk : Desk). record desk { doing = doing }) store.desks differs in
      let does = does_beside s held now moves.rest moves.versions (moves_told moves told) told moves.places same in
      let quiet : is_quiet_doing (doing_at s now) ≡ true =
      ⊎_elim (λ here. ap is_quiet_doing here ∙ is) (λ none. ap is_quiet_doing none) (doing_mine s doing store.desks) in
      held_beside s held now moves.rest moves.versions (moves_told moves told) told moves.places same
      (started_still s doing store.desks) (as_many s (λ (desk : Desk). record desk { doing = doing }) store.desks) (λ other. quiet)
      (⊎_elim (λ here. subst (SearchHeld held.chains (record store { world = new; desks = now }) s) (sym here) search)
      (λ none. subst (SearchHeld held.chains (record store { world = new; desks = now }) s) (sym none) (record {})) (doing_mine s doing store.desks))
      (rooms_then s doing store.desks (held.rooms s) (quiet_undoes_not (doing_at s store.desks) was))
      (quiet_step held does rows told was quiet) (all_left store.world new (rows_leave store.world new rows) (logs_beside store.world new moves.rest) held.logs)

pub held_idle : {s : ℕ} {store : Store} {new : WorldState} → IsHeld store → doing_at s store.desks ≡ Nothing → MovesPlaces s store.world new → IsTold new
    → IsHeld (record store { world = new })
held_idle {s} {store} {new} held idle moves told =
    subst (λ (at : List Desk). IsHeld (record store { world = new; desks = at })) (doing_stays s Nothing store.desks idle)
    (held_stays moves held Nothing (ap is_quiet_doing idle) refl told (record {}))

-- ---- Indexes that a session leaves.

-- so many of them are left
pub record LeftBelow (s table count : ℕ) (old new : WorldState) : Type 0 where
  pub leaves : MovesPlaces s old new
  pub gone : (index by which : ℕ) → which < count → index ≡ index_of table which → (new.indexes index).awaited ≡ Some by → by ≢ s

pub none_below : (s table : ℕ) (state : WorldState) → LeftBelow s table 0 state state
none_below s table state = record { leaves = none_moves; gone = λ index by which below at is. absurd (omega (arith, below)) }

pub one_more_below : (s table count index : ℕ) (old mid new : WorldState) → LeftBelow s table count old mid → index ≡ index_of table count
    → Calls index (λ before after. Leaves s before after) mid new → LeftBelow s table (count + 1) old new
one_more_below s table count index old mid new below is call = record {
  leaves = moves_then below.leaves (leaving_moves s index mid new call);
  gone = λ at by which less number awaited. ⊎_elim (λ here. (left_over s (mid.indexes index).awaited by (sym call.index_is.here.awaited
      ∙ subst (λ n. (new.indexes n).awaited ≡ Some by) here awaited)).1) (λ apart. below.gone at by which (let not_it : which ≢ count = λ same. apart
      (number ∙ (ap (index_of table) same ∙ sym is)) in
      omega (arith, less, not_it)) number (sym (call.index_is.elsewhere at apart).awaited ∙ awaited)) (cases_eq at index);
}

pub all_gone : (s table count : ℕ) (schema : Schema) (old new : WorldState) → slice_get old.schemas table ≡ Some schema → length schema.keys + 1 ≤ count
    → LeftBelow s table count old new → LeavesTable s table old new
all_gone s table count schema old new there all below = record { gone = go }
  where
    go : (index by : ℕ) → IsOfTable table old.schemas index → (new.indexes index).awaited ≡ Some by → by ≢ s
    go index by of_table is =
        let same : of_table.schema ≡ schema = (let e : Some of_table.schema ≡ Some schema = sym of_table.there ∙ there in cc) in
        let within : of_table.which ≤ length schema.keys = subst (λ (x : Schema). of_table.which ≤ length x.keys) same of_table.within in
        below.gone index by of_table.which (omega (arith, within, all)) of_table.number is

-- a session that searches for nothing
pub no_search : (chains : Chains) (store : Store) (s : ℕ) (doing : Doing) → is_searching doing ≡ false → SearchHeld chains store s doing
no_search chains store s (Searching on) none = absurd (cc)
no_search chains store s other none = record {}

module _ {s : ℕ} {store : Store} {new : WorldState} (leaves : MovesPlaces s store.world new) where
  pub held_left : IsHeld store → is_searching (doing_at s store.desks) ≡ false → IsTold new → IsHeld (record store { world = new })
  held_left held none told =
      let rows = moves_leave leaves in
      held_beside s held store.desks leaves.rest leaves.versions (moves_told leaves told) told leaves.places (λ u differs. refl) refl refl
      (held.owned.quiet s) (no_search held.chains (record store { world = new }) s (doing_at s store.desks) none) (held.rooms s)
      (still_kept held.rows held.logs (moves_told leaves told) told rows (agrees_beside leaves.rest held.agrees) (λ u. record {
        session = ap (λ (state : WorldState). slice_get state.sessions u) leaves.rest;
        own_is = own_beside u store.world new leaves.rest;
      }))
      (all_left store.world new (rows_leave store.world new rows) (logs_beside store.world new leaves.rest) held.logs)
