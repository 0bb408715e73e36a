-- Steps of others keep what a search has found.
use Rattle.std.proofs.Common.{◌≡◌, ◌≢◌, ℕ, ◌+◌, ◌≤◌, ◌==◌, Bool, true, false, Some, refl, sym, ap, subst, ◌∙◌, inl, inr, arith}
use Rattle.std.proofs.lemmas.Bool.Decides.{nat_tests}
use Rattle.inno_types.specs.declared.value.Value.{Value}
use Rattle.row_versions.specs.Chains.{Chains}
use Rattle.law_world_agreement.specs.Agreement.{sight_of}
use Rattle.law_found_rows.specs.Finding.{IsFindingAnew, LeavesScan}
use Rattle.desks.specs.declared.desk.Doing.TheVariants.{Nothing, Searching, Changing, Lagging, Undoing}
use Rattle.desks.specs.Holding.{IsOwnView, SightHolds, FindsSince, IsSearchHeld, SearchHeld}
use Rattle.law_stored_rows.specs.{Tables.in_table, Records.KeepsMore}
use Rattle.row_search.specs.{Sights.rows_seen, declared.sight.Sight.Sight, declared.sight.Sight.TheVariants.View, declared.sight.Sight.TheVariants.Newest}
use Rattle.law_found_rows.proofs.{Finding.keeps_finding, Finding.may_come_anew, Finding.finds_anew, Seen.same_rows}
use Rattle.desks.specs.{declared.desk.Doing.Doing, declared.desk.TableSearch.TableSearch, Desks.Store, Leaves.Does, Leaves.KeepsOrCuts}

some_same : (a b : ℕ) → Some a ≡ Some b → a ≡ b
some_same a b same = cc

module _ (t s : ℕ) {before after : Chains} {old new : Store} (leaves : Does t before after old new) (differ : s ≢ t) where
  -- the reader's own view
  own_view : (view : _) (reader : ℕ) → IsOwnView old.world s view reader → IsOwnView new.world s view reader
  own_view view reader is = record {
    session = is.session;
    work = is.work;
    has_work = record { session_is = leaves.sessions s differ ∙ is.has_work.session_is; work_is = is.has_work.work_is };
    seen = is.seen;
    view_is = is.view_is;
    same = is.same;
    reader_is = is.reader_is;
  }

  pub sight_left : (sight : Sight) → SightHolds old s sight → SightHolds new s sight
  sight_left (View view reader) is = own_view view reader is
  sight_left Newest is = leaves.rights s differ is

  -- the rows that it sees are those that it saw
  same_newest : old.writer ≡ Some s → after ≡ before
  same_newest mine = elim leaves.changes [ inl same ↦ same | inr other ↦ absurd (differ (some_same s t (sym mine ∙ other))) ]

  pub seen_left : (table : ℕ) (sight : Sight) → SightHolds old s sight → (value : Value)
      → rows_seen sight (in_table table after) value ≡ rows_seen sight (in_table table before) value
  seen_left table (View view reader) is value =
      subst (λ v. rows_seen (View v reader) (in_table table after) value ≡ rows_seen (View v reader) (in_table table before) value) (sym is.same)
      (subst (λ r. rows_seen (View (sight_of is.seen) r) (in_table table after) value ≡ rows_seen (View (sight_of is.seen) r) (in_table table before) value)
      (sym is.reader_is)
      (same_rows before after old.world new.world s t table is.session is.session is.work is.work is.seen leaves.agreed leaves.agrees is.has_work
      (record { session_is = leaves.sessions s differ ∙ is.has_work.session_is; work_is = is.has_work.work_is }) is.view_is is.view_is refl
      (λ same. differ (sym same)) leaves.adds value))
  seen_left table Newest is value = ap (λ chains. rows_seen Newest (in_table table chains) value) (same_newest is)

  scan_left : (on : TableSearch) → IsSearchHeld before old s on → LeavesScan s on.schema on.search.scan old.world new.world before after
  scan_left on is = record {
    told = leaves.told.versions;
    there = leaves.tables on.search.scan.table on.schema is.there;
    place = leaves.places s _ differ;
    seen = seen_left on.search.scan.table on.search.scan.sight is.sight;
  }

  finds_kept : (since : Bool) (on : TableSearch) → KeepsMore old.world.versions.kept_at new.world.versions.kept_at → IsSearchHeld before old s on
      → FindsSince since s old.world before on → FindsSince since s new.world after on
  finds_kept true on more is finds = keeps_finding s on.schema old.world new.world before after on.search (scan_left on is) more finds
  finds_kept false on more is finds = finds_anew s on.schema old.world new.world before after on.search (scan_left on is) finds

  finds_cut : (since : Bool) (on : TableSearch) → IsSearchHeld before old s on → FindsSince since s old.world before on
      → IsFindingAnew s on.schema new.world after on.search
  finds_cut true on is finds =
      finds_anew s on.schema old.world new.world before after on.search (scan_left on is) (may_come_anew s on.schema old.world before on.search finds)
  finds_cut false on is finds = finds_anew s on.schema old.world new.world before after on.search (scan_left on is) finds

  later_than : (a : ℕ) → a ≤ old.cuts → new.cuts ≡ old.cuts + 1 → (a == new.cuts) ≡ false
  later_than a le is = grind (arith, nat_tests, le, is)

  finds_left : (on : TableSearch) → KeepsOrCuts old.cuts new.cuts old.world new.world → IsSearchHeld before old s on
      → FindsSince (on.cuts == new.cuts) s new.world after on
  finds_left on (inl same) is =
      subst (λ n. FindsSince (on.cuts == n) s new.world after on) (sym same.0) (finds_kept (on.cuts == old.cuts) on same.1 is is.finds)
  finds_left on (inr more) is =
      subst (λ since. FindsSince since s new.world after on) (sym (later_than on.cuts is.since more)) (finds_cut (on.cuts == old.cuts) on is is.finds)

  still_since : (a : ℕ) → a ≤ old.cuts → KeepsOrCuts old.cuts new.cuts old.world new.world → a ≤ new.cuts
  still_since a le (inl same) = omega (arith, le, same.0)
  still_since a le (inr more) = omega (arith, le, more)

  pub search_left : (doing : Doing) → SearchHeld before old s doing → SearchHeld after new s doing
  search_left (Searching on) is = record {
    there = leaves.tables on.search.scan.table on.schema is.there;
    which = is.which;
    since = still_since on.cuts is.since leaves.kept;
    finds = finds_left on leaves.kept is;
    sight = sight_left on.search.scan.sight is.sight;
  }
  search_left Nothing is = is
  search_left (Changing change) is = is
  search_left Lagging is = is
  search_left Undoing is = is
