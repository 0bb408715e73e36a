-- A world that is opened on the database that it holds.
use Rattle.std.proofs.Common.{◌≡◌, ◌∙◌, sym, ap, subst, refl, ℕ, ◌≤◌, List, ◌∷◌, length, Option, None, Some, arith}
use Rattle.std.specs.FinMap.{get}
use Rattle.inno_types.specs.declared.value.Value.{Value}
use Rattle.inno_db.specs.Database.{Database}
use Rattle.inno_db.specs.declared.limits.TheConstants.{MOST_TABLES}
use Rattle.inno_model.specs.declared.event.Event.TheVariants.{Opened}
use Rattle.sql_history.specs.Counts.{rows_in, most_rows}
use Rattle.row_versions.specs.Chains.{in_model}
use Rattle.law_past_agreement.specs.Agreement.{IsOpenedWith}
use Rattle.world.specs.State.{WorldState}
use Rattle.world.specs.Told.{IsTold}
use Rattle.world.specs.EngineCalls.{with_opening}
use Rattle.engine.specs.Laid.{version_of, IsLaid, IsFreshOf}
use Rattle.row_changes.specs.Awaited.{AwaitsNobody}

opened_with : (row : Option (List Value)) → IsOpenedWith row (version_of row)
opened_with None = record { older = tt; row_is = refl }
opened_with (Some row) = record { older = (refl, tt); row_is = refl }

one_version : (row : Option (List Value)) → length (version_of row) ≤ 1
one_version None = omega arith
one_version (Some row) = omega arith

module _ (db : Database) (old : WorldState) (laid : IsLaid db old) where
  -- what it tells doesn't change
  told_before : (rows : ℕ) → IsTold (with_opening db rows old) → IsTold old
  told_before rows told = record { pairs = told.pairs; versions = told.versions }

  opened_literally : length db.schemas ≤ MOST_TABLES → rows_in db ≤ most_rows → (rows : ℕ) → rows ≡ rows_in db → IsFreshOf db (with_opening db rows old)
  opened_literally few_tables few_rows rows counted = (
    record {
      db = db;
      fits = laid.fits;
      few_tables = few_tables;
      few_rows = few_rows;
      chains = laid.chains;
      opened = λ place. subst (IsOpenedWith (get db.rows (in_model place))) (sym (laid.versions place)) (opened_with (get db.rows (in_model place)));
      few_versions = λ place. omega (arith, ap length (laid.versions place), one_version (get db.rows (in_model place)));
      coded = λ told. laid.coded (told_before rows told);
      names = laid.names;
      past = ap (λ past. Opened db ∷ past) laid.past;
      rows = counted;
      schemas = laid.schemas;
      txns = laid.txns;
      sessions = laid.sessions;
    },
    refl,
  )

  pub fresh_now : (new : WorldState) (rows : ℕ) → new ≡ with_opening db rows old → length db.schemas ≤ MOST_TABLES → rows_in db ≤ most_rows
      → rows ≡ rows_in db → IsFreshOf db new
  fresh_now new rows is few_tables few_rows counted = subst (IsFreshOf db) (sym is) (opened_literally few_tables few_rows rows counted)

-- nobody is awaited in it
pub nobody_now : (db : Database) (old new : WorldState) (rows : ℕ) → IsLaid db old → new ≡ with_opening db rows old → AwaitsNobody new
nobody_now db old new rows laid is index by awaited =
    laid.nobody index by (ap (λ (state : WorldState). (state.indexes index).awaited) (sym is) ∙ awaited)
