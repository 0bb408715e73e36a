-- The log can make each table of a legal history, and has a record of each change.
use Rattle.std.proofs.Common.{refl, sym, subst, ◌≤◌, List, [], ◌∷◌, ◌++◌, length, length-append, Some, arith}
use Rattle.std.specs.Prelude.{All}
use Rattle.std.specs.List.{AllByRecursion}
use Rattle.std.proofs.lemmas.List.Elements.{All-pop}
use Rattle.inno_types.specs.declared.stmt.Stmt.TheVariants.{CreateTable}
use Rattle.inno_db.specs.declared.change.Change.TheVariants.{Create, Put, Remove}
use Rattle.inno_db.specs.declared.limits.TheConstants.{MOST_TABLES}
use Rattle.inno_model.specs.declared.event.Event.{Event}
use Rattle.inno_model.specs.declared.event.Event.TheVariants.{Opened, Changed}
use Rattle.inno_model.specs.Past.{opening}
use Rattle.sql_grammar.specs.Grammar.{Spells}
use Rattle.sql_history.specs.Legal.{IsLegal}
use Rattle.law_past_agreement.specs.Order.{created, IsOrdered}
use Rattle.shared_lists.specs.Fitting.{FitsThen}
use Rattle.commit_log.specs.Room.{IsLoggable}
use Rattle.law_logged_histories.proofs.Declared.{declared_loggable}
use Rattle.law_logged_histories.proofs.Fits.{fitting_has_record}
use Rattle.law_logged_histories.proofs.Names.{spelled_short}
use Rattle.law_histories.proofs.Spelled.{spells_one}
use Rattle.law_logged_histories.specs.Creations.{HasNoOpenCreation}
use Rattle.law_logged_histories.specs.Records.{HasItsRecord}
use Rattle.law_logged_histories.proofs.Ends.{DeclareOnly}
use Rattle.law_logged_histories.proofs.Tables.{tables_declared}

declare : DeclareOnly Spells IsLoggable
declare text (CreateTable table skips definitions) spells =
    λ schema is.
    let short = spelled_short text table skips definitions spells in
    declared_loggable table definitions schema short.0 short.1 is
declare text other spells = tt

pub tables_loggable : (past : List Event) → IsLegal Spells past → IsOrdered past → HasNoOpenCreation past → All IsLoggable (opening past).schemas
    → All IsLoggable (created past)
tables_loggable past legal ordered none all = tables_declared Spells IsLoggable declare spells_one past legal ordered none all

pub have_records : (past : List Event) → IsOrdered past → FitsThen past → length (created past) ≤ MOST_TABLES → All IsLoggable (created past)
    → AllByRecursion HasItsRecord past
have_records [] ordered fits few all = tt
have_records (Opened db ∷ past) ordered fits few all = (tt, subst (AllByRecursion HasItsRecord) (sym ordered.0) tt)
have_records (Changed s (Create schema) ∷ past) ordered fits few all =
    let split = All-pop IsLoggable (created past ++ schema ∷ []) (created past) (Some schema) refl all in
    let fewer : length (created past) ≤ MOST_TABLES = omega (arith, few, length-append (created past) (schema ∷ [])) in
    (fitting_has_record (created past) (Create schema) fewer split.0 split.1 fits.0.0 fits.0.1, have_records past ordered.1 fits.1 fewer split.0)
have_records (Changed s (Put table row) ∷ past) ordered fits few all =
    (fitting_has_record (created past) (Put table row) few all tt fits.0.0 fits.0.1, have_records past ordered.1 fits.1 few all)
have_records (Changed s (Remove table key) ∷ past) ordered fits few all =
    (fitting_has_record (created past) (Remove table key) few all tt fits.0.0 fits.0.1, have_records past ordered.1 fits.1 few all)
have_records (e ∷ past) ordered fits few all = (tt, have_records past ordered.1 fits few all)
