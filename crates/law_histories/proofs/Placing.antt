-- Changes of rows of tables that are there, and what tables more leave of them.
use Rattle.std.proofs.Common.{◌≡◌, ◌∙◌, ap, sym, subst, refl, ℕ, zero, suc, ◌<◌, List, [], ◌∷◌, ◌++◌, length, reverse, inl, inr, arith}
use Rattle.std.specs.FinMap.{insert, remove}
use Rattle.std.proofs.lemmas.List.{reverse-append, append-nil, append_assoc}
use Rattle.inno_types.specs.declared.value.Schema.{Schema}
use Rattle.inno_types.specs.declared.value.Value.{Value}
use Rattle.inno_db.specs.declared.change.Change.{Change}
use Rattle.inno_db.specs.declared.change.Change.TheVariants.{Create, Put, Remove}
use Rattle.inno_db.specs.Database.{Database, RowMap, key_in}
use Rattle.inno_db.specs.Changes.{apply_one, apply}
use Rattle.inno_model.specs.Past.{changed}
use Rattle.sql_history.proofs.Pasts.{changed_append}
use Rattle.law_db.specs.RowChanges.{AreOfTables, AreApplicable}
use Rattle.law_histories.specs.Work.{AllIn}

-- changes from the newest on are those from the oldest on
pub changed_turned : (db : Database) (changes : List Change) → changed db (reverse changes) ≡ apply db changes
changed_turned db [] = refl
changed_turned db (change ∷ changes) =
    ap (changed db) (reverse-append (change ∷ []) changes)
    ∙ changed_append db (reverse changes) (change ∷ [])
    ∙ changed_turned (apply_one db change) changes

pub AllIn-append : (db : Database) (later earlier : List Change) → AllIn db earlier → AllIn (changed db earlier) later → AllIn db (later ++ earlier)
AllIn-append db [] earlier before behind = before
AllIn-append db (Create schema ∷ later) earlier before behind = AllIn-append db later earlier before behind
AllIn-append db (Put table row ∷ later) earlier before behind =
    (subst (λ (d : Database). table < length d.schemas) (sym (changed_append db later earlier)) behind.0, AllIn-append db later earlier before behind.1)
AllIn-append db (Remove table key ∷ later) earlier before behind = AllIn-append db later earlier before behind

of_tables : (db : Database) (changes : List Change) → AreOfTables db.schemas changes → AllIn db (reverse changes)
of_tables db [] of = tt
of_tables db (Create schema ∷ changes) of = absurd of
of_tables db (Put table row ∷ changes) of =
    subst (AllIn db) (sym (reverse-append (Put table row ∷ []) changes))
    (AllIn-append db (reverse changes) (Put table row ∷ []) (of.0, tt) (of_tables (apply_one db (Put table row)) changes of.1))
of_tables db (Remove table key ∷ changes) of =
    subst (AllIn db) (sym (reverse-append (Remove table key ∷ []) changes))
    (AllIn-append db (reverse changes) (Remove table key ∷ []) tt (of_tables (apply_one db (Remove table key)) changes of.1))

-- the changes of an outcome
pub applicable-in : (db : Database) (changes : List Change) → AreApplicable db changes → AllIn db (reverse changes)
applicable-in db changes (inl of) = of_tables db changes of
applicable-in db changes (inr made) = subst (λ (cs : List Change). AllIn db (reverse cs)) (sym made.1) tt

-- ---- more tables

pub key_in-more : (schemas more : List Schema) (table : ℕ) (row : List Value) → table < length schemas
    → key_in (schemas ++ more) table row ≡ key_in schemas table row
key_in-more [] more table row there = absurd (omega arith)
key_in-more (schema ∷ schemas) more zero row there = refl
key_in-more (schema ∷ schemas) more (suc table) row there = let less : table < length schemas = omega arith in key_in-more schemas more table row less

abbrev pub over : Database → List Schema → Database
over db schemas = record db { schemas = schemas }

-- the tables of changes over other tables
pub made_of : List Change → List Schema
made_of [] = []
made_of (Create schema ∷ earlier) = made_of earlier ++ schema ∷ []
made_of (Put table row ∷ earlier) = made_of earlier
made_of (Remove table key ∷ earlier) = made_of earlier

pub schemas_after : (db : Database) (changes : List Change) → (changed db changes).schemas ≡ db.schemas ++ made_of changes
unfolding made_of
schemas_after db [] = sym (append-nil db.schemas)
schemas_after db (Create schema ∷ earlier) =
    ap (λ (ss : List Schema). ss ++ schema ∷ []) (schemas_after db earlier) ∙ append_assoc db.schemas (made_of earlier) (schema ∷ [])
schemas_after db (Put table row ∷ earlier) = schemas_after db earlier
schemas_after db (Remove table key ∷ earlier) = schemas_after db earlier

-- rows are put at the same keys where more tables are there
pub rows_over : (db : Database) (changes : List Change) (schemas more : List Schema) → schemas ≡ (changed db changes).schemas ++ more → AllIn db changes
    → (changed (over db schemas) changes).rows ≡ (changed db changes).rows
rows_over db [] schemas more is all = refl
rows_over db (Create schema ∷ earlier) schemas more is all =
    rows_over db earlier schemas (schema ∷ more) (is ∙ append_assoc (changed db earlier).schemas (schema ∷ []) more) all
rows_over db (Put table row ∷ earlier) schemas more is all =
    let here = (changed db earlier).schemas in
    let wide : (changed (over db schemas) earlier).schemas ≡ here ++ (more ++ made_of earlier) =
    schemas_after (over db schemas) earlier ∙ ap (λ (ss : List Schema). ss ++ made_of earlier) is ∙ append_assoc here more (made_of earlier) in
    let same : key_in (changed (over db schemas) earlier).schemas table row ≡ key_in here table row =
    ap (λ (ss : List Schema). key_in ss table row) wide ∙ key_in-more here (more ++ made_of earlier) table row all.0 in
    ap (λ (key : Value). insert (changed (over db schemas) earlier).rows (table, key) row) same
    ∙ ap (λ (rows : RowMap). insert rows (table, key_in here table row) row) (rows_over db earlier schemas more is all.1)
rows_over db (Remove table key ∷ earlier) schemas more is all =
    ap (λ (rows : RowMap). remove rows (table, key)) (rows_over db earlier schemas more is all)
