-- The changes of answered pieces are of rows of tables that are there.
use Rattle.std.proofs.Common.{◌≡◌, sym, refl, subst, ℕ, ◌<◌, Bool, true, false, List, [], ◌∷◌, ◌++◌, length, reverse, Option, Some}
use Rattle.std.specs.Prelude.{if◌then◌else◌, ◌||◌, ◌&&◌, filter, not}
use Rattle.std.specs.List.{list_all}
use Rattle.std.specs.Ordering.{is_eq}
use Rattle.std.specs.declared.cmp.Ordering.{Ordering}
use Rattle.std.specs.declared.cmp.Ordering.TheVariants.{Less, Equal, Greater}
use Rattle.std.proofs.lemmas.List.{reverse-append}
use Rattle.inno_types.specs.declared.reply.Reply.{Reply}
use Rattle.inno_types.specs.declared.reply.Reply.TheVariants.{Done, Count, Rows}
use Rattle.inno_types.specs.declared.reply.Item.{Item}
use Rattle.inno_types.specs.declared.reply.Item.TheVariants.{Sql}
use Rattle.inno_types.specs.declared.stmt.Stmt.{Stmt}
use Rattle.inno_types.specs.declared.stmt.Stmt.TheVariants as stmt
use Rattle.inno_types.specs.declared.value.Schema.{Schema}
use Rattle.inno_db.specs.declared.change.Change.{Change}
use Rattle.inno_db.specs.declared.change.Change.TheVariants.{Create, Put, Remove}
use Rattle.inno_db.specs.Database.{Database, Place, place_cmp, key_in}
use Rattle.inno_db.specs.Outcome.{outcome}
use Rattle.inno_db.proofs.Tables.{place_cmp-IsAntisymmetric}
use Rattle.inno_model.specs.declared.event.Event.{Event}
use Rattle.inno_model.specs.declared.event.Event.TheVariants.{Begin, Ended}
use Rattle.inno_model.specs.Past.{changed, under_way}
use Rattle.sql_history.specs.declared.settings.Save.{Save}
use Rattle.sql_history.specs.Items.{Language}
use Rattle.sql_history.specs.Statements.{is_on_rows}
use Rattle.sql_history.specs.Serial.{Piece, HasDone, DoesItem, with_item, with_answer, pieces_to, is_kept_as}
use Rattle.law_db.specs.RowChanges.{AreOfTables}
use Rattle.law_histories.proofs.Entries.{by_session}
use Rattle.law_histories.specs.Work.{Tracks}
use Rattle.law_db.specs.Beside.{is_change_at, touches, AreOfRows}
use Rattle.law_isolation.specs.Pieces.{is_answered, AreAnswered}
use Rattle.law_db.proofs.Apart.{schemas_stay}
use Rattle.law_isolation.proofs.RowsOnly.{rows_make_no_table}
use Rattle.law_isolation.proofs.Beside.{and_front, and_behind}

-- ---- changes of tables that are there

pub of_rows : (schemas : List Schema) (changes : List Change) → AreOfTables schemas changes → AreOfRows changes
of_rows schemas [] of = tt
of_rows schemas (Create schema ∷ changes) of = absurd of
of_rows schemas (Put table row ∷ changes) of = of_rows schemas changes of.1
of_rows schemas (Remove table key ∷ changes) of = of_rows schemas changes of.1

pub tables-append : (schemas : List Schema) (some others : List Change) → AreOfTables schemas some → AreOfTables schemas others
    → AreOfTables schemas (some ++ others)
tables-append schemas [] others of more = more
tables-append schemas (Create schema ∷ some) others of more = absurd of
tables-append schemas (Put table row ∷ some) others of more = (of.0, tables-append schemas some others of.1 more)
tables-append schemas (Remove table key ∷ some) others of more = (of.0, tables-append schemas some others of.1 more)

pub tables-turned : (schemas : List Schema) (changes : List Change) → AreOfTables schemas changes → AreOfTables schemas (reverse changes)
tables-turned schemas [] of = tt
tables-turned schemas (Create schema ∷ changes) of = absurd of
tables-turned schemas (Put table row ∷ changes) of =
    subst (AreOfTables schemas) (sym (reverse-append (Put table row ∷ []) changes))
    (tables-append schemas (reverse changes) (Put table row ∷ []) (tables-turned schemas changes of.1) (of.0, tt))
tables-turned schemas (Remove table key ∷ changes) of =
    subst (AreOfTables schemas) (sym (reverse-append (Remove table key ∷ []) changes))
    (tables-append schemas (reverse changes) (Remove table key ∷ []) (tables-turned schemas changes of.1) (of.0, tt))

tied : (o : Ordering) → is_eq o ≡ true → o ≡ Equal
tied Less e = cc
tied Equal e = refl
tied Greater e = cc

pub touched_within : (schemas tables : List Schema) (changes : List Change) (place : Place) → AreOfTables tables changes
    → touches schemas changes place ≡ true → place.0 < length tables
touched_within schemas tables [] place of is = cc
touched_within schemas tables (Create schema ∷ changes) place of is = absurd of
touched_within schemas tables (Put table row ∷ changes) place of is =
    elim (is_change_at schemas place (Put table row)) as
    (λ b. is_change_at schemas place (Put table row) ≡ b → (b || touches schemas changes place) ≡ true → place.0 < length tables) [
      | true ↦ λ at e. subst (λ (p : Place). p.0 < length tables)
          (sym (place_cmp-IsAntisymmetric place (table, key_in schemas table row) (tied (place_cmp place (table, key_in schemas table row)) at))) of.0
      | false ↦ λ at e. touched_within schemas tables changes place of.1 e
    ] refl is
touched_within schemas tables (Remove table key ∷ changes) place of is =
    elim (is_change_at schemas place (Remove table key)) as
    (λ b. is_change_at schemas place (Remove table key) ≡ b → (b || touches schemas changes place) ≡ true → place.0 < length tables) [
      | true ↦ λ at e. subst (λ (p : Place). p.0 < length tables)
          (sym (place_cmp-IsAntisymmetric place (table, key) (tied (place_cmp place (table, key)) at))) of.0
      | false ↦ λ at e. touched_within schemas tables changes place of.1 e
    ] refl is

-- ---- what the pieces have changed

answered_rows : (statement : Stmt) (reply : Option Reply) → is_answered (Piece.ran statement reply) ≡ true → is_on_rows statement ≡ true
answered_rows statement (Some (Rows rows)) is = is
answered_rows statement (Some (Count n)) is = is
answered_rows statement other is = absurd (cc)

pub tracks_tables : (db : Database) (pieces : List Piece) (saves : List Save) (own : List Change) → AreAnswered pieces → Tracks db pieces saves own
    → AreOfTables db.schemas own
tracks_tables db [] saves own answered t = subst (AreOfTables db.schemas) (sym t.1) tt
tracks_tables db (Piece.kept name ∷ pieces) saves own answered t = tracks_tables db pieces t.0 own answered t.2
tracks_tables db (Piece.ran statement reply ∷ pieces) saves own answered t =
    let rest = tracks_tables db pieces saves t.0 (and_behind (is_answered (Piece.ran statement reply)) (list_all is_answered pieces) answered) t.3 in
    let rows = answered_rows statement reply (and_front (is_answered (Piece.ran statement reply)) (list_all is_answered pieces) answered) in
    let changes = (outcome statement (changed db t.0)).changes in
    let here =
    subst (λ (ss : List Schema). AreOfTables ss changes) (schemas_stay db t.0 (of_rows db.schemas t.0 rest))
    (rows_make_no_table statement (changed db t.0) rows) in
    subst (AreOfTables db.schemas) (sym t.1) (tables-append db.schemas (reverse changes) t.0 (tables-turned db.schemas changes here) rest)

-- ---- what is done was answered

pub answered_to : (name : List ℕ) (pieces : List Piece) → AreAnswered pieces → AreAnswered (pieces_to name pieces)
answered_to name [] answered = answered
answered_to name (piece ∷ pieces) answered =
    let rest = answered_to name pieces (and_behind (is_answered piece) (list_all is_answered pieces) answered) in
    elim (is_kept_as name piece) as (λ b. AreAnswered (if b then piece ∷ pieces else pieces_to name pieces)) [ true ↦ answered | false ↦ rest ]

both_true : (a b : Bool) → a ≡ true → b ≡ true → (a && b) ≡ true
both_true true b e f = f
both_true false b e f = e

answered_left : (name : List ℕ) (pieces : List Piece) → AreAnswered pieces → AreAnswered (filter (λ piece. not (is_kept_as name piece)) pieces)
answered_left name [] answered = answered
answered_left name (piece ∷ pieces) answered =
    let rest = answered_left name pieces (and_behind (is_answered piece) (list_all is_answered pieces) answered) in
    let left = filter (λ p. not (is_kept_as name p)) pieces in
    elim (is_kept_as name piece) as (λ b. AreAnswered (if not b then piece ∷ left else left)) [
      | true ↦ rest
      | false ↦ both_true (is_answered piece) (list_all is_answered left) (and_front (is_answered piece) (list_all is_answered pieces) answered) rest
    ]

answered_more : (statement : Stmt) (reply : Reply) (pieces : List Piece) → is_on_rows statement ≡ true → AreAnswered pieces
    → AreAnswered (with_answer statement reply pieces)
answered_more statement (Rows rows) pieces on answered = both_true (is_on_rows statement) (list_all is_answered pieces) on answered
answered_more statement (Count n) pieces on answered = both_true (is_on_rows statement) (list_all is_answered pieces) on answered
answered_more statement other pieces on answered = answered

answered_item : (statement : Stmt) (reply : Reply) (pieces : List Piece) → AreAnswered pieces → AreAnswered (with_item statement reply pieces)
answered_item (stmt.Savepoint name) Done pieces answered = answered_left name pieces answered
answered_item (stmt.RollbackTo name) Done pieces answered = answered_to name pieces answered
answered_item (stmt.Select selected table condition lock) reply pieces answered =
    answered_more (stmt.Select selected table condition lock) reply pieces refl answered
answered_item (stmt.Insert table columns tuples) reply pieces answered = answered_more (stmt.Insert table columns tuples) reply pieces refl answered
answered_item (stmt.Update table sets condition) reply pieces answered = answered_more (stmt.Update table sets condition) reply pieces refl answered
answered_item (stmt.Delete table condition) reply pieces answered = answered_more (stmt.Delete table condition) reply pieces refl answered
answered_item other reply pieces answered = answered

module _ (says : Language) where
  does_answered : (item : Option Item) (reply : Reply) (before after : List Piece) → AreAnswered before → DoesItem says item reply before after
      → AreAnswered after
  does_answered (Some (Sql text)) Done before after answered does = subst AreAnswered (sym does.2) (answered_item does.0 Done before answered)
  does_answered (Some (Sql text)) (Count n) before after answered does = subst AreAnswered (sym does.2) (answered_item does.0 (Count n) before answered)
  does_answered (Some (Sql text)) (Rows rows) before after answered does = subst AreAnswered (sym does.2) (answered_item does.0 (Rows rows) before answered)
  does_answered item reply before after answered does = subst AreAnswered (sym does) answered

  pub done_answered : (s : ℕ) (past : List Event) (pieces : List Piece) → HasDone says s past pieces → AreAnswered pieces
  done_answered s [] pieces done = subst AreAnswered (sym done) refl
  done_answered s (Begin t n l ∷ past) pieces done =
      by_session t s (λ mine same. subst AreAnswered (sym (rw mine at done)) refl) (λ other. done_answered s past pieces (rw other at done))
  done_answered s (Ended t j reply ∷ past) pieces done =
      by_session t s
      (λ mine same. let d = rw mine at done in does_answered (under_way s past) reply d.0 pieces (done_answered s past d.0 d.1) d.2)
      (λ other. done_answered s past pieces (rw other at done))
  done_answered s (e ∷ past) pieces done = done_answered s past pieces done
