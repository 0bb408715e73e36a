-- The work of an open transaction over a database to which another's commit has come beside it.
use Rattle.std.proofs.Common.{◌≡◌, ◌∙◌, ap, sym, refl, subst, ℕ, Bool, true, false, List, [], ◌∷◌, ◌++◌, reverse, Option, Some}
use Rattle.std.specs.Prelude.{◌||◌, ◌&&◌, slice_get}
use Rattle.std.specs.List.{list_all}
use Rattle.std.proofs.lemmas.List.{reverse-append}
use Rattle.inno_types.specs.declared.value.Value.{Value}
use Rattle.inno_types.specs.declared.value.Schema.{Schema}
use Rattle.inno_types.specs.declared.reply.Reply.{Reply}
use Rattle.inno_types.specs.declared.reply.Reply.TheVariants.{Count, Rows}
use Rattle.inno_types.specs.declared.stmt.Filter.{Filter}
use Rattle.inno_types.specs.declared.stmt.Stmt.{Stmt}
use Rattle.inno_types.specs.declared.stmt.Stmt.TheVariants.{Select, Insert, Update, Delete}
use Rattle.inno_db.specs.declared.change.Change.{Change}
use Rattle.inno_db.specs.declared.change.Change.TheVariants.{Create, Put, Remove}
use Rattle.inno_db.specs.declared.outcome.Outcome.{Outcome}
use Rattle.inno_db.specs.Database.{Database, Place}
use Rattle.inno_db.specs.Names.{table_place}
use Rattle.inno_db.specs.Outcome.{outcome}
use Rattle.inno_model.specs.Past.{changed}
use Rattle.sql_history.specs.declared.settings.Save.{Save}
use Rattle.sql_history.specs.Serial.{Piece}
use Rattle.sql_history.specs.Statements.{is_on_rows}
use Rattle.law_histories.specs.Work.{Tracks, IsReplied}
use Rattle.law_db.specs.Beside.{is_change_at, touches, AreApart, AreOfRows, passed, IsUnmet, IsBesideSearch}
use Rattle.law_isolation.specs.Pieces.{IsBeside, AreBeside, is_answered, AreAnswered}
use Rattle.law_db.proofs.Apart.{schemas_stay, get_untouched, get_touched, beside_commutes}
use Rattle.law_db.proofs.Searching.{select_beside, update_beside, delete_beside}
use Rattle.law_db.proofs.BesideInserting.{insert_beside, insert_no_rows}

-- ---- lists of changes

pub rows_later : (later before : List Change) → AreOfRows (later ++ before) → AreOfRows before
rows_later [] before rows = rows
rows_later (Create schema ∷ later) before rows = absurd rows
rows_later (Put table row ∷ later) before rows = rows_later later before rows
rows_later (Remove table key ∷ later) before rows = rows_later later before rows

pub or_left : (a b : Bool) → a ≡ true → (a || b) ≡ true
or_left true b e = refl
or_left false b e = cc

pub or_right : (a b : Bool) → b ≡ true → (a || b) ≡ true
or_right true b e = refl
or_right false b e = e

pub and_front : (a b : Bool) → (a && b) ≡ true → a ≡ true
and_front true b e = refl
and_front false b e = cc

pub and_behind : (a b : Bool) → (a && b) ≡ true → b ≡ true
and_behind true b e = e
and_behind false b e = cc

pub touches-append : (schemas : List Schema) (later before : List Change) (place : Place)
    → touches schemas (later ++ before) place ≡ (touches schemas later place || touches schemas before place)
touches-append schemas [] before place = refl
touches-append schemas (change ∷ later) before place =
    ap (λ b. is_change_at schemas place change || b) (touches-append schemas later before place)
    ∙ elim (is_change_at schemas place change) as
    (λ b. (b || (touches schemas later place || touches schemas before place)) ≡ ((b || touches schemas later place) || touches schemas before place))
    [ true ↦ refl | false ↦ refl ]

touches-turned : (schemas : List Schema) (changes : List Change) (place : Place) → touches schemas changes place ≡ true
    → touches schemas (reverse changes) place ≡ true
touches-turned schemas [] place is = is
touches-turned schemas (change ∷ changes) place is =
    ap (λ (cs : List Change). touches schemas cs place) (reverse-append (change ∷ []) changes)
    ∙ touches-append schemas (reverse changes) (change ∷ []) place
    ∙ elim (is_change_at schemas place change) as
    (λ b. (b || touches schemas changes place) ≡ true → (touches schemas (reverse changes) place || (b || false)) ≡ true) [
      | true ↦ λ e. or_right (touches schemas (reverse changes) place) true refl
      | false ↦ λ e. or_left (touches schemas (reverse changes) place) false (touches-turned schemas changes place e)
    ] is

pub apart_turned : (schemas : List Schema) (some others : List Change) → AreApart schemas some others → AreApart schemas others some
apart_turned schemas some others apart place is =
    elim (touches schemas some place) as (λ b. touches schemas some place ≡ b → b ≡ false) [
      | true ↦ λ e. let f = apart place e in let g = sym is ∙ f in cc
      | false ↦ λ e. refl
    ] refl

-- ---- pieces

module _ (db : Database) (others : List Change) (rows : AreOfRows others) where
  -- what is beside a search over the committed rows is so over those with own changes elsewhere
  unmet_over : (table : ℕ) (test : List Value → Bool) (before : List Change) → AreOfRows before → AreApart db.schemas others before
      → IsUnmet table test db others → IsUnmet table test (changed db before) others
  unmet_over table test before mine apart unmet key is =
      let tables = schemas_stay db before mine in
      let here : touches db.schemas others (table, key) ≡ true = ap (λ (ss : List Schema). touches ss others (table, key)) (sym tables) ∙ is in (
        ap (passed test) (get_untouched db before (table, key) mine (apart (table, key) here)) ∙ (unmet key here).0,
        ap (passed test) (get_touched (changed db before) db others (table, key) tables rows is) ∙ (unmet key here).1,
      )

  search_over : (name : List ℕ) (condition : Option Filter) (before : List Change) → AreOfRows before → AreApart db.schemas others before
      → IsBesideSearch name condition db others → IsBesideSearch name condition (changed db before) others
  search_over name condition before mine apart beside table schema here is =
      let tables = schemas_stay db before mine in
      unmet_over table _ before mine apart
      (beside table schema (ap (λ (ss : List Schema). table_place ss name) (sym tables) ∙ here)
      (ap (λ (ss : List Schema). slice_get ss table) (sym tables) ∙ is))

  counts : (d : Database) (name : List ℕ) (columns : _) (tuples : _) (reply : Option Reply)
      → is_answered (Piece.ran (Insert name columns tuples) reply) ≡ true → IsReplied reply (outcome (Insert name columns tuples) d)
      → (n : ℕ) × ((outcome (Insert name columns tuples) d).reply ≡ Count n)
  counts d name columns tuples (Some (Count n)) answered replied = (n, sym replied)
  counts d name columns tuples (Some (Rows answer)) answered replied = absurd (insert_no_rows d name columns tuples answer replied)
  counts d name columns tuples other answered replied = absurd (cc)

  off_rows : (a : Stmt) (r : Option Reply) → is_on_rows a ≡ false → is_answered (Piece.ran a r) ≡ true → ⊥
  off_rows a (Some (Rows answer)) off is = (let e = sym off ∙ is in cc)
  off_rows a (Some (Count n)) off is = (let e = sym off ∙ is in cc)
  off_rows a other off is = (cc)

  piece_beside : (statement : Stmt) (reply : Option Reply) (before : List Change) → AreOfRows before → AreApart db.schemas others before
      → AreApart db.schemas (outcome statement (changed db before)).changes others → is_answered (Piece.ran statement reply) ≡ true → IsReplied reply
      (outcome statement (changed db before)) → IsBeside (Piece.ran statement reply) db others
      → outcome statement (changed (changed db before) others) ≡ outcome statement (changed db before)
  piece_beside (Select selected name condition lock) reply before mine apart new answered replied beside =
      select_beside (changed db before) others rows selected name condition lock (search_over name condition before mine apart beside)
  piece_beside (Update name sets condition) reply before mine apart new answered replied beside =
      update_beside (changed db before) others rows name sets condition (search_over name condition before mine apart beside)
  piece_beside (Delete name condition) reply before mine apart new answered replied beside =
      delete_beside (changed db before) others rows name condition (search_over name condition before mine apart beside)
  piece_beside (Insert name columns tuples) reply before mine apart new answered replied beside =
      let tables = schemas_stay db before mine in
      let count = counts (changed db before) name columns tuples reply answered replied in
      insert_beside (changed db before) others name columns tuples count.0 rows count.1
      (subst (λ (ss : List Schema). AreApart ss (outcome (Insert name columns tuples) (changed db before)).changes others) (sym tables) new)
  piece_beside other reply before mine apart new answered replied beside = absurd (off_rows other reply refl answered)

  -- The work goes with its changes over the new database, too.
  pub tracks_beside : (pieces : List Piece) (saves : List Save) (own : List Change) → AreOfRows own → AreApart db.schemas own others → AreAnswered pieces
      → AreBeside pieces db others → Tracks db pieces saves own → Tracks (changed db others) pieces saves own
  tracks_beside [] saves own mine apart answered beside t = t
  tracks_beside (Piece.kept name ∷ pieces) saves own mine apart answered beside t = (t.0, t.1, tracks_beside pieces t.0 own mine apart answered beside.1 t.2)
  tracks_beside (Piece.ran statement reply ∷ pieces) saves own mine apart answered beside t =
      let before = t.0 in
      let changes = (outcome statement (changed db before)).changes in
      let mine_before : AreOfRows before = rows_later (reverse changes) before (subst AreOfRows t.1 mine) in
      let whole : AreApart db.schemas (reverse changes ++ before) others = subst (λ (cs : List Change). AreApart db.schemas cs others) t.1 apart in
      let apart_before : AreApart db.schemas before others =
      λ place is. whole place (touches-append db.schemas (reverse changes) before place ∙ or_right (touches db.schemas (reverse changes) place)
      (touches db.schemas before place) is) in
      let apart_new : AreApart db.schemas changes others =
      λ place is. whole place (touches-append db.schemas (reverse changes) before place ∙ or_left (touches db.schemas (reverse changes) place)
      (touches db.schemas before place) (touches-turned db.schemas changes place is)) in
      let turned = apart_turned db.schemas before others apart_before in
      let same : outcome statement (changed (changed db others) before) ≡ outcome statement (changed db before) =
      ap (outcome statement) (beside_commutes db others before rows mine_before turned)
      ∙ piece_beside statement reply before mine_before turned apart_new
      (and_front (is_answered (Piece.ran statement reply)) (list_all is_answered pieces) answered) t.2 beside.0 in (
        before,
        t.1 ∙ ap (λ (o : Outcome). reverse o.changes ++ before) (sym same),
        subst (IsReplied reply) (sym same) t.2,
        tracks_beside pieces saves before mine_before apart_before
            (and_behind (is_answered (Piece.ran statement reply)) (list_all is_answered pieces) answered) beside.1 t.3,
      )
