-- Changes of other places.
use Rattle.std.proofs.Common.{◌≡◌, ◌∙◌, ap, sym, refl, true, false, cond, List, [], ◌∷◌, Option, Some, None}
use Rattle.std.specs.Prelude.{◌||◌}
use Rattle.std.specs.FinMap.{get, same_map, get-insert, get-remove}
use Rattle.inno_types.specs.declared.value.Value.{Value}
use Rattle.inno_types.specs.declared.value.Schema.{Schema}
use Rattle.inno_db.specs.declared.change.Change.{Change}
use Rattle.inno_db.specs.declared.change.Change.TheVariants.{Create, Put, Remove}
use Rattle.inno_db.specs.Database.{Database, Place, RowMap, key_in}
use Rattle.inno_db.specs.Order.{place_cmp_total}
use Rattle.inno_db.specs.Changes.{apply_one}
use Rattle.inno_db.proofs.Tables.{place_cmp-IsAntisymmetric}
use Rattle.inno_model.specs.Past.{changed}
use Rattle.law_db.specs.Beside.{is_change_at, touches, AreApart, AreOfRows}

pub same_database : (a b : Database) → a.schemas ≡ b.schemas → ((place : Place) → get a.rows place ≡ get b.rows place) → a ≡ b
same_database a b schemas rows =
    let same : a.rows ≡ b.rows = same_map place_cmp_total place_cmp-IsAntisymmetric a.rows b.rows rows in
    ap (λ (ss : List Schema). record { schemas = ss; rows = a.rows }) schemas ∙ ap (λ (m : RowMap). record { schemas = b.schemas; rows = m }) same

-- changes of rows make no table
pub schemas_stay : (db : Database) (changes : List Change) → AreOfRows changes → (changed db changes).schemas ≡ db.schemas
schemas_stay db [] rows = refl
schemas_stay db (Create schema ∷ changes) rows = absurd rows
schemas_stay db (Put table row ∷ changes) rows = schemas_stay db changes rows
schemas_stay db (Remove table key ∷ changes) rows = schemas_stay db changes rows

-- what one change makes of the row of a place
abbrev pub made_at : Change → Option (List Value) → Option (List Value)
made_at (Create schema) was = was
made_at (Put table row) was = Some row
made_at (Remove table key) was = None

pub get_one : (db : Database) (change : Change) (place : Place) → get (apply_one db change).rows place ≡ cond (is_change_at db.schemas place change) (made_at change (get db.rows place)) (get db.rows place)
get_one db (Create schema) place = refl
get_one db (Put table row) place = get-insert place_cmp_total db.rows (table, key_in db.schemas table row) row place
get_one db (Remove table key) place = get-remove place_cmp_total db.rows (table, key) place

rows_behind : (change : Change) (changes : List Change) → AreOfRows (change ∷ changes) → AreOfRows changes
rows_behind (Create schema) changes rows = absurd rows
rows_behind (Put table row) changes rows = rows
rows_behind (Remove table key) changes rows = rows

get_next : (db : Database) (change : Change) (changes : List Change) (place : Place) → AreOfRows (change ∷ changes)
    → get (changed db (change ∷ changes)).rows place ≡ cond (is_change_at db.schemas place change) (made_at change (get (changed db changes).rows place)) (get (changed db changes).rows place)
get_next db change changes place rows =
    get_one (changed db changes) change place
    ∙ ap (λ (ss : List Schema). cond (is_change_at ss place change) (made_at change (get (changed db changes).rows place)) (get (changed db changes).rows place)) (schemas_stay db changes (rows_behind change changes rows))

-- a place that none of the changes is made at has its row
pub get_untouched : (db : Database) (changes : List Change) (place : Place) → AreOfRows changes → touches db.schemas changes place ≡ false → get (changed db changes).rows place ≡ get db.rows place
get_untouched db [] place rows not = refl
get_untouched db (change ∷ changes) place rows not =
    elim (is_change_at db.schemas place change) as (λ b. is_change_at db.schemas place change ≡ b → (b || touches db.schemas changes place) ≡ false → get (changed db (change ∷ changes)).rows place ≡ get db.rows place) [
      | true ↦ λ is e. cc
      | false ↦ λ is e.
          get_next db change changes place rows
          ∙ ap (λ b. cond b (made_at change (get (changed db changes).rows place)) (get (changed db changes).rows place)) is
          ∙ get_untouched db changes place (rows_behind change changes rows) e
    ] refl not

-- and one that a change is made at has a row that the changes alone say
pub get_touched : (a b : Database) (changes : List Change) (place : Place) → a.schemas ≡ b.schemas → AreOfRows changes → touches a.schemas changes place ≡ true → get (changed a changes).rows place ≡ get (changed b changes).rows place
get_touched a b [] place same rows is = cc
get_touched a b (change ∷ changes) place same rows touched =
    let next = get_next a change changes place rows in
    let other = get_next b change changes place rows ∙ ap (λ (ss : List Schema). cond (is_change_at ss place change) (made_at change (get (changed b changes).rows place)) (get (changed b changes).rows place)) (sym same) in
    elim (is_change_at a.schemas place change) as (λ c. is_change_at a.schemas place change ≡ c → (c || touches a.schemas changes place) ≡ true → get (changed a (change ∷ changes)).rows place ≡ get (changed b (change ∷ changes)).rows place) [
      | true ↦ λ is e.
          next ∙ ap (λ c. cond c (made_at change (get (changed a changes).rows place)) (get (changed a changes).rows place)) is
          ∙ alike change is
          ∙ sym (other ∙ ap (λ c. cond c (made_at change (get (changed b changes).rows place)) (get (changed b changes).rows place)) is)
      | false ↦ λ is e.
          next ∙ ap (λ c. cond c (made_at change (get (changed a changes).rows place)) (get (changed a changes).rows place)) is
          ∙ get_touched a b changes place same (rows_behind change changes rows) e
          ∙ sym (other ∙ ap (λ c. cond c (made_at change (get (changed b changes).rows place)) (get (changed b changes).rows place)) is)
    ] refl touched
  where
    alike : (c : Change) → is_change_at a.schemas place c ≡ true → made_at c (get (changed a changes).rows place) ≡ made_at c (get (changed b changes).rows place)
    alike (Create schema) is = cc
    alike (Put table row) is = refl
    alike (Remove table key) is = refl

-- changes of other places may be made first or last
pub beside_commutes : (db : Database) (some others : List Change) → AreOfRows some → AreOfRows others → AreApart db.schemas some others → changed (changed db some) others ≡ changed (changed db others) some
beside_commutes db some others rows more apart = same_database (changed (changed db some) others) (changed (changed db others) some) tables at
  where
    after : Database
    after = changed db some

    beyond : Database
    beyond = changed db others

    here : after.schemas ≡ db.schemas
    here = schemas_stay db some rows

    there : beyond.schemas ≡ db.schemas
    there = schemas_stay db others more

    tables : (changed (changed db some) others).schemas ≡ (changed (changed db others) some).schemas
    tables = schemas_stay (changed db some) others more ∙ here ∙ sym (schemas_stay (changed db others) some rows ∙ there)

    at : (place : Place) → get (changed (changed db some) others).rows place ≡ get (changed (changed db others) some).rows place
    at place = elim (touches db.schemas some place) as (λ b. touches db.schemas some place ≡ b → get (changed (changed db some) others).rows place ≡ get (changed (changed db others) some).rows place) [
      | true ↦ λ is.
          get_untouched (changed db some) others place more (ap (λ (ss : List Schema). touches ss others place) here ∙ apart place is)
          ∙ get_touched db (changed db others) some place (sym there) rows is
      | false ↦ λ is.
          let still = get_untouched (changed db others) some place rows (ap (λ (ss : List Schema). touches ss some place) there ∙ is) in
          elim (touches db.schemas others place) as (λ b. touches db.schemas others place ≡ b → get (changed (changed db some) others).rows place ≡ get (changed (changed db others) some).rows place) [
            | true ↦ λ t. sym (get_touched db (changed db some) others place (sym here) more t) ∙ sym still
            | false ↦ λ t.
                get_untouched (changed db some) others place more (ap (λ (ss : List Schema). touches ss others place) here ∙ t)
                ∙ get_untouched db some place rows is
                ∙ sym (still ∙ get_untouched db others place more t)
          ] refl
    ] refl
