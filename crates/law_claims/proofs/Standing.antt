-- What holds over a database and stands on its basis holds behind others' changes, too, and stands there.
use Rattle.std.proofs.Common.{◌≡◌, ◌∙◌, ap, sym, refl, subst, ℕ, Bool, true, false, List, [], ◌∷◌, ◌++◌, None}
use Rattle.std.proofs.lemmas.Bool.{false≢true}
use Rattle.std.proofs.lemmas.List.Folds.{list_any-append}
use Rattle.std.specs.Prelude.{◌||◌, slice_get}
use Rattle.std.specs.FinMap.{get}
use Rattle.inno_types.specs.declared.value.Value.{Value}
use Rattle.inno_types.specs.declared.value.Schema.{Schema}
use Rattle.inno_db.specs.declared.change.Change.{Change}
use Rattle.inno_db.specs.declared.change.Change.TheVariants.{Create, Put, Remove}
use Rattle.inno_db.specs.Database.{Database, Place}
use Rattle.inno_db.specs.Changes.{apply_one}
use Rattle.inno_db.specs.Conditions.{matches}
use Rattle.inno_db.specs.Names.{table_place}
use Rattle.inno_model.specs.Past.{changed}
use Rattle.law_db.specs.RowChanges.{AreOfTables}
use Rattle.law_db.specs.Beside.{is_change_at, touches, AreApart, AreOfRows, passed, IsUnmet}
use Rattle.law_db.proofs.Apart.{schemas_stay, get_untouched, get_touched}
use Rattle.law_claims.specs.Claims.{Claim, Tables, Row, Rows, Leaves, Basis, RestsOn, LeavesBasis, Stands}

-- ---- changes behind changes

pub changed_append : (db : Database) (later earlier : List Change) → changed db (later ++ earlier) ≡ changed (changed db earlier) later
changed_append db [] earlier = refl
changed_append db (change ∷ later) earlier = ap (λ (d : Database). apply_one d change) (changed_append db later earlier)

pub of_rows : (schemas : List Schema) (others : List Change) → AreOfTables schemas others → AreOfRows others
of_rows schemas [] all = tt
of_rows schemas (Create schema ∷ others) all = absurd all
of_rows schemas (Put table row ∷ others) all = of_rows schemas others all.1
of_rows schemas (Remove table key ∷ others) all = of_rows schemas others all.1

of_tables_append : (schemas : List Schema) (later earlier : List Change) → AreOfTables schemas later → AreOfTables schemas earlier
    → AreOfTables schemas (later ++ earlier)
of_tables_append schemas [] earlier some all = all
of_tables_append schemas (Create schema ∷ later) earlier some all = absurd some
of_tables_append schemas (Put table row ∷ later) earlier some all = (some.0, of_tables_append schemas later earlier some.1 all)
of_tables_append schemas (Remove table key ∷ later) earlier some all = (some.0, of_tables_append schemas later earlier some.1 all)

pub touches_append : (schemas : List Schema) (later earlier : List Change) (place : Place)
    → touches schemas (later ++ earlier) place ≡ (touches schemas later place || touches schemas earlier place)
touches_append schemas later earlier place = list_any-append (is_change_at schemas place) later earlier

or_false : (a b : Bool) → a ≡ false → b ≡ false → (a || b) ≡ false
or_false true b p q = p
or_false false b p q = q

or_first : (a b : Bool) → a ≡ false → (a || b) ≡ true → b ≡ true
or_first true b p q = cc
or_first false b p q = q

-- a row that a place has before and behind changes, none of which passes, passes neither before nor behind all of them
unmet_append : (table : ℕ) (test : List Value → Bool) (db : Database) (later earlier : List Change) → AreOfRows later → AreOfRows earlier
    → IsUnmet table test db earlier → IsUnmet table test (changed db earlier) later → IsUnmet table test db (later ++ earlier)
unmet_append table test db later earlier rows more first then key touched =
    let at : Place = (table, key) in
    let tables : (changed db earlier).schemas ≡ db.schemas = schemas_stay db earlier more in
    let here : touches (changed db earlier).schemas later at ≡ touches db.schemas later at = ap (λ (ss : List Schema). touches ss later at) tables in
    let all : passed test (get (changed (changed db earlier) later).rows at) ≡ passed test (get (changed db (later ++ earlier)).rows at) =
    ap (λ (d : Database). passed test (get d.rows at)) (sym (changed_append db later earlier)) in
    elim (touches db.schemas earlier at)
    as (λ b. touches db.schemas earlier at ≡ b
    → (passed test (get db.rows at) ≡ None) × (passed test (get (changed db (later ++ earlier)).rows at) ≡ None)) [
      | true ↦ λ was. (
        (first key was).0,
        elim (touches db.schemas later at)
            as (λ b. touches db.schemas later at ≡ b → passed test (get (changed db (later ++ earlier)).rows at) ≡ None) [
              | true ↦ λ is. sym all ∙ (then key (here ∙ is)).1
              | false ↦ λ is. sym all ∙ (ap (passed test) (get_untouched (changed db earlier) later at rows (here ∙ is)) ∙ (first key was).1)
            ] refl,
      )
      | false ↦ λ was.
          let is : touches db.schemas later at ≡ true = or_second (touches db.schemas later at) (touches db.schemas earlier at) was
          (sym (touches_append db.schemas later earlier at) ∙ touched) in
          (ap (passed test) (sym (get_untouched db earlier at more was)) ∙ (then key (here ∙ is)).0, sym all ∙ (then key (here ∙ is)).1)
    ] refl where
      or_second : (a b : Bool) → b ≡ false → (a || b) ≡ true → a ≡ true
      or_second true b p q = refl
      or_second false b p q = cc

-- ---- claims

module _ (db : Database) (later earlier : List Change) (rows : AreOfRows later) (more : AreOfRows earlier) where
  tables_stay : (changed db earlier).schemas ≡ db.schemas
  tables_stay = schemas_stay db earlier more

  leaves_append : (claim : Claim) → Leaves claim db earlier → Leaves claim (changed db earlier) later → Leaves claim db (later ++ earlier)
  leaves_append Tables first then =
      of_tables_append db.schemas later earlier (subst (λ (ss : List Schema). AreOfTables ss later) tables_stay then) first
  leaves_append (Row place) first then =
      touches_append db.schemas later earlier place
      ∙ or_false (touches db.schemas later place) (touches db.schemas earlier place)
      (ap (λ (ss : List Schema). touches ss later place) (sym tables_stay) ∙ then) first
  leaves_append (Rows name condition) first then = λ table schema named is.
      unmet_append table (matches schema.columns condition) db later earlier rows more (first table schema named is)
      (then table schema (ap (λ (ss : List Schema). table_place ss name) tables_stay ∙ named)
      (ap (λ (ss : List Schema). slice_get ss table) tables_stay ∙ is))

pub rests_as : (some others : List Schema) → some ≡ others → (basis : Basis) (claim : Claim) → RestsOn some basis claim → RestsOn others basis claim
rests_as some others same basis claim rests = subst (λ (ss : List Schema). RestsOn ss basis claim) same rests

-- no changes leave all
pub leaves_none : (claim : Claim) (db : Database) → Leaves claim db []
leaves_none Tables db = tt
leaves_none (Row place) db = refl
leaves_none (Rows name condition) db = λ table schema named is key touched. absurd (false≢true touched)

-- changes that leave the basis, and then others that do
pub basis_append : (basis : Basis) (db : Database) (later earlier : List Change) → LeavesBasis basis db earlier
    → LeavesBasis basis (changed db earlier) later → LeavesBasis basis db (later ++ earlier)
basis_append basis db later earlier first then claim rests =
    let more = of_rows db.schemas earlier (first Tables tt) in
    let rows = of_rows (changed db earlier).schemas later (then Tables tt) in
    leaves_append db later earlier rows more claim (first claim rests)
    (then claim (rests_as db.schemas (changed db earlier).schemas (sym (schemas_stay db earlier more)) basis claim rests))

module _ (basis : Basis) (Holds : Database → Type 0) where
  -- it holds over the database itself
  pub stands_now : (db : Database) → Stands basis Holds db → Holds db
  stands_now db stands = stands [] (λ claim rests. leaves_none claim db)

  -- and stands behind others' changes
  pub stands_then : (db : Database) (others : List Change) → Stands basis Holds db → LeavesBasis basis db others → Stands basis Holds (changed db others)
  stands_then db others stands leaves = λ more beside.
      subst Holds (changed_append db more others) (stands (more ++ others) (basis_append basis db more others leaves beside))

-- what follows from what stands
pub stands_as : (basis : Basis) (This That : Database → Type 0) (db : Database) → ((d : Database) → This d → That d) → Stands basis This db
    → Stands basis That db
stands_as basis This That db follows stands = λ others leaves. follows (changed db others) (stands others leaves)

-- ---- behind changes of one's own

module _ (db : Database) (mine others : List Change) (own : AreOfRows mine) (rows : AreOfRows others) (apart : AreApart db.schemas mine others) where
  mine_stay : (changed db mine).schemas ≡ db.schemas
  mine_stay = schemas_stay db mine own

  unmet_behind : (table : ℕ) (test : List Value → Bool) → IsUnmet table test db others → IsUnmet table test (changed db mine) others
  unmet_behind table test unmet key touched =
      let at : Place = (table, key) in
      let is : touches db.schemas others at ≡ true = ap (λ (ss : List Schema). touches ss others at) (sym mine_stay) ∙ touched in
      let mine_not : touches db.schemas mine at ≡ false = not_mine at is in (
        ap (passed test) (get_untouched db mine at own mine_not) ∙ (unmet key is).0,
        ap (passed test) (get_touched (changed db mine) db others at mine_stay rows touched) ∙ (unmet key is).1,
      ) where
        not_mine : (at : Place) → touches db.schemas others at ≡ true → touches db.schemas mine at ≡ false
        not_mine at is = elim (touches db.schemas mine at) as (λ b. touches db.schemas mine at ≡ b → b ≡ false) [
          | true ↦ λ both. absurd (false≢true (sym (apart at both) ∙ is))
          | false ↦ λ none. refl
        ] refl

  pub leaves_behind : (claim : Claim) → Leaves claim db others → Leaves claim (changed db mine) others
  leaves_behind Tables leaves = subst (λ (ss : List Schema). AreOfTables ss others) (sym mine_stay) leaves
  leaves_behind (Row place) leaves = ap (λ (ss : List Schema). touches ss others place) mine_stay ∙ leaves
  leaves_behind (Rows name condition) leaves = λ table schema named is.
      unmet_behind table (matches schema.columns condition)
      (leaves table schema (ap (λ (ss : List Schema). table_place ss name) (sym mine_stay) ∙ named)
      (ap (λ (ss : List Schema). slice_get ss table) (sym mine_stay) ∙ is))
