-- Changes that are made record by record, and group by group.
use Rattle.std.proofs.Common.{◌≡◌, ℕ, ◌+◌, ◌<◌, List, [], ◌∷◌, length, drop, get_or, sym, refl, ◌∙◌, ap, subst, arith}
use Rattle.std.proofs.lemmas.List.{drop_more}
use Rattle.inno_types.specs.declared.value.Value.{Value}
use Rattle.inno_types.specs.declared.value.Schema.{Schema}
use Rattle.inno_db.specs.Database.{Database, database_of}
use Rattle.inno_db.specs.Keeping.{CanApply}
use Rattle.inno_db.specs.Changes.{apply_one}
use Rattle.inno_db.specs.declared.change.Change.{Change}
use Rattle.inno_db.specs.declared.change.Change.TheVariants.{Create, Put, Remove}
use Rattle.inno_db.proofs.Keys.{IsOfTable, IsKeyed-apply, IsKeyed-database}
use Rattle.inno_db.specs.Keyed.{IsKeyed}
use Rattle.inno_model.specs.Past.{changed}
use Rattle.log_format.specs.declared.group.Group.{Group}
use Rattle.log_format.specs.declared.group.Record.{Record}
use Rattle.law_crashes.specs.Records.{no_db, change_of, changes_of, changes_in}
use Rattle.law_crashes.proofs.Records.{changed-append}

pub one_record : (db : Database) (r : Record) (later : List Record)
    → changed (changed db (change_of r)) (changes_of later) ≡ changed db (changes_of (r ∷ later))
one_record db r later = sym (changed-append db (changes_of later) (change_of r))

pub one_group : (db : Database) (g : Group) (later : List Group)
    → changed (changed db (changes_of g.records)) (changes_in later) ≡ changed db (changes_in (g ∷ later))
one_group db g later = sym (changed-append db (changes_in later) (changes_of g.records))

pub next_record : (db : Database) (rs : List Record) (i : ℕ) (r : Record) → i < length rs → r ≡ get_or rs i r
    → changed (changed db (change_of r)) (changes_of (drop (i + 1) rs)) ≡ changed db (changes_of (drop i rs))
next_record db rs i r below is =
    one_record db r (drop (i + 1) rs) ∙ ap (λ (l : List Record). changed db (changes_of l))
    (sym (drop_more rs i r below ∙ ap (λ (x : Record). x ∷ drop (i + 1) rs) (sym is)))

pub next_group : (db : Database) (gs : List Group) (i : ℕ) (g : Group) → i < length gs → g ≡ get_or gs i g
    → changed (changed db (changes_of g.records)) (changes_in (drop (i + 1) gs)) ≡ changed db (changes_in (drop i gs))
next_group db gs i g below is =
    one_group db g (drop (i + 1) gs) ∙ ap (λ (l : List Group). changed db (changes_in l))
    (sym (drop_more gs i g below ∙ ap (λ (x : Group). x ∷ drop (i + 1) gs) (sym is)))

of_table : (db : Database) (change : Change) → CanApply db change → IsOfTable (length db.schemas) change
of_table db (Create schema) can = tt
of_table db (Put table row) can = can
of_table db (Remove table key) can = can

-- a change that can be made leaves each row at its key
pub stays_keyed : (db new : Database) (change : Change) → CanApply db change → new ≡ apply_one db change → IsKeyed db → IsKeyed new
stays_keyed db new change can made keyed = subst IsKeyed (sym made) (IsKeyed-apply db change (of_table db change can) keyed)

-- a database without tables
pub empty_db : (schemas : List Schema) (tables : List (List (List Value))) (db : Database) → schemas ≡ [] → tables ≡ [] → db ≡ database_of schemas tables
    → db ≡ no_db
empty_db schemas tables db no-schemas no-tables is =
    is ∙ ap (λ (s : List Schema). database_of s tables) no-schemas ∙ ap (λ (t : List (List (List Value))). database_of [] t) no-tables

pub empty_keyed : IsKeyed no_db
empty_keyed = IsKeyed-database [] [] (record { as_many = refl; few = omega arith; rising = refl })
