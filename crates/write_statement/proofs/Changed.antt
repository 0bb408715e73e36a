-- What a session sees amid the changes of its statement.
use Rattle.std.proofs.Common.{◌≡◌, ℕ, List, [], ◌∷◌, ◌++◌, reverse, refl, ap, ◌∙◌}
use Rattle.std.proofs.lemmas.List.{append_assoc, reverse-append}
use Rattle.inno_db.specs.declared.change.Change.{Change}
use Rattle.inno_db.specs.Database.{Database}
use Rattle.inno_db.specs.Changes.{apply_one, apply}
use Rattle.inno_model.specs.declared.event.Event.{Event}
use Rattle.inno_model.specs.Past.{own, commits, committed, opening, changed, current}
use Rattle.sql_history.specs.Items.{own_before, base}
use Rattle.law_claims.proofs.Standing.{changed_append}

pub changed_all : (db : Database) (changes : List Change) → changed db (reverse changes) ≡ apply db changes
changed_all db [] = refl
changed_all db (change ∷ changes) =
    ap (changed db) (reverse-append (change ∷ []) changes)
    ∙ (changed_append db (reverse changes) (change ∷ []) ∙ changed_all (apply_one db change) changes)

pub current_changed : (past : List Event) (s : ℕ) (later : List Change) → own s past ≡ later ++ own_before s past
    → current s past ≡ changed (base s past) later
current_changed past s later is =
    ap (λ (changes : List Change). changed (opening past) (changes ++ committed (commits past) past)) is
    ∙ (ap (changed (opening past)) (append_assoc later (own_before s past) (committed (commits past) past))
    ∙ changed_append (opening past) later (own_before s past ++ committed (commits past) past))

pub current_is : (past : List Event) (s : ℕ) (made : List Change) → own s past ≡ reverse made ++ own_before s past → current s past ≡ apply (base s past) made
current_is past s made is = current_changed past s (reverse made) is ∙ changed_all (base s past) made
