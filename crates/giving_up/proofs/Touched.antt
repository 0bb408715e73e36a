-- Changes of rows, some before others, and the places that they touch.
use Rattle.std.proofs.Common.{◌≡◌, Bool, true, false, List, [], ◌∷◌, ◌++◌, refl, sym, ap, subst, ◌∙◌}
use Rattle.std.proofs.lemmas.List.{append-nil}
use Rattle.std.specs.Prelude.{◌||◌}
use Rattle.std.specs.List.{AllByRecursion}
use Rattle.inno_types.specs.declared.value.Schema.{Schema}
use Rattle.inno_db.specs.declared.change.Change.{Change}
use Rattle.inno_db.specs.declared.change.Change.TheVariants.{Create, Put, Remove}
use Rattle.inno_db.specs.Database.{Place}
use Rattle.law_past_agreement.specs.Order.{IsOfRow}
use Rattle.law_db.specs.Beside.{touches, AreOfRows}
use Rattle.law_claims.proofs.Standing.{touches_append}

pub front_rows : (front later : List Change) → AllByRecursion IsOfRow (front ++ later) → AreOfRows front
front_rows [] later all = tt
front_rows (Create schema ∷ front) later all = absurd all.0
front_rows (Put table row ∷ front) later all = front_rows front later all.1
front_rows (Remove table key ∷ front) later all = front_rows front later all.1

pub later_rows : (front later : List Change) → AllByRecursion IsOfRow (front ++ later) → AreOfRows later
later_rows [] later all = front_rows later [] (subst (AllByRecursion IsOfRow) (sym (append-nil later)) all)
later_rows (change ∷ front) later all = later_rows front later all.1

pub touched_front : (schemas : List Schema) (front later : List Change) (place : Place) → touches schemas front place ≡ true
    → touches schemas (front ++ later) place ≡ true
touched_front schemas front later place is = touches_append schemas front later place ∙ ap (λ b. b || touches schemas later place) is

or_true : (a : Bool) → (a || true) ≡ true
or_true true = refl
or_true false = refl

pub touched_later : (schemas : List Schema) (front later : List Change) (place : Place) → touches schemas later place ≡ true
    → touches schemas (front ++ later) place ≡ true
touched_later schemas front later place is =
    touches_append schemas front later place ∙ (ap (λ b. touches schemas front place || b) is ∙ or_true (touches schemas front place))
