-- What sessions see of the rows where another makes a table.
-- Readers and statements under way go on by it, whichever view they have.
use Rattle.std.proofs.Common.{◌≡◌, ◌≢◌, ◌∙◌, ap, refl, ℕ, ◌+◌, ◌≤◌, Bool, false, List, [], ◌∷◌, ◌++◌, Option, inr, arith}
use Rattle.std.specs.Prelude.{if◌then◌else◌}
use Rattle.std.proofs.lemmas.Bool.Decides.{nat_tests}
use Rattle.inno_types.specs.declared.value.Value.{Value}
use Rattle.inno_types.specs.declared.value.Schema.{Schema}
use Rattle.inno_db.specs.declared.change.Change.{Change}
use Rattle.inno_db.specs.declared.change.Change.TheVariants.{Create}
use Rattle.inno_model.specs.declared.event.Event.{Event}
use Rattle.inno_model.specs.declared.event.Event.TheVariants.{Changed, Committed}
use Rattle.inno_model.specs.Past.{own, commits, committed}
use Rattle.row_versions.specs.declared.place.Place.{Place}
use Rattle.law_past_agreement.specs.{Order.created, Order.IsOrdered, Rows.is_at, Rows.row_at, Rows.row_of, Rows.row_opened, Rows.row_seen}
use Rattle.law_found_rows.proofs.Seen.{row_stays}
use Rattle.sql_lists.proofs.Staying.{committed_more}

-- a change of no place
skipped : (opened : Option (List Value)) (at : Change → Bool) (change : Change) → at change ≡ false → (later earlier : List Change)
    → row_at opened at (later ++ change ∷ earlier) ≡ row_at opened at (later ++ earlier)
skipped opened at change none [] earlier = ap (λ b. if b then row_of change else row_at opened at earlier) none
skipped opened at change none (first ∷ later) earlier =
    ap (λ (o : Option (List Value)). if at first then row_of first else o) (skipped opened at change none later earlier)

-- its making, amid its transaction
pub made_leaves : (t s n : ℕ) (schema : Schema) (h : List Event) (place : Place) → IsOrdered h → t ≢ s → n ≤ commits h
    → row_seen (Changed t (Create schema) ∷ h) s n place ≡ row_seen h s n place
made_leaves t s n schema h place ordered differ within =
    row_stays t s h (Changed t (Create schema) ∷ h) ordered differ n place within
    (inr (Changed t (Create schema), grind (arith, nat_tests), refl))

-- its commit, in the latest rows
pub commit_leaves : (t s : ℕ) (schema : Schema) (h : List Event) (place : Place) → t ≢ s → own t h ≡ Create schema ∷ []
    → row_seen (Committed t ∷ h) s (commits (Committed t ∷ h)) place ≡ row_seen h s (commits h) place
commit_leaves t s schema h place differ made =
    let owns : own s (Committed t ∷ h) ≡ own s h = grind (arith, nat_tests, differ) in
    let all : committed (commits h + 1) (Committed t ∷ h) ≡ own t h ++ committed (commits h) h =
    grind (arith, nat_tests, committed_more (commits h + 1) h (omega arith)) in
    ap (λ (cs : List Change). row_at (row_opened h place) (is_at (created h) place) (cs ++ committed (commits h + 1) (Committed t ∷ h))) owns
    ∙ (ap (λ (cs : List Change). row_at (row_opened h place) (is_at (created h) place) (own s h ++ cs))
    (all ∙ ap (λ (cs : List Change). cs ++ committed (commits h) h) made)
    ∙ skipped (row_opened h place) (is_at (created h) place) (Create schema) refl (own s h) (committed (commits h) h))
