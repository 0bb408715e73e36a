-- What an entry makes of the database, and of the changes that are not yet committed.
use Rattle.std.specs.Prelude.{◌≡◌, List, [], ◌∷◌, ◌++◌, reverse, take}
use Rattle.inno_db.specs.Database.{Database}
use Rattle.inno_db.specs.declared.change.Change.{Change}
use Rattle.inno_db.specs.Keyed.{IsKeyed}
use Rattle.inno_model.specs.declared.event.Event.{Event}
use Rattle.inno_model.specs.declared.event.Event.TheVariants.{Opened, Begin, Changed, Undone, Committed, RolledBack}
use Rattle.inno_model.specs.Past.{changed}
use Rattle.run_outcome.specs.Pending.{changes_of, Becomes}

-- A commit makes its session's changes. Of those that were not committed some are taken back, or all.
abbrev pub GoesOn : Event → Database → List (List Change) → Database → List (List Change) → Type 0
GoesOn (Opened opened) db pending db' pending' = (IsKeyed opened → db' ≡ opened) × (pending' ≡ pending)
GoesOn (Begin s txn level) db pending db' pending' = (db' ≡ db) × Becomes s [] pending pending'
GoesOn (Changed s change) db pending db' pending' = (db' ≡ db) × Becomes s (changes_of s pending ++ change ∷ []) pending pending'
GoesOn (Undone s keep) db pending db' pending' = (db' ≡ db) × Becomes s (take keep (changes_of s pending)) pending pending'
GoesOn (Committed s) db pending db' pending' = (db' ≡ changed db (reverse (changes_of s pending))) × Becomes s [] pending pending'
GoesOn (RolledBack s) db pending db' pending' = (db' ≡ db) × Becomes s [] pending pending'
GoesOn other db pending db' pending' = (db' ≡ db) × (pending' ≡ pending)
