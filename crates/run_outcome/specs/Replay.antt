-- Which histories can be replayed: they open once, and each change that was committed can be made.
use Rattle.std.specs.Prelude.{◌≡◌, List, [], ◌∷◌}
use Rattle.inno_db.specs.Database.{Database}
use Rattle.inno_db.specs.Keeping.{CanApply}
use Rattle.inno_db.specs.declared.change.Change.{Change}
use Rattle.inno_db.specs.Keyed.{IsKeyed}
use Rattle.inno_model.specs.declared.event.Event.{Event}
use Rattle.inno_model.specs.declared.event.Event.TheVariants.{Opened}
use Rattle.inno_model.specs.Past.{opening, changed, committed, commits}

-- each of these changes can be made behind those before it; the newest stands first
abbrev pub CanApplyAll : Database → List Change → Type 0
CanApplyAll db [] = Unit {0}
CanApplyAll db (change ∷ earlier) = CanApply (changed db earlier) change × CanApplyAll db earlier

-- none but the oldest entry opens
abbrev pub OpensOnce : List Event → Type 0
OpensOnce [] = Unit {0}
OpensOnce (Opened db ∷ past) = past ≡ []
OpensOnce (other ∷ past) = OpensOnce past

-- It opens once, with rows of which each stands in a table that is there and at its key; and the changes that were
-- committed, in the order of their commits, are of tables that are there then, with room for each table that is made.
pub record CanReplay (past : List Event) : Type 0 where
  pub once : OpensOnce past
  pub keyed : IsKeyed (opening past)
  pub changes : CanApplyAll (opening past) (committed (commits past) past)
