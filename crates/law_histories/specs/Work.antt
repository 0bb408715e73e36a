-- What the work of an open transaction leaves: the changes and savepoints that its pieces have made.
use Rattle.std.specs.Prelude.{◌≡◌, ℕ, ◌<◌, ◌==◌, if◌then◌else◌, List, [], ◌∷◌, ◌++◌, length, reverse, Option, Some, None}
use Rattle.inno_types.specs.declared.reply.Reply.{Reply}
use Rattle.inno_db.specs.declared.change.Change.{Change}
use Rattle.inno_db.specs.declared.change.Change.TheVariants.{Put}
use Rattle.inno_db.specs.declared.outcome.Outcome.{Outcome}
use Rattle.inno_db.specs.Database.{Database}
use Rattle.inno_db.specs.Outcome.{outcome}
use Rattle.inno_model.specs.declared.event.Event.{Event}
use Rattle.inno_model.specs.declared.event.Event.TheVariants.{Begin, Ended}
use Rattle.inno_model.specs.Past.{own, changed, commits, db_after}
use Rattle.sql_history.specs.declared.settings.Save.{Save}
use Rattle.sql_history.specs.Serial.{Piece}

-- the latest committed rows
abbrev pub committed_db : List Event → Database
committed_db past = db_after (commits past) past

-- each row that is put is one of a table that is there
abbrev pub AllIn : Database → List Change → Type 0
AllIn db [] = Unit {0}
AllIn db (Put table row ∷ earlier) = (table < length (changed db earlier).schemas) × AllIn db earlier
AllIn db (other ∷ earlier) = AllIn db earlier

-- the changes of the session's transaction when its last item had ended; none, where it has begun since
abbrev pub settled : ℕ → List Event → List Change
settled s [] = []
settled s (Begin t n l ∷ past) = if t == s then [] else settled s past
settled s (Ended t j reply ∷ past) = if t == s then own s past else settled s past
settled s (other ∷ past) = settled s past

abbrev pub IsReplied : Option Reply → Outcome → Type 0
IsReplied None outcome = Unit {0}
IsReplied (Some reply) outcome = reply ≡ outcome.reply

-- Each statement has made the changes of its outcome over what was there before it, and each savepoint is kept with the
-- number of the changes by then. Lists stand newest first.
abbrev pub Tracks : Database → List Piece → List Save → List Change → Type 0
Tracks db [] saves own = (saves ≡ []) × (own ≡ [])
Tracks db (Piece.kept name ∷ pieces) saves own =
    (earlier : List Save) × (saves ≡ record { name = name; made = length own } ∷ earlier) × Tracks db pieces earlier own
Tracks db (Piece.ran statement reply ∷ pieces) saves own =
    (before : List Change) × (own ≡ reverse (outcome statement (changed db before)).changes ++ before) × IsReplied reply
    (outcome statement (changed db before)) × Tracks db pieces saves before
