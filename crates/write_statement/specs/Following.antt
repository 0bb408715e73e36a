-- One outcome behind another, as the tuples of an INSERT come one behind the other.
use Rattle.std.specs.Prelude.{ℕ, ◌+◌, ◌++◌, length}
use Rattle.inno_types.specs.declared.reply.Reply.{Reply}
use Rattle.inno_types.specs.declared.reply.Reply.TheVariants.{Count, Fail}
use Rattle.inno_db.specs.declared.outcome.Outcome.{Outcome}

-- a count behind so many changes
abbrev pub counted_on : ℕ → Reply → Reply
counted_on made (Count n) = Count (made + n)
counted_on made other = other

abbrev pub followed : Reply → Outcome → Outcome → Outcome
followed (Fail error) first rest = first
followed other first rest = record { reply = counted_on (length first.changes) rest.reply; changes = first.changes ++ rest.changes }

-- a refusal comes last; else the changes stand one behind the other, and the counts are added up
abbrev pub followed_by : Outcome → Outcome → Outcome
followed_by first rest = followed first.reply first rest
