-- Entries whose changes have records in the log. Any crate may cite it.
use Rattle.inno_model.specs.declared.event.Event.{Event}
use Rattle.inno_model.specs.declared.event.Event.TheVariants.{Changed}
use Rattle.commit_log.specs.Room.{HasRecord}

-- a change that the entry tells has a record
abbrev pub HasItsRecord : Event → Type 0
HasItsRecord (Changed s change) = HasRecord change
HasItsRecord other = Unit {0}
