-- What contracts see of a session's draft, and what calls make of it.
use Rattle.std.specs.Prelude.{ℕ, ◌+◌, ◌*◌, Bool, true, false, List, [], ◌∷◌, length, slice_index_or}
use Rattle.std.specs.List.{sum_by, flat_map}
use Rattle.log_format.specs.declared.block.TheConstants.{BLOCK}
use Rattle.inno_db.specs.declared.change.Change.{Change}
use Rattle.inno_model.specs.Past.{oldest}
use Rattle.log_format.specs.Group.{record_bytes}
use Rattle.log_format.specs.Block.{blocks_for}
use Rattle.law_crashes.specs.Records.{records_of}
use Rattle.commit_log.specs.declared.room.TheConstants.{MOST_RECORD}

-- the changes of its open transaction, the newest first; whether there is room for one more; and how much of the log's spare is promised to it
pub record DraftView : Type 0 where
  pub changes : List Change
  pub ready : Bool
  pub promised : ℕ

abbrev pub no_draft : DraftView
no_draft = record { changes = []; ready = false; promised = 0 }

-- the draft of a session
abbrev pub draft_of : ℕ → List DraftView → DraftView
draft_of session drafts = slice_index_or drafts session no_draft

-- so much of the log's spare is promised
abbrev pub promised_to_all : List DraftView → ℕ
promised_to_all drafts = sum_by (λ draft. draft.promised) drafts

-- the records of changes one behind the other
abbrev pub bytes_of : List Change → List ℕ
bytes_of changes = flat_map record_bytes (records_of changes)

-- how long their group is in the log at most, with the record of one change more
abbrev pub room_with_one_more : List Change → ℕ
room_with_one_more changes = BLOCK * blocks_for (14 + length (bytes_of changes) + MOST_RECORD)

abbrev pub readied : DraftView → DraftView
readied draft = record { changes = draft.changes; ready = true; promised = room_with_one_more draft.changes }

abbrev pub with_change : Change → DraftView → DraftView
with_change change draft = record { changes = change ∷ draft.changes; ready = false; promised = draft.promised }

abbrev pub cut_to : ℕ → DraftView → DraftView
cut_to keep draft = record { changes = oldest keep draft.changes; ready = draft.ready; promised = draft.promised }
