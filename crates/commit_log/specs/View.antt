-- What contracts see of an engine's log, and what holds of it beside a past.
use Rattle.std.specs.Prelude.{◌≡◌, ℕ, ◌<◌, ◌≤◌, Bool, true, false, List, length, slice_index_or}
use Rattle.inno_model.specs.declared.event.Event.{Event}
use Rattle.inno_model.specs.declared.event.Event.TheVariants.{Changed, Committed, Acked, Signal}
use Rattle.inno_model.specs.Past.{is_of, own}
use Rattle.store_api.specs.Past.{Past}
use Rattle.redo_log.specs.View.{LogView}
use Rattle.law_crashes.specs.Since.{IsDurable}
use Rattle.commit_log.specs.Room.{HasRecord}
use Rattle.commit_log.specs.DraftsView.{DraftView, draft_of, promised_to_all}

-- the log, the drafts and the dues of the sessions by number, and the last LSN that the log had at its opening
pub record CommitView : Type 0 where
  pub log : LogView
  pub drafts : List DraftView
  pub dues : List ℕ
  pub begun : ℕ

-- up to which LSN the log has to be flushed before the session's last commit may be acknowledged
abbrev pub due_of : ℕ → CommitView → ℕ
due_of s view = slice_index_or view.dues s view.begun

abbrev pub IsJoined : ℕ → CommitView → Type 0
IsJoined s view = s < length view.drafts

-- What is promised to the drafts is there. Each session has a due, maybe some that are yet to join too; none is an LSN to come.
pub record IsKept (log : LogView) (drafts : List DraftView) (dues : List ℕ) (begun : ℕ) : Type 0 where
  pub promised : promised_to_all drafts ≤ log.spare
  pub seated : length drafts ≤ length dues
  pub reached : (s : ℕ) → slice_index_or dues s begun < log.next

-- The log and the disk stand for the past, and the drafts for what each session's open transaction has changed.
pub record IsLogging (root now : Past) (past : List Event) (view : CommitView) : Type 0 where
  pub durable : IsDurable root now past view.log (λ s. due_of s view)
  pub drafted : (s : ℕ) → (draft_of s view.drafts).changes ≡ own s past

-- where an entry tells a change there is room for it, and it has a record
abbrev pub IsReady : ℕ → Event → List DraftView → Type 0
IsReady s (Changed t change) drafts = ((draft_of s drafts).ready ≡ true) × HasRecord change
IsReady s other drafts = Unit {0}

-- an entry of the session's, or a signal, which is no session's
abbrev pub IsEntryOf : ℕ → Event → Type 0
IsEntryOf s (Signal name) = Unit {0}
IsEntryOf s e = is_of s e ≡ true

abbrev pub is_commit : Event → Bool
is_commit (Committed s) = true
is_commit other = false

abbrev pub is_acknowledgement : Event → Bool
is_acknowledgement (Acked s moment) = true
is_acknowledgement other = false
