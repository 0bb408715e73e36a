-- What an appended record makes of an undo page.
use Rattle.std.specs.Prelude.{◌≡◌, ℕ, ◌+◌, ◌<◌, ◌≤◌, List, [], ◌∷◌, length, IsTrue}
use Rattle.stored_pages.specs.declared.layout.TheConstants.{PAGE}
use Rattle.stored_pages.specs.Words.{u16_at}
use Rattle.store_api.specs.declared.visits.SpaceBad.{SpaceBad}
use Rattle.store_api.specs.declared.visits.SpaceBad.TheVariants.{Full, Visit, NoMemory}
use Rattle.schema_codec.specs.Numbers.{u16_bytes}
use Rattle.mtr.specs.Seen.{MtrState, Visits, with_bytes}
use Rattle.mtr.specs.Calls.{Goes, SeesAt, IsReason}
use Rattle.undo_log.specs.declared.layout.TheConstants.{END, FIRST_RECORD}

-- the bytes were written where the page's records ended, and these end behind them now
abbrev pub with_record : ℕ → List ℕ → List ℕ → List ℕ
with_record at bytes page = with_bytes END (u16_bytes (at + length bytes)) (with_bytes at bytes page)

-- A record was appended, whole within its page. No other page is seen otherwise.
pub record Appends (page at : ℕ) (bytes : List ℕ) (old new : MtrState) : Type 0 where
  pub goes : Goes old new
  pub behind : FIRST_RECORD ≤ at
  pub fits : at + length bytes ≤ PAGE
  pub size : IsTrue new.told → length (old.seen page) ≡ PAGE
  pub ended : IsTrue new.told → u16_at END (old.seen page) ≡ at
  pub seen : IsTrue new.told → SeesAt page (with_record at bytes (old.seen page)) old new
  pub visits : Visits (page ∷ []) old new

-- the records of the page end before its first one may begin, which breaks the rule on fields
abbrev pub EndsEarly : ℕ → ℕ → (ℕ → List ℕ) → Type 0
EndsEarly page rule pages = (rule ≡ 1) × (u16_at END (pages page) + 1 ≤ FIRST_RECORD)

-- why no record is appended: the page lacks room for it, or can't be read, or the spare lacks room for it
abbrev pub IsAppendReason : ℕ → List ℕ → MtrState → MtrState → SpaceBad → Type 0
IsAppendReason page bytes old new Full = IsTrue new.told → PAGE + 1 ≤ u16_at END (old.seen page) + length bytes
IsAppendReason page bytes old new (Visit why) = IsReason (page ∷ []) EndsEarly old new why
IsAppendReason page bytes old new NoMemory = old.spare < length bytes + 20
