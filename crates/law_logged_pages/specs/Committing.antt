-- What a commit leaves of a page that its group names.
use Rattle.std.specs.Prelude.{◌≡◌, ◌⊎◌, ℕ, IsTrue, List, length, drop}
use Rattle.stored_pages.specs.declared.layout.TheConstants.{PAGE}
use Rattle.stored_pages.specs.Words.{number_of, lsn_of}
use Rattle.log_format.specs.declared.group.Group.{Group}
use Rattle.mini_txn.specs.Edits.{edited}
use Rattle.mini_txn.specs.View.{body_of}
use Rattle.law_logged_pages.specs.Stages.{AreBytes, SameButSum, begins_fresh}

-- The page has its number, the group's LSN, and behind them what the group's records make of what stood there.
pub record IsCommitted (page : ℕ) (g : Group) (old new : List ℕ) : Type 0 where
  pub size : length new ≡ PAGE
  pub bytes : AreBytes 20 new
  pub number : number_of new ≡ page
  pub lsn : lsn_of new ≡ g.lsn
  pub behind : drop 20 new ≡ drop 20 (edited page g.records (body_of old))

-- the bytes are the page before the group, or the group makes the page, so that they don't matter
abbrev pub MayBe : ℕ → Group → List ℕ → List ℕ → Type 0
MayBe page g before old = SameButSum old before ⊎ IsTrue (begins_fresh page g.records)
