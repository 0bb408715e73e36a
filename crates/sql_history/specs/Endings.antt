-- What becomes of its session's transaction when an item ends.
use Rattle.std.specs.Prelude.{◌≡◌, ℕ, List, [], Bool, true, false, Option, Some, None, is_some}
use Rattle.inno_types.specs.declared.lock.Level.{Level}
use Rattle.inno_model.specs.declared.event.Event.{Event}
use Rattle.inno_model.specs.Past.{before_item, did, begins_txn, commits_txn, rolls_back_txn, level, own, IsOpen, IsClosed}
use Rattle.sql_history.specs.Items.{undoes}

-- The item neither opens nor ends a transaction.
pub record StaysIn (s : ℕ) (past : List Event) : Type 0 where
  pub stays : level s past ≡ level s (before_item s past)
  pub not_begun : did begins_txn s past ≡ false
  pub not_committed : did commits_txn s past ≡ false
  pub not_rolled_back : did rolls_back_txn s past ≡ false

-- The item opens a transaction and leaves it open.
pub record Opens (s : ℕ) (past : List Event) : Type 0 where
  pub is_open : IsOpen s past
  pub begun : did begins_txn s past ≡ true
  pub not_rolled_back : did rolls_back_txn s past ≡ false

-- The item commits the transaction that was open, or that it opened.
pub record Commits (s : ℕ) (past : List Event) : Type 0 where
  pub closed : IsClosed s past
  pub committed : did commits_txn s past ≡ true
  pub not_rolled_back : did rolls_back_txn s past ≡ false

pub record RollsBack (s : ℕ) (past : List Event) : Type 0 where
  pub closed : IsClosed s past
  pub rolled_back : did rolls_back_txn s past ≡ true
  pub not_committed : did commits_txn s past ≡ false

-- nothing is open, before and after
pub record StaysClosed (s : ℕ) (past : List Event) : Type 0 where
  pub closed : IsClosed s past
  pub stays : StaysIn s past

-- ---- statements on rows

-- In an open transaction a statement stays. Else one with autocommit is a transaction of its own, and one without opens one.
abbrev pub Goes : Option Level → Bool → ℕ → List Event → Type 0
Goes (Some level) autocommit s past = StaysIn s past × (did undoes s past ≡ false)
Goes None true s past = Commits s past × (did begins_txn s past ≡ true) × (did undoes s past ≡ false)
Goes None false s past = Opens s past × (did commits_txn s past ≡ false) × (did undoes s past ≡ false)

-- A refused statement leaves none of its changes. Its transaction stays open, or, of its own, is rolled back.
abbrev pub BacksOut : Option Level → Bool → ℕ → List Event → Type 0
BacksOut (Some level) autocommit s past = StaysIn s past × (own s past ≡ own s (before_item s past))
BacksOut None true s past = (did begins_txn s past ≡ true) × RollsBack s past
BacksOut None false s past = Opens s past × (did commits_txn s past ≡ false) × (own s past ≡ [])
