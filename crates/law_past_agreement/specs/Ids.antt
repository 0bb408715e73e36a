-- The ids of transactions, read off a past: one is given where a transaction first writes.
use Rattle.std.specs.Prelude.{ℕ, ◌+◌, Bool, false, ◌||◌, ◌&&◌, ◌==◌, nat_lt, if◌then◌else◌, List, [], ◌∷◌, ◌++◌}
use Rattle.inno_model.specs.{declared.event.Event.Event, declared.event.Event.TheVariants.Begin, declared.event.Event.TheVariants.Changed}
use Rattle.inno_model.specs.{declared.event.Event.TheVariants.Committed, declared.event.Event.TheVariants.RolledBack, Past.begins, Past.commits}
use Rattle.inno_model.specs.{Past.txn}
use Rattle.txn_table.specs.Txns.{Txns, Entry, with_id, without}

abbrev mutual
  -- how many ids were given
  pub given : List Event → ℕ
  given [] = 0
  given (Changed t change ∷ h) = if id_of h t == 0 then given h + 1 else given h
  given (e ∷ h) = given h

  -- the id of the session's last transaction, or 0
  pub id_of : List Event → ℕ → ℕ
  id_of [] s = 0
  id_of (Begin t n level ∷ h) s = if t == s then 0 else id_of h s
  id_of (Changed t change ∷ h) s = if t == s then (if id_of h s == 0 then given h + 1 else id_of h s) else id_of h s
  id_of (e ∷ h) s = id_of h s

-- whether the transaction of that id is among the first n that were committed
abbrev pub is_among : List Event → ℕ → ℕ → Bool
is_among [] n id = false
is_among (Committed t ∷ h) n id = (nat_lt 0 id && (id_of h t == id && nat_lt (commits h) n)) || is_among h n id
is_among (e ∷ h) n id = is_among h n id

-- What was written before this history has id 0: it was committed before all others.
abbrev pub is_settled : List Event → ℕ → ℕ → Bool
is_settled h n id = id == 0 || is_among h n id

-- the open transactions in order of begin
abbrev pub opens : List Event → List Entry
opens [] = []
opens (Begin t n level ∷ h) = opens h ++ (n, record { session = t; level = level; id = 0 }) ∷ []
opens (Changed t change ∷ h) = if id_of h t == 0 then with_id (txn t h) (given h + 1) (opens h) else opens h
opens (Committed t ∷ h) = without (txn t h) (opens h)
opens (RolledBack t ∷ h) = without (txn t h) (opens h)
opens (e ∷ h) = opens h

-- the table of transactions
abbrev pub txns_of : List Event → Txns
txns_of h = record { open_txns = opens h; begun = begins h; next = given h + 1 }
