-- The script of a number: sixteen accounts with 100 each, and then sessions with so many transfers each.
use Rattle.std.specs.Prelude.{ℕ, zero, suc, ◌+◌, ◌*◌, List, [], ◌∷◌, ◌++◌, ◌&&◌, nat_lt, nat_le, if◌then◌else◌, codes, Option, None, Some}
use Rattle.std.specs.Fmt.{decimal}
use Rattle.script.specs.declared.script.Script.{Script}
use Rattle.script.specs.declared.script.ScriptItem.{ScriptItem}
use Rattle.script.specs.declared.script.ScriptBad.{ScriptBad}
use Rattle.script.specs.Reading.{over, most_sessions, most_items}
use Rattle.script.specs.declared.script.Limited.TheVariants as limited
use Rattle.script_generator.specs.Transfers.{after_transfer, drawn, statement, transaction}

-- ---- accounts

abbrev pub create_text : List ℕ
create_text = codes "CREATE TABLE acct (id BIGINT, bal BIGINT, PRIMARY KEY (id))"

-- so many accounts behind the first
unfoldable pub more_accounts : ℕ → List ℕ
more_accounts zero = []
more_accounts (suc n) = more_accounts n ++ (codes ",(" ++ (decimal (n + 2) ++ codes ",100)"))

unfoldable pub insert_text : List ℕ
insert_text = codes "INSERT INTO acct VALUES (1,100)" ++ more_accounts 15

unfoldable pub setup : List ScriptItem
setup = statement 0 create_text ∷ statement 0 insert_text ∷ []

-- ---- sessions

-- the state after so many transfers
unfoldable pub after_transfers : ℕ → ℕ → ℕ
after_transfers zero state = state
after_transfers (suc n) state = after_transfer (after_transfers n state)

-- so many transfers of a session, of which the first is drawn at this state
unfoldable pub session_items : ℕ → ℕ → ℕ → List ScriptItem
session_items s zero state = []
session_items s (suc n) state = session_items s n state ++ transaction s (drawn (after_transfers n state))

-- the state after so many sessions of so many transfers each
unfoldable pub after_sessions : ℕ → ℕ → ℕ → ℕ
after_sessions transfers zero state = state
after_sessions transfers (suc s) state = after_transfers transfers (after_sessions transfers s state)

-- so many sessions of so many transfers each
unfoldable pub all_sessions : ℕ → ℕ → ℕ → List ScriptItem
all_sessions transfers zero state = []
all_sessions transfers (suc s) state = all_sessions transfers s state ++ session_items (suc s) transfers (after_sessions transfers s state)

-- `setup`, and then s1, s2 and so on
unfoldable pub names_to : ℕ → List (List ℕ)
names_to zero = codes "setup" ∷ []
names_to (suc s) = names_to s ++ (codes "s" ++ decimal (suc s)) ∷ []

abbrev pub generated : ℕ → ℕ → ℕ → Script
generated number sessions transfers = record {
  names = names_to sessions;
  items = setup ++ all_sessions transfers sessions number;
  ticks = [];
}

-- ---- limits

abbrev pub count_items : ℕ → ℕ → ℕ
count_items sessions transfers = 2 + 4 * (sessions * transfers)

-- The limit that comes first in the script, if one is passed: the items of 64 sessions stand before the 65th.
abbrev pub passed : ℕ → ℕ → Option ScriptBad
passed sessions transfers =
    if nat_lt most_sessions sessions && nat_le (count_items most_sessions transfers) most_items then Some (over limited.Sessions most_sessions)
    else (if nat_lt most_items (count_items sessions transfers) then Some (over limited.Items most_items)
    else None)
