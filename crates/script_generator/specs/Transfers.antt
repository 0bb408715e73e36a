-- A transfer between two of sixteen accounts: how it is drawn, and its statements. Words are drawn by SplitMix64.
use Rattle.std.specs.Prelude.{ℕ, ◌+◌, ◌%◌, List, [], ◌∷◌, ◌++◌, ◌==◌, nat_lt, if◌then◌else◌, codes}
use Rattle.std.specs.Fmt.{decimal}
use Rattle.inno_types.specs.declared.reply.Item.TheVariants.{Sql}
use Rattle.script.specs.declared.script.ScriptItem.{ScriptItem}
use Rattle.rand_xoshiro.specs.SplitMix64.{mix_u64, next_state}
use Rattle.script_generator.specs.declared.transfer.Transfer.{Transfer}

-- the word that a state gives
abbrev pub word : ℕ → ℕ
word state = (mix_u64 state).0

-- the state after the three words of a transfer
unfoldable pub after_transfer : ℕ → ℕ
after_transfer state = next_state (next_state (next_state state))

-- of two accounts with one number the second is the next one
abbrev pub apart : ℕ → ℕ → ℕ
apart from to = if to == from then from % 16 + 1 else to

-- the transfer of three words: from which account, to which, and how much
abbrev pub transfer_of : ℕ → ℕ → ℕ → Transfer
transfer_of r1 r2 r3 = record { from = 1 + r1 % 16; to = apart (1 + r1 % 16) (1 + r2 % 16); amount = r3 % 16 }

-- the transfer that is drawn at a state
unfoldable pub drawn : ℕ → Transfer
drawn state = transfer_of (word state) (word (next_state state)) (word (next_state (next_state state)))

-- ---- statements

abbrev pub statement : ℕ → List ℕ → ScriptItem
statement s text = record { s = s; item = Sql text }

unfoldable pub change_text : List ℕ → ℕ → List ℕ
change_text sign amount = codes "UPDATE acct SET bal = bal " ++ (sign ++ decimal amount)

unfoldable pub where_text : ℕ → List ℕ
where_text id = codes " WHERE id = " ++ decimal id

abbrev pub taking : Transfer → List ℕ
taking t = change_text (codes "- ") t.amount ++ where_text t.from

abbrev pub giving : Transfer → List ℕ
giving t = change_text (codes "+ ") t.amount ++ where_text t.to

abbrev pub pair : ℕ → List ℕ → List ℕ → List ScriptItem
pair s first second = statement s first ∷ statement s second ∷ []

-- the two changes, that of the account with the smaller number first
unfoldable pub updates : ℕ → Transfer → List ScriptItem
updates s t = if nat_lt t.from t.to then pair s (taking t) (giving t) else pair s (giving t) (taking t)

unfoldable pub transaction : ℕ → Transfer → List ScriptItem
transaction s t = statement s (codes "BEGIN") ∷ (updates s t ++ statement s (codes "COMMIT") ∷ [])
