-- The open transactions: by number, in order of begin.
use Rattle.std.specs.Prelude.{◌≡◌, ℕ, ◌<◌, ◌≤◌, Bool, true, List, [], ◌∷◌, ◌==◌, if◌then◌else◌, not, map, filter, refl}
use Rattle.std.specs.List.{AllByRecursion, list_any}
use Rattle.std.specs.Coded.{Coded, code_by, coded×, coded_list, coded_ℕ}
use Rattle.txn_table.specs.declared.OpenTxn.{OpenTxn}
use Rattle.txn_table.specs.contracts.OpenTxn as of_txn

-- a transaction's number, and what is kept of it
abbrev pub Entry : Type 0
Entry = ℕ × OpenTxn

pub record Txns : Type 0 where
  pub open_txns : List Entry
  -- how many were begun
  pub begun : ℕ
  -- the id that is given next
  pub next : ℕ

abbrev pub txns_code : Coded Txns
txns_code =
    code_by (List Entry × (ℕ × ℕ)) (coded× (coded_list (coded× coded_ℕ of_txn.the_row.coded)) (coded× coded_ℕ coded_ℕ))
    (λ t. (t.open_txns, (t.begun, t.next))) (λ p. record { open_txns = p.0; begun = p.1.0; next = p.1.1 }) (λ _. refl)

-- the numbers rise, up to that of the transaction that was begun last
abbrev pub AreBegun : ℕ → List Entry → Type 0
AreBegun begun [] = Unit {0}
AreBegun begun (e ∷ entries) = (e.0 ≤ begun) × AllByRecursion (λ later. e.0 < later.0) entries × AreBegun begun entries

-- the ids that were given, in order of begin
abbrev pub ids_of : List Entry → List ℕ
ids_of entries = filter (λ id. not (id == 0)) (map (λ t. t.id) (map (λ e. e.1) entries))

-- the transaction has the id, and the others are as they were
abbrev pub with_id : ℕ → ℕ → List Entry → List Entry
with_id txn id [] = []
with_id txn id (e ∷ entries) = (if txn == e.0 then (e.0, record e.1 { id = id }) else e) ∷ with_id txn id entries

-- the transaction's id, or 0
abbrev pub id_at : ℕ → List Entry → ℕ
id_at txn [] = 0
id_at txn (e ∷ entries) = if txn == e.0 then e.1.id else id_at txn entries

-- the others
abbrev pub without : ℕ → List Entry → List Entry
without txn entries = filter (λ e. not (txn == e.0)) entries

-- the transaction is among them
abbrev pub is_there : ℕ → List Entry → Type 0
is_there txn entries = list_any (λ e. txn == e.0) entries ≡ true
