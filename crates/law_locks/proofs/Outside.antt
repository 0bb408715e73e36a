-- What another has changed lies outside the range that a transaction keeps.
use Rattle.std.proofs.Common.{◌≡◌, ◌≢◌, ℕ, true, List, inl, inr}
use Rattle.std.specs.Prelude.{Some, Contains}
use Rattle.std.proofs.lemmas.List.Elements.{All-contains, All-from_recursion}
use Rattle.inno_types.specs.declared.lock.Lock.{Lock}
use Rattle.inno_types.specs.declared.stmt.Range.{Range}
use Rattle.store_api.specs.declared.answers.Undo.{Undo}
use Rattle.lock_rules.specs.Coverage.{stands_in}
use Rattle.lock_rules.specs.Ranges.{is_within}
use Rattle.lock_table.specs.Queue.{AreApart}
use Rattle.law_locks.specs.Guards.{Guarded, has_record}
use Rattle.law_locks.specs.Barring.{ChangedRow, IsOwnEntry, Owns, KeepsRange, KeepsRow}
use Rattle.law_locks.proofs.Clashes.{nobody_beside}

-- a record that stands where a transaction guards the key is locked by it
record_of : (txn index : ℕ) (records : List (List ℕ)) (locks : List Lock) (key : List ℕ) (made : ℕ) (log : List Undo)
    → Guarded txn index records locks key made log → stands_in records (Some key) ≡ true → has_record txn index key locks ≡ true
record_of txn index records locks key made log guarded stands = elim guarded [ inl guards ↦ guards.own stands | inr pinned ↦ pinned.pins.own ]

module _ (txn other clustered index : ℕ) (records : List (List ℕ)) (granted : List Lock) (range : Range) (row : ChangedRow) (entry : List ℕ)
    (differ : txn ≢ other) (apart : AreApart granted) (owns : Owns other clustered index records granted row)
    (keeps : KeepsRow txn clustered granted range row) (inside : is_within range (Some entry) ≡ true) where
  pub none_before : row.before ≡ Some entry → ⊥
  none_before is = nobody_beside txn other clustered row.key differ granted apart owns.alone (keeps entry is inside)

  pub none_behind : (may : List ℕ → Type 0) (made : ℕ) (log : List Undo) → KeepsRange may txn index records granted range made log → may entry
      → Contains row.behind (Some entry) → ⊥
  none_behind may made log range_is meets there =
      elim (let owned : IsOwnEntry other index records granted row.before (Some entry)
      = All-contains (IsOwnEntry other index records granted row.before) row.behind (Some entry)
      (All-from_recursion (IsOwnEntry other index records granted row.before) row.behind owns.entries) there in owned) [
        | inl same ↦ none_before same
        | inr own ↦ nobody_beside txn other index entry differ granted apart own.1
            (record_of txn index records granted entry made log (range_is entry meets inside) own.0)
      ]
