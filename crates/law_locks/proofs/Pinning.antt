-- What is guarded through changes of records, with the undo log beside.
use Rattle.std.proofs.Common.{◌≡◌, ◌≢◌, ◌∙◌, ℕ, zero, suc, ◌-◌, ◌≤◌, Bool, true, false, List, [], ◌∷◌, refl, inl, inr, sym, ap, subst, arith}
use Rattle.std.specs.Prelude.{◌==◌, ◌&&◌, ◌*◌, nat_eq, length, take, Some}
use Rattle.std.specs.List.{list_any, AllByRecursion}
use Rattle.std.specs.Cmp.Lexicographic.{pointwise, bytes_decides}
use Rattle.inno_types.specs.declared.lock.Spot.{Spot}
use Rattle.inno_types.specs.declared.lock.Lock.{Lock}
use Rattle.store_api.specs.declared.answers.Undo.{Undo}
use Rattle.lock_rules.specs.Coverage.{is_in_gap, without_record}
use Rattle.lock_rules.specs.Rules.{FitsItsRule}
use Rattle.lock_rules.proofs.Booleans.{and_false, first, second, or_false, or_false-left, or_false-right, true_false, split}
use Rattle.lock_table.specs.Queue.{AreApart}
use Rattle.lock_table.specs.Records.{after_removal}
use Rattle.law_locks.specs.Guards.{Guarded, Pins, IsOlder, is_creation, has_alone}
use Rattle.law_locks.specs.Stand.{Inserts, Removes}
use Rattle.law_locks.proofs.Spots.{new_not}
use Rattle.law_locks.proofs.Guarding.{inserted_guards, inserted_pins, removed_guards, removed_pins}
use Rattle.law_locks.proofs.Clashes.{nobody_beside}

-- ---- the log grows and shrinks

module _ (index : ℕ) (key : List ℕ) (made : ℕ) (undo : Undo) (log : List Undo) (within : made ≤ length log) where
  newer : list_any (is_creation index key) (take (length (undo ∷ log) - made) (undo ∷ log)) ≡ list_any (is_creation index key)
      (take (suc (length log - made)) (undo ∷ log))
  newer = let one_more : length (undo ∷ log) - made ≡ suc (length log - made) = omega (arith, within) in ap
      (λ n. list_any (is_creation index key) (take n (undo ∷ log))) one_more

  pub older_more : is_creation index key undo ≡ false → IsOlder index key made log → IsOlder index key made (undo ∷ log)
  older_more other was = newer ∙ or_false (is_creation index key undo) _ other was

  pub older_less : IsOlder index key made (undo ∷ log) → IsOlder index key made log
  older_less was = or_false-right (is_creation index key undo) _ (sym newer ∙ was)

  pub not_newest : IsOlder index key made (undo ∷ log) → is_creation index key undo ≡ false
  not_newest was = or_false-left (is_creation index key undo) _ (sym newer ∙ was)

-- none is newer than all of them
pub newest_all : (index : ℕ) (key : List ℕ) (log : List Undo) → IsOlder index key (length log) log
newest_all index key log = let none : length log - length log ≡ 0 = omega arith in ap (λ n. list_any (is_creation index key) (take n log)) none

-- and fewer are newer than more of them
fewer_taken : (p : Undo → Bool) (m n : ℕ) (log : List Undo) → m ≤ n → list_any p (take n log) ≡ false → list_any p (take m log) ≡ false
fewer_taken p zero n log le none = refl
fewer_taken p (suc m) zero log le none = absurd (omega (arith, le))
fewer_taken p (suc m) (suc n) [] le none = refl
fewer_taken p (suc m) (suc n) (undo ∷ log) le none = or_false (p undo) _ (or_false-left (p undo) _ none)
    (fewer_taken p m n log (omega (arith, le)) (or_false-right (p undo) _ none))

pub older_later : (index : ℕ) (key : List ℕ) (made later : ℕ) (log : List Undo) → made ≤ later → IsOlder index key made log → IsOlder index key later log
older_later index key made later log le was = fewer_taken (is_creation index key) (length log - later) (length log - made) log (omega (arith, le)) was

not_of_change : (index : ℕ) (key : List ℕ) (undo : Undo) → undo.kind ≡ 2 → is_creation index key undo ≡ false
not_of_change index key undo is = ap (λ k. undo.table * 8 == index && pointwise nat_eq undo.key key && k == 1) is ∙ and_false
    (undo.table * 8 == index && pointwise nat_eq undo.key key)

module _ (txn index : ℕ) (records : List (List ℕ)) (locks : List Lock) (key : List ℕ) (made : ℕ) (undo : Undo) (log : List Undo)
    (within : made ≤ length log) where
  pub changed_guarded : undo.kind ≡ 2 → Guarded txn index records locks key made log → Guarded txn index records locks key made (undo ∷ log)
  changed_guarded is was = elim was [
    | inl guards ↦ inl guards
    | inr pinned ↦ inr (record { pins = pinned.pins; older = older_more index key made undo log within (not_of_change index key undo is) pinned.older })
  ]

  pub put_back_guarded : Guarded txn index records locks key made (undo ∷ log) → Guarded txn index records locks key made log
  put_back_guarded was = elim was [
    | inl guards ↦ inl guards
    | inr pinned ↦ inr (record { pins = pinned.pins; older = older_less index key made undo log within pinned.older })
  ]

-- ---- a record is inserted

module _ (txn inserter : ℕ) (records : List (List ℕ)) (new_key key : List ℕ) (new next : Spot) (old locks : List Lock)
    (inserts : Inserts inserter records new_key new next old locks) (made : ℕ) where
  pub inserted_guarded : (log : List Undo) → Guarded txn new.index records old key made log → Guarded txn new.index (new_key ∷ records) locks key made log
  inserted_guarded log was = elim was [
    | inl guards ↦ inl (inserted_guards txn inserter records new_key key new next old locks inserts guards)
    | inr pinned ↦ inr (record { pins = inserted_pins txn inserter records new_key key new next old locks inserts pinned.pins; older = pinned.older })
  ]

  -- a record that is found is not the new one
  not_new : (undo : Undo) → undo.key ≡ new_key → Pins txn new.index records old key → is_creation new.index key undo ≡ false
  not_new undo is pins =
      split (is_creation new.index key undo)
      (λ creation.
      let same : undo.key ≡ key = (bytes_decides undo.key key).0
      (second (undo.table * 8 == new.index) _ (first (undo.table * 8 == new.index && pointwise nat_eq undo.key key) _ creation)) in
      absurd (new_not records key next.key (subst (λ (k : List ℕ). is_in_gap records next.key k ≡ true) (sym is ∙ same) inserts.insertion.follows) pins.stands))
      (λ other. other)

  pub inserted_with_log : (undo : Undo) (log : List Undo) → undo.key ≡ new_key → made ≤ length log → Guarded txn new.index records old key made log
      → Guarded txn new.index (new_key ∷ records) locks key made (undo ∷ log)
  inserted_with_log undo log is within was = elim was [
    | inl guards ↦ inl (inserted_guards txn inserter records new_key key new next old locks inserts guards)
    | inr pinned ↦ inr (record {
      pins = inserted_pins txn inserter records new_key key new next old locks inserts pinned.pins;
      older = older_more new.index key made undo log within (not_new undo is pinned.pins) pinned.older;
    })
  ]

-- ---- a record goes

module _ (txn by : ℕ) (records : List (List ℕ)) (gone_key key : List ℕ) (gone next : Spot) (granted waiting : List Lock)
    (removes : Removes records gone_key gone next) (fit : AllByRecursion FitsItsRule granted) (made : ℕ) where
  abbrev After : List Undo → Type 0
  After log = Guarded txn gone.index (without_record gone_key records) (after_removal (Some by) gone next granted waiting).granted key made log

  pub taken_back_guarded : (undo : Undo) (log : List Undo) → is_creation gone.index gone_key undo ≡ true → made ≤ length log
      → Guarded txn gone.index records granted key made (undo ∷ log) → After log
  taken_back_guarded undo log creation within was = elim was [
    | inl guards ↦ inl (removed_guards txn (Some by) records gone_key key gone next granted waiting removes fit guards)
    | inr pinned ↦
        let other : key ≢ gone_key = λ same. true_false _ (subst (λ (k : List ℕ). is_creation gone.index k undo ≡ true) (sym same) creation)
        (not_newest gone.index key made undo log within pinned.older) in
        inr (record {
          pins = removed_pins txn (Some by) records gone_key key gone next granted waiting removes other pinned.pins;
          older = older_less
              gone.index key made undo log within pinned.older;
        })
  ]

  pub removed_by_other : (log : List Undo) → txn ≢ by → AreApart granted → has_alone by gone.index gone_key granted ≡ true
      → Guarded txn gone.index records granted key made log → After log
  removed_by_other log differ apart alone was = elim was [
    | inl guards ↦ inl (removed_guards txn (Some by) records gone_key key gone next granted waiting removes fit guards)
    | inr pinned ↦
        let other : key ≢ gone_key = λ same. nobody_beside txn by gone.index key differ granted apart
        (subst (λ (k : List ℕ). has_alone by gone.index k granted ≡ true) (sym same) alone) pinned.pins.own in
        inr (record { pins = removed_pins txn (Some by) records gone_key key gone next granted waiting removes other pinned.pins; older = pinned.older })
  ]
