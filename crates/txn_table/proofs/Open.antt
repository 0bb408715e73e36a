-- What the calls of the table make of its entries.
use Rattle.std.proofs.Common.{◌≡◌, ℕ, ◌+◌, ◌<◌, ◌≤◌, Bool, true, false, cond, Option, None, Some, List, [], ◌∷◌, ◌++◌, nat_eq, refl, sym, ap, subst, ◌∙◌, arith}
use Rattle.std.proofs.lemmas.Bool.Decides.{nat_tests}
use Rattle.std.specs.Prelude.{not, is_some, Result, Ok, Err, OnOk, OnErr}
use Rattle.std.specs.List.{AllByRecursion}
use Rattle.std.specs.Map.{lookup, remove_entry}
use Rattle.indexmap.specs.IndexMap.{insert_entry}
use Rattle.txn_table.specs.declared.OpenTxn.{OpenTxn}
use Rattle.txn_table.specs.Txns.{Entry, AreBegun, with_id, without, is_there}

-- a number that was not begun before stands last
pub put_new : (begun : ℕ) (entries : List Entry) (txn : OpenTxn) → AreBegun begun entries → insert_entry nat_eq entries (begun + 1) txn ≡ entries ++ (begun + 1, txn) ∷ []
put_new begun [] txn all = refl
put_new begun (e ∷ entries) txn all = grind (arith, nat_tests, put_new begun entries txn all.2, all.0)

below_more : (begun n : ℕ) (entries : List Entry) (txn : OpenTxn) → n ≤ begun → AllByRecursion (λ (later : Entry). n < later.0) entries → AllByRecursion (λ (later : Entry). n < later.0) (entries ++ (begun + 1, txn) ∷ [])
below_more begun n [] txn le all = (omega arith, tt)
below_more begun n (e ∷ entries) txn le all = (all.0, below_more begun n entries txn le all.1)

pub begun_put : (begun : ℕ) (entries : List Entry) (txn : OpenTxn) → AreBegun begun entries → AreBegun (begun + 1) (entries ++ (begun + 1, txn) ∷ [])
begun_put begun [] txn all = (omega arith, tt, tt)
begun_put begun (e ∷ entries) txn all = (omega (arith, all.0), below_more begun e.0 entries txn all.0 all.1, begun_put begun entries txn all.2)

below_without : (n txn : ℕ) (entries : List Entry) → AllByRecursion (λ (later : Entry). n < later.0) entries → AllByRecursion (λ (later : Entry). n < later.0) (without txn entries)
below_without n txn [] all = tt
below_without n txn (e ∷ entries) all = go (not (nat_eq txn e.0)) (below_without n txn entries all.1) where
  go : (b : Bool) → AllByRecursion (λ (later : Entry). n < later.0) (without txn entries) → AllByRecursion (λ (later : Entry). n < later.0) (cond b (e ∷ without txn entries) (without txn entries))
  go true rest = (all.0, rest)
  go false rest = rest

pub begun_without : (begun txn : ℕ) (entries : List Entry) → AreBegun begun entries → AreBegun begun (without txn entries)
begun_without begun txn [] all = tt
begun_without begun txn (e ∷ entries) all = go (not (nat_eq txn e.0)) (begun_without begun txn entries all.2) where
  go : (b : Bool) → AreBegun begun (without txn entries) → AreBegun begun (cond b (e ∷ without txn entries) (without txn entries))
  go true rest = (all.0, below_without e.0 txn entries all.1, rest)
  go false rest = rest

-- a number below all is none of them
none_below : (txn : ℕ) (entries : List Entry) → AllByRecursion (λ (later : Entry). txn < later.0) entries → without txn entries ≡ entries
none_below txn [] all = refl
none_below txn (e ∷ entries) all = grind (arith, nat_tests, none_below txn entries all.1, all.0)

-- to remove the first one of a number is to remove it
pub removed : (begun txn : ℕ) (entries : List Entry) → AreBegun begun entries → remove_entry (nat_eq txn) entries ≡ without txn entries
removed begun txn [] all = refl
removed begun txn (e ∷ entries) all = grind (arith, nat_tests, removed begun txn entries all.2, none_below e.0 entries all.1)

same_number : (txn id : ℕ) (e : Entry) (b : Bool) → (cond b (e.0, record e.1 { id = id }) e).0 ≡ e.0
same_number txn id e true = refl
same_number txn id e false = refl

below_given : (n txn id : ℕ) (entries : List Entry) → AllByRecursion (λ (later : Entry). n < later.0) entries → AllByRecursion (λ (later : Entry). n < later.0) (with_id txn id entries)
below_given n txn id [] all = tt
below_given n txn id (e ∷ entries) all = (omega (arith, same_number txn id e (nat_eq txn e.0), all.0), below_given n txn id entries all.1)

pub begun_given : (begun txn id : ℕ) (entries : List Entry) → AreBegun begun entries → AreBegun begun (with_id txn id entries)
begun_given begun txn id [] all = tt
begun_given begun txn id (e ∷ entries) all =
    let number = same_number txn id e (nat_eq txn e.0) in (
      omega (arith, number, all.0),
      subst (λ m. AllByRecursion (λ (later : Entry). m < later.0) (with_id txn id entries)) (sym number) (below_given e.0 txn id entries all.1),
      begun_given begun txn id entries all.2,
    )

none_given : (txn id : ℕ) (entries : List Entry) → AllByRecursion (λ (later : Entry). txn < later.0) entries → with_id txn id entries ≡ entries
none_given txn id [] all = refl
none_given txn id (e ∷ entries) all = grind (arith, nat_tests, none_given txn id entries all.1, all.0)

-- a value put at a number that is there takes the old one's place
pub given : (begun txn id : ℕ) (entries : List Entry) (kept : OpenTxn) → AreBegun begun entries → lookup (nat_eq txn) entries ≡ Some kept → insert_entry nat_eq entries txn (record kept { id = id }) ≡ with_id txn id entries
given begun txn id [] kept all is = cc
given begun txn id (e ∷ entries) kept all is = grind (arith, nat_tests, given begun txn id entries kept all.2, is, none_given e.0 id entries all.1)

pub found : (txn : ℕ) (entries : List Entry) → is_there txn entries → is_some (lookup (nat_eq txn) entries) ≡ true
found txn [] is = cc
found txn (e ∷ entries) is = grind (arith, nat_tests, found txn entries, is)

-- an insert at a number that is there never wants memory
pub given_of : {T E : Type 0} (begun txn id : ℕ) (entries new : List Entry) (kept : OpenTxn) → AreBegun begun entries → lookup (nat_eq txn) entries ≡ Some kept → (result : Result T E)
    → OnOk result (new ≡ insert_entry nat_eq entries txn (record kept { id = id })) → OnErr result (lookup (nat_eq txn) entries ≡ None) → new ≡ with_id txn id entries
given_of begun txn id entries new kept all is (Ok value) ok err = ok ∙ given begun txn id entries kept all is
given_of begun txn id entries new kept all is (Err error) ok err = absurd (cc (is, err))
