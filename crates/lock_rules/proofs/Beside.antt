-- Spots that are the same, and conflicts seen from both sides.
use Rattle.std.proofs.Common.{◌≡◌, ℕ, Bool, true, false, refl, sym, ap, ◌∙◌, arith}
use Rattle.std.proofs.lemmas.Bool.{eq-eqb, eqb-true}
use Rattle.std.proofs.lemmas.Bool.Decides.{nat_tests}
use Rattle.std.specs.Prelude.{◌==◌, ◌&&◌, ◌||◌, not, List, Option, None, Some, is_some}
use Rattle.std.specs.Cmp.Lexicographic.{bytes_decides}
use Rattle.inno_types.specs.declared.lock.LockKind.{LockKind}
use Rattle.inno_types.specs.declared.lock.LockKind.TheVariants.{Rec, Gap, NextKey, Intent}
use Rattle.inno_types.specs.declared.lock.Mode.{Mode}
use Rattle.inno_types.specs.declared.lock.Spot.{Spot}
use Rattle.inno_types.specs.declared.lock.Lock.{Lock}
use Rattle.lock_rules.specs.Kinds.{is_intent, is_shared}
use Rattle.lock_rules.specs.Spots.{same_key, same_spot}
use Rattle.lock_rules.proofs.Booleans.{first, second, or_true, split}
use Rattle.lock_rules.specs.Conflicts.{kind_at, kind_of, kinds_conflict, conflicts}

pub key_refl : (key : Option (List ℕ)) → same_key key key ≡ true
key_refl None = refl
key_refl (Some key) = (bytes_decides key key).1 refl

pub key_same : (key other : Option (List ℕ)) → same_key key other ≡ true → key ≡ other
key_same None None h = refl
key_same None (Some other) h = cc
key_same (Some key) None h = cc
key_same (Some key) (Some other) h = ap Some ((bytes_decides key other).0 h)

pub spot_refl : (spot : Spot) → same_spot spot spot ≡ true
spot_refl spot = ap (λ b. b && same_key spot.key spot.key) (eq-eqb spot.index spot.index refl) ∙ key_refl spot.key

pub spot_same : (spot other : Spot) → same_spot spot other ≡ true → spot ≡ other
spot_same spot other h =
    let index : spot.index ≡ other.index = eqb-true spot.index other.index (first (spot.index == other.index) (same_key spot.key other.key) h) in
    let key : spot.key ≡ other.key = key_same spot.key other.key (second (spot.index == other.index) (same_key spot.key other.key) h) in
    λ i. record { index = index i; key = key i }

pub txn_sym : (m n : ℕ) → (m == n) ≡ (n == m)
txn_sym m n = grind (arith, nat_tests)

pub intent_of : (b : Bool) (kind : LockKind) → is_intent (kind_at b kind) ≡ is_intent kind
intent_of b Rec = refl
intent_of b Gap = refl
intent_of true NextKey = refl
intent_of false NextKey = refl
intent_of b Intent = refl

both_shared : (a b : Bool) → not (a && b) ≡ false → not (not (b && a)) ≡ true
both_shared true true h = refl
both_shared true false h = cc
both_shared false b h = cc

-- where a lock of one kind does not block another, the other is an insert intention's or does not block it
kinds_back : (kind : LockKind) (mode : Mode) (other : LockKind) (mode' : Mode) → kinds_conflict kind mode other mode' ≡ false → (is_intent kind || not (kinds_conflict other mode' kind mode)) ≡ true
kinds_back Rec m Rec n h = both_shared (is_shared m) (is_shared n) h
kinds_back Rec m Gap n h = refl
kinds_back Rec m NextKey n h = both_shared (is_shared m) (is_shared n) h
kinds_back Rec m Intent n h = refl
kinds_back Gap m other n h = refl
kinds_back NextKey m Rec n h = both_shared (is_shared m) (is_shared n) h
kinds_back NextKey m Gap n h = refl
kinds_back NextKey m NextKey n h = both_shared (is_shared m) (is_shared n) h
kinds_back NextKey m Intent n h = refl
kinds_back Intent m other n h = refl

pub conflicts-back : (held asked : Lock) → conflicts held asked ≡ false → (is_intent held.kind || not (conflicts asked held)) ≡ true
conflicts-back held asked free =
    split (conflicts asked held)
    (λ back.
    let others : not (asked.txn == held.txn) ≡ true = first _ (same_spot asked.spot held.spot) (first _ (kinds_conflict (kind_of asked) asked.mode (kind_of held) held.mode) back) in
    let here : same_spot asked.spot held.spot ≡ true
    = second (not (asked.txn == held.txn)) _ (first (not (asked.txn == held.txn) && same_spot asked.spot held.spot) (kinds_conflict (kind_of asked) asked.mode (kind_of held) held.mode) back) in
    let here' : same_spot held.spot asked.spot ≡ true = ap (λ s. same_spot held.spot s) (spot_same asked.spot held.spot here) ∙ spot_refl held.spot in
    let others' : not (held.txn == asked.txn) ≡ true = ap not (txn_sym held.txn asked.txn) ∙ others in
    let kinds : kinds_conflict (kind_of held) held.mode (kind_of asked) asked.mode ≡ false
    = sym (ap (λ b. b && same_spot held.spot asked.spot && kinds_conflict (kind_of held) held.mode (kind_of asked) asked.mode) others'
    ∙ ap (λ b. b && kinds_conflict (kind_of held) held.mode (kind_of asked) asked.mode) here') ∙ free in
    let stands : (is_intent (kind_of held) || not (kinds_conflict (kind_of asked) asked.mode (kind_of held) held.mode)) ≡ true = kinds_back (kind_of held) held.mode (kind_of asked) asked.mode kinds in
    let same : conflicts asked held ≡ kinds_conflict (kind_of asked) asked.mode (kind_of held) held.mode
    = ap (λ b. b && same_spot asked.spot held.spot && kinds_conflict (kind_of asked) asked.mode (kind_of held) held.mode) others
    ∙ ap (λ b. b && kinds_conflict (kind_of asked) asked.mode (kind_of held) held.mode) here in
    ap (λ b. is_intent held.kind || not b) same
    ∙ (ap (λ b. b || not (kinds_conflict (kind_of asked) asked.mode (kind_of held) held.mode)) (sym (intent_of (is_some held.spot.key) held.kind)) ∙ stands))
    (λ free'. ap (λ b. is_intent held.kind || not b) free' ∙ or_true (is_intent held.kind))
