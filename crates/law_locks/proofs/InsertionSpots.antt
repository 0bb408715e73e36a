-- The spots of an index as a pair comes, is replaced, or goes.
-- A pair and its record come and go together; the laws of guards are brought from lists of keys to indexes by it.
use Rattle.std.proofs.Common.{◌≡◌, ◌≢◌, ◌∙◌, ℕ, Bool, true, false, List, [], ◌∷◌, inl, inr, refl, sym, ap, subst}
use Rattle.std.specs.Prelude.{◌||◌, nat_eq, cond, Option, None, Some, is_some, option_map, MatchOption}
use Rattle.std.specs.Cmp.Lexicographic.{pointwise, bytes_decides}
use Rattle.std.specs.declared.cmp.Ordering.{Ordering}
use Rattle.std.specs.declared.cmp.Ordering.TheVariants.{Less, Equal, Greater}
use Rattle.std.specs.Ordering.{is_eq, is_lt, is_le}
use Rattle.inno_types.specs.declared.lock.Lock.{Lock}
use Rattle.store_api.specs.declared.answers.Undo.{Undo}
use Rattle.entries.specs.Pairs.{Pair, key_cmp, AreRising, value_of, first_after, with_pair, without_key, IsFirstOf, NonePasses}
use Rattle.entries.proofs.Order.{key_cmp_is, key_itself, same_key, higher_from}
use Rattle.entries.proofs.Found.{value_put, others_stay, value_gone, others_stay_without, first_is}
use Rattle.lock_rules.specs.Coverage.{is_below, is_in_gap, stands_in, without_record}
use Rattle.lock_rules.proofs.Booleans.{true_false, split}
use Rattle.lock_table.proofs.Covering.{one_of}
use Rattle.lock_table.specs.Coverage.{IsInsertion}
use Rattle.lock_table.specs.View.{Table}
use Rattle.law_locks.specs.Guards.{IsSpotOf, Guards, Guarded}
use Rattle.law_locks.specs.Stand.{Removes}
use Rattle.law_locks.proofs.Spots.{Stands, in_gap-from, in_gap-fewer, stood, stays, gone_not}
use Rattle.law_locks.specs.AtOnce.{InsertsAtOnce}
use Rattle.law_locks.specs.Index.{keys_of, spot_at, next_spot, InsertsIn}

both_ways : (a b : Bool) → (a ≡ true → b ≡ true) → (b ≡ true → a ≡ true) → a ≡ b
both_ways true b f g = sym (f refl)
both_ways false true f g = g refl
both_ways false false f g = refl

-- ---- the keys of pairs

same_test : (a b : List ℕ) → pointwise nat_eq a b ≡ is_eq (key_cmp b a)
same_test a b = both_ways (pointwise nat_eq a b) (is_eq (key_cmp b a))
    (λ is. ap (λ (k : List ℕ). is_eq (key_cmp b k)) ((bytes_decides a b).0 is) ∙ ap is_eq (key_itself b))
    (λ is. (bytes_decides a b).1 (sym (same_key b a (equal (key_cmp b a) is))))
  where
    equal : (o : Ordering) → is_eq o ≡ true → o ≡ Equal
    equal Equal is = refl
    equal o is = cc

or_some : (b : Bool) (value : List ℕ) (found : Option (List ℕ)) → (b || is_some found) ≡ is_some (cond b (Some value) found)
or_some true value found = refl
or_some false value found = refl

-- a key stands where it has a value
pub stands_is : (q : List ℕ) (pairs : List Pair) → stands_in (keys_of pairs) (Some q) ≡ is_some (value_of q pairs)
stands_is q [] = refl
stands_is q (pair ∷ pairs) =
    ap (λ b. b || stands_in (keys_of pairs) (Some q)) (same_test pair.0 q) ∙ ap (λ c. is_eq (key_cmp q pair.0) || c) (stands_is q pairs)
    ∙ or_some (is_eq (key_cmp q pair.0)) pair.1 (value_of q pairs)

below_is : (a b : List ℕ) → is_below a b ≡ is_lt (key_cmp a b)
below_is a b = ap is_lt (sym (key_cmp_is a b))

-- ---- the spot that follows a key

not_le : (a b : List ℕ) → is_le (key_cmp a b) ≡ true → is_below b a ≡ true → ⊥
not_le a b le below = go (key_cmp b a) refl
  where
    go : (o : Ordering) → key_cmp b a ≡ o → ⊥
    go Less is = let up = ap is_le (higher_from b a is) in true_false _ le up
    go Equal is = let e = sym (below_is b a) ∙ below in true_false _ e (ap is_lt is)
    go Greater is = let e = sym (below_is b a) ∙ below in true_false _ e (ap is_lt is)

module _ (key : List ℕ) (pairs : List Pair) (rising : AreRising pairs) where
  abbrev above : List ℕ → Bool
  above other = is_lt (key_cmp key other)

  abbrev FirstAbove : Option Pair → Type 0
  FirstAbove found = MatchOption found (NonePasses above pairs) (IsFirstOf above pairs)

  -- among some of the keys, and not the key itself, the next one follows
  follows_in : (records : List (List ℕ)) → ((q : List ℕ) → Stands records q → (q ≢ key) × (is_some (value_of q pairs) ≡ true))
      → (found : Option Pair) → FirstAbove found → is_in_gap records (option_map (λ (pair : Pair). pair.0) found) key ≡ true
  follows_in records there None none =
      in_gap-from records None key refl (λ q stands before. elim (one_of q key) [
        | inl below ↦ below
        | inr other ↦ elim other [
          | inl same ↦ absurd ((there q stands).0 same)
          | inr more ↦ absurd (true_false _ (sym (below_is key q) ∙ more) (none q (there q stands).1))
        ]
      ])
  follows_in records there (Some pair) first =
      in_gap-from records (Some pair.0) key (below_is key pair.0 ∙ first.passes) (λ q stands before. elim (one_of q key) [
        | inl below ↦ below
        | inr other ↦ elim other [
          | inl same ↦ absurd ((there q stands).0 same)
          | inr more ↦ absurd (not_le pair.0 q (first.least q (there q stands).1 (sym (below_is key q) ∙ more)) before)
        ]
      ])

  first_stands : (found : Option Pair) → FirstAbove found → stands_in (keys_of pairs) (option_map (λ (pair : Pair). pair.0) found) ≡ true
  first_stands None none = refl
  first_stands (Some pair) first = stands_is pair.0 pairs ∙ ap is_some first.there

  pub insertion : (index : ℕ) → value_of key pairs ≡ None → IsInsertion (keys_of pairs) key (spot_at index key) (next_spot index key pairs)
  insertion index absent = record {
    new_key = refl;
    one_index = refl;
    next_stands = first_stands (first_after key pairs) (first_is above pairs rising);
    follows = follows_in (keys_of pairs) (λ q stands. (
      λ same. true_false _ (sym (stands_is q pairs) ∙ stands) (ap (λ (k : List ℕ). is_some (value_of k pairs)) same ∙ ap is_some absent),
      sym (stands_is q pairs) ∙ stands,
    )) (first_after key pairs) (first_is above pairs rising);
  }

  not_key : (found : Option Pair) → FirstAbove found → option_map (λ (pair : Pair). pair.0) found ≢ Some key
  not_key None none same = cc
  not_key (Some pair) first same =
      let is : pair.0 ≡ key = some_same pair.0 key same in
      true_false _ (sym (ap above is) ∙ first.passes) (ap is_lt (key_itself key))
    where
      some_same : (a b : List ℕ) → Some a ≡ Some b → a ≡ b
      some_same a b e = cc

  spot_stays : (spot : Option (List ℕ)) → spot ≢ Some key → stands_in (keys_of pairs) spot ≡ true
      → stands_in (without_record key (keys_of pairs)) spot ≡ true
  spot_stays None other stands = refl
  spot_stays (Some q) other stands = stays key (keys_of pairs) q (λ e. other (ap Some e)) stands

  pub removes : (index : ℕ) → is_some (value_of key pairs) ≡ true → Removes (keys_of pairs) key (spot_at index key) (next_spot index key pairs)
  removes index there = record {
    removal = record {
      gone_key = refl;
      one_index = refl;
      follows = follows_in (without_record key (keys_of pairs)) (λ q stands. (
        λ same. gone_not key (keys_of pairs) (subst (Stands (without_record key (keys_of pairs))) same stands),
        sym (stands_is q pairs) ∙ stood key (keys_of pairs) q stands,
      )) (first_after key pairs) (first_is above pairs rising);
    };
    stands = stands_is key pairs ∙ there;
    next_stands = spot_stays (option_map (λ (pair : Pair). pair.0) (first_after key pairs))
        (not_key (first_after key pairs) (first_is above pairs rising)) (first_stands (first_after key pairs) (first_is above pairs rising));
  }

-- ---- lists in which the same keys stand

abbrev pub HaveSame : List (List ℕ) → List (List ℕ) → Type 0
HaveSame a b = (q : List ℕ) → stands_in a (Some q) ≡ stands_in b (Some q)

module _ {a b : List (List ℕ)} (same : HaveSame a b) where
  spot_again : (key : List ℕ) (spot : Option (List ℕ)) → IsSpotOf b key spot → IsSpotOf a key spot
  spot_again key spot is = record {
    stands = there spot is.stands;
    at = elim is.at [ inl here ↦ inl here | inr gap ↦ inr (in_gap-fewer b a spot key (λ q stands. sym (same q) ∙ stands) gap) ];
  }
    where
      there : (spot : Option (List ℕ)) → stands_in b spot ≡ true → stands_in a spot ≡ true
      there None stands = refl
      there (Some q) stands = same q ∙ stands

  pub guards_again : (txn index : ℕ) (locks : List Lock) (key : List ℕ) → Guards txn index a locks key → Guards txn index b locks key
  guards_again txn index locks key was = record { gap = λ spot at. was.gap spot (spot_again key spot at); own = λ stands. was.own (same key ∙ stands) }

  pub guarded_again : (txn index : ℕ) (locks : List Lock) (key : List ℕ) (made : ℕ) (log : List Undo) → Guarded txn index a locks key made log
      → Guarded txn index b locks key made log
  guarded_again txn index locks key made log was = elim was [
    | inl guards ↦ inl (guards_again txn index locks key guards)
    | inr pinned ↦ inr (record {
      pins = record { stands = sym (same key) ∙ pinned.pins.stands; own = pinned.pins.own };
      older = pinned.older;
    })
  ]

pub same_with : (key value : List ℕ) (pairs : List Pair) → HaveSame (key ∷ keys_of pairs) (keys_of (with_pair key value pairs))
same_with key value pairs q =
    split (pointwise nat_eq key q)
    (λ is. ap (λ b. b || stands_in (keys_of pairs) (Some q)) is
    ∙ sym (stands_is q (with_pair key value pairs)
    ∙ ap (λ (k : List ℕ). is_some (value_of k (with_pair key value pairs))) (sym ((bytes_decides key q).0 is))
    ∙ ap is_some (value_put key value pairs)))
    (λ is_not. ap (λ b. b || stands_in (keys_of pairs) (Some q)) is_not ∙ stands_is q pairs
    ∙ sym (stands_is q (with_pair key value pairs) ∙ ap is_some (others_stay key value q pairs
    (λ e. true_false _ ((bytes_decides key q).1 (sym e)) is_not))))

pub same_over : (key value : List ℕ) (pairs : List Pair) → is_some (value_of key pairs) ≡ true → HaveSame (keys_of pairs) (keys_of (with_pair key value pairs))
same_over key value pairs there q =
    split (pointwise nat_eq key q)
    (λ is. stands_is q pairs ∙ ap (λ (k : List ℕ). is_some (value_of k pairs)) (sym ((bytes_decides key q).0 is)) ∙ there
    ∙ sym (stands_is q (with_pair key value pairs)
    ∙ ap (λ (k : List ℕ). is_some (value_of k (with_pair key value pairs))) (sym ((bytes_decides key q).0 is))
    ∙ ap is_some (value_put key value pairs)))
    (λ is_not. stands_is q pairs ∙ sym (stands_is q (with_pair key value pairs) ∙ ap is_some (others_stay key value q pairs
    (λ e. true_false _ ((bytes_decides key q).1 (sym e)) is_not))))

pub same_without : (key : List ℕ) (pairs : List Pair) → AreRising pairs → HaveSame (without_record key (keys_of pairs)) (keys_of (without_key key pairs))
same_without key pairs rising q = both_ways _ _
    (λ stands.
    let differ : q ≢ key = λ e. gone_not key (keys_of pairs) (subst (Stands (without_record key (keys_of pairs))) e stands) in
    stands_is q (without_key key pairs) ∙ ap is_some (others_stay_without key q pairs differ) ∙ sym (stands_is q pairs) ∙ stood key (keys_of pairs) q stands)
    (λ stands.
    let there = sym (stands_is q (without_key key pairs)) ∙ stands in
    let differ : q ≢ key = λ e. true_false _ there
    (ap (λ (k : List ℕ). is_some (value_of k (without_key key pairs))) e ∙ ap is_some (value_gone key pairs rising)) in
    stays key (keys_of pairs) q differ
    (stands_is q pairs ∙ sym (ap is_some (others_stay_without key q pairs differ)) ∙ there))

-- ---- a pair is put

pub at_once : {txn index : ℕ} {pairs : List Pair} {key : List ℕ} {intention own : Lock} {old last : Table}
    → InsertsIn txn index pairs key intention own old last
    → InsertsAtOnce txn (keys_of pairs) key (spot_at index key) (next_spot index key pairs) intention own old last
at_once {index = index} {pairs = pairs} {key = key} is = record {
  insertion = insertion key pairs is.rising index is.absent;
  intention_is = is.intention_is;
  asked = is.asked;
  granted = is.granted;
  takes = is.takes;
}
