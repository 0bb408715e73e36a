-- What locks cover when records appear and go.
use Rattle.std.proofs.Common.{◌≡◌, ◌≢◌, ℕ, Bool, true, false, cond, List, [], ◌∷◌, ◌++◌, ◌⊎◌, inl, inr, refl, sym, ap, subst, ◌∙◌}
use Rattle.std.proofs.lemmas.Bool.{eq-eqb, eqb-true}
use Rattle.std.proofs.lemmas.List.Folds.{list_any-append}
use Rattle.std.proofs.lemmas.Cmp.{nat_list_cmp_total}
use Rattle.std.specs.Prelude.{◌==◌, ◌&&◌, ◌||◌, not, nat_eq, Option, None, Some, is_some}
use Rattle.std.specs.List.{list_any, list_all, AllByRecursion}
use Rattle.std.specs.declared.cmp.Ordering.{Ordering}
use Rattle.std.specs.declared.cmp.Ordering.TheVariants.{Less, Equal, Greater}
use Rattle.std.specs.Ordering.{nat_cmp, is_lt, is_eq, ordering_reverse}
use Rattle.std.specs.Cmp.Lexicographic.{slice_cmp, pointwise, bytes_decides}
use Rattle.std.proofs.lemmas.Map.Text.{is_eq-slice_cmp}
use Rattle.inno_types.specs.declared.lock.LockKind.{LockKind}
use Rattle.inno_types.specs.declared.lock.LockKind.TheVariants.{Rec, Gap, NextKey, Intent}
use Rattle.inno_types.specs.declared.lock.Spot.{Spot}
use Rattle.inno_types.specs.declared.lock.Lock.{Lock}
use Rattle.lock_rules.specs.declared.rule.Rule.TheVariants.{Inserted, Changed, RecordWent, CopiedOnInsert}
use Rattle.lock_rules.specs.Kinds.{is_upper, is_intent, locks_gap, locks_record}
use Rattle.lock_rules.specs.Spots.{same_key, same_spot}
use Rattle.lock_rules.specs.Conflicts.{conflicts, kind_at, kind_of, kinds_conflict}
use Rattle.lock_rules.specs.Rules.{number_of}
use Rattle.lock_rules.specs.Coverage.{is_below, is_before, is_in_gap, stands_in, without_record, covers_key, covered}
use Rattle.lock_rules.proofs.Booleans.{first, second, both, or_left, or_right, or_cases, or_false-left, or_false-right, implies, implied, true_false, split}
use Rattle.lock_rules.proofs.Beside.{key_refl, key_same, spot_refl, spot_same}
use Rattle.lock_table.specs.Queue.{serve, is_blocked}
use Rattle.lock_table.specs.Records.{becomes_gap, is_undone, moved, left_by, elsewhere, uncovered, own_copies, copies, as_gap, after_removal}
use Rattle.lock_table.proofs.Places.{all_filter}
use Rattle.lock_table.proofs.Stronger.{GoesOver, one_txn, one_spot, stronger_gap, stronger_record, any_uncovered, any_moved}
use Rattle.lock_table.specs.Coverage.{IsRemoval, IsInsertion, AreUpper, StandOnRecords, MayInsert}

less_of : (o : Ordering) → is_lt o ≡ true → o ≡ Less
less_of Less h = refl
less_of Equal h = cc
less_of Greater h = cc

below_less : (a b : List ℕ) → is_below a b ≡ true → slice_cmp nat_cmp a b ≡ Less
below_less a b h = less_of (slice_cmp nat_cmp a b) h

pub below_trans : (a b c : List ℕ) → is_below a b ≡ true → is_below b c ≡ true → is_below a c ≡ true
below_trans a b c h g = ap is_lt (nat_list_cmp_total.trans a b c (below_less a b h) (below_less b c g))

below_itself : (a : List ℕ) → is_below a a ≡ true → ⊥
below_itself a h = let less = below_less a a h in cc (sym less ∙ nat_list_cmp_total.antisymm a a, less)

pub not_both : (a b : List ℕ) → is_below a b ≡ true → is_below b a ≡ true → ⊥
not_both a b h g = below_itself a (below_trans a b a h g)

pub one_of : (a b : List ℕ) → (is_below a b ≡ true) ⊎ ((a ≡ b) ⊎ (is_below b a ≡ true))
one_of a b = go (slice_cmp nat_cmp a b) refl where
  go : (o : Ordering) → slice_cmp nat_cmp a b ≡ o → (is_below a b ≡ true) ⊎ ((a ≡ b) ⊎ (is_below b a ≡ true))
  go Less is = inl (ap is_lt is)
  go Equal is = inr (inl ((bytes_decides a b).0 (sym (is_eq-slice_cmp a b) ∙ ap is_eq is)))
  go Greater is = inr (inr (ap is_lt (nat_list_cmp_total.antisymm b a ∙ ap ordering_reverse is)))

pub before_trans : (a b : List ℕ) (spot : Option (List ℕ)) → is_below a b ≡ true → is_before b spot ≡ true → is_before a spot ≡ true
before_trans a b None h g = refl
before_trans a b (Some c) h g = below_trans a b c h g

module _ {A : Type 0} (P : A → Type 0) where
  all_joined : (Q R : A → Type 0) → ((x : A) → P x → Q x → R x) → (xs : List A) → AllByRecursion P xs → AllByRecursion Q xs → AllByRecursion R xs
  all_joined Q R f [] all all' = tt
  all_joined Q R f (x ∷ xs) all all' = (f x all.0 all'.0, all_joined Q R f xs all.1 all'.1)

all_at : (P : List ℕ → Type 0) (key : List ℕ) (records : List (List ℕ)) → AllByRecursion P records → list_any (λ r. pointwise nat_eq r key) records ≡ true → P key
all_at P key [] all there = cc
all_at P key (r ∷ records) all there =
    elim (or_cases (pointwise nat_eq r key) _ there) [
      | inl is ↦ subst P ((bytes_decides r key).0 is) all.0
      | inr rest ↦ all_at P key records all.1 rest
    ]

-- the key stands before the spot, and behind each record before the spot
record IsInGap (records : List (List ℕ)) (spot : Option (List ℕ)) (key : List ℕ) : Type 0 where
  before : is_before key spot ≡ true
  behind : AllByRecursion (λ r. is_before r spot ≡ true → is_below r key ≡ true) records

module _ (spot : Option (List ℕ)) (key : List ℕ) where
  behind_all : (records : List (List ℕ)) → list_all (λ r. not (is_before r spot) || is_below r key) records ≡ true → AllByRecursion (λ r. is_before r spot ≡ true → is_below r key ≡ true) records
  behind_all [] h = tt
  behind_all (r ∷ records) h = (implies (is_before r spot) (is_below r key) (first _ _ h), behind_all records (second (not (is_before r spot) || is_below r key) _ h))

  all_behind : (records : List (List ℕ)) → AllByRecursion (λ r. is_before r spot ≡ true → is_below r key ≡ true) records → list_all (λ r. not (is_before r spot) || is_below r key) records ≡ true
  all_behind [] all = refl
  all_behind (r ∷ records) all = both _ _ (implied (is_before r spot) (is_below r key) all.0) (all_behind records all.1)

  gap_from : (records : List (List ℕ)) → is_in_gap records spot key ≡ true → IsInGap records spot key
  gap_from records h = record { before = first (is_before key spot) _ h; behind = behind_all records (second (is_before key spot) _ h) }

  gap_to : (records : List (List ℕ)) → IsInGap records spot key → is_in_gap records spot key ≡ true
  gap_to records gap = both _ _ gap.before (all_behind records gap.behind)

-- a new record before the next spot: the gap of a spot goes on to cover a key, or the spot is the next one and the key stands before the new record
module _ (records : List (List ℕ)) (new key : List ℕ) where
  same_gap : (spot next : Option (List ℕ)) → IsInGap records spot key → IsInGap records next new → stands_in records spot ≡ true → stands_in records next ≡ true
      → is_below key new ≡ true → is_before new spot ≡ true → spot ≡ next
  same_gap None None gap gap' stands stands' lt before = refl
  same_gap None (Some m) gap gap' stands stands' lt before =
      let m_below = all_at (λ r. is_before r None ≡ true → is_below r key ≡ true) m records gap.behind stands' refl in
      absurd (not_both m key m_below (below_trans key new m lt gap'.before))
  same_gap (Some a) None gap gap' stands stands' lt before =
      let a_below = all_at (λ r. is_before r None ≡ true → is_below r new ≡ true) a records gap'.behind stands refl in absurd (not_both a new a_below before)
  same_gap (Some a) (Some m) gap gap' stands stands' lt before =
      elim (one_of a m) [
        | inl a_lt ↦ absurd (not_both a new (all_at (λ r. is_below r m ≡ true → is_below r new ≡ true) a records gap'.behind stands a_lt) before)
        | inr w ↦ elim w [
          | inl same ↦ ap Some same
          | inr m_lt ↦ absurd (not_both m key (all_at (λ r. is_below r a ≡ true → is_below r key ≡ true) m records gap.behind stands' m_lt) (below_trans key new m lt gap'.before))
        ]
      ]

  gap_split : (spot next : Option (List ℕ)) → IsInGap records spot key → IsInGap records next new → stands_in records spot ≡ true → stands_in records next ≡ true → key ≢ new
      → IsInGap (new ∷ records) spot key ⊎ ((spot ≡ next) × IsInGap (new ∷ records) (Some new) key)
  gap_split spot next gap gap' stands stands' other =
      elim (one_of new key) [
        | inl lt ↦ inl (record { before = gap.before; behind = (λ _. lt, gap.behind) })
        | inr w ↦ elim w [
          | inl same ↦ absurd (other (sym same))
          | inr lt ↦ split (is_before new spot)
              (λ before. inr (
                same_gap spot next gap gap' stands stands' lt before,
                record {
                  before = lt;
                  behind = (
                    λ itself. absurd (below_itself new itself),
                    all_joined _ (λ _. Unit {0}) _ (λ r f _ r_lt. f (before_trans r new spot r_lt before)) records gap.behind (everywhere records),
                  );
                },
              ))
              (λ not_before. inl (record { before = gap.before; behind = (λ before. cc (before, not_before), gap.behind) }))
        ]
      ] where
        everywhere : (rs : List (List ℕ)) → AllByRecursion (λ (r : List ℕ). Unit {0}) rs
        everywhere [] = tt
        everywhere (r ∷ rs) = (tt, everywhere rs)

-- a record goes: what its gap covered, the gap of the spot that follows covers
gap_grows : (records : List (List ℕ)) (gone key : List ℕ) (next : Option (List ℕ)) → IsInGap (without_record gone records) next gone → IsInGap records (Some gone) key → IsInGap (without_record gone records) next key
gap_grows records gone key next follows gap = record {
  before = before_trans key gone next gap.before follows.before;
  behind = all_joined _ _ _ (λ r f g before. g (f before)) (without_record gone records) follows.behind (all_filter _ (λ r. not (pointwise nat_eq r gone)) records gap.behind);
}

gap_stays : (records : List (List ℕ)) (gone key : List ℕ) (spot : Option (List ℕ)) → IsInGap records spot key → IsInGap (without_record gone records) spot key
gap_stays records gone key spot gap = record { before = gap.before; behind = all_filter _ (λ r. not (pointwise nat_eq r gone)) records gap.behind }

-- a lock of the transaction in the index covers the key
record Covers (txn index : ℕ) (records : List (List ℕ)) (key : List ℕ) (w : Lock) : Type 0 where
  own : (w.txn == txn) ≡ true
  here : (w.spot.index == index) ≡ true
  how : ((locks_gap (kind_of w) ≡ true) × IsInGap records w.spot.key key) ⊎ ((locks_record (kind_of w) ≡ true) × (w.spot.key ≡ Some key))

abbrev test : ℕ → ℕ → List (List ℕ) → List ℕ → Lock → Bool
test txn index records key w = w.txn == txn && w.spot.index == index && covers_key records w key

module _ (txn index : ℕ) (records : List (List ℕ)) (key : List ℕ) (w : Lock) where
  covers_from : test txn index records key w ≡ true → Covers txn index records key w
  covers_from h =
      let front = first (w.txn == txn && w.spot.index == index) (covers_key records w key) h in
      let back = second (w.txn == txn && w.spot.index == index) (covers_key records w key) h in
      record {
        own = first (w.txn == txn) (w.spot.index == index) front;
        here = second (w.txn == txn) (w.spot.index == index) front;
        how = elim (or_cases (locks_gap (kind_of w) && is_in_gap records w.spot.key key) (locks_record (kind_of w) && same_key w.spot.key (Some key)) back) [
          | inl gap ↦ inl (first (locks_gap (kind_of w)) _ gap, gap_from w.spot.key key records (second (locks_gap (kind_of w)) _ gap))
          | inr own ↦ inr (first (locks_record (kind_of w)) _ own, key_same w.spot.key (Some key) (second (locks_record (kind_of w)) _ own))
        ];
      }

  covers_to : Covers txn index records key w → test txn index records key w ≡ true
  covers_to covers =
      both _ _ (both _ _ covers.own covers.here) (
      elim covers.how [
        | inl gap ↦ or_left _ _ (both _ _ gap.0 (gap_to w.spot.key key records gap.1))
        | inr own ↦ or_right _ _ (both _ _ own.0 (ap (λ k. same_key k (Some key)) own.1 ∙ key_refl (Some key)))
      ]
      )

-- a lock that covers another covers each key that it covers
over : (txn index : ℕ) (records : List (List ℕ)) (key : List ℕ) → GoesOver (test txn index records key)
over txn index records key held lock is has =
    let was = covers_from txn index records key lock has in
    let spot = one_spot held lock is in
    covers_to txn index records key held (record {
      own = ap (λ n. n == txn) (one_txn held lock is) ∙ was.own;
      here = ap (λ (s : Spot). s.index == index) spot ∙ was.here;
      how = elim was.how [
        | inl gap ↦ inl (stronger_gap held lock is gap.0, subst (λ (s : Spot). IsInGap records s.key key) (sym spot) gap.1)
        | inr own ↦ inr (stronger_record held lock is own.0, ap (λ (s : Spot). s.key) spot ∙ own.1)
      ];
    })

gap_kind : (b : Bool) (kind : LockKind) → locks_gap (kind_at b kind) ≡ locks_gap kind
gap_kind b Rec = refl
gap_kind b Gap = refl
gap_kind true NextKey = refl
gap_kind false NextKey = refl
gap_kind b Intent = refl

pub no_intent : (b : Bool) (kind : LockKind) → (locks_gap (kind_at b kind) ≡ true) ⊎ (locks_record (kind_at b kind) ≡ true) → is_intent kind ≡ false
no_intent b Rec h = refl
no_intent b Gap h = refl
no_intent b NextKey h = refl
no_intent b Intent h = elim h [ inl gap ↦ cc | inr own ↦ cc ]

some_same : (a b : List ℕ) → Some a ≡ Some b → a ≡ b
some_same a b h = cc

any_cond : (p : Lock → Bool) (b : Bool) (c : Lock) (ws : List Lock) → list_any p ws ≡ true → list_any p (cond b (c ∷ ws) ws) ≡ true
any_cond p true c ws h = or_right (p c) _ h
any_cond p false c ws h = h

any_in_front : (p : Lock → Bool) (xs ys : List Lock) → list_any p xs ≡ true → list_any p (xs ++ ys) ≡ true
any_in_front p xs ys h = list_any-append p xs ys ∙ or_left _ _ h

any_behind : (p : Lock → Bool) (xs ys : List Lock) → list_any p ys ≡ true → list_any p (xs ++ ys) ≡ true
any_behind p xs ys h = list_any-append p xs ys ∙ or_right _ _ h

-- to serve requests takes no granted lock away
any_served : (p : Lock → Bool) (held earlier queue : List Lock) → list_any p held ≡ true → list_any p (serve held earlier queue).granted ≡ true
any_served p held earlier [] h = h
any_served p held earlier (asked ∷ queue) h =
    elim (is_blocked held earlier asked) as (λ d. list_any p (cond d (serve held (earlier ++ asked ∷ []) queue) (serve (held ++ asked ∷ []) earlier queue)).granted ≡ true) [
      | true ↦ any_served p held (earlier ++ asked ∷ []) queue h
      | false ↦ any_served p (held ++ asked ∷ []) earlier queue (any_in_front p held (asked ∷ []) h)
    ]

-- a record is inserted
module _ (records : List (List ℕ)) (new_key : List ℕ) (new next : Spot) (insertion : IsInsertion records new_key new next) (inserter : ℕ) (intention : Lock) (key : List ℕ) (other : key ≢ new_key) (txn : ℕ) where
  conflicting : (w : Lock) → intention.txn ≡ inserter → intention.kind ≡ Intent → intention.spot ≡ next → w.spot ≡ next → locks_gap (kind_of w) ≡ true → (w.txn == inserter) ≡ false → conflicts w intention ≡ true
  conflicting w own kind spot here gap not_own =
      both _ _ (
      both _ _ (ap (λ t. not (w.txn == t)) own ∙ ap not not_own) (ap (λ s. same_spot s intention.spot) (here ∙ sym spot) ∙ spot_refl intention.spot)
      ) (ap (λ k. kinds_conflict (kind_of w) w.mode (kind_at (is_some intention.spot.key) k) intention.mode) kind ∙ gap)

  copy_covers : (w : Lock) → Covers txn new.index records key w → IsInGap (new_key ∷ records) (Some new_key) key → test txn new.index (new_key ∷ records) key (as_gap (number_of CopiedOnInsert) new w) ≡ true
  copy_covers w covers gap =
      covers_to txn new.index (new_key ∷ records) key (as_gap (number_of CopiedOnInsert) new w)
      (record { own = covers.own; here = eq-eqb new.index new.index refl; how = inl (refl, subst (λ s. IsInGap (new_key ∷ records) s key) (sym insertion.new_key) gap) })

  one_covered : (w : Lock) → (w.spot.index ≡ new.index → locks_gap (kind_of w) ≡ true → stands_in records w.spot.key ≡ true) → intention.txn ≡ inserter → intention.kind ≡ Intent → intention.spot ≡ next
      → conflicts w intention ≡ false → Covers txn new.index records key w
      → (test txn new.index (new_key ∷ records) key w ≡ true) ⊎ (((w.txn == inserter && same_spot w.spot next && locks_gap w.kind) ≡ true) × (test txn new.index (new_key ∷ records) key (as_gap (number_of CopiedOnInsert) new w) ≡ true))
  one_covered w stand own kind spot free covers =
      elim covers.how [
        | inr record_of ↦ inl (covers_to txn new.index (new_key ∷ records) key w (record { own = covers.own; here = covers.here; how = inr record_of }))
        | inl gap ↦
            let index = eqb-true w.spot.index new.index covers.here in
            elim (gap_split records new_key key w.spot.key next.key gap.1 (gap_from next.key new_key records insertion.follows) (stand index gap.0) insertion.next_stands other) [
              | inl stays ↦ inl (covers_to txn new.index (new_key ∷ records) key w (record { own = covers.own; here = covers.here; how = inl (gap.0, stays) }))
              | inr split_at ↦
                  let spot_is : w.spot ≡ next = (λ i. record { index = ((index ∙ sym insertion.one_index) i); key = (split_at.0 i) }) in
                  split (w.txn == inserter)
                  (λ its_own. inr (
                    both _ _ (both _ _ its_own (ap (λ s. same_spot s next) spot_is ∙ spot_refl next)) (sym (gap_kind (is_some w.spot.key) w.kind) ∙ gap.0),
                    copy_covers w covers split_at.1,
                  ))
                  (λ not_own. absurd (true_false (conflicts w intention) (conflicting w own kind spot spot_is gap.0 not_own) free))
            ]
      ]

  still_covered : (ws : List Lock) → StandOnRecords new.index records ws → intention.txn ≡ inserter → intention.kind ≡ Intent → intention.spot ≡ next → list_any (λ held. conflicts held intention) ws ≡ false
      → covered txn new.index records ws key ≡ true → (covered txn new.index (new_key ∷ records) ws key ≡ true) ⊎ (covered txn new.index (new_key ∷ records) (own_copies inserter new next ws) key ≡ true)
  still_covered [] stand own kind spot free is = inl is
  still_covered (w ∷ ws) stand own kind spot free is =
      elim (or_cases (test txn new.index records key w) _ is) [
        | inr rest ↦ elim (still_covered ws stand.1 own kind spot (or_false-right (conflicts w intention) _ free) rest) [
          | inl now ↦ inl (or_right _ _ now)
          | inr copied ↦ inr (any_cond _ _ _ (own_copies inserter new next ws) copied)
        ]
        | inl this ↦ elim (one_covered w stand.0 own kind spot (or_false-left (conflicts w intention) _ free) (covers_from txn new.index records key w this)) [
          | inl now ↦ inl (or_left _ _ now)
          | inr copied ↦ inr (
              subst (λ b. list_any (test txn new.index (new_key ∷ records) key) (cond b (as_gap (number_of CopiedOnInsert) new w ∷ own_copies inserter new next ws) (own_copies inserter new next ws)) ≡ true) (sym copied.0)
              (or_left _ _ copied.1)
              )
        ]
      ]

  pub covered_after_insertion : (ws : List Lock) → StandOnRecords new.index records ws → MayInsert inserter next ws intention → covered txn new.index records ws key ≡ true
      → covered txn new.index (new_key ∷ records) (ws ++ copies inserter new next ws) key ≡ true
  covered_after_insertion ws stand may is =
      elim (still_covered ws stand may.own may.kind may.spot may.free is) [
        | inl now ↦ any_in_front (test txn new.index (new_key ∷ records) key) ws (copies inserter new next ws) now
        | inr copied ↦ any_uncovered (test txn new.index (new_key ∷ records) key) (over txn new.index (new_key ∷ records) key) ws (own_copies inserter new next ws) copied
      ]

-- a record goes
pub gone_apart : (records : List (List ℕ)) (gone_key : List ℕ) (gone next : Spot) → IsRemoval records gone_key gone next → same_spot next gone ≡ false
gone_apart records gone_key gone next removal =
    split (same_spot next gone)
    (λ same. absurd (below_itself gone_key (subst (λ (s : Option (List ℕ)). is_before gone_key s ≡ true)
    (ap (λ (s : Spot). s.key) (spot_same next gone same) ∙ removal.gone_key) (first (is_before gone_key next.key) _ removal.follows))))
    (λ is_not. is_not)

module _ (records : List (List ℕ)) (gone_key : List ℕ) (gone next : Spot) (removal : IsRemoval records gone_key gone next) (by : Option ℕ) (key : List ℕ) (txn : ℕ) (not_undone : by ≢ Some txn) where
  undone_not : (by' : Option ℕ) → by' ≢ Some txn → (w : Lock) → w.txn ≡ txn → is_undone by' w ≡ false
  undone_not None ne w own = refl
  undone_not (Some t) ne w own =
      split (w.txn == t)
      (λ is. absurd (ne (ap Some (sym (eqb-true w.txn t is) ∙ own))))
      (λ is_not. ap (λ b. b && (w.reason.rule == number_of Inserted || w.reason.rule == number_of Changed)) is_not)

  becomes : (w : Lock) → is_upper w.reason.level ≡ true → Covers txn gone.index records key w → becomes_gap by w ≡ true
  becomes w upper covers =
      let intent : is_intent w.kind ≡ false = no_intent (is_some w.spot.key) w.kind (elim covers.how [ inl gap ↦ inl gap.0 | inr own ↦ inr own.0 ]) in
      both _ _ (both _ _ (ap not intent) (ap not (undone_not by not_undone w (eqb-true w.txn txn covers.own)))) (or_left _ _ (or_left _ _ (or_left _ _ upper)))

  moved_covers : (w : Lock) → same_spot w.spot gone ≡ true → Covers txn gone.index records key w → test txn gone.index (without_record gone_key records) key (as_gap (number_of RecordWent) next w) ≡ true
  moved_covers w at_gone covers =
      let follows = gap_from next.key gone_key (without_record gone_key records) removal.follows in
      let key_is : w.spot.key ≡ Some gone_key = ap (λ (s : Spot). s.key) (spot_same w.spot gone at_gone) ∙ removal.gone_key in
      covers_to txn gone.index (without_record gone_key records) key (as_gap (number_of RecordWent) next w)
      (record {
        own = covers.own;
        here = eq-eqb next.index gone.index removal.one_index;
        how = inl (
          refl,
          elim covers.how [
            | inl gap ↦ gap_grows records gone_key key next.key follows (subst (λ s. IsInGap records s key) key_is gap.1)
            | inr own ↦ subst (IsInGap (without_record gone_key records) next.key) (some_same gone_key key (sym key_is ∙ own.1)) follows
          ],
        );
      })

  stays_covered : (w : Lock) → Covers txn gone.index records key w → test txn gone.index (without_record gone_key records) key w ≡ true
  stays_covered w covers =
      covers_to txn gone.index (without_record gone_key records) key w
      (record {
        own = covers.own;
        here = covers.here;
        how = elim covers.how [ inl gap ↦ inl (gap.0, gap_stays records gone_key key w.spot.key gap.1) | inr own ↦ inr own ];
      })

  covered_when_moved : (ws : List Lock) → AreUpper txn ws → covered txn gone.index records ws key ≡ true → covered txn gone.index (without_record gone_key records) (moved by gone next ws) key ≡ true
  covered_when_moved ws upper is =
      any_moved by gone next (λ lock. (lock.txn == txn) ≡ true → is_upper lock.reason.level ≡ true) (test txn gone.index records key)
      (test txn gone.index (without_record gone_key records) key) (gone_apart records gone_key gone next removal) (over txn gone.index (without_record gone_key records) key)
      (λ w level has here. let covers = covers_from txn gone.index records key w has in (becomes w (level covers.own) covers, moved_covers w here covers))
      (λ w level has elsewhere. stays_covered w (covers_from txn gone.index records key w has)) [] ws upper is

  pub covered_after_removal : (granted waiting : List Lock) → AreUpper txn granted → covered txn gone.index records granted key ≡ true
      → covered txn gone.index (without_record gone_key records) (after_removal by gone next granted waiting).granted key ≡ true
  covered_after_removal granted waiting upper is =
      any_served (test txn gone.index (without_record gone_key records) key) (moved by gone next granted ++ uncovered (moved by gone next granted) (left_by by gone next waiting)) [] (elsewhere gone waiting)
      (any_in_front (test txn gone.index (without_record gone_key records) key) (moved by gone next granted) (uncovered (moved by gone next granted) (left_by by gone next waiting)) (covered_when_moved granted upper is))
