-- An insertion whose intention is granted in the same step keeps what everybody guards.
-- The laws of insertions cite it, and so do those of places (`law_locked_rows`). No request waits in between.
use Rattle.std.proofs.Common.{arith, ◌≡◌, ◌≢◌, ◌∙◌, ℕ, ◌+◌, true, false, List, [], ◌∷◌, ◌++◌, inl, inr, refl, sym, ap, subst, length}
use Rattle.std.specs.Prelude.{◌==◌, ◌&&◌, ◌||◌, not, cond, Some, is_some}
use Rattle.std.specs.List.{list_any}
use Rattle.inno_types.specs.declared.lock.LockKind.TheVariants.{Intent}
use Rattle.inno_types.specs.declared.lock.Spot.{Spot}
use Rattle.inno_types.specs.declared.lock.Lock.{Lock}
use Rattle.store_api.specs.declared.answers.Undo.{Undo}
use Rattle.store_api.specs.declared.answers.Asked.TheVariants.{Granted}
use Rattle.lock_rules.specs.Kinds.{is_intent, is_shared, locks_record}
use Rattle.lock_rules.specs.Spots.{same_spot}
use Rattle.lock_rules.specs.Conflicts.{conflicts, covers, kind_at, kind_of, kind_covers}
use Rattle.lock_rules.proofs.Booleans.{and_false, or_false, or_false-left, split}
use Rattle.lock_table.specs.Queue.{is_blocked, is_covered}
use Rattle.lock_table.specs.Coverage.{IsInsertion, MayInsert}
use Rattle.lock_table.specs.Records.{copies, own_gaps}
use Rattle.lock_table.specs.View.{Table, HasPlaces, IsGranted, after_insertion, granted_with}
use Rattle.law_locks.specs.Guards.{Guards, Guarded, has_gap, has_record, has_alone}
use Rattle.law_locks.specs.Stand.{AllStand, Inserts}
use Rattle.law_locks.proofs.Granting.{granted_record, granted_alone}
use Rattle.law_locks.proofs.Guarding.{KeepsLocks, answered_locks, more_locks, guards_kept, inserted_guards, inserted_pins}
use Rattle.law_locks.proofs.Locks.{only_inserter}
use Rattle.law_locks.proofs.Places.{new_is_free}
use Rattle.law_locks.proofs.Spots.{new_spot}
use Rattle.law_locks.specs.AtOnce.{IsAlone, IsIntention, TakesNew, InsertsAtOnce}

-- ---- an intention is never covered, so it is asked for, and blocked by others' locks of the gap

uncovered : (asked : Lock) → asked.kind ≡ Intent → (held : List Lock) → is_covered held asked ≡ false
uncovered asked kind [] = refl
uncovered asked kind (lock ∷ held) =
    or_false (covers lock asked) _
    (ap (λ k. lock.txn == asked.txn && same_spot lock.spot asked.spot && kind_covers (kind_of lock) (kind_at (is_some asked.spot.key) k)
    && (is_shared asked.mode || not (is_shared lock.mode))) kind
    ∙ ap (λ b. b && (is_shared asked.mode || not (is_shared lock.mode))) (and_false (lock.txn == asked.txn && same_spot lock.spot asked.spot)))
    (uncovered asked kind held)

module _ (txn : ℕ) (next : Spot) (intention : Lock) (is : IsIntention txn next intention) (old asked : Table) (granted : IsGranted old asked intention) where
  none_covers : is_covered old.granted intention ≡ false
  none_covers = uncovered intention is.kind old.granted

  free : is_blocked old.granted old.waiting intention ≡ false
  free = ap (λ b. not b && is_blocked old.granted old.waiting intention) (sym none_covers) ∙ granted.free

  -- it adds nothing
  granted_is : asked.granted ≡ old.granted
  granted_is = ap (λ (t : Table). t.granted) granted.lists
      ∙ ap (λ b. cond (b || is_intent intention.kind) old.granted (old.granted ++ intention ∷ [])) none_covers
      ∙ ap (λ k. cond (is_intent k) old.granted (old.granted ++ intention ∷ [])) is.kind

  may_insert : MayInsert txn next asked.granted intention
  may_insert = record {
    own = is.own;
    kind = is.kind;
    spot = is.spot;
    free = subst (λ (ls : List Lock). list_any (λ held. conflicts held intention) ls ≡ false) (sym granted_is) (or_false-left _ _ free);
  }

  -- and takes no place
  pub room_left : HasPlaces (own_gaps txn next old.granted + 1) old → HasPlaces (own_gaps txn next asked.granted + 1) asked
  room_left room =
      let waits : length asked.waiting ≡ length old.waiting = ap (λ (t : Table). length t.waiting) granted.lists in
      omega (arith, room, ap (own_gaps txn next) granted_is, waits, ap length granted_is, granted.stays)

-- ---- the inserter has the record

append_none : {A : Type 0} (xs : List A) → xs ++ [] ≡ xs
append_none [] = refl
append_none (x ∷ xs) = ap (λ rest. x ∷ rest) (append_none xs)

module _ (txn : ℕ) (key : List ℕ) (new next : Spot) (own : Lock) (old last : Table) (takes : TakesNew txn key new next own old last)
    (at : new.key ≡ Some key) where
  own_key : own.spot.key ≡ Some key
  own_key = ap (λ (s : Spot). s.key) takes.own_is.spot ∙ at

  own_record : locks_record (kind_of own) ≡ true
  own_record = ap (λ k. locks_record (kind_at (is_some own.spot.key) k)) takes.own_is.kind

  pub takes_alone : has_alone txn new.index key last.granted ≡ true
  takes_alone =
      subst (λ t. has_alone t new.index key last.granted ≡ true) takes.own_is.own
      (subst (λ (s : Spot). has_alone own.txn s.index key last.granted ≡ true) takes.own_is.spot
      (granted_alone own key own_key takes.copied last takes.has own_record (ap is_shared takes.own_is.mode)))

  takes_record : has_record txn new.index key last.granted ≡ true
  takes_record =
      subst (λ t. has_record t new.index key last.granted ≡ true) takes.own_is.own
      (subst (λ (s : Spot). has_record own.txn s.index key last.granted ≡ true) takes.own_is.spot
      (granted_record own key own_key takes.copied last takes.has own_record))

  more_of : (more : List Lock) × (last.granted ≡ old.granted ++ copies txn new next old.granted ++ more)
  more_of =
      let lists : last.granted ≡ granted_with takes.copied.granted own = ap (λ (t : Table). t.granted) takes.has.lists in
      split (is_covered takes.copied.granted own || is_intent own.kind)
      (λ covered. (
        [],
        lists ∙ ap (λ b. cond b takes.copied.granted (takes.copied.granted ++ own ∷ [])) covered ∙ takes.granted_is
            ∙ sym (append_none (old.granted ++ copies txn new next old.granted)),
      ))
      (λ not_covered. (
        own ∷ [],
        lists ∙ ap (λ b. cond b takes.copied.granted (takes.copied.granted ++ own ∷ [])) not_covered
            ∙ ap (λ (ls : List Lock). ls ++ own ∷ []) takes.granted_is,
      ))

-- ---- the whole step

module _ (txn : ℕ) (records : List (List ℕ)) (key : List ℕ) (new next : Spot) (intention own : Lock) (old last : Table)
    (step : InsertsAtOnce txn records key new next intention own old last) where
  abbrev asked : Table
  asked = step.asked

  pub inserts : Inserts txn records key new next asked.granted last.granted
  inserts =
      let more = more_of txn key new next own asked last step.takes step.insertion.new_key in
      record {
        insertion = step.insertion;
        intention = intention;
        may = may_insert txn next intention step.intention_is old asked step.granted;
        more = more.0;
        locks_are = more.1;
        its_own = takes_record txn key new next own asked last step.takes step.insertion.new_key;
      }

  -- no lock goes
  pub keeps : (other index : ℕ) → KeepsLocks other index old.granted last.granted
  keeps other index =
      let more = more_of txn key new next own asked last step.takes step.insertion.new_key in
      let first_kept = answered_locks other index old asked intention Granted step.granted in
      let then_kept = subst (KeepsLocks other index asked.granted) (sym more.1)
      (append_kept other index asked.granted (copies txn new next asked.granted) more.0) in
      record {
        gaps = λ spot has. then_kept.gaps spot (first_kept.gaps spot has);
        records = λ k has. then_kept.records k (first_kept.records k has);
        alone = λ k has. then_kept.alone k (first_kept.alone k has);
      }
    where
      append_kept : (other index : ℕ) (a b c : List Lock) → KeepsLocks other index a (a ++ b ++ c)
      append_kept other index a b c =
          let one = more_locks other index a b in
          let two = more_locks other index (a ++ b) c in
          record {
            gaps = λ spot has. two.gaps spot (one.gaps spot has);
            records = λ k has. two.records k (one.records k has);
            alone = λ k has. two.alone k (one.alone k has);
          }

  -- ---- guards

  guards_asked : (other : ℕ) (guarded : List ℕ) → Guards other new.index records old.granted guarded
      → Guards other new.index records asked.granted guarded
  guards_asked other guarded =
      guards_kept other new.index records guarded old.granted asked.granted (answered_locks other new.index old asked intention Granted step.granted)

  pub guards_then : (other : ℕ) (guarded : List ℕ) → Guards other new.index records old.granted guarded
      → Guards other new.index (key ∷ records) last.granted guarded
  guards_then other guarded was =
      inserted_guards other txn records key guarded new next asked.granted last.granted inserts (guards_asked other guarded was)

  pub guarded_then : (other : ℕ) (guarded : List ℕ) (made : ℕ) (log : List Undo) → Guarded other new.index records old.granted guarded made log
      → Guarded other new.index (key ∷ records) last.granted guarded made log
  guarded_then other guarded made log was = elim was [
    | inl guards ↦ inl (guards_then other guarded guards)
    | inr pinned ↦ inr (record {
      pins = inserted_pins other txn records key guarded new next asked.granted last.granted inserts (record {
        stands = pinned.pins.stands;
        own = (answered_locks other new.index old asked intention Granted step.granted).records guarded pinned.pins.own;
      });
      older = pinned.older;
    })
  ]

  -- the new key was guarded by nobody else
  pub nobody_guards : (other : ℕ) → other ≢ txn → Guards other new.index records old.granted key → ⊥
  nobody_guards other differ was =
      only_inserter txn next intention other asked.granted differ (may_insert txn next intention step.intention_is old asked step.granted)
      (subst (λ i. has_gap other i next.key asked.granted ≡ true) (sym step.insertion.one_index)
      ((guards_asked other key was).gap next.key (new_spot records key key next.key step.insertion.next_stands step.insertion.follows)))

-- ---- where all locks stand on records, the copies and the record's lock are made by one call

pub new_is_taken : (txn : ℕ) (records : List (List ℕ)) (key named : List ℕ) (new next : Spot) (old last : Table) (own : Lock)
    → IsInsertion records key new next → AllStand new.index records old.granted old.waiting → IsAlone txn new own
    → last ≡ record old { granted = after_insertion next own old.granted } → TakesNew txn named new next own old last
new_is_taken txn records key named new next old last own insertion all mine is =
    record {
      own_is = mine;
      copied = copied;
      granted_is = ap (λ t. old.granted ++ copies t own.spot next old.granted) mine.own ∙ ap (λ (s : Spot). old.granted ++ copies txn s next old.granted) mine.spot;
      waiting_is = refl;
      has = record {
        free = ap (λ b. not (is_covered copied.granted own) && b) free ∙ and_false (not (is_covered copied.granted own));
        lists = is ∙ ap (λ n. record copied { granted = granted_with copied.granted own; capacity = n }) (sym (ap (λ (t : Table). t.capacity) is));
        stays = omega (arith, ap (λ (t : Table). t.capacity) is);
      };
    } where
      copied : Table
      copied = record old { granted = old.granted ++ copies own.txn own.spot next old.granted }

      free : is_blocked copied.granted old.waiting own ≡ false
      free = subst (λ (s : Spot). is_blocked (old.granted ++ copies own.txn s next old.granted) old.waiting own ≡ false) (sym mine.spot)
          (new_is_free records key new next insertion own.txn old.granted old.waiting own all refl mine.spot)
