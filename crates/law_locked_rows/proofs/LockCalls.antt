-- Which calls of a lock table leave to sessions what they have alone.
-- A store under record locks is to ask it of the calls that it makes; of an insertion, both calls go together.
use Rattle.std.proofs.Common.{◌≡◌, ◌≢◌, ◌∙◌, sym, ap, subst, ℕ, true, List, [], Option, Some}
use Rattle.std.specs.Prelude.{◌&&◌, not}
use Rattle.inno_types.specs.{declared.lock.Lock.Lock, declared.lock.Spot.Spot}
use Rattle.store_api.specs.declared.answers.Asked.{Asked}
use Rattle.row_versions.specs.Chains.{Chains}
use Rattle.world.specs.State.{WorldState, Session, Work, HasWork}
use Rattle.law_world_agreement.specs.Agreement.{Agrees}
use Rattle.law_logged_changes.proofs.Listed.{listed_of}
use Rattle.lock_rules.specs.Kinds.{is_shared}
use Rattle.lock_rules.specs.Spots.{same_spot}
use Rattle.lock_rules.proofs.Booleans.{first, split}
use Rattle.lock_rules.proofs.Beside.{spot_same}
use Rattle.lock_table.specs.Queue.{AreApart, serve, without, without_lock}
use Rattle.lock_table.specs.Records.{after_removal, after_end}
use Rattle.lock_table.specs.View.{Table, IsAnswered}
use Rattle.law_locks.specs.Guards.{has_alone, is_record_lock_at, is_lock_at}
use Rattle.law_locks.proofs.Guarding.{answered_locks, ended_locks, given_back_locks, served_locks}
use Rattle.law_locks.proofs.Locks.{any_removed, moved_keeps, lock_at}
use Rattle.law_locks.proofs.Clashes.{nobody_beside}
use Rattle.law_locks.specs.AtOnce.{InsertsAtOnce}
use Rattle.law_locks.proofs.AtOnce as at_once
use Rattle.law_locked_rows.specs.Owning.{KeepsAlone}
use Rattle.law_locked_rows.proofs.Owning.{alone_has}

-- a request, whatever it is answered
pub asked_keep : (old new : Table) (lock : Lock) (answer : Asked) → IsAnswered old new lock answer → (s : ℕ) (state : WorldState)
    → KeepsAlone s state old.granted new.granted
asked_keep old new lock answer is s state session work index key has alone = (answered_locks work.txn index old new lock answer is).alone key alone

-- an insertion with its intention
pub inserted_keep : (txn : ℕ) (records : List (List ℕ)) (key : List ℕ) (new next : Spot) (intention own : Lock) (old last : Table)
    → InsertsAtOnce txn records key new next intention own old last → (s : ℕ) (state : WorldState) → KeepsAlone s state old.granted last.granted
inserted_keep txn records key new next intention own old last step s state session work index kept has alone =
    (at_once.keeps txn records key new next intention own old last step work.txn index).alone kept alone

-- a request that is taken back
pub withdrawn_keep : (other : ℕ) (granted waiting : List Lock) (s : ℕ) (state : WorldState)
    → KeepsAlone s state granted (serve granted [] (without other waiting)).granted
withdrawn_keep other granted waiting s state session work index key has alone =
    (served_locks work.txn index granted [] (without other waiting)).alone key alone

module _ {chains : Chains} {state : WorldState} (agrees : Agrees chains state) (t : ℕ) {session : Session} {work : Work}
    (mine : HasWork t session work state) (granted waiting : List Lock) where
  -- each session has a transaction of its own
  pub other_txn : (s : ℕ) (theirs : Session) (other : Work) → s ≢ t → HasWork s theirs other state → other.txn ≢ work.txn
  other_txn s theirs other differs has same = differs ((listed_of chains state t session work agrees mine).alone s theirs other has same)

  -- the session's transaction ends
  pub ended_keep : (s : ℕ) → s ≢ t → KeepsAlone s state granted (after_end work.txn granted waiting).granted
  ended_keep s differs theirs other index key has alone =
      (ended_locks other.txn index work.txn granted waiting (other_txn s theirs other differs has)).alone key alone

  -- it gives one lock back
  pub given_back_keep : (gone : Lock) → gone.txn ≡ work.txn → (s : ℕ) → s ≢ t → KeepsAlone s state granted
      (serve (without_lock gone granted) [] waiting).granted
  given_back_keep gone own s differs theirs other index key has alone =
      (given_back_locks other.txn index gone granted waiting (λ same. other_txn s theirs other differs has (same ∙ own))).alone key alone

  -- ---- a record goes

  module _ (by : Option ℕ) (gone_key : List ℕ) (gone next : Spot) (gone_is : gone.key ≡ Some gone_key) where
    pub removed_any : (txn index : ℕ) (key : List ℕ) → (index ≡ gone.index → key ≡ gone_key → ⊥) → has_alone txn index key granted ≡ true
        → has_alone txn index key (after_removal by gone next granted waiting).granted ≡ true
    removed_any txn index key other has =
        any_removed by gone next (λ lock. is_record_lock_at txn index key lock && not (is_shared lock.mode)) granted waiting
        (moved_keeps by gone next (λ lock. is_record_lock_at txn index key lock && not (is_shared lock.mode)) (λ lock is.
        split (same_spot lock.spot gone)
        (λ same.
        let at = lock_at txn index (Some key) lock (first (is_lock_at txn index (Some key) lock) _ (first (is_record_lock_at txn index key lock) _ is)) in
        let spots = spot_same lock.spot gone same in
        absurd (other (sym at.here ∙ ap (λ (x : Spot). x.index) spots)
        (some_same key gone_key (sym at.key ∙ ap (λ (x : Spot). x.key) spots ∙ gone_is))))
        (λ not_same. not_same)) granted has)
      where
        some_same : (a b : List ℕ) → Some a ≡ Some b → a ≡ b
        some_same a b same = cc

    -- who removes a record has it alone, so all others keep what they have
    pub removed_keep : AreApart granted → has_alone work.txn gone.index gone_key granted ≡ true → (s : ℕ) → s ≢ t
        → KeepsAlone s state granted (after_removal by gone next granted waiting).granted
    removed_keep apart alone s differs theirs other index key has theirs_alone =
        removed_any other.txn index key (λ here same. nobody_beside other.txn work.txn gone.index gone_key (other_txn s theirs other differs has) granted apart
        alone (alone_has other.txn gone.index gone_key granted
        (subst (λ (i : ℕ). has_alone other.txn i gone_key granted ≡ true) here
        (subst (λ (k : List ℕ). has_alone other.txn index k granted ≡ true) same theirs_alone)))) theirs_alone
