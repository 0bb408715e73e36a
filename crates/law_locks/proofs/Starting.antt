-- Where no cycle stood before, each one that a call has closed goes through those whose waits have grown.
use Rattle.std.specs.Prelude.{ℕ, not, Option, List, [], ◌∷◌, ◌++◌}
use Rattle.std.proofs.Common.{inl, inr, refl, subst}
use Rattle.inno_types.specs.declared.lock.Spot.{Spot}
use Rattle.inno_types.specs.declared.lock.Edge.{Edge}
use Rattle.inno_types.specs.declared.lock.Lock.{Lock}
use Rattle.lock_rules.specs.Spots.{same_spot}
use Rattle.lock_table.specs.Queue.{AreSound}
use Rattle.lock_table.specs.Records.{moved, left_by, uncovered, elsewhere, after_removal}
use Rattle.lock_table.specs.View.{Table, IsQueued}
use Rattle.lock_table.proofs.Soundness.{served, locks_moved, requests_left}
use Rattle.deadlock.specs.Cycles.{IsCycle}
use Rattle.law_locks.specs.Waits.{AreFree, AllMeet, inserters}
use Rattle.law_locks.proofs.Members.{contains_from_in}
use Rattle.law_locks.proofs.Calls.{queued_closes}
use Rattle.law_locks.proofs.Removal.{removal_closes}

pub all_meet_asker : (old new : Table) (lock : Lock) (edges : List Edge) → AreSound old.granted old.waiting → AreFree old.granted old.waiting
    → IsQueued old new lock edges → AllMeet (lock.txn ∷ []) new.granted new.waiting
all_meet_asker old new lock edges sound free is cycle stands =
    elim (queued_closes old.granted old.waiting lock sound.single cycle
    (subst (λ (ws : List Lock). IsCycle old.granted ws cycle) is.waiting (subst (λ (ls : List Lock). IsCycle ls new.waiting cycle) is.granted stands))) [
      | inl stood ↦ absurd (free cycle stood)
      | inr through ↦ record { txn = lock.txn; listed = contains_from_in (lock.txn ∷ []) lock.txn (inl refl); waits = through }
    ]

module _ (by : Option ℕ) (gone next : Spot) (granted waiting : List Lock) (sound : AreSound granted waiting) where
  pub sound_removed : AreSound (after_removal by gone next granted waiting).granted (after_removal by gone next granted waiting).waiting
  sound_removed =
      let locks = locks_moved granted waiting sound by gone next (moved by gone next granted)
      (moved by gone next granted ++ uncovered (moved by gone next granted) (left_by by gone next waiting)) refl refl in
      let requests = requests_left granted waiting sound (λ asked. not (same_spot asked.spot gone)) (elsewhere gone waiting) refl in
      served (moved by gone next granted ++ uncovered (moved by gone next granted) (left_by by gone next waiting)) (elsewhere gone waiting) locks.0 requests.0 locks.1 requests.1

  pub all_meet_inserters : AreFree granted waiting
      → AllMeet (inserters next waiting) (after_removal by gone next granted waiting).granted (after_removal by gone next granted waiting).waiting
  all_meet_inserters free cycle stands =
      elim (removal_closes by gone next granted waiting sound.single cycle stands) [ inl stood ↦ absurd (free cycle stood) | inr meets ↦ meets ]
