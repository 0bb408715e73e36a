-- What is owed to a session once it has changed.
use Rattle.std.proofs.Common.{◌≡◌, ℕ, ◌+◌, ◌-◌, ◌<◌, ◌≤◌, ◌^◌, Bool, true, false, List, [], ◌∷◌, length, Option, None, Some, refl, ap, arith}
use Rattle.std.specs.Prelude.{option_map}
use Rattle.sql_history.specs.Settings.{at_end}
use Rattle.world.specs.State.{Work, Session, txn_of}
use Rattle.world.specs.Sessions.{work_with_id}
use Rattle.std.proofs.lemmas.List.Sums.{sum_by-cons}
use Rattle.world_parts.specs.Owed.{bit, owed_by_work, owed_of, puts_of, puts_of_all}
use Rattle.world_parts.specs.Rooms.{working}

pub bit_le : (weight : ℕ) (flag : Bool) → bit weight flag ≤ weight
bit_le weight true = omega arith
bit_le weight false = omega arith

-- a transaction that stays open is the same
pub same_txn : (session : Session) (change : Work → Work) → ((work : Work) → (change work).txn ≡ work.txn)
    → txn_of (option_map change session.work) ≡ txn_of session.work
same_txn session change same = elim session.work as (λ w. txn_of (option_map change w) ≡ txn_of w) [ None ↦ refl | Some work ↦ ap Some (same work) ]

pub same_owed : (work : Option Work) (change : Work → Work) → ((w : Work) → ((change w).own ≡ w.own) × ((change w).can_end ≡ w.can_end))
    → owed_by_work (option_map change work) ≡ owed_by_work work
same_owed None change same = refl
same_owed (Some work) change same = rw ((same work).0, (same work).1) refl

pub same_owed_id : (work : Option Work) (id : ℕ) → owed_by_work (work_with_id id work) ≡ owed_by_work work
same_owed_id None id = refl
same_owed_id (Some work) id = refl

pub same_txn_id : (work : Option Work) (id : ℕ) → txn_of (work_with_id id work) ≡ txn_of work
same_txn_id None id = refl
same_txn_id (Some work) id = refl

owed_open : (work : Option Work) (w : Work) → work ≡ Some w → owed_by_work work ≡ w.own + bit 2 w.can_end
owed_open work w is = rw is refl

changed_open : (work : Option Work) (w : Work) (change : Work → Work) → work ≡ Some w
    → owed_by_work (option_map change work) ≡ (change w).own + bit 2 (change w).can_end
changed_open work w change is = rw is refl

pub owes_begun : (session : Session) (work : Work) → session.work ≡ Some work
    → owed_of (working (λ w. record w { can_end = true }) (record session { can_begin = false })) + bit 3 session.can_begin ≤ owed_of session + 2
owes_begun session work is =
    omega (arith, owed_open session.work work is, changed_open session.work work (λ w. record w { can_end = true }) is, bit_le 2 work.can_end)

pub owes_changed : (session : Session) (work : Work) → session.work ≡ Some work
    → owed_of (working (λ w. record w { own = w.own + 1 }) (record session { can_change = false })) + bit 2 session.can_change ≡ owed_of session + 1
owes_changed session work is = omega (arith, owed_open session.work work is, changed_open session.work work (λ w. record w { own = w.own + 1 }) is)

pub owes_made : (session : Session) (work : Work) → session.work ≡ Some work
    → owed_of (working (λ w. record w { own = w.own + 1 }) session) ≡ owed_of session + 1
owes_made session work is = omega (arith, owed_open session.work work is, changed_open session.work work (λ w. record w { own = w.own + 1 }) is)

pub owes_undone : (session : Session) (work : Work) → session.work ≡ Some work → 0 < work.own
    → owed_of (working (λ w. record w { own = w.own - 1 }) session) + 1 ≡ owed_of session
owes_undone session work is some = omega (arith, owed_open session.work work is, changed_open session.work work (λ w. record w { own = w.own - 1 }) is)

pub owes_committed : (session : Session) (work : Work) → session.work ≡ Some work → work.can_end ≡ true
    → owed_of (record session { setting = at_end session.setting; work = None; can_ack = true }) + 1 ≤ owed_of session
owes_committed session work is ends = omega (arith, rw ends at (owed_open session.work work is))

pub owes_rolled_back : (session : Session) (work : Work) → session.work ≡ Some work → work.can_end ≡ true
    → owed_of (record session { setting = at_end session.setting; work = None }) + 1 ≤ owed_of session
owes_rolled_back session work is ends = omega (arith, rw ends at (owed_open session.work work is))

-- some changes stand, so something is owed
pub owes_own : (session : Session) (work : Work) → session.work ≡ Some work → work.own ≤ owed_of session
owes_own session work is = omega (arith, owed_open session.work work is)

pub owes_end : (session : Session) (work : Work) → session.work ≡ Some work → work.can_end ≡ true → 0 < owed_of session
owes_end session work is ends = omega (arith, rw ends at (owed_open session.work work is))

pub owes_count : (session : Session) (work : Work) → session.work ≡ Some work → work.own + bit 2 session.can_change ≤ owed_of session
owes_count session work is = omega (arith, owed_open session.work work is)

-- ---- rows

pub puts_few : (sessions : List Session) → puts_of_all sessions ≤ length sessions
puts_few [] = omega arith
puts_few (session ∷ sessions) = omega (arith, sum_by-cons puts_of session sessions, puts_few sessions, bit_le 1 session.can_change)

pub row_counts : (rows puts : ℕ) (owed : Bool) {sessions : ℕ} → rows + puts < 2 ^ 64 → puts ≤ sessions → sessions ≤ 68 → rows < 2 ^ 63 + bit (2 ^ 63) owed
    → rows + 1 + puts < 2 ^ 64 + bit 1 owed
row_counts rows puts true counted few some small = omega arith
row_counts rows puts false counted few some small = omega arith

pub row_fits : (rows puts : ℕ) (owed : Bool) → rows + puts < 2 ^ 64 → bit 1 owed ≤ puts → rows < 2 ^ 63 + bit (2 ^ 63) owed → rows + 1 < 2 ^ 64
row_fits rows puts true counted some small = omega arith
row_fits rows puts false counted some small = omega arith
