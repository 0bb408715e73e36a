-- How the areas beside the log stay as they are from call to call.
use Rattle.std.proofs.Common.{◌≡◌, ⊎_elim, ℕ, ◌+◌, ◌<◌, ◌≤◌, refl, sym, ◌∙◌, ap, arith}
use Rattle.std.proofs.lemmas.Bool.{cases_lt}
use Rattle.store_api.specs.declared.disk.Area.TheVariants.{Log, Double, Pages}
use Rattle.store_api.specs.Areas.{Contents, Within}
use Rattle.store_api.specs.Past.{Past, Ticks, Goes}
use Rattle.store_api.specs.Causes.{next_count}
use Rattle.redo_log.specs.Elsewhere.{LeavesBeside}

ticked : (before now : ℕ) → now ≡ next_count before → Ticks now → Ticks before × (now ≡ before + 1)
ticked before now is ticks = (omega arith, omega arith)

-- before the first call
pub leaves_none : (past : Past) → LeavesBeside past past
leaves_none past = record {
  later = omega arith;
  kept = λ m ticks le i. past.state_at m;
  each = λ m s ticks low high is.
      let now : m ≡ past.moment = omega (arith, low, high) in
      (s, sym (ap past.state_at now) ∙ is, record { double = refl; pages = refl });
}

-- one call more, of the log's area
pub leaves_one : (step : Contents → Contents → Type 0) (old mid new : Past) → LeavesBeside old mid → Goes (Within Log step) mid new → LeavesBeside old new
leaves_one step old mid new so_far goes = record {
  later = omega (arith, so_far.later, goes.later);
  kept = λ m ticks le.
      let went = ticked mid.moment new.moment goes.clock ticks in
      goes.kept m went.0 (omega (arith, so_far.later, le)) ∙ so_far.kept m went.0 le;
  each = λ m s ticks low high is.
      let went = ticked mid.moment new.moment goes.clock ticks in
      ⊎_elim
      (λ (new_one : mid.moment < m).
      let now : m ≡ new.moment = omega (arith, went.1) in
      let from = goes.now s went.0 (sym (ap new.state_at now) ∙ is) in
      let first = so_far.each mid.moment from.0 went.0 so_far.later (omega arith) from.1 in (
        first.0,
        first.1,
        record {
          double = from.2.elsewhere Double (λ same. cc) ∙ first.2.double;
          pages = from.2.elsewhere Pages (λ same. cc) ∙ first.2.pages;
        },
      ))
      (λ (le : m ≤ mid.moment). so_far.each m s went.0 low le (sym (goes.kept m went.0 le) ∙ is))
      (cases_lt mid.moment m);
}

-- a call of the log's area
pub leaves_call : (step : Contents → Contents → Type 0) (old new : Past) → Goes (Within Log step) old new → LeavesBeside old new
leaves_call step old new goes = leaves_one step old old new (leaves_none old) goes
