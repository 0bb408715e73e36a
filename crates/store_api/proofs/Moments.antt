-- How what is known of a disk goes on from call to call.
use Rattle.std.proofs.Common.{◌≡◌, ⊎_elim, ℕ, ◌+◌, ◌<◌, ◌≤◌, sym, ◌∙◌, ap, arith}
use Rattle.std.proofs.lemmas.Bool.{cases_lt}
use Rattle.store_api.specs.Areas.{State}
use Rattle.store_api.specs.Causes.{next_count}
use Rattle.store_api.specs.Past.{Past, Ticks, Now, Goes, Meanwhile}

ticked : (before now : ℕ) → now ≡ next_count before → Ticks now → Ticks before × (now ≡ before + 1)
ticked before now is ticks = (omega arith, omega arith)

-- what a call makes of what was known
pub Now-goes : (P Q : State → Type 0) (step : State → State → Type 0) (old new : Past) → Now P old → Goes step old new → ((b s : State) → P b → step b s → Q s) → Now Q new
Now-goes P Q step old new known goes next s ticks is =
    let went = ticked old.moment new.moment goes.clock ticks in
    let from = goes.now s went.0 is in
    next from.0 s (known from.0 went.0 from.1) from.2

pub Now-weaker : (P Q : State → Type 0) (past : Past) → Now P past → ((s : State) → P s → Q s) → Now Q past
Now-weaker P Q past known weaker s ticks is = weaker s (known s ticks is)

-- before the first call
pub Meanwhile-none : (P : State → Type 0) (past : Past) → Meanwhile P past past
Meanwhile-none P past = record {
  later = omega arith;
  kept = λ m ticks le i. past.state_at m;
  each = λ m s ticks low high is. absurd (omega arith);
}

-- one call more, after which the state has P
pub Meanwhile-goes : (P : State → Type 0) (step : State → State → Type 0) (old mid new : Past) → Meanwhile P old mid → Goes step mid new → Now P new → Meanwhile P old new
Meanwhile-goes P step old mid new so_far goes here = record {
  later = omega (arith, so_far.later, goes.later);
  kept = λ m ticks le.
      let went = ticked mid.moment new.moment goes.clock ticks in
      goes.kept m went.0 (omega (arith, so_far.later, le)) ∙ so_far.kept m went.0 le;
  each = λ m s ticks low high is.
      let went = ticked mid.moment new.moment goes.clock ticks in
      ⊎_elim
      (λ (new_one : mid.moment < m).
      let now : m ≡ new.moment = omega (arith, went.1) in
      here s ticks (sym (ap new.state_at now) ∙ is))
      (λ (le : m ≤ mid.moment). so_far.each m s went.0 low le (sym (goes.kept m went.0 le) ∙ is))
      (cases_lt mid.moment m);
}

-- a run of calls, and then another
pub Meanwhile-join : (P : State → Type 0) (old mid new : Past) → Meanwhile P old mid → Meanwhile P mid new → Meanwhile P old new
Meanwhile-join P old mid new first second = record {
  later = omega (arith, first.later, second.later);
  kept = λ m ticks le. second.kept m ticks (omega (arith, first.later, le)) ∙ first.kept m (omega (arith, second.later, ticks)) le;
  each = λ m s ticks low high is.
      ⊎_elim
      (λ (late : mid.moment < m). second.each m s ticks late high is)
      (λ (early : m ≤ mid.moment). first.each m s (omega (arith, second.later, ticks)) low early (sym (second.kept m ticks early) ∙ is))
      (cases_lt mid.moment m);
}

pub Meanwhile-weaker : (P Q : State → Type 0) (old new : Past) → Meanwhile P old new → ((s : State) → P s → Q s) → Meanwhile Q old new
Meanwhile-weaker P Q old new run weaker = record {
  later = run.later;
  kept = run.kept;
  each = λ m s ticks low high is. weaker s (run.each m s ticks low high is);
}
