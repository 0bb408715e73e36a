-- How what is known of a disk goes on over calls that write nothing.
use Rattle.std.proofs.Common.{◌≡◌, ⊎_elim, ℕ, ◌+◌, ◌<◌, ◌≤◌, Bool, true, Some, refl, sym, ◌∙◌, ap, arith}
use Rattle.std.proofs.lemmas.Bool.{cases_lt}
use Rattle.store_api.specs.declared.disk.Area.{Area}
use Rattle.store_api.specs.declared.disk.Area.TheVariants.{Log, Double, Pages}
use Rattle.store_api.specs.Areas.{Contents, State, Looked, Within}
use Rattle.store_api.specs.Causes.{next_count}
use Rattle.store_api.specs.Past.{Past, Ticks, Now, Goes}
use Rattle.store_api.specs.Looks.{HoldsSame, HoldsAs, Looks, LeavesState}

ticked : (before now : ℕ) → now ≡ next_count before → Ticks now → Ticks before × (now ≡ before + 1)
ticked before now is ticks = (omega arith, omega arith)

-- ---- what is on the disk

same_contents : (old new : Contents) → new ≡ old → HoldsSame old new
same_contents old new same = (ap (λ (c : Contents). c.synced) same, ap (λ (c : Contents). c.writes) same)

look_holds : (area : Area) (ok : Bool) (b s : State) → Within area (Looked ok) b s → HoldsAs b s
look_holds Log ok b s within = record {
  log = (within.here.synced, within.here.writes);
  double = same_contents b.double s.double (within.elsewhere Double (λ same. cc));
  pages = same_contents b.pages s.pages (within.elsewhere Pages (λ same. cc));
}
look_holds Double ok b s within = record {
  log = same_contents b.log s.log (within.elsewhere Log (λ same. cc));
  double = (within.here.synced, within.here.writes);
  pages = same_contents b.pages s.pages (within.elsewhere Pages (λ same. cc));
}
look_holds Pages ok b s within = record {
  log = same_contents b.log s.log (within.elsewhere Log (λ same. cc));
  double = same_contents b.double s.double (within.elsewhere Double (λ same. cc));
  pages = (within.here.synced, within.here.writes);
}

same_then : (a b c : Contents) → HoldsSame a b → HoldsSame b c → HoldsSame a c
same_then a b c one other = (other.0 ∙ one.0, other.1 ∙ one.1)

holds_then : (a b c : State) → HoldsAs a b → HoldsAs b c → HoldsAs a c
holds_then a b c one other = record {
  log = same_then a.log b.log c.log one.log other.log;
  double = same_then a.double b.double c.double one.double other.double;
  pages = same_then a.pages b.pages c.pages one.pages other.pages;
}

pub looks_none : (past : Past) → Looks past past
looks_none past = record {
  later = omega arith;
  kept = λ m ticks le. refl;
  each = λ m s ticks low high is.
      let now : m ≡ past.moment = omega (arith, low, high) in
      (s, sym (ap past.state_at now) ∙ is, record { log = (refl, refl); double = (refl, refl); pages = (refl, refl) });
}

pub looks_goes : (area : Area) (ok : Bool) (old mid new : Past) → Looks old mid → Goes (Within area (Looked ok)) mid new → Looks old new
looks_goes area ok old mid new so_far goes = record {
  later = omega (arith, so_far.later, goes.later);
  kept = λ m ticks le.
      let went = ticked mid.moment new.moment goes.clock ticks in
      goes.kept m went.0 (omega (arith, so_far.later, le)) ∙ so_far.kept m went.0 le;
  each = λ m s ticks low high is.
      let went = ticked mid.moment new.moment goes.clock ticks in
      ⊎_elim
      (λ (late : mid.moment < m).
      let now : m ≡ new.moment = omega (arith, went.1, late, high) in
      let from = goes.now s went.0 (sym (ap new.state_at now) ∙ is) in
      let first = so_far.each mid.moment from.0 went.0 so_far.later (omega arith) from.1 in
      (first.0, first.1, holds_then first.0 from.0 s first.2 (look_holds area ok from.0 s from.2)))
      (λ (early : m ≤ mid.moment). so_far.each m s went.0 low early (sym (goes.kept m went.0 early) ∙ is))
      (cases_lt mid.moment m);
}

pub looks_join : (old mid new : Past) → Looks old mid → Looks mid new → Looks old new
looks_join old mid new one other = record {
  later = omega (arith, one.later, other.later);
  kept = λ m ticks le. other.kept m ticks (omega (arith, one.later, le)) ∙ one.kept m (omega (arith, other.later, ticks)) le;
  each = λ m s ticks low high is.
      let ticks_mid : Ticks mid.moment = omega (arith, other.later, ticks) in
      ⊎_elim
      (λ (late : mid.moment < m).
      let from = other.each m s ticks (omega (arith, late)) high is in
      let first = one.each mid.moment from.0 ticks_mid one.later (omega arith) from.1 in
      (first.0, first.1, holds_then first.0 from.0 s first.2 from.2))
      (λ (early : m ≤ mid.moment). one.each m s ticks_mid low early (sym (other.kept m ticks early) ∙ is))
      (cases_lt mid.moment m);
}

-- ---- what a read gives

same_look : (old new : Contents) → Looked true old new → new ≡ old
same_look old new look = λ i. record { seen = look.seen refl i; synced = look.synced i; writes = look.writes i }

look_stays : (area : Area) (b s : State) → Within area (Looked true) b s → s ≡ b
look_stays Log b s within =
    let log = same_look b.log s.log within.here in
    let double = within.elsewhere Double (λ same. cc) in
    let pages = within.elsewhere Pages (λ same. cc) in
    λ i. record { log = log i; double = double i; pages = pages i }
look_stays Double b s within =
    let double = same_look b.double s.double within.here in
    let log = within.elsewhere Log (λ same. cc) in
    let pages = within.elsewhere Pages (λ same. cc) in
    λ i. record { log = log i; double = double i; pages = pages i }
look_stays Pages b s within =
    let pages = same_look b.pages s.pages within.here in
    let double = within.elsewhere Double (λ same. cc) in
    let log = within.elsewhere Log (λ same. cc) in
    λ i. record { log = log i; double = double i; pages = pages i }

pub stays_goes : (area : Area) (old new : Past) → Goes (Within area (Looked true)) old new → LeavesState old new
stays_goes area old new goes = λ s ticks is.
    let went = ticked old.moment new.moment goes.clock ticks in
    let from = goes.now s went.0 is in
    (went.0, from.1 ∙ ap Some (sym (look_stays area from.0 s from.2)))

pub stays_join : (old mid new : Past) → LeavesState old mid → LeavesState mid new → LeavesState old new
stays_join old mid new one other = λ s ticks is. let then = other s ticks is in one s then.0 then.1

pub Now-stays : (P : State → Type 0) (old new : Past) → LeavesState old new → Now P old → Now P new
Now-stays P old new stays known = λ s ticks is. let then = stays s ticks is in known s then.0 then.1

-- ---- one call, and two

pub looks_once : (area : Area) (ok : Bool) (p0 p1 : Past) → Goes (Within area (Looked ok)) p0 p1 → Looks p0 p1
looks_once area ok p0 p1 goes = looks_goes area ok p0 p0 p1 (looks_none p0) goes

pub looks_twice : (area : Area) (one two : Bool) (p0 p1 p2 : Past) → Goes (Within area (Looked one)) p0 p1 → Goes (Within area (Looked two)) p1 p2 → Looks p0 p2
looks_twice area one two p0 p1 p2 first second = looks_goes area two p0 p1 p2 (looks_once area one p0 p1 first) second
