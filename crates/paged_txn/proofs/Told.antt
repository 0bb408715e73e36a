-- What a look at the disk leaves of what is known of it.
use Rattle.std.proofs.Common.{◌≡◌, ℕ, ◌+◌, ◌-◌, ◌^◌, ◌≤◌, Bool, true, false, cond, List, [], Option, Some, None, refl, sym, ap, ◌∙◌, arith}
use Rattle.std.specs.Prelude.{◌&&◌, nat_lt, is_some}
use Rattle.std.specs.Option.{option_map_or}
use Rattle.std.proofs.lemmas.Bool.{ltb-true, lt-ltb}
use Rattle.store_api.specs.Areas.{State, Within, Looked}
use Rattle.store_api.specs.declared.disk.Area.TheVariants.{Pages}
use Rattle.store_api.specs.Causes.{Rose}
use Rattle.store_api.specs.Past.{Past, Ticks, Now}
use Rattle.buffer_pool.specs.Fixing.{page_in}
use Rattle.paged_txn.specs.View.{is_good, place_in, tells, is_known, faults_of}
use Rattle.paged_txn.specs.Bringing.{Looks}

and_left : (a b : Bool) → (a && b) ≡ true → a ≡ true
and_left true b k = refl
and_left false b k = cc

and_right : (a b : Bool) → (a && b) ≡ true → b ≡ true
and_right true b k = k
and_right false b k = cc

both : (a b : Bool) → a ≡ true → b ≡ true → (a && b) ≡ true
both true b p q = q
both false b p q = cc

-- what a telling disk holds
pub record Told (past : Past) : Type 0 where
  pub ticks : Ticks past.moment
  pub state : State
  pub is : past.state_at past.moment ≡ Some state

some_of : {A : Type 0} (o : Option A) → is_some o ≡ true → (a : A) × (o ≡ Some a)
some_of None h = absurd cc
some_of (Some a) h = (a, refl)

pub told_of : (past : Past) → tells past ≡ true → Told past
unfolding tells
told_of past t =
    let some = some_of (past.state_at past.moment) (and_right (nat_lt past.moment (2 ^ 64 - 1)) (is_some (past.state_at past.moment)) t) in
    record {
      ticks = ltb-true past.moment (2 ^ 64 - 1) (and_left (nat_lt past.moment (2 ^ 64 - 1)) (is_some (past.state_at past.moment)) t);
      state = some.0;
      is = some.1;
    }

pub tells_by : (past : Past) (s : State) → Ticks past.moment → past.state_at past.moment ≡ Some s → tells past ≡ true
unfolding tells
tells_by past s ticks is = both (nat_lt past.moment (2 ^ 64 - 1)) (is_some (past.state_at past.moment)) (lt-ltb past.moment (2 ^ 64 - 1) ticks) (ap is_some is)

pub place_is : (past : Past) (s : State) (page : ℕ) → past.state_at past.moment ≡ Some s → place_in past page ≡ page_in page s.pages.seen
unfolding place_in
place_is past s page is = ap (λ o. option_map_or (λ (t : State). page_in page t.pages.seen) o []) is

-- what was told of the place holds of what is read there
pub read_is : (past : Past) (page : ℕ) (bytes : List ℕ) → tells past ≡ true → Now (λ s. bytes ≡ page_in page s.pages.seen) past → bytes ≡ place_in past page
read_is past page bytes t read = let told = told_of past t in read told.state told.ticks told.is ∙ sym (place_is past told.state page told.is)

pub refused_is : (past : Past) (page : ℕ) → tells past ≡ true → Now (λ s. is_good page (page_in page s.pages.seen) ≡ false) past
    → is_good page (place_in past page) ≡ false
refused_is past page t read =
    let told = told_of past t in
    ap (is_good page) (place_is past told.state page told.is) ∙ read told.state told.ticks told.is

pub known_told : (told : Bool) (past : Past) → is_known told past ≡ true → told ≡ true
known_told told past k = and_left told (tells past) k

pub known_tells : (told : Bool) (past : Past) → is_known told past ≡ true → tells past ≡ true
known_tells told past k = and_right told (tells past) k

pub known_by : (told : Bool) (past : Past) → told ≡ true → tells past ≡ true → is_known told past ≡ true
known_by told past a b = both told (tells past) a b

-- ---- after a look

module _ (ok : Bool) (before now : Past) (looks : Looks ok before now) where
  seen_before : (t : Told now) → (b : State) × (before.state_at before.moment ≡ Some b) × Within Pages (Looked ok) b t.state
  seen_before t = looks.now t.state (omega (arith, t.ticks, looks.later)) t.is

  pub told_before : tells now ≡ true → tells before ≡ true
  told_before k =
      let t = told_of now k in
      let b = seen_before t in
      tells_by before b.0 (omega (arith, t.ticks, looks.later)) b.1

  pub same_places : ok ≡ true → tells now ≡ true → (page : ℕ) → place_in now page ≡ place_in before page
  same_places fine k page =
      let t = told_of now k in
      let b = seen_before t in
      place_is now t.state page t.is ∙ ap (page_in page) (b.2.here.seen fine) ∙ sym (place_is before b.0 page b.1)

-- ---- faults

pub faults_rise : (before now : Past) → (tells now ≡ true → tells before ≡ true) → before.faults ≤ now.faults → faults_of before ≤ faults_of now
faults_rise before now was later = go (tells before) refl (tells now) refl where
  go : (a : Bool) → tells before ≡ a → (b : Bool) → tells now ≡ b → before.faults + cond a 0 1 ≤ now.faults + cond b 0 1
  go true p true q = omega (arith, later)
  go true p false q = omega (arith, later)
  go false p false q = omega (arith, later)
  go false p true q = let clash : false ≡ true = sym p ∙ was q in absurd cc

-- a fault of the disk is one
pub rose_too : (before now : Past) → (tells now ≡ true → tells before ≡ true) → Rose before.faults now.faults → Rose (faults_of before) (faults_of now)
rose_too before now was rose = go (tells before) refl (tells now) refl where
  go : (a : Bool) → tells before ≡ a → (b : Bool) → tells now ≡ b → Rose (before.faults + cond a 0 1) (now.faults + cond b 0 1)
  go true p true q = omega (arith, rose)
  go true p false q = omega (arith, rose)
  go false p false q = omega (arith, rose)
  go false p true q = let clash : false ≡ true = sym p ∙ was q in absurd cc

-- and so is it that the disk tells no more
pub silent_rises : (before now : Past) → before.faults ≤ now.faults → tells before ≡ true → tells now ≡ false → Rose (faults_of before) (faults_of now)
silent_rises before now later p q =
    let a : faults_of before ≡ before.faults + 0 = ap (λ b. before.faults + cond b 0 1) p in
    let b : faults_of now ≡ now.faults + 1 = ap (λ t. now.faults + cond t 0 1) q in
    omega (arith, a, b, later)

-- pages that were known are known still, as long as nothing fails
pub stays_known : (told : Bool) (before now : Past) → before.faults ≤ now.faults → is_known told before ≡ true
    → (Rose (faults_of before) (faults_of now) → ⊥) → is_known told now ≡ true
stays_known told before now later k fine = go (tells now) refl where
  go : (b : Bool) → tells now ≡ b → is_known told now ≡ true
  go true q = known_by told now (known_told told before k) q
  go false q = absurd (fine (silent_rises before now later (known_tells told before k) q))
