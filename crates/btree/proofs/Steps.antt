-- One page that is read and given up, and several one after another.
use Rattle.std.proofs.Common.{◌≡◌, ℕ, ◌≤◌, ◌||◌, inl, inr, false, Bool, List, [], ◌∷◌, drop, refl, sym, ◌∙◌, ap, subst, eq-eqb, arith}
use Rattle.std.specs.Prelude.{IsTrue, Result}
use Rattle.store_api.specs.Causes.{Rose}
use Rattle.store_api.specs.declared.visits.Visit.{Visit}
use Rattle.store_api.specs.declared.visits.Visit.TheVariants.{Failed, Again, Bad}
use Rattle.mtr.specs.Seen.{MtrState, IsShown}
use Rattle.mtr.specs.Calls.{Asks, Consults, GivesUp}
use Rattle.mtr.proofs.Consulting.{goes_then, consults_asked}
use Rattle.btree.specs.Reads.{IsIdle, StopsAt, IsHindered}

rose_later : (a b c : ℕ) → a ≤ b → Rose b c → Rose a c
rose_later a b c first rose = omega arith

pub gives_up_then : (a b c : MtrState) → GivesUp a b → GivesUp b c → GivesUp a c
gives_up_then a b c first next = record {
  goes = goes_then a b c first.goes next.goes;
  standing = λ told. next.standing told ∙ first.standing (next.goes.told told);
  seen = λ told. next.seen told ∙ first.standing (next.goes.told told);
  fault = λ told. next.fault told ∙ first.fault (next.goes.told told);
  visited_is = next.visited_is;
  spare = next.spare;
}

-- without any read
pub gives_up_none : (s : MtrState) → IsIdle s → GivesUp s s
gives_up_none s idle = record {
  goes = record { told = λ told. told; stays = λ told good. told; faults = omega arith; whole = refl };
  standing = λ told. refl;
  seen = idle.seen;
  fault = λ told. refl;
  visited_is = idle.visited_is;
  spare = idle.spare;
}

pub idle_after : (old new : MtrState) → GivesUp old new → IsIdle new
idle_after old new given = record {
  seen = λ told. given.seen told ∙ sym (given.standing told);
  visited_is = given.visited_is;
  spare = given.spare;
}

pub asked_one : {T : Type 0} (page : ℕ) (old new : MtrState) (result : Result T Visit) → Asks page old result new → Consults (page ∷ []) old new
asked_one page old new result asks = consults_asked (page ∷ []) page old new result (ap (λ (b : Bool). b || false) (eq-eqb page page refl)) asks

-- what was shown is the page as it stood
pub shown_bytes : (page : ℕ) (bytes : List ℕ) (old between new : MtrState) → IsIdle old → Consults (page ∷ []) old between → GivesUp between new
    → (IsTrue old.told → IsShown (old.seen page) bytes) → IsTrue new.told → drop 20 bytes ≡ drop 20 (old.standing page)
shown_bytes page bytes old between new idle looked given shown told =
    let before = looked.goes.told (given.goes.told told) in
    (shown before).same ∙ ap (λ (f : ℕ → List ℕ). drop 20 (f page)) (idle.seen before)

-- a page that can be read doesn't stop a read by what it says
pub hindered_by : (page : ℕ) (Readable : List ℕ → Type 0) (old between new : MtrState) (why : Visit) → GivesUp old between → GivesUp between new
    → (IsTrue between.told → Readable (old.standing page)) → StopsAt page Readable between new why → IsHindered old new why
hindered_by page Readable old between new Failed first next readable rose = rose_later old.faults between.faults new.faults first.goes.faults rose
hindered_by page Readable old between new Again first next readable shut = (page, shut)
hindered_by page Readable old between new (Bad number rule) first next readable bad = λ told.
    let before = next.goes.told told in
    elim (bad told) [
      | inl fault ↦ sym (ap (λ (f : ℕ → _). f number) (first.fault before)) ∙ fault
      | inr broken ↦ absurd (broken (subst (λ (f : ℕ → List ℕ). Readable (f page)) (sym (first.standing before)) (readable before)))
    ]
