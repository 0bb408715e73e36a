-- Calls that look at some pages and change nothing, one after another.
use Rattle.std.proofs.Common.{◌≡◌, ◌≢◌, ℕ, inl, inr, List, [], ◌∷◌, ◌++◌, ◌≤◌, length, true, refl, sym, ap, ◌∙◌, subst, arith}
use Rattle.std.specs.Prelude.{Result, Ok, Err}
use Rattle.store_api.specs.Causes.{Rose}
use Rattle.store_api.specs.declared.visits.Visit.{Visit}
use Rattle.store_api.specs.declared.visits.Visit.TheVariants.{Failed, Again, Bad}
use Rattle.mtr.specs.Seen.{MtrState, is_in, visit, visit_all, claim, AreAmong, AreDistinct, Visits, IsShut}
use Rattle.mtr.specs.Calls.{Goes, Puts, SamePages, Looks, Explains, Asks, Consults, IsReason}
use Rattle.mtr.proofs.Claims.{claim_all}

rose_later : (a b c : ℕ) → a ≤ b → Rose b c → Rose a c
rose_later a b c first rose = omega arith

rose_sooner : (a b c : ℕ) → b ≤ c → Rose a b → Rose a c
rose_sooner a b c next rose = omega arith

pub goes_then : (a b c : MtrState) → Goes a b → Goes b c → Goes a c
goes_then a b c first next = record {
  told = λ told. first.told (next.told told);
  stays = λ told good. next.stays (first.stays told (λ rose. good (rose_sooner a.faults b.faults c.faults next.faults rose))) (λ rose. good (rose_later a.faults b.faults c.faults first.faults rose));
  faults = omega (arith, first.faults, next.faults);
  whole = next.whole ∙ first.whole;
}

-- bytes that are put on another page than page 0 leave its count
pub put_goes : (page at : ℕ) (bytes : List ℕ) (old new : MtrState) → page ≢ 0 → Puts page at bytes old new → Goes old new
put_goes page at bytes old new apart puts = record { told = puts.keeps.told; stays = puts.stays (λ first. absurd (apart first)); faults = puts.keeps.faults; whole = puts.keeps.whole }

pub same_then : (a b c : MtrState) → SamePages a b → SamePages b c → SamePages a c
same_then a b c first next = record { standing = next.standing ∙ first.standing; seen = next.seen ∙ first.seen; fault = next.fault ∙ first.fault }

among_then : (asked more pages : List ℕ) → AreAmong asked pages → AreAmong more pages → AreAmong (asked ++ more) pages
among_then [] more pages first next = next
among_then (page ∷ asked) more pages first next = (first.0, among_then asked more pages first.1 next)

all_then : (asked more v : List ℕ) → visit_all (asked ++ more) v ≡ visit_all more (visit_all asked v)
all_then [] more v = refl
all_then (page ∷ asked) more v = all_then asked more (visit page v)

pub visits_then : (pages : List ℕ) (a b c : MtrState) → Visits pages a b → Visits pages b c → Visits pages a c
visits_then pages a b c first next = record {
  asked = first.asked ++ next.asked;
  known = among_then first.asked next.asked pages first.known next.known;
  visited_is = next.visited_is ∙ ap (visit_all next.asked) first.visited_is ∙ sym (all_then first.asked next.asked a.visited);
}

pub consults_then : (pages : List ℕ) (a b c : MtrState) → Consults pages a b → Consults pages b c → Consults pages a c
consults_then pages a b c first next = record {
  goes = goes_then a b c first.goes next.goes;
  same = λ told. same_then a b c (first.same (next.goes.told told)) (next.same told);
  visits = visits_then pages a b c first.visits next.visits;
  spare = next.spare ∙ first.spare;
}

pub visits_one : (pages : List ℕ) (page : ℕ) (old new : MtrState) → is_in page pages ≡ true → new.visited ≡ visit page old.visited → Visits pages old new
visits_one pages page old new known is = record { asked = page ∷ []; known = (known, tt); visited_is = is }

pub visits_none : (pages : List ℕ) (old new : MtrState) → new.visited ≡ old.visited → Visits pages old new
visits_none pages old new is = record { asked = []; known = tt; visited_is = is }

-- without any call
pub consults_none : (pages : List ℕ) (s : MtrState) → Consults pages s s
consults_none pages s = record {
  goes = record { told = λ told. told; stays = λ told good. told; faults = omega arith; whole = refl };
  same = λ told. record { standing = refl; seen = refl; fault = refl };
  visits = visits_none pages s s refl;
  spare = refl;
}

pub consults_shown : (pages : List ℕ) (page : ℕ) (old new : MtrState) → is_in page pages ≡ true → Looks (visit page old.visited) old new → Consults pages old new
consults_shown pages page old new known looks = record { goes = looks.goes; same = looks.pages; visits = visits_one pages page old new known looks.visited_is; spare = looks.spare }

pub consults_refused : (pages : List ℕ) (old new : MtrState) → Looks old.visited old new → Consults pages old new
consults_refused pages old new looks = record { goes = looks.goes; same = looks.pages; visits = visits_none pages old new looks.visited_is; spare = looks.spare }

-- asking for one of the pages
pub consults_asked : {T : Type 0} (pages : List ℕ) (page : ℕ) (old new : MtrState) (result : Result T Visit) → is_in page pages ≡ true → Asks page old result new → Consults pages old new
consults_asked pages page old new (Ok shown) known asks = consults_shown pages page old new known asks
consults_asked pages page old new (Err why) known asks = consults_refused pages old new asks.0

pub claim_left : (pages : List ℕ) (old new : MtrState) → AreDistinct pages → Visits pages old new → claim pages new.visited ≡ claim pages old.visited
claim_left pages old new distinct visits = ap (claim pages) visits.visited_is ∙ claim_all pages visits.asked old.visited distinct visits.known

-- ---- reasons

pub reason_asked : (pages : List ℕ) (Breaks : ℕ → ℕ → (ℕ → List ℕ) → Type 0) (page : ℕ) (old new : MtrState) (why : Visit) → is_in page pages ≡ true → Looks old.visited old new → Explains page old new why → IsReason pages Breaks old new why
reason_asked pages Breaks page old new Failed known looks rose = rose
reason_asked pages Breaks page old new Again known looks shut = (page, known, subst (IsShut page) (sym shut.1) shut.0)
reason_asked pages Breaks page old new (Bad number rule) known looks bad = (subst (λ (n : ℕ). is_in n pages ≡ true) (sym bad.0) known, λ told. inl (ap old.fault bad.0 ∙ bad.1 (looks.goes.told told)))

pub reason_later : (pages : List ℕ) (Breaks : ℕ → ℕ → (ℕ → List ℕ) → Type 0) (old between new : MtrState) (why : Visit) → Consults pages old between → Goes between new → IsReason pages Breaks between new why → IsReason pages Breaks old new why
reason_later pages Breaks old between new Failed looked goes rose = rose_later old.faults between.faults new.faults looked.goes.faults rose
reason_later pages Breaks old between new Again looked goes shut = shut
reason_later pages Breaks old between new (Bad number rule) looked goes bad = (
  bad.0,
  λ told.
      let same = looked.same (goes.told told) in
      elim (bad.1 told) [
        | inl fault ↦ inl (sym (ap (λ (f : ℕ → _). f number) same.fault) ∙ fault)
        | inr broken ↦ inr (subst (Breaks number rule) same.seen broken)
      ],
)
