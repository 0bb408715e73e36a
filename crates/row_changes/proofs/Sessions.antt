-- Lists of sessions in which one is another now.
use Rattle.std.proofs.Common.{◌≡◌, ◌≢◌, ℕ, zero, suc, List, [], ◌∷◌, Option, Some, None, refl, ap}
use Rattle.std.specs.Prelude.{slice_get, slice_set}
use Rattle.entries.specs.Index.{AreKept}
use Rattle.row_versions.specs.Versions.{Versions, Stays}
use Rattle.world.specs.State.{WorldState, Session, IsSession}
use Rattle.row_changes.specs.{Asides.StepsAside, Pairs.RowsStay}

pub set_here : {X : Type 0} (xs : List X) (i : ℕ) (x a : X) → slice_get xs i ≡ Some x → slice_get (slice_set xs i a) i ≡ Some a
set_here [] i x a there = absurd (cc)
set_here (y ∷ xs) zero x a there = refl
set_here (y ∷ xs) (suc i) x a there = set_here xs i x a there

pub set_other : {X : Type 0} (xs : List X) (i j : ℕ) (a : X) → j ≢ i → slice_get (slice_set xs i a) j ≡ slice_get xs j
set_other [] i j a differs = refl
set_other (y ∷ xs) zero zero a differs = absurd (differs refl)
set_other (y ∷ xs) zero (suc j) a differs = refl
set_other (y ∷ xs) (suc i) zero a differs = refl
set_other (y ∷ xs) (suc i) (suc j) a differs = set_other xs i j a (λ e. differs (ap suc e))

-- what is found is one
pub one_found : {X : Type 0} {found : Option X} (a b : X) → found ≡ Some a → found ≡ Some b → a ≡ b
one_found a b is also = cc

pub one_session : (state : WorldState) (s : ℕ) (a b : Session) → IsSession s a state → IsSession s b state → a ≡ b
one_session state s a b first second = one_found a b first second

-- what was told stays
pub same_pairs : (pairs : Option (List (List ℕ × List ℕ))) → AreKept pairs pairs
same_pairs None = record {}
same_pairs (Some pairs) = refl

pub same_versions : (versions : Versions) → Stays versions versions
same_versions versions = record { told = λ h. h; kept = λ h. refl }

-- nothing has changed but pairs that are told no longer
abbrev pub aside_of_stay : {s : ℕ} {session : Session} {old new : WorldState} → IsSession s session old → RowsStay old new → StepsAside s old new
aside_of_stay {s} {session} {old} {new} there stay =
    record {
      pairs = stay.pairs;
      places = stay.places;
      versions = stay.versions;
      before = session;
      after = session;
      was = there;
      is = rw stay.rest there;
      readied = record { setting = refl; work = refl; can_reply = refl; can_ack = refl };
      others = λ t differs. rw stay.rest refl;
      count = rw stay.rest refl;
      rest = rw stay.rest refl;
      later = stay.later;
    }
