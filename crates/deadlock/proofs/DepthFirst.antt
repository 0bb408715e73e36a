-- What a depth-first search keeps, over any relation of who waits for whom.
use Rattle.std.specs.Prelude.{◌≡◌, ◌≢◌, ℕ, ◌+◌, ◌<◌, ◌==◌, ◌||◌, true, false, List, [], ◌∷◌, ◌++◌, length, nat_eq}
use Rattle.std.specs.List.{IsDistinct, AllByRecursion}
use Rattle.std.proofs.Common.{arith, sym, ◌∙◌, refl, inl, inr, subst, get_or, length-append}
use Rattle.std.proofs.Math.ListN.{get_or-append}
use Rattle.std.proofs.Math.Seq.{get_or-append_seam}
use Rattle.std.proofs.lemmas.Bool.{cases_Bool, cases_lt, eqb-true, eqb-false, eq-eqb, ne_eqb, or_parts, or_from, true≢false, both_ways}
use Rattle.std.proofs.lemmas.List.Folds.{list_any-append}
use Rattle.deadlock.specs.Steps.{is_among, without, is_wanted}
use Rattle.deadlock.proofs.Lists.{is_among-without, is_among-without_same, is_among-without_false}

-- the path: those that wait for one another from the beginning on, down to the one that is looked at
abbrev pub path_to : List ℕ → ℕ → List ℕ
path_to above at = above ++ at ∷ []

pub record IsSearching (Waits : ℕ → ℕ → Type 0) (txn : ℕ) (unvisited above : List ℕ) (at : ℕ) : Type 0 where
  pub begins : get_or (path_to above at) 0 0 ≡ txn
  pub linked : (k : ℕ) → k + 1 < length (path_to above at) → Waits (get_or (path_to above at) k 0) (get_or (path_to above at) (k + 1) 0)
  pub apart : IsDistinct nat_eq (path_to above at)
  pub visited : AllByRecursion (λ v. is_among v unvisited ≡ false) (path_to above at)
  pub start_visited : is_among txn unvisited ≡ false
  -- one that was left waits for nobody that is wanted
  pub finished : (v h : ℕ) → is_among v unvisited ≡ false → is_among v (path_to above at) ≡ false → Waits v h → is_wanted txn unvisited h ≡ false

-- only those on the list wait, so that no other has an edge
pub search_begun : (Waits : ℕ → ℕ → Type 0) (txn : ℕ) (waiting : List ℕ) → ((v h : ℕ) → Waits v h → is_among v waiting ≡ true) → IsSearching Waits txn (without txn waiting) [] txn
unfolding IsDistinct
search_begun Waits txn waiting only = record {
  begins = refl;
  linked = λ k h. absurd (omega arith);
  apart = (tt, tt);
  visited = (is_among-without_same txn waiting, tt);
  start_visited = is_among-without_same txn waiting;
  finished = λ v h absent other waits.
      let ne : v ≢ txn = λ e. true≢false (sym (eq-eqb txn v (sym e)) ∙ (or_parts _ _ other).0) in
      absurd (true≢false (sym (only v h waits) ∙ sym (is_among-without v txn ne waiting) ∙ absent));
}

all-push : (P : ℕ → Type 0) (xs : List ℕ) (y : ℕ) → AllByRecursion P xs → P y → AllByRecursion P (xs ++ y ∷ [])
all-push P [] y all here = (here, tt)
all-push P (x ∷ xs) y all here = (all.0, all-push P xs y all.1 here)

all-front : (P : ℕ → Type 0) (xs ys : List ℕ) → AllByRecursion P (xs ++ ys) → AllByRecursion P xs
all-front P [] ys all = tt
all-front P (x ∷ xs) ys all = (all.0, all-front P xs ys all.1)

all-weaker : (P Q : ℕ → Type 0) → ((x : ℕ) → P x → Q x) → (xs : List ℕ) → AllByRecursion P xs → AllByRecursion Q xs
all-weaker P Q to [] all = tt
all-weaker P Q to (x ∷ xs) all = (to x all.0, all-weaker P Q to xs all.1)

distinct-push : (xs : List ℕ) (y : ℕ) → IsDistinct nat_eq xs → AllByRecursion (λ x. nat_eq x y ≡ false) xs → IsDistinct nat_eq (xs ++ y ∷ [])
unfolding IsDistinct
distinct-push [] y _ _ = (tt, tt)
distinct-push (x ∷ xs) y apart other = (all-push (λ z. nat_eq x z ≡ false) xs y apart.0 other.0, distinct-push xs y apart.1 other.1)

distinct-front : (xs ys : List ℕ) → IsDistinct nat_eq (xs ++ ys) → IsDistinct nat_eq xs
unfolding IsDistinct
distinct-front [] ys _ = tt
distinct-front (x ∷ xs) ys apart = (all-front (λ z. nat_eq x z ≡ false) xs ys apart.0, distinct-front xs ys apart.1)

-- one that is among neither the path nor its end
apart_from_path : (v h : ℕ) (path : List ℕ) → is_among v path ≡ false → v ≢ h → is_among v (path ++ h ∷ []) ≡ false
apart_from_path v h path absent ne =
    list_any-append (λ other. other == v) path (h ∷ []) ∙ or_from (is_among v path) ((h == v) || false) absent (or_from (h == v) false (ne_eqb h v (λ e. ne (sym e))) refl)

on_path_parts : (v h : ℕ) (path : List ℕ) → is_among v (path ++ h ∷ []) ≡ false → (is_among v path ≡ false) × (v ≢ h)
on_path_parts v h path absent =
    let parts : (is_among v path ≡ false) × (((h == v) || false) ≡ false) = or_parts (is_among v path) ((h == v) || false) (sym (list_any-append (λ other. other == v) path (h ∷ [])) ∙ absent) in
    (parts.0, λ e. both_ways (h == v) (or_parts (h == v) false parts.1).0 (eq-eqb h v (sym e)))

wanted_less : (txn : ℕ) (unvisited : List ℕ) (h holder : ℕ) → is_wanted txn unvisited holder ≡ false → is_wanted txn (without h unvisited) holder ≡ false
wanted_less txn unvisited h holder unwanted =
    or_from (holder == txn) (is_among holder (without h unvisited)) (or_parts (holder == txn) (is_among holder unvisited) unwanted).0 (is_among-without_false holder h unvisited (or_parts (holder == txn) (is_among holder unvisited) unwanted).1)

pub length-path : (above : List ℕ) (at : ℕ) → length (path_to above at) ≡ length above + 1
length-path above at = length-append above (at ∷ [])

pub get_or-path_end : (above : List ℕ) (at : ℕ) (k : ℕ) → k ≡ length above → get_or (path_to above at) k 0 ≡ at
get_or-path_end above at k e = subst (λ n. get_or (path_to above at) n 0 ≡ at) (sym e) (get_or-append_seam above at [] 0)

-- the search goes on to a transaction where it has not been
pub search_visits : (Waits : ℕ → ℕ → Type 0) (txn : ℕ) (unvisited above : List ℕ) (at h : ℕ) → IsSearching Waits txn unvisited above at → Waits at h → is_among h unvisited ≡ true → IsSearching Waits txn (without h unvisited) (path_to above at) h
search_visits Waits txn unvisited above at h was waits fresh =
    let P : List ℕ = path_to above at in
    let len : length P ≡ length above + 1 = length-path above at in
    record {
      begins = get_or-append P (h ∷ []) 0 0 (omega (arith, len)) ∙ was.begins;
      linked = λ k below.
          elim (cases_lt (k + 1) (length P)) [
            | inl within ↦
                subst (λ v. Waits v (get_or (path_to P h) (k + 1) 0)) (sym (get_or-append P (h ∷ []) 0 k (omega (arith, within))))
                (subst (λ v. Waits (get_or P k 0) v) (sym (get_or-append P (h ∷ []) 0 (k + 1) within)) (was.linked k within))
            | inr past ↦
                let last : k + 1 ≡ length P = omega (arith, past, below, length-path P h) in
                subst (λ v. Waits v (get_or (path_to P h) (k + 1) 0)) (sym (get_or-append P (h ∷ []) 0 k (omega (arith, last)) ∙ get_or-path_end above at k (omega (arith, last, len))))
                (subst (λ v. Waits at v) (sym (get_or-path_end P h (k + 1) last)) waits)
          ];
      apart = distinct-push P h was.apart (all-weaker (λ v. is_among v unvisited ≡ false) (λ v. nat_eq v h ≡ false) (λ v absent. ne_eqb v h (λ e. both_ways (is_among h unvisited) (subst (λ z. is_among z unvisited ≡ false) e absent) fresh)) P was.visited);
      visited = all-push (λ v. is_among v (without h unvisited) ≡ false) P h (all-weaker (λ v. is_among v unvisited ≡ false) (λ v. is_among v (without h unvisited) ≡ false) (λ v absent. is_among-without_false v h unvisited absent) P was.visited) (is_among-without_same h unvisited);
      start_visited = is_among-without_false txn h unvisited was.start_visited;
      finished = λ v holder absent other waits'.
          let parts : (is_among v P ≡ false) × (v ≢ h) = on_path_parts v h P other in
          wanted_less txn unvisited h holder (was.finished v holder (sym (is_among-without v h parts.1 unvisited) ∙ absent) parts.0 waits');
    }

-- the search goes back, where all that the last one waits for are unwanted
pub search_leaves : (Waits : ℕ → ℕ → Type 0) (txn : ℕ) (unvisited above : List ℕ) (back at : ℕ) → IsSearching Waits txn unvisited (path_to above back) at → ((h : ℕ) → Waits at h → is_wanted txn unvisited h ≡ false) → IsSearching Waits txn unvisited above back
search_leaves Waits txn unvisited above back at was unwanted =
    let P : List ℕ = path_to above back in
    let len : length P ≡ length above + 1 = length-path above back in
    record {
      begins = sym (get_or-append P (at ∷ []) 0 0 (omega (arith, len))) ∙ was.begins;
      linked = λ k within.
          subst (λ v. Waits v (get_or P (k + 1) 0)) (get_or-append P (at ∷ []) 0 k (omega (arith, within)))
          (subst (λ v. Waits (get_or (path_to P at) k 0) v) (get_or-append P (at ∷ []) 0 (k + 1) within) (was.linked k (omega (arith, within, length-path P at))));
      apart = distinct-front P (at ∷ []) was.apart;
      visited = all-front (λ v. is_among v unvisited ≡ false) P (at ∷ []) was.visited;
      start_visited = was.start_visited;
      finished = λ v h absent other waits.
          elim (cases_Bool (v == at)) [
            | inl e ↦ unwanted h (subst (λ z. Waits z h) (eqb-true v at e) waits)
            | inr e ↦ was.finished v h absent (apart_from_path v at P other (eqb-false v at e)) waits
          ];
    }

-- where no more is wanted and nothing is above, a transaction where the search has been waits only for such ones
pub search_ended : (Waits : ℕ → ℕ → Type 0) (txn : ℕ) (unvisited : List ℕ) (at : ℕ) → IsSearching Waits txn unvisited [] at → ((h : ℕ) → Waits at h → is_wanted txn unvisited h ≡ false) → (v h : ℕ) → is_among v unvisited ≡ false → Waits v h → is_wanted txn unvisited h ≡ false
search_ended Waits txn unvisited at was unwanted v h absent waits =
    elim (cases_Bool (v == at)) [
      | inl e ↦ unwanted h (subst (λ z. Waits z h) (eqb-true v at e) waits)
      | inr e ↦ was.finished v h absent (apart_from_path v at [] refl (eqb-false v at e)) waits
    ]
