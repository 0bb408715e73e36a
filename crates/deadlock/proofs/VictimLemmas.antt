-- Who goes before whom along a list of edges.
use Rattle.std.specs.Prelude.{◌≡◌, ◌≢◌, ℕ, ◌+◌, ◌<◌, ◌≤◌, Option, Some, List, length, Contains, slice_index_or}
use Rattle.std.proofs.Common.{arith, sym, ◌∙◌, ap, refl, subst, below_more, get_or}
use Rattle.std.proofs.lemmas.List.{get_or-map, length-map, get_or_default}
use Rattle.std.proofs.lemmas.List.Elements.{All-map}
use Rattle.inno_types.specs.declared.lock.Edge.{Edge}
use Rattle.deadlock.specs.declared.rollback.Size.{Size}
use Rattle.deadlock.specs.Victim.{changes_of, GoesBefore, IsVictim}
use Rattle.deadlock.specs.Cycles.{waiters}

goes_before-refl : (sizes : List Size) (asked : Option ℕ) (a : ℕ) → GoesBefore sizes asked a a
goes_before-refl sizes asked a = record { fewest = omega arith; asker = λ _ _. refl; latest = λ _ _. omega arith }

-- the one that goes before the chosen goes before all that the chosen went before
goes_before-trans : (sizes : List Size) (asked : Option ℕ) (a b c : ℕ) → GoesBefore sizes asked a b → GoesBefore sizes asked b c → GoesBefore sizes asked a c
goes_before-trans sizes asked a b c ab bc = record {
  fewest = omega (arith, ab.fewest, bc.fewest);
  asker = λ e asks.
      let ab' : changes_of a sizes ≡ changes_of b sizes = omega (arith, ab.fewest, bc.fewest, e) in
      let bc' : changes_of b sizes ≡ changes_of c sizes = omega (arith, ab.fewest, bc.fewest, e) in
      let same : b ≡ c = bc.asker bc' asks in
      ab.asker ab' (asks ∙ ap Some (sym same)) ∙ same;
  latest = λ e not_a.
      let ab' : changes_of a sizes ≡ changes_of b sizes = omega (arith, ab.fewest, bc.fewest, e) in
      let bc' : changes_of b sizes ≡ changes_of c sizes = omega (arith, ab.fewest, bc.fewest, e) in
      let not_b : asked ≢ Some b = λ asks. not_a (asks ∙ ap Some (sym (ab.asker ab' asks))) in
      omega (arith, ab.latest ab' not_a, bc.latest bc' not_b);
}

-- of the edges before a place: the chosen is a waiter, and goes before all of theirs
pub record IsChosen (edges : List Edge) (sizes : List Size) (asked : Option ℕ) (i chosen : ℕ) : Type 0 where
  pub in_cycle : Contains (waiters edges) chosen
  pub before_seen : (k : ℕ) → k < i → (d : Edge) → GoesBefore sizes asked chosen (slice_index_or edges k d).waiter

is_waiter : (edges : List Edge) (i : ℕ) (e : Edge) → i < length edges → e ≡ get_or edges i e → Contains (waiters edges) e.waiter
is_waiter edges i e h at =
    (i, omega (arith, length-map edges (λ (x : Edge). x.waiter)), get_or-map (λ (x : Edge). x.waiter) edges i e e.waiter h ∙ ap (λ (x : Edge). x.waiter) (sym at))

-- at first the first waiter is chosen
pub chosen_first : (edges : List Edge) (sizes : List Size) (asked : Option ℕ) (d : Edge) → 0 < length edges → IsChosen edges sizes asked 0 (slice_index_or edges 0 d).waiter
chosen_first edges sizes asked d h = record {
  in_cycle = is_waiter edges 0 (slice_index_or edges 0 d) h (get_or_default edges 0 d (slice_index_or edges 0 d) h);
  before_seen = λ k below d. absurd (omega arith);
}

-- where the next waiter goes before the chosen, it is chosen
pub chosen_next : (edges : List Edge) (sizes : List Size) (asked : Option ℕ) (i chosen : ℕ) (e : Edge) → IsChosen edges sizes asked i chosen → i < length edges → e ≡ get_or edges i e → GoesBefore sizes asked e.waiter chosen → IsChosen edges sizes asked (i + 1) e.waiter
chosen_next edges sizes asked i chosen e was h at goes = record {
  in_cycle = is_waiter edges i e h at;
  before_seen =
      below_more (λ k. (d : Edge) → GoesBefore sizes asked e.waiter (slice_index_or edges k d).waiter) i
      (λ k below d. goes_before-trans sizes asked e.waiter chosen (slice_index_or edges k d).waiter goes (was.before_seen k below d))
      (λ d. subst (λ (x : Edge). GoesBefore sizes asked e.waiter x.waiter) (at ∙ get_or_default edges i e d h) (goes_before-refl sizes asked e.waiter));
}

-- else the chosen stays
pub chosen_stays : (edges : List Edge) (sizes : List Size) (asked : Option ℕ) (i chosen : ℕ) (e : Edge) → IsChosen edges sizes asked i chosen → i < length edges → e ≡ get_or edges i e → GoesBefore sizes asked chosen e.waiter → IsChosen edges sizes asked (i + 1) chosen
chosen_stays edges sizes asked i chosen e was h at goes = record {
  in_cycle = was.in_cycle;
  before_seen =
      below_more (λ k. (d : Edge) → GoesBefore sizes asked chosen (slice_index_or edges k d).waiter) i was.before_seen
      (λ d. subst (λ (x : Edge). GoesBefore sizes asked chosen x.waiter) (at ∙ get_or_default edges i e d h) goes);
}

-- at the end the chosen is the victim
pub chosen_last : (edges : List Edge) (sizes : List Size) (asked : Option ℕ) (i chosen : ℕ) → IsChosen edges sizes asked i chosen → length edges ≤ i → IsVictim edges sizes asked chosen
chosen_last edges sizes asked i chosen was h = record {
  in_cycle = was.in_cycle;
  before_others = All-map (GoesBefore sizes asked chosen) (λ (x : Edge). x.waiter) edges (λ k d below. was.before_seen k (omega (arith, below, h)) d);
}
