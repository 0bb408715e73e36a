-- Where the groups of a scan end.
use Rattle.std.proofs.Common.{◌≡◌, inl, inr, ℕ, zero, suc, ◌+◌, ◌-◌, ◌*◌, ◌<◌, ◌≤◌, List, ◌++◌, length, take, refl, sym, ◌∙◌, ap, arith, add-one, below_more, length-append, length-take}
use Rattle.std.specs.Prelude.{Option, Some, None, IfSome}
use Rattle.std.proofs.lemmas.Bool.{cases_lt}
use Rattle.std.proofs.lemmas.List.{take_at, take_all, take-append-le}
use Rattle.store_api.specs.Areas.{piece}
use Rattle.log_format.specs.declared.group.Group.{Group}
use Rattle.log_format.specs.Block.{payload_of, IsGood, payloads}
use Rattle.log_format.specs.Scan.{stream_of, HoldsGroups, HoldsPayloads, HasPayloads, EndsAt}

-- the blocks so far are good, and before none of them the length was right
pub record PassedBy (run : ℕ) (area : List ℕ) (len total n : ℕ) : Type 0 where
  pub good : (k : ℕ) → k < n → IsGood run k area
  pub total_is : total ≡ length (payloads n area)
  pub few : total ≤ 484 * n
  pub none : (m : ℕ) → m < n → length (payloads m area) ≡ len → ⊥

module _ (run : ℕ) (area : List ℕ) (len : ℕ) where
  pub passed_none : PassedBy run area len 0 0
  passed_none = record { good = λ k below. absurd (omega arith); total_is = refl; few = omega arith; none = λ m below. absurd (omega arith) }

  module _ (total n : ℕ) (so_far : PassedBy run area len total n) where
    none_yet : (total ≡ len → ⊥) → (m : ℕ) → m < n + 1 → length (payloads m area) ≡ len → ⊥
    none_yet other = below_more (λ (m : ℕ). length (payloads m area) ≡ len → ⊥) n so_far.none (λ is. other (so_far.total_is ∙ is))

    pub passed_one : (total ≡ len → ⊥) → IsGood run n area → (part : List ℕ) → part ≡ payload_of (piece 512 n area) → length part ≤ 484 → PassedBy run area len (total + length part) (n + 1)
    passed_one other good part is small = record {
      good = below_more (λ (k : ℕ). IsGood run k area) n so_far.good good;
      total_is =
          let next : payloads (n + 1) area ≡ payloads n area ++ part = ap (λ (m : ℕ). payloads m area) (add-one n) ∙ ap (λ (l : List ℕ). payloads n area ++ l) (sym is) in
          omega (arith, so_far.total_is, ap length next, length-append (payloads n area) part);
      few = omega (arith, so_far.few, small);
      none = none_yet other;
    }

    -- the next block isn't good, or isn't there
    pub none_at_all : (total ≡ len → ⊥) → (IsGood run n area → ⊥) → (m : ℕ) → HasPayloads run m area len → ⊥
    none_at_all other bad m has = elim (cases_lt n m) [
      | inl past ↦ bad (has.good n past)
      | inr within ↦ none_yet other m (omega (arith, within)) has.long
    ]

-- the payloads of fewer blocks are a front
pub payloads-front : (n more : ℕ) (area : List ℕ) → take (length (payloads n area)) (payloads (n + more) area) ≡ payloads n area
payloads-front n zero area =
    let same : n + 0 ≡ n = omega arith in
    ap (λ (m : ℕ). take (length (payloads n area)) (payloads m area)) same ∙ take_all (length (payloads n area)) (payloads n area) (omega arith)
payloads-front n (suc more) area =
    let next : n + suc more ≡ suc (n + more) = omega arith in
    let inner = payloads-front n more area in
    let within : length (payloads n area) ≤ length (payloads (n + more) area) = omega (arith, ap length inner, length-take (length (payloads n area)) (payloads (n + more) area)) in
    ap (λ (m : ℕ). take (length (payloads n area)) (payloads m area)) next
    ∙ take-append-le (length (payloads n area)) (payloads (n + more) area) (payload_of (piece 512 (n + more) area)) within ∙ inner

module _ (run first : ℕ) (area stream : List ℕ) (groups : List Group) (payload : HoldsPayloads run area stream) (held : HoldsGroups first stream groups) (len : ℕ) (len_is : len ≡ length (stream_of groups)) where
  pub ends_there : (n : ℕ) → HasPayloads run n area len → EndsAt run n area groups
  ends_there n has = record {
    good = has.good;
    stored = elim (cases_lt payload.blocks n) [
      | inl past ↦ absurd (payload.bad (has.good payload.blocks past))
      | inr within ↦
          let more = payload.blocks - n in
          let all : n + more ≡ payload.blocks = omega (arith, within) in
          let front = payloads-front n more area in
          sym front
          ∙ ap (λ (m : ℕ). take (length (payloads n area)) (payloads m area)) all
          ∙ ap (λ (l : List ℕ). take (length (payloads n area)) l) (sym payload.payload ∙ held.whole)
          ∙ take_at (stream_of groups) held.rest (length (payloads n area)) (sym (has.long ∙ len_is))
    ];
  }

pub IfSome-weaker : {X : Type 0} (o : Option X) (P Q : X → Type 0) → ((x : X) → P x → Q x) → IfSome o P → IfSome o Q
IfSome-weaker (Some x) P Q weaker is = weaker x is
IfSome-weaker None P Q weaker is = is
