-- How a reader of a log area goes on.
use Rattle.std.proofs.Common.{◌≡◌, ◌⊎◌, inl, inr, ℕ, zero, suc, ◌+◌, ◌-◌, ◌*◌, ◌/◌, ◌<◌, ◌≤◌, min, Bool, true, List, [], ◌∷◌, ◌++◌, length, take, drop, refl, sym, ◌∙◌, ap, subst, arith, add-zero, add-suc, below_more, append_assoc, length-append, length-take, length-drop, take-append-drop}
use Rattle.std.proofs.lemmas.Bool.{cases_lt}
use Rattle.std.proofs.lemmas.List.{append-nil, drop-drop, drop_at, take_all}
use Rattle.std.proofs.lemmas.List.Concat.{flat_map-append}
use Rattle.store_api.specs.Areas.{piece}
use Rattle.store_api.proofs.Pieces.{piece-take}
use Rattle.log_format.specs.declared.group.Group.{Group}
use Rattle.log_format.specs.Group.{group_bytes, IsGroup}
use Rattle.log_format.specs.Block.{payload_of, IsGood, payloads}
use Rattle.log_format.specs.Scan.{stream_of, NoGroup, IsScan, HasGoodFront, HasWhole}
use Rattle.log_format.proofs.Good.{good_or_bad}
use Rattle.log_format.proofs.Groups.{AreGroups-push, none_with_more}
use Rattle.log_format.proofs.Scanned.{fields_good, good_fields}
use Rattle.log_format.specs.Given.{ReaderView, HasGiven}

-- ---- a group

pub one_given : (first : ℕ) (area : List ℕ) (given : List Group) (r : ReaderView) → HasGiven first area given r → (g : Group) (after : List ℕ) → IsGroup g
    → g.lsn ≡ r.next → r.rest ≡ group_bytes g ++ after
    → HasGiven first area (given ++ g ∷ []) (record { run = r.run; block = r.block; next = r.next + 1; rest = after; ended = r.ended })
one_given first area given r is g after is_group number begins = record {
  good = is.good;
  whole =
      is.whole
      ∙ ap (λ (l : List ℕ). stream_of given ++ l) begins
      ∙ sym (append_assoc (stream_of given) (group_bytes g) after)
      ∙ ap (λ (l : List ℕ). l ++ after)
      (ap (λ (l : List ℕ). stream_of given ++ l) (sym (append-nil (group_bytes g))) ∙ sym (flat_map-append group_bytes given (g ∷ [])));
  each = AreGroups-push first given g is.each is_group (number ∙ is.number);
  number = omega (arith, is.number, length-append given (g ∷ []));
  ended = is.ended;
}

-- what is left behind a part of the end
pub drop_to : (at : ℕ) (stream front after : List ℕ) → drop at stream ≡ front ++ after → drop (length stream - length after) stream ≡ after
drop_to at stream front after is =
    let all : stream ≡ (take at stream ++ front) ++ after =
    sym (take-append-drop at stream) ∙ ap (λ (l : List ℕ). take at stream ++ l) is ∙ sym (append_assoc (take at stream) front after) in
    let n = length stream - length after in
    let long : length (take at stream ++ front) ≡ n = omega (arith, ap length all, length-append (take at stream ++ front) after) in
    ap (λ (l : List ℕ). drop n l) all ∙ drop_at (take at stream ++ front) after n long

-- the rest of a list, as the code cuts it out
pub from_on : (at : ℕ) (xs : List ℕ) → take (length xs - at) (drop at xs) ≡ drop at xs
from_on at xs = take_all (length xs - at) (drop at xs) (omega (arith, length-drop at xs))

-- ---- the end

-- where the good blocks end
record FirstBad (run : ℕ) (area : List ℕ) (from : ℕ) : Type 0 where
  more : ℕ
  good : (k : ℕ) → k < from + more → IsGood run k area
  bad : IsGood run (from + more) area → ⊥

first_bad : (run : ℕ) (area : List ℕ) (from left more : ℕ) → more + left ≡ length area → ((k : ℕ) → k < from + more → IsGood run k area) → FirstBad run area from
first_bad run area from zero more end good = record {
  more = more;
  good = good;
  bad = λ (one : IsGood run (from + more) area). let inside = one.inside in absurd (omega (arith, inside, end));
}
first_bad run area from (suc left) more end good = elim (good_or_bad run (from + more) area) [
  | inl here ↦
      let next : from + more + 1 ≡ from + (more + 1) = omega arith in
      first_bad run area from left (more + 1) (omega (arith, end))
      (λ k below. below_more (λ (j : ℕ). IsGood run j area) (from + more) good here k (omega (arith, below, next)))
  | inr bad ↦ record { more = more; good = good; bad = bad }
]

-- the payloads of more blocks go on behind those of fewer
more_payloads : (n j : ℕ) (area : List ℕ) → (rest : List ℕ) × (payloads (n + j) area ≡ payloads n area ++ rest)
more_payloads n zero area = ([], ap (λ (k : ℕ). payloads k area) (add-zero n) ∙ sym (append-nil (payloads n area)))
more_payloads n (suc j) area =
    let before = more_payloads n j area in
    let last = payload_of (piece 512 (n + j) area) in (
      before.0 ++ last,
      ap (λ (k : ℕ). payloads k area) (add-suc n j) ∙ ap (λ (l : List ℕ). l ++ last) before.1 ∙ append_assoc (payloads n area) before.0 last,
    )

module _ (first : ℕ) (area : List ℕ) (given : List Group) (r : ReaderView) (is : HasGiven first area given r) (none : NoGroup r.next r.rest) where
  none_there : (lsn : ℕ) → lsn ≡ r.next → (rest : List ℕ) → NoGroup r.next rest → NoGroup lsn rest
  none_there lsn same rest begins = subst (λ (n : ℕ). NoGroup n rest) (sym same) begins

  ends_known : r.ended ≡ true → IsScan r.run first area given
  ends_known known = record {
    stream = payloads r.block area;
    payload = record { blocks = r.block; good = is.good; bad = is.ended known; payload = refl };
    held = record { rest = r.rest; whole = is.whole; each = is.each; ends = none_there (first + length given) (sym is.number) r.rest none };
  }

  ends_whole : HasWhole r.rest → IsScan r.run first area given
  ends_whole all =
      let end = first_bad r.run area r.block (length area) 0 (omega arith) (λ k below. is.good k (omega (arith, below))) in
      let behind = more_payloads r.block end.more area in
      record {
        stream = payloads (r.block + end.more) area;
        payload = record { blocks = r.block + end.more; good = end.good; bad = end.bad; payload = refl };
        held = record {
          rest = r.rest ++ behind.0;
          whole =
              behind.1 ∙ ap (λ (l : List ℕ). l ++ behind.0) is.whole ∙ append_assoc (stream_of given) r.rest behind.0;
          each = is.each;
          ends = none_there (first + length given) (sym is.number) (r.rest ++ behind.0) (none_with_more r.next r.rest behind.0 all none);
        };
      }

  pub all_given : (r.ended ≡ true) ⊎ HasWhole r.rest → IsScan r.run first area given
  all_given (inl known) = ends_known known
  all_given (inr all) = ends_whole all

-- ---- a piece

-- the payloads of a piece's blocks stand behind those of the blocks before it
payloads_behind : (n j : ℕ) (area bytes : List ℕ) → ((i : ℕ) → i < j → piece 512 (n + i) area ≡ piece 512 i bytes)
    → payloads (n + j) area ≡ payloads n area ++ payloads j bytes
payloads_behind n zero area bytes same = ap (λ (k : ℕ). payloads k area) (add-zero n) ∙ sym (append-nil (payloads n area))
payloads_behind n (suc j) area bytes same =
    ap (λ (k : ℕ). payloads k area) (add-suc n j)
    ∙ (λ i. payloads_behind n j area bytes (λ k below. same k (omega arith)) i ++ payload_of (same j (omega arith) i))
    ∙ append_assoc (payloads n area) (payloads j bytes) (payload_of (piece 512 j bytes))

module _ (first : ℕ) (area : List ℕ) (given : List Group) (r : ReaderView) (is : HasGiven first area given r) (bytes : List ℕ)
    (read : bytes ≡ take 32768 (drop (512 * r.block) area)) (good : ℕ) (front : HasGoodFront r.run r.block bytes good) where
  length-bytes : length bytes ≡ min 32768 (length area - 512 * r.block)
  length-bytes =
      omega (arith, ap length read, length-take 32768 (drop (512 * r.block) area), length-drop (512 * r.block) area)

  few : 512 * good ≤ length bytes
  few = omega (arith, front.few)

  same_piece : (j : ℕ) → j < 64 → piece 512 (r.block + j) area ≡ piece 512 j bytes
  same_piece j below =
      let at : 512 * (r.block + j) ≡ 512 * r.block + 512 * j = omega arith in
      ap (λ (n : ℕ). take 512 (drop n area)) at
      ∙ ap (λ (l : List ℕ). take 512 l) (sym (drop-drop (512 * j) (512 * r.block) area))
      ∙ sym (piece-take 512 64 j (drop (512 * r.block) area) below)
      ∙ ap (λ (l : List ℕ). piece 512 j l) (sym read)

  good_now : (k : ℕ) → k < r.block + good → IsGood r.run k area
  good_now k below = elim (cases_lt k r.block) [
    | inl before ↦ is.good k before
    | inr from ↦
        let j = k - r.block in
        let number : r.block + j ≡ k = omega (arith, from) in
        let within : j < good = omega (arith, below, from) in
        subst (λ (n : ℕ). IsGood r.run n area) number
        (fields_good r.run (r.block + j) area (piece 512 j bytes) (omega (arith, within, few, length-bytes))
        (sym (same_piece j (omega (arith, within, few, length-bytes)))) (front.good j within))
  ]

  bad_now : good < 64 → IsGood r.run (r.block + good) area → ⊥
  bad_now less here =
      let inside = here.inside in
      let another : good < length bytes / 512 = omega (arith, inside, less, length-bytes, front.few) in
      front.bad another (good_fields r.run (r.block + good) area (piece 512 good bytes) (sym (same_piece good less)) here)

  pub piece_given : (ended : Bool) → (ended ≡ true → good < 64)
      → HasGiven first area given (record { run = r.run; block = r.block + good; next = r.next; rest = r.rest ++ payloads good bytes; ended = ended })
  piece_given ended known = record {
    good = good_now;
    whole =
        payloads_behind r.block good area bytes (λ j below. same_piece j (omega (arith, below, few, length-bytes)))
        ∙ ap (λ (l : List ℕ). l ++ payloads good bytes) is.whole
        ∙ append_assoc (stream_of given) r.rest (payloads good bytes);
    each = is.each;
    number = is.number;
    ended = λ now. bad_now (known now);
  }
