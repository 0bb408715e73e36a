-- Lists of transactions that wait for one another in a circle; and that none goes through where a search has ended.
use Rattle.std.specs.Prelude.{◌≡◌, ℕ, ◌+◌, ◌<◌, ◌==◌, false, List, [], ◌∷◌, ◌++◌, length, take, drop}
use Rattle.std.proofs.Common.{arith, sym, ◌∙◌, refl, inl, inr, subst, get_or, add-one, zero-add, add-zero, suc, zero, ◌-◌}
use Rattle.std.proofs.Math.ListN.{get_or-append}
use Rattle.std.proofs.Math.Seq.{get_or-append_seam}
use Rattle.std.proofs.lemmas.Bool.{cases_lt, eq-eqb, or_parts, both_ways}
use Rattle.deadlock.specs.Steps.{is_among, is_wanted}
use Rattle.deadlock.proofs.DepthFirst.{path_to, IsSearching, length-path, get_or-path_end}

-- each transaction of the list waits for the next one, and the last one for the first
abbrev pub next_of : List ℕ → List ℕ
next_of txns = drop 1 txns ++ take 1 txns

abbrev pub IsRound : (ℕ → ℕ → Type 0) → List ℕ → Type 0
IsRound Waits txns = (k : ℕ) → k < length txns → Waits (get_or txns k 0) (get_or (next_of txns) k 0)

-- the same by places
pub record IsLinked (Waits : ℕ → ℕ → Type 0) (txns : List ℕ) : Type 0 where
  pub on : (k : ℕ) → k + 1 < length txns → Waits (get_or txns k 0) (get_or txns (k + 1) 0)
  pub back : (k : ℕ) → k + 1 ≡ length txns → Waits (get_or txns k 0) (get_or txns 0 0)

pub next-on : (txns : List ℕ) (k : ℕ) → k + 1 < length txns → get_or (next_of txns) k 0 ≡ get_or txns (k + 1) 0
next-on [] k within = absurd (omega arith)
next-on (x ∷ xs) k within = get_or-append xs (x ∷ []) 0 k (omega (arith, within)) ∙ rw (add-one k) refl

pub next-back : (txns : List ℕ) (k : ℕ) → k + 1 ≡ length txns → get_or (next_of txns) k 0 ≡ get_or txns 0 0
next-back [] k last = absurd (omega arith)
next-back (x ∷ xs) k last = let e : k ≡ length xs = omega (arith, last) in rw e (get_or-append_seam xs x [] 0)

round_from_links : (Waits : ℕ → ℕ → Type 0) (txns : List ℕ) → IsLinked Waits txns → IsRound Waits txns
round_from_links Waits txns links k below =
    elim (cases_lt (k + 1) (length txns)) [
      | inl within ↦ subst (λ v. Waits (get_or txns k 0) v) (sym (next-on txns k within)) (links.on k within)
      | inr past ↦
          let last : k + 1 ≡ length txns = omega (arith, past, below) in
          subst (λ v. Waits (get_or txns k 0) v) (sym (next-back txns k last)) (links.back k last)
    ]

links_from_round : (Waits : ℕ → ℕ → Type 0) (txns : List ℕ) → IsRound Waits txns → IsLinked Waits txns
links_from_round Waits txns round = record {
  on = λ k within. subst (λ v. Waits (get_or txns k 0) v) (next-on txns k within) (round k (omega (arith, within)));
  back = λ k last. subst (λ v. Waits (get_or txns k 0) v) (next-back txns k last) (round k (omega (arith, last)));
}

-- where the transaction that is looked at waits for the first one, the path is a circle
pub search_found : (Waits : ℕ → ℕ → Type 0) (txn : ℕ) (unvisited above : List ℕ) (at : ℕ) → IsSearching Waits txn unvisited above at → Waits at txn → IsRound Waits (path_to above at)
search_found Waits txn unvisited above at was waits =
    round_from_links Waits (path_to above at)
    record {
      on = was.linked;
      back = λ k last.
          subst (λ v. Waits v (get_or (path_to above at) 0 0)) (sym (get_or-path_end above at k (omega (arith, last, length-path above at)))) (subst (λ v. Waits at v) (sym was.begins) waits);
    }

-- from a transaction where the search has been, the links lead only to such ones
reached : (Waits : ℕ → ℕ → Type 0) (txn : ℕ) (unvisited txns : List ℕ) → ((v h : ℕ) → is_among v unvisited ≡ false → Waits v h → is_wanted txn unvisited h ≡ false) → IsLinked Waits txns → (start steps : ℕ) → start + steps < length txns → is_among (get_or txns start 0) unvisited ≡ false → is_among (get_or txns (start + steps) 0) unvisited ≡ false
reached Waits txn unvisited txns ended links start zero within absent = rw (add-zero start) absent
reached Waits txn unvisited txns ended links start (suc steps) within absent =
    let here : is_among (get_or txns (start + steps) 0) unvisited ≡ false = reached Waits txn unvisited txns ended links start steps (omega (arith, within)) absent in
    let e : start + suc steps ≡ start + steps + 1 = omega arith in
    rw e (or_parts (get_or txns (start + steps + 1) 0 == txn) (is_among (get_or txns (start + steps + 1) 0) unvisited) (ended (get_or txns (start + steps) 0) (get_or txns (start + steps + 1) 0) here (links.on (start + steps) (omega (arith, within, e))))).1

-- so no circle goes through the transaction
pub no_round : (Waits : ℕ → ℕ → Type 0) (txn : ℕ) (unvisited txns : List ℕ) → ((v h : ℕ) → is_among v unvisited ≡ false → Waits v h → is_wanted txn unvisited h ≡ false) → is_among txn unvisited ≡ false → IsRound Waits txns → (k : ℕ) → k < length txns → get_or txns k 0 ≡ txn → ⊥
no_round Waits txn unvisited txns ended start round k within here =
    let links : IsLinked Waits txns = links_from_round Waits txns round in
    let at_k : is_among (get_or txns k 0) unvisited ≡ false = subst (λ v. is_among v unvisited ≡ false) (sym here) start in
    let last : ℕ = length txns - 1 in
    let at_last : is_among (get_or txns last 0) unvisited ≡ false = subst (λ n. is_among (get_or txns n 0) unvisited ≡ false) (omega (arith, within)) (reached Waits txn unvisited txns ended links k (last - k) (omega (arith, within)) at_k) in
    let at_first : ((get_or txns 0 0 == txn) ≡ false) × (is_among (get_or txns 0 0) unvisited ≡ false) = or_parts (get_or txns 0 0 == txn) (is_among (get_or txns 0 0) unvisited) (ended (get_or txns last 0) (get_or txns 0 0) at_last (links.back last (omega (arith, within)))) in
    elim (cases_lt 0 k) [
      | inr is_first ↦
          let e : k ≡ 0 = omega (arith, is_first) in
          both_ways (get_or txns 0 0 == txn) at_first.0 (eq-eqb (get_or txns 0 0) txn (subst (λ n. get_or txns n 0 ≡ txn) e here))
      | inl later ↦
          let before : ℕ = k - 1 in
          let e : before + 1 ≡ k = omega (arith, later) in
          let at_before : is_among (get_or txns before 0) unvisited ≡ false = subst (λ n. is_among (get_or txns n 0) unvisited ≡ false) (zero-add before) (reached Waits txn unvisited txns ended links 0 before (omega (arith, within, later)) at_first.1) in
          let unwanted : is_wanted txn unvisited (get_or txns (before + 1) 0) ≡ false = ended (get_or txns before 0) (get_or txns (before + 1) 0) at_before (links.on before (omega (arith, within, later))) in
          both_ways (get_or txns (before + 1) 0 == txn) (or_parts (get_or txns (before + 1) 0 == txn) (is_among (get_or txns (before + 1) 0) unvisited) unwanted).0 (eq-eqb (get_or txns (before + 1) 0) txn (subst (λ n. get_or txns n 0 ≡ txn) (sym e) here))
    ]
