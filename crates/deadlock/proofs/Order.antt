-- The order of the search: no earlier edge leads back but through the transactions of the path.
use Rattle.std.specs.Prelude.{◌≡◌, ℕ, ◌+◌, ◌<◌, ◌==◌, true, false, Some, List, [], ◌∷◌, length, take}
use Rattle.std.specs.List.{AllByRecursion}
use Rattle.std.proofs.Common.{arith, ap, inl, inr, subst, get_or}
use Rattle.std.proofs.Math.ListN.{get_or-append}
use Rattle.std.proofs.lemmas.Bool.{cases_Bool, cases_lt, or_parts, both_ways, eq-eqb}
use Rattle.std.proofs.lemmas.List.{take-append-le, take_all}
use Rattle.inno_types.specs.declared.lock.Edge.{Edge}
use Rattle.inno_types.specs.declared.lock.Lock.{Lock}
use Rattle.lock_table.specs.Queue.{edges_of}
use Rattle.deadlock.specs.Steps.{is_among, is_wanted, next_edge, edges_before, IsBarred, IsInOrder, WaitsFor}
use Rattle.deadlock.proofs.DepthFirst.{IsSearching, path_to, length-path, get_or-path_end}
use Rattle.deadlock.proofs.Rounds.{next_of, next-on, next-back}
use Rattle.deadlock.proofs.Waits.{waits_by_edge}

-- from one that is not wanted no edges lead back that keep off the path
barred : (granted waiting : List Lock) (start : ℕ) (unvisited above : List ℕ) (at v : ℕ) → IsSearching (WaitsFor granted waiting) start unvisited above at → is_wanted start unvisited v ≡ false → IsBarred start granted waiting (path_to above at) v
barred granted waiting start unvisited above at v was unwanted [] stand off chain = both_ways (v == start) (or_parts (v == start) (is_among v unvisited) unwanted).0 (eq-eqb v start chain)
barred granted waiting start unvisited above at v was unwanted (e ∷ way) stand off chain =
    let absent : is_among v unvisited ≡ false = (or_parts (v == start) (is_among v unvisited) unwanted).1 in
    let next : is_wanted start unvisited e.holder ≡ false = was.finished v e.holder absent (subst (λ u. is_among u (path_to above at) ≡ false) chain.0 off.0) (subst (λ u. WaitsFor granted waiting u e.holder) chain.0 (waits_by_edge granted waiting e stand.0)) in
    barred granted waiting start unvisited above at e.holder was next way stand.1 off.1 chain.1

-- the edges before the first to a wanted transaction lead to none
unwanted_before : (start : ℕ) (unvisited : List ℕ) (edges : List Edge) (e : Edge) → next_edge start unvisited edges ≡ Some e → AllByRecursion (λ f. is_wanted start unvisited f.holder ≡ false) (edges_before e.holder edges)
unwanted_before start unvisited [] e found = tt
unwanted_before start unvisited (f ∷ edges) e found =
    elim (cases_Bool (is_wanted start unvisited f.holder)) [
      | inl wanted ↦
          let is : Some f ≡ Some e = rw wanted at found in
          let same : f ≡ e = cc in
          let here : (f.holder == e.holder) ≡ true = eq-eqb f.holder e.holder (ap (λ (x : Edge). x.holder) same) in
          rw here tt
      | inr unwanted ↦
          elim (cases_Bool (f.holder == e.holder)) [
            | inl here ↦ rw here tt
            | inr other ↦ rw other (unwanted, unwanted_before start unvisited edges e (rw unwanted at found))
          ]
    ]

all-weaker : (P Q : Edge → Type 0) → ((e : Edge) → P e → Q e) → (es : List Edge) → AllByRecursion P es → AllByRecursion Q es
all-weaker P Q to [] all = tt
all-weaker P Q to (e ∷ es) all = (to e all.0, all-weaker P Q to es all.1)

-- the edge that the search follows is in order
pub next_in_order : (granted waiting : List Lock) (start : ℕ) (unvisited above : List ℕ) (at : ℕ) (e : Edge) → IsSearching (WaitsFor granted waiting) start unvisited above at → next_edge start unvisited (edges_of at granted waiting) ≡ Some e → IsInOrder start granted waiting (path_to above at) at e.holder
next_in_order granted waiting start unvisited above at e was found =
    all-weaker (λ f. is_wanted start unvisited f.holder ≡ false) (λ f. IsBarred start granted waiting (path_to above at) f.holder) (λ f unwanted. barred granted waiting start unvisited above at f.holder was unwanted)
    (edges_before e.holder (edges_of at granted waiting))
    (unwanted_before start unvisited (edges_of at granted waiting) e found)

-- all steps of the path are in order
pub record IsOrdered (start : ℕ) (granted waiting : List Lock) (path : List ℕ) : Type 0 where
  pub steps : (k : ℕ) → k + 1 < length path → IsInOrder start granted waiting (take (k + 1) path) (get_or path k 0) (get_or path (k + 1) 0)

pub ordered_begun : (granted waiting : List Lock) (start : ℕ) → IsOrdered start granted waiting (path_to [] start)
ordered_begun granted waiting start = record { steps = λ k below. absurd (omega arith) }

pub ordered_visits : (granted waiting : List Lock) (start : ℕ) (above : List ℕ) (at h : ℕ) → IsOrdered start granted waiting (path_to above at) → IsInOrder start granted waiting (path_to above at) at h → IsOrdered start granted waiting (path_to (path_to above at) h)
ordered_visits granted waiting start above at h was next = record {
  steps = λ k below.
      let P : List ℕ = path_to above at in
      let len : length P ≡ length above + 1 = length-path above at in
      elim (cases_lt (k + 1) (length P)) [
        | inl within ↦
            rw (take-append-le (k + 1) P (h ∷ []) (omega (arith, within)), get_or-append P (h ∷ []) 0 k (omega (arith, within)), get_or-append P (h ∷ []) 0 (k + 1) within) (was.steps k within)
        | inr past ↦
            let last : k + 1 ≡ length P = omega (arith, past, below, length-path P h) in
            rw (take-append-le (k + 1) P (h ∷ []) (omega (arith, last)), take_all (k + 1) P past, get_or-append P (h ∷ []) 0 k (omega (arith, last)), get_or-path_end above at k (omega (arith, last, len)), get_or-path_end P h (k + 1) last) next
      ];
}

pub ordered_leaves : (granted waiting : List Lock) (start : ℕ) (above : List ℕ) (back at : ℕ) → IsOrdered start granted waiting (path_to (path_to above back) at) → IsOrdered start granted waiting (path_to above back)
ordered_leaves granted waiting start above back at was = record {
  steps = λ k within.
      let P : List ℕ = path_to above back in
      let step : IsInOrder start granted waiting (take (k + 1) (path_to P at)) (get_or (path_to P at) k 0) (get_or (path_to P at) (k + 1) 0) = was.steps k (omega (arith, within, length-path P at)) in
      rw (take-append-le (k + 1) P (at ∷ []) (omega (arith, within)), get_or-append P (at ∷ []) 0 k (omega (arith, within)), get_or-append P (at ∷ []) 0 (k + 1) within) at step;
}

-- at the end all steps round are in order
pub ordered_round : (granted waiting : List Lock) (start : ℕ) (above : List ℕ) (at : ℕ) → IsOrdered start granted waiting (path_to above at) → IsInOrder start granted waiting (path_to above at) at start → get_or (path_to above at) 0 0 ≡ start → (k : ℕ) → k < length (path_to above at) → IsInOrder start granted waiting (take (k + 1) (path_to above at)) (get_or (path_to above at) k 0) (get_or (next_of (path_to above at)) k 0)
ordered_round granted waiting start above at was last begins k below =
    let P : List ℕ = path_to above at in
    elim (cases_lt (k + 1) (length P)) [
      | inl within ↦ rw (next-on P k within) (was.steps k within)
      | inr past ↦
          let end : k + 1 ≡ length P = omega (arith, past, below) in
          rw (next-back P k end, begins, take_all (k + 1) P past, get_or-path_end above at k (omega (arith, end, length-path above at))) last
    ]
