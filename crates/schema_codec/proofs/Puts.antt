-- Items put at the end of a vector, one behind the other.
use Rattle.std.proofs.Common.{◌≡◌, ℕ, ◌+◌, ◌<◌, ◌≤◌, List, [], ◌∷◌, ◌++◌, length, take, drop, get_or, sym, ◌∙◌, ap, arith, append_assoc, length-append, vec_len, vec_capacity}
use Rattle.std.specs.Prelude.{Vec}
use Rattle.std.specs.List.{flat_map}
use Rattle.std.specs.declared.alloc.Global.{Global}
use Rattle.std.proofs.lemmas.List.{append-nil, take_more, take_all, take-append-drop}
use Rattle.std.proofs.lemmas.List.Concat.{flat_map-append}

module _ {A : Type 0} (spell : A → List ℕ) (items : List A) (head : List ℕ) (old : Vec ℕ Global) where
  -- a head, and the first so many items
  pub record PutSoFar (i : ℕ) (new : Vec ℕ Global) : Type 0 where
    pub whole : new.items ≡ old.items ++ (head ++ flat_map spell (take i items))
    pub len : vec_len new ≡ vec_len old + length (head ++ flat_map spell (take i items))
    pub grows : vec_capacity old ≤ vec_capacity new

  pub head_only : (new : Vec ℕ Global) → new.items ≡ old.items ++ head → vec_len new ≡ vec_len old + length head → vec_capacity old ≤ vec_capacity new → PutSoFar 0 new
  head_only new whole len grows = record { whole = whole ∙ ap (λ (l : List ℕ). old.items ++ l) (sym (append-nil head)); len = len ∙ ap (λ (l : List ℕ). vec_len old + length l) (sym (append-nil head)); grows = grows }

  more : (i : ℕ) (x : A) → i < length items → x ≡ get_or items i x → head ++ flat_map spell (take (i + 1) items) ≡ (head ++ flat_map spell (take i items)) ++ spell x
  more i x below is =
      let next : take (i + 1) items ≡ take i items ++ x ∷ [] = take_more items i x below ∙ ap (λ (y : A). take i items ++ y ∷ []) (sym is) in
      ap (λ (l : List A). head ++ flat_map spell l) next
      ∙ ap (λ (l : List ℕ). head ++ l) (flat_map-append spell (take i items) (x ∷ []) ∙ ap (λ (l : List ℕ). flat_map spell (take i items) ++ l) (append-nil (spell x)))
      ∙ sym (append_assoc head (flat_map spell (take i items)) (spell x))

  pub one_put : (i : ℕ) (x : A) (mid new : Vec ℕ Global) → PutSoFar i mid → i < length items → x ≡ get_or items i x → new.items ≡ mid.items ++ spell x → vec_len new ≡ vec_len mid + length (spell x) → vec_capacity mid ≤ vec_capacity new → PutSoFar (i + 1) new
  one_put i x mid new so_far below is whole len grows =
      let all = more i x below is in
      record {
        whole = whole ∙ ap (λ (l : List ℕ). l ++ spell x) so_far.whole ∙ append_assoc old.items (head ++ flat_map spell (take i items)) (spell x) ∙ ap (λ (l : List ℕ). old.items ++ l) (sym all);
        len = omega (arith, len, so_far.len, ap length all, length-append (head ++ flat_map spell (take i items)) (spell x));
        grows = omega (arith, grows, so_far.grows);
      }

  -- an item that didn't fit
  pub is_short : (i : ℕ) (x : A) (mid : Vec ℕ Global) → PutSoFar i mid → i < length items → x ≡ get_or items i x → vec_capacity mid < vec_len mid + length (spell x) → vec_capacity old < vec_len old + length (head ++ flat_map spell items)
  is_short i x mid so_far below is short =
      let all = more i x below is in
      let split : flat_map spell items ≡ flat_map spell (take (i + 1) items) ++ flat_map spell (drop (i + 1) items) =
      ap (flat_map spell) (sym (take-append-drop (i + 1) items)) ∙ flat_map-append spell (take (i + 1) items) (drop (i + 1) items) in
      omega (
        arith,
        short,
        so_far.len,
        so_far.grows,
        ap length all,
        length-append (head ++ flat_map spell (take i items)) (spell x),
        ap length split,
        length-append (flat_map spell (take (i + 1) items)) (flat_map spell (drop (i + 1) items)),
        length-append head (flat_map spell items),
        length-append head (flat_map spell (take (i + 1) items)),
      )

  pub record AllPut (new : Vec ℕ Global) : Type 0 where
    pub whole : new.items ≡ old.items ++ (head ++ flat_map spell items)
    pub len : vec_len new ≡ vec_len old + length (head ++ flat_map spell items)
    pub grows : vec_capacity old ≤ vec_capacity new

  pub all_put : (i : ℕ) (new : Vec ℕ Global) → length items ≤ i → PutSoFar i new → AllPut new
  all_put i new past so_far =
      let all : take i items ≡ items = take_all i items past in
      record {
        whole = so_far.whole ∙ ap (λ (l : List A). old.items ++ (head ++ flat_map spell l)) all;
        len = so_far.len ∙ ap (λ (l : List A). vec_len old + length (head ++ flat_map spell l)) all;
        grows = so_far.grows;
      }
