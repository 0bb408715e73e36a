-- A record more, less or changed among the records of a body.
use Rattle.std.proofs.Common.{◌≡◌, ℕ, zero, suc, ◌+◌, ◌-◌, ◌*◌, ◌<◌, ◌≤◌, List, [], ◌∷◌, ◌++◌, length, take, drop, get_or, set, refl, sym, ap, ◌∙◌, append_assoc, length-append, arith}
use Rattle.std.specs.Prelude.{replicate, insert, remove}
use Rattle.std.specs.List.{concat}
use Rattle.std.proofs.lemmas.List.{take_at, drop_at, drop-drop, drop-take, take-take, take-append-le, drop-append-le, take-append-drop, length-take-le, length-drop, length-set, set-get_or, set_split}
use Rattle.std.proofs.lemmas.List.Elements.{All-drop, All-append, All-replicate}
use Rattle.page_format.specs.Changes.{with_byte}
use Rattle.page_format.proofs.Pieces.{AreWide, AreWide-append, AreWide-take, AreWide-drop, IsBody, concat-append, take-concat, drop-concat, length-concat}

-- how many bytes the records from a place on have
behind_length : (width i : ℕ) (rs : List (List ℕ)) → AreWide width rs → i ≤ length rs → length (concat (drop i rs)) + i * width ≡ length rs * width
behind_length width i rs wide inside =
    let back = length-concat width (drop i rs) (AreWide-drop width i rs wide) in
    let count : length rs ≡ length (drop i rs) + i = omega (arith, length-drop i rs, inside) in
    let product : length rs * width ≡ (length (drop i rs) + i) * width = ap (λ (k : ℕ). k * width) count in
    omega (arith, back, product)

pub insert_body : (width i : ℕ) (rs : List (List ℕ)) (rec body moved end : List ℕ) → IsBody width rs body → i ≤ length rs → length rec ≡ width → moved ≡ take (length rs * width - i * width) (drop (i * width) body) → end ≡ drop (length rs * width + width) body
    → IsBody width (insert rs i rec) (take (i * width) body ++ (rec ++ (moved ++ end)))
insert_body width i rs rec body moved end is inside rec_wide moved_is end_is =
    let front : take (i * width) body ≡ concat (take i rs) = ap (take (i * width)) is.whole ∙ take-concat width i rs is.rest is.wide inside in
    let back : drop (i * width) body ≡ concat (drop i rs) ++ is.rest = ap (drop (i * width)) is.whole ∙ drop-concat width i rs is.rest is.wide inside in
    let moved' : moved ≡ concat (drop i rs) = moved_is ∙ ap (take (length rs * width - i * width)) back ∙ take_at (concat (drop i rs)) is.rest (length rs * width - i * width) (omega (arith, behind_length width i rs is.wide inside)) in
    let rest : drop (length rs * width) body ≡ is.rest = ap (drop (length rs * width)) is.whole ∙ drop_at (concat rs) is.rest (length rs * width) (length-concat width rs is.wide) in
    let end' : end ≡ drop width is.rest = end_is ∙ sym (drop-drop width (length rs * width) body) ∙ ap (drop width) rest in
    record {
      wide = AreWide-append width (take i rs) (rec ∷ drop i rs) (AreWide-take width i rs is.wide) (rec_wide, AreWide-drop width i rs is.wide);
      rest = drop width is.rest;
      whole =
          (λ j. front j ++ (rec ++ (moved' j ++ end' j))) ∙ ap (λ (l : List ℕ). concat (take i rs) ++ l) (sym (append_assoc rec (concat (drop i rs)) (drop width is.rest)))
          ∙ sym (append_assoc (concat (take i rs)) (rec ++ concat (drop i rs)) (drop width is.rest)) ∙ ap (λ (l : List ℕ). l ++ drop width is.rest) (sym (concat-append (take i rs) (rec ∷ drop i rs)));
      zeros = All-drop (λ (b : ℕ). b ≡ 0) width is.rest is.zeros;
    }

pub remove_body : (width i : ℕ) (rs : List (List ℕ)) (body moved end : List ℕ) → IsBody width rs body → i < length rs → moved ≡ take (length rs * width - (i * width + width)) (drop (i * width + width) body) → end ≡ drop (length rs * width) body
    → IsBody width (remove rs i) (take (i * width) body ++ (moved ++ (replicate width 0 ++ end)))
remove_body width i rs body moved end is inside moved_is end_is =
    let next : i * width + width ≡ suc i * width = omega arith in
    let front : take (i * width) body ≡ concat (take i rs) = ap (take (i * width)) is.whole ∙ take-concat width i rs is.rest is.wide (omega (arith, inside)) in
    let back : drop (i * width + width) body ≡ concat (drop (suc i) rs) ++ is.rest = ap (λ (k : ℕ). drop k body) next ∙ ap (drop (suc i * width)) is.whole ∙ drop-concat width (suc i) rs is.rest is.wide inside in
    let moved' : moved ≡ concat (drop (suc i) rs) =
    moved_is ∙ ap (take (length rs * width - (i * width + width))) back ∙ take_at (concat (drop (suc i) rs)) is.rest (length rs * width - (i * width + width)) (omega (arith, next, behind_length width (suc i) rs is.wide inside)) in
    let end' : end ≡ is.rest = end_is ∙ ap (drop (length rs * width)) is.whole ∙ drop_at (concat rs) is.rest (length rs * width) (length-concat width rs is.wide) in
    record {
      wide = AreWide-append width (take i rs) (drop (suc i) rs) (AreWide-take width i rs is.wide) (AreWide-drop width (suc i) rs is.wide);
      rest = replicate width 0 ++ is.rest;
      whole =
          (λ j. front j ++ (moved' j ++ (replicate width 0 ++ end' j))) ∙ sym (append_assoc (concat (take i rs)) (concat (drop (suc i) rs)) (replicate width 0 ++ is.rest))
          ∙ ap (λ (l : List ℕ). l ++ (replicate width 0 ++ is.rest)) (sym (concat-append (take i rs) (drop (suc i) rs)));
      zeros = All-append (λ (b : ℕ). b ≡ 0) (replicate width 0) is.rest (All-replicate (λ (b : ℕ). b ≡ 0) width 0 refl) is.zeros;
    }

wide_at : (width i : ℕ) (rs : List (List ℕ)) → AreWide width rs → i < length rs → length (get_or rs i []) ≡ width
wide_at width i [] wide inside = absurd (omega (arith, inside))
wide_at width zero (r ∷ rs) wide inside = wide.0
wide_at width (suc i) (r ∷ rs) wide inside = wide_at width i rs wide.1 (omega (arith, inside))

wide_set : (width i : ℕ) (rs : List (List ℕ)) (r : List ℕ) → AreWide width rs → length r ≡ width → AreWide width (set rs i r)
wide_set width i [] r wide is = tt
wide_set width zero (s ∷ rs) r wide is = (is, wide.1)
wide_set width (suc i) (s ∷ rs) r wide is = (wide.0, wide_set width i rs r wide.1 is)

take_both : (xs ys : List ℕ) (m n : ℕ) → length xs ≡ m → take (m + n) (xs ++ ys) ≡ xs ++ take n ys
take_both xs ys m n e =
    sym (take-append-drop m (take (m + n) (xs ++ ys))) ∙ (λ j. first j ++ second j)
  where
    first : take m (take (m + n) (xs ++ ys)) ≡ xs
    first = take-take m (m + n) (xs ++ ys) (omega arith) ∙ take_at xs ys m e

    second : drop m (take (m + n) (xs ++ ys)) ≡ take n ys
    second = drop-take m n (xs ++ ys) ∙ ap (take n) (drop_at xs ys m e)

pub marked_body : (width i place byte : ℕ) (rs : List (List ℕ)) (body : List ℕ) → IsBody width rs body → i < length rs → place < width
    → IsBody width (with_byte i place byte rs) (take (i * width + place) body ++ (byte ∷ drop (i * width + place + 1) body))
marked_body width i place byte rs body is inside key =
    let r = get_or rs i [] in
    let r' = set r place byte in
    let front = concat (take i rs) in
    let behind = concat (drop (suc i) rs) ++ is.rest in
    let front_length : length front ≡ i * width = length-concat width (take i rs) (AreWide-take width i rs is.wide) ∙ ap (λ (k : ℕ). k * width) (length-take-le i rs (omega (arith, inside))) in
    let r_wide : length r ≡ width = wide_at width i rs is.wide inside in
    let split : rs ≡ take i rs ++ r ∷ drop (suc i) rs = sym (set-get_or rs i []) ∙ set_split rs i r inside in
    let body_is : body ≡ front ++ (r ++ behind) =
    is.whole ∙ ap (λ (l : List (List ℕ)). concat l ++ is.rest) split ∙ ap (λ (l : List ℕ). l ++ is.rest) (concat-append (take i rs) (r ∷ drop (suc i) rs)) ∙ append_assoc front (r ++ concat (drop (suc i) rs)) is.rest
    ∙ ap (λ (l : List ℕ). front ++ l) (append_assoc r (concat (drop (suc i) rs)) is.rest) in
    let r_split : r' ≡ take place r ++ byte ∷ drop (suc place) r = set_split r place byte (omega (arith, key, r_wide)) in
    let r_parts : r ≡ take place r ++ drop place r = sym (take-append-drop place r) in
    let before : take (i * width + place) body ≡ front ++ take place r =
    ap (take (i * width + place)) (body_is ∙ sym (append_assoc front r behind)) ∙ take-append-le (i * width + place) (front ++ r) behind (omega (arith, length-append front r, front_length, r_wide, key)) ∙ take_both front r (i * width) place front_length in
    let after : drop (i * width + place + 1) body ≡ drop (suc place) r ++ behind =
    ap (λ (k : ℕ). drop k body) (omega arith) ∙ sym (drop-drop (suc place) (i * width) body) ∙ ap (drop (suc place)) (ap (drop (i * width)) body_is ∙ drop_at front (r ++ behind) (i * width) front_length)
    ∙ drop-append-le (suc place) r behind (omega (arith, r_wide, key)) in
    record {
      wide = wide_set width i rs r' is.wide (length-set r place byte ∙ r_wide);
      rest = is.rest;
      whole =
          (λ j. before j ++ (byte ∷ after j)) ∙ append_assoc front (take place r) (byte ∷ (drop (suc place) r ++ behind)) ∙ ap (λ (l : List ℕ). front ++ l) (sym (append_assoc (take place r) (byte ∷ drop (suc place) r) behind))
          ∙ ap (λ (l : List ℕ). front ++ (l ++ behind)) (sym r_split) ∙ ap (λ (l : List ℕ). front ++ l) (sym (append_assoc r' (concat (drop (suc i) rs)) is.rest)) ∙ sym (append_assoc front (r' ++ concat (drop (suc i) rs)) is.rest)
          ∙ ap (λ (l : List ℕ). l ++ is.rest) (sym (concat-append (take i rs) (r' ∷ drop (suc i) rs))) ∙ ap (λ (l : List (List ℕ)). concat l ++ is.rest) (sym (set_split rs i r' inside));
      zeros = is.zeros;
    }

pub first_body : (width i : ℕ) (rs : List (List ℕ)) (body end : List ℕ) → IsBody width rs body → i ≤ length rs → end ≡ drop (length rs * width) body → IsBody width (take i rs) (take (i * width) body ++ (replicate (length rs * width - i * width) 0 ++ end))
first_body width i rs body end is inside end_is =
    let front : take (i * width) body ≡ concat (take i rs) = ap (take (i * width)) is.whole ∙ take-concat width i rs is.rest is.wide inside in
    let end' : end ≡ is.rest = end_is ∙ ap (drop (length rs * width)) is.whole ∙ drop_at (concat rs) is.rest (length rs * width) (length-concat width rs is.wide) in
    let zeros = replicate (length rs * width - i * width) 0 in
    record {
      wide = AreWide-take width i rs is.wide;
      rest = zeros ++ is.rest;
      whole = λ j. front j ++ (zeros ++ end' j);
      zeros = All-append (λ (b : ℕ). b ≡ 0) zeros is.rest (All-replicate (λ (b : ℕ). b ≡ 0) (length rs * width - i * width) 0 refl) is.zeros;
    }

pub last_body : (width i : ℕ) (rs : List (List ℕ)) (body moved end : List ℕ) → IsBody width rs body → i ≤ length rs → moved ≡ take (length rs * width - i * width) (drop (i * width) body) → end ≡ drop (length rs * width) body
    → IsBody width (drop i rs) (moved ++ (replicate (i * width) 0 ++ end))
last_body width i rs body moved end is inside moved_is end_is =
    let back : drop (i * width) body ≡ concat (drop i rs) ++ is.rest = ap (drop (i * width)) is.whole ∙ drop-concat width i rs is.rest is.wide inside in
    let moved' : moved ≡ concat (drop i rs) = moved_is ∙ ap (take (length rs * width - i * width)) back ∙ take_at (concat (drop i rs)) is.rest (length rs * width - i * width) (omega (arith, behind_length width i rs is.wide inside)) in
    let end' : end ≡ is.rest = end_is ∙ ap (drop (length rs * width)) is.whole ∙ drop_at (concat rs) is.rest (length rs * width) (length-concat width rs is.wide) in
    let zeros = replicate (i * width) 0 in
    record {
      wide = AreWide-drop width i rs is.wide;
      rest = zeros ++ is.rest;
      whole = λ j. moved' j ++ (zeros ++ end' j);
      zeros = All-append (λ (b : ℕ). b ≡ 0) zeros is.rest (All-replicate (λ (b : ℕ). b ≡ 0) (i * width) 0 refl) is.zeros;
    }
