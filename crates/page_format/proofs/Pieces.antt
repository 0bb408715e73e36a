-- Records of one width, one behind the other.
use Rattle.std.proofs.Common.{◌≡◌, ℕ, zero, suc, ◌*◌, ◌≤◌, List, [], ◌∷◌, ◌++◌, length, take, drop, refl, sym, ap, ◌∙◌, append_assoc, length-append, arith}
use Rattle.std.specs.List.{concat}
use Rattle.std.proofs.lemmas.List.{take_at, drop_at, take-append-drop, drop-drop, length-take-le, length-drop}
use Rattle.page_format.specs.Words.{pieces}
use Rattle.page_format.specs.Shape.{AreZeros}

-- all have this width
abbrev pub AreWide : ℕ → List (List ℕ) → Type 0
AreWide width [] = Unit {0}
AreWide width (r ∷ rs) = (length r ≡ width) × AreWide width rs

pub AreWide-append : (width : ℕ) (rs ss : List (List ℕ)) → AreWide width rs → AreWide width ss → AreWide width (rs ++ ss)
AreWide-append width [] ss wide also = also
AreWide-append width (r ∷ rs) ss wide also = (wide.0, AreWide-append width rs ss wide.1 also)

pub AreWide-take : (width n : ℕ) (rs : List (List ℕ)) → AreWide width rs → AreWide width (take n rs)
AreWide-take width zero rs wide = tt
AreWide-take width (suc n) [] wide = tt
AreWide-take width (suc n) (r ∷ rs) wide = (wide.0, AreWide-take width n rs wide.1)

pub AreWide-drop : (width n : ℕ) (rs : List (List ℕ)) → AreWide width rs → AreWide width (drop n rs)
AreWide-drop width zero rs wide = wide
AreWide-drop width (suc n) [] wide = tt
AreWide-drop width (suc n) (r ∷ rs) wide = AreWide-drop width n rs wide.1

pub length-concat : (width : ℕ) (rs : List (List ℕ)) → AreWide width rs → length (concat rs) ≡ length rs * width
length-concat width [] wide = omega arith
length-concat width (r ∷ rs) wide = omega (arith, length-append r (concat rs), wide.0, length-concat width rs wide.1)

pub concat-append : (rs ss : List (List ℕ)) → concat (rs ++ ss) ≡ concat rs ++ concat ss
concat-append [] ss = refl
concat-append (r ∷ rs) ss = ap (λ (l : List ℕ). r ++ l) (concat-append rs ss) ∙ sym (append_assoc r (concat rs) (concat ss))

-- records and what stands behind them, cut between two records
cut : (n : ℕ) (rs : List (List ℕ)) (rest : List ℕ) → concat rs ++ rest ≡ concat (take n rs) ++ (concat (drop n rs) ++ rest)
cut n rs rest =
    ap (λ (l : List (List ℕ)). concat l ++ rest) (sym (take-append-drop n rs)) ∙ ap (λ (l : List ℕ). l ++ rest) (concat-append (take n rs) (drop n rs)) ∙ append_assoc (concat (take n rs)) (concat (drop n rs)) rest

pub take-concat : (width n : ℕ) (rs : List (List ℕ)) (rest : List ℕ) → AreWide width rs → n ≤ length rs → take (n * width) (concat rs ++ rest) ≡ concat (take n rs)
take-concat width n rs rest wide inside =
    let long : length (concat (take n rs)) ≡ n * width = length-concat width (take n rs) (AreWide-take width n rs wide) ∙ ap (λ (k : ℕ). k * width) (length-take-le n rs inside) in
    ap (take (n * width)) (cut n rs rest) ∙ take_at (concat (take n rs)) (concat (drop n rs) ++ rest) (n * width) long

pub drop-concat : (width n : ℕ) (rs : List (List ℕ)) (rest : List ℕ) → AreWide width rs → n ≤ length rs → drop (n * width) (concat rs ++ rest) ≡ concat (drop n rs) ++ rest
drop-concat width n rs rest wide inside =
    let long : length (concat (take n rs)) ≡ n * width = length-concat width (take n rs) (AreWide-take width n rs wide) ∙ ap (λ (k : ℕ). k * width) (length-take-le n rs inside) in
    ap (drop (n * width)) (cut n rs rest) ∙ drop_at (concat (take n rs)) (concat (drop n rs) ++ rest) (n * width) long

-- ---- pieces

pub length-pieces : (width n : ℕ) (bytes : List ℕ) → length (pieces width n bytes) ≡ n
length-pieces width zero bytes = refl
length-pieces width (suc n) bytes = ap suc (length-pieces width n (drop width bytes))

pub wide-pieces : (width n : ℕ) (bytes : List ℕ) → n * width ≤ length bytes → AreWide width (pieces width n bytes)
wide-pieces width zero bytes room = tt
wide-pieces width (suc n) bytes room = (length-take-le width bytes (omega (arith, room)), wide-pieces width n (drop width bytes) (omega (arith, room, length-drop width bytes)))

pub concat-pieces : (width n : ℕ) (bytes : List ℕ) → n * width ≤ length bytes → bytes ≡ concat (pieces width n bytes) ++ drop (n * width) bytes
concat-pieces width zero bytes room = let none : 0 * width ≡ 0 = omega arith in rw none refl
concat-pieces width (suc n) bytes room =
    let behind = concat-pieces width n (drop width bytes) (omega (arith, room, length-drop width bytes)) in
    let further : drop (n * width) (drop width bytes) ≡ drop (suc n * width) bytes = drop-drop (n * width) width bytes ∙ ap (λ (k : ℕ). drop k bytes) (omega arith) in
    sym (take-append-drop width bytes) ∙ ap (λ (l : List ℕ). take width bytes ++ l) behind ∙ sym (append_assoc (take width bytes) (concat (pieces width n (drop width bytes))) (drop (n * width) (drop width bytes)))
    ∙ ap (λ (l : List ℕ). (take width bytes ++ concat (pieces width n (drop width bytes))) ++ l) further

pub pieces-concat : (width : ℕ) (rs : List (List ℕ)) (rest : List ℕ) → AreWide width rs → pieces width (length rs) (concat rs ++ rest) ≡ rs
pieces-concat width [] rest wide = refl
pieces-concat width (r ∷ rs) rest wide =
    let front : take width ((r ++ concat rs) ++ rest) ≡ r = ap (take width) (append_assoc r (concat rs) rest) ∙ take_at r (concat rs ++ rest) width wide.0 in
    let back : drop width ((r ++ concat rs) ++ rest) ≡ concat rs ++ rest = ap (drop width) (append_assoc r (concat rs) rest) ∙ drop_at r (concat rs ++ rest) width wide.0 in
    let others : pieces width (length rs) (drop width ((r ++ concat rs) ++ rest)) ≡ rs = ap (pieces width (length rs)) back ∙ pieces-concat width rs rest wide.1 in
    λ i. front i ∷ others i

-- The bytes are these records, and zeros behind them.
pub record IsBody (width : ℕ) (records : List (List ℕ)) (body : List ℕ) : Type 0 where
  pub wide : AreWide width records
  pub rest : List ℕ
  pub whole : body ≡ concat records ++ rest
  pub zeros : AreZeros rest
