-- Rows of pages: cut in two, joined, and seen alike.
use Rattle.std.proofs.Common.{◌≡◌, ℕ, List, [], ◌∷◌, ◌++◌, refl, sym, ◌∙◌, ap, subst, append_assoc}
use Rattle.law_flat_tree.specs.Levels.{Fence, Node, head_or, IsRow, heads, children, AreAlike, IsAbove, AreLevels, AreLevelsAlike}
use Rattle.law_flat_tree.specs.Levels.Fence.{First, Last}
use Rattle.std.specs.List.{flat_map}

-- a row that is cut: the fence between the two parts
pub cut : (node : ℕ → Node) (low high : Fence) (next : ℕ) (xs ys : List ℕ) → IsRow node low (xs ++ ys) high next
    → (middle : Fence) × IsRow node low xs middle (head_or next ys) × IsRow node middle ys high next
cut node low high next [] ys row = (low, refl, row)
cut node low high next (x ∷ []) ys row = ((node x).high, (row.0, row.1, refl), row.2)
cut node low high next (x ∷ y ∷ xs) ys row =
    let rest = cut node (node x).high high next (y ∷ xs) ys row.2 in
    (rest.0, (row.0, row.1, rest.1), rest.2)

pub joined : (node : ℕ → Node) (low middle high : Fence) (next : ℕ) (xs ys : List ℕ)
    → IsRow node low xs middle (head_or next ys) → IsRow node middle ys high next → IsRow node low (xs ++ ys) high next
joined node low middle high next [] ys one other = subst (λ f. IsRow node f ys high next) (sym one) other
joined node low middle high next (x ∷ []) ys one other = (one.0, one.1, subst (λ f. IsRow node f ys high next) (sym one.2) other)
joined node low middle high next (x ∷ y ∷ xs) ys one other = (one.0, one.1, joined node (node x).high middle high next (y ∷ xs) ys one.2 other)

pub alike_row : (old new : ℕ → Node) (low high : Fence) (next : ℕ) (xs : List ℕ) → AreAlike old new xs → IsRow old low xs high next → IsRow new low xs high next
alike_row old new low high next [] alike row = row
alike_row old new low high next (x ∷ xs) alike row = (
  ap (λ (n : Node). n.low) alike.0 ∙ row.0,
  ap (λ (n : Node). n.right) alike.0 ∙ row.1,
  subst (λ (n : Node). IsRow new n.high xs high next) (sym alike.0) (alike_row old new (old x).high high next xs alike.1 row.2),
)

pub alike_heads : (old new : ℕ → Node) (xs : List ℕ) → AreAlike old new xs → heads new xs ≡ heads old xs
alike_heads old new [] alike = refl
alike_heads old new (x ∷ xs) alike = rw alike.0 (rw (alike_heads old new xs alike.1) refl)

pub alike_children : (old new : ℕ → Node) (xs : List ℕ) → AreAlike old new xs → children new xs ≡ children old xs
alike_children old new [] alike = refl
alike_children old new (x ∷ xs) alike = rw alike.0 (rw (alike_children old new xs alike.1) refl)

-- the pages of some entries, found among the pages of a level
pub record IsCut (node : ℕ → Node) (lower : List ℕ) (before : List (Fence × ℕ)) (fence : Fence) (page : ℕ) (behind : List (Fence × ℕ)) : Type 0 where
  pub xs : List ℕ
  pub ys : List ℕ
  pub whole : lower ≡ xs ++ page ∷ ys
  pub fence_is : (node page).low ≡ fence
  pub before_is : heads node xs ≡ before
  pub behind_is : heads node ys ≡ behind

abbrev pub IsNothing : {A : Type 0} → List A → Type 0
IsNothing [] = Unit {0}
IsNothing (x ∷ xs) = ⊥

pub first_of : {A : Type 0} (x y : A) (xs ys : List A) → x ∷ xs ≡ y ∷ ys → x ≡ y
first_of x y xs ys same = ap (λ l. first_or x l) same where
  first_or : {A : Type 0} → A → List A → A
  first_or z [] = z
  first_or z (w ∷ ws) = w

pub rest_of : {A : Type 0} (x y : A) (xs ys : List A) → x ∷ xs ≡ y ∷ ys → xs ≡ ys
rest_of x y xs ys same = ap (λ l. rest_or l) same where
  rest_or : {A : Type 0} → List A → List A
  rest_or [] = []
  rest_or (w ∷ ws) = ws

pub found : (node : ℕ → Node) (lower : List ℕ) (before behind : List (Fence × ℕ)) (fence : Fence) (page : ℕ)
    → heads node lower ≡ before ++ (fence, page) ∷ behind → IsCut node lower before fence page behind
found node [] [] behind fence page same = absurd (subst (λ l. IsNothing l) same tt)
found node [] (b ∷ before) behind fence page same = absurd (subst (λ l. IsNothing l) same tt)
found node (x ∷ xs) [] behind fence page same =
    let here = first_of ((node x).low, x) (fence, page) (heads node xs) behind same in
    let page_is : x ≡ page = ap (λ (e : Fence × ℕ). e.1) here in
    record {
      xs = [];
      ys = xs;
      whole = rw page_is refl;
      fence_is = subst (λ p. (node p).low ≡ fence) page_is (ap (λ (e : Fence × ℕ). e.0) here);
      before_is = refl;
      behind_is = rest_of ((node x).low, x) (fence, page) (heads node xs) behind same;
    }
found node (x ∷ xs) (b ∷ before) behind fence page same =
    let rest = found node xs before behind fence page (rest_of ((node x).low, x) b (heads node xs) (before ++ (fence, page) ∷ behind) same) in
    record {
      xs = x ∷ rest.xs;
      ys = rest.ys;
      whole = ap (λ l. x ∷ l) rest.whole;
      fence_is = rest.fence_is;
      before_is =
          ap (λ l. ((node x).low, x) ∷ l) rest.before_is ∙ ap (λ (e : Fence × ℕ). e ∷ before)
          (first_of ((node x).low, x) b (heads node xs) (before ++ (fence, page) ∷ behind) same);
      behind_is = rest.behind_is;
    }

pub children_cut : (node : ℕ → Node) (xs ys : List ℕ) → children node (xs ++ ys) ≡ children node xs ++ children node ys
children_cut node [] ys = refl
children_cut node (x ∷ xs) ys = rw (children_cut node xs ys) (sym (append_assoc (node x).entries (children node xs) (children node ys)))

-- what is seen alike has alike parts
pub alike_part : {A B : Type 0} (part : A → B) (old new : ℕ → A) (xs : List ℕ) → AreAlike old new xs
    → AreAlike (λ page. part (old page)) (λ page. part (new page)) xs
alike_part part old new [] alike = tt
alike_part part old new (x ∷ xs) alike = (ap part alike.0, alike_part part old new xs alike.1)

pub alike_back : {A : Type 0} (old new : ℕ → A) (xs : List ℕ) → AreAlike old new xs → AreAlike new old xs
alike_back old new [] alike = tt
alike_back old new (x ∷ xs) alike = (sym alike.0, alike_back old new xs alike.1)

pub alike_flat : {A : Type 0} (old new : ℕ → List A) (xs : List ℕ) → AreAlike old new xs → flat_map new xs ≡ flat_map old xs
alike_flat old new [] alike = refl
alike_flat old new (x ∷ xs) alike = rw alike.0 (rw (alike_flat old new xs alike.1) refl)

pub flat_cut : {A : Type 0} (held : ℕ → List A) (xs ys : List ℕ) → flat_map held (xs ++ ys) ≡ flat_map held xs ++ flat_map held ys
flat_cut held [] ys = refl
flat_cut held (x ∷ xs) ys = rw (flat_cut held xs ys) (sym (append_assoc (held x) (flat_map held xs) (flat_map held ys)))

-- what one page had is shared by two
pub flat_shared : {A : Type 0} (old new : ℕ → List A) (xs ys : List ℕ) (p q : ℕ) → AreAlike old new xs → AreAlike old new ys → new p ++ new q ≡ old p
    → flat_map new (xs ++ p ∷ q ∷ ys) ≡ flat_map old (xs ++ p ∷ ys)
flat_shared old new xs ys p q left right shared =
    flat_cut new xs (p ∷ q ∷ ys)
    ∙ ap (λ l. l ++ flat_map new (p ∷ q ∷ ys)) (alike_flat old new xs left)
    ∙ ap (λ l. flat_map old xs ++ (new p ++ (new q ++ l))) (alike_flat old new ys right)
    ∙ ap (λ l. flat_map old xs ++ l) (sym (append_assoc (new p) (new q) (flat_map old ys)))
    ∙ ap (λ l. flat_map old xs ++ (l ++ flat_map old ys)) shared
    ∙ sym (flat_cut old xs (p ∷ ys))

-- levels that are seen alike stand as before
pub alike_above : (old new : ℕ → Node) (upper lower : List ℕ) → AreAlike old new upper → AreAlike old new lower → IsAbove old upper lower
    → IsAbove new upper lower
alike_above old new upper lower one other above = record {
  up = alike_row old new First Last 0 upper one above.up;
  down = alike_row old new First Last 0 lower other above.down;
  are_children = alike_children old new upper one ∙ above.are_children ∙ sym (alike_heads old new lower other);
}

pub alike_levels : (old new : ℕ → Node) (levels : List (List ℕ)) → AreLevelsAlike old new levels → AreLevels old levels → AreLevels new levels
alike_levels old new [] alike stand = tt
alike_levels old new (level ∷ []) alike stand = alike_row old new First Last 0 level alike.0 stand
alike_levels old new (upper ∷ lower ∷ levels) alike stand =
    (alike_above old new upper lower alike.0 alike.1.0 stand.0, alike_levels old new (lower ∷ levels) alike.1 stand.1)
