-- A search goes to the page whose fences hold its key.
use Rattle.std.proofs.Common.{◌≡◌, ℕ, List, [], ◌∷◌, ◌++◌, refl, sym, ◌∙◌, ap, subst, append_assoc}
use Rattle.law_flat_tree.specs.Levels.{Fence, Node, IsRow, heads, children, IsAbove, AreLevels}
use Rattle.law_flat_tree.specs.Levels.Fence.{First, Last}
use Rattle.law_flat_tree.specs.Leaves.{IsUnder, IsFrom}
use Rattle.law_flat_tree.specs.Descents.{BeginsAt, AreInner, IsUnderNext, Holds, LeadsTo, IsWay, end_of, AreAllInner, IsAsDeep, leaves_of}
use Rattle.law_flat_tree.proofs.Rows.{cut, IsCut, found, children_cut}

-- the child of an entry, and the pages of the entries before and behind
pub child_place : (node : ℕ → Node) (cs ds lower : List ℕ) (u : ℕ) (e f : List (Fence × ℕ)) (fence : Fence) (p : ℕ)
    → IsAbove node (cs ++ u ∷ ds) lower → (node u).entries ≡ e ++ (fence, p) ∷ f → IsCut node lower (children node cs ++ e) fence p (f ++ children node ds)
child_place node cs ds lower u e f fence p above entries =
    found node lower (children node cs ++ e) (f ++ children node ds) fence p
    (sym above.are_children
    ∙ children_cut node cs (u ∷ ds)
    ∙ ap (λ l. children node cs ++ (l ++ children node ds)) entries
    ∙ ap (λ l. children node cs ++ l) (append_assoc e ((fence, p) ∷ f) (children node ds))
    ∙ sym (append_assoc (children node cs) e ((fence, p) ∷ (f ++ children node ds))))

-- no entry and no page behind: the key is under the end; else it is under the next entry's fence
abbrev IsUnderAll : List (Fence × ℕ) → List ℕ → Type 0
IsUnderAll [] key = IsUnder Last key
IsUnderAll (entry ∷ entries) key = IsUnder entry.0 key

-- the end of a row is where the pages behind begin
under_end : (node : ℕ → Node) (high : Fence) (ys : List ℕ) (key : List ℕ) → IsRow node high ys Last 0 → IsUnderAll (heads node ys) key → IsUnder high key
under_end node high [] key row under = subst (λ f. IsUnder f key) (sym row) under
under_end node high (y ∷ ys) key row under = subst (λ f. IsUnder f key) row.0 under

-- the fence of the next parent's first entry
under_parents : (node : ℕ → Node) (high : Fence) (ds : List ℕ) (key : List ℕ) → IsRow node high ds Last 0 → AreInner node ds → IsUnder high key
    → IsUnderAll (children node ds) key
under_parents node high [] key row inner under = subst (λ f. IsUnder f key) row under
under_parents node high (d ∷ ds) key row inner under = go (node d).entries inner.0 where
  go : (entries : List (Fence × ℕ)) → BeginsAt (node d).low entries → IsUnderAll (entries ++ children node ds) key
  go [] begins = absurd begins
  go (entry ∷ entries) begins = subst (λ f. IsUnder f key) (sym (begins ∙ row.0)) under

under_behind : (node : ℕ → Node) (high : Fence) (f : List (Fence × ℕ)) (ds : List ℕ) (key : List ℕ) → IsRow node high ds Last 0 → AreInner node ds
    → IsUnder high key → IsUnderNext f key → IsUnderAll (f ++ children node ds) key
under_behind node high [] ds key row inner under next = under_parents node high ds key row inner under
under_behind node high (entry ∷ f) ds key row inner under next = next

inner_behind : (node : ℕ → Node) (cs ds : List ℕ) (u : ℕ) → AreInner node (cs ++ u ∷ ds) → AreInner node ds
inner_behind node [] ds u inner = inner.1
inner_behind node (c ∷ cs) ds u inner = inner_behind node cs ds u inner.1

pub child_holds : (node : ℕ → Node) (upper lower : List ℕ) (key : List ℕ) (u p : ℕ) → IsAbove node upper lower → AreInner node upper → Holds node upper key u
    → LeadsTo node key u p → Holds node lower key p
child_holds node upper lower key u p above inner holds leads =
    let above' : IsAbove node (holds.xs ++ u ∷ holds.ys) lower = subst (λ l. IsAbove node l lower) holds.whole above in
    let inner' : AreInner node (holds.xs ++ u ∷ holds.ys) = subst (λ l. AreInner node l) holds.whole inner in
    let place = child_place node holds.xs holds.ys lower u leads.before leads.behind leads.fence p above' leads.chosen.whole in
    let parents = cut node First Last 0 holds.xs (u ∷ holds.ys) above'.up in
    let pages = cut node First Last 0 place.xs (p ∷ place.ys) (subst (λ l. IsRow node First l Last 0) place.whole above'.down) in
    record {
      xs = place.xs;
      ys = place.ys;
      whole = place.whole;
      from = subst (λ f. IsFrom f key) (sym place.fence_is) leads.chosen.from;
      under = under_end node (node p).high place.ys key pages.2.2
          (subst (λ l. IsUnderAll l key) (sym place.behind_is)
          (under_behind node (node u).high leads.behind holds.ys key parents.2.2
          (inner_behind node holds.xs holds.ys u inner') holds.under leads.chosen.under));
    }

-- the way from a page that holds the key ends at a leaf that holds it
pub way_holds : (node : ℕ → Node) (levels : List (List ℕ)) (level : List ℕ) (key : List ℕ) (page : ℕ) (way : List ℕ) → AreLevels node (level ∷ levels)
    → AreAllInner node (level ∷ levels) → IsAsDeep way (level ∷ levels)
    → Holds node level key page → IsWay node key page way → Holds node (leaves_of (level ∷ levels)) key (end_of page way)
way_holds node [] level key page [] stand inner deep holds is_way = holds
way_holds node [] level key page (child ∷ way) stand inner deep holds is_way = absurd deep
way_holds node (lower ∷ levels) level key page [] stand inner deep holds is_way = absurd deep
way_holds node (lower ∷ levels) level key page (child ∷ way) stand inner deep holds is_way =
    way_holds node levels lower key child way stand.1 inner.1 deep (child_holds node level lower key page child stand.0 inner.0 holds is_way.0) is_way.1

-- the root holds each key
pub root_holds : (node : ℕ → Node) (root : ℕ) (key : List ℕ) → IsRow node First (root ∷ []) Last 0 → Holds node (root ∷ []) key root
root_holds node root key row = record {
  xs = [];
  ys = [];
  whole = refl;
  from = subst (λ f. IsFrom f key) (sym row.0) tt;
  under = subst (λ f. IsUnder f key) (sym row.2) tt;
}
