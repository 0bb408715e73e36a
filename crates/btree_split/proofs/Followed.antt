-- How far a way has come, and the lowest page with room on it.
use Rattle.std.proofs.Common.{◌≡◌, ℕ, ◌+◌, ◌*◌, ◌≤◌, Bool, true, false, drop, List, [], ◌∷◌, ◌++◌, length, Option, None, Some, refl, sym, ◌∙◌, ap, subst}
use Rattle.std.proofs.Common.{append_assoc, length-append, arith}
use Rattle.std.specs.Prelude.{MatchBool}
use Rattle.std.specs.List.{AllByRecursion}
use Rattle.page_format.specs.Words.{level_of, count_of, record_len_of}
use Rattle.law_flat_tree.specs.Levels.{Node}
use Rattle.law_flat_tree.specs.Descents.{Holds}
use Rattle.law_flat_tree.specs.Trees.{AreNumbered, nodes}
use Rattle.law_flat_tree.proofs.Apart.{numbers_from}
use Rattle.law_flat_tree.proofs.Leaves.{both}
use Rattle.law_flat_tree.proofs.PageSplits.{all_in}
use Rattle.law_flat_tree.proofs.Reading.{root_holds}
use Rattle.law_flat_tree.proofs.Rows.{first_of, rest_of}
use Rattle.btree.specs.declared.tree.Tree.{Tree}
use Rattle.btree.specs.Sound.{lows_of, levels_of, IsSoundTree}
use Rattle.btree.proofs.Shown.{same_count, same_width}
use Rattle.btree.proofs.Standing.{Reached}
use Rattle.btree_change.specs.Edits.{HasRoom}
use Rattle.btree_split.specs.Ways.{IsWayTo, EndsFull, IsLowestRoom}

-- The page was reached, and those above it on the way end so.
pub record Followed (tree : Tree) (pages : ℕ → List ℕ) (key : List ℕ) (n page : ℕ) (above : Option ℕ) (full : ℕ) : Type 0 where
  pub reached : Reached tree pages key n page
  pub way : List ℕ
  pub leads : IsWayTo (nodes tree.key_len pages) key reached.tops way
  pub ends : EndsFull pages way above full

-- ---- room, as it is read and as it is

pub room_shown : (bytes page : List ℕ) → drop 20 bytes ≡ drop 20 page → HasRoom bytes → HasRoom page
room_shown bytes page same room =
    subst (λ n. 208 + (n + 1) * record_len_of page ≤ 4096) (same_count bytes page same)
    (subst (λ n. 208 + (count_of bytes + 1) * n ≤ 4096) (same_width bytes page same) room)

pub room_told : (room : Bool) (bytes page : List ℕ) → drop 20 bytes ≡ drop 20 page → MatchBool room (HasRoom bytes) (HasRoom bytes → ⊥)
    → MatchBool room (HasRoom page) (HasRoom page → ⊥)
room_told true bytes page same has = room_shown bytes page same has
room_told false bytes page same none = λ room. none (room_shown page bytes (sym same) room)

-- ---- one page more

way_more : (node : ℕ → Node) (key : List ℕ) (tops : List (List ℕ)) (way upper : List ℕ) (page : ℕ) → IsWayTo node key tops way → Holds node upper key page
    → IsWayTo node key (tops ++ upper ∷ []) (way ++ page ∷ [])
way_more node key [] [] upper page leads holds = (holds, tt)
way_more node key [] (p ∷ way) upper page leads holds = absurd leads
way_more node key (top ∷ tops) [] upper page leads holds = absurd leads
way_more node key (top ∷ tops) (p ∷ way) upper page leads holds = (leads.0, way_more node key tops way upper page leads.1 holds)

-- a list in two parts, of which the one is one longer in front
one_longer : {A : Type 0} (xs ys zs bs : List A) (x : A) → xs ++ x ∷ ys ≡ zs ++ bs → length zs ≡ length xs + 1 → zs ≡ xs ++ x ∷ []
one_longer xs ys [] bs x same longer = absurd (omega (arith, longer))
one_longer [] ys (z ∷ []) bs x same longer = ap (λ a. a ∷ []) (sym (first_of x z ys bs same))
one_longer [] ys (z ∷ b ∷ zs) bs x same longer = absurd (omega (arith, longer))
one_longer (a ∷ xs) ys (z ∷ zs) bs x same longer =
    ap (λ l. z ∷ l) (one_longer xs ys zs bs x (rest_of a z (xs ++ x ∷ ys) (zs ++ bs) same) (omega (arith, longer)))
    ∙ ap (λ b. b ∷ xs ++ x ∷ []) (sym (first_of a z (xs ++ x ∷ ys) (zs ++ bs) same))

nothing : {A : Type 0} (xs : List A) → length xs ≡ 0 → xs ≡ []
nothing [] none = refl
nothing (x ∷ xs) none = absurd (omega (arith, none))

level_at : (tree : Tree) (pages : ℕ → List ℕ) (key : List ℕ) (n page : ℕ) → IsSoundTree tree pages → (reached : Reached tree pages key n page)
    → level_of (pages page) ≡ length reached.under
level_at tree pages key n page sound reached =
    let rest : AreNumbered pages (reached.upper ∷ reached.under) =
    numbers_from pages reached.tops (reached.upper ∷ reached.under) (subst (λ l. AreNumbered pages l) reached.at sound.stands.numbered) in
    all_in (λ x. level_of (pages x) ≡ length reached.under) reached.holds.xs reached.holds.ys page
    (subst (λ l. AllByRecursion (λ x. level_of (pages x) ≡ length reached.under) l) reached.holds.whole rest.0)

pub followed_none : (tree : Tree) (pages : ℕ → List ℕ) (key : List ℕ) → IsSoundTree tree pages → Followed tree pages key 0 tree.root None 0
followed_none tree pages key sound = record {
  reached =
      record {
        tops = [];
        upper = tree.root ∷ [];
        under = lows_of tree pages;
        at = refl;
        depth = refl;
        holds = root_holds tree.key_len pages tree.root (lows_of tree pages) key sound.stands;
      };
  way = [];
  leads = tt;
  ends = (tt, refl);
}

module _ (tree : Tree) (pages : ℕ → List ℕ) (key : List ℕ) (n page : ℕ) (above : Option ℕ) (full : ℕ)
    (followed : Followed tree pages key n page above full) (next : Option ℕ) (more : ℕ)
    (ends : (way : List ℕ) → EndsFull pages way above full → EndsFull pages (way ++ page ∷ []) next more) where
  here : IsWayTo (nodes tree.key_len pages) key (followed.reached.tops ++ followed.reached.upper ∷ []) (followed.way ++ page ∷ [])
  here =
      way_more (nodes tree.key_len pages) key followed.reached.tops followed.way followed.reached.upper page followed.leads followed.reached.holds

  pub followed_on : (child : ℕ) → Reached tree pages key (n + 1) child → Followed tree pages key (n + 1) child next more
  followed_on child reached =
      let longer : length reached.tops ≡ length followed.reached.tops + 1 = reached.depth ∙ ap (λ k. k + 1) (sym followed.reached.depth) in
      let tops : reached.tops ≡ followed.reached.tops ++ followed.reached.upper ∷ [] =
      one_longer followed.reached.tops followed.reached.under reached.tops (reached.upper ∷ reached.under) followed.reached.upper
      (sym followed.reached.at ∙ reached.at) longer in
      record {
        reached = reached;
        way = followed.way ++ page ∷ [];
        leads = subst (λ l. IsWayTo (nodes tree.key_len pages) key l (followed.way ++ page ∷ [])) (sym tops) here;
        ends = ends followed.way followed.ends;
      }

  pub at_leaf : IsSoundTree tree pages → level_of (pages page) ≡ 0 → IsLowestRoom tree pages key next more
  at_leaf sound leaf =
      let none : followed.reached.under ≡ [] = nothing followed.reached.under (sym (level_at tree pages key n page sound followed.reached) ∙ leaf) in
      let levels : levels_of tree pages ≡ followed.reached.tops ++ followed.reached.upper ∷ [] =
      followed.reached.at ∙ ap (λ l. followed.reached.tops ++ followed.reached.upper ∷ l) none in
      record {
        way = followed.way ++ page ∷ [];
        leads = subst (λ l. IsWayTo (nodes tree.key_len pages) key l (followed.way ++ page ∷ [])) (sym levels) here;
        ends = ends followed.way followed.ends;
      }
