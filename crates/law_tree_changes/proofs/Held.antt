-- One page of a level alone holds a key.
use Rattle.std.proofs.Common.{◌≡◌, ℕ, List, [], ◌∷◌, ◌++◌, sym, ◌∙◌, ap, subst}
use Rattle.std.specs.Ordering.{is_lt}
use Rattle.std.specs.List.{AllByRecursion}
use Rattle.std.proofs.lemmas.Bool.{false≢true}
use Rattle.entries.proofs.Order.{key_itself}
use Rattle.law_flat_tree.specs.Levels.{Fence, Node, IsRow, AreLevels}
use Rattle.law_flat_tree.specs.Levels.Fence.{First, Last}
use Rattle.law_flat_tree.specs.Leaves.{IsUnder, IsFrom, IsUpTo, HaveRoom}
use Rattle.law_flat_tree.specs.Descents.{Holds}
use Rattle.law_flat_tree.specs.Trees.{IsTree, nodes, pairs_in, levels_from}
use Rattle.law_flat_tree.proofs.Apart.{behind_of}
use Rattle.law_flat_tree.proofs.Fences.{apart, room_up_to}
use Rattle.law_flat_tree.proofs.Rooms.{all_rooms}
use Rattle.law_flat_tree.proofs.Rows.{first_of, rest_of}

-- a row begins at or before each of its pages
up_to_page : (node : ℕ → Node) (low high : Fence) (next : ℕ) (xs ys : List ℕ) (q : ℕ) → IsRow node low (xs ++ q ∷ ys) high next
    → HaveRoom node (xs ++ q ∷ ys) → IsUpTo low (node q).low
up_to_page node low high next [] ys q row rooms = record {
  under = λ key under. subst (λ f. IsUnder f key) (sym row.0) under;
  from = λ key from. subst (λ f. IsFrom f key) row.0 from;
}
up_to_page node low high next (x ∷ xs) ys q row rooms =
    let here = room_up_to (node x).low (node x).high rooms.0 in
    let more = up_to_page node (node x).high high next xs ys q row.2 rooms.1 in
    record {
      under = λ key under. more.under key (here.under key (subst (λ f. IsUnder f key) (sym row.0) under));
      from = λ key from. subst (λ f. IsFrom f key) row.0 (here.from key (more.from key from));
    }

-- a key under a fence isn't from there on
not_both : (fence : Fence) (key : List ℕ) → IsUnder fence key → IsFrom fence key → ⊥
not_both fence key under from = false≢true (sym (ap is_lt (key_itself key)) ∙ ap is_lt (apart fence key key under from))

same_place : (node : ℕ → Node) (low high : Fence) (next : ℕ) (key : List ℕ) (xs ys vs ws : List ℕ) (p q : ℕ) → xs ++ p ∷ ys ≡ vs ++ q ∷ ws
    → IsRow node low (xs ++ p ∷ ys) high next → HaveRoom node (xs ++ p ∷ ys)
    → IsFrom (node p).low key → IsUnder (node p).high key → IsFrom (node q).low key → IsUnder (node q).high key → p ≡ q
same_place node low high next key [] ys [] ws p q same row rooms p_from p_under q_from q_under = first_of p q ys ws same
same_place node low high next key [] ys (v ∷ vs) ws p q same row rooms p_from p_under q_from q_under =
    let is : ys ≡ vs ++ q ∷ ws = rest_of p v ys (vs ++ q ∷ ws) same in
    let up = up_to_page node (node p).high high next vs ws q (subst (λ l. IsRow node (node p).high l high next) is row.2)
    (subst (λ l. HaveRoom node l) is rooms.1) in
    absurd (not_both (node p).high key p_under (up.from key q_from))
same_place node low high next key (x ∷ xs) ys [] ws p q same row rooms p_from p_under q_from q_under =
    let is : q ≡ x = sym (first_of x q (xs ++ p ∷ ys) ws same) in
    let up = up_to_page node (node x).high high next xs ys p row.2 rooms.1 in
    absurd (not_both (node x).high key (subst (λ r. IsUnder (node r).high key) is q_under) (up.from key p_from))
same_place node low high next key (x ∷ xs) ys (v ∷ vs) ws p q same row rooms p_from p_under q_from q_under =
    same_place node (node x).high high next key xs ys vs ws p q (rest_of x v (xs ++ p ∷ ys) (vs ++ q ∷ ws) same) row.2 rooms.1 p_from p_under q_from q_under

row_in : (node : ℕ → Node) (tops : List (List ℕ)) (level : List ℕ) (under : List (List ℕ)) → AreLevels node (tops ++ level ∷ under)
    → IsRow node First level Last 0
row_in node [] level [] stand = stand
row_in node [] level (lower ∷ under) stand = stand.0.up
row_in node (top ∷ []) level under stand = row_in node [] level under stand.1
row_in node (top ∷ next ∷ tops) level under stand = row_in node (next ∷ tops) level under stand.1

pub one_holder : (n : ℕ) (pages : ℕ → List ℕ) (root : ℕ) (lows tops : List (List ℕ)) (level : List ℕ) (under : List (List ℕ)) (key : List ℕ) (p q : ℕ)
    → IsTree n pages root lows → levels_from root lows ≡ tops ++ level ∷ under → Holds (nodes n pages) level key p → Holds (nodes n pages) level key q
    → p ≡ q
one_holder n pages root lows tops level under key p q tree at one other =
    let node = nodes n pages in
    let row : IsRow node First level Last 0 = row_in node tops level under (subst (λ l. AreLevels node l) at tree.levels) in
    let rooms : AllByRecursion (λ l. HaveRoom node l) (level ∷ under) =
    behind_of (λ l. HaveRoom node l) tops (level ∷ under)
    (subst (λ ls. AllByRecursion (λ l. HaveRoom node l) ls) at
    (all_rooms node (pairs_in n pages) (root ∷ []) lows tree.levels tree.inner tree.leaves)) in
    same_place node First Last 0 key one.xs one.ys other.xs other.ys p q (sym one.whole ∙ other.whole)
    (subst (λ l. IsRow node First l Last 0) one.whole row) (subst (λ l. HaveRoom node l) one.whole rooms.0) one.from one.under other.from other.under
