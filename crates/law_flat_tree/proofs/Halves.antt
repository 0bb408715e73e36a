-- The two halves of a leaf that is split are leaves, and so is the one that two are merged into.
use Rattle.std.proofs.Common.{◌≡◌, ℕ, List, [], ◌∷◌, ◌++◌, sym, ap, subst}
use Rattle.std.specs.declared.cmp.Ordering.TheVariants.{Less}
use Rattle.std.specs.Ordering.{is_le}
use Rattle.std.specs.List.{AllByRecursion}
use Rattle.entries.specs.Pairs.{Pair, key_cmp, AreRising}
use Rattle.entries.proofs.Order.{key_itself}
use Rattle.law_flat_tree.specs.Levels.{Node, AreAlike}
use Rattle.law_flat_tree.specs.Levels.Fence.{Key}
use Rattle.law_flat_tree.specs.Leaves.{IsUnder, IsFrom, IsLeaf, AreLeaves}
use Rattle.law_flat_tree.proofs.Leaves.{each, both, joined_rise}
use Rattle.law_flat_tree.proofs.Fences.{apart, room_up_to}

all_left : (P : Pair → Type 0) (xs ys : List Pair) → AllByRecursion P (xs ++ ys) → AllByRecursion P xs
all_left P [] ys all = tt
all_left P (x ∷ xs) ys all = (all.0, all_left P xs ys all.1)

all_right : (P : Pair → Type 0) (xs ys : List Pair) → AllByRecursion P (xs ++ ys) → AllByRecursion P ys
all_right P [] ys all = all
all_right P (x ∷ xs) ys all = all_right P xs ys all.1

rising_left : (xs ys : List Pair) → AreRising (xs ++ ys) → AreRising xs
rising_left [] ys rising = tt
rising_left (x ∷ xs) ys rising = (all_left (λ (later : Pair). key_cmp x.0 later.0 ≡ Less) xs ys rising.0, rising_left xs ys rising.1)

rising_right : (xs ys : List Pair) → AreRising (xs ++ ys) → AreRising ys
rising_right [] ys rising = rising
rising_right (x ∷ xs) ys rising = rising_right xs ys rising.1

left_under : (xs : List Pair) (pair : Pair) (ys : List Pair) → AreRising (xs ++ pair ∷ ys) → AllByRecursion (λ (x : Pair). key_cmp x.0 pair.0 ≡ Less) xs
left_under [] pair ys rising = tt
left_under (x ∷ xs) pair ys rising = ((all_right (λ (later : Pair). key_cmp x.0 later.0 ≡ Less) xs (pair ∷ ys) rising.0).0, left_under xs pair ys rising.1)

pub lower_leaf : (node lower : Node) (x : Pair) (xs : List Pair) (pair : Pair) (ys : List Pair) → IsLeaf node (x ∷ (xs ++ pair ∷ ys)) → lower.low ≡ node.low
    → lower.high ≡ Key pair.0 → IsLeaf lower (x ∷ xs)
lower_leaf node lower x xs pair ys leaf low high =
    let below = left_under (x ∷ xs) pair ys leaf.rising in
    record {
      room = record { key = x.0; from = subst (λ f. IsFrom f x.0) (sym low) leaf.from.0; under = subst (λ f. IsUnder f x.0) (sym high) below.0 };
      from = subst (λ f. AllByRecursion (λ (p : Pair). IsFrom f p.0) (x ∷ xs)) (sym low) (all_left (λ p. IsFrom node.low p.0) (x ∷ xs) (pair ∷ ys) leaf.from);
      under = subst (λ f. AllByRecursion (λ (p : Pair). IsUnder f p.0) (x ∷ xs)) (sym high) below;
      rising = rising_left (x ∷ xs) (pair ∷ ys) leaf.rising;
    }

pub upper_leaf : (node upper : Node) (xs : List Pair) (pair : Pair) (ys : List Pair) → IsLeaf node (xs ++ pair ∷ ys) → upper.low ≡ Key pair.0
    → upper.high ≡ node.high → IsLeaf upper (pair ∷ ys)
upper_leaf node upper xs pair ys leaf low high =
    let under = all_right (λ p. IsUnder node.high p.0) xs (pair ∷ ys) leaf.under in
    let rising = rising_right xs (pair ∷ ys) leaf.rising in
    let itself : IsFrom (Key pair.0) pair.0 = ap is_le (key_itself pair.0) in
    record {
      room = record { key = pair.0; from = subst (λ f. IsFrom f pair.0) (sym low) itself; under = subst (λ f. IsUnder f pair.0) (sym high) under.0 };
      from =
          subst (λ f. AllByRecursion (λ (p : Pair). IsFrom f p.0) (pair ∷ ys)) (sym low)
          (itself, each (λ (p : Pair). key_cmp pair.0 p.0 ≡ Less) (λ p. IsFrom (Key pair.0) p.0) (λ p less. ap is_le less) ys rising.0);
      under = subst (λ f. AllByRecursion (λ (p : Pair). IsUnder f p.0) (pair ∷ ys)) (sym high) under;
      rising = rising;
    }

-- two leaves, one behind the other
pub merged_leaf : (one other node : Node) (xs ys : List Pair) → IsLeaf one xs → IsLeaf other ys → other.low ≡ one.high → node.low ≡ one.low
    → node.high ≡ other.high → IsLeaf node (xs ++ ys)
merged_leaf one other node xs ys first second meet low high =
    let left = room_up_to one.low one.high first.room in
    let right = room_up_to other.low other.high second.room in
    let from_ys : AllByRecursion (λ (p : Pair). IsFrom one.high p.0) ys = subst (λ f. AllByRecursion (λ (p : Pair). IsFrom f p.0) ys) meet second.from in
    let under_xs : AllByRecursion (λ (p : Pair). IsUnder other.low p.0) xs =
    subst (λ f. AllByRecursion (λ (p : Pair). IsUnder f p.0) xs) (sym meet) first.under in
    record {
      room = record {
        key = first.room.key;
        from = subst (λ f. IsFrom f first.room.key) (sym low) first.room.from;
        under =
            subst (λ f. IsUnder f first.room.key) (sym high) (right.under first.room.key (subst (λ f. IsUnder f first.room.key) (sym meet) first.room.under));
      };
      from = subst (λ f. AllByRecursion (λ (p : Pair). IsFrom f p.0) (xs ++ ys)) (sym low)
          (both (λ (p : Pair). IsFrom one.low p.0) xs ys first.from
          (each (λ (p : Pair). IsFrom one.high p.0) (λ p. IsFrom one.low p.0) (λ p is. left.from p.0 is) ys from_ys));
      under = subst (λ f. AllByRecursion (λ (p : Pair). IsUnder f p.0) (xs ++ ys)) (sym high)
          (both (λ (p : Pair). IsUnder other.high p.0) xs ys
          (each (λ (p : Pair). IsUnder other.low p.0) (λ p. IsUnder other.high p.0) (λ p is. right.under p.0 is) xs under_xs) second.under);
      rising = joined_rise xs ys first.rising second.rising
          (each (λ (p : Pair). IsUnder one.high p.0) (λ (p : Pair). AllByRecursion (λ (later : Pair). key_cmp p.0 later.0 ≡ Less) ys)
          (λ p under. each (λ (later : Pair). IsFrom one.high later.0) (λ (later : Pair). key_cmp p.0 later.0 ≡ Less)
          (λ later from. apart one.high p.0 later.0 under from) ys from_ys) xs first.under);
    }

pub alike_leaves : (old new : ℕ → Node) (held kept : ℕ → List Pair) (xs : List ℕ) → AreAlike old new xs → AreAlike held kept xs → AreLeaves old held xs
    → AreLeaves new kept xs
alike_leaves old new held kept [] one other leaves = tt
alike_leaves old new held kept (x ∷ xs) one other leaves = (
  subst (λ (n : Node). IsLeaf n (kept x)) (sym one.0) (subst (λ l. IsLeaf (old x) l)
      (sym other.0) leaves.0),
  alike_leaves old new held kept xs one.1 other.1 leaves.1,
)

pub split_leaves : (old new : ℕ → Node) (held kept : ℕ → List Pair) (xs ys : List ℕ) (p q : ℕ) → AreAlike old new xs → AreAlike held kept xs
    → AreAlike old new ys → AreAlike held kept ys
    → IsLeaf (new p) (kept p) → IsLeaf (new q) (kept q) → AreLeaves old held (xs ++ p ∷ ys) → AreLeaves new kept (xs ++ p ∷ q ∷ ys)
split_leaves old new held kept [] ys p q left left' right right' lower upper leaves = (lower, (upper, alike_leaves old new held kept ys right right' leaves.1))
split_leaves old new held kept (x ∷ xs) ys p q left left' right right' lower upper leaves = (
  subst (λ (n : Node). IsLeaf n (kept x)) (sym left.0) (subst (λ l. IsLeaf (old x) l) (sym left'.0) leaves.0),
  split_leaves old new held kept xs ys p q left.1 left'.1 right right' lower upper leaves.1,
)

pub merge_leaves : (old new : ℕ → Node) (held kept : ℕ → List Pair) (xs ys : List ℕ) (p q : ℕ) → AreAlike old new xs → AreAlike held kept xs
    → AreAlike old new ys → AreAlike held kept ys
    → IsLeaf (new p) (kept p) → AreLeaves old held (xs ++ p ∷ q ∷ ys) → AreLeaves new kept (xs ++ p ∷ ys)
merge_leaves old new held kept [] ys p q left left' right right' one leaves = (one, alike_leaves old new held kept ys right right' leaves.1.1)
merge_leaves old new held kept (x ∷ xs) ys p q left left' right right' one leaves = (
  subst (λ (n : Node). IsLeaf n (kept x)) (sym left.0) (subst (λ l. IsLeaf (old x) l) (sym left'.0) leaves.0),
  merge_leaves old new held kept xs ys p q left.1 left'.1 right right' one leaves.1,
)
