-- How fences stand to keys and to one another, and that no page stands twice in a row.
use Rattle.std.proofs.Common.{◌≡◌, ◌≢◌, ℕ, List, [], ◌∷◌, ◌++◌, refl, sym, ◌∙◌, ap, subst, true}
use Rattle.std.specs.declared.cmp.Ordering.{Ordering}
use Rattle.std.specs.declared.cmp.Ordering.TheVariants.{Less, Equal, Greater}
use Rattle.std.specs.Ordering.{is_le, is_eq}
use Rattle.std.proofs.lemmas.Bool.{false≢true}
use Rattle.std.specs.List.{AllByRecursion}
use Rattle.entries.specs.Pairs.{key_cmp}
use Rattle.entries.proofs.Order.{key_cmp_total, same_key, key_itself}
use Rattle.law_flat_tree.specs.Levels.{Fence, Node, IsRow, AreAlike}
use Rattle.law_flat_tree.specs.Levels.Fence.{First, Key, Last}
use Rattle.law_flat_tree.specs.Leaves.{IsUnder, IsFrom, IsUpTo, HasRoom, HaveRoom, AreOthers}

across : (f key other : List ℕ) (o : Ordering) → key_cmp f other ≡ o → key_cmp key f ≡ Less → is_le o ≡ true → key_cmp key other ≡ Less
across f key other Less is under le = key_cmp_total.trans key f other under is
across f key other Equal is under le = subst (λ k. key_cmp key k ≡ Less) (same_key f other is) under
across f key other Greater is under le = absurd (cc)

pub apart : (fence : Fence) (key other : List ℕ) → IsUnder fence key → IsFrom fence other → key_cmp key other ≡ Less
apart First key other under from = absurd under
apart (Key f) key other under from = across f key other (key_cmp f other) refl under from
apart Last key other under from = absurd from

-- what is below a key that is under a fence is under it
pub under_lower : (fence : Fence) (key other : List ℕ) → key_cmp key other ≡ Less → IsUnder fence other → IsUnder fence key
under_lower First key other lt under = under
under_lower (Key f) key other lt under = key_cmp_total.trans key other f lt under
under_lower Last key other lt under = tt

lifted : (f key other : List ℕ) (o : Ordering) → key_cmp f key ≡ o → key_cmp key other ≡ Less → is_le o ≡ true → is_le (key_cmp f other) ≡ true
lifted f key other Less is lt le = ap is_le (key_cmp_total.trans f key other is lt)
lifted f key other Equal is lt le = subst (λ k. is_le (key_cmp k other) ≡ true) (sym (same_key f key is)) (ap is_le lt)
lifted f key other Greater is lt le = absurd (cc)

pub from_higher : (fence : Fence) (key other : List ℕ) → key_cmp key other ≡ Less → IsFrom fence key → IsFrom fence other
from_higher First key other lt from = tt
from_higher (Key f) key other lt from = lifted f key other (key_cmp f key) refl lt from
from_higher Last key other lt from = from

pub room_up_to : (low high : Fence) → HasRoom low high → IsUpTo low high
room_up_to low high room = record {
  under = λ key under. under_lower high key room.key (apart low key room.key under room.from) room.under;
  from = λ key from. from_higher low room.key key (apart high room.key key room.under from) room.from;
}

-- the same page can't stand behind where it ends
not_behind : (low high : Fence) → HasRoom low high → IsUpTo high low → ⊥
not_behind low high room up_to =
    false≢true (sym (ap is_eq (sym (key_itself room.key) ∙ apart low room.key room.key (up_to.under room.key room.under) room.from)))

later : (node : ℕ → Node) (page : ℕ) (low high : Fence) (next : ℕ) (zs : List ℕ) → HasRoom (node page).low (node page).high → IsUpTo (node page).high low
    → IsRow node low zs high next → HaveRoom node zs → AreOthers page zs
later node page low high next [] room up_to row rooms = tt
later node page low high next (z ∷ zs) room up_to row rooms =
    let to_z : IsUpTo (node page).high (node z).low = subst (λ f. IsUpTo (node page).high f) (sym row.0) up_to in
    let on = room_up_to (node z).low (node z).high rooms.0 in (
      (λ same. not_behind (node page).low (node page).high room (subst (λ n. IsUpTo (node page).high (node n).low) same to_z)),
      later node page (node z).high high next zs room (record {
        under = λ k u. on.under k (to_z.under k u);
        from = λ k u. to_z.from k
            (on.from k u);
      }) row.2 rooms.1,
    )

in_middle : (P : ℕ → Type 0) (xs ys : List ℕ) (p : ℕ) → AllByRecursion P (xs ++ p ∷ ys) → P p
in_middle P [] ys p all = all.0
in_middle P (x ∷ xs) ys p all = in_middle P xs ys p all.1

pub others_before : (node : ℕ → Node) (low high : Fence) (next : ℕ) (xs ys : List ℕ) (p : ℕ) → IsRow node low (xs ++ p ∷ ys) high next
    → HaveRoom node (xs ++ p ∷ ys) → AreOthers p xs
others_before node low high next [] ys p row rooms = tt
others_before node low high next (x ∷ xs) ys p row rooms = (
  (λ same. in_middle (λ other. other ≢ x) xs ys p (later node x (node x).high high next (xs ++ p ∷ ys) rooms.0
      (record { under = λ k u. u; from = λ k u. u }) row.2 rooms.1) (sym same)),
  others_before node (node x).high high next xs ys p row.2 rooms.1,
)

pub others_behind : (node : ℕ → Node) (low high : Fence) (next : ℕ) (xs ys : List ℕ) (p : ℕ) → IsRow node low (xs ++ p ∷ ys) high next
    → HaveRoom node (xs ++ p ∷ ys) → AreOthers p ys
others_behind node low high next [] ys p row rooms =
    later node p (node p).high high next ys rooms.0 (record { under = λ k u. u; from = λ k u. u }) row.2 rooms.1
others_behind node low high next (x ∷ xs) ys p row rooms = others_behind node (node x).high high next xs ys p row.2 rooms.1

-- where one page alone has changed, the others are seen alike
pub others_alike : {A : Type 0} (old new : ℕ → A) (p : ℕ) (xs : List ℕ) → ((q : ℕ) → q ≢ p → new q ≡ old q) → AreOthers p xs → AreAlike old new xs
others_alike old new p [] same others = tt
others_alike old new p (x ∷ xs) same others = (same x others.0, others_alike old new p xs same others.1)

-- A page that bears another mark, as its level or its index, stands in none of these places.
pub others_by_mark : {A : Type 0} (mark : ℕ → A) (a : A) (page : ℕ) (xs : List ℕ) → AllByRecursion (λ x. mark x ≡ a) xs → (mark page ≡ a → ⊥)
    → AreOthers page xs
others_by_mark mark a page [] all other = tt
others_by_mark mark a page (x ∷ xs) all other = ((λ same. other (subst (λ y. mark y ≡ a) same all.0)), others_by_mark mark a page xs all.1 other)
