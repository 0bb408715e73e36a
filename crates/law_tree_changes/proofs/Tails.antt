-- The keys of an inner page behind its first one rise.
use Rattle.std.proofs.Common.{◌≡◌, ℕ, true, false, Bool, if◌then◌else◌, ◌==◌, List, [], ◌∷◌, ◌++◌, take, map, sym, ◌∙◌, ap, subst}
use Rattle.std.specs.declared.cmp.Ordering.{Ordering}
use Rattle.std.specs.declared.cmp.Ordering.TheVariants.{Less, Equal, Greater}
use Rattle.std.specs.Ordering.{is_le}
use Rattle.std.specs.List.{AllByRecursion}
use Rattle.std.proofs.lemmas.Bool.{false≢true}
use Rattle.std.proofs.Common.{refl}
use Rattle.entries.specs.Pairs.{key_cmp}
use Rattle.entries.proofs.Order.{key_cmp_is, same_key, below_all}
use Rattle.page_format.specs.Words.{level_of, low_of, records_of}
use Rattle.page_format.specs.Shape.{AreRising}
use Rattle.law_flat_tree.specs.Levels.{Fence, Node, IsRow, heads, children, AreLevels}
use Rattle.law_flat_tree.specs.Levels.Fence.{First, Key, Last}
use Rattle.law_flat_tree.specs.Leaves.{HasRoom, HaveRoom}
use Rattle.law_flat_tree.specs.Descents.{BeginsAt, AreInner, AreAllInner}
use Rattle.law_flat_tree.specs.Pages.{low_fence, entry_of, entries_of}
use Rattle.law_flat_tree.specs.Trees.{IsTree, nodes, pairs_in, levels_from}
use Rattle.law_flat_tree.proofs.Apart.{behind_of}
use Rattle.law_flat_tree.proofs.Reading.{above_in, inner_in, page_inner}
use Rattle.law_flat_tree.proofs.Rooms.{all_rooms}
use Rattle.law_flat_tree.proofs.Rows.{children_cut}
use Rattle.law_tree_changes.specs.Splits.{later}

-- between each fence and the next one there is room
abbrev pub HaveGaps : List (Fence × ℕ) → Type 0
HaveGaps [] = Unit {0}
HaveGaps (one ∷ []) = Unit {0}
HaveGaps (one ∷ other ∷ more) = HasRoom one.0 other.0 × HaveGaps (other ∷ more)

row_gaps : (node : ℕ → Node) (low high : Fence) (next : ℕ) (xs : List ℕ) → IsRow node low xs high next → HaveRoom node xs → HaveGaps (heads node xs)
row_gaps node low high next [] row rooms = tt
row_gaps node low high next (x ∷ []) row rooms = tt
row_gaps node low high next (x ∷ y ∷ xs) row rooms = (
  subst (λ fence. HasRoom (node x).low fence) (sym row.2.0) rooms.0,
  row_gaps node (node x).high high next (y ∷ xs) row.2 rooms.1,
)

gaps_behind : (es fs : List (Fence × ℕ)) → HaveGaps (es ++ fs) → HaveGaps fs
gaps_behind [] fs gaps = gaps
gaps_behind (e ∷ []) [] gaps = tt
gaps_behind (e ∷ []) (f ∷ fs) gaps = gaps.1
gaps_behind (e ∷ d ∷ es) fs gaps = gaps_behind (d ∷ es) fs gaps.1

gaps_before : (es fs : List (Fence × ℕ)) → HaveGaps (es ++ fs) → HaveGaps es
gaps_before [] fs gaps = tt
gaps_before (e ∷ []) fs gaps = tt
gaps_before (e ∷ d ∷ es) fs gaps = (gaps.0, gaps_before (d ∷ es) fs gaps.1)

-- room between two keys
key_gap : (one other : List ℕ) → HasRoom (Key one) (Key other) → key_cmp one other ≡ Less
key_gap one other room = go (key_cmp one room.key) refl where
  go : (o : Ordering) → o ≡ key_cmp one room.key → key_cmp one other ≡ Less
  go Less is = below_all one room.key other (sym is) room.under
  go Equal is = subst (λ k. key_cmp k other ≡ Less) (sym (same_key one room.key (sym is))) room.under
  go Greater is = absurd (false≢true (ap is_le is ∙ room.from))

keys_rise : (n : ℕ) (rs : List (List ℕ)) → HaveGaps (map (entry_of n) rs) → AreRising (map (take n) rs)
keys_rise n [] gaps = tt
keys_rise n (r ∷ []) gaps = tt
keys_rise n (r ∷ s ∷ ss) gaps = (sym (key_cmp_is (take n r) (take n s)) ∙ key_gap (take n r) (take n s) gaps.0, keys_rise n (s ∷ ss) gaps.1)

behind_first : (n : ℕ) (low : Fence) (rs : List (List ℕ)) → HaveGaps (entries_of n low rs) → AreRising (map (take n) (later rs))
behind_first n low [] gaps = tt
behind_first n low (r ∷ []) gaps = tt
behind_first n low (r ∷ s ∷ ss) gaps = keys_rise n (s ∷ ss) gaps.1

-- an inner page has its records' entries
inner_entries : (n : ℕ) (low : Fence) (leaf : Bool) (rs : List (List ℕ)) → BeginsAt low (if leaf then [] else entries_of n low rs)
    → (if leaf then [] else entries_of n low rs) ≡ entries_of n low rs
inner_entries n low true rs begins = absurd begins
inner_entries n low false rs begins = refl

pub tail_rises : (n : ℕ) (pages : ℕ → List ℕ) (root : ℕ) (lows tops : List (List ℕ)) (cs ds lower : List ℕ) (under : List (List ℕ)) (u : ℕ)
    → IsTree n pages root lows → levels_from root lows ≡ tops ++ (cs ++ u ∷ ds) ∷ lower ∷ under
    → AreRising (map (take n) (later (records_of (pages u))))
tail_rises n pages root lows tops cs ds lower under u tree at =
    let node = nodes n pages in
    let rooms : AllByRecursion (λ l. HaveRoom node l) ((cs ++ u ∷ ds) ∷ lower ∷ under) =
    behind_of (λ l. HaveRoom node l) tops ((cs ++ u ∷ ds) ∷ lower ∷ under)
    (subst (λ ls. AllByRecursion (λ l. HaveRoom node l) ls) at
    (all_rooms node (pairs_in n pages) (root ∷ []) lows tree.levels tree.inner tree.leaves)) in
    let above = above_in node tops (cs ++ u ∷ ds) lower under (subst (λ l. AreLevels node l) at tree.levels) in
    let inner : AreInner node (cs ++ u ∷ ds) = inner_in node tops (cs ++ u ∷ ds) lower under (subst (λ l. AreAllInner node l) at tree.inner) in
    let gaps : HaveGaps (heads node lower) = row_gaps node First Last 0 lower above.down rooms.1.0 in
    let whole : heads node lower ≡ children node cs ++ ((node u).entries ++ children node ds) = sym above.are_children ∙ children_cut node cs (u ∷ ds) in
    let here : HaveGaps (node u).entries =
    gaps_before (node u).entries (children node ds)
    (gaps_behind (children node cs) ((node u).entries ++ children node ds) (subst (λ l. HaveGaps l) whole gaps)) in
    let entries = inner_entries n (low_fence (low_of (pages u))) (level_of (pages u) == 0) (records_of (pages u)) (page_inner node cs ds u inner) in
    behind_first n (low_fence (low_of (pages u))) (records_of (pages u)) (subst (λ l. HaveGaps l) entries here)
