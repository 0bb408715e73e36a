-- A row below that stands is the one that a walk finds, and no row has as many pages as the file.
use Rattle.std.proofs.Common.{◌≡◌, ◌≢◌, inl, inr, ℕ, suc, ◌<◌, ◌≤◌, ◌||◌, Bool, true, false, if◌then◌else◌}
use Rattle.std.proofs.Common.{List, [], ◌∷◌, ◌++◌, length, take, drop, get_or, eqb, refl, sym, ◌∙◌, ap, subst, append_assoc, arith}
use Rattle.std.specs.Prelude.{Option, None, Some, MatchBool}
use Rattle.std.specs.List.{AllByRecursion, IsDistinct, list_any}
use Rattle.std.proofs.lemmas.Bool.{ne_eqb}
use Rattle.std.proofs.lemmas.Bool.Decides.{eqb_tells}
use Rattle.std.proofs.lemmas.List.{append_cancel_left, take-append-drop, take_all}
use Rattle.std.proofs.lemmas.Map.Steps.{length-le_from_distinct_below}
use Rattle.page_format.specs.Words.{count_of, low_of, high_of, records_of}
use Rattle.page_format.specs.Shape.{HasTreeOrder}
use Rattle.law_flat_tree.specs.Levels.{Fence, Node, IsRow, heads, children, head_or}
use Rattle.law_flat_tree.specs.Levels.Fence.{First, Key, Last}
use Rattle.law_flat_tree.specs.Leaves.{HasRoom, HaveRoom}
use Rattle.law_flat_tree.specs.Pages.{low_fence, high_fence, child_of, entries_of}
use Rattle.law_flat_tree.proofs.Apart.{each_of, behind_of}
use Rattle.law_flat_tree.proofs.Fences.{others_behind}
use Rattle.law_flat_tree.proofs.PageSplits.{all_in}
use Rattle.law_flat_tree.proofs.Rows.{cut, children_cut}
use Rattle.btree.specs.declared.tree.Tree.{Tree}
use Rattle.tree_check.specs.declared.rows.Walk.{Walk}
use Rattle.tree_check.specs.Rows.{page_in, node_in, entry_fence, end_before, IsNodeAt, IsNextChild, IsRowEnd, IsCheckedRow, HasRowBelow}
use Rattle.tree_check.proofs.Nodes.{not_header}
use Rattle.tree_check.proofs.Leaf.{room_of}
use Rattle.tree_check.proofs.Walking.{Walked, first_entries, entry_more, all_records, inner_entries, upper_node}

-- only the end of a row, and only what isn't it
abbrev IsLast : Fence → Type 0
IsLast First = ⊥
IsLast (Key key) = ⊥
IsLast Last = Unit {0}

no_high : (high : Option (List ℕ)) → high_fence high ≡ Last → high ≡ None
no_high None is = refl
no_high (Some key) is = absurd (subst (λ f. IsLast f) (sym is) tt)

not_both : First ≡ Last → ⊥
not_both same = subst (λ f. IsLast f) (sym same) tt

-- ---- no page stands twice in a row

member_below : (ls : List ℕ) (n q : ℕ) → AllByRecursion (λ y. y < n) ls → list_any (eqb q) ls ≡ true → q < n
member_below [] n q all is = absurd cc
member_below (l ∷ ls) n q all is = elim (eqb_tells q l) [
  | inl same ↦ subst (λ y. y < n) (sym same.1) all.0
  | inr other ↦ member_below ls n q all.1 (ap (λ (b : Bool). b || list_any (eqb q) ls) (sym other.0) ∙ is)
]

all_apart : (node : ℕ → Node) (low high : Fence) (next : ℕ) (ls : List ℕ) → IsRow node low ls high next → HaveRoom node ls → IsDistinct eqb ls
unfolding IsDistinct
all_apart node low high next [] row rooms = tt
all_apart node low high next (l ∷ ls) row rooms = (
  each_of (λ other. other ≢ l) (λ y. eqb l y ≡ false) (λ y apart. ne_eqb l y (λ same. apart (sym same))) ls
      (others_behind node low high next [] ls l row rooms),
  all_apart node (node l).high high next ls row.2 rooms.1,
)

module _ (tree : Tree) (pages : List (List ℕ)) (level : ℕ) where
  has_room : 0 < tree.key_len → (page : ℕ) → IsNodeAt tree pages level page → HasRoom (node_in tree pages page).low (node_in tree pages page).high
  has_room some page is =
      let bytes = page_in pages page in
      let order : HasTreeOrder bytes = subst (λ b. MatchBool b (HasTreeOrder bytes) (Unit {0})) is.node.stands.kind is.page.order in
      room_of tree.key_len (low_of bytes) (high_of bytes) some is.node.lengths.high order.fences

  have_room : 0 < tree.key_len → (ls : List ℕ) → AllByRecursion (IsNodeAt tree pages level) ls → HaveRoom (node_in tree pages) ls
  have_room some [] all = tt
  have_room some (l ∷ ls) all = (has_room some l all.0, have_room some ls all.1)

  -- page 0 isn't among them
  shorter : 0 < tree.key_len → 0 < length pages → (low high : Fence) (next : ℕ) (ls : List ℕ) → IsRow (node_in tree pages) low ls high next
      → AllByRecursion (IsNodeAt tree pages level) ls → length ls < length pages
  unfolding IsDistinct
  shorter some file low high next ls row all =
      omega (
        arith,
        length-le_from_distinct_below (0 ∷ ls) (length pages) (
          each_of (IsNodeAt tree pages level) (λ y. eqb 0 y ≡ false) (λ y is. ne_eqb 0 y (λ same. not_header is.beyond (sym same))) ls all,
          all_apart (node_in tree pages) low high next ls row (have_room some ls all),
        )
            (λ q is. member_below (0 ∷ ls) (length pages) q (file, each_of (IsNodeAt tree pages level) (λ y. y < length pages) (λ y at. at.within) ls all) is),
      )

-- ---- one row goes the way of another

row_end : (node : ℕ → Node) (low f g : Fence) (n m : ℕ) (ls : List ℕ) → IsRow node low ls f n → IsRow node low ls g m → f ≡ g
row_end node low f g n m [] one other = sym one ∙ other
row_end node low f g n m (l ∷ ls) one other = row_end node (node l).high f g n m ls one.2 other.2

record Follows (next : ℕ) (ls whole_row : List ℕ) : Type 0 where
  rest : List ℕ
  whole : whole_row ≡ ls ++ rest
  next_is : next ≡ head_or 0 rest

same_way : (node : ℕ → Node) (low other high : Fence) (next : ℕ) (ls ms : List ℕ) → IsRow node low ls high next → IsRow node other ms Last 0
    → AllByRecursion (λ l. l ≢ 0) ls → head_or next ls ≡ head_or 0 ms → Follows next ls ms
same_way node low other high next [] ms row whole some same = record { rest = ms; whole = refl; next_is = same }
same_way node low other high next (l ∷ ls) [] row whole some same = absurd (some.0 same)
same_way node low other high next (l ∷ ls) (m ∷ ms) row whole some same =
    let on =
    same_way node (node l).high (node m).high high next ls ms row.2 whole.2 some.1 (sym row.1 ∙ ap (λ p. (node p).right) same ∙ whole.1) in
    record { rest = on.rest; whole = (λ j. sym same j ∷ on.whole j); next_is = on.next_is }

heads_cut : (node : ℕ → Node) (xs ys : List ℕ) → heads node (xs ++ ys) ≡ heads node xs ++ heads node ys
heads_cut node [] ys = refl
heads_cut node (x ∷ xs) ys = ap (λ l. ((node x).low, x) ∷ l) (heads_cut node xs ys)

abbrev first_entry : List (Fence × ℕ) → Fence × ℕ
first_entry [] = (First, 0)
first_entry (e ∷ es) = e

module _ (tree : Tree) (pages : List (List ℕ)) (level first : ℕ) (us : List ℕ) (top : ℕ) (above : IsCheckedRow tree pages (suc level) top us)
    (now : Walk) (k : ℕ) where
  abbrev node : ℕ → Node
  node = node_in tree pages

  -- the row above has a page
  some_page : (vs : List ℕ) → IsRow node First vs Last 0 → AllByRecursion (IsNodeAt tree pages (suc level)) vs → 0 < length pages
  some_page [] row all = absurd (not_both row)
  some_page (v ∷ vs) row all = omega (arith, all.0.within)

  pub never_endless : 0 < tree.key_len → Walked tree pages level first us now k → length pages ≤ k → ⊥
  never_endless some walked long =
      omega (
        arith,
        long,
        walked.counted,
        shorter tree pages level some (some_page us above.row above.each) First (end_before tree pages now.last) now.lower walked.ls walked.row walked.each,
      )

  module _ (walked : Walked tree pages level first us now k) (below : HasRowBelow tree pages level first us) where
    follows : Follows now.lower walked.ls below.ls
    follows =
        same_way node First First (end_before tree pages now.last) now.lower walked.ls below.ls walked.row below.checked.row
        (each_of (IsNodeAt tree pages level) (λ l. l ≢ 0) (λ l is. not_header is.beyond) walked.ls walked.each) (walked.first_is ∙ sym below.checked.first_is)

    abbrev rest : List ℕ
    rest = follows.rest

    -- the pages that are left are the children that are left
    left : take now.place (first_entries node walked.rest) ++ heads node rest ≡ children node walked.rest
    left =
        append_cancel_left (children node walked.done) (take now.place (first_entries node walked.rest) ++ heads node rest) (children node walked.rest)
        (sym (append_assoc (children node walked.done) (take now.place (first_entries node walked.rest)) (heads node rest))
        ∙ ap (λ l. l ++ heads node rest) (sym walked.heads_are) ∙ sym (heads_cut node walked.ls rest) ∙ ap (heads node) (sym follows.whole)
        ∙ sym below.are_children ∙ ap (children node) walked.whole ∙ children_cut node walked.done walked.rest)

    row_left : (middle : Fence) × IsRow node First walked.ls middle (head_or 0 rest) × IsRow node middle rest Last 0
    row_left = cut node First Last 0 walked.ls rest (subst (λ l. IsRow node First l Last 0) follows.whole below.checked.row)

    middle_is : row_left.0 ≡ end_before tree pages now.last
    middle_is = row_end node First row_left.0 (end_before tree pages now.last) (head_or 0 rest) now.lower walked.ls row_left.1 walked.row

    each_left : AllByRecursion (IsNodeAt tree pages level) (walked.ls ++ rest)
    each_left = subst (λ l. AllByRecursion (IsNodeAt tree pages level) l) follows.whole below.checked.each

    -- ---- above a record

    module _ (upper : IsNodeAt tree pages (suc level) now.upper) (inside : now.place < count_of (page_in pages now.upper)) where
      abbrev bytes : List ℕ
      bytes = page_in pages now.upper

      abbrev n : ℕ
      n = tree.key_len

      abbrev entry : Fence × ℕ
      entry = (entry_fence n bytes now.place, child_of n (get_or (records_of bytes) now.place []))

      abbrev es : List (Fence × ℕ)
      es = entries_of n (low_fence (low_of bytes)) (records_of bytes)

      es_cut : es ≡ take now.place es ++ entry ∷ drop (suc now.place) es
      es_cut =
          sym (take-append-drop (suc now.place) es)
          ∙ ap (λ l. l ++ drop (suc now.place) es)
          (entry_more n (low_fence (low_of bytes)) (records_of bytes) now.place (omega (arith, inside, all_records bytes)))
          ∙ append_assoc (take now.place es) (entry ∷ []) (drop (suc now.place) es)

      next_heads : (vs : List ℕ) → walked.rest ≡ now.upper ∷ vs → heads node rest ≡ entry ∷ drop (suc now.place) es ++ children node vs
      next_heads vs at =
          append_cancel_left (take now.place es) (heads node rest) (entry ∷ drop (suc now.place) es ++ children node vs)
          (ap (λ l. take now.place l ++ heads node rest) (sym (inner_entries tree pages level first us now.upper upper))
          ∙ ap (λ l. take now.place (first_entries node l) ++ heads node rest) (sym at) ∙ left ∙ ap (children node) at
          ∙ ap (λ l. l ++ children node vs) (inner_entries tree pages level first us now.upper upper ∙ es_cut)
          ∙ append_assoc (take now.place es) (entry ∷ drop (suc now.place) es) (children node vs))

      fits : (more : List (Fence × ℕ)) (rs : List ℕ) → heads node rs ≡ entry ∷ more → now.lower ≡ head_or 0 rs
          → IsRow node row_left.0 rs Last 0 → AllByRecursion (IsNodeAt tree pages level) (walked.ls ++ rs) → IsNextChild tree pages level now
      fits more [] are is row each = absurd (omega (arith, ap length are))
      fits more (r ∷ rs) are is row each =
          let one : ((node r).low, r) ≡ entry = ap first_entry are in
          record {
            leads = sym (is ∙ ap (λ (e : Fence × ℕ). e.1) one);
            node = subst (IsNodeAt tree pages level) (sym is) (all_in (IsNodeAt tree pages level) walked.ls rs r each);
            begins = ap (λ p. (node p).low) is ∙ ap (λ (e : Fence × ℕ). e.0) one;
            meets = ap (λ p. (node p).low) is ∙ row.0 ∙ middle_is;
          }

    first_is : (vs : List ℕ) → now.upper ≢ 0 → now.upper ≡ head_or 0 vs → (ws : List ℕ) × (vs ≡ now.upper ∷ ws)
    first_is [] some is = absurd (some is)
    first_is (v ∷ vs) some is = (vs, ap (λ u. u ∷ vs) (sym is))

    pub must_fit : now.upper ≢ 0 → IsNextChild tree pages level now
    must_fit some =
        let upper = upper_node tree pages level first us top above now k walked some in
        let at = first_is walked.rest some walked.upper_is in
        let inside = walked.place some in
        fits upper inside (drop (suc now.place) (es upper inside) ++ children node at.0) rest (next_heads upper inside at.0 at.1)
        follows.next_is row_left.2 each_left

    -- ---- at the end

    ends : (rs : List ℕ) → heads node rs ≡ [] → now.lower ≡ head_or 0 rs → IsRow node row_left.0 rs Last 0 → IsRowEnd pages now.last now.lower
    ends (r ∷ rs) are is row = absurd (omega (arith, ap length are))
    ends [] are is row =
        let end : end_before tree pages now.last ≡ Last = sym middle_is ∙ row in
        let last : now.last ≢ 0 = λ none. not_both (sym (ap (end_before tree pages) none) ∙ end) in
        record {
          lower_is = is;
          some = last;
          high = no_high (high_of (page_in pages now.last))
              (ap (λ (b : Bool). if b then First else (node now.last).high) (sym (ne_eqb now.last 0 last)) ∙ end);
        }

    none_left : (vs : List ℕ) → now.upper ≡ 0 → now.upper ≡ head_or 0 vs → AllByRecursion (IsNodeAt tree pages (suc level)) vs → vs ≡ []
    none_left [] none is all = refl
    none_left (v ∷ vs) none is all = absurd (not_header all.0.beyond (sym is ∙ none))

    pub must_end : now.upper ≡ 0 → IsRowEnd pages now.last now.lower
    must_end none = ends rest nothing follows.next_is row_left.2 where
      no_rest : walked.rest ≡ []
      no_rest = none_left walked.rest none walked.upper_is (behind_of (IsNodeAt tree pages (suc level)) walked.done walked.rest
          (subst (λ l. AllByRecursion (IsNodeAt tree pages (suc level)) l) walked.whole above.each))

      nothing : heads node rest ≡ []
      nothing =
          ap (λ l. l ++ heads node rest) (sym (take_all now.place [] (omega arith)))
          ∙ ap (λ l. take now.place (first_entries node l) ++ heads node rest) (sym no_rest) ∙ left ∙ ap (children node) no_rest
