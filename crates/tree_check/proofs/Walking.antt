-- Two levels that are walked side by side.
use Rattle.std.proofs.Common.{◌≡◌, ◌≢◌, inl, inr, ℕ, zero, suc, ◌+◌, ◌<◌, ◌==◌, Bool, false, if◌then◌else◌}
use Rattle.std.proofs.Common.{List, [], ◌∷◌, ◌++◌, length, take, drop, map, get_or, refl, sym, ◌∙◌, ap, subst, append_assoc, append-nil, length-append, arith}
use Rattle.std.specs.Prelude.{MatchBool}
use Rattle.std.specs.List.{AllByRecursion}
use Rattle.std.proofs.lemmas.Bool.{cond-false, ne_eqb, cases_lt}
use Rattle.std.proofs.lemmas.List.{take_all}
use Rattle.page_format.specs.Words.{level_of, count_of, record_len_of, low_of, right_of, records_of}
use Rattle.page_format.specs.Shape.{HasTreeFields, HasPlainFields}
use Rattle.page_format.proofs.Pieces.{length-pieces}
use Rattle.law_flat_tree.specs.Levels.{Fence, Node, IsRow, heads, children, head_or}
use Rattle.law_flat_tree.specs.Levels.Fence.{First, Key, Last}
use Rattle.law_flat_tree.specs.Pages.{low_fence, high_fence, child_of, entry_of, entries_of}
use Rattle.law_flat_tree.proofs.Leaves.{both}
use Rattle.law_flat_tree.proofs.PageSplits.{all_in}
use Rattle.law_flat_tree.proofs.Rows.{cut}
use Rattle.btree.specs.declared.tree.Tree.{Tree}
use Rattle.tree_check.specs.declared.rows.Walk.{Walk}
use Rattle.tree_check.specs.Rows.{page_in, node_in, end_before, IsNodeAt, IsStep, IsRowEnd, IsCheckedRow, HasRowBelow, AreSteps, Comes}
use Rattle.tree_check.proofs.Nodes.{not_header}

-- ---- rows with one page more

row_more : (node : ℕ → Node) (low fence : Fence) (xs : List ℕ) (p : ℕ) → IsRow node low xs fence p → (node p).low ≡ fence
    → IsRow node low (xs ++ p ∷ []) (node p).high (node p).right
row_more node low fence [] p row begins = (begins ∙ sym row, refl, refl)
row_more node low fence (x ∷ []) p row begins = (row.0, row.1, row_more node (node x).high fence [] p row.2 begins)
row_more node low fence (x ∷ y ∷ xs) p row begins = (row.0, row.1, row_more node (node x).high fence (y ∷ xs) p row.2 begins)

heads_more : (node : ℕ → Node) (xs : List ℕ) (p : ℕ) → heads node (xs ++ p ∷ []) ≡ heads node xs ++ ((node p).low, p) ∷ []
heads_more node [] p = refl
heads_more node (x ∷ xs) p = ap (λ l. ((node x).low, x) ∷ l) (heads_more node xs p)

children_more : (node : ℕ → Node) (us : List ℕ) (u : ℕ) → children node (us ++ u ∷ []) ≡ children node us ++ (node u).entries
children_more node [] u = append-nil (node u).entries
children_more node (x ∷ us) u =
    ap (λ l. (node x).entries ++ l) (children_more node us u) ∙ sym (append_assoc (node x).entries (children node us) (node u).entries)

first_more : (next other p : ℕ) (xs : List ℕ) (first : ℕ) → p ≡ next → head_or next xs ≡ first → head_or other (xs ++ p ∷ []) ≡ first
first_more next other p [] first is same = is ∙ same
first_more next other p (x ∷ xs) first is same = same

-- ---- one entry more

map_more : (n : ℕ) (rs : List (List ℕ)) (k : ℕ) → k < length rs
    → take (suc k) (map (entry_of n) rs) ≡ take k (map (entry_of n) rs) ++ (Key (take n (get_or rs k [])), child_of n (get_or rs k [])) ∷ []
map_more n [] k within = absurd (omega (arith, within))
map_more n (r ∷ rs) zero within = refl
map_more n (r ∷ rs) (suc k) within = ap (λ l. entry_of n r ∷ l) (map_more n rs k (omega (arith, within)))

pub entry_more : (n : ℕ) (low : Fence) (rs : List (List ℕ)) (i : ℕ) → i < length rs
    → take (suc i) (entries_of n low rs)
    ≡ take i (entries_of n low rs) ++ ((if i == 0 then low else Key (take n (get_or rs i []))), child_of n (get_or rs i [])) ∷ []
entry_more n low [] i within = absurd (omega (arith, within))
entry_more n low (r ∷ rs) zero within = refl
entry_more n low (r ∷ rs) (suc k) within =
    let behind : (suc k == 0) ≡ false = ne_eqb (suc k) 0 (λ none. omega (arith, none)) in
    ap (λ l. (low, child_of n r) ∷ l) (map_more n rs k (omega (arith, within)))
    ∙ ap (λ (b : Bool). (low, child_of n r) ∷ (take k (map (entry_of n) rs)
    ++ ((if b then low else Key (take n (get_or rs k []))), child_of n (get_or rs k [])) ∷ [])) (sym behind)

pub length-entries : (n : ℕ) (low : Fence) (rs : List (List ℕ)) → length (entries_of n low rs) ≡ length rs
length-entries n low [] = refl
length-entries n low (r ∷ rs) = ap suc (mapped rs) where
  mapped : (ss : List (List ℕ)) → length (map (entry_of n) ss) ≡ length ss
  mapped [] = refl
  mapped (s ∷ ss) = ap suc (mapped ss)

pub all_records : (bytes : List ℕ) → length (records_of bytes) ≡ count_of bytes
all_records bytes = length-pieces (record_len_of bytes) (count_of bytes) (drop 208 bytes)

-- ---- how far the walk has come

abbrev pub first_entries : (ℕ → Node) → List ℕ → List (Fence × ℕ)
first_entries node [] = []
first_entries node (u ∷ us) = (node u).entries

pub record Walked (tree : Tree) (pages : List (List ℕ)) (level first : ℕ) (us : List ℕ) (now : Walk) (steps : ℕ) : Type 0 where
  pub done : List ℕ
  pub rest : List ℕ
  pub ls : List ℕ
  pub whole : us ≡ done ++ rest
  pub upper_is : now.upper ≡ head_or 0 rest
  pub first_is : head_or now.lower ls ≡ first
  pub row : IsRow (node_in tree pages) First ls (end_before tree pages now.last) now.lower
  pub heads_are : heads (node_in tree pages) ls ≡ children (node_in tree pages) done ++ take now.place (first_entries (node_in tree pages) rest)
  pub each : AllByRecursion (IsNodeAt tree pages level) ls
  pub place : now.upper ≢ 0 → now.place < count_of (page_in pages now.upper)
  pub last_node : now.last ≢ 0 → IsNodeAt tree pages level now.last
  pub counted : length ls ≡ steps

module _ (tree : Tree) (pages : List (List ℕ)) (level first : ℕ) (us : List ℕ) where
  abbrev node : ℕ → Node
  node = node_in tree pages

  abbrev n : ℕ
  n = tree.key_len

  pub inner_entries : (u : ℕ) → IsNodeAt tree pages (suc level) u
      → (node u).entries ≡ entries_of n (low_fence (low_of (page_in pages u))) (records_of (page_in pages u))
  inner_entries u is =
      let inner : (level_of (page_in pages u) == 0) ≡ false =
      ne_eqb (level_of (page_in pages u)) 0 (λ none. omega (arith, none, is.node.stands.level_is)) in
      ap (λ (b : Bool). if b then [] else entries_of n (low_fence (low_of (page_in pages u))) (records_of (page_in pages u))) inner

  module _ (top : ℕ) (above : IsCheckedRow tree pages (suc level) top us) where
    first_page : (done rest : List ℕ) → us ≡ done ++ rest → (upper : ℕ) → upper ≡ head_or 0 rest → upper ≢ 0 → IsNodeAt tree pages (suc level) upper
    first_page done [] whole upper is some = absurd (some is)
    first_page done (u ∷ rest) whole upper is some =
        subst (IsNodeAt tree pages (suc level)) (sym is)
        (all_in (IsNodeAt tree pages (suc level)) done rest u (subst (λ l. AllByRecursion (IsNodeAt tree pages (suc level)) l) whole above.each))

    pub upper_node : (now : Walk) (k : ℕ) → Walked tree pages level first us now k → now.upper ≢ 0 → IsNodeAt tree pages (suc level) now.upper
    upper_node now k walked some = first_page walked.done walked.rest walked.whole now.upper walked.upper_is some

    has_child : (u : ℕ) → IsNodeAt tree pages (suc level) u → 0 < count_of (page_in pages u)
    has_child u is = is.node.stands.some (λ none. omega (arith, none))

    pub walk_begins : Walked tree pages level first us (record { upper = top; place = 0; lower = first; last = 0 }) 0
    walk_begins = record {
      done = [];
      rest = us;
      ls = [];
      whole = refl;
      upper_is = sym above.first_is;
      first_is = refl;
      row = refl;
      heads_are = refl;
      each = tt;
      place = λ some. has_child top (first_page [] us refl top (sym above.first_is) some);
      last_node = λ some. absurd (some refl);
      counted = refl;
    }

    module _ (now next : Walk) (upper : IsNodeAt tree pages (suc level) now.upper) (stepped : IsStep tree pages level now next) where
      abbrev u : ℕ
      u = now.upper

      abbrev c : ℕ
      c = now.lower

      abbrev rs : List (List ℕ)
      rs = records_of (page_in pages u)

      all_rs : length rs ≡ count_of (page_in pages u)
      all_rs = all_records (page_in pages u)

      abbrev es : List (Fence × ℕ)
      es = entries_of n (low_fence (low_of (page_in pages u))) rs

      es_are : (node u).entries ≡ es
      es_are = inner_entries u upper

      end_is : end_before tree pages next.last ≡ (node c).high
      end_is =
          ap (end_before tree pages) stepped.last_is
          ∙ cond-false (c == 0) First (node c).high (ne_eqb c 0 (not_header stepped.child.node.beyond))

      one_more : (ls : List ℕ) → IsRow node First ls (end_before tree pages now.last) c
          → IsRow node First (ls ++ c ∷ []) (end_before tree pages next.last) next.lower
      one_more ls row =
          subst (λ r. IsRow node First (ls ++ c ∷ []) (end_before tree pages next.last) r) (sym stepped.lower_is)
          (subst (λ f. IsRow node First (ls ++ c ∷ []) f (node c).right) (sym end_is)
          (row_more node First (end_before tree pages now.last) ls c row stepped.child.meets))

      -- the children so far, with this one
      more_heads : (ls done : List ℕ) → heads node ls ≡ children node done ++ take now.place (node u).entries
          → heads node (ls ++ c ∷ []) ≡ children node done ++ take (suc now.place) es
      more_heads ls done are =
          heads_more node ls c
          ∙ ap (λ l. l ++ ((node c).low, c) ∷ []) (are ∙ ap (λ l. children node done ++ take now.place l) es_are)
          ∙ append_assoc (children node done) (take now.place es) (((node c).low, c) ∷ [])
          ∙ (λ j. children node done ++ (take now.place es ++ (stepped.child.begins j, sym stepped.child.leads j) ∷ []))
          ∙ ap (λ l. children node done ++ l)
          (sym (entry_more n (low_fence (low_of (page_in pages u))) rs now.place (omega (arith, stepped.inside, all_rs))))

      last_there : next.last ≢ 0 → IsNodeAt tree pages level next.last
      last_there some = subst (IsNodeAt tree pages level) (sym stepped.last_is) stepped.child.node

      go : (k : ℕ) (done rest ls : List ℕ) → length ls ≡ k → us ≡ done ++ rest → u ≡ head_or 0 rest → head_or c ls ≡ first
          → IsRow node First ls (end_before tree pages now.last) c
          → heads node ls ≡ children node done ++ take now.place (first_entries node rest)
          → AllByRecursion (IsNodeAt tree pages level) ls → Walked tree pages level first us next (k + 1)
      go k done [] ls long whole is first_is row are each = absurd (not_header upper.beyond is)
      go k done (v ∷ rest) ls long whole is first_is row are each = elim (cases_lt (suc now.place) (count_of (page_in pages u))) [
        | inl behind ↦
            let same = stepped.behind behind in
            record {
              done = done;
              rest = v ∷ rest;
              ls = ls ++ c ∷ [];
              whole = whole;
              upper_is = same.0 ∙ is;
              first_is = first_more c next.lower c ls first refl first_is;
              row = one_more ls row;
              heads_are =
                  made ∙ (λ j. children node done ++ take (sym same.1 j) (sym es_are j))
                  ∙ ap (λ r. children node done ++ take next.place (node r).entries) is;
              each = both (IsNodeAt tree pages level) ls (c ∷ []) each (stepped.child.node, tt);
              place = λ some. subst (λ r. next.place < count_of (page_in pages r)) (sym same.0) (omega (arith, behind, same.1));
              last_node = last_there;
              counted = length-append ls (c ∷ []) ∙ ap (λ m. m + 1) long;
            }
        | inr end ↦
            let over = stepped.over (omega (arith, end)) in
            let right : right_of (page_in pages v) ≡ head_or 0 rest =
            (cut node First Last 0 done (v ∷ rest) (subst (λ l. IsRow node First l Last 0) whole above.row)).2.1 in
            let whole' : us ≡ (done ++ v ∷ []) ++ rest = whole ∙ sym (append_assoc done (v ∷ []) rest) in
            let upper' : next.upper ≡ head_or 0 rest = over.0 ∙ ap (λ r. right_of (page_in pages r)) is ∙ right in
            let all : take (suc now.place) es ≡ es =
            take_all (suc now.place) es (omega (arith, end, all_rs, length-entries n (low_fence (low_of (page_in pages u))) rs)) in
            record {
              done = done ++ v ∷ [];
              rest = rest;
              ls = ls ++ c ∷ [];
              whole = whole';
              upper_is = upper';
              first_is = first_more c next.lower c ls first refl first_is;
              row = one_more ls row;
              heads_are =
                  made ∙ ap (λ l. children node done ++ l) (all ∙ sym es_are ∙ ap (λ r. (node r).entries) is)
                  ∙ sym (children_more node done v) ∙ sym (append-nil (children node (done ++ v ∷ [])))
                  ∙ ap (λ k. children node (done ++ v ∷ []) ++ take k (first_entries node rest)) (sym over.1);
              each = both (IsNodeAt tree pages level) ls (c ∷ []) each (stepped.child.node, tt);
              place = λ some.
                  subst (λ k. k < count_of (page_in pages next.upper)) (sym over.1)
                  (has_child next.upper (first_page (done ++ v ∷ []) rest whole' next.upper upper' some));
              last_node = last_there;
              counted = length-append ls (c ∷ []) ∙ ap (λ m. m + 1) long;
            }
      ]
        where
          made : heads node (ls ++ c ∷ []) ≡ children node done ++ take (suc now.place) es
          made = more_heads ls done (are ∙ ap (λ r. children node done ++ take now.place (node r).entries) (sym is))

      pub walk_on : (k : ℕ) → Walked tree pages level first us now k → Walked tree pages level first us next (k + 1)
      walk_on k walked =
          go k walked.done walked.rest walked.ls walked.counted walked.whole walked.upper_is walked.first_is walked.row walked.heads_are walked.each

    -- the upper row is at its end, and so is the lower one
    pub walk_ends : (now : Walk) (k : ℕ) → Walked tree pages level first us now k → now.upper ≡ 0
        → IsRowEnd pages now.last now.lower → HasRowBelow tree pages level first us
    walk_ends now k walked none ends = finish walked.done walked.rest walked.whole walked.upper_is walked.heads_are where
      finish : (done rest : List ℕ) → us ≡ done ++ rest → now.upper ≡ head_or 0 rest
          → heads node walked.ls ≡ children node done ++ take now.place (first_entries node rest) → HasRowBelow tree pages level first us
      finish done (v ∷ rest) whole is are =
          absurd (not_header (all_in (IsNodeAt tree pages (suc level)) done rest v
          (subst (λ l. AllByRecursion (IsNodeAt tree pages (suc level)) l) whole above.each)).beyond (sym is ∙ none))
      finish done [] whole is are =
          let end : end_before tree pages now.last ≡ Last =
          cond-false (now.last == 0) First (node now.last).high (ne_eqb now.last 0 ends.some) ∙ ap high_fence ends.high in
          let us_is : us ≡ done = whole ∙ append-nil done in
          let nothing : take now.place (first_entries node []) ≡ [] = take_all now.place [] (omega arith) in
          record {
            ls = walked.ls;
            checked =
                record {
                  first_is = subst (λ k. head_or k walked.ls ≡ first) ends.lower_is walked.first_is;
                  row = subst (λ f. IsRow node First walked.ls f 0) end
                      (subst (λ k. IsRow node First walked.ls (end_before tree pages now.last) k) ends.lower_is walked.row);
                  each = walked.each;
                };
            are_children = ap (children node) us_is ∙ sym (are ∙ ap (λ l. children node done ++ l) nothing ∙ append-nil (children node done));
          }

pub tree_fields : (tree : Tree) (pages : List (List ℕ)) (level page : ℕ) → IsNodeAt tree pages level page → HasTreeFields (page_in pages page)
tree_fields tree pages level page is =
    subst (λ b. MatchBool b (HasTreeFields (page_in pages page)) (HasPlainFields (page_in pages page))) is.node.stands.kind is.page.fields

steps_on : (tree : Tree) (pages : List (List ℕ)) (level : ℕ) (start now next : Walk) (way : List Walk) → AreSteps tree pages level start way now
    → IsStep tree pages level now next → AreSteps tree pages level start (way ++ next ∷ []) next
steps_on tree pages level start now next [] steps step = (subst (λ w. IsStep tree pages level w next) (sym steps) step, refl)
steps_on tree pages level start now next (walk ∷ way) steps step = (steps.0, steps_on tree pages level walk now next way steps.1 step)

pub comes_on : (tree : Tree) (pages : List (List ℕ)) (level top first : ℕ) (now next : Walk) → Comes tree pages level top first now
    → IsStep tree pages level now next → Comes tree pages level top first next
comes_on tree pages level top first now next comes step =
    record { way = comes.way ++ next ∷ []; steps = steps_on tree pages level _ now next comes.way comes.steps step }
