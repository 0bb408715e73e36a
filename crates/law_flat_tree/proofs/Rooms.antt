-- On each level of a tree the fences of each page leave room for a key, since those of its children do.
use Rattle.std.proofs.Common.{◌≡◌, ℕ, List, [], ◌∷◌, ◌++◌, refl, sym, ◌∙◌, ap, subst}
use Rattle.std.specs.List.{AllByRecursion}
use Rattle.entries.specs.Pairs.{Pair}
use Rattle.law_flat_tree.specs.Levels.{Fence, Node, IsRow, heads, children, AreLevels}
use Rattle.law_flat_tree.specs.Levels.Fence.{First, Last}
use Rattle.law_flat_tree.specs.Leaves.{IsUnder, IsFrom, IsUpTo, HasRoom, HaveRoom, AreLeaves}
use Rattle.law_flat_tree.specs.Descents.{BeginsAt, AreInner, AreAllInner, leaves_of}
use Rattle.law_flat_tree.proofs.Rows.{IsNothing, cut, first_of, rest_of}
use Rattle.law_flat_tree.proofs.Fences.{room_up_to}
use Rattle.law_flat_tree.proofs.Edits.{leaves_room}

row_up_to : (node : ℕ → Node) (low high : Fence) (next : ℕ) (xs : List ℕ) → HaveRoom node xs → IsRow node low xs high next → IsUpTo low high
row_up_to node low high next [] rooms row = subst (λ f. IsUpTo low f) row (record { under = λ k u. u; from = λ k u. u })
row_up_to node low high next (x ∷ xs) rooms row =
    let rest = row_up_to node (node x).high high next xs rooms.1 row.2 in
    let here = room_up_to (node x).low (node x).high rooms.0 in
    subst (λ f. IsUpTo f high) row.0 (record { under = λ k u. rest.under k (here.under k u); from = λ k u. here.from k (rest.from k u) })

-- the pages of the first entries, and those of the others
record AreCut (node : ℕ → Node) (lower : List ℕ) (es rest : List (Fence × ℕ)) : Type 0 where
  ls : List ℕ
  rs : List ℕ
  whole : lower ≡ ls ++ rs
  one : heads node ls ≡ es
  other : heads node rs ≡ rest

heads_cut : (node : ℕ → Node) (lower : List ℕ) (es rest : List (Fence × ℕ)) → heads node lower ≡ es ++ rest → AreCut node lower es rest
heads_cut node lower [] rest same = record { ls = []; rs = lower; whole = refl; one = refl; other = same }
heads_cut node [] (e ∷ es) rest same = absurd (subst (λ l. IsNothing l) same tt)
heads_cut node (x ∷ xs) (e ∷ es) rest same =
    let more = heads_cut node xs es rest (rest_of ((node x).low, x) e (heads node xs) (es ++ rest) same) in
    record {
      ls = x ∷ more.ls;
      rs = more.rs;
      whole = ap (λ l. x ∷ l) more.whole;
      one = ap (λ l. ((node x).low, x) ∷ l) more.one ∙ ap (λ (h : Fence × ℕ). h ∷ es) (first_of ((node x).low, x) e (heads node xs) (es ++ rest) same);
      other = more.other;
    }

left_rooms : (node : ℕ → Node) (xs ys : List ℕ) → HaveRoom node (xs ++ ys) → HaveRoom node xs
left_rooms node [] ys rooms = tt
left_rooms node (x ∷ xs) ys rooms = (rooms.0, left_rooms node xs ys rooms.1)

right_rooms : (node : ℕ → Node) (xs ys : List ℕ) → HaveRoom node (xs ++ ys) → HaveRoom node ys
right_rooms node [] ys rooms = rooms
right_rooms node (x ∷ xs) ys rooms = right_rooms node xs ys rooms.1

-- the pages behind begin where their parents do
ends_meet : (node : ℕ → Node) (high middle : Fence) (us rs : List ℕ) → IsRow node high us Last 0 → IsRow node middle rs Last 0 → AreInner node us
    → children node us ≡ heads node rs → high ≡ middle
ends_meet node high middle [] [] up down inner same = up ∙ sym down
ends_meet node high middle [] (r ∷ rs) up down inner same = absurd (subst (λ l. IsNothing l) same tt)
ends_meet node high middle (u ∷ us) rs up down inner same = go (node u).entries inner.0 rs down same where
  go : (entries : List (Fence × ℕ)) → BeginsAt (node u).low entries → (rs : List ℕ) → IsRow node middle rs Last 0
      → entries ++ children node us ≡ heads node rs → high ≡ middle
  go [] begins rs down same = absurd begins
  go (entry ∷ entries) begins [] down same = absurd (subst (λ l. IsNothing l) (sym same) tt)
  go (entry ∷ entries) begins (r ∷ rs) down same =
      sym up.0 ∙ sym begins ∙ ap (λ (h : Fence × ℕ). h.0) (first_of entry ((node r).low, r) (entries ++ children node us) (heads node rs) same) ∙ down.0

-- where there is a first page there is room
first_room : (node : ℕ → Node) (low begin high : Fence) (next : ℕ) (ls : List ℕ) (es : List (Fence × ℕ)) → heads node ls ≡ es → BeginsAt begin es
    → HaveRoom node ls → IsRow node low ls high next → HasRoom low high
first_room node low begin high next [] es same begins rooms row = absurd (subst (λ l. BeginsAt begin l) (sym same) begins)
first_room node low begin high next (l ∷ ls) es same begins rooms row = record {
  key = rooms.0.key;
  from = subst (λ f. IsFrom f rooms.0.key) row.0 rooms.0.from;
  under = (row_up_to node (node l).high high next ls rooms.1 row.2).under rooms.0.key rooms.0.under;
}

upper_rooms : (node : ℕ → Node) (fence : Fence) (us lower : List ℕ) → IsRow node fence us Last 0 → IsRow node fence lower Last 0
    → children node us ≡ heads node lower → AreInner node us → HaveRoom node lower → HaveRoom node us
upper_rooms node fence [] lower up down same inner rooms = tt
upper_rooms node fence (u ∷ us) lower up down same inner rooms =
    let parts = heads_cut node lower (node u).entries (children node us) (sym same) in
    let rows = cut node fence Last 0 parts.ls parts.rs (subst (λ l. IsRow node fence l Last 0) parts.whole down) in
    let rooms' : HaveRoom node (parts.ls ++ parts.rs) = subst (λ l. HaveRoom node l) parts.whole rooms in
    let meet : (node u).high ≡ rows.0 = ends_meet node (node u).high rows.0 us parts.rs up.2 rows.2 inner.1 (sym parts.other) in
    let here = first_room node fence (node u).low rows.0 _ parts.ls (node u).entries parts.one inner.0 (left_rooms node parts.ls parts.rs rooms') rows.1 in (
      record {
        key = here.key;
        from = subst (λ f. IsFrom f here.key) (sym up.0) here.from;
        under = subst (λ f. IsUnder f here.key) (sym meet) here.under;
      },
      upper_rooms node (node u).high us parts.rs up.2 (subst (λ f. IsRow node f parts.rs Last 0) (sym meet) rows.2) (sym parts.other) inner.1
          (right_rooms node parts.ls parts.rs rooms'),
    )

pub all_rooms : (node : ℕ → Node) (held : ℕ → List Pair) (level : List ℕ) (lows : List (List ℕ)) → AreLevels node (level ∷ lows)
    → AreAllInner node (level ∷ lows) → AreLeaves node held (leaves_of (level ∷ lows))
    → AllByRecursion (λ l. HaveRoom node l) (level ∷ lows)
all_rooms node held level [] stand inner leaves = (leaves_room node held level leaves, tt)
all_rooms node held level (low ∷ lows) stand inner leaves =
    let rest = all_rooms node held low lows stand.1 inner.1 leaves in
    (upper_rooms node First level low stand.0.up stand.0.down stand.0.are_children inner.0 rest.0, rest)
