-- Conditions that wait to be read, the next one last: what they say, and how much of them there is.
use Rattle.std.proofs.Common.{◌≡◌, ℕ, ◌+◌, ◌≤◌, List, [], ◌∷◌, ◌++◌, Option, Some, None, map, refl, sym, ap, ◌∙◌, append_assoc, arith}
use Rattle.std.specs.Borrow.{Bor}
use Rattle.std.specs.List.{filter_map, cons_option}
use Rattle.std.proofs.lemmas.List.{append-nil}
use Rattle.std.proofs.lemmas.Option.{some_pair_parts}
use Rattle.inno_types.specs.declared.value.Value.{Value}
use Rattle.inno_types.specs.declared.value.Column.{Column}
use Rattle.inno_types.specs.declared.stmt.Filter.{Filter}
use Rattle.inno_types.specs.declared.stmt.Filter.TheVariants.{Compare, Between, In, IsNull, Not', And', Or'}
use Rattle.sql_plan.specs.declared.part.Bounding.{Bounding}
use Rattle.sql_plan.specs.Parts.{ranges_of, range_of_part, parts_of, sides_of}
use Rattle.sql_plan.specs.SeenParts.{seen_part}
use Rattle.inno_db.specs.declared.datum.Datum.{Datum}

-- how many conditions its topmost ANDs join, and these with them
abbrev pub weight : Filter → ℕ
weight (And' p left q right) = weight left + weight right + 1
weight (Compare left comparison right) = 1
weight (Between column negated low high) = 1
weight (In column negated literals) = 1
weight (IsNull column negated) = 1
weight (Not' p filter) = 1
weight (Or' p left q right) = 1

abbrev pub weight_of_all : List (Bor Filter) → ℕ
weight_of_all [] = 0
weight_of_all (f ∷ fs) = weight f.now + weight_of_all fs

-- what the waiting conditions say, from the last of them on
abbrev pub ranges_waiting : List Column → List (Bor Filter) → List (Bounding Value)
ranges_waiting columns [] = []
ranges_waiting columns (f ∷ fs) = ranges_waiting columns fs ++ ranges_of columns f.now

pub weight_pushed : (fs : List (Bor Filter)) (f : Bor Filter) → weight_of_all (fs ++ f ∷ []) ≡ weight_of_all fs + weight f.now
weight_pushed [] f = omega arith
weight_pushed (g ∷ fs) f = let more = weight_pushed fs f in omega (arith, more)

pub ranges_pushed : (columns : List Column) (fs : List (Bor Filter)) (f : Bor Filter) → ranges_waiting columns (fs ++ f ∷ []) ≡ ranges_of columns f.now ++ ranges_waiting columns fs
ranges_pushed columns [] f = sym (append-nil (ranges_of columns f.now))
ranges_pushed columns (g ∷ fs) f = ap (λ rest. rest ++ ranges_of columns g.now) (ranges_pushed columns fs f) ∙ append_assoc (ranges_of columns f.now) (ranges_waiting columns fs) (ranges_of columns g.now)

cons_append : {A : Type 0} (o : Option A) (xs ys : List A) → cons_option o xs ++ ys ≡ cons_option o (xs ++ ys)
cons_append None xs ys = refl
cons_append (Some x) xs ys = refl

pub filter_map_append : {A B : Type 0} (f : A → Option B) (xs ys : List A) → filter_map f (xs ++ ys) ≡ filter_map f xs ++ filter_map f ys
filter_map_append f [] ys = refl
filter_map_append f (x ∷ xs) ys = ap (cons_option (f x)) (filter_map_append f xs ys) ∙ sym (cons_append (f x) (filter_map f xs) (filter_map f ys))

-- what an AND says is what its sides say, the left one first
pub ranges_joined : (columns : List Column) (f left right : Filter) → sides_of f ≡ Some (left, right) → ranges_of columns f ≡ ranges_of columns left ++ ranges_of columns right
ranges_joined columns (And' p l q r) left right e =
    let same = some_pair_parts l left r right e in
    rw (same.0, same.1) (filter_map_append (range_of_part columns) (parts_of left) (parts_of right))
ranges_joined columns (Compare l c r) left right e = absurd cc
ranges_joined columns (Between column negated low high) left right e = absurd cc
ranges_joined columns (In column negated literals) left right e = absurd cc
ranges_joined columns (IsNull column negated) left right e = absurd cc
ranges_joined columns (Not' p filter) left right e = absurd cc
ranges_joined columns (Or' p l q r) left right e = absurd cc

pub weight_joined : (f left right : Filter) → sides_of f ≡ Some (left, right) → weight f ≡ weight left + weight right + 1
weight_joined (And' p l q r) left right e =
    let same = some_pair_parts l left r right e in
    rw (same.0, same.1) refl
weight_joined (Compare l c r) left right e = absurd cc
weight_joined (Between column negated low high) left right e = absurd cc
weight_joined (In column negated literals) left right e = absurd cc
weight_joined (IsNull column negated) left right e = absurd cc
weight_joined (Not' p filter) left right e = absurd cc
weight_joined (Or' p l q r) left right e = absurd cc

-- any other condition is one part
pub ranges_alone : (columns : List Column) (f : Filter) → sides_of f ≡ None → ranges_of columns f ≡ cons_option (range_of_part columns f) []
ranges_alone columns (And' p l q r) e = absurd cc
ranges_alone columns (Compare l c r) e = refl
ranges_alone columns (Between column negated low high) e = refl
ranges_alone columns (In column negated literals) e = refl
ranges_alone columns (IsNull column negated) e = refl
ranges_alone columns (Not' p filter) e = refl
ranges_alone columns (Or' p l q r) e = refl

pub weight_positive : (f : Filter) → 1 ≤ weight f
weight_positive (And' p left q right) = omega arith
weight_positive (Compare left comparison right) = omega arith
weight_positive (Between column negated low high) = omega arith
weight_positive (In column negated literals) = omega arith
weight_positive (IsNull column negated) = omega arith
weight_positive (Not' p filter) = omega arith
weight_positive (Or' p left q right) = omega arith

-- an AND is read: its sides wait in its place
pub reading_joined : (columns : List Column) (found all : List (Bounding Value)) (old rest : List (Bor Filter)) (next left right : Bor Filter)
    → old ≡ rest ++ next ∷ [] → sides_of next.now ≡ Some (left.now, right.now) → found ++ ranges_waiting columns old ≡ all
    → found ++ ranges_waiting columns ((rest ++ right ∷ []) ++ left ∷ []) ≡ all
reading_joined columns found all old rest next left right is_old is_and before =
    let waits = ranges_waiting columns rest in
    let read : ranges_waiting columns old ≡ (ranges_of columns left.now ++ ranges_of columns right.now) ++ waits =
    ap (ranges_waiting columns) is_old ∙ ranges_pushed columns rest next ∙ ap (λ xs. xs ++ waits) (ranges_joined columns next.now left.now right.now is_and) in
    let after : ranges_waiting columns ((rest ++ right ∷ []) ++ left ∷ []) ≡ ranges_of columns left.now ++ (ranges_of columns right.now ++ waits) =
    ranges_pushed columns (rest ++ right ∷ []) left ∙ ap (λ xs. ranges_of columns left.now ++ xs) (ranges_pushed columns rest right) in
    ap (λ xs. found ++ xs) (after ∙ sym (append_assoc (ranges_of columns left.now) (ranges_of columns right.now) waits) ∙ sym read) ∙ before

map_pushed : {A B : Type 0} (f : A → B) (xs : List A) (x : A) → map f (xs ++ x ∷ []) ≡ map f xs ++ f x ∷ []
map_pushed f [] x = refl
map_pushed f (y ∷ ys) x = ap (λ rest. f y ∷ rest) (map_pushed f ys x)

-- a part that bounds a column is read, and kept
pub reading_part : (columns : List Column) (parts : List (Bounding Datum)) (part : Bounding Datum) (all : List (Bounding Value)) (old rest : List (Bor Filter)) (next : Bor Filter)
    → old ≡ rest ++ next ∷ [] → sides_of next.now ≡ None → Some (seen_part part) ≡ range_of_part columns next.now → map seen_part parts ++ ranges_waiting columns old ≡ all
    → map seen_part (parts ++ part ∷ []) ++ ranges_waiting columns rest ≡ all
reading_part columns parts part all old rest next is_old is_part says before =
    let waits = ranges_waiting columns rest in
    let alone : ranges_of columns next.now ≡ seen_part part ∷ [] = ranges_alone columns next.now is_part ∙ ap (λ o. cons_option o []) (sym says) in
    let read : ranges_waiting columns old ≡ seen_part part ∷ waits = ap (ranges_waiting columns) is_old ∙ ranges_pushed columns rest next ∙ ap (λ xs. xs ++ waits) alone in
    ap (λ xs. xs ++ waits) (map_pushed seen_part parts part) ∙ append_assoc (map seen_part parts) (seen_part part ∷ []) waits ∙ ap (λ xs. map seen_part parts ++ xs) (sym read) ∙ before
