-- All parts of a condition that is true of a row admit its values, and so does their meet.
use Rattle.std.proofs.Common.{◌≡◌, ℕ, ◌==◌, Bool, true, false, List, [], ◌∷◌, ◌++◌, Option, Some, None, refl, sym, ap, ◌∙◌, subst, eqb-true}
use Rattle.std.specs.Prelude.{◌||◌, if◌then◌else◌, slice_get, slice_index_or}
use Rattle.std.specs.List.{cons_option, list_any, find}
use Rattle.std.proofs.lemmas.Option.{same_Some}
use Rattle.inno_types.specs.declared.value.Value.{Value}
use Rattle.inno_types.specs.declared.value.Value.TheVariants as value
use Rattle.inno_types.specs.declared.value.Column.{Column}
use Rattle.inno_types.specs.declared.stmt.Filter.{Filter}
use Rattle.inno_types.specs.declared.stmt.Filter.TheVariants.{Compare, Between, In, IsNull, Not', And', Or'}
use Rattle.inno_db.specs.declared.truth.Truth.TheVariants.{True}
use Rattle.inno_db.specs.Conditions.{is_null, truth_of}
use Rattle.inno_db.specs.Typing.{type_of, filter_fits}
use Rattle.sql_plan.specs.declared.interval.Interval.{Interval}
use Rattle.sql_plan.specs.declared.part.Bounding.{Bounding}
use Rattle.sql_plan.specs.Intervals.{whole, meet}
use Rattle.sql_plan.specs.Parts.{range_of_part, ranges_of, parts_of}
use Rattle.sql_plan.specs.Plans.{places_of, meet_on, allowed}
use Rattle.sql_plan.proofs.Waiting.{filter_map_append}
use Rattle.sql_plan.proofs.Admitted.{Admits, and_both, meet_admits, whole_admits}
use Rattle.sql_plan.proofs.Allowed.{Allows, part_allows, both_true}

abbrev pub AllAllow : List Column → List Value → List (Bounding Value) → Type 0
AllAllow columns row [] = Unit {0}
AllAllow columns row (part ∷ parts) = Allows columns row part × AllAllow columns row parts

all_joined : (columns : List Column) (row : List Value) (a b : List (Bounding Value)) → AllAllow columns row a → AllAllow columns row b → AllAllow columns row (a ++ b)
all_joined columns row [] b in_a in_b = in_b
all_joined columns row (part ∷ a) b in_a in_b = (in_a.0, all_joined columns row a b in_a.1 in_b)

alone_allows : (columns : List Column) (row : List Value) (filter : Filter) (o : Option (Bounding Value)) → truth_of columns row filter ≡ True → filter_fits columns filter ≡ true
    → range_of_part columns filter ≡ o → AllAllow columns row (cons_option o [])
alone_allows columns row filter None holds fits e = tt
alone_allows columns row filter (Some part) holds fits e = (part_allows columns row filter part holds fits e, tt)

pub all_allow : (columns : List Column) (row : List Value) (filter : Filter) → truth_of columns row filter ≡ True → filter_fits columns filter ≡ true → AllAllow columns row (ranges_of columns filter)
all_allow columns row (And' p left q right) holds fits =
    let both = both_true (truth_of columns row left) (truth_of columns row right) holds in
    let fit = and_both (filter_fits columns left) (filter_fits columns right) fits in
    subst (λ (parts : List (Bounding Value)). AllAllow columns row parts) (sym (filter_map_append (range_of_part columns) (parts_of left) (parts_of right)))
    (all_joined columns row (ranges_of columns left) (ranges_of columns right) (all_allow columns row left both.0 fit.0) (all_allow columns row right both.1 fit.1))
all_allow columns row (Compare l c r) holds fits = alone_allows columns row (Compare l c r) _ holds fits refl
all_allow columns row (Between name negated low high) holds fits = alone_allows columns row (Between name negated low high) _ holds fits refl
all_allow columns row (In name negated literals) holds fits = alone_allows columns row (In name negated literals) _ holds fits refl
all_allow columns row (IsNull name negated) holds fits = tt
all_allow columns row (Not' p filter) holds fits = tt
all_allow columns row (Or' p left q right) holds fits = tt

narrowed : (columns : List Column) (row : List Value) (place : ℕ) (column : Column) (values : Interval Value) (part : Bounding Value) (b : Bool) → (part.place == place) ≡ b
    → slice_get columns place ≡ Some column → Allows columns row part → Admits (type_of column.kind) values (slice_index_or row place value.Null)
    → Admits (type_of column.kind) (if b then meet values part.values else values) (slice_index_or row place value.Null)
narrowed columns row place column values part false e there allows admits = admits
narrowed columns row place column values part true e there allows admits =
    let here : part.place ≡ place = eqb-true part.place place e in
    let same : allows.column ≡ column = same_Some allows.column column (sym allows.there ∙ ap (slice_get columns) here ∙ there) in
    let at_place = subst (λ (p : ℕ). Admits (type_of allows.column.kind) part.values (slice_index_or row p value.Null)) here allows.admits in
    meet_admits (type_of column.kind) values part.values (slice_index_or row place value.Null) admits
    (subst (λ (c : Column). Admits (type_of c.kind) part.values (slice_index_or row place value.Null)) same at_place)

meet_on_admits : (columns : List Column) (row : List Value) (place : ℕ) (column : Column) (values : Interval Value) (parts : List (Bounding Value)) → slice_get columns place ≡ Some column
    → AllAllow columns row parts → Admits (type_of column.kind) values (slice_index_or row place value.Null) → Admits (type_of column.kind) (meet_on place values parts) (slice_index_or row place value.Null)
meet_on_admits columns row place column values [] there allow admits = admits
meet_on_admits columns row place column values (part ∷ parts) there allow admits =
    meet_on_admits columns row place column (if part.place == place then meet values part.values else values) parts there allow.1
    (narrowed columns row place column values part (part.place == place) refl there allow.0 admits)

-- the column at a place is there, and the row has a value in it that all its parts admit
pub record IsAdmitted (columns : List Column) (row : List Value) (parts : List (Bounding Value)) (place : ℕ) : Type 0 where
  pub column : Column
  pub there : slice_get columns place ≡ Some column
  pub admits : Admits (type_of column.kind) (allowed parts place) (slice_index_or row place value.Null)

pub record IsPresent (columns : List Column) (row : List Value) (place : ℕ) : Type 0 where
  pub column : Column
  pub there : slice_get columns place ≡ Some column
  pub present : is_null (slice_index_or row place value.Null) ≡ false

at_part : (columns : List Column) (row : List Value) (part : Bounding Value) (place : ℕ) → part.place ≡ place → Allows columns row part → IsPresent columns row place
at_part columns row part place e allows =
    subst (IsPresent columns row) e (record { column = allows.column; there = allows.there; present = allows.admits.present })

here_or : (b rest : Bool) (columns : List Column) (row : List Value) (part : Bounding Value) (place : ℕ) → (part.place == place) ≡ b → (b || rest) ≡ true → Allows columns row part
    → (rest ≡ true → IsPresent columns row place) → IsPresent columns row place
here_or true rest columns row part place same e allows later = at_part columns row part place (eqb-true part.place place same) allows
here_or false rest columns row part place same e allows later = later e

found_or : (b : Bool) (rest : Option ℕ) (columns : List Column) (row : List Value) (part : Bounding Value) (place : ℕ) → (if b then Some part.place else rest) ≡ Some place → Allows columns row part
    → (rest ≡ Some place → IsPresent columns row place) → IsPresent columns row place
found_or true rest columns row part place e allows later = at_part columns row part place (same_Some part.place place e) allows
found_or false rest columns row part place e allows later = later e

pub bounded_present : (columns : List Column) (row : List Value) (parts : List (Bounding Value)) (place : ℕ) → AllAllow columns row parts → list_any (λ p. p == place) (places_of parts) ≡ true → IsPresent columns row place
bounded_present columns row [] place allow e = absurd cc
bounded_present columns row (part ∷ parts) place allow e =
    here_or (part.place == place) (list_any (λ p. p == place) (places_of parts)) columns row part place refl e allow.0
    (λ later. bounded_present columns row parts place allow.1 later)

pub found_present : (columns : List Column) (row : List Value) (test : ℕ → Bool) (parts : List (Bounding Value)) (place : ℕ) → AllAllow columns row parts → find test (places_of parts) ≡ Some place → IsPresent columns row place
found_present columns row test [] place allow e = absurd cc
found_present columns row test (part ∷ parts) place allow e =
    found_or (test part.place) (find test (places_of parts)) columns row part place e allow.0
    (λ later. found_present columns row test parts place allow.1 later)

pub admitted : (columns : List Column) (row : List Value) (parts : List (Bounding Value)) (place : ℕ) → AllAllow columns row parts → IsPresent columns row place → IsAdmitted columns row parts place
admitted columns row parts place allow present = record {
  column = present.column;
  there = present.there;
  admits = meet_on_admits columns row place present.column whole parts present.there allow (whole_admits (type_of present.column.kind) (slice_index_or row place value.Null) present.present);
}
