-- What stays told of pairs and versions.
use Rattle.std.proofs.Common.{◌≡◌, ◌≢◌, ◌∙◌, rules, ⊎_elim, ap, sym, subst, refl, ℕ, List, Option, None, Some, slice_get}
use Rattle.std.specs.Prelude.{IfSome, IsSome}
use Rattle.std.proofs.lemmas.{Bool.cases_eq, Bool.cases_Bool, Bool.Decides.eqb_tells}
use Rattle.inno_types.specs.{declared.value.Schema.Schema, declared.value.Value.Value, declared.value.Column.Column}
use Rattle.entries.specs.{Pairs.Pair, Index.Goes, Index.AreKept}
use Rattle.row_versions.specs.{declared.kept.Kept.Kept, declared.place.Place.Place, Versions.Stays, Chains.Chains, Chains.is_same_place}
use Rattle.law_stored_rows.specs.{Edits.with_value, Edits.Puts, Tables.Said, Tables.AreCodedAs, Tables.what_is_there}
use Rattle.law_stored_rows.specs.Entries.{entry_of}
use Rattle.law_stored_rows.proofs.{Values.one_key, Values.same_place, Keys.said_alike}
use Rattle.world.specs.{State.WorldState, Told.pairs_in, Told.pairs_of, Told.IsTold}
use Rattle.row_changes.specs.{Pairs.RowsStay, Pairs.PutsPair, Told.AreRowsAs, Told.HasRows, Told.HasRowsBeside, Told.HasRowsAt, Edits.IsKeyAt}
use Rattle.row_changes.proofs.Sessions.{one_found}

-- what is told was told before
pub told_before : (step : List Pair → List Pair → Type 0) (old new : Option (List Pair)) → Goes step old new → IsSome new → IsSome old
told_before step (Some old) (Some new) goes told = refl
told_before step old new goes told = absurd (search rules)

pub went : (f : List Pair → List Pair) (old new : Option (List Pair)) → Goes (λ before after. after ≡ f before) old new → IsSome new
    → pairs_in new ≡ f (pairs_in old)
went f (Some old) (Some new) goes told = goes
went f old new goes told = absurd (search rules)

-- ---- while no pair changes

pub told_if : (old new : WorldState) → ((i : ℕ) → AreKept (old.indexes i).pairs (new.indexes i).pairs) → Stays old.versions new.versions → IsTold new
    → IsTold old
told_if old new pairs versions told =
    record {
      pairs = λ i. told_before (λ before after. after ≡ before) (old.indexes i).pairs (new.indexes i).pairs (pairs i) (told.pairs i);
      versions = versions.told told.versions;
    }

pub stays_told : (old new : WorldState) → RowsStay old new → IsTold new → IsTold old
stays_told old new stay = told_if old new stay.pairs stay.versions

pub same_pairs_of : (old new : WorldState) → RowsStay old new → IsTold new → pairs_of new ≡ pairs_of old
same_pairs_of old new stay told = λ d i. went (λ pairs. pairs) (old.indexes i).pairs (new.indexes i).pairs (stay.pairs i) (told.pairs i) d

pub coded_again : (schemas others : List Schema) (pairs now : ℕ → List Pair) (kept found : ℕ → Option Kept) (chains : Chains) (said : Said)
    → others ≡ schemas → now ≡ pairs → found ≡ kept → AreCodedAs schemas pairs kept chains said → AreCodedAs others now found chains said
coded_again schemas others pairs now kept found chains said tables rows versions is =
    rw (tables, rows, versions) is

-- rows of which no pair and no version has changed
pub rows_if : (old new : WorldState) (chains : Chains) (said : Said) → new.schemas ≡ old.schemas
    → ((i : ℕ) → AreKept (old.indexes i).pairs (new.indexes i).pairs) → Stays old.versions new.versions → IsTold new
    → AreRowsAs chains said old → AreRowsAs chains said new
rows_if old new chains said same pairs versions told is =
    coded_again old.schemas new.schemas (pairs_of old) (pairs_of new) old.versions.kept_at new.versions.kept_at chains said same
    (λ d i. went (λ list. list) (old.indexes i).pairs (new.indexes i).pairs (pairs i) (told.pairs i) d) (versions.kept told.versions) is

pub rows_again : (old new : WorldState) (chains : Chains) (said : Said) → RowsStay old new → IsTold new → AreRowsAs chains said old → AreRowsAs chains said new
rows_again old new chains said stay = rows_if old new chains said (ap (λ (state : WorldState). state.schemas) stay.rest) stay.pairs stay.versions

-- ---- where one pair changes

-- at one index the key has another value, and no other pair has changed
abbrev pub HasPut : ℕ → List ℕ → Option (List ℕ) → WorldState → WorldState → Type 0
HasPut index key value old new =
    Goes (λ before after. after ≡ with_value key value before) (old.indexes index).pairs (new.indexes index).pairs ×
    ((other : ℕ) → other ≢ index → AreKept (old.indexes other).pairs (new.indexes other).pairs)

pub pairs_told : (index : ℕ) (key : List ℕ) (value : Option (List ℕ)) (old new : WorldState) → HasPut index key value old new → IsTold new → (i : ℕ)
    → IsSome (old.indexes i).pairs
pairs_told index key value old new puts told i =
    ⊎_elim (λ e. rw e (told_before (λ before after. after ≡ with_value key value before) _ (new.indexes index).pairs puts.0 (told.pairs index)))
    (λ differs. told_before (λ before after. after ≡ before) _ (new.indexes i).pairs (puts.1 i differs) (told.pairs i)) (cases_eq i index)

pub puts_pairs : (index : ℕ) (key : List ℕ) (value : Option (List ℕ)) (old new : WorldState) → HasPut index key value old new → IsTold new
    → Puts (pairs_of old) (pairs_of new) index key value
puts_pairs index key value old new puts told i =
    ⊎_elim (λ t. rw (t.0, t.1) (went (with_value key value) (old.indexes index).pairs (new.indexes index).pairs puts.0 (told.pairs index)))
    (λ f. rw f.0 (went (λ pairs. pairs) (old.indexes i).pairs (new.indexes i).pairs (puts.1 i f.1) (told.pairs i))) (eqb_tells i index)

pub put_told : (index : ℕ) (key : List ℕ) (value : Option (List ℕ)) (old new : WorldState) → PutsPair index key value old new → IsTold new → IsTold old
put_told index key value old new puts told =
    record { pairs = pairs_told index key value old new (puts.here, puts.elsewhere) told; versions = puts.versions.told told.versions }

pub put_pairs : (index : ℕ) (key : List ℕ) (value : Option (List ℕ)) (old new : WorldState) → PutsPair index key value old new → IsTold new
    → Puts (pairs_of old) (pairs_of new) index key value
put_pairs index key value old new puts told = puts_pairs index key value old new (puts.here, puts.elsewhere) told

-- what an index tells
pub tells : (P : List Pair → Type 0) (pairs : Option (List Pair)) → IfSome pairs P → IsSome pairs → P (pairs_in pairs)
tells P None h told = absurd (cc)
tells P (Some pairs) h told = h

-- ---- with one place apart

pub one_value : (schema : Schema) (a b : Value) (key : List ℕ) → IsKeyAt schema a key → IsKeyAt schema b key → a ≡ b
one_value schema a b key is also =
    let kind = ap (λ (c : Column). c.kind) (one_found also.column is.column also.primary is.primary) in
    one_key is.column.kind a b is.has_key (rw kind at also.has_key) (sym is.spelled ∙ (rw kind at also.spelled))

-- a key is that of one place
pub rows_at : (chains : Chains) (beside : Said) (table : ℕ) (schema : Schema) (value : Value) (key : List ℕ) (state : WorldState)
    → slice_get state.schemas table ≡ Some schema → IsKeyAt schema value key → HasRowsBeside chains beside (record { table = table; key = value }) state
    → HasRowsAt chains beside table key state
rows_at chains beside table schema value key state there at rows other also is_there is_at =
    let Rows : Value → Type 0 = λ v. HasRowsBeside chains beside (record { table = table; key = v }) state in
    subst Rows (one_value schema value also key at (rw (one_found other schema is_there there) at is_at)) rows

-- where all keys say what is there, they say so of the place, and of all others
pub rows_beside : (chains : Chains) (place : Place) (state : WorldState) → HasRows chains state → HasRowsBeside chains (what_is_there chains) place state
rows_beside chains place state rows told = (what_is_there chains, rows told, λ table which value apart. refl, λ which. refl)

pub rows_whole : (chains : Chains) (place : Place) (state : WorldState) → HasRowsBeside chains (what_is_there chains) place state → HasRows chains state
rows_whole chains place state rows told =
    let says = rows told in
    said_alike state.schemas (pairs_of state) state.versions.kept_at chains says.0 (what_is_there chains) says.1 (λ table which schema k there also value v.
    ap (entry_of k.column v) (⊎_elim
    (λ same. let Says : Place → Type 0 = λ q. says.0 q.table which q.key ≡ what_is_there chains q.table which q.key in
    subst Says (same_place place (record { table = table; key = value }) same) (says.3 which))
    (λ apart. says.2 table which value apart) (cases_Bool (is_same_place place (record { table = table; key = value })))))

pub rows_alone : (chains : Chains) (table : ℕ) (key : List ℕ) (state : WorldState) → HasRows chains state
    → HasRowsAt chains (what_is_there chains) table key state
rows_alone chains table key state rows schema value there at = rows_beside chains (record { table = table; key = value }) state rows
