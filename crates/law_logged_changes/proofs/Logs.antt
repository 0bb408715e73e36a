-- A log stands as long as tables, records and what it keeps do.
use Rattle.std.proofs.Common.{◌&&◌, ◌==◌, ◌≡◌, inl, inr, ℕ, cond, List, [], ◌∷◌, Option, Some, sym, ap, ◌∙◌, ◌≢◌, ◌⊎◌, ⊎_elim, true, false, refl}
use Rattle.std.proofs.lemmas.Bool.{or_parts, cases_eq, eq-eqb, ne_eqb, and_right}
use Rattle.inno_db.specs.{declared.change.Change.TheVariants.Create, declared.change.Change.Change}
use Rattle.entries.specs.Pairs.{key_cmp, Pair, value_of}
use Rattle.undo_apply.specs.Standing.{TellsOf, LeadsBack, was_before}
use Rattle.law_logged_changes.specs.Logs.{RecordsAt, taken_back, Stands, LogStands, IsElsewhere, kept_in}
use Rattle.std.specs.declared.cmp.Ordering.TheVariants.{Less, Equal, Greater}
use Rattle.std.specs.{List.AllByRecursion, List.list_any, BTreeMap.is_at, Ordering.is_eq, declared.cmp.Ordering.Ordering}
use Rattle.law_stored_rows.proofs.{Pairs.same_or_not, Pairs.others_now, Pairs.at_index, Pairs.at_others, Pairs.other_rows, Values.place_itself}
use Rattle.inno_types.specs.declared.value.Schema.{Schema}
use Rattle.store_api.specs.declared.answers.Undo.{Undo}
use Rattle.row_versions.specs.{declared.kept.Kept.Kept, declared.place.Place.Place}
use Rattle.law_past_agreement.specs.Rows.{place_in, is_place, is_at as is_change_at}
use Rattle.world.specs.{State.WorldState, State.Logged, Told.IsTold}
use Rattle.entries.proofs.Order.{same_key, key_itself}
use Rattle.law_stored_rows.specs.Edits.{clustered_index, Puts}
use Rattle.row_changes.specs.Edits.{IsKeyAt}
use Rattle.row_changes.proofs.Telling.{one_value}

pub all_of : {X : Type 0} (P : X → Type 0) (xs : List X) → ((x : X) → P x) → AllByRecursion P xs
all_of P [] each = record {}
all_of P (x ∷ xs) each = (each x, all_of P xs each)

pub all_mapped : {X : Type 0} (P Q : X → Type 0) (xs : List X) → ((x : X) → P x → Q x) → AllByRecursion P xs → AllByRecursion Q xs
all_mapped P Q [] step all = record {}
all_mapped P Q (x ∷ xs) step all = (step x all.0, all_mapped P Q xs step all.1)

-- ---- records that stay

module _ {old new : WorldState} (told : IsTold new → IsTold old) (schemas : new.schemas ≡ old.schemas) where
  -- what the undo record keeps of its row stays
  abbrev pub Keeps : Logged → Type 0
  Keeps logged =
      logged.undo.kind ≡ 2 → (former : Kept) → kept_in old logged.undo logged.pointer ≡ Some former → kept_in new logged.undo logged.pointer ≡ Some former

  leads_on : (logged : Logged) (pointer : ℕ) → Keeps logged → (logged.undo.kind ≡ 2 → pointer ≡ logged.pointer)
      → LeadsBack logged.undo (kept_in old logged.undo) pointer → LeadsBack logged.undo (kept_in new logged.undo) pointer
  leads_on logged pointer keeps pointer_is (inl new) = inl new
  leads_on logged pointer keeps pointer_is (inr (kind, leads, former, there, bytes)) =
      let same = pointer_is kind in inr (kind, leads, former, rw same (keeps kind former (rw same at there)), bytes)

  -- The records differ in no row of which the log tells.
  abbrev Same : RecordsAt → RecordsAt → Logged → Type 0
  Same was is logged = is logged.undo.table logged.undo.key ≡ was logged.undo.table logged.undo.key

  stands_on : (was is : RecordsAt) (logged : Logged) (log : List Logged) (change : Change) → (IsTold new → Same was is logged) → (IsTold new → Keeps logged)
      → Stands old was logged log change → Stands new is logged log change
  stands_on was is logged log change same keeps stands = record {
    place = stands.place;
    place_is = rw schemas stands.place_is;
    schema = stands.schema;
    tells = rw schemas stands.tells;
    record_is = λ at. let has = stands.record_is (told at) in record {
      bytes = has.bytes;
      coded = has.coded;
      there = same at ∙ has.there;
      code_is = has.code_is;
      before = leads_on logged has.coded.pointer (keeps at) has.pointer_is has.before;
      pointer_is = has.pointer_is;
    };
    elsewhere = λ at. stands.elsewhere (told at);
  }

  -- a log stands where the rows that it tells of have the same records, and what it keeps is kept
  pub log_on : (Of : Logged → Type 0) (was is : RecordsAt) (log : List Logged) (own : List Change)
      → ((logged : Logged) → IsTold new → Of logged → Same was is logged) → ((logged : Logged) → IsTold new → Of logged → Keeps logged)
      → (IsTold new → AllByRecursion Of log) → LogStands old was log own → LogStands new is log own
  log_on Of was is log [] same keeps each stands = stands
  log_on Of was is log (Create schema ∷ own) same keeps each stands = log_on Of was is log own same keeps each stands
  log_on Of was is [] (change ∷ own) same keeps each stands = stands
  log_on Of was is (logged ∷ log) (change ∷ own) same keeps each stands =
      let undo = logged.undo in (
        stands_on was is logged log change (λ at. same logged at (each at).0) (λ at. keeps logged at (each at).0) stands.0,
        log_on Of (taken_back undo was) (taken_back undo is) log own
            (λ l at of. ap (cond (l.undo.table == undo.table && is_at (key_cmp undo.key) l.undo.key) (was_before undo)) (same l at of)) keeps
            (λ at. (each at).1) stands.1,
      )

-- the change's own record, or another
pub here_or_not : (undo : Undo) (table : ℕ) (key : List ℕ) → ((table ≡ undo.table) × (key ≡ undo.key)) ⊎ ((table ≢ undo.table) ⊎ (key ≢ undo.key))
here_or_not undo table key =
    ⊎_elim (λ same. ⊎_elim (λ also. inl (same, also)) (λ differs. inr (inr differs)) (same_or_not key undo.key)) (λ differs. inr (inl differs))
    (cases_eq table undo.table)

-- ---- of which rows a log tells

pub key_told : {undo : Undo} {schema : Schema} {place : Place} {schemas : List Schema} → TellsOf undo schema place schemas → IsKeyAt schema place.key undo.key
key_told tells = record { column = tells.primary; primary = tells.primary_is; has_key = tells.has_key; spelled = tells.key_is }

module _ (state : WorldState) {undo : Undo} {schema : Schema} {place : Place} (tells : TellsOf undo schema place state.schemas) where
  -- two undo records of one row tell of one place
  one_place : (other : Undo) (found : Schema) (also : Place) → TellsOf other found also state.schemas → other.table ≡ undo.table → other.key ≡ undo.key
      → also ≡ place
  one_place other found also theirs table_is key_is =
      let here : found ≡ schema = let there = theirs.there in let here = tells.there in cc in
      let key = one_value schema also.key place.key undo.key (rw (here, key_is) at (key_told theirs)) (key_told tells) in
      let table : also.table ≡ place.table = theirs.table_is ∙ table_is ∙ sym tells.table_is in
      λ i. record { table = table i; key = key i }

  -- a log of changes of other places has no record of the row
  pub log_elsewhere : (records : RecordsAt) (log : List Logged) (own : List Change) → list_any (is_change_at state.schemas place) own ≡ false
      → LogStands state records log own → AllByRecursion (IsElsewhere undo.table undo.key) log
  log_elsewhere records [] own none stands = record {}
  log_elsewhere records (logged ∷ log) [] none stands = absurd (cc)
  log_elsewhere records (logged ∷ log) (Create made ∷ own) none stands = log_elsewhere records (logged ∷ log) own none stands
  log_elsewhere records (logged ∷ log) (change ∷ own) none stands =
      let parts = or_parts (is_change_at state.schemas place change) (list_any (is_change_at state.schemas place) own) none in (
        elim (here_or_not undo logged.undo.table logged.undo.key) [
          | inl same ↦
              let one = one_place logged.undo stands.0.schema stands.0.place stands.0.tells same.0 same.1 in
              let is : is_change_at state.schemas place change ≡ true = ap (is_place place) (stands.0.place_is ∙ ap Some one) ∙ place_itself place in
              let not = parts.0 in
              absurd (cc)
          | inr apart ↦ apart
        ],
        log_elsewhere (taken_back logged.undo records) log own parts.1 stands.1,
      )

-- ---- the newest record

module _ {state : WorldState} {records : RecordsAt} {logged : Logged} {log : List Logged} where
  -- a change of a row has its record on top
  pub newest_stands : {place : Place} (change : Change) (own : List Change) → place_in state.schemas change ≡ Some place
      → LogStands state records (logged ∷ log) (change ∷ own)
      → Stands state records logged log change × LogStands state (taken_back logged.undo records) log own
  newest_stands (Create schema) own is stands = absurd (cc)
  newest_stands change own is stands = stands

  pub one_more : (change : Change) (own : List Change) → Stands state records logged log change → LogStands state (taken_back logged.undo records) log own
      → LogStands state records (logged ∷ log) (change ∷ own)
  one_more (Create schema) own stands rest = absurd (let is = stands.place_is in cc)
  one_more change own stands rest = (stands, rest)

-- ---- What stands at each key of each table without a change of one row.

not_at : (key other : List ℕ) → other ≢ key → is_at (key_cmp key) other ≡ false
not_at key other differs = go (key_cmp key other) refl where
  go : (o : Ordering) → key_cmp key other ≡ o → is_eq (key_cmp key other) ≡ false
  go Less is = ap is_eq is
  go Equal is = absurd (differs (sym (same_key key other is)))
  go Greater is = ap is_eq is

pub taken_elsewhere : (undo : Undo) (records : RecordsAt) (table : ℕ) (key : List ℕ) → (table ≢ undo.table) ⊎ (key ≢ undo.key)
    → taken_back undo records table key ≡ records table key
taken_elsewhere undo records table key (inl differs) = rw (ne_eqb table undo.table differs)
taken_elsewhere undo records table key (inr differs) =
    ap (λ b. cond b (was_before undo) (records table key)) (and_right (table == undo.table) (is_at (key_cmp undo.key) key) (not_at undo.key key differs))

-- records are those of which the change's own is taken back where that is what was before, and all others are the same
pub taken_as : (undo : Undo) (was is : RecordsAt) → is undo.table undo.key ≡ was_before undo
    → ((table : ℕ) (key : List ℕ) → (table ≢ undo.table) ⊎ (key ≢ undo.key) → is table key ≡ was table key)
    → (table : ℕ) (key : List ℕ) → is table key ≡ taken_back undo was table key
taken_as undo was is here others table key =
    ⊎_elim (λ same. rw (same.0, same.1, here, eq-eqb undo.table undo.table refl, key_itself undo.key))
    (λ apart. others table key apart ∙ sym (taken_elsewhere undo was table key apart)) (here_or_not undo table key)

abbrev records_in : (ℕ → List Pair) → RecordsAt
records_in pairs table key = value_of key (pairs (clustered_index table))

-- a record that is put leaves all others
module _ (undo : Undo) (value : Option (List ℕ)) (old new : ℕ → List Pair) (puts : Puts old new (clustered_index undo.table) undo.key value) where
  put_in_table : (table : ℕ) (key : List ℕ) → table ≢ undo.table → records_in new table key ≡ records_in old table key
  put_in_table table key differs =
      ap (value_of key) (at_others old new (clustered_index undo.table) undo.key value (clustered_index table) puts (other_rows undo.table table differs))

  pub put_elsewhere : (table : ℕ) (key : List ℕ) → (table ≢ undo.table) ⊎ (key ≢ undo.key) → records_in new table key ≡ records_in old table key
  put_elsewhere table key (inl differs) = put_in_table table key differs
  put_elsewhere table key (inr differs) =
      ⊎_elim
      (λ same. rw same
      (ap (value_of key) (at_index old new (clustered_index undo.table) undo.key value puts)
      ∙ others_now undo.key value key (old (clustered_index undo.table)) differs)) (put_in_table table key) (cases_eq table undo.table)
