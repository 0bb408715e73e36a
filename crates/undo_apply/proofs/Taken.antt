-- What keys say of a place, what the change of one entry makes of a change that is being taken back, and how that ends.
use Rattle.std.proofs.Common.{◌≡◌, ◌≢◌, ⊎_elim, ℕ, ◌+◌, Bool, true, false, cond, List, Option, Some, refl, sym, ap, subst, ◌∙◌, arith, slice_get, inl, inr}
use Rattle.std.proofs.Common.{◌<◌, [], ◌∷◌, None, length}
use Rattle.std.proofs.lemmas.Bool.Decides.{nat_tests}
use Rattle.std.specs.Prelude.{◌==◌}
use Rattle.std.proofs.lemmas.{Bool.cases_eq, Bool.cond-true, Bool.cond-false, Bool.eq-eqb, Bool.ne_eqb, Option.slice_get_within}
use Rattle.inno_types.specs.{declared.value.Value.Value, declared.value.Key.Key, declared.value.Schema.Schema}
use Rattle.key_codec.specs.Keys.{entry_code}
use Rattle.entries.specs.Pairs.{Pair, value_of}
use Rattle.row_versions.specs.{declared.kept.Kept.Kept, declared.place.Place.Place, declared.version.Version.Version}
use Rattle.row_versions.specs.Chains.{Chains, versions_at, is_same_place, Pops, newest, older}
use Rattle.law_stored_rows.specs.Tables.{what_is_there, Said, AreCodedAs, AreCoded, SayTheSameBut, SaysNow, place_in}
use Rattle.law_stored_rows.specs.{Edits.clustered_index, Edits.key_index, Edits.Puts}
use Rattle.law_stored_rows.specs.{Records.shown, Records.IsCodeOf, Records.LeadTo, Steps.PutsRecord}
use Rattle.law_stored_rows.specs.Entries.{TellAlike, value_in, has_value, entry_of as entry_said, TellAlikeBut}
use Rattle.secondary.specs.Entries.{entry_of}
use Rattle.law_stored_rows.proofs.{Tables.at, Tables.popped_here, Pairs.no_key, Pairs.value_now, Values.place_itself, Values.value_itself}
use Rattle.law_stored_rows.proofs.{Steps.record_taken_back, Steps.record_removed, RowRecords.pointer_followed, RowRecords.one_lead}
use Rattle.law_stored_rows.proofs.Keys.{entry_changed, change_over}
use Rattle.law_stored_rows.proofs.Entries.{marked, taken, is_taken, unmarked, is_unmarked, without_row, value_again}
use Rattle.undo_apply.specs.{Told.Rows}
use Rattle.undo_apply.specs.Standing.{said_but, AreCodedBut, IsLagging, SayBefore, TellsOf, IsNewest, IsCleared, IsUnderWay, versions_before, column_of}
use Rattle.undo_apply.specs.Standing.{some_has, LeadsBack, was_before, IsTakenBack}
use Rattle.std.specs.List.{list_any}
use Rattle.store_api.specs.{declared.answers.Undo.Undo}
use Rattle.store_api.specs.declared.answers.Version.{Version as Coded}
use Rattle.undo_apply.proofs.{Telling.pairs_after}
use Rattle.undo_apply.proofs.Columns.{IsKeyAt, key_at, few_keys, place_is, WasThere, WasNot, newest_read, before_new, before_kept}
use Rattle.row_codec.proofs.Once.{same_version}

-- one key says something else now
abbrev pub set_said : (ℕ → List Version) → ℕ → List Version → ℕ → List Version
set_said said which versions other = cond (other == which) versions (said other)

pub set_here : (said : ℕ → List Version) (which : ℕ) (versions : List Version) → set_said said which versions which ≡ versions
set_here said which versions = cond-true (which == which) versions (said which) (eq-eqb which which refl)

pub set_others : (said : ℕ → List Version) (which : ℕ) (versions : List Version) (other : ℕ) → other ≢ which → set_said said which versions other ≡ said other
set_others said which versions other differs = cond-false (other == which) versions (said other) (ne_eqb other which differs)

module _ (newest : Version) (before : List Version) (said : ℕ → List Version) (which : ℕ) where
  pub here_now : (Was Now : List Version → Type 0) (versions : List Version) → Now versions → SayBefore which Was newest before said
      → SayBefore which Now newest before (set_said said which versions)
  here_now Was Now versions now says = record {
    first = λ other less. set_others said which versions other (omega arith) ∙ says.first other less;
    here = rw (set_here said which versions) now;
    others = λ other more. rw (set_others said which versions other (omega arith)) (says.others other more);
  }

  pub one_done : (Was : List Version → Type 0) → SayBefore which Was newest before said
      → SayBefore (which + 1) (IsLagging newest before) newest before (set_said said which before)
  one_done Was says = record {
    first = λ other less. let was = says.first other in grind (arith, nat_tests);
    here = rw (set_others said which before (which + 1) (omega arith)) (says.others (which + 1) (omega arith));
    others = λ other more. rw (set_others said which before other (omega (arith, more))) (says.others other (omega (arith, more)));
  }

-- ---- what keys say of all places

pub says_place : (beside : Said) (place : Place) (said : ℕ → List Version) (which : ℕ) → said_but beside place said place.table which place.key ≡ said which
says_place beside place said which = cond-true (is_same_place place place) (said which) (beside place.table which place.key) (place_itself place)

-- of other places keys say what `beside` has: where that is what is there, they lag at this place alone
pub lags_there : (beside : Said) (place : Place) (said : ℕ → List Version) → SayTheSameBut place beside (said_but beside place said)
lags_there beside place said table which value apart = cond-false (is_same_place place (at table value)) (said which) (beside table which value) apart

pub sets_there : (beside : Said) (place : Place) (said : ℕ → List Version) (which : ℕ) (versions : List Version)
    → SaysNow (said_but beside place said) (said_but beside place (set_said said which versions)) place which versions
sets_there beside place said which versions table key value = grind (arith, nat_tests)

-- ---- what the change of one entry makes of a change that is being taken back

-- a version without a row
abbrev gone : Version
gone = record { writer = 0; row = None }

-- ---- what one key says, before its entry is changed and after

module _ (column : ℕ) (value : Value) (first : Version) (before : List Version) where
  abbrev any : Bool
  any = list_any (λ version. has_value column value version.row) before

  -- the key may say these versions once the entry is dropped
  pub record Dropped (said : List Version) : Type 0 where
    pub versions : List Version
    pub alike : TellAlikeBut value column said versions
    pub told : entry_said column value versions ≡ cond any (Some (1 ∷ [])) None
    pub cleared : IsCleared before versions

  gone_now : (said : List Version) → TellAlikeBut value column said (gone ∷ before) → Dropped said
  gone_now said alike = record { versions = gone ∷ before; alike = alike; told = is_taken column value gone before refl; cleared = inr (gone, refl, refl) }

  at_before : (b : Bool) → has_value column value (newest before) ≡ b → Dropped before
  at_before true has = gone_now before (marked column value gone before has refl)
  at_before false has = record { versions = before; alike = λ other apart. refl; told = rw has refl; cleared = inl refl }

  pub drop_to : has_value column value first.row ≡ true → (said : List Version) → IsLagging first before said → Dropped said
  drop_to has said (inl (inl same)) = subst Dropped (sym same) (at_before (has_value column value (newest before)) refl)
  drop_to has said (inl (inr (away, none, same))) = record {
    versions = away ∷ before;
    alike = λ other apart. ap (entry_said column other) same;
    told = is_taken column value away before none;
    cleared = inr (away, none, refl);
  }
  drop_to has said (inr same) = subst Dropped (sym same) (gone_now (first ∷ before) (taken column value first gone before has refl))

  pub unmark_to : has_value column value (newest before) ≡ true → (said : List Version) → IsCleared before said → TellAlikeBut value column said before
  unmark_to has said (inl same) = λ other apart. ap (entry_said column other) same
  unmark_to has said (inr (away, none, same)) = λ other apart. ap (entry_said column other) same ∙ unmarked column value away before has none other apart

-- ---- all keys

module _ (chains : Chains) (beside : Said) {place : Place} {undo : Undo} {schema : Schema} (rows : Rows) (tells : TellsOf undo schema place rows.schemas) where
  abbrev before : List Version
  before = versions_before chains place

  abbrev entry_at : ℕ → Coded → List ℕ
  entry_at which version = entry_of schema (which + 1) version.row undo.key

  -- the rows once the entry of a record has this value
  abbrev pub with_entry : ℕ → Coded → Option (List ℕ) → Rows
  with_entry which version value = record rows { pairs = pairs_after (key_index undo.table which) (entry_at which version) value rows.pairs }

  newest_same : (which : ℕ) (version : Coded) (value : Option (List ℕ)) (bytes : List ℕ) (coded : Coded) → which < length schema.keys
      → IsNewest undo schema rows.pairs rows.kept bytes coded → IsNewest undo schema (with_entry which version value).pairs rows.kept bytes coded
  newest_same which version value bytes coded within is = record {
    there = rw (ne_eqb (clustered_index undo.table) (key_index undo.table which)
        (λ same. no_key undo.table undo.table which (omega (arith, within, few_keys schema tells.storable)) (sym same))) is.there;
    code_is = is.code_is;
    before = is.before;
  }

  -- the entry of a record of the place is changed
  entry_put : (said : ℕ → List Version) (which : ℕ) (it : IsKeyAt schema tells.storable which) (version : Coded) (bytes : List ℕ) (versions : List Version)
      (value : Option (List ℕ)) → AreCodedBut rows.schemas rows.pairs rows.kept chains beside place said → IsCodeOf schema undo.key bytes version
      → TellAlikeBut (value_in it.key.column version.row) it.key.column (said which) versions
      → entry_said it.key.column (value_in it.key.column version.row) versions ≡ value
      → AreCodedBut rows.schemas (with_entry which version value).pairs rows.kept chains beside place (set_said said which versions)
  entry_put said which it version bytes versions value are code alike told =
      let here = place_is undo schema place rows.schemas tells bytes version code in
      let column = it.key.column in
      let puts : Puts rows.pairs (with_entry which version value).pairs (key_index undo.table which)
      (entry_code it.on.column.kind (value_in column version.row) undo.key) (entry_said column (value_in column version.row) versions)
      = rw (← it.entry_is version.row undo.key, told) (λ other. refl) in
      let was = said_but beside place said in
      let now = said_but beside place (set_said said which versions) in
      let Alike : List Version → Type 0 = λ v. TellAlikeBut (value_in it.key.column version.row) it.key.column v versions in
      let alike_there = subst (λ (p : Place). Alike (was p.table which p.key)) (sym here) (rw (says_place beside place said which) alike) in
      entry_changed rows.schemas rows.pairs (with_entry which version value).pairs rows.kept chains undo.table schema which it.key it.on.column undo.key bytes
      version was now versions are tells.there it.key_is it.on.there code alike_there puts
      (subst (λ (p : Place). SaysNow was now p which versions) (sym here) (sets_there beside place said which versions))

  abbrev UnderWay : Rows → List ℕ → Coded → ℕ → (List Version → Type 0) → Type 0
  UnderWay now bytes coded done Holds = IsUnderWay chains beside place undo schema now bytes coded done Holds

  -- The newest row's entry is marked, or removed.
  pub dropped : {bytes : List ℕ} {coded : Coded} (which : ℕ) (found : Bool) → which < length schema.keys
      → UnderWay rows bytes coded which (IsLagging (shown coded) before) → coded.marked ≡ false → some_has schema which coded before ≡ found
      → UnderWay (with_entry which coded (cond found (Some (1 ∷ [])) None)) bytes coded which (IsCleared before)
  dropped {bytes} {coded} which found within way plain found_is =
      let it = key_at schema tells.storable which within in
      let value = value_in it.key.column coded.row in
      let drop = drop_to it.key.column value (shown coded) before (rw (plain, value_itself value)) (way.said which) way.says.here in
      let told = drop.told ∙ ap (λ (b : Bool). cond b (Some (1 ∷ [])) None) (rw it.column_is at found_is) in
      record {
        newest = newest_same which coded (cond found (Some (1 ∷ [])) None) bytes coded within way.newest;
        said = set_said way.said which drop.versions;
        coded_but = entry_put way.said which it coded bytes drop.versions _ way.coded_but way.newest.code_is drop.alike told;
        says = here_now (shown coded) before way.said which (IsLagging (shown coded) before) (IsCleared before) drop.versions drop.cleared way.says;
      }

  -- The entry of the row before is unmarked.
  pub unmarked_now : {bytes : List ℕ} {coded : Coded} (which : ℕ) (was : WasThere undo schema before) → which < length schema.keys
      → UnderWay rows bytes coded which (IsCleared before)
      → UnderWay (with_entry which was.former (Some (0 ∷ []))) bytes coded (which + 1) (IsLagging (shown coded) before)
  unmarked_now {bytes} {coded} which was within way =
      let it = key_at schema tells.storable which within in
      let column = it.key.column in
      let value = value_in column was.former.row in
      let has : has_value column value (newest before) ≡ true = rw (was.first, value_itself value) in
      record {
        newest = newest_same which was.former (Some (0 ∷ [])) bytes coded within way.newest;
        said = set_said way.said which before;
        coded_but = entry_put way.said which it was.former undo.value before (Some (0 ∷ [])) way.coded_but was.code_is
            (unmark_to column value (shown coded) before has (way.said which) way.says.here) (is_unmarked column value before has);
        says = one_done (shown coded) before way.said which (IsCleared before) way.says;
      }

  -- what a key says may be said otherwise
  said_now : {bytes : List ℕ} {coded : Coded} {which done : ℕ} {Was Now : List Version → Type 0} (versions : List Version)
      (way : UnderWay rows bytes coded which Was) → ((key : Key) → slice_get schema.keys which ≡ Some key → TellAlike key.column (way.said which) versions)
      → SayBefore done Now (shown coded) before (set_said way.said which versions) → UnderWay rows bytes coded done Now
  said_now {bytes} {coded} {which} {done} {Was} {Now} versions way alike says = record {
    newest = way.newest;
    said = set_said way.said which versions;
    coded_but =
        change_over rows.schemas rows.pairs rows.kept chains place beside (said_but beside place way.said)
        (said_but beside place (set_said way.said which versions)) way.coded_but (lags_there beside place way.said)
        (lags_there beside place (set_said way.said which versions)) (λ number other key there key_is.
        let there_too = rw tells.table_is at there in
        let one : other ≡ schema = cc (there_too, tells.there) in
        rw (says_place beside place way.said number, says_place beside place (set_said way.said which versions) number)
        (⊎_elim (λ e. rw e (rw (set_here way.said which versions) (alike key (rw (one, e) at key_is))))
        (λ differs. rw (set_others way.said which versions number differs) (λ v. refl)) (cases_eq number which)));
    says = says;
  }

  -- Where there was no row before, a cleared key is done.
  pub passed : {bytes : List ℕ} {coded : Coded} {which : ℕ} → WasNot undo before → UnderWay rows bytes coded which (IsCleared before)
      → UnderWay rows bytes coded (which + 1) (IsLagging (shown coded) before)
  passed {bytes} {coded} {which} was way =
      said_now before way
      (λ key key_is. alike key (way.said which) way.says.here) (one_done (shown coded) before way.said which (IsCleared before) way.says) where
        alike : (key : Key) (said : List Version) → IsCleared before said → TellAlike key.column said before
        alike key said (inl same) = λ value. ap (entry_said key.column value) same
        alike key said (inr (away, none, same)) = λ value. ap (entry_said key.column value) same ∙ sym (without_row key.column away before none was.first value)

  here_too : {bytes : List ℕ} {coded : Coded} {which : ℕ} {Was Now : List Version → Type 0} (way : UnderWay rows bytes coded which Was)
      → Now (way.said which) → UnderWay rows bytes coded which Now
  here_too way here = record {
    newest = way.newest;
    said = way.said;
    coded_but = way.coded_but;
    says = record { first = way.says.first; here = here; others = way.says.others };
  }

  -- Where the newest version has no row, the key is clear.
  pub clear_unless_row : {bytes : List ℕ} {coded : Coded} {which : ℕ} → coded.marked ≡ true
      → UnderWay rows bytes coded which (IsLagging (shown coded) before) → UnderWay rows bytes coded which (IsCleared before)
  clear_unless_row {bytes} {coded} {which} is_marked way =
      here_too way (⊎_elim (λ cleared. cleared) (λ same. inr (shown coded, rw is_marked, same)) way.says.here)

  -- Where the newest row has the value of the row before, the key is clear.
  pub clear_of_same : {bytes : List ℕ} {coded : Coded} {which : ℕ} (was : WasThere undo schema before) → coded.marked ≡ false
      → value_in (column_of schema which) was.former.row ≡ value_in (column_of schema which) coded.row
      → UnderWay rows bytes coded which (IsLagging (shown coded) before) → UnderWay rows bytes coded which (IsCleared before)
  clear_of_same {bytes} {coded} {which} was plain same way =
      ⊎_elim (λ (cleared : IsCleared before (way.said which)). here_too way cleared)
      (λ (with_newest : way.said which ≡ shown coded ∷ before). said_now before way (λ key key_is. rw with_newest (alike key key_is))
      (here_now (shown coded) before way.said which (IsLagging (shown coded) before) (IsCleared before) before (inl refl) way.says)) way.says.here where
        alike : (key : Key) → slice_get schema.keys which ≡ Some key → TellAlike key.column (shown coded ∷ before) before
        alike key key_is value =
            sym (value_again key.column was.former.row (shown coded) before coded.row was.first (rw plain) (rw key_is at same) value)

-- ---- the record is put back last

module _ (chains : Chains) (beside : Said) {place : Place} {undo : Undo} {schema : Schema} (rows : Rows) (tells : TellsOf undo schema place rows.schemas) where
  -- the rows once the record is what it was before
  abbrev pub put_back : Rows
  put_back = record rows { pairs = pairs_after (clustered_index undo.table) undo.key (was_before undo) rows.pairs }

  -- keys say of the place what is there
  abbrev there_now : Chains → ℕ → List Version
  there_now after which = versions_at place after

  -- the record is taken back where its pointer leads to what was before, and the keys say what they said
  taken_back : (after : Chains) (bytes : List ℕ) (coded : Coded) (said : ℕ → List Version) → IsNewest undo schema rows.pairs rows.kept bytes coded
      → AreCodedBut rows.schemas rows.pairs rows.kept chains beside place said → Pops chains after place
      → AreCodedBut rows.schemas put_back.pairs rows.kept after beside place said
  taken_back after bytes coded said is are pops = go is.before where
    step : (value : Option (List ℕ)) → was_before undo ≡ value
        → PutsRecord rows.schemas rows.pairs put_back.pairs undo.table schema undo.key bytes coded value
    step value now = record { there = tells.there; code_is = is.code_is; puts = rw (← now) (λ other. refl) }

    there : Pops chains after (place_in undo.table schema coded.row)
    there = subst (λ (p : Place). Pops chains after p) (sym (place_is undo schema place rows.schemas tells bytes coded is.code_is)) pops

    go : LeadsBack undo rows.kept coded.pointer → AreCodedBut rows.schemas put_back.pairs rows.kept after beside place said
    go (inl new) =
        record_removed rows.schemas rows.pairs put_back.pairs rows.kept chains after (said_but beside place said) undo.table schema undo.key bytes coded
        are (step None (before_new undo new.0)) is.there new.1 there
    go (inr (kind, leads, former, keeps, same)) =
        record_taken_back rows.schemas rows.pairs put_back.pairs rows.kept chains after (said_but beside place said) undo.table schema undo.key bytes
        coded are former (step (Some former.bytes) (before_kept undo kind ∙ ap Some (sym same))) is.there leads keeps there

  -- Once all keys say the versions before, all is what it was without the newest version.
  pub ends : {bytes : List ℕ} {coded : Coded}
      → IsUnderWay chains beside place undo schema rows bytes coded (length schema.keys) (IsLagging (shown coded) (versions_before chains place))
      → (after : Chains) → Pops chains after place → IsTakenBack after beside place undo put_back
  ends {bytes} {coded} way after pops = record {
    all =
        change_over rows.schemas put_back.pairs rows.kept after place beside (said_but beside place way.said) (said_but beside place (there_now after))
        (taken_back after bytes coded way.said way.newest way.coded_but pops) (lags_there beside place way.said) (lags_there beside place (there_now after))
        (λ which other key there key_is value.
        let there_too = rw tells.table_is at there in
        let one : other ≡ schema = cc (there_too, tells.there) in
        let within : which < length schema.keys = slice_get_within schema.keys which key (rw one at key_is) in
        ap (entry_said key.column value) (says_place beside place way.said which ∙ way.says.first which within ∙ sym (popped_here chains after place pops)
        ∙ sym (says_place beside place (there_now after) which)));
    there =
        rw (eq-eqb (clustered_index undo.table) (clustered_index undo.table) refl)
        (value_now undo.key (was_before undo) (rows.pairs (clustered_index undo.table)) (way.coded_but.clustered.tables undo.table schema tells.there).rising);
  }

-- ---- a record that stands is not what it was before

stands_yet : (undo : Undo) (schema : Schema) (kept : ℕ → Option Kept) (bytes : List ℕ) (coded : Coded) (before : List Version)
    → IsCodeOf schema undo.key bytes coded → LeadTo schema undo.key kept coded.pointer before → LeadsBack undo kept coded.pointer
    → Some bytes ≡ was_before undo → ⊥
stands_yet undo schema kept bytes coded before code leads_on (inl new) same = let none : Some bytes ≡ None = same ∙ before_new undo new.0 in cc
stands_yet undo schema kept bytes coded before code leads_on (inr (kind, leads, former, keeps, kept_is)) same =
    let some : Some bytes ≡ Some undo.value = same ∙ before_kept undo kind in
    let one_value : former.bytes ≡ bytes = cc (some, kept_is) in
    let read = pointer_followed schema undo.key kept coded.pointer before former leads_on leads keeps in
    let too = rw one_value at read.0 in
    let one : former.version ≡ coded = same_version schema former.version coded undo.key bytes too.numbers code.numbers too.record_is code.record_is in
    let twice = one_lead schema undo.key kept coded.pointer (older before) before (rw one at read.2) leads_on in
    absurd (omega (arith, ap length (twice ∙ read.1)))

pub stands : (chains : Chains) (beside : Said) (place : Place) (undo : Undo) (schema : Schema) (rows : Rows) (bytes : List ℕ) (coded : Coded) (done : ℕ)
    (Holds : List Version → Type 0) → TellsOf undo schema place rows.schemas → IsUnderWay chains beside place undo schema rows bytes coded done Holds
    → value_of undo.key (rows.pairs (clustered_index undo.table)) ≢ was_before undo
stands chains beside place undo schema rows bytes coded done Holds tells way same =
    let read = newest_read undo schema place rows.schemas tells rows.pairs rows.kept chains bytes coded way.coded_but.clustered way.newest in
    stands_yet undo schema rows.kept bytes coded (versions_before chains place) way.newest.code_is read.1 way.newest.before (sym way.newest.there ∙ same)

-- ---- what keys say of other places

module _ (schemas : List Schema) (pairs : ℕ → List Pair) (kept : ℕ → Option Kept) (chains : Chains) (beside : Said) (place : Place) where
  -- Whatever keys say of the place, a change of it may be under way by that.
  pub as_but : (said : Said) → AreCodedAs schemas pairs kept chains said → SayTheSameBut place beside said
      → AreCodedBut schemas pairs kept chains beside place (λ which. said place.table which place.key)
  as_but said are same =
      let here : ℕ → List Version = λ which. said place.table which place.key in
      change_over schemas pairs kept chains place beside said (said_but beside place here) are same (lags_there beside place here)
      (λ which schema key is_there key_is value. ap (entry_said key.column value) (sym (says_place beside place here which)))

  -- Where keys say of the place what is there, and of others too, they say so of all.
  pub as_all : AreCodedBut schemas pairs kept chains beside place (λ which. versions_at place chains) → SayTheSameBut place beside (what_is_there chains)
      → AreCoded schemas pairs kept chains
  as_all are same =
      let there : ℕ → List Version = λ which. versions_at place chains in
      change_over schemas pairs kept chains place beside (said_but beside place there) (what_is_there chains) are (lags_there beside place there) same
      (λ which schema key is_there key_is value. ap (entry_said key.column value) (says_place beside place there which))

-- Where nothing else is under way, all keys say what is there once a change is taken back.
pub whole_yet : (chains : Chains) (place : Place) (undo : Undo) (rows : Rows) → IsTakenBack chains (what_is_there chains) place undo rows
    → AreCoded rows.schemas rows.pairs rows.kept chains
whole_yet chains place undo rows back =
    as_all rows.schemas rows.pairs rows.kept chains (what_is_there chains) place back.all (λ table which value apart. refl)
