-- What an outcome rests on, and that it stands on it, is left by a table more.
-- The laws of `more_tables` end here; a basis says of each claim which tables it is about.
use Rattle.std.proofs.Common.{◌≡◌, ◌∙◌, ap, sym, subst, refl, ℕ, ◌<◌, ◌≤◌, Bool, true, false, cond, List, [], ◌∷◌, ◌++◌, length, None, inl, inr, arith}
use Rattle.std.specs.Prelude.{◌||◌, nat_lt, if◌then◌else◌, slice_get}
use Rattle.std.specs.FinMap.{get}
use Rattle.std.proofs.lemmas.Bool.{false≢true}
use Rattle.std.proofs.lemmas.Bool.Decides.{nat_tests}
use Rattle.inno_types.specs.declared.value.Schema.{Schema}
use Rattle.inno_types.specs.declared.stmt.Stmt.{Stmt}
use Rattle.inno_types.specs.declared.reply.Reply.{Reply}
use Rattle.inno_db.specs.declared.change.Change.{Change}
use Rattle.inno_db.specs.declared.change.Change.TheVariants.{Create, Put, Remove}
use Rattle.inno_db.specs.declared.outcome.Outcome.{Outcome}
use Rattle.inno_db.specs.Database.{Database, Place}
use Rattle.inno_db.specs.Changes.{apply_one, apply}
use Rattle.inno_db.specs.Conditions.{matches}
use Rattle.inno_db.specs.Names.{table_place}
use Rattle.inno_db.specs.Refusals.{refusal}
use Rattle.inno_db.specs.Outcome.{outcome}
use Rattle.inno_model.specs.declared.event.Event.{Event}
use Rattle.inno_model.specs.declared.event.Event.TheVariants.{Committed}
use Rattle.inno_model.specs.Past.{own, changed, commits, committed, opening}
use Rattle.sql_history.specs.Items.{own_before, base}
use Rattle.sql_history.specs.Statements.{is_on_rows}
use Rattle.sql_history.proofs.Pasts.{changed_append, commit_adds}
use Rattle.law_db.specs.RowChanges.{AreOfTables}
use Rattle.law_db.specs.Beside.{is_change_at, touches, AreOfRows, passed}
use Rattle.law_db.proofs.Apart.{schemas_stay, get_one, made_at}
use Rattle.law_claims.specs.Claims.{Claim, Tables, Row, Rows, Leaves, Basis, RestsOn, Stands}
use Rattle.law_claims.proofs.Standing.{of_rows}
use Rattle.law_histories.specs.Work.{committed_db}
use Rattle.write_statement.specs.Parts.{GoesOnWith}
use Rattle.law_locked_work.specs.Wider.{Widens, IsAbout, IsPlaced, GoesWide}
use Rattle.law_locked_work.proofs.Names.{place_stays, place_within, got_before}
use Rattle.law_locked_work.proofs.Outcomes.{outcome_wide}
use Rattle.law_locked_work.proofs.Changes.{at_wide, at_other, widens_one, widens_changed, widens_created, goes_wide}

-- of changes those of the first so many tables
abbrev pub old_only : ℕ → List Change → List Change
old_only n [] = []
old_only n (Create schema ∷ changes) = old_only n changes
old_only n (Put table row ∷ changes) = if nat_lt table n then Put table row ∷ old_only n changes else old_only n changes
old_only n (Remove table key ∷ changes) = if nat_lt table n then Remove table key ∷ old_only n changes else old_only n changes

less_or : (a b : ℕ) → (nat_lt a b ≡ true → a < b) × (nat_lt a b ≡ false → b ≤ a)
less_or a b = (λ is. grind (arith, nat_tests, is), λ is. grind (arith, nat_tests, is))

of_old : (schemas : List Schema) (changes : List Change) → AreOfRows changes → AreOfTables schemas (old_only (length schemas) changes)
of_old schemas [] rows = tt
of_old schemas (Create schema ∷ changes) rows = absurd rows
of_old schemas (Put table row ∷ changes) rows =
    elim (nat_lt table (length schemas))
    as (λ b. nat_lt table (length schemas) ≡ b
    → AreOfTables schemas (if b then Put table row ∷ old_only (length schemas) changes else old_only (length schemas) changes)) [
      | true ↦ λ is. ((less_or table (length schemas)).0 is, of_old schemas changes rows)
      | false ↦ λ is. of_old schemas changes rows
    ] refl
of_old schemas (Remove table key ∷ changes) rows =
    elim (nat_lt table (length schemas))
    as (λ b. nat_lt table (length schemas) ≡ b
    → AreOfTables schemas (if b then Remove table key ∷ old_only (length schemas) changes else old_only (length schemas) changes)) [
      | true ↦ λ is. ((less_or table (length schemas)).0 is, of_old schemas changes rows)
      | false ↦ λ is. of_old schemas changes rows
    ] refl

touches_old : (schemas more : List Schema) (changes : List Change) (place : Place) → touches schemas (old_only (length schemas) changes) place ≡ true
    → touches (schemas ++ more) changes place ≡ true
touches_old schemas more [] place touched = touched
touches_old schemas more (Create schema ∷ changes) place touched = touches_old schemas more changes place touched
touches_old schemas more (Put table row ∷ changes) place touched =
    elim (nat_lt table (length schemas))
    as (λ b. nat_lt table (length schemas) ≡ b
    → touches schemas (if b then Put table row ∷ old_only (length schemas) changes else old_only (length schemas) changes) place ≡ true
    → touches (schemas ++ more) (Put table row ∷ changes) place ≡ true) [
      | true ↦ λ is e.
          ap (λ b. b || touches (schemas ++ more) changes place) (at_wide schemas more place (Put table row) ((less_or table (length schemas)).0 is))
          ∙ or_more (is_change_at schemas place (Put table row)) (touches schemas (old_only (length schemas) changes) place)
          (touches (schemas ++ more) changes place)
          (touches_old schemas more changes place) e
      | false ↦ λ is e. or_last (is_change_at (schemas ++ more) place (Put table row)) (touches (schemas ++ more) changes place)
          (touches_old schemas more changes place e)
    ] refl touched
  where
    or_more : (a b c : Bool) → (b ≡ true → c ≡ true) → (a || b) ≡ true → (a || c) ≡ true
    or_more true b c more is = refl
    or_more false b c more is = more is

    or_last : (a c : Bool) → c ≡ true → (a || c) ≡ true
    or_last true c is = refl
    or_last false c is = is
touches_old schemas more (Remove table key ∷ changes) place touched =
    elim (nat_lt table (length schemas))
    as (λ b. nat_lt table (length schemas) ≡ b
    → touches schemas (if b then Remove table key ∷ old_only (length schemas) changes else old_only (length schemas) changes) place ≡ true
    → touches (schemas ++ more) (Remove table key ∷ changes) place ≡ true) [
      | true ↦ λ is e.
          or_more (is_change_at schemas place (Remove table key)) (touches schemas (old_only (length schemas) changes) place)
          (touches (schemas ++ more) changes place)
          (touches_old schemas more changes place) e
      | false ↦ λ is e. or_last (is_change_at (schemas ++ more) place (Remove table key)) (touches (schemas ++ more) changes place)
          (touches_old schemas more changes place e)
    ] refl touched
  where
    or_more : (a b c : Bool) → (b ≡ true → c ≡ true) → (a || b) ≡ true → (a || c) ≡ true
    or_more true b c more is = refl
    or_more false b c more is = more is

    or_last : (a c : Bool) → c ≡ true → (a || c) ≡ true
    or_last true c is = refl
    or_last false c is = is

-- a change of a table that the narrower one doesn't have
widens_elsewhere : (some wide : Database) → Widens some wide → (change : Change) → (apply_one wide change).schemas ≡ wide.schemas
    → ((place : Place) → place.0 < length some.schemas → is_change_at wide.schemas place change ≡ false) → Widens some (apply_one wide change)
widens_elsewhere some wide widens change same apart =
    record {
      more = widens.more;
      tables = same ∙ widens.tables;
      rows = λ place within.
          get_one wide change place
          ∙ (ap (λ b. cond b (made_at change (get wide.rows place)) (get wide.rows place)) (apart place within) ∙ widens.rows place within);
    }

module _ (some wide : Database) (widens : Widens some wide) where
  abbrev n : ℕ
  n = length some.schemas

  same_some : (changes : List Change) → AreOfRows changes → (changed some (old_only n changes)).schemas ≡ some.schemas
  same_some changes rows = schemas_stay some (old_only n changes) (of_rows some.schemas (old_only n changes) (of_old some.schemas changes rows))

  -- others' changes make the wider one of the narrower one with those of its tables
  pub widens_old : (changes : List Change) → AreOfRows changes → Widens (changed some (old_only n changes)) (changed wide changes)
  widens_old [] rows = widens
  widens_old (Create schema ∷ changes) rows = absurd rows
  widens_old (Put table row ∷ changes) rows =
      let later = widens_old changes rows in
      elim (nat_lt table n)
      as (λ b. nat_lt table n ≡ b
      → Widens (changed some (if b then Put table row ∷ old_only n changes else old_only n changes)) (changed wide (Put table row ∷ changes))) [
        | true ↦ λ is.
            widens_one (changed some (old_only n changes)) (changed wide changes) later (Put table row)
            (subst (λ (ss : List Schema). table < length ss) (sym (same_some changes rows)) ((less_or table n).0 is))
        | false ↦ λ is.
            widens_elsewhere (changed some (old_only n changes)) (changed wide changes) later (Put table row) refl
            (λ place within. (at_other (changed wide changes).schemas n place (Put table row) table ((less_or table n).1 is)
            (subst (λ (ss : List Schema). place.0 < length ss) (same_some changes rows) within)).0 row refl)
      ] refl
  widens_old (Remove table key ∷ changes) rows =
      let later = widens_old changes rows in
      elim (nat_lt table n)
      as (λ b. nat_lt table n ≡ b
      → Widens (changed some (if b then Remove table key ∷ old_only n changes else old_only n changes)) (changed wide (Remove table key ∷ changes))) [
        | true ↦ λ is.
            widens_one (changed some (old_only n changes)) (changed wide changes) later (Remove table key)
            (subst (λ (ss : List Schema). table < length ss) (sym (same_some changes rows)) ((less_or table n).0 is))
        | false ↦ λ is.
            widens_elsewhere (changed some (old_only n changes)) (changed wide changes) later (Remove table key) refl
            (λ place within. (at_other (changed wide changes).schemas n place (Remove table key) table ((less_or table n).1 is)
            (subst (λ (ss : List Schema). place.0 < length ss) (same_some changes rows) within)).1 key refl)
      ] refl

  touched_wide : (changes : List Change) (place : Place) → touches some.schemas (old_only n changes) place ≡ true → touches wide.schemas changes place ≡ true
  touched_wide changes place touched =
      ap (λ (ss : List Schema). touches ss changes place) widens.tables ∙ touches_old some.schemas widens.more changes place touched

  -- what leaves a claim about the tables of the narrower one leaves it there
  leaves_old : (others : List Change) → AreOfRows others → (claim : Claim) → IsAbout some.schemas claim → Leaves claim wide others
      → Leaves claim some (old_only n others)
  leaves_old others rows Tables about leaves = of_old some.schemas others rows
  leaves_old others rows (Row place) about leaves =
      elim (touches some.schemas (old_only n others) place) as (λ b. touches some.schemas (old_only n others) place ≡ b → b ≡ false) [
        | true ↦ λ is. absurd (false≢true (sym leaves ∙ touched_wide others place is))
        | false ↦ λ is. refl
      ] refl
  leaves_old others rows (Rows name condition) about leaves = λ table schema named is key touched.
      let within = place_within some.schemas name table named in
      let unmet =
      leaves table schema (ap (λ (ss : List Schema). table_place ss name) widens.tables ∙ place_stays some.schemas widens.more name table named)
      (ap (λ (ss : List Schema). slice_get ss table) widens.tables ∙ got_before some.schemas widens.more table schema is)
      key (touched_wide others (table, key) touched) in (
        ap (passed (matches schema.columns condition)) (sym (widens.rows (table, key) within)) ∙ unmet.0,
        ap (passed (matches schema.columns condition))
            (sym ((widens_old others rows).rows (table, key) (subst (λ (ss : List Schema). table < length ss) (sym (same_some others rows)) within))) ∙ unmet.1,
      )

  touches_same : (changes : List Change) → AreOfTables some.schemas changes → (place : Place)
      → touches (some.schemas ++ widens.more) changes place ≡ touches some.schemas changes place
  touches_same [] of place = refl
  touches_same (Create schema ∷ changes) of place = absurd of
  touches_same (Put table row ∷ changes) of place =
      ap (λ b. b || touches (some.schemas ++ widens.more) changes place) (at_wide some.schemas widens.more place (Put table row) of.0)
      ∙ ap (λ b. is_change_at some.schemas place (Put table row) || b) (touches_same changes of.1 place)
  touches_same (Remove table key ∷ changes) of place =
      ap (λ b. is_change_at some.schemas place (Remove table key) || b) (touches_same changes of.1 place)

  rests_wide : (basis : Basis) → IsPlaced some.schemas basis → (claim : Claim) → RestsOn some.schemas basis claim → RestsOn wide.schemas basis claim
  rests_wide basis placed Tables rests = tt
  rests_wide basis placed (Row place) (inl touched) =
      inl (ap (λ (ss : List Schema). touches ss basis.changes place) widens.tables ∙ (touches_same basis.changes placed.changes place ∙ touched))
  rests_wide basis placed (Row place) (inr at) = inr at
  rests_wide basis placed (Rows name condition) rests = rests

  -- What stands on its basis stands on it with more tables.
  pub stands_wide : (basis : Basis) → IsPlaced some.schemas basis → (Holds : Database → Type 0) → GoesWide some.schemas Holds → Stands basis Holds some
      → Stands basis Holds wide
  stands_wide basis placed Holds goes stands = λ others leaves.
      let rows = of_rows wide.schemas others (leaves Tables tt) in
      goes (changed some (old_only n others)) (changed wide others) (same_some others rows) (widens_old others rows)
      (stands (old_only n others) (λ claim rests.
      leaves_old others rows claim (placed.claims claim rests) (leaves claim (rests_wide basis placed claim rests))))

-- ---- what stands of statements

reply_wide : (schemas : List Schema) (statement : Stmt) (reply : Reply) → is_on_rows statement ≡ true → refusal schemas statement ≡ None
    → GoesWide schemas (λ db. (outcome statement db).reply ≡ reply)
reply_wide schemas statement reply rows none some wide same widens is =
    ap (λ (o : Outcome). o.reply) (outcome_wide some wide widens statement rows (ap (λ (ss : List Schema). refusal ss statement) same ∙ none)) ∙ is

-- a reply, as of a refusal
pub reply_stands : (some wide : Database) → Widens some wide → (basis : Basis) → IsPlaced some.schemas basis → (statement : Stmt) (reply : Reply)
    → is_on_rows statement ≡ true → refusal some.schemas statement ≡ None → Stands basis (λ db. (outcome statement db).reply ≡ reply) some
    → Stands basis (λ db. (outcome statement db).reply ≡ reply) wide
reply_stands some wide widens basis placed statement reply rows none stands =
    stands_wide some wide widens basis placed (λ db. (outcome statement db).reply ≡ reply) (reply_wide some.schemas statement reply rows none) stands

tables_apply : (db : Database) (changes : List Change) → AreOfTables db.schemas changes → (apply db changes).schemas ≡ db.schemas
tables_apply db [] of = refl
tables_apply db (Create schema ∷ changes) of = absurd of
tables_apply db (Put table row ∷ changes) of = tables_apply (apply_one db (Put table row)) changes of.1
tables_apply db (Remove table key ∷ changes) of = tables_apply (apply_one db (Remove table key)) changes of.1

-- what comes behind its first changes
pub rest_stands : (some wide : Database) → Widens some wide → (basis : Basis) → IsPlaced some.schemas basis → (statement rest : Stmt) (made : List Change)
    → is_on_rows statement ≡ true → is_on_rows rest ≡ true → refusal some.schemas statement ≡ None → refusal some.schemas rest ≡ None
    → AreOfTables some.schemas made → Stands basis (λ db. GoesOnWith statement db made (outcome rest)) some
    → Stands basis (λ db. GoesOnWith statement db made (outcome rest)) wide
rest_stands some wide widens basis placed statement rest made rows rest-rows none rest-none of stands =
    stands_wide some wide widens basis placed (λ db. GoesOnWith statement db made (outcome rest))
    (λ less more same wider goes.
    let tabled = subst (λ (ss : List Schema). AreOfTables ss made) (sym same) of in
    goes_wide statement rest made less more wider rows rest-rows (ap (λ (ss : List Schema). refusal ss statement) same ∙ none) tabled
    (ap (λ (ss : List Schema). refusal ss rest) (tables_apply less made tabled ∙ same) ∙ rest-none) goes)
    stands

-- ---- what a session's statement acts on, where another commits a table

pub base_wide : (s u : ℕ) (schema : Schema) (past : List Event) → own u past ≡ Create schema ∷ [] → AreOfTables (committed_db past).schemas (own_before s past)
    → Widens (base s past) (base s (Committed u ∷ past))
base_wide s u schema past made of =
    let before : base s past ≡ changed (committed_db past) (own_before s past) =
    changed_append (opening past) (own_before s past) (committed (commits past) past) in
    let behind : base s (Committed u ∷ past) ≡ changed (apply_one (committed_db past) (Create schema)) (own_before s past) =
    changed_append (opening past) (own_before s past) (committed (commits (Committed u ∷ past)) (Committed u ∷ past))
    ∙ (ap (λ (d : Database). changed d (own_before s past)) (commit_adds u past)
    ∙ ap (λ (cs : List Change). changed (changed (committed_db past) cs) (own_before s past)) made) in
    subst (λ (d : Database). Widens d (base s (Committed u ∷ past))) (sym before)
    (subst (Widens (changed (committed_db past) (own_before s past))) (sym behind)
    (widens_changed (committed_db past) (apply_one (committed_db past) (Create schema)) (widens_created (committed_db past) schema) (own_before s past) of))
