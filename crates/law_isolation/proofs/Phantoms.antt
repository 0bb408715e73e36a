-- A legal and serializable history that is free of phantoms is calm.
use Rattle.std.proofs.Common.{◌≡◌, ◌≢◌, ◌∙◌, ap, sym, subst, refl, ℕ, true, false, List, [], ◌∷◌, ◌++◌, Option, Some, None, inl, inr, arith}
use Rattle.std.specs.Prelude.{is_some, Bool}
use Rattle.std.specs.Prelude.{◌==◌}
use Rattle.std.proofs.lemmas.Bool.Decides.{nat_tests}
use Rattle.inno_types.specs.declared.lock.Level.{Level}
use Rattle.inno_types.specs.declared.lock.Level.TheVariants.{Serializable}
use Rattle.inno_types.specs.declared.stmt.Definition.{Definition}
use Rattle.inno_types.specs.declared.stmt.Stmt.{Stmt}
use Rattle.inno_types.specs.declared.stmt.Stmt.TheVariants as stmt
use Rattle.inno_types.specs.declared.value.Schema.{Schema}
use Rattle.inno_db.specs.declared.change.Change.{Change}
use Rattle.inno_db.specs.Database.{Database}
use Rattle.inno_model.specs.declared.event.Event.{Event}
use Rattle.inno_model.specs.declared.event.Event.TheVariants.{Opened, Begin, Ended, Committed}
use Rattle.inno_model.specs.Past.{own, level, under_way, did, begins_txn, commits, committed, opening, IsOpen}
use Rattle.sql_history.specs.Items.{Language, Asks}
use Rattle.sql_history.specs.Statements.{Sight, sight_of}
use Rattle.sql_history.specs.LooseReading.{newest, uncommitted}
use Rattle.sql_history.specs.Legal.{IsLegal}
use Rattle.sql_history.specs.Serial.{Piece, IsSerializable, IsUnstarted, IsSetUp}
use Rattle.sql_history.proofs.Pasts.{changed_append, commit_adds}
use Rattle.law_db.specs.Beside.{AreOfRows}
use Rattle.law_db.proofs.Apart.{schemas_stay}
use Rattle.law_histories.specs.Work.{committed_db}
use Rattle.law_histories.proofs.Placing.{made_of, schemas_after}
use Rattle.law_histories.proofs.Alike.{ReadsOne}
use Rattle.law_histories.proofs.Entries.{by_session, open_not, some_none, true_false}
use Rattle.law_isolation.specs.Pieces.{AreBeside}
use Rattle.law_isolation.specs.Calm.{SeesLatest, MeetsNone, IsCalm, IsCalmTo, AreCalm}
use Rattle.law_isolation.proofs.Made.{of_rows}
use Rattle.law_isolation.proofs.Commits.{makes_rows}
use Rattle.law_isolation.proofs.Kept.{all_kept}
use Rattle.law_isolation.specs.Turns.{IsSerial}
use Rattle.law_isolation.proofs.Turns.{one_serial, no_commit, open_works}
use Rattle.law_isolation.proofs.Calm.{serial_sees, serial_calm}
use Rattle.law_isolation.specs.Phantoms.{AllApart, IsPhantomFree, AreSparedAt, SparesLocked}
use Rattle.law_isolation.proofs.Free.{free_always}
use Rattle.law_isolation.proofs.Setup.{absent_others, setup_of_one, setup_apart, set_up, set_up_before, makes_no_table}
use Rattle.law_isolation.proofs.Views.{serializable_level, serializable_sees}

newest_tables : (past : List Event) → (newest past).schemas ≡ (committed_db past).schemas ++ made_of (uncommitted past)
newest_tables past =
    ap (λ (d : Database). d.schemas) (changed_append (opening past) (uncommitted past) (committed (commits past) past)) ∙ schemas_after (committed_db past)
    (uncommitted past)

-- at the commits of a serial history nobody else has a transaction open
pub serial_free : (says : Language) (past : List Event) → IsSerial past → IsPhantomFree says past
serial_free says [] serial = tt
serial_free says (Committed t ∷ past) serial = (
  λ s pieces differ open_at stands. let other : (t == s) ≡ false =
      grind (arith, nat_tests, differ) in no_commit t s past other serial (open_works s past (ap is_some open_at)),
  serial_free says past serial.1,
)
serial_free says (e ∷ past) serial = serial_free says past serial.1

-- at SERIALIZABLE each statement of an open transaction reads the latest rows and locks them
reads_latest : (a : Stmt) → sight_of Serializable false a ≡ Sight.of_latest
reads_latest (stmt.Select selected table condition None) = refl
reads_latest (stmt.Select selected table condition (Some mode)) = refl
reads_latest other = refl

spared_beside : (pieces : List Piece) (db : Database) (changes : List Change) → AreSparedAt Serializable pieces db changes → AreBeside pieces db changes
spared_beside [] db changes spared = tt
spared_beside (Piece.ran statement reply ∷ pieces) db changes spared = (spared.0 (reads_latest statement), spared_beside pieces db changes spared.1)
spared_beside (Piece.kept name ∷ pieces) db changes spared = (tt, spared_beside pieces db changes spared.1)

pub locked_free : (says : Language) (past : List Event) → SparesLocked says past → IsPhantomFree says past
locked_free says [] spares = tt
locked_free says (Committed t ∷ past) spares = (
  λ s pieces differ open_at stands. spared_beside pieces (committed_db past) (own t past) (spares.0 s Serializable pieces differ open_at stands),
  locked_free says past spares.1,
)
locked_free says (e ∷ past) spares = locked_free says past spares

level_some : (l : Option Level) → is_some l ≡ true → (m : Level) × (l ≡ Some m)
level_some None is_open = (cc)
level_some (Some m) is_open = (m, refl)

module _ (says : Language) (one : ReadsOne says) where
  -- what is asked of a history
  pub record IsFree (past : List Event) : Type 0 where
    pub legal : IsLegal says past
    pub serializable : IsSerializable past
    pub is_set_up : IsSetUp past
    pub free : IsPhantomFree says past

  serializable_before : (e : Event) (past : List Event) → IsSerializable (e ∷ past) → IsSerializable past
  serializable_before (Begin t n l) past all = all.1
  serializable_before e past all = all

  free_before : (e : Event) (past : List Event) → IsPhantomFree says (e ∷ past) → IsPhantomFree says past
  free_before (Committed t) past free = free.1
  free_before e past free = free

  before : (e : Event) (past : List Event) → IsFree (e ∷ past) → IsFree past
  before e past all =
      record {
        legal = all.legal.1;
        serializable = serializable_before e past all.serializable;
        is_set_up = set_up_before says e past all.is_set_up;
        free =
            free_before e past all.free;
      }

  -- what follows
  pub record Holds (past : List Event) : Type 0 where
    pub each : (s : ℕ) → s ≢ 0 → IsCalm says s past
    pub calm : AreCalm says past
    pub apart : AllApart (committed_db past).schemas past

  -- an item of session 0 is under way in the setup part alone
  setting_up : (s : ℕ) (past : List Event) → IsFree past → s ≡ 0 → is_some (under_way s past) ≡ true → IsUnstarted past
  setting_up s past all zero asked =
      elim (set_up says past all.is_set_up) [
        | inl unstarted ↦ unstarted
        | inr none ↦ (let e = ap is_some (ap (λ u. under_way u past) zero ∙ none) in let f = asked in cc)
      ]

  -- while another session has a transaction open, session 0 has no item under way
  begun_apart : (s t : ℕ) (past : List Event) → IsFree past → s ≢ 0 → IsOpen s past → is_some (under_way t past) ≡ true → t ≢ 0
  begun_apart s t past all apart is_open asked zero =
      open_not s past is_open (absent_others says past all.legal (setting_up t past all zero asked) s apart).closed

  no_table : (s : ℕ) (past : List Event) → IsLegal says past → s ≢ 0 → (table : List ℕ) (skips : Bool) (definitions : List Definition)
      → Asks says s (stmt.CreateTable table skips definitions) past → did begins_txn s past ≡ false
  no_table s past legal apart table skips definitions asks = makes_no_table says one s apart asks.0 table skips definitions asks.2 past legal asks.1

  commit_rows : (t : ℕ) (past : List Event) → IsFree (Committed t ∷ past) → Holds past → t ≢ 0 → AreOfRows (own t past)
  commit_rows t past all holds apart =
      let legal = all.legal in
      let earlier = before (Committed t) past all in
      let kept = all_kept says one past legal.1 holds.calm in
      of_rows (committed_db past).schemas (own t past)
      (makes_rows says one t None past legal.1 (serializable_sees says one t past apart legal.1 earlier.serializable) (holds.each t apart) legal.0.1
      legal.0.2 (kept.works t (holds.each t apart)) kept.within
      (λ r a is. some_none is)
      (λ table skips definitions begun asks. true_false begun (no_table t past legal.1 apart table skips definitions asks)))

  meets : (s : ℕ) (e : Event) (past : List Event) → IsFree (e ∷ past) → Holds past → s ≢ 0 → MeetsNone says s e past
  meets s (Committed t) past all holds apart = λ differ is_open.
      let earlier = before (Committed t) past all in
      let other = begun_apart s t past earlier apart is_open (ap is_some all.legal.0.2.takes.asks.1) in
      let at = level_some (level s past) is_open in
      record {
        rows = commit_rows t past all holds other;
        no_table = no_table s past earlier.legal apart;
        apart = λ place there is. holds.apart s t differ place there is;
        beside = λ pieces stands. all.free.0 s pieces differ (at.1 ∙ ap Some (serializable_level s at.0 past apart earlier.serializable at.1)) stands;
      }
  meets s e past all holds apart = tt

  -- a session is calm up to the end of its item, or up to its commit
  calm_to : (s : ℕ) (past : List Event) → IsFree past → Holds past → is_some (under_way s past) ≡ true → SeesLatest says s past × IsCalm says s past
  calm_to s past all holds asked =
      by_session s 0
      (λ is zero.
      let unstarted = setting_up s past all zero asked in
      let serial = one_serial 0 past (setup_of_one says past all.legal unstarted) in
      (serial_sees says one s past all.legal serial, serial_calm says one past all.legal serial s))
      (λ is.
      let apart : s ≢ 0 = grind (arith, nat_tests, is) in
      (serializable_sees says one s past apart all.legal all.serializable, holds.each s apart))

  entry_calm : (e : Event) (past : List Event) → IsFree (e ∷ past) → Holds past → IsCalmTo says e past
  entry_calm (Ended s j reply) past all holds = calm_to s past (before (Ended s j reply) past all) holds (ap is_some all.legal.0.1.asked)
  entry_calm (Committed s) past all holds = calm_to s past (before (Committed s) past all) holds (ap is_some all.legal.0.2.takes.asks.1)
  entry_calm e past all holds = tt

  entry_apart : (e : Event) (past : List Event) → IsFree (e ∷ past) → Holds past → AllApart (committed_db (e ∷ past)).schemas (e ∷ past)
  entry_apart (Opened db) past all holds =
      setup_apart says (committed_db (Opened db ∷ past)).schemas (Opened db ∷ past) all.legal (subst IsUnstarted (sym all.legal.0) tt)
  entry_apart (Committed t) past all holds =
      by_session t 0
      (λ is zero.
      let unstarted = setting_up t past (before (Committed t) past all) zero (ap is_some all.legal.0.2.takes.asks.1) in
      setup_apart says (committed_db (Committed t ∷ past)).schemas (Committed t ∷ past) all.legal unstarted)
      (λ is.
      let apart : t ≢ 0 = grind (arith, nat_tests, is) in
      let same : (committed_db (Committed t ∷ past)).schemas ≡ (committed_db past).schemas =
      ap (λ (d : Database). d.schemas) (commit_adds t past) ∙ schemas_stay (committed_db past) (own t past) (commit_rows t past all holds apart) in
      subst (λ (ss : List Schema). AllApart ss (Committed t ∷ past)) (sym same)
      (free_always says (committed_db past).schemas (made_of (uncommitted past)) (Committed t) past all.legal.0 (newest_tables past) holds.apart))
  entry_apart e past all holds = free_always says (committed_db past).schemas (made_of (uncommitted past)) e past all.legal.0 (newest_tables past) holds.apart

  pub phantoms_calm : (past : List Event) → IsFree past → Holds past
  phantoms_calm [] all = record { each = λ s apart. tt; calm = tt; apart = λ s t differ place there is. (cc) }
  phantoms_calm (e ∷ past) all =
      let earlier = before e past all in
      let holds = phantoms_calm past earlier in
      record {
        each = λ s apart. (meets s e past all holds apart, serializable_sees says one s past apart earlier.legal earlier.serializable, holds.each s apart);
        calm = (entry_calm e past all holds, holds.calm);
        apart = entry_apart e past all holds;
      }
