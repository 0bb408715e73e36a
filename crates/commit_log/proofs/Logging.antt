-- What an entry makes of the drafts, and that the log stays in step with the past.
use Rattle.std.proofs.Common.{◌≡◌, ◌≢◌, ℕ, zero, suc, ◌+◌, ◌-◌, ◌<◌, ◌≤◌, Bool, true, false, List, [], ◌∷◌, ◌++◌, length, get_or, set, refl, sym, ap, subst, ◌∙◌, inl, inr, arith}
use Rattle.std.proofs.lemmas.Bool.{false≢true}
use Rattle.std.proofs.lemmas.Bool.Decides.{nat_tests, eqb_tells}
use Rattle.std.proofs.lemmas.List.{get_or-set_same, get_or-set_other, length-append}
use Rattle.inno_model.specs.declared.event.Event.{Event}
use Rattle.inno_model.specs.declared.event.Event.TheVariants as events
use Rattle.inno_model.specs.Past.{is_of, own, oldest}
use Rattle.inno_model.proofs.Untouched.{untouched}
use Rattle.store_api.specs.Past.{Past}
use Rattle.redo_log.specs.View.{LogView}
use Rattle.law_crashes.specs.Commits.{is_none, leaves_log}
use Rattle.law_crashes.specs.Records.{records_of}
use Rattle.law_crashes.specs.Since.{IsDurable, all_groups}
use Rattle.law_crashes.proofs.Durable.{durable_entry, durable_ack, durable_flush, durable_nothing, durable_commit}
use Rattle.commit_log.specs.DraftsView.{DraftView, no_draft, draft_of, promised_to_all, readied}
use Rattle.commit_log.specs.DraftsLogging.{IsAppended}
use Rattle.inno_db.specs.Database.{Database}
use Rattle.log_format.specs.declared.group.Group.{Group}
use Rattle.store_api.specs.Areas.{Contents}
use Rattle.store_api.specs.Past.{Now, Meanwhile}
use Rattle.redo_log.specs.Logged.{GoesOnAt, IsLogged, Stands, StandsMeanwhile}
use Rattle.law_crashes.specs.Since.{IsMounted}
use Rattle.law_crashes.proofs.Mount.{durable_mounted}
use Rattle.std.specs.Prelude.{Result, Ok, Err, OnOk, OnErr, nat_le}
use Rattle.commit_log.specs.View.{CommitView, IsKept, due_of, IsLogging, IsEntryOf, is_commit, is_acknowledgement}

-- ---- drafts

module _ (drafts : List DraftView) (s : ℕ) (draft : DraftView) (joined : s < length drafts) where
  pub mine_set : draft_of s (set drafts s draft) ≡ draft
  mine_set = get_or-set_same drafts s draft no_draft joined

  pub others_set : (u : ℕ) → u ≢ s → draft_of u (set drafts s draft) ≡ draft_of u drafts
  others_set u differ = get_or-set_other drafts s u draft no_draft differ

-- what a session's own entry makes of its changes
module _ (s t : ℕ) (past : List Event) (mine : is_of s (events.Committed t) ≡ true) where
  pub own_undone : (keep : ℕ) → own s (events.Undone t keep ∷ past) ≡ oldest keep (own s past)
  own_undone keep = grind (arith, nat_tests, mine)

  pub own_rolled_back : own s (events.RolledBack t ∷ past) ≡ []
  own_rolled_back = grind (arith, nat_tests, mine)

  pub own_committed : own s (events.Committed t ∷ past) ≡ []
  own_committed = grind (arith, nat_tests, mine)

-- another session's entry leaves a session's changes
own_others : (e : Event) (past : List Event) (s u : ℕ) → is_of s e ≡ true → u ≢ s → own u (e ∷ past) ≡ own u past
own_others e past s u mine differ = (untouched e past u (let x : is_of u e ≡ false = grind (arith, nat_tests, mine, differ) in x)).own_is

own_other : (e : Event) (past : List Event) (s u : ℕ) → IsEntryOf s e → u ≢ s → own u (e ∷ past) ≡ own u past
own_other (events.Signal name) past s u mine differ = refl
own_other e past s u mine differ = own_others e past s u mine differ

leaves : (e : Event) (s : ℕ) → IsEntryOf s e → is_acknowledgement e ≡ false → is_commit e ≡ false → leaves_log e ≡ true
leaves (events.Opened db) s mine unacked plain = absurd (false≢true mine)
leaves (events.Committed t) s mine unacked plain = absurd (false≢true (sym plain))
leaves (events.Acked t moment) s mine unacked plain = absurd (false≢true (sym unacked))
leaves e s mine unacked plain = refl

-- ---- the log

-- an entry that is no commit
pub entered : (e : Event) (s : ℕ) (old new : CommitView) → IsEntryOf s e → is_acknowledgement e ≡ false → is_commit e ≡ false → new.log ≡ old.log
    → new.dues ≡ old.dues → new.begun ≡ old.begun
    → ((past : List Event) → (draft_of s old.drafts).changes ≡ own s past → (draft_of s new.drafts).changes ≡ own s (e ∷ past))
    → ((u : ℕ) → u ≢ s → draft_of u new.drafts ≡ draft_of u old.drafts) → (root now : Past) (past : List Event)
    → IsLogging root now past old → IsLogging root now (e ∷ past) new
entered e s old new mine unacked plain same_log same_dues same_begun drafted others root now past is =
    record {
      durable = subst (λ (log : LogView). IsDurable root now (e ∷ past) log (λ u. due_of u new)) (sym same_log)
          (subst (λ (dues : List ℕ). IsDurable root now (e ∷ past) old.log (λ u. get_or dues u new.begun)) (sym same_dues)
          (subst (λ (n : ℕ). IsDurable root now (e ∷ past) old.log (λ u. get_or old.dues u n)) (sym same_begun)
          (durable_entry e root now past old.log (λ u. due_of u old) (leaves e s mine unacked plain) is.durable)));
      drafted = λ u. elim (eqb_tells u s) [
        | inl same ↦ subst (λ v. (draft_of v new.drafts).changes ≡ own v (e ∷ past)) (sym same.1) (drafted past (is.drafted s))
        | inr differ ↦ ap (λ (draft : DraftView). draft.changes) (others u differ.1) ∙ (is.drafted u ∙ sym (own_other e past s u mine differ.1))
      ];
    }

-- ---- a commit

module _ (s t : ℕ) (mine : is_of s (events.Committed t) ≡ true) (old new : CommitView) (due : ℕ)
    (joined : s < length old.drafts) (seated : length old.drafts ≤ length old.dues)
    (reached : (u : ℕ) → due_of u old < old.log.next) (due_is : due + 1 ≡ new.log.next) (dues_are : new.dues ≡ set old.dues s due)
    (same_begun : new.begun ≡ old.begun) (drafts_are : new.drafts ≡ set old.drafts s no_draft) where
  abbrev later : ℕ → ℕ
  later u = due_of u new

  due_mine : due_of s new ≡ due
  due_mine = ap (λ (dues : List ℕ). get_or dues s new.begun) dues_are ∙ get_or-set_same old.dues s due new.begun (omega (arith, joined, seated))

  due_other : (u : ℕ) → u ≢ s → due_of u new ≡ due_of u old
  due_other u differ =
      ap (λ (dues : List ℕ). get_or dues u new.begun) dues_are
      ∙ (get_or-set_other old.dues s u due new.begun differ ∙ ap (λ (n : ℕ). get_or old.dues u n) same_begun)

  rises : old.log.next ≤ new.log.next → (u : ℕ) → due_of u old ≤ due_of u new
  rises up u = elim (eqb_tells u s) [
    | inl same ↦ subst (λ v. due_of v old ≤ due_of v new) (sym same.1) (omega (arith, reached s, due_is, due_mine, up))
    | inr differ ↦ omega (arith, due_other u differ.1)
  ]

  is_committed : t ≡ s
  is_committed = elim (eqb_tells t s) [ inl same ↦ same.1 | inr differ ↦ absurd (false≢true (sym differ.0 ∙ mine)) ]

  module _ (root now : Past) (past : List Event) (is : IsLogging root now past old) where
    drafted_after : (u : ℕ) → (draft_of u new.drafts).changes ≡ own u (events.Committed t ∷ past)
    drafted_after u =
        ap (λ (drafts : List DraftView). (draft_of u drafts).changes) drafts_are ∙ elim (eqb_tells u s) [
          | inl same ↦ subst (λ v. (draft_of v (set old.drafts s no_draft)).changes ≡ own v (events.Committed t ∷ past)) (sym same.1)
              (ap (λ (draft : DraftView). draft.changes) (mine_set old.drafts s no_draft joined) ∙ sym (own_committed s t past mine))
          | inr differ ↦ ap (λ (draft : DraftView). draft.changes) (others_set old.drafts s no_draft joined u differ.1)
              ∙ (is.drafted u ∙ sym (own_other (events.Committed t) past s u mine differ.1))
        ]

    durable_after : (none : is_none (draft_of s old.drafts).changes ≡ true → new.log ≡ old.log)
        → (is_none (draft_of s old.drafts).changes ≡ false → IsAppended (records_of (draft_of s old.drafts).changes) old.log new.log)
        → (b : Bool) → is_none (own s past) ≡ b → IsDurable root now (events.Committed s ∷ past) new.log (λ u. due_of u new)
    durable_after none some true empty =
        let same = none (ap is_none (is.drafted s) ∙ empty) in
        let up : old.log.next ≤ new.log.next = omega (arith, ap (λ (log : LogView). log.next) same) in
        subst (λ (log : LogView). IsDurable root now (events.Committed s ∷ past) log (λ u. due_of u new)) (sym same)
        (durable_nothing root now past old.log (λ u. due_of u old) is.durable s (λ u. due_of u new) empty
        (omega (arith, due_mine, due_is, ap (λ (log : LogView). log.next) same)) (rises up))
    durable_after none some false empty =
        let appended = some (ap is_none (is.drafted s) ∙ empty) in
        let up : old.log.next ≤ new.log.next = omega (arith, appended.next) in
        durable_commit root now past old.log (λ u. due_of u old) is.durable s (records_of (draft_of s old.drafts).changes) new.log (λ u. due_of u new) empty
        (ap records_of (is.drafted s)) appended.run appended.flushed appended.next (omega (arith, due_mine, due_is, appended.next)) (rises up)
        appended.logged

    pub committed : (is_none (draft_of s old.drafts).changes ≡ true → new.log ≡ old.log)
        → (is_none (draft_of s old.drafts).changes ≡ false → IsAppended (records_of (draft_of s old.drafts).changes) old.log new.log)
        → IsLogging root now (events.Committed t ∷ past) new
    committed none some =
        record {
          durable = subst (λ v. IsDurable root now (events.Committed v ∷ past) new.log (λ u. due_of u new)) (sym is_committed)
              (durable_after none some (is_none (own s past)) refl);
          drafted = drafted_after;
        }

-- ---- calls that add no entry

-- what room the log has says nothing of what it holds
logged_as : (groups : List Group) (first : ℕ) (log : LogView) (spare : ℕ) (c : Contents) → IsLogged first groups (record log { spare = spare }) c
    → IsLogged first groups log c
logged_as groups first log spare c l =
    record {
      durable = l.durable;
      waiting = l.waiting;
      split = l.split;
      each = l.each;
      next = l.next;
      flushed = l.flushed;
      good = l.good;
      bad = l.bad;
      stored = l.stored;
      blocks = l.blocks;
      writes = l.writes;
    }

-- the log may have more room than it had
roomier : (root now : Past) (past : List Event) (old new : LogView) (due : ℕ → ℕ) → record new { spare = old.spare } ≡ old
    → IsDurable root now past old due → IsDurable root now past new due
roomier root now past old new due same d =
    let as_before : IsDurable root now past (record new { spare = old.spare }) due = subst (λ (log : LogView). IsDurable root now past log due) (sym same) d in
    record {
      first = as_before.first;
      base = as_before.base;
      double = as_before.double;
      pages = as_before.pages;
      of_rows = as_before.of_rows;
      opens = as_before.opens;
      stands = λ s ticks is.
          let st = as_before.stands s ticks is in
          record {
            logged = logged_as (all_groups as_before.first as_before.base past) as_before.first new old.spare s.log st.logged;
            double_is = st.double_is;
            pages_is = st.pages_is;
          };
      header = as_before.header;
      next = as_before.next;
      based = as_before.based;
      acked = as_before.acked;
      dues = as_before.dues;
      keeps = as_before.keeps;
    }

pub stays_logging : (old new : CommitView) → record new.log { spare = old.log.spare } ≡ old.log → ((u : ℕ) → due_of u new ≡ due_of u old)
    → ((u : ℕ) → (draft_of u new.drafts).changes ≡ (draft_of u old.drafts).changes) → (root now : Past) (past : List Event)
    → IsLogging root now past old → IsLogging root now past new
stays_logging old new same dues drafted root now past is =
    let d = roomier root now past old.log new.log (λ u. due_of u old) same is.durable in
    record {
      durable = record {
        first = d.first;
        base = d.base;
        double = d.double;
        pages = d.pages;
        of_rows = d.of_rows;
        opens = d.opens;
        stands = d.stands;
        header = d.header;
        next = d.next;
        based = d.based;
        acked = d.acked;
        dues = λ u. let reaches = d.dues u in omega (arith, reaches, dues u);
        keeps = d.keeps;
      };
      drafted = λ u. drafted u ∙ is.drafted u;
    }

-- room was taken for a change
pub readied_changes : {X Y : Type 0} (r : Result X Y) (s : ℕ) (old new : List DraftView) → s < length old
    → OnOk r (new ≡ set old s (readied (draft_of s old))) → OnErr r (new ≡ old) → (u : ℕ) → (draft_of u new).changes ≡ (draft_of u old).changes
readied_changes (Ok x) s old new joined ok err u =
    ap (λ (drafts : List DraftView). (draft_of u drafts).changes) ok ∙ elim (eqb_tells u s) [
      | inl same ↦ subst (λ v. (draft_of v (set old s (readied (draft_of s old)))).changes ≡ (draft_of v old).changes) (sym same.1)
          (ap (λ (draft : DraftView). draft.changes) (mine_set old s (readied (draft_of s old)) joined))
      | inr differ ↦ ap (λ (draft : DraftView). draft.changes) (others_set old s (readied (draft_of s old)) joined u differ.1)
    ]
readied_changes (Err x) s old new joined ok err u = ap (λ (drafts : List DraftView). (draft_of u drafts).changes) err

-- ---- a session joins

joined_same : {A : Type 0} (xs : List A) (x : A) (u : ℕ) → get_or (xs ++ x ∷ []) u x ≡ get_or xs u x
joined_same [] x zero = refl
joined_same [] x (suc u) = refl
joined_same (y ∷ xs) x zero = refl
joined_same (y ∷ xs) x (suc u) = joined_same xs x u

pub kept_joined : (log : LogView) (drafts more : List DraftView) (dues after : List ℕ) (begun : ℕ) → IsKept log drafts dues begun
    → after ≡ dues ++ begun ∷ [] → promised_to_all more ≡ promised_to_all drafts → length more ≤ length drafts + 1 → IsKept log more after begun
kept_joined log drafts more dues after begun kept is same long =
    record {
      promised = subst (λ n. n ≤ log.spare) (sym same) kept.promised;
      seated = omega (arith, ap length is, length-append dues (begun ∷ []), long, kept.seated);
      reached = λ u. let before = kept.reached u in let here : get_or after u begun ≡ get_or dues u begun =
          ap (λ (xs : List ℕ). get_or xs u begun) is ∙ joined_same dues begun u in omega (arith, before, here);
    }

pub long_joined : {X Y : Type 0} (r : Result X Y) (old new : List DraftView) → OnOk r (new ≡ old ++ no_draft ∷ []) → OnErr r (new ≡ old)
    → length new ≤ length old + 1
long_joined (Ok x) old new ok err = omega (arith, ap length ok, length-append old (no_draft ∷ []))
long_joined (Err x) old new ok err = omega (arith, ap length err)

pub drafts_joined : {X Y : Type 0} (r : Result X Y) (old new : List DraftView) → OnOk r (new ≡ old ++ no_draft ∷ []) → OnErr r (new ≡ old)
    → (u : ℕ) → draft_of u new ≡ draft_of u old
drafts_joined (Ok x) old new ok err u = ap (draft_of u) ok ∙ joined_same old no_draft u
drafts_joined (Err x) old new ok err u = ap (draft_of u) err

pub due_joined : (dues after : List ℕ) (begun u : ℕ) → after ≡ dues ++ begun ∷ [] → get_or after u begun ≡ get_or dues u begun
due_joined dues after begun u is = ap (λ (xs : List ℕ). get_or xs u begun) is ∙ joined_same dues begun u

-- ---- an opening

pub log_as : (run block next : ℕ) (log : LogView)
    → log ≡ record { run = run; block = block; pending = []; count = 0; tried = 0; next = next; flushed = next - 1; spare = 1048576 }
    → log ≡ record { run = run; block = block; pending = []; count = 0; tried = 0; next = next; flushed = next - 1; spare = log.spare }
log_as run block next log is =
    is ∙ ap (λ n. record { run = run; block = block; pending = []; count = 0; tried = 0; next = next; flushed = next - 1; spare = n }) (sym (ap (λ (l : LogView). l.spare) is))

pub opened_logging : (run block next : ℕ) (view : CommitView) → 0 < next
    → view.log ≡ record { run = run; block = block; pending = []; count = 0; tried = 0; next = next; flushed = next - 1; spare = view.log.spare }
    → ((scan_first : ℕ) (groups : List Group) (c : Contents) → next ≡ scan_first + length groups → GoesOnAt run scan_first block groups c
    → IsLogged scan_first groups view.log c)
    → view.drafts ≡ [] → view.dues ≡ [] → view.begun ≡ next - 1 → (root now : Past) (db : Database) → IsMounted root now run block next db
    → IsLogging root now (events.Opened db ∷ []) view
opened_logging run block next view some log_is stands drafts_are dues_are begun_is root now db mounted =
    record {
      durable = durable_mounted root now run block next db view.log (λ u. due_of u view) mounted (ap (λ (log : LogView). log.run) log_is)
          (ap (λ (log : LogView). log.next) log_is) (ap (λ (log : LogView). log.flushed) log_is) stands
          (λ u. let due : due_of u view ≡ view.begun = ap (λ (xs : List ℕ). get_or xs u view.begun) dues_are in omega (arith, due, begun_is, some));
      drafted = λ u. ap (λ (drafts : List DraftView). (draft_of u drafts).changes) drafts_are;
    }

-- ---- a flush, and an acknowledgement

pub flushed_logging : (old : CommitView) (new : LogView) (root now next : Past) (past : List Event) → IsLogging root now past old → new.run ≡ old.log.run
    → new.next ≡ old.log.next → old.log.flushed ≤ new.flushed
    → ((first : ℕ) (groups : List Group) (double pages : Contents) → Now (Stands first groups old.log double pages) now
    → Now (Stands first groups new double pages) next)
    → ((first : ℕ) (groups : List Group) (double pages : Contents) → Now (Stands first groups old.log double pages) now
    → Meanwhile (StandsMeanwhile old.log.run first groups old.log.flushed double pages) now next)
    → IsLogging root next past (record old { log = new })
flushed_logging old new root now next past is run same later stands crash =
    record { durable = durable_flush root now past old.log (λ u. due_of u old) is.durable next new run same later stands crash; drafted = is.drafted }

pub acknowledged : (s moment : ℕ) (view : CommitView) → nat_le (due_of s view) view.log.flushed ≡ true → (root now : Past) (past : List Event)
    → moment ≡ now.moment → IsLogging root now past view → IsLogging root now (events.Acked s moment ∷ past) view
acknowledged s moment view reached root now past is_now is =
    record {
      durable = durable_ack root now past view.log (λ u. due_of u view) is.durable s moment is_now (grind (arith, nat_tests, reached));
      drafted = is.drafted;
    }
