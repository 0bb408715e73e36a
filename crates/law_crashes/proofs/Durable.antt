-- What an engine's calls make of what the log and the disk stand for.
use Rattle.std.proofs.Common.{◌≡◌, inl, ℕ, ◌+◌, ◌-◌, ◌<◌, ◌≤◌, max, true, false, Option, Some, None, List, [], ◌∷◌, ◌++◌, ◌*◌, length, take, drop, refl, sym, ◌∙◌, ap, subst, arith, append_assoc}
use Rattle.std.specs.Prelude.{fold, All, if◌then◌else◌}
use Rattle.std.proofs.lemmas.List.{append-nil, take_all}
use Rattle.std.proofs.lemmas.List.Elements.{All-nil}
use Rattle.store_api.specs.Areas.{Contents, State, Image, Write, MayLeave, IsImage, IsHonest, IsHonestArea, seen_image, end_of}
use Rattle.store_api.specs.Past.{Past, Ticks, Now, Meanwhile}
use Rattle.store_api.proofs.Images.{left_before}
use Rattle.store_api.proofs.Pieces.{length-piece}
use Rattle.inno_db.specs.Database.{Database}
use Rattle.inno_model.specs.declared.event.Event.{Event}
use Rattle.inno_model.specs.declared.event.Event.TheVariants.{Opened, Committed, Acked}
use Rattle.inno_model.specs.Past.{own, changed}
use Rattle.log_format.specs.declared.group.Group.{Group}
use Rattle.log_format.specs.declared.group.Record.{Record}
use Rattle.redo_log.specs.View.{LogView}
use Rattle.redo_log.specs.Logged.{IsLogged, GoesOnAt, Stands, StandsMeanwhile}
use Rattle.redo_log.proofs.Crash.{holds_prefix}
use Rattle.law_crashes.specs.Records.{records_of, changes_in, no_db}
use Rattle.law_crashes.specs.Commits.{is_none, logged, groups_of, logged_by, acked_logged, leaves_log}
use Rattle.law_crashes.specs.Header.{SaysRun}
use Rattle.law_crashes.specs.RowScan.{HasRowsOnly}
use Rattle.law_crashes.specs.Files.{Files, HoldsSome}
use Rattle.law_crashes.specs.Since.{KeepsSince, all_groups, HasHeader, IsDurable, IsBegun, IsFirst}
use Rattle.law_crashes.proofs.AtRest.{honest_at_rest, header_left}
use Rattle.law_crashes.proofs.Commits.{logged_by_each}
use Rattle.law_crashes.proofs.Prefix.{prefix_stands}
use Rattle.law_crashes.proofs.Keeps.{files_before, keeps_entry, keeps_ack, keeps_calls}

-- ---- a running engine

same_header : (first : ℕ) (double pages : Contents) (run new : ℕ) → run ≡ new → HasHeader run first double pages → HasHeader new first double pages
same_header first double pages run new same header = subst (λ (n : ℕ). HasHeader n first double pages) same header

module _ (root now : Past) (past : List Event) (log : LogView) (due : ℕ → ℕ) (d : IsDurable root now past log due) where
  -- what a crash leaves at a moment of a flush
  holds_meanwhile : (db : Database) → Files root now db → (s : State) (image : Image)
      → StandsMeanwhile log.run d.first (all_groups d.first d.base past) log.flushed d.double d.pages s
      → IsImage s image → IsHonest s image → (m : ℕ) → HoldsSome m past image
  holds_meanwhile db files s image stands left honest m =
      let header = header_left log.run d.first d.double d.pages s image (d.header db files) stands.double_is stands.pages_is left in
      prefix_stands log.run d.first d.base past log.flushed image header d.of_rows d.opens (stands.log image.log left.log honest.log) d.based d.acked m

  pub durable_flush : (next : Past) (new : LogView) → new.run ≡ log.run → new.next ≡ log.next → log.flushed ≤ new.flushed
      → ((first : ℕ) (groups : List Group) (double pages : Contents) → Now (Stands first groups log double pages) now → Now
      (Stands first groups new double pages) next)
      → ((first : ℕ) (groups : List Group) (double pages : Contents) → Now (Stands first groups log double pages) now → Meanwhile
      (StandsMeanwhile log.run first groups log.flushed double pages) now next)
      → IsDurable root next past new due
  durable_flush next new same_run same_next later stands crash =
      let calls = crash d.first (all_groups d.first d.base past) d.double d.pages d.stands in record {
        first = d.first;
        base = d.base;
        double = d.double;
        pages = d.pages;
        of_rows = d.of_rows;
        opens = d.opens;
        stands = stands d.first (all_groups d.first d.base past) d.double d.pages d.stands;
        header =
            λ db files. same_header d.first d.double d.pages log.run new.run (sym same_run)
            (d.header db (files_before root now next db calls.later calls.kept files));
        next = same_next ∙ d.next;
        based = omega (arith, d.based, later);
        acked = omega (arith, d.acked, later);
        dues = d.dues;
        keeps = keeps_calls (StandsMeanwhile log.run d.first (all_groups d.first d.base past) log.flushed d.double d.pages) root now next past d.keeps
            calls holds_meanwhile;
      }

  pub durable_ack : (s moment : ℕ) → moment ≡ now.moment → due s ≤ log.flushed → IsDurable root now (Acked s moment ∷ past) log due
  durable_ack s moment is_now reached =
      let own_due = d.dues s in
      let acked : d.first + length d.base + acked_logged (Acked s moment ∷ past) ≤ log.flushed + 1 = omega (arith, d.acked, own_due, reached) in
      record {
        first = d.first;
        base = d.base;
        double = d.double;
        pages = d.pages;
        of_rows = d.of_rows;
        opens = d.opens;
        stands = d.stands;
        header = d.header;
        next = d.next;
        based = d.based;
        acked = acked;
        dues = d.dues;
        keeps = keeps_ack root now s moment past is_now d.keeps
            (λ db files st image ticks is left honest.
            let here = d.stands st ticks is in
            let header = header_left log.run d.first d.double d.pages st image (d.header db files) here.double_is here.pages_is left in
            prefix_stands log.run d.first d.base (Acked s moment ∷ past) log.flushed image header d.of_rows d.opens
            (holds_prefix d.first (all_groups d.first d.base past) log st.log here.logged image.log left.log honest.log) d.based acked now.moment);
      }

  dues_rise : (s : ℕ) (later : ℕ → ℕ) → d.first + length d.base + logged (Committed s ∷ past) ≤ later s + 1 → ((u : ℕ) → due u ≤ later u)
      → (u : ℕ) → d.first + length d.base + logged_by u (Committed s ∷ past) ≤ later u + 1
  dues_rise s later here rise u =
      let own_due = d.dues u in
      let rises = rise u in
      let each =
      logged_by_each (λ (v : ℕ). later v + 1 - (d.first + length d.base)) s past (omega (arith, here))
      (λ v. let due_v = d.dues v in let rise_v = rise v in omega (arith, due_v, rise_v)) u in
      omega (arith, each, own_due, rises)

  -- a commit that changed nothing: what it needs is what was logged before it
  pub durable_nothing : (s : ℕ) (later : ℕ → ℕ) → is_none (own s past) ≡ true → log.next ≤ later s + 1 → ((u : ℕ) → due u ≤ later u)
      → IsDurable root now (Committed s ∷ past) log later
  durable_nothing s later none reaches rise =
      let f = d.first + length d.base in
      let count : logged (Committed s ∷ past) ≡ logged past = ap (λ b. if b then logged past else logged past + 1) none in
      let groups : groups_of f past ≡ groups_of f (Committed s ∷ past) =
      sym (ap (λ b. if b then groups_of f past else groups_of f past ++ record { lsn = f + logged past; records = records_of (own s past) } ∷ []) none) in
      record {
        first = d.first;
        base = d.base;
        double = d.double;
        pages = d.pages;
        of_rows = d.of_rows;
        opens = d.opens;
        stands = subst (λ (gs : List Group). Now (Stands d.first (d.base ++ gs) log d.double d.pages) now) groups d.stands;
        header = d.header;
        next = omega (arith, d.next, count);
        based = d.based;
        acked = d.acked;
        dues = dues_rise s later (omega (arith, d.next, count, reaches)) rise;
        keeps = keeps_entry root now (Committed s) past refl d.keeps;
      }

  -- one whose group was appended
  pub durable_commit : (s : ℕ) (records : List Record) (new : LogView) (later : ℕ → ℕ) → is_none (own s past) ≡ false → records ≡ records_of (own s past)
      → new.run ≡ log.run → new.flushed ≡ log.flushed → new.next ≡ log.next + 1 → log.next ≤ later s → ((u : ℕ) → due u ≤ later u)
      → ((first : ℕ) (groups : List Group) (c : Contents) → IsLogged first groups log c → IsLogged first
      (groups ++ record { lsn = log.next; records = records } ∷ []) new c)
      → IsDurable root now (Committed s ∷ past) new later
  durable_commit s records new later some spells same_run same_flushed next reaches rise append =
      let f = d.first + length d.base in
      let count : logged (Committed s ∷ past) ≡ logged past + 1 = ap (λ b. if b then logged past else logged past + 1) some in
      let grown : groups_of f past ++ record { lsn = f + logged past; records = records_of (own s past) } ∷ [] ≡ groups_of f (Committed s ∷ past) =
      sym (ap (λ b. if b then groups_of f past else groups_of f past ++ record { lsn = f + logged past; records = records_of (own s past) } ∷ []) some) in
      let groups : d.base ++ (groups_of f past ++ record { lsn = log.next; records = records } ∷ []) ≡ d.base ++ groups_of f (Committed s ∷ past) =
      ap (λ (n : ℕ). d.base ++ (groups_of f past ++ record { lsn = n; records = records } ∷ [])) d.next
      ∙ ap (λ (rs : List Record). d.base ++ (groups_of f past ++ record { lsn = f + logged past; records = rs } ∷ [])) spells
      ∙ ap (λ (gs : List Group). d.base ++ gs) grown in
      record {
        first = d.first;
        base = d.base;
        double = d.double;
        pages = d.pages;
        of_rows = d.of_rows;
        opens = d.opens;
        stands = λ st ticks is.
            let here = d.stands st ticks is in
            record {
              logged = subst (λ (gs : List Group). IsLogged d.first gs new st.log)
                  (append_assoc d.base (groups_of f past) (record { lsn = log.next; records = records } ∷ []) ∙ groups)
                  (append d.first (all_groups d.first d.base past) st.log here.logged);
              double_is = here.double_is;
              pages_is = here.pages_is;
            };
        header = λ db files. same_header d.first d.double d.pages log.run new.run (sym same_run) (d.header db files);
        next = omega (arith, next, d.next, count);
        based = omega (arith, d.based, same_flushed);
        acked = omega (arith, d.acked, same_flushed);
        dues = dues_rise s later (omega (arith, d.next, count, reaches)) rise;
        keeps = keeps_entry root now (Committed s) past refl d.keeps;
      }

-- an entry that is no commit either
pub durable_entry : (e : Event) (root now : Past) (past : List Event) (log : LogView) (due : ℕ → ℕ) → leaves_log e ≡ true → IsDurable root now past log due
    → IsDurable root now (e ∷ past) log due
durable_entry (Opened db) root now past log due plain d = absurd cc
durable_entry (Acked s moment) root now past log due plain d = absurd cc
durable_entry (Committed s) root now past log due plain d = absurd cc
durable_entry e root now past log due plain d = record {
  first = d.first;
  base = d.base;
  double = d.double;
  pages = d.pages;
  of_rows = d.of_rows;
  opens = d.opens;
  stands = d.stands;
  header = d.header;
  next = d.next;
  based = d.based;
  acked = d.acked;
  dues = d.dues;
  keeps = keeps_entry root now e past refl d.keeps;
}

-- ---- an opening

-- the database of the groups that were read
abbrev pub opened : List Group → List Event
opened base = Opened (changed no_db (changes_in base)) ∷ []

module _ (run first block : ℕ) (base : List Group) (rows : All HasRowsOnly base) (log : LogView) (same_run : log.run ≡ run)
    (next : log.next ≡ first + length base) (same_flushed : log.flushed ≡ log.next - 1) (some : 0 < log.next)
    (stands : (scan_first : ℕ) (groups : List Group) (c : Contents) → log.next ≡ scan_first + length groups → GoesOnAt run scan_first block groups c →
    IsLogged scan_first groups log c) where
  at_rest : (double pages : Contents) (s : State) → IsBegun run first block base double pages s → Stands first (base ++ []) log double pages s
  at_rest double pages s begun =
      record {
        logged = subst (λ (gs : List Group). IsLogged first gs log s.log) (sym (append-nil base)) (stands first base s.log next begun.log);
        double_is = begun.double_is;
        pages_is = begun.pages_is;
      }

  -- after a mount that began at root
  pub durable_mount : (root now : Past) (double pages : Contents) (due : ℕ → ℕ) → Now (IsBegun run first block base double pages) now
      → ((db : Database) → Files root now db → HasHeader run first double pages)
      → ((s : ℕ) → log.next ≤ due s + 1) → KeepsSince root now (opened base) → IsDurable root now (opened base) log due
  durable_mount root now double pages due begun header dues keeps = record {
    first = first;
    base = base;
    double = double;
    pages = pages;
    of_rows = rows;
    opens = refl;
    stands = λ s ticks is. at_rest double pages s (begun s ticks is);
    header = λ db files. same_header first double pages run log.run (sym same_run) (header db files);
    next = omega (arith, next);
    based = omega (arith, same_flushed, some, next);
    acked = omega (arith, same_flushed, some, next);
    dues = λ s. let reaches = dues s in omega (arith, reaches, next);
    keeps = keeps;
  }

-- what the disk tells, if it does
nothing : Contents
nothing = record { seen = []; synced = []; writes = [] }

abbrev told : Option State → State
told (Some s) = s
told None = record { log = nothing; double = nothing; pages = nothing }
