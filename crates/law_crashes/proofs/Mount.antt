-- What is kept since a mount that wrote zeros behind the groups that it read.
use Rattle.std.proofs.Common.{◌≡◌, ℕ, ◌+◌, ◌-◌, ◌<◌, ◌≤◌, Some, List, [], ◌∷◌, length, sym, ◌∙◌, ap, subst, arith}
use Rattle.store_api.specs.Areas.{Contents, State, Image, IsImage, IsHonest, seen_image}
use Rattle.store_api.specs.Past.{Past, Ticks, Now, Meanwhile}
use Rattle.inno_db.specs.Database.{Database}
use Rattle.inno_model.specs.Past.{changed}
use Rattle.inno_model.specs.declared.event.Event.TheVariants.{Opened}
use Rattle.log_format.specs.declared.group.Group.{Group}
use Rattle.redo_log.specs.View.{LogView}
use Rattle.redo_log.specs.Logged.{GoesOnAt, IsLogged}
use Rattle.law_crashes.specs.Header.{SaysRun}
use Rattle.law_crashes.specs.RowScan.{IsRowScan}
use Rattle.law_crashes.specs.Records.{no_db, changes_in}
use Rattle.law_crashes.specs.Files.{IsAtRest, StandsFor, Files, LeavesFiles}
use Rattle.law_crashes.specs.Since.{KeepsSince, HasHeader, LogRests, IsScanned, StillScans, IsDurable, IsMounted}
use Rattle.law_crashes.proofs.AtRest.{left_at_rest, header_left}
use Rattle.law_crashes.proofs.Keeps.{keeps_read, keeps_calls}
use Rattle.law_crashes.proofs.Durable.{opened, durable_mount}

module _ (run first : ℕ) (base : List Group) where
  stands_for : (image : Image) → IsRowScan run first image.log base → SaysRun run first image.pages image.double
      → StandsFor image (changed no_db (changes_in base))
  stands_for image scan says = record { of_run = run; begins = first; groups = base; says = says; scan = scan; makes = λ i. changed no_db (changes_in base) }

  module _ (block rest : ℕ) (double pages : Contents) where
    scanned_stands : (s : State) (image : Image) → IsImage s (seen_image s) → s.log.writes ≡ [] → IsScanned run first block base rest double pages s
        → HasHeader run first double pages
        → IsImage s image → StandsFor image (changed no_db (changes_in base))
    scanned_stands s image law log_rests here header left =
        let same : s.log.seen ≡ image.log = left_at_rest s.log s.log.seen log_rests law.log ∙ sym (left_at_rest s.log image.log log_rests left.log) in
        stands_for image (subst (λ (l : List ℕ). IsRowScan run first l base) same here.scan)
        (header_left run first double pages s image header here.double_is here.pages_is left)

    rests : (s : State) → s.log.writes ≡ [] → IsScanned run first block base rest double pages s → HasHeader run first double pages → IsAtRest s
    rests s log_rests here header = record {
      log = log_rests;
      double = ap (λ (c : Contents). c.writes) here.double_is ∙ header.double_rests;
      pages = ap (λ (c : Contents). c.writes) here.pages_is ∙ header.pages_rest;
    }

    -- Where the calls that read the groups left the files as they were, and zeros are then written.
    pub keeps_scanned : (root mid now : Past) → ((m : ℕ) (s : State) → mid.state_at m ≡ Some s → IsImage s (seen_image s)) → LeavesFiles root mid
        → Now (IsScanned run first block base rest double pages) mid → ((db : Database) → Files root mid db → LogRests mid × HasHeader run first double pages)
        → Meanwhile (λ s. LogRests mid → StillScans run first base double pages s) mid now → KeepsSince root now (opened base)
    keeps_scanned root mid now law leaves scanned known calls =
        keeps_calls (λ s. LogRests mid → StillScans run first base double pages s) root mid now (opened base)
        (keeps_read root mid (changed no_db (changes_in base)) law leaves
        (λ db files st is.
        let here = scanned st files.ticks is in
        let k = known db files in
        let log_rests = k.0 st files.ticks is in
        (rests st log_rests here k.1, λ image left. scanned_stands st image (law mid.moment st is) log_rests here k.1 left)))
        calls
        (λ db files st image stills left honest m.
        let k = known db files in
        let still = stills k.0 in
        record {
          n = 0;
          some = omega arith;
          all_acked = omega arith;
          stands =
              stands_for image (still.log image.log left.log honest.log) (header_left run first double pages st image k.1 still.double_is still.pages_is left);
        })

    -- Where the disk tells its state, such files stand for the database of the groups: so nothing is said of a root in vain.
    pub files_scanned : (root : Past) (s : State) → ((m : ℕ) (t : State) → root.state_at m ≡ Some t → IsImage t (seen_image t)) → Ticks root.moment
        → root.state_at root.moment ≡ Some s
        → s.log.writes ≡ [] → IsScanned run first block base rest double pages s → HasHeader run first double pages → Files root root
        (changed no_db (changes_in base))
    files_scanned root s law ticks is log_rests here header = record {
      state = s;
      ticks = ticks;
      tells = λ m low high. let same : root.moment ≡ m = omega (arith, low, high) in (s, ap root.state_at (sym same) ∙ is);
      told = is;
      rests = rests s log_rests here header;
      stands = scanned_stands s (seen_image s) (law root.moment s is) log_rests here header (law root.moment s is);
    }

-- An engine may go on from a mount, with a log that begins there.
pub durable_mounted : (root now : Past) (run block next : ℕ) (db : Database) (log : LogView) (due : ℕ → ℕ) → IsMounted root now run block next db
    → log.run ≡ run → log.next ≡ next → log.flushed ≡ next - 1
    → ((scan_first : ℕ) (groups : List Group) (c : Contents) → next ≡ scan_first + length groups → GoesOnAt run scan_first block groups c → IsLogged
    scan_first groups log c)
    → ((s : ℕ) → next ≤ due s + 1) → IsDurable root now (Opened db ∷ []) log due
durable_mounted root now run block next db log due mounted same_run same_next same_flushed stands dues =
    let opens : Opened db ∷ [] ≡ opened mounted.base = ap (λ (d : Database). Opened d ∷ []) mounted.reads in
    subst (λ past. IsDurable root now past log due) (sym opens)
    (durable_mount run mounted.first block mounted.base mounted.of_rows log same_run (same_next ∙ mounted.numbers) (omega (arith, same_flushed, same_next))
    (omega (arith, mounted.some, same_next)) (λ scan_first groups c is goes_on. stands scan_first groups c (sym same_next ∙ is) goes_on)
    root now mounted.double mounted.pages due mounted.begun mounted.header (λ s. let reaches = dues s in omega (arith, reaches, same_next))
    (subst (KeepsSince root now) opens mounted.keeps))
