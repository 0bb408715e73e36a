-- A log area that holds a prefix of the groups stands for a number of commits.
use Rattle.std.proofs.Common.{◌≡◌, ℕ, ◌+◌, ◌-◌, ◌≤◌, List, [], ◌∷◌, ◌++◌, length, take, sym, ◌∙◌, ap, subst, arith, zero-add, suc-add}
use Rattle.std.specs.Prelude.{All}
use Rattle.store_api.specs.Areas.{Image}
use Rattle.inno_db.specs.Database.{Database}
use Rattle.inno_db.specs.declared.change.Change.{Change}
use Rattle.inno_model.specs.declared.event.Event.{Event}
use Rattle.inno_model.specs.Past.{changed, opening, committed, db_after}
use Rattle.log_format.specs.declared.group.Group.{Group}
use Rattle.log_format.specs.Scan.{IsScan}
use Rattle.redo_log.specs.Logged.{HoldsPrefix}
use Rattle.law_crashes.specs.Records.{no_db, changes_in}
use Rattle.law_crashes.specs.Commits.{groups_of, fitting, acked_logged}
use Rattle.law_crashes.specs.Header.{IsHeader, SaysRun}
use Rattle.law_crashes.specs.RowScan.{HasRowsOnly, IsRowScan}
use Rattle.law_crashes.specs.Files.{StandsFor, HoldsSome}
use Rattle.law_crashes.specs.Since.{all_groups}
use Rattle.law_crashes.proofs.Records.{changes_in-append, changed-append}
use Rattle.law_crashes.proofs.Commits.{taken_changes, fitting_some, acked_fits}
use Rattle.law_crashes.proofs.RowScan.{row_scan, one_row_scan, logged_rows}

take_past : {X : Type 0} (xs ys : List X) (n : ℕ) → take (length xs + n) (xs ++ ys) ≡ xs ++ take n ys
take_past [] ys n = ap (λ (m : ℕ). take m ys) (zero-add n)
take_past (x ∷ xs) ys n = rw suc-add (ap (λ l. x ∷ l) (take_past xs ys n))

module _ (run first : ℕ) (base : List Group) (past : List Event) (flushed : ℕ) (image : Image)
    (says : SaysRun run first image.pages image.double) (rows : All HasRowsOnly base) (opens : opening past ≡ changed no_db (changes_in base)) where
  makes : (k : ℕ) → db_after (fitting k past) past ≡ changed no_db (changes_in (base ++ take k (groups_of (first + length base) past)))
  makes k =
      let taken = take k (groups_of (first + length base) past) in
      ap (λ (db : Database). changed db (committed (fitting k past) past)) opens
      ∙ ap (λ (l : List Change). changed (changed no_db (changes_in base)) l) (sym (taken_changes k (first + length base) past))
      ∙ sym (changed-append no_db (changes_in taken) (changes_in base))
      ∙ ap (changed no_db) (sym (changes_in-append base taken))

  -- n is the greatest number of commits that fits the groups: commits that changed nothing have none
  pub prefix_stands : HoldsPrefix run first (all_groups first base past) flushed image.log → first + length base ≤ flushed + 1
      → first + length base + acked_logged past ≤ flushed + 1
      → (m : ℕ) → HoldsSome m past image
  prefix_stands prefix based acked m =
      let k = prefix.count - length base in
      let number : length base + k ≡ prefix.count = omega (arith, prefix.all_flushed, based) in
      let front : take prefix.count (all_groups first base past) ≡ base ++ take k (groups_of (first + length base) past) =
      ap (λ (n : ℕ). take n (all_groups first base past)) (sym number) ∙ take_past base (groups_of (first + length base) past) k in
      record {
        n = fitting k past;
        some = fitting_some k past;
        all_acked = acked_fits m k past (omega (arith, acked, number, prefix.all_flushed));
        stands = record {
          of_run = run;
          begins = first;
          groups = base ++ take k (groups_of (first + length base) past);
          says = says;
          scan =
              row_scan run first image.log (base ++ take k (groups_of (first + length base) past)) (subst (IsScan run first image.log) front prefix.scan)
              (logged_rows k first base past rows);
          makes = makes k;
        };
      }

-- Page 0 says one run and one first LSN.
pub one_header : (run first other_run other_first : ℕ) (pages double : List ℕ) → SaysRun run first pages double
    → SaysRun other_run other_first pages double → (run ≡ other_run) × (first ≡ other_first)
one_header run first other_run other_first pages double one other =
    let here = one.each one.page one.read in
    let there = other.each one.page one.read in
    (sym here.of_run ∙ there.of_run, sym here.begins ∙ there.begins)

-- An image stands for one database at most.
pub one_db : (image : Image) (a b : Database) → StandsFor image a → StandsFor image b → a ≡ b
one_db image a b of_a of_b =
    let same = one_header of_a.of_run of_a.begins of_b.of_run of_b.begins image.pages image.double of_a.says of_b.says in
    let scan : IsRowScan of_b.of_run of_b.begins image.log of_a.groups =
    subst (λ (n : ℕ). IsRowScan of_b.of_run n image.log of_a.groups) same.1
    (subst (λ (n : ℕ). IsRowScan n of_a.begins image.log of_a.groups) same.0 of_a.scan) in
    of_a.makes ∙ ap (λ (gs : List Group). changed no_db (changes_in gs))
    (one_row_scan of_b.of_run of_b.begins image.log of_a.groups of_b.groups scan of_b.scan) ∙ sym of_b.makes
