-- A step of an engine over pages.
-- The law of `steps` ends here. A step appends one group or none, and commits nothing that isn't in it.
use Rattle.std.proofs.Common.{◌≡◌, inl, inr, ℕ, ◌+◌, ◌<◌, ◌≤◌, true, false, List, ◌++◌, length, take, refl, sym}
use Rattle.std.proofs.Common.{subst, ◌∙◌, arith}
use Rattle.std.proofs.lemmas.Bool.{cases_Bool, cases_lt, false≢true}
use Rattle.store_api.specs.Areas.{State, Image, IsImage, IsHonest}
use Rattle.store_api.specs.Past.{Past, Meanwhile}
use Rattle.inno_db.specs.Database.{Database}
use Rattle.inno_model.specs.declared.event.Event.{Event}
use Rattle.inno_model.specs.Past.{commits, db_after}
use Rattle.log_format.specs.declared.group.Group.{Group}
use Rattle.stored_pages.specs.Words.{u64_at}
use Rattle.law_logged_pages.specs.Applied.{page_after, logical}
use Rattle.law_logged_pages.specs.Stages.{or_zeros}
use Rattle.law_logged_pages.specs.Keeping.{Recovers, durable}
use Rattle.law_logged_pages.specs.Readings.{ReadsAlong}
use Rattle.law_logged_pages.proofs.Recovery.{image_recovers}
use Rattle.law_logged_pages.proofs.Along.{reads_on}
use Rattle.law_logged_pages.proofs.Spared.{image_says, image_has}
use Rattle.flusher.specs.Flushing.{KeepsSince as KeepsFlushed}
use Rattle.law_read_pages.specs.Undo.{ReadAsDb}
use Rattle.law_read_pages.proofs.Sums.{ignores}
use Rattle.law_read_pages.specs.Stores.{Store, Appends, StoreGoes}
use Rattle.law_read_pages.specs.Durable.{StandsFor, Files, HoldsSome, KeepsSince, IsDurable, GoesOn}

-- ---- more is flushed

module _ (after : ℕ → Database) (commits acked first flushed last : ℕ) (groups : List Group) (base : ℕ → List ℕ)
    (along : ReadsAlong ReadAsDb after commits acked first flushed groups base) (upto : flushed ≤ last) (within : last < first + length groups) where
  along_later : ReadsAlong ReadAsDb after commits acked first last groups base
  along_later =
      let risen = along.rise (durable first flushed) (durable first last) (omega (arith, upto)) in
      record {
        held = along.held;
        rise = along.rise;
        all = along.all;
        flushed_some = omega (arith, within);
        flushed_acked = omega (arith, risen, along.flushed_acked);
        reads = λ m from to. along.reads m (omega (arith, from, upto)) to;
      }

-- ---- what a crash leaves

module _ (root : Past) (past : List Event) (s : Store) (d : IsDurable root past s) (runs : s.failed ≡ false) where
  -- at a moment at which the disk keeps all groups
  holds_some : (st : State) (image : Image) → KeepsFlushed s.log.run d.first s.log.flushed d.groups d.base st → IsImage st image → IsHonest st image
      → (m : ℕ) → HoldsSome m past image
  holds_some st image kept left honest m =
      let held = d.holds runs in
      let recovers : Recovers s.log.run d.first kept.now d.groups d.base image =
      image_recovers s.log.run d.first kept.now d.groups d.base st image held.run kept.keeps left honest in
      let within : kept.now < d.first + length d.groups = omega (arith, recovers.some, recovers.all_flushed, held.within, kept.later) in
      let along = along_later (λ n. db_after n past) (commits past) d.acked d.first s.log.flushed kept.now d.groups d.base (d.along runs) kept.later within in
      let up = along.rise (durable d.first kept.now) recovers.count recovers.all_flushed in
      let all = along.rise recovers.count (length d.groups) recovers.some in
      let each = d.all_acked m in
      record {
        n = along.held recovers.count;
        some = omega (arith, all, along.all);
        all_acked = omega (arith, each, up, along.flushed_acked);
        stands = record {
          magic = u64_at 32 (d.base 0);
          of_run = s.log.run;
          begins = d.first;
          groups = take recovers.count d.groups;
          says = record {
            there = λ none. image_has s.log.run d.first kept.now d.groups d.base st image d.magic kept.keeps left honest none;
            each = λ bytes found.
                let says = image_says s.log.run d.first kept.now d.groups d.base st image bytes held.run held.heads kept.keeps left honest found in
                (says.0, says.1 ∙ d.run_is runs, says.2 ∙ d.first_is);
          };
          scan = recovers.scan;
          reads = λ found finds.
              ignores.same (λ page. page_after page (take recovers.count d.groups) (or_zeros (found page))) (logical d.base d.groups recovers.count)
              (λ page below. recovers.pages page (found page) below (finds page below)) (db_after (along.held recovers.count) past)
              (along.reads recovers.count recovers.all_flushed recovers.some);
        };
      }

-- ---- the history goes on

module _ (past later : List Event) (on : GoesOn past later) where
  some_later : (m : ℕ) (image : Image) → HoldsSome m past image → HoldsSome m later image
  some_later m image h =
      record {
        n = h.n;
        some = (let rise = on.rise in omega (arith, h.some, rise));
        all_acked = (let acks = on.acks m in omega (arith, h.all_acked, acks));
        stands = subst (StandsFor image) (sym (on.same h.n h.some)) h.stands;
      }

  keeps_later : (root now : Past) → KeepsSince root now past → KeepsSince root now later
  keeps_later root now k = record {
    later = k.later;
    kept = k.kept;
    timed = (let last = on.last in omega (arith, k.timed, last));
    opens = λ db files. on.opening_is ∙ k.opens db files;
    each = λ db files m s image low high is left honest. some_later m image (k.each db files m s image low high is left honest);
  }

-- ---- the disk goes on

files_before : (root mid now : Past) (db : Database) → mid.moment ≤ now.moment → Files root now db → Files root mid db
files_before root mid now db later files = record {
  state = files.state;
  ticks = let ticks = files.ticks in omega (arith, ticks, later);
  told = files.told;
  rests = files.rests;
  stands = files.stands;
}

keeps_calls : (P : State → Type 0) (root mid now : Past) (past : List Event) → KeepsSince root mid past → Meanwhile P mid now
    → ((st : State) (image : Image) → P st → IsImage st image → IsHonest st image → (m : ℕ) → HoldsSome m past image) → KeepsSince root now past
keeps_calls P root mid now past so_far calls holds =
    record {
      later = omega (arith, so_far.later, calls.later);
      kept = λ m ticks le. calls.kept m ticks (omega (arith, so_far.later, le)) ∙ so_far.kept m (omega (arith, calls.later, ticks)) le;
      timed = omega (arith, so_far.timed, calls.later);
      opens = λ db files. so_far.opens db (files_before root mid now db calls.later files);
      each = λ db files m st image low high is left honest.
          elim (cases_lt mid.moment m) [
            | inl late ↦ holds st image (calls.each m st files.ticks late high is) left honest m
            | inr early ↦ so_far.each db (files_before root mid now db calls.later files) m st image low early
                (sym (calls.kept m files.ticks early) ∙ is) left honest
          ];
    }

-- ---- a step

module _ (root : Past) (past later : List Event) (old new : Store) (d : IsDurable root past old) (goes : StoreGoes old new) (on : GoesOn past later)
    (newest : ReadAsDb new.pages (db_after (commits later) later)) where
  -- on a disk that serves
  runs_on : old.failed ≡ false → IsDurable root later new
  runs_on runs =
      let step : Appends d.first d.groups d.base old new = goes.goes runs d.first d.groups d.base (d.holds runs) in
      record {
        first = d.first;
        groups = d.groups ++ step.more;
        base = d.base;
        acked = d.acked;
        all_acked = λ m. (let each = d.all_acked m in let acks = on.acks m in omega (arith, each, acks));
        magic = d.magic;
        run_is = λ still. d.run_is runs ∙ sym step.run_is;
        first_is = d.first_is;
        holds = step.holds;
        along = λ still.
            let held = step.holds still in
            let read : ReadAsDb (logical d.base (d.groups ++ step.more) (length (d.groups ++ step.more))) (db_after (commits later) later) =
            ignores.same (logical d.base (d.groups ++ step.more) (length (d.groups ++ step.more))) new.pages held.newest
            (db_after (commits later) later) newest in
            along_later (λ n. db_after n later) (commits later) d.acked d.first old.log.flushed new.log.flushed (d.groups ++ step.more) d.base
            (reads_on ReadAsDb (λ n. db_after n past) (commits past) d.acked d.first old.log.flushed d.groups d.base (d.along runs) (λ n. db_after n later)
            (commits later) step.more step.few on.rise on.same read)
            step.flushed held.within;
        keeps = keeps_later past later on root new.disk
            (keeps_calls (KeepsFlushed old.log.run d.first old.log.flushed d.groups d.base) root old.disk new.disk past d.keeps step.crash
            (holds_some root past old d runs));
      }

  -- on one that has failed
  stays_failed : old.failed ≡ true → IsDurable root later new
  stays_failed failed =
      let still = goes.failed failed in
      record {
        first = u64_at 56 (d.base 0);
        groups = d.groups;
        base = λ page. d.base page;
        acked = d.acked;
        all_acked = λ m. (let each = d.all_acked m in let acks = on.acks m in omega (arith, each, acks));
        magic = d.magic;
        run_is = λ runs. absurd (false≢true (sym runs ∙ still.0));
        first_is = refl;
        holds = λ runs. absurd (false≢true (sym runs ∙ still.0));
        along = λ runs. absurd (false≢true (sym runs ∙ still.0));
        keeps = keeps_later past later on root new.disk (subst (λ (p : Past). KeepsSince root p past) (sym still.1) d.keeps);
      }

  pub step_is_durable : IsDurable root later new
  step_is_durable = elim (cases_Bool old.failed) [ inl t ↦ stays_failed t | inr f ↦ runs_on f ]
