-- How what is kept of the files goes on: by an entry, by an acknowledgement, and by calls of the disk.
use Rattle.std.proofs.Common.{◌≡◌, inl, inr, ℕ, ◌<◌, ◌≤◌, true, Some, List, [], ◌∷◌, refl, sym, ◌∙◌, ap, subst, arith}
use Rattle.std.proofs.lemmas.Bool.{cases_lt}
use Rattle.std.proofs.lemmas.Bool.Decides.{nat_tests}
use Rattle.store_api.specs.Areas.{State, Image, IsImage, IsHonest, seen_image}
use Rattle.store_api.specs.Past.{Past, Ticks, Meanwhile}
use Rattle.inno_db.specs.Database.{Database}
use Rattle.inno_model.specs.declared.event.Event.{Event}
use Rattle.inno_model.specs.declared.event.Event.TheVariants.{Opened, Acked}
use Rattle.inno_model.specs.Past.{changed, opening, committed}
use Rattle.inno_model.proofs.Commits.{commits_rise, committed_stays}
use Rattle.law_crashes.specs.Commits.{acked_by, last_acked, is_plain}
use Rattle.law_crashes.specs.Files.{IsAtRest, Files, StandsFor, LeavesFiles, HoldsSome}
use Rattle.law_crashes.specs.Since.{KeepsSince}
use Rattle.law_crashes.proofs.AtRest.{honest_at_rest}
use Rattle.law_crashes.proofs.Prefix.{one_db}

-- What was told until now was told until earlier.
pub files_before : (root mid now : Past) (db : Database) → mid.moment ≤ now.moment
    → ((m : ℕ) → Ticks now.moment → m ≤ mid.moment → now.state_at m ≡ mid.state_at m) → Files root now db → Files root mid db
files_before root mid now db later kept files = record {
  state = files.state;
  ticks = let ticks = files.ticks in omega (arith, ticks, later);
  tells = λ m low high.
      let there = files.tells m low (omega (arith, high, later)) in
      (there.0, sym (kept m files.ticks high) ∙ there.1);
  told = files.told;
  rests = files.rests;
  stands = files.stands;
}

-- ---- an entry

opening_stays : (e : Event) (past : List Event) → is_plain e ≡ true → opening (e ∷ past) ≡ opening past
opening_stays (Opened db) past plain = absurd cc
opening_stays e past plain = refl

acked_stays : (m : ℕ) (e : Event) (past : List Event) → is_plain e ≡ true → acked_by m (e ∷ past) ≡ acked_by m past
acked_stays m (Acked s moment) past plain = absurd cc
acked_stays m e past plain = refl

last_stays : (e : Event) (past : List Event) → is_plain e ≡ true → last_acked (e ∷ past) ≡ last_acked past
last_stays (Acked s moment) past plain = absurd cc
last_stays e past plain = refl

holds_entry : (m : ℕ) (e : Event) (past : List Event) (image : Image) → is_plain e ≡ true → HoldsSome m past image → HoldsSome m (e ∷ past) image
holds_entry m e past image plain holds =
    record {
      n = holds.n;
      some = omega (arith, holds.some, commits_rise e past);
      all_acked = omega (arith, holds.all_acked, acked_stays m e past plain);
      stands = subst (StandsFor image)
          (ap (λ (db : Database). changed db (committed holds.n past)) (sym (opening_stays e past plain))
          ∙ ap (changed (opening (e ∷ past))) (sym (committed_stays e past holds.n holds.some)))
          holds.stands;
    }

-- An entry that neither opens nor acknowledges changes nothing in what is kept.
pub keeps_entry : (root now : Past) (e : Event) (past : List Event) → is_plain e ≡ true → KeepsSince root now past → KeepsSince root now (e ∷ past)
keeps_entry root now e past plain so_far =
    record {
      later = so_far.later;
      kept = so_far.kept;
      timed = omega (arith, so_far.timed, last_stays e past plain);
      opens = λ db files. opening_stays e past plain ∙ so_far.opens db files;
      each = λ db files m s image low high is left honest. holds_entry m e past image plain (so_far.each db files m s image low high is left honest);
    }

-- ---- an acknowledgement

acked_before : (m s moment : ℕ) (past : List Event) → m < moment → acked_by m (Acked s moment ∷ past) ≡ acked_by m past
acked_before m s moment past lt = grind (arith, nat_tests, lt)

holds_before : (m s moment : ℕ) (past : List Event) (image : Image) → m < moment → HoldsSome m past image → HoldsSome m (Acked s moment ∷ past) image
holds_before m s moment past image lt holds =
    record { n = holds.n; some = holds.some; all_acked = omega (arith, holds.all_acked, acked_before m s moment past lt); stands = holds.stands }

-- An acknowledgement now adds something for this moment alone.
pub keeps_ack : (root now : Past) (s moment : ℕ) (past : List Event) → moment ≡ now.moment → KeepsSince root now past
    → ((db : Database) → Files root now db → (st : State) (image : Image) → Ticks now.moment → now.state_at now.moment ≡ Some st → IsImage st image →
    IsHonest st image → HoldsSome now.moment (Acked s moment ∷ past) image)
    → KeepsSince root now (Acked s moment ∷ past)
keeps_ack root now s moment past is_now so_far here =
    record {
      later = so_far.later;
      kept = so_far.kept;
      timed = omega (arith, so_far.timed, is_now);
      opens = so_far.opens;
      each = λ db files m st image low high is left honest.
          elim (cases_lt m now.moment) [
            | inl lt ↦ holds_before m s moment past image (omega (arith, lt, is_now)) (so_far.each db files m st image low high is left honest)
            | inr le ↦
                let same : now.moment ≡ m = omega (arith, le, high) in
                subst (λ (n : ℕ). HoldsSome n (Acked s moment ∷ past) image) same (here db files st image files.ticks (ap now.state_at same ∙ is) left honest)
          ];
    }

-- ---- calls of the disk

-- Calls at each of whose moments what a crash may leave holds enough.
pub keeps_calls : (P : State → Type 0) (root mid now : Past) (past : List Event) → KeepsSince root mid past → Meanwhile P mid now
    → ((db : Database) → Files root mid db → (st : State) (image : Image) → P st → IsImage st image → IsHonest st image → (m : ℕ) → HoldsSome m past image)
    → KeepsSince root now past
keeps_calls P root mid now past so_far calls holds =
    record {
      later = omega (arith, so_far.later, calls.later);
      kept = λ m ticks le. calls.kept m ticks (omega (arith, so_far.later, le)) ∙ so_far.kept m (omega (arith, calls.later, ticks)) le;
      timed = omega (arith, so_far.timed, calls.later);
      opens = λ db files. so_far.opens db (files_before root mid now db calls.later calls.kept files);
      each = λ db files m st image low high is left honest.
          let then = files_before root mid now db calls.later calls.kept files in
          elim (cases_lt mid.moment m) [
            | inl late ↦ holds db then st image (calls.each m st files.ticks late high is) left honest m
            | inr early ↦ so_far.each db then m st image low early (sym (calls.kept m files.ticks early) ∙ is) left honest
          ];
    }

-- ---- a mount

-- The same where the calls that read it have left the files as they were.
pub keeps_read : (root mid : Past) (first : Database) → ((m : ℕ) (s : State) → mid.state_at m ≡ Some s → IsImage s (seen_image s)) → LeavesFiles root mid
    → ((db : Database) → Files root mid db → (st : State) → mid.state_at mid.moment ≡ Some st → IsAtRest st ×
    ((image : Image) → IsImage st image → StandsFor image first))
    → KeepsSince root mid (Opened first ∷ [])
keeps_read root mid first law leaves stands =
    let opens : (db : Database) → Files root mid db → first ≡ db = λ db files.
    let last = files.tells mid.moment leaves.later (omega arith) in
    let seen = law mid.moment last.0 last.1 in
    let there = stands db files last.0 last.1 in
    one_db (seen_image last.0) first db (there.1 (seen_image last.0) seen)
    (leaves.each db files mid.moment last.0 (seen_image last.0) leaves.later (omega arith) last.1 seen
    (honest_at_rest last.0 (seen_image last.0) there.0 seen)) in
    record {
      later = leaves.later;
      kept = leaves.kept;
      timed = omega arith;
      opens = opens;
      each = λ db files m st image low high is left honest. record {
        n = 0;
        some = omega arith;
        all_acked = omega arith;
        stands = subst (StandsFor image) (sym (opens db files)) (leaves.each db files m st image low high is left honest);
      };
    }

-- What keeps the database that was read leaves the files as they were.
pub leaves_opened : (root now : Past) (first : Database) → KeepsSince root now (Opened first ∷ []) → LeavesFiles root now
leaves_opened root now first keeps = record {
  later = keeps.later;
  kept = keeps.kept;
  each =
      λ db files m st image low high is left honest. subst (StandsFor image) (keeps.opens db files)
      (keeps.each db files m st image low high is left honest).stands;
}
