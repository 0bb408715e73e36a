-- What recovery leaves of the files at each moment, and what it knows of them once torn pages are put right.
use Rattle.std.proofs.Common.{◌≡◌, inl, inr, ⊎_elim, ℕ, ◌<◌, ◌≤◌, Option, Some, None, List, [], length, take, drop, refl, sym, ap, subst, ◌∙◌, arith}
use Rattle.std.specs.Prelude.{All, Contains, fold, max, slice_index, ◌*◌}
use Rattle.std.proofs.lemmas.Bool.{cases_lt}
use Rattle.store_api.specs.Areas.{Contents, State, Image, Write, MayLeave, IsImage, IsHonest, IsHonestArea, Misses, Puts, piece, end_of, seen_image}
use Rattle.store_api.specs.Past.{Past, Now, Meanwhile}
use Rattle.store_api.proofs.Moments.{Meanwhile-join, Meanwhile-weaker}
use Rattle.law_crashes.specs.Files.{IsAtRest}
use Rattle.law_crashes.proofs.AtRest.{left_at_rest, honest_at_rest}
use Rattle.log_format.specs.declared.group.Group.{Group}
use Rattle.redo_log.specs.Logged.{HoldsPrefix}
use Rattle.flusher.specs.Flushing.{KeepsSince}
use Rattle.law_logged_pages.specs.Stages.{IsStage}
use Rattle.law_logged_pages.specs.Keeping.{durable}
use Rattle.stored_pages.specs.Reading.{IsCopyIn, IsPageIn}
use Rattle.doublewrite.specs.Repairing.{IsQuietAs, WasRead, ReadsAs, IsRepaired}
use Rattle.store_api.specs.Looks.{HoldsSame, HoldsAs, Looks}
use Rattle.page_recovery.specs.Reading.{StandsIn}
use Rattle.page_recovery.specs.Leaving.{Is, IsStill, StillReads, LeavesRun, LeavesSame}

-- ---- what a crash leaves is what was read before

pub quiet_as : (before : State) (past : Past) → IsStill before → Now (Is before) past → Now (IsQuietAs before) past
quiet_as before past still known = λ s ticks is. (known s ticks is, still.quiet)

-- before the first call
still_itself : (before : State) → IsStill before → StillReads before before
still_itself before still = record {
  each = λ image left honest page content below found.
      let pages : image.pages ≡ before.pages.synced = left_at_rest before.pages image.pages still.quiet.pages_rest left.pages in
      let double : image.double ≡ before.double.synced = left_at_rest before.double image.double still.quiet.double_rest left.double in
      subst (λ (l : List ℕ). IsPageIn l before.double.synced page content) pages (subst (λ (l : List ℕ). IsPageIn image.pages l page content) double found);
  log = (refl, refl);
}

still_by_repair : (before s : State) → ReadsAs before s → StillReads before s
still_by_repair before s reads = record {
  each = reads.each;
  log = (ap (λ (c : Contents). c.synced) reads.log_is, ap (λ (c : Contents). c.writes) reads.log_is);
}

pub during_repair : (before : State) (old new : Past) → Meanwhile (ReadsAs before) old new → Meanwhile (StillReads before) old new
during_repair before old new run = Meanwhile-weaker (ReadsAs before) (StillReads before) old new run (still_by_repair before)

-- whatever reads give
left_as : (a b : Contents) (image : List ℕ) → HoldsSame a b → MayLeave b image → MayLeave a image
left_as a b image same left = record {
  no_shorter = subst (λ (l : List ℕ). length l ≤ length image) same.0 left.no_shorter;
  no_longer =
      subst (λ (l : List ℕ). length image ≤ fold (λ n w. max n (end_of w)) (length l) a.writes) same.0
      (subst (λ (ws : List Write). length image ≤ fold (λ n w. max n (end_of w)) (length b.synced) ws) same.1 left.no_longer);
  same = λ i below misses.
      left.same i (subst (λ (l : List ℕ). i < length l) (sym same.0) below) (subst (λ (ws : List Write). All (Misses i) ws) (sym same.1) misses)
      ∙ ap (λ (l : List ℕ). slice_index l i) same.0;
}

honest_as : (size : ℕ) (a b : Contents) (image : List ℕ) → HoldsSame a b → IsHonestArea size b image → IsHonestArea size a image
honest_as size a b image same honest = λ k inside passes.
    ⊎_elim
    (λ (stood : take (length (piece size k image)) (drop (size * k) b.synced) ≡ piece size k image).
    inl (ap (λ (l : List ℕ). take (length (piece size k image)) (drop (size * k) l)) (sym same.0) ∙ stood))
    (λ (written : (w : Write) × Contains b.writes w × Puts (size * k) (piece size k image) w).
    inr (written.0, subst (λ (ws : List Write). Contains ws written.0) same.1 written.1, written.2))
    (honest k inside passes)

image_as : (a b : State) (image : Image) → HoldsAs a b → IsImage b image → IsImage a image
image_as a b image holds left = record {
  log = left_as a.log b.log image.log holds.log left.log;
  double = left_as a.double b.double image.double holds.double left.double;
  pages = left_as a.pages b.pages image.pages holds.pages left.pages;
}

honest_image_as : (a b : State) (image : Image) → HoldsAs a b → IsHonest b image → IsHonest a image
honest_image_as a b image holds honest = record {
  log = honest_as 512 a.log b.log image.log holds.log honest.log;
  double = honest_as 4096 a.double b.double image.double holds.double honest.double;
  pages = honest_as 4096 a.pages b.pages image.pages holds.pages honest.pages;
}

still_as : (before a b : State) → HoldsAs a b → StillReads before a → StillReads before b
still_as before a b holds still = record {
  each = λ image left honest. still.each image (image_as a b image holds left) (honest_image_as a b image holds honest);
  log = (holds.log.0 ∙ still.log.0, holds.log.1 ∙ still.log.1);
}

-- at the end of some calls
last : (P : State → Type 0) (old new : Past) → Now P old → Meanwhile P old new → Now P new
last P old new known run = λ s ticks is.
    ⊎_elim
    (λ (more : old.moment < new.moment). run.each new.moment s ticks more (omega arith) is)
    (λ (none : new.moment ≤ old.moment).
    let same : new.moment ≡ old.moment = omega (arith, none, run.later) in
    known s (omega (arith, run.later, ticks)) (sym (ap old.state_at same) ∙ sym (run.kept new.moment ticks none) ∙ is))
    (cases_lt old.moment new.moment)

during_looks : (before : State) (old new : Past) → Now (StillReads before) old → Looks old new → Meanwhile (StillReads before) old new
during_looks before old new known looks = record {
  later = looks.later;
  kept = looks.kept;
  each = λ m s ticks low high is.
      let from = looks.each m s ticks (omega (arith, low)) high is in
      still_as before from.0 s from.2 (known from.0 (omega (arith, looks.later, ticks)) from.1);
}

module _ (before : State) (still : IsStill before) where
  module _ (p0 p1 : Past) (known : Now (Is before) p0) (run : Meanwhile (StillReads before) p0 p1) where
    pub still_then : Now (StillReads before) p1
    still_then = last (StillReads before) p0 p1 (λ s ticks is. subst (StillReads before) (sym (known s ticks is)) (still_itself before still)) run

    pub during_reads : (p2 : Past) → Looks p1 p2 → Meanwhile (StillReads before) p0 p2
    during_reads p2 looks = Meanwhile-join (StillReads before) p0 p1 p2 run (during_looks before p1 p2 still_then looks)

  -- ---- a state that reads give, once torn pages are put right

  module _ (s : State) (reads : StillReads before s) (left : IsImage s (seen_image s)) where
    rests : s.log.writes ≡ []
    rests = reads.log.1 ∙ still.log_rest

    pub same_log : s.log.seen ≡ before.log.seen
    same_log = left_at_rest s.log s.log.seen rests left.log ∙ reads.log.0 ∙ sym still.log_seen

    in_place : IsRepaired s → (page : ℕ) (content : Option (List ℕ)) → StandsIn s.pages.seen page content → IsPageIn s.pages.seen s.double.seen page content
    in_place repaired page (Some bytes) stands = inl stands
    in_place repaired page None stands =
        (stands, λ bytes copy. repaired.no_copy page bytes (subst (λ (l : List ℕ). IsCopyIn l page bytes) repaired.double_seen copy))

    pub stood_before : IsRepaired s → (page : ℕ) (content : Option (List ℕ)) → page < 65536 → StandsIn s.pages.seen page content → WasRead before page content
    stood_before repaired page content below stands =
        let at_rest : IsAtRest s = record { log = rests; double = repaired.double_rest; pages = repaired.pages_rest } in
        reads.each (seen_image s) left (honest_at_rest s (seen_image s) at_rest left) page content below (in_place repaired page content stands)

  -- ---- a run

  module _ (run first flushed : ℕ) (groups : List Group) (base : ℕ → List ℕ) (leaves : LeavesRun run first flushed groups base (seen_image before)) where
    pub stage_before : (page : ℕ) (content : Option (List ℕ)) → page < 65536 → WasRead before page content
        → IsStage base groups (durable first leaves.now) page content
    stage_before page content below was =
        leaves.pages page content below
        (subst (λ (l : List ℕ). IsPageIn l before.double.seen page content) (sym still.quiet.pages_seen)
        (subst (λ (l : List ℕ). IsPageIn before.pages.synced l page content) (sym still.quiet.double_seen) was))

    pub leaves_same : (s : State) → StillReads before s → LeavesSame run first flushed groups base before s
    leaves_same s reads = record {
      runs = λ image left honest. record {
        now = leaves.now;
        later = leaves.later;
        log = subst (HoldsPrefix run first groups leaves.now) (sym (log image left)) leaves.log;
        pages = λ page content below found. stage_before page content below (reads.each image left honest page content below found);
      };
      log = log;
    } where
      log : (image : Image) → IsImage s image → image.log ≡ before.log.seen
      log image left = left_at_rest s.log image.log (reads.log.1 ∙ still.log_rest) left.log ∙ reads.log.0 ∙ sym still.log_seen

-- what a step of a flusher leaves
pub step_leaves : (run first flushed : ℕ) (groups : List Group) (base : ℕ → List ℕ) (s : State) (image : Image) → KeepsSince run first flushed groups base s
    → IsImage s image → IsHonest s image → LeavesRun run first flushed groups base image
step_leaves run first flushed groups base s image keeps left honest = record {
  now = keeps.now;
  later = keeps.later;
  log = keeps.keeps.log image.log left.log honest.log;
  pages = λ page content below found. keeps.keeps.pages image left honest page content below found;
}
