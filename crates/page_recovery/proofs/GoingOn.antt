-- Where a recovery has ended, a flusher may go on.
use Rattle.std.proofs.Common.{◌≡◌, inr, ⊎_elim, ℕ, ◌+◌, ◌*◌, ◌<◌, ◌≤◌, Option, Some, None, List, [], length, take, drop, sym, ap, subst, ◌∙◌, arith}
use Rattle.std.specs.Prelude.{All, Contains}
use Rattle.std.proofs.lemmas.List.{take-take, length-take-le}
use Rattle.std.proofs.lemmas.List.Elements.{All-nil}
use Rattle.store_api.specs.Areas.{State, Contents, Write, Puts, IsImage, WasWhole, seen_image}
use Rattle.log_format.specs.declared.group.Group.{Group}
use Rattle.log_format.proofs.Groups.{AreGroups-take}
use Rattle.stored_pages.specs.Reading.{IsGoodPage, place_of}
use Rattle.doublewrite.specs.Repairing.{IsRepaired, WasRead}
use Rattle.doublewrite.specs.Kept.{HadCopy, Spares, WasPage}
use Rattle.law_logged_pages.specs.Applied.{page_after, logical}
use Rattle.law_logged_pages.specs.Stages.{SameButSum, IsStage}
use Rattle.law_logged_pages.specs.Keeping.{IsRun, IsPlaced, durable}
use Rattle.law_logged_pages.proofs.Leading.{fresh_taken}
use Rattle.page_recovery.specs.declared.recovering.Recovered.{Recovered}
use Rattle.page_recovery.specs.Pages.{page_of}
use Rattle.page_recovery.specs.Reading.{StandsIn}
use Rattle.page_recovery.specs.Leaving.{IsStill, StillReads, IsFileRun, LeavesRun}
use Rattle.page_recovery.specs.Recovering.{IsRecovered, HasAll}
use Rattle.page_recovery.proofs.Kept.{stood_before, stage_before}
use Rattle.page_recovery.proofs.Brought.{count_is, has_all}

-- what stood whole where nothing is pending
stood_whole : (c : Contents) (at : ℕ) (bytes : List ℕ) → c.writes ≡ [] → WasWhole c at bytes → take (length bytes) (drop at c.synced) ≡ bytes
stood_whole c at bytes rests whole =
    ⊎_elim (λ (stood : take (length bytes) (drop at c.synced) ≡ bytes). stood)
    (λ (put : (w : Write) × Contains c.writes w × Puts at bytes w).
    let there : Contains [] put.0 = subst (λ (ws : List Write). Contains ws put.0) rests put.1 in absurd (omega (arith, there.1))) whole

module _ (capacity run first flushed : ℕ) (groups : List Group) (base : ℕ → List ℕ) (before : State) (is : IsFileRun capacity run first groups base)
    (still : IsStill before) (leaves : LeavesRun run first flushed groups base (seen_image before)) (r : Recovered)
    (rec : IsRecovered (WasRead before) before.log.seen r) where
  abbrev Taken : List Group
  Taken = take r.count groups

  all : HasAll capacity run first flushed groups base r
  all = has_all capacity run first flushed groups base before is still leaves r rec

  same_count : r.count ≡ leaves.log.count
  same_count = count_is capacity run first flushed groups base before is still leaves r rec

  -- the first of those that were taken are the first of all
  taken_once : (after page : ℕ) → after ≤ r.count → logical base Taken after page ≡ logical base groups after page
  taken_once after page upto = ap (λ (l : List Group). page_after page l (base page)) (take-take after r.count groups upto)

  pub taken_run : IsRun first Taken base
  taken_run = record { each = AreGroups-take r.count first groups is.is.each; bases = is.is.bases }

  pub newest : (page : ℕ) → page < capacity → SameButSum (page_of r.pages page) (logical base Taken (length Taken) page)
  newest page below =
      let long : length Taken ≡ r.count = length-take-le r.count groups all.some in
      subst (SameButSum (page_of r.pages page))
      (sym (ap (λ (n : ℕ). logical base Taken n page) long ∙ taken_once r.count page (omega arith))) (all.pages page below)

  module _ (s : State) (repaired : IsRepaired s) (reads : StillReads before s) (left : IsImage s (seen_image s)) (last : ℕ) (is_last : last + 1 ≡ r.next) where
    durable_is : durable first last ≡ r.count
    durable_is = omega (arith, is_last, all.next_is)

    upto_count : durable first leaves.now ≤ r.count
    upto_count = omega (arith, leaves.log.all_flushed, same_count)

    stage : (page : ℕ) (content : Option (List ℕ)) → page < 65536 → StandsIn s.pages.seen page content → IsStage base Taken (durable first last) page content
    stage page content below stands =
        go content (stage_before before still run first flushed groups base leaves page content below
        (stood_before before still s reads left repaired page content below stands)) where
          go : (found : Option (List ℕ)) → IsStage base groups (durable first leaves.now) page found → IsStage base Taken (durable first last) page found
          go (Some bytes) once = record {
            after = once.after;
            upto = omega (arith, once.upto, upto_count, durable_is);
            same = subst (SameButSum bytes) (sym (taken_once once.after page (omega (arith, once.upto, upto_count)))) once.same;
          }
          go None unwritten = record { zeros = unwritten.zeros; fresh = fresh_taken page r.count groups unwritten.fresh }

    in_place : (page : ℕ) (content : Option (List ℕ)) → WasPage s page content → StandsIn s.pages.seen page content
    in_place page (Some bytes) was =
        let stood : take (length bytes) (drop (4096 * page) s.pages.synced) ≡ bytes = stood_whole s.pages (4096 * page) bytes repaired.pages_rest was.1 in
        let size : length bytes ≡ 4096 = was.0.size in
        let there : place_of page s.pages.synced ≡ bytes = (λ i. take (sym size i) (drop (4096 * page) s.pages.synced)) ∙ stood in
        (ap (place_of page) repaired.pages_seen ∙ there, was.0)
    in_place page None was = λ good.
        was (record {
          good = subst (λ (l : List ℕ). IsGoodPage page (place_of page l)) repaired.pages_seen good;
          spared = subst (All (Spares page)) (sym repaired.pages_rest) (All-nil (Spares page));
        })

    no_copy : (page : ℕ) (bytes : List ℕ) → HadCopy page s.double bytes → ⊥
    no_copy page bytes had =
        let stood : take (length bytes) (drop (4096 * had.slot) s.double.synced) ≡ bytes =
        stood_whole s.double (4096 * had.slot) bytes repaired.double_rest had.whole in
        let size : length bytes ≡ 4096 = had.good.size in
        repaired.no_copy page bytes
        (record {
          slot = had.slot;
          below = had.below;
          stands = (λ i. take (sym size i) (drop (4096 * had.slot) s.double.synced)) ∙ stood;
          good = had.good;
        })

    pub placed : IsPlaced first last Taken base s
    placed = record {
      stages = λ page content below was. stage page content below (in_place page content was);
      settled = λ page below. inr (no_copy page);
      copies = λ page bytes below had. absurd (no_copy page bytes had);
    }
