-- Whatever a crash leaves recovers.
use Rattle.std.proofs.Common.{ℕ, ◌≤◌, None, List, arith}
use Rattle.store_api.specs.Areas.{State, Image, IsImage, IsHonest}
use Rattle.log_format.specs.declared.group.Group.{Group}
use Rattle.redo_log.specs.Logged.{HoldsPrefix}
use Rattle.law_logged_pages.specs.Stages.{IsUnwritten}
use Rattle.law_logged_pages.specs.Keeping.{IsRun, Keeps, Recovers, durable}
use Rattle.law_logged_pages.proofs.Leading.{stage_leads_on, fresh_taken}

pub image_recovers : (run first flushed : ℕ) (groups : List Group) (base : ℕ → List ℕ) (s : State) (image : Image) → IsRun first groups base
    → Keeps run first flushed groups base s
    → IsImage s image → IsHonest s image → Recovers run first flushed groups base image
image_recovers run first flushed groups base s image is keeps left honest =
    let held : HoldsPrefix run first groups flushed image.log = keeps.log image.log left.log honest.log in
    let all : durable first flushed ≤ held.count = omega (arith, held.all_flushed) in
    record {
      count = held.count;
      some = held.some;
      all_flushed = all;
      scan = held.scan;
      pages = λ page content below found.
          stage_leads_on base first groups (durable first flushed) held.count page content is.each (is.bases page) all
          (keeps.pages image left honest page content below found);
      made = λ page below found.
          let unwritten : IsUnwritten base groups page = keeps.pages image left honest page None below found in
          fresh_taken page held.count groups unwritten.fresh;
    }
