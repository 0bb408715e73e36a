use Rattle.std.proofs.Common.{refl, sym, ap, subst, ◌∙◌}
use Rattle.std.specs.Prelude.{◌||◌, is_some}
use Rattle.buffer_pool.specs.Frames.{is_pooled, next_idle}
use Rattle.mtr.specs.Seen.{is_in}
use Rattle.mtr.specs.Calls.{Makes}
use Rattle.mtr.proofs.Claims.{visited_now}
use Rattle.mini_txn.specs.Dealt.{pages_of, HasCopy}
use Rattle.mini_txn.proofs.Bodies.{blank_is}
use Rattle.paged_txn.specs.View.{is_known, state_of, IsPaged}
use Rattle.paged_txn.proofs.Batched.{flushed_still}
use Rattle.paged_txn.proofs.Dirty.{secured_changed}
use Rattle.paged_txn.proofs.Made.{ready_by, never_shut}
use Rattle.paged_txn.proofs.Meeting.{blanked_by, made_paged, made_makes}
use Rattle.paged_txn.proofs.work.Work.make.Goals as goal

pub set-requires-clause-dealt_with : goal.set-requires-clause-dealt_with
set-requires-clause-dealt_with g c = ap (is_in c.args.page) c.visit.ensures.pages ∙ visited_now c.args.page (pages_of c.args.self.now.dealt)

pub invariant_of-self : goal.invariant_of-self
invariant_of-self g c =
    let m = c.args.self.now in
    let past = g.D.Disk.past m.disk in
    let page = c.args.page in
    let opens = sym c.is_open.ensures ∙ c.if-not-is_open.false in
    let ready = ready_by m.pool past m.dealt m.edits m.told page m.is_paged c.contains-known.result c.secure.new.pool c.contains-known.ensures opens
    c.secure.ensures in
    let has = subst (λ l. HasCopy page l c.visit.new.self c.set.new.self) (sym blank_is) c.set.ensures in
    let blanks = blanked_by page m.dealt c.visit.new.self c.set.new.self c.visit.ensures has in
    record {
      is_paged = subst (λ rs. IsPaged c.secure.new.pool past c.set.new.self rs m.told) (sym c.add_fresh.ensures)
          (made_paged m.pool c.secure.new.pool past m.dealt c.set.new.self m.edits m.told page m.is_paged ready blanks c.requires.within);
      is_flushed = flushed_still (is_known m.told past) (is_known m.told past) m.pool c.secure.new.pool m.log past past m.flusher m.is_flushed (λ k. k)
          (λ k q. refl) (secured_changed c.contains-known.result page m.pool c.secure.new.pool c.secure.ensures);
    }

pub returns-clause-made : goal.returns-clause-made
returns-clause-made g c =
    let m = c.args.self.now in
    let past = g.D.Disk.past m.disk in
    let page = c.args.page in
    let opens = sym c.is_open.ensures ∙ c.if-not-is_open.false in
    let ready = ready_by m.pool past m.dealt m.edits m.told page m.is_paged c.contains-known.result c.secure.new.pool c.contains-known.ensures opens
    c.secure.ensures in
    let has = subst (λ l. HasCopy page l c.visit.new.self c.set.new.self) (sym blank_is) c.set.ensures in
    let blanks = blanked_by page m.dealt c.visit.new.self c.set.new.self c.visit.ensures has in
    subst (λ rs. Makes page (state_of m.pool past m.dealt m.edits m.told) (state_of c.secure.new.pool past c.set.new.self rs m.told)) (sym c.add_fresh.ensures)
    (made_makes m.pool c.secure.new.pool past m.dealt c.set.new.self m.edits m.told page m.is_paged ready blanks c.requires.within)

pub returns-clause-shut : goal.returns-clause-shut
returns-clause-shut g c = λ shut.
    let m = c.args.self.now in
    let page = c.args.page in
    let opens = sym c.is_open.ensures ∙ c.if-not-is_open.false in
    absurd (never_shut (is_in page (pages_of m.dealt)) (is_pooled m.pool page) (is_some (next_idle m.pool))
    (ap (λ b. b || (is_pooled m.pool page || is_some (next_idle m.pool))) (sym c.contains-known.ensures) ∙ opens) shut.absent shut.none_free)
