use Rattle.std.proofs.Common.{◌≡◌, ◌<◌, ◌≤◌, List, length, sym, ap, subst, arith}
use Rattle.std.specs.Prelude.{slice_set, slice_index_or}
use Rattle.std.proofs.lemmas.List.Sums.{sum_by-set}
use Rattle.commit_log.specs.DraftsView.{DraftView, no_draft, promised_to_all}
use Rattle.commit_log.proofs.drafts.Drafts.commit.Goals as goal

pub returns-clause-promised : goal.returns-clause-promised
returns-clause-promised c =
    let drafts = c.self.inside.drafts.items in
    let draft = c.index_mut-draft.result.now in
    let within : c.args.session < length drafts = omega (arith, c.requires.session, ap (λ (l : List DraftView). length l) c.self.view_is) in
    let total = sum_by-set (λ (d : DraftView). d.promised) drafts c.args.session no_draft draft within in
    let same : (slice_index_or drafts c.args.session draft).promised ≡ draft.promised =
    ap (λ (d : DraftView). d.promised) (sym c.index_mut-draft.ensures.value) in
    let kept : promised_to_all drafts ≤ c.args.log.now.spare = omega (arith, c.requires.promised, ap promised_to_all c.self.view_is) in
    subst (λ (d : DraftView). promised_to_all (slice_set drafts c.args.session d) ≤ c.commit.new.log.spare) (sym c.commit.ensures.cleared)
    (omega (arith, total, same, kept, c.commit.ensures.spare))
