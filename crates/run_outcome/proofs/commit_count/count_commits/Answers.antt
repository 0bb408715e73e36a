use Rattle.std.proofs.Common.{◌∙◌, ap, sym}
use Rattle.std.specs.List.{count_by}
use Rattle.run_outcome.specs.Report.{is_commit}
use Rattle.run_outcome.proofs.Counting.{count-reverse}
use Rattle.run_outcome.proofs.commit_count.count_commits.Goals as goal

pub returns : goal.returns
returns c =
    c.count_in.ensures ∙ sym (count-reverse is_commit c.events-events.result.now) ∙ ap (count_by is_commit) c.events-events.ensures
