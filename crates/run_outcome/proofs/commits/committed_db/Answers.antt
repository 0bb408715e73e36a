use Rattle.std.proofs.Common.{◌≡◌}
use Rattle.inno_db.specs.Keyed.{IsKeyed}
use Rattle.inno_model.specs.Past.{opening, commits, db_after}
use Rattle.run_outcome.proofs.Going.{given}
use Rattle.run_outcome.proofs.commits.committed_db.Goals as goal

pub returns : goal.returns
returns c =
    let past = c.args.history.now.past in
    given c.replayed_db.result (IsKeyed (opening past)) (λ db. db ≡ db_after (commits past) past) c.replayed_db.ensures c.requires.keyed
