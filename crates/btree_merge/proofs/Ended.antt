-- The end of a mini-transaction that went on.
use Rattle.std.proofs.Common.{sym, ◌∙◌}
use Rattle.std.specs.Prelude.{ℕ}
use Rattle.mtr.specs.Seen.{MtrState}
use Rattle.mtr.specs.Calls.{Commits, GivesUp}
use Rattle.mtr.proofs.Consulting.{goes_then}
use Rattle.btree.proofs.Steps.{gives_up_then}
use Rattle.btree_change.specs.Calls.{Ends}
use Rattle.btree_merge.specs.Going.{GoesOn}

module _ (n : ℕ) (a b c d : MtrState) (begun : GivesUp a b) (on : GoesOn n b c) where
  -- all is given up
  pub given_up : GivesUp c d → GivesUp a d
  given_up given =
      gives_up_then a b d begun (record {
        goes = goes_then b c d on.goes given.goes;
        standing = λ told. given.standing told ∙ on.standing (given.goes.told told);
        seen = λ told. given.seen told ∙ on.standing (given.goes.told told);
        fault = λ told. given.fault told ∙ on.fault (given.goes.told told);
        visited_is = given.visited_is;
        spare = given.spare;
      })

  -- or it stands
  pub committed : Commits c d → Ends a d
  committed commits = record {
    goes = goes_then a b d begun.goes (goes_then b c d on.goes commits.goes);
    idle =
        record {
          seen = λ told. commits.seen told ∙ sym (commits.standing told);
          visited_is = commits.visited_is;
          spare = commits.spare;
        };
  }
