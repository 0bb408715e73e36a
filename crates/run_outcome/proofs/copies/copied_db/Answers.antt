use Rattle.run_outcome.proofs.Copying.{made_anew}
use Rattle.run_outcome.proofs.copies.copied_db.Goals as goal

pub returns : goal.returns
returns c = λ keyed.
    made_anew c.args.db.now c.new-copy.result c.make_from_back.new.db c.make_from_back-2.new.db c.new.result c.new-2.result
    c.in_ok-creations.creations.items c.in_ok-puts.puts.items c.new-copy.ensures c.new.ensures c.new-2.ensures
    c.in_ok-make_from_back.ensures c.in_ok-creations.ensures c.in_ok-make_from_back-2.ensures c.in_ok-puts.ensures.changes
    c.in_ok-puts.ensures.few keyed
