use Rattle.std.proofs.Common.{rules}
use Rattle.std.proofs.lemmas.Fn.{always_returns_same}
use Rattle.inno_db.specs.Database.{key_of, value_cmp}
use Rattle.inno_db.specs.Seen.{seen}
use Rattle.inno_db.proofs.rows.place_of_key.Goals as goal

pub returns-clause-place : goal.returns-clause-place
returns-clause-place c =
    c.binary_search_by.ensures.position (λ row. value_cmp (key_of c.args.schema.now row) (seen c.args.key)) (always_returns_same _ _ _ (λ a r f' called. (search rules, search rules)))
