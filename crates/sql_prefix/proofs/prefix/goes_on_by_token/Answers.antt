use Rattle.sql_prefix.specs.Prefix.{IsCutOff}
use Rattle.sql_prefix.specs.Endings.{token_end}
use Rattle.sql_prefix.proofs.Finished.{tried_ok, all_token_ends, has_token_end}
use Rattle.sql_prefix.proofs.prefix.goes_on_by_token.Goals as goal

pub returns : goal.returns
returns c = tried_ok (λ e. IsCutOff c.args.bytes.now (token_end e)) all_token_ends has_token_end c.goes_on_by_one.result c.goes_on_by_one.ensures
