use Rattle.law_locked_rows.proofs.SearchSteps.{record_marked, record_other, record_found}
use Rattle.law_locked_rows.proofs.searches.a_record_is_passed_or_found.Goals as goal

pub returns : goal.returns
returns c = record {
  marked = λ store old new held s work schema scan lock made log passed pair coded asks is next zeroth code is_marked.
      record_marked held asks.told asks.has_work asks.searching scan asks.there asks.which lock asks.granted asks.apart asks.mine passed is
      pair next.first next.within next.index next.key next.gap next.own zeroth coded code is_marked;
  other = λ store old new held s work schema scan lock made log passed pair coded asks is next zeroth code is_not differs.
      record_other held asks.told asks.has_work asks.searching scan asks.there asks.which lock asks.granted asks.apart asks.mine passed is
      pair next.first next.within next.index next.key next.gap next.own zeroth coded code is_not differs;
  found = λ store old new held s work schema scan lock made log passed pair coded rows asks is next zeroth code is_not same rows_are.
      record_found held asks.told asks.has_work asks.searching scan asks.there asks.which lock asks.granted asks.apart asks.mine passed is
      pair next.first next.within next.index next.key next.gap next.own zeroth coded code is_not same rows rows_are;
}
