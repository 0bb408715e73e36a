use Rattle.law_histories.proofs.Settings.{set_one}
use Rattle.law_histories.proofs.one_tree.a_session_has_one_setting.Goals as goal

pub returns : goal.returns
returns c = λ s a b past p q. set_one s past a b p q
