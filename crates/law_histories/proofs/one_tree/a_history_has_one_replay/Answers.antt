use Rattle.std.proofs.Common.{sym, ◌∙◌}
use Rattle.inno_model.specs.Past.{opening}
use Rattle.law_histories.proofs.Replays.{one_replay}
use Rattle.law_histories.proofs.one_tree.a_history_has_one_replay.Goals as goal

pub returns : goal.returns
returns c = λ past works a w. let r = one_replay past a.works works (opening past) a.are w a.answers in (r.0, sym r.1 ∙ a.ends)
