use Rattle.std.proofs.Common.{◌≡◌, []}
use Rattle.inno_model.specs.declared.board.Phase.TheVariants.{Busy}
use Rattle.turn_engine.specs.Turns.{Rests, Went}
use Rattle.turn_engine.proofs.session.answer.Given as goal

-- so far the session has made no call
abbrev pub invariant-loop : goal.invariant-loop
invariant-loop g l = (l.pass.table_id ≡ l.initial.pass.table_id) × Rests l.pass.me l.s × Went l.s l.initial.pass.me.0.mine.seen l.pass.me.0.mine.seen [] Busy
