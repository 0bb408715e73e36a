use Rattle.script_play.proofs.playing.skip_all.Goals as goal

pub skip_at-requires-clause-starts : goal.skip_at-requires-clause-starts
skip_at-requires-clause-starts c =
    let starts = c.requires.starts in (starts.0, starts.1, c.loop-s.invariant.plays starts.0 starts.1 starts.2)
