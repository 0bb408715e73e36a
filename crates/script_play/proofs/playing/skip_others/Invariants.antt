use Rattle.std.proofs.Common.{◌≡◌, take}
use Rattle.script_play.specs.Sessions.{items_of}
use Rattle.script_play.proofs.playing.skip_others.Given as goal

abbrev pub invariant-loop-next : goal.invariant-loop-next
invariant-loop-next l = items_of l.s (take l.next l.items) ≡ items_of l.s (take l.place l.items)
