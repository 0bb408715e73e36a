use Rattle.std.proofs.Common.{◌≡◌, false, refl, sym, ◌∙◌}
use Rattle.lock_table.specs.View.{must_wait}
use Rattle.parts_world.proofs.Requests.{ungranted}
use Rattle.parts_world.proofs.lock_calls.PartsWorldLockWorld.ask.Goals.{in-Granted, in_default}
use Rattle.parts_world.proofs.lock_calls.PartsWorldLockWorld.ask.Goals as goal

pub returns : goal.returns
returns g c =
    let l = c.self.inside in
    let free : must_wait l.locks c.args.lock ≡ false = sym c.would_wait.ensures ∙ c.if-would_wait.false in
    elim c.match-request.branch [
      | in-Granted w ↦ rw (w.result-is, ← c.self.view_is) (w.in-Granted.ensures, refl)
      | in_default w ↦ rw (w.result-is, ← c.self.view_is)
          (ungranted l.locks c.request.new.self c.args.lock c.request.result free c.request.ensures w.in_default.not-Granted, refl)
    ]
