use Rattle.std.proofs.Common.{◌∙◌}
use Rattle.engine.proofs.opening.mount.Goals as goal

pub returns-in-Ok-parts_over-clause-ok : goal.returns-in-Ok-parts_over-clause-ok
returns-in-Ok-parts_over-clause-ok g c =
    record {
      names = c.new.ensures.names;
      nobody = c.new.ensures.nobody;
      db = c.in-Ok.mounted.db;
      past = c.new.ensures.past ∙ c.in-Ok-parts_over.ensures.first.past;
    }

pub returns-in-Ok-parts_over-clause-held : goal.returns-in-Ok-parts_over-clause-held
returns-in-Ok-parts_over-clause-held g c = (
  c.in-Ok.mounted.db,
  c.new.ensures.past ∙ c.in-Ok-parts_over.ensures.first.past,
  rw c.new.ensures.disk c.in-Ok.ensures.held,
  c.in-Ok.ensures.few,
  c.in-Ok.ensures.keyed,
)
