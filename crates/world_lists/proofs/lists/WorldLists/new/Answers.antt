use Rattle.std.proofs.Common.{List, None, refl, sym, ap, subst}
use Rattle.law_held_steps.proofs.Items.{first_held}
use Rattle.world_lists.specs.Between.{store_of}
use Rattle.law_held_steps.specs.Making.{settings_of}
use Rattle.world_lists.proofs.lists.WorldLists.new.Goals as goal
use Rattle.desks.specs.{declared.desk.Desk.Desk, Holding.IsHeld}

pub invariant_of-result : goal.invariant_of-result
invariant_of-result g c =
    record {
      held = subst (λ (desks : List Desk). IsHeld (store_of (g.W.World.state c.args.world) None desks 0)) (sym c.new.ensures.items)
          (first_held (g.W.World.state c.args.world) (g.met.W.EngineWorld.never_delays c.args.world).told c.requires.fresh);
      awaits = c.requires.nobody;
    }

pub returns-clause-first : goal.returns-clause-first
returns-clause-first g c =
    record {
      db = c.requires.fresh.db;
      few_tables = c.requires.fresh.few_tables;
      few_rows = c.requires.fresh.few_rows;
      past = c.requires.fresh.past;
      names = c.requires.fresh.names;
      writer = refl;
      settings = ap settings_of c.requires.fresh.sessions;
      rows = c.requires.fresh.rows;
    }
