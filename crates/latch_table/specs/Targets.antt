-- What latches are held on.
use Rattle.std.specs.Prelude.{Bool, false, ◌==◌}
use Rattle.latch_table.specs.declared.latches.Target.{Target}
use Rattle.latch_table.specs.declared.latches.Target.TheVariants.{Index, Page}

abbrev pub same_target : Target → Target → Bool
same_target (Index index) (Index other) = index == other
same_target (Index index) (Page page) = false
same_target (Page page) (Index index) = false
same_target (Page page) (Page other) = page == other
