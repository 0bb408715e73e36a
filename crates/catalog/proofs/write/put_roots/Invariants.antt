use Rattle.std.proofs.Common.{◌≡◌, ◌++◌, take}
use Rattle.std.specs.List.{flat_map}
use Rattle.schema_codec.specs.Numbers.{u32_bytes}
use Rattle.catalog.proofs.write.put_roots.Given as goal

abbrev pub invariant-loop-root : goal.invariant-loop-root
invariant-loop-root l = l.out.items ≡ l.fn.out.items ++ flat_map u32_bytes (take l.root-index l.roots)
