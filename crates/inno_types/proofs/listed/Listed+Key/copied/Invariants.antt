use Rattle.std.proofs.Common.{◌≡◌, take}
use Rattle.inno_types.proofs.listed.Listed+Key.copied.Given as goal

-- the keys before the place are copied
abbrev pub invariant-loop-key : goal.invariant-loop-key
invariant-loop-key l = l.keys.items ≡ take l.key-index l.key-items
