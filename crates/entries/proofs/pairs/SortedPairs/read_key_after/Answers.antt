use Rattle.std.proofs.Common.{ap, length, sym, arith}
use Rattle.entries.proofs.Kept.{short_found}
use Rattle.entries.proofs.pairs.SortedPairs.read_key_after.Goals as goal

pub copy_into-requires : goal.copy_into-requires
copy_into-requires c =
    let short = short_found _ (c.in-Some.next.now, c.in-Some.field-0-1.now) c.args.self.now c.in-Some.ensures.sound.short (sym c.in-Some.ensures.found) in
    omega (arith, short.key, ap length c.as_slice.ensures, c.requires)
