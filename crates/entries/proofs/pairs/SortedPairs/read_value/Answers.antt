use Rattle.std.proofs.Common.{◌≡◌, ap, length, sym, ◌∙◌, arith}
use Rattle.std.specs.Prelude.{Some, is_some}
use Rattle.entries.specs.Pairs.{value_of}
use Rattle.entries.proofs.Kept.{got, short_value}
use Rattle.entries.proofs.pairs.SortedPairs.read_value.Goals as goal

pub copy_into-requires : goal.copy_into-requires
copy_into-requires c =
    let pairs = c.self.inside.stored.entries in
    let there : value_of c.args.key.now pairs ≡ Some c.in-Some.value.now = sym (c.in-Some.ensures.value ∙ got c.args.key.now pairs) in
    omega (arith, short_value c.args.key.now c.in-Some.value.now pairs c.self.invariant.short there, ap length c.as_slice.ensures, c.requires)

pub returns-in-Some-clause-found : goal.returns-in-Some-clause-found
returns-in-Some-clause-found c =
    rw (← c.self.view_is) (ap is_some (c.in-Some.ensures.value ∙ got c.args.key.now c.self.inside.stored.entries))

pub returns-in-Some-clause-value : goal.returns-in-Some-clause-value
returns-in-Some-clause-value c = λ is.
    rw (← c.self.view_is)
    (sym (c.in-Some.ensures.value ∙ got c.args.key.now c.self.inside.stored.entries)
    ∙ ap (λ bytes. Some bytes) (sym (c.copy_into.ensures.items ∙ c.as_slice.ensures)))

pub returns-in-None-clause-found : goal.returns-in-None-clause-found
returns-in-None-clause-found c =
    rw (← c.self.view_is) (ap is_some (c.in-None.ensures.value ∙ got c.args.key.now c.self.inside.stored.entries))
