use Rattle.std.proofs.Common.{sym, Some, None}
use Rattle.std.proofs.{lemmas.Bool.Decides.Decides-eqb, lemmas.Slice.Eq.strip_suffix_is}
use Rattle.key_codec.specs.Keys.{entry_front}
use Rattle.row_search.proofs.Spelled.{front_told}
use Rattle.row_search.proofs.entry.is_entry.Goals as goal

pub returns-in-Some : goal.returns-in-Some
returns-in-Some c = λ storable.
    front_told (entry_front c.args.kind c.args.value.now) c.in-Some.front.now c.args.primary.now c.args.entry.now c.is_front.result
    (strip_suffix_is Decides-eqb c.args.entry.now c.args.primary.now (Some c.in-Some.front) c.in-Some.ensures.cases) (c.is_front.ensures storable)

pub returns-in-None : goal.returns-in-None
returns-in-None c = λ storable same.
    strip_suffix_is Decides-eqb c.args.entry.now c.args.primary.now None c.in-None.ensures.cases (entry_front c.args.kind c.args.value.now) (sym same)
