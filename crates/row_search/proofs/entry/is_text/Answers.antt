use Rattle.std.proofs.Common.{rules, ◌≡◌, [], ◌∷◌, ◌++◌}
use Rattle.std.proofs.{lemmas.Bool.Decides.Decides-eqb, lemmas.Slice.Eq.slice_eq-Decides}
use Rattle.key_codec.specs.Keys.{padded}
use Rattle.row_search.proofs.Spelled.{text_told}
use Rattle.row_search.proofs.entry.is_text.Goals as goal

pub returns-in-Some-padded_text : goal.returns-in-Some-padded_text
returns-in-Some-padded_text c = λ fits.
    let key_is : c.args.key.now ≡ c.in-Some.front.now ++ c.in-Some.len.now ∷ [] = search rules in
    let front_is : c.in-Some.front.now ≡ padded c.args.size c.in-Some-padded_text.found.now = search rules in
    text_told c.args.size c.in-Some.len.now c.args.text.now c.in-Some-padded_text.found.now c.in-Some.front.now c.args.key.now c.eq.result key_is front_is
    c.in-Some-padded_text.ensures.found.0
    (slice_eq-Decides Decides-eqb c.in-Some-padded_text.found.now c.args.text.now c.eq.result c.eq.ensures)
