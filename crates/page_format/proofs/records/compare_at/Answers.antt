use Rattle.std.proofs.Common.{◌≡◌, ℕ, List, [], length, take, drop, get_or, ap, ◌∙◌}
use Rattle.std.specs.Ordering.{nat_cmp}
use Rattle.std.specs.Cmp.Lexicographic.{slice_cmp}
use Rattle.page_format.specs.Words.{records_of}
use Rattle.page_format.proofs.Places.{front_of}
use Rattle.page_format.proofs.records.compare_at.Goals as goal

pub returns : goal.returns
returns c =
    let bytes = c.args.bytes.now in
    let key = c.args.key.now in
    let front : c.split_at.result.0.now ≡ take (length key) (get_or (records_of bytes) c.args.i []) =
    c.split_at.ensures.front ∙ ap (take (length key)) (c.behind.ensures.value ∙ ap (λ (k : ℕ). drop k bytes) c.place_of-at.ensures)
    ∙ front_of bytes c.args.i (length key) c.requires.place c.requires.key in
    c.cmp.ensures ∙ ap (λ (l : List ℕ). slice_cmp nat_cmp l key) front
