use Rattle.std.proofs.Common.{sym, ap, ◌∙◌, List, ℕ, nat_eq}
use Rattle.std.specs.Prelude.{is_some}
use Rattle.std.specs.Cmp.Lexicographic.{pointwise}
use Rattle.entries.specs.Pairs.{IsShort}
use Rattle.btree.specs.Sound.{tree_pairs}
use Rattle.tree_use.proofs.Finding.{none_there, row_found, row_value, of_found}
use Rattle.tree_use.proofs.Widths.{tree_sound}
use Rattle.tree_use.proofs.reading.find_row.Goals as goal

pub returns-else-seek_row-clause-found : goal.returns-else-seek_row-clause-found
returns-else-seek_row-clause-found g c =
    let pages = (g.M.Mtr.state c.args.m.now).standing in
    let sound = tree_sound c.args.tree pages c.requires.widths c.requires.rest.placed.whole.sound in
    sym (ap is_some (none_there c.args.key.now (tree_pairs c.args.tree pages) sound.rising c.if-seek_row.ensures.row))

pub returns-then-seek_row-clause-found : goal.returns-then-seek_row-clause-found
returns-then-seek_row-clause-found g c =
    let pages = (g.M.Mtr.state c.args.m.now).standing in
    let sound = tree_sound c.args.tree pages c.requires.widths c.requires.rest.placed.whole.sound in
    row_found c.args.key.now (tree_pairs c.args.tree pages) sound.rising c.eq.result c.seek_row.new.row.key.items c.seek_row.new.row.value.items
    (c.eq.ensures ∙ ap (λ (l : List ℕ). pointwise nat_eq l c.args.key.now) c.as_slice.ensures.value) c.if-seek_row.ensures.row

pub returns-then-seek_row-clause-value : goal.returns-then-seek_row-clause-value
returns-then-seek_row-clause-value g c = λ same.
    let pages = (g.M.Mtr.state c.args.m.now).standing in
    let sound = tree_sound c.args.tree pages c.requires.widths c.requires.rest.placed.whole.sound in
    row_value c.args.key.now (tree_pairs c.args.tree pages) sound.rising c.seek_row.new.row.key.items c.seek_row.new.row.value.items
    (sym (ap (λ (l : List ℕ). pointwise nat_eq l c.args.key.now) c.as_slice.ensures.value) ∙ (sym c.eq.ensures ∙ same)) c.if-seek_row.ensures.row

pub returns-then-seek_row-clause-short : goal.returns-then-seek_row-clause-short
returns-then-seek_row-clause-short g c = λ same.
    let pages = (g.M.Mtr.state c.args.m.now).standing in
    let sound = tree_sound c.args.tree pages c.requires.widths c.requires.rest.placed.whole.sound in
    (of_found IsShort c.args.key.now (tree_pairs c.args.tree pages) (c.seek_row.new.row.key.items, c.seek_row.new.row.value.items) sound.short
    c.if-seek_row.ensures.row).value
