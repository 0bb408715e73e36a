use Rattle.std.proofs.Common.{◌∙◌, ℕ, ◌+◌, ◌-◌, take, drop, ap, arith}
use Rattle.key_codec.specs.Keys.{key_width}
use Rattle.secondary.proofs.Standing.{found_at}
use Rattle.secondary.proofs.fields.field_at.Goals as goal

pub returns-then-value-end : goal.returns-then-value-end
returns-then-value-end c = λ head row long is parts.
    let start = 17 + c.others_len-start.result in
    let at = ap (λ (n : ℕ). 17 + n) (rw c.from.ensures at c.others_len-start.ensures.len) in
    let found = found_at head c.args.primary c.args.place start c.args.columns.now row c.args.value.now long is c.requires.there c.requires.other at parts in
    omega (arith, found.whole, c.if-value-end.true, c.key_len.ensures.width, ap key_width c.column_kind.ensures)

pub returns : goal.returns
returns c = λ head row long is parts.
    let start = 17 + c.others_len-start.result in
    let at = ap (λ (n : ℕ). 17 + n) (rw c.from.ensures at c.others_len-start.ensures.len) in
    let found = found_at head c.args.primary c.args.place start c.args.columns.now row c.args.value.now long is c.requires.there c.requires.other at parts in
    ap (λ (n : ℕ). take (start + 1 + n - start) (drop start c.args.value.now)) (c.key_len.ensures.width ∙ ap key_width c.column_kind.ensures) ∙ found.field
