use Rattle.std.proofs.Common.{ℕ, List, refl, subst}
use Rattle.std.specs.Prelude.{All}
use Rattle.log_format.specs.declared.group.Group.{Group}
use Rattle.log_format.specs.Scan.{EndsAt}
use Rattle.law_crashes.specs.RowScan.{HasRowsOnly}
use Rattle.file_zero.proofs.Stored.{block_is, reaches, has_groups}
use Rattle.file_zero.proofs.log.stored_in.Goals as goal

pub overflow_sub-result : goal.overflow_sub-result
overflow_sub-result c =
    let found = c.in_ok-groups.field-0 in
    let block = c.unwrap_or-block.result in
    let area = c.args.bytes.now in
    reaches c.args.header.run block area found.groups
    (block_is (λ (n : ℕ). EndsAt c.args.header.run n area found.groups) found.blocks block c.in_ok-groups.ensures.ends c.unwrap_or-block.ensures
    c.if-block-gt-MOST_BLOCKS.false)

pub returns-clause-groups : goal.returns-clause-groups
returns-clause-groups c =
    let found = c.in_ok-groups.field-0 in
    let block = c.unwrap_or-block.result in
    let area = c.args.bytes.now in
    let run = c.args.header.run in
    let rows = subst (λ (gs : List Group). All HasRowsOnly gs) c.as_slice.ensures (c.are_of_rows.ensures.0 c.if-not-are_of_rows.false) in
    has_groups run c.args.header.first area found.groups block _ c.in_ok-groups.ensures.groups rows
    (block_is (λ (n : ℕ). EndsAt run n area found.groups) found.blocks block c.in_ok-groups.ensures.ends c.unwrap_or-block.ensures
    c.if-block-gt-MOST_BLOCKS.false) refl
