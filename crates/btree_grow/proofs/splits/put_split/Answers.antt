use Rattle.std.proofs.Common.{◌≡◌, ◌+◌, ◌++◌, length, sym, ◌∙◌, ap, subst, length-append, arith}
use Rattle.std.proofs.lemmas.Result.{on_ok_weaker}
use Rattle.page_format.specs.Words.{record_len_of}
use Rattle.btree_change.specs.Edits.{IsInsertion}
use Rattle.btree_grow.specs.Going.{GoesOn}
use Rattle.btree_grow.proofs.PutHalves.{fence_long, entry_width, one_on, three_on, child_within, parent_within, splits}
use Rattle.btree_grow.proofs.splits.put_split.Goals as goal

pub insertion-entry-requires-clause-some : goal.insertion-entry-requires-clause-some
insertion-entry-requires-clause-some g c =
    omega (
      arith,
      ap length c.key_at-fence.ensures,
      fence_long c.args.tree c.args.bytes.now c.args.cut.middle c.requires.size c.requires.laid_out c.requires.middle.1,
      c.requires.some,
    )

pub insertion-entry-requires-clause-width : goal.insertion-entry-requires-clause-width
insertion-entry-requires-clause-width g c =
    entry_width c.args.tree c.args.above.now _ _ _ c.requires.above_laid_out.width c.requires.inner
    (ap length c.key_at-fence.ensures ∙ fence_long c.args.tree c.args.bytes.now c.args.cut.middle c.requires.size c.requires.laid_out c.requires.middle.1)
    (ap length c.u32_bytes.ensures)

pub put_image-requires-2-clause-within : goal.put_image-requires-2-clause-within
put_image-requires-2-clause-within g c =
    child_within c.args.tree c.args.cut c.args.number c.args.above.now c.args.bytes.now c.key_at-fence.result.now c.lower_half-lower.result
    c.upper_half-upper.result c.insertion-entry.result
    (g.M.Mtr.state c.args.m.now) (g.M.Mtr.state c.put_image.new.m) c.requires.cut c.in_ok-put_image.ensures.put

pub returns-in_err-put_image-2-clause-goes_on : goal.returns-in_err-put_image-2-clause-goes_on
returns-in_err-put_image-2-clause-goes_on g c =
    subst (λ s. GoesOn 0 (g.M.Mtr.state c.args.m.now) s) (sym c.in_err-put_image-2.ensures.refused)
    (one_on c.args.tree c.args.cut c.args.number c.args.above.now c.args.bytes.now c.key_at-fence.result.now c.lower_half-lower.result
    c.upper_half-upper.result c.insertion-entry.result
    (g.M.Mtr.state c.args.m.now) (g.M.Mtr.state c.put_image.new.m) c.requires.cut c.in_ok-put_image.ensures.put)

pub put_edit-requires-clause-within : goal.put_edit-requires-clause-within
put_edit-requires-clause-within g c =
    parent_within c.args.tree c.args.cut c.args.number c.args.above.now c.args.bytes.now c.key_at-fence.result.now c.lower_half-lower.result
    c.upper_half-upper.result c.insertion-entry.result
    (g.M.Mtr.state c.args.m.now) (g.M.Mtr.state c.put_image.new.m) c.requires.cut c.in_ok-put_image.ensures.put
    (g.M.Mtr.state c.put_image-2.new.m) c.in_ok-put_image-2.ensures.put

pub returns-clause-goes_on : goal.returns-clause-goes_on
returns-clause-goes_on g c =
    three_on c.args.tree c.args.cut c.args.number c.args.above.now c.args.bytes.now c.key_at-fence.result.now c.lower_half-lower.result
    c.upper_half-upper.result c.insertion-entry.result
    (g.M.Mtr.state c.args.m.now) (g.M.Mtr.state c.put_image.new.m) c.requires.cut c.in_ok-put_image.ensures.put
    (g.M.Mtr.state c.put_image-2.new.m) c.in_ok-put_image-2.ensures.put
    (g.M.Mtr.state c.put_edit.new.m)
    c.requires.parent_dealt_with c.put_edit.ensures.touches

pub returns-clause-splits : goal.returns-clause-splits
returns-clause-splits g c =
    let long =
    ap length c.key_at-fence.ensures ∙ fence_long c.args.tree c.args.bytes.now c.args.cut.middle c.requires.size c.requires.laid_out c.requires.middle.1 in
    let short = ap length c.u32_bytes.ensures in
    let wide =
    length-append c.key_at-fence.result.now c.u32_bytes.result
    ∙ entry_width c.args.tree c.args.above.now _ _ _ c.requires.above_laid_out.width c.requires.inner long short in
    on_ok_weaker c.put_edit.result (λ put.
    splits c.args.tree c.args.cut c.args.number c.args.above.now c.args.bytes.now c.key_at-fence.result.now c.lower_half-lower.result
    c.upper_half-upper.result c.insertion-entry.result
    (g.M.Mtr.state c.args.m.now) (g.M.Mtr.state c.put_image.new.m) c.requires.cut c.in_ok-put_image.ensures.put
    (g.M.Mtr.state c.put_image-2.new.m) c.in_ok-put_image-2.ensures.put
    (g.M.Mtr.state c.put_edit.new.m) put
    (omega arith) (omega arith) c.requires.size c.requires.laid_out c.requires.middle c.key_at-fence.ensures c.lower_half-lower.ensures
    c.upper_half-upper.ensures
    c.ranges.number.fits c.requires.above_laid_out
    (subst (λ l. length (c.key_at-fence.result.now ++ l) ≡ record_len_of c.args.above.now) c.u32_bytes.ensures wide)
    c.requires.place c.requires.room (subst (λ l. IsInsertion (c.args.cut.place + 1)
    (c.key_at-fence.result.now ++ l) c.args.above.now c.insertion-entry.result) c.u32_bytes.ensures c.insertion-entry.ensures))
    c.put_edit.ensures.put
