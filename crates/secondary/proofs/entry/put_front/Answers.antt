use Rattle.std.proofs.Common.{arith}
use Rattle.std.proofs.lemmas.Grind.{common_steps}
use Rattle.std.proofs.Common.{◌∙◌, List, length, ap, sym}
use Rattle.std.specs.Prelude.{slice_index_or}
use Rattle.inno_types.specs.declared.value.Column.{Column}
use Rattle.inno_types.specs.declared.value.Value.TheVariants.{Null}
use Rattle.row_codec.specs.Rows.{head_code}
use Rattle.row_codec.proofs.Parts.{length-head_code}
use Rattle.secondary.specs.Entries.{kind_at, field_in}
use Rattle.secondary.proofs.Answered.{renamed, as_many}
use Rattle.secondary.proofs.Lengths.{length-front_at}
use Rattle.secondary.proofs.Standing.{field_read}
use Rattle.secondary.proofs.entry.put_front.Goals as goal

pub returns-in-Some-clause-ok : goal.returns-in-Some-clause-ok
returns-in-Some-clause-ok c = λ version has is.
    let columns = c.as_slice-columns.ensures in
    let place = c.args.place in
    let kind = sym (c.column_kind.ensures ∙ ap (λ (l : List Column). kind_at l place) columns) in
    let found = c.in-Some.ensures (head_code version.marked version.writer version.pointer) version.row (length-head_code version.marked version.writer version.pointer) (rw columns is.fits) (rw columns is.value_is) in
    let field = field_read c.args.schema.now.columns version place c.column_kind.result c.in-Some.field.now has is.fits c.requires kind (found ∙ ap (λ (l : List Column). field_in l place version.row) columns) in
    renamed c.put_field.result c.put_field.new.out.items c.args.out.now.items _ _ (c.put_field.ensures.ok (slice_index_or version.row place Null) field.has field.field_is) field.front_is

pub returns-in-Some-clause-full : goal.returns-in-Some-clause-full
returns-in-Some-clause-full c = λ version has is.
    let columns = c.as_slice-columns.ensures in
    let place = c.args.place in
    let kind = sym (c.column_kind.ensures ∙ ap (λ (l : List Column). kind_at l place) columns) in
    let found = c.in-Some.ensures (head_code version.marked version.writer version.pointer) version.row (length-head_code version.marked version.writer version.pointer) (rw columns is.fits) (rw columns is.value_is) ∙ ap (λ (l : List Column). field_in l place version.row) columns in
    let field = field_read c.args.schema.now.columns version place c.column_kind.result c.in-Some.field.now has is.fits c.requires kind found in
    as_many c.put_field.result _ _ _ _ (c.put_field.ensures.full (slice_index_or version.row place Null) field.has field.field_is) (ap length found ∙ sym (length-front_at c.args.schema.now.columns version.row place is.fits c.requires))

pub returns-in-None-clause-ok : goal.returns-in-None-clause-ok
returns-in-None-clause-ok c = λ version has is.
    let columns = c.as_slice-columns.ensures in
    absurd (c.in-None.ensures (head_code version.marked version.writer version.pointer) version.row (length-head_code version.marked version.writer version.pointer) (rw columns is.fits) (rw columns is.value_is))

pub returns-then-place-schema-clause-ok : goal.returns-then-place-schema-clause-ok
returns-then-place-schema-clause-ok c = grind (arith, common_steps) steps 2000000
