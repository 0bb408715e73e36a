use Rattle.std.proofs.Common.{arith}
use Rattle.std.proofs.lemmas.Grind.{common_steps}
use Rattle.std.proofs.Common.{◌≡◌, ◌+◌, List, [], ◌∷◌, ◌++◌, take, drop, Err, ap, ◌∙◌, append_assoc, rules}
use Rattle.std.specs.Prelude.{All}
use Rattle.std.proofs.lemmas.List.Elements.{All-push}
use Rattle.key_codec.specs.Keys.{Has64Bits}
use Rattle.inno_types.specs.declared.value.Value.{Value}
use Rattle.row_codec.specs.declared.refused.RowBad.TheVariants.{Shape}
use Rattle.row_codec.proofs.Joined.{Reads-then, Reads-one, next_field, around_item, take_item}
use Rattle.row_codec.proofs.fields.fields_of.Goals as goal

pub returns-in_err-value-clause-shape : goal.returns-in_err-value-clause-shape
returns-in_err-value-clause-shape c = λ bad values rest all.
    let refused : c.in_err-value.field-0.0 ≡ Shape = search rules in
    let i = c.loop-column.column-index in
    let columns = c.args.columns.now in
    let split : columns ≡ take i columns ++ c.column-item.result ∷ drop (i + 1) columns = around_item columns i c.column-item.result c.loop-column-test.true c.column-item.is in
    let so_far = c.loop-column.invariant.read in
    let field = next_field (take i columns) c.column-item.result (drop (i + 1) columns) c.args.bytes.now c.loop-column.rest.now rest so_far.0 values so_far.2 (rw split at all) in
    c.in_err-value.ensures.shape (ap Err refused) field.0 field.1 field.2 field.3

pub loop-column-preserved : goal.loop-column-preserved
loop-column-preserved c =
    let i = c.loop-column.column-index in
    let columns = c.args.columns.now in
    let column = c.column-item.result in
    let value = c.in_ok-value.value in
    let so_far = c.loop-column.invariant.read in
    let one = Reads-one column value c.loop-column.rest.now c.in_ok-value.behind.now c.in_ok-value.ensures.found.0 c.in_ok-value.ensures.found.1 in
    let more : take (i + 1) columns ≡ take i columns ++ column ∷ [] = take_item columns i column c.loop-column-test.true c.column-item.is in
    let pushed : c.push.new.self.items ≡ c.args.row.now.items ++ (so_far.0 ++ value ∷ []) = c.in_ok-push.ensures.items ∙ ap (λ (l : List Value). l ++ value ∷ []) so_far.1 ∙ append_assoc c.args.row.now.items so_far.0 (value ∷ []) in
    let range : All Has64Bits c.args.row.now.items → All Has64Bits c.push.new.self.items =
    λ old. rw c.in_ok-push.ensures.items (All-push Has64Bits c.loop-column.row.items value (c.loop-column.invariant.range old) c.in_ok-value.ensures.range) in
    record { read = (so_far.0 ++ value ∷ [], pushed, rw more (Reads-then (take i columns) (column ∷ []) c.args.bytes.now c.loop-column.rest.now c.in_ok-value.behind.now so_far.0 (value ∷ []) so_far.2 one)); range = range }

pub returns-clause-found : goal.returns-clause-found
returns-clause-found c = grind (arith, common_steps) steps 2000000
