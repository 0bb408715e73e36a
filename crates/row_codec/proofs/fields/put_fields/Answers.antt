use Rattle.std.proofs.Common.{arith}
use Rattle.std.proofs.lemmas.Grind.{common_steps}
use Rattle.std.proofs.Common.{◌≡◌, ℕ, inl, inr, List, [], ◌++◌, sym, ap, ◌∙◌}
use Rattle.std.specs.Iterator.Adapters.{zip_first, zip_second}
use Rattle.std.specs.Slice.Iter.{iter_rest}
use Rattle.std.proofs.lemmas.List.{append-nil}
use Rattle.std.proofs.lemmas.Slice.Zip.{either_empty_from_Zip}
use Rattle.inno_types.specs.declared.value.Column.{Column}
use Rattle.inno_types.specs.declared.value.Value.{Value}
use Rattle.row_codec.specs.Rows.{fields_code}
use Rattle.row_codec.proofs.Joined.{fields_code-none}
use Rattle.row_codec.proofs.fields.put_fields.Goals as goal

-- nothing is left, so what stands there is the whole
pub returns : goal.returns
returns c =
    let at = c.loop-column.column-iterator in
    let columns = iter_rest (zip_first at) in
    let row = iter_rest (zip_second at) in
    let nothing : fields_code columns row ≡ [] = elim (either_empty_from_Zip at c.next.new.self c.next.result c.in-None.is c.next.ensures.steps) [
      | inl no_columns ↦ ap (λ (l : List Column). fields_code l row) no_columns
      | inr no_row ↦ ap (λ (l : List Value). fields_code columns l) no_row ∙ fields_code-none columns
    ] in
    record { ok = sym (append-nil c.loop-column.out.items) ∙ ap (λ (l : List ℕ). c.loop-column.out.items ++ l) (sym nothing) ∙ c.loop-column.invariant.whole }

pub loop-column-preserved : goal.loop-column-preserved
loop-column-preserved c = grind (arith, common_steps) steps 2000000
