use Rattle.std.proofs.Common.{◌≡◌, ℕ, List, ◌∷◌, ◌++◌, length, Err, sym, ap, ◌∙◌, length-append, arith, rules}
use Rattle.std.proofs.lemmas.List.{take-append-drop}
use Rattle.row_codec.specs.declared.refused.RowBad.TheVariants.{Shape}
use Rattle.row_codec.specs.Rows.{field_code}
use Rattle.row_codec.proofs.Parts.{same_fronts, length-field_code}
use Rattle.row_codec.proofs.fields.field_of.Goals as goal

pub returns-then-behind-len-clause-shape : goal.returns-then-behind-len-clause-shape
returns-then-behind-len-clause-shape c = λ _ value rest fits e.
    let split : c.args.bytes.now ≡ c.in-Some.flag.now ∷ c.in-Some.behind.now = search rules in
    omega (arith, ap length e, ap length split, length-append (field_code c.args.column.now.kind value) rest, length-field_code c.args.column.now value fits)

pub returns-in_err-value-clause-shape : goal.returns-in_err-value-clause-shape
returns-in_err-value-clause-shape c = λ bad value rest fits e.
    let split : c.args.bytes.now ≡ c.in-Some.flag.now ∷ c.in-Some.behind.now = search rules in
    let refused : c.in_err-value.field-0.0 ≡ Shape = search rules in
    let body = c.split_at.result.0.now in
    let body_length : length body ≡ c.key_len-len.result = search rules in
    let joined : body ++ c.split_at.result.1.now ≡ c.in-Some.behind.now =
    rw (c.split_at.ensures.front, c.split_at.ensures.back) (take-append-drop c.key_len-len.result c.in-Some.behind.now) in
    let whole : (c.in-Some.flag.now ∷ body) ++ c.split_at.result.1.now ≡ field_code c.args.column.now.kind value ++ rest =
    ap (λ (l : List ℕ). c.in-Some.flag.now ∷ l) joined ∙ sym split ∙ e in
    let parts = same_fronts (c.in-Some.flag.now ∷ body) (field_code c.args.column.now.kind value) c.split_at.result.1.now rest
    (omega (arith, body_length, length-field_code c.args.column.now value fits)) whole in
    c.in_err-value.ensures.shape (ap Err refused) value fits parts.0
