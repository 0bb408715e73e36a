use Rattle.std.proofs.Common.{◌≡◌, ℕ, List, ◌^◌, ◌<◌, Err, ap, rules}
use Rattle.std.proofs.lemmas.Result.{err_from_is_err_and}
use Rattle.store_api.specs.declared.answers.Version.{Version}
use Rattle.row_codec.specs.declared.read.Head.{Head}
use Rattle.row_codec.specs.declared.refused.RowBad.TheVariants.{Shape}
use Rattle.row_codec.specs.Heads.{IsHeadOf, version_head}
use Rattle.row_codec.specs.Rows.{IsVersion}
use Rattle.row_codec.proofs.Once.{same_version}
use Rattle.row_codec.proofs.Parts.{or_no_memory}
use Rattle.row_codec.proofs.Stored.{stored_row, record_from}
use Rattle.row_codec.proofs.read.decode.Goals as goal

pub returns-in_default-clause-shape : goal.returns-in_default-clause-shape
returns-in_default-clause-shape c = λ bad version is.
    let none : (head : Head) (fields : List ℕ) → IsHeadOf head fields c.args.value.now → ⊥ = search rules in
    none (version_head version) _ is.value_is

pub returns-in_default-clause-back : goal.returns-in_default-clause-back
returns-in_default-clause-back c = λ version fits is.
    let none : (head : Head) (fields : List ℕ) → IsHeadOf head fields c.args.value.now → ⊥ = search rules in
    absurd (none (version_head version) _ is.value_is)

pub returns-in_err-row-clause-shape : goal.returns-in_err-row-clause-shape
returns-in_err-row-clause-shape c = λ bad version is.
    let refused : c.in_err-row.field-0.0 ≡ Shape = search rules in
    let head : IsHeadOf c.in-Some.head c.in-Some.fields.now c.args.value.now = search rules in
    c.in_err-row.ensures.shape (ap Err refused) version.row
    (stored_row c.args.schema.now version c.args.key.now c.args.value.now _ _ _ c.in-Some.fields.now head is)

pub returns-in_err-row-clause-back : goal.returns-in_err-row-clause-back
returns-in_err-row-clause-back c = λ version fits is.
    let head : IsHeadOf c.in-Some.head c.in-Some.fields.now c.args.value.now = search rules in
    let stored = stored_row c.args.schema.now version c.args.key.now c.args.value.now _ _ _ c.in-Some.fields.now head is in
    let p = err_from_is_err_and c.from_residual.result c.from_residual.ensures.1 in
    rw (p.1, p.2) (or_no_memory c.in_err-row.field-0.0 version (λ refused. c.in_err-row.ensures.shape (ap Err refused) version.row stored))

pub returns-clause-range : goal.returns-clause-range
returns-clause-range c =
    let writer : c.in-Some.head.writer < 2 ^ 64 = search rules in
    let pointer : c.in-Some.head.pointer < 2 ^ 64 = search rules in
    record { writer = writer; pointer = pointer; row = c.in_ok-row.ensures.range }

pub returns-clause-back : goal.returns-clause-back
returns-clause-back c = λ version fits is.
    let h = c.in-Some.head in
    let schema = c.args.schema.now in
    let head : IsHeadOf h c.in-Some.fields.now c.args.value.now = search rules in
    let read : Version = record { row = c.in_ok-row.row; writer = h.writer; pointer = h.pointer; marked = h.marked } in
    let in_range : IsVersion read = returns-clause-range c in
    same_version schema read version c.args.key.now c.args.value.now in_range fits
    (record_from schema read c.args.key.now c.args.value.now c.in-Some.fields.now head c.in_ok-row.ensures.found) is
