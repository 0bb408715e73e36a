use Rattle.std.proofs.Common.{◌≡◌, ℕ, ◌+◌, ◌<◌, List, length, sym, ◌∙◌, ap, subst, arith}
use Rattle.log_format.specs.declared.group.Group.{Group}
use Rattle.log_format.specs.Group.{group_bytes, IsSpelled}
use Rattle.redo_log.specs.Bodies.{IsOf}
use Rattle.redo_log.proofs.Spare.{length_is}
use Rattle.redo_log.proofs.body.put_body_as.Goals as goal

pub returns-in_err-put_head_as-in-Spelled-clause-full : goal.returns-in_err-put_head_as-in-Spelled-clause-full
returns-in_err-put_head_as-in-Spelled-clause-full c = λ room rs is small fits.
    let g : Group = record { lsn = c.args.lsn; records = rs } in
    let spelled : IsSpelled rs c.in-Spelled.count c.in-Spelled.records.now = subst (IsOf rs) c.in-Spelled.is is in
    let long : 14 + length c.in-Spelled.records.now ≡ length (group_bytes g) = ap (λ (l : List ℕ). 14 + length l) spelled.spelled ∙ sym (length_is g) in
    let short : room < length (group_bytes g) = subst (λ (n : ℕ). room < n) long (c.in_err-put_head_as-in-Spelled.ensures.full room small fits) in
    grind (arith, short)
