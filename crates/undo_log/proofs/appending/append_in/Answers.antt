use Rattle.std.proofs.Common.{ℕ, ◌+◌, length, ap, arith}
use Rattle.undo_log.proofs.Appended.{asked, early, full, appends}
use Rattle.undo_log.proofs.appending.append_in.Goals as goal

pub returns-then-from-lt-FIRST_RECORD-clause-reason : goal.returns-then-from-lt-FIRST_RECORD-clause-reason
returns-then-from-lt-FIRST_RECORD-clause-reason g c =
    early c.args.page c.read_u16-end.result c.in_ok-bytes.bytes.now _ _ (asked c.args.page _ _ _ c.bytes.follows.holds-at-none) c.in_ok-bytes.ensures.shown
    c.read_u16-end.ensures (omega (arith, c.from.ensures, c.if-from-lt-FIRST_RECORD.true))

pub returns-then-new_end-gt-PAGE-clause-reason : goal.returns-then-new_end-gt-PAGE-clause-reason
returns-then-new_end-gt-PAGE-clause-reason g c =
    full c.args.page c.read_u16-end.result c.in_ok-bytes.bytes.now c.args.record.now _ _ (asked c.args.page _ _ _ c.bytes.follows.holds-at-none)
    c.in_ok-bytes.ensures.shown c.read_u16-end.ensures (omega (arith, c.from-2.ensures, c.if-new_end-gt-PAGE.true))

pub returns-clause-appended : goal.returns-clause-appended
returns-clause-appended g c =
    appends c.args.page c.read_u16-end.result _ c.in_ok-bytes.bytes.now c.args.record.now c.u16_bytes.result _ _ _ _ c.requires.some
    (asked c.args.page _ _ _ c.bytes.follows.holds-at-none) c.in_ok-bytes.ensures.shown c.read_u16-end.ensures
    (omega (arith, c.from.ensures, c.if-from-lt-FIRST_RECORD.false)) (omega (arith, c.from-2.ensures, c.if-new_end-gt-PAGE.false))
    c.in_ok-put.ensures.put c.in_ok-put-2.ensures.put c.u16_bytes.ensures (ap (λ (k : ℕ). k + length c.args.record.now) c.from-2.ensures)
