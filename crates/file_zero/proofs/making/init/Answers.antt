use Rattle.std.proofs.lemmas.Result.{on_ok_weaker, IfErr-weaker}
use Rattle.store_api.proofs.Moments.{Meanwhile-join}
use Rattle.law_crashes.specs.Files.{IsAtRest}
use Rattle.file_zero.specs.Making.{AreEmpty, AreBeingMade, HasBytes}
use Rattle.store_api.proofs.Looks.{Now-stays}
use Rattle.file_zero.proofs.NewFiles.{looks_made, now_empty, no_bytes, not_made_later, had_before}
use Rattle.file_zero.proofs.making.init.Goals as goal

pub returns-in_err-bytes-clause-crash : goal.returns-in_err-bytes-clause-crash
returns-in_err-bytes-clause-crash g c = looks_made (g.D.Disk.past c.args.disk.now) (g.D.Disk.past c.bytes_in.new.disk) c.bytes_in.ensures.looks

pub returns-then-bytes-gt0-clause-crash : goal.returns-then-bytes-gt0-clause-crash
returns-then-bytes-gt0-clause-crash g c = looks_made (g.D.Disk.past c.args.disk.now) (g.D.Disk.past c.bytes_in.new.disk) c.bytes_in.ensures.looks

pub returns-clause-crash : goal.returns-clause-crash
returns-clause-crash g c = λ empty.
    let past = g.D.Disk.past in
    let p0 = past c.args.disk.now in
    let p1 = past c.bytes_in.new.disk in
    Meanwhile-join AreBeingMade p0 p1 (past c.write_first.new.disk) (looks_made p0 p1 c.bytes_in.ensures.looks empty)
    (c.write_first.ensures.crash (Now-stays AreEmpty p0 p1 c.in_ok-bytes.ensures.same empty))

pub returns-clause-ok : goal.returns-clause-ok
returns-clause-ok g c =
    let past = g.D.Disk.past in
    let p0 = past c.args.disk.now in
    let p1 = past c.bytes_in.new.disk in
    on_ok_weaker c.write_first.result
    (λ new rest. new (now_empty p1 _ (g.met.D.Disk.seen_may_be_left c.bytes_in.new.disk) c.if-bytes-gt0.false c.in_ok-bytes.ensures.bytes
    (Now-stays IsAtRest p0 p1 c.in_ok-bytes.ensures.same rest)))
    c.write_first.ensures.new

pub returns-clause-refused : goal.returns-clause-refused
returns-clause-refused g c =
    let past = g.D.Disk.past in
    let p0 = past c.args.disk.now in
    let p1 = past c.bytes_in.new.disk in
    IfErr-weaker c.write_first.result _ _
    (λ why made. not_made_later p0 p1 (past c.write_first.new.disk) why c.bytes_in.ensures.later c.bytes_in.ensures.looks made) c.write_first.ensures.refused

pub returns-clause-made : goal.returns-clause-made
returns-clause-made g c =
    let p1 = g.D.Disk.past c.bytes_in.new.disk in
    on_ok_weaker c.write_first.result (λ made. made (no_bytes p1 _ c.if-bytes-gt0.false c.in_ok-bytes.ensures.bytes)) c.write_first.ensures.made

pub returns-clause-empty : goal.returns-clause-empty
returns-clause-empty g c =
    let past = g.D.Disk.past in
    let p1 = past c.bytes_in.new.disk in
    on_ok_weaker c.write_first.result
    (λ empty. had_before (HasBytes 0) (past c.args.disk.now) p1 (past c.write_first.new.disk) c.in_ok-bytes.ensures.same
    (empty (no_bytes p1 _ c.if-bytes-gt0.false c.in_ok-bytes.ensures.bytes)))
    c.write_first.ensures.empty
