use Rattle.std.proofs.Common.{subst, inl}
use Rattle.row_changes.proofs.Awaited.{awaits_then, awaits_at, as_before}
use Rattle.std.specs.Prelude.{Err}
use Rattle.law_stored_rows.specs.Edits.{clustered_index}
use Rattle.row_changes.specs.Records.{Decodes}
use Rattle.row_changes.proofs.Awaited.{stays_if, fetch_keeps, fetch_delays, delay_hinders}
use Rattle.row_changes.proofs.Changing.{looked_up, looked_up_none, not_decoded, hindered, at_once}
use Rattle.row_changes.proofs.record_change.RecordChange.find.Goals as goal

abbrev pub returns-in-End-clause-changes : goal.returns-in-End-clause-changes
returns-in-End-clause-changes g c =
    c.missed.ensures.changes _
    (looked_up_none _ _ _ _ c.requires.changing c.fetch.new.into.items c.requires.stage
    (g.met.W.EngineWorld.never_delays c.fetch.new.self) (rw c.index.ensures at (rw c.in-End.is at c.fetch.ensures.answer)))

abbrev pub missed-requires : goal.missed-requires
missed-requires g c =
    record {
      missing = (
        _,
        looked_up_none _ _ _ _ c.requires.changing c.fetch.new.into.items c.requires.stage
            (g.met.W.EngineWorld.never_delays c.fetch.new.self) (rw c.index.ensures at (rw c.in-End.is at c.fetch.ensures.answer)),
      );
    }

pub returns-in-End-clause-awaits : goal.returns-in-End-clause-awaits
returns-in-End-clause-awaits g c =
    let answer = (rw c.index.ensures at (rw c.in-End.is at c.fetch.ensures.answer)).index_is in
    awaits_then (awaits_at (clustered_index c.args.self.now.table) _ _ _ answer (as_before _ _ answer.here.1).1) c.missed.ensures.awaits

abbrev pub returns-in_default-fetch-clause-changes : goal.returns-in_default-fetch-clause-changes
returns-in_default-fetch-clause-changes g c =
    let answer = rw c.index.ensures at c.fetch.ensures.answer in
    let here = answer.index_is.here in
    let kept = fetch_keeps _ _ _ _ _ _ here in
    hindered _ _ _ _ c.requires.changing _ (stays_if answer kept)
    (inl (at_once kept.0 (delay_hinders _ _ _ _ (fetch_delays _ _ _ _ _ _ here c.in_default-fetch.not-Done c.in_default-fetch.not-End))))

abbrev pub returns-in-Ok-decoded-clause-changes : goal.returns-in-Ok-decoded-clause-changes
returns-in-Ok-decoded-clause-changes g c =
    rw (c.found.ensures, c.from_vec.ensures)
    (looked_up _ _ _ _ c.requires.changing _ c.fetch.new.into.items c.requires.stage (rw c.index.ensures at (rw c.in-Done.is at c.fetch.ensures.answer))
    (λ schema there. rw c.deref.ensures.value at ((rw c.in-Ok-decoded.is at c.decoded.ensures) schema there)))

abbrev pub returns-in-Err-clause-changes : goal.returns-in-Err-clause-changes
returns-in-Err-clause-changes g c =
    not_decoded _ _ _ _ c.requires.changing _ c.fetch.new.into.items (rw c.index.ensures at (rw c.in-Done.is at c.fetch.ensures.answer))
    (λ schema there. subst (λ value. Decodes schema c.args.self.now.key value (Err c.in-Err.why)) c.deref.ensures.value
    ((rw c.in-Err.is at c.decoded.ensures) schema there))
