use Rattle.std.proofs.Common.{◌≡◌, ℕ, ◌<◌, ◌≤◌, List, length, sym, ap, ◌∙◌, subst, arith, vec_capacity}
use Rattle.std.proofs.lemmas.Bool.Decides.{nat_tests}
use Rattle.inno_db.specs.declared.change.Change.{Change}
use Rattle.law_crashes.specs.Records.{records_of}
use Rattle.log_format.specs.Group.{IsSpelled}
use Rattle.commit_log.specs.DraftsView.{DraftView}
use Rattle.commit_log.specs.Drafted.{drafted}
use Rattle.commit_log.specs.DraftsLogging.{IsAppended}
use Rattle.commit_log.proofs.DraftSpelling.{count_is, spelled, room_promised}
use Rattle.commit_log.proofs.draft.Draft.commit.Goals as goal

pub overflow_cast-len : goal.overflow_cast-len
overflow_cast-len c =
    let i = c.self.inside in
    let changes = drafted (length i.starts.items) i.bytes.items in
    let count = count_is changes i.bytes.items i.starts.items i.ready i.promised (vec_capacity i.bytes) (vec_capacity i.starts) c.self.invariant in
    record { fits = omega (arith, count, c.self.invariant.few, c.len.ensures, i.starts.ok.0) }

pub append_reserved-requires : goal.append_reserved-requires
append_reserved-requires c =
    let i = c.self.inside in
    let changes = drafted (length i.starts.items) i.bytes.items in
    let whole = spelled changes i.bytes.items i.starts.items i.ready i.promised (vec_capacity i.bytes) (vec_capacity i.starts) c.self.invariant in
    let some : 0 < length i.starts.items = grind (arith, nat_tests, c.is_empty.ensures, c.if-is_empty.false, i.starts.ok.0) in
    let room = room_promised changes i.bytes.items i.starts.items i.ready i.promised (vec_capacity i.bytes) (vec_capacity i.starts) c.self.invariant some in
    let promised : i.promised ≡ c.args.self.now.promised = ap (λ (v : DraftView). v.promised) c.self.view_is in
    let enough : c.args.self.now.promised ≤ c.args.log.now.spare = c.requires in
    let count : length i.starts.items ≡ c.len.result = sym (c.len.ensures ∙ i.starts.ok.0) in (
      records_of changes,
      subst (λ (n : ℕ). IsSpelled (records_of changes) n c.deref.result.now) count
          (subst (λ (l : List ℕ). IsSpelled (records_of changes) (length i.starts.items) l) (sym c.deref.ensures.value) whole),
      omega (arith, room, promised, enough),
    )

pub returns-clause-some : goal.returns-clause-some
returns-clause-some c = λ some.
    let i = c.self.inside in
    let changes = drafted (length i.starts.items) i.bytes.items in
    let whole = spelled changes i.bytes.items i.starts.items i.ready i.promised (vec_capacity i.bytes) (vec_capacity i.starts) c.self.invariant in
    let count : length i.starts.items ≡ c.len.result = sym (c.len.ensures ∙ i.starts.ok.0) in
    let of =
    subst (λ (n : ℕ). IsSpelled (records_of changes) n c.deref.result.now) count
    (subst (λ (l : List ℕ). IsSpelled (records_of changes) (length i.starts.items) l) (sym c.deref.ensures.value) whole) in
    subst (λ (l : List Change). IsAppended (records_of l) c.args.log.now c.append_reserved.new.log)
    (ap (λ (v : DraftView). v.changes) c.self.view_is) (c.append_reserved.ensures (records_of changes) of)

pub returns-clause-spare : goal.returns-clause-spare
returns-clause-spare c =
    let i = c.self.inside in
    let changes = drafted (length i.starts.items) i.bytes.items in
    let whole = spelled changes i.bytes.items i.starts.items i.ready i.promised (vec_capacity i.bytes) (vec_capacity i.starts) c.self.invariant in
    let count : length i.starts.items ≡ c.len.result = sym (c.len.ensures ∙ i.starts.ok.0) in
    let of =
    subst (λ (n : ℕ). IsSpelled (records_of changes) n c.deref.result.now) count
    (subst (λ (l : List ℕ). IsSpelled (records_of changes) (length i.starts.items) l) (sym c.deref.ensures.value) whole) in
    let some : 0 < length i.starts.items = grind (arith, nat_tests, c.is_empty.ensures, c.if-is_empty.false, i.starts.ok.0) in
    let room = room_promised changes i.bytes.items i.starts.items i.ready i.promised (vec_capacity i.bytes) (vec_capacity i.starts) c.self.invariant some in
    let promised : i.promised ≡ c.args.self.now.promised = ap (λ (v : DraftView). v.promised) c.self.view_is in
    let spare = (c.append_reserved.ensures (records_of changes) of).spare in
    omega (arith, room, promised, spare)
