use Rattle.std.proofs.Common.{◌≡◌, ℕ, ◌++◌, [], ◌∷◌, List, length, true, false, ap, ◌∙◌, arith, vec_capacity}
use Rattle.inno_db.specs.declared.change.Change.{Change}
use Rattle.log_format.specs.Group.{record_bytes}
use Rattle.law_crashes.specs.Records.{record_of}
use Rattle.commit_log.specs.DraftsView.{DraftView, with_change}
use Rattle.commit_log.specs.Drafted.{drafted}
use Rattle.commit_log.proofs.DraftSpelling.{kept, drafted_is, count_is, added, grown, as_view}
use Rattle.commit_log.proofs.draft.Draft.add.Goals as goal

pub push_reserved-requires : goal.push_reserved-requires
push_reserved-requires c =
    let i = c.self.inside in
    let changes = drafted (length i.starts.items) i.bytes.items in
    let ready : i.ready ≡ true = ap (λ (v : DraftView). v.ready) c.self.view_is ∙ c.requires.ready in
    let room = c.self.invariant.room ready in
    let count = count_is changes i.bytes.items i.starts.items i.ready i.promised (vec_capacity i.bytes) (vec_capacity i.starts) c.self.invariant in
    omega (arith, room.starts_fit, count, i.starts.ok.0)

pub invariant_of-self : goal.invariant_of-self
invariant_of-self c =
    let i = c.self.inside in
    let changes = drafted (length i.starts.items) i.bytes.items in
    let ready : i.ready ≡ true = ap (λ (v : DraftView). v.ready) c.self.view_is ∙ c.requires.ready in
    let bytes = c.put_change_reserved.new.out in
    let starts = c.push_reserved.new.starts in
    let more = added changes i.bytes.items i.starts.items i.ready i.promised (vec_capacity i.bytes) (vec_capacity i.starts) c.self.invariant
    c.args.change.now ready c.requires.has (vec_capacity bytes) (vec_capacity starts) in
    let place : starts.items ≡ i.starts.items ++ length i.bytes.items ∷ [] =
    c.push_reserved.ensures.items ∙ ap (λ (n : ℕ). i.starts.items ++ n ∷ []) (c.len-start.ensures ∙ i.bytes.ok.0) in
    kept (c.args.change.now ∷ changes) bytes.items starts.items false i.promised (vec_capacity bytes) (vec_capacity starts)
    (grown (c.args.change.now ∷ changes) (i.bytes.items ++ record_bytes (record_of c.args.change.now)) (i.starts.items ++ length i.bytes.items ∷ [])
    false i.promised (vec_capacity bytes) (vec_capacity starts) more
    bytes.items starts.items (vec_capacity bytes) (vec_capacity starts) c.put_change_reserved.ensures.items place (omega arith) (omega arith))

pub returns : goal.returns
returns c =
    let i = c.self.inside in
    let changes = drafted (length i.starts.items) i.bytes.items in
    let ready : i.ready ≡ true = ap (λ (v : DraftView). v.ready) c.self.view_is ∙ c.requires.ready in
    let bytes = c.put_change_reserved.new.out in
    let starts = c.push_reserved.new.starts in
    let more = added changes i.bytes.items i.starts.items i.ready i.promised (vec_capacity i.bytes) (vec_capacity i.starts) c.self.invariant
    c.args.change.now ready c.requires.has (vec_capacity bytes) (vec_capacity starts) in
    let place : starts.items ≡ i.starts.items ++ length i.bytes.items ∷ [] =
    c.push_reserved.ensures.items ∙ ap (λ (n : ℕ). i.starts.items ++ n ∷ []) (c.len-start.ensures ∙ i.bytes.ok.0) in
    ap (λ (l : List Change). as_view l false i.promised)
    (drafted_is (c.args.change.now ∷ changes) bytes.items starts.items false i.promised (vec_capacity bytes) (vec_capacity starts)
    (grown (c.args.change.now ∷ changes) (i.bytes.items ++ record_bytes (record_of c.args.change.now)) (i.starts.items ++ length i.bytes.items ∷ [])
    false i.promised (vec_capacity bytes) (vec_capacity starts) more
    bytes.items starts.items (vec_capacity bytes) (vec_capacity starts) c.put_change_reserved.ensures.items place (omega arith) (omega arith)))
    ∙ ap (λ (v : DraftView). with_change c.args.change.now v) c.self.view_is
