use Rattle.std.proofs.Common.{ap, [], false}
use Rattle.std.proofs.Common.{List, vec_capacity}
use Rattle.inno_db.specs.declared.change.Change.{Change}
use Rattle.commit_log.proofs.DraftSpelling.{kept, drafted_is, empty_draft, as_view}
use Rattle.commit_log.proofs.draft.Draft.new.Goals as goal

pub invariant_of-result : goal.invariant_of-result
invariant_of-result c =
    let bytes = c.new.result in
    let starts = c.new-2.result in
    kept [] bytes.items starts.items false 0 (vec_capacity bytes) (vec_capacity starts)
    (empty_draft bytes.items starts.items (vec_capacity bytes) (vec_capacity starts) c.new.ensures.items c.new-2.ensures.items)

pub returns : goal.returns
returns c =
    let bytes = c.new.result in
    let starts = c.new-2.result in
    ap (λ (l : List Change). as_view l false 0)
    (drafted_is [] bytes.items starts.items false 0 0 0 (empty_draft bytes.items starts.items 0 0 c.new.ensures.items c.new-2.ensures.items))
