use Rattle.std.proofs.Common.{ap, [], false, List, vec_capacity}
use Rattle.inno_db.specs.declared.change.Change.{Change}
use Rattle.commit_log.proofs.DraftSpelling.{kept, drafted_is, empty_draft, as_view}
use Rattle.commit_log.proofs.draft.Draft.clear.Goals as goal

pub invariant_of-self : goal.invariant_of-self
invariant_of-self c =
    let bytes = c.clear.new.self in
    let starts = c.clear-2.new.self in
    kept [] bytes.items starts.items false 0 (vec_capacity bytes) (vec_capacity starts)
    (empty_draft bytes.items starts.items (vec_capacity bytes) (vec_capacity starts) c.clear.ensures.items c.clear-2.ensures.items)

pub returns : goal.returns
returns c =
    let bytes = c.clear.new.self in
    let starts = c.clear-2.new.self in
    ap (λ (l : List Change). as_view l false 0)
    (drafted_is [] bytes.items starts.items false 0 0 0 (empty_draft bytes.items starts.items 0 0 c.clear.ensures.items c.clear-2.ensures.items))
