use Rattle.std.proofs.Common.{inr, sym, subst}
use Rattle.std.proofs.lemmas.Result.{IfOk-weaker, IfErr-weaker}
use Rattle.store_api.specs.declared.visits.Visit.{Visit}
use Rattle.btree.specs.Reads.{StopsAt}
use Rattle.btree.specs.Walks.{IsReadableLeaf}
use Rattle.btree.proofs.Shown.{begins_shown, leaf_shown}
use Rattle.btree.proofs.Steps.{asked_one, shown_bytes}
use Rattle.btree.proofs.walking.begin_on.Goals as goal

pub returns-clause-begins : goal.returns-clause-begins
returns-clause-begins g c =
    let looked = asked_one c.args.page _ _ _ c.bytes.follows.holds-at-none in
    IfOk-weaker c.begin-met.result _ _ (λ met leads told.
    begins_shown c.in_ok-bytes.bytes.now ((g.M.Mtr.state c.args.m.now).standing c.args.page)
    (shown_bytes c.args.page c.in_ok-bytes.bytes.now _ _ _ c.requires looked c.give_up.ensures c.in_ok-bytes.ensures.shown told) met leads)
    c.begin-met.ensures.begins

pub returns-clause-reason : goal.returns-clause-reason
returns-clause-reason g c =
    let looked = asked_one c.args.page _ _ _ c.bytes.follows.holds-at-none in
    IfErr-weaker c.begin-met.result _ _ (λ why refused.
    subst (λ (v : Visit). StopsAt c.args.page (IsReadableLeaf c.args.tree) (g.M.Mtr.state c.args.m.now) (g.M.Mtr.state c.give_up.new.self) v) (sym refused.0)
    (λ told. inr (λ readable. refused.1 (leaf_shown c.in_ok-bytes.bytes.now ((g.M.Mtr.state c.args.m.now).standing c.args.page)
    (shown_bytes c.args.page c.in_ok-bytes.bytes.now _ _ _ c.requires looked c.give_up.ensures c.in_ok-bytes.ensures.shown told) c.args.tree readable))))
    c.begin-met.ensures.refused
