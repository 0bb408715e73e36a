use Rattle.std.proofs.Common.{inr, sym, subst}
use Rattle.std.proofs.lemmas.Result.{IfOk-weaker, IfErr-weaker}
use Rattle.store_api.specs.declared.visits.Visit.{Visit}
use Rattle.btree.specs.Descents.{IsReadable}
use Rattle.btree.specs.Reads.{StopsAt}
use Rattle.btree.proofs.Shown.{leads_shown, readable_shown}
use Rattle.btree.proofs.Steps.{asked_one, shown_bytes}
use Rattle.btree.proofs.descent.step_down.Goals as goal

pub returns-clause-leads : goal.returns-clause-leads
returns-clause-leads g c =
    let looked = asked_one c.args.page _ _ _ c.bytes.follows.holds-at-none in
    IfOk-weaker c.way_down-led.result _ _ (λ down leads told.
    leads_shown c.in_ok-bytes.bytes.now ((g.M.Mtr.state c.args.m.now).standing c.args.page)
    (shown_bytes c.args.page c.in_ok-bytes.bytes.now _ _ _ c.requires looked c.give_up.ensures c.in_ok-bytes.ensures.shown told) c.args.tree c.args.key.now
    down leads) c.way_down-led.ensures.leads

pub returns-clause-reason : goal.returns-clause-reason
returns-clause-reason g c =
    let looked = asked_one c.args.page _ _ _ c.bytes.follows.holds-at-none in
    IfErr-weaker c.way_down-led.result _ _ (λ why refused.
    subst (λ (v : Visit). StopsAt c.args.page (IsReadable c.args.tree) (g.M.Mtr.state c.args.m.now) (g.M.Mtr.state c.give_up.new.self) v) (sym refused.0)
    (λ told. inr (λ readable. refused.1 (readable_shown c.in_ok-bytes.bytes.now ((g.M.Mtr.state c.args.m.now).standing c.args.page)
    (shown_bytes c.args.page c.in_ok-bytes.bytes.now _ _ _ c.requires looked c.give_up.ensures c.in_ok-bytes.ensures.shown told) c.args.tree readable))))
    c.way_down-led.ensures.refused
