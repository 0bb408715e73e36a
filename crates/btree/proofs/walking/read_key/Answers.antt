use Rattle.std.proofs.Common.{inr, sym, subst}
use Rattle.std.proofs.lemmas.Result.{on_ok_weaker, IfErr-weaker}
use Rattle.store_api.specs.declared.visits.Visit.{Visit}
use Rattle.btree.specs.Reads.{StopsAt}
use Rattle.btree.specs.Walks.{HasRow}
use Rattle.btree.proofs.Shown.{key_shown, row_shown}
use Rattle.btree.proofs.Steps.{asked_one, shown_bytes}
use Rattle.btree.proofs.walking.read_key.Goals as goal

pub returns-clause-key : goal.returns-clause-key
returns-clause-key g c =
    let looked = asked_one c.args.spot.page _ _ _ c.bytes.follows.holds-at-none in
    on_ok_weaker c.copy_key-read.result (λ has told.
    key_shown c.in_ok-bytes.bytes.now ((g.M.Mtr.state c.args.m.now).standing c.args.spot.page)
    (shown_bytes c.args.spot.page c.in_ok-bytes.bytes.now _ _ _ c.requires.idle looked c.give_up.ensures c.in_ok-bytes.ensures.shown told) c.args.tree.key_len
    c.args.spot.place c.copy_key-read.new.key.items has) c.copy_key-read.ensures.key

pub returns-clause-reason : goal.returns-clause-reason
returns-clause-reason g c =
    let looked = asked_one c.args.spot.page _ _ _ c.bytes.follows.holds-at-none in
    IfErr-weaker c.copy_key-read.result _ _ (λ why refused.
    subst (λ (v : Visit). StopsAt c.args.spot.page (HasRow c.args.tree c.args.spot.place) (g.M.Mtr.state c.args.m.now) (g.M.Mtr.state c.give_up.new.self) v)
    (sym refused.0)
    (λ told. inr (λ readable. refused.1 (row_shown c.in_ok-bytes.bytes.now ((g.M.Mtr.state c.args.m.now).standing c.args.spot.page)
    (shown_bytes c.args.spot.page c.in_ok-bytes.bytes.now _ _ _ c.requires.idle looked c.give_up.ensures c.in_ok-bytes.ensures.shown told) c.args.tree
    c.args.spot.place readable)))) c.copy_key-read.ensures.refused
