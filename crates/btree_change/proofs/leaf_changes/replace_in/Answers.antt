use Rattle.std.proofs.Common.{◌+◌, length, refl, sym, subst, ap, arith}
use Rattle.std.proofs.lemmas.Result.{err_from_is_err_and}
use Rattle.btree.proofs.Steps.{asked_one}
use Rattle.btree_change.specs.Edits.{IsPlace}
use Rattle.btree_change.specs.Calls.{Touches}
use Rattle.btree_change.proofs.Bytes.{value_inside}
use Rattle.btree_change.proofs.InLeaf.{Finds, leaf_within, leaf_some, not_refused, is_absent, is_replaced}
use Rattle.btree_change.proofs.Steps.{asked_visited, looked_touches, touches_then, put_rewrites, rewrites_touches}
use Rattle.btree_change.proofs.leaf_changes.replace_in.Goals as goal

pub returns-in_err-i-clause-touches : goal.returns-in_err-i-clause-touches
returns-in_err-i-clause-touches g c = looked_touches c.args.leaf _ _ (asked_one c.args.leaf _ _ _ c.bytes.follows.holds-at-none)

pub returns-in_err-i-clause-reason : goal.returns-in_err-i-clause-reason
returns-in_err-i-clause-reason g c =
    let looked = asked_one c.args.leaf _ _ _ c.bytes.follows.holds-at-none in
    let p = err_from_is_err_and c.from_residual-in_err-i.result c.from_residual-in_err-i.ensures.1 in
    rw (p.1, p.2)
    (not_refused c.args.tree c.args.leaf c.args.key.now c.in_ok-bytes.bytes.now _ _ c.requires.key c.requires.leaf looked c.in_ok-bytes.ensures.shown
    c.in_err-i.field-0.0 c.in_err-i.ensures.refused)

pub overflow_cast-at : goal.overflow_cast-at
overflow_cast-at g c =
    let inside =
    value_inside c.args.tree c.in_ok-bytes.bytes.now c.args.key.now c.args.value.now c.in-At.i c.in_ok-i.ensures.readable c.requires.key c.requires.value
    (subst (IsPlace c.in_ok-bytes.bytes.now) c.in-At.is c.in_ok-i.ensures.within) in
    omega (arith, inside)

pub put-requires-clause-ends : goal.put-requires-clause-ends
put-requires-clause-ends g c =
    let inside =
    value_inside c.args.tree c.in_ok-bytes.bytes.now c.args.key.now c.args.value.now c.in-At.i c.in_ok-i.ensures.readable c.requires.key c.requires.value
    (subst (IsPlace c.in_ok-bytes.bytes.now) c.in-At.is c.in_ok-i.ensures.within) in
    omega (arith, inside)

pub put-requires-clause-dealt_with : goal.put-requires-clause-dealt_with
put-requires-clause-dealt_with g c = asked_visited c.args.leaf _ _ c.bytes.result _ c.in_ok-bytes.was c.bytes.follows.holds-at-none

pub put-requires-clause-within : goal.put-requires-clause-within
put-requires-clause-within g c =
    let looked = asked_one c.args.leaf _ _ _ c.bytes.follows.holds-at-none in
    leaf_within c.args.tree c.args.leaf c.args.key.now c.in_ok-bytes.bytes.now _ _ c.requires.key c.requires.leaf looked c.in_ok-bytes.ensures.shown

pub returns-in_ok-put-in-At-clause-touches : goal.returns-in_ok-put-in-At-clause-touches
returns-in_ok-put-in-At-clause-touches g c =
    let looked = asked_one c.args.leaf _ _ _ c.bytes.follows.holds-at-none in
    let some = leaf_some c.args.tree c.args.leaf c.args.key.now c.in_ok-bytes.bytes.now _ _ c.requires.key c.requires.leaf looked c.in_ok-bytes.ensures.shown in
    touches_then c.args.leaf _ _ _ (looked_touches c.args.leaf _ _ looked)
    (rewrites_touches c.args.leaf _ _ _ (put_rewrites c.args.leaf _ _ _ _ some c.in_ok-put-in-At.ensures.put))

pub returns-in_err-put-in-At-clause-touches : goal.returns-in_err-put-in-At-clause-touches
returns-in_err-put-in-At-clause-touches g c =
    subst (Touches c.args.leaf (g.M.Mtr.state c.args.m.now)) (sym c.in_err-put-in-At.ensures.refused)
    (looked_touches c.args.leaf _ _ (asked_one c.args.leaf _ _ _ c.bytes.follows.holds-at-none))

pub returns-in_ok-put-in-At-clause-done : goal.returns-in_ok-put-in-At-clause-done
returns-in_ok-put-in-At-clause-done g c = λ told.
    let looked = asked_one c.args.leaf _ _ _ c.bytes.follows.holds-at-none in
    let some = leaf_some c.args.tree c.args.leaf c.args.key.now c.in_ok-bytes.bytes.now _ _ c.requires.key c.requires.leaf looked c.in_ok-bytes.ensures.shown in
    let found = subst (Finds c.args.tree c.args.key.now c.in_ok-bytes.bytes.now) c.in-At.is c.in_ok-i.ensures.found in
    let place = subst (IsPlace c.in_ok-bytes.bytes.now) c.in-At.is c.in_ok-i.ensures.within in
    is_replaced c.args.tree c.args.leaf c.args.key.now c.in_ok-bytes.bytes.now _ _ c.requires.key c.requires.leaf looked c.in_ok-bytes.ensures.shown
    _ told _ (put_rewrites c.args.leaf _ _ _ _ some c.in_ok-put-in-At.ensures.put) c.args.value.now c.in-At.i _ refl
    (ap (λ k. k + length c.args.key.now) c.begin_of.ensures) c.in_ok-i.ensures.readable
    found place c.requires.value

pub returns-in-Before-clause-touches : goal.returns-in-Before-clause-touches
returns-in-Before-clause-touches g c = looked_touches c.args.leaf _ _ (asked_one c.args.leaf _ _ _ c.bytes.follows.holds-at-none)

pub returns-in-Before-clause-done : goal.returns-in-Before-clause-done
returns-in-Before-clause-done g c = λ told.
    let looked = asked_one c.args.leaf _ _ _ c.bytes.follows.holds-at-none in
    let none =
    is_absent c.args.tree c.args.leaf c.args.key.now c.in_ok-bytes.bytes.now _ _ c.requires.key c.requires.leaf looked c.in_ok-bytes.ensures.shown
    told c.in-Before.field-0 (subst (Finds c.args.tree c.args.key.now c.in_ok-bytes.bytes.now) c.in-Before.is c.in_ok-i.ensures.found) in
    (none, (looked.same told).seen)

pub returns-in_err-put-in-At-clause-reason : goal.returns-in_err-put-in-At-clause-reason
returns-in_err-put-in-At-clause-reason g c =
    let looked = asked_one c.args.leaf _ _ _ c.bytes.follows.holds-at-none in
    let p = err_from_is_err_and c.from_residual-in_err-put-in-At.result c.from_residual-in_err-put-in-At.ensures.1 in
    let inside =
    value_inside c.args.tree c.in_ok-bytes.bytes.now c.args.key.now c.args.value.now c.in-At.i c.in_ok-i.ensures.readable c.requires.key c.requires.value
    (subst (IsPlace c.in_ok-bytes.bytes.now) c.in-At.is c.in_ok-i.ensures.within) in
    let spare = looked.spare in
    rw (p.1, p.2) (omega (arith, inside, spare, c.in_err-put-in-At.ensures.memory))
