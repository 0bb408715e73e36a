use Rattle.std.proofs.Common.{refl, subst}
use Rattle.std.proofs.lemmas.Result.{err_from_is_err_and}
use Rattle.btree.proofs.Steps.{asked_one}
use Rattle.btree_change.specs.Edits.{IsPlace}
use Rattle.btree_change.proofs.InLeaf.{Finds, leaf_within, leaf_some, not_refused, is_present, is_crowded, lacks_room, is_added}
use Rattle.btree_change.proofs.Steps.{asked_visited, looked_touches, touches_then}
use Rattle.btree_change.proofs.leaf_changes.insert_in.Goals as goal

pub returns-in_err-find_in-clause-touches : goal.returns-in_err-find_in-clause-touches
returns-in_err-find_in-clause-touches g c = looked_touches c.args.leaf _ _ (asked_one c.args.leaf _ _ _ c.bytes.follows.holds-at-none)

pub returns-in_err-find_in-clause-reason : goal.returns-in_err-find_in-clause-reason
returns-in_err-find_in-clause-reason g c =
    let looked = asked_one c.args.leaf _ _ _ c.bytes.follows.holds-at-none in
    let p = err_from_is_err_and c.from_residual-in_err-find_in.result c.from_residual-in_err-find_in.ensures.1 in
    rw (p.1, p.2)
    (not_refused c.args.tree c.args.leaf c.args.key.now c.in_ok-bytes.bytes.now _ _ c.requires.key c.requires.leaf looked c.in_ok-bytes.ensures.shown
    c.in_err-find_in.field-0.0 c.in_err-find_in.ensures.refused)

pub returns-then-not-has_room-clause-touches : goal.returns-then-not-has_room-clause-touches
returns-then-not-has_room-clause-touches g c = looked_touches c.args.leaf _ _ (asked_one c.args.leaf _ _ _ c.bytes.follows.holds-at-none)

pub returns-then-not-has_room-clause-done : goal.returns-then-not-has_room-clause-done
returns-then-not-has_room-clause-done g c = λ told.
    let looked = asked_one c.args.leaf _ _ _ c.bytes.follows.holds-at-none in
    is_crowded c.args.tree c.args.leaf c.args.key.now c.in_ok-bytes.bytes.now _ _ c.requires.key c.requires.leaf looked c.in_ok-bytes.ensures.shown
    told c.in-Before.i (subst (Finds c.args.tree c.args.key.now c.in_ok-bytes.bytes.now) c.in-Before.is c.in_ok-find_in.ensures.found) c.if-not-has_room.ensures

pub returns-then-not-has_room-clause-room : goal.returns-then-not-has_room-clause-room
returns-then-not-has_room-clause-room g c = λ told.
    let looked = asked_one c.args.leaf _ _ _ c.bytes.follows.holds-at-none in
    lacks_room c.args.tree c.args.leaf c.args.key.now c.in_ok-bytes.bytes.now _ _ c.requires.key c.requires.leaf looked c.in_ok-bytes.ensures.shown
    told c.if-not-has_room.ensures

pub put_edit-requires-clause-dealt_with : goal.put_edit-requires-clause-dealt_with
put_edit-requires-clause-dealt_with g c = asked_visited c.args.leaf _ _ c.bytes.result _ c.in_ok-bytes.was c.bytes.follows.holds-at-none

pub put_edit-requires-clause-within : goal.put_edit-requires-clause-within
put_edit-requires-clause-within g c =
    let looked = asked_one c.args.leaf _ _ _ c.bytes.follows.holds-at-none in
    leaf_within c.args.tree c.args.leaf c.args.key.now c.in_ok-bytes.bytes.now _ _ c.requires.key c.requires.leaf looked c.in_ok-bytes.ensures.shown

pub put_edit-requires-clause-some : goal.put_edit-requires-clause-some
put_edit-requires-clause-some g c =
    let looked = asked_one c.args.leaf _ _ _ c.bytes.follows.holds-at-none in
    leaf_some c.args.tree c.args.leaf c.args.key.now c.in_ok-bytes.bytes.now _ _ c.requires.key c.requires.leaf looked c.in_ok-bytes.ensures.shown

pub returns-in_err-put_edit-in-Before-clause-touches : goal.returns-in_err-put_edit-in-Before-clause-touches
returns-in_err-put_edit-in-Before-clause-touches g c =
    let looked = asked_one c.args.leaf _ _ _ c.bytes.follows.holds-at-none in
    touches_then c.args.leaf _ _ _ (looked_touches c.args.leaf _ _ looked) c.in_err-put_edit-in-Before.ensures.touches

pub returns-in_ok-put_edit-in-Before-clause-touches : goal.returns-in_ok-put_edit-in-Before-clause-touches
returns-in_ok-put_edit-in-Before-clause-touches g c =
    let looked = asked_one c.args.leaf _ _ _ c.bytes.follows.holds-at-none in
    touches_then c.args.leaf _ _ _ (looked_touches c.args.leaf _ _ looked) c.in_ok-put_edit-in-Before.ensures.touches

pub returns-in-At-clause-touches : goal.returns-in-At-clause-touches
returns-in-At-clause-touches g c = looked_touches c.args.leaf _ _ (asked_one c.args.leaf _ _ _ c.bytes.follows.holds-at-none)

pub returns-in-At-clause-done : goal.returns-in-At-clause-done
returns-in-At-clause-done g c = λ told.
    let looked = asked_one c.args.leaf _ _ _ c.bytes.follows.holds-at-none in
    let there =
    is_present c.args.tree c.args.leaf c.args.key.now c.in_ok-bytes.bytes.now _ _ c.requires.key c.requires.leaf looked c.in_ok-bytes.ensures.shown
    told c.in-At.field-0 (subst (Finds c.args.tree c.args.key.now c.in_ok-bytes.bytes.now) c.in-At.is c.in_ok-find_in.ensures.found) in
    (there, (looked.same told).seen)

pub returns-in_ok-put_edit-in-Before-clause-done : goal.returns-in_ok-put_edit-in-Before-clause-done
returns-in_ok-put_edit-in-Before-clause-done g c = λ told.
    let looked = asked_one c.args.leaf _ _ _ c.bytes.follows.holds-at-none in
    let found = subst (Finds c.args.tree c.args.key.now c.in_ok-bytes.bytes.now) c.in-Before.is c.in_ok-find_in.ensures.found in
    let place = subst (IsPlace c.in_ok-bytes.bytes.now) c.in-Before.is c.in_ok-find_in.ensures.within in
    is_added c.args.tree c.args.leaf c.args.key.now c.in_ok-bytes.bytes.now _ _ c.requires.key c.requires.leaf looked c.in_ok-bytes.ensures.shown
    _ told _ c.in_ok-put_edit-in-Before.ensures.put c.args.value.now c.in-Before.i c.insertion-edit.result refl c.in_ok-find_in.ensures.readable
    found place c.requires.value c.if-not-has_room.ensures c.insertion-edit.ensures
