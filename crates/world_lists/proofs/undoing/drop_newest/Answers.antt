use Rattle.std.proofs.Common.{◌≤◌, sym, subst}
use Rattle.store_api.specs.declared.answers.Standing.{Standing}
use Rattle.world_lists.proofs.undoing.drop_newest.Goals as goal

pub overflow_sub-keep : goal.overflow_sub-keep
overflow_sub-keep g c =
    let has = c.requires.logged in
    subst (λ (standing : Standing). 1 ≤ standing.own) (sym (c.session-keep.ensures has.0 has.2.session_is)) (c.requires.counts has.0 has.2.session_is)
