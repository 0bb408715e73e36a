use Rattle.std.proofs.Common.{refl, Some}
use Rattle.row_changes.proofs.{Keying.marked_on, Keying.mark_hindered, Keying.may_mark}
use Rattle.row_changes.proofs.keys_change.KeysChange.mark.Goals as goal

abbrev pub step-requires : goal.step-requires
step-requires g c =
    let p = c.requires.changing.2 in
    may_mark _ _ _ (g.W.World.state c.args.world.now) _ p (record { which = c.args.which; old = Some c.args.mark.entry; new = c.args.new }) c.args.mark.entry c.requires.none
    (c.requires.entries p.schema p.table.there) refl c.args.mark c.requires.index

abbrev pub returns-in-Ok-clause-changes : goal.returns-in-Ok-clause-changes
returns-in-Ok-clause-changes g c = λ chains beside p.
    rw (c.next.ensures, c.requires.index)
    (marked_on _ _ _ _ _ p (record { which = c.args.which; old = Some c.args.mark.entry; new = c.args.new }) c.args.mark.entry c.requires.none
    (c.requires.entries p.schema p.table.there) refl (rw c.requires.index at c.in-Ok.ensures.marks))

abbrev pub returns-clause-changes : goal.returns-clause-changes
returns-clause-changes g c = λ chains beside p.
    let h = c.in-Err.ensures.marks in
    mark_hindered _ _ _ _ _ p (record { which = c.args.which; old = Some c.args.mark.entry; new = c.args.new }) c.args.mark.entry c.requires.none
    (c.requires.entries p.schema p.table.there) refl _ _ _ c.requires.index h.0 h.2
