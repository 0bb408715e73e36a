use Rattle.world_lists.proofs.Changing.{edit_within, edit_keyed, change_kept, change_begins}
use Rattle.world_lists.proofs.steps.WorldListsSharedLists.begin_change.Goals as goal

pub bounds-as_slice-table : goal.bounds-as_slice-table
bounds-as_slice-table g c =
    edit_within c.args.session c.self.invariant c.self.view_is c.requires.locked c.requires.fits c.in-Some.table c.in-Some.edit c.in-Some.ensures.some
    c.as_slice.ensures c.tables.ensures

pub key_of_edit-requires : goal.key_of_edit-requires
key_of_edit-requires g c =
    edit_keyed c.args.session c.self.invariant c.self.view_is c.requires.locked c.requires.fits c.in-Some.table c.in-Some.edit c.in-Some.ensures.some
    c.as_slice.ensures c.tables.ensures c.index-as_slice-table.is

pub invariant_of-self : goal.invariant_of-self
invariant_of-self g c =
    change_kept c.args.session c.self.invariant c.self.view_is c.requires.locked c.requires.fits c.in-Some.table c.in-Some.edit c.in-Some.ensures.some
    c.as_slice.ensures c.tables.ensures c.index-as_slice-table.is c.requires.idle c.in_ok-key.key c.in_ok-key.ensures c.in_ok-change.ensures
    c.give_doing.ensures (g.met.W.EngineWorld.never_delays c.self.inside.world).told c.requires.is_open

pub returns : goal.returns
returns g c =
    let begins = change_begins c.args.session c.self.invariant c.self.view_is c.requires.locked c.requires.fits c.in-Some.table c.in-Some.edit
    c.in-Some.ensures.some c.as_slice.ensures c.tables.ensures c.index-as_slice-table.is c.requires.idle c.in_ok-key.key c.in_ok-key.ensures
    c.in_ok-change.ensures c.give_doing.ensures c.requires.joined in
    record {
      ok = begins.turns;
      changing = begins.changing;
      asked = begins.asked_is;
      few = begins.few;
      err = record {};
      settings = begins.settings;
      rows = begins.rows;
    }
