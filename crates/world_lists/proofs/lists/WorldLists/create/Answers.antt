use Rattle.world_lists.proofs.lists.WorldLists.create.Goals as goal
use Rattle.world_lists.proofs.{Calls.its_work, Made.has_txn, Made.has_id, Made.few_ids, Made.table_kept, Made.table_adds, Made.table_unset, Made.table_rows}

pub add_table-requires-clause-may : goal.add_table-requires-clause-may
add_table-requires-clause-may g c = its_work c.args.session c.self.invariant c.self.view_is c.requires.joined c.requires.is_open

pub give_first_id-requires-clause-there : goal.give_first_id-requires-clause-there
give_first_id-requires-clause-there g c = has_txn c.args.session c.self.invariant c.self.view_is c.in_ok-add_table.ensures.ok c.txn_of-txn.ensures

pub give_first_id-requires-clause-id : goal.give_first_id-requires-clause-id
give_first_id-requires-clause-id g c =
    has_id c.args.session c.self.invariant c.self.view_is c.in_ok-add_table.ensures.ok c.txn_of-txn.ensures c.session-id.ensures

pub give_first_id-requires-clause-few : goal.give_first_id-requires-clause-few
give_first_id-requires-clause-few g c = few_ids c.args.session c.self.invariant c.self.view_is c.in_ok-add_table.ensures.ok c.txn_of-txn.ensures

pub invariant_of-self-2 : goal.invariant_of-self-2
invariant_of-self-2 g c =
    table_kept c.args.session c.self.invariant c.self.view_is c.in_ok-add_table.ensures.ok c.txn_of-txn.ensures c.session-id.ensures
    c.give_first_id.ensures.first c.give_first_id.ensures.later c.requires.locked c.requires.idle (g.met.W.EngineWorld.never_delays c.self.inside.world).told
    (g.met.W.EngineWorld.never_delays c.give_first_id.new.world).told c.requires.storable c.is_short.ensures.few c.requires.first

pub returns-clause-ok : goal.returns-clause-ok
returns-clause-ok g c =
    table_adds c.args.session c.self.invariant c.self.view_is c.in_ok-add_table.ensures.ok c.txn_of-txn.ensures c.session-id.ensures
    c.give_first_id.ensures.first c.give_first_id.ensures.later c.requires.locked c.requires.idle

pub returns-clause-settings : goal.returns-clause-settings
returns-clause-settings g c =
    table_unset c.args.session c.self.invariant c.self.view_is c.in_ok-add_table.ensures.ok c.txn_of-txn.ensures c.session-id.ensures
    c.give_first_id.ensures.first c.give_first_id.ensures.later

pub returns-clause-rows : goal.returns-clause-rows
returns-clause-rows g c =
    table_rows c.args.session c.self.invariant c.self.view_is c.in_ok-add_table.ensures.ok c.txn_of-txn.ensures c.session-id.ensures
    c.give_first_id.ensures.first c.give_first_id.ensures.later
