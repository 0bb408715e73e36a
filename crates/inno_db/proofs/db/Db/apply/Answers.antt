use Rattle.std.proofs.Common.{◌<◌, ◌++◌, ◌∷◌, [], List, ◌∙◌, length, ap, sym, subst}
use Rattle.inno_types.specs.declared.value.Schema.{Schema}
use Rattle.inno_db.specs.declared.change.Change.TheVariants.{Create, Put, Remove}
use Rattle.inno_db.specs.declared.limits.TheConstants.{MOST_TABLES}
use Rattle.inno_db.specs.Changes.{apply_one}
use Rattle.inno_db.specs.Database.{Database, database_of, IsInOrder}
use Rattle.inno_db.specs.Keeping.{CanApply}
use Rattle.inno_db.proofs.Kept.{IsChangedBy, changed_by_put, changed_by_remove, IsInOrder-more, database_of-more}
use Rattle.inno_db.proofs.db.Db.apply.Goals as goal
use Rattle.inno_db.proofs.db.Db.apply.Goals.{In_ok-add_table-in-Create, In_ok-put-in-Put, After-remove}

few : (c : In_ok-add_table-in-Create) → length c.self.inside.schemas < MOST_TABLES
few c =
    let can : length c.args.self.now.schemas < MOST_TABLES = subst (CanApply c.args.self.now) c.in-Create.is c.requires in
    subst (λ (d : Database). length d.schemas < MOST_TABLES) (sym c.self.view_is) can

put_is : (c : In_ok-put-in-Put) → IsChangedBy c.self.inside.schemas c.self.inside.tables.items c.put.new.tables.items (Put c.from-table.result c.in-Put.row)
put_is c =
    let can : c.in-Put.table < length c.args.self.now.schemas = subst (CanApply c.args.self.now) c.in-Put.is c.requires in
    let here : c.in-Put.table < length c.self.inside.schemas = subst (λ (d : Database). c.in-Put.table < length d.schemas) (sym c.self.view_is) can in
    changed_by_put c.self.inside.schemas c.self.inside.tables.items c.put.new.tables.items c.from-table.result c.in-Put.row c.self.invariant
    (subst (λ n. n < length c.self.inside.schemas) (sym c.from-table.ensures) here) c.in_ok-put-in-Put.ensures.ok

remove_is : (c : After-remove) → IsChangedBy c.self.inside.schemas c.self.inside.tables.items c.remove.new.tables.items (Remove c.from-table-in-Remove.result c.in-Remove.key)
remove_is c =
    let can : c.in-Remove.table < length c.args.self.now.schemas = subst (CanApply c.args.self.now) c.in-Remove.is c.requires in
    let here : c.in-Remove.table < length c.self.inside.schemas = subst (λ (d : Database). c.in-Remove.table < length d.schemas) (sym c.self.view_is) can in
    changed_by_remove c.self.inside.schemas c.self.inside.tables.items c.remove.new.tables.items c.from-table-in-Remove.result c.in-Remove.key c.self.invariant
    (subst (λ n. n < length c.self.inside.schemas) (sym c.from-table-in-Remove.ensures) here) c.remove.ensures

pub invariant_of-self-in-Create : goal.invariant_of-self-in-Create
invariant_of-self-in-Create c =
    let made = c.in_ok-add_table-in-Create.ensures.ok in
    subst (λ (ss : List Schema). IsInOrder ss c.add_table.new.tables.items) (sym made.0)
    (subst (IsInOrder (c.self.inside.schemas ++ c.in-Create.schema ∷ [])) (sym made.1)
    (IsInOrder-more c.self.inside.schemas c.self.inside.tables.items c.in-Create.schema (few c) c.self.invariant))

pub invariant_of-self-in-Put : goal.invariant_of-self-in-Put
invariant_of-self-in-Put c = (put_is c).order

pub invariant_of-self-in-Remove : goal.invariant_of-self-in-Remove
invariant_of-self-in-Remove c = (remove_is c).order

pub returns-in_ok-add_table-in-Create-clause-ok : goal.returns-in_ok-add_table-in-Create-clause-ok
returns-in_ok-add_table-in-Create-clause-ok c =
    let made = c.in_ok-add_table-in-Create.ensures.ok in
    ap (λ (ss : List Schema). database_of ss c.add_table.new.tables.items) made.0
    ∙ ap (database_of (c.self.inside.schemas ++ c.in-Create.schema ∷ [])) made.1
    ∙ database_of-more c.self.inside.schemas c.self.inside.tables.items c.in-Create.schema c.self.invariant
    ∙ ap (λ (d : Database). apply_one d (Create c.in-Create.schema)) c.self.view_is
    ∙ ap (apply_one c.args.self.now) (sym c.in-Create.is)

pub returns-in_ok-put-in-Put-clause-ok : goal.returns-in_ok-put-in-Put-clause-ok
returns-in_ok-put-in-Put-clause-ok c =
    (put_is c).database
    ∙ ap (λ (d : Database). apply_one d (Put c.from-table.result c.in-Put.row)) c.self.view_is
    ∙ ap (λ n. apply_one c.args.self.now (Put n c.in-Put.row)) c.from-table.ensures
    ∙ ap (apply_one c.args.self.now) (sym c.in-Put.is)

pub returns-in-Remove-clause-ok : goal.returns-in-Remove-clause-ok
returns-in-Remove-clause-ok c =
    (remove_is c).database
    ∙ ap (λ (d : Database). apply_one d (Remove c.from-table-in-Remove.result c.in-Remove.key)) c.self.view_is
    ∙ ap (λ n. apply_one c.args.self.now (Remove n c.in-Remove.key)) c.from-table-in-Remove.ensures
    ∙ ap (apply_one c.args.self.now) (sym c.in-Remove.is)
