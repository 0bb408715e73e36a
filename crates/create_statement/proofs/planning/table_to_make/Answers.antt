use Rattle.std.proofs.Common.{◌≡◌, false, rules}
use Rattle.inno_db.specs.Declarations.{schema_declared}
use Rattle.create_statement.specs.Making.{is_there}
use Rattle.create_statement.proofs.Tables.{makes_if_declared}
use Rattle.create_statement.proofs.planning.table_to_make.Goals as goal

pub returns : goal.returns
returns c =
    let absent : is_there c.args.schemas.now c.args.stmt.now ≡ false = search rules in
    let declared : c.in_ok-ok.field-0 ≡ schema_declared c.in-CreateTable.table c.in-CreateTable.definitions = search rules in
    makes_if_declared c.args.schemas.now c.args.stmt.now c.in-CreateTable.table c.in-CreateTable.if_not_exists c.in-CreateTable.definitions
    c.in_ok-ok.field-0 c.in-CreateTable.is
    (c.is_refused.ensures c.if-is_refused.false) absent declared
