use Rattle.std.proofs.Common.{◌<◌, ◌∙◌, [], length, ap, sym, arith}
use Rattle.std.proofs.lemmas.List.{get_or_read}
use Rattle.inno_db.specs.Database.{Database, rows_of}
use Rattle.inno_db.proofs.Tables.{rows_of-database}
use Rattle.inno_db.proofs.db.Db.rows.Goals as goal

pub returns : goal.returns
returns c =
    let db = c.self.inside in
    let schemas = ap (λ (d : Database). length d.schemas) c.self.view_is in
    let within : c.args.table < length db.tables.items = omega (arith, c.requires, c.self.invariant.as_many, schemas) in
    get_or_read db.tables.items c.args.table c.index.result.now within c.index.ensures []
    ∙ sym (rows_of-database c.args.table db.schemas db.tables.items c.self.invariant)
    ∙ ap (rows_of c.args.table) c.self.view_is
