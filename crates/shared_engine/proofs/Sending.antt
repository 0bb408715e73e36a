-- A shared engine may go from thread to thread: no part of it names a thread. The checker knows it of the types that reach no
-- tree of a condition or an expression; for the others each step here looks at the parts of one type.
use denote.RattleType.{RattleType}
use denote.Param.Send.{IsSend, sendable, enum_send, struct_send, recorded_send, view_send, plain_send}
use denote.Enum.Declared as enums
use denote.Struct.Declared as structs
use Rattle.std.proofs.Crossing.{crosses}
use Rattle.inno_types.proofs.stmt.Filter.TheLaws.TheKnot.{send-Filter}
use Rattle.inno_types.proofs.stmt.Expr.TheLaws.TheKnot.{send-Expr}
use Rattle.inno_db.proofs.change.Change.TheSendSync as change-sent
use Rattle.inno_types.specs.contracts.stmt.Filter as filter
use Rattle.inno_types.specs.contracts.stmt.Expr as expr
use Rattle.inno_types.specs.contracts.stmt.Set as assignment
use Rattle.inno_types.specs.contracts.stmt.Stmt as stmt
use Rattle.store_api.specs.declared.disk.Disk as disk
use Rattle.durable_engine.specs.declared.root.Root as root
use Rattle.shared_lists.specs.declared.shared_lists.SharedLists as lists
use Rattle.durable_engine.proofs.stopped.StoppedSessions.TheSendSync as stopped-sent
use Rattle.commit_log.proofs.commit_log.CommitLog.TheSendSync as log-sent
use Rattle.transaction_statements.specs.contracts.statement.TransactionStatement as transaction
use Rattle.create_statement.specs.contracts.machine.CreateStatement as creation
use Rattle.read_statement.specs.contracts.machine.ReadStatement as reading
use Rattle.giving_up.proofs.leaving.Leaving.TheSendSync as leaving-sent
use Rattle.write_statement.specs.contracts.machine.WriteStatement as writing
use Rattle.statement.specs.contracts.under_way.Statement as statement
use Rattle.sql_lists.proofs.lists.SqlLists.TheSendSync as sql-sent
use Rattle.session_engine.specs.contracts.machine.SessionEngine as sessions
use Rattle.durable_engine.specs.contracts.logged.LoggedSessions as logged
use Rattle.durable_engine.specs.contracts.engine.DurableEngine as engine
use Rattle.shared_engine.proofs.patience.Patience.TheSendSync as patience-sent
use Rattle.shared_engine.specs.contracts.engine.SharedEngine as shared

-- ---- statements

filter_part : IsSend (filter.the_field).row
filter_part = search (sendable, crosses, send-Filter) depth 60 fits 100000

filter_sends : IsSend filter.the_row
filter_sends = recorded_send (filter.the_field).row _ _ (filter.the_type).to_one filter_part

expr_part : IsSend (expr.the_field).row
expr_part = search (sendable, crosses, send-Expr) depth 60 fits 100000

set_part : IsSend (assignment.the_field).row
set_part = struct_send (structs.shape assignment.the_type) (search (sendable, crosses) depth 60, (expr_part, tt))

set_sends : IsSend assignment.the_row
set_sends = recorded_send (assignment.the_field).row _ _ (assignment.the_type).to_one set_part

stmt_part : IsSend (stmt.the_field).row
stmt_part = enum_send (enums.shape stmt.the_type) (search (sendable, crosses, filter_sends, set_sends) depth 60 fits 100000)

-- ---- the machines of statements

transaction_part : IsSend (transaction.the_field).row
transaction_part = enum_send (enums.shape transaction.the_type) (search (sendable, crosses, stmt_part) depth 60 fits 100000)

creation_part : IsSend (creation.the_field).row
creation_part = enum_send (enums.shape creation.the_type) (search (sendable, crosses, stmt_part) depth 60 fits 100000)

reading_part : IsSend (reading.the_field).row
reading_part = enum_send (enums.shape reading.the_type) (search (sendable, crosses, stmt_part, leaving-sent.the_field_send) depth 60 fits 100000)

writing_part : IsSend (writing.the_field).row
writing_part = enum_send (enums.shape writing.the_type)
    (search (sendable, crosses, stmt_part, leaving-sent.the_field_send, change-sent.the_send) depth 60 fits 100000)

statement_part : IsSend (statement.the_field).row
statement_part = enum_send (enums.shape statement.the_type)
    (search (sendable, crosses, stmt_part, transaction_part, creation_part, reading_part, writing_part) depth 60 fits 100000)

-- ---- the engine

module _ (L : RattleType) (h : lists.Ghosts L.Denot) (sends : IsSend L) where
  sessions_send : IsSend (sessions.the_row L h)
  sessions_send = search (sendable, crosses, sql-sent.the_send, statement_part) depth 60 fits 100000

  logged_sends : IsSend (logged.the_row L h)
  logged_sends = search (sendable, crosses, sessions_send, log-sent.the_send) depth 60 fits 100000

  module _ (D B : RattleType) (d : disk.Ghosts D.Denot) (b : root.Ghosts B.Denot) (disk_sends : IsSend D) (root_sends : IsSend B) where
    engine_sends : IsSend (engine.the_row D B L d b h)
    engine_sends = search (sendable, crosses, logged_sends, stopped-sent.the_send) depth 60 fits 100000

    pub shared_sends : IsSend (shared.the_row D B L d b h)
    shared_sends = search (sendable, engine_sends, patience-sent.the_send) depth 60 fits 100000
