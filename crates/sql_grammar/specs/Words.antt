-- The key words of SQL, and how each is spelled. A key word is read in any case of letters.
use Rattle.std.specs.Prelude.{ℕ, List, [], ◌∷◌, Option, Some, None, codes, map, if◌then◌else◌}
use Rattle.std.specs.Char.{to_ascii_uppercase}
use Rattle.std.specs.Str.{bytes_eq}
use Rattle.sql_grammar.specs.declared.token.Word.{Word}
use Rattle.sql_grammar.specs.declared.token.Word.TheVariants.{And, Between, BigInt, Create, Delete, Exists, For, From, If, In, Index, Insert, Into, Is, Key, Lock, Not, Null, Or, Primary, Select, Set, Table, To, Update, Values, VarBinary, Where, With, Autocommit, Begin, Commit, Committed, Consistent, Engine, InnoDb, Isolation, Level, Mode, Off, On, Read, Repeatable, Rollback, Savepoint, Serializable, Session, Share, Snapshot, Start, Transaction, Uncommitted, Value, Work}

-- the word in capital letters
abbrev pub spelling : Word → List ℕ
spelling And = codes "AND"
spelling Between = codes "BETWEEN"
spelling BigInt = codes "BIGINT"
spelling Create = codes "CREATE"
spelling Delete = codes "DELETE"
spelling Exists = codes "EXISTS"
spelling For = codes "FOR"
spelling From = codes "FROM"
spelling If = codes "IF"
spelling In = codes "IN"
spelling Index = codes "INDEX"
spelling Insert = codes "INSERT"
spelling Into = codes "INTO"
spelling Is = codes "IS"
spelling Key = codes "KEY"
spelling Lock = codes "LOCK"
spelling Not = codes "NOT"
spelling Null = codes "NULL"
spelling Or = codes "OR"
spelling Primary = codes "PRIMARY"
spelling Select = codes "SELECT"
spelling Set = codes "SET"
spelling Table = codes "TABLE"
spelling To = codes "TO"
spelling Update = codes "UPDATE"
spelling Values = codes "VALUES"
spelling VarBinary = codes "VARBINARY"
spelling Where = codes "WHERE"
spelling With = codes "WITH"
spelling Autocommit = codes "AUTOCOMMIT"
spelling Begin = codes "BEGIN"
spelling Commit = codes "COMMIT"
spelling Committed = codes "COMMITTED"
spelling Consistent = codes "CONSISTENT"
spelling Engine = codes "ENGINE"
spelling InnoDb = codes "INNODB"
spelling Isolation = codes "ISOLATION"
spelling Level = codes "LEVEL"
spelling Mode = codes "MODE"
spelling Off = codes "OFF"
spelling On = codes "ON"
spelling Read = codes "READ"
spelling Repeatable = codes "REPEATABLE"
spelling Rollback = codes "ROLLBACK"
spelling Savepoint = codes "SAVEPOINT"
spelling Serializable = codes "SERIALIZABLE"
spelling Session = codes "SESSION"
spelling Share = codes "SHARE"
spelling Snapshot = codes "SNAPSHOT"
spelling Start = codes "START"
spelling Transaction = codes "TRANSACTION"
spelling Uncommitted = codes "UNCOMMITTED"
spelling Value = codes "VALUE"
spelling Work = codes "WORK"

-- the words that must be quoted to be names
abbrev pub reserved : List Word
reserved = And ∷ Between ∷ BigInt ∷ Create ∷ Delete ∷ Exists ∷ For ∷ From ∷ If ∷ In ∷ Index ∷ Insert ∷ Into ∷ Is ∷ Key ∷ Lock ∷ Not ∷ Null ∷ Or ∷ Primary ∷ Select ∷ Set ∷ Table ∷ To ∷ Update ∷ Values ∷ VarBinary ∷ Where ∷ With ∷ []

-- the words that have a meaning in their place, and may be names elsewhere
abbrev pub others : List Word
others = Autocommit ∷ Begin ∷ Commit ∷ Committed ∷ Consistent ∷ Engine ∷ InnoDb ∷ Isolation ∷ Level ∷ Mode ∷ Off ∷ On ∷ Read ∷ Repeatable ∷ Rollback ∷ Savepoint ∷ Serializable ∷ Session ∷ Share ∷ Snapshot ∷ Start ∷ Transaction ∷ Uncommitted ∷ Value ∷ Work ∷ []

-- the one of these words that is spelled so in capital letters
abbrev pub word_among : List Word → List ℕ → Option Word
word_among [] capitals = None
word_among (w ∷ ws) capitals = if bytes_eq capitals (spelling w) then Some w else word_among ws capitals

abbrev pub capitals : List ℕ → List ℕ
capitals bytes = map to_ascii_uppercase bytes
