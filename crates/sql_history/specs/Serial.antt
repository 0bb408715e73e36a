-- One transaction after another: what the committed transactions answer where each is run alone, in the order of their
-- commits. Lists stand newest first.
use Rattle.std.specs.Prelude.{◌≡◌, ◌≢◌, ◌⊎◌, ℕ, ◌==◌, List, [], ◌∷◌, Bool, true, false, not, if◌then◌else◌, filter, Option, Some, None, bytes_eq}
use Rattle.inno_types.specs.declared.lock.Level.TheVariants.{Serializable}
use Rattle.inno_types.specs.declared.reply.Item.{Item}
use Rattle.inno_types.specs.declared.reply.Item.TheVariants.{Sql}
use Rattle.inno_types.specs.declared.reply.Reply.{Reply}
use Rattle.inno_types.specs.declared.reply.Reply.TheVariants.{Done, Count, Rows}
use Rattle.inno_types.specs.declared.stmt.Stmt.{Stmt}
use Rattle.inno_types.specs.declared.stmt.Stmt.TheVariants as stmt
use Rattle.inno_db.specs.Database.{Database}
use Rattle.inno_db.specs.Changes.{apply}
use Rattle.inno_db.specs.Outcome.{outcome}
use Rattle.inno_model.specs.declared.event.Event.{Event}
use Rattle.inno_model.specs.declared.event.Event.TheVariants.{Begin, Started, Ended, Committed}
use Rattle.inno_model.specs.Past.{did, begins_txn, under_way, opening, commits, db_after}
use Rattle.sql_history.specs.Items.{Language, Asks}
use Rattle.sql_history.specs.Settings.{IfOwn}
use Rattle.sql_history.specs.Statements.{is_on_rows}

-- a piece of a transaction's work: a statement with its reply, where that is known, or a savepoint
pub data Piece : Type 0 where
  ran : Stmt → Option Reply → Piece
  kept : List ℕ → Piece

-- ---- what a transaction has done

abbrev pub is_kept_as : List ℕ → Piece → Bool
is_kept_as name (Piece.ran statement reply) = false
is_kept_as name (Piece.kept other) = bytes_eq other name

-- the pieces up to the savepoint of this name
abbrev pub pieces_to : List ℕ → List Piece → List Piece
pieces_to name [] = []
pieces_to name (piece ∷ pieces) = if is_kept_as name piece then piece ∷ pieces else pieces_to name pieces

-- a statement on rows counts where it answered rows or a count
abbrev pub with_answer : Stmt → Reply → List Piece → List Piece
with_answer statement (Rows rows) pieces = Piece.ran statement (Some (Rows rows)) ∷ pieces
with_answer statement (Count n) pieces = Piece.ran statement (Some (Count n)) ∷ pieces
with_answer statement other pieces = pieces

-- a savepoint takes the place of an older one of its name, and ROLLBACK TO drops what came behind it
abbrev pub with_item : Stmt → Reply → List Piece → List Piece
with_item (stmt.Savepoint name) Done pieces = Piece.kept name ∷ filter (λ piece. not (is_kept_as name piece)) pieces
with_item (stmt.RollbackTo name) Done pieces = pieces_to name pieces
with_item statement reply pieces = if is_on_rows statement then with_answer statement reply pieces else pieces

abbrev pub DoesStatement : Language → List ℕ → Reply → List Piece → List Piece → Type 0
DoesStatement says text reply before after = (statement : Stmt) × says text statement × (after ≡ with_item statement reply before)

abbrev pub DoesItem : Language → Option Item → Reply → List Piece → List Piece → Type 0
DoesItem says (Some (Sql text)) Done before after = DoesStatement says text Done before after
DoesItem says (Some (Sql text)) (Count n) before after = DoesStatement says text (Count n) before after
DoesItem says (Some (Sql text)) (Rows rows) before after = DoesStatement says text (Rows rows) before after
DoesItem says item reply before after = after ≡ before

-- what the session's last transaction has done in items that have ended
abbrev pub HasDone : Language → ℕ → List Event → List Piece → Type 0
HasDone says s [] pieces = pieces ≡ []
HasDone says s (Begin t n l ∷ past) pieces = IfOwn (t == s) (pieces ≡ []) (HasDone says s past pieces)
HasDone says s (Ended t j reply ∷ past) pieces =
    IfOwn (t == s) ((before : List Piece) × HasDone says s past before × DoesItem says (under_way s past) reply before pieces) (HasDone says s past pieces)
HasDone says s (other ∷ past) pieces = HasDone says s past pieces

-- a reply that is compared; an item that stopped, or was broken off behind its commit, has none
abbrev pub compared : Option Reply → Option Reply
compared (Some Done) = Some Done
compared (Some (Count n)) = Some (Count n)
compared (Some (Rows rows)) = Some (Rows rows)
compared other = None

-- What a transaction has done at its commit. An item that began it and commits it is the last piece, and its reply comes
-- later.
abbrev pub HasWorked : Language → ℕ → Option Reply → List Event → List Piece → Type 0
HasWorked says s later past work =
    (pieces : List Piece) × HasDone says s past pieces
    × (((did begins_txn s past ≡ true) × ((statement : Stmt) × Asks says s statement past × (work ≡ Piece.ran statement (compared later) ∷ pieces)))
    ⊎ ((did begins_txn s past ≡ false) × (work ≡ pieces)))

-- ---- all transactions

-- the replies that come later, with one more or without
abbrev pub with_later : ℕ → Option Reply → (ℕ → Option Reply) → ℕ → Option Reply
with_later s reply later t = if t == s then reply else later t

-- the work of each committed transaction; of each session, the reply that its item under way is given later
abbrev pub AreWorks : Language → (ℕ → Option Reply) → List Event → List (List Piece) → Type 0
AreWorks says later [] works = works ≡ []
AreWorks says later (Ended s j reply ∷ past) works = AreWorks says (with_later s (Some reply) later) past works
AreWorks says later (Started s j item ∷ past) works = AreWorks says (with_later s None later) past works
AreWorks says later (Committed s ∷ past) works =
    (work : List Piece) × (before : List (List Piece)) × HasWorked says s (later s) past work × AreWorks says later past before × (works ≡ work ∷ before)
AreWorks says later (other ∷ past) works = AreWorks says later past works

-- ---- alone

abbrev pub after_piece : Database → Piece → Database
after_piece db (Piece.ran statement reply) = apply db (outcome statement db).changes
after_piece db (Piece.kept name) = db

abbrev pub after_work : Database → List Piece → Database
after_work db [] = db
after_work db (piece ∷ pieces) = after_piece (after_work db pieces) piece

-- the database after these transactions, each run alone
abbrev pub alone : Database → List (List Piece) → Database
alone db [] = db
alone db (work ∷ works) = after_work (alone db works) work

-- the piece's reply is that of its statement over the database
abbrev pub AnswersOver : Database → Piece → Type 0
AnswersOver db (Piece.ran statement (Some reply)) = reply ≡ (outcome statement db).reply
AnswersOver db other = Unit {0}

abbrev pub WorkAnswers : Database → List Piece → Type 0
WorkAnswers db [] = Unit {0}
WorkAnswers db (piece ∷ pieces) = WorkAnswers db pieces × AnswersOver (after_work db pieces) piece

abbrev pub WorksAnswer : Database → List (List Piece) → Type 0
WorksAnswer db [] = Unit {0}
WorksAnswer db (work ∷ works) = WorksAnswer db works × WorkAnswers (alone db works) work

-- The history answers as its committed transactions do alone, and leaves the database that they leave.
pub record AnswersAsAlone (says : Language) (past : List Event) : Type 0 where
  pub works : List (List Piece)
  pub are : AreWorks says (λ s. None) past works
  pub answers : WorksAnswer (opening past) works
  pub ends : alone (opening past) works ≡ db_after (commits past) past

-- ---- the premise

-- no other session has started anything
abbrev pub IsUnstarted : List Event → Type 0
IsUnstarted [] = Unit {0}
IsUnstarted (Started s j item ∷ past) = (s ≡ 0) × IsUnstarted past
IsUnstarted (other ∷ past) = IsUnstarted past

-- each transaction but those of the setup part is serializable
abbrev pub IsSerializable : List Event → Type 0
IsSerializable [] = Unit {0}
IsSerializable (Begin s n l ∷ past) = (s ≢ 0 → l ≡ Serializable) × IsSerializable past
IsSerializable (other ∷ past) = IsSerializable past

-- The setup part, session 0, starts its items while no other session has started any, and has ended them all when another
-- does.
abbrev pub IsSetUp : List Event → Type 0
IsSetUp [] = Unit {0}
IsSetUp (Started s j item ∷ past) = (s ≡ 0 → IsUnstarted past) × (s ≢ 0 → under_way 0 past ≡ None) × IsSetUp past
IsSetUp (other ∷ past) = IsSetUp past
