-- How an item ends for which a text asks, and what keeps its end as it is while other sessions work.
use Rattle.std.specs.Prelude.{◌≡◌, ◌⊎◌, ℕ, Bool, true, false, List, [], Some}
use Rattle.inno_types.specs.declared.stmt.Stmt.{Stmt}
use Rattle.inno_types.specs.declared.reply.Item.TheVariants.{Sql}
use Rattle.inno_types.specs.declared.reply.Reply.{Reply}
use Rattle.inno_types.specs.declared.reply.Reply.TheVariants as replies
use Rattle.inno_model.specs.declared.event.Event.{Event}
use Rattle.inno_model.specs.Past.{under_way, of_item, did, begins_txn, commits_txn, rolls_back_txn, own, awaits_ack, IsOpen, IsClosed}
use Rattle.sql_grammar.specs.Grammar.{Spells}
use Rattle.sql_history.specs.Items.{is_over, point, own_before}
use Rattle.sql_history.specs.Settings.{Setting}
use Rattle.sql_history.specs.Statements.{is_on_rows, is_select}
use Rattle.sql_history.specs.Endings.{RollsBack}
use Rattle.sql_history.specs.Legal.{Takes, is_alone, AnswersRows, EndsRows, MadeSome, IsGivenUp, WasCommitted, IsOverfull, LacksPages, LeavesIt, CommittedFirst}
use Rattle.sql_history.specs.Waiting.{is_victim}
use Rattle.sql_lists.specs.Steps.{HasRowsAlone}

-- the item has changed nothing up to its point
abbrev pub HasMadeNone : ℕ → List Event → Type 0
HasMadeNone s past = own s (point s past) ≡ own_before s (point s past)

abbrev pub is_rows : Reply → Bool
is_rows (replies.Rows rows) = true
is_rows other = false

-- A statement on rows has this answer, and its transaction is as that leaves it.
pub record IsAnswered (s : ℕ) (kept : Reply) (past : List Event) : Type 0 where
  pub statement : Stmt
  pub on_rows : is_on_rows statement ≡ true
  pub selects : is_rows kept ≡ true → is_select statement ≡ true
  pub takes : Takes Spells s statement past
  pub answers : AnswersRows s takes.setting statement kept past
  pub ends : EndsRows s takes.setting kept past
  pub no_victim : did is_victim s past ≡ false

-- What stands behind a reply that ends an item: an answer, or why it was broken off.
abbrev pub EndsWith : ℕ → Reply → List Event → Type 0
EndsWith s (replies.Rows rows) past = IsAnswered s (replies.Rows rows) past
EndsWith s (replies.Count n) past = IsAnswered s (replies.Count n) past
EndsWith s (replies.Fail error) past = IsAnswered s (replies.Fail error) past ⊎ (LacksPages error × IsGivenUp Spells s past)
EndsWith s (replies.RunLimit rows) past = IsOverfull Spells s rows past × (IsGivenUp Spells s past ⊎ WasCommitted Spells s past)
EndsWith s replies.NoMemory past = RollsBack s past ⊎ (WasCommitted Spells s past ⊎ (CommittedFirst Spells s past ⊎ LeavesIt Spells s past))
EndsWith s other past = ⊥

-- The session's item may end with the reply now, once no commit of its awaits an acknowledgement.
pub record MayEndWith (s : ℕ) (kept given : Reply) (past : List Event) : Type 0 where
  pub same : given ≡ kept
  pub text : List ℕ
  pub item : under_way s past ≡ Some (Sql text)
  pub made : MadeSome Spells s past
  pub ends : EndsWith s kept past
  pub rows_alone : HasRowsAlone s past

-- It may later too, whatever others do meanwhile. Where rows are too many for the history by then the limit is its reply.
pub record IsClosing (s : ℕ) (kept given : Reply) (past : List Event) : Type 0 where
  pub may : MayEndWith s kept given past
  pub rests : (is_over s past ≡ true) ⊎ ((kept ≡ replies.NoMemory) × HasMadeNone s past)
  pub limited : is_rows kept ≡ true → WasCommitted Spells s past

-- how it gives up: its own transaction is to be rolled back, or the one that it works in is left as it was
abbrev pub GivesUp : Bool → Setting → ℕ → List Event → Type 0
GivesUp true setting s past = (is_alone s setting past ≡ true) × IsOpen s past × (own s past ≡ [])
GivesUp false setting s past = LeavesIt Spells s past

-- A statement on rows found no memory, and has changed nothing.
pub record IsFailed (s : ℕ) (alone : Bool) (past : List Event) : Type 0 where
  pub statement : Stmt
  pub takes : Takes Spells s statement past
  pub on_rows : is_on_rows statement ≡ true
  pub not_committed : did commits_txn s past ≡ false
  pub made : HasMadeNone s past
  pub rows_alone : HasRowsAlone s past
  pub gives : GivesUp alone takes.setting s past

-- ---- whatever the statement is

-- what was open is committed, and nothing else has been done
pub record IsEmptied (s : ℕ) (past : List Event) : Type 0 where
  pub closed : IsClosed s past
  pub new : own s past ≡ []
  pub not_begun : did begins_txn s past ≡ false
  pub not_rolled_back : did rolls_back_txn s past ≡ false
  pub made : HasMadeNone s past

-- no memory was found, and the item is to end
pub record IsGivingUp (s : ℕ) (past : List Event) : Type 0 where
  pub text : List ℕ
  pub item : under_way s past ≡ Some (Sql text)
  pub acked : awaits_ack (of_item s past) ≡ false
  pub leaves : CommittedFirst Spells s past ⊎ LeavesIt Spells s past
  pub made : HasMadeNone s past
  pub rows_alone : HasRowsAlone s past
