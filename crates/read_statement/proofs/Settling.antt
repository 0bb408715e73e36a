-- A reply by the rows that were found is settled, or too many rows; and what becomes of a search.
use Rattle.std.proofs.Common.{◌≡◌, ℕ, ◌+◌, ◌<◌, Bool, true, List, refl, sym, ap, subst, ◌∙◌}
use Rattle.inno_types.specs.declared.reply.Reply.{Reply}
use Rattle.inno_types.specs.declared.reply.Reply.TheVariants as replies
use Rattle.inno_types.specs.declared.stmt.Stmt.{Stmt}
use Rattle.inno_model.specs.declared.event.Event.{Event}
use Rattle.inno_model.specs.Past.{started, IsOpen}
use Rattle.sql_history.specs.Counts.{rows_of_reply, rows_kept, most_rows}
use Rattle.law_past_agreement.specs.Order.{created, IsOrdered}
use Rattle.sql_plan.specs.declared.choice.Plan.{Plan}
use Rattle.shared_lists.specs.declared.answers.Reading.TheVariants.{View}
use Rattle.shared_lists.specs.Tasks.{Idle, Searching}
use Rattle.shared_lists.specs.State.{State, Turns, task_of}
use Rattle.shared_lists.specs.Steps.{AreFoundBy, AreRowsSeen}
use Rattle.sql_lists.specs.Steps.{Moves}
use Rattle.sql_lists.proofs.Moving.{moves_turns}
use Rattle.read_statement.specs.declared.machine.Read.{Read}
use Rattle.read_statement.specs.declared.machine.Found.{Found}
use Rattle.read_statement.specs.Planning.{IsPlanned}
use Rattle.read_statement.specs.Running.{IsEarly, HasView, IsSearching, HasFound, IsSeen, IsSettledBy, IsAnswered, answers_rows}
use Rattle.read_statement.proofs.Searched.{seen_tabled}

pub settled_by : (h : List Event) (s : ℕ) (stmt : Stmt) (reply : Reply) → answers_rows reply ≡ true → IsSeen h s stmt reply → IsSettledBy reply h s stmt
settled_by h s stmt (replies.Rows rows) kind seen = seen
settled_by h s stmt (replies.Fail error) kind seen = seen
settled_by h s stmt other kind seen = (let x = kind in cc)

module _ (h : List Event) (s : ℕ) (stmt : Stmt) (alone : Bool) (early : IsEarly h s stmt alone) (is_open : IsOpen s h) (reply : Reply)
    (seen : IsSeen h s stmt reply) where
  pub settled : answers_rows reply ≡ true → (kept : Reply) → kept ≡ reply → IsAnswered h s alone kept reply
  settled kind kept is = record { same = sym is; stmt = stmt; early = early; is_open = is_open; settled = rw is (settled_by h s stmt reply kind seen) }

  pub limited : (rows : ℕ) → most_rows < rows → rows ≡ rows_kept h + rows_of_reply reply → IsAnswered h s alone (replies.RunLimit rows) (replies.RunLimit rows)
  limited rows many sum =
      record {
        same = refl;
        stmt = stmt;
        early = early;
        is_open = is_open;
        settled = record { many = many; reply = reply; found = seen.found; sum = sum };
      }

-- ---- the search

pub search_begins : (s : ℕ) (plan : Plan) (old new : State) (read : Read) → IsEarly old.past s read.stmt read.alone → IsOpen s old.past
    → HasView old.past s → IsPlanned (created old.past) read.stmt read.table plan
    → Turns s (Searching read.table plan View) old new → Moves s old new × IsSearching new.past s (task_of s new) read
    × (started s new.past ≡ started s old.past)
search_begins s plan old new read early is-open view planned turns = (
  moves_turns s (Searching read.table plan View) old new turns,
  subst (λ h. IsSearching h s (task_of s new) read) (sym turns.past_is)
      (record { early = early; is_open = is-open; view = view; plan = plan; planned = planned; task_is = turns.task_is }),
  ap (started s) turns.past_is,
)

-- it goes on, some steps fewer before it
pub search_goes_on : (s : ℕ) (old new : State) (read : Read) → IsSearching old.past s (task_of s old) read → Turns s (task_of s old) old new
    → Moves s old new × IsSearching new.past s (task_of s new) read × (started s new.past ≡ started s old.past)
search_goes_on s old new read is turns = (
  moves_turns s (task_of s old) old new turns,
  subst (λ h. IsSearching h s (task_of s new) read) (sym turns.past_is) (record {
    early = is.early;
    is_open = is.is_open;
    view = is.view;
    plan = is.plan;
    planned = is.planned;
    task_is = turns.task_is ∙ is.task_is;
  }),
  ap (started s) turns.past_is,
)

pub search_finds : (s : ℕ) (old new : State) (read : Read) (found : Found) → found.stmt ≡ read.stmt → found.table ≡ read.table → found.alone ≡ read.alone
    → IsOrdered old.past → (is : IsSearching old.past s (task_of s old) read) → Turns s Idle old new
    → AreFoundBy View read.table is.plan old.past s found.rows → Moves s old new × (HasFound new.past s found × (task_of s new ≡ Idle)) ×
    (started s new.past ≡ started s old.past)
search_finds s old new read found same-stmt same-table same-alone ordered is turns rows = (
  moves_turns s Idle old new turns,
  (
    subst (λ h. HasFound h s found) (sym turns.past_is) (record {
      early = subst (λ st. IsEarly old.past s st found.alone) (sym same-stmt) (subst (IsEarly old.past s read.stmt) (sym same-alone) is.early);
      is_open = is.is_open;
      view = is.view;
      plan = is.plan;
      planned = subst (λ st. IsPlanned (created old.past) st found.table is.plan) (sym same-stmt)
          (subst (λ table. IsPlanned (created old.past) read.stmt table is.plan) (sym same-table) is.planned);
      tabled = seen_tabled old.past s is.view.number ordered;
      rows = subst (λ table. AreRowsSeen table is.plan old.past s is.view.number found.rows) (sym same-table) (rows is.view.number is.view.view_is);
    }),
    turns.task_is,
  ),
  ap (started s) turns.past_is,
)
