-- Steps behind one that leaves all as it was, and what is left of a SELECT behind a step.
use Rattle.std.proofs.Common.{ℕ, ◌<◌, List, [], ◌∷◌, ap, subst, sym, ◌∙◌, inl, inr, arith}
use Rattle.inno_model.specs.declared.event.Event.{Event}
use Rattle.inno_model.specs.declared.event.Event.TheVariants.{Ended}
use Rattle.inno_model.specs.Past.{started, txn, IsOpen}
use Rattle.inno_types.specs.Order.{IsBelow}
use Rattle.shared_lists.specs.State.{State, Stays}
use Rattle.sql_lists.specs.declared.advance.Advance.{Advance}
use Rattle.sql_lists.specs.declared.advance.Advance.TheVariants as advance
use Rattle.sql_lists.specs.Going.{Nears, left}
use Rattle.sql_lists.specs.Steps.{Steps, WaitsFor, AsksToWrite, HasRowsAlone, open_txn, plain_edge}
use Rattle.sql_lists.proofs.Moving.{moves_then}
use Rattle.read_statement.specs.declared.machine.Found.{Found}
use Rattle.read_statement.specs.declared.machine.ReadStatement.{ReadStatement}
use Rattle.read_statement.specs.declared.machine.ReadStatement.TheVariants as machine
use Rattle.read_statement.specs.Going.{to_go, NearsTo}
use Rattle.read_statement.specs.Running.{IsRunning}

-- ---- two steps in one

stays_then : (s : ℕ) (old mid new : State) → Stays s old mid → Stays s mid new → Stays s old new
stays_then s old mid new first second =
    record {
      names_are = second.names_are ∙ first.names_are;
      past_is = second.past_is ∙ first.past_is;
      writer_is = second.writer_is ∙ first.writer_is;
      task_is = second.task_is ∙ first.task_is;
      others = λ t differ. second.others t differ ∙ first.others t differ;
    }

waits_before : (s by : ℕ) (blockers : List _) (old mid : State) → Stays s old mid → WaitsFor s by blockers mid → WaitsFor s by blockers old
waits_before s by blockers old mid stays waits =
    record {
      asks = subst (AsksToWrite s) stays.past_is waits.asks;
      other = waits.other;
      holds = sym stays.writer_is ∙ waits.holds;
      is_open = subst (IsOpen by) stays.past_is waits.is_open;
      edge = waits.edge ∙ ap (λ (h : List Event). plain_edge (open_txn s h) (txn by h) ∷ []) stays.past_is;
    }

-- a step that leaves all as it was, and another one behind it
pub steps_then : (s : ℕ) (old mid new : State) (statement : ReadStatement) (answer : Advance) → Stays s old mid
    → Steps IsRunning s mid new statement answer → Steps IsRunning s old new statement answer
steps_then s old mid new statement advance.Went stays steps =
    (moves_then s old mid new stays steps.0, steps.1, steps.2 ∙ ap (started s) stays.past_is)
steps_then s old mid new statement (advance.Waiting by blockers) stays steps =
    (stays_then s old mid new stays steps.0, steps.1, waits_before s by blockers old mid stays steps.2)
steps_then s old mid new statement advance.NoMemory stays steps =
    (moves_then s old mid new stays steps.0, steps.1, steps.2 ∙ stays.past_is)
steps_then s old mid new statement (advance.Done reply) stays steps = (
  moves_then s old mid new stays steps.0,
  steps.1 ∙ ap (λ (h : List Event). Ended s (started s h) reply ∷ h) stays.past_is,
  subst (HasRowsAlone s) stays.past_is steps.2,
  steps.3,
)

-- ---- what is left

-- fewer phases are fewer than more
below_more : (a b : ℕ) (list : List ℕ) → a < b → IsBelow list (left a 0 0 0) → IsBelow list (left b 0 0 0)
below_more a b [] lt below = below
below_more a b (n ∷ ns) lt (inl less) = inl (omega arith)
below_more a b (n ∷ ns) lt (inr same) = (let is = same.0 in inl (omega arith))

-- rows that were found have five phases before them
pub nears_found : (s : ℕ) (old new : State) (found : Found) (statement : ReadStatement) (answer : Advance) → NearsTo 4 s new statement answer
    → Nears to_go s old (machine.Found found) new statement answer
nears_found s old new found statement advance.Went nears = below_more 4 5 (to_go s new statement) (omega arith) nears
nears_found s old new found statement (advance.Waiting by blockers) nears = tt
nears_found s old new found statement advance.NoMemory nears = below_more 4 5 (to_go s new statement) (omega arith) nears
nears_found s old new found statement (advance.Done reply) nears = tt

pub nears_open : (s : ℕ) (old new : State) (stmt : _) (alone : _) (statement : ReadStatement) (answer : Advance) → NearsTo 4 s new statement answer
    → Nears to_go s old (machine.Open stmt alone) new statement answer
nears_open s old new stmt alone statement advance.Went nears = below_more 4 8 (to_go s new statement) (omega arith) nears
nears_open s old new stmt alone statement (advance.Waiting by blockers) nears = tt
nears_open s old new stmt alone statement advance.NoMemory nears = below_more 4 8 (to_go s new statement) (omega arith) nears
nears_open s old new stmt alone statement (advance.Done reply) nears = tt
