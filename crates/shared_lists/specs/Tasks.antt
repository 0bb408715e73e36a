-- What a session has under way with rows.
use Rattle.std.specs.Prelude.{◌≡◌, ℕ, ◌^◌, Bool, true, false, Option, Some, None, refl}
use Rattle.std.specs.Coded.{Coded, code_by, coded×, coded_option, coded_ℕ, coded_bool}
use Rattle.inno_db.specs.declared.change.Change.{Change}
use Rattle.inno_db.specs.contracts.change.Change as of_change
use Rattle.sql_plan.specs.declared.choice.Plan.{Plan}
use Rattle.sql_plan.specs.contracts.choice.Plan as of_plan
use Rattle.shared_lists.specs.declared.answers.Reading.{Reading}
use Rattle.shared_lists.specs.contracts.answers.Reading as of_reading

pub data Task : Type 0 where
  Idle : Task
  -- a search of a table, by a plan
  Searching : ℕ → Plan → Reading → Task
  -- a change of a row: the one that the history doesn't tell yet, and how many steps it has before it at most
  Changing : Option Change → ℕ → Task
  -- a change was given up that the history tells: it is to be taken back
  Lagging : Task
  -- the newest change is being taken back: how much is left of that
  Undoing : ℕ → Task

-- the parts of a task, as plain values
abbrev pub Parts : Type 0
Parts = Option (ℕ × (Plan × Reading)) × (Option (Option Change × ℕ) × (Bool × Option ℕ))

abbrev pub parts_of : Task → Parts
parts_of Idle = (None, (None, (false, None)))
parts_of (Searching table plan reading) = (Some (table, (plan, reading)), (None, (false, None)))
parts_of (Changing asked left) = (None, (Some (asked, left), (false, None)))
parts_of Lagging = (None, (None, (true, None)))
parts_of (Undoing left) = (None, (None, (false, Some left)))

abbrev pub undoing_if : Option ℕ → Task
undoing_if None = Idle
undoing_if (Some left) = Undoing left

abbrev pub lagging_if : Bool → Option ℕ → Task
lagging_if true left = Lagging
lagging_if false left = undoing_if left

abbrev pub changing_if : Option (Option Change × ℕ) → Bool → Option ℕ → Task
changing_if (Some change) lags left = Changing change.0 change.1
changing_if None lags left = lagging_if lags left

abbrev pub task_with : Option (ℕ × (Plan × Reading)) → Option (Option Change × ℕ) → Bool → Option ℕ → Task
task_with (Some search) change lags left = Searching search.0 search.1.0 search.1.1
task_with None change lags left = changing_if change lags left

pub made_of_parts : (task : Task) → task_with (parts_of task).0 (parts_of task).1.0 (parts_of task).1.1.0 (parts_of task).1.1.1 ≡ task
made_of_parts Idle = refl
made_of_parts (Searching table plan reading) = refl
made_of_parts (Changing asked left) = refl
made_of_parts Lagging = refl
made_of_parts (Undoing left) = refl

abbrev pub task_code : Coded Task
task_code =
    code_by Parts
    (coded× (coded_option (coded× coded_ℕ (coded× of_plan.the_row.coded of_reading.the_row.coded)))
    (coded× (coded_option (coded× (coded_option of_change.the_row.coded) coded_ℕ)) (coded× coded_bool (coded_option coded_ℕ))))
    parts_of (λ p. task_with p.0 p.1.0 p.1.1.0 p.1.1.1) made_of_parts

abbrev pub is_changing : Task → Bool
is_changing (Changing asked left) = true
is_changing other = false

-- the change that the history doesn't tell yet
abbrev pub asked : Task → Option Change
asked (Changing change left) = change
asked other = None

-- how many steps a change has before it at most
abbrev pub steps_left : Task → ℕ
steps_left (Changing change left) = left
steps_left other = 0

-- what becomes of a change that is given up: one that the history tells is to be taken back; one that it doesn't tell was
-- never made
abbrev pub left_by : Option Change → Task
left_by None = Lagging
left_by (Some change) = Idle

-- a change may be taken back, or is being so
abbrev pub MayTakeBack : Task → Type 0
MayTakeBack Idle = Unit {0}
MayTakeBack Lagging = Unit {0}
MayTakeBack (Undoing left) = Unit {0}
MayTakeBack other = ⊥

-- how much is left of the change that is being taken back, or that is to be
abbrev pub undo_to_go : Task → ℕ
undo_to_go (Undoing left) = left
undo_to_go other = 2 ^ 70
