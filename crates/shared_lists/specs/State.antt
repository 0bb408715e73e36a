-- What contracts see of the lists.
use Rattle.std.specs.Prelude.{◌≡◌, ◌≢◌, ℕ, ◌≤◌, Option, None, List, [], ◌∷◌, length, slice_index_or, refl}
use Rattle.std.specs.Coded.{Coded, code_by, coded×, coded_list, coded_option, coded_ℕ}
use Rattle.inno_db.specs.{Database.Database, declared.limits.TheConstants.MOST_TABLES}
use Rattle.inno_model.specs.contracts.event.Event as of_event
use Rattle.inno_model.specs.{declared.event.Event.Event, declared.event.Event.TheVariants.Opened}
use Rattle.sql_history.specs.{Settings.Setting, Counts.rows_in, Counts.most_rows}
use Rattle.shared_lists.specs.Tasks.{Task, Idle, task_code}
use Rattle.law_past_agreement.specs.Slots.{writer_without}

-- what a search has before it: the keys of its index that it has not come past; how many entries of the history may each have
-- dropped an older version since its last step, so that it comes to its key anew; and what is left of its visit of that key
pub record Places : Type 0 where
  pub keys : ℕ
  pub anew : ℕ
  pub visit : ℕ

abbrev pub places_code : Coded Places
places_code =
    code_by (ℕ × (ℕ × ℕ)) (coded× coded_ℕ (coded× coded_ℕ coded_ℕ)) (λ r. (r.keys, (r.anew, r.visit)))
    (λ p. record { keys = p.0; anew = p.1.0; visit = p.1.1 }) (λ _. refl)

-- the names of the sessions, the entries, the newest first, the session that may write, what each session has under way
-- with rows, and what the search of each has before it
pub record State : Type 0 where
  pub names : List (List ℕ)
  pub past : List Event
  pub writer : Option ℕ
  pub tasks : List Task
  pub places : List Places

abbrev pub state_code : Coded State
state_code =
    code_by (List (List ℕ) × (List Event × (Option ℕ × (List Task × List Places))))
    (coded× (coded_list (coded_list coded_ℕ))
    (coded× (coded_list of_event.the_row.coded) (coded× (coded_option coded_ℕ) (coded× (coded_list task_code) (coded_list places_code)))))
    (λ r. (r.names, (r.past, (r.writer, (r.tasks, r.places)))))
    (λ p. record { names = p.0; past = p.1.0; writer = p.1.1.0; tasks = p.1.1.1.0; places = p.1.1.1.1 }) (λ _. refl)

-- that, what each session has set, and how many rows the history holds
pub record Lists : Type 0 where
  pub state : State
  pub settings : List Setting
  pub rows : ℕ

abbrev pub task_of : ℕ → State → Task
task_of s state = slice_index_or state.tasks s Idle

-- who doesn't search
abbrev pub no_places : Places
no_places = record { keys = 0; anew = 0; visit = 0 }

-- What the session's search has before it. The relations below don't speak of it: others put keys and remove them.
abbrev pub places_before : ℕ → State → Places
places_before s state = slice_index_or state.places s no_places

-- as numbers, of which a step of the search makes the first that differs smaller
abbrev pub counted : Places → List ℕ
counted places = places.keys ∷ places.anew ∷ places.visit ∷ []

-- The past, the session's task and who may write are these now, and what the other sessions have under way is what it was.
pub record IsNow (past : List Event) (s : ℕ) (task : Task) (writer : Option ℕ) (old new : State) : Type 0 where
  pub names_are : new.names ≡ old.names
  pub past_is : new.past ≡ past
  pub writer_is : new.writer ≡ writer
  pub task_is : task_of s new ≡ task
  pub others : (t : ℕ) → t ≢ s → task_of t new ≡ task_of t old

-- new is old with one entry more
abbrev pub Adds : Event → ℕ → State → State → Type 0
Adds event s old new = IsNow (event ∷ old.past) s (task_of s old) old.writer old new

-- new is old with one entry more, by which a transaction ends: its session may write no longer
abbrev pub Closes : Event → ℕ → State → State → Type 0
Closes event s old new = IsNow (event ∷ old.past) s (task_of s old) (writer_without old.writer s) old new

-- nothing has changed but what the session has under way
abbrev pub Turns : ℕ → Task → State → State → Type 0
Turns s task old new = IsNow old.past s task old.writer old new

-- nothing has changed
abbrev pub Stays : ℕ → State → State → Type 0
Stays s old new = Turns s (task_of s old) old new

-- the lists of a database of few tables and rows, which nobody has joined
pub record IsFirst (lists : Lists) : Type 0 where
  pub db : Database
  pub few_tables : length db.schemas ≤ MOST_TABLES
  pub few_rows : rows_in db ≤ most_rows
  pub past : lists.state.past ≡ Opened db ∷ []
  pub names : lists.state.names ≡ []
  pub writer : lists.state.writer ≡ None
  pub settings : lists.settings ≡ []
  pub rows : lists.rows ≡ rows_in db
