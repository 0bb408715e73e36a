-- Changes that fitted when they were made fit the tables that there are now.
use Rattle.inno_model.specs.declared.event.Event.TheVariants as events
use Rattle.std.proofs.Common.{◌≡◌, ℕ, zero, suc, ◌-◌, Bool, true, false, cond, List, [], ◌∷◌, ◌++◌, length, sym, subst}
use Rattle.std.proofs.lemmas.List.Elements.{All-nil, All-cons, All-append, All-drop, All-weaker}
use Rattle.std.specs.Prelude.{All}
use Rattle.inno_types.specs.declared.value.Schema.{Schema}
use Rattle.inno_db.specs.declared.change.Change.{Change}
use Rattle.inno_db.specs.declared.change.Change.TheVariants.{Create, Put, Remove}
use Rattle.inno_model.specs.{declared.event.Event.Event, Past.own, Past.oldest, Past.committed}
use Rattle.law_past_agreement.specs.Order.{created, MayCome, IsOrdered}
use Rattle.sql_history.specs.Items.{before_turn, own_before}
use Rattle.law_stored_rows.proofs.Applying.{FitsTables-more}
use Rattle.shared_lists.specs.Fitting.{FitsWell, FitsThen}
use Rattle.law_stored_rows.specs.{Storable.IsStorable, Storable.AreStorable, Fitting.FitsTables}

-- ---- tables

storable_more : (schemas : List Schema) (schema : Schema) → AreStorable schemas → IsStorable schema → AreStorable (schemas ++ schema ∷ [])
storable_more [] schema all is zero found there = let same : schema ≡ found = cc in subst IsStorable same is
storable_more [] schema all is (suc n) found there = absurd (cc)
storable_more (first ∷ schemas) schema all is zero found there = all zero found there
storable_more (first ∷ schemas) schema all is (suc n) found there = storable_more schemas schema (λ m other at. all (suc m) other at) is n found there

pub none_there : AreStorable []
none_there n schema there = absurd (cc)

pub tables_storable : (past : List Event) → FitsThen past → AreStorable (created past)
tables_storable [] fits = none_there
tables_storable (events.Opened db ∷ past) fits = fits.fitting.tables
tables_storable (events.Changed s (Create schema) ∷ past) fits = storable_more (created past) schema (tables_storable past fits.1) fits.0.0
tables_storable (events.Changed s (Put table row) ∷ past) fits = tables_storable past fits.1
tables_storable (events.Changed s (Remove table key) ∷ past) fits = tables_storable past fits.1
tables_storable (e ∷ past) fits = tables_storable past fits

-- ---- an entry more

-- what fitted the tables before the entry fits those behind it
fits_on : (e : Event) (past : List Event) → MayCome past e → (change : Change) → FitsWell (created past) change → FitsWell (created (e ∷ past)) change
fits_on (events.Opened db) past may change fits =
    (FitsTables-more [] db.schemas change (subst (λ (h : List Event). FitsTables (created h) change) may fits.0), fits.1)
fits_on (events.Changed s (Create schema)) past may change fits = (FitsTables-more (created past) (schema ∷ []) change fits.0, fits.1)
fits_on (events.Changed s (Put table row)) past may change fits = fits
fits_on (events.Changed s (Remove table key)) past may change fits = fits
fits_on e past may change fits = fits

all_on : (e : Event) (past : List Event) → MayCome past e → (changes : List Change) → All (FitsWell (created past)) changes
    → All (FitsWell (created (e ∷ past))) changes
all_on e past may changes all = All-weaker (FitsWell (created past)) (FitsWell (created (e ∷ past))) (fits_on e past may) changes all

-- the history before the entry fitted too
fitted_before : (e : Event) (past : List Event) → MayCome past e → FitsThen (e ∷ past) → FitsThen past
fitted_before (events.Opened db) past may fits = subst FitsThen (sym may) (record {})
fitted_before (events.Changed s change) past may fits = fits.1
fitted_before e past may fits = fits

all_if : (P : Change → Type 0) (b : Bool) (xs ys : List Change) → All P xs → All P ys → All P (cond b xs ys)
all_if P true xs ys first second = first
all_if P false xs ys first second = second

-- ---- of a session's open transaction

own_step : (e : Event) (past : List Event) (s : ℕ) → FitsThen (e ∷ past) → All (FitsWell (created past)) (own s past)
    → All (FitsWell (created past)) (own s (e ∷ past))
own_step (events.Begin t n level) past s fits all = all_if (FitsWell (created past)) _ [] (own s past) (All-nil (FitsWell (created past))) all
own_step (events.Changed t change) past s fits all =
    all_if (FitsWell (created past)) _ (change ∷ own s past) (own s past) (All-cons (FitsWell (created past)) change (own s past) fits.0 all) all
own_step (events.Undone t keep) past s fits all =
    all_if (FitsWell (created past)) _ (oldest keep (own s past)) (own s past)
    (All-drop (FitsWell (created past)) (length (own s past) - keep) (own s past) all) all
own_step (events.Committed t) past s fits all = all_if (FitsWell (created past)) _ [] (own s past) (All-nil (FitsWell (created past))) all
own_step (events.RolledBack t) past s fits all = all_if (FitsWell (created past)) _ [] (own s past) (All-nil (FitsWell (created past))) all
own_step e past s fits all = all

pub own_fits : (past : List Event) (s : ℕ) → FitsThen past → IsOrdered past → All (FitsWell (created past)) (own s past)
own_fits [] s fits ordered = All-nil (FitsWell [])
own_fits (e ∷ past) s fits ordered =
    all_on e past ordered.0 (own s (e ∷ past)) (own_step e past s fits (own_fits past s (fitted_before e past ordered.0 fits) ordered.1))

-- ---- before its item

own_if : (P : Change → Type 0) (b : Bool) (s : ℕ) (here before : List Event) → All P (own s here) → All P (own s before) → All P (own s (cond b here before))
own_if P true s here before first second = first
own_if P false s here before first second = second

turn_step : (e : Event) (past : List Event) (s : ℕ) → All (FitsWell (created (e ∷ past))) (own s (e ∷ past))
    → All (FitsWell (created (e ∷ past))) (own s past) → All (FitsWell (created (e ∷ past))) (own s (before_turn s past))
    → All (FitsWell (created (e ∷ past))) (own s (before_turn s (e ∷ past)))
turn_step (events.Started t j item) past s now then before = own_if (FitsWell (created past)) _ s past (before_turn s past) then before
turn_step (events.Begin t n level) past s now then before = own_if (FitsWell (created past)) _ s (events.Begin t n level ∷ past) (before_turn s past) now before
turn_step e past s now then before = before

pub own_before_fits : (past : List Event) (s : ℕ) → FitsThen past → IsOrdered past → All (FitsWell (created past)) (own_before s past)
own_before_fits [] s fits ordered = All-nil (FitsWell [])
own_before_fits (e ∷ past) s fits ordered =
    let before = fitted_before e past ordered.0 fits in
    turn_step e past s (own_fits (e ∷ past) s fits ordered) (all_on e past ordered.0 (own s past) (own_fits past s before ordered.1))
    (all_on e past ordered.0 (own s (before_turn s past)) (own_before_fits past s before ordered.1))

-- ---- that were committed

committed_step : (e : Event) (past : List Event) (n : ℕ) → ((s : ℕ) → All (FitsWell (created past)) (own s past))
    → All (FitsWell (created past)) (committed n past) → All (FitsWell (created past)) (committed n (e ∷ past))
committed_step (events.Committed t) past n owns all =
    all_if (FitsWell (created past)) _ (own t past ++ committed n past) (committed n past)
    (All-append (FitsWell (created past)) (own t past) (committed n past) (owns t) all) all
committed_step e past n owns all = all

pub committed_fits : (past : List Event) (n : ℕ) → FitsThen past → IsOrdered past → All (FitsWell (created past)) (committed n past)
committed_fits [] n fits ordered = All-nil (FitsWell [])
committed_fits (e ∷ past) n fits ordered =
    let before = fitted_before e past ordered.0 fits in
    all_on e past ordered.0 (committed n (e ∷ past)) (committed_step e past n (λ s. own_fits past s before ordered.1) (committed_fits past n before ordered.1))
