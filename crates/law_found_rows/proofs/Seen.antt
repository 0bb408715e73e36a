-- A step of another session leaves what a view shows.
use Rattle.inno_db.specs.declared.change.Change.TheVariants as changes
use Rattle.inno_model.specs.declared.event.Event.TheVariants as events
use Rattle.row_search.specs.declared.sight.Sight.TheVariants as sights
use Rattle.std.proofs.Common.{◌≡◌, ◌≢◌, ◌∙◌, sym, ap, refl, ℕ, ◌≤◌, true, false, cond, List, [], ◌∷◌, ◌++◌, length, Option, Some, inl, inr, arith}
use Rattle.std.proofs.{lemmas.Bool.Decides.nat_tests, lemmas.List.append-nil}
use Rattle.std.specs.{List.AllByRecursion}
use Rattle.inno_db.specs.declared.change.Change.{Change}
use Rattle.inno_model.specs.{declared.event.Event.Event, Past.is_of, Past.own, Past.commits, Past.committed, Past.view_of}
use Rattle.law_stored_rows.specs.Tables.{in_table}
use Rattle.law_past_agreement.specs.Rows.{is_at, row_at, row_of, row_opened, seen, row_seen}
use Rattle.law_past_agreement.specs.{Order.created, Order.IsTabled, Order.IsOrdered, Order.IsNoOthers, Agreement.ViewAgrees}
use Rattle.law_past_agreement.proofs.Tables.{at_stays, own_tabled, committed_tabled}
use Rattle.law_found_rows.proofs.Databases.{at_key}
use Rattle.world.specs.State.{WorldState, Session, Work, Seen, HasWork}
use Rattle.law_world_agreement.specs.Agreement.{sight_of, Agrees}
use Rattle.row_search.specs.Sights.{rows_seen}
use Rattle.law_found_rows.specs.Pasts.{AddsAtMostOne}
use Rattle.inno_types.specs.{declared.value.Value.Value, declared.value.Schema.Schema}
use Rattle.inno_model.proofs.{Untouched.untouched, Commits.committed_stays, Commits.view_within}
use Rattle.row_versions.specs.{declared.place.Place.Place, Chains.Chains, Chains.first_seen, Chains.sees}
use Rattle.law_world_agreement.proofs.{Ending.work_of, Readers.seen_by_view}

-- ---- one entry more

-- an entry of one session is no other's
own_of : (e : Event) (t s : ℕ) → is_of t e ≡ true → t ≢ s → is_of s e ≡ false
own_of e t s mine differ = grind (arith, nat_tests, mine, differ)

pub other_of : (e : Event) (t s : ℕ) → IsNoOthers t e → t ≢ s → is_of s e ≡ false
other_of (events.Signal name) t s mine differ = refl
other_of e t s mine differ = own_of e t s mine differ

-- an entry of a session adds a table at most
grown : (t : ℕ) (e : Event) (h : List Event) → IsNoOthers t e → (more : List Schema) × (created (e ∷ h) ≡ created h ++ more)
grown t (events.Opened db) h mine = (let x = mine in cc)
grown t (events.Changed u (changes.Create schema)) h mine = (schema ∷ [], refl)
grown t (events.Changed u (changes.Put table row)) h mine = ([], sym (append-nil (created h)))
grown t (events.Changed u (changes.Remove table key)) h mine = ([], sym (append-nil (created h)))
grown t e h mine = ([], sym (append-nil (created h)))

-- an entry of a session opens nothing
opening_stays : (t : ℕ) (e : Event) (h : List Event) (place : Place) → IsNoOthers t e → row_opened (e ∷ h) place ≡ row_opened h place
opening_stays t (events.Opened db) h place mine = (let x = mine in cc)
opening_stays t e h place mine = refl

row_at_so : (before : Option (List Value)) (schemas more : List Schema) (place : Place) (cs : List Change) → AllByRecursion (IsTabled (length schemas)) cs
    → row_at before (is_at (schemas ++ more) place) cs ≡ row_at before (is_at schemas place) cs
row_at_so before schemas more place [] all = refl
row_at_so before schemas more place (c ∷ cs) all =
    rw (at_stays schemas more place c all.0) (ap (λ later. cond (is_at schemas place c) (row_of c) later) (row_at_so before schemas more place cs all.1))

all_joined : (P : Change → Type 0) (xs ys : List Change) → AllByRecursion P xs → AllByRecursion P ys → AllByRecursion P (xs ++ ys)
all_joined P [] ys all other = other
all_joined P (x ∷ xs) ys all other = (all.0, all_joined P xs ys all.1 other)

-- what a view shows of a place
entry_leaves : (t s n : ℕ) (e : Event) (h : List Event) (place : Place) → IsOrdered h → IsNoOthers t e → t ≢ s → n ≤ commits h
    → row_seen (e ∷ h) s n place ≡ row_seen h s n place
entry_leaves t s n e h place ordered mine differ within =
    let more = grown t e h mine in
    let same_own : own s (e ∷ h) ≡ own s h = (untouched e h s (other_of e t s mine differ)).own_is in
    let same_seen : seen (e ∷ h) s n ≡ seen h s n = ap (λ cs. cs ++ committed n (e ∷ h)) same_own ∙ ap (λ cs. own s h ++ cs) (committed_stays e h n within) in
    let tabled : AllByRecursion (IsTabled (length (created h))) (seen h s n)
    = all_joined (IsTabled (length (created h))) (own s h) (committed n h) (own_tabled h ordered s) (committed_tabled h ordered n) in
    rw (opening_stays t e h place mine, same_seen, more.1) (row_at_so (row_opened h place) (created h) more.0 place (seen h s n) tabled)

module _ (t s : ℕ) (old new : List Event) (ordered : IsOrdered old) (differ : t ≢ s) where
  pub view_stays : AddsAtMostOne t old new → view_of s new ≡ view_of s old
  view_stays (inl same) = rw same
  view_stays (inr adds) = rw adds.2 (untouched adds.0 old s (other_of adds.0 t s adds.1 differ)).view_is

  pub row_stays : (n : ℕ) (place : Place) → n ≤ commits old → AddsAtMostOne t old new → row_seen new s n place ≡ row_seen old s n place
  row_stays n place within (inl same) = rw same
  row_stays n place within (inr adds) = rw adds.2 (entry_leaves t s n adds.0 old place ordered adds.1 differ within)

-- ---- in a world

pub same_rows : (before after : Chains) (old new : WorldState) (s t table : ℕ) (session session_now : Session)
    (work work_now : Work) (view : Seen)
    → Agrees before old → Agrees after new → HasWork s session work old → HasWork s session_now work_now new
    → work.view ≡ Some view → work_now.view ≡ Some view → work_now.id ≡ work.id → t ≢ s → AddsAtMostOne t old.past new.past
    → (value : Value) → rows_seen (sights.View (sight_of view) work.id) (in_table table after) value ≡ rows_seen (sights.View (sight_of view) work.id)
    (in_table table before) value
same_rows before after old new s t table session session_now work work_now view was agrees had has is is_now same_id differ adds value =
    let v : ViewAgrees old.past s (Some (sight_of view)) = rw is at (work_of before old s session work was had).view_is in
    let n = v.0 in
    let at : view_of s old.past ≡ Some n = v.1.is-view in
    let place : Place = at_key table value in
    let at_now : view_of s new.past ≡ Some n = view_stays t s old.past new.past was.lists.ordered differ adds ∙ at in
    ap (λ id. first_seen (sees id (sight_of view)) (in_table table after value)) (sym same_id)
    ∙ (seen_by_view after new agrees s n session_now work_now view place has is_now at_now
    ∙ (row_stays t s old.past new.past was.lists.ordered differ n place (view_within old.past s n at) adds
    ∙ sym (seen_by_view before old was s n session work view place had is at)))
