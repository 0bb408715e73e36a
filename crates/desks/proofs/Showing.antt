-- What a session's desk shows of it.
use Rattle.shared_lists.specs.Tasks as tasks
use Rattle.std.proofs.Common.{◌≡◌, ◌≢◌, inl, inr, ℕ, zero, suc, ◌+◌, List, [], ◌∷◌, length, Option, None, Some, refl, sym, ap, ◌∙◌, arith, ◌<◌, get_or}
use Rattle.std.proofs.{lemmas.Bool.Decides.eqb_tells, lemmas.Option.slice_get-get_or}
use Rattle.std.specs.Prelude.{◌-◌, IsSome, slice_index_or, map, slice_set}
use Rattle.shared_lists.specs.{State.Places, State.Lists, State.no_places, State.task_of, State.places_before, Tasks.Task}
use Rattle.desks.specs.declared.desk.Doing.TheVariants.{Nothing, Searching, Changing, Lagging, Undoing}
use Rattle.desks.specs.Desks.{Store, desk_at, doing_at, with_desk, with_doing}
use Rattle.desks.specs.{Searching.keys_left, Searching.visit_left, Searching.places_of, Searching.places_from, Shown.shown, Shown.task_at, Shown.task_shown}
use Rattle.desks.specs.{Shown.lists_of, declared.desk.Desk.Desk, declared.desk.Doing.Doing, declared.desk.TableSearch.TableSearch}
use Rattle.world.specs.{Told.IsTold, Told.pairs_in, Told.pairs_of, State.WorldState}
use Rattle.inno_db.specs.Indexes.{index_of}
use Rattle.inno_types.specs.declared.value.Schema.{Schema}
use Rattle.entries.specs.{Pairs.Pair, Index.AreKept}
use Rattle.row_versions.specs.Versions.{Stays}

task_there : (s : ℕ) (state : WorldState) (desks : List Desk) → slice_index_or (map (task_shown state) desks) s tasks.Idle ≡ task_at state (desk_at s desks)
task_there s state [] = refl
task_there zero state (desk ∷ desks) = refl
task_there (suc s) state (desk ∷ desks) = task_there s state desks

pub task_is : (s : ℕ) (store : Store) → task_of s (lists_of store).state ≡ task_at store.world (desk_at s store.desks)
task_is s store = task_there s store.world store.desks

-- tables and kept versions are the same
pub task_stays : (old new : WorldState) (desk : Option Desk) → new.schemas ≡ old.schemas → new.versions.kept_at ≡ old.versions.kept_at
    → task_at new desk ≡ task_at old desk
task_stays old new None schemas kept = refl
task_stays old new (Some desk) schemas kept = rw (schemas, kept) refl

pub idle_shown : (left : ℕ) (schemas : List Schema) (doing : Doing) → shown schemas left doing ≡ tasks.Idle → doing ≡ Nothing
idle_shown left schemas Nothing is = refl
idle_shown left schemas (Searching on) is = absurd (cc)
idle_shown left schemas (Changing change) is = absurd (cc)
idle_shown left schemas Lagging is = absurd (cc)
idle_shown left schemas Undoing is = absurd (cc)

-- ---- what searches have before them

at_number : (n s : ℕ) (state : WorldState) (desks : List Desk) (number : ℕ) → number ≡ n + s
    → slice_index_or (places_from n state desks) s no_places ≡ places_of number state (doing_at s desks)
at_number n s state [] number is = refl
at_number n zero state (desk ∷ desks) number is = ap (λ (t : ℕ). places_of t state desk.doing) (omega (arith, is))
at_number n (suc s) state (desk ∷ desks) number is = at_number (n + 1) s state desks number (omega (arith, is))

pub places_are : (s : ℕ) (store : Store) → places_before s (lists_of store).state ≡ places_of s store.world (doing_at s store.desks)
places_are s store = at_number 0 s store.world store.desks s (omega arith)

from_stay : (n : ℕ) (old new : WorldState) (desks : List Desk)
    → ((s number : ℕ) → number ≡ n + s → places_of number new (doing_at s desks) ≡ places_of number old (doing_at s desks))
    → places_from n new desks ≡ places_from n old desks
from_stay n old new [] same = refl
from_stay n old new (desk ∷ desks) same =
    let first : places_of n new desk.doing ≡ places_of n old desk.doing = same 0 n (omega arith) in
    let rest : places_from (n + 1) new desks ≡ places_from (n + 1) old desks
    = from_stay (n + 1) old new desks (λ s number is. same (suc s) number (omega (arith, is))) in
    λ i. first i ∷ rest i

abbrev seen_with : List Task → List Places → Lists → Lists
seen_with tasks places lists = record lists { state = record lists.state { tasks = tasks; places = places } }

-- One session's places in indexes are others, which doesn't search.
module _ (s : ℕ) (old new : WorldState) (past : new.past ≡ old.past) (pairs : (index : ℕ) → pairs_of new index ≡ pairs_of old index)
    (kept : new.versions.kept_at ≡ old.versions.kept_at)
    (places : (t index : ℕ) → t ≢ s → (new.indexes index).place t ≡ (old.indexes index).place t) where
  places_same : (t : ℕ) (doing : Doing) → t ≢ s → places_of t new doing ≡ places_of t old doing
  places_same t Nothing differs = refl
  places_same t (Searching on) differs =
      let index = index_of on.search.scan.table on.search.scan.which in
      let place = places t index differs in
      let there = pairs index in
      λ i. record {
        keys = keys_left (place i) (there i) on.search.phase;
        anew = length (past i) - on.cuts;
        visit = visit_left (kept i) on.search.phase;
      }
  places_same t (Changing change) differs = refl
  places_same t Lagging differs = refl
  places_same t Undoing differs = refl

  rests : (t : ℕ) (doing : Doing) → ((on : TableSearch) → doing ≡ Searching on → ⊥) → places_of t new doing ≡ places_of t old doing
  rests t Nothing not = refl
  rests t (Searching on) not = absurd (not on refl)
  rests t (Changing change) not = refl
  rests t Lagging not = refl
  rests t Undoing not = refl

  places_stay : (desks : List Desk) → ((on : TableSearch) → doing_at s desks ≡ Searching on → ⊥)
      → places_from 0 new desks ≡ places_from 0 old desks
  places_stay desks not = from_stay 0 old new desks (λ t number is. elim (eqb_tells t s) [
    | inl same ↦ rests number (doing_at t desks) (λ on at. not on (ap (λ u. doing_at u desks) (sym same.1) ∙ at))
    | inr differs ↦ places_same number (doing_at t desks) (λ so. differs.1 (omega (arith, is, so)))
  ])

pub same_pairs : (old new : Option (List Pair)) → AreKept old new → IsSome new → pairs_in new ≡ pairs_in old
same_pairs old None kept some = absurd (cc)
same_pairs None (Some new) kept some = absurd kept
same_pairs (Some old) (Some new) kept some = kept

tasks_stay : (old new : WorldState) (desks : List Desk) → new.schemas ≡ old.schemas → new.versions.kept_at ≡ old.versions.kept_at
    → map (task_shown new) desks ≡ map (task_shown old) desks
tasks_stay old new [] schemas kept = refl
tasks_stay old new (desk ∷ desks) schemas kept = λ i. task_stays old new (Some desk) schemas kept i ∷ tasks_stay old new desks schemas kept i

-- so callers see what they saw
pub lists_stay : (s : ℕ) (store : Store) (new : WorldState)
    → new ≡ record store.world { indexes = new.indexes; versions = new.versions; paged = new.paged }
    → ((index : ℕ) → AreKept (store.world.indexes index).pairs (new.indexes index).pairs)
    → ((t index : ℕ) → t ≢ s → (new.indexes index).place t ≡ (store.world.indexes index).place t) → Stays store.world.versions new.versions → IsTold new
    → ((on : TableSearch) → doing_at s store.desks ≡ Searching on → ⊥) → lists_of (record store { world = new }) ≡ lists_of store
lists_stay s store new rest pairs places versions told not =
    let old = store.world in
    let kept : new.versions.kept_at ≡ old.versions.kept_at = versions.kept told.versions in
    let places_same : places_from 0 new store.desks ≡ places_from 0 old store.desks
    = places_stay s old new (ap (λ (state : WorldState). state.past) rest)
    (λ index. same_pairs (old.indexes index).pairs (new.indexes index).pairs (pairs index) (told.pairs index)) kept places store.desks not in
    let tasks_same : map (task_shown new) store.desks ≡ map (task_shown old) store.desks
    = tasks_stay old new store.desks (ap (λ (state : WorldState). state.schemas) rest) kept in
    ap (λ (state : WorldState). seen_with (map (task_shown new) store.desks) (places_from 0 new store.desks) (lists_of (record store { world = state }))) rest
    ∙ (λ i. seen_with (tasks_same i) (places_same i) (lists_of store))

-- ---- A session's desk as it is read and put in its place.

some_desk : (a b : Desk) → Some a ≡ Some b → a ≡ b
some_desk a b same = cc

pub desk_read : (desks : List Desk) (s : ℕ) {read : Desk} → s < length desks → read ≡ get_or desks s read → desk_at s desks ≡ Some read
desk_read desks s {read} within is = slice_get-get_or desks s read within ∙ ap (λ (desk : Desk). Some desk) (sym is)

-- a desk that is put in the place of the one that was read
pub set_at : (s : ℕ) (change : Desk → Desk) {desk : Desk} (desks : List Desk) → desk_at s desks ≡ Some desk
    → slice_set desks s (change desk) ≡ with_desk s change desks
set_at s change [] at = absurd (let none : None ≡ Some _ = at in cc)
set_at zero change {desk} (first ∷ desks) at = ap (λ (d : Desk). change d ∷ desks) (sym (some_desk first desk at))
set_at (suc s) change (first ∷ desks) at = ap (λ (ds : List Desk). first ∷ ds) (set_at s change desks at)

-- one that was read has something else to do
pub given_at : (s : ℕ) (doing : Doing) (desks : List Desk) {read : Desk} {put : Doing} → s < length desks → read ≡ get_or desks s read → put ≡ doing
    → slice_set desks s (record read { doing = put }) ≡ with_doing s doing desks
given_at s doing desks {read} within is given =
    ap (λ (d : Doing). slice_set desks s (record read { doing = d })) given
    ∙ set_at s (λ (desk : Desk). record desk { doing = doing }) desks (desk_read desks s within is)
