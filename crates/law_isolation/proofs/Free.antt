-- No two open transactions have changes at one place.
use Rattle.std.proofs.Common.{◌≡◌, ◌≢◌, ◌∙◌, ap, sym, refl, subst, ℕ, zero, suc, ◌-◌, ◌<◌, Bool, true, false, List, [], ◌∷◌, ◌++◌, length, drop, Some}
use Rattle.std.specs.Prelude.{◌||◌}
use Rattle.std.specs.Ordering.{is_eq}
use Rattle.std.specs.declared.cmp.Ordering.{Ordering}
use Rattle.std.specs.declared.cmp.Ordering.TheVariants.{Less, Equal, Greater}
use Rattle.inno_types.specs.declared.value.Value.{Value}
use Rattle.inno_types.specs.declared.value.Schema.{Schema}
use Rattle.inno_db.specs.declared.change.Change.{Change}
use Rattle.inno_db.specs.declared.change.Change.TheVariants.{Create, Put, Remove}
use Rattle.inno_db.specs.Database.{Database, Place, place_cmp, key_in}
use Rattle.inno_db.proofs.Tables.{place_cmp-IsAntisymmetric}
use Rattle.inno_model.specs.declared.event.Event.{Event}
use Rattle.inno_model.specs.declared.event.Event.TheVariants.{Begin, Changed, Undone, Committed, RolledBack}
use Rattle.inno_db.specs.Changes.{place_of, Spares}
use Rattle.inno_model.specs.Past.{own}
use Rattle.sql_history.specs.Items.{Language}
use Rattle.sql_history.specs.LooseReading.{newest}
use Rattle.sql_history.specs.Legal.{MayFollow}
use Rattle.law_histories.proofs.Placing.{key_in-more}
use Rattle.law_histories.proofs.Entries.{by_session}
use Rattle.law_db.specs.Beside.{is_change_at, touches}
use Rattle.law_isolation.specs.Phantoms.{AllApart}

-- ---- places over more tables

tied : (o : Ordering) → is_eq o ≡ true → o ≡ Equal
tied Less e = cc
tied Equal e = refl
tied Greater e = cc

place_there : (schemas more : List Schema) (place : Place) (change : Change) → place.0 < length schemas → is_change_at schemas place change ≡ true
    → place_of (schemas ++ more) change ≡ Some place
place_there schemas more place (Create schema) there is = cc
place_there schemas more place (Put table row) there is =
    let same : place ≡ (table, key_in schemas table row) =
    place_cmp-IsAntisymmetric place (table, key_in schemas table row) (tied (place_cmp place (table, key_in schemas table row)) is) in
    ap (λ (k : Value). Some (table, k)) (key_in-more schemas more table row (subst (λ (p : Place). p.0 < length schemas) same there)) ∙ ap Some (sym same)
place_there schemas more place (Remove table key) there is =
    ap Some (sym (place_cmp-IsAntisymmetric place (table, key) (tied (place_cmp place (table, key)) is)))

or_false : (a b : Bool) → a ≡ false → b ≡ false → (a || b) ≡ false
or_false true b e f = e
or_false false b e f = f

spared : (schemas more : List Schema) (db : Database) (place : Place) (changes : List Change) → db.schemas ≡ schemas ++ more → place.0 < length schemas
    → Spares db place changes → touches schemas changes place ≡ false
spared schemas more db place [] is there spares = refl
spared schemas more db place (change ∷ changes) is there spares =
    or_false (is_change_at schemas place change) (touches schemas changes place)
    (elim (is_change_at schemas place change) as (λ b. is_change_at schemas place change ≡ b → b ≡ false) [
      | true ↦ λ at. absurd (spares.0 (ap (λ (ss : List Schema). place_of ss change) is ∙ place_there schemas more place change there at))
      | false ↦ λ not. refl
    ] refl)
    (spared schemas more db place changes is there spares.1)

-- ---- one entry more

touches-drop : (schemas : List Schema) (place : Place) (n : ℕ) (changes : List Change) → touches schemas (drop n changes) place ≡ true
    → touches schemas changes place ≡ true
touches-drop schemas place zero changes is = is
touches-drop schemas place (suc n) [] is = is
touches-drop schemas place (suc n) (change ∷ changes) is =
    let rest = touches-drop schemas place n changes is in
    elim (is_change_at schemas place change) as (λ b. (b || touches schemas changes place) ≡ true) [ true ↦ refl | false ↦ rest ]

abbrev changes_rows : Event → Bool
changes_rows (Changed t change) = true
changes_rows other = false

-- only an entry of a change adds one
no_more : (schemas : List Schema) (s : ℕ) (place : Place) (e : Event) (past : List Event) → changes_rows e ≡ false
    → touches schemas (own s (e ∷ past)) place ≡ true → touches schemas (own s past) place ≡ true
no_more schemas s place (Changed t change) past not is = cc
no_more schemas s place (Begin t n l) past not is = by_session t s (λ mine same. (let f = rw mine at is in cc)) (λ other. rw other at is)
no_more schemas s place (Committed t) past not is = by_session t s (λ mine same. (let f = rw mine at is in cc)) (λ other. rw other at is)
no_more schemas s place (RolledBack t) past not is = by_session t s (λ mine same. (let f = rw mine at is in cc)) (λ other. rw other at is)
no_more schemas s place (Undone t keep) past not is =
    by_session t s (λ mine same. touches-drop schemas place (length (own s past) - keep) (own s past) (rw mine at is)) (λ other. rw other at is)
no_more schemas s place e past not is = is

less_apart : (schemas : List Schema) (e : Event) (past : List Event) → changes_rows e ≡ false → AllApart schemas past → AllApart schemas (e ∷ past)
less_apart schemas e past not apart s t differ place there is =
    elim (touches schemas (own t (e ∷ past)) place) as (λ b. touches schemas (own t (e ∷ past)) place ≡ b → b ≡ false) [
      | true ↦ λ both. let f =
          apart s t differ place there (no_more schemas s place e past not is) in let g = no_more schemas t place e past not both in (let h = sym g ∙ f in cc)
      | false ↦ λ none. refl
    ] refl

module _ (says : Language) (schemas more : List Schema) where
  change_apart : (u : ℕ) (change : Change) (past : List Event) → (newest past).schemas ≡ schemas ++ more
      → ((place : Place) → place_of (newest past).schemas change ≡ Some place → (other : ℕ) → other ≢ u → Spares (newest past) place (own other past))
      → AllApart schemas past → AllApart schemas (Changed u change ∷ past)
  change_apart u change past tables free apart s t differ place there is =
      let missed : (other : ℕ) → other ≢ u → is_change_at schemas place change ≡ true → touches schemas (own other past) place ≡ false =
      λ other others at. spared schemas more (newest past) place (own other past) tables there
      (free place (ap (λ (ss : List Schema). place_of ss change) tables ∙ place_there schemas more place change there at) other others) in
      by_session u s
      (λ mine same.
      let not_t : t ≢ u = λ e. differ (sym (e ∙ same)) in
      by_session u t (λ m e. absurd (not_t (sym e)))
      (λ other. rw other
      (elim (is_change_at schemas place change) as
      (λ b. is_change_at schemas place change ≡ b → (b || touches schemas (own s past) place) ≡ true → touches schemas (own t past) place ≡ false) [
        | true ↦ λ at e. missed t not_t at
        | false ↦ λ at e. apart s t differ place there e
      ] refl (rw mine at is))))
      (λ other_s.
      let before = rw other_s at is in
      by_session u t
      (λ mine same. rw mine
      (or_false (is_change_at schemas place change) (touches schemas (own t past) place)
      (elim (is_change_at schemas place change) as (λ b. is_change_at schemas place change ≡ b → b ≡ false) [
        | true ↦ λ at. let f = missed s (λ e. differ (e ∙ same)) at in (let g = sym before ∙ f in cc)
        | false ↦ λ at. refl
      ] refl)
      (apart s t differ place there before)))
      (λ other_t. rw other_t (apart s t differ place there before)))

  -- a legal entry keeps them apart
  pub free_always : (e : Event) (past : List Event) → MayFollow says past e → (newest past).schemas ≡ schemas ++ more → AllApart schemas past
      → AllApart schemas (e ∷ past)
  free_always (Changed u change) past legal tables apart = change_apart u change past tables legal.2.free apart
  free_always (Begin t n l) past legal tables apart = less_apart schemas (Begin t n l) past refl apart
  free_always e past legal tables apart = less_apart schemas e past refl apart
