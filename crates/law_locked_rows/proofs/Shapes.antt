-- What a key tells of a place while a change of it is under way: versions of who makes it, and those that were there before. So this half of
-- `OwnsEntries` follows from what is held already.
use Rattle.std.proofs.Common.{arith, ◌≡◌, ◌∙◌, ◌⊎◌, inl, inr, refl, sym, ap, subst, ℕ, Bool, true, cond, List, ◌∷◌, ◌++◌, Option, None, Some}
use Rattle.std.proofs.lemmas.Bool.{cases_lt, cases_eq, true≢false}
use Rattle.std.proofs.lemmas.Bool.Decides.{eqb_tells}
use Rattle.std.specs.Prelude.{◌||◌}
use Rattle.std.specs.List.{list_any}
use Rattle.inno_types.specs.{declared.value.Value.Value}
use Rattle.inno_db.specs.declared.change.Change.{Change}
use Rattle.inno_model.specs.Past.{own}
use Rattle.key_codec.specs.Keys.{HasEntry}
use Rattle.row_versions.specs.{declared.place.Place.Place, declared.version.Version.Version, Chains.Chains, Chains.versions_at}
use Rattle.law_stored_rows.specs.{Edits.key_index, Tables.Said}
use Rattle.law_past_agreement.specs.{Rows.is_at, Rows.row_of, Ids.id_of, Agreement.versions_of}
use Rattle.world.specs.{State.WorldState, Told.pairs_of}
use Rattle.law_world_agreement.specs.Agreement.{Agrees}
use Rattle.row_changes.specs.{Told.AreRowsAs, Keys.gone, Keys.said_next, Keys.SaySoFar, declared.entry_put.EntryPut.EntryPut}
use Rattle.law_other_places.proofs.Gluing.{marks_at}
use Rattle.law_locked_rows.proofs.Marks.{told_newest}
use Rattle.law_locked_rows.specs.Entries.{IsKeyed, newest_has}

-- it tells versions in front of those from before
pub record TellsFronts (chains : Chains) (said : Said) (state : WorldState) (t : ℕ) (place : Place) (at : ℕ) (keyed : IsKeyed place at state) : Type 0 where
  pub fronts : List Version
  pub behind : List Version
  pub versions : versions_at place chains ≡ versions_of (id_of state.past t) (is_at state.schemas place) (own t state.past) ++ behind
  pub tells : (value : Value) → HasEntry keyed.indexed.kind value
      → newest_has keyed.key.column value (fronts ++ behind) ≡ newest_has keyed.key.column value (said place.table at place.key)

-- the versions of who has changed the place, and those from before
pub parts_of : {chains : Chains} {state : WorldState} (agrees : Agrees chains state) (t : ℕ) (place : Place)
    → list_any (is_at state.schemas place) (own t state.past) ≡ true
    → (behind : List Version) × (versions_at place chains ≡ versions_of (id_of state.past t) (is_at state.schemas place) (own t state.past) ++ behind)
parts_of {chains} {state} agrees t place changed =
    let is = agrees.lists.rows place in
    elim (eqb_tells is.0 t) [
      | inl same ↦ (
        is.1.behind,
        is.1.parts
            ∙ ap (λ (n : ℕ). versions_of (id_of state.past n) (is_at state.schemas place) (own n state.past) ++ is.1.behind) same.1,
      )
      | inr other ↦ absurd (true≢false (sym changed ∙ is.1.alone t (λ me. other.1 (sym me))))
    ]

-- two coded readings of one world tell alike which entry of a place stands without a mark
module _ {chains : Chains} {state : WorldState} {said mine : Said} (coded : AreRowsAs chains said state) (own_coded : AreRowsAs chains mine state) where
  pub same_told : (place : Place) (at : ℕ) (keyed : IsKeyed place at state) (value : Value) → HasEntry keyed.indexed.kind value
      → newest_has keyed.key.column value (mine place.table at place.key) ≡ newest_has keyed.key.column value (said place.table at place.key)
  same_told place at keyed value has_entry =
      let a = own_coded.keyed.keys place.table at keyed.schema keyed.key keyed.there keyed.key_is in
      let b = coded.keyed.keys place.table at keyed.schema keyed.key keyed.there keyed.key_is in
      let ps : a.primary ≡ keyed.primary = cc (keyed.primary_is, a.primary_is) in
      let qs : a.indexed ≡ keyed.indexed = cc (keyed.indexed_is, a.indexed_is) in
      let p : b.primary ≡ keyed.primary = cc (keyed.primary_is, b.primary_is) in
      let q : b.indexed ≡ keyed.indexed = cc (keyed.indexed_is, b.indexed_is) in
      told_newest keyed.key.column value (mine place.table at place.key) (marks_at keyed.schema keyed.key.column (pairs_of state (key_index place.table at))
      (mine place.table at) a place.key value keyed.primary keyed.indexed ps qs keyed.has_key has_entry)
      ∙ sym (told_newest keyed.key.column value (said place.table at place.key) (marks_at keyed.schema keyed.key.column
      (pairs_of state (key_index place.table at)) (said place.table at) b place.key value keyed.primary keyed.indexed p q keyed.has_key has_entry))

-- ---- while keys take over a change

-- what it says of the place: all, all but the newest, or that with a version without a row in front
abbrev pub IsOneOf : List Version → List Version → List Version → Type 0
IsOneOf whole older told = (told ≡ whole) ⊎ ((told ≡ older) ⊎ (told ≡ gone ∷ older))

next_one : (whole : List Version) (put : Option EntryPut) (before : Option (List Value)) (older : List Version) → IsOneOf whole older
    (said_next put before older)
next_one whole None before older = inr (inl refl)
next_one whole (Some put) None older = inr (inl refl)
next_one whole (Some put) (Some row) older = inr (inr refl)

pub one_so_far : {chains : Chains} {beside said : Said} {place : Place} (done : ℕ) (put : Option EntryPut) (before : Option (List Value)) (older : List Version)
    → SaySoFar chains beside place done (said_next put before older) older said → (which : ℕ)
    → IsOneOf (versions_at place chains) older (said place.table which place.key)
one_so_far {chains} {beside} {said} {place} done put before older is which = elim (cases_lt which done) [
  | inl less ↦ inl (is.first which less)
  | inr not_less ↦ elim (cases_eq which done) [
    | inl same ↦ subst (λ n. IsOneOf (versions_at place chains) older (said place.table n place.key)) (sym same)
        (subst (IsOneOf (versions_at place chains) older) (sym is.here) (next_one (versions_at place chains) put before older))
    | inr differs ↦ inr (inl (is.later which (omega (arith, not_less, differs))))
  ]
]

module _ {chains : Chains} {state : WorldState} {said mine : Said} (agrees : Agrees chains state) (coded : AreRowsAs chains said state)
    (own_coded : AreRowsAs chains mine state) (t : ℕ) (place : Place) (change : Change) (before : List Change) (own_is : own t state.past ≡ change ∷ before)
    (at_place : is_at state.schemas place change ≡ true) (version : Version) (older : List Version) (pushed : versions_at place chains ≡ version ∷ older)
    (at : ℕ) (keyed : IsKeyed place at state) (one : IsOneOf (versions_at place chains) older (mine place.table at place.key)) where
  abbrev here : Change → Bool
  here = is_at state.schemas place

  changed : list_any here (own t state.past) ≡ true
  changed = ap (list_any here) own_is ∙ ap (λ b. b || list_any here before) at_place

  parts : (behind : List Version) × (versions_at place chains ≡ versions_of (id_of state.past t) here (own t state.past) ++ behind)
  parts = parts_of agrees t place changed

  older_is : older ≡ versions_of (id_of state.past t) here before ++ parts.0
  older_is =
      let whole : version ∷ older ≡ record { writer = id_of state.past t; row = row_of change } ∷ (versions_of (id_of state.past t) here before ++ parts.0)
      = sym pushed ∙ parts.1 ∙ ap (λ changes. versions_of (id_of state.past t) here changes ++ parts.0) own_is
      ∙ ap (λ b. cond b (record { writer = id_of state.past t; row = row_of change } ∷ versions_of (id_of state.past t) here before)
      (versions_of (id_of state.past t) here before) ++ parts.0) at_place in
      tails whole
    where
      tails : {v w : Version} {vs ws : List Version} → v ∷ vs ≡ w ∷ ws → vs ≡ ws
      tails e = cc

  pub tells_fronts : TellsFronts chains said state t place at keyed
  tells_fronts = elim one [
    | inl all ↦ tells (versions_of (id_of state.past t) here (own t state.past)) (all ∙ parts.1)
    | inr rest ↦ elim rest [
      | inl less ↦ tells (versions_of (id_of state.past t) here before) (less ∙ older_is)
      | inr cleared ↦ tells (gone ∷ versions_of (id_of state.past t) here before) (cleared ∙ ap (λ (vs : List Version). gone ∷ vs) older_is)
    ]
  ]
    where
      tells : (fronts : List Version) → mine place.table at place.key ≡ fronts ++ parts.0 → TellsFronts chains said state t place at keyed
      tells fronts is = record {
        fronts = fronts;
        behind = parts.0;
        versions = parts.1;
        tells = λ value has_entry. ap (newest_has keyed.key.column value) (sym is) ∙ same_told coded own_coded place at keyed value has_entry;
      }
