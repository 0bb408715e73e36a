-- A transaction's own versions stand in front, and the first behind them is the row of the last commit.
-- `Unmet` tells by it which rows a commit changes. Versions are those of the world's chains.
use Rattle.std.proofs.Common.{◌≡◌, ◌∙◌, ap, sym, subst, refl, ℕ, ◌<◌, Bool, true, false, List, [], ◌∷◌, ◌++◌, Option, inl, inr, arith}
use Rattle.std.specs.Prelude.{◌==◌, ◌||◌, if◌then◌else◌}
use Rattle.std.specs.List.{AllByRecursion, list_any}
use Rattle.std.proofs.lemmas.Bool.Decides.{nat_tests, eqb_tells}
use Rattle.std.proofs.lemmas.Bool.{false≢true}
use Rattle.inno_types.specs.declared.value.Value.{Value}
use Rattle.inno_db.specs.declared.change.Change.{Change}
use Rattle.inno_model.specs.declared.event.Event.{Event}
use Rattle.inno_model.specs.Past.{own, commits, committed, IsOpen}
use Rattle.row_versions.specs.{declared.version.Version.Version, Chains.newest}
use Rattle.law_past_agreement.specs.{Ids.id_of, Ids.is_among, Ids.is_settled, Rows.row_of, Rows.row_at}
use Rattle.law_past_agreement.specs.Agreement.{IsSettled, versions_of, AreVersionsBy}
use Rattle.law_past_agreement.proofs.{Ids.AreIds, Standing.is_among_all, Rows.seen_alike, Rows.newest_all}
use Rattle.law_locked_work.specs.Owned.{front_of, behind_of}

module _ (id : ℕ) where
  abbrev AreOthers : List Version → Type 0
  AreOthers = AllByRecursion (λ (v : Version). (v.writer == id) ≡ false)

  front_none : (behind : List Version) → AreOthers behind → front_of id behind ≡ []
  front_none [] others = refl
  front_none (v ∷ behind) others = rw others.0 refl

  behind_all : (behind : List Version) → AreOthers behind → behind_of id behind ≡ behind
  behind_all [] others = refl
  behind_all (v ∷ behind) others = rw others.0 refl

  own_tie : (id == id) ≡ true
  own_tie = grind (arith, nat_tests)

  pub front_is : (at : Change → Bool) (changes : List Change) (behind : List Version) → AreOthers behind
      → front_of id (versions_of id at changes ++ behind) ≡ versions_of id at changes
  front_is at [] behind others = front_none behind others
  front_is at (change ∷ changes) behind others =
      elim (at change)
      as (λ b. front_of id ((if b then record { writer = id; row = row_of change } ∷ versions_of id at changes else versions_of id at changes) ++ behind)
      ≡ (if b then record { writer = id; row = row_of change } ∷ versions_of id at changes else versions_of id at changes)) [
        | true ↦ rw own_tie (ap (λ (vs : List Version). record { writer = id; row = row_of change } ∷ vs) (front_is at changes behind others))
        | false ↦ front_is at changes behind others
      ]

  pub behind_is : (at : Change → Bool) (changes : List Change) (behind : List Version) → AreOthers behind
      → behind_of id (versions_of id at changes ++ behind) ≡ behind
  behind_is at [] behind others = behind_all behind others
  behind_is at (change ∷ changes) behind others =
      elim (at change)
      as (λ b. behind_of id ((if b then record { writer = id; row = row_of change } ∷ versions_of id at changes else versions_of id at changes) ++ behind)
      ≡ behind) [
        | true ↦ rw own_tie (behind_is at changes behind others)
        | false ↦ behind_is at changes behind others
      ]

  -- where one of the changes is at the place, the newest version is of the transaction
  pub newest_own : (at : Change → Bool) (changes : List Change) (behind : List Version) → list_any at changes ≡ true
      → (v : Version) × (later : List Version) × (versions_of id at changes ≡ v ∷ later) × (newest (versions_of id at changes ++ behind) ≡ v.row)
  newest_own at [] behind some = (cc)
  newest_own at (change ∷ changes) behind some =
      elim (at change)
      as (λ b. at change ≡ b → (b || list_any at changes) ≡ true
      → (v : Version) × (later : List Version)
      × ((if b then record { writer = id; row = row_of change } ∷ versions_of id at changes else versions_of id at changes) ≡ v ∷ later)
      × (newest ((if b then record { writer = id; row = row_of change } ∷ versions_of id at changes else versions_of id at changes) ++ behind) ≡ v.row)) [
        | true ↦ λ is e. (record { writer = id; row = row_of change }, versions_of id at changes, refl, refl)
        | false ↦ λ is e. newest_own at changes behind e
      ] refl some

module _ (h : List Event) (ids : AreIds h) where
  settled_now : (id : ℕ) → IsSettled h id → is_settled h (commits h) id ≡ true
  settled_now id settled = grind (arith, nat_tests, is_among_all h, settled)

  -- what is settled was written by no open transaction that has changes
  settled_other : (t id : ℕ) → IsOpen t h → 0 < id_of h t → IsSettled h id → (id == id_of h t) ≡ false
  settled_other t id is_open some (inl older) = grind (arith, nat_tests, older, some)
  settled_other t id is_open some (inr among) =
      elim (eqb_tells id (id_of h t)) [
        | inl same ↦ absurd (false≢true (sym (ids.open_not_among t among.0 is_open) ∙ subst (λ i. is_among h among.0 i ≡ true) same.1 among.1))
        | inr differ ↦ differ.0
      ]

  pub others_behind : (t : ℕ) → IsOpen t h → 0 < id_of h t → (behind : List Version) → AllByRecursion (λ (v : Version). IsSettled h v.writer) behind
      → AllByRecursion (λ (v : Version). (v.writer == id_of h t) ≡ false) behind
  others_behind t is_open some [] all = tt
  others_behind t is_open some (v ∷ behind) all = (settled_other t v.writer is_open some all.0, others_behind t is_open some behind all.1)

  -- of these the first is the row of the last commit
  pub committed_row : (opened : Option (List Value)) (at : Change → Bool) (versions : List Version) (t : ℕ) (by : AreVersionsBy h t opened at versions)
      → newest by.behind ≡ row_at opened at (committed (commits h) h)
  committed_row opened at versions t by =
      newest_all by.behind
      ∙ (seen_alike (λ id. true) (is_settled h (commits h)) (IsSettled h) (λ id c. sym (settled_now id c)) by.behind by.are_settled
      ∙ by.reads (commits h) (inl (omega arith)))

  -- who has changes has an id
  has_id : (t : ℕ) → (own t h ≡ [] → ⊥) → 0 < id_of h t
  has_id t some = elim (eqb_tells (id_of h t) 0) [
    | inl none ↦ absurd (some (ids.no_id t none.1))
    | inr differ ↦ grind (arith, nat_tests, differ.0)
  ]

  any_some : (at : Change → Bool) (changes : List Change) → list_any at changes ≡ true → changes ≡ [] → ⊥
  any_some at changes some none = false≢true (ap (list_any at) (sym none) ∙ some)

  -- Own versions stand in front, and the first behind them is the row of the last commit.
  pub record IsParted (opened : Option (List Value)) (at : Change → Bool) (t : ℕ) (versions : List Version) : Type 0 where
    pub front : front_of (id_of h t) versions ≡ versions_of (id_of h t) at (own t h)
    pub behind : newest (behind_of (id_of h t) versions) ≡ row_at opened at (committed (commits h) h)

  pub own_in_front : (opened : Option (List Value)) (at : Change → Bool) (versions : List Version) (t : ℕ) → IsOpen t h → list_any at (own t h) ≡ true
      → AreVersionsBy h t opened at versions → IsParted opened at t versions
  own_in_front opened at versions t is_open touched by =
      let others = others_behind t is_open (has_id t (any_some at (own t h) touched)) by.behind by.are_settled in
      record {
        front = ap (front_of (id_of h t)) by.parts ∙ front_is (id_of h t) at (own t h) by.behind others;
        behind = ap (λ (vs : List Version). newest (behind_of (id_of h t) vs)) by.parts
            ∙ (ap newest (behind_is (id_of h t) at (own t h) by.behind others) ∙ committed_row opened at versions t by);
      }
