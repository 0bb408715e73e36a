-- The first version whose writer has no open slot is the row that the commits leave.
use Rattle.std.proofs.Common.{◌≡◌, ◌⊎◌, inl, inr, ℕ, ◌<◌, ◌==◌, ◌||◌, Bool, true, false, cond, Option, Some, None, List, [], ◌∷◌, ◌++◌, refl, sym, ap, subst}
use Rattle.std.proofs.Common.{◌∙◌, arith, eq-eqb}
use Rattle.std.specs.Prelude.{is_some}
use Rattle.std.proofs.lemmas.Bool.{cases_eq}
use Rattle.inno_types.specs.declared.value.Value.{Value}
use Rattle.inno_types.specs.declared.lock.Level.{Level}
use Rattle.inno_db.specs.declared.change.Change.{Change}
use Rattle.inno_model.specs.declared.event.Event.{Event}
use Rattle.inno_model.specs.Past.{committed, commits, own, level, IsOpen}
use Rattle.row_versions.specs.declared.place.Place.{Place}
use Rattle.row_versions.specs.declared.version.Version.{Version}
use Rattle.row_versions.specs.Chains.{first_seen}
use Rattle.law_past_agreement.specs.Order.{created, IsOrdered}
use Rattle.law_past_agreement.specs.Ids.{id_of, is_among, is_settled}
use Rattle.law_past_agreement.specs.Rows.{is_at, row_at, row_opened}
use Rattle.law_past_agreement.specs.Agreement.{IsSettled, AreVersions, versions_of}
use Rattle.law_past_agreement.specs.DatabaseTables.{with_all_tables}
use Rattle.law_past_agreement.proofs.Ids.{AreIds, ids_of}
use Rattle.law_past_agreement.proofs.Standing.{is_among_all}
use Rattle.law_past_agreement.proofs.Rows.{seen_past, seen_alike}
use Rattle.law_past_agreement.proofs.Gets.{get_is}
use Rattle.law_past_agreement.proofs.Tables.{committed_tabled}
use Rattle.law_logged_pages.specs.HeldRows.{Shown, Rows, rows_read, AreSlots, rows_after, AreHeld, read_by}
use Rattle.law_logged_pages.specs.Readings.{HeldPagesRead}

module _ (h : List Event) (is_open : ℕ → Bool) (ids : AreIds h) (slots : AreSlots h is_open) where
  abbrev shut : ℕ → Bool
  shut id = cond (is_open id) false true

  -- a committed writer has no open slot
  not_open : (id : ℕ) → IsSettled h id → is_open id ≡ false
  not_open id settled = go (is_open id) refl settled where
    go : (b : Bool) → is_open id ≡ b → IsSettled h id → b ≡ false
    go false is one = refl
    go true is (inl zero) = let s = slots.back id is in absurd (omega (arith, s.3, zero))
    go true is (inr among) =
        let s = slots.back id is in
        let no : is_among h among.0 id ≡ false = subst (λ (n : ℕ). is_among h among.0 n ≡ false) s.2 (ids.open_not_among s.0 among.0 s.1) in
        absurd (let clash : true ≡ false = sym among.1 ∙ no in cc)

  -- it is seen as one of the first commits is
  settled_alike : (id : ℕ) → IsSettled h id → shut id ≡ is_settled h (commits h) id
  settled_alike id settled = ap (λ (b : Bool). cond b false true) (not_open id settled) ∙ sym (go settled) where
    go : IsSettled h id → is_settled h (commits h) id ≡ true
    go (inl zero) = ap (λ (b : Bool). b || is_among h (commits h) id) (eq-eqb id 0 zero)
    go (inr among) = right (id == 0) (is_among h (commits h) id) (is_among_all h among.0 id among.1) where
      right : (b d : Bool) → d ≡ true → (b || d) ≡ true
      right true d is = refl
      right false d is = is

  opened : (s : ℕ) → (changes : List Change) → own s h ≡ changes → (changes ≡ []) ⊎ (IsOpen s h × (0 < id_of h s))
  opened s [] is = inl refl
  opened s (change ∷ more) is = inr (by_level (level s h) refl, some) where
    by_level : (l : Option Level) → level s h ≡ l → is_some l ≡ true
    by_level (Some l) same = refl
    by_level None same = absurd (let clash : change ∷ more ≡ [] = sym is ∙ ids.closed s same in cc)

    some : 0 < id_of h s
    some = elim (cases_eq (id_of h s) 0) [
      | inl zero ↦ absurd (let clash : change ∷ more ≡ [] = sym is ∙ ids.no_id s zero in cc)
      | inr apart ↦ omega (arith, apart)
    ]

  -- the versions of the writer are passed over
  past_own : (at : Change → Bool) (w : ℕ) (behind : List Version) → first_seen shut (versions_of (id_of h w) at (own w h) ++ behind) ≡ first_seen shut behind
  past_own at w behind = elim (opened w (own w h) refl) [
    | inl none ↦ ap (λ (l : List Change). first_seen shut (versions_of (id_of h w) at l ++ behind)) none
    | inr writes ↦ seen_past shut (id_of h w) at (own w h) behind (shut_own w writes)
  ] where
    shut_own : (s : ℕ) → IsOpen s h × (0 < id_of h s) → shut (id_of h s) ≡ false
    shut_own s writes = ap (λ (b : Bool). cond b false true) (slots.there s writes.0 writes.1)

  first_committed : (before : Option (List Value)) (at : Change → Bool) (vs : List Version) → AreVersions h before at vs
      → first_seen shut vs ≡ row_at before at (committed (commits h) h)
  first_committed before at vs are =
      let by = are.1 in
      ap (first_seen shut) by.parts ∙ past_own at are.0 by.behind
      ∙ seen_alike shut (is_settled h (commits h)) (IsSettled h) settled_alike by.behind by.are_settled
      ∙ by.reads (commits h) (inl (omega arith))

  pub row_read : (vs : List Version) (place : Place) → IsOrdered h → AreVersions h (row_opened h place) (is_at (created h) place) vs
      → first_seen (λ id. cond (is_open id) false true) vs ≡ rows_after h (commits h) place
  row_read vs place ordered are =
      first_committed (row_opened h place) (is_at (created h) place) vs are
      ∙ sym (get_is (with_all_tables h) (committed (commits h) h) (committed_tabled h ordered (commits h)) place)

pub held_rows_read : (show : (ℕ → List ℕ) → Shown) → HeldPagesRead (read_by show) AreHeld (λ world pages. show pages ≡ world.shown)
held_rows_read show world after count pages held shows =
    let ids = ids_of world.past held.ordered in
    let each : (place : Place) → rows_read world.shown place ≡ rows_after world.past (commits world.past) place = λ place.
    row_read world.past world.shown.is_open ids held.slots (world.shown.versions place) place held.ordered (held.versions place) in
    let all : rows_read world.shown ≡ rows_after world.past (commits world.past) = λ i place. each place i in
    ap (λ (s : Shown). rows_read s) shows ∙ all
    ∙ sym (ap (λ (f : ℕ → Rows). f count) held.rows_are ∙ ap (λ (n : ℕ). rows_after world.past n) held.count_is)
