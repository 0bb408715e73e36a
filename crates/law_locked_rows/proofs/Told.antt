-- Which entries have to be had alone, as a key comes to tell of other versions: each step adds one at most, and that is the one that the step
-- has locked.
use Rattle.std.proofs.Common.{◌≡◌, ◌∙◌, ⊎_elim, refl, sym, ap, ℕ, Bool, true, false, List, [], ◌∷◌, ◌++◌, None}
use Rattle.std.proofs.lemmas.Bool.{cases_Bool, true≢false}
use Rattle.std.specs.Prelude.{◌&&◌, ◌||◌}
use Rattle.std.specs.List.{list_any, list_all}
use Rattle.inno_types.specs.declared.value.Value.{Value}
use Rattle.row_versions.specs.{declared.version.Version.Version, Chains.newest}
use Rattle.law_stored_rows.specs.Entries.{has_value}
use Rattle.law_locked_rows.specs.Entries.{has, some_have, all_have}

-- of each value that some of the rows have, and others not, this holds
abbrev pub OwnsDifferent : ℕ → (Value → Bool) → List Version → List Version → Type 0
OwnsDifferent column mine fronts behind =
    (value : Value) → some_have column value fronts behind ≡ true → all_have column value fronts behind ≡ false → mine value ≡ true

module _ (column : ℕ) (mine : Value → Bool) (behind : List Version) where
  -- the key tells what was there before: nothing has to be had
  pub owns_none : OwnsDifferent column mine [] behind
  owns_none value some all = absurd (true≢false (sym some ∙ all))

  -- what all rows have the newest one has
  all_first : (value : Value) (fronts : List Version) → all_have column value fronts behind ≡ true → has_value column value (newest (fronts ++ behind)) ≡ true
  all_first value [] all = all
  all_first value (front ∷ fronts) all = go (has column value front) refl
    where
      go : (b : Bool) → has column value front ≡ b → has column value front ≡ true
      go true is = is
      go false is = absurd (true≢false (sym all
          ∙ ap (λ b. (b && list_all (has column value) fronts) && has_value column value (newest behind)) is))

  -- the entry of the newest row is marked: a version without a row comes in front
  pub owns_marked : (gone : Version) (fronts : List Version) → gone.row ≡ None
      → ((value : Value) → has_value column value (newest (fronts ++ behind)) ≡ true → mine value ≡ true)
      → OwnsDifferent column mine fronts behind → OwnsDifferent column mine (gone ∷ fronts) behind
  owns_marked gone fronts none locked owns value some all =
      let some_before : some_have column value fronts behind ≡ true
      = ap (λ b. (b || list_any (has column value) fronts) || has_value column value (newest behind)) (sym (ap (has_value column value) none)) ∙ some in
      ⊎_elim (λ every. locked value (all_first value fronts every)) (λ not_every. owns value some_before not_every)
      (cases_Bool (all_have column value fronts behind))

  -- the new row's entry is put: its version comes in place of the one without a row
  pub owns_put : (gone version : Version) (fronts : List Version) → gone.row ≡ None → ((value : Value) → has column value version ≡ true → mine value ≡ true)
      → OwnsDifferent column mine (gone ∷ fronts) behind → OwnsDifferent column mine (version ∷ fronts) behind
  owns_put gone version fronts none locked owns value some all =
      ⊎_elim (λ is. locked value is)
      (λ is_not. owns value
      (ap (λ b. (b || list_any (has column value) fronts) || has_value column value (newest behind)) (ap (has_value column value) none ∙ sym is_not) ∙ some)
      (ap (λ b. (b && list_all (has column value) fronts) && has_value column value (newest behind)) (ap (has_value column value) none)))
      (cases_Bool (has column value version))

  -- or over no row
  pub owns_first : (version : Version) (fronts : List Version) → newest (fronts ++ behind) ≡ None
      → ((value : Value) → has column value version ≡ true → mine value ≡ true) → OwnsDifferent column mine fronts behind
      → OwnsDifferent column mine (version ∷ fronts) behind
  owns_first version fronts none locked owns value some all =
      ⊎_elim (λ is. locked value is)
      (λ is_not. owns value (ap (λ b. (b || list_any (has column value) fronts) || has_value column value (newest behind)) (sym is_not) ∙ some)
      (⊎_elim (λ every. absurd (true≢false (sym (all_first value fronts every) ∙ ap (has_value column value) none))) (λ not_every. not_every)
      (cases_Bool (all_have column value fronts behind))))
      (cases_Bool (has column value version))

  -- a version that has what the newest one has
  pub owns_same : (version : Version) (fronts : List Version)
      → ((value : Value) → has column value version ≡ has_value column value (newest (fronts ++ behind)))
      → OwnsDifferent column mine fronts behind → OwnsDifferent column mine (version ∷ fronts) behind
  owns_same version fronts same owns value some all = go (has column value version) refl
    where
      some_after : (fs : List Version) → has_value column value (newest (fs ++ behind)) ≡ true → some_have column value fs behind ≡ true
      some_after [] is = is
      some_after (front ∷ fs) is = ap (λ b. (b || list_any (has column value) fs) || has_value column value (newest behind)) is

      go : (b : Bool) → has column value version ≡ b → mine value ≡ true
      go true is = owns value (some_after fronts (sym (same value) ∙ is))
          (ap (λ b. (b && list_all (has column value) fronts) && has_value column value (newest behind)) (sym is) ∙ all)
      go false is = owns value (ap (λ b. (b || list_any (has column value) fronts) || has_value column value (newest behind)) (sym is) ∙ some)
          (⊎_elim (λ every. absurd (true≢false (sym (all_first value fronts every) ∙ sym (same value) ∙ is))) (λ not_every. not_every)
          (cases_Bool (all_have column value fronts behind)))

  -- ---- taking back: the version's row goes again, and the entry of the row before is unmarked

  pub owns_taken : (gone version : Version) (fronts : List Version) → gone.row ≡ None
      → ((value : Value) → has column value version ≡ true → has_value column value (newest (fronts ++ behind)) ≡ false)
      → OwnsDifferent column mine (version ∷ fronts) behind → OwnsDifferent column mine (gone ∷ fronts) behind
  owns_taken gone version fronts none lacks owns value some all =
      let behind_some : (list_any (has column value) fronts || has_value column value (newest behind)) ≡ true
      = ap (λ b. (b || list_any (has column value) fronts) || has_value column value (newest behind)) (sym (ap (has_value column value) none)) ∙ some in
      owns value (more (has column value version) (list_any (has column value) fronts) (has_value column value (newest behind)) behind_some)
      (⊎_elim (λ every. absurd (true≢false (sym (all_first value fronts (rest (has column value version) (list_all (has column value) fronts)
      (has_value column value (newest behind)) every)) ∙ lacks value (first_of (has column value version) (list_all (has column value) fronts)
      (has_value column value (newest behind)) every)))) (λ not_every. not_every) (cases_Bool (all_have column value (version ∷ fronts) behind)))
    where
      more : (a b c : Bool) → (b || c) ≡ true → ((a || b) || c) ≡ true
      more true b c is = refl
      more false b c is = is

      rest : (a b c : Bool) → ((a && b) && c) ≡ true → (b && c) ≡ true
      rest true b c is = is
      rest false b c is = absurd (true≢false (sym is))

      first_of : (a b c : Bool) → ((a && b) && c) ≡ true → a ≡ true
      first_of true b c is = refl
      first_of false b c is = absurd (true≢false (sym is))

  -- the version without a row goes
  pub owns_unmarked : (gone : Version) (fronts : List Version) → gone.row ≡ None → OwnsDifferent column mine (gone ∷ fronts) behind
      → OwnsDifferent column mine fronts behind
  owns_unmarked gone fronts none owns value some all =
      owns value (ap (λ b. (b || list_any (has column value) fronts) || has_value column value (newest behind)) (ap (has_value column value) none) ∙ some)
      (ap (λ b. (b && list_all (has column value) fronts) && has_value column value (newest behind)) (ap (has_value column value) none))
