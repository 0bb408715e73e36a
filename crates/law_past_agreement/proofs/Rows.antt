-- What one more entry does to the versions of a place.
use Rattle.std.proofs.Common.{◌≡◌, ◌≢◌, ℕ, ◌+◌, ◌<◌, Bool, true, false, cond, nat_lt, Option, List, [], ◌∷◌, ◌++◌, length}
use Rattle.std.proofs.Common.{◌==◌, ◌||◌, refl, sym, ap, subst, ◌∙◌, ◌⊎◌, inl, inr, arith}
use Rattle.std.proofs.lemmas.Bool.Decides.{nat_tests, eqb_tells}
use Rattle.std.proofs.lemmas.Bool.{cases_lt, cases_Bool, false≢true}
use Rattle.std.specs.List.{AllByRecursion, list_any}
use Rattle.inno_types.specs.declared.value.Value.{Value}
use Rattle.inno_db.specs.declared.change.Change.{Change}
use Rattle.inno_model.specs.{declared.event.Event.Event, declared.event.Event.TheVariants.Changed, declared.event.Event.TheVariants.Undone}
use Rattle.inno_model.specs.{declared.event.Event.TheVariants.Committed}
use Rattle.inno_model.specs.Past.{own, commits, committed, IsOpen}
use Rattle.read_view.specs.Sight.{Sight, is_seen}
use Rattle.row_versions.specs.{declared.version.Version.Version, Chains.sees, Chains.first_seen, Chains.newest, Chains.older}
use Rattle.law_past_agreement.specs.{Ids.id_of, Ids.is_among, Ids.is_settled, Rows.row_of, Rows.row_at, Rows.seen}
use Rattle.law_past_agreement.specs.Agreement.{IsSettled, IsViewOf, versions_of, AreVersionsBy, AreVersions}
use Rattle.law_past_agreement.proofs.{Ids.AreIds, Opens.all_weaker, Standing.settled_more, Standing.needed_before, Standing.is_among_all}

-- A reader who doesn't see the transaction sees what is behind.
pub seen_past : (p : ℕ → Bool) (id : ℕ) (at : Change → Bool) (changes : List Change) (behind : List Version) → p id ≡ false
    → first_seen p (versions_of id at changes ++ behind) ≡ first_seen p behind
seen_past p id at [] behind is = refl
seen_past p id at (change ∷ changes) behind is = grind (arith, nat_tests, is, seen_past p id at changes behind is)

-- Two readers who see alike among the writers see the same.
pub seen_alike : (p q : ℕ → Bool) (P : ℕ → Type 0) → ((id : ℕ) → P id → p id ≡ q id) → (vs : List Version) → AllByRecursion (λ v. P v.writer) vs
    → first_seen p vs ≡ first_seen q vs
seen_alike p q P same [] all = refl
seen_alike p q P same (v ∷ vs) all = rw (same v.writer all.0, seen_alike p q P same vs all.1) refl

-- Who sees all sees the newest.
pub newest_all : (vs : List Version) → newest vs ≡ first_seen (λ id. true) vs
newest_all [] = refl
newest_all (v ∷ vs) = refl

-- what is settled stays so
settled_on : (e : Event) (h : List Event) (vs : List Version) → AllByRecursion (λ (v : Version). IsSettled h v.writer) vs
    → AllByRecursion (λ (v : Version). IsSettled (e ∷ h) v.writer) vs
settled_on e h vs all =
    all_weaker (λ (u : Version). IsSettled h u.writer) (λ (u : Version). IsSettled (e ∷ h) u.writer) (λ u c. settled_more e h u.writer c) vs all

-- what is settled is among all commits, or older
settled_now : (h : List Event) (id : ℕ) → IsSettled h id → is_settled h (commits h) id ≡ true
settled_now h id settled = grind (arith, nat_tests, is_among_all h, settled)

pub own_undone : (t keep : ℕ) (change : Change) (before : List Change) (h : List Event) → own t h ≡ change ∷ before → length (own t h) ≡ keep + 1
    → own t (Undone t keep ∷ h) ≡ before
own_undone t keep change before h is count = grind (arith, nat_tests, is, count)

-- Of a place: what stood there at the opening, and which changes are of it.
module _ (opened : Option (List Value)) (at : Change → Bool) where
  -- no changes, no versions
  versions_of-none : (id : ℕ) (changes : List Change) → list_any at changes ≡ false → versions_of id at changes ≡ []
  versions_of-none id [] none = refl
  versions_of-none id (change ∷ changes) none = grind (arith, nat_tests, versions_of-none id changes, none)

  pub row_at-append : (xs ys : List Change) → list_any at xs ≡ false → row_at opened at (xs ++ ys) ≡ row_at opened at ys
  row_at-append [] ys none = refl
  row_at-append (change ∷ xs) ys none = grind (arith, nat_tests, row_at-append xs ys, none)

  -- A reader who sees the transaction sees its newest row, else what is behind.
  seen_own : (p : ℕ → Bool) (id : ℕ) (changes : List Change) (behind : List Version) (under : List Change) → p id ≡ true
      → first_seen p behind ≡ row_at opened at under → first_seen p (versions_of id at changes ++ behind) ≡ row_at opened at (changes ++ under)
  seen_own p id [] behind under is same = same
  seen_own p id (change ∷ changes) behind under is same = grind (arith, nat_tests, is, seen_own p id changes behind under is same)

  -- An entry that changes no rows and commits nothing leaves the versions, if it gives no id where there are changes.
  pub rows_stay : {vs : List Version} (e : Event) (h : List Event) → ((s : ℕ) → (own s h ≡ []) ⊎ (id_of (e ∷ h) s ≡ id_of h s))
      → ((s : ℕ) → own s (e ∷ h) ≡ own s h) → ((n id : ℕ) → is_among (e ∷ h) n id ≡ is_among h n id) → ((n : ℕ) → committed n (e ∷ h) ≡ committed n h)
      → AreVersions h opened at vs → AreVersions (e ∷ h) opened at vs
  rows_stay e h same-id same-own same-among same-committed v = (
    v.0,
    record {
      behind = v.1.behind;
      parts = v.1.parts ∙ elim (same-id v.0) [ inl none ↦ rw (same-own v.0, none) refl | inr same ↦ rw (same, same-own v.0) refl ];
      alone = λ s differ. ap (list_any at) (same-own s) ∙ v.1.alone s differ;
      are_settled = settled_on e h v.1.behind v.1.are_settled;
      reads = λ n needed.
          seen_alike (is_settled (e ∷ h) n) (is_settled h n) (IsSettled h) (λ id c. ap (λ b. id == 0 || b) (same-among n id)) v.1.behind v.1.are_settled
          ∙ (v.1.reads n (needed_before e h n needed) ∙ ap (row_at opened at) (sym (same-committed n)));
    },
  )

  -- Where no other session has changes of the place, a session can be taken for its writer.
  by_writer : {vs : List Version} (h : List Event) (t : ℕ) → ((s : ℕ) → s ≢ t → list_any at (own s h) ≡ false) → AreVersions h opened at vs
      → AreVersionsBy h t opened at vs
  by_writer h t lone v =
      record {
        behind = v.1.behind;
        parts = grind
            (arith, eqb_tells v.0 t, v.1.parts, versions_of-none (id_of h v.0) (own v.0 h), versions_of-none (id_of h t) (own t h), lone v.0, v.1.alone t);
        alone = lone;
        are_settled = v.1.are_settled;
        reads = v.1.reads;
      }

  -- the newest row of a place, as its one writer sees it
  pub newest_is : {vs : List Version} (h : List Event) (w : ℕ) → AreVersionsBy h w opened at vs → newest vs ≡ row_at opened at (seen h w (commits h))
  newest_is {vs} h w v =
      newest_all vs ∙ (ap (first_seen (λ id. true)) v.parts ∙ seen_own (λ id. true) (id_of h w) (own w h) v.behind (committed (commits h) h) refl
      (seen_alike (λ id. true) (is_settled h (commits h)) (IsSettled h) (λ id c. sym (settled_now h id c)) v.behind v.are_settled
      ∙ v.reads (commits h) (inl (omega arith))))

  -- ---- a change

  -- a transaction without an id has no changes, so its versions do not depend on it
  own_versions : (t : ℕ) (change : Change) (h : List Event) → AreIds h
      → versions_of (id_of (Changed t change ∷ h) t) at (own t h) ≡ versions_of (id_of h t) at (own t h)
  own_versions t change h ids = grind (arith, nat_tests, ids.no_id t)

  -- the versions of who may be taken for the writer
  changed_by : {old new : List Version} (w t : ℕ) (change : Change) (h : List Event) → AreIds h → (at change ≡ true → w ≡ t)
      → new ≡ cond (at change) (record { writer = id_of (Changed t change ∷ h) t; row = row_of change } ∷ old) old
      → AreVersionsBy h w opened at old → AreVersionsBy (Changed t change ∷ h) w opened at new
  changed_by w t change h ids mine given by =
      record {
        behind = by.behind;
        parts = grind (arith, nat_tests, given, mine, by.parts, own_versions t change h ids);
        alone = λ s other. grind (arith, nat_tests, mine, by.alone s other);
        are_settled = settled_on (Changed t change) h by.behind by.are_settled;
        reads = λ n needed. by.reads n (needed_before (Changed t change) h n needed);
      }

  -- A change of the place, where no other session has one; or one that isn't of the place.
  pub rows_changed : {old new : List Version} (t : ℕ) (change : Change) (h : List Event) → AreIds h
      → (at change ≡ true → (s : ℕ) → s ≢ t → list_any at (own s h) ≡ false)
      → new ≡ cond (at change) (record { writer = id_of (Changed t change ∷ h) t; row = row_of change } ∷ old) old
      → AreVersions h opened at old → AreVersions (Changed t change ∷ h) opened at new
  rows_changed t change h ids lone given v =
      elim (cases_Bool (at change)) [
        | inl here ↦ (t, changed_by t t change h ids (λ is. refl) given (by_writer h t (lone here) v))
        | inr apart ↦ (v.0, changed_by v.0 t change h ids (λ is. absurd (false≢true (sym apart ∙ is))) given v.1)
      ]

  -- a change that is taken back
  pub rows_undone : {old new : List Version} (t keep : ℕ) (change : Change) (before : List Change) (h : List Event) → own t h ≡ change ∷ before
      → length (own t h) ≡ keep + 1 → new ≡ cond (at change) (older old) old → AreVersions h opened at old → AreVersions (Undone t keep ∷ h) opened at new
  rows_undone t keep change before h is count given v =
      let by = v.1 in
      let now = own_undone t keep change before h is count in (
        v.0,
        record {
          behind = by.behind;
          parts = grind (arith, nat_tests, given, by.parts, is, now, by.alone t);
          alone = λ s other. grind (arith, nat_tests, is, now, by.alone s other);
          are_settled = settled_on (Undone t keep) h by.behind by.are_settled;
          reads = λ n needed. by.reads n (needed_before (Undone t keep) h n needed);
        },
      )

  -- ---- a commit

  all_versions_of : (P : ℕ → Type 0) (id : ℕ) (changes : List Change) (behind : List Version) → P id → AllByRecursion (λ (v : Version). P v.writer) behind
      → AllByRecursion (λ (v : Version). P v.writer) (versions_of id at changes ++ behind)
  all_versions_of P id [] behind p all = all
  all_versions_of P id (change ∷ changes) behind p all =
      grind (arith, p, all_versions_of P id changes behind p all)

  -- what a reader finds of a transaction without changes, or whom it sees or not
  seen_either : (p : ℕ → Bool) (id : ℕ) (b : Bool) (changes : List Change) (behind : List Version) (under : List Change) → (changes ≡ []) ⊎ (p id ≡ b)
      → first_seen p behind ≡ row_at opened at under
      → first_seen p (versions_of id at changes ++ behind) ≡ row_at opened at (cond b (changes ++ under) under)
  seen_either p id b changes behind under why same =
      grind (arith, nat_tests, why, same, seen_own p id changes behind under, seen_past p id at changes behind)

  -- A commit makes the writer's versions committed ones, and leaves those of others.
  module _ (t : ℕ) (h : List Event) (is-open : IsOpen t h) (ids : AreIds h) where
    -- what was settled is not of this transaction
    settled_before : (n id : ℕ) → IsSettled h id → is_settled (Committed t ∷ h) n id ≡ is_settled h n id
    settled_before n id settled = grind (arith, nat_tests, settled, ids.open_not_among t)

    settled_behind : (n : ℕ) (behind : List Version) → AllByRecursion (λ (u : Version). IsSettled h u.writer) behind
        → first_seen (is_settled (Committed t ∷ h) n) behind ≡ first_seen (is_settled h n) behind
    settled_behind n behind all = seen_alike (is_settled (Committed t ∷ h) n) (is_settled h n) (IsSettled h) (settled_before n) behind all

    -- its versions are among the commits from now on, if it wrote
    now_among : (n : ℕ) → (own t h ≡ []) ⊎ (is_settled (Committed t ∷ h) n (id_of h t) ≡ nat_lt (commits h) n)
    now_among n = grind (arith, nat_tests, ids.open_not_among t n is-open, ids.no_id t)

    now_settled : (behind : List Version) → AllByRecursion (λ (v : Version). IsSettled h v.writer) behind
        → AllByRecursion (λ (v : Version). IsSettled (Committed t ∷ h) v.writer) (versions_of (id_of h t) at (own t h) ++ behind)
    now_settled behind all =
        elim (cases_lt 0 (id_of h t)) [
          | inl some ↦ all_versions_of (IsSettled (Committed t ∷ h)) (id_of h t) (own t h) behind (inr (commits h + 1, grind (arith, nat_tests, some)))
              (settled_on (Committed t) h behind all)
          | inr le ↦ let none : own t h ≡ [] = ids.no_id t (omega (arith, le)) in rw none (settled_on (Committed t) h behind all)
        ]

    committed_here : {vs : List Version} → AreVersionsBy h t opened at vs → AreVersionsBy (Committed t ∷ h) t opened at vs
    committed_here {vs} by =
        let none : own t (Committed t ∷ h) ≡ [] = grind (arith, nat_tests) in
        record {
          behind = vs;
          parts = ap (λ changes. versions_of (id_of h t) at changes ++ vs) (sym none);
          alone = λ s other. grind (arith, nat_tests, by.alone s other, other);
          are_settled = subst (AllByRecursion (λ (u : Version). IsSettled (Committed t ∷ h) u.writer)) (sym by.parts) (now_settled by.behind by.are_settled);
          reads = λ n needed.
              ap (first_seen (is_settled (Committed t ∷ h) n)) by.parts
              ∙ seen_either (is_settled (Committed t ∷ h) n) (id_of h t) (nat_lt (commits h) n) (own t h) by.behind (committed n h) (now_among n)
              (settled_behind n by.behind by.are_settled ∙ by.reads n (needed_before (Committed t) h n needed));
        }

    committed_there : {vs : List Version} (w : ℕ) → w ≢ t → AreVersionsBy h w opened at vs → AreVersionsBy (Committed t ∷ h) w opened at vs
    committed_there w differ by =
        record {
          behind = by.behind;
          parts = grind (arith, nat_tests, by.parts, differ);
          alone = λ s other. grind (arith, nat_tests, by.alone s other);
          are_settled = settled_on (Committed t) h by.behind by.are_settled;
          reads = λ n needed.
              settled_behind n by.behind by.are_settled
              ∙ (by.reads n (needed_before (Committed t) h n needed) ∙ grind
              (arith, nat_tests, row_at-append (own t h) (committed n h) (by.alone t (λ same. differ (sym same)))));
        }

    pub rows_committed : {vs : List Version} → AreVersions h opened at vs → AreVersions (Committed t ∷ h) opened at vs
    rows_committed {vs} v =
        elim (eqb_tells v.0 t) [
          | inl same ↦ (t, committed_here (subst (λ w. AreVersionsBy h w opened at vs) same.1 v.1))
          | inr differ ↦ (v.0, committed_there v.0 differ.1 v.1)
        ]

  -- ---- what a view finds

  module _ (h : List Event) (s n : ℕ) (sight : Sight) (ids : AreIds h) (is-open : IsOpen s h) (view : IsViewOf h s n sight) where
    -- The versions of another open transaction are passed over.
    other_unseen : (w : ℕ) → w ≢ s → (own w h ≡ []) ⊎ (sees (id_of h s) sight (id_of h w) ≡ false)
    other_unseen w differ =
        let unseen : IsOpen w h → 0 < id_of h w → is_seen sight (id_of h w) ≡ false =
        λ open-w some. view.alike (id_of h w) (inr (w, open-w, refl, some)) (λ same. differ (ids.distinct w s open-w is-open some same))
        ∙ ids.open_not_among w n open-w in
        grind (arith, nat_tests, unseen, differ, ids.no_id w, ids.closed w, ids.distinct w s)

    -- What is settled is seen where it is among the first n, or older.
    settled_alike : (id : ℕ) → IsSettled h id → sees (id_of h s) sight id ≡ is_settled h n id
    settled_alike id settled = grind (arith, nat_tests, settled, view.earlier, view.alike id, ids.open_not_among s, ids.among_some)

    -- What a view's ids and the reader's own find among a place's versions is what the view and the own changes have.
    pub seen_is_snapshot : {vs : List Version} → AreVersions h opened at vs → first_seen (sees (id_of h s) sight) vs ≡ row_at opened at (seen h s n)
    seen_is_snapshot v =
        let by = v.1 in
        let behind : first_seen (sees (id_of h s) sight) by.behind ≡ row_at opened at (committed n h) =
        seen_alike (sees (id_of h s) sight) (is_settled h n) (IsSettled h) settled_alike by.behind by.are_settled
        ∙ by.reads n (inr (s, is-open, view.is-view)) in
        ap (first_seen (sees (id_of h s) sight)) by.parts ∙ elim (eqb_tells v.0 s) [
          | inl same ↦
              seen_either (sees (id_of h s) sight) (id_of h v.0) true (own v.0 h) by.behind (committed n h)
              (inr (let me : id_of h v.0 ≡ id_of h s = ap (id_of h) same.1 in grind (arith, nat_tests, me))) behind
              ∙ ap (λ w. row_at opened at (own w h ++ committed n h)) same.1
          | inr differ ↦
              seen_either (sees (id_of h s) sight) (id_of h v.0) false (own v.0 h) by.behind (committed n h) (other_unseen v.0 differ.1) behind
              ∙ sym (row_at-append (own s h) (committed n h) (by.alone s (λ same. differ.1 (sym same))))
        ]

  -- ---- another test that picks the same changes

  module _ (at' : Change → Bool) where
    alike_all : (id : ℕ) (changes : List Change) → AllByRecursion (λ change. at' change ≡ at change) changes
        → (versions_of id at' changes ≡ versions_of id at changes) × (row_at opened at' changes ≡ row_at opened at changes) ×
        (list_any at' changes ≡ list_any at changes)
    alike_all id [] alike = (refl, refl, refl)
    alike_all id (change ∷ changes) alike =
        let rest = alike_all id changes alike.1 in (rw (alike.0, rest.0) refl, rw (alike.0, rest.1) refl, rw (alike.0, rest.2) refl)

    pub rows_alike : {vs : List Version} (h : List Event) → ((s : ℕ) → AllByRecursion (λ change. at' change ≡ at change) (own s h))
        → ((n : ℕ) → AllByRecursion (λ change. at' change ≡ at change) (committed n h)) → AreVersions h opened at vs → AreVersions h opened at' vs
    rows_alike h own-alike committed-alike v = (
      v.0,
      record {
        behind = v.1.behind;
        parts = v.1.parts ∙ ap (λ (ws : List Version). ws ++ v.1.behind) (sym (alike_all (id_of h v.0) (own v.0 h) (own-alike v.0)).0);
        alone = λ s other. (alike_all 0 (own s h) (own-alike s)).2 ∙ v.1.alone s other;
        are_settled = v.1.are_settled;
        reads = λ n needed. v.1.reads n needed ∙ sym (alike_all 0 (committed n h) (committed-alike n)).1;
      },
    )
