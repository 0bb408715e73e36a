-- What becomes of the agreement of rows and transactions with the past, and what readers find.
use Rattle.std.proofs.Common.{◌≡◌, ◌≢◌, ℕ, ◌+◌, true, List, [], ◌∷◌, ◌++◌, length, refl, sym, ap, ◌∙◌, inl, inr, arith}
use Rattle.std.proofs.lemmas.Bool.Decides.{nat_tests}
use Rattle.std.proofs.lemmas.Bool.{false≢true}
use Rattle.std.specs.List.{AllByRecursion}
use Rattle.std.specs.FinMap.{get}
use Rattle.inno_types.specs.{declared.value.Schema.Schema}
use Rattle.inno_db.specs.{Database.Database, declared.change.Change.Change, declared.change.Change.TheVariants.Create}
use Rattle.inno_model.specs.declared.event.Event.{Event}
use Rattle.inno_model.specs.declared.event.Event.TheVariants.{Opened, View, Changed}
use Rattle.inno_model.specs.Past.{own, commits, committed, IsOpen}
use Rattle.read_view.specs.Sight.{Sight}
use Rattle.txn_table.specs.Txns.{ids_of as active_of}
use Rattle.row_versions.specs.{declared.place.Place.Place, declared.version.Version.Version}
use Rattle.row_versions.specs.Chains.{Chains, in_model, versions_at, first_seen, newest, sees}
use Rattle.law_past_agreement.specs.{Ids.given, Ids.id_of, Ids.is_settled, Ids.opens}
use Rattle.law_past_agreement.specs.{Order.created, Order.IsOrdered, Order.IsTabled}
use Rattle.law_past_agreement.specs.Rows.{is_at, row_opened, row_seen, IsNewestSeen}
use Rattle.law_past_agreement.specs.Agreement.{IsSettled, IsOpenedWith, IsViewOf, AreVersions}
use Rattle.law_past_agreement.proofs.{Ids.ids_of, Tables.at_stays, Tables.own_tabled, Tables.committed_tabled, Standing.is_among_all, Standing.standing_some}
use Rattle.law_past_agreement.proofs.Opens.{active_open, active_none, zero_inactive, all_weaker}
use Rattle.law_past_agreement.proofs.Rows as versions

-- ---- transactions

-- what is taken for a view now, whoever asks it
pub view_now : (h : List Event) → IsOrdered h → (s : ℕ)
    → IsViewOf (View s ∷ h) s (commits h) (record { active = active_of (opens h); own = 0; next = given h + 1 })
view_now h ordered s =
    let ids = ids_of h ordered in
    record {
      is-view = grind (arith, nat_tests);
      within = omega arith;
      earlier = let inactive = zero_inactive (opens h) in grind (arith, nat_tests, inactive);
      later = λ id lt. grind (arith, nat_tests, lt);
      alike = λ id standing differ.
          let some = standing_some (View s ∷ h) id standing in
          elim standing [
            | inl c ↦
                let others : (u : ℕ) → IsOpen u h → id_of h u ≢ id = λ u open-u same. grind (arith, same, c.1, ids.open_not_among u c.0 open-u) in
                grind (arith, nat_tests, some, is_among_all h c.0 id c.1, ids.among_below c.0 id c.1, active_none h ordered id others)
            | inr o ↦ grind (arith, nat_tests, some, o.2, o.3, active_open h ordered o.0 o.1, ids.open_not_among o.0 (commits h) o.1)
          ];
    }

-- ---- rows

-- a table that is made leaves all rows
pub rows_created : {vs : List Version} (h : List Event) → IsOrdered h → (s : ℕ) (schema : Schema) → (place : Place)
    → AreVersions h (row_opened h place) (is_at (created h) place) vs
    → AreVersions (Changed s (Create schema) ∷ h) (row_opened h place) (is_at (created h ++ schema ∷ []) place) vs
rows_created h ordered s schema place v =
    let at = is_at (created h) place in
    let at' = is_at (created h ++ schema ∷ []) place in
    let alike : (changes : List Change) → AllByRecursion (IsTabled (length (created h))) changes → AllByRecursion (λ change. at' change ≡ at change) changes =
    all_weaker (IsTabled (length (created h))) (λ change. at' change ≡ at change) (at_stays (created h) (schema ∷ []) place) in
    versions.rows_changed (row_opened h place) at' s (Create schema) h (ids_of h ordered) (λ is. absurd (false≢true is)) refl
    (versions.rows_alike (row_opened h place) at at' h (λ u. alike (own u h) (own_tabled h ordered u))
    (λ n. alike (committed n h) (committed_tabled h ordered n)) v)

-- Where all versions are older than this history, the newest is the row of the opening.
pub opened_versions : (db : Database) (place : Place) (vs : List Version) → IsOpenedWith (get db.rows (in_model place)) vs
    → AreVersions (Opened db ∷ []) (get db.rows (in_model place)) (is_at db.schemas place) vs
opened_versions db place vs is = (
  0,
  record {
    behind = vs;
    parts = refl;
    alone = λ s differ. refl;
    are_settled = all_weaker (λ (v : Version). v.writer ≡ 0) (λ (v : Version). IsSettled (Opened db ∷ []) v.writer) (λ v zero-is. inl zero-is) vs is.older;
    reads = λ n needed.
        versions.seen_alike (is_settled (Opened db ∷ []) n) (λ id. true) (λ id. id ≡ 0) (λ id none. ap (is_settled (Opened db ∷ []) n) none) vs is.older
        ∙ (sym (versions.newest_all vs) ∙ is.row_is);
  },
)

-- ---- what readers find, where tables and rows are what the past says

module _ (h : List Event) (chains : Chains)
    (rows : (place : Place) → AreVersions h (row_opened h place) (is_at (created h) place) (versions_at place chains)) where
  -- under the view of a session
  pub visible_is : IsOrdered h → (s n : ℕ) (sight : Sight) → IsOpen s h → IsViewOf h s n sight → (place : Place)
      → first_seen (sees (id_of h s) sight) (versions_at place chains) ≡ row_seen h s n place
  visible_is ordered s n sight is-open view place =
      versions.seen_is_snapshot (row_opened h place) (is_at (created h) place) h s n sight (ids_of h ordered) is-open view (rows place)

  pub newest_row : (place : Place) → IsNewestSeen h place (newest (versions_at place chains))
  newest_row place = let v = rows place in (v.0, v.1.alone, versions.newest_is (row_opened h place) (is_at (created h) place) h v.0 v.1)
