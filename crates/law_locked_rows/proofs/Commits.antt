-- What a session sees at a place as another one commits.
-- `Committing`, `Barred` and `Unmet` go on from it. Nothing of searches and locks is asked here.
use Rattle.std.proofs.Common.{arith, ◌≡◌, ◌≢◌, ◌∙◌, refl, sym, ap, ℕ, ◌+◌, ◌≤◌, Bool, false, cond, List, [], ◌∷◌, ◌++◌, Option}
use Rattle.std.proofs.lemmas.Bool.Decides.{nat_tests}
use Rattle.std.specs.List.{list_any}
use Rattle.inno_types.specs.declared.value.Value.{Value}
use Rattle.inno_db.specs.declared.change.Change.{Change}
use Rattle.inno_model.specs.{declared.event.Event.Event, declared.event.Event.TheVariants.Committed, Past.own, Past.commits, Past.committed}
use Rattle.row_versions.specs.{declared.place.Place.Place, declared.version.Version.Version, Chains.newest}
use Rattle.law_past_agreement.specs.{Order.created, Rows.is_at, Rows.row_at, Rows.row_of, Rows.row_opened, Agreement.AreVersionsBy}
use Rattle.law_past_agreement.proofs.Rows.{row_at-append, newest_is}
use Rattle.law_locked_rows.specs.Now.{row_now}

-- all commits are the first so many
pub committed_all : (h : List Event) (n : ℕ) → commits h ≤ n → committed n h ≡ committed (commits h) h
committed_all [] n most = refl
committed_all (Committed s ∷ h) n most = grind (arith, nat_tests, most, committed_all h n, committed_all h (commits h + 1))
committed_all (e ∷ h) n most = committed_all h n most

module _ (h : List Event) (t s : ℕ) (differs : s ≢ t) (place : Place) where
  abbrev opened : Option (List Value)
  opened = row_opened h place

  abbrev here : Change → Bool
  here = is_at (created h) place

  -- it sees the other's changes below its own
  pub seen_then : row_now s place.table (Committed t ∷ h) place.key ≡ row_at opened here (own s h ++ (own t h ++ committed (commits h) h))
  seen_then =
      let all = committed_all h (commits h + 1) (omega arith) in
      let mine : own s (Committed t ∷ h) ≡ own s h = grind (arith, nat_tests, differs) in
      let theirs : committed (commits h + 1) (Committed t ∷ h) ≡ own t h ++ committed (commits h) h = grind (arith, nat_tests, all) in
      λ i. row_at opened here (mine i ++ theirs i)

  -- where the other has no changes, all is as it was
  pub same_then : list_any here (own t h) ≡ false → row_now s place.table (Committed t ∷ h) place.key ≡ row_now s place.table h place.key
  same_then none = seen_then ∙ both (own s h)
    where
      both : (mine : List Change) → row_at opened here (mine ++ (own t h ++ committed (commits h) h)) ≡ row_at opened here (mine ++ committed (commits h) h)
      both [] = row_at-append opened here (own t h) (committed (commits h) h) none
      both (change ∷ mine) = ap (λ r. cond (here change) (row_of change) r) (both mine)

  -- where it has, the newest version
  pub newest_then : (versions : List Version) → AreVersionsBy h t opened here versions → row_now s place.table (Committed t ∷ h) place.key ≡ newest versions
  newest_then versions by =
      seen_then ∙ row_at-append opened here (own s h) (own t h ++ committed (commits h) h) (by.alone s differs) ∙ sym (newest_is opened here h t by)
