-- What one more entry makes of databases, views and points.
use Rattle.std.proofs.Common.{◌≡◌, ◌≢◌, ℕ, ◌+◌, ◌≤◌, true, false, Some, List, [], ◌∷◌, ◌++◌, refl, ap, arith}
use Rattle.std.proofs.Math.Seq.{drop-length}
use Rattle.std.proofs.lemmas.Bool.Decides.{nat_tests}
use Rattle.inno_db.specs.Database.{Database}
use Rattle.inno_db.specs.Changes.{apply_one}
use Rattle.inno_db.specs.declared.change.Change.{Change}
use Rattle.inno_model.specs.declared.event.Event.{Event}
use Rattle.inno_model.specs.declared.event.Event.TheVariants.{View, Undone, Committed}
use Rattle.inno_model.specs.Past.{own, commits, committed, opening, changed, db_after, view_of, snapshot, current}
use Rattle.inno_model.proofs.Commits.{committed_stays, commits_rise}
use Rattle.sql_history.specs.Items.{is_over, point}

-- changes of a list and then those of another are those of both
pub changed_append : (db : Database) (later earlier : List Change) → changed db (later ++ earlier) ≡ changed (changed db earlier) later
changed_append db [] earlier = refl
changed_append db (change ∷ later) earlier = ap (λ d. apply_one d change) (changed_append db later earlier)

-- a commit of one session leaves what another's view shows
pub commit_leaves_snapshot : (s t n : ℕ) (past : List Event) → t ≢ s → n ≤ commits past → snapshot s n (Committed t ∷ past) ≡ snapshot s n past
commit_leaves_snapshot s t n past apart within = rw (committed_stays (Committed t) past n within) (grind (arith, nat_tests, apart))

-- all commits are as many as there are
committed_all : (past : List Event) (n m : ℕ) → commits past ≤ n → commits past ≤ m → committed n past ≡ committed m past
committed_all [] n m few less = refl
committed_all (Committed s ∷ past) n m few less = grind (arith, nat_tests, few, less, committed_all past n m (omega (arith, few)) (omega (arith, less)))
committed_all (e ∷ past) n m few less = committed_all past n m (omega (arith, few, commits_rise e past)) (omega (arith, less, commits_rise e past))

-- the database after one more commit is the one before with the changes of that transaction
pub commit_adds : (s : ℕ) (past : List Event) → db_after (commits past + 1) (Committed s ∷ past) ≡ changed (db_after (commits past) past) (own s past)
commit_adds s past =
    grind (
      arith,
      nat_tests,
      changed_append (opening past) (own s past) (committed (commits past) past),
      committed_all past (commits past + 1) (commits past)
          (omega arith) (omega arith),
    )

pub view_counts : (s t : ℕ) (past : List Event) → view_of s (View s ∷ Committed t ∷ past) ≡ Some (commits past + 1)
view_counts s t past = grind (arith, nat_tests)

-- without own changes a snapshot is the database after the commits of its view
pub snapshot_without_own : (s n : ℕ) (past : List Event) → own s past ≡ [] → snapshot s n past ≡ db_after n past
snapshot_without_own s n past none = rw none refl

-- to put all changes back leaves none
pub none_kept : (s : ℕ) (past : List Event) → own s (Undone s 0 ∷ past) ≡ []
none_kept s past = grind (arith, nat_tests, drop-length (own s past))

-- while the item goes on, its point is now
pub point_now : (s : ℕ) (past : List Event) → is_over s past ≡ false → point s past ≡ past
point_now s [] on = refl
point_now s (e ∷ past) on = rw on refl

-- the entry by which it comes to the end of its changes leaves the point before it
pub point_closing : (s : ℕ) (e : Event) (past : List Event) → is_over s past ≡ false → is_over s (e ∷ past) ≡ true → point s (e ∷ past) ≡ past
point_closing s e past on over = rw over (rw on refl)

-- and there it stays
pub point_stays : (s : ℕ) (e : Event) (past : List Event) → is_over s past ≡ true → is_over s (e ∷ past) ≡ true → point s (e ∷ past) ≡ point s past
point_stays s e past was over = rw over (rw was refl)

-- with all its changes put back a transaction sees what was committed
pub put_back : (s : ℕ) (past : List Event) → current s (Undone s 0 ∷ past) ≡ db_after (commits past) past
put_back s past = snapshot_without_own s (commits past) (Undone s 0 ∷ past) (none_kept s past)
