-- In a legal history each session that is calm has done what its standing changes say, and what was committed is of tables
-- that are there.
use Rattle.std.proofs.Common.{◌≡◌, sym, subst, refl, ℕ, ◌+◌, ◌≤◌, true, false, List, [], ◌∷◌, ◌++◌, Some, None, inl, inr, arith}
use Rattle.std.specs.Prelude.{◌==◌}
use Rattle.std.proofs.lemmas.Bool.Decides.{nat_tests}
use Rattle.inno_types.specs.declared.reply.Item.{Item}
use Rattle.inno_types.specs.declared.reply.Item.TheVariants as items
use Rattle.inno_types.specs.declared.reply.Reply.{Reply}
use Rattle.inno_types.specs.declared.reply.Reply.TheVariants as replies
use Rattle.inno_model.specs.declared.event.Event.{Event}
use Rattle.inno_model.specs.declared.event.Event.TheVariants.{Opened, Ended, Committed}
use Rattle.inno_model.specs.Past.{is_of, under_way, of_item, own, commits, committed, opening}
use Rattle.inno_model.proofs.Commits.{commits_rise}
use Rattle.sql_history.specs.Items.{Language}
use Rattle.sql_history.specs.Settings.{at_first}
use Rattle.sql_history.specs.Counts.{has_stopped}
use Rattle.sql_history.specs.Legal.{IsLegal, MayEnd, EndsBy, EndsSignal, EndsAwait}
use Rattle.law_histories.specs.Work.{AllIn, committed_db}
use Rattle.law_histories.proofs.Placing.{AllIn-append}
use Rattle.law_histories.proofs.Pieces.{tracks-in}
use Rattle.law_histories.proofs.Alike.{ReadsOne}
use Rattle.law_histories.proofs.Entries.{by_session, open_not, true_false, some_none}
use Rattle.law_histories.proofs.Items.{empty_unmoved}
use Rattle.law_isolation.specs.Calm.{SeesLatest, IsCalm, AreCalm}
use Rattle.law_isolation.specs.Work.{HasWork}
use Rattle.law_isolation.proofs.Carried.{work_other, work_mine}
use Rattle.law_isolation.proofs.Works.{Moves, is_idle, idle_moves, sql_moves}
use Rattle.law_isolation.proofs.Commits.{CommitsWork, commit_work}

-- all commits are as many as there are
committed_all : (past : List Event) (n m : ℕ) → commits past ≤ n → commits past ≤ m → committed n past ≡ committed m past
committed_all [] n m few less = refl
committed_all (Committed s ∷ past) n m few less = grind (arith, nat_tests, few, less, committed_all past n m (omega (arith, few)) (omega (arith, less)))
committed_all (e ∷ past) n m few less = committed_all past n m (omega (arith, few, commits_rise e past)) (omega (arith, less, commits_rise e past))

commit_list : (s : ℕ) (past : List Event) → committed (commits past + 1) (Committed s ∷ past) ≡ own s past ++ committed (commits past) past
commit_list s past = grind (arith, nat_tests, committed_all past (commits past + 1) (commits past) (omega arith) (omega arith))

module _ (says : Language) (one : ReadsOne says) where
  stopped_idle : (item : Item) → is_idle says item replies.Stopped ≡ true
  stopped_idle (items.Sql text) = refl
  stopped_idle (items.Signal name) = refl
  stopped_idle (items.Await name) = refl

  signal_none : (s : ℕ) (name : List ℕ) (reply : Reply) (past : List Event) → EndsSignal s name reply past → of_item s past ≡ []
  signal_none s name replies.Done past ends = ends.1
  signal_none s name replies.NoMemory past ends = ends
  signal_none s name other past ends = absurd ends

  await_none : (s : ℕ) (name : List ℕ) (reply : Reply) (past : List Event) → EndsAwait s name reply past → of_item s past ≡ []
  await_none s name replies.Done past ends = ends.1
  await_none s name (replies.NotSignalled waited) past ends = ends.2
  await_none s name replies.NoMemory past ends = ends
  await_none s name other past ends = absurd ends

  module _ (s : ℕ) (past : List Event) (legal : IsLegal says past) (latest : SeesLatest says s past) (work : HasWork says s past)
      (within : AllIn (opening past) (committed (commits past) past)) where
    item_moves : (item : Item) (reply : Reply) → under_way s past ≡ Some item → EndsBy false says s item reply past → Moves says s item reply past work
    item_moves (items.Sql text) reply asked ends = sql_moves says one s text past legal latest asked work within reply ends.2
    item_moves (items.Signal name) reply asked ends =
        idle_moves says s (items.Signal name) reply past work refl
        (λ runs. inr (empty_unmoved says s (items.Signal name) past legal asked (signal_none s name reply past ends.2)))
    item_moves (items.Await name) reply asked ends =
        idle_moves says s (items.Await name) reply past work refl
        (λ runs. inr (empty_unmoved says s (items.Await name) past legal asked (await_none s name reply past ends.2)))

    end_moves : (item : Item) (reply : Reply) → under_way s past ≡ Some item → EndsBy (has_stopped past) says s item reply past
        → Moves says s item reply past work
    end_moves item reply asked ends =
        elim (has_stopped past) as (λ b. has_stopped past ≡ b → EndsBy b says s item reply past → Moves says s item reply past work) [
          | true ↦ λ stopped e.
              subst (λ r. Moves says s item r past work) (sym e.0)
              (idle_moves says s item replies.Stopped past work (stopped_idle item) (λ runs. true_false stopped runs))
          | false ↦ λ runs e. item_moves item reply asked e
        ] refl ends

    work_end : (t j : ℕ) (reply : Reply) → (t == s) ≡ true → MayEnd says s j reply past → HasWork says s (Ended t j reply ∷ past)
    work_end t j reply is may =
        let moves = end_moves may.item reply may.asked may.ends in
        record {
          pieces = moves.pieces;
          setting = moves.setting;
          done = rw is (work.pieces, work.done, rw may.asked moves.does);
          is_set = rw is (work.setting, work.is_set, rw may.asked moves.sets);
          carries = λ runs is_open. inl record { newer = []; own_is = rw is refl; tracks = rw is (moves.tracks runs is_open) };
        }

  -- What holds of a legal history: of each session that is calm, and of the changes that were committed.
  pub record IsKept (past : List Event) : Type 0 where
    pub works : (s : ℕ) → IsCalm says s past → HasWork says s past
    pub within : AllIn (opening past) (committed (commits past) past)

  entry_mine : (s : ℕ) (e : Event) (past : List Event) → is_of s e ≡ true → IsLegal says (e ∷ past) → SeesLatest says s past → HasWork says s past
      → AllIn (opening past) (committed (commits past) past) → HasWork says s (e ∷ past)
  entry_mine s (Ended t j reply) past is legal latest work within =
      by_session t s
      (λ mine same. work_end s past legal.1 latest work within t j reply is (subst (λ u. MayEnd says u j reply past) same legal.0.1))
      (λ other. true_false is other)
  entry_mine s e past is legal latest work within = work_mine says one s e past refl is legal work

  pub committed_work : (s : ℕ) (past : List Event) → IsLegal says (Committed s ∷ past) → SeesLatest says s past → IsCalm says s past → IsKept past
      → CommitsWork says one s None past
  committed_work s past legal latest calm kept =
      commit_work says one s None past legal.1 latest calm legal.0.1 legal.0.2 (kept.works s calm) kept.within (λ r a is. some_none is)

  within_more : (e : Event) (past : List Event) → IsLegal says (e ∷ past) → AreCalm says (e ∷ past) → IsKept past
      → AllIn (opening (e ∷ past)) (committed (commits (e ∷ past)) (e ∷ past))
  within_more (Opened db) past legal calm kept = subst (λ (h : List Event). AllIn db (committed (commits h) h)) (sym legal.0) tt
  within_more (Committed s) past legal calm kept =
      let commit = committed_work s past legal calm.0.0 calm.0.1 kept in
      subst (AllIn (opening past)) (sym (commit_list s past))
      (AllIn-append (opening past) (own s past) (committed (commits past) past) kept.within
      (tracks-in (committed_db past) commit.pieces commit.saves (own s past) commit.tracks))
  within_more e past legal calm kept = kept.within

  pub all_kept : (past : List Event) → IsLegal says past → AreCalm says past → IsKept past
  all_kept [] legal calm =
      record {
        works = λ s alone. record { pieces = []; setting = at_first; done = refl; is_set = refl; carries = λ runs is_open. open_not s [] is_open refl };
        within = tt;
      }
  all_kept (e ∷ past) legal calm =
      let before = all_kept past legal.1 calm.1 in
      record {
        works = λ s mine_calm.
            elim (is_of s e) as (λ b. is_of s e ≡ b → HasWork says s (e ∷ past)) [
              | true ↦ λ mine. entry_mine s e past mine legal mine_calm.1 (before.works s mine_calm.2) before.within
              | false ↦ λ other. work_other says s e past other legal mine_calm (before.works s mine_calm.2)
            ] refl;
        within = within_more e past legal calm before;
      }

-- where every session is calm, each is so up to its ends and commits
pub all_calm : (says : Language) (past : List Event) → ((s : ℕ) → IsCalm says s past) → AreCalm says past
all_calm says [] each = tt
all_calm says (Ended s j reply ∷ past) each = (((each s).1, (each s).2), all_calm says past (λ t. (each t).2))
all_calm says (Committed s ∷ past) each = (((each s).1, (each s).2), all_calm says past (λ t. (each t).2))
all_calm says (e ∷ past) each = (tt, all_calm says past (λ t. (each t).2))
