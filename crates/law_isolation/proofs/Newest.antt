-- The newest rows in a serial history are those of the session that is at work, and nobody else is at work on any.
use Rattle.std.proofs.Common.{◌≡◌, ◌≢◌, ◌∙◌, ap, sym, subst, refl, ℕ, Bool, true, false, cond, List, [], ◌∷◌, ◌++◌, Some, None, inl, inr, arith}
use Rattle.std.specs.Prelude.{◌==◌, if◌then◌else◌}
use Rattle.std.specs.List.{list_any, flat_map}
use Rattle.std.proofs.lemmas.List.{append-nil}
use Rattle.std.proofs.lemmas.Bool.{ne_eqb}
use Rattle.std.proofs.lemmas.Bool.Decides.{nat_tests}
use Rattle.inno_types.specs.declared.reply.Item.TheVariants.{Sql}
use Rattle.inno_types.specs.declared.stmt.Stmt.{Stmt}
use Rattle.inno_db.specs.declared.change.Change.{Change}
use Rattle.inno_db.specs.Database.{Place}
use Rattle.inno_model.specs.declared.event.Event.{Event}
use Rattle.inno_model.specs.declared.event.Event.TheVariants.{Begin, Started, Changed, Undone, Ended, Committed, RolledBack}
use Rattle.inno_model.specs.Past.{under_way, level, own, commits, committed, opening, changed, current}
use Rattle.sql_history.specs.Items.{Language, Asks}
use Rattle.sql_history.specs.LooseReading.{beginners, uncommitted, newest, LeavesAlone}
use Rattle.sql_history.specs.Legal.{IsLegal}
use Rattle.law_isolation.specs.Turns.{is_statement, is_at_work}
use Rattle.law_histories.proofs.Entries.{by_session, closed_own, open_is, true_false}
use Rattle.law_isolation.proofs.Turns.{idle_closed}

-- ---- one writer

among : ℕ → List ℕ → Bool
among s ts = list_any (λ t. t == s) ts

gathered : (f : ℕ → List Change) (s : ℕ) (ts : List ℕ) → ((t : ℕ) → t ≢ s → f t ≡ []) → among s ts ≡ false → flat_map f ts ≡ []
unfolding among
gathered f s [] others absent = refl
gathered f s (t ∷ ts) others absent =
    by_session t s (λ is same. (let e = rw is at absent in cc))
    (λ is. let apart : t ≢ s = grind (arith, nat_tests, is) in ap (λ (cs : List Change). cs ++ flat_map f ts) (others t apart) ∙ gathered f s ts others
    (rw is at absent))

one_writer : (f : ℕ → List Change) (s : ℕ) (past : List Event) → ((t : ℕ) → t ≢ s → f t ≡ [])
    → flat_map f (beginners past) ≡ cond (among s (beginners past)) (f s) []
unfolding among
one_writer f s [] others = refl
one_writer f s (Begin t n l ∷ past) others =
    elim (list_any (λ u. u == t) (beginners past)) as
    (λ b. list_any (λ u. u == t) (beginners past) ≡ b → flat_map f (if b then beginners past else t ∷ beginners past) ≡ cond
    (list_any (λ u. u == s) (if b then beginners past else t ∷ beginners past)) (f s) []) [
      | true ↦ λ there. one_writer f s past others
      | false ↦ λ absent. by_session t s
          (λ is same. rw is
          (ap (λ (cs : List Change). f t ++ cs) (gathered f s (beginners past) others
          (subst (λ u. list_any (λ v. v == u) (beginners past) ≡ false) same absent)) ∙ append-nil (f t) ∙ ap f same))
          (λ is.
          let apart : t ≢ s = grind (arith, nat_tests, is) in
          rw is (ap (λ (cs : List Change). cs ++ flat_map f (beginners past)) (others t apart) ∙ one_writer f s past others))
    ] refl
one_writer f s (e ∷ past) others = one_writer f s past others

module _ (says : Language) where
  -- a session that has begun nothing has changed nothing
  unbegun_closed : (s : ℕ) (past : List Event) → IsLegal says past → among s (beginners past) ≡ false → level s past ≡ None
  unfolding among
  unbegun_closed s [] legal absent = refl
  unbegun_closed s (Begin t n l ∷ past) legal absent =
      elim (list_any (λ u. u == t) (beginners past)) as
      (λ b. list_any (λ u. u == t) (beginners past) ≡ b → list_any (λ u. u == s) (if b then beginners past else t ∷ beginners past) ≡ false →
      (if t == s then Some l else level s past) ≡ None) [
        | true ↦ λ there none. by_session t s
            (λ is same. true_false (subst (λ u. list_any (λ v. v == u) (beginners past) ≡ true) same there) none)
            (λ is. rw is (unbegun_closed s past legal.1 none))
        | false ↦ λ new none. by_session t s
            (λ is same. (let e = rw is at none in cc))
            (λ is. rw is (unbegun_closed s past legal.1 (rw is at none)))
      ] refl absent
  unbegun_closed s (Committed t ∷ past) legal absent = by_session t s (λ is same. rw is refl) (λ is. rw is (unbegun_closed s past legal.1 absent))
  unbegun_closed s (RolledBack t ∷ past) legal absent = by_session t s (λ is same. rw is refl) (λ is. rw is (unbegun_closed s past legal.1 absent))
  unbegun_closed s (e ∷ past) legal absent = unbegun_closed s past legal.1 absent

  -- The newest rows are those of the one session that has changes.
  pub newest_own : (s : ℕ) (past : List Event) → IsLegal says past → ((t : ℕ) → t ≢ s → is_at_work t past ≡ false) → newest past ≡ current s past
  newest_own s past legal idle =
      let theirs : (t : ℕ) → t ≢ s → own t past ≡ [] = λ t apart. closed_own says t past legal (idle_closed t past (idle t apart)) in
      let mine : uncommitted past ≡ own s past =
      one_writer (λ t. own t past) s past theirs
      ∙ elim (among s (beginners past)) as (λ b. among s (beginners past) ≡ b → cond b (own s past) [] ≡ own s past) [
        | true ↦ λ there. refl
        | false ↦ λ absent. sym (closed_own says s past legal (unbegun_closed s past legal absent))
      ] refl in
      ap (λ (cs : List Change). changed (opening past) (cs ++ committed (commits past) past)) mine

  -- ---- nobody else at work

  asking : {A : Type 0} (t u : ℕ) (a : Stmt) (past : List Event) → u ≡ t → Asks says u a past → is_statement (under_way t past) ≡ false → A
  asking t u a past same asks idle =
      let asked = subst (λ v. under_way v past ≡ Some (Sql asks.0)) same asks.1 in
      true_false (ap is_statement asked) idle

  pub idle_quiet : (place : Place) (t : ℕ) (past : List Event) → IsLegal says past → level t past ≡ None → is_statement (under_way t past) ≡ false
      → LeavesAlone place t past
  idle_quiet place t [] legal closed idle = tt
  idle_quiet place t (Started u j item ∷ past) legal closed idle =
      λ apart. let is = ne_eqb u t apart in idle_quiet place t past legal.1 closed (rw is at idle)
  idle_quiet place t (Ended u j reply ∷ past) legal closed idle =
      λ apart. let is = ne_eqb u t apart in idle_quiet place t past legal.1 closed (rw is at idle)
  idle_quiet place t (Begin u n l ∷ past) legal closed idle =
      by_session u t (λ is same. (let e = rw is at closed in cc)) (λ is. idle_quiet place t past legal.1 (rw is at closed) idle)
  idle_quiet place t (Changed u change ∷ past) legal closed idle =
      by_session u t (λ is same. asking t u legal.0.2.statement past same legal.0.2.takes.asks idle)
      (λ is. ((λ same. absurd (let apart : u ≢ t = grind (arith, nat_tests, is) in apart same)), idle_quiet place t past legal.1 closed idle))
  idle_quiet place t (Undone u keep ∷ past) legal closed idle =
      by_session u t (λ is same. absurd (open_is says u t past same legal.0.2.is_open closed))
      (λ is. ((λ same. absurd (let apart : u ≢ t = grind (arith, nat_tests, is) in apart same)), idle_quiet place t past legal.1 closed idle))
  idle_quiet place t (Committed u ∷ past) legal closed idle =
      by_session u t (λ is same. asking t u legal.0.2.statement past same legal.0.2.takes.asks idle)
      (λ is. idle_quiet place t past legal.1 (rw is at closed) idle)
  idle_quiet place t (RolledBack u ∷ past) legal closed idle =
      by_session u t
      (λ is same. elim legal.0.2.by [
        | inl ending ↦ inl (same, subst (λ v. under_way v past ≡ None) same ending)
        | inr by ↦ asking t u by.0 past same by.1.asks idle
      ])
      (λ is. inr (idle_quiet place t past legal.1 (rw is at closed) idle))
  idle_quiet place t (e ∷ past) legal closed idle = idle_quiet place t past legal.1 closed idle
