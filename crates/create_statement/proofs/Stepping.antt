-- What entries of its own make of a CREATE TABLE, and how its item may end.
use Rattle.std.proofs.Common.{◌≡◌, ◌≢◌, ℕ, ◌+◌, ◌≤◌, true, false, Some, None, List, [], ◌∷◌, refl, sym, ap, subst, ◌∙◌, inl, inr, arith, length}
use Rattle.std.proofs.lemmas.Bool.Decides.{nat_tests}
use Rattle.std.specs.List.{AllByRecursion, list_any}
use Rattle.inno_types.specs.declared.lock.Level.{Level}
use Rattle.inno_types.specs.declared.value.Schema.{Schema}
use Rattle.inno_types.specs.declared.reply.Item.TheVariants.{Sql}
use Rattle.inno_types.specs.declared.reply.Reply.TheVariants.{Done}
use Rattle.inno_types.specs.declared.stmt.Stmt.{Stmt}
use Rattle.inno_db.specs.declared.change.Change.{Change}
use Rattle.inno_db.specs.declared.change.Change.TheVariants.{Create}
use Rattle.inno_db.specs.Outcome.{outcome}
use Rattle.inno_model.specs.declared.event.Event.{Event}
use Rattle.inno_model.specs.declared.event.Event.TheVariants as events
use Rattle.inno_model.specs.Past.{of_item, did, begins_txn, rolls_back_txn, closes, level, own, begins, awaits_ack, IsOpen, IsClosed}
use Rattle.sql_grammar.specs.Grammar.{Spells}
use Rattle.sql_history.specs.Items.{own_before, of_turn, is_over, point, base, HasMade}
use Rattle.sql_history.specs.Settings.{Setting, HasSet, next_level}
use Rattle.sql_history.specs.Counts.{rows_kept, most_rows}
use Rattle.sql_history.specs.Waiting.{is_victim}
use Rattle.sql_history.specs.Legal.{IsCreation, EndsCreate, MayBegin, MayChange, MayCommit, MayRollBack}
use Rattle.law_past_agreement.specs.Order.{IsOfRow}
use Rattle.sql_lists.specs.Kept.{MayReply}
use Rattle.sql_lists.specs.Steps.{HasRowsAlone, IsTaken}
use Rattle.sql_lists.proofs.Staying.{point_now, point_before}
use Rattle.giving_up.specs.Ends.{HasMadeNone, IsEmptied, IsGivingUp}
use Rattle.create_statement.specs.Knowing.{IsAt, IsToBegin, IsCommitted, IsFinished}
use Rattle.create_statement.proofs.Creations.{begins_by, commits_by, rolls_back_by, changes_by, ends_taken, brings, same_refusal}
use Rattle.giving_up.proofs.Nothing.{own_now, over_nothing, made_nothing, set_before, sometime_too}
use Rattle.create_statement.proofs.Staying.{at_on, to_begin_on}

-- the item has its own transaction, and is not at the end of its changes
pub record HasOpened (s : ℕ) (past : List Event) : Type 0 where
  pub is_open : IsOpen s past
  pub begun : did begins_txn s past ≡ true
  pub not_rolled_back : did rolls_back_txn s past ≡ false
  pub none_before : own_before s past ≡ []
  pub not_over : is_over s past ≡ false

pub not_some : {X : Type 0} (x : X) → None ≡ Some x → ⊥
not_some x is = cc

pub rows_of_none : (s : ℕ) (past : List Event) → own s past ≡ [] → HasRowsAlone s past
rows_of_none s past none = rw none tt

-- ---- a beginning

module _ (s : ℕ) (statement : Stmt) (h : List Event) where
  -- what was found set is what counts
  pub begins_so : (l : Level) (setting : Setting) → (taken : IsTaken s statement h) → IsCreation statement → HasSet Spells s h setting
      → l ≡ next_level setting → IsToBegin s statement l h
  begins_so l setting taken kind set is =
      record {
        at = record {
          takes = record {
            asks = taken.takes.asks;
            setting = setting;
            is_set = set_before s h setting taken.nothing set;
            not_refused = sometime_too _ _ (same_refusal s taken.takes.setting setting statement kind) s h taken.takes.not_refused;
          };
          kind = kind;
          no_victim = ap (list_any is_victim) taken.nothing;
          rows_before = subst (AllByRecursion IsOfRow) (own_now s h taken.nothing) taken.rows_alone;
        };
        level_is = is;
      }

  -- ---- a commit

  pub may_commit_first : IsAt s statement h → IsOpen s h → of_item s h ≡ [] → MayCommit Spells s h
  may_commit_first at is-open none =
      record {
        is_open = is-open;
        statement = statement;
        takes = at.takes;
        by = commits_by s h at.takes.setting statement at.kind
            (inl (ap (list_any begins_txn) none));
      }

  closed_now : IsClosed s (events.Committed s ∷ h)
  closed_now = grind (arith, nat_tests)

  new_now : own s (events.Committed s ∷ h) ≡ []
  new_now = grind (arith, nat_tests)

  over_now : is_over s (events.Committed s ∷ h) ≡ true
  over_now = grind (arith, nat_tests)

  pub acks_now : awaits_ack (of_item s (events.Committed s ∷ h)) ≡ true
  acks_now = grind (arith, nat_tests)

  not_begun_now : of_item s h ≡ [] → did begins_txn s (events.Committed s ∷ h) ≡ false
  not_begun_now none = let x : did begins_txn s h ≡ false = ap (list_any begins_txn) none in grind (arith, nat_tests, x)

  not_rolled_now : did rolls_back_txn s h ≡ false → did rolls_back_txn s (events.Committed s ∷ h) ≡ false
  not_rolled_now x = grind (arith, nat_tests, x)

  at_committed : IsAt s statement h → IsAt s statement (events.Committed s ∷ h)
  at_committed at = at_on s statement (events.Committed s) h refl at.rows_before (let x = at.no_victim in grind (arith, nat_tests, x)) at

  point_is : is_over s h ≡ false → point s (events.Committed s ∷ h) ≡ h
  point_is goes = point_before (events.Committed s) h s goes over_now

  pub to_begin_committed : (l : Level) → IsToBegin s statement l h → IsToBegin s statement l (events.Committed s ∷ h)
  to_begin_committed l b = to_begin_on s statement l (events.Committed s) h refl b.at.rows_before (let x = b.at.no_victim in grind (arith, nat_tests, x)) b

  pub emptied_committed : of_item s h ≡ [] → IsEmptied s (events.Committed s ∷ h)
  emptied_committed none =
      record {
        closed = closed_now;
        new = new_now;
        not_begun = not_begun_now none;
        not_rolled_back = not_rolled_now (ap (list_any rolls_back_txn) none);
        made = subst (λ p. own s p ≡ own_before s p) (sym (point_is (over_nothing s h none))) (own_now s h none);
      }

  pub emptied_closed : of_item s h ≡ [] → IsClosed s h → own s h ≡ [] → IsEmptied s h
  emptied_closed none closed new =
      record {
        closed = closed;
        new = new;
        not_begun = ap (list_any begins_txn) none;
        not_rolled_back = ap (list_any rolls_back_txn) none;
        made = made_nothing s h none;
      }

  ends_as : (p : List Event) (changes : List Change) → point s p ≡ h → (outcome statement (base s h)).changes ≡ changes → EndsCreate s changes p
      → EndsCreate s (outcome statement (base s (point s p))).changes p
  ends_as p changes point-is is ends = subst (λ c. EndsCreate s c p) (sym (ap (λ q. (outcome statement (base s q)).changes) point-is ∙ is)) ends

  pub committed_skipped : IsAt s statement h → of_item s h ≡ [] → (outcome statement (base s h)).changes ≡ [] → IsCommitted s statement (events.Committed s ∷ h)
  committed_skipped at none is =
      record {
        at = at_committed at;
        ends =
            ends_as (events.Committed s ∷ h) [] (point_is (over_nothing s h none)) is
            (closed_now, not_begun_now none, not_rolled_now (ap (list_any rolls_back_txn) none));
        over = over_now;
        closed = closed_now;
        new = new_now;
      }

  pub finished_skipped : IsAt s statement h → of_item s h ≡ [] → HasRowsAlone s h → IsClosed s h → (outcome statement (base s h)).changes ≡ []
      → IsFinished s statement h
  finished_skipped at none rows closed is =
      record {
        at = at;
        ends = ends_as h [] (point_now h s (over_nothing s h none)) is (closed, ap (list_any begins_txn) none, ap (list_any rolls_back_txn) none);
        acked = ap awaits_ack none;
        rows_alone = rows;
      }

  made_one : (schema : Schema) (p : List Event) → p ≡ h → own s h ≡ Create schema ∷ [] → own_before s h ≡ []
      → HasMade (length (Create schema ∷ [])) s (Create schema ∷ []) p
  made_one schema p is own-is none = rw is (own-is ∙ ap (λ changes. Create schema ∷ changes) (sym none))

  pub may_commit_made : (schema : Schema) → IsAt s statement h → HasOpened s h → own s h ≡ Create schema ∷ []
      → (outcome statement (base s h)).changes ≡ Create schema ∷ [] → MayCommit Spells s h
  may_commit_made schema at opened own-is is =
      record {
        is_open = opened.is_open;
        statement = statement;
        takes = at.takes;
        by =
            commits_by s h at.takes.setting statement at.kind
            (inr (subst (λ changes. HasMade (length changes) s changes h) (sym is) (made_one schema h refl own-is opened.none_before)));
      }

  pub committed_made : (schema : Schema) → IsAt s statement h → HasOpened s h → own s h ≡ Create schema ∷ []
      → (outcome statement (base s h)).changes ≡ Create schema ∷ [] → IsCommitted s statement (events.Committed s ∷ h)
  committed_made schema at opened own-is is =
      let point-is = point_is opened.not_over in
      record {
        at = at_committed at;
        ends = ends_as (events.Committed s ∷ h) (Create schema ∷ []) point-is is (
          record { closed = closed_now; committed = grind (arith, nat_tests); not_rolled_back = not_rolled_now opened.not_rolled_back },
          (let x = opened.begun in grind (arith, nat_tests, x)),
          made_one schema (point s (events.Committed s ∷ h)) point-is own-is opened.none_before,
        );
        over = over_now;
        closed = closed_now;
        new = new_now;
      }

  -- ---- its acknowledgement

  pub acked_now : (moment : ℕ) → awaits_ack (of_item s (events.Acked s moment ∷ h)) ≡ false
  acked_now moment = grind (arith, nat_tests)

  -- ---- its own transaction

  pub opened_begun : (n : ℕ) (l : Level) → did rolls_back_txn s h ≡ false → HasOpened s (events.Begin s n l ∷ h)
  opened_begun n l kept =
      record {
        is_open = grind (arith, nat_tests);
        begun = grind (arith, nat_tests);
        not_rolled_back = grind (arith, nat_tests, kept);
        none_before = grind (arith, nat_tests);
        not_over = (let turn : of_turn s (events.Begin s n l ∷ h) ≡ [] = grind (arith, nat_tests) in ap (list_any closes) turn);
      }

  pub at_begun : (n : ℕ) (l : Level) → IsAt s statement h → IsAt s statement (events.Begin s n l ∷ h)
  at_begun n l at =
      let none : own_before s (events.Begin s n l ∷ h) ≡ [] = grind (arith, nat_tests) in
      at_on s statement (events.Begin s n l) h refl (subst (AllByRecursion IsOfRow) (sym none) tt) (let x = at.no_victim in grind (arith, nat_tests, x)) at

  pub may_begin : (l : Level) → IsToBegin s statement l h → IsEmptied s h → awaits_ack (of_item s h) ≡ false → (outcome statement (base s h)).changes ≢ []
      → MayBegin Spells s (begins h + 1) l h
  may_begin l b empty acked some =
      record {
        numbered = refl;
        closed = empty.closed;
        first = empty.not_begun;
        acked = acked;
        statement = statement;
        takes = b.at.takes;
        level_is = b.level_is;
        by = begins_by s h b.at.takes.setting statement b.at.kind some;
      }

  pub may_create : (schema : Schema) → IsAt s statement h → HasOpened s h → rows_kept h ≤ most_rows → MayChange Spells s (Create schema) h
  may_create schema at opened fits =
      record {
        is_open = opened.is_open;
        not_over = opened.not_over;
        statement = statement;
        takes = at.takes;
        by = changes_by s h at.takes.setting statement at.kind opened.begun;
        free = λ place is other ne. absurd (not_some place is);
        within = omega (arith, fits);
      }

  pub opened_created : (schema : Schema) → HasOpened s h → HasOpened s (events.Changed s (Create schema) ∷ h)
  opened_created schema o =
      record {
        is_open = o.is_open;
        begun = (let x = o.begun in grind (arith, nat_tests, x));
        not_rolled_back = (let x = o.not_rolled_back in grind (arith, nat_tests, x));
        none_before = o.none_before;
        not_over = (let x = o.not_over in grind (arith, nat_tests, x));
      }

  pub at_created : (schema : Schema) → IsAt s statement h → IsAt s statement (events.Changed s (Create schema) ∷ h)
  at_created schema at = at_on s statement (events.Changed s (Create schema)) h refl at.rows_before (let x = at.no_victim in grind (arith, nat_tests, x)) at

  pub may_roll_back : IsAt s statement h → HasOpened s h → own s h ≡ [] → MayRollBack Spells s h
  may_roll_back at opened new =
      record { is_open = opened.is_open; all_undone = new; by = inr (statement, at.takes, rolls_back_by s h at.takes.setting statement at.kind opened.begun) }

  -- ---- without memory

  pub gives_up_closed : IsAt s statement h → IsEmptied s h → awaits_ack (of_item s h) ≡ false → IsGivingUp s h
  gives_up_closed at empty acked =
      record {
        text = at.takes.asks.0;
        item = at.takes.asks.1;
        acked = acked;
        leaves =
            inl (record {
              statement = statement;
              takes = at.takes;
              brings = brings s h at.takes.setting statement at.kind;
              closed = empty.closed;
              made = empty.made;
              begun = inl empty.not_begun;
              no_victim =
                  at.no_victim;
            });
        made = empty.made;
        rows_alone = rows_of_none s h empty.new;
      }

  pub gives_up_rolled : IsAt s statement h → HasOpened s h → own s h ≡ [] → IsGivingUp s (events.RolledBack s ∷ h)
  gives_up_rolled at opened new =
      let over : is_over s (events.RolledBack s ∷ h) ≡ true = grind (arith, nat_tests) in
      let none : own s (events.RolledBack s ∷ h) ≡ [] = grind (arith, nat_tests) in
      let here = at_on s statement (events.RolledBack s) h refl at.rows_before (let x = at.no_victim in grind (arith, nat_tests, x)) at in
      let kept : HasMadeNone s (events.RolledBack s ∷ h) =
      subst (λ p. own s p ≡ own_before s p) (sym (point_before (events.RolledBack s) h s opened.not_over over)) (new ∙ sym opened.none_before)
      in
      record {
        text = here.takes.asks.0;
        item = here.takes.asks.1;
        acked = grind (arith, nat_tests);
        leaves =
            inl (record {
              statement = statement;
              takes = here.takes;
              brings = brings s h at.takes.setting statement at.kind;
              closed = grind (arith, nat_tests);
              made = kept;
              begun = inr (grind (arith, nat_tests));
              no_victim =
                  here.no_victim;
            });
        made = kept;
        rows_alone = rows_of_none s (events.RolledBack s ∷ h) none;
      }

  -- ---- the end

  pub may_finish : IsFinished s statement h → MayReply s Done h
  may_finish f =
      record {
        item = Sql f.at.takes.asks.0;
        asked = f.at.takes.asks.1;
        ends = (
          f.acked,
          inl refl,
          inl (record {
            statement = statement;
            asks = f.at.takes.asks;
            setting = f.at.takes.setting;
            is_set = f.at.takes.is_set;
            refusal = None;
            found = f.at.takes.not_refused;
            ends = ends_taken s h f.at.takes.setting statement f.at.kind f.ends;
            no_victim = f.at.no_victim;
          }),
        );
      }
