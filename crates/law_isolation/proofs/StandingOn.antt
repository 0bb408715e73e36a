-- What is kept for standing work goes on through each entry but the ends of its items.
-- `Ends` has those; together they are `Stays`, for every entry.
use Rattle.std.proofs.Common.{◌≡◌, ◌∙◌, ap, sym, refl, subst, ℕ, zero, suc, ◌+◌, ◌-◌, ◌≤◌, true, false, List, [], ◌∷◌, length, drop, Option, Some, None, inl}
use Rattle.std.proofs.Common.{inr, ◌⊎◌, arith}
use Rattle.std.specs.Prelude.{◌==◌, is_some}
use Rattle.std.proofs.lemmas.Bool.Decides.{nat_tests}
use Rattle.inno_types.specs.declared.lock.Level.{Level}
use Rattle.inno_types.specs.declared.reply.Item.{Item}
use Rattle.inno_types.specs.declared.reply.Item.TheVariants.{Sql}
use Rattle.inno_types.specs.declared.stmt.Stmt.{Stmt}
use Rattle.inno_types.specs.declared.stmt.Stmt.TheVariants as stmt
use Rattle.inno_db.specs.declared.change.Change.{Change}
use Rattle.inno_model.specs.declared.event.Event.{Event}
use Rattle.inno_model.specs.declared.event.Event.TheVariants.{Opened, Begin, Started, Changed, Undone, Ended, Committed, RolledBack, Signal, Stopped}
use Rattle.inno_model.specs.Past.{is_of, own, level, txn, under_way, before_item, did, oldest, IsOpen}
use Rattle.inno_model.proofs.Untouched.{untouched}
use Rattle.sql_history.specs.declared.settings.Save.{Save}
use Rattle.sql_history.specs.Items.{Language, Asks, is_over, own_before}
use Rattle.sql_history.specs.Settings.{Setting, HasSet, made_at, at_begin, at_end}
use Rattle.sql_history.specs.Statements.{is_on_rows}
use Rattle.sql_history.specs.Waiting.{is_victim}
use Rattle.sql_history.specs.Legal.{IsLegal, ChangesBy, UndoesBy, MayUndo, is_leaving}
use Rattle.sql_history.specs.Serial.{Piece, HasDone}
use Rattle.law_histories.specs.Work.{settled}
use Rattle.law_histories.proofs.Alike.{ReadsOne}
use Rattle.law_histories.proofs.Entries as entries
use Rattle.law_histories.proofs.Entries.{by_session, open_not, true_false, no_item}
use Rattle.law_histories.proofs.Items.{set_kept, set_one}
use Rattle.law_isolation.proofs.Going.{reads_back, goes_nowhere}
use Rattle.law_isolation.proofs.Carried.{runs_before, over_more, ends_item}
use Rattle.law_isolation.specs.Kept.{KeptFor, KeptIn, AreKept, IsDropped, IsLost, Back, Carries, AreStanding}
use Rattle.law_isolation.proofs.Pieces.{kept_back}

module _ (says : Language) where
  -- ---- a change of its own is put back

  length_drop : (n : ℕ) (changes : List Change) → length (drop n changes) ≡ length changes - n
  length_drop zero changes = omega arith
  length_drop (suc n) [] = omega arith
  length_drop (suc n) (change ∷ changes) = length_drop n changes ∙ (let n : length changes - n ≡ suc (length changes) - suc n = omega arith in n)

  pub oldest_length : (keep : ℕ) (changes : List Change) → keep ≤ length changes → length (oldest keep changes) ≡ keep
  oldest_length keep changes within =
      length_drop (length changes - keep) changes ∙ (let n : length changes - (length changes - keep) ≡ keep = omega (arith, within) in n)

  pub same_made : (a b : ℕ) → ◌≡◌ {A = Option ℕ} (Some a) (Some b) → a ≡ b
  same_made a b e = cc

  module _ (one : ReadsOne says) (keeps : KeptFor) (s u keep : ℕ) (past : List Event) (pieces : List Piece) (saves : List Save) (mine : (u == s) ≡ true)
      (legal : IsLegal says past) (may : MayUndo says s keep past) (kept : Setting) (saves_are : kept.saves ≡ saves) (is_set : HasSet says s past kept) where
    tie : (setting : Setting) → HasSet says s (before_item s past) setting → (name : List ℕ) → Asks says s (stmt.RollbackTo name) past → setting.saves ≡ saves
    tie setting set name asks =
        let quiet = goes_nowhere says one s name past legal asks in
        ap (λ (st : Setting). st.saves) (set_one says one s past setting kept (set_kept says s (Sql asks.0) setting past asks.1 quiet.0 quiet.1 quiet.2 set)
        is_set) ∙ saves_are

    left_number : length (own s (Undone u keep ∷ past)) ≡ keep
    left_number = rw mine (oldest_length keep (own s past) (let a = may.one in omega (arith, a)))

    drops : IsDropped says s past → IsDropped says s (Undone u keep ∷ past)
    drops (inl ending) = inl (ending.0, rw mine refl)
    drops (inr (inl asks)) = inr (inl asks)
    drops (inr (inr rows)) = inr (inr (rows.0, rows.1, rows.2, rw mine refl))

    lost : length (own s past) ≤ length (settled s past) → IsDropped says s (Undone u keep ∷ past) → IsLost says s (Undone u keep ∷ past)
    lost within dropped = ((let a = left_number in let b = may.one in omega (arith, a, b, within)), dropped)

    from_whole : length (own s past) ≡ length (settled s past) → AreKept keeps pieces saves (length (settled s past))
        → Carries says keeps s (Undone u keep ∷ past) pieces saves
    from_whole same kept = elim may.by [
      | inl ending ↦ inr (inr (lost within (inl (ending, rw mine refl))))
      | inr by ↦ by_statement by.0 by.1.asks by.1.setting by.1.is_set by.2
    ]
      where
        within : length (own s past) ≤ length (settled s past)
        within = omega (arith, same)

        stands : keep + 1 ≡ length (settled s past)
        stands = sym may.one ∙ same

        before : (a : Stmt) → Asks says s a past → own_before s past ≡ settled s past
        before a asks = entries.before_settled says s (Sql asks.0) past legal asks.1

        rows : (a : Stmt) → Asks says s a past → is_on_rows a ≡ true → (length (own_before s past) ≤ keep) ⊎ (did is_victim s past ≡ true)
            → Carries says keeps s (Undone u keep ∷ past) pieces saves
        rows a asks on (inl within) = absurd (omega (arith, stands, within, ap length (before a asks)))
        rows a asks on (inr victim) = inr (inr (lost within (inr (inr (a, asks, on, rw mine refl)))))

        back : (name : List ℕ) (made : ℕ) → Asks says s (stmt.RollbackTo name) past → made_at name saves ≡ Some made → made ≤ keep
            → Carries says keeps s (Undone u keep ∷ past) pieces saves
        back name made asks is less =
            inr (inl record {
              less = (let a = left_number in let b = stands in omega (arith, a, b));
              name = name;
              asks = asks;
              made = made;
              is = is;
              within = (let a = left_number in omega (arith, a, less));
              kept = (kept_back keeps name made pieces saves (length (settled s past)) kept is).1;
            })

        by_statement : (a : Stmt) → Asks says s a past → (setting : Setting) → HasSet says s (before_item s past) setting → UndoesBy s keep setting a past
            → Carries says keeps s (Undone u keep ∷ past) pieces saves
        by_statement stmt.Rollback asks setting is_set by = inr (inr (lost within (inr (inl asks))))
        by_statement (stmt.RollbackTo name) asks setting is_set by =
            back name by.0 asks (ap (made_at name) (sym (tie setting is_set name asks)) ∙ by.1) by.2
        by_statement (stmt.CreateTable table skips definitions) asks setting is_set by =
            absurd (let none : 0 ≡ keep + 1 = sym (ap length (entries.begun_settled says s (Sql asks.0) past asks.1 by)) ∙ sym stands in omega (arith, none))
        by_statement other asks setting is_set by = rows other asks by.0 by.1

    from_back : Back says keeps s past pieces saves → Carries says keeps s (Undone u keep ∷ past) pieces saves
    from_back back =
        inr (inl record {
          less = (let a = left_number in let b = may.one in let c = back.less in omega (arith, a, b, c));
          name = back.name;
          asks = back.asks;
          made = back.made;
          is = back.is;
          within = (let a = left_number in omega (arith, a, within));
          kept = back.kept;
        })
      where
        -- the savepoint lies before what goes
        within : back.made ≤ keep
        within = elim may.by [
          | inl ending ↦ no_item (sym ending ∙ back.asks.1)
          | inr by ↦
              let undoes = subst (λ (a : Stmt). UndoesBy s keep by.1.setting a past) (reads_back says one s back.name past by.0 back.asks by.1.asks) by.2 in
              let same = same_made undoes.0 back.made (sym undoes.1 ∙ ap (made_at back.name) (tie by.1.setting by.1.is_set back.name back.asks) ∙ back.is) in
              subst (λ n. n ≤ keep) same undoes.2
        ]

    pub undone_carries : Carries says keeps s past pieces saves → Carries says keeps s (Undone u keep ∷ past) pieces saves
    undone_carries (inl whole) = by_number whole.within
      where
        by_number : length (settled s past) ≤ length (own s past) → Carries says keeps s (Undone u keep ∷ past) pieces saves
        by_number within = elim (at_least (length (settled s past)) keep (let a = may.one in omega (arith, a, within))) [
          | inl less ↦ inl record { within = (let a = left_number in omega (arith, a, less)); kept = whole.kept }
          | inr same ↦ from_whole (may.one ∙ sym same) whole.kept
        ]
          where
            at_least : (a b : ℕ) → a ≤ b + 1 → (a ≤ b) ⊎ (a ≡ b + 1)
            at_least a b within = elim (a == b + 1) as (λ t. (a == b + 1) ≡ t → (a ≤ b) ⊎ (a ≡ b + 1)) [
              | true ↦ λ is. inr (grind (arith, nat_tests, is))
              | false ↦ λ is. inl (grind (arith, nat_tests, is, within))
            ] refl
    undone_carries (inr (inl back)) = from_back back
    undone_carries (inr (inr is)) = inr (inr (lost (let a = is.0 in omega (arith, a)) (drops is.1)))

  -- ---- where nothing of the session's own has changed

  module _ (keeps : KeptFor) (s : ℕ) (old new : List Event) (pieces : List Piece) (saves : List Save) (owns : own s new ≡ own s old)
      (sets : settled s new ≡ settled s old) (item : under_way s new ≡ under_way s old)
      (leaving : is_leaving s old ≡ true → is_leaving s new ≡ true) (over : is_over s old ≡ true → is_over s new ≡ true) where
    still_dropped : IsDropped says s old → IsDropped says s new
    still_dropped (inl ending) = inl (item ∙ ending.0, leaving ending.1)
    still_dropped (inr (inl asks)) = inr (inl (asks.0, item ∙ asks.1, asks.2))
    still_dropped (inr (inr rows)) = inr (inr (rows.0, (rows.1.0, item ∙ rows.1.1, rows.1.2), rows.2, over rows.3))

    pub carried : Carries says keeps s old pieces saves → Carries says keeps s new pieces saves
    carried (inl whole) =
        inl record {
          within = (let a = ap length owns in let b = ap length sets in let c = whole.within in omega (arith, a, b, c));
          kept = subst (AreKept keeps pieces saves) (ap length (sym sets)) whole.kept;
        }
    carried (inr (inl back)) =
        inr (inl record {
          less = (let a = ap length owns in let b = ap length sets in let c = back.less in omega (arith, a, b, c));
          name = back.name;
          asks = (back.asks.0, item ∙ back.asks.1, back.asks.2);
          made = back.made;
          is = back.is;
          within = (let a = ap length owns in let b = back.within in omega (arith, a, b));
          kept = back.kept;
        })
    carried (inr (inr was)) = inr (inr ((let a = ap length owns in let b = ap length sets in let c = was.0 in omega (arith, a, b, c)), still_dropped was.1))

  -- ---- another's entry

  settled_other : (s : ℕ) (e : Event) (past : List Event) → is_of s e ≡ false → settled s (e ∷ past) ≡ settled s past
  settled_other s (Begin t n l) past other = rw other refl
  settled_other s (Ended t j reply) past other = rw other refl
  settled_other s e past other = refl

  leaving_other : (s : ℕ) (e : Event) (past : List Event) → is_of s e ≡ false → is_leaving s past ≡ true → is_leaving s (e ∷ past) ≡ true
  leaving_other s (Started t j item) past other is = rw other is
  leaving_other s (Ended t j reply) past other is = rw other is
  leaving_other s (Undone t keep) past other is = rw other is
  leaving_other s (RolledBack t) past other is = rw other is
  leaving_other s e past other is = is

  over_other : (s : ℕ) (e : Event) (past : List Event) → is_of s e ≡ false → is_over s past ≡ true → is_over s (e ∷ past) ≡ true
  over_other s e past other was = grind (arith, nat_tests, other, was)

  done_before : (s : ℕ) (e : Event) (past : List Event) (pieces : List Piece) → is_of s e ≡ false → HasDone says s (e ∷ past) pieces
      → HasDone says s past pieces
  done_before s (Begin t n l) past pieces other done = rw other at done
  done_before s (Ended t j reply) past pieces other done = rw other at done
  done_before s e past pieces other done = done

  set_other : (s : ℕ) (e : Event) (past : List Event) (setting : Setting) → is_of s e ≡ false → HasSet says s past setting → HasSet says s (e ∷ past) setting
  set_other s (Begin t n l) past setting other set = rw other set
  set_other s (Committed t) past setting other set = rw other set
  set_other s (RolledBack t) past setting other set = rw other set
  set_other s (Ended t j reply) past setting other set = rw other set
  set_other s e past setting other set = set

  pub standing_other : (keeps : KeptIn) (s : ℕ) (e : Event) (past : List Event) → is_of s e ≡ false → AreStanding says keeps s past
      → AreStanding says keeps s (e ∷ past)
  standing_other keeps s e past other standing =
      let same = untouched e past s other in
      record {
        setting = standing.setting;
        is_set = set_other s e past standing.setting other standing.is_set;
        carries = λ runs is_open pieces done.
            let still : IsOpen s past = subst (λ (l : Option Level). is_some l ≡ true) same.level_is is_open in
            let before = standing.carries (runs_before e past runs) still pieces (done_before s e past pieces other done) in
            subst (λ n. Carries says (keeps n (level s (e ∷ past))) s (e ∷ past) pieces standing.setting.saves) (sym same.txn_is)
            (subst (λ l. Carries says (keeps (txn s past) l) s (e ∷ past) pieces standing.setting.saves) (sym same.level_is)
            (carried (keeps (txn s past) (level s past)) s past (e ∷ past) pieces standing.setting.saves same.own_is (settled_other s e past other) same.item
            (leaving_other s e past other) (over_other s e past other) before));
      }

  -- ---- an entry of its own

  module _ (one : ReadsOne says) where
    started_carries : (keeps : KeptFor) (s t j : ℕ) (item : Item) (past : List Event) (pieces : List Piece) (saves : List Save) → under_way s past ≡ None
        → is_leaving s past ≡ false → Carries says keeps s past pieces saves → Carries says keeps s (Started t j item ∷ past) pieces saves
    started_carries keeps s t j item past pieces saves idle stays (inl whole) = inl record { within = whole.within; kept = whole.kept }
    started_carries keeps s t j item past pieces saves idle stays (inr (inl back)) = no_item (sym idle ∙ back.asks.1)
    started_carries keeps s t j item past pieces saves idle stays (inr (inr (less, inl ending))) = true_false ending.1 stays
    started_carries keeps s t j item past pieces saves idle stays (inr (inr (less, inr (inl asks)))) = no_item (sym idle ∙ asks.1)
    started_carries keeps s t j item past pieces saves idle stays (inr (inr (less, inr (inr rows)))) = no_item (sym idle ∙ rows.1.1)

    changed_carries : (keeps : KeptFor) (s t : ℕ) (change : Change) (past : List Event) (pieces : List Piece) (saves : List Save) → (t == s) ≡ true
        → (a : Stmt) → Asks says s a past → ChangesBy t a past → is_over s past ≡ false → Carries says keeps s past pieces saves
        → Carries says keeps s (Changed t change ∷ past) pieces saves
    changed_carries keeps s t change past pieces saves mine a asks by on (inl whole) =
        inl record { within = rw mine (let a = whole.within in omega (arith, a)); kept = whole.kept }
    changed_carries keeps s t change past pieces saves mine a asks by on (inr (inl back)) =
        absurd (subst (λ (b : Stmt). ChangesBy t b past) (reads_back says one s back.name past a back.asks asks) by)
    changed_carries keeps s t change past pieces saves mine a asks by on (inr (inr (less, inl ending))) = no_item (sym ending.0 ∙ asks.1)
    changed_carries keeps s t change past pieces saves mine a asks by on (inr (inr (less, inr (inl all)))) =
        let same : asks.0 ≡ all.0 = (let x = sym asks.1 ∙ all.1 in cc) in
        let alike = one asks.0 a stmt.Rollback asks.2 (subst (λ (text : List ℕ). says text stmt.Rollback) (sym same) all.2) in
        absurd (subst (λ (b : Stmt). ChangesBy t b past) (alike.same alike.rows) by)
    changed_carries keeps s t change past pieces saves mine a asks by on (inr (inr (less, inr (inr rows)))) = true_false rows.3 on

    pub standing_mine : (keeps : KeptIn) (s : ℕ) (e : Event) (past : List Event) → ends_item says one e ≡ false → is_of s e ≡ true → IsLegal says (e ∷ past)
        → AreStanding says keeps s past → AreStanding says keeps s (e ∷ past)
    standing_mine keeps s (Begin t n l) past inner is legal standing =
        record {
          setting = at_begin standing.setting;
          is_set = rw is (standing.setting, standing.is_set, refl);
          carries = λ runs is_open pieces done. inl record {
            within = rw is (omega arith);
            kept = let none : pieces ≡ [] = rw is at done in subst (λ (ps : List Piece). AreKept
                (keeps (txn s (Begin t n l ∷ past)) (level s (Begin t n l ∷ past))) ps [] (length (settled s (Begin t n l ∷ past)))) (sym none) refl;
          };
        }
    standing_mine keeps s (Committed t) past inner is legal standing =
        record {
          setting = at_end standing.setting;
          is_set = rw is (standing.setting, standing.is_set, refl);
          carries = λ runs is_open pieces done. (let e = rw is at is_open in cc);
        }
    standing_mine keeps s (RolledBack t) past inner is legal standing =
        record {
          setting = at_end standing.setting;
          is_set = rw is (standing.setting, standing.is_set, refl);
          carries = λ runs is_open pieces done. (let e = rw is at is_open in cc);
        }
    standing_mine keeps s (Ended t j reply) past inner is legal standing = (cc)
    standing_mine keeps s (Started t j item) past inner is legal standing =
        by_session t s
        (λ mine same.
        let idle = subst (λ u. under_way u past ≡ None) same legal.0.1.idle in
        let stays = subst (λ u. is_leaving u past ≡ false) same legal.0.1.stays in
        record {
          setting = standing.setting;
          is_set = standing.is_set;
          carries = λ runs is_open pieces done.
              started_carries (keeps (txn s past) (level s past)) s t j item past pieces standing.setting.saves idle stays
              (standing.carries runs is_open pieces done);
        })
        (λ other. true_false is other)
    standing_mine keeps s (Changed t change) past inner is legal standing =
        by_session t s
        (λ mine same.
        let may = legal.0.2 in
        record {
          setting = standing.setting;
          is_set = standing.is_set;
          carries = λ runs is_open pieces done.
              changed_carries (keeps (txn s past) (level s past)) s t change past pieces standing.setting.saves mine may.statement
              (subst (λ u. Asks says u may.statement past) same may.takes.asks) may.by (subst (λ u. is_over u past ≡ false) same may.not_over)
              (standing.carries runs is_open pieces done);
        })
        (λ other. true_false is other)
    standing_mine keeps s (Undone t keep) past inner is legal standing =
        by_session t s
        (λ mine same.
        record {
          setting = standing.setting;
          is_set = standing.is_set;
          carries = λ runs is_open pieces done.
              undone_carries one (keeps (txn s past) (level s past)) s t keep past pieces standing.setting.saves mine legal.1
              (subst (λ u. MayUndo says u keep past) same legal.0.2) standing.setting refl standing.is_set (standing.carries runs is_open pieces done);
        })
        (λ other. true_false is other)
    standing_mine keeps s (Opened db) past inner is legal standing = (cc)
    standing_mine keeps s (Signal name) past inner is legal standing = (cc)
    standing_mine keeps s (Stopped cause) past inner is legal standing = (cc)
    standing_mine keeps s e past inner is legal standing =
        record {
          setting = standing.setting;
          is_set = standing.is_set;
          carries = λ runs is_open pieces done.
              carried (keeps (txn s past) (level s past)) s past (e ∷ past) pieces standing.setting.saves refl refl refl (λ leaving. leaving)
              (over_more s e past refl refl) (standing.carries runs is_open pieces done);
        }
