-- Standing work goes on with its changes through another's commit, and through each step of a rollback.
use Rattle.std.proofs.Common.{◌≡◌, ◌∙◌, ap, sym, refl, subst, ℕ, zero, suc, ◌+◌, ◌-◌, ◌<◌, ◌≤◌, true, false, List, [], ◌∷◌, ◌++◌, length, length-append, drop, Option, Some, inl, inr, ◌⊎◌, arith}
use Rattle.std.specs.Prelude.{◌==◌}
use Rattle.inno_types.specs.declared.reply.Item.TheVariants.{Sql}
use Rattle.inno_types.specs.declared.stmt.Stmt.{Stmt}
use Rattle.inno_types.specs.declared.stmt.Stmt.TheVariants as stmt
use Rattle.inno_db.specs.declared.change.Change.{Change}
use Rattle.inno_db.specs.Database.{Database, Place}
use Rattle.inno_model.specs.declared.event.Event.{Event}
use Rattle.inno_model.specs.declared.event.Event.TheVariants.{Undone, Committed}
use Rattle.inno_model.specs.Past.{own, before_item, did, oldest, changed}
use Rattle.sql_history.specs.declared.settings.Save.{Save}
use Rattle.sql_history.specs.Items.{Language, Asks, own_before}
use Rattle.sql_history.specs.Settings.{Setting, HasSet, made_at, back_to}
use Rattle.sql_history.specs.Waiting.{is_victim}
use Rattle.sql_history.specs.Legal.{IsLegal, UndoesBy, MayUndo}
use Rattle.sql_history.specs.Serial.{Piece, HasDone, pieces_to}
use Rattle.law_histories.proofs.Alike.{ReadsOne}
use Rattle.law_histories.proofs.Entries as entries
use Rattle.law_histories.proofs.Items.{set_kept, set_one}
use Rattle.law_histories.specs.Work.{Tracks}
use Rattle.law_histories.proofs.Pieces.{tracks-back}
use Rattle.law_isolation.proofs.Going.{reads_back, goes_nowhere}
use Rattle.law_db.specs.Beside.{touches, AreOfRows}
use Rattle.law_isolation.specs.Pieces.{AreBeside, AreAnswered}
use Rattle.law_histories.specs.Work.{settled}
use Rattle.law_isolation.specs.Standing.{HasStanding}
use Rattle.law_isolation.specs.Work.{IsDropped, IsLost, Back, Carries}
use Rattle.law_isolation.proofs.Beside.{tracks_beside, touches-append, or_right}
use Rattle.law_isolation.proofs.Made.{of_rows, touched_within, tracks_tables, answered_to, done_answered}

module _ (says : Language) where
  whole_within : (s : ℕ) (past : List Event) (newer : List Change) → own s past ≡ newer ++ settled s past → length (settled s past) ≤ length (own s past)
  whole_within s past newer is = omega (arith, ap length is, length-append newer (settled s past))

  -- ---- another's commit

  module _ (s t : ℕ) (past : List Event) (db : Database) (other : (t == s) ≡ false) (theirs : AreOfRows (own t past))
      (apart : (place : Place) → place.0 < length db.schemas → touches db.schemas (own s past) place ≡ true → touches db.schemas (own t past) place ≡ false)
      (beside : (pieces : List Piece) → HasStanding says s past pieces → AreBeside pieces db (own t past)) where
    -- the changes and pieces that stand, over the rows with those that are committed
    moved : (newer standing : List Change) (pieces : List Piece) (saves : List Save) → own s past ≡ newer ++ standing → AreAnswered pieces
        → HasStanding says s past pieces → Tracks db pieces saves standing → Tracks (changed db (own t past)) pieces saves standing
    moved newer standing pieces saves is answered stands tracks =
        let tables = tracks_tables db pieces saves standing answered tracks in
        tracks_beside db (own t past) theirs pieces saves standing (of_rows db.schemas standing tables)
        (λ place at. apart place (touched_within db.schemas db.schemas standing place tables at)
        (ap (λ (cs : List Change). touches db.schemas cs place) is ∙ touches-append db.schemas newer standing place ∙ or_right
        (touches db.schemas newer place) (touches db.schemas standing place) at))
        answered (beside pieces stands) tracks

    pub committed_carries : (pieces : List Piece) (saves : List Save) → HasDone says s past pieces → Carries says s past db pieces saves
        → Carries says s (Committed t ∷ past) (changed db (own t past)) pieces saves
    committed_carries pieces saves done (inl whole) =
        inl record {
          newer = whole.newer;
          own_is = rw other whole.own_is;
          tracks =
              moved whole.newer (settled s past) pieces saves whole.own_is (done_answered says s past pieces done)
              (pieces, done, inl (whole_within s past whole.newer whole.own_is, refl)) whole.tracks;
        }
    committed_carries pieces saves done (inr (inl back)) =
        inr (inl record {
          less = rw other back.less;
          name = back.name;
          asks = back.asks;
          made = back.made;
          is = back.is;
          newer = back.newer;
          own_is = rw other back.own_is;
          kept = back.kept;
          tracks =
              moved back.newer (oldest back.made (settled s past)) (pieces_to back.name pieces) (back_to back.name saves) back.own_is
              (answered_to back.name pieces (done_answered says s past pieces done))
              (pieces, done, inr (back.less, (back.name, back.asks, refl))) back.tracks;
        })
    committed_carries pieces saves done (inr (inr gone)) = inr (inr (rw other gone.0, drops gone.1))
      where
        drops : IsDropped says s past → IsDropped says s (Committed t ∷ past)
        drops (inl ending) = inl ending
        drops (inr (inl asks)) = inr (inl asks)
        drops (inr (inr victim)) = inr (inr (victim.0, victim.1, rw other victim.2, rw other victim.3))

  -- ---- a change of its own is put back

  oldest_one : (keep : ℕ) (change : Change) (changes : List Change) → suc (length changes) ≡ keep + 1 → oldest keep (change ∷ changes) ≡ changes
  oldest_one keep change changes one = ap (λ n. drop n (change ∷ changes)) (let n : suc (length changes) - keep ≡ 1 = omega (arith, one) in n)

  parted : (n : ℕ) (changes : List Change) → (newer : List Change) × (changes ≡ newer ++ drop n changes)
  parted zero changes = ([], refl)
  parted (suc n) [] = ([], refl)
  parted (suc n) (change ∷ changes) = let rest = parted n changes in (change ∷ rest.0, ap (λ (cs : List Change). change ∷ cs) rest.1)

  length_drop : (n : ℕ) (changes : List Change) → length (drop n changes) ≡ length changes - n
  length_drop zero changes = omega arith
  length_drop (suc n) [] = omega arith
  length_drop (suc n) (change ∷ changes) = length_drop n changes ∙ (let n : length changes - n ≡ suc (length changes) - suc n = omega arith in n)

  oldest_less : (made : ℕ) (change : Change) (changes : List Change) → made ≤ length changes → oldest made (change ∷ changes) ≡ oldest made changes
  oldest_less made change changes within =
      ap (λ n. drop n (change ∷ changes)) (let n : suc (length changes) - made ≡ suc (length changes - made) = omega (arith, within) in n)

  same_made : (a b : ℕ) → ◌≡◌ {A = Option ℕ} (Some a) (Some b) → a ≡ b
  same_made a b e = cc

  module _ (one : ReadsOne says) (s u keep : ℕ) (past : List Event) (db : Database) (pieces : List Piece) (saves : List Save) (mine : (u == s) ≡ true)
      (legal : IsLegal says past) (may : MayUndo says s keep past) (kept : Setting) (saves_are : kept.saves ≡ saves) (is_set : HasSet says s past kept) where
    tie : (setting : Setting) → HasSet says s (before_item s past) setting → (name : List ℕ) → Asks says s (stmt.RollbackTo name) past → setting.saves ≡ saves
    tie setting set name asks =
        let quiet = goes_nowhere says one s name past legal asks in
        ap (λ (st : Setting). st.saves) (set_one says one s past setting kept (set_kept says s (Sql asks.0) setting past asks.1 quiet.0 quiet.1 quiet.2 set)
        is_set) ∙ saves_are

    drops : IsDropped says s past → IsDropped says s (Undone u keep ∷ past)
    drops (inl ending) = inl (ending.0, rw mine refl)
    drops (inr (inl asks)) = inr (inl asks)
    drops (inr (inr victim)) = inr (inr (victim.0, victim.1, rw mine victim.2, rw mine refl))

    left_number : length (own s (Undone u keep ∷ past)) ≡ keep
    left_number =
        rw mine (length_drop (length (own s past) - keep) (own s past) ∙
        (let a = may.one in let n : length (own s past) - (length (own s past) - keep) ≡ keep = omega (arith, a) in n))

    lost : length (own s past) ≤ length (settled s past) → IsDropped says s (Undone u keep ∷ past) → IsLost says s (Undone u keep ∷ past)
    lost within dropped = ((let a = left_number in let b = may.one in omega (arith, a, b, within)), dropped)

    next_own : (change : Change) (changes : List Change) → own s past ≡ change ∷ changes → own s (Undone u keep ∷ past) ≡ changes
    next_own change changes is = rw mine (ap (oldest keep) is ∙ oldest_one keep change changes (sym (ap length is) ∙ may.one))

    -- the first change that goes of those that stood
    goes_back : (name : List ℕ) (made : ℕ) → Asks says s (stmt.RollbackTo name) past → made_at name saves ≡ Some made → made ≤ keep
        → own s past ≡ settled s past → Tracks db pieces saves (settled s past) → (changes : List Change) → own s past ≡ changes
        → Carries says s (Undone u keep ∷ past) db pieces saves
    goes_back name made asks is within same tracks [] none = absurd (let e : 0 ≡ keep + 1 = sym (ap length none) ∙ may.one in omega (arith, e))
    goes_back name made asks is within same tracks (change ∷ changes) here =
        let stood : settled s past ≡ change ∷ changes = sym same ∙ here in
        let count : suc (length changes) ≡ keep + 1 = sym (ap length here) ∙ may.one in
        let inside : made ≤ length changes = omega (arith, count, within) in
        let old : oldest made (settled s past) ≡ oldest made changes = ap (oldest made) stood ∙ oldest_less made change changes inside in
        let parts = parted (length changes - made) changes in
        let after = next_own change changes here in
        inr (inl record {
          less = (let a = ap length after in let b = ap length stood in omega (arith, a, b));
          name = name;
          asks = asks;
          made = made;
          is = is;
          newer = parts.0;
          own_is = after ∙ parts.1 ∙ ap (λ (cs : List Change). parts.0 ++ cs) (sym old);
          kept =
              ap length old ∙ length_drop (length changes - made) changes ∙
              (let n : length changes - (length changes - made) ≡ made = omega (arith, inside) in n);
          tracks = tracks-back name made db pieces saves (settled s past) tracks is;
        })

    from_whole : own s past ≡ settled s past → Tracks db pieces saves (settled s past) → Carries says s (Undone u keep ∷ past) db pieces saves
    from_whole same tracks = elim may.by [
      | inl ending ↦ inr (inr (lost within (inl (ending, rw mine refl))))
      | inr by ↦ by_statement by.0 by.1.asks by.1.setting by.1.is_set by.2
    ]
      where
        within : length (own s past) ≤ length (settled s past)
        within = let a = ap length same in omega (arith, a)

        stands : keep + 1 ≡ length (settled s past)
        stands = sym may.one ∙ ap length same

        before : (a : Stmt) → Asks says s a past → own_before s past ≡ settled s past
        before a asks = entries.before_settled says s (Sql asks.0) past legal asks.1

        rows : (a : Stmt) → Asks says s a past → (length (own_before s past) ≤ keep) ⊎ (did is_victim s past ≡ true)
            → Carries says s (Undone u keep ∷ past) db pieces saves
        rows a asks (inl within) = absurd (omega (arith, stands, within, ap length (before a asks)))
        rows a asks (inr victim) = inr (inr (lost within (inr (inr (Sql asks.0, asks.1, rw mine victim, rw mine refl)))))

        by_statement : (a : Stmt) → Asks says s a past → (setting : Setting) → HasSet says s (before_item s past) setting → UndoesBy s keep setting a past
            → Carries says s (Undone u keep ∷ past) db pieces saves
        by_statement stmt.Rollback asks setting is_set by = inr (inr (lost within (inr (inl asks))))
        by_statement (stmt.RollbackTo name) asks setting is_set by =
            goes_back name by.0 asks (ap (made_at name) (sym (tie setting is_set name asks)) ∙ by.1) by.2 same tracks (own s past) refl
        by_statement (stmt.CreateTable table skips definitions) asks setting is_set by =
            absurd (let none : 0 ≡ keep + 1 = sym (ap length (entries.begun_settled says s (Sql asks.0) past asks.1 by)) ∙ sym stands in omega (arith, none))
        by_statement other asks setting is_set by = rows other asks by.1

    from_back : Back says s past db pieces saves → Carries says s (Undone u keep ∷ past) db pieces saves
    from_back back = step back.newer back.own_is
      where
        -- the savepoint lies before what goes
        within : back.made ≤ keep
        within = elim may.by [
          | inl ending ↦ entries.no_item (sym ending ∙ back.asks.1)
          | inr by ↦
              let undoes = subst (λ (a : Stmt). UndoesBy s keep by.1.setting a past) (reads_back says one s back.name past by.0 back.asks by.1.asks) by.2 in
              let same = same_made undoes.0 back.made (sym undoes.1 ∙ ap (made_at back.name) (tie by.1.setting by.1.is_set back.name back.asks) ∙ back.is) in
              subst (λ n. n ≤ keep) same undoes.2
        ]

        step : (newer : List Change) → own s past ≡ newer ++ oldest back.made (settled s past) → Carries says s (Undone u keep ∷ past) db pieces saves
        step [] is = absurd (let a = ap length is in let b = back.kept in let c = may.one in omega (arith, a, b, c, within))
        step (change ∷ newer) is =
            let after = next_own change (newer ++ oldest back.made (settled s past)) is in
            inr (inl record {
              less = (let a = ap length after in let b = ap length is in let c = back.less in omega (arith, a, b, c));
              name = back.name;
              asks = back.asks;
              made = back.made;
              is = back.is;
              newer = newer;
              own_is = after;
              kept = back.kept;
              tracks = back.tracks;
            })

    pub undone_carries : Carries says s past db pieces saves → Carries says s (Undone u keep ∷ past) db pieces saves
    undone_carries (inl whole) = step whole.newer whole.own_is
      where
        step : (newer : List Change) → own s past ≡ newer ++ settled s past → Carries says s (Undone u keep ∷ past) db pieces saves
        step [] is = from_whole is whole.tracks
        step (change ∷ newer) is = inl record { newer = newer; own_is = next_own change (newer ++ settled s past) is; tracks = whole.tracks }
    undone_carries (inr (inl back)) = from_back back
    undone_carries (inr (inr is)) = inr (inr (lost (let a = is.0 in omega (arith, a)) (drops is.1)))

  -- ---- where the item's end leaves at least what stood, all of it stands

  pub stands_whole : (s : ℕ) (past : List Event) (db : Database) (pieces : List Piece) (saves : List Save) → length (settled s past) ≤ length (own s past)
      → Carries says s past db pieces saves → Tracks db pieces saves (settled s past)
  stands_whole s past db pieces saves within (inl whole) = whole.tracks
  stands_whole s past db pieces saves within (inr (inl back)) = absurd (let a = back.less in omega (arith, a, within))
  stands_whole s past db pieces saves within (inr (inr lost)) = absurd (let a = lost.0 in omega (arith, a, within))

  -- ROLLBACK TO leaves the work up to its savepoint
  pub back_ends : (one : ReadsOne says) (s made : ℕ) (name : List ℕ) (past : List Event) (db : Database) (pieces : List Piece) (saves : List Save)
      → Asks says s (stmt.RollbackTo name) past → did is_victim s past ≡ false → made_at name saves ≡ Some made → own s past ≡ oldest made (settled s past)
      → Carries says s past db pieces saves → Tracks db (pieces_to name pieces) (back_to name saves) (own s past)
  back_ends one s made name past db pieces saves asks none is own_is (inl whole) =
      subst (Tracks db (pieces_to name pieces) (back_to name saves)) (sym own_is) (tracks-back name made db pieces saves (settled s past) whole.tracks is)
  back_ends one s made name past db pieces saves asks none is own_is (inr (inl back)) =
      let same : back.name ≡ name = (let e = reads_back says one s name past (stmt.RollbackTo back.name) asks back.asks in cc) in
      let number = same_made back.made made (sym back.is ∙ ap (λ (n : List ℕ). made_at n saves) same ∙ is) in
      subst (Tracks db (pieces_to name pieces) (back_to name saves)) (ap (λ n. oldest n (settled s past)) number ∙ sym own_is)
      (subst (λ (n : List ℕ). Tracks db (pieces_to n pieces) (back_to n saves) (oldest back.made (settled s past))) same back.tracks)
  back_ends one s made name past db pieces saves asks none is own_is (inr (inr (less, inl ending))) = entries.no_item (sym ending.0 ∙ asks.1)
  back_ends one s made name past db pieces saves asks none is own_is (inr (inr (less, inr (inl all)))) =
      absurd (let e = reads_back says one s name past stmt.Rollback asks all in cc)
  back_ends one s made name past db pieces saves asks none is own_is (inr (inr (less, inr (inr victim)))) = absurd (entries.true_false victim.2 none)
