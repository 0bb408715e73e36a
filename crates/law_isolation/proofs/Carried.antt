-- Of a session that is calm the standing changes of its open transaction are what it has done: entry by entry, but for the
-- ends of its items.
use Rattle.std.proofs.Common.{◌≡◌, ◌≢◌, ◌∙◌, ap, sym, refl, subst, ℕ, Bool, true, false, List, [], ◌∷◌, ◌++◌, length, Option, None, inl, inr, arith}
use Rattle.std.specs.Prelude.{◌==◌, is_some}
use Rattle.std.specs.List.{list_any}
use Rattle.std.proofs.lemmas.Bool.Decides.{nat_tests}
use Rattle.inno_types.specs.declared.lock.Level.{Level}
use Rattle.inno_types.specs.declared.reply.Item.{Item}
use Rattle.inno_types.specs.declared.stmt.Stmt.{Stmt}
use Rattle.inno_types.specs.declared.stmt.Stmt.TheVariants as stmt
use Rattle.inno_db.specs.declared.change.Change.{Change}
use Rattle.inno_db.specs.Database.{Database}
use Rattle.inno_model.specs.declared.event.Event.{Event}
use Rattle.inno_model.specs.declared.event.Event.TheVariants.{Opened, Begin, Started, Changed, Undone, Ended, Committed, RolledBack, Signal, Stopped}
use Rattle.inno_model.specs.Moments.{starts}
use Rattle.inno_model.specs.Past.{is_of, own, level, under_way, did, begins_txn, oldest, IsOpen}
use Rattle.inno_model.proofs.Untouched.{untouched}
use Rattle.sql_history.specs.declared.settings.Save.{Save}
use Rattle.sql_history.specs.Items.{Language, Asks, is_over}
use Rattle.sql_history.specs.Settings.{Setting, HasSet, at_begin, at_end}
use Rattle.sql_history.specs.Waiting.{is_victim}
use Rattle.sql_history.specs.Counts.{has_stopped}
use Rattle.sql_history.specs.Legal.{IsLegal, ChangesBy, MayUndo, is_leaving}
use Rattle.sql_history.specs.Serial.{Piece, HasDone, pieces_to}
use Rattle.sql_history.proofs.Pasts.{commit_adds}
use Rattle.law_histories.proofs.Alike.{ReadsOne}
use Rattle.law_histories.proofs.Entries.{by_session, open_not, true_false, no_item}
use Rattle.law_histories.specs.Work.{committed_db, Tracks, settled}
use Rattle.law_isolation.specs.Calm.{IsCalm}
use Rattle.law_isolation.proofs.Going.{reads_back}
use Rattle.law_isolation.specs.Work.{IsDropped, Carries, HasWork}
use Rattle.law_isolation.proofs.Standing.{committed_carries, undone_carries}

pub runs_before : (e : Event) (past : List Event) → has_stopped (e ∷ past) ≡ false → has_stopped past ≡ false
runs_before (Stopped cause) past runs = (cc)
runs_before e past runs = runs

did_more : (s : ℕ) (e : Event) (past : List Event) → starts s e ≡ false → did is_victim s past ≡ true → did is_victim s (e ∷ past) ≡ true
did_more s e past goes was_one = grind (arith, nat_tests, goes, was_one)

pub over_more : (s : ℕ) (e : Event) (past : List Event) → starts s e ≡ false → begins_txn e ≡ false → is_over s past ≡ true → is_over s (e ∷ past) ≡ true
over_more s e past goes no_begin over = grind (arith, nat_tests, goes, no_begin, over)

module _ (says : Language) where
  settled_other : (s : ℕ) (e : Event) (past : List Event) → is_of s e ≡ false → settled s (e ∷ past) ≡ settled s past
  settled_other s (Begin t n l) past other = rw other refl
  settled_other s (Ended t j reply) past other = rw other refl
  settled_other s e past other = refl

  leaving_other : (s : ℕ) (e : Event) (past : List Event) → is_of s e ≡ false → is_leaving s past ≡ true → is_leaving s (e ∷ past) ≡ true
  leaving_other s (Started t j item) past other is = rw other is
  leaving_other s (Ended t j reply) past other is = rw other is
  leaving_other s (Undone t keep) past other is = rw other is
  leaving_other s (RolledBack t) past other is = rw other is
  leaving_other s e past other is = is

  over_other : (s : ℕ) (e : Event) (past : List Event) → is_of s e ≡ false → is_over s past ≡ true → is_over s (e ∷ past) ≡ true
  over_other s e past other was = grind (arith, nat_tests, other, was)

  done_other : (s : ℕ) (e : Event) (past : List Event) (pieces : List Piece) → is_of s e ≡ false → HasDone says s past pieces → HasDone says s (e ∷ past) pieces
  done_other s (Begin t n l) past pieces other done = rw other done
  done_other s (Ended t j reply) past pieces other done = rw other done
  done_other s e past pieces other done = done

  set_other : (s : ℕ) (e : Event) (past : List Event) (setting : Setting) → is_of s e ≡ false → HasSet says s past setting → HasSet says s (e ∷ past) setting
  set_other s (Begin t n l) past setting other set = rw other set
  set_other s (Committed t) past setting other set = rw other set
  set_other s (RolledBack t) past setting other set = rw other set
  set_other s (Ended t j reply) past setting other set = rw other set
  set_other s e past setting other set = set

  -- where nothing of the session's own has changed
  module _ (s : ℕ) (old new : List Event) (db : Database) (pieces : List Piece) (saves : List Save) (owns : own s new ≡ own s old)
      (sets : settled s new ≡ settled s old) (item : under_way s new ≡ under_way s old)
      (victim : did is_victim s old ≡ true → did is_victim s new ≡ true) (leaving : is_leaving s old ≡ true → is_leaving s new ≡ true)
      (over : is_over s old ≡ true → is_over s new ≡ true) where
    still_dropped : IsDropped says s old → IsDropped says s new
    still_dropped (inl ending) = inl (item ∙ ending.0, leaving ending.1)
    still_dropped (inr (inl asks)) = inr (inl (asks.0, item ∙ asks.1, asks.2))
    still_dropped (inr (inr was)) = inr (inr (was.0, item ∙ was.1, victim was.2, over was.3))

    carried : Carries says s old db pieces saves → Carries says s new db pieces saves
    carried (inl whole) =
        inl record {
          newer = whole.newer;
          own_is = owns ∙ whole.own_is ∙ ap (λ (cs : List Change). whole.newer ++ cs) (sym sets);
          tracks = subst (Tracks db pieces saves) (sym sets) whole.tracks;
        }
    carried (inr (inl back)) =
        let same : oldest back.made (settled s new) ≡ oldest back.made (settled s old) = ap (oldest back.made) sets in
        inr (inl record {
          less = (let a = ap length owns in let b = ap length sets in let c = back.less in omega (arith, a, b, c));
          name = back.name;
          asks = (back.asks.0, item ∙ back.asks.1, back.asks.2);
          made = back.made;
          is = back.is;
          newer = back.newer;
          own_is = owns ∙ back.own_is ∙ ap (λ (cs : List Change). back.newer ++ cs) (sym same);
          kept = ap length same ∙ back.kept;
          tracks = subst (Tracks db (pieces_to back.name pieces) _) (sym same) back.tracks;
        })
    carried (inr (inr was)) = inr (inr ((let a = ap length owns in let b = ap length sets in let c = was.0 in omega (arith, a, b, c)), still_dropped was.1))

  -- ---- another's entry

  other_carries : (s : ℕ) (e : Event) (past : List Event) (pieces : List Piece) (saves : List Save) → is_of s e ≡ false → IsLegal says (e ∷ past)
      → IsCalm says s (e ∷ past) → HasDone says s past pieces → IsOpen s past → Carries says s past (committed_db past) pieces saves
      → Carries says s (e ∷ past) (committed_db (e ∷ past)) pieces saves
  other_carries s (Opened db) past pieces saves other legal calm done is_open carries = open_not s past is_open (ap (level s) legal.0)
  other_carries s (Committed t) past pieces saves other legal calm done is_open carries =
      let differ : s ≢ t = grind (arith, nat_tests, other) in
      let spared = calm.0 differ is_open in
      subst (λ (d : Database). Carries says s (Committed t ∷ past) d pieces saves) (sym (commit_adds t past))
      (committed_carries says s t past (committed_db past) other spared.rows spared.apart spared.beside pieces saves done carries)
  other_carries s e past pieces saves other legal calm done is_open carries =
      let same = untouched e past s other in
      carried s past (e ∷ past) (committed_db past) pieces saves same.own_is (settled_other s e past other) same.item
      (λ was_one. ap (list_any is_victim) same.entries ∙ was_one) (leaving_other s e past other) (over_other s e past other) carries

  pub work_other : (s : ℕ) (e : Event) (past : List Event) → is_of s e ≡ false → IsLegal says (e ∷ past) → IsCalm says s (e ∷ past) → HasWork says s past
      → HasWork says s (e ∷ past)
  work_other s e past other legal calm work =
      record {
        pieces = work.pieces;
        setting = work.setting;
        done = done_other s e past work.pieces other work.done;
        is_set = set_other s e past work.setting other work.is_set;
        carries = λ runs is_open.
            let still : IsOpen s past = subst (λ (l : Option Level). is_some l ≡ true) (untouched e past s other).level_is is_open in
            other_carries s e past work.pieces work.setting.saves other legal calm work.done still (work.carries (runs_before e past runs) still);
      }

  -- ---- an entry of its own

  module _ (one : ReadsOne says) where
    started_carries : (s t j : ℕ) (item : Item) (past : List Event) (db : Database) (pieces : List Piece) (saves : List Save) → under_way s past ≡ None
        → is_leaving s past ≡ false → Carries says s past db pieces saves → Carries says s (Started t j item ∷ past) db pieces saves
    started_carries s t j item past db pieces saves idle stays (inl whole) = inl record { newer = whole.newer; own_is = whole.own_is; tracks = whole.tracks }
    started_carries s t j item past db pieces saves idle stays (inr (inl back)) = no_item (sym idle ∙ back.asks.1)
    started_carries s t j item past db pieces saves idle stays (inr (inr (less, inl ending))) = true_false ending.1 stays
    started_carries s t j item past db pieces saves idle stays (inr (inr (less, inr (inl asks)))) = no_item (sym idle ∙ asks.1)
    started_carries s t j item past db pieces saves idle stays (inr (inr (less, inr (inr was)))) = no_item (sym idle ∙ was.1)

    changed_carries : (s t : ℕ) (change : Change) (past : List Event) (db : Database) (pieces : List Piece) (saves : List Save) → (t == s) ≡ true
        → (a : Stmt) → Asks says s a past → ChangesBy t a past → is_over s past ≡ false → Carries says s past db pieces saves
        → Carries says s (Changed t change ∷ past) db pieces saves
    changed_carries s t change past db pieces saves mine a asks by on (inl whole) =
        inl record { newer = change ∷ whole.newer; own_is = rw mine (ap (λ (cs : List Change). change ∷ cs) whole.own_is); tracks = whole.tracks }
    changed_carries s t change past db pieces saves mine a asks by on (inr (inl back)) =
        absurd (subst (λ (b : Stmt). ChangesBy t b past) (reads_back says one s back.name past a back.asks asks) by)
    changed_carries s t change past db pieces saves mine a asks by on (inr (inr (less, inl ending))) = no_item (sym ending.0 ∙ asks.1)
    changed_carries s t change past db pieces saves mine a asks by on (inr (inr (less, inr (inl all)))) =
        let same : asks.0 ≡ all.0 = (let x = sym asks.1 ∙ all.1 in cc) in
        let alike = one asks.0 a stmt.Rollback asks.2 (subst (λ (text : List ℕ). says text stmt.Rollback) (sym same) all.2) in
        absurd (subst (λ (b : Stmt). ChangesBy t b past) (alike.same alike.rows) by)
    changed_carries s t change past db pieces saves mine a asks by on (inr (inr (less, inr (inr was)))) = true_false was.3 on

    -- an entry that changes nothing of the work
    plain_carries : (s : ℕ) (e : Event) (past : List Event) (db : Database) (pieces : List Piece) (saves : List Save) → starts s e ≡ false
        → own s (e ∷ past) ≡ own s past → settled s (e ∷ past) ≡ settled s past → under_way s (e ∷ past) ≡ under_way s past → begins_txn e ≡ false
        → (is_leaving s past ≡ true → is_leaving s (e ∷ past) ≡ true) → Carries says s past db pieces saves → Carries says s (e ∷ past) db pieces saves
    plain_carries s e past db pieces saves goes owns sets item no_begin leaving carries =
        carried s past (e ∷ past) db pieces saves owns sets item (did_more s e past goes) leaving (over_more s e past goes no_begin) carries

    abbrev pub ends_item : Event → Bool
    ends_item (Ended t j reply) = true
    ends_item other = false

    pub work_mine : (s : ℕ) (e : Event) (past : List Event) → ends_item e ≡ false → is_of s e ≡ true → IsLegal says (e ∷ past) → HasWork says s past
        → HasWork says s (e ∷ past)
    work_mine s (Begin t n l) past inner is legal work =
        record {
          pieces = [];
          setting = at_begin work.setting;
          done = rw is refl;
          is_set = rw is (work.setting, work.is_set, refl);
          carries = λ runs is_open. inl record { newer = []; own_is = rw is refl; tracks = (refl, rw is refl) };
        }
    work_mine s (Committed t) past inner is legal work =
        record {
          pieces = work.pieces;
          setting = at_end work.setting;
          done = work.done;
          is_set = rw is (work.setting, work.is_set, refl);
          carries = λ runs is_open. (let e = rw is at is_open in cc);
        }
    work_mine s (RolledBack t) past inner is legal work =
        record {
          pieces = work.pieces;
          setting = at_end work.setting;
          done = work.done;
          is_set = rw is (work.setting, work.is_set, refl);
          carries = λ runs is_open. (let e = rw is at is_open in cc);
        }
    work_mine s (Ended t j reply) past inner is legal work = (cc)
    work_mine s (Started t j item) past inner is legal work =
        by_session t s
        (λ mine same.
        let idle = subst (λ u. under_way u past ≡ None) same legal.0.1.idle in
        let stays = subst (λ u. is_leaving u past ≡ false) same legal.0.1.stays in
        record {
          pieces = work.pieces;
          setting = work.setting;
          done = work.done;
          is_set = work.is_set;
          carries = λ runs is_open. started_carries s t j item past (committed_db past) work.pieces work.setting.saves idle stays (work.carries runs is_open);
        })
        (λ other. true_false is other)
    work_mine s (Changed t change) past inner is legal work =
        by_session t s
        (λ mine same.
        let may = legal.0.2 in
        record {
          pieces = work.pieces;
          setting = work.setting;
          done = work.done;
          is_set = work.is_set;
          carries =
              λ runs is_open. changed_carries s t change past (committed_db past) work.pieces work.setting.saves mine may.statement
              (subst (λ u. Asks says u may.statement past) same may.takes.asks) may.by (subst (λ u. is_over u past ≡ false) same may.not_over)
              (work.carries runs is_open);
        })
        (λ other. true_false is other)
    work_mine s (Undone t keep) past inner is legal work =
        by_session t s
        (λ mine same.
        record {
          pieces = work.pieces;
          setting = work.setting;
          done = work.done;
          is_set = work.is_set;
          carries =
              λ runs is_open. undone_carries says one s t keep past (committed_db past) work.pieces work.setting.saves mine legal.1
              (subst (λ u. MayUndo says u keep past) same legal.0.2) work.setting refl work.is_set (work.carries runs is_open);
        })
        (λ other. true_false is other)
    work_mine s (Opened db) past inner is legal work = (cc)
    work_mine s (Signal name) past inner is legal work = (cc)
    work_mine s (Stopped cause) past inner is legal work = (cc)
    work_mine s e past inner is legal work =
        record {
          pieces = work.pieces;
          setting = work.setting;
          done = work.done;
          is_set = work.is_set;
          carries =
              λ runs is_open. plain_carries s e past (committed_db past) work.pieces work.setting.saves refl refl refl refl refl (λ leaving. leaving)
              (work.carries runs is_open);
        }
