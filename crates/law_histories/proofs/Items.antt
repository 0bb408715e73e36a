-- What one item of a legal history leaves of its session's transaction.
use Rattle.std.proofs.Common.{◌≡◌, ◌∙◌, ap, sym, subst, refl, ℕ, Bool, true, false, List, [], ◌∷◌, length, Option, Some, None, inl, inr, ◌⊎◌, arith}
use Rattle.std.specs.Prelude.{◌==◌, is_some}
use Rattle.std.specs.List.{list_any}
use Rattle.std.proofs.lemmas.Bool.Decides.{nat_tests}
use Rattle.inno_types.specs.declared.lock.Level.{Level}
use Rattle.inno_types.specs.declared.reply.Item.{Item}
use Rattle.inno_types.specs.declared.reply.Item.TheVariants.{Sql}
use Rattle.inno_types.specs.declared.reply.Reply.{Reply}
use Rattle.inno_types.specs.declared.reply.Reply.TheVariants.{Done}
use Rattle.inno_types.specs.declared.stmt.Stmt.{Stmt}
use Rattle.inno_model.specs.declared.event.Event.{Event}
use Rattle.inno_model.specs.declared.event.Event.TheVariants.{Begin, Started, Changed, Undone, Ended, Committed, RolledBack}
use Rattle.inno_model.specs.Moments.{starts}
use Rattle.inno_model.specs.Past.{under_way, before_item, of_item, level, own, did, begins_txn, commits_txn, rolls_back_txn, IsOpen, IsClosed}
use Rattle.sql_history.specs.Items.{Language, Asks, is_over, undoes}
use Rattle.sql_history.specs.Settings.{Setting, HasSet, IfOwn, SetByItem, at_begin, at_end, set_by}
use Rattle.sql_history.specs.Statements.{is_on_rows}
use Rattle.sql_history.specs.Endings.{Goes, BacksOut}
use Rattle.sql_history.specs.Legal.{IsLegal, ChangesBy, UndoesBy, BeginsBy}
use Rattle.law_histories.specs.Work.{settled}
use Rattle.law_histories.proofs.Alike.{Alike, ReadsOne, alike_set, keeps_changes, keeper_apart, keeper_changes, keeper_undoes, never_begins, never_begun}
use Rattle.law_histories.proofs.Entries.{by_session, no_item, start_settled, unbegun_settled, begun_settled, open_not}

-- its transaction is over, or has the changes that it had before
abbrev pub IsUnmoved : ℕ → List Event → Type 0
IsUnmoved s past = IsClosed s past ⊎ (own s past ≡ settled s past)

-- an item with no end of its changes is not over
pub over_none : (s : ℕ) (item : Item) (past : List Event) → under_way s past ≡ Some item → did undoes s past ≡ false → did commits_txn s past ≡ false
    → did rolls_back_txn s past ≡ false → is_over s past ≡ false
over_none s item [] asked undone committed back = refl
over_none s item (Started t j other ∷ past) asked undone committed back =
    by_session t s (λ is same. rw is refl) (λ is. rw is (over_none s item past (rw is at asked) (rw is at undone) (rw is at committed) (rw is at back)))
over_none s item (Begin t n l ∷ past) asked undone committed back =
    by_session t s (λ is same. rw is refl) (λ is. rw is (over_none s item past asked (rw is at undone) (rw is at committed) (rw is at back)))
over_none s item (Ended t j reply ∷ past) asked undone committed back =
    by_session t s (λ is same. no_item (rw is at asked))
    (λ is. rw is (over_none s item past (rw is at asked) (rw is at undone) (rw is at committed) (rw is at back)))
over_none s item (e ∷ past) asked undone committed back = let before = over_none s item past asked in grind (arith, nat_tests, before, undone, committed, back)

-- an item of no entry leaves all as it was
pub empty_own : (s : ℕ) (past : List Event) → of_item s past ≡ [] → own s past ≡ own s (before_item s past)
empty_own s [] none = refl
empty_own s (Started t j item ∷ past) none = by_session t s (λ is same. rw is refl) (λ is. rw is (empty_own s past (rw is at none)))
empty_own s (Begin t n l ∷ past) none = by_session t s (λ is same. (let e = rw is at none in cc)) (λ is. rw is (empty_own s past (rw is at none)))
empty_own s (Changed t change ∷ past) none = by_session t s (λ is same. (let e = rw is at none in cc)) (λ is. rw is (empty_own s past (rw is at none)))
empty_own s (Undone t keep ∷ past) none = by_session t s (λ is same. (let e = rw is at none in cc)) (λ is. rw is (empty_own s past (rw is at none)))
empty_own s (Committed t ∷ past) none = by_session t s (λ is same. (let e = rw is at none in cc)) (λ is. rw is (empty_own s past (rw is at none)))
empty_own s (RolledBack t ∷ past) none = by_session t s (λ is same. (let e = rw is at none in cc)) (λ is. rw is (empty_own s past (rw is at none)))
empty_own s (e ∷ past) none = let before = empty_own s past in grind (arith, nat_tests, before, none)

nothing_ended : (s : ℕ) (past : List Event) → did begins_txn s past ≡ false → did commits_txn s past ≡ false → did rolls_back_txn s past ≡ false
    → level s past ≡ level s (before_item s past)
nothing_ended s [] begun committed back = refl
nothing_ended s (Started t j item ∷ past) begun committed back =
    by_session t s (λ is same. rw is refl) (λ is. rw is (nothing_ended s past (rw is at begun) (rw is at committed) (rw is at back)))
nothing_ended s (Begin t n l ∷ past) begun committed back =
    by_session t s (λ is same. (let e = rw is at begun in cc)) (λ is. rw is (nothing_ended s past (rw is at begun) (rw is at committed) (rw is at back)))
nothing_ended s (Committed t ∷ past) begun committed back =
    by_session t s (λ is same. (let e = rw is at committed in cc)) (λ is. rw is (nothing_ended s past (rw is at begun) (rw is at committed) (rw is at back)))
nothing_ended s (RolledBack t ∷ past) begun committed back =
    by_session t s (λ is same. (let e = rw is at back in cc)) (λ is. rw is (nothing_ended s past (rw is at begun) (rw is at committed) (rw is at back)))
nothing_ended s (e ∷ past) begun committed back = let before = nothing_ended s past in grind (arith, nat_tests, before, begun, committed, back)

pub did_before : (test : Event → Bool) (s : ℕ) (e : Event) (past : List Event) → starts s e ≡ false → did test s (e ∷ past) ≡ false → did test s past ≡ false
did_before test s e past goes not = grind (arith, nat_tests, goes, not)

pub did_same : (test : Event → Bool) (s : ℕ) (e : Event) (past : List Event) → starts s e ≡ false → test e ≡ false → did test s (e ∷ past) ≡ did test s past
did_same test s e past goes none = grind (arith, nat_tests, goes, none)

-- what an item begins and does not end was not open before
pub begun_closed : (says : Language) (s : ℕ) (past : List Event) → IsLegal says past → did begins_txn s past ≡ true → did commits_txn s past ≡ false
    → did rolls_back_txn s past ≡ false → level s (before_item s past) ≡ None
begun_closed says s [] legal begun committed back = refl
begun_closed says s (Started t j item ∷ past) legal begun committed back =
    by_session t s (λ is same. (let e = rw is at begun in cc))
    (λ is. rw is (begun_closed says s past legal.1 (rw is at begun) (rw is at committed) (rw is at back)))
begun_closed says s (Begin t n l ∷ past) legal begun committed back =
    let commits = did_before commits_txn s (Begin t n l) past refl committed in
    let backs = did_before rolls_back_txn s (Begin t n l) past refl back in
    by_session t s
    (λ is same. sym (nothing_ended s past (subst (λ u. did begins_txn u past ≡ false) same legal.0.2.first) commits backs) ∙ subst (λ u. level u past ≡ None)
    same legal.0.2.closed)
    (λ is. begun_closed says s past legal.1 (rw is at begun) commits backs)
begun_closed says s (e ∷ past) legal begun committed back =
    begun_closed says s past legal.1 (sym (did_same begins_txn s e past refl refl) ∙ begun) (did_before commits_txn s e past refl committed)
    (did_before rolls_back_txn s e past refl back)

-- an item that has ended no transaction has set what it had set before
pub set_kept : (says : Language) (s : ℕ) (item : Item) (setting : Setting) (past : List Event) → under_way s past ≡ Some item
    → did begins_txn s past ≡ false → did commits_txn s past ≡ false → did rolls_back_txn s past ≡ false → HasSet says s (before_item s past) setting
    → HasSet says s past setting
set_kept says s item setting [] asked begun committed back set = set
set_kept says s item setting (Started t j other ∷ past) asked begun committed back set =
    by_session t s (λ is same. rw is at set) (λ is. set_kept says s item setting past (rw is at asked) (rw is at begun) (rw is at committed) (rw is at back)
    (rw is at set))
set_kept says s item setting (Begin t n l ∷ past) asked begun committed back set =
    by_session t s (λ is same. (let e = rw is at begun in cc))
    (λ is. rw is (set_kept says s item setting past asked (rw is at begun) (rw is at committed) (rw is at back) set))
set_kept says s item setting (Committed t ∷ past) asked begun committed back set =
    by_session t s (λ is same. (let e = rw is at committed in cc))
    (λ is. rw is (set_kept says s item setting past asked (rw is at begun) (rw is at committed) (rw is at back) set))
set_kept says s item setting (RolledBack t ∷ past) asked begun committed back set =
    by_session t s (λ is same. (let e = rw is at back in cc))
    (λ is. rw is (set_kept says s item setting past asked (rw is at begun) (rw is at committed) (rw is at back) set))
set_kept says s item setting (Ended t j reply ∷ past) asked begun committed back set =
    by_session t s (λ is same. no_item (rw is at asked))
    (λ is. rw is (set_kept says s item setting past (rw is at asked) (rw is at begun) (rw is at committed) (rw is at back) set))
set_kept says s item setting (e ∷ past) asked begun committed back set =
    set_kept says s item setting past asked (did_before begins_txn s e past refl begun) (did_before commits_txn s e past refl committed)
    (did_before rolls_back_txn s e past refl back) set

-- ---- what each session has set

by_either : {A B C D X : Type 0} (b : Bool) → IfOwn b A B → IfOwn b C D → (A → C → X) → (B → D → X) → X
by_either true x y f g = f x y
by_either false x y f g = g x y

module _ (says : Language) (one : ReadsOne says) where
  set_by_item : (item : Option Item) (reply : Reply) (made : ℕ) (is_open : Bool) (x y a b : Setting) → x ≡ y → SetByItem says item reply made is_open x a
      → SetByItem says item reply made is_open y b → a ≡ b
  set_by_item (Some (Sql text)) Done made is_open x y a b e p q =
      p.2 ∙ alike_set p.0 q.0 made is_open x (one text p.0 q.0 p.1 q.1) ∙ ap (λ before. set_by q.0 made is_open before) e ∙ sym q.2
  set_by_item item reply made is_open x y a b e p q = p ∙ e ∙ sym q

  pub set_one : (s : ℕ) (past : List Event) (a b : Setting) → HasSet says s past a → HasSet says s past b → a ≡ b
  set_one s [] a b p q = p ∙ sym q
  set_one s (Begin t n l ∷ past) a b p q =
      by_either (t == s) p q (λ e f. e.2 ∙ ap at_begin (set_one s past e.0 f.0 e.1 f.1) ∙ sym f.2) (λ e f. set_one s past a b e f)
  set_one s (Committed t ∷ past) a b p q =
      by_either (t == s) p q (λ e f. e.2 ∙ ap at_end (set_one s past e.0 f.0 e.1 f.1) ∙ sym f.2) (λ e f. set_one s past a b e f)
  set_one s (RolledBack t ∷ past) a b p q =
      by_either (t == s) p q (λ e f. e.2 ∙ ap at_end (set_one s past e.0 f.0 e.1 f.1) ∙ sym f.2) (λ e f. set_one s past a b e f)
  set_one s (Ended t j reply ∷ past) a b p q =
      by_either (t == s) p q (λ e f. set_by_item (under_way s past) reply (length (own s past)) (is_some (level s past)) e.0 f.0 a b
      (set_one s past e.0 f.0 e.1 f.1) e.2 f.2) (λ e f. set_one s past a b e f)
  set_one s (other ∷ past) a b p q = set_one s past a b p q

  -- ---- statements that leave the changes of the transaction that was open

  module _ (s : ℕ) (text : List ℕ) (statement : Stmt) (says_it : says text statement) where
    pub read_as : (t : ℕ) (a : Stmt) (past : List Event) → t ≡ s → Asks says t a past → under_way s past ≡ Some (Sql text) → is_on_rows statement ≡ false
        → a ≡ statement
    read_as t a past same asks asked plain =
        let same_text : text ≡ asks.0 = (let x = sym asked ∙ subst (λ u. under_way u past ≡ Some (Sql asks.0)) same asks.1 in cc) in
        let alike : Alike a statement = one text a statement (subst (λ (t : List ℕ). says t a) (sym same_text) asks.2) says_it in
        alike.same (alike.rows ∙ plain)

    pub kept_own : keeps_changes statement ≡ true → (past : List Event) → IsLegal says past → under_way s past ≡ Some (Sql text)
        → did begins_txn s past ≡ false → IsOpen s past → own s past ≡ settled s past
    kept_own keeps [] legal asked not is_open = refl
    kept_own keeps (Started t j item ∷ past) legal asked not is_open =
        by_session t s (λ is same. start_settled says t s j item past same legal) (λ is. kept_own keeps past legal.1 (rw is at asked) (rw is at not) is_open)
    kept_own keeps (Begin t n l ∷ past) legal asked not is_open =
        by_session t s (λ is same. (let e = rw is at not in cc)) (λ is. rw is (kept_own keeps past legal.1 asked (rw is at not) (rw is at is_open)))
    kept_own keeps (Changed t change ∷ past) legal asked not is_open =
        by_session t s
        (λ is same.
        let may = legal.0.2 in
        let begun = subst (λ u. did begins_txn u past ≡ false) (sym same) (rw is at not) in
        absurd (keeper_changes t statement past keeps begun
        (subst (λ (a : Stmt). ChangesBy t a past) (read_as t may.statement past same may.takes.asks asked (keeper_apart statement keeps)) may.by)))
        (λ is. rw is (kept_own keeps past legal.1 asked (rw is at not) is_open))
    kept_own keeps (Undone t keep ∷ past) legal asked not is_open =
        by_session t s
        (λ is same.
        let begun = subst (λ u. did begins_txn u past ≡ false) (sym same) (rw is at not) in
        elim legal.0.2.by [
          | inl ending ↦ no_item (sym (subst (λ u. under_way u past ≡ None) same ending) ∙ asked)
          | inr by ↦ absurd (keeper_undoes t keep by.1.setting statement past keeps begun
              (subst (λ (a : Stmt). UndoesBy t keep by.1.setting a past) (read_as t by.0 past same by.1.asks asked (keeper_apart statement keeps)) by.2))
        ])
        (λ is. rw is (kept_own keeps past legal.1 asked (rw is at not) is_open))
    kept_own keeps (Committed t ∷ past) legal asked not is_open =
        by_session t s (λ is same. (let e = rw is at is_open in cc)) (λ is. rw is (kept_own keeps past legal.1 asked (rw is at not) (rw is at is_open)))
    kept_own keeps (RolledBack t ∷ past) legal asked not is_open =
        by_session t s (λ is same. (let e = rw is at is_open in cc)) (λ is. rw is (kept_own keeps past legal.1 asked (rw is at not) (rw is at is_open)))
    kept_own keeps (Ended t j reply ∷ past) legal asked not is_open =
        by_session t s (λ is same. no_item (rw is at asked)) (λ is. rw is (kept_own keeps past legal.1 (rw is at asked) (rw is at not) is_open))
    kept_own keeps (e ∷ past) legal asked not is_open = kept_own keeps past legal.1 asked (did_before begins_txn s e past refl not) is_open

    pub none_begun : never_begins statement ≡ true → is_on_rows statement ≡ false → (past : List Event) → IsLegal says past
        → under_way s past ≡ Some (Sql text) → did begins_txn s past ≡ false
    none_begun never plain [] legal asked = refl
    none_begun never plain (Started t j item ∷ past) legal asked =
        by_session t s (λ is same. rw is refl) (λ is. rw is (none_begun never plain past legal.1 (rw is at asked)))
    none_begun never plain (Begin t n l ∷ past) legal asked =
        by_session t s
        (λ is same.
        let may = legal.0.2 in
        absurd (never_begun t may.takes.setting statement past never
        (subst (λ (a : Stmt). BeginsBy t may.takes.setting a past) (read_as t may.statement past same may.takes.asks asked plain) may.by)))
        (λ is. rw is (none_begun never plain past legal.1 asked))
    none_begun never plain (Ended t j reply ∷ past) legal asked =
        by_session t s (λ is same. no_item (rw is at asked)) (λ is. rw is (none_begun never plain past legal.1 (rw is at asked)))
    none_begun never plain (e ∷ past) legal asked = did_same begins_txn s e past refl refl ∙ none_begun never plain past legal.1 asked

-- ---- how items end

pub empty_unmoved : (says : Language) (s : ℕ) (item : Item) (past : List Event) → IsLegal says past → under_way s past ≡ Some item → of_item s past ≡ []
    → own s past ≡ settled s past
empty_unmoved says s item past legal asked none =
    empty_own s past none ∙ unbegun_settled says s item past legal asked (ap (list_any begins_txn) none)

pub backs_out : (says : Language) (s : ℕ) (item : Item) (l : Option Level) (autocommit : Bool) (past : List Event) → IsLegal says past
    → under_way s past ≡ Some item → BacksOut l autocommit s past → IsUnmoved s past
backs_out says s item (Some l) autocommit past legal asked backs = inr (backs.1 ∙ unbegun_settled says s item past legal asked backs.0.not_begun)
backs_out says s item None true past legal asked backs = inl backs.1.closed
backs_out says s item None false past legal asked backs = inr (backs.2 ∙ sym (begun_settled says s item past asked backs.0.begun))

-- a statement on rows that leaves its transaction open has not come to an end of its changes
pub goes_on : (s : ℕ) (item : Item) (l : Option Level) (autocommit : Bool) (past : List Event) → under_way s past ≡ Some item → Goes l autocommit s past
    → IsOpen s past → is_over s past ≡ false
goes_on s item (Some l) autocommit past asked goes is_open = over_none s item past asked goes.1 goes.0.not_committed goes.0.not_rolled_back
goes_on s item None true past asked goes is_open = open_not s past is_open goes.0.closed
goes_on s item None false past asked goes is_open = over_none s item past asked goes.2 goes.1 goes.0.not_rolled_back
