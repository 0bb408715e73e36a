-- The setup part of a history: while no other session has started anything, each entry is session 0's.
use Rattle.std.proofs.Common.{◌≡◌, ◌≢◌, ◌∙◌, ap, sym, subst, refl, ℕ, Bool, true, false, List, [], ◌∷◌, Some, None, inl, inr, ◌⊎◌, arith}
use Rattle.std.specs.Prelude.{is_some, ◌+◌}
use Rattle.std.proofs.lemmas.Bool.Decides.{nat_tests, Decides-eqb}
use Rattle.inno_types.specs.declared.reply.Item.TheVariants.{Sql}
use Rattle.inno_types.specs.declared.stmt.Definition.{Definition}
use Rattle.inno_types.specs.declared.stmt.Stmt.{Stmt}
use Rattle.inno_types.specs.declared.stmt.Stmt.TheVariants as stmt
use Rattle.inno_types.specs.declared.value.Schema.{Schema}
use Rattle.inno_model.specs.declared.event.Event.{Event}
use Rattle.inno_model.specs.declared.event.Event.TheVariants.{Begin, Started, View, Changed, Waits, Victim, Undone, Ended, Committed, Acked, RolledBack}
use Rattle.inno_model.specs.Moments.{Sometime}
use Rattle.inno_model.specs.Past.{is_of, under_way, of_item, awaits_ack, level, txn, own, did, begins_txn, begins}
use Rattle.inno_model.proofs.Untouched.{untouched}
use Rattle.sql_history.specs.Items.{Language, Asks}
use Rattle.sql_history.specs.Settings.{Setting}
use Rattle.sql_history.specs.Statements.{refused_at_once}
use Rattle.sql_history.specs.Legal.{IsLegal}
use Rattle.sql_history.specs.Serial.{IsUnstarted, IsSetUp}
use Rattle.law_histories.proofs.Alike.{ReadsOne}
use Rattle.law_histories.proofs.Entries.{by_session, no_item, true_false}
use Rattle.law_histories.proofs.Items.{read_as, did_same}
use Rattle.law_isolation.specs.Turns.{IsOfOne}
use Rattle.law_isolation.specs.Phantoms.{AllApart, is_setup, SetsUpFirst}

unstarted_before : (e : Event) (past : List Event) → IsUnstarted (e ∷ past) → IsUnstarted past
unstarted_before (Started t j item) past unstarted = unstarted.1
unstarted_before e past unstarted = unstarted

module _ (says : Language) where
  -- an open transaction has a number
  numbered : (s : ℕ) (past : List Event) → IsLegal says past → is_some (level s past) ≡ true → txn s past ≢ 0
  numbered s [] legal is_open = (cc)
  numbered s (Begin t n l ∷ past) legal is_open =
      by_session t s (λ is same. rw is (λ none. (let e = legal.0.2.numbered in let f : 0 ≡ begins past + 1 = sym none ∙ e in absurd (omega (arith, f)))))
      (λ is. rw is (numbered s past legal.1 (rw is at is_open)))
  numbered s (Committed t ∷ past) legal is_open =
      by_session t s (λ is same. (let e = rw is at is_open in cc)) (λ is. numbered s past legal.1 (rw is at is_open))
  numbered s (RolledBack t ∷ past) legal is_open =
      by_session t s (λ is same. (let e = rw is at is_open in cc)) (λ is. numbered s past legal.1 (rw is at is_open))
  numbered s (e ∷ past) legal is_open = numbered s past legal.1 is_open

  -- a session that has started nothing has nothing
  pub record IsAbsent (t : ℕ) (past : List Event) : Type 0 where
    pub item : under_way t past ≡ None
    pub entries : of_item t past ≡ []
    pub closed : level t past ≡ None
    pub no_txn : txn t past ≡ 0
    pub no_changes : own t past ≡ []

  asks_nothing : (t u : ℕ) (a : Stmt) (past : List Event) → IsAbsent t past → u ≡ t → Asks says u a past → ⊥
  asks_nothing t u a past absent same asks = no_item (sym absent.item ∙ subst (λ v. under_way v past ≡ Some (Sql asks.0)) same asks.1)

  opens_nothing : (t u : ℕ) (past : List Event) → IsAbsent t past → u ≡ t → is_some (level u past) ≡ true → ⊥
  opens_nothing t u past absent same is_open = (let e = subst (λ v. is_some (level v past) ≡ true) same is_open in let f = ap is_some absent.closed in cc)

  -- none of its entries comes
  not_its : (t : ℕ) (e : Event) (past : List Event) → t ≢ 0 → IsLegal says (e ∷ past) → IsUnstarted (e ∷ past) → IsAbsent t past → is_of t e ≡ false
  not_its t (Begin u n l) past apart legal unstarted absent =
      by_session u t (λ is same. absurd (asks_nothing t u legal.0.2.statement past absent same legal.0.2.takes.asks)) (λ is. is)
  not_its t (Started u j item) past apart legal unstarted absent = by_session u t (λ is same. absurd (apart (sym same ∙ unstarted.0))) (λ is. is)
  not_its t (View u) past apart legal unstarted absent =
      by_session u t (λ is same. absurd (asks_nothing t u legal.0.2.statement past absent same legal.0.2.takes.asks)) (λ is. is)
  not_its t (Changed u change) past apart legal unstarted absent =
      by_session u t (λ is same. absurd (asks_nothing t u legal.0.2.statement past absent same legal.0.2.takes.asks)) (λ is. is)
  not_its t (Waits u lock blockers at) past apart legal unstarted absent =
      by_session u t (λ is same. absurd (asks_nothing t u legal.0.2.statement past absent same legal.0.2.asks)) (λ is. is)
  not_its t (Victim u cycle) past apart legal unstarted absent =
      by_session u t
      (λ is same.
      let waits = legal.0.2.waits in
      absurd (numbered waits.s past legal.1 waits.is_open (waits.is_txn ∙ ap (λ v. txn v past) same ∙ absent.no_txn)))
      (λ is. is)
  not_its t (Undone u keep) past apart legal unstarted absent =
      by_session u t (λ is same. absurd (opens_nothing t u past absent same legal.0.2.is_open)) (λ is. is)
  not_its t (Ended u j reply) past apart legal unstarted absent =
      by_session u t (λ is same. no_item (sym absent.item ∙ subst (λ v. under_way v past ≡ Some legal.0.1.item) same legal.0.1.asked)) (λ is. is)
  not_its t (Committed u) past apart legal unstarted absent =
      by_session u t (λ is same. absurd (opens_nothing t u past absent same legal.0.2.is_open)) (λ is. is)
  not_its t (Acked u moment) past apart legal unstarted absent =
      by_session u t (λ is same. true_false legal.0.2.owed (ap (λ v. awaits_ack (of_item v past)) same ∙ ap awaits_ack absent.entries)) (λ is. is)
  not_its t (RolledBack u) past apart legal unstarted absent =
      by_session u t (λ is same. absurd (opens_nothing t u past absent same legal.0.2.is_open)) (λ is. is)
  not_its t e past apart legal unstarted absent = refl

  pub absent_others : (past : List Event) → IsLegal says past → IsUnstarted past → (t : ℕ) → t ≢ 0 → IsAbsent t past
  absent_others [] legal unstarted t apart = record { item = refl; entries = refl; closed = refl; no_txn = refl; no_changes = refl }
  absent_others (e ∷ past) legal unstarted t apart =
      let before = absent_others past legal.1 (unstarted_before e past unstarted) t apart in
      let same = untouched e past t (not_its t e past apart legal unstarted before) in
      record {
        item = same.item ∙ before.item;
        entries = same.entries ∙ before.entries;
        closed = same.level_is ∙ before.closed;
        no_txn = same.txn_is ∙
            before.no_txn;
        no_changes = same.own_is ∙ before.no_changes;
      }

  -- so it is a history of one session
  pub setup_of_one : (past : List Event) → IsLegal says past → IsUnstarted past → IsOfOne 0 past
  setup_of_one [] legal unstarted = tt
  setup_of_one (e ∷ past) legal unstarted =
      let before = unstarted_before e past unstarted in (
        λ other its. by_session other 0 (λ is same. same)
            (λ is.
            let apart : other ≢ 0 = grind (arith, nat_tests, is) in
            true_false its (not_its other e past apart legal unstarted (absent_others past legal.1 before other apart))),
        setup_of_one past legal.1 before,
      )

  -- and no place has changes of two
  pub setup_apart : (schemas : List Schema) (past : List Event) → IsLegal says past → IsUnstarted past → AllApart schemas past
  setup_apart schemas past legal unstarted s t differ place there is =
      by_session t 0
      (λ zero same.
      let mine = (absent_others past legal unstarted s (λ z. differ (z ∙ sym same))).no_changes in
      (let e = rw mine at is in cc))
      (λ other.
      let apart : t ≢ 0 = grind (arith, nat_tests, other) in
      let none = (absent_others past legal unstarted t apart).no_changes in rw none refl)

  -- Either nobody else has started anything, or session 0 has no item under way.
  pub set_up : (past : List Event) → IsSetUp past → IsUnstarted past ⊎ (under_way 0 past ≡ None)
  set_up [] set = inl tt
  set_up (Started t j item ∷ past) set =
      by_session t 0
      (λ is same. inl (same, set.0 same))
      (λ is. let apart : t ≢ 0 = grind (arith, nat_tests, is) in inr (rw is (set.1 apart)))
  set_up (Ended t j reply ∷ past) set =
      elim (set_up past set) [ inl unstarted ↦ inl unstarted | inr none ↦ inr (by_session t 0 (λ is same. rw is refl) (λ is. rw is none)) ]
  set_up (e ∷ past) set = set_up past set

  pub set_up_before : (e : Event) (past : List Event) → IsSetUp (e ∷ past) → IsSetUp past
  set_up_before (Started t j item) past set = set.2
  set_up_before e past set = set

  first_at : (e : Event) (past : List Event) → IsLegal says (e ∷ past) → IsSetUp (e ∷ past) → is_setup e ≡ true → IsUnstarted past
  first_at (Started t j item) past legal set is = set.0 ((Decides-eqb t 0).0 is)
  first_at (Ended t j reply) past legal set is =
      elim (set_up past set) [
        | inl unstarted ↦ unstarted
        | inr none ↦ no_item (sym none ∙ subst (λ u. under_way u past ≡ Some legal.0.1.item) ((Decides-eqb t 0).0 is) legal.0.1.asked)
      ]
  first_at e past legal set is = (cc)

  pub sets_up_first : (past : List Event) → IsLegal says past → IsSetUp past → SetsUpFirst past
  sets_up_first [] legal set = tt
  sets_up_first (e ∷ past) legal set = (first_at e past legal set, sets_up_first past legal.1 (set_up_before e past set))

  -- another session makes no table
  module _ (one : ReadsOne says) (s : ℕ) (apart : s ≢ 0) (text table : List ℕ) (skips : Bool) (definitions : List Definition)
      (says_it : says text (stmt.CreateTable table skips definitions)) where
    always_refused : (setting : Setting) (past : List Event) → refused_at_once s setting (stmt.CreateTable table skips definitions) past ≡ None → ⊥
    always_refused setting past none = by_session s 0 (λ is same. apart same) (λ is. (let e = rw is at none in cc))

    never : (setting : Setting) (past : List Event) → Sometime (λ h. refused_at_once s setting (stmt.CreateTable table skips definitions) h ≡ None) s past → ⊥
    never setting [] sometime = sometime
    never setting (e ∷ past) sometime = elim sometime [ inl now ↦ always_refused setting (e ∷ past) now | inr before ↦ never setting past before.1 ]

    pub makes_no_table : (past : List Event) → IsLegal says past → under_way s past ≡ Some (Sql text) → did begins_txn s past ≡ false
    makes_no_table [] legal asked = no_item asked
    makes_no_table (Started t j item ∷ past) legal asked =
        by_session t s (λ is same. rw is refl) (λ is. rw is (makes_no_table past legal.1 (rw is at asked)))
    makes_no_table (Begin t n l ∷ past) legal asked =
        by_session t s
        (λ is same.
        let may = legal.0.2 in
        let a_is = read_as says one s text (stmt.CreateTable table skips definitions) says_it t may.statement past same may.takes.asks asked refl in
        absurd (never may.takes.setting past (subst (λ (a : Stmt). Sometime (λ h. refused_at_once s may.takes.setting a h ≡ None) s past) a_is
        (subst (λ u. Sometime (λ h. refused_at_once u may.takes.setting may.statement h ≡ None) u past) same may.takes.not_refused))))
        (λ is. rw is (makes_no_table past legal.1 asked))
    makes_no_table (Ended t j reply ∷ past) legal asked =
        by_session t s (λ is same. no_item (rw is at asked)) (λ is. rw is (makes_no_table past legal.1 (rw is at asked)))
    makes_no_table (e ∷ past) legal asked = did_same begins_txn s e past refl refl ∙ makes_no_table past legal.1 asked
