-- The example is a legal history in which the sessions take turns.
use Rattle.std.proofs.Common.{◌≡◌, ◌≢◌, ◌∙◌, ap, sym, subst, refl, ℕ, true, false, List, [], ◌∷◌, Some, None, inl, inr, arith}
use Rattle.std.specs.Prelude.{◌==◌, pos, codes, map, filter, length}
use Rattle.std.specs.FinMap.{entries, entries-insert}
use Rattle.std.specs.FinMap as finite
use Rattle.inno_types.specs.declared.value.Value.{Value}
use Rattle.inno_types.specs.declared.value.Value.TheVariants.{Int}
use Rattle.inno_db.specs.Database.{Database, Place, place_cmp, rows_of}
use Rattle.inno_db.specs.Order.{place_cmp_total}
use Rattle.inno_db.specs.Changes.{apply_one, Spares}
use Rattle.inno_db.proofs.Tables.{entries-from_rising}
use Rattle.inno_db.specs.declared.outcome.Outcome.{Outcome}
use Rattle.inno_db.specs.Outcome.{outcome, insert_answer, select_answer}
use Rattle.inno_types.specs.declared.stmt.Stmt.{Stmt}
use Rattle.inno_types.specs.declared.stmt.Stmt.TheVariants as stmt
use Rattle.inno_types.specs.declared.stmt.Literal.TheVariants as literal
use Rattle.inno_types.specs.declared.stmt.Selected.TheVariants.{AllColumns}
use Rattle.sql_grammar.specs.declared.token.Word.TheVariants as word
use Rattle.sql_grammar.specs.declared.token.Token.TheVariants.{Key, Bare, Number, Open, Close, Star}
use Rattle.sql_grammar.specs.Tokens.{AreTokens, after_blank, token_at, word_token, sign_at}
use Rattle.sql_grammar.specs.Grammar.{Name, Lit, Commas, Tuple, Where, Choice, Locking, Into, ColumnList, ValuesWord, Statement, Spells, plain_number}
use Rattle.inno_types.specs.declared.lock.Level.TheVariants.{RepeatableRead}
use Rattle.inno_types.specs.declared.reply.Item.TheVariants.{Sql}
use Rattle.inno_types.specs.declared.reply.Reply.TheVariants.{Count, Rows}
use Rattle.inno_db.specs.declared.change.Change.TheVariants.{Put}
use Rattle.inno_model.specs.declared.event.Event.{Event}
use Rattle.inno_model.specs.declared.event.Event.TheVariants.{Opened, Begin, Started, View, Changed, Committed, Acked}
use Rattle.inno_model.specs.Moments.{Sometime}
use Rattle.inno_model.specs.Past.{is_of, under_way, before_item, own}
use Rattle.sql_history.specs.Items.{base, own_before, HasMade}
use Rattle.sql_history.specs.Settings.{HasSet, at_first}
use Rattle.sql_history.specs.Statements.{refused_at_once}
use Rattle.sql_history.specs.LooseReading.{newest}
use Rattle.sql_history.specs.Legal.{IsLegal, Takes, MayBegin, MayChange, MayCommit, MayEnd, MayView}
use Rattle.law_histories.proofs.Entries.{by_session}
use Rattle.law_isolation.proofs.Turns.{work_untouched, one_serial}
use Rattle.law_isolation.specs.Turns.{is_at_work, IsSerial, IsOfOne}
use Rattle.std.proofs.lemmas.Bool.Decides.{nat_tests}
use Rattle.law_isolation.specs.SerialExample.{one_column, empty_table, a_row, putting, reading, put, put_and_read}

abbrev pub insert : Stmt
insert = stmt.Insert (codes "t") None ((literal.Int (pos 1) ∷ []) ∷ [])

abbrev pub select : Stmt
select = stmt.Select AllColumns (codes "t") None None

putting-tokens : AreTokens putting (Key word.Insert ∷ Bare None (codes "t") ∷ Key word.Values ∷ Open ∷ Number (codes "1") ∷ Close ∷ [])
unfolding after_blank token_at word_token sign_at
putting-tokens =
    AreTokens.token refl refl (AreTokens.blank refl
    (AreTokens.token refl refl (AreTokens.blank refl
    (AreTokens.token refl refl (AreTokens.token refl refl (AreTokens.token refl refl (AreTokens.token refl refl AreTokens.nothing)))))))

reading-tokens : AreTokens reading (Key word.Select ∷ Star ∷ Key word.From ∷ Bare None (codes "t") ∷ [])
unfolding after_blank token_at word_token sign_at
reading-tokens =
    AreTokens.token refl refl (AreTokens.token refl refl (AreTokens.token refl refl (AreTokens.blank refl (AreTokens.token refl refl AreTokens.nothing))))

putting-statement : Statement (Key word.Insert ∷ Bare None (codes "t") ∷ Key word.Values ∷ Open ∷ Number (codes "1") ∷ Close ∷ []) insert
unfolding plain_number
putting-statement = Statement.insert Into.unsaid Name.bare ColumnList.unsaid ValuesWord.values (Commas.last (Tuple.tuple (Commas.last Lit.number)))

pub spells-putting : Spells putting insert
spells-putting = record { tokens = _; lexed = putting-tokens; parsed = putting-statement }

pub spells-reading : Spells reading select
spells-reading = record { tokens = _; lexed = reading-tokens; parsed = Statement.select Choice.all Name.bare Where.each Locking.unsaid }

-- ---- the one that puts

abbrev at_opening : List Event
at_opening = Opened empty_table ∷ []

abbrev at_insert : List Event
at_insert = Started 1 1 (Sql putting) ∷ at_opening

abbrev at_begin : List Event
at_begin = Begin 1 1 RepeatableRead ∷ at_insert

abbrev at_change : List Event
at_change = Changed 1 (Put 0 a_row) ∷ at_begin

abbrev at_commit : List Event
at_commit = Committed 1 ∷ at_change

abbrev at_ack : List Event
at_ack = Acked 1 0 ∷ at_commit

pub not_empty : (e : Event) (past : List Event) → (e ∷ past) ≢ []
not_empty e past = λ x. cc

abbrev inserts : (past : List Event) → under_way 1 past ≡ Some (Sql putting) → before_item 1 past ≡ at_opening
    → Sometime (λ h. refused_at_once 1 at_first insert h ≡ None) 1 past → Takes Spells 1 insert past
inserts past asked before free =
    record {
      asks = (putting, asked, spells-putting);
      setting = at_first;
      is_set = subst (λ (h : List Event). HasSet Spells 1 h at_first) (sym before) refl;
      not_refused = free;
    }

may_begin : MayBegin Spells 1 1 RepeatableRead at_insert
may_begin =
    record {
      numbered = refl;
      closed = refl;
      first = refl;
      acked = refl;
      statement = insert;
      takes = inserts at_insert refl refl (inl refl);
      level_is = refl;
      by = refl;
    }

-- ---- rows

no_entries : entries empty_table.rows ≡ []
no_entries = entries-from_rising [] refl

pub no_rows : rows_of 0 empty_table ≡ []
no_rows = ap (λ (es : List (Place × List Value)). map (λ e. e.1) (filter (λ e. e.0.0 == 0) es)) no_entries

pub inserted-answer : outcome insert empty_table ≡ record { reply = Count 1; changes = Put 0 a_row ∷ [] }
inserted-answer = ap (λ (rows : List (List Value)). insert_answer None ((literal.Int (pos 1) ∷ []) ∷ []) 0 one_column rows) no_rows

pub inserted-reply : Count 1 ≡ (outcome insert empty_table).reply
inserted-reply = sym (ap (λ (o : Outcome). o.reply) inserted-answer)

-- the row that was put stands alone
abbrev pub after_put : Database
after_put = apply_one empty_table (Put 0 a_row)

one_entry : entries after_put.rows ≡ ((0, Int (pos 1)), a_row) ∷ []
one_entry = entries-insert place_cmp_total empty_table.rows (0, Int (pos 1)) a_row ∙ ap (finite.put place_cmp (0, Int (pos 1)) a_row) no_entries

pub one_row : rows_of 0 after_put ≡ a_row ∷ []
one_row = ap (λ (es : List (Place × List Value)). map (λ e. e.1) (filter (λ e. e.0.0 == 0) es)) one_entry

pub selected-answer : Rows (a_row ∷ []) ≡ (outcome select after_put).reply
selected-answer = sym (ap (λ (rows : List (List Value)). (select_answer AllColumns None 0 one_column rows).reply) one_row)

-- ---- the session that puts, entry by entry

spared : (other : ℕ) → own other at_begin ≡ []
spared other = by_session 1 other (λ is same. rw is refl) (λ is. rw is refl)

may_change : MayChange Spells 1 (Put 0 a_row) at_begin
may_change =
    record {
      is_open = refl;
      not_over = refl;
      statement = insert;
      takes = inserts at_begin refl refl (inl refl);
      by = tt;
      free = λ place is other apart. subst (Spares (newest at_begin) place) (sym (spared other)) tt;
      within = omega (arith, ap length no_rows);
    }

made_whole : (past : List Event) → own 1 past ≡ Put 0 a_row ∷ own_before 1 past
    → HasMade (length (outcome insert empty_table).changes) 1 (outcome insert empty_table).changes past
made_whole past made = subst (λ (o : Outcome). HasMade (length o.changes) 1 o.changes past) (sym inserted-answer) made

may_commit : MayCommit Spells 1 at_change
may_commit =
    record {
      is_open = refl;
      statement = insert;
      takes = inserts at_change refl refl (inl refl);
      by = (
        refl,
        record {
          alone = refl;
          not_over = refl;
          l = RepeatableRead;
          level_is = refl;
          reply = Count 1;
          answers = record { db = base 1 at_change; sees = refl; answer = inserted-reply; changes = made_whole at_change refl };
          not_refused = λ error is. cc;
        },
      );
    }

may_end : MayEnd Spells 1 1 (Count 1) at_ack
may_end =
    record {
      numbered = refl;
      item = Sql putting;
      asked = refl;
      ends = (
        refl,
        inl refl,
        inl (record {
          statement = insert;
          asks = (putting, refl, spells-putting);
          setting = at_first;
          is_set = refl;
          refusal = None;
          found = inl refl;
          ends = (
            record {
              l = RepeatableRead;
              level_is = refl;
              answers = record
                  { db = base 1 at_change; sees = refl; answer = inserted-reply; changes = made_whole at_change refl };
              viewed = λ is. cc;
            },
            (record { closed = refl; committed = refl; not_rolled_back = refl }, refl, refl),
          );
          no_victim = refl;
        }),
      );
    }

legal_put : IsLegal Spells put
legal_put = (
  (not_empty _ _, may_end, tt),
  (
    (not_empty _ _, refl, record { owed = refl; closed = refl; later = omega arith }, tt),
    (
      (not_empty _ _, refl, may_commit, tt),
      (
        (not_empty _ _, refl, may_change, tt),
        (
          (not_empty _ _, refl, may_begin, tt),
          (
            (not_empty _ _, record { idle = refl; stays = refl; numbered = refl }, tt),
            (refl, tt),
          ),
        ),
      ),
    ),
  ),
)

-- ---- the session that reads

abbrev at_select : List Event
at_select = Started 2 1 (Sql reading) ∷ put

abbrev at_begin_read : List Event
at_begin_read = Begin 2 2 RepeatableRead ∷ at_select

abbrev at_view : List Event
at_view = View 2 ∷ at_begin_read

abbrev at_commit_read : List Event
at_commit_read = Committed 2 ∷ at_view

abbrev at_ack_read : List Event
at_ack_read = Acked 2 0 ∷ at_commit_read

abbrev selects : (past : List Event) → under_way 2 past ≡ Some (Sql reading) → before_item 2 past ≡ put
    → Sometime (λ h. refused_at_once 2 at_first select h ≡ None) 2 past → Takes Spells 2 select past
selects past asked before free =
    record {
      asks = (reading, asked, spells-reading);
      setting = at_first;
      is_set = subst (λ (h : List Event). HasSet Spells 2 h at_first) (sym before) refl;
      not_refused = free;
    }

may_begin_read : MayBegin Spells 2 2 RepeatableRead at_select
may_begin_read =
    record {
      numbered = refl;
      closed = refl;
      first = refl;
      acked = refl;
      statement = select;
      takes = selects at_select refl refl (inl refl);
      level_is = refl;
      by = refl;
    }

may_view : MayView Spells 2 at_begin_read
may_view = record { statement = select; takes = selects at_begin_read refl refl (inl refl); l = RepeatableRead; level_is = refl; by = (refl, refl) }

may_commit_read : MayCommit Spells 2 at_view
may_commit_read =
    record {
      is_open = refl;
      statement = select;
      takes = selects at_view refl refl (inl refl);
      by = (
        refl,
        record {
          alone = refl;
          not_over = refl;
          l = RepeatableRead;
          level_is = refl;
          reply = Rows (a_row ∷ []);
          answers = record { db = after_put; sees = (1, refl, refl); answer = selected-answer; changes = refl };
          not_refused = λ error is. cc;
        },
      );
    }

may_end_read : MayEnd Spells 2 1 (Rows (a_row ∷ [])) at_ack_read
may_end_read =
    record {
      numbered = refl;
      item = Sql reading;
      asked = refl;
      ends = (
        refl,
        inr (omega (arith, ap length no_rows)),
        inl (record {
          statement = select;
          asks = (reading, refl, spells-reading);
          setting = at_first;
          is_set = refl;
          refusal = None;
          found = inl refl;
          ends = (
            record {
              l = RepeatableRead;
              level_is = refl;
              answers = record
                  { db = after_put; sees = (1, refl, refl); answer = selected-answer; changes = refl };
              viewed = λ is not. absurd (not refl);
            },
            (record { closed = refl; committed = refl; not_rolled_back = refl }, refl, refl),
          );
          no_victim = refl;
        }),
      );
    }

pub legal_example : IsLegal Spells put_and_read
legal_example = (
  (not_empty _ _, may_end_read, tt),
  (
    (not_empty _ _, refl, record { owed = refl; closed = refl; later = omega arith }, tt),
    (
      (not_empty _ _, refl, may_commit_read, tt),
      (
        (not_empty _ _, refl, may_view, tt),
        (
          (not_empty _ _, refl, may_begin_read, tt),
          (
            (not_empty _ _, record { idle = refl; stays = refl; numbered = refl }, tt),
            legal_put,
          ),
        ),
      ),
    ),
  ),
)

-- ---- turns

put_idle : (other : ℕ) → is_at_work other put ≡ false
put_idle other = by_session 1 other (λ is same. rw is refl) (λ is. rw is refl)

one_puts : IsOfOne 1 put
one_puts = (mine, (mine, (mine, (mine, (mine, (mine, ((λ other is. cc), tt)))))))
  where
    mine : (other : ℕ) → (1 == other) ≡ true → other ≡ 1
    mine other is = grind (arith, nat_tests, is)

-- those beside the reader are idle
abbrev AreIdle : List Event → Type 0
AreIdle past = (other : ℕ) → other ≢ 2 → is_at_work other past ≡ false

still_idle : (e : Event) (past : List Event) → ((other : ℕ) → other ≢ 2 → is_of other e ≡ false) → AreIdle past → AreIdle (e ∷ past)
still_idle e past its idle other apart = work_untouched other e past (its other apart) ∙ idle other apart

readers : (other : ℕ) → other ≢ 2 → (2 == other) ≡ false
readers other apart = grind (arith, nat_tests, apart)

turn : (past : List Event) → AreIdle past → (s other : ℕ) → (2 == s) ≡ true → other ≢ s → is_at_work other past ≡ false
turn past idle s other is apart = let two : s ≡ 2 = grind (arith, nat_tests, is) in idle other (λ same. apart (same ∙ sym two))

pub serial_example : IsSerial put_and_read
serial_example =
    let a : AreIdle put = λ other apart. put_idle other in
    let b = still_idle (Started 2 1 (Sql reading)) put readers a in
    let c = still_idle (Begin 2 2 RepeatableRead) at_select readers b in
    let d = still_idle (View 2) at_begin_read readers c in
    let e = still_idle (Committed 2) at_view readers d in
    let f = still_idle (Acked 2 0) at_commit_read readers e in
    (turn at_ack_read f, (turn at_commit_read e, (turn at_view d, (turn at_begin_read c, (turn at_select b, (turn put a, one_serial 1 put one_puts))))))
