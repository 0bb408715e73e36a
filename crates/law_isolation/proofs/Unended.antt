-- Where the setup part has an item under way while others commit, a history may not answer as alone.
use Rattle.std.proofs.Common.{◌≡◌, ◌≢◌, ◌∙◌, ap, sym, subst, refl, ℕ, false, List, [], ◌∷◌, Some, None, inl, inr, arith}
use Rattle.std.specs.Prelude.{length}
use Rattle.inno_types.specs.declared.lock.Level.TheVariants.{Serializable, RepeatableRead}
use Rattle.inno_types.specs.declared.reply.Item.TheVariants.{Sql}
use Rattle.inno_types.specs.declared.reply.Reply.TheVariants.{Count, Rows, Done}
use Rattle.inno_types.specs.declared.stmt.Selected.TheVariants.{AllColumns}
use Rattle.inno_types.specs.declared.stmt.Stmt.{Stmt}
use Rattle.inno_types.specs.declared.stmt.Stmt.TheVariants as stmt
use Rattle.inno_types.specs.declared.value.Value.{Value}
use Rattle.inno_db.specs.declared.change.Change.TheVariants.{Put}
use Rattle.inno_db.specs.declared.outcome.Outcome.{Outcome}
use Rattle.inno_db.specs.Changes.{Spares, apply}
use Rattle.inno_db.specs.Outcome.{outcome, select_answer}
use Rattle.inno_model.specs.declared.event.Event.{Event}
use Rattle.inno_model.specs.declared.event.Event.TheVariants.{Opened, Begin, Started, View, Changed, Ended, Committed}
use Rattle.inno_model.specs.Moments.{Sometime}
use Rattle.inno_model.specs.Past.{under_way, before_item, level, own}
use Rattle.sql_grammar.specs.Grammar.{Spells}
use Rattle.sql_history.specs.Items.{base, HasMade}
use Rattle.sql_history.specs.Settings.{HasSet, at_first}
use Rattle.sql_history.specs.Statements.{refused_at_once}
use Rattle.sql_history.specs.LooseReading.{newest}
use Rattle.sql_history.specs.Legal.{IsLegal, Takes, MayBegin, MayChange, MayCommit, MayEnd, MayView}
use Rattle.sql_history.specs.Serial.{Piece, HasDone, HasWorked, with_item, WorksAnswer, AnswersAsAlone, IsSerializable}
use Rattle.law_histories.specs.Trees.{tree_of}
use Rattle.law_histories.proofs.OneOutcome.{plain_same}
use Rattle.law_histories.proofs.Statements.{one_tree}
use Rattle.law_histories.specs.Work.{committed_db}
use Rattle.law_histories.proofs.Entries.{by_session, true_false}
use Rattle.law_isolation.specs.Pieces.{AreBeside}
use Rattle.law_isolation.specs.Standing.{HasStanding}
use Rattle.law_isolation.specs.SerialExample.{one_column, empty_table, a_row, putting, reading}
use Rattle.law_isolation.proofs.SerialExample.{insert, select, spells-putting, spells-reading, no_rows, inserted-answer, inserted-reply, selected-answer, not_empty}
use Rattle.law_isolation.specs.Phantoms.{IsPhantomFree, SetsUpFirst}
use Rattle.law_isolation.specs.Example.{leveling, beginning, committing, unended}
use Rattle.law_isolation.proofs.Example.{set_level, spells-leveling, spells-beginning, spells-committing, leveled}

-- ---- the past behind so many entries

abbrev past_1 : List Event
past_1 = Opened empty_table ∷ []

abbrev past_2 : List Event
past_2 = Started 0 1 (Sql beginning) ∷ past_1

abbrev past_3 : List Event
past_3 = Begin 0 1 RepeatableRead ∷ past_2

abbrev past_4 : List Event
past_4 = Ended 0 1 Done ∷ past_3

abbrev past_5 : List Event
past_5 = Started 0 2 (Sql reading) ∷ past_4

abbrev past_6 : List Event
past_6 = View 0 ∷ past_5

abbrev past_7 : List Event
past_7 = Ended 0 2 (Rows []) ∷ past_6

abbrev past_8 : List Event
past_8 = Started 0 3 (Sql committing) ∷ past_7

abbrev past_9 : List Event
past_9 = Started 1 1 (Sql leveling) ∷ past_8

abbrev past_10 : List Event
past_10 = Ended 1 1 Done ∷ past_9

abbrev past_11 : List Event
past_11 = Started 1 2 (Sql putting) ∷ past_10

abbrev past_12 : List Event
past_12 = Begin 1 2 Serializable ∷ past_11

abbrev past_13 : List Event
past_13 = Changed 1 (Put 0 a_row) ∷ past_12

abbrev past_14 : List Event
past_14 = Committed 1 ∷ past_13

-- ---- session 0

set_begun : HasSet Spells 0 past_4 at_first
set_begun = (at_first, (at_first, refl, refl), (stmt.Begin false, spells-beginning, refl))

set_read : HasSet Spells 0 past_7 at_first
set_read = (at_first, set_begun, refl)

may_begin : MayBegin Spells 0 1 RepeatableRead past_2
may_begin =
    record {
      numbered = refl;
      closed = refl;
      first = refl;
      acked = refl;
      statement = stmt.Begin false;
      takes = record { asks = (beginning, refl, spells-beginning); setting = at_first; is_set = refl; not_refused = inl refl };
      level_is = refl;
      by = tt;
    }

begin_ends : MayEnd Spells 0 1 Done past_3
begin_ends =
    record {
      numbered = refl;
      item = Sql beginning;
      asked = refl;
      ends = (
        refl,
        inl refl,
        inl (record {
          statement = stmt.Begin false;
          asks = (beginning, refl, spells-beginning);
          setting = at_first;
          is_set = refl;
          refusal = None;
          found = inl refl;
          ends = (refl, record { opens = record { is_open = refl; begun = refl; not_rolled_back = refl }; new = refl; view = λ snapshot. cc });
          no_victim = refl;
        }),
      );
    }

may_view : MayView Spells 0 past_5
may_view =
    record {
      statement = select;
      takes = record { asks = (reading, refl, spells-reading); setting = at_first; is_set = set_begun; not_refused = inl refl };
      l = RepeatableRead;
      level_is = refl;
      by = (refl, refl);
    }

read_nothing : Rows [] ≡ (outcome select empty_table).reply
read_nothing = sym (ap (λ (rows : List (List Value)). (select_answer AllColumns None 0 one_column rows).reply) no_rows)

read_ends : MayEnd Spells 0 2 (Rows []) past_6
read_ends =
    record {
      numbered = refl;
      item = Sql reading;
      asked = refl;
      ends = (
        refl,
        inl refl,
        inl (record {
          statement = select;
          asks = (reading, refl, spells-reading);
          setting = at_first;
          is_set = set_begun;
          refusal = None;
          found = inl refl;
          ends = (
            record {
              l = RepeatableRead;
              level_is = refl;
              answers = record
                  { db = empty_table; sees = (0, refl, refl); answer = read_nothing; changes = refl };
              viewed = λ is not. absurd (not refl);
            },
            (record { stays = refl; not_begun = refl; not_committed = refl; not_rolled_back = refl }, refl),
          );
          no_victim = refl;
        }),
      );
    }

may_commit : MayCommit Spells 0 past_14
may_commit =
    record {
      is_open = refl;
      statement = stmt.Commit;
      takes = record { asks = (committing, refl, spells-committing); setting = at_first; is_set = set_read; not_refused = inl refl };
      by = tt;
    }

-- ---- session 1

level_ends : MayEnd Spells 1 1 Done past_9
level_ends =
    record {
      numbered = refl;
      item = Sql leveling;
      asked = refl;
      ends = (
        refl,
        inl refl,
        inl (record {
          statement = set_level;
          asks = (leveling, refl, spells-leveling);
          setting = at_first;
          is_set = refl;
          refusal = None;
          found = inl refl;
          ends = (refl, refl);
          no_victim = refl;
        }),
      );
    }

set_first : HasSet Spells 1 past_10 leveled
set_first = (at_first, refl, (set_level, spells-leveling, refl))

abbrev puts : (past : List Event) → under_way 1 past ≡ Some (Sql putting) → before_item 1 past ≡ past_10
    → Sometime (λ h. refused_at_once 1 leveled insert h ≡ None) 1 past → Takes Spells 1 insert past
puts past asked before free =
    record {
      asks = (putting, asked, spells-putting);
      setting = leveled;
      is_set = subst (λ (h : List Event). HasSet Spells 1 h leveled) (sym before)
          set_first;
      not_refused = free;
    }

may_begin_too : MayBegin Spells 1 2 Serializable past_11
may_begin_too =
    record {
      numbered = refl;
      closed = refl;
      first = refl;
      acked = refl;
      statement = insert;
      takes = puts past_11 refl refl (inl refl);
      level_is = refl;
      by =
          refl;
    }

none_changed : (other : ℕ) → own other past_12 ≡ []
none_changed other = by_session 1 other (λ is same. rw is refl) (λ is. rw is (by_session 0 other (λ zero same. rw zero refl) (λ zero. rw zero refl)))

may_put : MayChange Spells 1 (Put 0 a_row) past_12
may_put =
    record {
      is_open = refl;
      not_over = refl;
      statement = insert;
      takes = puts past_12 refl refl (inl refl);
      by = tt;
      free = λ place is other apart. subst (Spares (newest past_12) place) (sym (none_changed other)) tt;
      within = omega (arith, ap length no_rows);
    }

may_commit_too : MayCommit Spells 1 past_13
may_commit_too =
    record {
      is_open = refl;
      statement = insert;
      takes = puts past_13 refl refl (inl refl);
      by = (
        refl,
        record {
          alone = refl;
          not_over = refl;
          l = Serializable;
          level_is = refl;
          reply = Count 1;
          answers =
              record {
                db = base 1 past_13;
                sees = refl;
                answer = inserted-reply;
                changes = subst
                    (λ (o : Outcome). HasMade (length o.changes) 1 o.changes past_13) (sym inserted-answer) refl;
              };
          not_refused = λ error is. cc;
        },
      );
    }

-- ---- all of it

legal_setup : IsLegal Spells past_8
legal_setup = (
  (not_empty _ _, record { idle = refl; stays = refl; numbered = refl }, tt),
  (
    (not_empty _ _, read_ends, tt),
    (
      (not_empty _ _, refl, may_view, tt),
      (
        (not_empty _ _, record { idle = refl; stays = refl; numbered = refl }, tt),
        (
          (not_empty _ _, begin_ends, tt),
          (
            (not_empty _ _, refl, may_begin, tt),
            (
              (not_empty _ _, record { idle = refl; stays = refl; numbered = refl }, tt),
              (refl, tt),
            ),
          ),
        ),
      ),
    ),
  ),
)

pub legal_unended : IsLegal Spells unended
legal_unended = (
  (not_empty _ _, refl, may_commit, tt),
  (
    (not_empty _ _, refl, may_commit_too, tt),
    (
      (not_empty _ _, refl, may_put, tt),
      (
        (not_empty _ _, refl, may_begin_too, tt),
        (
          (not_empty _ _, record { idle = refl; stays = refl; numbered = refl }, tt),
          (
            (not_empty _ _, level_ends, tt),
            (
              (not_empty _ _, record { idle = refl; stays = refl; numbered = refl }, tt),
              legal_setup,
            ),
          ),
        ),
      ),
    ),
  ),
)

pub serializable_unended : IsSerializable unended
serializable_unended = ((λ other. refl), ((λ not_zero. absurd (not_zero refl)), tt))

pub first_unended : SetsUpFirst unended
first_unended = (
  (λ is. cc),
  (
    (λ is. cc),
    (
      (λ is. cc),
      (
        (λ is. cc),
        (
          (λ is. cc),
          (
            (λ is. cc),
            (
              (λ is. cc),
              (
                (λ is. (refl, (refl, tt))),
                ((λ is. (refl, (refl, tt))), ((λ is. cc), ((λ is. (refl, tt)), ((λ is. (refl, tt)), ((λ is. cc), ((λ is. tt), ((λ is. cc), tt))))))),
              ),
            ),
          ),
        ),
      ),
    ),
  ),
)

pub free_unended : IsPhantomFree Spells unended
free_unended = (last, (first, tt))
  where
    last : (s : ℕ) (pieces : List Piece) → s ≢ 0 → level s past_14 ≡ Some Serializable → HasStanding Spells s past_14 pieces
        → AreBeside pieces (committed_db past_14) (own 0 past_14)
    last s pieces apart open_at stands =
        by_session 1 s (λ one same. (let e = rw one at open_at in cc))
        (λ one. by_session 0 s (λ zero same. absurd (apart (sym same))) (λ zero. (let e = rw one at open_at in let f = rw zero at e in cc)))

    first : (s : ℕ) (pieces : List Piece) → s ≢ 1 → level s past_13 ≡ Some Serializable → HasStanding Spells s past_13 pieces
        → AreBeside pieces (committed_db past_13) (own 1 past_13)
    first s pieces apart open_at stands =
        by_session 1 s (λ one same. absurd (apart (sym same)))
        (λ one. by_session 0 s (λ zero same. (let e = rw one at open_at in let f = rw zero at e in cc))
        (λ zero. (let e = rw one at open_at in let f = rw zero at e in cc)))

-- ---- alone, session 0 would read session 1's row

select_one : (a : Stmt) → tree_of a ≡ tree_of select → a ≡ select
select_one (stmt.Select selected table None lock) is = cc
select_one (stmt.Select selected table (Some f) lock) is = (cc)
select_one other is = (cc)

has_read : (pieces : List Piece) → HasDone Spells 0 past_14 pieces → pieces ≡ Piece.ran select (Some (Rows [])) ∷ []
has_read pieces done =
    let read = select_one done.2.0 (one_tree reading done.2.0 select done.2.1 spells-reading) in
    let begun = sym (plain_same (stmt.Begin false) done.1.2.0 (one_tree beginning (stmt.Begin false) done.1.2.0 spells-beginning done.1.2.1)) in
    done.2.2
    ∙ ap (λ (a : Stmt). with_item a (Rows []) done.0) read
    ∙ ap (λ (ps : List Piece). Piece.ran select (Some (Rows [])) ∷ ps) (done.1.2.2 ∙ ap (λ (a : Stmt). with_item a Done done.1.0) begun ∙ done.1.1)

worked_first : (work : List Piece) → HasWorked Spells 0 None past_14 work → work ≡ Piece.ran select (Some (Rows [])) ∷ []
worked_first work (pieces, done, inl begun) = true_false begun.0 refl
worked_first work (pieces, done, inr as_done) = as_done.1 ∙ has_read pieces done

worked_second : (work : List Piece) → HasWorked Spells 1 None past_13 work → work ≡ Piece.ran insert None ∷ []
worked_second work (pieces, done, inl begun) =
    let asks = begun.1.1 in
    let text : asks.0 ≡ putting = (let x = asks.1 in cc) in
    let same = sym (plain_same insert begun.1.0 (one_tree putting insert begun.1.0 spells-putting (subst (λ (t : List ℕ). Spells t begun.1.0) text asks.2))) in
    begun.1.2 ∙ ap (λ (a : Stmt). Piece.ran a None ∷ pieces) same ∙ ap (λ (ps : List Piece). Piece.ran insert None ∷ ps) done
worked_second work (pieces, done, inr not) = true_false refl not.0

pub unended_not_alone : AnswersAsAlone Spells unended → ⊥
unended_not_alone answers =
    let last = answers.are in
    let first = last.3 in
    let works : answers.works ≡ (Piece.ran select (Some (Rows [])) ∷ []) ∷ (Piece.ran insert None ∷ []) ∷ [] =
    last.4
    ∙ ap (λ (w : List Piece). w ∷ last.1) (worked_first last.0 last.2)
    ∙ ap (λ (ws : List (List Piece)). (Piece.ran select (Some (Rows [])) ∷ []) ∷ ws)
    (first.4 ∙ ap (λ (w : List Piece). w ∷ first.1) (worked_second first.0 first.2) ∙ ap (λ (ws : List (List Piece)). (Piece.ran insert None ∷ []) ∷ ws)
    first.3) in
    let replies = (subst (WorksAnswer empty_table) works answers.answers).1.1 in
    let put = ap (λ (o : Outcome). (outcome select (apply empty_table o.changes)).reply) inserted-answer in
    (let e = replies ∙ put ∙ sym selected-answer in cc)
