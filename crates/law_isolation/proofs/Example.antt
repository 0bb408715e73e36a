-- The example is a legal and serializable history, free of phantoms, and not a serial one.
use Rattle.std.proofs.Common.{◌≡◌, ◌≢◌, ◌∙◌, ap, sym, subst, refl, ℕ, true, false, cond, List, [], ◌∷◌, Option, Some, None, inl, inr, arith}
use Rattle.std.specs.Prelude.{pos, codes, length, slice_get}
use Rattle.std.specs.FinMap.{get, get-from_entries}
use Rattle.inno_types.specs.declared.lock.Level.TheVariants.{Serializable}
use Rattle.inno_types.specs.declared.reply.Item.TheVariants.{Sql}
use Rattle.inno_types.specs.declared.reply.Reply.TheVariants.{Count, Done}
use Rattle.inno_types.specs.declared.stmt.Comparison.TheVariants.{Equal}
use Rattle.inno_types.specs.declared.stmt.Filter.{Filter}
use Rattle.inno_types.specs.declared.stmt.Filter.TheVariants as filter
use Rattle.inno_types.specs.declared.stmt.Literal.TheVariants as literal
use Rattle.inno_types.specs.declared.stmt.Operand.TheVariants as operand
use Rattle.inno_types.specs.declared.stmt.LevelScope.TheVariants.{Session}
use Rattle.inno_types.specs.declared.stmt.Stmt.{Stmt}
use Rattle.inno_types.specs.declared.stmt.Stmt.TheVariants as stmt
use Rattle.inno_types.specs.declared.value.Schema.{Schema}
use Rattle.inno_types.specs.declared.value.Value.{Value}
use Rattle.inno_db.specs.declared.change.Change.TheVariants.{Put}
use Rattle.inno_db.specs.declared.outcome.Outcome.{Outcome}
use Rattle.inno_db.specs.Database.{Place}
use Rattle.inno_db.specs.Order.{place_cmp_total}
use Rattle.inno_db.specs.Changes.{Spares}
use Rattle.inno_db.specs.Conditions.{matches}
use Rattle.inno_db.specs.Outcome.{outcome, insert_answer, delete_answer}
use Rattle.inno_model.specs.declared.event.Event.{Event}
use Rattle.inno_model.specs.declared.event.Event.TheVariants.{Opened, Begin, Started, Changed, Ended, Committed, Acked}
use Rattle.inno_model.specs.Moments.{Sometime}
use Rattle.inno_model.specs.Past.{under_way, before_item, level, own}
use Rattle.sql_grammar.specs.declared.token.Word.TheVariants as word
use Rattle.sql_grammar.specs.declared.token.Token.TheVariants.{Key, Bare, Number, Open, Close, Compare}
use Rattle.sql_grammar.specs.Tokens.{AreTokens, after_blank, token_at, word_token, sign_at}
use Rattle.sql_grammar.specs.Grammar.{Name, Lit, Commas, Tuple, Oper, Atom, Condition, Where, Into, ColumnList, ValuesWord, Work, Scope, LevelName, Statement, Spells, plain_number}
use Rattle.sql_history.specs.Items.{base, own_before, HasMade}
use Rattle.sql_history.specs.Settings.{Setting, HasSet, at_first}
use Rattle.sql_history.specs.Statements.{refused_at_once}
use Rattle.sql_history.specs.LooseReading.{newest}
use Rattle.sql_history.specs.Legal.{IsLegal, Takes, MayBegin, MayChange, MayCommit, MayEnd}
use Rattle.sql_history.specs.Serial.{Piece, HasDone, with_item, IsSerializable, IsSetUp}
use Rattle.law_histories.specs.Trees.{filter_tree, tree_of}
use Rattle.law_histories.specs.Trees as tree
use Rattle.law_histories.proofs.OneOutcome.{plain_same}
use Rattle.law_histories.proofs.Statements.{one_tree}
use Rattle.law_db.specs.Beside.{is_change_at, passed, IsUnmet}
use Rattle.law_db.proofs.Apart.{get_one}
use Rattle.law_histories.specs.Work.{committed_db}
use Rattle.law_histories.proofs.Entries.{by_session}
use Rattle.law_isolation.specs.Pieces.{AreBeside}
use Rattle.law_isolation.specs.Standing.{HasStanding}
use Rattle.law_isolation.specs.Turns.{IsSerial}
use Rattle.law_isolation.specs.SerialExample.{one_column, empty_table, a_row, putting}
use Rattle.law_isolation.proofs.SerialExample.{insert, spells-putting, no_rows, inserted-answer, inserted-reply, after_put, one_row, not_empty}
use Rattle.law_isolation.specs.Phantoms.{IsPhantomFree}
use Rattle.law_isolation.specs.Example.{leveling, beginning, deleting, putting_another, committing, another_row, searched, interleaved}

-- ---- the texts

abbrev pub set_level : Stmt
set_level = stmt.SetLevel Session Serializable

abbrev condition : Filter
condition = filter.Compare (operand.Column (codes "k")) Equal (operand.Literal (literal.Int (pos 2)))

abbrev delete : Stmt
delete = stmt.Delete (codes "t") (Some condition)

abbrev insert_another : Stmt
insert_another = stmt.Insert (codes "t") None ((literal.Int (pos 2) ∷ []) ∷ [])

leveling-tokens : AreTokens leveling (Key word.Set ∷ Bare (Some word.Session) (codes "SESSION") ∷ Bare (Some word.Transaction) (codes "TRANSACTION") ∷ Bare
    (Some word.Isolation) (codes "ISOLATION") ∷ Bare (Some word.Level) (codes "LEVEL") ∷ Bare (Some word.Serializable) (codes "SERIALIZABLE") ∷ [])
unfolding after_blank token_at word_token sign_at
leveling-tokens =
    AreTokens.token refl refl (AreTokens.blank refl
    (AreTokens.token refl refl (AreTokens.blank refl
    (AreTokens.token refl refl (AreTokens.blank refl
    (AreTokens.token refl refl (AreTokens.blank refl
    (AreTokens.token refl refl (AreTokens.blank refl (AreTokens.token refl refl AreTokens.nothing))))))))))

beginning-tokens : AreTokens beginning (Bare (Some word.Begin) (codes "BEGIN") ∷ [])
unfolding after_blank token_at word_token sign_at
beginning-tokens = AreTokens.token refl refl AreTokens.nothing

committing-tokens : AreTokens committing (Bare (Some word.Commit) (codes "COMMIT") ∷ [])
unfolding after_blank token_at word_token sign_at
committing-tokens = AreTokens.token refl refl AreTokens.nothing

deleting-tokens : AreTokens deleting (Key word.Delete ∷ Key word.From ∷ Bare None (codes "t") ∷ Key word.Where ∷ Bare None (codes "k") ∷ Compare Equal ∷
    Number (codes "2") ∷ [])
unfolding after_blank token_at word_token sign_at
deleting-tokens =
    AreTokens.token refl refl (AreTokens.blank refl
    (AreTokens.token refl refl (AreTokens.blank refl
    (AreTokens.token refl refl (AreTokens.blank refl
    (AreTokens.token refl refl (AreTokens.blank refl
    (AreTokens.token refl refl (AreTokens.token refl refl (AreTokens.token refl refl AreTokens.nothing))))))))))

deleting-statement : Statement (Key word.Delete ∷ Key word.From ∷ Bare None (codes "t") ∷ Key word.Where ∷ Bare None (codes "k") ∷ Compare Equal ∷ Number
    (codes "2") ∷ []) delete
unfolding plain_number
deleting-statement =
    Statement.delete Name.bare (Where.those (Condition.conj
    (Condition.neg (Condition.atom (Atom.compare (Oper.of_column Name.bare) (Oper.of_literal Lit.number))))))

another-tokens : AreTokens putting_another (Key word.Insert ∷ Bare None (codes "t") ∷ Key word.Values ∷ Open ∷ Number (codes "2") ∷ Close ∷ [])
unfolding after_blank token_at word_token sign_at
another-tokens =
    AreTokens.token refl refl (AreTokens.blank refl
    (AreTokens.token refl refl (AreTokens.blank refl
    (AreTokens.token refl refl (AreTokens.token refl refl (AreTokens.token refl refl (AreTokens.token refl refl AreTokens.nothing)))))))

another-statement : Statement (Key word.Insert ∷ Bare None (codes "t") ∷ Key word.Values ∷ Open ∷ Number (codes "2") ∷ Close ∷ []) insert_another
unfolding plain_number
another-statement = Statement.insert Into.unsaid Name.bare ColumnList.unsaid ValuesWord.values (Commas.last (Tuple.tuple (Commas.last Lit.number)))

pub spells-leveling : Spells leveling set_level
spells-leveling = record { tokens = _; lexed = leveling-tokens; parsed = Statement.set_level Scope.session LevelName.serializable }

pub spells-beginning : Spells beginning (stmt.Begin false)
spells-beginning = record { tokens = _; lexed = beginning-tokens; parsed = Statement.begin Work.unsaid }

spells-deleting : Spells deleting delete
spells-deleting = record { tokens = _; lexed = deleting-tokens; parsed = deleting-statement }

spells-another : Spells putting_another insert_another
spells-another = record { tokens = _; lexed = another-tokens; parsed = another-statement }

pub spells-committing : Spells committing stmt.Commit
spells-committing = record { tokens = _; lexed = committing-tokens; parsed = Statement.commit Work.unsaid }

-- ---- the past behind so many entries

abbrev past_1 : List Event
past_1 = Opened empty_table ∷ []

abbrev past_2 : List Event
past_2 = Started 1 1 (Sql leveling) ∷ past_1

abbrev past_3 : List Event
past_3 = Ended 1 1 Done ∷ past_2

abbrev past_4 : List Event
past_4 = Started 1 2 (Sql beginning) ∷ past_3

abbrev past_5 : List Event
past_5 = Begin 1 1 Serializable ∷ past_4

abbrev past_6 : List Event
past_6 = Ended 1 2 Done ∷ past_5

abbrev past_7 : List Event
past_7 = Started 2 1 (Sql leveling) ∷ past_6

abbrev past_8 : List Event
past_8 = Ended 2 1 Done ∷ past_7

abbrev past_9 : List Event
past_9 = Started 1 3 (Sql deleting) ∷ past_8

abbrev past_10 : List Event
past_10 = searched

abbrev past_11 : List Event
past_11 = Started 2 2 (Sql putting) ∷ past_10

abbrev past_12 : List Event
past_12 = Begin 2 2 Serializable ∷ past_11

abbrev past_13 : List Event
past_13 = Started 1 4 (Sql putting_another) ∷ past_12

abbrev past_14 : List Event
past_14 = Changed 2 (Put 0 a_row) ∷ past_13

abbrev past_15 : List Event
past_15 = Committed 2 ∷ past_14

abbrev past_16 : List Event
past_16 = Changed 1 (Put 0 another_row) ∷ past_15

abbrev past_17 : List Event
past_17 = Acked 2 0 ∷ past_16

abbrev past_18 : List Event
past_18 = Ended 2 2 (Count 1) ∷ past_17

abbrev past_19 : List Event
past_19 = Ended 1 4 (Count 1) ∷ past_18

abbrev past_20 : List Event
past_20 = Started 1 5 (Sql committing) ∷ past_19

abbrev past_21 : List Event
past_21 = Committed 1 ∷ past_20

abbrev past_22 : List Event
past_22 = Acked 1 0 ∷ past_21

-- ---- what the sessions have set

abbrev pub leveled : Setting
leveled = record at_first { later = Serializable }

set_first : HasSet Spells 1 past_3 leveled
set_first = (at_first, refl, (set_level, spells-leveling, refl))

set_begun : HasSet Spells 1 past_8 leveled
set_begun = (leveled, (leveled, set_first, refl), (stmt.Begin false, spells-beginning, refl))

set_searched : HasSet Spells 1 past_12 leveled
set_searched = (leveled, set_begun, refl)

set_put : HasSet Spells 1 past_19 leveled
set_put = (leveled, set_searched, refl)

set_second : HasSet Spells 2 past_10 leveled
set_second = (at_first, refl, (set_level, spells-leveling, refl))

-- ---- outcomes

deleted-answer : outcome delete empty_table ≡ record { reply = Count 0; changes = [] }
deleted-answer = ap (λ (rows : List (List Value)). delete_answer (Some condition) 0 one_column rows) no_rows

another-answer : outcome insert_another after_put ≡ record { reply = Count 1; changes = Put 0 another_row ∷ [] }
another-answer = ap (λ (rows : List (List Value)). insert_answer None ((literal.Int (pos 2) ∷ []) ∷ []) 0 one_column rows) one_row

-- ---- session 1's first items, and session 2's

level_ends : MayEnd Spells 1 1 Done past_2
level_ends =
    record {
      numbered = refl;
      item = Sql leveling;
      asked = refl;
      ends = (
        refl,
        inl refl,
        inl (record {
          statement = set_level;
          asks = (leveling, refl, spells-leveling);
          setting = at_first;
          is_set = refl;
          refusal = None;
          found = inl refl;
          ends = (refl, refl);
          no_victim = refl;
        }),
      );
    }

level_ends_too : MayEnd Spells 2 1 Done past_7
level_ends_too =
    record {
      numbered = refl;
      item = Sql leveling;
      asked = refl;
      ends = (
        refl,
        inl refl,
        inl (record {
          statement = set_level;
          asks = (leveling, refl, spells-leveling);
          setting = at_first;
          is_set = refl;
          refusal = None;
          found = inl refl;
          ends = (refl, refl);
          no_victim = refl;
        }),
      );
    }

may_begin : MayBegin Spells 1 1 Serializable past_4
may_begin =
    record {
      numbered = refl;
      closed = refl;
      first = refl;
      acked = refl;
      statement = stmt.Begin false;
      takes = record { asks = (beginning, refl, spells-beginning); setting = leveled; is_set = set_first; not_refused = inl refl };
      level_is = refl;
      by = tt;
    }

begin_ends : MayEnd Spells 1 2 Done past_5
begin_ends =
    record {
      numbered = refl;
      item = Sql beginning;
      asked = refl;
      ends = (
        refl,
        inl refl,
        inl (record {
          statement = stmt.Begin false;
          asks = (beginning, refl, spells-beginning);
          setting = leveled;
          is_set = set_first;
          refusal = None;
          found = inl refl;
          ends = (refl, record { opens = record { is_open = refl; begun = refl; not_rolled_back = refl }; new = refl; view = λ snapshot. cc });
          no_victim = refl;
        }),
      );
    }

delete_ends : MayEnd Spells 1 3 (Count 0) past_9
delete_ends =
    record {
      numbered = refl;
      item = Sql deleting;
      asked = refl;
      ends = (
        refl,
        inl refl,
        inl (record {
          statement = delete;
          asks = (deleting, refl, spells-deleting);
          setting = leveled;
          is_set = set_begun;
          refusal = None;
          found = inl refl;
          ends = (
            record {
              l = Serializable;
              level_is = refl;
              answers = record {
                db = base 1 past_9;
                sees = refl;
                answer = sym (ap (λ (o : Outcome). o.reply) deleted-answer);
                changes = subst (λ (o : Outcome). HasMade (length o.changes) 1 o.changes past_9) (sym deleted-answer) refl;
              };
              viewed = λ is. cc;
            },
            (record { stays = refl; not_begun = refl; not_committed = refl; not_rolled_back = refl }, refl),
          );
          no_victim = refl;
        }),
      );
    }

-- ---- session 2 puts its row

abbrev puts : (past : List Event) → under_way 2 past ≡ Some (Sql putting) → before_item 2 past ≡ past_10
    → Sometime (λ h. refused_at_once 2 leveled insert h ≡ None) 2 past → Takes Spells 2 insert past
puts past asked before free =
    record {
      asks = (putting, asked, spells-putting);
      setting = leveled;
      is_set = subst (λ (h : List Event). HasSet Spells 2 h leveled) (sym before)
          set_second;
      not_refused = free;
    }

may_begin_too : MayBegin Spells 2 2 Serializable past_11
may_begin_too =
    record {
      numbered = refl;
      closed = refl;
      first = refl;
      acked = refl;
      statement = insert;
      takes = puts past_11 refl refl (inl refl);
      level_is = refl;
      by =
          refl;
    }

none_changed : (other : ℕ) → own other past_13 ≡ []
none_changed other = by_session 2 other (λ is same. rw is refl) (λ is. rw is (by_session 1 other (λ one same. rw one refl) (λ one. rw one refl)))

may_put : MayChange Spells 2 (Put 0 a_row) past_13
may_put =
    record {
      is_open = refl;
      not_over = refl;
      statement = insert;
      takes = puts past_13 refl refl (inl refl);
      by = tt;
      free = λ place is other apart. subst (Spares (newest past_13) place) (sym (none_changed other)) tt;
      within = omega (arith, ap length no_rows);
    }

made_one : (past : List Event) → own 2 past ≡ Put 0 a_row ∷ own_before 2 past
    → HasMade (length (outcome insert empty_table).changes) 2 (outcome insert empty_table).changes past
made_one past made = subst (λ (o : Outcome). HasMade (length o.changes) 2 o.changes past) (sym inserted-answer) made

may_commit_too : MayCommit Spells 2 past_14
may_commit_too =
    record {
      is_open = refl;
      statement = insert;
      takes = puts past_14 refl refl (inl refl);
      by = (
        refl,
        record {
          alone = refl;
          not_over = refl;
          l = Serializable;
          level_is = refl;
          reply = Count 1;
          answers = record { db = base 2 past_14; sees = refl; answer = inserted-reply; changes = made_one past_14 refl };
          not_refused = λ error is. cc;
        },
      );
    }

put_ends : MayEnd Spells 2 2 (Count 1) past_17
put_ends =
    record {
      numbered = refl;
      item = Sql putting;
      asked = refl;
      ends = (
        refl,
        inl refl,
        inl (record {
          statement = insert;
          asks = (putting, refl, spells-putting);
          setting = leveled;
          is_set = set_second;
          refusal = None;
          found = inl refl;
          ends = (
            record {
              l = Serializable;
              level_is = refl;
              answers = record
                  { db = base 2 past_14; sees = refl; answer = inserted-reply; changes = made_one past_14 refl };
              viewed = λ is. cc;
            },
            (record { closed = refl; committed = refl; not_rolled_back = refl }, refl, refl),
          );
          no_victim = refl;
        }),
      );
    }

-- ---- session 1 puts its own, and commits

others_closed : (other : ℕ) → other ≢ 1 → own other past_15 ≡ []
others_closed other apart =
    by_session 2 other (λ is same. rw is refl)
    (λ is. rw is (by_session 1 other (λ one same. absurd (apart (sym same))) (λ one. rw one refl)))

may_put_another : MayChange Spells 1 (Put 0 another_row) past_15
may_put_another =
    record {
      is_open = refl;
      not_over = refl;
      statement = insert_another;
      takes = record { asks = (putting_another, refl, spells-another); setting = leveled; is_set = set_searched; not_refused = inl refl };
      by = tt;
      free = λ place is other apart. subst (Spares (newest past_15) place) (sym (others_closed other apart)) tt;
      within = omega (arith, ap length no_rows);
    }

put_another_ends : MayEnd Spells 1 4 (Count 1) past_18
put_another_ends =
    record {
      numbered = refl;
      item = Sql putting_another;
      asked = refl;
      ends = (
        refl,
        inl refl,
        inl (record {
          statement = insert_another;
          asks = (putting_another, refl, spells-another);
          setting = leveled;
          is_set = set_searched;
          refusal = None;
          found = inl refl;
          ends = (
            record {
              l = Serializable;
              level_is = refl;
              answers = record {
                db = base 1 past_18;
                sees = refl;
                answer = sym (ap (λ (o : Outcome). o.reply) another-answer);
                changes = subst (λ (o : Outcome). HasMade (length o.changes) 1 o.changes past_18) (sym another-answer) refl;
              };
              viewed = λ is. cc;
            },
            (record { stays = refl; not_begun = refl; not_committed = refl; not_rolled_back = refl }, refl),
          );
          no_victim = refl;
        }),
      );
    }

may_commit : MayCommit Spells 1 past_20
may_commit =
    record {
      is_open = refl;
      statement = stmt.Commit;
      takes = record { asks = (committing, refl, spells-committing); setting = leveled; is_set = set_put; not_refused = inl refl };
      by = tt;
    }

commit_ends : MayEnd Spells 1 5 Done past_22
commit_ends =
    record {
      numbered = refl;
      item = Sql committing;
      asked = refl;
      ends = (
        refl,
        inl refl,
        inl (record {
          statement = stmt.Commit;
          asks = (committing, refl, spells-committing);
          setting = leveled;
          is_set = set_put;
          refusal = None;
          found = inl
              refl;
          ends = (refl, refl, refl);
          no_victim = refl;
        }),
      );
    }

-- ---- all of it

legal_searched : IsLegal Spells searched
legal_searched = (
  (not_empty _ _, delete_ends, tt),
  (
    (not_empty _ _, record { idle = refl; stays = refl; numbered = refl }, tt),
    (
      (not_empty _ _, level_ends_too, tt),
      (
        (not_empty _ _, record { idle = refl; stays = refl; numbered = refl }, tt),
        (
          (not_empty _ _, begin_ends, tt),
          (
            (not_empty _ _, refl, may_begin, tt),
            (
              (not_empty _ _, record { idle = refl; stays = refl; numbered = refl }, tt),
              (
                (not_empty _ _, level_ends, tt),
                (
                  (not_empty _ _, record { idle = refl; stays = refl; numbered = refl }, tt),
                  (refl, tt),
                ),
              ),
            ),
          ),
        ),
      ),
    ),
  ),
)

legal_puts : IsLegal Spells past_18
legal_puts = (
  (not_empty _ _, put_ends, tt),
  (
    (not_empty _ _, refl, record { owed = refl; closed = refl; later = omega arith }, tt),
    (
      (not_empty _ _, refl, may_put_another, tt),
      (
        (not_empty _ _, refl, may_commit_too, tt),
        (
          (not_empty _ _, refl, may_put, tt),
          (
            (not_empty _ _, record { idle = refl; stays = refl; numbered = refl }, tt),
            (
              (not_empty _ _, refl, may_begin_too, tt),
              (
                (not_empty _ _, record { idle = refl; stays = refl; numbered = refl }, tt),
                legal_searched,
              ),
            ),
          ),
        ),
      ),
    ),
  ),
)

pub legal_example : IsLegal Spells interleaved
legal_example = (
  (not_empty _ _, commit_ends, tt),
  (
    (not_empty _ _, refl, record { owed = refl; closed = refl; later = omega arith }, tt),
    (
      (not_empty _ _, refl, may_commit, tt),
      (
        (not_empty _ _, record { idle = refl; stays = refl; numbered = refl }, tt),
        (
          (not_empty _ _, put_another_ends, tt),
          legal_puts,
        ),
      ),
    ),
  ),
)

pub serializable_example : IsSerializable interleaved
serializable_example = ((λ other. refl), ((λ other. refl), tt))

pub set_up_example : IsSetUp interleaved
set_up_example = (
  (λ is. cc),
  (λ is. refl),
  (
    (λ is. cc),
    (λ is. refl),
    ((λ is. cc), (λ is. refl), ((λ is. cc), (λ is. refl), ((λ is. cc), (λ is. refl), ((λ is. cc), (λ is. refl), ((λ is. cc), (λ is. refl), tt))))),
  ),
)

-- amid session 1's transaction the other adds entries
pub not_serial_example : IsSerial interleaved → ⊥
not_serial_example serial = (let idle = serial.1.1.1.1.1.1.1.1.0 2 1 refl (λ is. cc) in cc)

-- ---- phantoms

leaf_one : (f : Filter) → filter_tree f ≡ tree.Leaf condition → f ≡ condition
leaf_one (filter.Compare left how right) is = cc
leaf_one (filter.Between column turned low high) is = (cc)
leaf_one (filter.In column turned literals) is = (cc)
leaf_one (filter.IsNull column turned) is = (cc)
leaf_one (filter.Not' p f) is = (cc)
leaf_one (filter.And' p f q g) is = (cc)
leaf_one (filter.Or' p f q g) is = (cc)

delete_one : (a : Stmt) → tree_of a ≡ tree_of delete → a ≡ delete
delete_one (stmt.Delete table (Some f)) is = (let e : filter_tree f ≡ tree.Leaf condition = cc in let g = leaf_one f e in let h : table ≡ codes "t" = cc in cc)
delete_one (stmt.Delete table None) is = (cc)
delete_one other is = (cc)

-- the search for key 2 doesn't meet the row of key 1
not_met : (place : Place) → passed (matches one_column.columns (Some condition)) (get after_put.rows place) ≡ None
not_met place =
    ap (passed (matches one_column.columns (Some condition)))
    (get_one empty_table (Put 0 a_row) place ∙ ap (cond (is_change_at empty_table.schemas place (Put 0 a_row)) (Some a_row))
    (get-from_entries place_cmp_total [] place))
    ∙ elim (is_change_at empty_table.schemas place (Put 0 a_row)) as
    (λ b. passed (matches one_column.columns (Some condition)) (cond b (Some a_row) None) ≡ None) [ true ↦ refl | false ↦ refl ]

unmet : (table : ℕ) (schema : Schema) → ◌≡◌ {A = Option ℕ} (Some 0) (Some table) → slice_get (one_column ∷ []) table ≡ Some schema
    → IsUnmet table (matches schema.columns (Some condition)) empty_table (Put 0 a_row ∷ [])
unmet table schema there is =
    let zero : 0 ≡ table = cc in
    let same : one_column ≡ schema = (let e = ap (λ n. slice_get (one_column ∷ []) n) zero ∙ is in cc) in
    subst (λ (s : Schema). IsUnmet table (matches s.columns (Some condition)) empty_table (Put 0 a_row ∷ [])) same
    (λ key touched. (ap (passed (matches one_column.columns (Some condition))) (get-from_entries place_cmp_total [] (table, key)), not_met (table, key)))

done_one : (pieces : List Piece) → HasDone Spells 1 past_14 pieces → pieces ≡ Piece.ran delete (Some (Count 0)) ∷ []
done_one pieces done =
    let read = delete_one done.2.0 (one_tree deleting done.2.0 delete done.2.1 spells-deleting) in
    let begun = sym (plain_same (stmt.Begin false) done.1.2.0 (one_tree beginning (stmt.Begin false) done.1.2.0 spells-beginning done.1.2.1)) in
    done.2.2
    ∙ ap (λ (a : Stmt). with_item a (Count 0) done.0) read
    ∙ ap (λ (ps : List Piece). Piece.ran delete (Some (Count 0)) ∷ ps) (done.1.2.2 ∙ ap (λ (a : Stmt). with_item a Done done.1.0) begun ∙ done.1.1)

beside_one : (pieces : List Piece) → HasStanding Spells 1 past_14 pieces → AreBeside pieces empty_table (Put 0 a_row ∷ [])
beside_one pieces (done, has, inl whole) =
    subst (λ (ps : List Piece). AreBeside ps empty_table (Put 0 a_row ∷ [])) (sym (whole.1 ∙ done_one done has)) (unmet, tt)
beside_one pieces (done, has, inr back) = absurd (let less = back.0 in omega (arith, less))

first_commit : (s : ℕ) (pieces : List Piece) → s ≢ 2 → level s past_14 ≡ Some Serializable → HasStanding Spells s past_14 pieces
    → AreBeside pieces empty_table (Put 0 a_row ∷ [])
first_commit s pieces apart open_at stands =
    by_session 1 s
    (λ is same. beside_one pieces (subst (λ t. HasStanding Spells t past_14 pieces) (sym same) stands))
    (λ is. by_session 2 s (λ two same. absurd (apart (sym same))) (λ two. (let e = rw two at open_at in let f = rw is at e in cc)))

last_commit : (s : ℕ) (pieces : List Piece) → s ≢ 1 → level s past_20 ≡ Some Serializable → HasStanding Spells s past_20 pieces
    → AreBeside pieces (committed_db past_20) (own 1 past_20)
last_commit s pieces apart open_at stands =
    by_session 2 s
    (λ two same. (let e = rw two at open_at in cc))
    (λ two. by_session 1 s (λ is same. absurd (apart (sym same))) (λ is. (let e = rw two at open_at in let f = rw is at e in cc)))

pub free_example : IsPhantomFree Spells interleaved
free_example = (last_commit, (first_commit, tt))
