-- What may end an item may end it later: entries of other sessions leave that, and so does the acknowledgement of its commit.
use Rattle.std.proofs.Common.{◌≡◌, ℕ, Bool, true, false, eqb, Option, Some, None, List, ◌∷◌, ◌+◌, refl, sym, ap, subst, ◌∙◌, inl, inr, arith}
use Rattle.std.proofs.lemmas.Bool.Decides.{nat_tests}
use Rattle.std.specs.Prelude.{is_some, is_none, ◌&&◌}
use Rattle.std.specs.List.{AllByRecursion, list_any}
use Rattle.inno_types.specs.declared.lock.Level.{Level}
use Rattle.inno_types.specs.declared.stmt.Stmt.{Stmt}
use Rattle.inno_types.specs.declared.stmt.Stmt.TheVariants as stmt
use Rattle.inno_types.specs.declared.reply.Reply.{Reply}
use Rattle.inno_types.specs.declared.reply.Reply.TheVariants as replies
use Rattle.inno_db.specs.Database.{Database}
use Rattle.inno_db.specs.Outcome.{outcome}
use Rattle.inno_model.specs.declared.event.Event.{Event}
use Rattle.inno_model.specs.declared.event.Event.TheVariants as events
use Rattle.inno_model.specs.Past.{is_of, of_item, before_item, awaits_ack, did, begins_txn, takes_view, commits_txn, rolls_back_txn, level, own}
use Rattle.inno_model.specs.Moments.{Sometime}
use Rattle.inno_model.proofs.Untouched.{untouched}
use Rattle.sql_grammar.specs.Grammar.{Spells}
use Rattle.sql_history.specs.{Items.is_over, Items.point, Items.own_before, Items.undoes, Items.HasMade, Settings.Setting, Waiting.is_victim}
use Rattle.sql_history.specs.{Counts.rows_kept, Statements.sight_of, Answers.MaySee, Answers.MakesFor}
use Rattle.sql_history.specs.Endings.{StaysIn, Opens, Commits, RollsBack, Goes, BacksOut}
use Rattle.sql_history.specs.Legal.{sight_in, EndsRows, BrokeOff, MadeSome, IsGivenUp, WasCommitted, NextBrings, IsOverfull, LeavesIt}
use Rattle.sql_history.specs.Legal.{CommittedFirst}
use Rattle.law_past_agreement.specs.Order.{IsOfRow}
use Rattle.sql_lists.proofs.Staying.{is_within, item_within, before_within, starts_not, within_of_other, at_work, point_now, point_stays}
use Rattle.giving_up.specs.Ends.{IsAnswered, EndsWith, IsClosing, GivesUp, IsFailed, IsEmptied, IsGivingUp}
use Rattle.giving_up.proofs.Own.{entries_are, did_same, over_same, takes_on}

-- what is said of the past and of its point stays at an entry by which the item doesn't come to the end of its changes
pub point_kept : {X : Type 0} (f : List Event → X) (e : Event) (h : List Event) (s : ℕ) → is_over s (e ∷ h) ≡ is_over s h → f (e ∷ h) ≡ f h
    → f (point s (e ∷ h)) ≡ f (point s h)
point_kept f e h s same-over same = go (is_over s h) refl where
  go : (b : Bool) → is_over s h ≡ b → f (point s (e ∷ h)) ≡ f (point s h)
  go true over = ap f (point_stays e h s over (same-over ∙ over))
  go false goes = ap f (point_now (e ∷ h) s (same-over ∙ goes)) ∙ (same ∙ ap f (sym (point_now h s goes)))

-- what is told of the session's item and transaction stays, but that a commit may be acknowledged
pub record Spares (e : Event) (h : List Event) (s : ℕ) : Type 0 where
  pub within : is_within s e ≡ true
  pub level_is : level s (e ∷ h) ≡ level s h
  pub own_is : own s (e ∷ h) ≡ own s h
  pub had_is : own_before s (e ∷ h) ≡ own_before s h
  pub over_is : is_over s (e ∷ h) ≡ is_over s h
  pub acks_none : awaits_ack (of_item s h) ≡ false → awaits_ack (of_item s (e ∷ h)) ≡ false
  pub did_is : (test : Event → Bool) → ((t moment : ℕ) → test (events.Acked t moment) ≡ false) → did test s (e ∷ h) ≡ did test s h

pub spares_other : (e : Event) (h : List Event) (s : ℕ) → is_of s e ≡ false → Spares e h s
spares_other e h s other =
    let same = untouched e h s other in
    let turn = at_work e h s other in
    record {
      within = within_of_other e s other;
      level_is = same.level_is;
      own_is = same.own_is;
      had_is = turn.own_is;
      over_is = turn.over;
      acks_none = λ none. ap awaits_ack same.entries ∙ none;
      did_is = λ test spares. ap (list_any test) same.entries;
    }

pub spares_ack : (s moment : ℕ) (h : List Event) → Spares (events.Acked s moment) h s
spares_ack s moment h =
    let its : eqb s s ≡ true = grind (arith, nat_tests) in
    record {
      within = refl;
      level_is = refl;
      own_is = refl;
      had_is = refl;
      over_is = over_same (events.Acked s moment) h s its refl refl refl;
      acks_none = λ none. ap awaits_ack (entries_are (events.Acked s moment) h s its refl refl);
      did_is = λ test spares. did_same (events.Acked s moment) h s its refl refl test (spares s moment);
    }

module _ (e : Event) (h : List Event) (s : ℕ) (sp : Spares e h s) where
  abbrev after : List Event
  after = e ∷ h

  before_same : before_item s after ≡ before_item s h
  before_same = before_within e h s sp.within

  was_level : level s (before_item s after) ≡ level s (before_item s h)
  was_level = ap (level s) before_same

  was_own : own s (before_item s after) ≡ own s (before_item s h)
  was_own = ap (own s) before_same

  some_on : (P : List Event → Type 0) → Sometime P s h → Sometime P s after
  some_on P was = inr (starts_not e h s sp.within, was)

  pub begins_same : did begins_txn s after ≡ did begins_txn s h
  begins_same = sp.did_is begins_txn (λ t moment. refl)

  pub commits_same : did commits_txn s after ≡ did commits_txn s h
  commits_same = sp.did_is commits_txn (λ t moment. refl)

  pub rolls_same : did rolls_back_txn s after ≡ did rolls_back_txn s h
  rolls_same = sp.did_is rolls_back_txn (λ t moment. refl)

  undone_same : did undoes s after ≡ did undoes s h
  undone_same = sp.did_is undoes (λ t moment. refl)

  pub victim_same : did is_victim s after ≡ did is_victim s h
  victim_same = sp.did_is is_victim (λ t moment. refl)

  -- ---- what becomes of its transaction

  stays_in_on : StaysIn s h → StaysIn s after
  stays_in_on x =
      record {
        stays = sp.level_is ∙ (x.stays ∙ sym was_level);
        not_begun = begins_same ∙ x.not_begun;
        not_committed = commits_same ∙ x.not_committed;
        not_rolled_back = rolls_same ∙ x.not_rolled_back;
      }

  opens_on : Opens s h → Opens s after
  opens_on x = record { is_open = ap is_some sp.level_is ∙ x.is_open; begun = begins_same ∙ x.begun; not_rolled_back = rolls_same ∙ x.not_rolled_back }

  commits_on : Commits s h → Commits s after
  commits_on x = record { closed = sp.level_is ∙ x.closed; committed = commits_same ∙ x.committed; not_rolled_back = rolls_same ∙ x.not_rolled_back }

  rolls_back_on : RollsBack s h → RollsBack s after
  rolls_back_on x = record { closed = sp.level_is ∙ x.closed; rolled_back = rolls_same ∙ x.rolled_back; not_committed = commits_same ∙ x.not_committed }

  goes_at : (l : Option Level) (autocommit : Bool) → Goes l autocommit s h → Goes l autocommit s after
  goes_at (Some l) autocommit x = (stays_in_on x.0, undone_same ∙ x.1)
  goes_at None true x = (commits_on x.0, begins_same ∙ x.1, undone_same ∙ x.2)
  goes_at None false x = (opens_on x.0, commits_same ∙ x.1, undone_same ∙ x.2)

  goes_on : (autocommit : Bool) → Goes (level s (before_item s h)) autocommit s h → Goes (level s (before_item s after)) autocommit s after
  goes_on autocommit x = subst (λ l. Goes l autocommit s after) (sym was_level) (goes_at (level s (before_item s h)) autocommit x)

  backs_at : (l : Option Level) (autocommit : Bool) → BacksOut l autocommit s h → BacksOut l autocommit s after
  backs_at (Some l) autocommit x = (stays_in_on x.0, sp.own_is ∙ (x.1 ∙ sym was_own))
  backs_at None true x = (begins_same ∙ x.0, rolls_back_on x.1)
  backs_at None false x = (opens_on x.0, commits_same ∙ x.1, sp.own_is ∙ x.2)

  backs_on : (autocommit : Bool) → BacksOut (level s (before_item s h)) autocommit s h → BacksOut (level s (before_item s after)) autocommit s after
  backs_on autocommit x = subst (λ l. BacksOut l autocommit s after) (sym was_level) (backs_at (level s (before_item s h)) autocommit x)

  ends_rows_on : (setting : Setting) (kept : Reply) → EndsRows s setting kept h → EndsRows s setting kept after
  ends_rows_on setting (replies.Fail error) = backs_on setting.autocommit
  ends_rows_on setting other = goes_on setting.autocommit

  -- ---- what it had changed at its point

  own_then : own s (point s after) ≡ own s (point s h)
  own_then = point_kept (own s) e h s sp.over_is sp.own_is

  pub none_made : own s (point s h) ≡ own_before s (point s h) → own s (point s after) ≡ own_before s (point s after)
  none_made none = own_then ∙ (none ∙ sym (point_kept (own_before s) e h s sp.over_is sp.had_is))

  was_committed_on : WasCommitted Spells s h → WasCommitted Spells s after
  was_committed_on w =
      record {
        statement = w.statement;
        select = w.select;
        takes = takes_on e h s sp.within w.statement w.takes;
        begun = begins_same ∙ w.begun;
        commits = commits_on w.commits;
        nothing = own_then ∙ w.nothing;
      }

  committed_first_on : CommittedFirst Spells s h → CommittedFirst Spells s after
  committed_first_on c =
      record {
        statement = c.statement;
        takes = takes_on e h s sp.within c.statement c.takes;
        brings = c.brings;
        closed = sp.level_is ∙ c.closed;
        made = none_made c.made;
        begun = elim c.begun [ inl none ↦ inl (begins_same ∙ none) | inr rolled ↦ inr (rolls_same ∙ rolled) ];
        no_victim = victim_same ∙ c.no_victim;
      }

  leaves_it_on : LeavesIt Spells s h → LeavesIt Spells s after
  leaves_it_on x =
      record {
        own_stay = sp.own_is ∙ (x.own_stay ∙ sym was_own);
        not_committed = commits_same ∙ x.not_committed;
        not_rolled_back = rolls_same ∙ x.not_rolled_back;
        no_victim = victim_same ∙ x.no_victim;
        begun = elim x.begun [ inl none ↦ inl (begins_same ∙ none) | inr stays ↦ inr (stays.0, takes_on e h s sp.within stays.0 stays.1, stays.2) ];
      }

  no_memory_on : EndsWith s replies.NoMemory h → EndsWith s replies.NoMemory after
  no_memory_on leaves = elim leaves [
    | inl rolled ↦ inl (rolls_back_on rolled)
    | inr rest ↦ inr (elim rest [
      | inl was ↦ inl (was_committed_on was)
      | inr more ↦ inr (elim more [ inl first ↦ inl (committed_first_on first) | inr left ↦ inr (leaves_it_on left) ])
    ])
  ]

  -- ---- once the item has come to the end of its changes its point stays

  module _ (over : is_over s h ≡ true) where
    there : point s after ≡ point s h
    there = point_stays e h s over (sp.over_is ∙ over)

    sight_same : (l : Level) (setting : Setting) (statement : Stmt) → sight_in l s setting statement after ≡ sight_in l s setting statement h
    sight_same l setting statement = ap (λ o. sight_of l (setting.autocommit && is_none o) statement) was_level

    sees_on : (l : Level) (setting : Setting) (statement : Stmt) (db : Database)
        → MaySee (sight_in l s setting statement h) s statement db (point s h) → MaySee (sight_in l s setting statement after) s statement db (point s after)
    sees_on l setting statement db sees =
        subst (λ p. MaySee (sight_in l s setting statement after) s statement db p) (sym there)
        (subst (λ sight. MaySee sight s statement db (point s h)) (sym (sight_same l setting statement)) sees)

    answered_on : (kept : Reply) → IsAnswered s kept h → IsAnswered s kept after
    answered_on kept a =
        let b = a.answers in
        record {
          statement = a.statement;
          on_rows = a.on_rows;
          selects = a.selects;
          takes = takes_on e h s sp.within a.statement a.takes;
          answers = record {
            l = b.l;
            level_is = ap (level s) there ∙ b.level_is;
            answers = record {
              db = b.answers.db;
              sees = sees_on b.l a.takes.setting a.statement b.answers.db b.answers.sees;
              answer = b.answers.answer;
              changes = subst (MakesFor kept s (outcome a.statement b.answers.db).changes) (sym there) b.answers.changes;
            };
            viewed = λ is apart. sp.did_is takes_view (λ t moment. refl) ∙ b.viewed (sym (sight_same b.l a.takes.setting a.statement) ∙ is) apart;
          };
          ends = ends_rows_on a.takes.setting kept a.ends;
          no_victim = victim_same ∙ a.no_victim;
        }

    broke_on : (setting : Setting) (statement : Stmt) → BrokeOff s setting statement h → BrokeOff s setting statement after
    broke_on setting statement broke l is = elim (broke l (ap (level s) (sym there) ∙ is)) [
      | inl none ↦ inl (none_made none)
      | inr begun ↦ inr (record {
        db = begun.db;
        sees = sees_on l setting statement begun.db begun.sees;
        count = begun.count;
        changes = subst (HasMade begun.count s (outcome statement begun.db).changes) (sym there) begun.changes;
      })
    ]

    made_on : MadeSome Spells s h → MadeSome Spells s after
    made_on made = elim made [
      | inl none ↦ inl (none_made none)
      | inr some ↦ inr (some.0, takes_on e h s sp.within some.0 some.1, broke_on some.1.setting some.0 some.2)
    ]

    given_up_on : IsGivenUp Spells s h → IsGivenUp Spells s after
    given_up_on g =
        record {
          statement = g.statement;
          on_rows = g.on_rows;
          takes = takes_on e h s sp.within g.statement g.takes;
          no_victim = victim_same ∙ g.no_victim;
          broke_off = broke_on g.takes.setting g.statement g.broke_off;
          backs_out = backs_on g.takes.setting.autocommit g.backs_out;
        }

    brings_on : (l : Level) (setting : Setting) (more : ℕ) (statement : Stmt) → NextBrings (sight_in l s setting statement h) s statement more h
        → NextBrings (sight_in l s setting statement after) s statement more after
    brings_on l setting more (stmt.Select selected table condition lock) brings =
        (brings.0, sees_on l setting (stmt.Select selected table condition lock) brings.0 brings.1, brings.2)
    brings_on l setting more other brings = brings

    overfull_on : (rows : ℕ) → IsOverfull Spells s rows h → IsOverfull Spells s rows after
    overfull_on rows o =
        record {
          many = o.many;
          statement = o.statement;
          takes = takes_on e h s sp.within o.statement o.takes;
          l = o.l;
          level_is = ap (level s) there ∙ o.level_is;
          more = o.more;
          brings = brings_on o.l o.takes.setting o.more o.statement o.brings;
          sum = some_on (λ g. rows ≡ rows_kept g + o.more) o.sum;
        }

    ends_on : (kept : Reply) → EndsWith s kept h → EndsWith s kept after
    ends_on (replies.Rows rows) a = answered_on (replies.Rows rows) a
    ends_on (replies.Count n) a = answered_on (replies.Count n) a
    ends_on (replies.Fail error) a = elim a [
      | inl refused ↦ inl (answered_on (replies.Fail error) refused)
      | inr lacks ↦ inr (lacks.0, given_up_on lacks.1)
    ]
    ends_on (replies.RunLimit rows) o =
        (overfull_on rows o.0, elim o.1 [ inl given-up ↦ inl (given_up_on given-up) | inr was ↦ inr (was_committed_on was) ])
    ends_on replies.NoMemory leaves = no_memory_on leaves
    ends_on other none = absurd none

  -- ---- all that is known

  pub closing_on : (kept given : Reply) → IsClosing s kept given h → IsClosing s kept given after
  closing_on kept given c =
      record {
        may = record {
          same = c.may.same;
          text = c.may.text;
          item = item_within e h s sp.within ∙ c.may.item;
          made = elim c.rests [ inl over ↦ made_on over c.may.made | inr none ↦ inl (none_made none.1) ];
          ends = elim c.rests [
            | inl over ↦ ends_on over kept c.may.ends
            | inr none ↦ subst (λ (reply : Reply). EndsWith s reply after) (sym none.0)
                (no_memory_on (subst (λ (reply : Reply). EndsWith s reply h) none.0 c.may.ends))
          ];
          rows_alone = subst (AllByRecursion IsOfRow) (sym sp.own_is) c.may.rows_alone;
        };
        rests = elim c.rests [ inl over ↦ inl (sp.over_is ∙ over) | inr none ↦ inr (none.0, none_made none.1) ];
        limited = λ is. was_committed_on (c.limited is);
      }

  gives_on : (alone : Bool) (setting : Setting) → GivesUp alone setting s h → GivesUp alone setting s after
  gives_on true setting g = (ap (λ o. setting.autocommit && is_none o) was_level ∙ g.0, ap is_some sp.level_is ∙ g.1, sp.own_is ∙ g.2)
  gives_on false setting g = leaves_it_on g

  pub failed_on : (alone : Bool) → IsFailed s alone h → IsFailed s alone after
  failed_on alone f =
      record {
        statement = f.statement;
        takes = takes_on e h s sp.within f.statement f.takes;
        on_rows = f.on_rows;
        not_committed = commits_same ∙ f.not_committed;
        made = none_made f.made;
        rows_alone = subst (AllByRecursion IsOfRow) (sym sp.own_is) f.rows_alone;
        gives = gives_on alone f.takes.setting f.gives;
      }

  -- ---- whatever the statement is

  pub emptied_on : IsEmptied s h → IsEmptied s after
  emptied_on x =
      record {
        closed = sp.level_is ∙ x.closed;
        new = sp.own_is ∙ x.new;
        not_begun = begins_same ∙ x.not_begun;
        not_rolled_back = rolls_same ∙ x.not_rolled_back;
        made = none_made x.made;
      }

  pub gives_up_on : IsGivingUp s h → IsGivingUp s after
  gives_up_on g =
      record {
        text = g.text;
        item = item_within e h s sp.within ∙ g.item;
        acked = sp.acks_none g.acked;
        leaves = elim g.leaves [ inl first ↦ inl (committed_first_on first) | inr left ↦ inr (leaves_it_on left) ];
        made = none_made g.made;
        rows_alone = subst (AllByRecursion IsOfRow) (sym sp.own_is) g.rows_alone;
      }
