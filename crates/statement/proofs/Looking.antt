-- What is known where a statement begins, or is refused at once.
use Rattle.std.specs.Prelude.{◌⊎◌}
use Rattle.std.proofs.Common.{◌≡◌, ◌≢◌, ℕ, true, false, Option, Some, None, List, [], ◌∷◌, refl, sym, ap, subst, ◌∙◌, inl, inr}
use Rattle.std.proofs.lemmas.Bool.Decides.{eqb_tells}
use Rattle.std.proofs.lemmas.Bool.{false≢true}
use Rattle.inno_types.specs.declared.stmt.Stmt.{Stmt}
use Rattle.inno_types.specs.declared.reply.Item.TheVariants.{Sql}
use Rattle.inno_types.specs.declared.reply.SqlError.{SqlError}
use Rattle.inno_types.specs.declared.reply.Reply.TheVariants as replies
use Rattle.inno_db.specs.Refusals.{refusal}
use Rattle.inno_model.specs.declared.event.Event.{Event}
use Rattle.inno_model.specs.declared.event.Event.TheVariants as events
use Rattle.inno_types.specs.declared.reply.SqlError.TheVariants as errors
use Rattle.std.specs.List.{list_any}
use Rattle.inno_model.specs.Past.{level, is_of, under_way, before_item, of_item, did, own, commits_txn, rolls_back_txn, begins_txn, awaits_ack}
use Rattle.inno_model.specs.Moments.{starts, Sometime}
use Rattle.inno_model.proofs.Untouched.{untouched}
use Rattle.sql_history.specs.Waiting.{is_victim}
use Rattle.sql_lists.proofs.Staying.{at_work, point_now}
use Rattle.sql_grammar.specs.Grammar.{Spells}
use Rattle.sql_history.specs.Items.{Asks, is_over, point, before_turn, own_before}
use Rattle.sql_history.specs.Settings.{Setting, HasSet}
use Rattle.sql_history.specs.Statements.{session_refusal, refused_at_once, first_of, schemas_now}
use Rattle.sql_lists.specs.Kept.{MayReply}
use Rattle.giving_up.proofs.Nothing.{set_before, own_nothing, own_now, over_nothing}
use Rattle.read_statement.specs.Running.{IsTakenWith}
use Rattle.statement.specs.declared.under_way.Ready.{Ready}
use Rattle.statement.specs.declared.under_way.Look.TheVariants as looks
use Rattle.statement.specs.Running.{HasOnlyStarted, LooksAs}

-- what nothing refuses at once is not refused by its text and the tables
later_none : (first later : Option SqlError) → first_of first later ≡ None → later ≡ None
later_none None later none = none
later_none (Some error) later none = cc

pub unrefused : (s : ℕ) (setting : Setting) (statement : Stmt) (past : List Event) → refused_at_once s setting statement past ≡ None
    → refusal (schemas_now s past) statement ≡ None
unrefused s setting statement past none =
    later_none (session_refusal s (level s past) setting statement) (refusal (schemas_now s past) statement) none

now_or_never : (P : List Event → Type 0) (s : ℕ) (text : List ℕ) (h : List Event) → under_way s h ≡ Some (Sql text) → P h → Sometime P s h
now_or_never P s text [] item holds = absurd (let is = item in cc)
now_or_never P s text (e ∷ h) item holds = inl holds

module _ (s : ℕ) (text : List ℕ) (stmt : Stmt) (h : List Event) (only : HasOnlyStarted s text h) (spells : Spells text stmt) where
  asks : Asks Spells s stmt h
  asks = (text, only.item, spells)

  set_at_start : (x : Setting) → HasSet Spells s h x → HasSet Spells s (before_item s h) x
  set_at_start x held = set_before s h x only.nothing held

  -- nothing refuses it
  pub taken_with : (found : Ready) → LooksAs s stmt h (looks.Ready found) → IsTakenWith found.autocommit found.level s stmt h
  taken_with found ready =
      record {
        taken = record {
          takes =
              record {
                asks = asks;
                setting = ready.0;
                is_set = set_at_start ready.0 ready.1;
                not_refused = now_or_never
                    (λ past. refused_at_once s ready.0 stmt past ≡ None) s text h only.item ready.2;
              };
          nothing = only.nothing;
          rows_alone = only.rows_alone;
        };
        autocommit_is = ready.3;
        level_is = ready.4;
      }

  acked : awaits_ack (of_item s h) ≡ false
  acked = ap awaits_ack only.nothing

  no_victim : did is_victim s h ≡ false
  no_victim = ap (list_any is_victim) only.nothing

  -- a refusal at once
  pub refused_now : (error : SqlError) → LooksAs s stmt h (looks.Refused error) → MayReply s (replies.Fail error) h
  refused_now error refused =
      record {
        item = Sql text;
        asked = only.item;
        ends = (
          acked,
          inl refl,
          inl (record {
            statement = stmt;
            asks = asks;
            setting = refused.0;
            is_set = set_at_start refused.0 refused.1;
            refusal = Some error;
            found = now_or_never (λ past. refused_at_once s refused.0 stmt past ≡ Some error) s text h only.item refused.2;
            ends = (refl, only.nothing);
            no_victim = no_victim;
          }),
        );
      }

sql_text : (a b : List ℕ) → Some (Sql a) ≡ Some (Sql b) → a ≡ b
sql_text a b is = cc

module _ (s : ℕ) (text : List ℕ) (h : List Event) (only : HasOnlyStarted s text h) where
  acked_too : awaits_ack (of_item s h) ≡ false
  acked_too = ap awaits_ack only.nothing

  -- a text that is no statement
  pub no_statement : (at : ℕ) → ((stmt : Stmt) → Spells text stmt → ⊥) → MayReply s (replies.Fail (errors.Syntax at)) h
  no_statement at none =
      record {
        item = Sql text;
        asked = only.item;
        ends = (
          acked_too,
          inl refl,
          inr (inl (record {
            none = λ stmt asks. none stmt
                (subst (λ t. Spells t stmt) (sql_text asks.0 text (sym asks.1 ∙ only.item)) asks.2);
            place = at;
            answer = refl;
            nothing = only.nothing;
          })),
        );
      }

  goes_on : is_over s h ≡ false
  goes_on = over_nothing s h only.nothing

  point_is : point s h ≡ h
  point_is = point_now h s goes_on

  -- no memory was found before anything was done
  pub wants_memory : MayReply s replies.NoMemory h
  wants_memory =
      record {
        item = Sql text;
        asked = only.item;
        ends = (
          acked_too,
          inl refl,
          inr (inr (record {
            leaves = inr (inr (inr (record {
              own_stay = own_nothing s h only.nothing;
              not_committed = ap (list_any commits_txn) only.nothing;
              not_rolled_back = ap (list_any rolls_back_txn) only.nothing;
              no_victim = ap (list_any is_victim) only.nothing;
              begun = inl (ap (list_any begins_txn) only.nothing);
            })));
            made = inl (subst (λ p. own s p ≡ own_before s p) (sym point_is) (own_now s h only.nothing));
          })),
        );
      }
