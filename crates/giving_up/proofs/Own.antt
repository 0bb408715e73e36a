-- What an entry of the session's own makes of what its statement knows.
use Rattle.std.proofs.Common.{◌≡◌, ℕ, Bool, true, false, List, [], ◌∷◌, refl, sym, ap, subst, ◌∙◌, inl, inr, arith}
use Rattle.std.proofs.lemmas.Bool.Decides.{nat_tests}
use Rattle.std.proofs.lemmas.Bool.{false≢true}
use Rattle.std.specs.Prelude.{is_some}
use Rattle.std.specs.List.{AllByRecursion, list_any}
use Rattle.inno_types.specs.declared.stmt.Stmt.{Stmt}
use Rattle.inno_types.specs.declared.reply.Reply.{Reply}
use Rattle.inno_model.specs.declared.event.Event.{Event}
use Rattle.inno_model.specs.declared.event.Event.TheVariants as events
use Rattle.inno_model.specs.Past.{is_of, before_item, of_item, did, begins_txn, commits_txn, rolls_back_txn, closes, level, own, awaits_ack}
use Rattle.inno_model.specs.Moments.{Sometime}
use Rattle.sql_grammar.specs.Grammar.{Spells}
use Rattle.sql_history.specs.Items.{of_turn, before_turn, is_over, own_before, point}
use Rattle.sql_history.specs.Settings.{Setting, HasSet}
use Rattle.sql_history.specs.Legal.{Takes}
use Rattle.sql_history.specs.Waiting.{is_victim}
use Rattle.law_past_agreement.specs.Order.{IsOfRow}
use Rattle.sql_lists.proofs.Staying.{is_within, item_within, before_within, starts_not, point_now, point_before, point_stays}
use Rattle.giving_up.specs.Replies.{HasReply}
use Rattle.giving_up.specs.Leaving.{Joins, HasOpened, InTxn, IsWorking}
use Rattle.giving_up.proofs.Replies.{reply_stays}

-- an item that commits nothing awaits no acknowledgement
pub acked_of : (es : List Event) → list_any commits_txn es ≡ false → awaits_ack es ≡ false
acked_of [] none = refl
acked_of (events.Committed t ∷ es) none = absurd (false≢true (sym none))
acked_of (e ∷ es) none = refl

-- what the item asks for is the same at an entry within it, with the same settings
abbrev pub takes_on : (e : Event) (h : List Event) (s : ℕ) → is_within s e ≡ true → (statement : Stmt) → Takes Spells s statement h
    → Takes Spells s statement (e ∷ h)
takes_on e h s within statement takes =
    record {
      asks = (takes.asks.0, item_within e h s within ∙ takes.asks.1, takes.asks.2);
      setting = takes.setting;
      is_set = subst (λ p. HasSet Spells s p takes.setting) (sym (before_within e h s within)) takes.is_set;
      not_refused = inr (starts_not e h s within, takes.not_refused);
    }

entries_of : (e : Event) (h : List Event) (s : ℕ) → is_of s e ≡ true → is_within s e ≡ true → of_item s (e ∷ h) ≡ e ∷ of_item s h
entries_of e h s mine within = grind (arith, nat_tests, mine, within)

turn_of : (e : Event) (h : List Event) (s : ℕ) → is_of s e ≡ true → is_within s e ≡ true → begins_txn e ≡ false → of_turn s (e ∷ h) ≡ e ∷ of_turn s h
turn_of e h s mine within goes = grind (arith, nat_tests, mine, within, goes)

before_turn_of : (e : Event) (h : List Event) (s : ℕ) → is_of s e ≡ true → is_within s e ≡ true → begins_txn e ≡ false → before_turn s (e ∷ h) ≡ before_turn s h
before_turn_of e h s mine within goes = grind (arith, nat_tests, mine, within, goes)

-- of an entry that neither starts nor ends the item, nor opens a transaction
module _ (e : Event) (h : List Event) (s : ℕ) (mine : is_of s e ≡ true) (within : is_within s e ≡ true) (goes : begins_txn e ≡ false) where
  pub entries_are : of_item s (e ∷ h) ≡ e ∷ of_item s h
  entries_are = entries_of e h s mine within

  pub did_same : (test : Event → Bool) → test e ≡ false → did test s (e ∷ h) ≡ did test s h
  did_same test spares = ap (list_any test) entries_are ∙ rw spares refl

  pub did_now : (test : Event → Bool) → test e ≡ true → did test s (e ∷ h) ≡ true
  did_now test is = ap (list_any test) entries_are ∙ rw is refl

  pub over_same : closes e ≡ false → is_over s (e ∷ h) ≡ is_over s h
  over_same spares = ap (list_any closes) (turn_of e h s mine within goes) ∙ rw spares refl

  pub over_now : closes e ≡ true → is_over s (e ∷ h) ≡ true
  over_now is = ap (list_any closes) (turn_of e h s mine within goes) ∙ rw is refl

  pub over_still : is_over s h ≡ true → is_over s (e ∷ h) ≡ true
  over_still was = go (closes e) refl where
    go : (b : Bool) → closes e ≡ b → is_over s (e ∷ h) ≡ true
    go true is = over_now is
    go false is = over_same is ∙ was

  pub had_same : own_before s (e ∷ h) ≡ own_before s h
  had_same = ap (own s) (before_turn_of e h s mine within goes)

  pub before_same : before_item s (e ∷ h) ≡ before_item s h
  before_same = before_within e h s within

  pub some_on : (P : List Event → Type 0) → Sometime P s h → Sometime P s (e ∷ h)
  some_on P was = inr (starts_not e h s within, was)

  -- the point stays, or is just before the entry
  pub point_same : closes e ≡ true → point s (e ∷ h) ≡ point s h
  point_same is = go (is_over s h) refl where
    go : (b : Bool) → is_over s h ≡ b → point s (e ∷ h) ≡ point s h
    go true was = point_stays e h s was (over_now is)
    go false was = point_before e h s was (over_now is) ∙ sym (point_now h s was)

  pub reply_closed : closes e ≡ true → (statement : Stmt) (kept : Reply) → HasReply s statement kept h → HasReply s statement kept (e ∷ h)
  reply_closed is statement kept reply = reply_stays s h (e ∷ h) some_on (point_same is) statement kept reply

  opened_own : HasOpened s h → HasOpened s (e ∷ h)
  opened_own o =
      record {
        was_closed = ap (level s) before_same ∙ o.was_closed;
        had_none = ap (own s) before_same ∙ o.had_none;
        begun = did_same begins_txn goes ∙
            o.begun;
      }

  -- an entry that leaves the transaction open
  module _ (same-level : level s (e ∷ h) ≡ level s h) where
    joins_own : Joins s h → Joins s (e ∷ h)
    joins_own j =
        record {
          was_open = ap (λ p. is_some (level s p)) before_same ∙ j.was_open;
          stays = same-level ∙ (j.stays ∙ ap (level s) (sym before_same));
          not_begun = did_same begins_txn goes ∙ j.not_begun;
        }

    in_txn_own : (alone : Bool) (setting : Setting) → InTxn alone setting s h → InTxn alone setting s (e ∷ h)
    in_txn_own true setting txn = (opened_own txn.0, txn.1)
    in_txn_own false setting txn = elim txn [ inl j ↦ inl (joins_own j) | inr o ↦ inr (opened_own o.0, o.1) ]

    pub working_own : commits_txn e ≡ false → rolls_back_txn e ≡ false → is_victim e ≡ false → AllByRecursion IsOfRow (own s (e ∷ h))
        → (statement : Stmt) (alone : Bool) → IsWorking s statement alone h → IsWorking s statement alone (e ∷ h)
    working_own commits rolls victim rows statement alone w =
        record {
          takes = takes_on e h s within statement w.takes;
          writes = w.writes;
          in_txn = in_txn_own alone w.takes.setting w.in_txn;
          is_open = ap is_some same-level ∙ w.is_open;
          not_committed = did_same commits_txn commits ∙ w.not_committed;
          not_rolled_back = did_same rolls_back_txn rolls ∙ w.not_rolled_back;
          no_victim = did_same is_victim victim ∙ w.no_victim;
          had = had_same ∙ (w.had ∙ ap (own s) (sym before_same));
          rows_alone = rows;
        }
