-- What an item that gives a signal, or awaits one, may do, and what its step does.
use Rattle.std.proofs.Common.{◌≡◌, ℕ, ◌+◌, ◌-◌, ◌<◌, ◌≤◌, true, false, Option, Some, None, List, ◌∷◌, length, refl, sym, ap, subst, ◌∙◌, inl}
use Rattle.std.proofs.Common.{inr, arith}
use Rattle.std.specs.Prelude.{take, drop, reverse, unwrap_or, Result, Ok, Err, OnOk, OnErr, is_ok}
use Rattle.std.specs.List.{list_any}
use Rattle.std.proofs.lemmas.Bool.Decides.{eqb_tells}
use Rattle.std.proofs.lemmas.List.{length-reverse, length-drop, reverse-reverse, take_all}
use Rattle.inno_types.specs.declared.reply.Item.TheVariants as items
use Rattle.inno_types.specs.declared.reply.Reply.{Reply}
use Rattle.inno_types.specs.declared.reply.Reply.TheVariants as replies
use Rattle.inno_model.specs.declared.event.Event.{Event}
use Rattle.inno_model.specs.declared.event.Event.TheVariants as events
use Rattle.inno_model.specs.Past.{started, under_way, awaits_ack}
use Rattle.sql_grammar.specs.Grammar.{Spells}
use Rattle.sql_history.specs.Counts.{signals}
use Rattle.sql_history.specs.Legal.{IsLegal, MaySignal}
use Rattle.law_past_agreement.specs.Order.{IsOrdered}
use Rattle.shared_lists.specs.State.{State as Lists, Adds, Stays, task_of}
use Rattle.sql_lists.specs.Kept.{MayReply}
use Rattle.session_engine.specs.Signals.{AreSpent, HasOnlyAsked, gives, HasSeenNone}
use Rattle.store_api.specs.declared.answers.Progress.{Progress}
use Rattle.store_api.specs.declared.answers.Progress.TheVariants as progress
use Rattle.session_engine.specs.declared.seats.Seat.{Seat}
use Rattle.session_engine.specs.declared.seats.Seat.TheVariants.{Idle}
use Rattle.session_engine.specs.declared.seats.SignalItem.TheVariants.{Gives}
use Rattle.session_engine.specs.Calls.{EndsSignal, EndsItem, Signals}
use Rattle.session_engine.proofs.Signals.{asks_more, done_within, same_name, given_some, given_none, seen_then, seen_all}

-- ---- a signal is given

pub may_give : (s : ℕ) (name : List ℕ) (h : List Event) → HasOnlyAsked s (items.Signal name) h → AreSpent h → IsOrdered h → MaySignal name h
may_give s name h asked spent ordered =
    record { s = s; asked = asked.asked; first = omega (arith, spent name, asks_more name s h ordered asked.asked) }

one_more : (name : List ℕ) (h : List Event) → signals name (events.Signal name ∷ h) ≡ signals name h + 1
one_more name h = rw (same_name name) refl

pub may_end_given : (s : ℕ) (name : List ℕ) (h : List Event) → HasOnlyAsked s (items.Signal name) h → IsLegal Spells h
    → MayReply s replies.Done (events.Signal name ∷ h)
may_end_given s name h asked legal =
    record {
      item = items.Signal name;
      asked = asked.asked;
      ends = (ap awaits_ack asked.nothing, inl refl, (omega (arith, one_more name h, done_within name h legal), asked.nothing));
    }

pub gave : (s : ℕ) (name : List ℕ) (old mid new : Lists) → under_way s old.past ≡ Some (items.Signal name) → Adds (events.Signal name) s old mid
    → Adds (events.Ended s (started s mid.past) replies.Done) s mid new → EndsSignal s replies.Done old new
gave s name old mid new asked first second =
    record {
      names_stay = second.names_are ∙ first.names_are;
      writer_stays = second.writer_is ∙ first.writer_is;
      tasks_stay = λ u. elim (eqb_tells u s) [
        | inl same ↦ subst (λ v. task_of v new ≡ task_of v old) (sym same.1) (second.task_is ∙ first.task_is)
        | inr differ ↦ second.others u differ.1 ∙ first.others u differ.1
      ];
      ends = (
        events.Signal name ∷ old.past,
        inr (name, asked, refl),
        second.past_is ∙ ap (λ h. events.Ended s (started s h) replies.Done ∷ h) first.past_is,
      );
    }

-- it is not given, and the item ends
pub gave_none : (s : ℕ) (name : List ℕ) (old new : Lists) (seat : Seat) (answer : Progress) → EndsSignal s replies.NoMemory old new → seat ≡ Idle
    → answer ≡ progress.Done replies.NoMemory → Signals s 0 (Gives name) old new seat answer
gave_none s name old new seat answer ends is-idle is =
    subst (λ (a : Progress). Signals s 0 (Gives name) old new seat a) (sym is) (ends, is-idle, tt)

pub ends_after : (s : ℕ) (reply : Reply) (old mid new : Lists) → Stays s old mid → EndsSignal s reply mid new → EndsSignal s reply old new
ends_after s reply old mid new stays ends =
    record {
      names_stay = ends.names_stay ∙ stays.names_are;
      writer_stays = ends.writer_stays ∙ stays.writer_is;
      tasks_stay = λ u. ends.tasks_stay u ∙ elim (eqb_tells u s) [
        | inl same ↦ subst (λ v. task_of v mid ≡ task_of v old) (sym same.1) stays.task_is
        | inr differ ↦ stays.others u differ.1
      ];
      ends = subst (λ past. EndsItem s reply past new.past) stays.past_is ends.ends;
    }

-- ---- a signal is awaited

entries_are : (es h : List Event) → reverse es ≡ h → es ≡ reverse h
entries_are es h is = sym (reverse-reverse es) ∙ ap reverse is

pub found : (name : List ℕ) (seen : ℕ) (es h : List Event) → HasSeenNone name seen h → reverse es ≡ h → list_any (gives name) (drop seen es) ≡ true
    → 0 < signals name h
found name seen es h has is any =
    given_some name h (seen_then name seen h true has (ap (λ xs. list_any (gives name) (drop seen xs)) (sym (entries_are es h is)) ∙ any))

not_found : (name : List ℕ) (seen : ℕ) (es h : List Event) → HasSeenNone name seen h → reverse es ≡ h → list_any (gives name) (drop seen es) ≡ false
    → list_any (gives name) h ≡ false
not_found name seen es h has is none =
    seen_then name seen h false has (ap (λ xs. list_any (gives name) (drop seen xs)) (sym (entries_are es h is)) ∙ none)

pub none_given : (name : List ℕ) (seen : ℕ) (es h : List Event) → HasSeenNone name seen h → reverse es ≡ h → list_any (gives name) (drop seen es) ≡ false
    → signals name h ≡ 0
none_given name seen es h has is none = given_none name h (not_found name seen es h has is none)

pub seen_now : (name : List ℕ) (seen : ℕ) (es h : List Event) → HasSeenNone name seen h → reverse es ≡ h → list_any (gives name) (drop seen es) ≡ false
    → HasSeenNone name (length es) h
seen_now name seen es h has is none =
    subst (λ n. HasSeenNone name n h) (ap length (sym is) ∙ length-reverse es) (seen_all name h (not_found name seen es h has is none))

pub may_end_found : (s : ℕ) (name : List ℕ) (h : List Event) → HasOnlyAsked s (items.Await name) h → 0 < signals name h → MayReply s replies.Done h
may_end_found s name h asked some =
    record { item = items.Await name; asked = asked.asked; ends = (ap awaits_ack asked.nothing, inl refl, (some, asked.nothing)) }

pub may_give_up : (s waited : ℕ) (name : List ℕ) (h : List Event) → HasOnlyAsked s (items.Await name) h → signals name h ≡ 0 → 50 ≤ waited
    → MayReply s (replies.NotSignalled waited) h
may_give_up s waited name h asked none long =
    record { item = items.Await name; asked = asked.asked; ends = (ap awaits_ack asked.nothing, inl refl, (long, none, asked.nothing)) }

pub ended_waiting : (s : ℕ) (reply : Reply) (old new : Lists) → Adds (events.Ended s (started s old.past) reply) s old new → EndsSignal s reply old new
ended_waiting s reply old new adds =
    record {
      names_stay = adds.names_are;
      writer_stays = adds.writer_is;
      tasks_stay = λ u. elim (eqb_tells u s) [
        | inl same ↦ subst (λ v. task_of v new ≡ task_of v old) (sym same.1) adds.task_is
        | inr differ ↦ adds.others u differ.1
      ];
      ends = (old.past, inl refl, adds.past_is);
    }

-- what lies behind the entries that were seen, as a slice has it
pub rest_is : (seen : ℕ) (es : List Event) → take (length es - seen) (drop seen es) ≡ drop seen es
rest_is seen es = take_all (length es - seen) (drop seen es) (let long = length-drop seen es in omega (arith, long))

pub where_ok : {A B P : Type 0} (r : Result A B) → is_ok r ≡ true → OnOk r P → P
where_ok (Ok u) is h = h
where_ok (Err u) is h = absurd (cc)

pub where_err : {A B P : Type 0} (r : Result A B) → is_ok r ≡ false → OnErr r P → P
where_err (Ok u) is h = absurd (cc)
where_err (Err u) is h = h

-- the item has waited so long since its first step, which this is not
pub waited_since : (o : Option ℕ) (now since waited : ℕ) → since ≡ unwrap_or o now → waited ≡ now - since → 50 ≤ waited
    → (x : ℕ) × (o ≡ Some x) × (waited ≡ now - x) × (50 ≤ waited)
waited_since None now since waited since_is waited_is long = absurd (omega (arith, since_is, waited_is, long))
waited_since (Some x) now since waited since_is waited_is long = (x, refl, waited_is ∙ ap (λ n. now - n) since_is, long)
