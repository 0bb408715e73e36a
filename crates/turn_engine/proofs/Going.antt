-- What the calls of an engine mean for a seat.
use Rattle.std.proofs.Common.{◌≡◌, ℕ, suc, ◌+◌, ◌==◌, Bool, true, false, cond, List, [], ◌∷◌, ◌++◌, Option, Some, None}
use Rattle.std.proofs.Common.{refl, sym, ap, ◌∙◌, subst, arith, eq-eqb, append_assoc}
use Rattle.std.specs.Prelude.{Result, Ok, Err, OnOk, OnErr}
use Rattle.std.specs.Result.{is_ok}
use Rattle.std.proofs.lemmas.List.{append-nil}
use Rattle.inno_types.specs.declared.reply.Item.{Item}
use Rattle.inno_types.specs.declared.reply.Reply.{Reply}
use Rattle.inno_model.specs.declared.event.Event.{Event}
use Rattle.inno_model.specs.declared.event.Event.TheVariants.{Started, Ended}
use Rattle.inno_model.specs.Past.{started}
use Rattle.inno_model.specs.Recorded.{Extends}
use Rattle.atomic_table.specs.Table.{Me}
use Rattle.inno_model.specs.declared.board.Board.{Board}
use Rattle.inno_model.specs.declared.board.Phase.{Phase}
use Rattle.inno_model.specs.declared.board.Phase.TheVariants.{Idle, Busy, Leaving, Left}
use Rattle.inno_model.specs.Boards.{is_call, calls_of, phase_of, Keeps, Grows}
use Rattle.inno_model.proofs.Places.{kept_calls}
use Rattle.turn_rule.specs.declared.rule.View.{View}
use Rattle.turn_rule.specs.Steps.{HasTurn, published, idle}
use Rattle.turn_engine.specs.Calls.{Makes, EndsBy, StepsBy, IsUnderWay, item_number}
use Rattle.turn_engine.specs.declared.turn.Pause.{Pause}
use Rattle.turn_engine.specs.declared.turn.Stepped.{Stepped}
use Rattle.turn_engine.specs.declared.turn.Stepped.TheVariants.{Over, GoesOn}
use Rattle.turn_engine.specs.Turns.{Rests, Went, EndWent, StepWent, reply_in}

-- ---- how many items were started is told by the session's calls

started_own : (x t j n : ℕ) (item : Item) (rest : List Event) (b : Bool) → (t == x) ≡ b → n ≡ started x rest
    → cond b (n + 1) n ≡ started x (cond b (Started t j item ∷ rest) rest)
started_own x t j n item rest true is h = rw (is, h) refl
started_own x t j n item rest false is h = h

ended_own : (x t j n : ℕ) (reply : Reply) (rest : List Event) (b : Bool) → n ≡ started x rest → n ≡ started x (cond b (Ended t j reply ∷ rest) rest)
ended_own x t j n reply rest true h = h
ended_own x t j n reply rest false h = h

started_on : (x : ℕ) (e : Event) (past rest : List Event) → started x past ≡ started x rest
    → started x (e ∷ past) ≡ started x (cond (is_call x e) (e ∷ rest) rest)
started_on x (Started t j item) past rest h = started_own x t j (started x past) item rest (t == x) refl h
started_on x (Ended t j reply) past rest h = ended_own x t j (started x past) reply rest (t == x) h
started_on x other past rest h = h

started_calls : (x : ℕ) (past : List Event) → started x past ≡ started x (calls_of x past)
started_calls x [] = refl
started_calls x (e ∷ past) = started_on x e past (calls_of x past) (started_calls x past)

pub same_started : (x : ℕ) (a b : List Event) → calls_of x b ≡ calls_of x a → started x b ≡ started x a
same_started x a b same = started_calls x b ∙ (ap (started x) same ∙ sym (started_calls x a))

pub one_started : (x j : ℕ) (item : Item) (a b : List Event) → calls_of x b ≡ Started x j item ∷ calls_of x a → started x b ≡ started x a + 1
one_started x j item a b own =
    let here : started x (Started x j item ∷ calls_of x a) ≡ started x (calls_of x a) + 1 = rw (eq-eqb x x refl) refl in
    started_calls x b ∙ (ap (started x) own ∙ (here ∙ ap (λ (n : ℕ). n + 1) (sym (started_calls x a))))

-- ---- what a seat has seen goes on

pub extends_trans : (a b c : List Event) → Extends a b → Extends b c → Extends a c
extends_trans a b c p q = (q.0 ++ p.0, q.1 ∙ (ap (λ l. q.0 ++ l) p.1 ∙ sym (append_assoc q.0 p.0 a)))

pub grown : (x : ℕ) (a b : Board) → Grows x a b → Extends a.past b.past
grown x a b g = let k = g (suc x) (λ same. absurd (omega (arith, same))) in (k.newer, k.past)

-- the calls of others, and then the session's own
pub went : (x : ℕ) (a b c : Board) (calls : List Event) (p : Phase) → Keeps x a b → Makes x b c calls p → Went x a c calls p
went x a b c calls p k m = record {
  extends = extends_trans a.past b.past c.past (k.newer, k.past) (grown x b c m.grows);
  own = m.own ∙ ap (λ l. calls ++ l) (kept_calls x a b k);
  phase_is = m.phase_is;
  names = λ first. m.names ∙ (k.names ∙ (ap (λ l. a.names ++ l) (k.alone first) ∙ append-nil a.names));
}

pub went_self : (x : ℕ) (a : Board) (p : Phase) → phase_of a x ≡ p → Went x a a [] p
went_self x a p is = record { extends = ([], refl); own = refl; phase_is = is; names = λ _. refl }

pub went_on : (x : ℕ) (a b c : Board) (calls more : List Event) (p q : Phase) → Went x a b calls p → Went x b c more q → Went x a c (more ++ calls) q
went_on x a b c calls more p q v w = record {
  extends = extends_trans a.past b.past c.past v.extends w.extends;
  own = w.own ∙ (ap (λ l. more ++ l) v.own ∙ sym (append_assoc more calls (calls_of x a.past)));
  phase_is = w.phase_is;
  names = λ first. w.names first ∙ v.names first;
}

-- ---- answers

end_went : (x : ℕ) (a b c : Board) (p : Phase) (reply : Reply) → Keeps x a b → EndsBy x b p reply c → EndWent x a p reply c
end_went x a b c Busy reply k e =
    subst (λ (n : ℕ). Went x a c (Ended x n reply ∷ []) Idle) (same_started x a.past b.past (kept_calls x a b k))
    (went x a b c (Ended x (started x b.past) reply ∷ []) Idle k e)
end_went x a b c other reply k e = went x a b c [] Left k e

pub step_went : (x : ℕ) (a b c : Board) (p : Phase) (o : Option Reply) → Keeps x a b → StepsBy x b p o c → StepWent x a p o c
step_went x a b c p (Some reply) k s = end_went x a b c p reply k s
step_went x a b c p None k s = went x a b c [] p k s

-- what a call promises of an `Ok`, where it was one
pub where_ok : {A B P : Type 0} (r : Result A B) → is_ok r ≡ true → OnOk r P → P
where_ok (Ok u) is h = h
where_ok (Err u) is h = absurd (cc)

-- ---- several turns

pub under_way : (x : ℕ) (a b : Board) (p : Phase) → Went x a b [] p → IsUnderWay p → IsUnderWay (phase_of b x)
under_way x a b p w way = subst IsUnderWay (sym w.phase_is) way

-- a step by which nothing ended, after others
pub goes_on : (x : ℕ) (a b c : Board) (p : Phase) (r : Stepped) (pause : Pause) → r ≡ GoesOn pause → Went x a b [] p
    → StepWent x b (phase_of b x) (reply_in r) c → Went x a c [] p
goes_on x a b c p r pause is v s =
    let w : Went x b c [] (phase_of b x) = subst (λ (t : Stepped). StepWent x b (phase_of b x) (reply_in t) c) is s in
    went_on x a b c [] [] p p v (subst (λ (q : Phase). Went x b c [] q) v.phase_is w)

-- the step by which an item ended
pub answered : (x : ℕ) (a b c : Board) (r : Stepped) (reply : Reply) → r ≡ Over reply → Went x a b [] Busy → StepWent x b (phase_of b x) (reply_in r) c
    → Went x a c (Ended x (started x a.past) reply ∷ []) Idle
answered x a b c r reply is v s =
    let w : EndWent x b (phase_of b x) reply c = subst (λ (t : Stepped). StepWent x b (phase_of b x) (reply_in t) c) is s in
    let u : Went x b c (Ended x (started x b.past) reply ∷ []) Idle = subst (λ (q : Phase). EndWent x b q reply c) v.phase_is w in
    subst (λ (n : ℕ). Went x a c (Ended x n reply ∷ []) Idle) (same_started x a.past b.past v.own)
    (went_on x a b c [] (Ended x (started x b.past) reply ∷ []) Busy Idle v u)

-- the step by which a session has left
pub has_gone : (x : ℕ) (a b c : Board) (r : Stepped) (reply : Reply) → r ≡ Over reply → Went x a b [] Leaving → StepWent x b (phase_of b x) (reply_in r) c
    → Went x a c [] Left
has_gone x a b c r reply is v s =
    let w : EndWent x b (phase_of b x) reply c = subst (λ (t : Stepped). StepWent x b (phase_of b x) (reply_in t) c) is s in
    went_on x a b c [] [] Leaving Left v (subst (λ (q : Phase). EndWent x b q reply c) v.phase_is w)

-- a whole call
pub called : (x : ℕ) (item : Item) (a b c : Board) (reply : Reply) → Went x a b (Started x (item_number x a) item ∷ []) Busy
    → Went x b c (Ended x (started x b.past) reply ∷ []) Idle
    → Went x a c (Ended x (item_number x a) reply ∷ Started x (item_number x a) item ∷ []) Idle
called x item a b c reply v w =
    subst (λ (n : ℕ). Went x a c (Ended x n reply ∷ Started x (item_number x a) item ∷ []) Idle) (one_started x (item_number x a) item a.past b.past v.own)
    (went_on x a b c (Started x (item_number x a) item ∷ []) (Ended x (started x b.past) reply ∷ []) Busy Idle v w)

-- ---- a turn

module _ {E : Type 0} (board : E → Board) where
  abbrev Mine : Type 0
  Mine = Me (Option E) View

  pub kept_by_turn : (x : ℕ) (m w : Mine) (e : E) → Rests m x → HasTurn board m e w → Keeps x m.0.mine.seen (board e)
  kept_by_turn x m w e r h = subst (λ (n : ℕ). Keeps n m.0.mine.seen (board e)) r.at_rest.number_is h.keeps

  -- what a seat has seen after its turn
  seen_then : (w end : Mine) (f : E) → end ≡ (idle (published w.0 (board f)), []) → board f ≡ end.0.mine.seen
  seen_then w end f is = sym (ap (λ (t : Mine). t.0.mine.seen) is)

  pub turned : (x : ℕ) (m w end : Mine) (e f : E) (calls : List Event) (p : Phase) → Rests m x → HasTurn board m e w
      → end ≡ (idle (published w.0 (board f)), []) → Makes x (board e) (board f) calls p → Went x m.0.mine.seen end.0.mine.seen calls p
  turned x m w end e f calls p r h is made =
      subst (λ (t : Board). Went x m.0.mine.seen t calls p) (seen_then w end f is)
      (went x m.0.mine.seen (board e) (board f) calls p (kept_by_turn x m w e r h) made)

  pub start_turned : {A B : Type 0} (x : ℕ) (item : Item) (m w end : Mine) (e f : E) (r : Result A B) → Rests m x → HasTurn board m e w
      → end ≡ (idle (published w.0 (board f)), [])
      → OnOk r (Makes x (board e) (board f) (Started x (item_number x (board e)) item ∷ []) Busy) → OnOk r
      (Went x m.0.mine.seen end.0.mine.seen (Started x (item_number x m.0.mine.seen) item ∷ []) Busy)
  start_turned x item m w end e f (Err u) r h is made = tt
  start_turned x item m w end e f (Ok u) r h is made =
      let k : Keeps x m.0.mine.seen (board e) = kept_by_turn x m w e r h in
      subst (λ (n : ℕ). Went x m.0.mine.seen end.0.mine.seen (Started x (n + 1) item ∷ []) Busy)
      (same_started x m.0.mine.seen.past (board e).past (kept_calls x m.0.mine.seen (board e) k))
      (turned x m w end e f (Started x (item_number x (board e)) item ∷ []) Busy r h is made)

  pub start_refused : {A B : Type 0} (x : ℕ) (m w end : Mine) (e f : E) (r : Result A B) → Rests m x → HasTurn board m e w
      → end ≡ (idle (published w.0 (board f)), [])
      → OnErr r (Makes x (board e) (board f) [] Idle) → OnErr r (Went x m.0.mine.seen end.0.mine.seen [] Idle)
  start_refused x m w end e f (Ok u) r h is made = tt
  start_refused x m w end e f (Err u) r h is made = turned x m w end e f [] Idle r h is made

  pub step_turned : (x : ℕ) (m w end : Mine) (e f : E) (o q : Option Reply) → Rests m x → HasTurn board m e w → end ≡ (idle (published w.0 (board f)), [])
      → StepsBy x (board e) (phase_of (board e) x) o (board f) → q ≡ o
      → StepWent x m.0.mine.seen (phase_of m.0.mine.seen x) q end.0.mine.seen
  step_turned x m w end e f o q r h is s same =
      let k : Keeps x m.0.mine.seen (board e) = kept_by_turn x m w e r h in
      subst (λ (t : Board). StepWent x m.0.mine.seen (phase_of m.0.mine.seen x) q t) (seen_then w end f is)
      (subst (λ (r : Option Reply). StepWent x m.0.mine.seen (phase_of m.0.mine.seen x) r (board f)) (sym same)
      (step_went x m.0.mine.seen (board e) (board f) (phase_of m.0.mine.seen x) o k (subst (λ (p : Phase). StepsBy x (board e) p o (board f)) k.phase s)))
