-- Several steps of one session in one turn do to the board what one that ends like the last does.
use Rattle.std.proofs.Common.{ℕ, ◌<◌, Option, Some, None, List, [], ◌∷◌, ◌++◌, length, refl, sym, ap, ◌∙◌, subst}
use Rattle.inno_types.specs.declared.reply.Reply.{Reply}
use Rattle.inno_model.specs.declared.event.Event.{Event}
use Rattle.inno_model.specs.declared.event.Event.TheVariants.{Ended}
use Rattle.inno_model.specs.Past.{started}
use Rattle.inno_model.specs.declared.board.Board.{Board}
use Rattle.inno_model.specs.declared.board.Phase.{Phase}
use Rattle.inno_model.specs.declared.board.Phase.TheVariants.{Idle, Busy, Left}
use Rattle.inno_model.specs.Boards.{phase_of}
use Rattle.inno_model.proofs.Keeping.{keeps_trans, grows_self}
use Rattle.turn_engine.specs.Calls.{Makes, EndsBy, StepsBy, IsUnderWay}
use Rattle.turn_engine.proofs.Going.{same_started}

pub none_made : (s : ℕ) (a : Board) → Makes s a a [] (phase_of a s)
none_made s a = record { grows = grows_self s a; names = refl; own = refl; phase_is = refl }

-- steps by which nothing ended, and then calls
makes_on : (s : ℕ) (a b c : Board) (p q : Phase) (calls : List Event) → Makes s a b [] p → Makes s b c calls q → Makes s a c calls q
makes_on s a b c p q calls first then =
    record {
      grows = λ y differs. keeps_trans y a b c (first.grows y differs) (then.grows y differs);
      names = then.names ∙ first.names;
      own = then.own ∙ ap (λ l. calls ++ l) first.own;
      phase_is = then.phase_is;
    }

ends_on : (s : ℕ) (a b c : Board) (p : Phase) (reply : Reply) → Makes s a b [] p → EndsBy s b p reply c → EndsBy s a p reply c
ends_on s a b c Busy reply first ends =
    subst (λ (n : ℕ). Makes s a c (Ended s n reply ∷ []) Idle) (same_started s a.past b.past first.own)
    (makes_on s a b c Busy Idle (Ended s (started s b.past) reply ∷ []) first ends)
ends_on s a b c other reply first ends = makes_on s a b c other Left [] first ends

steps_in : (s : ℕ) (a b c : Board) (p : Phase) (reply : Option Reply) → Makes s a b [] p → StepsBy s b p reply c → StepsBy s a p reply c
steps_in s a b c p (Some reply) first steps = ends_on s a b c p reply first steps
steps_in s a b c p None first steps = makes_on s a b c p p [] first steps

-- after steps by which nothing ended comes another
pub steps_on : (s : ℕ) (a b c : Board) (p : Phase) (reply : Option Reply) → Makes s a b [] p → StepsBy s b (phase_of b s) reply c
    → StepsBy s a p reply c
steps_on s a b c p reply first steps = steps_in s a b c p reply first (subst (λ (q : Phase). StepsBy s b q reply c) first.phase_is steps)

pub still_under_way : (s : ℕ) (a b : Board) (p : Phase) → Makes s a b [] p → IsUnderWay p → IsUnderWay (phase_of b s)
still_under_way s a b p first way = subst IsUnderWay (sym first.phase_is) way

pub still_named : (s : ℕ) (a b : Board) (p : Phase) → Makes s a b [] p → s < length a.names → s < length b.names
still_named s a b p first named = subst (λ names. s < length names) (sym first.names) named
