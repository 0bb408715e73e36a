-- From what a seat knows to what contracts see of a session.
use Rattle.std.proofs.Common.{◌≡◌, ℕ, Bool, true, false, List, [], ◌∷◌, refl, sym, ap, ◌∙◌, subst}
use Rattle.inno_types.specs.declared.reply.Item.{Item}
use Rattle.inno_types.specs.declared.reply.Reply.TheVariants.{NoMemory}
use Rattle.inno_model.specs.Recorded.{Extends}
use Rattle.atomic_table.specs.Seated.{TableId}
use Rattle.inno_model.specs.declared.board.Phase.TheVariants.{Idle}
use Rattle.inno_model.specs.Boards.{calls_of}
use Rattle.turn_rule.specs.declared.rule.View.{View}
use Rattle.turn_engine.specs.Turns.{Went}
use Rattle.turn_engine.specs.Sessions.{Sitting, sitting, Executed}

pub seen_on : (s : Sitting) (h k : TableId) (vs ws : List View) (l m : Bool) (v w : View) → sitting h vs l ≡ s → vs ≡ v ∷ [] → ws ≡ w ∷ []
    → Extends v.mine.seen.past w.mine.seen.past → Extends s.seen.past (sitting k ws m).seen.past
seen_on s h k vs ws l m v w is from to p =
    subst (λ (t : Sitting). Extends t.seen.past (sitting k ws m).seen.past) is
    (subst (λ (us : List View). Extends (sitting h us l).seen.past (sitting k ws m).seen.past) (sym from)
    (subst (λ (us : List View). Extends v.mine.seen.past (sitting k us m).seen.past) (sym to) p))

-- a call that found no memory
pub lost_call : (s : Sitting) (h k : TableId) (vs ws : List View) (l : Bool) (v w : View) (x : ℕ) (item : Item) → sitting h vs l ≡ s → l ≡ false
    → vs ≡ v ∷ [] → ws ≡ w ∷ [] → v.mine.number ≡ x → w.mine.number ≡ x → Went x v.mine.seen w.mine.seen [] Idle
    → Executed s item NoMemory (sitting k ws true)
lost_call s h k vs ws l v w x item is kept from to mine theirs went =
    let same : calls_of w.mine.number w.mine.seen.past ≡ calls_of v.mine.number v.mine.seen.past =
    ap (λ (y : ℕ). calls_of y w.mine.seen.past) theirs ∙ (went.own ∙ sym (ap (λ (y : ℕ). calls_of y v.mine.seen.past) mine)) in
    subst (λ (t : Sitting). Executed t item NoMemory (sitting k ws true)) is
    (subst (λ (b : Bool). Executed (sitting h vs b) item NoMemory (sitting k ws true)) (sym kept)
    (subst (λ (us : List View). Executed (sitting h us false) item NoMemory (sitting k ws true)) (sym from)
    (subst (λ (us : List View). Executed (sitting h (v ∷ []) false) item NoMemory (sitting k us true)) (sym to) (refl, same))))
