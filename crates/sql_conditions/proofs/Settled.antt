-- The steps of the loops over a condition.
use Rattle.std.proofs.Common.{◌≡◌, ℕ, suc, ◌+◌, ◌-◌, ◌<◌, ◌≤◌, List, ◌∷◌, Result, Ok, Err, IfOk, refl, sym, ◌∙◌, subst, arith}
use Rattle.inno_types.specs.declared.stmt.Filter.{Filter}
use Rattle.sql_grammar.specs.declared.token.Token.{Token}
use Rattle.sql_grammar.specs.Grammar.{Atom, Condition, Single}
use Rattle.sql_grammar.specs.Grammar as grammar
use Rattle.sql_conditions.specs.declared.conditions.Frame.{Frame}
use Rattle.sql_conditions.specs.declared.conditions.After.{After}
use Rattle.sql_conditions.specs.declared.refusal.Refusal.{Refusal}
use Rattle.sql_conditions.specs.Parts.{◌>>=◌, Fails, Gives}
use Rattle.sql_conditions.specs.Atoms.{atom_at}
use Rattle.sql_conditions.specs.Conditions as read
use Rattle.sql_conditions.specs.Conditions.{HasOperand, Stands, StandsAfter, marks, mark_of, close, settle, carry, steps, resume, operand_step, atom_step, stage_of}
use Rattle.sql_conditions.proofs.Refused.{fails_bind, same_fails}
use Rattle.sql_conditions.proofs.SoundAtoms.{atom_sound}

module _ (stack popped new : List Frame) (fr : Frame) (rest after : List Token) (total : Result read.Stage (List Token)) (popping : stack ≡ fr ∷ popped) (so_far : settle (marks stack) rest ≡ total) where
  pub settle_fails : (e : Refusal) → Fails e (close (mark_of fr) (marks popped) rest) → Fails e total
  unfolding settle
  settle_fails e h =
      let one : settle (marks stack) rest ≡ (close (mark_of fr) (marks popped) rest >>= λ step. carry (settle (marks popped)) step) = rw popping refl in
      same_fails e (close (mark_of fr) (marks popped) rest >>= λ step. carry (settle (marks popped)) step) total (sym one ∙ so_far) (fails_bind e (close (mark_of fr) (marks popped) rest) (λ step. carry (settle (marks popped)) step) h)

  pub settle_goes : close (mark_of fr) (marks popped) rest ≡ Ok (read.Goes after) → new ≡ popped → settle (marks new) after ≡ total
  unfolding settle
  settle_goes h k =
      let one : settle (marks stack) rest ≡ settle (marks new) after = rw (popping, h, k) refl in
      sym one ∙ so_far

  pub settle_waits : close (mark_of fr) (marks popped) rest ≡ Ok (read.Wants (marks new) after) → total ≡ Ok (read.More (marks new) after)
  unfolding settle
  settle_waits h =
      let one : settle (marks stack) rest ≡ Ok (read.More (marks new) after) = rw (popping, h) refl in
      sym so_far ∙ one

pub joins : (all : List Token) (stack popped : List Frame) (fr : Frame) (f : Filter) (rest : List Token) → stack ≡ fr ∷ popped → HasOperand all stack f rest → HasOperand all (fr ∷ popped) f rest
joins all stack popped fr f rest e h = subst (λ (fs : List Frame). HasOperand all fs f rest) e h

-- ---- an operand

pub has_atom : (all : List Token) (frames : List Frame) (f : Filter) (tokens rest : List Token) → atom_at tokens ≡ Ok (f, rest) → Stands all frames tokens → HasOperand all frames f rest
has_atom all frames f tokens rest e st =
    let a : Atom tokens f rest = subst (λ (r : Result (Filter × List Token) (List Token)). IfOk r (λ r. Atom tokens r.0 r.1)) e (atom_sound tokens) in
    record { strength = Single; start = tokens; spelled = grammar.atom a; allowed = tt; below = st }

pub after_atom : {X : Type 0} (view : X → read.Stage) (result : Result X Refusal) (waiting : List read.Mark) (tokens rest : List Token) (f : Filter) → atom_at tokens ≡ Ok (f, rest) → Gives view result (settle waiting rest) → Gives view result (atom_step waiting tokens)
unfolding atom_step
after_atom view result waiting tokens rest f e h = rw e h

pub atom_fails : (e : Refusal) (waiting : List read.Mark) (tokens : List Token) → Fails e (atom_at tokens) → Fails e (atom_step waiting tokens)
unfolding atom_step
atom_fails e waiting tokens h = fails_bind e (atom_at tokens) (λ atom. settle waiting atom.1) h

pub stands_after : (result : Result After Refusal) (old new : List Frame) (f : Filter) (tokens rest : List Token) → atom_at tokens ≡ Ok (f, rest)
    → IfOk result (λ after. (all : List Token) → HasOperand all old f rest → StandsAfter all new after) → IfOk result (λ after. (all : List Token) → Stands all old tokens → StandsAfter all new after)
stands_after (Ok after) old new f tokens rest e h = λ all st. h all (has_atom all old f tokens rest e st)
stands_after (Err x) old new f tokens rest e h = tt

-- ---- all of the condition

module _ (count i : ℕ) (waiting : List read.Mark) (tokens after : List Token) (total : Result (List Token) (List Token)) (so_far : steps (count - i) waiting tokens ≡ total) where
  pub steps_fail : (e : Refusal) → i < count → Fails e (operand_step waiting tokens) → Fails e total
  unfolding steps
  steps_fail e lt h =
      let n : count - i ≡ suc (count - (i + 1)) = omega arith in
      let one : steps (count - i) waiting tokens ≡ (operand_step waiting tokens >>= λ stage. resume (steps (count - (i + 1))) stage) = rw n refl in
      same_fails e (operand_step waiting tokens >>= λ stage. resume (steps (count - (i + 1))) stage) total (sym one ∙ so_far) (fails_bind e (operand_step waiting tokens) (λ stage. resume (steps (count - (i + 1))) stage) h)

  pub steps_whole : i < count → operand_step waiting tokens ≡ Ok (read.Whole after) → total ≡ Ok after
  unfolding steps
  steps_whole lt h =
      let n : count - i ≡ suc (count - (i + 1)) = omega arith in
      let one : steps (count - i) waiting tokens ≡ Ok after = rw (n, h) refl in
      sym so_far ∙ one

  pub steps_more : (more : List read.Mark) → i < count → operand_step waiting tokens ≡ Ok (read.More more after) → steps (count - (i + 1)) more after ≡ total
  unfolding steps
  steps_more more lt h =
      let n : count - i ≡ suc (count - (i + 1)) = omega arith in
      let one : steps (count - i) waiting tokens ≡ steps (count - (i + 1)) more after = rw (n, h) refl in
      sym one ∙ so_far

  pub steps_run_out : count ≤ i → total ≡ Err tokens
  unfolding steps
  steps_run_out le =
      let n : count - i ≡ 0 = omega arith in
      let one : steps (count - i) waiting tokens ≡ Err tokens = rw n refl in
      sym so_far ∙ one
