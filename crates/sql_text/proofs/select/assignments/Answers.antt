use Rattle.std.proofs.Common.{◌≡◌, ◌∷◌, [], ◌++◌, refl, length, ap, ◌∙◌, sym}
use Rattle.std.proofs.lemmas.Result.{err_from_is_err_and}
use Rattle.std.proofs.lemmas.List.{map_push}
use Rattle.inno_types.specs.declared.stmt.Set.{Set}
use Rattle.sql_conditions.specs.Parts.{commas_at}
use Rattle.sql_text.specs.Whole.{assignment_at, columns_of}
use Rattle.sql_conditions.proofs.Items.{starts, goes_on, stops, fails, runs_out}
use Rattle.sql_text.proofs.SoundStatements.{begins_on, ends_with, none_begun}
use Rattle.sql_text.proofs.select.assignments.Goals as goal

pub loop-init : goal.loop-init
loop-init c = record {
  begun = none_begun c.args.tokens.now c.new-sets.result.items c.new-sets.ensures.items;
  left = rw c.new-sets.ensures.items (starts assignment_at [] (length c.args.tokens.now) 0 c.args.tokens.now (commas_at assignment_at c.args.tokens.now) refl);
}

pub returns-in_err-set-clause-exact : goal.returns-in_err-set-clause-exact
returns-in_err-set-clause-exact c =
    let p = err_from_is_err_and c.from_residual.result c.from_residual.ensures.1 in
    rw (p.1, p.2) (fails assignment_at (columns_of c.loop.sets.items) (length c.args.tokens.now) c.loop.counter c.loop.rest.now (commas_at assignment_at c.args.tokens.now) c.in_err-set.field-0.0 c.loop-test.true c.in_err-set.ensures.exact c.loop.invariant.left)

pub returns-in-None-clause-exact : goal.returns-in-None-clause-exact
returns-in-None-clause-exact c =
    let e : columns_of c.push.new.self.items ≡ columns_of c.loop.sets.items ++ c.in_ok-set.set.column ∷ [] = ap columns_of c.in_ok-push.ensures.items ∙ map_push (λ (s : Set). s.column) c.loop.sets.items c.in_ok-set.set in
    rw (c.from_vec.ensures, e) (stops assignment_at (columns_of c.loop.sets.items) (length c.args.tokens.now) c.loop.counter c.loop.rest.now (commas_at assignment_at c.args.tokens.now) c.in_ok-set.set.column c.in_ok-set.after.now c.loop-test.true c.in_ok-set.ensures.exact (sym c.in-None.ensures) c.loop.invariant.left)

pub returns-in-None-clause-spelled : goal.returns-in-None-clause-spelled
returns-in-None-clause-spelled c =
    rw c.from_vec.ensures (ends_with c.args.tokens.now c.loop.rest.now c.in_ok-set.after.now c.loop.sets.items c.push.new.self.items c.in_ok-set.set c.in_ok-push.ensures.items c.loop.invariant.begun c.in_ok-set.ensures.spelled)

pub loop-preserved : goal.loop-preserved
loop-preserved c =
    let e : columns_of c.push.new.self.items ≡ columns_of c.loop.sets.items ++ c.in_ok-set.set.column ∷ [] = ap columns_of c.in_ok-push.ensures.items ∙ map_push (λ (s : Set). s.column) c.loop.sets.items c.in_ok-set.set in
    record {
      begun = begins_on c.args.tokens.now c.loop.rest.now c.in_ok-set.after.now c.in-Some.more.now c.loop.sets.items c.push.new.self.items c.in_ok-set.set c.in_ok-push.ensures.items c.loop.invariant.begun c.in_ok-set.ensures.spelled (sym c.in-Some.ensures);
      left = rw e (goes_on assignment_at (columns_of c.loop.sets.items) (length c.args.tokens.now) c.loop.counter c.loop.rest.now (commas_at assignment_at c.args.tokens.now) c.in_ok-set.set.column c.in_ok-set.after.now c.in-Some.more.now c.loop-test.true c.in_ok-set.ensures.exact (sym c.in-Some.ensures) c.loop.invariant.left);
    }

pub returns-clause-exact : goal.returns-clause-exact
returns-clause-exact c = rw c.unexpected.ensures (c.loop.rest.now, runs_out assignment_at (columns_of c.loop.sets.items) (length c.args.tokens.now) c.loop.counter c.loop.rest.now (commas_at assignment_at c.args.tokens.now) c.loop-test.false c.loop.invariant.left, refl)
