use Rattle.std.proofs.Common.{ℕ, ◌<◌, List, sym, subst}
use Rattle.std.specs.Prelude.{All}
use Rattle.std.proofs.lemmas.List.{take_rest}
use Rattle.std.proofs.lemmas.Result.{err_from_is_err_and}
use Rattle.catalog.specs.Refused.{BeginsWith, IsRefused}
use Rattle.catalog.proofs.Shown.{no_table, no_roots}
use Rattle.catalog.proofs.tables.held_in.Goals as goal

pub returns-in_err-held-clause-refused : goal.returns-in_err-held-clause-refused
returns-in_err-held-clause-refused c =
    let p = err_from_is_err_and c.from_residual.result c.from_residual.ensures.1 in
    rw (p.1, p.2) (no_table c.args.count c.args.page.now c.in_err-held.field-0.0 c.requires.in_use (subst (λ (l : List ℕ). IsRefused l c.in_err-held.field-0.0) (take_rest c.args.page.now 33) c.in_err-held.ensures.refused))

pub returns-then-not-are_below-clause-refused : goal.returns-then-not-are_below-clause-refused
returns-then-not-are_below-clause-refused c =
    no_roots c.args.count c.args.page.now c.in_ok-held.held c.requires.in_use (subst (BeginsWith c.in_ok-held.held) (take_rest c.args.page.now 33) c.in_ok-held.ensures.entry)
    (λ all. c.if-not-are_below.ensures (subst (λ (l : List ℕ). All (λ root. root < c.args.count) l) (sym c.as_slice.ensures) all))

pub returns-clause-held : goal.returns-clause-held
returns-clause-held c = record {
  head = record { kind = c.requires.kind; in_use = c.requires.in_use };
  entry = subst (BeginsWith c.in_ok-held.held) (take_rest c.args.page.now 33) c.in_ok-held.ensures.entry;
  roots = subst (λ (l : List ℕ). All (λ root. root < c.args.count) l) c.as_slice.ensures c.if-not-are_below.ensures;
}
