use Rattle.std.proofs.Common.{◌∙◌, sym, ap, ℕ, ◌+◌, List, ◌++◌}
use Rattle.std.proofs.lemmas.List.{append-nil}
use Rattle.std.specs.Prelude.{codes}
use Rattle.std.specs.Fmt.{decimal}
use Rattle.script_generator.specs.Generated.{more_accounts}
use Rattle.script_generator.proofs.Appended.{two}
use Rattle.script_generator.proofs.Steps.{more_none, more_next}
use Rattle.script_generator.proofs.accounts.push_more.Goals as goal

pub loop-n-init : goal.loop-n-init
loop-n-init c = rw more_none (sym (append-nil c.args.text.now.items))

pub loop-n-preserved : goal.loop-n-preserved
loop-n-preserved c =
    let old = c.args.text.now.items in
    let n = c.loop-n.n in
    two old (more_accounts n) (codes ",(" ++ (decimal (n + 2) ++ codes ",100)")) c.loop-n.text.items c.push_account.new.text.items c.loop-n.invariant c.in_ok-push_account.ensures
    ∙ ap (λ (more : List ℕ). old ++ more) (sym (more_next n))
