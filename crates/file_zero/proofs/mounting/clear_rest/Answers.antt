use Rattle.std.proofs.Common.{◌≡◌, ℕ, length, sym, ◌∙◌, ap, subst}
use Rattle.store_api.specs.Past.{Now}
use Rattle.law_crashes.specs.Since.{IsScanned}
use Rattle.file_zero.proofs.mounting.clear_rest.Goals as goal

pub returns-in-Ok-zero_rest-clause-begun : goal.returns-in-Ok-zero_rest-clause-begun
returns-in-Ok-zero_rest-clause-begun g c = λ run first base double pages known.
    let size : c.args.rest ≡ length c.deref.result.now = sym (ap length c.deref.ensures.value ∙ c.in-Ok.ensures.len) in
    c.in-Ok-zero_rest.ensures.begun run first base double pages
    (subst (λ (n : ℕ). Now (IsScanned run first c.args.block base n double pages) (g.D.Disk.past c.args.disk.now)) size known)

pub returns-in-Ok-zero_rest-clause-crash : goal.returns-in-Ok-zero_rest-clause-crash
returns-in-Ok-zero_rest-clause-crash g c = λ run first base double pages known.
    let size : c.args.rest ≡ length c.deref.result.now = sym (ap length c.deref.ensures.value ∙ c.in-Ok.ensures.len) in
    c.in-Ok-zero_rest.ensures.crash run first base double pages
    (subst (λ (n : ℕ). Now (IsScanned run first c.args.block base n double pages) (g.D.Disk.past c.args.disk.now)) size known)

pub returns-clause-crash : goal.returns-clause-crash
returns-clause-crash g c = λ run first base double pages known.
    let size : c.args.rest ≡ length c.deref.result.now = sym (ap length c.deref.ensures.value ∙ c.in-Ok.ensures.len) in
    c.in-Err.ensures.crash run first base double pages
    (subst (λ (n : ℕ). Now (IsScanned run first c.args.block base n double pages) (g.D.Disk.past c.args.disk.now)) size known)
