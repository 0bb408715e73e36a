use Rattle.std.proofs.Common.{◌≡◌, ◌≤◌, ◌<◌, ℕ, List, [], length, get_or, vec_len, sym, ap, ◌∙◌, subst, arith}
use Rattle.stored_pages.specs.Words.{u32_at}
use Rattle.mtr.specs.Resting.{IsResting}
use Rattle.tests_trees.proofs.both.begin.Goals as goal

-- page 0 counts no more pages than there are, so the pages are told
pub begin-requires-clause-told : goal.begin-requires-clause-told
begin-requires-clause-told c =
    let rest = c.in_ok-m.ensures in
    let same : c.deref.result.now ≡ c.args.pages.items = c.deref.ensures.value in
    let some : 0 < length c.args.pages.items = subst (λ (l : List (List ℕ)). 0 < length l) same c.in-Some.ensures.item.3.0 in
    let head : c.in-Some.header.now ≡ get_or c.args.pages.items 0 [] =
    c.in-Some.ensures.item.3.1 [] ∙ ap (λ (l : List (List ℕ)). get_or l 0 []) same
    in
    let seen = ap (λ (f : ℕ → List ℕ). f 0) rest.seen ∙ (rest.standing 0 some ∙ sym head) in
    let count = ap (u32_at 44) seen ∙ sym c.read_u32.ensures in
    let few : c.read_u32.result ≤ c.len.result = c.if-read_u32-len.false in
    let len : c.len.result ≡ length c.args.pages.items =
    c.len.ensures ∙ (sym c.deref.ensures.len ∙ ap (λ (l : List (List ℕ)). length l) same)
    in
    rest.told (subst (λ n. n ≤ length c.args.pages.items) (sym count) (omega (arith, few, len)))
