use Rattle.std.proofs.Common.{◌≡◌, List, ℕ, drop, ◌++◌, length, arith, sym, ◌∙◌, ap, length-take}
use Rattle.std.proofs.lemmas.List.{take-append-drop, take_at}
use Rattle.disk_mem.proofs.source.hand_out.Goals as goal

pub returns-clause-handed : goal.returns-clause-handed
returns-clause-handed c =
    let n = c.min-count.result in
    let rest = c.args.rest.now in
    let copied = c.copy_from_slice.new.self in
    let front = λ (l : List ℕ). l ++ drop n rest in
    let long : length copied ≡ n = omega (arith, c.copy_from_slice.ensures.len, length-take n c.args.into.now) in
    sym (ap front (take_at copied (drop n c.args.into.now) n long ∙ c.copy_from_slice.ensures.after) ∙ take-append-drop n rest)
