use Rattle.std.proofs.Common.{◌++◌, [], ◌∷◌, map, sym, ap, ◌∙◌}
use Rattle.sql_plan.specs.SeenParts.{seen_part}
use Rattle.sql_plan.proofs.Waiting.{ranges_waiting, reading_joined, reading_part}
use Rattle.sql_plan.proofs.part.parts_of.Goals as goal

pub loop-next-preserved-in-Continue-branch-3 : goal.loop-next-preserved-in-Continue-branch-3
loop-next-preserved-in-Continue-branch-3 c =
    let columns = c.args.columns.now in
    let found = map seen_part c.loop-next.parts.items in
    let pushed = c.in_ok-push-3.ensures.items ∙ ap (λ xs. xs ++ c.in-Some-sides.left ∷ []) c.in_ok-push-2.ensures.items in
    ap (λ xs. found ++ ranges_waiting columns xs) pushed
    ∙ reading_joined columns found _ _ _ c.in-Some.next c.in-Some-sides.left c.in-Some-sides.right c.in-Some.ensures.items (sym c.in-Some-sides.ensures) c.loop-next.invariant

pub loop-next-preserved-in-Continue-branch-4 : goal.loop-next-preserved-in-Continue-branch-4
loop-next-preserved-in-Continue-branch-4 c =
    let columns = c.args.columns.now in
    ap (λ xs. map seen_part xs ++ ranges_waiting columns c.pop.new.self.items) c.in_ok-push-4.ensures.items
    ∙ reading_part columns c.loop-next.parts.items c.in-Some-part_of.part _ _ _ c.in-Some.next c.in-Some.ensures.items (sym c.in_default-sides.ensures) c.in-Some-part_of.ensures c.loop-next.invariant
