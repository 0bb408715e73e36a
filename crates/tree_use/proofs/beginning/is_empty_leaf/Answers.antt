use Rattle.std.proofs.Common.{Bool, true, false, sym, ◌∙◌, ap, ◌+◌, subst}
use Rattle.std.specs.Prelude.{MatchBool}
use Rattle.page_format.specs.Shape.{AreZeros}
use Rattle.tree_use.specs.Beginning.{IsEmptyLeaf}
use Rattle.tree_use.proofs.beginning.is_empty_leaf.Goals as goal

pub returns : goal.returns
returns c = both c.are_zeros.result c.are_zeros.ensures where
  both : (b : Bool) → MatchBool b (AreZeros c.split_at.result.1.now) (AreZeros c.split_at.result.1.now → ⊥)
      → MatchBool b (IsEmptyLeaf c.args.tree c.args.bytes.now) (IsEmptyLeaf c.args.tree c.args.bytes.now → ⊥)
  both true zeros = record {
    kind = c.if-bytes-ne-LEAF.false;
    level = c.if-bytes-ne0.false;
    count = sym c.read_u16.ensures ∙ c.if-read_u16-ne0.false;
    index = sym c.read_u32-2.ensures ∙ c.if-read_u32-tree.false;
    right = sym c.read_u32.ensures ∙ c.if-read_u32-ne0.false;
    width = sym c.read_u16-2.ensures ∙ (c.if-read_u16-from.false ∙ ap (λ n. n + c.args.tree.value_len) c.from.ensures);
    low = c.if-bytes.false;
    high = c.if-bytes-2.false;
    rest = subst AreZeros c.split_at.ensures.back zeros;
  }
  both false none = λ leaf. none (subst AreZeros (sym c.split_at.ensures.back) leaf.rest)
