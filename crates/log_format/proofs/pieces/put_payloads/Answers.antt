use Rattle.std.proofs.Common.{◌+◌, List, ℕ, vec_capacity, sym, ◌∙◌, ap, subst, arith}
use Rattle.log_format.specs.Block.{payload_of}
use Rattle.log_format.specs.Scan.{HasFields}
use Rattle.log_format.proofs.Scanned.{PiecesSoFar, one_piece, cut_out}
use Rattle.log_format.proofs.pieces.put_payloads.Goals as goal

pub returns-then-not-is_good-clause-good : goal.returns-then-not-is_good-clause-good
returns-then-not-is_good-clause-good c =
    let n = c.loop-at.at in
    record {
      few = omega (arith, c.loop-at-test.true);
      good = c.loop-at.invariant.good;
      bad = λ inside fields.
          absurd
          (cc (c.is_good.ensures.1 (subst (HasFields c.args.run (c.args.number + n)) (sym (cut_out n c.args.bytes.now)) fields), c.if-not-is_good.true));
    }

pub loop-at-preserved : goal.loop-at-preserved
loop-at-preserved c =
    let l = c.loop-at in
    let n = l.at in
    let bytes = c.args.bytes.now in
    let fields = subst (HasFields c.args.run (c.args.number + n)) (cut_out n bytes) (c.is_good.ensures.0 c.if-not-is_good.false) in
    subst (λ (o : List ℕ). PiecesSoFar c.args.run c.args.number bytes c.args.out.now.items o (vec_capacity c.extend_reserved.new.out) (n + 1))
    (sym c.extend_reserved.ensures.items)
    (one_piece c.args.run c.args.number bytes c.args.out.now.items l.out.items c.payload.result.now (vec_capacity l.out) (vec_capacity c.extend_reserved.new.out)
    n l.invariant c.loop-at-test.true fields (c.payload.ensures.payload ∙ ap payload_of (cut_out n bytes)) c.payload.ensures.small c.extend_reserved.ensures.grows)
