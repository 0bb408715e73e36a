use Rattle.std.proofs.Common.{refl, sym}
use Rattle.sql_tokens.specs.Reading as read
use Rattle.sql_tokens.proofs.Joined.{blank_more, token_more, begun, ended}
use Rattle.sql_tokens.proofs.Shorter.{blank_shorter, token_shorter}
use Rattle.sql_tokens.proofs.lexed.read_all.Goals as goal
use Rattle.sql_tokens.proofs.lexed.read_all.Goals.{else-reading-test, then-reading-test+in-None+in_ok-token-in-None+in-None-2}

pub reading-init : goal.reading-init
reading-init c = begun _ _ _ c.new-tokens.ensures.items c.new-lefts.ensures.items

pub reading-smaller-in-Some : goal.reading-smaller-in-Some
reading-smaller-in-Some c = blank_shorter _ _ (sym c.in-Some.ensures)

pub reading-preserved-in-Some : goal.reading-preserved-in-Some
reading-preserved-in-Some c = blank_more c.reading.invariant (sym c.in-Some.ensures)

pub reading-smaller : goal.reading-smaller
reading-smaller c = token_shorter _ c.in-Some-2.token _ (sym (rw c.in-Some-2.is at c.in_ok-token-in-None.ensures))

pub reading-preserved : goal.reading-preserved
reading-preserved c =
    rw (c.in_ok-push-in-Some-2.ensures.items, c.in_ok-push-in-Some-2-2.ensures.items) (token_more c.reading.invariant (sym c.in-None.ensures) (sym (rw c.in-Some-2.is at c.in_ok-token-in-None.ensures)))

pub returns : goal.returns
returns c = record {
  rest = c.reading.rest.now;
  begin = c.reading.invariant;
  stops =
      elim c.reading-test.branch [
        | else-reading-test w ↦ ended c.reading.rest.now c.is_empty.result c.is_empty.ensures w.reading-test.false
        | then-reading-test+in-None+in_ok-token-in-None+in-None-2 w ↦ read.no_token (sym w.in-None.ensures) (sym (rw w.in-None-2.is at w.in_ok-token-in-None.ensures))
      ];
  left = refl;
}
