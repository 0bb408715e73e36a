-- A log that goes on where a scan ended.
use Rattle.std.proofs.Common.{◌≡◌, ℕ, ◌+◌, ◌-◌, ◌<◌, List, [], length, sym, subst, arith}
use Rattle.std.specs.Prelude.{All}
use Rattle.std.proofs.lemmas.List.{append-nil}
use Rattle.std.proofs.lemmas.List.Elements.{All-nil}
use Rattle.store_api.specs.Areas.{Contents}
use Rattle.log_format.specs.declared.group.Group.{Group}
use Rattle.log_format.proofs.Blocks.{AreBlocks-none}
use Rattle.redo_log.specs.Logged.{WritesFront, GoesOnAt, IsLogged}

pub begun : (run first block next spare : ℕ) (groups : List Group) (c : Contents) → 0 < next → next ≡ first + length groups → GoesOnAt run first block groups c
    → IsLogged first groups (record { run = run; block = block; pending = []; count = 0; tried = 0; next = next; flushed = next - 1; spare = spare }) c
begun run first block next spare groups c some number goes_on = record {
  durable = groups;
  waiting = [];
  split = sym (append-nil groups);
  each = goes_on.each;
  next = number;
  flushed = omega (arith, some, number);
  good = goes_on.good;
  bad = goes_on.bad;
  stored = goes_on.stored;
  blocks = AreBlocks-none run block;
  writes = subst (All (WritesFront block 0 [])) (sym goes_on.rests) (All-nil (WritesFront block 0 []));
}
