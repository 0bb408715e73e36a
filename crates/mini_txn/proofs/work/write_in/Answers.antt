use Rattle.std.proofs.Common.{ℕ, List, length, sym, ap, subst, ◌∙◌, IfSome}
use Rattle.mtr.specs.Seen.{with_bytes}
use Rattle.mini_txn.specs.declared.dealt.Entry.{Entry}
use Rattle.mini_txn.specs.Dealt.{copy_of, HasCopy}
use Rattle.mini_txn.proofs.Meeting.{writes_first, writes_again, no_copy, a_copy}
use Rattle.mini_txn.proofs.work.write_in.Goals as goal
use Rattle.mini_txn.proofs.work.write_in.Goals.{then-is_none, else-is_none}

pub returns : goal.returns
returns c = elim c.if-is_none.branch [
  | then-is_none w ↦
      let page = c.args.page in
      let pool = c.args.pool.now in
      let piece = c.args.bytes.now in
      let none = no_copy c.copy.result c.is_none.result (copy_of c.args.dealt.now page) c.copy.ensures.value c.is_none.ensures w.if-is_none.true in
      let size = ap length (sym w.bytes.ensures.value) ∙ w.bytes.ensures.size in
      let has = subst (λ (l : List ℕ). HasCopy page l c.args.dealt.now w.set.new.self) w.bytes.ensures.value w.set.ensures in
      let outcome = subst (λ (d : List Entry). IfSome (copy_of d page)
      (λ copy. HasCopy page (with_bytes c.args.at piece copy) d c.write.new.self)) w.dealt-is c.write.ensures in
      writes_first page c.args.at piece pool c.args.dealt.now w.set.new.self c.write.new.self c.requires.begins c.requires.ends size none
      c.requires.readable has outcome
  | else-is_none w ↦
      let page = c.args.page in
      let piece = c.args.bytes.now in
      let some = a_copy c.copy.result c.is_none.result (copy_of c.args.dealt.now page) c.copy.ensures.value c.is_none.ensures w.if-is_none.false
      c.copy.ensures.size in
      let outcome = subst (λ (d : List Entry). IfSome (copy_of d page)
      (λ copy. HasCopy page (with_bytes c.args.at piece copy) d c.write.new.self)) w.dealt-is c.write.ensures in
      writes_again page c.args.at piece c.args.pool.now c.args.dealt.now c.write.new.self some.0 c.requires.begins c.requires.ends some.2 some.1 outcome
]
