use Rattle.std.proofs.Common.{◌≡◌, ℕ, List, ◌∷◌, ◌++◌, length, sym, ap, ◌∙◌, length-append, arith, rules}
use Rattle.key_codec.specs.Numbers.{u64_bytes}
use Rattle.key_codec.proofs.Lengths.{length-u64_bytes}
use Rattle.row_codec.specs.Rows.{mark_code, head_code}
use Rattle.row_codec.specs.declared.read.Head.{Head}
use Rattle.row_codec.specs.Heads.{IsHeadOf}
use Rattle.row_codec.proofs.Parts.{none_from, same_fronts, length-head_code, head_parts}
use Rattle.row_codec.proofs.read.head_of.Goals as goal

pub returns-in_err-mark-clause-none : goal.returns-in_err-mark-clause-none
returns-in_err-mark-clause-none c =
    let empty : length c.args.bytes.now ≡ 0 = c.in_err-mark.ensures.cases in
    let none : (head : Head) (rest : List ℕ) → IsHeadOf head rest c.args.bytes.now → ⊥ = λ head rest e.
    omega (
      arith,
      ap length e,
      empty,
      length-append (head_code head.marked head.writer head.pointer) rest,
      length-head_code head.marked head.writer head.pointer,
    ) in
    none_from c.from_residual.result _ none

pub returns-in_err-marked-clause-none : goal.returns-in_err-marked-clause-none
returns-in_err-marked-clause-none c =
    let split : c.args.bytes.now ≡ c.in_ok-mark.mark.now ∷ c.in_ok-mark.behind.now = search rules in
    let none : (head : Head) (rest : List ℕ) → IsHeadOf head rest c.args.bytes.now → ⊥ = λ head rest e.
    let mark : c.in_ok-mark.mark.now ≡ mark_code head.marked = cc (head_parts head.marked head.writer head.pointer rest) in
    c.in_err-marked.ensures.none head.marked mark in
    none_from c.from_residual-in_err-marked.result _ none

pub returns-in_err-writer-clause-none : goal.returns-in_err-writer-clause-none
returns-in_err-writer-clause-none c =
    let split : c.args.bytes.now ≡ c.in_ok-mark.mark.now ∷ c.in_ok-mark.behind.now = search rules in
    let none : (head : Head) (rest : List ℕ) → IsHeadOf head rest c.args.bytes.now → ⊥ = λ head rest e.
    let behind : c.in_ok-mark.behind.now ≡ u64_bytes head.writer ++ (u64_bytes head.pointer ++ rest)
    = cc (head_parts head.marked head.writer head.pointer rest) in
    c.in_err-writer.ensures.none head.writer (u64_bytes head.pointer ++ rest) behind in
    none_from c.from_residual-in_err-writer.result _ none

pub returns-in_err-pointer-clause-none : goal.returns-in_err-pointer-clause-none
returns-in_err-pointer-clause-none c =
    let split : c.args.bytes.now ≡ c.in_ok-mark.mark.now ∷ c.in_ok-mark.behind.now = search rules in
    let found = c.in_ok-writer.ensures.found in
    let none : (head : Head) (rest : List ℕ) → IsHeadOf head rest c.args.bytes.now → ⊥ = λ head rest e.
    let behind : c.in_ok-mark.behind.now ≡ u64_bytes head.writer ++ (u64_bytes head.pointer ++ rest)
    = cc (head_parts head.marked head.writer head.pointer rest) in
    let parts = same_fronts (u64_bytes c.in_ok-writer.writer) (u64_bytes head.writer) c.in_ok-writer.behind.now (u64_bytes head.pointer ++ rest)
    (length-u64_bytes c.in_ok-writer.writer ∙ sym (length-u64_bytes head.writer)) (sym found ∙ behind) in
    c.in_err-pointer.ensures.none head.pointer rest parts.1 in
    none_from c.from_residual-in_err-pointer.result _ none

pub returns-clause-found : goal.returns-clause-found
returns-clause-found c =
    let split : c.args.bytes.now ≡ c.in_ok-mark.mark.now ∷ c.in_ok-mark.behind.now = search rules in
    cc (
      split,
      c.in_ok-marked.ensures.found,
      c.in_ok-writer.ensures.found,
      c.in_ok-pointer.ensures.found,
      head_parts c.in_ok-marked.marked c.in_ok-writer.writer c.in_ok-pointer.pointer c.in_ok-pointer.behind.now,
    )
