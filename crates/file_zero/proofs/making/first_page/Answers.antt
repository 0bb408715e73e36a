use Rattle.std.proofs.Common.{◌≡◌, ℕ, List, ◌++◌, length, drop, replicate, arith}
use Rattle.std.specs.Int.{w64, to_be_bytes}
use Rattle.std.proofs.lemmas.List.{length-replicate}
use Rattle.file_zero.proofs.FirstPage.{fields, first_good, first_says}
use Rattle.file_zero.proofs.making.first_page.Goals as goal

pub returns-clause-good : goal.returns-clause-good
returns-clause-good c =
    let old = c.write_over.new.bytes in
    let tail : List ℕ = drop 72 (replicate 4096 0) in
    let is : old ≡ replicate 8 0 ++ (fields ++ tail) = c.write_over.ensures in
    let size : length old ≡ 4096 = omega (arith, c.write_over.auto.bytes, length-replicate {A = ℕ} 4096 0) in
    let new : c.write_over-2.new.bytes ≡ to_be_bytes w64 c.fnv-sum.result ++ drop 8 old = rw c.u64_bytes.ensures at c.write_over-2.ensures in
    first_good old c.write_over-2.new.bytes tail c.fnv-sum.result is size c.fnv-sum.ensures new

pub returns-clause-header : goal.returns-clause-header
returns-clause-header c =
    let old = c.write_over.new.bytes in
    let tail : List ℕ = drop 72 (replicate 4096 0) in
    let is : old ≡ replicate 8 0 ++ (fields ++ tail) = c.write_over.ensures in
    let size : length old ≡ 4096 = omega (arith, c.write_over.auto.bytes, length-replicate {A = ℕ} 4096 0) in
    let new : c.write_over-2.new.bytes ≡ to_be_bytes w64 c.fnv-sum.result ++ drop 8 old = rw c.u64_bytes.ensures at c.write_over-2.ensures in
    first_says old c.write_over-2.new.bytes tail c.fnv-sum.result is size c.fnv-sum.ensures new
