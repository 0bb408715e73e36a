-- Page 0 with other numbers, field by field.
use Rattle.std.proofs.Common.{◌≡◌, ℕ, ◌+◌, ◌<◌, ◌≤◌, ◌^◌, List, ◌++◌, length, take, drop, refl, sym, ap, ◌∙◌, arith}
use Rattle.std.specs.Int.{w32, w64, to_be_bytes, from_be_bytes}
use Rattle.std.proofs.lemmas.Nat.{from_be_bytes-to_be_bytes_8}
use Rattle.sum64.specs.Fnv.{fnv_of}
use Rattle.store_api.specs.Areas.{PassesSum}
use Rattle.stored_pages.specs.Words.{u32_at, u64_at}
use Rattle.page_format.proofs.Edited.{same_part}
use Rattle.page_format.proofs.Headed.{Over, over, back_more}
use Rattle.stored_pages.proofs.Sealed.{back_part}
use Rattle.stored_pages.proofs.Sealed.{sealed}
use Rattle.stored_pages.specs.Reading.{IsGoodPage}
use Rattle.page_checkpoint.specs.Header.{IsNextHeader}

module _ (lsn run first sum : ℕ) (zeros a b c d e f : List ℕ) (lsn_fits : lsn < 2 ^ 64) (run_fits : run < 2 ^ 64) (first_fits : first < 2 ^ 64)
    (size : length a ≡ 4096) (four : length zeros ≡ 4) (none : from_be_bytes w32 zeros ≡ 0)
    (b_is : b ≡ take 8 a ++ (zeros ++ drop 12 a)) (c_is : c ≡ take 12 b ++ (to_be_bytes w64 lsn ++ drop 20 b))
    (d_is : d ≡ take 48 c ++ (to_be_bytes w64 run ++ drop 56 c)) (e_is : e ≡ take 56 d ++ (to_be_bytes w64 first ++ drop 64 d))
    (sum_is : sum ≡ fnv_of (drop 8 e)) (f_is : f ≡ to_be_bytes w64 sum ++ drop 8 e) where
  numbered : Over 8 12 zeros a b
  numbered = over 8 12 zeros a b (omega (arith, four)) (omega (arith, size)) b_is

  stamped : Over 12 20 (to_be_bytes w64 lsn) b c
  stamped = over 12 20 (to_be_bytes w64 lsn) b c refl (omega (arith, size, numbered.size)) c_is

  of_run : Over 48 56 (to_be_bytes w64 run) c d
  of_run = over 48 56 (to_be_bytes w64 run) c d refl (omega (arith, size, numbered.size, stamped.size)) d_is

  begun : Over 56 64 (to_be_bytes w64 first) d e
  begun = over 56 64 (to_be_bytes w64 first) d e refl (omega (arith, size, numbered.size, stamped.size, of_run.size)) e_is

  pub summed : PassesSum f × (drop 8 f ≡ drop 8 e)
  summed = sealed e f sum sum_is f_is

  to_e : (at n : ℕ) → 8 ≤ at → take n (drop at f) ≡ take n (drop at e)
  to_e at n from = back_part f e 8 at n from summed.1

  to_d : (at n : ℕ) → 8 ≤ at → at + n ≤ 56 → take n (drop at f) ≡ take n (drop at d)
  to_d at n from to = to_e at n from ∙ same_part e d at n 56 to begun.front

  to_c : (at n : ℕ) → 8 ≤ at → at + n ≤ 48 → take n (drop at f) ≡ take n (drop at c)
  to_c at n from to = to_d at n from (omega (arith, to)) ∙ same_part d c at n 48 to of_run.front

  number : u32_at 8 f ≡ 0
  unfolding u32_at
  number =
      ap (from_be_bytes w32)
      (to_c 8 4 (omega arith) (omega arith) ∙ same_part c b 8 4 12 (omega arith) stamped.front ∙ ap (λ (n : ℕ). take n (drop 8 b)) (sym four) ∙ numbered.here)
      ∙ none

  lsn_there : u64_at 12 f ≡ lsn
  unfolding u64_at
  lsn_there = ap (from_be_bytes w64) (to_c 12 8 (omega arith) (omega arith) ∙ stamped.here) ∙ from_be_bytes-to_be_bytes_8 lsn lsn_fits

  run_there : u64_at 48 f ≡ run
  unfolding u64_at
  run_there = ap (from_be_bytes w64) (to_d 48 8 (omega arith) (omega arith) ∙ of_run.here) ∙ from_be_bytes-to_be_bytes_8 run run_fits

  first_there : u64_at 56 f ≡ first
  unfolding u64_at
  first_there = ap (from_be_bytes w64) (to_e 56 8 (omega arith) ∙ begun.here) ∙ from_be_bytes-to_be_bytes_8 first first_fits

  pub next : IsNextHeader lsn run first a f
  next = record {
    number = number;
    lsn_is = lsn_there;
    of_run = run_there;
    begins = first_there;
    middle =
        to_c 20 28 (omega arith) (omega arith)
        ∙ (back_part c b 20 20 28 (omega arith) stamped.back ∙ back_part b a 12 20 28 (omega arith) numbered.back);
    behind =
        back_more f e 8 64 (omega arith) summed.1
        ∙ (begun.back
        ∙ (back_more d c 56 64 (omega arith) of_run.back ∙ (back_more c b 20 64 (omega arith) stamped.back ∙ back_more b a 12 64 (omega arith) numbered.back)));
  }

  pub good : length f ≡ 4096 → IsGoodPage 0 f
  good long = record { size = long; sum = summed.0; number_is = number }
