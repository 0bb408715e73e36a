-- The halves of a split page.
use Rattle.std.proofs.Common.{◌≡◌, ℕ, List, take, drop, Some, ap, ◌∙◌, arith}
use Rattle.std.specs.Prelude.{slice_index}
use Rattle.std.specs.Int.{w16, w32, w64, from_be_bytes}
use Rattle.page_format.specs.Changes.{KeepsFields, IsLowerHalf, IsUpperHalf}
use Rattle.page_format.specs.Words.{right_of, low_of, high_of, records_of, fence}
use Rattle.stored_pages.specs.Words.{u16_at, u32_at, u64_at, number_of}
use Rattle.page_format.specs.Shape.{HasTreeFields}
use Rattle.page_format.proofs.Edited.{same_part, same_byte, middle_part, middle_byte}
use Rattle.page_format.proofs.Headed.{back_byte}
use Rattle.stored_pages.proofs.Sealed.{back_part}

-- after keep_first, set_high and set_right
pub lower : (old a b new : List ℕ) (i : ℕ) (key : List ℕ) (number : ℕ) → KeepsFields old a → records_of a ≡ take i (records_of old) → records_of b ≡ records_of a → high_of b ≡ Some key → take 35 b ≡ take 35 a → take 80 (drop 36 b) ≡ take 80 (drop 36 a)
    → HasTreeFields new → records_of new ≡ records_of b → right_of new ≡ number → take 28 new ≡ take 28 b → drop 32 new ≡ drop 32 b → IsLowerHalf old i key number new
unfolding u16_at u32_at u64_at
lower old a b new i key number keeps first_records second_records high front_b between fields third_records right front back =
    record {
      fields = fields;
      same = record {
        lsn = ap (from_be_bytes w64) (same_part new b 12 8 28 (omega arith) front ∙ same_part b a 12 8 35 (omega arith) front_b ∙ same_part a old 12 8 22 (omega arith) keeps.head);
        kind = same_byte new b 20 28 (omega arith) front ∙ same_byte b a 20 35 (omega arith) front_b ∙ same_byte a old 20 22 (omega arith) keeps.head;
        level = same_byte new b 21 28 (omega arith) front ∙ same_byte b a 21 35 (omega arith) front_b ∙ same_byte a old 21 22 (omega arith) keeps.head;
        index = ap (from_be_bytes w32) (same_part new b 24 4 28 (omega arith) front ∙ same_part b a 24 4 35 (omega arith) front_b ∙ middle_part old a 0 4 (omega arith) keeps);
        record_len = ap (from_be_bytes w16) (back_part new b 32 32 2 (omega arith) back ∙ same_part b a 32 2 35 (omega arith) front_b ∙ middle_part old a 8 2 (omega arith) keeps);
      };
      records = third_records ∙ second_records ∙ first_records;
      number_is = ap (from_be_bytes w32) (same_part new b 8 4 28 (omega arith) front ∙ same_part b a 8 4 35 (omega arith) front_b ∙ same_part a old 8 4 22 (omega arith) keeps.head);
      low =
          let len : slice_index new 34 ≡ slice_index old 34 = back_byte new b 32 34 (omega arith) back ∙ same_byte b a 34 35 (omega arith) front_b ∙ middle_byte old a 10 (omega arith) keeps in
          let part : take 80 (drop 36 new) ≡ take 80 (drop 36 old) = back_part new b 32 36 80 (omega arith) back ∙ between ∙ middle_part old a 12 80 (omega arith) keeps in
          λ j. fence (len j) (part j);
      high =
          let len : slice_index new 35 ≡ slice_index b 35 = back_byte new b 32 35 (omega arith) back in
          let part : take 80 (drop 116 new) ≡ take 80 (drop 116 b) = back_part new b 32 116 80 (omega arith) back in
          (λ j. fence (len j) (part j)) ∙ high;
      right = right;
    }

-- after keep_last, set_low and set_number
pub upper : (old a b new : List ℕ) (i : ℕ) (key : List ℕ) (number : ℕ) → KeepsFields old a → records_of a ≡ drop i (records_of old) → records_of b ≡ records_of a → low_of b ≡ Some key → take 34 b ≡ take 34 a → slice_index b 35 ≡ slice_index a 35 → drop 116 b ≡ drop 116 a
    → HasTreeFields new → records_of new ≡ records_of b → number_of new ≡ number → drop 12 new ≡ drop 12 b → IsUpperHalf old i key number new
unfolding u16_at u32_at u64_at
upper old a b new i key number keeps first_records second_records low front_b between back_b fields third_records number_is back =
    record {
      fields = fields;
      same = record {
        lsn = ap (from_be_bytes w64) (back_part new b 12 12 8 (omega arith) back ∙ same_part b a 12 8 34 (omega arith) front_b ∙ same_part a old 12 8 22 (omega arith) keeps.head);
        kind = back_byte new b 12 20 (omega arith) back ∙ same_byte b a 20 34 (omega arith) front_b ∙ same_byte a old 20 22 (omega arith) keeps.head;
        level = back_byte new b 12 21 (omega arith) back ∙ same_byte b a 21 34 (omega arith) front_b ∙ same_byte a old 21 22 (omega arith) keeps.head;
        index = ap (from_be_bytes w32) (back_part new b 12 24 4 (omega arith) back ∙ same_part b a 24 4 34 (omega arith) front_b ∙ middle_part old a 0 4 (omega arith) keeps);
        record_len = ap (from_be_bytes w16) (back_part new b 12 32 2 (omega arith) back ∙ same_part b a 32 2 34 (omega arith) front_b ∙ middle_part old a 8 2 (omega arith) keeps);
      };
      records = third_records ∙ second_records ∙ first_records;
      number_is = number_is;
      low =
          let len : slice_index new 34 ≡ slice_index b 34 = back_byte new b 12 34 (omega arith) back in
          let part : take 80 (drop 36 new) ≡ take 80 (drop 36 b) = back_part new b 12 36 80 (omega arith) back in
          (λ j. fence (len j) (part j)) ∙ low;
      high =
          let len : slice_index new 35 ≡ slice_index old 35 = back_byte new b 12 35 (omega arith) back ∙ between ∙ middle_byte old a 11 (omega arith) keeps in
          let part : take 80 (drop 116 new) ≡ take 80 (drop 116 old) = back_part new b 12 116 80 (omega arith) back ∙ ap (take 80) back_b ∙ middle_part old a 92 80 (omega arith) keeps in
          λ j. fence (len j) (part j);
      right = ap (from_be_bytes w32) (back_part new b 12 28 4 (omega arith) back ∙ same_part b a 28 4 34 (omega arith) front_b ∙ middle_part old a 4 4 (omega arith) keeps);
    }
