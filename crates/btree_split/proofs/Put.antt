-- A half of a page that was put from byte 20 on says of its place and its records what was laid out.
use Rattle.std.proofs.Common.{◌≡◌, ℕ, List, take, drop, ◌∙◌, ap, arith}
use Rattle.std.specs.Prelude.{slice_index}
use Rattle.mtr.proofs.Behind.{drop-behind, u32-behind, byte-behind}
use Rattle.page_format.specs.Words.{index_of, low_of, high_of, fence}
use Rattle.page_format.specs.Shape.{HasTreeFields}
use Rattle.page_format.specs.Changes.{IsLowerHalf, IsUpperHalf}
use Rattle.page_format.proofs.Headed.{tree_from}
use Rattle.btree.proofs.Shown.{same_level, same_count, same_width, same_right, same_records}
use Rattle.btree_split.specs.Halves.{IsLowerPut, IsUpperPut}

module _ (a b : List ℕ) (same : drop 20 a ≡ drop 20 b) where
  low_part : take 80 (drop 36 a) ≡ take 80 (drop 36 b)
  low_part = ap (take 80) (drop-behind 36 a b (omega arith) same)

  high_part : take 80 (drop 116 a) ≡ take 80 (drop 116 b)
  high_part = ap (take 80) (drop-behind 116 a b (omega arith) same)

  low_len : slice_index a 34 ≡ slice_index b 34
  low_len = byte-behind 34 a b (omega arith) same

  high_len : slice_index a 35 ≡ slice_index b 35
  high_len = byte-behind 35 a b (omega arith) same

  pub same_low : low_of a ≡ low_of b
  same_low = λ j. fence (low_len j) (low_part j)

  pub same_high : high_of a ≡ high_of b
  same_high = λ j. fence (high_len j) (high_part j)

  pub same_number : index_of a ≡ index_of b
  same_number = u32-behind 24 a b (omega arith) same

  pub fields_shown : HasTreeFields b → HasTreeFields a
  fields_shown fields =
      (tree_from b a fields (record {
        kind = byte-behind 20 a b (omega arith) same;
        level = same_level a b same;
        count = same_count a b same;
        width = same_width a b same;
        body = drop-behind 196 a b (omega arith) same;
      }) (rw (low_len, low_part) fields.low) (rw (high_len, high_part) fields.high)).0

module _ (bytes page image new key : List ℕ) (i number : ℕ) (shown : drop 20 bytes ≡ drop 20 page) (put : drop 20 new ≡ drop 20 image) where
  pub lower_put : IsLowerHalf bytes i key number image → IsLowerPut page i key number new
  lower_put half = record {
    fields = fields_shown new image put half.fields;
    index = same_number new image put ∙ half.same.index ∙ same_number bytes page shown;
    width = same_width new image put ∙ half.same.record_len ∙ same_width bytes page shown;
    part =
        record {
          level = same_level new image put ∙ half.same.level ∙ same_level bytes page shown;
          records = same_records new image put ∙ half.records ∙ ap (take i) (same_records bytes page shown);
          low = same_low new image put ∙ half.low ∙ same_low bytes page shown;
          high = same_high new image put ∙ half.high;
          right = same_right new image put ∙ half.right;
        };
  }

  pub upper_put : IsUpperHalf bytes i key number image → IsUpperPut page i key new
  upper_put half = record {
    fields = fields_shown new image put half.fields;
    index = same_number new image put ∙ half.same.index ∙ same_number bytes page shown;
    width = same_width new image put ∙ half.same.record_len ∙ same_width bytes page shown;
    part =
        record {
          level = same_level new image put ∙ half.same.level ∙ same_level bytes page shown;
          records = same_records new image put ∙ half.records ∙ ap (drop i) (same_records bytes page shown);
          low = same_low new image put ∙ half.low;
          high = same_high new image put ∙ half.high ∙ same_high bytes page shown;
          right = same_right new image put ∙ half.right ∙ same_right bytes page shown;
        };
  }
