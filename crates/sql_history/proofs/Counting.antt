-- Rows counted from the oldest entry on are those counted from the newest.
use Rattle.std.proofs.Common.{◌≡◌, ℕ, ◌≤◌, List, length, take, reverse, sym, ap, ◌∙◌}
use Rattle.std.specs.List.{sum_by}
use Rattle.std.proofs.lemmas.List.{take_all}
use Rattle.std.proofs.lemmas.List.Sorted.{sum_by-IsPermutation, IsPermutation-reverse}
use Rattle.inno_model.specs.declared.event.Event.{Event}
use Rattle.sql_history.specs.Counts.{capped, rows_of_entry, rows_kept}

pub all_counted : (items past : List Event) (i total : ℕ) → total ≡ capped (sum_by rows_of_entry (take i items)) → length items ≤ i → reverse items ≡ past
    → total ≡ capped (rows_kept past)
all_counted items past i total counted all is =
    counted ∙ (ap (λ es. capped (sum_by rows_of_entry es)) (take_all i items all)
    ∙ (sym (ap capped (sum_by-IsPermutation rows_of_entry items (reverse items) (IsPermutation-reverse items))) ∙ ap (λ es. capped (sum_by rows_of_entry es))
    is))
