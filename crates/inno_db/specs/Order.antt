-- The order of places is total.
use Rattle.std.specs.Cmp.{IsTotalOrder, nat_cmp_total, int_cmp_total, on_total, then_total}
use Rattle.std.specs.Cmp.Lexicographic.{nat_list_cmp_total}
use Rattle.inno_db.specs.Database.{Place, place_cmp, rank_of, number_of, text_of}

pub place_cmp_total : IsTotalOrder place_cmp
place_cmp_total =
    then_total (on_total (λ (p : Place). p.0) nat_cmp_total)
    (then_total (on_total (λ (p : Place). rank_of p.1) nat_cmp_total)
    (then_total (on_total (λ (p : Place). number_of p.1) int_cmp_total) (on_total (λ (p : Place). text_of p.1) nat_list_cmp_total)))
