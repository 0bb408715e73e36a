-- The laws of the order of places.
use Rattle.std.specs.Prelude.{Some, refl}
use Rattle.std.specs.Cmp.{IsTotalOrder, IsEquivalence, IsPartialOrder, on_total, eq_by_cmp_equiv, po}
use Rattle.inno_db.specs.Order.{place_cmp_total}
use Rattle.row_versions.specs.Chains.{in_model, place_order, is_same_place}

pub place_total : IsTotalOrder place_order
place_total = on_total in_model place_cmp_total

pub same_place_equiv : IsEquivalence is_same_place
same_place_equiv = eq_by_cmp_equiv place_total

pub place_partial : IsPartialOrder is_same_place (λ a b. Some (place_order a b))
place_partial = po place_total (λ a b. refl)
