-- The lock that a search asks for is one of its rule.
use Rattle.std.proofs.Common.{arith, ◌≡◌, ◌≢◌, ◌∙◌, refl, ap, ℕ, ◌+◌, ◌*◌, ◌<◌, ◌==◌, Bool, true, false, ◌&&◌, not, List, Option, None, Some}
use Rattle.std.proofs.lemmas.Bool.{eq-eqb, ne_eqb}
use Rattle.std.specs.Prelude.{◌/◌, ◌%◌}
use Rattle.inno_types.specs.{declared.lock.Spot.Spot, declared.value.Schema.Schema}
use Rattle.inno_types.specs.{declared.stmt.Range.Range, declared.stmt.Bound.TheVariants.Open, declared.stmt.Bound.TheVariants.With}
use Rattle.inno_db.specs.Indexes.{index_of}
use Rattle.lock_rules.specs.declared.rule.Rule.TheVariants.{ClusteredOfEntry}
use Rattle.lock_rules.specs.declared.rule.Place.TheVariants.{Within, Past}
use Rattle.lock_rules.specs.Kinds.{is_upper, same_mode, same_level}
use Rattle.lock_rules.specs.Spots.{same_spot}
use Rattle.lock_rules.specs.Ranges.{is_single, is_past}
use Rattle.lock_rules.specs.Rules.{FitsItsRule}
use Rattle.lock_rules.proofs.Beside.{key_refl, spot_refl}
use Rattle.lock_table.proofs.Soundness.{mode_refl, item_refl}
use Rattle.row_locking.specs.declared.asker.Asker.{Asker}
use Rattle.row_locking.specs.Rules.{lock_by, TellsOneKey, rule_within, rule_past}
use Rattle.row_locking.specs.Comes.{IsOnSide, LiesPast, key_at}
use Rattle.row_locking.specs.declared.bounds.Side.TheVariants as side
use Rattle.entries.specs.Pairs.{Pair}

five : (a b c d e : Bool) → a ≡ true → b ≡ true → c ≡ true → d ≡ true → e ≡ true → (a && b && c && true && d && e) ≡ true
five true true true true true p q r s t = refl
five false b c d e p q r s t = cc
five true false c d e p q r s t = cc
five true true false d e p q r s t = cc
five true true true false e p q r s t = cc
five true true true true false p q r s t = cc

three : (a b c : Bool) → a ≡ true → b ≡ true → c ≡ true → (a && b && c) ≡ true
three a b c p q r = rw (p, q, r) refl

four : (a b c d : Bool) → a ≡ true → b ≡ true → c ≡ true → d ≡ true → ((a && b) && (c && d)) ≡ true
four a b c d p q r s = rw (p, q, r, s) refl

never : (a b : Bool) → b ≡ false → (a && b) ≡ false
never true b p = p
never false b p = refl

-- the clustered index has a number that 8 divides
is_clustered : (table which : ℕ) → which ≡ 0 → ((8 * table + which) % 8 == 0) ≡ true
is_clustered table which zeroth = eq-eqb ((8 * table + which) % 8) 0 (omega (arith, zeroth))

single_is : (range : Range) (bound : List ℕ) → range.low ≡ With bound → range.high ≡ With bound → is_single range ≡ true
single_is range bound low high = rw (low, high) (key_refl (Some bound))

-- the same range, from the first key on: it is none of one key
abbrev from_first : Range → Range
from_first range = record { empty = range.empty; low = Open; high = range.high }

module _ (asker : Asker) (upper : is_upper asker.level ≡ true) (spot : Spot) where
  same_item : ((asker.item == asker.item) && same_level asker.level asker.level) ≡ true
  same_item = item_refl asker.item asker.level

  module _ (table which : ℕ) (index_is : spot.index ≡ index_of table which) (schema : Schema) (range : Range) (some : range.empty ≡ false) where
    here : (spot.index == index_of table which) ≡ true
    here = eq-eqb spot.index (index_of table which) index_is

    -- a record in the range
    pub fits_within : (key : List ℕ) → spot.key ≡ Some key → IsOnSide range key side.Within → (one marked : Bool) → TellsOneKey schema which range one
        → FitsItsRule (lock_by asker (rule_within one marked) spot)
    fits_within key at inside false marked many = (
      record {
        rule = 4;
        level = asker.level;
        item = asker.item;
        index = index_of table which;
        range = from_first range;
        mode = asker.mode;
        spot = spot;
        marked = marked;
        place = Within;
      },
      five (is_upper asker.level) _ (same_spot spot spot) (same_mode asker.mode asker.mode) _ upper
          (rw (at, some, inside.1, here, never ((index_of table which) % 8 == 0) false refl) refl) (spot_refl spot) (mode_refl asker.mode) same_item,
    )
    fits_within key at inside true false is = (
      record {
        rule = 1;
        level = asker.level;
        item = asker.item;
        index = index_of table which;
        range = range;
        mode = asker.mode;
        spot = spot;
        marked = false;
        place = Within;
      },
      five (is_upper asker.level) _ (same_spot spot spot) (same_mode asker.mode asker.mode) _ upper
          (rw (at, some, inside.0, inside.1, here, is_clustered table which is.clustered, single_is range is.bound is.low is.high) refl)
          (spot_refl spot) (mode_refl asker.mode) same_item,
    )
    fits_within key at inside true true is = (
      record {
        rule = 2;
        level = asker.level;
        item = asker.item;
        index = index_of table which;
        range = range;
        mode = asker.mode;
        spot = spot;
        marked = true;
        place = Within;
      },
      five (is_upper asker.level) _ (same_spot spot spot) (same_mode asker.mode asker.mode) _ upper
          (rw (at, some, inside.0, inside.1, here, is_clustered table which is.clustered, single_is range is.bound is.low is.high) refl)
          (spot_refl spot) (mode_refl asker.mode) same_item,
    )

    is_past_range : (place : Option Pair) → LiesPast range place → is_past range (key_at place) ≡ true
    is_past_range None lies = ap not some
    is_past_range (Some pair) lies = rw (some, lies) refl

    past_first : (place : Option Pair) → LiesPast range place → is_past (from_first range) (key_at place) ≡ true
    past_first None lies = ap not some
    past_first (Some pair) lies = rw (some, lies) refl

    -- the first record past it, or the supremum
    pub fits_past : (place : Option Pair) → spot.key ≡ key_at place → LiesPast range place → (one : Bool) → TellsOneKey schema which range one
        → FitsItsRule (lock_by asker (rule_past one) spot)
    fits_past place at lies false many = (
      record {
        rule = 5;
        level = asker.level;
        item = asker.item;
        index = index_of table which;
        range = from_first range;
        mode = asker.mode;
        spot = spot;
        marked = false;
        place = Past;
      },
      five (is_upper asker.level) _ (same_spot spot spot) (same_mode asker.mode asker.mode) _ upper
          (rw (at, past_first place lies, here, never ((index_of table which) % 8 == 0) false refl) refl) (spot_refl spot) (mode_refl asker.mode)
          same_item,
    )
    fits_past place at lies true is = (
      record {
        rule = 3;
        level = asker.level;
        item = asker.item;
        index = index_of table which;
        range = range;
        mode = asker.mode;
        spot = spot;
        marked = false;
        place = Past;
      },
      five (is_upper asker.level) _ (same_spot spot spot) (same_mode asker.mode asker.mode) _ upper
          (rw (at, is_past_range place lies, here, is_clustered table which is.clustered, single_is range is.bound is.low is.high) refl)
          (spot_refl spot) (mode_refl asker.mode) same_item,
    )

  -- the clustered record of an entry
  pub fits_clustered : (table which : ℕ) → spot.index ≡ index_of table 0 → which ≢ 0 → which < 8 → (key : List ℕ) → spot.key ≡ Some key → (range : Range)
      → FitsItsRule (lock_by asker ClusteredOfEntry spot)
  fits_clustered table which index_is keyed few key at range = (
    record {
      rule = 6;
      level = asker.level;
      item = asker.item;
      index = index_of table which;
      range = range;
      mode = asker.mode;
      spot = spot;
      marked = false;
      place = Within;
    },
    five true _ (same_spot spot spot) (same_mode asker.mode asker.mode) _ refl
        (rw (at, is_secondary, leads_to) refl)
        (spot_refl spot) (mode_refl asker.mode) same_item,
  )
    where
      is_secondary : ((index_of table which) % 8 == 0) ≡ false
      is_secondary = ne_eqb ((8 * table + which) % 8) 0 (λ e. keyed (omega (arith, e, few)))

      leads_to : (spot.index == index_of table which / 8 * 8) ≡ true
      leads_to = eq-eqb spot.index (index_of table which / 8 * 8) (index_is ∙ omega (arith, few))
