-- The lock that a search asks for: by which rule, and in whose name.
use Rattle.std.specs.Prelude.{◌≡◌, ℕ, ◌≤◌, Bool, true, false, List, length}
use Rattle.inno_types.specs.{declared.lock.Lock.Lock, declared.lock.Spot.Spot, declared.value.Schema.Schema, declared.stmt.Range.Range}
use Rattle.inno_types.specs.declared.stmt.Bound.TheVariants.{With}
use Rattle.key_codec.specs.Keys.{key_width}
use Rattle.sql_plan.specs.Visits.{kind_at}
use Rattle.lock_rules.specs.declared.rule.Rule.{Rule}
use Rattle.lock_rules.specs.declared.rule.Rule.TheVariants.{UniqueFound, UniqueMarked, UniqueAbsent, RangeRecord, PastRange}
use Rattle.lock_rules.specs.Rules.{number_of, rule_kind, rule_mode}
use Rattle.row_locking.specs.declared.asker.Asker.{Asker}

-- the lock that the rule gives at this spot
abbrev pub lock_by : Asker → Rule → Spot → Lock
lock_by asker rule spot = record {
  txn = asker.txn;
  spot = spot;
  kind = rule_kind rule;
  mode = rule_mode rule asker.mode;
  reason = record { rule = number_of rule; item = asker.item; level = asker.level };
}

-- Both bounds are one key of the clustered index, as long as its keys at least: no two keys of records lie in the range.
pub record IsForOneKey (schema : Schema) (which : ℕ) (range : Range) : Type 0 where
  pub clustered : which ≡ 0
  pub bound : List ℕ
  pub low : range.low ≡ With bound
  pub high : range.high ≡ With bound
  pub wide : key_width (kind_at schema.columns schema.primary) ≤ length bound

abbrev pub TellsOneKey : Schema → ℕ → Range → Bool → Type 0
TellsOneKey schema which range true = IsForOneKey schema which range
TellsOneKey schema which range false = IsForOneKey schema which range → ⊥

-- for a record in the range: a search for one key locks the record alone, and the gap with it where the record is marked
abbrev pub rule_within : Bool → Bool → Rule
rule_within false marked = RangeRecord
rule_within true false = UniqueFound
rule_within true true = UniqueMarked

-- for the first record past the range, or the supremum
abbrev pub rule_past : Bool → Rule
rule_past true = UniqueAbsent
rule_past false = PastRange
