-- What a scan of the log's area tells, where its groups are of rows alone.
use Rattle.std.proofs.Common.{◌≡◌, inl, inr, ℕ, ◌-◌, ◌*◌, ◌^◌, ◌≤◌, Option, Some, None, List, length, sym, subst, arith}
use Rattle.std.specs.Prelude.{All, IfSome, unwrap_or}
use Rattle.std.proofs.lemmas.Bool.{cases_lt}
use Rattle.log_format.specs.declared.group.Group.{Group}
use Rattle.log_format.specs.Scan.{IsScan, EndsAt}
use Rattle.law_crashes.specs.RowScan.{HasRowsOnly}
use Rattle.file_zero.specs.Reading.{HasGroups}

-- the number of the block behind the groups, where there is one
pub block_is : (P : ℕ → Type 0) (blocks : Option ℕ) (block : ℕ) → IfSome blocks P → block ≡ unwrap_or blocks (2 ^ 64 - 1) → block ≤ 2 ^ 53 → P block
block_is P None block ends is le = absurd (omega (arith, is, le))
block_is P (Some n) block ends is le = subst P (sym is) ends

pub reaches : (run n : ℕ) (area : List ℕ) (groups : List Group) → EndsAt run n area groups → 512 * n ≤ length area
reaches run n area groups ends = elim (cases_lt 0 n) [
  | inl some ↦ let inside = (ends.good (n - 1) (omega (arith, some))).inside in omega (arith, inside, some)
  | inr none ↦ omega (arith, none)
]

pub has_groups : (run first : ℕ) (area : List ℕ) (groups : List Group) (block rest : ℕ) → IsScan run first area groups → All HasRowsOnly groups
    → EndsAt run block area groups → rest ≡ length area - 512 * block → HasGroups run first area groups block rest
has_groups run first area groups block rest scan rows ends is = record {
  scan = record {
    stream = scan.stream;
    payload = scan.payload;
    rest = scan.held.rest;
    whole = scan.held.whole;
    each = scan.held.each;
    of_rows = rows;
    ends = λ g more is of_rows lsn begins. scan.held.ends g more is lsn begins;
  };
  ends = ends;
  long = let reach = reaches run block area groups ends in omega (arith, reach, is);
}
