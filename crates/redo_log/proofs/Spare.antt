-- How long a group is in the log, and that the spare holds it.
use Rattle.std.proofs.Common.{◌≡◌, ℕ, ◌+◌, ◌-◌, ◌*◌, ◌^◌, ◌<◌, ◌≤◌, max, List, ◌++◌, length, drop, ap, arith, length-append, length-drop}
use Rattle.std.specs.List.{flat_map}
use Rattle.log_format.specs.declared.group.Group.{Group}
use Rattle.log_format.specs.Group.{record_bytes, group_bytes, IsGroup}
use Rattle.log_format.specs.Block.{payload_of, blocks_for}
use Rattle.log_format.proofs.Groups.{length-group, length-body}
use Rattle.log_format.proofs.Open.{length_payload}
use Rattle.redo_log.specs.View.{room_of, numbers_left, spare_of}

pub length_is : (g : Group) → length (group_bytes g) ≡ 14 + length (flat_map record_bytes g.records)
length_is g = omega (arith, length-group g, length-body g)

-- the blocks of bytes are no shorter than they, and one at least
pub blocks_hold : (n : ℕ) → n ≤ 512 * blocks_for n
blocks_hold n = omega arith

pub some_block : (n : ℕ) → 0 < n → 512 ≤ 512 * blocks_for n
some_block n some = omega arith

-- a group that didn't fit is longer than the spare
pub too_long : (g : Group) (room pending block next : ℕ) → spare_of room pending block next < length (group_bytes g)
    → room_of g.records ≤ spare_of room pending block next → ⊥
too_long g room pending block next short enough = absurd (omega (arith, length_is g, blocks_hold (14 + length (flat_map record_bytes g.records))))

-- a group that is spelled is shorter than its type's end
pub group_fits : (g : Group) → IsGroup g → length (group_bytes g) < 2 ^ 32 + 4
group_fits g is = omega (arith, length-group g, is.size)

-- ---- an append: `kept` blocks stay, and behind them come blocks for what the last one held and for a group

module _ (kept count : ℕ) (pending work rest : List ℕ) (g : Group) (few : kept ≤ count) (most : count ≤ kept + 1) (waits : length pending ≡ 512 * count)
    (whole : work ++ rest ≡ payload_of (drop (512 * kept) pending) ++ group_bytes g) where
  held : List ℕ
  held = payload_of (drop (512 * kept) pending)

  length-held : length held ≤ 512 * (count - kept) - 28
  unfolding held
  length-held = omega (arith, waits, length_payload (drop (512 * kept) pending), length-drop (512 * kept) pending)

  size : length work + length rest ≡ length held + length (group_bytes g)
  unfolding held
  size = omega (arith, ap length whole, length-append work rest, length-append (payload_of (drop (512 * kept) pending)) (group_bytes g))

  -- no fewer blocks wait then
  pub no_fewer : count ≤ kept + blocks_for (length work + length rest)
  no_fewer = omega (arith, most, size, length_is g)

  -- and no more than where the group begins a new block
  pub no_more : 512 * kept + 512 * blocks_for (length work + length rest) ≤ 512 * count + room_of g.records
  no_more = omega (arith, few, most, size, length-held, length_is g)

  pub work_fits : IsGroup g → length work + length rest < 2 ^ 32 + 512
  work_fits is = omega (arith, few, most, size, length-held, group_fits g is)

pub some_room : (g : Group) → 512 ≤ room_of g.records
some_room g = some_block (14 + length (flat_map record_bytes g.records)) (omega arith)

-- where the spare suffices for so much, there are numbers and there is room
pub has_numbers : (need more room pending block next : ℕ) → more ≤ need → 512 ≤ need → need ≤ spare_of room pending block next
    → max more 512 ≤ numbers_left block next
has_numbers need more room pending block next few some enough = omega (arith, few, some, enough)

pub has_room : (need room pending block next : ℕ) → pending ≤ room → need ≤ spare_of room pending block next → pending + need ≤ room
has_room need room pending block next waits enough = omega (arith, waits, enough)

-- the spare is less by no more than the group's blocks alone
pub spare_after : (need room pending block next n want later : ℕ) → need ≡ 512 * n → 1 ≤ n → want ≤ pending + need → later ≤ block + n
    → spare_of room pending block next ≤ spare_of (max room want) want later (next + 1) + need
spare_after need room pending block next n want later is some fits below = omega (arith, is, some, fits, below)

pub need_fits : (n : ℕ) → n < 2 ^ 32 + 512 → 512 * blocks_for n < 2 ^ 33
need_fits n fits = omega (arith, fits)
