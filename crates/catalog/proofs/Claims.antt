-- How many pages a mini-transaction deals with: asking for one more page takes one place at most.
use Rattle.std.proofs.Common.{◌≡◌, ℕ, ◌+◌, ◌≤◌, List, [], ◌∷◌, ◌++◌, length, Bool, true, false, ap, refl, arith, length-append}
use Rattle.std.specs.Prelude.{if◌then◌else◌, Result, Ok, Err}
use Rattle.store_api.specs.declared.visits.Visit.{Visit}
use Rattle.mtr.specs.Seen.{MtrState, is_in, visit, claim}
use Rattle.mtr.specs.Calls.{Asks}
use Rattle.mtr.proofs.Claims.{visited_stays, claim_least}
use Rattle.space_map.specs.Taking.{map_pages}

length_one_more : (p : ℕ) (v : List ℕ) (b : Bool) → length (if b then v else v ++ p ∷ []) ≤ length v + 1
length_one_more p v true = omega arith
length_one_more p v false = omega (arith, length-append v (p ∷ []))

abbrev one_if : Bool → ℕ
one_if known = if known then 0 else 1

one_if_small : (b : Bool) → one_if b ≤ 1
one_if_small true = omega arith
one_if_small false = omega arith

one_if_falls : (known later : Bool) → (known ≡ true → later ≡ true) → one_if later ≤ one_if known
one_if_falls true later stays = omega (arith, ap one_if (stays refl))
one_if_falls false later stays = one_if_small later

pub claim_one_more : (pages : List ℕ) (p : ℕ) (v : List ℕ) → claim pages (visit p v) ≤ claim pages v + 1
claim_one_more [] p v = length_one_more p v (is_in p v)
claim_one_more (q ∷ pages) p v =
    omega (arith, claim_one_more pages p v, one_if_falls (is_in q v) (is_in q (visit p v)) (visited_stays q p v))

pub place_for : (page : ℕ) (v : List ℕ) → claim map_pages v + 1 ≤ 24 → length (visit page v) ≤ 24
place_for page v few = omega (arith, length_one_more page v (is_in page v), claim_least map_pages v)

pub deals_asked : {T : Type 0} (page : ℕ) (old new : MtrState) (result : Result T Visit) → Asks page old result new → claim map_pages new.visited ≤ claim map_pages old.visited + 1
deals_asked page old new (Ok shown) asks = omega (arith, ap (claim map_pages) asks.visited_is, claim_one_more map_pages page old.visited)
deals_asked page old new (Err why) asks = omega (arith, ap (claim map_pages) asks.0.visited_is)
