-- A mini-transaction that has put nothing looks at the tables, and the next one sees the same.
use Rattle.std.proofs.Common.{◌≡◌, ℕ, ◌≤◌, List, [], sym, ap, ◌∙◌, subst, arith}
use Rattle.std.specs.Prelude.{IsTrue}
use Rattle.catalog.specs.declared.held.Held.{Held}
use Rattle.mtr.specs.Seen.{MtrState, claim}
use Rattle.mtr.specs.Calls.{Consults, GivesUp}
use Rattle.space_map.specs.Taking.{map_pages}
use Rattle.catalog.specs.Tables.{IsCatalog}
use Rattle.catalog.specs.Loading.{catalog_pages}

pub told_again : (pages : List ℕ) (tables : List Held) (before first looked last : MtrState) → GivesUp before first → Consults pages first looked → (IsTrue looked.told → IsCatalog tables first.seen) → GivesUp looked last → IsTrue last.told → IsCatalog tables last.seen
told_again pages tables before first looked last begins consults catalog ends told =
    let told_looked = ends.goes.told told in
    let told_first = consults.goes.told told_looked in
    let same : first.seen ≡ last.seen = begins.seen told_first ∙ sym (begins.standing told_first) ∙ sym (consults.same told_looked).standing ∙ sym (ends.seen told) in
    subst (IsCatalog tables) same (catalog told_looked)

pub few_asked : (visited : List ℕ) → visited ≡ [] → claim catalog_pages visited ≤ 24
few_asked visited none = omega (arith, ap (claim catalog_pages) none)

pub few_used : (visited : List ℕ) → visited ≡ [] → claim map_pages visited ≤ 14
few_used visited none = omega (arith, ap (claim map_pages) none)
