-- What the item of a session asks for, where its statement counts, and what it has changed.
use Rattle.std.specs.Prelude.{◌≡◌, ℕ, ◌==◌, List, [], ◌∷◌, ◌++◌, Bool, if◌then◌else◌, take, reverse, Some}
use Rattle.std.specs.List.{list_any}
use Rattle.inno_types.specs.declared.reply.Item.TheVariants.{Sql}
use Rattle.inno_types.specs.declared.stmt.Stmt.{Stmt}
use Rattle.inno_db.specs.Database.{Database}
use Rattle.inno_db.specs.declared.change.Change.{Change}
use Rattle.inno_model.specs.declared.event.Event.{Event}
use Rattle.inno_model.specs.declared.event.Event.TheVariants.{Begin, Started, Undone}
use Rattle.inno_model.specs.Past.{is_of, under_way, closes, own, commits, committed, opening, changed}

-- Which statements a text may be read as. The grammar gives one such language; each definition holds for any.
abbrev pub Language : Type 1
Language = List ℕ → Stmt → Type 0

-- the session's item under way asks for the statement
abbrev pub Asks : Language → ℕ → Stmt → List Event → Type 0
Asks says s stmt past = (text : List ℕ) × (under_way s past ≡ Some (Sql text)) × says text stmt

-- the session's entries since its item was started, or since the transaction that the item began last
abbrev pub of_turn : ℕ → List Event → List Event
of_turn s [] = []
of_turn s (Started t j item ∷ past) = if t == s then [] else of_turn s past
of_turn s (Begin t n level ∷ past) = if t == s then [] else of_turn s past
of_turn s (e ∷ past) = if is_of s e then e ∷ of_turn s past else of_turn s past

-- the item has come to the end of its changes
abbrev pub is_over : ℕ → List Event → Bool
is_over s past = list_any closes (of_turn s past)

-- The past at the item's point, where its statement counts: before the first entry by which it came to the end of its
-- changes. A CREATE TABLE counts after the commit that it brings: behind the transaction that it began for itself.
abbrev pub point : ℕ → List Event → List Event
point s [] = []
point s (e ∷ past) = if is_over s (e ∷ past) then (if is_over s past then point s past else past) else e ∷ past

-- the past before the item, or with the transaction that it began last and nothing behind it
abbrev pub before_turn : ℕ → List Event → List Event
before_turn s [] = []
before_turn s (Started t j item ∷ past) = if t == s then past else before_turn s past
before_turn s (Begin t n level ∷ past) = if t == s then Begin t n level ∷ past else before_turn s past
before_turn s (e ∷ past) = before_turn s past

-- the changes of its transaction that the session had made before
abbrev pub own_before : ℕ → List Event → List Change
own_before s past = own s (before_turn s past)

-- The latest committed rows and those that the session had changed before its item: what a locking statement acts on.
-- (Of a CREATE TABLE whose transaction has not begun the schemas alone are read.)
abbrev pub base : ℕ → List Event → Database
base s past = changed (opening past) (own_before s past ++ committed (commits past) past)

-- The item has made the first so many of these changes. A past lists changes newest first.
abbrev pub HasMade : ℕ → ℕ → List Change → List Event → Type 0
HasMade count s changes past = own s past ≡ reverse (take count changes) ++ own_before s past

-- an entry that puts a change back
abbrev pub undoes : Event → Bool
undoes (Undone t keep) = Bool.true
undoes other = Bool.false
