-- Latches that actors hold, in order of grant.
use Rattle.std.specs.Prelude.{◌≡◌, ℕ, ◌<◌, ◌≤◌, Bool, true, false, ◌==◌, ◌&&◌, ◌||◌, not, if◌then◌else◌, List, [], ◌∷◌, ◌++◌, length, map, filter}
use Rattle.std.specs.List.{list_any, AllByRecursion}
use Rattle.lock_rules.specs.Kinds.{is_shared}
use Rattle.latch_table.specs.declared.latches.Target.{Target}
use Rattle.latch_table.specs.declared.latches.Latch.{Latch}
use Rattle.latch_table.specs.Targets.{same_target}

-- it is the actor's latch of the target
abbrev pub is_of : ℕ → Target → Latch → Bool
is_of actor target latch = latch.actor == actor && same_target latch.target target

-- two actors' latches of one target conflict, unless both are shared
abbrev pub conflicts : Latch → Latch → Bool
conflicts held asked = not (held.actor == asked.actor) && same_target held.target asked.target && not (is_shared held.mode && is_shared asked.mode)

-- nobody holds the target in a mode that conflicts
abbrev pub IsFree : Latch → List Latch → Type 0
IsFree asked held = list_any (λ latch. conflicts latch asked) held ≡ false

-- this actor holds the target in a mode that conflicts
abbrev pub HoldsAgainst : ℕ → Latch → List Latch → Type 0
HoldsAgainst by asked held = list_any (λ latch. latch.actor == by && conflicts latch asked) held ≡ true

-- no two actors hold one target in modes that conflict
abbrev pub AreApart : List Latch → Type 0
AreApart held = AllByRecursion (λ latch. AllByRecursion (λ other. conflicts other latch ≡ false) held) held

-- the actor's targets
abbrev pub targets_of : ℕ → List Latch → List Target
targets_of actor held = map (λ latch. latch.target) (filter (λ latch. latch.actor == actor) held)

-- all but the actor's latch of the target
abbrev pub without : ℕ → Target → List Latch → List Latch
without actor target held = filter (λ latch. not (is_of actor target latch)) held

-- the actor holds the target
abbrev pub is_held : ℕ → Target → List Latch → Bool
is_held actor target held = list_any (λ latch. is_of actor target latch) held

-- a latch of the same actor and target, in the same mode or in X
abbrev pub covers : Latch → Latch → Bool
covers held asked = is_of asked.actor asked.target held && (is_shared asked.mode || not (is_shared held.mode))

abbrev pub is_covered : Latch → List Latch → Bool
is_covered asked held = list_any (λ latch. covers latch asked) held

-- The list with this latch behind the others. An actor's latch that covers it stays in its place; one that doesn't goes.
abbrev pub with_latch : Latch → List Latch → List Latch
with_latch asked held = if is_covered asked held then held else without asked.actor asked.target held ++ asked ∷ []

-- the facts of every table: there are 71 actors, and each holds at most 64 targets
pub record AreSound (held : List Latch) : Type 0 where
  pub apart : AreApart held
  pub known : AllByRecursion (λ latch. latch.actor < 71) held
  pub few : (actor : ℕ) → length (targets_of actor held) ≤ 64
