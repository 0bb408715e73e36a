use Rattle.std.proofs.Common.{◌≡◌, ℕ, List, length, Some, subst, sym, ap, ◌∙◌}
use Rattle.std.specs.Prelude.{option_map}
use Rattle.std.specs.Ordering.{nat_cmp}
use Rattle.std.specs.Cmp.Lexicographic.{slice_cmp}
use Rattle.std.specs.Map.{set_value}
use Rattle.std.specs.BTreeMap.{is_at}
use Rattle.entries.specs.Pairs.{Pair, AreSound, value_of, with_pair}
use Rattle.entries.proofs.Kept.{got, replaced, same_length, no_length, there_is, sound_put}
use Rattle.entries.proofs.pairs.SortedPairs.overwrite.Goals.{in-Some, in_default}
use Rattle.entries.proofs.pairs.SortedPairs.overwrite.Goals as goal

pub fill-requires : goal.fill-requires
fill-requires c =
    same_length _ c.in-Some.kept.now c.args.value.now
    (subst (λ (pairs : List Pair). option_map (λ (kept : List ℕ). length kept) (value_of c.args.key.now pairs) ≡ Some (length c.args.value.now))
    (sym c.self.view_is) c.requires.there)
    (c.in-Some.ensures.value ∙ got c.args.key.now c.self.inside.stored.entries)

as_long : (c : goal.Joined-get_mut)
    → option_map (λ (kept : List ℕ). length kept) (value_of c.args.key.now c.self.inside.stored.entries) ≡ Some (length c.args.value.now)
as_long c =
    subst (λ (pairs : List Pair). option_map (λ (kept : List ℕ). length kept) (value_of c.args.key.now pairs) ≡ Some (length c.args.value.now))
    (sym c.self.view_is) c.requires.there

is_put : (c : goal.Joined-get_mut) → c.match-get_mut.self-inside.stored.entries ≡ with_pair c.args.key.now c.args.value.now c.self.inside.stored.entries
is_put c = elim c.match-get_mut.branch [
  | in-Some w ↦ (
      let pairs = c.self.inside.stored.entries in
      ap (λ inside. inside.stored.entries) w.self-inside-is ∙ (c.get_mut.follows.holds w.fill.new.kept).0
      ∙ ap (set_value (is_at (slice_cmp nat_cmp c.args.key.now)) pairs) w.fill.ensures
      ∙ replaced c.args.key.now c.args.value.now w.in-Some.kept.now pairs c.self.invariant.rising
      (sym (w.in-Some.ensures.value ∙ got c.args.key.now pairs)))
  | in_default w ↦ absurd (no_length _ (length c.args.value.now) (as_long c) (w.in_default.ensures.value ∙ got c.args.key.now c.self.inside.stored.entries))
]

pub invariant_of-self : goal.invariant_of-self
invariant_of-self c =
    subst AreSound (sym (is_put c))
    (sound_put c.args.key.now c.args.value.now c.self.inside.stored.entries c.self.invariant
    (there_is _ (length c.args.value.now) (as_long c)) c.requires.fits)

pub returns-clause-put : goal.returns-clause-put
returns-clause-put c = rw (← c.self.view_is) (is_put c)

pub returns-clause-sound : goal.returns-clause-sound
returns-clause-sound c = invariant_of-self c
