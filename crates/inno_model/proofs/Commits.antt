-- What one more entry does to the commits.
use Rattle.std.proofs.Common.{◌≡◌, ℕ, ◌≤◌, Some, List, [], ◌∷◌, length, refl, arith}
use Rattle.std.proofs.lemmas.Bool.Decides.{nat_tests}
use Rattle.inno_model.specs.declared.event.Event.{Event}
use Rattle.inno_model.specs.declared.event.Event.TheVariants.{Begin, View, Committed}
use Rattle.inno_model.specs.Past.{commits, committed, begins, view_of}

-- The number of commits does not fall.
pub commits_rise : (e : Event) (past : List Event) → commits past ≤ commits (e ∷ past)
commits_rise (Committed t) past = omega arith
commits_rise e past = omega arith

-- The first n commits stay what they were.
pub committed_stays : (e : Event) (past : List Event) (n : ℕ) → n ≤ commits past → committed n (e ∷ past) ≡ committed n past
committed_stays (Committed t) past n le = grind (arith, nat_tests)
committed_stays e past n le = refl

-- There are no more transactions than entries.
pub begins_few : (past : List Event) → begins past ≤ length past
begins_few [] = omega arith
begins_few (Begin t n l ∷ past) = omega (arith, begins_few past)
begins_few (e ∷ past) = omega (arith, begins_few past)

-- A view counts commits that have been made.
pub view_within : (past : List Event) (s n : ℕ) → view_of s past ≡ Some n → n ≤ commits past
view_within [] s n is = cc
view_within (Begin t m l ∷ past) s n is = grind (arith, nat_tests, view_within past s n, is)
view_within (View t ∷ past) s n is = grind (arith, nat_tests, view_within past s n, is)
view_within (e ∷ past) s n is = omega (arith, commits_rise e past, view_within past s n is)
