-- Which commits a number of groups holds.
use Rattle.std.proofs.Common.{◌≡◌, inl, inr, ℕ, ◌+◌, ◌<◌, ◌≤◌, Bool, true, false, List, [], ◌∷◌, ◌++◌, length, take, refl, sym, ◌∙◌, ap, subst, arith, length-append}
use Rattle.std.specs.Prelude.{if◌then◌else◌}
use Rattle.std.proofs.lemmas.Bool.{cases_lt, cases_eq}
use Rattle.std.proofs.lemmas.Bool.Decides.{nat_tests}
use Rattle.std.proofs.lemmas.List.{take_all, take-append-le}
use Rattle.inno_db.specs.declared.change.Change.{Change}
use Rattle.inno_model.specs.declared.event.Event.{Event}
use Rattle.inno_model.specs.declared.event.Event.TheVariants.{Committed, Acked}
use Rattle.inno_model.specs.Past.{own, commits, committed}
use Rattle.log_format.specs.declared.group.Group.{Group}
use Rattle.law_crashes.specs.Records.{record_of, records_of, changes_in}
use Rattle.law_crashes.specs.Commits.{is_none, logged, groups_of, fitting, place, logged_by, acked_by, acked_logged}
use Rattle.law_crashes.proofs.Records.{changes_back, changes_in-append}

group_at : ℕ → List Change → Group
group_at lsn os = record { lsn = lsn; records = records_of os }

-- ---- a group for each commit with changes

one_longer : (b : Bool) (gs : List Group) (g : Group) (n : ℕ) → length gs ≡ n → length (if b then gs else gs ++ g ∷ []) ≡ (if b then n else n + 1)
one_longer true gs g n is = is
one_longer false gs g n is = omega (arith, is, length-append gs (g ∷ []))

pub length-groups : (first : ℕ) (past : List Event) → length (groups_of first past) ≡ logged past
length-groups first [] = refl
length-groups first (Committed s ∷ past) =
    one_longer (is_none (own s past)) (groups_of first past) (record { lsn = first + logged past; records = records_of (own s past) }) (logged past)
    (length-groups first past)
length-groups first (e ∷ past) = length-groups first past

one_more : (b : Bool) (n : ℕ) → n ≤ (if b then n else n + 1)
one_more true n = omega arith
one_more false n = omega arith

-- ---- what they change

pub all_committed : (n : ℕ) (past : List Event) → commits past ≤ n → committed n past ≡ committed (commits past) past
all_committed n [] le = refl
all_committed n (Committed s ∷ past) le =
    let here : commits past ≤ n = omega (arith, le) in
    let next : commits past ≤ commits past + 1 = omega arith in
    grind (arith, nat_tests, all_committed n past here, all_committed (commits past + 1) past next)
all_committed n (e ∷ past) le = all_committed n past le

top_committed : (s : ℕ) (past : List Event) → committed (commits past + 1) (Committed s ∷ past) ≡ own s past ++ committed (commits past) past
top_committed s past =
    let next : commits past ≤ commits past + 1 = omega arith in
    grind (arith, nat_tests, all_committed (commits past + 1) past next)

one_change : (os : List Change) (gs : List Group) (lsn : ℕ)
    → changes_in (if is_none os then gs else gs ++ record { lsn = lsn; records = records_of os } ∷ []) ≡ os ++ changes_in gs
one_change [] gs lsn = refl
one_change (o ∷ os) gs lsn =
    changes_in-append gs (record { lsn = lsn; records = records_of (o ∷ os) } ∷ []) ∙ ap (λ (l : List Change). l ++ changes_in gs) (changes_back (o ∷ os))

pub all_changes : (first : ℕ) (past : List Event) → changes_in (groups_of first past) ≡ committed (commits past) past
all_changes first [] = refl
all_changes first (Committed s ∷ past) =
    one_change (own s past) (groups_of first past) (first + logged past) ∙ ap (λ (l : List Change). own s past ++ l) (all_changes first past) ∙ sym
    (top_committed s past)
all_changes first (e ∷ past) = all_changes first past

-- ---- the greatest number of commits

pub fitting_some : (k : ℕ) (past : List Event) → fitting k past ≤ commits past
fitting_some k [] = omega arith
fitting_some k (Committed s ∷ past) = grind (arith, nat_tests, fitting_some k past)
fitting_some k (e ∷ past) = fitting_some k past

fitting_less : (k s : ℕ) (past : List Event) → k < logged (Committed s ∷ past) → fitting k (Committed s ∷ past) ≡ fitting k past
fitting_less k s past lt = grind (arith, nat_tests, lt)

fitting_all : (k s : ℕ) (past : List Event) → logged (Committed s ∷ past) ≤ k → fitting k (Committed s ∷ past) ≡ commits past + 1
fitting_all k s past le = grind (arith, nat_tests, le)

take_less : (k : ℕ) (b : Bool) (gs : List Group) (g : Group) → k < length (if b then gs else gs ++ g ∷ []) → take k (if b then gs else gs ++ g ∷ []) ≡ take k gs
take_less k true gs g lt = refl
take_less k false gs g lt = take-append-le k gs (g ∷ []) (omega (arith, lt, length-append gs (g ∷ [])))

within : (n k s : ℕ) (past : List Event) → n ≤ commits past → committed n (Committed s ∷ past) ≡ committed n past
within n k s past le = grind (arith, nat_tests, le)

-- The first k groups are the changes of the greatest number of commits that fits them.
pub taken_changes : (k first : ℕ) (past : List Event) → changes_in (take k (groups_of first past)) ≡ committed (fitting k past) past
taken_changes k first [] = ap changes_in (take_all k [] (omega arith))
taken_changes k first (Committed s ∷ past) = elim (cases_lt k (logged (Committed s ∷ past))) [
  | inl lt ↦
      let long = length-groups first (Committed s ∷ past) in
      ap changes_in (take_less k (is_none (own s past)) (groups_of first past) (record { lsn = first + logged past; records = records_of (own s past) })
      (omega (arith, lt, long)))
      ∙ taken_changes k first past
      ∙ sym (within (fitting k past) k s past (fitting_some k past))
      ∙ ap (λ (n : ℕ). committed n (Committed s ∷ past)) (sym (fitting_less k s past lt))
  | inr le ↦
      let long = length-groups first (Committed s ∷ past) in
      ap changes_in (take_all k (groups_of first (Committed s ∷ past)) (omega (arith, le, long)))
      ∙ all_changes first (Committed s ∷ past)
      ∙ ap (λ (n : ℕ). committed n (Committed s ∷ past)) (sym (fitting_all k s past le))
]
taken_changes k first (e ∷ past) = taken_changes k first past

-- ---- what was acknowledged

pub place_some : (s : ℕ) (past : List Event) → place s past ≤ commits past
place_some s [] = omega arith
place_some s (Committed t ∷ past) = grind (arith, nat_tests, place_some s past)
place_some s (e ∷ past) = place_some s past

-- of a commit more
pub logged_by_each : (a : ℕ → ℕ) (s : ℕ) (past : List Event) → logged (Committed s ∷ past) ≤ a s → ((u : ℕ) → logged_by u past ≤ a u) → (u : ℕ)
    → logged_by u (Committed s ∷ past) ≤ a u
logged_by_each a s past here others u = elim (cases_eq s u) [
  | inl same ↦ subst (λ (v : ℕ). logged_by v (Committed s ∷ past) ≤ a v) same (grind (arith, nat_tests, here))
  | inr differs ↦ let other = others u in grind (arith, nat_tests, differs, other)
]

pub place_fits : (s k : ℕ) (past : List Event) → logged_by s past ≤ k → place s past ≤ fitting k past
place_fits s k [] le = omega arith
place_fits s k (Committed t ∷ past) le = elim (cases_lt k (logged (Committed t ∷ past))) [
  | inl lt ↦ grind (arith, nat_tests, lt, le, fitting_less k t past lt, place_fits s k past)
  | inr all ↦ let some = place_some s (Committed t ∷ past) in omega (arith, some, fitting_all k t past all)
]
place_fits s k (e ∷ past) le = place_fits s k past le

pub acked_some : (m : ℕ) (past : List Event) → acked_by m past ≤ commits past
acked_some m [] = omega arith
acked_some m (Committed t ∷ past) = omega (arith, acked_some m past)
acked_some m (Acked s moment ∷ past) = grind (arith, nat_tests, acked_some m past, place_some s past)
acked_some m (e ∷ past) = acked_some m past

pub acked_fits : (m k : ℕ) (past : List Event) → acked_logged past ≤ k → acked_by m past ≤ fitting k past
acked_fits m k [] le = omega arith
acked_fits m k (Committed t ∷ past) le = elim (cases_lt k (logged (Committed t ∷ past))) [
  | inl lt ↦ let before = acked_fits m k past le in omega (arith, before, fitting_less k t past lt)
  | inr all ↦ let some = acked_some m past in omega (arith, some, fitting_all k t past all)
]
acked_fits m k (Acked s moment ∷ past) le =
    let one : logged_by s past ≤ k = omega (arith, le) in
    let others : acked_logged past ≤ k = omega (arith, le) in
    grind (arith, nat_tests, place_fits s k past one, acked_fits m k past others)
acked_fits m k (e ∷ past) le = acked_fits m k past le

-- ---- a group that spells a session's changes
