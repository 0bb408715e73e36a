-- The facts of a table, kept when a latch is added and when latches go.
use Rattle.std.proofs.Common.{◌≡◌, ℕ, ◌<◌, ◌≤◌, Bool, true, false, cond, List, [], ◌∷◌, ◌++◌, length, refl, ap, subst, ◌∙◌, arith}
use Rattle.std.proofs.lemmas.Bool.{eq-eqb, eqb-true}
use Rattle.std.specs.Prelude.{◌==◌, ◌&&◌, not, filter}
use Rattle.std.specs.List.{list_any, AllByRecursion}
use Rattle.lock_rules.specs.Kinds.{is_shared}
use Rattle.lock_rules.proofs.Booleans.{or_false-left, or_false-right}
use Rattle.lock_rules.proofs.Beside.{txn_sym}
use Rattle.latch_table.specs.declared.latches.Target.{Target}
use Rattle.latch_table.specs.declared.latches.Target.TheVariants.{Index, Page}
use Rattle.latch_table.specs.declared.latches.Latch.{Latch}
use Rattle.latch_table.specs.Targets.{same_target}
use Rattle.latch_table.specs.Held.{is_of, conflicts, IsFree, AreApart, AreSound, targets_of, without}
use Rattle.latch_table.proofs.Counting.{length-targets, tally_filter, tally_same, tally_other, length_bound}

module _ (P : Latch → Type 0) where
  all_weaker : (Q : Latch → Type 0) → ((x : Latch) → P x → Q x) → (xs : List Latch) → AllByRecursion P xs → AllByRecursion Q xs
  all_weaker Q f [] all = all
  all_weaker Q f (x ∷ xs) all = (f x all.0, all_weaker Q f xs all.1)

  all_push : (xs : List Latch) (x : Latch) → AllByRecursion P xs → P x → AllByRecursion P (xs ++ x ∷ [])
  all_push [] x all here = (here, tt)
  all_push (y ∷ xs) x all here = (all.0, all_push xs x all.1 here)

  all_filter : (test : Latch → Bool) (xs : List Latch) → AllByRecursion P xs → AllByRecursion P (filter test xs)
  all_filter test [] all = tt
  all_filter test (x ∷ xs) all = go (test x) (all_filter test xs all.1) where
    go : (b : Bool) → AllByRecursion P (filter test xs) → AllByRecursion P (cond b (x ∷ filter test xs) (filter test xs))
    go true rest = (all.0, rest)
    go false rest = rest

  -- two properties, each of all
  all_joined : (Q R : Latch → Type 0) → ((x : Latch) → P x → Q x → R x) → (xs : List Latch) → AllByRecursion P xs → AllByRecursion Q xs → AllByRecursion R xs
  all_joined Q R f [] all all' = tt
  all_joined Q R f (x ∷ xs) all all' = (f x all.0 all'.0, all_joined Q R f xs all.1 all'.1)

target_sym : (target other : Target) → same_target target other ≡ same_target other target
target_sym (Index m) (Index n) = txn_sym m n
target_sym (Index m) (Page n) = refl
target_sym (Page m) (Index n) = refl
target_sym (Page m) (Page n) = txn_sym m n

and_sym : (a b : Bool) → (a && b) ≡ (b && a)
and_sym true true = refl
and_sym true false = refl
and_sym false true = refl
and_sym false false = refl

conflicts-sym : (x y : Latch) → conflicts x y ≡ conflicts y x
conflicts-sym x y =
    ap (λ b. not b && same_target x.target y.target && not (is_shared x.mode && is_shared y.mode)) (txn_sym x.actor y.actor)
    ∙ ap (λ b. not (y.actor == x.actor) && b && not (is_shared x.mode && is_shared y.mode)) (target_sym x.target y.target)
    ∙ ap (λ b. not (y.actor == x.actor) && same_target y.target x.target && not b) (and_sym (is_shared x.mode) (is_shared y.mode))

-- an actor's own latch never conflicts
conflicts-own : (x : Latch) → conflicts x x ≡ false
conflicts-own x = ap (λ b. not b && same_target x.target x.target && not (is_shared x.mode && is_shared x.mode)) (eq-eqb x.actor x.actor refl)

all_free : (asked : Latch) (xs : List Latch) → IsFree asked xs → AllByRecursion (λ latch. conflicts latch asked ≡ false) xs
all_free asked [] free = tt
all_free asked (x ∷ xs) free =
    let p : Latch → Bool = λ latch. conflicts latch asked in
    (or_false-left (p x) (list_any p xs) free, all_free asked xs (or_false-right (p x) (list_any p xs) free))

apart_filter : (test : Latch → Bool) (xs : List Latch) → AreApart xs → AreApart (filter test xs)
apart_filter test xs apart =
    all_filter _ test xs
    (all_weaker (λ latch. AllByRecursion (λ other. conflicts other latch ≡ false) xs)
    (λ latch. AllByRecursion (λ other. conflicts other latch ≡ false) (filter test xs))
    (λ latch all. all_filter (λ other. conflicts other latch ≡ false) test xs all) xs apart)

apart_push : (xs : List Latch) (asked : Latch) → AreApart xs → AllByRecursion (λ latch. conflicts latch asked ≡ false) xs → AreApart (xs ++ asked ∷ [])
apart_push xs asked apart free =
    all_push (λ latch. AllByRecursion (λ other. conflicts other latch ≡ false) (xs ++ asked ∷ [])) xs asked
    (all_joined (λ latch. AllByRecursion (λ other. conflicts other latch ≡ false) xs) (λ latch. conflicts latch asked ≡ false)
    (λ latch. AllByRecursion (λ other. conflicts other latch ≡ false) (xs ++ asked ∷ []))
    (λ latch all here. all_push (λ other. conflicts other latch ≡ false) xs asked all (conflicts-sym asked latch ∙ here)) xs apart free)
    (all_push (λ other. conflicts other asked ≡ false) xs asked free (conflicts-own asked))

few_filter : (test : Latch → Bool) (xs : List Latch) (a : ℕ) → length (targets_of a (filter test xs)) ≤ length (targets_of a xs)
few_filter test xs a = omega (arith, length-targets a xs, length-targets a (filter test xs), tally_filter a test xs)

pub sound_without : (xs : List Latch) → AreSound xs → (actor : ℕ) (target : Target) → AreSound (without actor target xs)
sound_without xs sound actor target =
    let test : Latch → Bool = λ latch. not (is_of actor target latch) in record {
      apart = apart_filter test xs sound.apart;
      known = all_filter (λ latch. latch.actor < 71) test xs sound.known;
      few = λ a. omega (arith, sound.few a, few_filter test xs a);
    }

few_push : (xs : List Latch) (asked : Latch) → ((a : ℕ) → length (targets_of a xs) ≤ 64) → length (targets_of asked.actor xs) < 64
    → (a : ℕ) → length (targets_of a (xs ++ asked ∷ [])) ≤ 64
few_push xs asked few room a = go (asked.actor == a) refl where
  go : (b : Bool) → (asked.actor == a) ≡ b → length (targets_of a (xs ++ asked ∷ [])) ≤ 64
  go true is =
      let here : length (targets_of a xs) < 64 = subst (λ n. length (targets_of n xs) < 64) (eqb-true asked.actor a is) room in
      omega (arith, here, length-targets a xs, length-targets a (xs ++ asked ∷ []), tally_same a xs asked is)
  go false is = omega (arith, few a, length-targets a xs, length-targets a (xs ++ asked ∷ []), tally_other a xs asked is)

-- the latch is added behind the others, in place of the one that the actor has of the target
pub sound_with : (xs : List Latch) → AreSound xs → (asked : Latch) → asked.actor < 71 → length (targets_of asked.actor xs) < 64 → IsFree asked xs
    → AreSound (without asked.actor asked.target xs ++ asked ∷ [])
sound_with xs sound asked known room free =
    let test : Latch → Bool = λ latch. not (is_of asked.actor asked.target latch) in
    let kept = sound_without xs sound asked.actor asked.target in record {
      apart = apart_push (filter test xs) asked kept.apart (all_filter (λ latch. conflicts latch asked ≡ false) test xs (all_free asked xs free));
      known = all_push (λ latch. latch.actor < 71) (filter test xs) asked kept.known known;
      few = few_push (filter test xs) asked kept.few (omega (arith, room, few_filter test xs asked.actor));
    }

-- there are never more latches than there is room for
pub length_sound : (xs : List Latch) → AreSound xs → length xs ≤ 4544
length_sound xs sound = length_bound 71 xs sound.known (λ a. omega (arith, sound.few a, length-targets a xs))
