-- How the states that a disk in memory tells go on.
use Rattle.std.proofs.Common.{◌≡◌, ℕ, ◌+◌, ◌<◌, ◌≤◌, Bool, true, false, Some, None, List, [], ◌∷◌, ◌++◌, length, take, ◌⊎◌, inl, inr, refl, sym, ◌∙◌, ap, subst, arith}
use Rattle.std.proofs.lemmas.Bool.Decides.{nat_tests}
use Rattle.std.proofs.lemmas.List.{take-append-le, take_all, length_push}
use Rattle.std.proofs.lemmas.List.Sums.{fold_push}
use Rattle.store_api.specs.Areas.{State}
use Rattle.store_api.specs.Causes.{next_count}
use Rattle.store_api.specs.Past.{Past, Goes, Ticks}
use Rattle.disk_mem.specs.declared.areas.Areas.{Areas}
use Rattle.disk_mem.specs.declared.call.Call.{Call}
use Rattle.std.specs.Prelude.{Result, Ok, Err, OnOk, is_ok, not, ◌&&◌}
use Rattle.disk_mem.specs.Named.{is_named, Obeys}
use Rattle.disk_mem.specs.Replay.{resting, Tells, after_call, state_after, told_at, past_of}

told_within : (start : Areas) (calls : List Call) (m : ℕ) → m ≤ length calls → told_at start calls m ≡ Some (state_after start (take m calls))
told_within start calls m le = grind (arith, nat_tests)

told_past : (start : Areas) (calls : List Call) (m : ℕ) → length calls < m → told_at start calls m ≡ None
told_past start calls m lt = grind (arith, nat_tests)

told_push : (start : Areas) (calls : List Call) (call : Call) (m : ℕ) → m ≤ length calls → told_at start (calls ++ call ∷ []) m ≡ told_at start calls m
told_push start calls call m le =
    told_within start (calls ++ call ∷ []) m (omega (arith, length_push calls call))
    ∙ ap (λ (l : List Call). Some (state_after start l)) (take-append-le m calls (call ∷ []) le)
    ∙ sym (told_within start calls m le)

told_now : (start : Areas) (calls : List Call) (m : ℕ) → m ≡ length calls → told_at start calls m ≡ Some (state_after start calls)
told_now start calls m is = told_within start calls m (omega (arith, is)) ∙ ap (λ (l : List Call). Some (state_after start l)) (take_all m calls (omega (arith, is)))

state_push : (start : Areas) (calls : List Call) (call : Call) → state_after start (calls ++ call ∷ []) ≡ after_call (state_after start calls) call
state_push start calls call = fold_push after_call (resting start) calls call

module _ (step : State → State → Type 0) (start : Areas) (calls : List Call) (before now faults more_faults : ℕ) (clock : now ≡ next_count before) (later : before ≤ now) where
  recorded : (call : Call) → length calls ≡ before → step (state_after start calls) (after_call (state_after start calls) call) → Goes step (past_of start calls before faults) (past_of start (calls ++ call ∷ []) now more_faults)
  recorded call all goes = record {
    later = later;
    clock = clock;
    kept = λ m ticks le. told_push start calls call m (omega (arith, le, all));
    now = λ s ticks is.
        let new_one : now ≡ length (calls ++ call ∷ []) = omega (arith, clock, ticks, all, length_push calls call) in
        let same : Some (after_call (state_after start calls) call) ≡ Some s = ap (λ (t : State). Some t) (sym (state_push start calls call)) ∙ sym (told_now start (calls ++ call ∷ []) now new_one) ∙ is in
        let state : after_call (state_after start calls) call ≡ s = cc in
        (state_after start calls, told_now start calls before (sym all), subst (step (state_after start calls)) state goes);
  }

  unrecorded : length calls ≤ before → Goes step (past_of start calls before faults) (past_of start calls now more_faults)
  unrecorded some = record {
    later = later;
    clock = clock;
    kept = λ m ticks le. refl;
    now = λ s ticks is.
        let none = told_past start calls now (omega (arith, clock, ticks, some)) in
        absurd (cc);
  }

  -- where the call was recorded, and where it wasn't
  pub Goes-call : (kept : Bool) (new : List Call) → length calls ≤ before
      → (kept ≡ true → (call : Call) × (length calls ≡ before) × (new ≡ calls ++ call ∷ []) × step (state_after start calls) (after_call (state_after start calls) call))
      → (kept ≡ false → new ≡ calls)
      → Goes step (past_of start calls before faults) (past_of start new now more_faults)
  Goes-call true new some done not =
      let call = done refl in
      subst (λ (l : List Call). Goes step (past_of start calls before faults) (past_of start l now more_faults)) (sym call.2) (recorded call.0 call.1 call.3)
  Goes-call false new some done not = subst (λ (l : List Call). Goes step (past_of start calls before faults) (past_of start l now more_faults)) (sym (not refl)) (unrecorded some)

told_after : (start : Areas) (calls new : List Call) (before now faults : ℕ) → (call : Call) × (length calls ≡ before) × (now ≡ before + 1) × (new ≡ calls ++ call ∷ []) → Tells (past_of start new now faults)
told_after start calls new before now faults (call, all, clock, is) =
    (state_after start new, told_now start new now (omega (arith, all, clock, ap length is, length_push calls call)))

-- a call that succeeded was recorded, as were those before it
pub OnOk-tells : {T E : Type 0} (start : Areas) (calls new : List Call) (before now faults : ℕ) (result : Result T E) (kept done : Bool) → is_ok result ≡ kept && done
    → (kept ≡ true → (call : Call) × (length calls ≡ before) × (now ≡ before + 1) × (new ≡ calls ++ call ∷ []))
    → OnOk result (Tells (past_of start new now faults))
OnOk-tells start calls new before now faults (Ok x) true done is recorded = told_after start calls new before now faults (recorded refl)
OnOk-tells start calls new before now faults (Ok x) false done is recorded = absurd (cc)
OnOk-tells start calls new before now faults (Err e) kept done is recorded = tt

-- ---- the calls that are named

not_recorded : (kept refused : Bool) → kept && not refused ≡ false → (refused ≡ true) ⊎ (kept ≡ false)
not_recorded true true h = inl refl
not_recorded true false h = absurd (cc)
not_recorded false refused h = inr refl

never : (kept refused : Bool) → refused ≡ true → kept && not refused ≡ false
never true true h = refl
never true false h = absurd (cc)
never false refused h = refl

untold : (start : Areas) (calls new : List Call) (before now faults : ℕ) → length calls ≤ before → now ≡ next_count before → new ≡ calls → Ticks now → Tells (past_of start new now faults) → ⊥
untold start calls new before now faults some clock is ticks tells =
    let none = told_past start new now (omega (arith, some, clock, ticks, ap length is)) in
    let told = tells.1 in
    absurd (cc)

pub obeys : {T E : Type 0} (named : List ℕ) (number : ℕ) (start : Areas) (calls new : List Call) (before now faults : ℕ) (result : Result T E) (kept refused : Bool) → is_ok result ≡ kept && not refused → refused ≡ is_named named number
    → now ≡ next_count before → length calls ≤ before → (kept ≡ false → new ≡ calls) → Obeys named number (past_of start new now faults) result
obeys named number start calls new before now faults (Ok x) kept refused is refused_is clock some dropped = record {
  fails = λ h. is ∙ never kept refused (refused_is ∙ h);
  spares = tt;
}
obeys named number start calls new before now faults (Err e) kept refused is refused_is clock some dropped = record {
  fails = λ h. refl;
  spares = elim (not_recorded kept refused (sym is)) [
    | inl h ↦ inl (sym refused_is ∙ h)
    | inr h ↦ inr (untold start calls new before now faults some clock (dropped h))
  ];
}

-- what the first of two calls told stands for both
pub obeys_ok : {T U E F : Type 0} (named : List ℕ) (number : ℕ) (past : Past) (x : T) (y : U) → Obeys {T = T} {E = E} named number past (Ok x) → Obeys {T = U} {E = F} named number past (Ok y)
obeys_ok named number past x y h = record { fails = h.fails; spares = tt }

pub obeys_err : {T U E F : Type 0} (named : List ℕ) (number : ℕ) (past : Past) (d : E) (e : F) → Obeys {T = T} {E = E} named number past (Err d) → Obeys {T = U} {E = F} named number past (Err e)
obeys_err named number past d e h = record { fails = λ _. refl; spares = h.spares }
