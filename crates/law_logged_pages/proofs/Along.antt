-- What pages read as along the groups of a run.
use Rattle.std.proofs.Common.{◌≡◌, ◌⊎◌, inl, inr, ℕ, ◌+◌, ◌<◌, ◌≤◌, Bool, true, false, cond, Option, List, ◌++◌, length, take, sym, ap, subst, ◌∙◌, arith}
use Rattle.std.proofs.Common.{length-append}
use Rattle.std.specs.Prelude.{nat_lt}
use Rattle.std.proofs.lemmas.Bool.{cases_lt}
use Rattle.std.proofs.lemmas.Bool.Decides.{nat_tests}
use Rattle.std.proofs.lemmas.List.{take-append-le}
use Rattle.store_api.specs.Areas.{State, Image, IsImage, IsHonest}
use Rattle.log_format.specs.declared.group.Group.{Group}
use Rattle.stored_pages.specs.Reading.{IsPageIn}
use Rattle.law_logged_pages.specs.Applied.{page_after, logical}
use Rattle.law_logged_pages.specs.Stages.{or_zeros}
use Rattle.law_logged_pages.specs.Keeping.{IsRun, Keeps, Recovers, durable}
use Rattle.law_logged_pages.specs.Readings.{IgnoresSums, ReadsAlong, HoldsCommits}
use Rattle.law_logged_pages.proofs.Recovery.{image_recovers}

module _ {D : Type 0} (Reads : (ℕ → List ℕ) → D → Type 0) (after : ℕ → D) (commits acked first flushed : ℕ) (groups : List Group) (base : ℕ → List ℕ)
    (along : ReadsAlong Reads after commits acked first flushed groups base) where
  pub leaves_some : (run : ℕ) (s : State) (image : Image) (found : ℕ → Option (List ℕ)) → IgnoresSums Reads → IsRun first groups base
      → Keeps run first flushed groups base s
      → IsImage s image → IsHonest s image → ((page : ℕ) → page < 65536 → IsPageIn image.pages image.double page (found page))
      → HoldsCommits Reads after commits acked run first image found
  leaves_some run s image found ignores is keeps left honest finds =
      let recovers : Recovers run first flushed groups base image = image_recovers run first flushed groups base s image is keeps left honest in
      let count = recovers.count in
      let pages : ℕ → List ℕ = λ page. page_after page (take count groups) (or_zeros (found page)) in
      let same : (d : D) → Reads (logical base groups count) d → Reads pages d =
      ignores.same pages (logical base groups count) (λ page below. recovers.pages page (found page) below (finds page below)) in
      let upto = along.rise count (length groups) recovers.some in
      let from = along.rise (durable first flushed) count recovers.all_flushed in
      record {
        scanned = take count groups;
        scan = recovers.scan;
        n = along.held count;
        some = omega (arith, upto, along.all);
        all_acked = omega (arith, from, along.flushed_acked);
        reads = same (after (along.held count)) (along.reads count recovers.all_flushed recovers.some);
      }

  -- ---- one step

  module _ (later : ℕ → D) (now : ℕ) (more : List Group) (few : length more ≤ 1) (rise : commits ≤ now) (kept : (n : ℕ) → n ≤ commits → later n ≡ after n)
      (newest : Reads (logical base (groups ++ more) (length (groups ++ more))) (later now)) where
    -- so many commits do the first so many groups hold then
    held_now : ℕ → ℕ
    held_now m = cond (nat_lt m (length (groups ++ more))) (along.held m) now

    held_before : (m : ℕ) → m < length (groups ++ more) → held_now m ≡ along.held m
    unfolding held_now
    held_before m below = let test : nat_lt m (length (groups ++ more)) ≡ true = grind (arith, nat_tests) in ap (λ (b : Bool). cond b (along.held m) now) test

    held_last : (m : ℕ) → length (groups ++ more) ≤ m → held_now m ≡ now
    unfolding held_now
    held_last m past = let test : nat_lt m (length (groups ++ more)) ≡ false = grind (arith, nat_tests) in ap (λ (b : Bool). cond b (along.held m) now) test

    held_upto : (m : ℕ) → m < length (groups ++ more) → along.held m ≤ commits
    held_upto m below =
        let all = along.rise m (length groups) (omega (arith, below, few, length-append groups more)) in
        omega (arith, all, along.all)

    rises : (j m : ℕ) → j ≤ m → (j < length (groups ++ more)) ⊎ (length (groups ++ more) ≤ j)
        → (m < length (groups ++ more)) ⊎ (length (groups ++ more) ≤ m) → held_now j ≤ held_now m
    rises j m upto (inl a) (inl b) = let before = along.rise j m upto in omega (arith, before, held_before j a, held_before m b)
    rises j m upto (inl a) (inr b) = omega (arith, held_upto j a, rise, held_before j a, held_last m b)
    rises j m upto (inr a) (inl b) = absurd (omega (arith, upto, a, b))
    rises j m upto (inr a) (inr b) = omega (arith, held_last j a, held_last m b)

    acked_still : (durable first flushed < length (groups ++ more)) ⊎ (length (groups ++ more) ≤ durable first flushed)
        → acked ≤ held_now (durable first flushed)
    acked_still (inl below) = omega (arith, along.flushed_acked, held_before (durable first flushed) below)
    acked_still (inr past) =
        let upto = along.rise (durable first flushed) (length groups) along.flushed_some in
        omega (arith, along.flushed_acked, along.all, rise, upto, held_last (durable first flushed) past)

    reads_now : (m : ℕ) → durable first flushed ≤ m → m ≤ length (groups ++ more) → (m < length (groups ++ more)) ⊎ (length (groups ++ more) ≤ m)
        → Reads (logical base (groups ++ more) m) (later (held_now m))
    reads_now m from upto (inl below) =
        let within : m ≤ length groups = omega (arith, below, few, length-append groups more) in
        let front : take m (groups ++ more) ≡ take m groups = take-append-le m groups more within in
        let db : after (along.held m) ≡ later (held_now m) = sym (kept (along.held m) (held_upto m below)) ∙ ap later (sym (held_before m below)) in
        let here : Reads (logical base (groups ++ more) m) (after (along.held m)) =
        subst (λ (gs : List Group). Reads (λ page. page_after page gs (base page)) (after (along.held m))) (sym front) (along.reads m from within) in
        subst (Reads (logical base (groups ++ more) m)) db here
    reads_now m from upto (inr past) =
        let last : m ≡ length (groups ++ more) = omega (arith, upto, past) in
        let here : Reads (logical base (groups ++ more) m) (later now) = subst (λ (n : ℕ). Reads (logical base (groups ++ more) n) (later now))
        (sym last) newest in
        subst (λ (n : ℕ). Reads (logical base (groups ++ more) m) (later n)) (sym (held_last m past)) here

    pub reads_on : ReadsAlong Reads later now acked first flushed (groups ++ more) base
    reads_on = record {
      held = held_now;
      rise = λ j m upto. rises j m upto (cases_lt j (length (groups ++ more))) (cases_lt m (length (groups ++ more)));
      all = held_last (length (groups ++ more)) (omega arith);
      flushed_some = omega (arith, along.flushed_some, length-append groups more);
      flushed_acked = acked_still (cases_lt (durable first flushed) (length (groups ++ more)));
      reads = λ m from upto. reads_now m from upto (cases_lt m (length (groups ++ more)));
    }

  -- ---- a flush

  pub flushed_on : (last : ℕ) → flushed ≤ last → last + 1 ≡ first + length groups → ReadsAlong Reads after commits commits first last groups base
  flushed_on last upto end =
      let whole : durable first last ≡ length groups = omega (arith, end) in
      record {
        held = along.held;
        rise = along.rise;
        all = along.all;
        flushed_some = omega (arith, whole);
        flushed_acked = omega (arith, along.all, ap along.held whole);
        reads = λ m from to. along.reads m (omega (arith, from, upto)) to;
      }
