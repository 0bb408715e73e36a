-- What recovery answers, however pages are read, and for a run of groups.
use Rattle.std.proofs.Common.{◌≡◌, ℕ, ◌+◌, ◌-◌, ◌<◌, ◌≤◌, Option, Some, None, List, length, take, drop, sym, ap, subst, ◌∙◌, arith}
use Rattle.std.specs.Prelude.{IfSome, IfNone}
use Rattle.std.specs.Int.{w32, w64, from_be_bytes}
use Rattle.std.proofs.lemmas.List.{drop-drop, drop-take, take-take, length-take-le}
use Rattle.store_api.specs.Areas.{State, seen_image}
use Rattle.stored_pages.specs.Words.{u32_at, u64_at}
use Rattle.log_format.specs.declared.group.Group.{Group}
use Rattle.log_format.specs.Scan.{IsScan, EndsAt}
use Rattle.log_format.proofs.Scanned.{one_scan}
use Rattle.doublewrite.specs.Repairing.{WasRead}
use Rattle.law_logged_pages.specs.Applied.{page_after, logical}
use Rattle.law_logged_pages.specs.Stages.{SameButSum, or_zeros}
use Rattle.law_logged_pages.specs.Heads.{head_of}
use Rattle.law_logged_pages.specs.Keeping.{durable}
use Rattle.law_logged_pages.proofs.Leading.{stage_leads_on}
use Rattle.law_logged_pages.proofs.Spared.{stage_spares}
use Rattle.page_recovery.specs.declared.bad.RecoverBad.{RecoverBad}
use Rattle.page_recovery.specs.declared.bad.RecoverBad.TheVariants.{Failed, NoMemory, NoHeader, NoDatabase, Version, Capacity, PastTheEnd}
use Rattle.page_recovery.specs.declared.recovering.Recovered.{Recovered}
use Rattle.page_recovery.specs.Pages.{page_of}
use Rattle.page_recovery.specs.Leaving.{IsStill, IsFileRun, LeavesRun}
use Rattle.page_recovery.specs.Recovering.{SaysHeader, IsRecovered, HasScan, IsCause, HasOther, HasAll}
use Rattle.page_recovery.proofs.Kept.{stage_before}

-- ---- pages that are read in one way are read in another

module _ (read other : ℕ → Option (List ℕ) → Type 0) (log same : List ℕ) (is : log ≡ same)
    (leads : (page : ℕ) (content : Option (List ℕ)) → page < 65536 → read page content → other page content) where
  says_too : (capacity run first : ℕ) → SaysHeader read capacity run first → SaysHeader other capacity run first
  says_too capacity run first says = record { page = says.page; is_read = leads 0 (Some says.page) (omega arith) says.is_read; header = says.header }

  pub recovered_too : (r : Recovered) → IsRecovered read log r → IsRecovered other same r
  recovered_too r rec = record {
    groups = rec.groups;
    header = says_too (length r.pages) r.run r.first rec.header;
    scan = subst (λ (l : List ℕ). IsScan r.run r.first l rec.groups) is rec.scan;
    ends = subst (λ (l : List ℕ). IfSome r.block (λ n. EndsAt r.run n l rec.groups)) is rec.ends;
    none = subst (λ (l : List ℕ). IfNone r.block ((n : ℕ) → EndsAt r.run n l rec.groups → ⊥)) is rec.none;
    count_is = rec.count_is;
    next_is = rec.next_is;
    within = rec.within;
    pages = λ page below.
        let one = rec.pages page below in
        (one.0, leads page one.0 (omega (arith, below, rec.header.header.few)) one.1, one.2);
  }

  other_too : (why : RecoverBad) → HasOther read why → HasOther other why
  other_too why has = (has.0, leads 0 (Some has.0) (omega arith) has.1, has.2)

  scan_too : (Bad : ℕ → ℕ → List Group → Type 0) → HasScan read log Bad → HasScan other same Bad
  scan_too Bad has = record {
    capacity = has.capacity;
    run = has.run;
    first = has.first;
    groups = has.groups;
    header = says_too has.capacity has.run has.first has.header;
    scan = subst (λ (l : List ℕ). IsScan has.run has.first l has.groups) is has.scan;
    bad = has.bad;
  }

  pub cause_too : (why : RecoverBad) → IsCause read log why → IsCause other same why
  cause_too Failed cause = cause
  cause_too NoMemory cause = cause
  cause_too NoHeader cause = leads 0 None (omega arith) cause
  cause_too NoDatabase cause = other_too NoDatabase cause
  cause_too (Version found) cause = other_too (Version found) cause
  cause_too (Capacity found) cause = other_too (Capacity found) cause
  cause_too (PastTheEnd page) cause = scan_too _ cause

-- ---- page 0 of a run

head-part : (n at : ℕ) (a b : List ℕ) → 32 ≤ at → at + n ≤ 64 → head_of a ≡ head_of b → take n (drop at a) ≡ take n (drop at b)
head-part n at a b from to same = sym (inside a) ∙ ap (λ (l : List ℕ). take n (drop (at - 32) l)) same ∙ inside b where
  inside : (c : List ℕ) → take n (drop (at - 32) (head_of c)) ≡ take n (drop at c)
  inside c =
      let parts : (at - 32) + (64 - at) ≡ 32 = omega (arith, from, to) in
      let place : 32 + (at - 32) ≡ at = omega (arith, from) in
      let cut : drop (at - 32) (head_of c) ≡ take (64 - at) (drop (at - 32) (drop 32 c)) =
      ap (λ (k : ℕ). drop (at - 32) (take k (drop 32 c))) (sym parts) ∙ drop-take (at - 32) (64 - at) (drop 32 c) in
      ap (take n) cut ∙ take-take n (64 - at) (drop (at - 32) (drop 32 c)) (omega (arith, to))
      ∙ ap (take n) (drop-drop (at - 32) 32 c ∙ ap (λ (k : ℕ). drop k c) place)

head-u64 : (at : ℕ) (a b : List ℕ) → 32 ≤ at → at + 8 ≤ 64 → head_of a ≡ head_of b → u64_at at a ≡ u64_at at b
unfolding u64_at
head-u64 at a b from to same = ap (from_be_bytes w64) (head-part 8 at a b from to same)

head-u32 : (at : ℕ) (a b : List ℕ) → 32 ≤ at → at + 4 ≤ 64 → head_of a ≡ head_of b → u32_at at a ≡ u32_at at b
unfolding u32_at
head-u32 at a b from to same = ap (from_be_bytes w32) (head-part 4 at a b from to same)

-- ---- a run

module _ (capacity run first flushed : ℕ) (groups : List Group) (base : ℕ → List ℕ) (before : State) (is : IsFileRun capacity run first groups base)
    (still : IsStill before) (leaves : LeavesRun run first flushed groups base (seen_image before)) (r : Recovered)
    (rec : IsRecovered (WasRead before) before.log.seen r) where
  abbrev count : ℕ
  count = leaves.log.count

  same_head : head_of rec.header.page ≡ head_of (base 0)
  same_head =
      stage_spares base first groups (durable first leaves.now) rec.header.page is.is.each (is.is.bases 0) is.spared
      (stage_before before still run first flushed groups base leaves 0 (Some rec.header.page) (omega arith) rec.header.is_read)

  run_is : r.run ≡ run
  run_is = sym rec.header.header.of_run ∙ head-u64 48 rec.header.page (base 0) (omega arith) (omega arith) same_head ∙ is.header.of_run

  first_is : r.first ≡ first
  first_is = sym rec.header.header.begins ∙ head-u64 56 rec.header.page (base 0) (omega arith) (omega arith) same_head ∙ is.header.begins

  capacity_is : length r.pages ≡ capacity
  capacity_is = sym rec.header.header.pages ∙ head-u32 44 rec.header.page (base 0) (omega arith) (omega arith) same_head ∙ is.header.pages

  groups_are : rec.groups ≡ take count groups
  groups_are =
      let scan : IsScan run first before.log.seen rec.groups =
      subst (λ (n : ℕ). IsScan n first before.log.seen rec.groups) run_is (subst (λ (n : ℕ). IsScan r.run n before.log.seen rec.groups) first_is rec.scan) in
      one_scan run first before.log.seen rec.groups (take count groups) scan leaves.log.scan

  pub count_is : r.count ≡ leaves.log.count
  count_is = rec.count_is ∙ ap (λ (l : List Group). length l) groups_are ∙ length-take-le count groups leaves.log.some

  page_is : (page : ℕ) → page < capacity → SameButSum (page_of r.pages page) (logical base groups count page)
  page_is page below =
      let one = rec.pages page (omega (arith, below, capacity_is)) in
      let stage = stage_before before still run first flushed groups base leaves page one.0 (omega (arith, below, is.header.few)) one.1 in
      let led : SameButSum (page_after page (take count groups) (or_zeros one.0)) (logical base groups count page) =
      stage_leads_on base first groups (durable first leaves.now) count page one.0 is.is.each (is.is.bases page)
      (omega (arith, leaves.log.all_flushed)) stage in
      subst (λ (l : List ℕ). SameButSum l (logical base groups count page))
      (sym (one.2 ∙ ap (λ (l : List Group). page_after page l (or_zeros one.0)) groups_are)) led

  pub has_all : HasAll capacity run first flushed groups base r
  has_all = record {
    some = omega (arith, count_is, leaves.log.some);
    all_flushed = omega (arith, count_is, leaves.log.all_flushed, leaves.later);
    run_is = run_is;
    first_is = first_is;
    next_is = rec.next_is ∙ (λ i. first_is i + sym rec.count_is i);
    capacity_is = capacity_is;
    pages = λ page below. subst (λ (n : ℕ). SameButSum (page_of r.pages page) (logical base groups n page)) (sym count_is) (page_is page below);
  }
