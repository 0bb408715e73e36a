-- Groups whose LSNs rise: a page's LSN is at least that of each group that names it, so they leave the page as it is.
use Rattle.std.proofs.Common.{◌≡◌, ℕ, ◌+◌, ◌<◌, ◌≤◌, Bool, true, false, cond, List, [], ◌∷◌, ◌++◌, length, take, drop, refl, sym, ap, subst, ◌∙◌, arith}
use Rattle.std.proofs.Common.{take-append-drop}
use Rattle.std.specs.Prelude.{◌&&◌, nat_lt}
use Rattle.std.proofs.lemmas.Bool.{ltb-true, ltb-false}
use Rattle.std.proofs.lemmas.List.{take-take, length-take-le}
use Rattle.stored_pages.specs.Words.{lsn_of}
use Rattle.log_format.specs.declared.group.Group.{Group}
use Rattle.log_format.specs.Group.{IsGroup, AreGroups}
use Rattle.log_format.proofs.Groups.{AreGroups-take, AreGroups-drop}
use Rattle.mini_txn.specs.Edits.{edited}
use Rattle.mini_txn.specs.View.{stamped}
use Rattle.mini_txn.proofs.Bodies.{lsn-stamped}
use Rattle.law_logged_pages.specs.Applied.{names, with_group, page_after, logical}
use Rattle.law_logged_pages.specs.Stages.{SameButSum, IsBase}
use Rattle.law_logged_pages.proofs.Edits.{length-edited, length-group, same-group, lsn-same}

-- no group that names the page has a greater LSN
abbrev pub AreReached : ℕ → ℕ → List Group → Type 0
AreReached page lsn [] = Unit {0}
AreReached page lsn (g ∷ more) = (names page g ≡ true → g.lsn ≤ lsn) × AreReached page lsn more

reached_back : (page lsn : ℕ) (front back : List Group) → AreReached page lsn (front ++ back) → AreReached page lsn back
reached_back page lsn [] back reached = reached
reached_back page lsn (g ∷ front) back reached = reached_back page lsn front back reached.1

-- ---- one after the other

pub after-append : (page : ℕ) (front back : List Group) (bytes : List ℕ)
    → page_after page (front ++ back) bytes ≡ page_after page back (page_after page front bytes)
after-append page [] back bytes = refl
after-append page (g ∷ front) back bytes = after-append page front back (with_group page g bytes)

pub length-after : (page first : ℕ) (gs : List Group) (a : List ℕ) → AreGroups first gs → length a ≡ 4096 → length (page_after page gs a) ≡ 4096
length-after page first [] a are size = size
length-after page first (g ∷ gs) a are size = length-after page (first + 1) gs (with_group page g a) are.2 (length-group page g a are.1 size)

same-after : (page first : ℕ) (gs : List Group) (a b : List ℕ) → AreGroups first gs → length a ≡ 4096 → length b ≡ 4096 → drop 8 a ≡ drop 8 b
    → drop 8 (page_after page gs a) ≡ drop 8 (page_after page gs b)
same-after page first [] a b are size_a size_b same = same
same-after page first (g ∷ gs) a b are size_a size_b same =
    same-after page (first + 1) gs (with_group page g a) (with_group page g b) are.2 (length-group page g a are.1 size_a) (length-group page g b are.1 size_b)
    (same-group page g a b are.1 size_a size_b same)

-- groups make pages that differ in their sums alone to such pages
pub after-same : (page first : ℕ) (gs : List Group) (a b : List ℕ) → AreGroups first gs → length a ≡ 4096 → SameButSum a b
    → SameButSum (page_after page gs a) (page_after page gs b)
after-same page first gs a b are size is =
    let other : length b ≡ 4096 = sym is.size ∙ size in
    record {
      size = length-after page first gs a are size ∙ sym (length-after page first gs b are other);
      same = same-after page first gs a b are size other is.same;
    }

-- ---- LSNs

both_true : (b d : Bool) → b ≡ true → d ≡ true → (b && d) ≡ true
both_true b d is also = cc

applied_lsn : (page : ℕ) (g : Group) (a : List ℕ) → IsGroup g → length a ≡ 4096 → lsn_of (stamped page g.lsn (edited page g.records a)) ≡ g.lsn
applied_lsn page g a is size =
    let long = length-edited page g.records a is.each size in
    lsn-stamped page g.lsn (edited page g.records a) (omega (arith, long)) is.lsn

-- a group never lowers the page's LSN
pub lsn_rises : (page : ℕ) (g : Group) (a : List ℕ) → IsGroup g → length a ≡ 4096 → lsn_of a ≤ lsn_of (with_group page g a)
unfolding with_group
lsn_rises page g a is size = go (names page g) (nat_lt (lsn_of a) g.lsn) refl where
  go : (b d : Bool) → nat_lt (lsn_of a) g.lsn ≡ d → lsn_of a ≤ lsn_of (cond (b && d) (stamped page g.lsn (edited page g.records a)) a)
  go true true test = let here = applied_lsn page g a is size in let less = ltb-true (lsn_of a) g.lsn test in omega (arith, here, less)
  go true false test = omega arith
  go false d test = omega arith

-- one that names it brings the LSN up to its own
pub lsn_reached : (page : ℕ) (g : Group) (a : List ℕ) → IsGroup g → length a ≡ 4096 → names page g ≡ true → g.lsn ≤ lsn_of (with_group page g a)
unfolding with_group
lsn_reached page g a is size named = go (names page g) (nat_lt (lsn_of a) g.lsn) named refl where
  go : (b d : Bool) → b ≡ true → nat_lt (lsn_of a) g.lsn ≡ d → g.lsn ≤ lsn_of (cond (b && d) (stamped page g.lsn (edited page g.records a)) a)
  go true true name test = let here = applied_lsn page g a is size in omega (arith, here)
  go true false name test = let past = ltb-false (lsn_of a) g.lsn test in omega (arith, past)
  go false d name test = absurd cc

-- the page's LSN stays below the next group's
pub lsn_below : (page first : ℕ) (g : Group) (a : List ℕ) → IsGroup g → length a ≡ 4096 → g.lsn ≡ first → lsn_of a < first
    → lsn_of (with_group page g a) < first + 1
unfolding with_group
lsn_below page first g a is size number below = go (names page g && nat_lt (lsn_of a) g.lsn) where
  go : (t : Bool) → lsn_of (cond t (stamped page g.lsn (edited page g.records a)) a) < first + 1
  go true = let here = applied_lsn page g a is size in omega (arith, here, number)
  go false = omega (arith, below)

pub lsns_rise : (page first : ℕ) (gs : List Group) (a : List ℕ) → AreGroups first gs → length a ≡ 4096 → lsn_of a ≤ lsn_of (page_after page gs a)
lsns_rise page first [] a are size = omega arith
lsns_rise page first (g ∷ gs) a are size =
    let here = lsn_rises page g a are.1 size in
    let rest = lsns_rise page (first + 1) gs (with_group page g a) are.2 (length-group page g a are.1 size) in
    omega (arith, here, rest)

pub all_reached : (page first : ℕ) (gs : List Group) (a : List ℕ) → AreGroups first gs → length a ≡ 4096 → lsn_of a < first
    → AreReached page (lsn_of (page_after page gs a)) gs
all_reached page first [] a are size below = tt
all_reached page first (g ∷ gs) a are size below =
    let long = length-group page g a are.1 size in
    let rest = lsns_rise page (first + 1) gs (with_group page g a) are.2 long in (
      λ named. let here = lsn_reached page g a are.1 size named in omega (arith, here, rest),
      all_reached page (first + 1) gs (with_group page g a) are.2 long (lsn_below page first g a are.1 size are.0 below),
    )

pub lsn_of_all : (page first : ℕ) (gs : List Group) (a : List ℕ) → AreGroups first gs → length a ≡ 4096 → lsn_of a < first
    → lsn_of (page_after page gs a) < first + length gs
lsn_of_all page first [] a are size below = omega (arith, below)
lsn_of_all page first (g ∷ gs) a are size below =
    let rest =
    lsn_of_all page (first + 1) gs (with_group page g a) are.2 (length-group page g a are.1 size) (lsn_below page first g a are.1 size are.0 below) in
    omega (arith, rest)

-- ---- groups that leave the page

passed : (page : ℕ) (g : Group) (a : List ℕ) → (names page g ≡ true → g.lsn ≤ lsn_of a) → with_group page g a ≡ a
unfolding with_group
passed page g a reached = go (names page g) (nat_lt (lsn_of a) g.lsn) refl refl where
  go : (b d : Bool) → names page g ≡ b → nat_lt (lsn_of a) g.lsn ≡ d → cond (b && d) (stamped page g.lsn (edited page g.records a)) a ≡ a
  go true true name test = let upto = reached name in let less = ltb-true (lsn_of a) g.lsn test in absurd (omega (arith, upto, less))
  go true false name test = refl
  go false d name test = refl

-- those that have reached it already
pub reached_stays : (page : ℕ) (gs : List Group) (a : List ℕ) → AreReached page (lsn_of a) gs → page_after page gs a ≡ a
reached_stays page [] a reached = refl
reached_stays page (g ∷ gs) a reached =
    let here : with_group page g a ≡ a = passed page g a reached.0 in
    ap (page_after page gs) here ∙ reached_stays page gs a reached.1

-- those past an LSN that a page isn't past don't name it
pub silent : (page first lsn : ℕ) (gs : List Group) → AreGroups first gs → lsn < first → AreReached page lsn gs → (bytes : List ℕ)
    → page_after page gs bytes ≡ bytes
silent page first lsn [] are below reached bytes = refl
silent page first lsn (g ∷ gs) are below reached bytes =
    let here : with_group page g bytes ≡ bytes = passed page g bytes (λ named. let upto = reached.0 named in absurd (omega (arith, upto, below, are.0))) in
    ap (page_after page gs) here ∙ silent page (first + 1) lsn gs are.2 (omega (arith, below)) reached.1 bytes

-- ---- the first so many groups

module _ (first : ℕ) (groups : List Group) (are : AreGroups first groups) (base : ℕ → List ℕ) (page : ℕ) (is : IsBase first (base page)) where
  pub length-logical : (count : ℕ) → length (logical base groups count page) ≡ 4096
  length-logical count = length-after page first (take count groups) (base page) (AreGroups-take count first groups are) is.size

  -- the first so many, and those behind them
  pub split : (j m : ℕ) → j ≤ m → take m groups ≡ take j groups ++ drop j (take m groups)
  split j m upto = sym (take-append-drop j (take m groups)) ∙ ap (λ (l : List Group). l ++ drop j (take m groups)) (take-take j m groups upto)

  -- a page that was so once is brought on to what it is
  pub leads_on : (j m : ℕ) (bytes : List ℕ) → j ≤ m → SameButSum bytes (logical base groups j page)
      → SameButSum (page_after page (take m groups) bytes) (logical base groups m page)
  leads_on j m bytes upto same =
      let front : List Group = take j groups in
      let back : List Group = drop j (take m groups) in
      let taken : AreGroups first (take m groups) = AreGroups-take m first groups are in
      let both : AreGroups first (front ++ back) = subst (AreGroups first) (split j m upto) taken in
      let reached : AreReached page (lsn_of (logical base groups j page)) front =
      all_reached page first front (base page) (AreGroups-take j first groups are) is.size is.before in
      let lsn : lsn_of (logical base groups j page) ≡ lsn_of bytes = sym (lsn-same bytes (logical base groups j page) same.same) in
      let stays : page_after page front bytes ≡ bytes = reached_stays page front bytes (subst (λ (n : ℕ). AreReached page n front) lsn reached) in
      let whole : page_after page (take m groups) bytes ≡ page_after page back bytes =
      ap (λ (l : List Group). page_after page l bytes) (split j m upto) ∙ after-append page front back bytes ∙ ap (page_after page back) stays in
      let goal : logical base groups m page ≡ page_after page back (logical base groups j page) =
      ap (λ (l : List Group). page_after page l (base page)) (split j m upto) ∙ after-append page front back (base page) in
      let size : length bytes ≡ 4096 = same.size ∙ length-logical j in
      let led : SameButSum (page_after page back bytes) (page_after page back (logical base groups j page)) =
      after-same page (first + length front) back bytes (logical base groups j page) (AreGroups-drop first front back both) size same in
      record {
        size = ap (λ (l : List ℕ). length l) whole ∙ led.size ∙ sym (ap (λ (l : List ℕ). length l) goal);
        same = ap (drop 8) whole ∙ led.same ∙ sym (ap (drop 8) goal);
      }

  -- where its LSN isn't past the first so many, those behind them leave it
  pub not_past : (count m : ℕ) → count ≤ m → count ≤ length groups → lsn_of (logical base groups m page) < first + count
      → logical base groups m page ≡ logical base groups count page
  not_past count m upto some below =
      let front : List Group = take count groups in
      let back : List Group = drop count (take m groups) in
      let taken : AreGroups first (take m groups) = AreGroups-take m first groups are in
      let both : AreGroups first (front ++ back) = subst (AreGroups first) (split count m upto) taken in
      let long : length front ≡ count = length-take-le count groups some in
      let all : AreReached page (lsn_of (logical base groups m page)) (take m groups) =
      all_reached page first (take m groups) (base page) taken is.size is.before in
      let reached : AreReached page (lsn_of (logical base groups m page)) (front ++ back) =
      subst (AreReached page (lsn_of (logical base groups m page))) (split count m upto) all in
      ap (λ (l : List Group). page_after page l (base page)) (split count m upto) ∙ after-append page front back (base page)
      ∙ silent page (first + length front) (lsn_of (logical base groups m page)) back (AreGroups-drop first front back both) (omega (arith, below, long))
      (reached_back page (lsn_of (logical base groups m page)) front back reached) (logical base groups count page)

  -- the LSN rises along the groups
  pub lsn_upto : (j m : ℕ) → j ≤ m → lsn_of (logical base groups j page) ≤ lsn_of (logical base groups m page)
  lsn_upto j m upto =
      let front : List Group = take j groups in
      let back : List Group = drop j (take m groups) in
      let both : AreGroups first (front ++ back) = subst (AreGroups first) (split j m upto) (AreGroups-take m first groups are) in
      let whole : logical base groups m page ≡ page_after page back (logical base groups j page) =
      ap (λ (l : List Group). page_after page l (base page)) (split j m upto) ∙ after-append page front back (base page) in
      let rest = lsns_rise page (first + length front) back (logical base groups j page) (AreGroups-drop first front back both) (length-logical j) in
      omega (arith, rest, ap (λ (l : List ℕ). lsn_of l) whole)

  pub lsn_from : (m : ℕ) → lsn_of (base page) ≤ lsn_of (logical base groups m page)
  lsn_from m = lsns_rise page first (take m groups) (base page) (AreGroups-take m first groups are) is.size

  pub lsn_logical : (j : ℕ) → j ≤ length groups → lsn_of (logical base groups j page) < first + j
  lsn_logical j some =
      let below = lsn_of_all page first (take j groups) (base page) (AreGroups-take j first groups are) is.size is.before in
      omega (arith, below, length-take-le j groups some)
