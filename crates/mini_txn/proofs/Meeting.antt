-- What each call makes of the mini-transaction is what the trait asks of it.
use Rattle.std.proofs.Common.{◌≡◌, ◌≢◌, ℕ, ◌+◌, ◌<◌, ◌≤◌, Bool, true, false, cond, ◌⊎◌, inl, inr, List, [], ◌∷◌, ◌++◌, length, drop, Option, Some, None}
use Rattle.std.proofs.Common.{IfSome, Bor, not, refl, sym, ap, subst, ◌∙◌, arith}
use Rattle.std.specs.Prelude.{◌==◌, ◌||◌, is_some}
use Rattle.std.specs.Option.{option_map_or, option_copied}
use Rattle.std.proofs.lemmas.Bool.{cases_eq, eq-eqb, eqb-true}
use Rattle.stored_pages.specs.Words.{u32_at}
use Rattle.log_format.specs.declared.group.Record.{Record}
use Rattle.log_format.specs.declared.group.Record.TheVariants.{Put, Fresh}
use Rattle.redo_log.specs.View.{LogView}
use Rattle.buffer_pool.specs.Frames.{PoolView, slot_of, is_pooled, is_standing, bytes_of, next_idle}
use Rattle.mtr.specs.Seen.{is_in, visit, IsShown, with_bytes}
use Rattle.mtr.specs.Calls.{Makes, Puts, Commits}
use Rattle.mtr.proofs.Behind.{u32-behind}
use Rattle.mtr.proofs.Counted.{none_counted}
use Rattle.mini_txn.specs.declared.dealt.Entry.{Entry}
use Rattle.mini_txn.specs.Dealt.{copy_of, pages_of, HasCopy}
use Rattle.mini_txn.specs.Edits.{blank, edited, spare_of}
use Rattle.mini_txn.specs.View.{MiniView, body_of, standing_in, seen_in, fault_in, state_of, shows, IsReadable, AreFramed, IsMini, IsStamped, IsPut}
use Rattle.mini_txn.specs.View.{KeepsPages, Places, Writes, Blanks}
use Rattle.mini_txn.proofs.Bodies.{length-body, drop-body, body-written, body-blank, blank_is}
use Rattle.mini_txn.proofs.Entries.{copied_is_in}
use Rattle.mini_txn.proofs.Keeping.{stands_holds}
use Rattle.mini_txn.proofs.Kept.{edited-push, spare-push, length-put, length-fresh}

-- ---- counts on page 0

pub count-body : (bytes : List ℕ) → u32_at 44 (body_of bytes) ≡ u32_at 44 bytes
count-body bytes = u32-behind 44 (body_of bytes) bytes (omega arith) (drop-body bytes)

pub blank_counts : (n : ℕ) → u32_at 44 blank ≤ n
unfolding blank
blank_counts n = none_counted n

pub none_stands : (pool : PoolView) (page : ℕ) → is_standing pool page ≡ false → standing_in pool page ≡ blank
none_stands pool page h = ap (λ b. cond b (body_of (bytes_of pool page)) blank) h

pub one_stands : (pool : PoolView) (page : ℕ) → is_standing pool page ≡ true → standing_in pool page ≡ body_of (bytes_of pool page)
one_stands pool page h = ap (λ b. cond b (body_of (bytes_of pool page)) blank) h

-- ---- what is shown

pub shown_by : (seen bytes : List ℕ) → length bytes ≡ 4096 → body_of bytes ≡ seen → IsShown seen bytes
shown_by seen bytes size is = record { size = ap length (sym is) ∙ length-body bytes size; same = sym (drop-body bytes) ∙ ap (drop 20) is }

pub seen_copy : (pool : PoolView) (dealt : List Entry) (page : ℕ) (bytes : List ℕ) → copy_of dealt page ≡ Some bytes → seen_in pool dealt page ≡ body_of bytes
seen_copy pool dealt page bytes is = ap (λ o. option_map_or body_of o (standing_in pool page)) is

pub seen_none : (pool : PoolView) (dealt : List Entry) (page : ℕ) → copy_of dealt page ≡ None → seen_in pool dealt page ≡ standing_in pool page
seen_none pool dealt page is = ap (λ o. option_map_or body_of o (standing_in pool page)) is

-- ---- writing

pub writes_by : (page at : ℕ) (piece : List ℕ) (pool : PoolView) (old mid new : List Entry) (bytes : List ℕ) → 20 ≤ at → at + length piece ≤ 4096
    → length bytes ≡ 4096
    → pages_of mid ≡ pages_of old → ((q : ℕ) → q ≢ page → copy_of mid q ≡ copy_of old q) → copy_of mid page ≡ Some bytes → body_of bytes ≡ seen_in pool old page
    → (AreFramed pool old → is_pooled pool page ≡ true) → IfSome (copy_of mid page) (λ copy. HasCopy page (with_bytes at piece copy) mid new)
    → Writes page at piece pool old new
writes_by page at piece pool old mid new bytes begins ends size pages others copy body framed outcome =
    let has : HasCopy page (with_bytes at piece bytes) mid new = subst
    (λ (o : Option (List ℕ)). IfSome o (λ c. HasCopy page (with_bytes at piece c) mid new)) copy outcome in
    let elsewhere : (q : ℕ) → q ≢ page → copy_of new q ≡ copy_of old q = λ q ne. has.elsewhere q ne ∙ others q ne in
    record {
      pages = has.pages ∙ pages;
      copied = ap is_some has.here;
      here = seen_copy pool new page (with_bytes at piece bytes) has.here ∙ body-written at piece bytes begins (omega (arith, ends, size))
          ∙ ap (with_bytes at piece) body;
      elsewhere = elsewhere;
      framed = λ h q some. elim (cases_eq q page) [
        | inl same ↦ subst (λ (n : ℕ). is_pooled pool n ≡ true) (sym same) (framed h)
        | inr ne ↦ h q (sym (ap is_some (elsewhere q ne)) ∙ some)
      ];
    }

-- the first put of a page copies it
pub writes_first : (page at : ℕ) (piece : List ℕ) (pool : PoolView) (old mid new : List Entry) → 20 ≤ at → at + length piece ≤ 4096
    → length (bytes_of pool page) ≡ 4096
    → copy_of old page ≡ None → IsReadable pool old page → HasCopy page (bytes_of pool page) old mid
    → IfSome (copy_of mid page) (λ copy. HasCopy page (with_bytes at piece copy) mid new) → Writes page at piece pool old new
writes_first page at piece pool old mid new begins ends size none readable has outcome =
    let stands : is_standing pool page ≡ true = readable none in
    writes_by page at piece pool old mid new (bytes_of pool page) begins ends size has.pages has.elsewhere has.here
    (sym (seen_none pool old page none ∙ one_stands pool page stands))
    (λ h. stands_holds (slot_of pool page) stands) outcome

-- another one writes over the copy
pub writes_again : (page at : ℕ) (piece : List ℕ) (pool : PoolView) (old new : List Entry) (bytes : List ℕ) → 20 ≤ at → at + length piece ≤ 4096
    → length bytes ≡ 4096
    → copy_of old page ≡ Some bytes → IfSome (copy_of old page) (λ copy. HasCopy page (with_bytes at piece copy) old new) → Writes page at piece pool old new
writes_again page at piece pool old new bytes begins ends size copy outcome =
    writes_by page at piece pool old old new bytes begins ends size refl (λ q ne. refl) copy (sym (seen_copy pool old page bytes copy))
    (λ h. h page (ap is_some copy)) outcome

-- ---- the state

abbrev pub mini : PoolView → LogView → List Entry → List Record → Bool → MiniView
mini pool log dealt records told = record { pool = pool; log = log; dealt = dealt; records = records; told = told }

apart_test : (page q : ℕ) → q ≢ page → (page == q) ≡ false
apart_test page q ne = go (page == q) refl where
  go : (b : Bool) → (page == q) ≡ b → (page == q) ≡ false
  go true is = absurd (ne (sym (eqb-true page q is)))
  go false is = is

pushed_other : (q page : ℕ) (pages : List ℕ) → q ≢ page → is_in q (pages ++ page ∷ []) ≡ is_in q pages
pushed_other q page [] ne = ap (λ b. b || false) (apart_test page q ne)
pushed_other q page (p ∷ pages) ne = ap (λ b. (p == q) || b) (pushed_other q page pages ne)

-- another page was dealt with before, if it is now
visited_was : (q page : ℕ) (pages : List ℕ) → q ≢ page → is_in q (visit page pages) ≡ true → is_in q pages ≡ true
visited_was q page pages ne known = go (is_in page pages) known where
  go : (b : Bool) → is_in q (cond b pages (pages ++ page ∷ [])) ≡ true → is_in q pages ≡ true
  go true k = k
  go false k = sym (pushed_other q page pages ne) ∙ k

pushed_now : (page : ℕ) (pages : List ℕ) → is_in page (pages ++ page ∷ []) ≡ true
pushed_now page [] = ap (λ b. b || false) (eq-eqb page page refl)
pushed_now page (p ∷ pages) = ap (λ b. (p == page) || b) (pushed_now page pages) ∙ either (p == page) where
  either : (b : Bool) → (b || true) ≡ true
  either true = refl
  either false = refl

pub visited_now : (page : ℕ) (pages : List ℕ) → is_in page (visit page pages) ≡ true
visited_now page pages = go (is_in page pages) refl where
  go : (b : Bool) → is_in page pages ≡ b → is_in page (cond b pages (pages ++ page ∷ [])) ≡ true
  go true is = is
  go false is = pushed_now page pages

-- bytes were put
module _
    (pool : PoolView) (log : LogView) (dealt new : List Entry) (records : List Record) (told now : Bool) (page at : ℕ) (piece : List ℕ)
    (is : IsMini pool dealt records told) (writes : Writes page at piece pool dealt new)
    (was : now ≡ true → told ≡ true) (few : now ≡ true → page ≡ 0 → u32_at 44 (seen_in pool new page) ≤ length pool.slots)
    (stays : told ≡ true → (page ≡ 0 → u32_at 44 (seen_in pool new page) ≤ length pool.slots) → now ≡ true) where
  seen_other : (q : ℕ) → q ≢ page → seen_in pool new q ≡ seen_in pool dealt q
  seen_other q ne = ap (λ o. option_map_or body_of o (standing_in pool q)) (writes.elsewhere q ne)

  pub put_mini : IsMini pool new (records ++ Put page at piece ∷ []) now
  put_mini = record {
    resident = is.resident;
    readable = λ q known none. elim (cases_eq q page) [
      | inl same ↦
          let clash : true ≡ false = sym writes.copied ∙ ap is_some (subst (λ (n : ℕ). copy_of new n ≡ None) same none) in
          absurd cc
      | inr ne ↦ is.readable q (subst (λ (ps : List ℕ). is_in q ps ≡ true) writes.pages known) (sym (writes.elsewhere q ne) ∙ none)
    ];
    edits = λ q. elim (cases_eq q page) [
      | inl same ↦ subst (λ (n : ℕ). seen_in pool new n ≡ edited n (records ++ Put page at piece ∷ []) (standing_in pool n)) (sym same)
          (writes.here ∙ ap (with_bytes at piece) (is.edits page)
          ∙ sym (edited-push page records (Put page at piece) (standing_in pool page)
          ∙ ap (λ b. cond b (with_bytes at piece (edited page records (standing_in pool page))) (edited page records (standing_in pool page)))
          (eq-eqb page page refl)))
      | inr ne ↦ seen_other q ne ∙ is.edits q
          ∙ sym (edited-push q records (Put page at piece) (standing_in pool q)
          ∙ ap (λ b. cond b (with_bytes at piece (edited q records (standing_in pool q))) (edited q records (standing_in pool q))) (apart_test page q ne))
    ];
    told_so = λ tells.
        let so = is.told_so (was tells) in
        record {
          framed = writes.framed so.framed;
          seen = elim (cases_eq page 0) [
            | inl zeroth ↦ subst (λ (n : ℕ). u32_at 44 (seen_in pool new n) ≤ length pool.slots) zeroth (few tells zeroth)
            | inr ne ↦ subst (λ (l : List ℕ). u32_at 44 l ≤ length pool.slots) (sym (seen_other 0 (λ e. ne (sym e)))) so.seen
          ];
          standing = so.standing;
        };
  }

  pub put_puts : length piece + 9 ≤ spare_of records → Puts page at piece (state_of (mini pool log dealt records told))
      (state_of (mini pool log new (records ++ Put page at piece ∷ []) now))
  put_puts room = record {
    keeps = record { told = was; faults = omega arith; whole = refl };
    stays = λ counts tells good. stays tells (λ zeroth.
        let so = is.told_so tells in
        let same : u32_at 44 (seen_in pool new page) ≡ u32_at 44 (with_bytes at piece (seen_in pool dealt page)) = ap (u32_at 44) writes.here in
        omega (arith, same, counts zeroth, so.seen));
    pages = λ tells. record { standing = refl; fault = refl; here = writes.here; elsewhere = seen_other };
    visited_is = writes.pages;
    spare = λ enough. spare-push records (Put page at piece) (length piece + 9) (length-put page at piece) enough;
  }

-- a page was made
module _
    (pool new_pool : PoolView) (log : LogView) (dealt new : List Entry) (records : List Record) (told : Bool) (page : ℕ)
    (is : IsMini pool dealt records told) (blanks : Blanks page pool dealt new_pool new)
    (within : told ≡ true → page < u32_at 44 (seen_in pool dealt 0)) (free : (is_in page (pages_of dealt) ≡ true)
    ⊎ ((is_pooled pool page ≡ true) ⊎ (is_some (next_idle pool) ≡ true))) where
  keeps : KeepsPages pool new_pool
  keeps = blanks.frame.keeps

  made_other : (q : ℕ) → q ≢ page → seen_in new_pool new q ≡ seen_in pool dealt q
  made_other q ne =
      ap (λ o. option_map_or body_of o (standing_in new_pool q)) (blanks.elsewhere q ne)
      ∙ ap (λ (l : List ℕ). option_map_or body_of (copy_of dealt q) l) (keeps.pages q)

  made_here : seen_in new_pool new page ≡ blank
  made_here = seen_copy new_pool new page blank blanks.here ∙ body-blank

  -- where the pages are told, there is a frame for it
  made_pooled : told ≡ true → is_pooled new_pool page ≡ true
  made_pooled tells = elim free [
    | inl known ↦ blanks.frame.pooled page (go (copy_of dealt page) refl known)
    | inr more ↦ elim more [
      | inl there ↦ blanks.frame.pooled page there
      | inr some ↦ blanks.frame.here (omega (arith, within tells, (is.told_so tells).seen)) some
    ]
  ] where
    go : (o : Option (List ℕ)) → copy_of dealt page ≡ o → is_in page (pages_of dealt) ≡ true → is_pooled pool page ≡ true
    go None none known = stands_holds (slot_of pool page) (is.readable page known none)
    go (Some bytes) some known = (is.told_so tells).framed page (ap is_some some)

  pub made_mini : IsMini new_pool new (records ++ Fresh page ∷ []) told
  made_mini = record {
    resident = keeps.resident;
    readable = λ q known none. elim (cases_eq q page) [
      | inl same ↦
          let clash : Some blank ≡ None = sym blanks.here ∙ subst (λ (n : ℕ). copy_of new n ≡ None) same none in
          absurd cc
      | inr ne ↦ keeps.standing q ∙ is.readable q (was_in q ne (subst (λ (ps : List ℕ). is_in q ps ≡ true) blanks.pages known))
          (sym (blanks.elsewhere q ne) ∙ none)
    ];
    edits = λ q. elim (cases_eq q page) [
      | inl same ↦ subst (λ (n : ℕ). seen_in new_pool new n ≡ edited n (records ++ Fresh page ∷ []) (standing_in new_pool n)) (sym same)
          (made_here ∙ sym (edited-push page records (Fresh page) (standing_in new_pool page)
          ∙ ap (λ b. cond b blank (edited page records (standing_in new_pool page))) (eq-eqb page page refl)))
      | inr ne ↦ made_other q ne ∙ is.edits q ∙ ap (edited q records) (sym (keeps.pages q))
          ∙ sym (edited-push q records (Fresh page) (standing_in new_pool q)
          ∙ ap (λ b. cond b blank (edited q records (standing_in new_pool q))) (apart_test page q ne))
    ];
    told_so = λ tells.
        let so = is.told_so tells in
        let long = keeps.slots in
        record {
          framed = λ q some. elim (cases_eq q page) [
            | inl same ↦ subst (λ (n : ℕ). is_pooled new_pool n ≡ true) (sym same) (made_pooled tells)
            | inr ne ↦ blanks.frame.pooled q (so.framed q (sym (ap is_some (blanks.elsewhere q ne)) ∙ some))
          ];
          seen = elim (cases_eq page 0) [
            | inl zeroth ↦ subst (λ (n : ℕ). u32_at 44 (seen_in new_pool new n) ≤ length new_pool.slots) zeroth
                (subst (λ (l : List ℕ). u32_at 44 l ≤ length new_pool.slots) (sym made_here) (blank_counts (length new_pool.slots)))
            | inr ne ↦ subst (λ (l : List ℕ). u32_at 44 l ≤ length new_pool.slots) (sym (made_other 0 (λ e. ne (sym e)))) (omega (arith, so.seen, long))
          ];
          standing = subst (λ (l : List ℕ). u32_at 44 l ≤ length new_pool.slots) (sym (keeps.pages 0)) (omega (arith, so.standing, long));
        };
  } where
    was_in : (q : ℕ) → q ≢ page → is_in q (visit page (pages_of dealt)) ≡ true → is_in q (pages_of dealt) ≡ true
    was_in q ne known = visited_was q page (pages_of dealt) ne known

  pub made_makes : Makes page (state_of (mini pool log dealt records told)) (state_of (mini new_pool log new (records ++ Fresh page ∷ []) told))
  made_makes = record {
    goes = record { told = λ t. t; stays = λ t good. t; faults = omega arith; whole = refl };
    pages = λ tells. record {
      standing = λ i q. keeps.pages q i;
      fault = λ i q. ap (λ b. cond b None (Some 0)) (keeps.standing q) i;
      here = made_here ∙ blank_is;
      elsewhere = made_other;
    };
    visited_is = blanks.pages;
    spare = λ enough. spare-push records (Fresh page) 5 (length-fresh page) enough;
  }

-- all stand
module _
    (pool new_pool : PoolView) (log new_log : LogView) (dealt : List Entry) (records : List Record) (told : Bool)
    (is : IsMini pool dealt records told) (lsn : ℕ) (places : Places lsn pool dealt new_pool []) where
  shown_after : told ≡ true → (q : ℕ) → fault_in new_pool q ≡ cond (is_in q (pages_of dealt)) None (fault_in pool q)
  shown_after tells q =
      let so = is.told_so tells in
      let now : is_standing new_pool q ≡ shows pool dealt q = places.shown so.framed q in
      ap (λ b. cond b None (Some 0)) now ∙ go (copy_of dealt q) refl (is_in q (pages_of dealt)) refl where
        go : (o : Option (List ℕ)) → copy_of dealt q ≡ o → (b : Bool) → is_in q (pages_of dealt) ≡ b
            → cond (is_some o || is_standing pool q) None (Some 0) ≡ cond b None (fault_in pool q)
        go None none true known = ap (λ d. cond d None (Some 0)) (is.readable q known none)
        go None none false known = refl
        go (Some bytes) some true known = refl
        go (Some bytes) some false known =
            let clash : true ≡ false = sym (copied_is_in q dealt (ap is_some some)) ∙ known in
            absurd cc

  pub commit_puts : told ≡ true → (page : ℕ) → IsPut (mini pool log dealt records told) (mini new_pool new_log [] [] told) lsn page
  commit_puts tells page = go (places.frames (is.told_so tells).framed page) where
    go : ((None ≡ copy_of dealt page) × (slot_of new_pool page ≡ slot_of pool page)) ⊎ IsStamped page lsn (slot_of new_pool page)
        → ((copy_of dealt page ≡ None) × (slot_of new_pool page ≡ slot_of pool page)) ⊎ IsStamped page lsn (slot_of new_pool page)
    go (inl same) = inl (sym same.0, same.1)
    go (inr stamped) = inr stamped

  pub commit_commits : Commits (state_of (mini pool log dealt records told)) (state_of (mini new_pool new_log [] [] told))
  commit_commits = record {
    goes = record { told = λ t. t; stays = λ t good. t; faults = omega arith; whole = refl };
    standing = λ tells i q. places.seen (is.told_so tells).framed q i;
    seen = λ tells i q. places.seen (is.told_so tells).framed q i;
    fault = λ tells i q. shown_after tells q i;
    visited_is = refl;
    spare = refl;
  }

-- ---- a copy that was asked for

pub no_copy : (found : Option (Bor (List ℕ))) (none : Bool) (copy : Option (List ℕ)) → option_copied found ≡ copy → is_some found ≡ not none → none
    ≡ true → copy ≡ None
no_copy None none copy is some h = sym is
no_copy (Some bytes) none copy is some h = let clash : true ≡ false = some ∙ ap not h in absurd cc

pub a_copy : (found : Option (Bor (List ℕ))) (none : Bool) (copy : Option (List ℕ)) → option_copied found ≡ copy → is_some found ≡ not none → none
    ≡ false → IfSome found (λ bytes. length bytes.now ≡ 4096)
    → (bytes : List ℕ) × (copy ≡ Some bytes) × (length bytes ≡ 4096)
a_copy None none copy is some h size = let clash : false ≡ true = some ∙ ap not h in absurd cc
a_copy (Some bytes) none copy is some h size = (bytes.now, sym is, size)

-- ---- the pool keeps its pages

pub kept_mini : (pool new : PoolView) (dealt : List Entry) (records : List Record) (told : Bool) → IsMini pool dealt records told → KeepsPages pool new
    → ((q : ℕ) → is_pooled pool q ≡ true → is_pooled new q ≡ true) → IsMini new dealt records told
kept_mini pool new dealt records told is keeps pooled =
    let seen : (q : ℕ) → seen_in new dealt q ≡ seen_in pool dealt q = λ q. ap (λ (l : List ℕ). option_map_or body_of (copy_of dealt q) l) (keeps.pages q) in
    record {
      resident = keeps.resident;
      readable = λ q known none. keeps.standing q ∙ is.readable q known none;
      edits = λ q. seen q ∙ is.edits q ∙ ap (edited q records) (sym (keeps.pages q));
      told_so = λ tells.
          let so = is.told_so tells in
          let long = keeps.slots in
          record {
            framed = λ q some. pooled q (so.framed q some);
            seen = subst (λ (l : List ℕ). u32_at 44 l ≤ length new.slots) (sym (seen 0)) (omega (arith, so.seen, long));
            standing = subst (λ (l : List ℕ). u32_at 44 l ≤ length new.slots) (sym (keeps.pages 0)) (omega (arith, so.standing, long));
          };
    }
