-- What each call makes of the mini-transaction is what the trait asks of it: pages that are asked for, made and put.
use Rattle.std.proofs.Common.{◌≡◌, ◌≢◌, ℕ, ◌+◌, ◌<◌, ◌≤◌, Bool, true, false, cond, inl, inr, List, [], ◌∷◌, ◌++◌, length, Option, Some, None, refl, sym, ap}
use Rattle.std.proofs.Common.{subst}
use Rattle.std.proofs.Common.{◌∙◌, arith}
use Rattle.std.specs.Prelude.{◌==◌, ◌&&◌, is_some}
use Rattle.std.specs.Option.{option_map_or}
use Rattle.std.proofs.lemmas.Bool.{cases_eq, eq-eqb, eqb-true}
use Rattle.std.proofs.lemmas.List.{get_or_past}
use Rattle.store_api.specs.Past.{Past}
use Rattle.stored_pages.specs.Words.{u32_at}
use Rattle.log_format.specs.declared.group.Record.{Record}
use Rattle.log_format.specs.declared.group.Record.TheVariants.{Put, Fresh}
use Rattle.buffer_pool.specs.Frames.{PoolView, slot_of, is_pooled, is_standing, bytes_of}
use Rattle.mtr.specs.Seen.{is_in, visit, with_bytes}
use Rattle.mtr.specs.Calls.{Looks as LooksAt, Makes, Puts, StaysTold}
use Rattle.mtr.proofs.Claims.{visited_other, visited_now}
use Rattle.mini_txn.specs.declared.dealt.Entry.{Entry}
use Rattle.mini_txn.specs.Dealt.{copy_of, pages_of, IsVisited, HasCopy}
use Rattle.mini_txn.specs.Edits.{blank, edited, spare_of}
use Rattle.mini_txn.specs.View as mini
use Rattle.mini_txn.specs.View.{body_of, IsReadable, AreFramed, Writes}
use Rattle.mini_txn.proofs.Bodies.{body-blank, blank_is}
use Rattle.mini_txn.proofs.Entries.{copied_is_in}
use Rattle.mini_txn.proofs.Kept.{edited-push, spare-push, length-put, length-fresh}
use Rattle.mini_txn.proofs.Meeting.{blank_counts, seen_copy, seen_none, one_stands}
use Rattle.paged_txn.specs.View.{is_known, faults_of, place_in, holds, stands, fixes_in, standing_by, fault_by, standing_in, seen_in, fault_in, state_of}
use Rattle.paged_txn.specs.View.{IsFrame, MayStand, IsPaged, can_be_read}
use Rattle.paged_txn.specs.Fixing.{Fixes, IsGivenUp}
use Rattle.paged_txn.proofs.Told.{known_told, known_tells, known_by}
use Rattle.paged_txn.proofs.Slots.{frame_less, frame_is, frame_bare, stands_holds}

apart_test : (page q : ℕ) → q ≢ page → (page == q) ≡ false
apart_test page q ne = go (page == q) refl where
  go : (b : Bool) → (page == q) ≡ b → (page == q) ≡ false
  go true is = absurd (ne (sym (eqb-true page q is)))
  go false is = is

-- a page dealt with isn't given up
not_given : (known : Bool) (q : ℕ) (place : List ℕ) (dealt : Bool) (old new : Option _) → IsFrame known q place dealt old → dealt ≡ true
    → holds old ≡ true → IsGivenUp old new → ⊥
not_given known q place dealt old new frame is there given =
    let one : fixes_in old ≡ 1 = frame.fixes ∙ ap (λ b. cond (b && holds old) 1 0) is ∙ ap (λ b. cond b 1 0) there in
    omega (arith, one, given.0)

-- of a page that has a copy or stands the disk isn't asked
pub seen_is : (pool : PoolView) (past : Past) (dealt : List Entry) (page : ℕ) → IsReadable pool dealt page
    → mini.seen_in pool dealt page ≡ seen_in pool past dealt page
seen_is pool past dealt page readable = go (copy_of dealt page) refl where
  go : (o : Option (List ℕ)) → copy_of dealt page ≡ o → mini.seen_in pool dealt page ≡ seen_in pool past dealt page
  go (Some bytes) is = seen_copy pool dealt page bytes is ∙ sym (ap (λ o. option_map_or body_of o (standing_in pool past page)) is)
  go None is =
      let there = readable is in
      seen_none pool dealt page is ∙ one_stands pool page there
      ∙ sym (ap (λ o. option_map_or body_of o (standing_in pool past page)) is
      ∙ ap (λ b. cond b (body_of (bytes_of pool page))
      (cond (can_be_read (length pool.slots) page (place_in past page)) (body_of (place_in past page)) blank)) there)

-- ---- the disk was looked at, and the pool is as it was

module _ (pool : PoolView) (past now : Past) (dealt : List Entry) (records : List Record) (told later : Bool) (is : IsPaged pool past dealt records told)
    (was : is_known later now ≡ true → is_known told past ≡ true)
    (same : is_known later now ≡ true → (q : ℕ) → place_in now q ≡ place_in past q) where
  looked_standing : is_known later now ≡ true → (q : ℕ) → standing_in pool now q ≡ standing_in pool past q
  looked_standing k q = ap (λ p. standing_by (slot_of pool q) (can_be_read (length pool.slots) q p) p) (same k q)

  looked_seen : is_known later now ≡ true → (q : ℕ) → seen_in pool now dealt q ≡ seen_in pool past dealt q
  looked_seen k q = ap (λ (l : List ℕ). option_map_or body_of (copy_of dealt q) l) (looked_standing k q)

  pub looked_paged : IsPaged pool now dealt records later
  looked_paged = record {
    frames = λ q. frame_less (is_known told past) (is_known later now) q (place_in past q) (place_in now q) (is_in q (pages_of dealt)) (slot_of pool q) was
        (λ k. same k q) (is.frames q);
    readable = is.readable;
    edits = is.edits;
    counted = λ k.
        let so = is.counted (was k) in
        record {
          framed = so.framed;
          seen = subst (λ (l : List ℕ). u32_at 44 l ≤ length pool.slots) (sym (looked_seen k 0)) so.seen;
          standing = subst (λ (l : List ℕ). u32_at 44 l ≤ length pool.slots) (sym (looked_standing k 0)) so.standing;
        };
  }

  pub looked_looks : StaysTold (state_of pool past dealt records told) (state_of pool now dealt records later) → faults_of past ≤ faults_of now
      → LooksAt (pages_of dealt) (state_of pool past dealt records told) (state_of pool now dealt records later)
  looked_looks stays later_faults = record {
    goes = record { told = was; stays = stays; faults = later_faults; whole = refl };
    pages = λ k. record {
      standing = λ i q. looked_standing k q i;
      seen = λ i q. looked_seen k q i;
      fault = λ i q. ap (λ p. fault_by (slot_of pool q) (can_be_read (length pool.slots) q p)) (same k q) i;
    };
    visited_is = refl;
    spare = refl;
  }

-- ---- a page was fixed

module _ (pool new : PoolView) (past now : Past) (pages : List ℕ) (told was_told : Bool) (page : ℕ)
    (frames : (q : ℕ) → IsFrame was_told q (place_in past q) (is_in q pages) (slot_of pool q))
    (was : told ≡ true → was_told ≡ true) (fixes : Fixes told page past now pool new) (unknown : is_in page pages ≡ false) where
  -- a page dealt with has its frame as before
  pub dealt_slot : (q : ℕ) → is_in q pages ≡ true → holds (slot_of pool q) ≡ true → slot_of new q ≡ slot_of pool q
  dealt_slot q known there = elim (fixes.others q (λ e. not_page e)) [
    | inl same ↦ same
    | inr given ↦ absurd (not_given was_told q (place_in past q) (is_in q pages) (slot_of pool q) (slot_of new q) (frames q) known there given)
  ] where
    not_page : q ≡ page → ⊥
    not_page e = let clash : true ≡ false = sym known ∙ ap (λ n. is_in n pages) e ∙ unknown in cc

  -- the frames, once the page is dealt with too
  pub fixed_frames : (later : List ℕ) → later ≡ visit page pages → (q : ℕ) → IsFrame told q (place_in now q) (is_in q later) (slot_of new q)
  fixed_frames later visited q = elim (cases_eq q page) [
    | inl same ↦
        let dealt_now : is_in q later ≡ true = ap (is_in q) visited ∙ ap (λ n. is_in n (visit page pages)) same ∙ visited_now page pages in
        subst (λ (b : Bool). IsFrame told q (place_in now q) b (slot_of new q)) (sym dealt_now)
        (subst (λ (n : ℕ). IsFrame told n (place_in now n) true (slot_of new n)) (sym same) fixes.here)
    | inr apart ↦
        let dealt_same : is_in q later ≡ is_in q pages = ap (is_in q) visited ∙ visited_other q page pages (λ e. apart (sym e)) in
        elim (fixes.others q apart) [
          | inl same ↦ frame_is told q (place_in now q) (is_in q pages) (is_in q later) (slot_of pool q) (slot_of new q) dealt_same same
              (frame_less was_told told q (place_in past q) (place_in now q) (is_in q pages) (slot_of pool q) was
              (λ k. fixes.places k q) (frames q))
          | inr given ↦ frame_bare told q (place_in now q) (is_in q later) (slot_of new q) given.1 given.2
        ]
  ]

module _ (pool new : PoolView) (past now : Past) (dealt : List Entry) (records : List Record) (told : Bool) (page : ℕ)
    (is : IsPaged pool past dealt records told)
    (was : is_known told now ≡ true → is_known told past ≡ true) (fixes : Fixes (is_known told now) page past now pool new)
    (unknown : is_in page (pages_of dealt) ≡ false) where
  known_slot : (q : ℕ) → is_in q (pages_of dealt) ≡ true → holds (slot_of pool q) ≡ true → slot_of new q ≡ slot_of pool q
  known_slot q known there = dealt_slot pool new past now (pages_of dealt) (is_known told now) (is_known told past) page is.frames was fixes unknown q
      known there

  pub known_frames : (later : List ℕ) → later ≡ visit page (pages_of dealt) → (q : ℕ)
      → IsFrame (is_known told now) q (place_in now q) (is_in q later) (slot_of new q)
  known_frames later visited q =
      fixed_frames pool new past now (pages_of dealt) (is_known told now) (is_known told past) page is.frames was fixes unknown later visited q

  -- a page dealt with stands as before
  pub dealt_stands : (q : ℕ) → is_in q (pages_of dealt) ≡ true → is_standing pool q ≡ true
      → (is_standing new q ≡ true) × (bytes_of new q ≡ bytes_of pool q)
  dealt_stands q known standing =
      let same = known_slot q known (stands_holds (slot_of pool q) standing) in
      (ap stands same ∙ standing, ap (λ s. option_map_or (λ f. f.bytes) s []) same)

  pub dealt_framed : AreFramed pool dealt → (q : ℕ) → is_some (copy_of dealt q) ≡ true → is_pooled new q ≡ true
  dealt_framed framed q some = ap holds (known_slot q (copied_is_in q dealt some) (framed q some)) ∙ framed q some

  module _ (later : List Entry) (visited : IsVisited page dealt later) (here : is_standing new page ≡ true) where
    brought_seen : is_known told now ≡ true → (q : ℕ) → seen_in new now later q ≡ seen_in pool past dealt q
    brought_seen k q = ap (λ o. option_map_or body_of o (standing_in new now q)) (visited.copies q)
        ∙ ap (λ (l : List ℕ). option_map_or body_of (copy_of dealt q) l) (fixes.standing k q)

    was_dealt : (q : ℕ) → q ≢ page → is_in q (pages_of later) ≡ is_in q (pages_of dealt)
    was_dealt q apart = ap (is_in q) visited.pages ∙ visited_other q page (pages_of dealt) (λ e. apart (sym e))

    pub brought_paged : IsPaged new now later records told
    brought_paged = record {
      frames = known_frames (pages_of later) visited.pages;
      readable = λ q known none. elim (cases_eq q page) [
        | inl same ↦ ap (is_standing new) same ∙ here
        | inr apart ↦
            let before : is_in q (pages_of dealt) ≡ true = sym (was_dealt q apart) ∙ known in
            (dealt_stands q before (is.readable q before (sym (visited.copies q) ∙ none))).0
      ];
      edits = λ q before may. ap (λ o. option_map_or body_of o before) (visited.copies q)
          ∙ is.edits q before (λ known standing.
          let apart : q ≢ page = λ e. let clash : true ≡ false = sym known ∙ ap (λ n. is_in n (pages_of dealt)) e ∙ unknown in cc in
          let both = dealt_stands q known standing in
          may (was_dealt q apart ∙ known) both.0 ∙ ap body_of both.1);
      counted = λ k.
          let so = is.counted (was k) in
          let long = fixes.slots in
          record {
            framed = λ q some. dealt_framed so.framed q (sym (ap is_some (visited.copies q)) ∙ some);
            seen = subst (λ (l : List ℕ). u32_at 44 l ≤ length new.slots) (sym (brought_seen k 0)) (omega (arith, so.seen, long));
            standing = subst (λ (l : List ℕ). u32_at 44 l ≤ length new.slots) (sym (fixes.standing k 0)) (omega (arith, so.standing, long));
          };
    }

    pub brought_looks : StaysTold (state_of pool past dealt records told) (state_of new now later records told) → faults_of past ≤ faults_of now
        → LooksAt (visit page (pages_of dealt)) (state_of pool past dealt records told) (state_of new now later records told)
    brought_looks stays later_faults = record {
      goes = record { told = was; stays = stays; faults = later_faults; whole = refl };
      pages = λ k. record {
        standing = λ i q. fixes.standing k q i;
        seen = λ i q. brought_seen k q i;
        fault = λ i q. fixes.faults k q i;
      };
      visited_is = visited.pages;
      spare = refl;
    }

-- ---- bytes were put

any_default : (o : Option (List ℕ)) (x y : List ℕ) → is_some o ≡ true → option_map_or body_of o x ≡ option_map_or body_of o y
any_default None x y h = cc
any_default (Some b) x y h = refl

module _ (pool : PoolView) (past : Past) (dealt new : List Entry) (records : List Record) (told now : Bool) (page at : ℕ) (piece : List ℕ)
    (is : IsPaged pool past dealt records told) (known : is_in page (pages_of dealt) ≡ true) (writes : Writes page at piece pool dealt new)
    (was : now ≡ true → told ≡ true) (few : now ≡ true → page ≡ 0 → u32_at 44 (mini.seen_in pool new page) ≤ length pool.slots)
    (stays : told ≡ true → (page ≡ 0 → u32_at 44 (mini.seen_in pool new page) ≤ length pool.slots) → now ≡ true) where
  was_known : is_known now past ≡ true → is_known told past ≡ true
  was_known k = known_by told past (was (known_told now past k)) (known_tells now past k)

  same_pages : (q : ℕ) → is_in q (pages_of new) ≡ is_in q (pages_of dealt)
  same_pages q = ap (is_in q) writes.pages

  new_readable : IsReadable pool new page
  new_readable none = let clash : true ≡ false = sym writes.copied ∙ ap is_some none in cc

  put_other : (q : ℕ) → q ≢ page → seen_in pool past new q ≡ seen_in pool past dealt q
  put_other q ne = ap (λ o. option_map_or body_of o (standing_in pool past q)) (writes.elsewhere q ne)

  put_here : seen_in pool past new page ≡ with_bytes at piece (seen_in pool past dealt page)
  put_here = sym (seen_is pool past new page new_readable) ∙ writes.here
      ∙ ap (with_bytes at piece) (seen_is pool past dealt page (is.readable page known))

  put_edits : (before : List ℕ) → MayStand pool new page before
      → option_map_or body_of (copy_of new page) before ≡ edited page (records ++ Put page at piece ∷ []) before
  put_edits before may =
      let stood : mini.seen_in pool dealt page ≡ option_map_or body_of (copy_of dealt page) before = go (copy_of dealt page) refl in
      any_default (copy_of new page) before (mini.standing_in pool page) writes.copied ∙ writes.here
      ∙ ap (with_bytes at piece) (stood ∙ is.edits page before (λ k standing. may (same_pages page ∙ k) standing))
      ∙ sym (edited-push page records (Put page at piece) before
      ∙ ap (λ b. cond b (with_bytes at piece (edited page records before)) (edited page records before)) (eq-eqb page page refl)) where
        go : (o : Option (List ℕ)) → copy_of dealt page ≡ o → mini.seen_in pool dealt page ≡ option_map_or body_of (copy_of dealt page) before
        go (Some bytes) copy = any_default (copy_of dealt page) (mini.standing_in pool page) before (ap is_some copy)
        go None none =
            let there = is.readable page known none in
            seen_none pool dealt page none ∙ one_stands pool page there ∙ sym (may (same_pages page ∙ known) there)
            ∙ sym (ap (λ o. option_map_or body_of o before) none)

  pub put_paged : IsPaged pool past new (records ++ Put page at piece ∷ []) now
  put_paged = record {
    frames = λ q. frame_is (is_known now past) q (place_in past q) (is_in q (pages_of dealt)) (is_in q (pages_of new)) (slot_of pool q) (slot_of pool q)
        (same_pages q) refl (frame_less (is_known told past) (is_known now past) q (place_in past q) (place_in past q) (is_in q (pages_of dealt))
        (slot_of pool q)
        was_known (λ k. refl) (is.frames q));
    readable = λ q k none. elim (cases_eq q page) [
      | inl same ↦ subst (λ (n : ℕ). copy_of new n ≡ None → is_standing pool n ≡ true) (sym same) new_readable none
      | inr ne ↦ is.readable q (sym (same_pages q) ∙ k) (sym (writes.elsewhere q ne) ∙ none)
    ];
    edits = λ q before may. elim (cases_eq q page) [
      | inl same ↦ subst (λ (n : ℕ). MayStand pool new n before
          → option_map_or body_of (copy_of new n) before ≡ edited n (records ++ Put page at piece ∷ []) before) (sym same) (put_edits before) may
      | inr ne ↦ ap (λ o. option_map_or body_of o before) (writes.elsewhere q ne)
          ∙ is.edits q before (λ k standing. may (same_pages q ∙ k) standing)
          ∙ sym (edited-push q records (Put page at piece) before
          ∙ ap (λ b. cond b (with_bytes at piece (edited q records before)) (edited q records before)) (apart_test page q ne))
    ];
    counted = λ k.
        let so = is.counted (was_known k) in
        record {
          framed = writes.framed so.framed;
          seen = elim (cases_eq page 0) [
            | inl zeroth ↦ subst (λ (n : ℕ). u32_at 44 (seen_in pool past new n) ≤ length pool.slots) zeroth
                (subst (λ (l : List ℕ). u32_at 44 l ≤ length pool.slots) (seen_is pool past new page new_readable) (few (known_told now past k) zeroth))
            | inr ne ↦ subst (λ (l : List ℕ). u32_at 44 l ≤ length pool.slots) (sym (put_other 0 (λ e. ne (sym e)))) so.seen
          ];
          standing = so.standing;
        };
  }

  pub put_puts : length piece + 9 ≤ spare_of records → Puts page at piece (state_of pool past dealt records told)
      (state_of pool past new (records ++ Put page at piece ∷ []) now)
  put_puts room = record {
    keeps = record { told = was_known; faults = omega arith; whole = refl };
    stays = λ counts tells_so good. known_by now past (stays (known_told told past tells_so) (λ zeroth.
        let so = is.counted tells_so in
        let same : u32_at 44 (mini.seen_in pool new page) ≡ u32_at 44 (with_bytes at piece (seen_in pool past dealt page)) =
        ap (u32_at 44) (seen_is pool past new page new_readable ∙ put_here) in
        omega (arith, same, counts zeroth, so.seen))) (known_tells told past tells_so);
    pages = λ tells_so. record { standing = refl; fault = refl; here = put_here; elsewhere = put_other };
    visited_is = writes.pages;
    spare = λ enough. spare-push records (Put page at piece) (length piece + 9) (length-put page at piece) enough;
  }

-- ---- a page is made

-- The pool is ready for the page to be made: its frame is that of one dealt with, and the others stand as before.
pub record Readies (known : Bool) (page : ℕ) (past : Past) (pool new : PoolView) (dealt : List Entry) : Type 0 where
  pub slots : length new.slots ≡ length pool.slots
  pub frames : (q : ℕ) → IsFrame known q (place_in past q) (is_in q (visit page (pages_of dealt))) (slot_of new q)
  pub stands_on : (q : ℕ) → is_in q (pages_of dealt) ≡ true → is_standing pool q ≡ true → (is_standing new q ≡ true) × (bytes_of new q ≡ bytes_of pool q)
  pub framed : AreFramed pool dealt → (q : ℕ) → is_some (copy_of dealt q) ≡ true → is_pooled new q ≡ true
  pub standing : known ≡ true → (q : ℕ) → standing_in new past q ≡ standing_in pool past q
  pub faults : known ≡ true → (q : ℕ) → fault_in new past q ≡ fault_in pool past q
  pub there : known ≡ true → page < length pool.slots → is_pooled new page ≡ true

module _ (pool : PoolView) (past : Past) (dealt : List Entry) (records : List Record) (told : Bool) (page : ℕ) (is : IsPaged pool past dealt records told) where
  -- it was dealt with before
  pub ready_known : is_in page (pages_of dealt) ≡ true → Readies (is_known told past) page past pool pool dealt
  ready_known known = record {
    slots = refl;
    frames = λ q. subst (λ (ps : List ℕ). IsFrame (is_known told past) q (place_in past q) (is_in q ps) (slot_of pool q))
        (sym (ap (λ b. cond b (pages_of dealt) (pages_of dealt ++ page ∷ [])) known)) (is.frames q);
    stands_on = λ q k standing. (standing, refl);
    framed = λ framed q some. framed q some;
    standing = λ k q. refl;
    faults = λ k q. refl;
    there = λ k within. go (copy_of dealt page) refl (is.counted k).framed;
  } where
    go : (o : Option (List ℕ)) → copy_of dealt page ≡ o → AreFramed pool dealt → is_pooled pool page ≡ true
    go None none framed = stands_holds (slot_of pool page) (is.readable page known none)
    go (Some bytes) some framed = framed page (ap is_some some)

  -- there is no such page
  pub ready_past : length pool.slots ≤ page → Readies (is_known told past) page past pool pool dealt
  ready_past past_end = record {
    slots = refl;
    frames = λ q. elim (cases_eq q page) [
      | inl same ↦
          let none : slot_of pool q ≡ None = ap (slot_of pool) same ∙ get_or_past pool.slots page None past_end in
          frame_bare (is_known told past) q (place_in past q) (is_in q (visit page (pages_of dealt))) (slot_of pool q) (ap holds none) (ap fixes_in none)
      | inr apart ↦ frame_is (is_known told past) q (place_in past q) (is_in q (pages_of dealt)) (is_in q (visit page (pages_of dealt))) (slot_of pool q)
          (slot_of pool q) (visited_other q page (pages_of dealt) (λ e. apart (sym e))) refl (is.frames q)
    ];
    stands_on = λ q k standing. (standing, refl);
    framed = λ framed q some. framed q some;
    standing = λ k q. refl;
    faults = λ k q. refl;
    there = λ k within. absurd (omega (arith, within, past_end));
  }

  -- it is fixed now
  pub ready_fixed : (new : PoolView) → is_in page (pages_of dealt) ≡ false → Fixes (is_known told past) page past past pool new
      → is_pooled new page ≡ true → Readies (is_known told past) page past pool new dealt
  ready_fixed new unknown fixes there = record {
    slots = fixes.slots;
    frames = known_frames pool new past past dealt records told page is (λ k. k) fixes unknown (visit page (pages_of dealt)) refl;
    stands_on = dealt_stands pool new past past dealt records told page is (λ k. k) fixes unknown;
    framed = dealt_framed pool new past past dealt records told page is (λ k. k) fixes unknown;
    standing = fixes.standing;
    faults = fixes.faults;
    there = λ k within. there;
  }

-- the page's copy is zeros
pub record Blanked (page : ℕ) (old new : List Entry) : Type 0 where
  pub pages : pages_of new ≡ visit page (pages_of old)
  pub here : copy_of new page ≡ Some blank
  pub elsewhere : (other : ℕ) → other ≢ page → copy_of new other ≡ copy_of old other

pub blanked_by : (page : ℕ) (old mid new : List Entry) → IsVisited page old mid → HasCopy page blank mid new → Blanked page old new
blanked_by page old mid new visited has = record {
  pages = has.pages ∙ visited.pages;
  here = has.here;
  elsewhere = λ q apart. has.elsewhere q apart ∙ visited.copies q;
}

module _ (pool new : PoolView) (past : Past) (dealt later : List Entry) (records : List Record) (told : Bool) (page : ℕ)
    (is : IsPaged pool past dealt records told) (ready : Readies (is_known told past) page past pool new dealt) (blanks : Blanked page dealt later)
    (within : is_known told past ≡ true → page < u32_at 44 (seen_in pool past dealt 0)) where
  made_other : is_known told past ≡ true → (q : ℕ) → q ≢ page → seen_in new past later q ≡ seen_in pool past dealt q
  made_other k q ne = ap (λ o. option_map_or body_of o (standing_in new past q)) (blanks.elsewhere q ne)
      ∙ ap (λ (l : List ℕ). option_map_or body_of (copy_of dealt q) l) (ready.standing k q)

  made_here : seen_in new past later page ≡ blank
  made_here = ap (λ o. option_map_or body_of o (standing_in new past page)) blanks.here ∙ body-blank

  made_was : (q : ℕ) → q ≢ page → is_in q (pages_of later) ≡ is_in q (pages_of dealt)
  made_was q ne = ap (is_in q) blanks.pages ∙ visited_other q page (pages_of dealt) (λ e. ne (sym e))

  pub made_paged : IsPaged new past later (records ++ Fresh page ∷ []) told
  made_paged = record {
    frames = λ q. subst (λ (ps : List ℕ). IsFrame (is_known told past) q (place_in past q) (is_in q ps) (slot_of new q)) (sym blanks.pages) (ready.frames q);
    readable = λ q known none. elim (cases_eq q page) [
      | inl same ↦
          let clash : Some blank ≡ None = sym blanks.here ∙ subst (λ (n : ℕ). copy_of later n ≡ None) same none in
          absurd cc
      | inr ne ↦
          let before : is_in q (pages_of dealt) ≡ true = sym (made_was q ne) ∙ known in
          (ready.stands_on q before (is.readable q before (sym (blanks.elsewhere q ne) ∙ none))).0
    ];
    edits = λ q before may. elim (cases_eq q page) [
      | inl same ↦ subst (λ (n : ℕ). option_map_or body_of (copy_of later n) before ≡ edited n (records ++ Fresh page ∷ []) before) (sym same)
          (ap (λ o. option_map_or body_of o before) blanks.here ∙ body-blank
          ∙ sym (edited-push page records (Fresh page) before ∙ ap (λ b. cond b blank (edited page records before)) (eq-eqb page page refl)))
      | inr ne ↦ ap (λ o. option_map_or body_of o before) (blanks.elsewhere q ne)
          ∙ is.edits q before (λ known standing.
          let both = ready.stands_on q known standing in
          may (made_was q ne ∙ known) both.0 ∙ ap body_of both.1)
          ∙ sym (edited-push q records (Fresh page) before ∙ ap (λ b. cond b blank (edited q records before)) (apart_test page q ne))
    ];
    counted = λ k.
        let so = is.counted k in
        let long = ready.slots in
        record {
          framed = λ q some. elim (cases_eq q page) [
            | inl same ↦ subst (λ (n : ℕ). is_pooled new n ≡ true) (sym same) (ready.there k (omega (arith, within k, so.seen)))
            | inr ne ↦ ready.framed so.framed q (sym (ap is_some (blanks.elsewhere q ne)) ∙ some)
          ];
          seen = elim (cases_eq page 0) [
            | inl zeroth ↦ subst (λ (n : ℕ). u32_at 44 (seen_in new past later n) ≤ length new.slots) zeroth
                (subst (λ (l : List ℕ). u32_at 44 l ≤ length new.slots) (sym made_here) (blank_counts (length new.slots)))
            | inr ne ↦ subst (λ (l : List ℕ). u32_at 44 l ≤ length new.slots) (sym (made_other k 0 (λ e. ne (sym e)))) (omega (arith, so.seen, long))
          ];
          standing = subst (λ (l : List ℕ). u32_at 44 l ≤ length new.slots) (sym (ready.standing k 0)) (omega (arith, so.standing, long));
        };
  }

  pub made_makes : Makes page (state_of pool past dealt records told) (state_of new past later (records ++ Fresh page ∷ []) told)
  made_makes = record {
    goes = record { told = λ k. k; stays = λ k good. k; faults = omega arith; whole = refl };
    pages = λ k. record {
      standing = λ i q. ready.standing k q i;
      fault = λ i q. ready.faults k q i;
      here = made_here ∙ blank_is;
      elsewhere = made_other k;
    };
    visited_is = blanks.pages;
    spare = λ enough. spare-push records (Fresh page) 5 (length-fresh page) enough;
  }
