-- A step of the flusher: each page stands as before, in the pool or on the disk.
use Rattle.std.proofs.Common.{◌≡◌, ◌≢◌, ℕ, ◌+◌, ◌<◌, ◌≤◌, Bool, true, false, cond, ◌⊎◌, inl, inr, List, ◌++◌, take, drop}
use Rattle.std.proofs.Common.{length, replicate, Option, Some, None, Result, Ok, Err, OnOk, refl, sym, ap, subst, ◌∙◌, arith}
use Rattle.std.specs.Prelude.{◌&&◌, not, is_ok}
use Rattle.std.specs.Int.{w64, from_be_bytes}
use Rattle.std.proofs.lemmas.List.{drop-drop}
use Rattle.std.specs.Option.{option_map_or}
use Rattle.std.proofs.lemmas.Bool.{cases_lt, eq-eqb}
use Rattle.sum64.specs.Fnv.{fnv_of}
use Rattle.store_api.specs.Areas.{State, PassesSum}
use Rattle.store_api.specs.Past.{Past}
use Rattle.stored_pages.specs.Words.{u32_at, u64_at, number_of, lsn_of}
use Rattle.log_format.specs.declared.group.Record.{Record}
use Rattle.redo_log.specs.View.{LogView}
use Rattle.buffer_pool.specs.Fixing.{page_in}
use Rattle.buffer_pool.specs.Frames.{PoolView, slot_of, is_dirty, is_standing, bytes_of}
use Rattle.mtr.specs.Seen.{is_in}
use Rattle.mtr.specs.Calls.{Looks as LooksAt}
use Rattle.mini_txn.specs.declared.dealt.Entry.{Entry}
use Rattle.mini_txn.specs.Dealt.{copy_of, pages_of}
use Rattle.mini_txn.specs.Edits.{blank}
use Rattle.mini_txn.specs.View.{body_of}
use Rattle.doublewrite.specs.Batches.{BatchView, StagedView, page_at, number_at}
use Rattle.doublewrite.specs.Places.{Leads}
use Rattle.flusher.specs.Cleaning.{HasSamePages, Settles, finished, is_among}
use Rattle.flusher.specs.Flushing.{Places}
use Rattle.flusher.specs.Working.{HasGathered, GoesOn, Advances, AreChanged, KeepsLog}
use Rattle.flusher.specs.declared.work.Worked.{Worked}
use Rattle.flusher.specs.declared.work.Worked.TheVariants.{Did, Idle}
use Rattle.flusher.proofs.Cleaned.{waits_as_before}
use Rattle.flusher.proofs.Home.{became_clean}
use Rattle.paged_txn.specs.View.{is_good, tells, is_known, place_in, can_be_read, stands, bytes_in, is_clean_in}
use Rattle.paged_txn.specs.View.{standing_in, seen_in, fault_in, state_of, IsFrame, IsPaged}
use Rattle.paged_txn.specs.UnderWay.{IsUnderWay, IsFlushed}
use Rattle.paged_txn.proofs.Told.{Told, told_of, tells_by, place_is, known_told, known_tells, known_by, faults_rise, stays_known}
use Rattle.paged_txn.proofs.Slots.{clean_stands}
use Rattle.paged_txn.proofs.Batched.{IsWellUnderWay, changed_in, under_way_in, flushed_by}
use Rattle.paged_txn.proofs.Dirty.{dirty_stands, stands_clean}

-- ---- after a step that failed

-- whatever the disk tells now, nothing is said of it
pub untold_paged : (pool new : PoolView) (past now : Past) (dealt : List Entry) (records : List Record) (told later : Bool)
    → IsPaged pool past dealt records told
    → HasSamePages pool new → later ≡ false → IsPaged new now dealt records later
untold_paged pool new past now dealt records told later is same none =
    let never : is_known later now ≡ true → ⊥ = λ k.
    let clash : true ≡ false = sym (known_told later now k) ∙ none in cc in
    record {
      frames = λ q.
          let frame = is.frames q in
          record {
            fixes = same.fixes q ∙ frame.fixes ∙ ap (λ b. cond (is_in q (pages_of dealt) && b) 1 0) (sym (same.pooled q));
            written = λ d there. same.standing q ∙ frame.written d (sym (same.pooled q) ∙ there);
            kept = λ k clean. absurd (never k);
          };
      readable = λ q known copy. same.standing q ∙ is.readable q known copy;
      edits = λ q before may. is.edits q before (λ known standing. may known (same.standing q ∙ standing) ∙ ap body_of (same.bytes q));
      counted = λ k. absurd (never k);
    }

-- ---- a page as it was taken

lsn_sealed : (old new : List ℕ) → drop 12 new ≡ drop 12 old → lsn_of new ≡ lsn_of old
unfolding u64_at
lsn_sealed old new behind = ap (λ (l : List ℕ). from_be_bytes w64 (take 8 l)) behind

body_sealed : (old new : List ℕ) → drop 12 new ≡ drop 12 old → body_of new ≡ body_of old
unfolding body_of
body_sealed old new behind =
    ap (λ (l : List ℕ). replicate 20 0 ++ l) (sym (drop-drop 8 12 new) ∙ ap (drop 8) behind ∙ drop-drop 8 12 old)

and_left : (a b : Bool) → (a && b) ≡ true → a ≡ true
and_left true b k = refl
and_left false b k = cc

-- ---- after one that didn't

-- how the batch under way goes on, or that there is none before and after
abbrev pub Steps : PoolView → Option StagedView → Option StagedView → Type 0
Steps pool old next = Advances pool old next ⊎ ((old ≡ None) × (next ≡ None))

-- a page that passes its sum and has this number
good_is : (page : ℕ) (bytes : List ℕ) → PassesSum bytes → number_of bytes ≡ page → is_good page bytes ≡ true
unfolding is_good u64_at
good_is page bytes sum number = both (eq-eqb (u64_at 0 bytes) (fnv_of (drop 8 bytes)) sum) (eq-eqb (number_of bytes) page number) where
  both : {a b : Bool} → a ≡ true → b ≡ true → (a && b) ≡ true
  both {a} {b} p q = ap (λ (x : Bool). x && b) p ∙ q

module _ (pool : PoolView) (past now : Past) (told : Bool) (log : LogView) where
  abbrev Known : Type 0
  Known = is_known told now ≡ true

  module _ (old : Option StagedView) (reads : Leads (Places old) past now) where
    before : Told now → (b : State) × (past.state_at past.moment ≡ Some b) × (s : State) × (now.state_at now.moment ≡ Some s) × Places old b s
    before t = let from = reads.now t.state t.ticks t.is in (from.0, from.1, t.state, t.is, from.2)

    pub step_told : tells now ≡ true → tells past ≡ true
    step_told k =
        let t = told_of now k in
        let from = reads.now t.state t.ticks t.is in
        tells_by past from.0 (omega (arith, reads.later, t.ticks)) from.1

    pub step_known : is_known told now ≡ true → is_known told past ≡ true
    step_known k = known_by told past (known_told told now k) (step_told (known_tells told now k))

  -- where nothing is under way, a read gives the same
  none_places : Leads (Places None) past now → Known → (q : ℕ) → place_in now q ≡ place_in past q
  none_places reads k q =
      let b = before None reads (told_of now (known_tells told now k)) in
      place_is now b.2 q b.3 ∙ ap (λ c. page_in q c.seen) b.4 ∙ sym (place_is past b.0 q b.1)

  -- and else of each page but the one that is placed
  module _ (s : StagedView) (reads : Leads (Places (Some s)) past now) (k : Known) where
    placed_here : place_in now (number_at s.batch s.placed) ≡ page_at s.batch s.placed
    placed_here =
        let b = before (Some s) reads (told_of now (known_tells told now k)) in
        place_is now b.2 (number_at s.batch s.placed) b.3 ∙ b.4.here

    placed_elsewhere : (q : ℕ) → q ≢ number_at s.batch s.placed → place_in now q ≡ place_in past q
    placed_elsewhere q apart =
        let b = before (Some s) reads (told_of now (known_tells told now k)) in
        place_is now b.2 q b.3 ∙ b.4.elsewhere q apart ∙ sym (place_is past b.0 q b.1)

    -- those that are placed then
    placed_more : IsUnderWay pool log past s → (j : ℕ) → j < s.placed + 1 → place_in now (number_at s.batch j) ≡ page_at s.batch j
    placed_more under j below = elim (cases_lt j s.placed) [
      | inl earlier ↦ placed_elsewhere (number_at s.batch j) (under.is_batch.distinct j s.placed earlier under.some_left) ∙ under.placed j earlier
      | inr from ↦
          let last : s.placed ≡ j = omega (arith, from, below) in
          subst (λ (i : ℕ). place_in now (number_at s.batch i) ≡ page_at s.batch i) last placed_here
    ]

module _ (pool new : PoolView) (past now : Past) (told : Bool) (log later : LogView) (old next : Option StagedView)
    (flushed : IsFlushed (is_known told past) pool log past old) (same : HasSamePages pool new) (settles : Settles (finished old next) pool new)
    (keeps : KeepsLog log later) (reads : Leads (Places old) past now) (steps : Steps pool old next) where
  was : is_known told now ≡ true → is_known told past ≡ true
  was = step_known pool past now told log old reads

  changed_was : AreChanged old pool
  changed_was = changed_in (is_known told past) pool log past old flushed

  under_was : is_known told now ≡ true → IsWellUnderWay pool log past old
  under_was k = under_way_in (is_known told past) pool log past old flushed (was k)

  -- a page that isn't changed in the pool is read as before
  place_by : (w : Option StagedView) → Leads (Places w) past now → AreChanged w pool → IsWellUnderWay pool log past w → is_known told now ≡ true
      → (q : ℕ) → is_dirty pool q ≡ false → place_in now q ≡ place_in past q
  place_by None leads changed under k q clean = none_places pool past now told log leads k q
  place_by (Some s) leads changed under k q clean = placed_elsewhere pool past now told log s leads k q (λ is.
      let clash : true ≡ false = sym (changed s.placed under.some_left) ∙ ap (is_dirty pool) (sym is) ∙ clean in cc)

  place_still : is_known told now ≡ true → (q : ℕ) → is_dirty pool q ≡ false → place_in now q ≡ place_in past q
  place_still k q clean = place_by old reads changed_was (under_was k) k q clean

  bare_clean : (q : ℕ) → is_standing pool q ≡ false → is_dirty pool q ≡ false
  bare_clean q none = go (is_dirty pool q) refl where
    go : (b : Bool) → is_dirty pool q ≡ b → is_dirty pool q ≡ false
    go false is = is
    go true is = let clash : true ≡ false = sym (dirty_stands (slot_of pool q) is).0 ∙ none in cc

  pub step_standing : is_known told now ≡ true → (q : ℕ) → standing_in new now q ≡ standing_in pool past q
  step_standing k q = go (is_standing pool q) refl where
    go : (b : Bool) → is_standing pool q ≡ b → standing_in new now q ≡ standing_in pool past q
    go true there =
        ap (λ t. cond t (body_of (bytes_of new q)) (cond (can_be_read (length new.slots) q (place_in now q)) (body_of (place_in now q)) blank))
        (same.standing q ∙ there) ∙ ap body_of (same.bytes q)
        ∙ sym (ap (λ t. cond t (body_of (bytes_of pool q))
        (cond (can_be_read (length pool.slots) q (place_in past q)) (body_of (place_in past q)) blank)) there)
    go false none =
        ap (λ t. cond t (body_of (bytes_of new q)) (cond (can_be_read (length new.slots) q (place_in now q)) (body_of (place_in now q)) blank))
        (same.standing q ∙ none) ∙ ap (λ n. cond (can_be_read n q (place_in now q)) (body_of (place_in now q)) blank) same.slots
        ∙ ap (λ p. cond (can_be_read (length pool.slots) q p) (body_of p) blank) (place_still k q (bare_clean q none))
        ∙ sym (ap (λ t. cond t (body_of (bytes_of pool q)) (cond (can_be_read (length pool.slots) q (place_in past q)) (body_of (place_in past q)) blank)) none)

  step_fault : is_known told now ≡ true → (q : ℕ) → fault_in new now q ≡ fault_in pool past q
  step_fault k q = go (is_standing pool q) refl where
    go : (b : Bool) → is_standing pool q ≡ b → fault_in new now q ≡ fault_in pool past q
    go true there =
        ap (λ t. cond t None (cond (can_be_read (length new.slots) q (place_in now q)) None (Some 0))) (same.standing q ∙ there)
        ∙ sym (ap (λ t. cond t None (cond (can_be_read (length pool.slots) q (place_in past q)) None (Some 0))) there)
    go false none =
        ap (λ t. cond t None (cond (can_be_read (length new.slots) q (place_in now q)) None (Some 0))) (same.standing q ∙ none)
        ∙ ap (λ n. cond (can_be_read n q (place_in now q)) None (Some 0)) same.slots
        ∙ ap (λ p. cond (can_be_read (length pool.slots) q p) None (Some 0)) (place_still k q (bare_clean q none))
        ∙ sym (ap (λ t. cond t None (cond (can_be_read (length pool.slots) q (place_in past q)) None (Some 0))) none)

  step_seen : is_known told now ≡ true → (dealt : List Entry) (q : ℕ) → seen_in new now dealt q ≡ seen_in pool past dealt q
  step_seen k dealt q = ap (λ (l : List ℕ). option_map_or body_of (copy_of dealt q) l) (step_standing k q)

  -- ---- a page that became clean has its place as it was placed

  not_settled : (q : ℕ) → new ≡ pool → is_dirty pool q ≡ true → is_clean_in (slot_of new q) ≡ true → ⊥
  not_settled q is dirty clean =
      let clash : true ≡ false = sym clean ∙ ap (λ (p : PoolView). is_clean_in (slot_of p q)) is ∙ (dirty_stands (slot_of pool q) dirty).1 in cc

  clean_dirty : (q : ℕ) → is_clean_in (slot_of new q) ≡ true → is_dirty new q ≡ false
  clean_dirty q clean = go (is_dirty new q) refl where
    go : (b : Bool) → is_dirty new q ≡ b → is_dirty new q ≡ false
    go false is = is
    go true is = let clash : true ≡ false = sym clean ∙ (dirty_stands (slot_of new q) is).1 in cc

  all_placed : (w : StagedView) (v : Option StagedView) → v ≡ None → Steps pool (Some w) v → w.placed + 1 ≡ w.batch.count
  all_placed w None is (inl goes) = goes
  all_placed w (Some v) is (inl goes) = absurd cc
  all_placed w v is (inr none) = absurd (let clash : Some w ≡ None = none.0 in cc)

  settled_by : (w v : Option StagedView) → Leads (Places w) past now → Settles (finished w v) pool new → Steps pool w v → AreChanged w pool
      → IsWellUnderWay pool log past w → is_known told now ≡ true → (q : ℕ) → is_dirty pool q ≡ true → is_clean_in (slot_of new q) ≡ true
      → (is_good q (place_in now q) ≡ true) × (body_of (bytes_of pool q) ≡ body_of (place_in now q))
  settled_by None v leads settled went changed under k q dirty clean = absurd (not_settled q settled dirty clean)
  settled_by (Some w) (Some v) leads settled went changed under k q dirty clean = absurd (not_settled q settled dirty clean)
  settled_by (Some w) None leads settled went changed under k q dirty clean =
      let found = became_clean w pool new settled q dirty (clean_dirty q clean) in
      let j = found.0 in
      let all = all_placed w None refl went in
      let place : place_in now q ≡ page_at w.batch j =
      ap (place_in now) (sym found.2) ∙ placed_more pool past now told log w leads k under j (omega (arith, found.1, all)) in
      let lsn : lsn_of (bytes_of pool (number_at w.batch j)) ≡ lsn_of (page_at w.batch j) = ap (λ n. lsn_of (bytes_of pool n)) found.2 ∙ found.3 in
      let body : body_of (bytes_of pool q) ≡ body_of (page_at w.batch j) = ap (λ n. body_of (bytes_of pool n)) (sym found.2) ∙
      under.same j found.1 (inl lsn) in (
        ap (is_good q) place ∙ good_is q (page_at w.batch j) (under.is_batch.sealed j found.1) found.2,
        body ∙ sym (ap body_of place),
      )

  step_frame : (q : ℕ) (dealt : Bool) → IsFrame (is_known told past) q (place_in past q) dealt (slot_of pool q)
      → IsFrame (is_known told now) q (place_in now q) dealt (slot_of new q)
  step_frame q dealt frame = record {
    fixes = same.fixes q ∙ frame.fixes ∙ ap (λ b. cond (dealt && b) 1 0) (sym (same.pooled q));
    written = λ d there. same.standing q ∙ frame.written d (sym (same.pooled q) ∙ there);
    kept = λ k clean. go k clean (is_dirty pool q) refl;
  } where
    go : is_known told now ≡ true → is_clean_in (slot_of new q) ≡ true → (b : Bool) → is_dirty pool q ≡ b
        → (is_good q (place_in now q) ≡ true) × (body_of (bytes_in (slot_of new q)) ≡ body_of (place_in now q))
    go k clean true dirty =
        let settled = settled_by old next reads settles steps changed_was (under_was k) k q dirty clean in
        (settled.0, ap body_of (same.bytes q) ∙ settled.1)
    go k clean false bare =
        let stood : stands (slot_of pool q) ≡ true = sym (same.standing q) ∙ clean_stands (slot_of new q) clean in
        let kept = frame.kept (was k) (stands_clean (slot_of pool q) stood bare) in
        let place = place_still k q bare in
        (ap (is_good q) place ∙ kept.0, ap body_of (same.bytes q) ∙ kept.1 ∙ sym (ap body_of place))

  -- ---- the mini-transaction sees the same

  module _ (dealt : List Entry) (records : List Record) (is : IsPaged pool past dealt records told) where
    pub step_paged : IsPaged new now dealt records told
    step_paged = record {
      frames = λ q. step_frame q (is_in q (pages_of dealt)) (is.frames q);
      readable = λ q known copy. same.standing q ∙ is.readable q known copy;
      edits = λ q before may. is.edits q before (λ known standing. may known (same.standing q ∙ standing) ∙ ap body_of (same.bytes q));
      counted = λ k.
          let so = is.counted (was k) in
          record {
            framed = λ q some. same.pooled q ∙ so.framed q some;
            seen = subst (λ (l : List ℕ). u32_at 44 l ≤ length new.slots) (sym (step_seen k dealt 0)) (omega (arith, so.seen, same.slots));
            standing = subst (λ (l : List ℕ). u32_at 44 l ≤ length new.slots) (sym (step_standing k 0)) (omega (arith, so.standing, same.slots));
          };
    }

    pub step_looks : past.faults ≤ now.faults → LooksAt (pages_of dealt) (state_of pool past dealt records told) (state_of new now dealt records told)
    step_looks later_faults = record {
      goes = record {
        told = was;
        stays = λ k fine. stays_known told past now later_faults k fine;
        faults = faults_rise past now (step_told pool past now told log old reads) later_faults;
        whole = refl;
      };
      pages = λ k. record {
        standing = λ i q. step_standing k q i;
        seen = λ i q. step_seen k dealt q i;
        fault = λ i q. step_fault k q i;
      };
      visited_is = refl;
      spare = refl;
    }

  -- ---- and the batch is known

  dirty_was : (w v : Option StagedView) → Settles (finished w v) pool new → (q : ℕ) → is_dirty new q ≡ true → is_dirty pool q ≡ true
  dirty_was None v settled q dirty = sym (ap (λ (p : PoolView). is_dirty p q) settled) ∙ dirty
  dirty_was (Some w) (Some v) settled q dirty = sym (ap (λ (p : PoolView). is_dirty p q) settled) ∙ dirty
  dirty_was (Some w) None settled q dirty =
      and_left (is_dirty pool q) (not (is_among w.batch w.batch.count q (lsn_of (bytes_of pool q)))) (sym (waits_as_before w pool new q settled) ∙ dirty)

  as_taken : (v : BatchView) (j : ℕ)
      → (lsn_of (bytes_of new (number_at v j)) ≡ lsn_of (page_at v j)) ⊎ (lsn_of (page_at v j) + 1 ≡ later.next)
      → (lsn_of (bytes_of pool (number_at v j)) ≡ lsn_of (page_at v j)) ⊎ (lsn_of (page_at v j) + 1 ≡ log.next)
  as_taken v j (inl lsn) = inl (ap lsn_of (sym (same.bytes (number_at v j))) ∙ lsn)
  as_taken v j (inr last) = inr (last ∙ keeps.next)

  begun_under_way : (v : StagedView) → HasGathered pool v → is_known told now ≡ true → IsUnderWay new later now v
  begun_under_way v begun k = record {
    is_batch = begun.is_batch;
    some_left = omega (arith, begun.none_placed, begun.some);
    earlier = λ j below.
        let lsn = lsn_sealed (bytes_of pool (number_at v.batch j)) (page_at v.batch j) (begun.gathers.sealed j below).behind in
        let early = flushed.earlier (was k) (number_at v.batch j) (begun.gathers.dirty j below) in
        omega (arith, lsn, early, keeps.next);
    same = λ j below taken. ap body_of (same.bytes (number_at v.batch j))
        ∙ sym (body_sealed (bytes_of pool (number_at v.batch j)) (page_at v.batch j) (begun.gathers.sealed j below).behind);
    placed = λ j below. absurd (omega (arith, below, begun.none_placed));
  }

  under_way_on : (w v : StagedView) → Leads (Places (Some w)) past now → GoesOn w (Some v) → IsUnderWay pool log past w → is_known told now ≡ true
      → IsUnderWay new later now v
  under_way_on w v leads goes under k =
      let count : v.batch.count ≡ w.batch.count = ap (λ (b : BatchView). b.count) goes.0 in
      subst (λ (b : BatchView). IsUnderWay new later now (record { batch = b; placed = v.placed })) (sym goes.0) (record {
        is_batch = under.is_batch;
        some_left = omega (arith, goes.2, count);
        earlier = λ j below. let early = under.earlier j below in omega (arith, early, keeps.next);
        same = λ j below taken. ap body_of (same.bytes (number_at w.batch j)) ∙ under.same j below (as_taken w.batch j taken);
        placed = λ j below. placed_more pool past now told log w leads k under j (omega (arith, below, goes.1));
      })

  under_by : (w v : Option StagedView) → Leads (Places w) past now → Steps pool w v → IsWellUnderWay pool log past w → is_known told now ≡ true
      → IsWellUnderWay new later now v
  under_by w None leads went under k = tt
  under_by None (Some v) leads (inl begun) under k = begun_under_way v begun k
  under_by None (Some v) leads (inr none) under k = absurd (let clash : Some v ≡ None = none.1 in cc)
  under_by (Some w) (Some v) leads (inl goes) under k = under_way_on w v leads goes under k
  under_by (Some w) (Some v) leads (inr none) under k = absurd (let clash : Some v ≡ None = none.1 in cc)

  pub step_flushed : AreChanged next new → IsFlushed (is_known told now) new later now next
  step_flushed changed = flushed_by (is_known told now) new later now next changed
      (λ k q dirty.
      let early = flushed.earlier (was k) q (dirty_was old next settles q dirty) in
      subst (λ (l : List ℕ). lsn_of l < later.next) (sym (same.bytes q)) (omega (arith, early, keeps.next)))
      (λ k. under_by old next reads steps (under_was k) k)

-- ---- whatever was answered

and_all : (a : Bool) → (a && true) ≡ a
and_all true = refl
and_all false = refl

and_none : (a : Bool) → (a && false) ≡ false
and_none true = refl
and_none false = refl

pub untold_flushed : (known : Bool) (pool : PoolView) (log : LogView) (past : Past) (staged : Option StagedView) → known ≡ false → AreChanged staged pool
    → IsFlushed known pool log past staged
untold_flushed known pool log past staged none changed =
    let never : known ≡ true → ⊥ = λ k. let clash : true ≡ false = sym k ∙ none in cc in
    flushed_by known pool log past staged changed (λ k. absurd (never k)) (λ k. absurd (never k))

-- the pages are told still unless the step failed
module _ {E : Type 0} (result : Result Worked E) (pool new : PoolView) (past now : Past) (told : Bool) (log later : LogView) (old next : Option StagedView)
    (flushed : IsFlushed (is_known told past) pool log past old) (same : HasSamePages pool new) (settles : Settles (finished old next) pool new)
    (keeps : KeepsLog log later) (reads : OnOk result (Leads (Places old) past now)) (did : result ≡ Ok Did → Advances pool old next)
    (idle : result ≡ Ok Idle → (old ≡ None) × (next ≡ old)) where
  steps : (r : Result Worked E) → result ≡ r → is_ok r ≡ true → Leads (Places old) past now × Steps pool old next
  steps (Ok Did) is ok = (subst (λ (r : Result Worked E). OnOk r (Leads (Places old) past now)) is reads, inl (did is))
  steps (Ok Idle) is ok = (subst (λ (r : Result Worked E). OnOk r (Leads (Places old) past now)) is reads, inr ((idle is).0, (idle is).1 ∙ (idle is).0))
  steps (Err e) is ok = cc

  none_known : is_ok result ≡ false → is_known (told && is_ok result) now ≡ false
  none_known none = ap (λ b. is_known (told && b) now) none ∙ ap (λ b. b && tells now) (and_none told)

  module _ (dealt : List Entry) (records : List Record) (is : IsPaged pool past dealt records told) where
    pub stepped_paged : IsPaged new now dealt records (told && is_ok result)
    stepped_paged = go (is_ok result) refl where
      go : (b : Bool) → is_ok result ≡ b → IsPaged new now dealt records (told && is_ok result)
      go true ok =
          let s = steps result refl ok in
          subst (λ (b : Bool). IsPaged new now dealt records b) (sym (ap (λ b. told && b) ok ∙ and_all told))
          (step_paged pool new past now told log later old next flushed same settles keeps s.0 s.1 dealt records is)
      go false none = untold_paged pool new past now dealt records told (told && is_ok result) is same (ap (λ b. told && b) none ∙ and_none told)

    pub stepped_looks : past.faults ≤ now.faults
        → OnOk result (LooksAt (pages_of dealt) (state_of pool past dealt records told) (state_of new now dealt records (told && is_ok result)))
    stepped_looks later_faults = go result refl where
      go : (r : Result Worked E) → result ≡ r
          → OnOk r (LooksAt (pages_of dealt) (state_of pool past dealt records told) (state_of new now dealt records (told && is_ok result)))
      go (Ok worked) ok =
          let s = steps result refl (ap is_ok ok) in
          subst (λ (b : Bool). LooksAt (pages_of dealt) (state_of pool past dealt records told) (state_of new now dealt records b))
          (sym (ap (λ r. told && is_ok r) ok ∙ and_all told))
          (step_looks pool new past now told log later old next flushed same settles keeps s.0 s.1 dealt records is later_faults)
      go (Err e) bad = tt

  pub stepped_flushed : AreChanged next new → IsFlushed (is_known (told && is_ok result) now) new later now next
  stepped_flushed changed = go (is_ok result) refl where
    go : (b : Bool) → is_ok result ≡ b → IsFlushed (is_known (told && is_ok result) now) new later now next
    go true ok =
        let s = steps result refl ok in
        subst (λ (b : Bool). IsFlushed (is_known b now) new later now next) (sym (ap (λ b. told && b) ok ∙ and_all told))
        (step_flushed pool new past now told log later old next flushed same settles keeps s.0 s.1 changed)
    go false none = untold_flushed (is_known (told && is_ok result) now) new later now next (none_known none) changed
