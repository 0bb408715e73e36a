-- A page that was asked for is fixed now, or it is told why not.
use Rattle.std.proofs.Common.{◌≡◌, ℕ, ◌<◌, ◌≤◌, Bool, true, false, cond, ◌⊎◌, inl, inr, List, length, Option, Some, None, refl, sym, ap, subst, ◌∙◌, arith}
use Rattle.std.specs.Prelude.{◌&&◌, ◌||◌, nat_lt, is_some, option_map}
use Rattle.std.proofs.lemmas.Bool.{lt-ltb, ltb-true}
use Rattle.store_api.specs.declared.visits.Visit.{Visit}
use Rattle.store_api.specs.declared.visits.Visit.TheVariants.{Failed, Again, Bad}
use Rattle.store_api.specs.Causes.{Rose}
use Rattle.store_api.specs.Past.{Past, Now}
use Rattle.buffer_pool.specs.Fixing.{page_in}
use Rattle.log_format.specs.declared.group.Record.{Record}
use Rattle.buffer_pool.specs.declared.frame.Content.TheVariants.{Clean}
use Rattle.buffer_pool.specs.Frames.{FrameView, PoolView, slot_of, is_pooled, is_standing, is_idle_at, fixed, moved}
use Rattle.mtr.specs.Seen.{is_in}
use Rattle.mtr.specs.Calls.{Looks as LooksAt, Explains}
use Rattle.mini_txn.specs.declared.dealt.Entry.{Entry}
use Rattle.mini_txn.specs.Dealt.{pages_of}
use Rattle.mini_txn.specs.View.{body_of}
use Rattle.buffer_pool.proofs.Orders.{last_where_passes}
use Rattle.buffer_pool.proofs.SlotEdits.{idle_within}
use Rattle.mini_txn.proofs.Keeping.{edit_here, moved_here}
use Rattle.paged_txn.specs.View.{is_good, is_known, tells, faults_of, place_in, can_be_read, stands, standing_by, standing_in, fault_in, state_of, IsFrame}
use Rattle.paged_txn.specs.View.{IsPaged}
use Rattle.paged_txn.specs.Fixing.{Fixes}
use Rattle.paged_txn.specs.Bringing.{Looks, IsHeld, IsLetIn, IsRefused, is_no_fault}
use Rattle.paged_txn.proofs.Slots.{same_read, bare_stands, frame_less, frame_is}
use Rattle.paged_txn.proofs.Fixed.{held_fixes, moved_fixes}
use Rattle.paged_txn.proofs.Told.{read_is, refused_is, known_told, known_tells, known_by, told_before, same_places, faults_rise, rose_too, stays_known}
use Rattle.paged_txn.proofs.Meeting.{looked_paged, looked_looks}

pub record Brings (told : Bool) (page : ℕ) (before now : Past) (pool new : PoolView) : Type 0 where
  pub was : is_known told now ≡ true → is_known told before ≡ true
  pub tells_was : tells now ≡ true → tells before ≡ true
  pub fixes : Fixes (is_known told now) page before now pool new
  pub stands_now : is_standing new page ≡ true

module _ (told : Bool) (page : ℕ) (before : Past) (pool new : PoolView) (dealt : ℕ → Bool)
    (frames : (q : ℕ) → IsFrame (is_known told before) q (place_in before q) (dealt q) (slot_of pool q)) (unknown : dealt page ≡ false) where
  held_brings : (now : Past) → IsHeld page before now pool new → Brings told page before now pool new
  held_brings now held = subst (λ (p : Past). Brings told page before p pool new) (sym held.past_is)
      (subst (Brings told page before before pool) (sym held.pool_is) (record {
        was = λ k. k;
        tells_was = λ k. k;
        fixes = held_fixes (is_known told before) page before pool
            (frame_is (is_known told before) page (place_in before page) (dealt page) false (slot_of pool page) (slot_of pool page) (sym unknown) refl
            (frames page))
            held.there;
        stands_now = ap stands (edit_here pool.slots page fixed) ∙ fixed_stands (slot_of pool page) ∙ (frames page).written unknown held.there;
      })) where
        fixed_stands : (slot : Option FrameView) → stands (option_map fixed slot) ≡ stands slot
        fixed_stands None = refl
        fixed_stands (Some f) = refl

  from_within : {now : Past} (brought : IsLetIn page before now pool new) → brought.from < length pool.slots
  from_within brought = idle_within pool.slots brought.from (last_where_passes (is_idle_at pool.slots) pool.order brought.from brought.from_is)

  let_in_brings : (now : Past) → IsLetIn page before now pool new → Brings told page before now pool new
  let_in_brings now brought =
      let was : is_known told now ≡ true → is_known told before ≡ true =
      λ k. known_by told before (known_told told now k) (told_before true before now brought.looked (known_tells told now k)) in
      let places : is_known told now ≡ true → (q : ℕ) → place_in now q ≡ place_in before q =
      λ k q. same_places true before now brought.looked refl (known_tells told now k) q in
      let frame : FrameView = record { bytes = brought.bytes; content = Clean; fixes = 1 } in
      let read : is_known told now ≡ true → brought.bytes ≡ place_in before page =
      λ k. read_is before page brought.bytes (known_tells told before (was k)) brought.read in
      let fixes : Fixes (is_known told now) page before now pool (moved brought.from page frame pool) =
      moved_fixes (is_known told now) page brought.from before now frame pool dealt places
      (λ q. frame_less (is_known told before) (is_known told now) q (place_in before q) (place_in before q) (dealt q) (slot_of pool q) was (λ k. refl)
      (frames q))
      brought.within brought.absent brought.from_is
      (record {
        fixes = refl;
        written = λ d h. absurd cc;
        kept = λ k clean.
            let there : brought.bytes ≡ place_in now page = read k ∙ sym (places k page) in
            (sym (ap (is_good page) there) ∙ brought.good, ap body_of there);
      })
      (λ k.
      let can : can_be_read (length pool.slots) page (place_in before page) ≡ true =
      ap (λ b. b && is_good page (place_in before page)) (lt-ltb page (length pool.slots) brought.within)
      ∙ sym (ap (is_good page) (read k)) ∙ brought.good in
      (same_read (can_be_read (length pool.slots) page (place_in before page)) (place_in before page) (Some frame) (slot_of pool page) refl
      (bare_stands (slot_of pool page) brought.absent) can (ap body_of (read k))).1) in
      record {
        was = was;
        tells_was = told_before true before now brought.looked;
        fixes = subst (Fixes (is_known told now) page before now pool) (sym brought.pool_is) fixes;
        stands_now = ap (λ (p : PoolView). is_standing p page) brought.pool_is
            ∙ ap stands (moved_here pool.slots brought.from page (Some frame) (from_within brought) brought.within);
      }

  pub brings : (now : Past) → IsHeld page before now pool new ⊎ IsLetIn page before now pool new → Brings told page before now pool new
  brings now (inl held) = held_brings now held
  brings now (inr brought) = let_in_brings now brought

  -- where the pages were known, it is shown as it stood, whatever the disk tells now
  pub brings_shown : (now : Past) → is_known told before ≡ true → IsHeld page before now pool new ⊎ IsLetIn page before now pool new
      → standing_in new now page ≡ standing_in pool before page
  brings_shown now k (inl held) = subst (λ (p : Past). standing_in new p page ≡ standing_in pool before page) (sym held.past_is)
      (subst (λ (p : PoolView). standing_in p before page ≡ standing_in pool before page) (sym held.pool_is)
      ((held_fixes (is_known told before) page before pool
      (frame_is (is_known told before) page (place_in before page) (dealt page) false (slot_of pool page) (slot_of pool page) (sym unknown) refl (frames page))
      held.there).standing k page))
  brings_shown now k (inr brought) =
      let frame : FrameView = record { bytes = brought.bytes; content = Clean; fixes = 1 } in
      let here : slot_of new page ≡ Some frame = ap (λ (p : PoolView). slot_of p page) brought.pool_is
      ∙ moved_here pool.slots brought.from page (Some frame) (from_within brought) brought.within in
      let read : brought.bytes ≡ place_in before page = read_is before page brought.bytes (known_tells told before k) brought.read in
      let can : can_be_read (length pool.slots) page (place_in before page) ≡ true =
      ap (λ b. b && is_good page (place_in before page)) (lt-ltb page (length pool.slots) brought.within)
      ∙ sym (ap (is_good page) read) ∙ brought.good in
      ap (λ s. standing_by s (can_be_read (length new.slots) page (place_in now page)) (place_in now page)) here
      ∙ (same_read (can_be_read (length pool.slots) page (place_in before page)) (place_in before page) (Some frame) (slot_of pool page) refl
      (bare_stands (slot_of pool page) brought.absent) can (ap body_of read)).1.standing

-- ---- why not

and_none : (a : Bool) → (a && false) ≡ false
and_none true = refl
and_none false = refl

and_all : (a : Bool) → (a && true) ≡ a
and_all true = refl
and_all false = refl

pub record Refuses (told later : Bool) (page : ℕ) (before now : Past) (pool : PoolView) (dealt : List Entry) (records : List Record)
    (why : Visit) : Type 0 where
  pub was : is_known later now ≡ true → is_known told before ≡ true
  pub places : is_known later now ≡ true → (q : ℕ) → place_in now q ≡ place_in before q
  pub paged : IsPaged pool now dealt records later
  pub looks : LooksAt (pages_of dealt) (state_of pool before dealt records told) (state_of pool now dealt records later)
  pub explains : Explains page (state_of pool before dealt records told) (state_of pool now dealt records later) why

module _ (told : Bool) (page : ℕ) (before now : Past) (pool : PoolView) (dealt : List Entry) (records : List Record)
    (is : IsPaged pool before dealt records told) (unknown : is_in page (pages_of dealt) ≡ false) (later_faults : before.faults ≤ now.faults) where
  -- the disk is as it was, or was read in vain
  look_on : (later : Bool) → (tells now ≡ true → tells before ≡ true) → (is_known later now ≡ true → is_known told before ≡ true)
      → (is_known later now ≡ true → (q : ℕ) → place_in now q ≡ place_in before q)
      → (is_known told before ≡ true → (Rose (faults_of before) (faults_of now) → ⊥) → is_known later now ≡ true)
      → IsPaged pool now dealt records later × LooksAt (pages_of dealt) (state_of pool before dealt records told) (state_of pool now dealt records later)
  look_on later tells_was was same stays = (
    looked_paged pool before now dealt records told later is was same,
    looked_looks pool before now dealt records told later is was same stays (faults_rise before now tells_was later_faults),
  )

  absent_fault : is_pooled pool page ≡ false → can_be_read (length pool.slots) page (place_in before page) ≡ false → fault_in pool before page ≡ Some 0
  absent_fault absent none =
      ap (λ b. cond b None (cond (can_be_read (length pool.slots) page (place_in before page)) None (Some 0))) (bare_stands (slot_of pool page) absent)
      ∙ ap (λ b. cond b None (Some 0)) none

  past_end : (n count : ℕ) (place : List ℕ) → count ≤ n → can_be_read count n place ≡ false
  past_end n count place past = go (nat_lt n count) refl where
    go : (b : Bool) → nat_lt n count ≡ b → (b && is_good n place) ≡ false
    go true q = absurd (omega (arith, past, ltb-true n count q))
    go false q = refl

  pub refuses : (why : Visit) → IsRefused page before now pool why → Refuses told (told && is_no_fault why) page before now pool dealt records why
  refuses Failed refused =
      let never : is_known (told && false) now ≡ true → ⊥ = λ k.
      let clash : true ≡ false = sym (known_told (told && false) now k) ∙ and_none told in cc in
      let tells_was = told_before false before now refused.1 in
      let rose = rose_too before now tells_was refused.0 in
      let on = look_on (told && false) tells_was (λ k. absurd (never k)) (λ k q. absurd (never k)) (λ k fine. absurd (fine rose)) in
      record { was = λ k. absurd (never k); places = λ k q. absurd (never k); paged = on.0; looks = on.1; explains = rose }
  refuses Again refused =
      let same : now ≡ before = refused.2 in
      let later = and_all told in
      subst (λ (p : Past). Refuses told (told && true) page before p pool dealt records Again) (sym same)
      (subst (λ (b : Bool). Refuses told b page before before pool dealt records Again) (sym later) (record {
        was = λ k. k;
        places = λ k q. refl;
        paged = is;
        looks = looked_looks pool before before dealt records told told is (λ k. k) (λ k q. refl) (λ k fine. k) (omega arith);
        explains = (
          record {
            absent = ap (λ b. b || is_in page (pages_of dealt)) refused.0 ∙ unknown;
            none_free = ap is_some refused.1;
          },
          refl,
        );
      }))
  refuses (Bad number rule) refused = subst (λ (b : Bool). Refuses told b page before now pool dealt records (Bad number rule)) (sym (and_all told))
      (go refused.2.none) where
        go : ((length pool.slots ≤ page) × (now ≡ before)) ⊎ (Looks true before now
            × Now (λ s. is_good page (page_in page s.pages.seen) ≡ false) before)
            → Refuses told told page before now pool dealt records (Bad number rule)
        go (inl none) = subst (λ (p : Past). Refuses told told page before p pool dealt records (Bad number rule)) (sym none.1) (record {
          was = λ k. k;
          places = λ k q. refl;
          paged = is;
          looks = looked_looks pool before before dealt records told told is (λ k. k) (λ k q. refl) (λ k fine. k) (omega arith);
          explains = (
            refused.0,
            λ k. absent_fault refused.2.absent (past_end page (length pool.slots) (place_in before page) none.0) ∙
                ap Some (sym refused.1),
          );
        })
        go (inr read) =
            let tells_was = told_before true before now read.0 in
            let was : is_known told now ≡ true → is_known told before ≡ true =
            λ k. known_by told before (known_told told now k) (tells_was (known_tells told now k)) in
            let on = look_on told tells_was was (λ k q. same_places true before now read.0 refl (known_tells told now k) q)
            (λ k fine. stays_known told before now later_faults k fine) in
            record {
              was = was;
              places = λ k q. same_places true before now read.0 refl (known_tells told now k) q;
              paged = on.0;
              looks = on.1;
              explains = (
                refused.0,
                λ k.
                    let bad : is_good page (place_in before page) ≡ false = refused_is before page (known_tells told before k) read.1 in
                    absent_fault refused.2.absent (ap (λ b. nat_lt page (length pool.slots) && b) bad ∙ and_none (nat_lt page (length pool.slots))) ∙
                    ap Some (sym refused.1),
              );
            }
