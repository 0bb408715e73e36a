-- The end of a mini-transaction: what was placed stands, and each page is let go.
use Rattle.std.proofs.Common.{◌≡◌, ℕ, ◌≤◌, Bool, true, false, cond, ◌⊎◌, inl, inr, List, [], length, Option, Some, None, refl, sym, ap, subst}
use Rattle.std.proofs.Common.{◌∙◌, arith}
use Rattle.std.specs.Prelude.{◌==◌, ◌&&◌, ◌||◌, option_map, is_some}
use Rattle.std.specs.Option.{option_map_or}
use Rattle.store_api.specs.Past.{Past}
use Rattle.stored_pages.specs.Words.{u32_at}
use Rattle.log_format.specs.declared.group.Record.{Record}
use Rattle.buffer_pool.specs.Frames.{FrameView, PoolView, slot_of, is_pooled, is_standing, is_written, unfixed, content_after}
use Rattle.mtr.specs.Seen.{is_in}
use Rattle.mtr.specs.Calls.{Commits, GivesUp}
use Rattle.mini_txn.specs.declared.dealt.Entry.{Entry}
use Rattle.mini_txn.specs.Dealt.{copy_of, pages_of}
use Rattle.mini_txn.specs.Edits.{blank}
use Rattle.mini_txn.specs.View.{body_of, shows, IsReadable, IsStamped, Places}
use Rattle.mini_txn.proofs.Entries.{copied_is_in}
use Rattle.mini_txn.proofs.Meeting.{one_stands}
use Rattle.paged_txn.specs.View.{is_known, place_in, can_be_read, holds, stands, fixes_in, bytes_in, is_clean, is_clean_in, standing_by, fault_by, standing_in}
use Rattle.paged_txn.specs.View.{seen_in, fault_in, state_of, IsFrame, IsPaged}
use Rattle.paged_txn.specs.Ending.{let_go, LetsGo, IsPut}
use Rattle.paged_txn.proofs.Slots.{IsLetGo, lets_go}
use Rattle.paged_txn.proofs.Meeting.{seen_is}

-- a frame that holds a page of the group
stamped_is : (page lsn : ℕ) (slot : Option FrameView) → IsStamped page lsn slot → (stands slot ≡ true) × (is_clean_in slot ≡ false)
stamped_is page lsn None h = absurd h
stamped_is page lsn (Some f) h = (ap is_written h.0, ap is_clean h.0)

abbrev IsMid : ℕ → ℕ → Option FrameView → Option FrameView → Type 0
IsMid page lsn old mid = (mid ≡ old) ⊎ IsStamped page lsn mid

module _ (known : Bool) (past : Past) (pages : List ℕ) (lsn : ℕ) (pool mid new : PoolView)
    (frames : (q : ℕ) → IsFrame known q (place_in past q) (is_in q pages) (slot_of pool q))
    (fixes : (q : ℕ) → fixes_in (slot_of mid q) ≡ fixes_in (slot_of pool q)) (holds_same : (q : ℕ) → holds (slot_of mid q) ≡ holds (slot_of pool q))
    (mids : (q : ℕ) → IsMid q lsn (slot_of pool q) (slot_of mid q)) (goes : LetsGo pages mid new) where
  few : (q : ℕ) → fixes_in (slot_of mid q) ≤ 1
  few q = omega (arith, fixes q, (frames q).fixes, most (is_in q pages) (holds (slot_of pool q))) where
    most : (a b : Bool) → ◌≤◌ (cond (a && b) 1 0) 1
    most true true = omega arith
    most true false = omega arith
    most false b = omega arith

  -- each frame is let go, or needn't be
  pub gone : (q : ℕ) → IsLetGo (slot_of mid q) (slot_of new q)
  gone q = go (is_in q pages) refl (goes.each few q) where
    go : (b : Bool) → is_in q pages ≡ b → slot_of new q ≡ cond b (option_map let_go (slot_of mid q)) (slot_of mid q) → IsLetGo (slot_of mid q) (slot_of new q)
    go true is final = subst (IsLetGo (slot_of mid q)) (sym final) (lets_go (slot_of mid q) (few q) (λ there.
        let one : fixes_in (slot_of pool q) ≡ 1 = (frames q).fixes ∙ ap (λ b. cond (b && holds (slot_of pool q)) 1 0) is
        ∙ ap (λ b. cond b 1 0) (sym (holds_same q) ∙ there) in
        omega (arith, one, fixes q)))
    go false is final = subst (IsLetGo (slot_of mid q)) (sym final) (record {
      fixes = fixes q ∙ (frames q).fixes ∙ ap (λ b. cond (b && holds (slot_of pool q)) 1 0) is;
      stands_is = refl;
      bytes = refl;
      clean = refl;
      holds_is = λ there. elim (mids q) [
        | inl same ↦ ap stands same ∙ (frames q).written is (sym (holds_same q) ∙ there)
        | inr stamped ↦ (stamped_is q lsn (slot_of mid q) stamped).0
      ];
    })

  pub gone_frames : (q : ℕ) → IsFrame known q (place_in past q) false (slot_of new q)
  gone_frames q = record {
    fixes = (gone q).fixes;
    written = λ none there. (gone q).holds_is there;
    kept = λ k clean.
        let was : is_clean_in (slot_of mid q) ≡ true = sym (gone q).clean ∙ clean in
        elim (mids q) [
          | inl same ↦
              let kept = (frames q).kept k (sym (ap is_clean_in same) ∙ was) in
              (kept.0, ap body_of ((gone q).bytes ∙ ap bytes_in same) ∙ kept.1)
          | inr stamped ↦
              let clash : true ≡ false = sym was ∙ (stamped_is q lsn (slot_of mid q) stamped).1 in
              absurd cc
        ];
  }

  -- what stood in the frames stands still
  pub gone_standing : (q : ℕ) (readable : Bool) (place : List ℕ) → standing_by (slot_of new q) readable place ≡ standing_by (slot_of mid q) readable place
  gone_standing q readable place =
      ap (λ (l : List ℕ). cond (stands (slot_of new q)) (body_of l) (cond readable (body_of place) blank)) (gone q).bytes
      ∙ ap (λ b. cond b (body_of (bytes_in (slot_of mid q))) (cond readable (body_of place) blank)) (gone q).stands_is

  pub gone_fault : (q : ℕ) (readable : Bool) → fault_by (slot_of new q) readable ≡ fault_by (slot_of mid q) readable
  gone_fault q readable = ap (λ b. cond b None (cond readable None (Some 0))) (gone q).stands_is

-- ---- all stand

stamped_gone : (page lsn : ℕ) (slot : Option FrameView) → IsStamped page lsn slot → IsStamped page lsn (option_map let_go slot)
stamped_gone page lsn None h = absurd h
stamped_gone page lsn (Some f) h = go (f.fixes == 0) where
  go : (b : Bool) → IsStamped page lsn (Some (cond b f (unfixed f)))
  go true = h
  go false = (ap (λ content. content_after content f.fixes) h.0, h.1, h.2)

module _ (pool mid new : PoolView) (past : Past) (dealt : List Entry) (records : List Record) (told : Bool) (lsn : ℕ)
    (is : IsPaged pool past dealt records told) (places : Places lsn pool dealt mid []) (goes : LetsGo (pages_of dealt) mid new) where
  mids : (q : ℕ) → IsMid q lsn (slot_of pool q) (slot_of mid q)
  mids q = go (places.slot_is q) where
    go : ((slot_of mid q ≡ slot_of pool q) × ((None ≡ copy_of dealt q) ⊎ (is_pooled pool q ≡ false))) ⊎ IsStamped q lsn (slot_of mid q)
        → IsMid q lsn (slot_of pool q) (slot_of mid q)
    go (inl same) = inl same.0
    go (inr stamped) = inr stamped

  ended_frames : (q : ℕ) → IsFrame (is_known told past) q (place_in past q) false (slot_of new q)
  ended_frames = gone_frames (is_known told past) past (pages_of dealt) lsn pool mid new is.frames places.fixes places.pooled mids goes

  long : length new.slots ≡ length pool.slots
  long = goes.slots ∙ places.slots

  can : ℕ → Bool
  can q = can_be_read (length pool.slots) q (place_in past q)

  mid_standing : (q : ℕ) → standing_in new past q ≡ standing_by (slot_of mid q) (can q) (place_in past q)
  unfolding can
  mid_standing q = ap (λ n. standing_by (slot_of new q) (can_be_read n q (place_in past q)) (place_in past q)) long
      ∙ gone_standing (is_known told past) past (pages_of dealt) lsn pool mid new is.frames places.fixes places.pooled mids goes q (can q) (place_in past q)

  mid_fault : (q : ℕ) → fault_in new past q ≡ fault_by (slot_of mid q) (can q)
  unfolding can
  mid_fault q = ap (λ n. fault_by (slot_of new q) (can_be_read n q (place_in past q))) long
      ∙ gone_fault (is_known told past) past (pages_of dealt) lsn pool mid new is.frames places.fixes places.pooled mids goes q (can q)

  -- a page of the group had a copy, or stood
  stamped_readable : is_known told past ≡ true → (q : ℕ) → stands (slot_of mid q) ≡ true → IsReadable pool dealt q
  stamped_readable k q standing none =
      let shown : is_standing mid q ≡ shows pool dealt q = places.shown (is.counted k).framed q in
      sym (sym standing ∙ shown ∙ ap (λ o. is_some o || is_standing pool q) none)

  pub commit_seen : is_known told past ≡ true → (q : ℕ) → standing_in new past q ≡ seen_in pool past dealt q
  unfolding can
  commit_seen k q = mid_standing q ∙ go (places.frames (is.counted k).framed q) where
    go : ((None ≡ copy_of dealt q) × (slot_of mid q ≡ slot_of pool q)) ⊎ IsStamped q lsn (slot_of mid q)
        → standing_by (slot_of mid q) (can_be_read (length pool.slots) q (place_in past q)) (place_in past q) ≡ seen_in pool past dealt q
    go (inl same) = ap (λ s. standing_by s (can_be_read (length pool.slots) q (place_in past q)) (place_in past q)) same.1
        ∙ ap (λ o. option_map_or body_of o (standing_in pool past q)) same.0
    go (inr stamped) =
        let standing = (stamped_is q lsn (slot_of mid q) stamped).0 in
        ap (λ b. cond b (body_of (bytes_in (slot_of mid q)))
        (cond (can_be_read (length pool.slots) q (place_in past q)) (body_of (place_in past q)) blank)) standing
        ∙ sym (one_stands mid q standing) ∙ places.seen (is.counted k).framed q
        ∙ seen_is pool past dealt q (stamped_readable k q standing)

  commit_fault : is_known told past ≡ true → (q : ℕ) → fault_in new past q ≡ cond (is_in q (pages_of dealt)) None (fault_in pool past q)
  unfolding can
  commit_fault k q = mid_fault q ∙ go (places.frames (is.counted k).framed q) (is_in q (pages_of dealt)) refl where
    stood : (slot : Option FrameView) → stands slot ≡ true → fault_by slot (can_be_read (length pool.slots) q (place_in past q)) ≡ None
    stood slot standing = ap (λ b. cond b None (cond (can_be_read (length pool.slots) q (place_in past q)) None (Some 0))) standing

    go : ((None ≡ copy_of dealt q) × (slot_of mid q ≡ slot_of pool q)) ⊎ IsStamped q lsn (slot_of mid q) → (b : Bool) → is_in q (pages_of dealt) ≡ b
        → fault_by (slot_of mid q) (can_be_read (length pool.slots) q (place_in past q)) ≡ cond b None (fault_in pool past q)
    go (inl same) true known = ap (λ s. fault_by s (can_be_read (length pool.slots) q (place_in past q))) same.1
        ∙ stood (slot_of pool q) (is.readable q known (sym same.0))
    go (inl same) false unknown = ap (λ s. fault_by s (can_be_read (length pool.slots) q (place_in past q))) same.1
    go (inr stamped) true known = stood (slot_of mid q) (stamped_is q lsn (slot_of mid q) stamped).0
    go (inr stamped) false unknown =
        let standing = (stamped_is q lsn (slot_of mid q) stamped).0 in
        let none : copy_of dealt q ≡ None = no_copy (copy_of dealt q) refl in
        stood (slot_of mid q) standing ∙ sym (stood (slot_of pool q) (stamped_readable k q standing none)) where
          no_copy : (o : Option (List ℕ)) → copy_of dealt q ≡ o → copy_of dealt q ≡ None
          no_copy None copy = copy
          no_copy (Some b) copy =
              let clash : true ≡ false = sym (copied_is_in q dealt (ap is_some copy)) ∙ unknown in
              absurd cc

  pub commit_paged : IsPaged new past [] [] told
  commit_paged =
      let counts : is_known told past ≡ true → u32_at 44 (standing_in new past 0) ≤ length new.slots = λ k.
      subst (λ (l : List ℕ). u32_at 44 l ≤ length new.slots) (sym (commit_seen k 0)) (omega (arith, (is.counted k).seen, long)) in
      record {
        frames = ended_frames;
        readable = λ q known none. cc;
        edits = λ q before may. refl;
        counted = λ k. record { framed = λ q some. cc; seen = counts k; standing = counts k };
      }

  pub commit_commits : Commits (state_of pool past dealt records told) (state_of new past [] [] told)
  commit_commits = record {
    goes = record { told = λ k. k; stays = λ k good. k; faults = omega arith; whole = refl };
    standing = λ k i q. commit_seen k q i;
    seen = λ k i q. commit_seen k q i;
    fault = λ k i q. commit_fault k q i;
    visited_is = refl;
    spare = refl;
  }

  pub commit_puts : is_known told past ≡ true → (page : ℕ) → IsPut pool dealt new lsn page
  commit_puts k page = go (places.frames (is.counted k).framed page) where
    g : IsLetGo (slot_of mid page) (slot_of new page)
    g = gone (is_known told past) past (pages_of dealt) lsn pool mid new is.frames places.fixes places.pooled mids goes page

    few_mid : (q : ℕ) → fixes_in (slot_of mid q) ≤ 1
    few_mid = few (is_known told past) past (pages_of dealt) lsn pool mid new is.frames places.fixes places.pooled mids goes

    put : (b : Bool) → is_in page (pages_of dealt) ≡ b → slot_of new page ≡ cond b (option_map let_go (slot_of mid page)) (slot_of mid page)
        → IsStamped page lsn (slot_of mid page) → IsStamped page lsn (slot_of new page)
    put true k final stamped = subst (IsStamped page lsn) (sym final) (stamped_gone page lsn (slot_of mid page) stamped)
    put false k final stamped = subst (IsStamped page lsn) (sym final) stamped

    go : ((None ≡ copy_of dealt page) × (slot_of mid page ≡ slot_of pool page)) ⊎ IsStamped page lsn (slot_of mid page) → IsPut pool dealt new lsn page
    go (inl same) = inl (sym same.0, g.bytes ∙ ap bytes_in same.1)
    go (inr stamped) = inr (put (is_in page (pages_of dealt)) refl (goes.each few_mid page) stamped)

-- ---- the puts are dropped

module _ (pool new : PoolView) (past : Past) (dealt : List Entry) (records : List Record) (told : Bool)
    (is : IsPaged pool past dealt records told) (goes : LetsGo (pages_of dealt) pool new) where
  dropped_standing : (q : ℕ) → standing_in new past q ≡ standing_in pool past q
  dropped_standing q = ap (λ n. standing_by (slot_of new q) (can_be_read n q (place_in past q)) (place_in past q)) goes.slots
      ∙ gone_standing (is_known told past) past (pages_of dealt) 0 pool pool new is.frames (λ p. refl) (λ p. refl) (λ p. inl refl) goes q
      (can_be_read (length pool.slots) q (place_in past q)) (place_in past q)

  dropped_fault : (q : ℕ) → fault_in new past q ≡ fault_in pool past q
  dropped_fault q = ap (λ n. fault_by (slot_of new q) (can_be_read n q (place_in past q))) goes.slots
      ∙ gone_fault (is_known told past) past (pages_of dealt) 0 pool pool new is.frames (λ p. refl) (λ p. refl) (λ p. inl refl) goes q
      (can_be_read (length pool.slots) q (place_in past q))

  pub dropped_paged : IsPaged new past [] [] told
  dropped_paged =
      let counts : is_known told past ≡ true → u32_at 44 (standing_in new past 0) ≤ length new.slots = λ k.
      subst (λ (l : List ℕ). u32_at 44 l ≤ length new.slots) (sym (dropped_standing 0)) (omega (arith, (is.counted k).standing, goes.slots)) in
      record {
        frames = gone_frames (is_known told past) past (pages_of dealt) 0 pool pool new is.frames (λ p. refl) (λ p. refl) (λ p. inl refl) goes;
        readable = λ q known none. cc;
        edits = λ q before may. refl;
        counted = λ k. record { framed = λ q some. cc; seen = counts k; standing = counts k };
      }

  pub dropped_gives_up : GivesUp (state_of pool past dealt records told) (state_of new past [] [] told)
  dropped_gives_up = record {
    goes = record { told = λ k. k; stays = λ k good. k; faults = omega arith; whole = refl };
    standing = λ k i q. dropped_standing q i;
    seen = λ k i q. dropped_standing q i;
    fault = λ k i q. dropped_fault q i;
    visited_is = refl;
    spare = refl;
  }
