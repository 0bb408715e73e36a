-- A pool without pages, of which page 0 was read once.
use Rattle.std.proofs.Common.{◌≡◌, ℕ, ◌≤◌, Bool, true, false, cond, ◌⊎◌, inl, inr, List, [], ◌∷◌, length, None, refl, sym, ap, subst, ◌∙◌, arith}
use Rattle.std.specs.Prelude.{◌==◌, ◌&&◌, ◌||◌, nat_lt, option_map}
use Rattle.std.proofs.lemmas.Bool.{ltb-true, eqb-true, eqb-false, eq-eqb}
use Rattle.store_api.specs.Past.{Past, Now}
use Rattle.stored_pages.specs.Words.{u32_at}
use Rattle.buffer_pool.specs.Fixing.{page_in}
use Rattle.buffer_pool.specs.Frames.{PoolView, slot_of, bytes_of}
use Rattle.mtr.specs.Seen.{is_in}
use Rattle.mini_txn.specs.Edits.{blank}
use Rattle.mini_txn.specs.View.{body_of}
use Rattle.mini_txn.proofs.Meeting.{count-body, blank_counts}
use Rattle.paged_txn.specs.View.{is_good, is_known, place_in, can_be_read, standing_by, standing_in, IsFrame, IsPaged}
use Rattle.paged_txn.specs.View.{HasNoPage, Begins}
use Rattle.paged_txn.specs.Ending.{let_go, LetsGo, LetsGoOne}
use Rattle.paged_txn.specs.Bringing.{Looks, IsHeld, IsLetIn, IsNoPage}
use Rattle.paged_txn.proofs.Slots.{same_bare, bare_stands, frame_bare}
use Rattle.paged_txn.proofs.Told.{known_told, known_tells, known_by, told_before, same_places, refused_is}
use Rattle.paged_txn.proofs.Brought.{Brings, brings}
use Rattle.paged_txn.proofs.Meeting.{fixed_frames}
use Rattle.paged_txn.proofs.Ended.{gone_frames, gone_standing}

alone_goes : (page : ℕ) (pool new : PoolView) → LetsGoOne page pool new → LetsGo (page ∷ []) pool new
alone_goes page pool new one = record {
  slots = one.slots;
  each = λ few q. one.each q ∙ ap (λ b. cond b (option_map let_go (slot_of pool q)) (slot_of pool q)) (turned q (q == page) refl);
} where
  turned : (q : ℕ) (b : Bool) → (q == page) ≡ b → (q == page) ≡ ((page == q) || false)
  turned q true is = is ∙ sym (ap (λ b. b || false) (eq-eqb page q (sym (eqb-true q page is))))
  turned q false is = is ∙ sym (ap (λ b. b || false) (flip (page == q) refl)) where
    flip : (c : Bool) → (page == q) ≡ c → (page == q) ≡ false
    flip true h = absurd (eqb-false q page is (sym (eqb-true page q h)))
    flip false h = h

module _ (before : Past) (pool : PoolView) (empty : HasNoPage (length pool.slots) pool) where
  bare : (known : Bool) (past : Past) (dealt : ℕ → Bool) (q : ℕ) → IsFrame known q (place_in past q) (dealt q) (slot_of pool q)
  bare known past dealt q = frame_bare known q (place_in past q) (dealt q) (slot_of pool q) (empty.none q).0 (empty.none q).1

  bare_standing : (q : ℕ) (past : Past) → standing_in pool past q ≡ standing_by None (can_be_read (length pool.slots) q (place_in past q)) (place_in past q)
  bare_standing q past = (same_bare (can_be_read (length pool.slots) q (place_in past q)) (place_in past q) None (slot_of pool q) refl
      (bare_stands (slot_of pool q) (empty.none q).0)).standing

  -- page 0 was read and let go
  module _ (now : Past) (mid new : PoolView) (brought : IsHeld 0 before now pool mid ⊎ IsLetIn 0 before now pool mid) (goes : LetsGoOne 0 mid new)
      (told : Bool) where
    b : Brings told 0 before now pool mid
    b = brings told 0 before pool mid (λ _. false) (bare (is_known told before) before (λ _. false)) refl now brought

    mid_frames : (q : ℕ) → IsFrame (is_known told now) q (place_in now q) (is_in q (0 ∷ [])) (slot_of mid q)
    mid_frames q = fixed_frames pool mid before now [] (is_known told now) (is_known told before) 0 (bare (is_known told before) before (λ q. is_in q []))
        b.was b.fixes refl (0 ∷ []) refl q

    let_gone : LetsGo (0 ∷ []) mid new
    let_gone = alone_goes 0 mid new goes

    new_standing : (q : ℕ) → standing_in new now q ≡ standing_in mid now q
    new_standing q =
        ap (λ n. standing_by (slot_of new q) (can_be_read n q (place_in now q)) (place_in now q)) goes.slots
        ∙ gone_standing (is_known told now) now (0 ∷ []) 0 mid mid new mid_frames (λ p. refl) (λ p. refl) (λ p. inl refl) let_gone q
        (can_be_read (length mid.slots) q (place_in now q)) (place_in now q)

    zeroth : standing_in mid now 0 ≡ body_of (bytes_of mid 0)
    zeroth = ap (λ t. cond t (body_of (bytes_of mid 0)) (cond (can_be_read (length mid.slots) 0 (place_in now 0)) (body_of (place_in now 0)) blank))
        b.stands_now

    pub opened_paged : (told ≡ true → u32_at 44 (bytes_of mid 0) ≤ length mid.slots) → IsPaged new now [] [] told
    opened_paged few =
        let counts : is_known told now ≡ true → u32_at 44 (standing_in new now 0) ≤ length new.slots = λ k.
        let same : u32_at 44 (standing_in new now 0) ≡ u32_at 44 (bytes_of mid 0) =
        ap (u32_at 44) (new_standing 0 ∙ zeroth) ∙ count-body (bytes_of mid 0) in
        omega (arith, same, few (known_told told now k), goes.slots) in
        record {
          frames = gone_frames (is_known told now) now (0 ∷ []) 0 mid mid new mid_frames (λ p. refl) (λ p. refl) (λ p. inl refl) let_gone;
          readable = λ q known none. cc;
          edits = λ q was may. refl;
          counted = λ k. record { framed = λ q some. cc; seen = counts k; standing = counts k };
        }

    pub opened_begins : Begins (length pool.slots) before now new told
    opened_begins = record {
      slots = goes.slots ∙ b.fixes.slots;
      standing = λ k q. new_standing q ∙ b.fixes.standing k q ∙ bare_standing q before;
    }

  -- it can't be read
  module _ (now : Past) (none : IsNoPage 0 before now pool) where
    unread : is_known true now ≡ true → (is_known true before ≡ true) × ((q : ℕ) → place_in now q ≡ place_in before q)
        × (can_be_read (length pool.slots) 0 (place_in now 0) ≡ false)
    unread k = go none.none where
      zero_past : length pool.slots ≤ 0 → (place : List ℕ) → can_be_read (length pool.slots) 0 place ≡ false
      zero_past past place = go_on (nat_lt 0 (length pool.slots)) refl where
        go_on : (b : Bool) → nat_lt 0 (length pool.slots) ≡ b → (b && is_good 0 place) ≡ false
        go_on true q = absurd (omega (arith, past, ltb-true 0 (length pool.slots) q))
        go_on false q = refl

      and_none : (a : Bool) → (a && false) ≡ false
      and_none true = refl
      and_none false = refl

      go : ((length pool.slots ≤ 0) × (now ≡ before)) ⊎ (Looks true before now × Now (λ s. is_good 0 (page_in 0 s.pages.seen) ≡ false) before)
          → (is_known true before ≡ true) × ((q : ℕ) → place_in now q ≡ place_in before q) × (can_be_read (length pool.slots) 0 (place_in now 0) ≡ false)
      go (inl past) = (
        subst (λ (p : Past). is_known true p ≡ true) past.1 k,
        λ q. ap (λ (p : Past). place_in p q) past.1,
        zero_past past.0 (place_in now 0),
      )
      go (inr read) =
          let tells_was = told_before true before now read.0 (known_tells true now k) in
          let places = same_places true before now read.0 refl (known_tells true now k) in (
            known_by true before refl tells_was,
            places,
            ap (λ b. nat_lt 0 (length pool.slots) && b) (ap (is_good 0) (places 0) ∙ refused_is before 0 tells_was read.1) ∙
                and_none (nat_lt 0 (length pool.slots)),
          )

    pub unread_paged : IsPaged pool now [] [] true
    unread_paged =
        let counts : is_known true now ≡ true → u32_at 44 (standing_in pool now 0) ≤ length pool.slots = λ k.
        subst (λ (l : List ℕ). u32_at 44 l ≤ length pool.slots)
        (sym (bare_standing 0 now ∙ ap (λ b. cond b (body_of (place_in now 0)) blank) (unread k).2)) (blank_counts (length pool.slots)) in
        record {
          frames = bare (is_known true now) now (λ q. is_in q []);
          readable = λ q known none. cc;
          edits = λ q was may. refl;
          counted = λ k. record { framed = λ q some. cc; seen = counts k; standing = counts k };
        }

    pub unread_begins : Begins (length pool.slots) before now pool true
    unread_begins = record {
      slots = refl;
      standing = λ k q. bare_standing q now
          ∙ ap (λ p. standing_by None (can_be_read (length pool.slots) q p) p) ((unread k).1 q);
    }
