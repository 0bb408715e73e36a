-- Copies that are put into the pool: each page is seen there as the copy showed it.
use Rattle.std.proofs.Common.{◌≡◌, ◌≢◌, ℕ, ◌<◌, Bool, true, false, cond, ◌⊎◌, inl, inr, List, [], ◌∷◌, ◌++◌, drop, Option, Some, None, refl, sym, ap}
use Rattle.std.proofs.Common.{subst, ◌∙◌}
use Rattle.std.specs.Prelude.{◌==◌, ◌||◌, option_map, is_some}
use Rattle.std.specs.Option.{option_map_or}
use Rattle.std.proofs.lemmas.Bool.{cases_eq, eq-eqb, eqb-true}
use Rattle.std.proofs.lemmas.List.{length-set}
use Rattle.stored_pages.specs.Words.{number_of, lsn_of}
use Rattle.buffer_pool.specs.Frames.{FrameView, PoolView, slot_of, is_pooled, is_standing, fixes_of, at_slot, changed}
use Rattle.mtr.specs.Seen.{is_in}
use Rattle.mini_txn.specs.declared.dealt.Entry.{Entry}
use Rattle.mini_txn.specs.Dealt.{first_of, own_copy, copy_of, pages_of}
use Rattle.mini_txn.specs.View.{body_of, standing_in, seen_in, AreFramed, AreHeld, shows, IsStamped, Places}
use Rattle.mini_txn.proofs.Bodies.{body-same}
use Rattle.mini_txn.proofs.Entries.{is_of, copy_of-push, own_apart, own_unread}
use Rattle.mini_txn.proofs.Keeping.{holds, stands, shown_in, fixes_in, edit_here, edit_elsewhere}

pub places_none : (lsn : ℕ) (pool : PoolView) (dealt : List Entry) → Places lsn pool dealt pool dealt
places_none lsn pool dealt = record {
  pooled = λ q. refl;
  fixes = λ q. refl;
  slots = refl;
  framed = λ h. h;
  seen = λ h q. refl;
  shown = λ h q. refl;
  slot_is = λ q. inl (refl, inl refl);
  frames = λ h q. inl (refl, refl);
}

slot_then : {copy_a copy_b copy_c : Option (List ℕ)} {slot_a slot_b slot_c : Option FrameView} (page lsn : ℕ) → holds slot_b ≡ holds slot_a
    → ((slot_b ≡ slot_a) × ((copy_b ≡ copy_a) ⊎ (holds slot_a ≡ false))) ⊎ IsStamped page lsn slot_b
    → ((slot_c ≡ slot_b) × ((copy_c ≡ copy_b) ⊎ (holds slot_b ≡ false))) ⊎ IsStamped page lsn slot_c
    → ((slot_c ≡ slot_a) × ((copy_c ≡ copy_a) ⊎ (holds slot_a ≡ false))) ⊎ IsStamped page lsn slot_c
slot_then page lsn pooled first (inr next) = inr next
slot_then page lsn pooled (inr first) (inl next) = inr (subst (IsStamped page lsn) (sym next.0) first)
slot_then {copy_a} {copy_b} {copy_c} {slot_a} {slot_b} {slot_c} page lsn pooled (inl first) (inl next) = inl (next.0 ∙ first.0, go first.1 next.1) where
  go : (copy_b ≡ copy_a) ⊎ (holds slot_a ≡ false) → (copy_c ≡ copy_b) ⊎ (holds slot_b ≡ false) → (copy_c ≡ copy_a) ⊎ (holds slot_a ≡ false)
  go (inr none) b = inr none
  go (inl a) (inl b) = inl (b ∙ a)
  go (inl a) (inr none) = inr (sym pooled ∙ none)

frame_then : {copy_a copy_b copy_c : Option (List ℕ)} {slot_a slot_b slot_c : Option FrameView} (page lsn : ℕ)
    → ((copy_b ≡ copy_a) × (slot_b ≡ slot_a)) ⊎ IsStamped page lsn slot_b → ((copy_c ≡ copy_b) × (slot_c ≡ slot_b)) ⊎ IsStamped page lsn slot_c
    → ((copy_c ≡ copy_a) × (slot_c ≡ slot_a)) ⊎ IsStamped page lsn slot_c
frame_then page lsn first (inr next) = inr next
frame_then page lsn (inl first) (inl next) = inl (next.0 ∙ first.0, next.1 ∙ first.1)
frame_then page lsn (inr first) (inl next) = inr (subst (IsStamped page lsn) (sym next.1) first)

pub places_then : (lsn : ℕ) (a : PoolView) (x : List Entry) (b : PoolView) (y : List Entry) (c : PoolView) (z : List Entry) → Places lsn a x b y
    → Places lsn b y c z → Places lsn a x c z
places_then lsn a x b y c z first next = record {
  pooled = λ q. next.pooled q ∙ first.pooled q;
  fixes = λ q. next.fixes q ∙ first.fixes q;
  slots = next.slots ∙ first.slots;
  framed = λ h. next.framed (first.framed h);
  seen = λ h q. next.seen (first.framed h) q ∙ first.seen h q;
  shown = λ h q. next.shown (first.framed h) q ∙ first.shown h q;
  slot_is = λ q. slot_then q lsn (first.pooled q) (first.slot_is q) (next.slot_is q);
  frames = λ h q. frame_then q lsn (first.frames h q) (next.frames (first.framed h) q);
}

apart_of : (e : Entry) (q : ℕ) → q ≢ e.page → is_of q e ≡ false
apart_of e q apart = go (e.page == q) refl where
  go : (b : Bool) → (e.page == q) ≡ b → (e.page == q) ≡ false
  go true is = absurd (apart (sym (eqb-true e.page q is)))
  go false is = is

own_here : (e : Entry) → e.copied ≡ true → own_copy e e.page ≡ Some e.bytes
own_here e copied =
    ap (λ b. cond b (cond e.copied (Some e.bytes) None) None) (eq-eqb e.page e.page refl) ∙ ap (λ b. cond b (Some e.bytes) None) copied

-- without a copy of the last entry nothing is to be put
pub unread_places : (lsn : ℕ) (pool : PoolView) (front : List Entry) (e : Entry) → e.copied ≡ false
    → Places lsn pool (front ++ e ∷ []) pool front
unread_places lsn pool front e unread =
    let same : (q : ℕ) → copy_of front q ≡ copy_of (front ++ e ∷ []) q = λ q. sym (copy_of-push front e q
    ∙ ap (first_of (copy_of front q)) (own_unread e q unread) ∙ first_none (copy_of front q)) in
    record {
      pooled = λ q. refl;
      fixes = λ q. refl;
      slots = refl;
      framed = λ h q some. h q (sym (ap is_some (same q)) ∙ some);
      seen = λ h q. ap (λ o. option_map_or body_of o (standing_in pool q)) (same q);
      shown = λ h q. ap (λ o. is_some o || is_standing pool q) (same q);
      slot_is = λ q. inl (refl, inl (same q));
      frames = λ h q. inl (same q, refl);
    } where
      first_none : (o : Option (List ℕ)) → first_of o None ≡ o
      first_none None = refl
      first_none (Some b) = refl

some_first : (o : Option (List ℕ)) (bytes : List ℕ) → is_some (first_of o (Some bytes)) ≡ true
some_first None bytes = refl
some_first (Some b) bytes = refl

first_some : (o p : Option (List ℕ)) → is_some o ≡ true → is_some (first_of o p) ≡ true
first_some None p h = cc
first_some (Some b) p h = refl

-- where the last copy's page isn't in the pool, the pages aren't told
pub lost_places : (lsn : ℕ) (pool : PoolView) (front : List Entry) (e : Entry) → e.copied ≡ true → is_pooled pool e.page ≡ false
    → Places lsn pool (front ++ e ∷ []) pool front
lost_places lsn pool front e copied absent =
    let none : AreFramed pool (front ++ e ∷ []) → ⊥ = λ h.
    let some : is_some (copy_of (front ++ e ∷ []) e.page) ≡ true =
    ap is_some (copy_of-push front e e.page ∙ ap (first_of (copy_of front e.page)) (own_here e copied)) ∙ some_first (copy_of front e.page) e.bytes in
    let clash : true ≡ false = sym (h e.page some) ∙ absent in
    absurd cc in
    record {
      pooled = λ q. refl;
      fixes = λ q. refl;
      slots = refl;
      framed = λ h. absurd (none h);
      seen = λ h q. absurd (none h);
      shown = λ h q. absurd (none h);
      slot_is = λ q. elim (cases_eq q e.page) [
        | inl is ↦ inl (refl, inr (ap (is_pooled pool) is ∙ absent))
        | inr apart ↦ inl (
          refl,
          inl (sym (copy_of-push front e q ∙ ap (first_of (copy_of front q)) (own_apart e q (apart_of e q apart))
              ∙ first_none (copy_of front q))),
        )
      ];
      frames = λ h q. absurd (none h);
    } where
      first_none : (o : Option (List ℕ)) → first_of o None ≡ o
      first_none None = refl
      first_none (Some b) = refl

changed_held : (slot : Option FrameView) (bytes : List ℕ) → holds slot ≡ true
    → (holds (option_map (changed bytes) slot) ≡ true) × (fixes_in (option_map (changed bytes) slot) ≡ fixes_in slot)
changed_held None bytes there = absurd cc
changed_held (Some frame) bytes there = (refl, refl)

changed_shown : (slot : Option FrameView) (bytes : List ℕ) → holds slot ≡ true → (stands (option_map (changed bytes) slot) ≡ true)
    × (shown_in (option_map (changed bytes) slot) ≡ body_of bytes)
changed_shown None bytes there = absurd cc
changed_shown (Some frame) bytes there = (refl, refl)

changed_stamped : (slot : Option FrameView) (bytes : List ℕ) (page lsn : ℕ) → holds slot ≡ true → number_of bytes ≡ page → lsn_of bytes ≡ lsn
    → IsStamped page lsn (option_map (changed bytes) slot)
changed_stamped None bytes page lsn there number stamp = absurd cc
changed_stamped (Some frame) bytes page lsn there number stamp = (refl, number, stamp)

-- the last copy is put into the pool
pub last_places : (lsn : ℕ) (pool : PoolView) (front : List Entry) (e : Entry) (bytes : List ℕ) → e.copied ≡ true
    → is_pooled pool e.page ≡ true → number_of bytes ≡ e.page → lsn_of bytes ≡ lsn → drop 20 bytes ≡ drop 20 e.bytes
    → Places lsn pool (front ++ e ∷ []) (at_slot e.page (changed bytes) pool) front
last_places lsn pool front e bytes copied there number stamp same =
    let new = at_slot e.page (changed bytes) pool in
    let here = edit_here pool.slots e.page (changed bytes) in
    let elsewhere : (q : ℕ) → q ≢ e.page → slot_of new q ≡ slot_of pool q = λ q apart. edit_elsewhere pool.slots e.page q
    (option_map (changed bytes) (slot_of pool e.page)) apart in
    let held = changed_held (slot_of pool e.page) bytes there in
    let shown = changed_shown (slot_of pool e.page) bytes there in
    let copy_here : copy_of (front ++ e ∷ []) e.page ≡ first_of (copy_of front e.page) (Some e.bytes) = copy_of-push front e e.page
    ∙ ap (first_of (copy_of front e.page)) (own_here e copied) in
    let copy_elsewhere : (q : ℕ) → q ≢ e.page → copy_of (front ++ e ∷ []) q ≡ copy_of front q = λ q apart. copy_of-push front e q
    ∙ ap (first_of (copy_of front q)) (own_apart e q (apart_of e q apart)) ∙ first_none (copy_of front q) in
    let now_there : is_pooled new e.page ≡ true = ap holds here ∙ held.0 in
    let body : body_of bytes ≡ body_of e.bytes = body-same bytes e.bytes same in
    let stamped_here : IsStamped e.page lsn (slot_of new e.page) =
    subst (IsStamped e.page lsn) (sym here) (changed_stamped (slot_of pool e.page) bytes e.page lsn there number stamp) in
    record {
      pooled = λ q. elim (cases_eq q e.page) [
        | inl is ↦ subst (λ (n : ℕ). is_pooled new n ≡ is_pooled pool n) (sym is) (now_there ∙ sym there)
        | inr apart ↦ ap holds (elsewhere q apart)
      ];
      fixes = λ q. elim (cases_eq q e.page) [
        | inl is ↦ subst (λ (n : ℕ). fixes_in (slot_of new n) ≡ fixes_in (slot_of pool n)) (sym is) (ap fixes_in here ∙ held.1)
        | inr apart ↦ ap fixes_in (elsewhere q apart)
      ];
      slots = length-set pool.slots e.page (option_map (changed bytes) (slot_of pool e.page));
      framed = λ h q some. elim (cases_eq q e.page) [
        | inl is ↦ subst (λ (n : ℕ). is_pooled new n ≡ true) (sym is) now_there
        | inr apart ↦ ap holds (elsewhere q apart) ∙ h q (ap is_some (copy_elsewhere q apart) ∙ some)
      ];
      seen = λ h q. elim (cases_eq q e.page) [
        | inl is ↦ subst (λ (n : ℕ). seen_in new front n ≡ seen_in pool (front ++ e ∷ []) n) (sym is)
            (seen_here (copy_of front e.page) (standing_in new e.page) (standing_in pool e.page) (ap shown_in here ∙ shown.1 ∙ body)
            ∙ ap (λ o. option_map_or body_of o (standing_in pool e.page)) (sym copy_here))
        | inr apart ↦ ap (λ o. option_map_or body_of o (standing_in new q)) (sym (copy_elsewhere q apart))
            ∙ ap (λ (l : List ℕ). option_map_or body_of (copy_of (front ++ e ∷ []) q) l) (ap shown_in (elsewhere q apart))
      ];
      shown = λ h q. elim (cases_eq q e.page) [
        | inl is ↦ subst (λ (n : ℕ). shows new front n ≡ shows pool (front ++ e ∷ []) n) (sym is)
            (shown_here (copy_of front e.page) (is_standing new e.page) (is_standing pool e.page) (ap stands here ∙ shown.0)
            ∙ ap (λ o. is_some o || is_standing pool e.page) (sym copy_here))
        | inr apart ↦ ap (λ o. is_some o || is_standing new q) (sym (copy_elsewhere q apart))
            ∙ ap (λ (b : Bool). is_some (copy_of (front ++ e ∷ []) q) || b) (ap stands (elsewhere q apart))
      ];
      slot_is = λ q. elim (cases_eq q e.page) [
        | inl is ↦ inr (subst (λ (n : ℕ). IsStamped n lsn (slot_of new n)) (sym is) stamped_here)
        | inr apart ↦ inl (elsewhere q apart, inl (sym (copy_elsewhere q apart)))
      ];
      frames = λ h q. elim (cases_eq q e.page) [
        | inl is ↦ inr (subst (λ (n : ℕ). IsStamped n lsn (slot_of new n)) (sym is) stamped_here)
        | inr apart ↦ inl (sym (copy_elsewhere q apart), elsewhere q apart)
      ];
    } where
      first_none : (o : Option (List ℕ)) → first_of o None ≡ o
      first_none None = refl
      first_none (Some b) = refl

      seen_here : (o : Option (List ℕ)) (now was : List ℕ) → now ≡ body_of e.bytes → option_map_or body_of o now
          ≡ option_map_or body_of (first_of o (Some e.bytes)) was
      seen_here None now was is = is
      seen_here (Some b) now was is = refl

      shown_here : (o : Option (List ℕ)) (now was : Bool) → now ≡ true → (is_some o || now) ≡ (is_some (first_of o (Some e.bytes)) || was)
      shown_here None now was is = is
      shown_here (Some b) now was is = refl

-- ---- pages that stay fixed

in_front : (q : ℕ) (front : List Entry) (e : Entry) → is_in q (pages_of front) ≡ true → is_in q (pages_of (front ++ e ∷ [])) ≡ true
in_front q [] e h = cc
in_front q (x ∷ front) e h = go (x.page == q) h (in_front q front e) where
  go : (b : Bool) → (b || is_in q (pages_of front)) ≡ true → (is_in q (pages_of front) ≡ true → is_in q (pages_of (front ++ e ∷ [])) ≡ true)
      → (b || is_in q (pages_of (front ++ e ∷ []))) ≡ true
  go true k ih = refl
  go false k ih = ih k

in_last : (front : List Entry) (e : Entry) → is_in e.page (pages_of (front ++ e ∷ [])) ≡ true
in_last [] e = ap (λ b. b || false) (eq-eqb e.page e.page refl)
in_last (x ∷ front) e = go (x.page == e.page) (in_last front e) where
  go : (b : Bool) → is_in e.page (pages_of (front ++ e ∷ [])) ≡ true → (b || is_in e.page (pages_of (front ++ e ∷ []))) ≡ true
  go true k = refl
  go false k = k

pub others_held : (lsn : ℕ) (pool new : PoolView) (front : List Entry) (e : Entry) → AreHeld pool (front ++ e ∷ [])
    → Places lsn pool (front ++ e ∷ []) new front → AreHeld new front
others_held lsn pool new front e held places = λ q known there.
    subst (λ (n : ℕ). 0 < n) (sym (places.fixes q)) (held q (in_front q front e known) (sym (places.pooled q) ∙ there))
