-- The puts by which a log is opened and a slot is freed.
use Rattle.std.proofs.Common.{◌≡◌, ◌≢◌, ℕ, ◌+◌, ◌*◌, ◌<◌, ◌≤◌, List, [], ◌∷◌, take, replicate, refl, sym, ap, ◌∙◌, arith}
use Rattle.std.specs.Prelude.{IsTrue, IfNone, Option, Some, None}
use Rattle.std.specs.Int.{w64, from_be_bytes, to_be_bytes}
use Rattle.schema_codec.specs.Numbers.{u64_bytes}
use Rattle.stored_pages.specs.Words.{u64_at}
use Rattle.mtr.specs.Seen.{MtrState, IsShown, with_bytes}
use Rattle.mtr.specs.Calls.{Consults, Puts}
use Rattle.mtr.proofs.Behind.{drop-behind}
use Rattle.mtr.proofs.Consulting.{goes_then, put_goes, visits_then, visits_none}
use Rattle.undo_log.specs.Slots.{slot_bytes, Opens, Closes}

pub where_none : (found : Option ℕ) (P : Type 0) → found ≡ None → IfNone found P → P
where_none None P is p = p
where_none (Some slot) P is p = absurd (cc)

-- a number on page 1, as it is read
u64_shown : (at : ℕ) (page bytes : List ℕ) → 20 ≤ at → IsShown page bytes → u64_at at bytes ≡ u64_at at page
unfolding u64_at
u64_shown at page bytes begins shown = ap (λ (l : List ℕ). from_be_bytes w64 (take 8 l)) (drop-behind at bytes page begins shown.same)

pub none_free : (bytes : List ℕ) (old between : MtrState) → Consults (1 ∷ []) old between → (IsTrue old.told → IsShown (old.seen 1) bytes)
    → ((slot : ℕ) → slot < 68 → u64_at (40 + 16 * slot) bytes ≢ 0) → IsTrue between.told → (slot : ℕ) → slot < 68 → u64_at (40 + 16 * slot) (old.seen 1) ≢ 0
none_free bytes old between looked shown used told slot below is =
    used slot below (u64_shown (40 + 16 * slot) (old.seen 1) bytes (omega arith) (shown (looked.goes.told told)) ∙ is)

pub opens : (slot id page at : ℕ) (bytes piece head : List ℕ) (old between one two new : MtrState) → page ≢ 0 → page ≢ 1 → Consults (1 ∷ []) old between
    → (IsTrue old.told → IsShown (old.seen 1) bytes) → slot < 68 → u64_at (40 + 16 * slot) bytes ≡ 0 → at ≡ 40 + 16 * slot
    → Puts 1 at piece between one → piece ≡ slot_bytes id page → Puts page 32 head one two → head ≡ to_be_bytes w64 id → Puts page 50 (1 ∷ []) two new
    → Opens slot id page old new
unfolding u64_bytes
opens slot id page at bytes piece head old between one two new some apart looked shown below free at_is first piece_is second head_is third = record {
  goes =
      goes_then old between new looked.goes
      (goes_then between one new (put_goes 1 at piece between one (omega arith) first)
      (goes_then one two new (put_goes page 32 head one two some second) (put_goes page 50 (1 ∷ []) two new some third)));
  below = below;
  seen =
      λ told.
      let told_two = third.keeps.told told in
      let told_one = second.keeps.told told_two in
      let told_between = first.keeps.told told_one in
      let was = shown (looked.goes.told told_between) in
      let same = looked.same told_between in
      let a = first.pages told_one in
      let b = second.pages told_two in
      let c = third.pages told in
      record {
        size = was.size;
        was_free = sym (u64_shown (40 + 16 * slot) (old.seen 1) bytes (omega arith) was) ∙ free;
        standing = c.standing ∙ b.standing ∙ a.standing ∙ same.standing;
        fault = c.fault ∙ b.fault ∙ a.fault ∙ same.fault;
        slots =
            c.elsewhere 1 (λ is. apart (sym is)) ∙ b.elsewhere 1 (λ is. apart (sym is)) ∙ a.here
            ∙ ap (λ (f : ℕ → List ℕ). with_bytes at piece (f 1)) same.seen
            ∙ ap (λ (l : List ℕ). with_bytes at l (old.seen 1)) piece_is
            ∙ ap (λ (n : ℕ). with_bytes n (slot_bytes id page) (old.seen 1)) at_is;
        log =
            c.here
            ∙ ap (with_bytes 50 (1 ∷ []))
            (b.here ∙ ap (λ (l : List ℕ). with_bytes 32 l (one.seen page)) head_is
            ∙ ap (with_bytes 32 (to_be_bytes w64 id)) (a.elsewhere page apart ∙ ap (λ (f : ℕ → List ℕ). f page) same.seen));
        elsewhere =
            λ other ne_one ne_page.
            c.elsewhere other ne_page ∙ b.elsewhere other ne_page ∙ a.elsewhere other ne_one ∙ ap (λ (f : ℕ → List ℕ). f other) same.seen;
      };
  visits =
      visits_then (1 ∷ []) old between new looked.visits
      (visits_none (1 ∷ []) between new (third.visited_is ∙ second.visited_is ∙ first.visited_is));
}

pub closes : (slot at : ℕ) (bytes piece : List ℕ) (old between new : MtrState) → Consults (1 ∷ []) old between → (IsTrue old.told → IsShown (old.seen 1) bytes)
    → at ≡ 40 + 16 * slot → Puts 1 at piece between new → piece ≡ replicate 16 0 → Closes slot old new
closes slot at bytes piece old between new looked shown at_is first piece_is = record {
  goes = goes_then old between new looked.goes (put_goes 1 at piece between new (omega arith) first);
  seen =
      λ told.
      let told_between = first.keeps.told told in
      let same = looked.same told_between in
      let a = first.pages told in
      record {
        size = (shown (looked.goes.told told_between)).size;
        standing = a.standing ∙ same.standing;
        fault = a.fault ∙ same.fault;
        slots =
            a.here
            ∙ ap (λ (f : ℕ → List ℕ). with_bytes at piece (f 1)) same.seen
            ∙ ap (λ (l : List ℕ). with_bytes at l (old.seen 1)) piece_is
            ∙ ap (λ (n : ℕ). with_bytes n (replicate 16 0) (old.seen 1)) at_is;
        elsewhere = λ other ne. a.elsewhere other ne ∙ ap (λ (f : ℕ → List ℕ). f other) same.seen;
      };
  visits = visits_then (1 ∷ []) old between new looked.visits (visits_none (1 ∷ []) between new first.visited_is);
}
