-- Two puts append a record: its bytes where the page's records ended, and their new end.
use Rattle.std.proofs.Common.{◌≡◌, ◌≢◌, ℕ, ◌+◌, ◌<◌, ◌≤◌, inr, Bool, true, false, ◌||◌, List, [], ◌∷◌, length, take, refl, sym, ap, ◌∙◌, subst, arith, eq-eqb}
use Rattle.std.specs.Prelude.{IsTrue, Result}
use Rattle.std.specs.Int.{w16, from_be_bytes, to_be_bytes}
use Rattle.store_api.specs.declared.visits.Visit.{Visit}
use Rattle.store_api.specs.declared.visits.Visit.TheVariants.{Bad}
use Rattle.schema_codec.specs.Numbers.{u16_bytes}
use Rattle.stored_pages.specs.Words.{u16_at}
use Rattle.mtr.specs.Seen.{MtrState, IsShown, is_in, with_bytes}
use Rattle.mtr.specs.Calls.{Asks, Consults, IsReason, Puts, SeesAt}
use Rattle.mtr.proofs.Behind.{drop-behind}
use Rattle.mtr.proofs.Consulting.{goes_then, put_goes, consults_asked, visits_then, visits_none}
use Rattle.undo_log.specs.Appending.{Appends, EndsEarly, with_record}

known : (page : ℕ) → is_in page (page ∷ []) ≡ true
known page = ap (λ (b : Bool). b || false) (eq-eqb page page refl)

pub asked : {T : Type 0} (page : ℕ) (old new : MtrState) (result : Result T Visit) → Asks page old result new → Consults (page ∷ []) old new
asked page old new result asks = consults_asked (page ∷ []) page old new result (known page) asks

-- the end of the records, as it is read
pub end_shown : (page bytes : List ℕ) → IsShown page bytes → u16_at 48 bytes ≡ u16_at 48 page
unfolding u16_at
end_shown page bytes shown = ap (λ (l : List ℕ). from_be_bytes w16 (take 2 l)) (drop-behind 48 bytes page (omega arith) shown.same)

pub early : (page end : ℕ) (bytes : List ℕ) (old between : MtrState) → Consults (page ∷ []) old between → (IsTrue old.told → IsShown (old.seen page) bytes)
    → end ≡ u16_at 48 bytes → end < 64 → IsReason (page ∷ []) EndsEarly old between (Bad page 1)
early page end bytes old between looked shown is less =
    (known page, λ told. inr (refl, omega (arith, is, end_shown (old.seen page) bytes (shown (looked.goes.told told)), less)))

pub full : (page end : ℕ) (bytes piece : List ℕ) (old between : MtrState) → Consults (page ∷ []) old between → (IsTrue old.told → IsShown (old.seen page) bytes)
    → end ≡ u16_at 48 bytes → 4096 < end + length piece → IsTrue between.told → 4097 ≤ u16_at 48 (old.seen page) + length piece
full page end bytes piece old between looked shown is more told =
    omega (arith, is, end_shown (old.seen page) bytes (shown (looked.goes.told told)), more)

pub appends : (page at n : ℕ) (bytes piece spelled : List ℕ) (old between mid new : MtrState) → page ≢ 0 → Consults (page ∷ []) old between
    → (IsTrue old.told → IsShown (old.seen page) bytes) → at ≡ u16_at 48 bytes → 64 ≤ at → at + length piece ≤ 4096
    → Puts page at piece between mid → Puts page 48 spelled mid new → spelled ≡ to_be_bytes w16 n → n ≡ at + length piece → Appends page at piece old new
unfolding u16_bytes
appends page at n bytes piece spelled old between mid new some looked shown is behind fits first second spelled_is end_is =
    let told_before : IsTrue new.told → IsTrue between.told = λ told. first.keeps.told (second.keeps.told told) in
    let was : IsTrue new.told → IsShown (old.seen page) bytes = λ told. shown (looked.goes.told (told_before told)) in
    record {
      goes = goes_then old between new looked.goes (goes_then between mid new (put_goes page at piece between mid some first) (put_goes page 48 spelled mid new some second));
      behind = behind;
      fits = fits;
      size = λ told. (was told).size;
      ended = λ told. sym (end_shown (old.seen page) bytes (was told)) ∙ sym is;
      seen =
          λ told.
          let same = looked.same (told_before told) in
          let one = first.pages (second.keeps.told told) in
          let two = second.pages told in
          record {
            standing = two.standing ∙ one.standing ∙ same.standing;
            fault = two.fault ∙ one.fault ∙ same.fault;
            here =
                two.here
                ∙ ap (λ (e : List ℕ). with_bytes 48 e (mid.seen page)) (spelled_is ∙ ap (to_be_bytes w16) end_is)
                ∙ ap (with_bytes 48 (to_be_bytes w16 (at + length piece))) (one.here ∙ ap (λ (f : ℕ → List ℕ). with_bytes at piece (f page)) same.seen);
            elsewhere = λ other apart. two.elsewhere other apart ∙ one.elsewhere other apart ∙ ap (λ (f : ℕ → List ℕ). f other) same.seen;
          };
      visits = visits_then (page ∷ []) old between new looked.visits (visits_none (page ∷ []) between new (second.visited_is ∙ first.visited_is));
    }
