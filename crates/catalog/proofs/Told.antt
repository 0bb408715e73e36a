-- Why the catalog can't be told, once some of its pages were read.
use Rattle.std.proofs.Common.{◌≡◌, ℕ, ◌+◌, ◌<◌, ◌≤◌, inl, inr, List, ◌∷◌, [], length, Option, Some, None, sym, ap, subst, arith, length-append}
use Rattle.std.specs.Prelude.{IsTrue, Result, Ok, Err}
use Rattle.catalog.specs.declared.held.Held.{Held}
use Rattle.store_api.specs.declared.visits.Visit.{Visit}
use Rattle.store_api.specs.declared.visits.FindBad.{FindBad}
use Rattle.store_api.specs.declared.visits.FindBad.TheVariants as find
use Rattle.mtr.specs.Seen.{MtrState, is_in}
use Rattle.mtr.specs.Calls.{Asks, Consults, IsReason}
use Rattle.mtr.proofs.Consulting.{reason_asked, reason_later}
use Rattle.catalog.specs.Tables.{page_count, HoldsBelow}
use Rattle.catalog.specs.Loading.{catalog_pages, Shows, HasFields, Adds, NeverBreaks, IsFirstBroken, IsTableReason, IsAddReason, IsLoadReason}

pub asked_reason : {T : Type 0} (pages : List ℕ) (Breaks : ℕ → ℕ → (ℕ → List ℕ) → Type 0) (page : ℕ) (old new : MtrState) (result : Result T Visit) (why : Visit) → IsTrue (is_in page pages) → result ≡ Err why → Asks page old result new → IsReason pages Breaks old new why
asked_reason pages Breaks page old new (Ok shown) why known is asks = absurd (cc)
asked_reason pages Breaks page old new (Err other) why known is asks =
    let same : other ≡ why = cc in
    subst (IsReason pages Breaks old new) same (reason_asked pages Breaks page old new other known asks.0 asks.1)

pub adds_few : (tables : List Held) (page : ℕ) (shown : Option Held) (after : List Held) → Adds tables page shown after → 5 + length tables ≤ page → 5 + length after ≤ page + 1
adds_few tables page None after adds few = omega (arith, few, ap (λ (ts : List Held). length ts) adds)
adds_few tables page (Some held) after adds few = omega (arith, few, ap (λ (ts : List Held). length ts) adds.0, length-append tables (held ∷ []))

module _ (page count : ℕ) (tables : List Held) (old mid new : MtrState) (looked : Consults catalog_pages old mid) (here : Consults catalog_pages mid new) (counted : IsTrue mid.told → count ≡ page_count old.seen)
    (good : IsTrue mid.told → HoldsBelow tables page old.seen) (from : 5 ≤ page) (to : page < 21) where
  -- what a page shows, of the pages as they were at first
  pub shows_first : IsTrue new.told → (shown : Option Held) → Shows count (mid.seen page) shown → Shows (page_count old.seen) (old.seen page) shown
  shows_first told shown shows =
      let told_mid = here.goes.told told in
      subst (λ (n : ℕ). Shows n (old.seen page) shown) (counted told_mid) (subst (λ (f : ℕ → List ℕ). Shows count (f page) shown) (looked.same told_mid).seen shows)

  fields_first : IsTrue new.told → (HasFields count (mid.seen page) → ⊥) → HasFields (page_count old.seen) (old.seen page) → ⊥
  fields_first told none =
      let told_mid = here.goes.told told in
      subst (λ (n : ℕ). HasFields n (old.seen page) → ⊥) (counted told_mid) (subst (λ (f : ℕ → List ℕ). HasFields count (f page) → ⊥) (looked.same told_mid).seen none)

  pub table_reason : (why : FindBad) → IsTableReason page count mid new why → IsLoadReason old new why
  table_reason (find.Visit why) reason = reason_later catalog_pages NeverBreaks old mid new why looked here.goes reason
  table_reason (find.Malformed number rule) reason = λ told.
      subst (λ (n : ℕ). IsFirstBroken n rule old.seen) (sym reason.0)
      (record { is_catalog = (from, to); before = tables; good = good (here.goes.told told); breaks = inl (reason.1, fields_first told (reason.2 told)) })
  table_reason find.NoMemory reason = tt

  pub add_reason : (shown : Option Held) → (IsTrue new.told → Shows count (mid.seen page) shown) → (why : FindBad) → IsAddReason tables page shown why → IsLoadReason old new why
  add_reason shown shows (find.Visit why) reason = absurd reason
  add_reason shown shows (find.Malformed number rule) reason = λ told.
      let held = reason.2.0 in
      let holds = subst (Shows (page_count old.seen) (old.seen page)) reason.2.1 (shows_first told shown (shows told)) in
      subst (λ (n : ℕ). IsFirstBroken n rule old.seen) (sym reason.0)
      (record { is_catalog = (from, to); before = tables; good = good (here.goes.told told); breaks = inr (reason.1, (held, record { holds = holds; refused = reason.2.2 })) })
  add_reason shown shows find.NoMemory reason = tt
