-- One page of the catalog: what its bytes show, and that they show one table at most.
use Rattle.std.proofs.Common.{◌≡◌, ℕ, ◌<◌, ◌≤◌, ◌==◌, ◌||◌, Bool, List, drop, true, false, Option, Some, None, inl, inr, sym, ◌∙◌, refl, subst, arith}
use Rattle.std.specs.Prelude.{slice_index, All}
use Rattle.std.proofs.lemmas.Bool.{cases_eq}
use Rattle.catalog.specs.declared.held.Held.{Held}
use Rattle.catalog.specs.declared.held.EntryBad.{EntryBad}
use Rattle.catalog.specs.declared.held.EntryBad.TheVariants.{Shape, NoMemory}
use Rattle.catalog.specs.Refused.{BeginsWith, IsRefused}
use Rattle.catalog.proofs.Entries.{one_entry}
use Rattle.page_format.specs.Words.{kind_of}
use Rattle.mtr.specs.Seen.{is_in, AreDistinct}
use Rattle.mtr.proofs.Behind.{byte-behind, drop-behind}
use Rattle.catalog.specs.Tables.{IsCatalogPage, HoldsTable}
use Rattle.catalog.specs.Loading.{catalog_pages, Shows, HasFields, IsNoTable}
use Rattle.catalog.specs.Creating.{asked_pages}

-- ---- what bytes show

-- a page in use shows a table or nothing
shows_entry : (count : ℕ) (page : List ℕ) (shown : Option Held) → slice_index page 32 ≡ 1 → Shows count page shown → (held : Held) × HoldsTable count held page
shows_entry count page None in_use unused = absurd (omega (arith, in_use, unused.in_use))
shows_entry count page (Some held) in_use holds = (held, holds)

pub no_table : (count : ℕ) (page : List ℕ) (why : EntryBad) → slice_index page 32 ≡ 1 → IsRefused (drop 33 page) why → IsNoTable count page why
no_table count page Shape in_use refused = λ fields. let shown = shows_entry count page fields.0 in_use fields.1 in refused shown.0 shown.1.entry
no_table count page NoMemory in_use refused = tt

pub no_roots : (count : ℕ) (page : List ℕ) (held : Held) → slice_index page 32 ≡ 1 → BeginsWith held (drop 33 page) → (All (λ root. root < count) held.roots → ⊥) → IsNoTable count page Shape
no_roots count page held in_use begins beyond = λ fields.
    let shown = shows_entry count page fields.0 in_use fields.1 in
    beyond (subst (λ (h : Held). All (λ root. root < count) h.roots) (one_entry (drop 33 page) shown.0 held shown.1.entry begins) shown.1.roots)

-- ---- bytes that show a page

head_behind : (mark : ℕ) (a b : List ℕ) → drop 20 a ≡ drop 20 b → IsCatalogPage mark a → IsCatalogPage mark b
head_behind mark a b same head = record {
  kind = sym (byte-behind 20 a b (omega arith) same) ∙ head.kind;
  in_use = sym (byte-behind 32 a b (omega arith) same) ∙ head.in_use;
}

pub shows_behind : (count : ℕ) (a b : List ℕ) (shown : Option Held) → drop 20 a ≡ drop 20 b → Shows count a shown → Shows count b shown
shows_behind count a b None same unused = head_behind 0 a b same unused
shows_behind count a b (Some held) same holds = record {
  head = head_behind 1 a b same holds.head;
  entry = subst (BeginsWith held) (drop-behind 33 a b (omega arith) same) holds.entry;
  roots = holds.roots;
}

pub fields_behind : (count : ℕ) (a b : List ℕ) → drop 20 a ≡ drop 20 b → (HasFields count a → ⊥) → HasFields count b → ⊥
fields_behind count a b same none fields = none (fields.0, shows_behind count b a fields.0 (sym same) fields.1)

-- ---- the pages' numbers

known : (n page : ℕ) → page ≡ n → is_in n catalog_pages ≡ true → is_in page catalog_pages ≡ true
known n page is here = subst (λ (p : ℕ). is_in p catalog_pages ≡ true) (sym is) here

-- those of the map stand before them
or_more : (a b c d rest : Bool) → (a || rest) ≡ true → (a || (b || (c || (d || rest)))) ≡ true
or_more true b c d rest h = refl
or_more false true c d rest h = refl
or_more false false true d rest h = refl
or_more false false false true rest h = refl
or_more false false false false rest h = h

pub catalog_page_known : (page : ℕ) → 5 ≤ page → page < 21 → is_in page catalog_pages ≡ true
catalog_page_known page low high = elim (cases_eq page 5) [ inl is ↦ known 5 page is refl | inr n5 ↦ elim (cases_eq page 6) [ inl is ↦ known 6 page is refl | inr n6 ↦ elim (cases_eq page 7) [ inl is ↦ known 7 page is refl | inr n7 ↦ elim (cases_eq page 8) [ inl is ↦ known 8 page is refl | inr n8 ↦ elim (cases_eq page 9) [ inl is ↦ known 9 page is refl | inr n9 ↦ elim (cases_eq page 10) [ inl is ↦ known 10 page is refl | inr n10 ↦ elim (cases_eq page 11) [ inl is ↦ known 11 page is refl | inr n11 ↦ elim (cases_eq page 12) [ inl is ↦ known 12 page is refl | inr n12 ↦ elim (cases_eq page 13) [ inl is ↦ known 13 page is refl | inr n13 ↦ elim (cases_eq page 14) [ inl is ↦ known 14 page is refl | inr n14 ↦ elim (cases_eq page 15) [ inl is ↦ known 15 page is refl | inr n15 ↦ elim (cases_eq page 16) [ inl is ↦ known 16 page is refl | inr n16 ↦ elim (cases_eq page 17) [ inl is ↦ known 17 page is refl | inr n17 ↦ elim (cases_eq page 18) [ inl is ↦ known 18 page is refl | inr n18 ↦ elim (cases_eq page 19) [ inl is ↦ known 19 page is refl | inr n19 ↦ elim (cases_eq page 20) [ inl is ↦ known 20 page is refl | inr n20 ↦ absurd (omega (arith, low, high, n5, n6, n7, n8, n9, n10, n11, n12, n13, n14, n15, n16, n17, n18, n19, n20)) ] ] ] ] ] ] ] ] ] ] ] ] ] ] ] ]

pub asked_page_known : (page : ℕ) → is_in page catalog_pages ≡ true → is_in page asked_pages ≡ true
asked_page_known page h = or_more (0 == page) (2 == page) (3 == page) (4 == page) _ h

pub distinct_catalog_pages : AreDistinct catalog_pages
distinct_catalog_pages = (refl, (refl, (refl, (refl, (refl, (refl, (refl, (refl, (refl, (refl, (refl, (refl, (refl, (refl, (refl, (refl, (refl, tt)))))))))))))))))
