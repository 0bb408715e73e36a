-- The tables on the first pages of the catalog, one page more at a time.
use Rattle.std.proofs.Common.{◌≡◌, ℕ, zero, suc, ◌+◌, ◌<◌, List, [], ◌∷◌, ◌++◌, length, take, Option, Some, None, inl, inr, sym, ◌∙◌, refl, subst, arith, length-append}
use Rattle.std.specs.Prelude.{slice_get}
use Rattle.std.proofs.lemmas.Bool.{cases_eq, cases_lt}
use Rattle.std.proofs.lemmas.List.{take-append-le, take_all}
use Rattle.std.proofs.lemmas.Option.{slice_get_within}
use Rattle.catalog.specs.declared.held.Held.{Held}
use Rattle.catalog.specs.Tables.{IsUnused, HoldsTable, IsTable, page_count, HoldsBelow}
use Rattle.catalog.specs.Loading.{Shows, Accepts, Adds}

-- ---- places in lists

pub slice_get-append_left : {A : Type 0} (xs ys : List A) (i : ℕ) → i < length xs → slice_get (xs ++ ys) i ≡ slice_get xs i
slice_get-append_left [] ys i below = absurd (omega arith)
slice_get-append_left (x ∷ xs) ys zero below = refl
slice_get-append_left (x ∷ xs) ys (suc i) below = slice_get-append_left xs ys i (omega arith)

pub slice_get_last : {A : Type 0} (xs : List A) (x : A) (i : ℕ) → i ≡ length xs → slice_get (xs ++ x ∷ []) i ≡ Some x
slice_get_last [] x zero is = refl
slice_get_last [] x (suc i) is = absurd (omega arith)
slice_get_last (y ∷ xs) x zero is = absurd (omega arith)
slice_get_last (y ∷ xs) x (suc i) is = slice_get_last xs x i (omega arith)

-- ---- one page more

pub below_first : (pages : ℕ → List ℕ) → HoldsBelow [] 5 pages
below_first pages = record {
  inside = omega arith;
  each = λ i held here. absurd (cc);
  unused = λ page from to. absurd (omega arith);
}

below_unused : (tables : List Held) (page : ℕ) (pages : ℕ → List ℕ) → HoldsBelow tables page pages → IsUnused (pages page) → HoldsBelow tables (page + 1) pages
below_unused tables page pages before here = record {
  inside = omega (arith, before.inside);
  each = before.each;
  unused = λ other from to. elim (cases_eq other page) [
    | inl is ↦ subst (λ (n : ℕ). IsUnused (pages n)) (sym is) here
    | inr apart ↦ before.unused other from (omega arith)
  ];
}

module _ (tables : List Held) (held : Held) (pages : ℕ → List ℕ) where
  -- the i-th table, once there is another one
  pub table_at : (here : IsTable (page_count pages) tables held (pages (5 + length tables))) (each : (i : ℕ) (h : Held) → slice_get tables i ≡ Some h → IsTable (page_count pages) (take i tables) h (pages (5 + i)))
      (i : ℕ) (h : Held) → slice_get (tables ++ held ∷ []) i ≡ Some h → IsTable (page_count pages) (take i (tables ++ held ∷ [])) h (pages (5 + i))
  table_at here each i h is =
      let within : i < length tables + 1 = omega (arith, slice_get_within (tables ++ held ∷ []) i h is, length-append tables (held ∷ [])) in
      let front : take i (tables ++ held ∷ []) ≡ take i tables = take-append-le i tables (held ∷ []) (omega arith) in
      elim (cases_lt i (length tables)) [
        | inl below ↦ subst (λ (ts : List Held). IsTable (page_count pages) ts h (pages (5 + i))) (sym front) (each i h (sym (slice_get-append_left tables (held ∷ []) i below) ∙ is))
        | inr past ↦
            let last : i ≡ length tables = omega arith in
            let same : held ≡ h = let e = sym (slice_get_last tables held i last) ∙ is in cc in
            let all : take i tables ≡ tables = take_all i tables past in
            let page : 5 + length tables ≡ 5 + i = omega arith in
            subst (λ (ts : List Held). IsTable (page_count pages) ts h (pages (5 + i))) (sym (front ∙ all))
            (subst (λ (x : Held). IsTable (page_count pages) tables x (pages (5 + i))) same (subst (λ (n : ℕ). IsTable (page_count pages) tables held (pages n)) page here))
      ]

below_table : (tables : List Held) (held : Held) (page : ℕ) (pages : ℕ → List ℕ) → HoldsBelow tables page pages → HoldsTable (page_count pages) held (pages page) → Accepts tables page held → HoldsBelow (tables ++ held ∷ []) (page + 1) pages
below_table tables held page pages before holds accepts =
    let number : page ≡ 5 + length tables = omega (arith, before.inside, accepts.0) in
    let longer = length-append tables (held ∷ []) in
    record {
      inside = omega (arith, number, longer);
      each = table_at tables held pages (subst (λ (n : ℕ). IsTable (page_count pages) tables held (pages n)) number (record { holds = holds; makeable = accepts.1; new_name = accepts.2 })) before.each;
      unused = λ other from to. absurd (omega (arith, number, longer));
    }

pub below_more : (tables : List Held) (page : ℕ) (shown : Option Held) (after : List Held) (pages : ℕ → List ℕ) → HoldsBelow tables page pages → Shows (page_count pages) (pages page) shown → Adds tables page shown after → HoldsBelow after (page + 1) pages
below_more tables page None after pages before unused adds = subst (λ (ts : List Held). HoldsBelow ts (page + 1) pages) (sym adds) (below_unused tables page pages before unused)
below_more tables page (Some held) after pages before holds adds = subst (λ (ts : List Held). HoldsBelow ts (page + 1) pages) (sym adds.0) (below_table tables held page pages before holds adds.1)
