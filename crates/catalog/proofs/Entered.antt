-- A table's entry is put on its page, and the table is there.
use Rattle.std.proofs.Common.{◌≡◌, ◌≢◌, ℕ, ◌+◌, ◌*◌, ◌<◌, ◌≤◌, List, [], ◌∷◌, ◌++◌, length, take, drop, true, false, refl, sym, ap, ◌∙◌, subst, arith}
use Rattle.std.specs.Prelude.{slice_index, All, IsTrue}
use Rattle.std.specs.List.{flat_map}
use Rattle.std.proofs.lemmas.List.{append-nil, get_or_append_left, get_or-append-add, get_or-take, length-take-le, drop_at, drop-drop}
use Rattle.std.proofs.lemmas.List.Elements.{All-nil, All-cons}
use Rattle.inno_types.specs.declared.value.Schema.{Schema}
use Rattle.page_format.specs.Words.{kind_of}
use Rattle.mtr.specs.Seen.{MtrState, is_in, capacity_of, IsWithin, with_bytes}
use Rattle.mtr.specs.Calls.{Consults}
use Rattle.mtr.proofs.Consulting.{goes_then}
use Rattle.catalog.specs.declared.held.Held.{Held}
use Rattle.schema_codec.specs.Numbers.{u32_bytes}
use Rattle.schema_codec.specs.Schema.{schema_bytes}
use Rattle.catalog.specs.Entry.{IsRoot, IsEntry}
use Rattle.catalog.specs.Makeable.{is_makeable}
use Rattle.catalog.specs.Tables.{IsCatalogPage, IsUnused, HoldsTable, is_new_name, page_count, IsCatalog}
use Rattle.catalog.specs.Creating.{HasRoom, IsFilled, IsEmptyLeaf, record_len, AreEmptyRoots, ReservesPages, Reserves, MakesRoots, PutsEntry, IsCreated, Creates, asked_pages}
use Rattle.catalog.proofs.Catalogs.{filled, one_catalog, catalog_added}
use Rattle.catalog.proofs.Makeables.{fits}
use Rattle.catalog.proofs.Reserving.{is_out, in_head, in_tail, out_of_map, out_if_apart, reserves_none, reserves_pages_then, reserves_then, reserves_written}

-- ---- the page

module _ (entry page : List ℕ) (size : length page ≡ 4096) (kind : kind_of page ≡ 2) where
  abbrev put : List ℕ
  put = with_bytes 32 (1 ∷ entry) page

  abbrev back : List ℕ
  back = (1 ∷ entry) ++ drop (32 + length (1 ∷ entry)) page

  front : length (take 32 page) ≡ 32
  front = length-take-le 32 page (omega (arith, size))

  put_kind : kind_of put ≡ 2
  put_kind = get_or_append_left (take 32 page) back 0 20 (omega (arith, front)) ∙ get_or-take 32 page 20 0 (omega arith) ∙ kind

  put_use : slice_index put 32 ≡ 1
  put_use = ap (λ (n : ℕ). slice_index put (n + 0)) (sym front) ∙ get_or-append-add (take 32 page) back 0 0

  pub put_entry : drop 33 put ≡ entry ++ drop (32 + length (1 ∷ entry)) page
  put_entry = sym (drop-drop 1 32 put) ∙ ap (drop 1) (drop_at (take 32 page) back 32 front)

  pub put_head : IsCatalogPage 1 put
  put_head = record { kind = put_kind; in_use = put_use }

pub all_roots : (P : ℕ → Type 0) (roots : List ℕ) → ((page : ℕ) → is_in page roots ≡ true → P page) → All P roots
all_roots P [] each = All-nil P
all_roots P (root ∷ roots) each = All-cons P root roots (each root (in_head root roots)) (all_roots P roots (λ page h. each page (in_tail page root roots h)))

-- ---- leaves that stay

pub leaves_kept : (s : Schema) (table which : ℕ) (roots : List ℕ) (old new : ℕ → List ℕ) → ((page : ℕ) → is_in page roots ≡ true → new page ≡ old page) → AreEmptyRoots s table which roots old → AreEmptyRoots s table which roots new
leaves_kept s table which [] old new same leaves = tt
leaves_kept s table which (root ∷ roots) old new same leaves = (
  subst (IsEmptyLeaf (8 * table + which) (record_len s which)) (sym (same root (in_head root roots))) leaves.0,
  leaves_kept s table (which + 1) roots old new (λ page h. same page (in_tail page root roots h)) leaves.1,
)

pub leaves_then : (s : Schema) (table which : ℕ) (roots : List ℕ) (root : ℕ) (pages : ℕ → List ℕ) (last : ℕ) → last ≡ which + length roots → AreEmptyRoots s table which roots pages → IsEmptyLeaf (8 * table + last) (record_len s last) (pages root) → AreEmptyRoots s table which (roots ++ root ∷ []) pages
leaves_then s table which [] root pages last is leaves leaf = (subst (λ (n : ℕ). IsEmptyLeaf (8 * table + n) (record_len s n) (pages root)) {y = which} (is ∙ omega arith) leaf, tt)
leaves_then s table which (first ∷ roots) root pages last is leaves leaf = (leaves.0, leaves_then s table (which + 1) roots root pages last (is ∙ omega arith) leaves.1 leaf)

-- ---- the whole

-- pages of fixed numbers were not taken
fixed_out : (roots : List ℕ) (page : ℕ) → ((p : ℕ) → is_in p roots ≡ true → 21 ≤ p) → page < 21 → is_in page roots ≡ false
fixed_out roots page above low = is_out (is_in page roots) (λ h. omega (arith, above page h))

module _ (s : Schema) (table : ℕ) (roots : List ℕ) (old between mid new : MtrState) (makeable : is_makeable s ≡ true) (inside : table < 16) (looked : Consults asked_pages old between)
    (room : IsTrue old.told → HasRoom s.name old.seen) (number : IsTrue between.told → (n : ℕ) → n < 16 → IsFilled n old.seen → table ≡ n) (made : MakesRoots s table (1 + length s.keys) roots between mid) (put' : PutsEntry s table roots mid new) where
  abbrev entry : List ℕ
  entry = schema_bytes s ++ flat_map u32_bytes roots

  abbrev held : Held
  held = record { schema = s; roots = roots }

  taken : Reserves roots [] old mid
  taken = reserves_then [] roots [] [] old between mid (reserves_none asked_pages old between looked) made.reserves

  module _ (told : IsTrue new.told) where
    told_mid : IsTrue mid.told
    told_mid = put'.goes.told told

    told_between : IsTrue between.told
    told_between = made.reserves.goes.told told_mid

    told_old : IsTrue old.told
    told_old = looked.goes.told told_between

    few : capacity_of mid ≤ 65536
    few = omega (arith, (made.reserves.pages told_mid).counted, (made.counts (omega arith) told_mid).1)

    all : ReservesPages roots ((5 + table) ∷ []) old new
    all = subst (λ (rs : List ℕ). ReservesPages rs ((5 + table) ∷ []) old new) (append-nil roots) (reserves_pages_then roots [] [] ((5 + table) ∷ []) old mid new (taken.pages told_mid) (reserves_written (5 + table) _ mid new few (omega arith) (put'.pages told)))

    kept : (page : ℕ) → 5 ≤ page → page < 21 → page ≢ 5 + table → new.seen page ≡ old.seen page
    kept page from to apart = all.elsewhere page (fixed_out roots page made.above to) (out_if_apart page (5 + table) apart) (out_of_map page from)

    same_leaves : (page : ℕ) → is_in page roots ≡ true → new.seen page ≡ mid.seen page
    same_leaves page h = (put'.pages told).elsewhere page (λ same. omega (arith, same, made.above page h))

    module _ (tables : List Held) (catalog : IsCatalog tables old.seen) where
      same_tables : (room told_old).tables ≡ tables
      same_tables = one_catalog (room told_old).tables tables old.seen (room told_old).catalog catalog

      fewer : length tables < 16
      fewer = subst (λ (ts : List Held). length ts < 16) same_tables (room told_old).fewer

      is_number : table ≡ length tables
      is_number = number told_between (length tables) fewer (filled tables old.seen catalog)

      unused : IsUnused (mid.seen (5 + table))
      unused =
          let before : mid.seen (5 + table) ≡ old.seen (5 + table) = (taken.pages told_mid).elsewhere (5 + table) (fixed_out roots (5 + table) made.above (omega arith)) refl (out_of_map (5 + table) (omega arith)) in
          subst IsUnused (sym before) (catalog.unused (5 + table) (omega (arith, is_number)) (omega arith))

      is_entry : IsEntry held
      is_entry = record {
        schema = fits s makeable;
        count = made.count_is;
        roots = all_roots IsRoot roots (λ page h. omega (arith, all.inside page h));
      }

      holds : HoldsTable (page_count new.seen) held (new.seen (5 + table))
      holds =
          let size = put'.size told in
          let here = (put'.pages told).here in
          subst (HoldsTable (page_count new.seen) held) (sym here) (record {
            head = put_head entry (mid.seen (5 + table)) size unused.kind;
            entry = record { is_entry = is_entry; rest = drop (32 + length (1 ∷ entry)) (mid.seen (5 + table)); parts = put_entry entry (mid.seen (5 + table)) size unused.kind };
            roots = all_roots (λ root. root < page_count new.seen) roots (λ page h. omega (arith, (all.were_free page h).within, all.counted));
          })

      is_behind : (table ≡ length tables) × IsCatalog (tables ++ held ∷ []) new.seen
      is_behind = (
        is_number,
        catalog_added tables held old.seen new.seen catalog fewer all.counted (λ page from to apart. kept page from to (λ same. apart (omega (arith, same, is_number))))
            (subst (λ (n : ℕ). HoldsTable (page_count new.seen) held (new.seen (5 + n))) is_number holds) makeable
            (subst (λ (ts : List Held). is_new_name s.name ts ≡ true) same_tables (room told_old).new_name),
      )

    created : IsCreated s table roots old new
    created = record {
      above = made.above;
      leaves = leaves_kept s table 0 roots mid.seen new.seen same_leaves (made.leaves told_mid);
      behind = λ tables catalog. is_behind tables catalog;
    }

  pub creates : Creates s table old new
  creates = record {
    roots = roots;
    count = made.count_is;
    takes = record { goes = goes_then old mid new taken.goes put'.goes; pages = λ told. all told };
    created = λ told. created told;
  }
