-- Pages stand for one database: they hold one catalog, a table has one tree, and each of its records reads one way.
use Rattle.std.proofs.Common.{◌≡◌, ◌⊎◌, inl, inr, ℕ, suc, ◌+◌, ◌^◌, ◌≤◌, Bool, Option, Some, None, option_map, List, [], ◌∷◌, length}
use Rattle.std.proofs.Common.{drop, map, refl, sym, ap, subst, ◌∙◌, arith}
use Rattle.std.specs.Prelude.{slice_get, slice_index, ℤ, pos, negsuc, FitsSigned}
use Rattle.std.specs.Int.{w64}
use Rattle.std.specs.FinMap.{get}
use Rattle.std.proofs.lemmas.Bool.{cases_lt}
use Rattle.std.proofs.lemmas.Option.{slice_get_cases, slice_get-map}
use Rattle.inno_types.specs.declared.value.Kind.{Kind}
use Rattle.inno_types.specs.declared.value.Kind.TheVariants.{BigInt, VarBinary}
use Rattle.inno_types.specs.declared.value.Value.{Value}
use Rattle.inno_types.specs.declared.value.Value.TheVariants.{Null, Int, Text}
use Rattle.inno_types.specs.declared.value.Column.{Column}
use Rattle.inno_types.specs.declared.value.Schema.{Schema}
use Rattle.inno_db.specs.Database.{Database}
use Rattle.key_codec.specs.Keys.{HasKey, key_code}
use Rattle.entries.specs.Pairs.{Pair, value_of}
use Rattle.row_versions.specs.declared.kept.Kept.{Kept}
use Rattle.row_versions.specs.declared.place.Place.{Place}
use Rattle.row_versions.specs.Chains.{in_model}
use Rattle.catalog.specs.declared.held.Held.{Held}
use Rattle.catalog.proofs.Entries.{one_entry}
use Rattle.catalog.specs.Tables.{IsCatalog}
use Rattle.catalog.proofs.Catalogs.{filled}
use Rattle.catalog.proofs.Makeables.{parts_of, place_within}
use Rattle.btree.specs.declared.tree.Tree.{Tree}
use Rattle.btree.specs.Sound.{tree_pairs}
use Rattle.law_stored_rows.specs.Edits.{clustered_index}
use Rattle.law_read_pages.specs.Rows.{ReadsAs}
use Rattle.law_read_pages.specs.Pages.{IsTreeOf, StandForDb}

-- ---- one catalog

module _ (pages : ℕ → List ℕ) where
  not_fewer : (a b : List Held) → IsCatalog a pages → IsCatalog b pages → length b ≤ length a
  not_fewer a b of_a of_b = elim (cases_lt (length a) (length b)) [
    | inl fewer ↦ absurd (
        let few : 5 + length b ≤ 21 = of_b.inside in
        let free : slice_index (pages (5 + length a)) 32 ≡ 0 = (filled a pages of_a).unused (length a) (omega arith) (omega (arith, few, fewer)) in
        let used : slice_index (pages (5 + length a)) 32 ≡ 1 = (filled b pages of_b).used (length a) fewer in
        omega (arith, free, used))
    | inr more ↦ more
  ]

  one_each : (a b : List Held) → IsCatalog a pages → IsCatalog b pages → (i : ℕ) (x y : Held) → slice_get a i ≡ Some x → slice_get b i ≡ Some y → x ≡ y
  one_each a b of_a of_b i x y is_x is_y =
      one_entry (drop 33 (pages (5 + i))) x y (of_a.each i x is_x).holds.entry (of_b.each i y is_y).holds.entry

  same_list : (a b : List Held) → length a ≡ length b → ((i : ℕ) (x y : Held) → slice_get a i ≡ Some x → slice_get b i ≡ Some y → x ≡ y) → a ≡ b
  same_list [] [] long each = refl
  same_list [] (y ∷ b) long each = absurd (omega (arith, long))
  same_list (x ∷ a) [] long each = absurd (omega (arith, long))
  same_list (x ∷ a) (y ∷ b) long each =
      let first : x ≡ y = each 0 x y refl refl in
      let rest : a ≡ b = same_list a b (omega (arith, long)) (λ i u v is_u is_v. each (suc i) u v is_u is_v) in
      λ i. first i ∷ rest i

  pub one_catalog : (a b : List Held) → IsCatalog a pages → IsCatalog b pages → a ≡ b
  one_catalog a b of_a of_b =
      let more = not_fewer a b of_a of_b in
      let fewer = not_fewer b a of_b of_a in
      same_list a b (omega (arith, more, fewer)) (one_each a b of_a of_b)

  -- ---- one tree of a table

  same_tree : (s t : Tree) → s.index ≡ t.index → s.root ≡ t.root → s.key_len ≡ t.key_len → s.value_len ≡ t.value_len → s ≡ t
  same_tree s t index root key value = λ i. record { index = index i; root = root i; key_len = key i; value_len = value i }

  one_tree : (table : ℕ) (held : Held) (a b : List Pair) → IsTreeOf table held pages a → IsTreeOf table held pages b → a ≡ b
  one_tree table held a b of_a of_b =
      let root : of_a.tree.root ≡ of_b.tree.root = (let x = sym of_a.root_is ∙ of_b.root_is in cc) in
      let key : of_a.tree.key_len ≡ of_b.tree.key_len = of_a.key_len ∙ sym of_b.key_len in
      let width_a = of_a.width in
      let width_b = of_b.width in
      let value : of_a.tree.value_len ≡ of_b.tree.value_len = omega (arith, key, width_a, width_b) in
      let same : of_a.tree ≡ of_b.tree = same_tree of_a.tree of_b.tree (of_a.index_is ∙ sym of_b.index_is) root key value in
      sym of_a.pairs_are ∙ (ap (λ (t : Tree). tree_pairs t pages) same ∙ of_b.pairs_are)

-- ---- whether a value has a key

fits_or_not : (n : ℤ) → FitsSigned w64 n ⊎ (FitsSigned w64 n → ⊥)
fits_or_not (pos n) = elim (cases_lt n (2 ^ 63)) [
  | inl few ↦ inl (record { sfits = omega (arith, few) })
  | inr many ↦ inr (λ fits. omega (arith, many, fits.sfits))
]
fits_or_not (negsuc n) = elim (cases_lt n (2 ^ 63)) [
  | inl few ↦ inl (record { sfits = omega (arith, few) })
  | inr many ↦ inr (λ fits. omega (arith, many, fits.sfits))
]

key_or_not : (kind : Kind) (value : Value) → HasKey kind value ⊎ (HasKey kind value → ⊥)
key_or_not BigInt (Int n) = elim (fits_or_not n) [ inl fits ↦ inl (tt, fits) | inr none ↦ inr (λ has. none has.1) ]
key_or_not BigInt Null = inr (λ has. has.0)
key_or_not BigInt (Text text) = inr (λ has. has.0)
key_or_not (VarBinary size) (Text text) = elim (cases_lt size (length text)) [
  | inl long ↦ inr (λ has. omega (arith, long, has.0))
  | inr fits ↦ inl (fits, tt)
]
key_or_not (VarBinary size) Null = inr (λ has. has.0)
key_or_not (VarBinary size) (Int n) = inr (λ has. has.0)

-- ---- one database

-- older versions may be kept otherwise, as long as each record reads one way
module _ (pages : ℕ → List ℕ) (one two : ℕ → Option Kept) (open_id : ℕ → Bool)
    (one_way : (schema : Schema) (key : List ℕ) (bytes : Option (List ℕ)) (row other : Option (List Value)) → ReadsAs schema key one open_id bytes row
    → ReadsAs schema key two open_id bytes other → row ≡ other)
    (a b : Database) (of_a : StandForDb pages one open_id a) (of_b : StandForDb pages two open_id b) where
  same_tables : of_a.tables ≡ of_b.tables
  same_tables = one_catalog pages of_a.tables of_b.tables of_a.show.catalog of_b.show.catalog

  pub same_schemas : a.schemas ≡ b.schemas
  same_schemas = of_a.schemas ∙ (ap (λ (l : List Held). map (λ held. held.schema) l) same_tables ∙ sym of_b.schemas)

  -- a table that is there has an entry in the catalog, and a primary column
  held_of : (table : ℕ) (schema : Schema) → slice_get a.schemas table ≡ Some schema → (held : Held) × (slice_get of_a.tables table ≡ Some held)
      × (held.schema ≡ schema)
  held_of table schema there = elim (slice_get_cases of_a.tables table).1 [
    | inl found ↦ (
      found.0,
      found.2,
      let named : slice_get a.schemas table ≡ Some found.0.schema =
          ap (λ (l : List Schema). slice_get l table) of_a.schemas
          ∙ (slice_get-map (λ (held : Held). held.schema) of_a.tables table ∙ ap (option_map (λ (held : Held). held.schema)) found.2)
          in (let x = sym named ∙ there in cc),
    )
    | inr past ↦ absurd (
        let none : slice_get a.schemas table ≡ None =
        ap (λ (l : List Schema). slice_get l table) of_a.schemas
        ∙ (slice_get-map (λ (held : Held). held.schema) of_a.tables table ∙ ap (option_map (λ (held : Held). held.schema)) past.1)
        in (let x = sym none ∙ there in cc))
  ]

  primary_of : (table : ℕ) (held : Held) → slice_get of_a.tables table ≡ Some held
      → (column : Column) × (slice_get held.schema.columns held.schema.primary ≡ Some column)
  primary_of table held there =
      let makeable = (of_a.show.catalog.each table held there).makeable in
      let within = place_within held.schema.columns held.schema.primary (parts_of held.schema makeable).primary in
      elim (slice_get_cases held.schema.columns held.schema.primary).1 [
        | inl found ↦ (found.0, found.2)
        | inr past ↦ absurd (let far = past.0 in omega (arith, within, far))
      ]

  -- the pairs of its records are the same
  same_pairs : (table : ℕ) (held : Held) → slice_get of_a.tables table ≡ Some held
      → of_a.indexes (clustered_index table) ≡ of_b.indexes (clustered_index table)
  same_pairs table held there =
      one_tree pages table held (of_a.indexes (clustered_index table)) (of_b.indexes (clustered_index table)) (of_a.show.trees table held there)
      (of_b.show.trees table held (subst (λ (l : List Held). slice_get l table ≡ Some held) same_tables there))

  in_b : (table : ℕ) (schema : Schema) → slice_get a.schemas table ≡ Some schema → slice_get b.schemas table ≡ Some schema
  in_b table schema there = subst (λ (l : List Schema). slice_get l table ≡ Some schema) same_schemas there

  same_in : (table : ℕ) (schema : Schema) (value : Value) → slice_get a.schemas table ≡ Some schema → get a.rows (table, value) ≡ get b.rows (table, value)
  same_in table schema value there =
      let held = held_of table schema there in
      let column = primary_of table held.0 held.1 in
      let primary : slice_get schema.columns schema.primary ≡ Some column.0 =
      subst (λ (s : Schema). slice_get s.columns s.primary ≡ Some column.0) held.2 column.1
      in
      elim (key_or_not column.0.kind value) [
        | inl has ↦ (let key = key_code column.0.kind value in
            one_way schema key (value_of key (of_a.indexes (clustered_index table))) (get a.rows (table, value)) (get b.rows (table, value))
            (of_a.rows.records table schema column.0 value there primary has)
            (subst (λ (pairs : List Pair). ReadsAs schema key two open_id (value_of key pairs) (get b.rows (table, value)))
            (sym (same_pairs table held.0 held.1)) (of_b.rows.records table schema column.0 value (in_b table schema there) primary has)))
        | inr none ↦ of_a.rows.no_others table schema column.0 value there primary none
            ∙ sym (of_b.rows.no_others table schema column.0 value (in_b table schema there) primary none)
      ]

  pub same_rows : (place : Place) → get a.rows (in_model place) ≡ get b.rows (in_model place)
  same_rows place = elim (slice_get_cases a.schemas place.table).1 [
    | inl found ↦ same_in place.table found.0 place.key found.2
    | inr past ↦ of_a.rows.no_tables place.table place.key past.1
        ∙ sym (of_b.rows.no_tables place.table place.key (subst (λ (l : List Schema). slice_get l place.table ≡ None) same_schemas past.1))
  ]
