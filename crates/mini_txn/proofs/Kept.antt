-- Records that are spelled one behind the other tell themselves again.
use Rattle.std.proofs.Common.{◌≡◌, ℕ, ◌+◌, ◌-◌, ◌<◌, ◌≤◌, List, [], ◌∷◌, ◌++◌, length, All, refl, sym, ap, subst, ◌∙◌, arith, length-append}
use Rattle.std.specs.List.{flat_map, AllByRecursion}
use Rattle.std.specs.Option.{option_map_or}
use Rattle.std.proofs.lemmas.List.{append-nil, length_push}
use Rattle.std.proofs.lemmas.List.Concat.{flat_map-append}
use Rattle.std.proofs.lemmas.List.Elements.{All-from_recursion}
use Rattle.std.proofs.lemmas.Grind.{fold-append}
use Rattle.schema_codec.proofs.Spells.{list_again}
use Rattle.schema_codec.proofs.Lengths.{length-u16, length-u32}
use Rattle.schema_codec.specs.Numbers.{u16_bytes, u32_bytes}
use Rattle.log_format.specs.declared.group.Record.{Record}
use Rattle.log_format.specs.declared.group.Record.TheVariants.{Put, Fresh}
use Rattle.log_format.specs.Group.{record_bytes, IsRecord, IsSpelled}
use Rattle.log_format.specs.Reading.{record_at}
use Rattle.log_format.proofs.TwoLaws.{record_spells}
use Rattle.mini_txn.specs.Edits.{kept, AreKept, spare_of, edited, edited_by}

each_record : (records : List Record) → AllByRecursion IsRecord records → All IsRecord records
each_record records each = All-from_recursion IsRecord records each

each_push : (records : List Record) (r : Record) → AllByRecursion IsRecord records → IsRecord r → AllByRecursion IsRecord (records ++ r ∷ [])
each_push [] r each is = (is, tt)
each_push (x ∷ records) r each is = (each.0, each_push records r each.1 is)

pub bytes-push : (records : List Record) (r : Record) → flat_map record_bytes (records ++ r ∷ []) ≡ flat_map record_bytes records ++ record_bytes r
bytes-push records r = flat_map-append record_bytes records (r ∷ []) ∙ ap (λ (l : List ℕ). flat_map record_bytes records ++ l) (append-nil (record_bytes r))

pub length-fresh : (page : ℕ) → length (record_bytes (Fresh page)) ≡ 5
length-fresh page = omega (arith, length-u32 page)

pub length-put : (page at : ℕ) (piece : List ℕ) → length (record_bytes (Put page at piece)) ≡ length piece + 9
length-put page at piece =
    omega (
      arith,
      length-append (u32_bytes page ++ u16_bytes at ++ u16_bytes (length piece)) piece,
      length-append (u32_bytes page ++ u16_bytes at) (u16_bytes (length piece)),
      length-append (u32_bytes page) (u16_bytes at),
      length-u32 page,
      length-u16 at,
      length-u16 (length piece),
    )

module _ (records : List Record) (count : ℕ) (bytes : List ℕ) (capacity : ℕ) (are : AreKept records count bytes capacity) where
  pub kept_is : kept count bytes ≡ records
  kept_is =
      let spelled : bytes ≡ flat_map record_bytes records ++ [] = are.bytes_are ∙ sym (append-nil (flat_map record_bytes records)) in
      let read = list_again record_at record_bytes IsRecord record_spells records [] (each_record records are.each) in
      ap (λ (n : ℕ). kept n bytes) are.number ∙ ap (kept (length records)) spelled ∙ ap (λ o. option_map_or (λ (p : List Record × List ℕ). p.0) o []) read

  -- they are those that the bytes tell
  pub kept_again : AreKept (kept count bytes) count bytes capacity
  kept_again = subst (λ (l : List Record). AreKept l count bytes capacity) (sym kept_is) are

  pub spelled : IsSpelled records count bytes
  spelled = record {
    are = record { count = omega (arith, are.few, are.fits); each = each_record records are.each };
    number = are.number;
    spelled =
        are.bytes_are;
  }

  pub spare_is : spare_of records ≡ 131072 - length bytes
  spare_is = ap (λ (l : List ℕ). 131072 - length l) (sym are.bytes_are)

  -- a record more
  pub added : (r : Record) (more : ℕ) → IsRecord r → 5 ≤ length (record_bytes r) → length bytes + length (record_bytes r) ≤ 131072 → 131072 ≤ more
      → AreKept (records ++ r ∷ []) (count + 1) (bytes ++ record_bytes r) more
  added r more is long fits room = record {
    each = each_push records r are.each is;
    bytes_are = ap (λ (l : List ℕ). l ++ record_bytes r) are.bytes_are ∙ sym (bytes-push records r);
    number = omega (arith, are.number, length_push records r);
    few = omega (arith, are.few, length_push records r, length-append bytes (record_bytes r), long);
    fits = omega (arith, length-append bytes (record_bytes r), fits);
    room = room;
  }

pub none_kept : (capacity : ℕ) → 131072 ≤ capacity → AreKept [] 0 [] capacity
none_kept capacity room = record { each = tt; bytes_are = refl; number = refl; few = omega arith; fits = omega arith; room = room }

-- another spelling of the same bytes, in other words
pub same_kept : {records : List Record} {count count' : ℕ} {bytes bytes' : List ℕ} {capacity : ℕ} → count' ≡ count → bytes' ≡ bytes
    → AreKept records count bytes capacity → AreKept records count' bytes' capacity
same_kept {records} {count} {count'} {bytes} {bytes'} {capacity} a b are =
    subst (λ (n : ℕ). AreKept records n bytes' capacity) (sym a) (subst (λ (l : List ℕ). AreKept records count l capacity) (sym b) are)

-- ---- what a record more makes of pages and of the spare

pub edited-push : (page : ℕ) (records : List Record) (r : Record) (bytes : List ℕ) → edited page (records ++ r ∷ []) bytes
    ≡ edited_by page (edited page records bytes) r
edited-push page records r bytes = fold-append (edited_by page) bytes records (r ∷ [])

pub spare-push : (records : List Record) (r : Record) (cost : ℕ) → length (record_bytes r) ≡ cost → cost ≤ spare_of records
    → spare_of (records ++ r ∷ []) + cost ≡ spare_of records
spare-push records r cost long enough =
    let all : length (flat_map record_bytes (records ++ r ∷ [])) ≡ length (flat_map record_bytes records) + length (record_bytes r) =
    ap length (bytes-push records r) ∙ length-append (flat_map record_bytes records) (record_bytes r) in
    omega (arith, all, long, enough)

-- the bytes with a record more tell the records with it
pub one_more : (count : ℕ) (bytes : List ℕ) (capacity : ℕ) (records : List Record) → AreKept (kept count bytes) count bytes capacity
    → kept count bytes ≡ records
    → (r : Record) (cost : ℕ) → IsRecord r → length (record_bytes r) ≡ cost → 5 ≤ cost → cost ≤ spare_of records
    → (bytes' : List ℕ) (capacity' : ℕ) → bytes' ≡ bytes ++ record_bytes r → 131072 ≤ capacity'
    → AreKept (kept (count + 1) bytes') (count + 1) bytes' capacity' × (kept (count + 1) bytes' ≡ records ++ r ∷ [])
one_more count bytes capacity records are tells r cost is long some enough bytes' capacity' items room =
    let mine : AreKept records count bytes capacity = subst (λ (l : List Record). AreKept l count bytes capacity) tells are in
    let fits : length bytes + length (record_bytes r) ≤ 131072 = omega (arith, enough, long, spare_is records count bytes capacity mine, mine.fits) in
    let more : AreKept (records ++ r ∷ []) (count + 1) bytes' capacity' = same_kept refl items
    (added records count bytes capacity mine r capacity' is (omega (arith, long, some)) fits room) in
    (kept_again (records ++ r ∷ []) (count + 1) bytes' capacity' more, kept_is (records ++ r ∷ []) (count + 1) bytes' capacity' more)

-- no bytes tell no records
pub no_more : (bytes : List ℕ) (capacity : ℕ) → bytes ≡ [] → 131072 ≤ capacity → AreKept (kept 0 bytes) 0 bytes capacity × (kept 0 bytes ≡ [])
no_more bytes capacity items room =
    let none : AreKept [] 0 bytes capacity = same_kept refl items (none_kept capacity room) in
    (kept_again [] 0 bytes capacity none, kept_is [] 0 bytes capacity none)
