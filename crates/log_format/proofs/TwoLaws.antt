-- The two laws: what is read is spelled so, and what is spelled so is read.
use Rattle.std.proofs.Common.{◌≡◌, inl, inr, ℕ, suc, ◌+◌, ◌^◌, ◌<◌, ◌≤◌, Bool, true, false, cond, eqb, ltb, List, [], ◌∷◌, ◌++◌, length, All, Some, None, refl}
use Rattle.std.proofs.Common.{sym, ap, subst, ◌∙◌, append_assoc, arith}
use Rattle.std.specs.Prelude.{◌||◌}
use Rattle.std.specs.List.{flat_map}
use Rattle.std.proofs.lemmas.Bool.{eqb-true, ltb-false, le-ltb, cases_eq, ne_eqb}
use Rattle.std.proofs.lemmas.List.{append-nil, nil_from_length}
use Rattle.log_format.specs.declared.group.Group.{Group}
use Rattle.log_format.specs.declared.group.Record.{Record}
use Rattle.log_format.specs.declared.group.Record.TheVariants.{Put, Fresh, RowPut, RowRemove, NewTable}
use Rattle.schema_codec.specs.Numbers.{u16_bytes, u32_bytes, u64_bytes}
use Rattle.schema_codec.specs.Schema.{counted, IsCounted}
use Rattle.schema_codec.specs.Reading.{◌>>=◌, u8_at, u16_at, u32_at, u64_at, bytes_at, both_at, list_at, counted_at, schema_at}
use Rattle.schema_codec.proofs.Schemas.{schema_spells}
use Rattle.schema_codec.proofs.Spells.{Spells, IsByte, u8_spells, both_spells, counted_spells, list_takes, list_again}
use Rattle.log_format.specs.Group.{value_bytes, IsValue, record_bytes, IsRecord, body, group_bytes, IsGroup}
use Rattle.log_format.specs.Reading.{put_at, fresh_at, value_at, row_put_at, row_remove_at, new_table_at, change_at, record_at, body_at, group_at}
use Rattle.log_format.proofs.Values.{value_spells}
use Rattle.schema_codec.proofs.Fields.{IsBytes, bind_some, guard_some, guard_last, some_is, Takes, Takes-then, u16_takes, u32_takes, u64_takes, u16_again}
use Rattle.schema_codec.proofs.Fields.{u32_again, u64_again, bytes_take, bytes_again}

neither : (a b : Bool) → (a || b) ≡ false → (a ≡ false) × (b ≡ false)
neither true b e = absurd cc
neither false b e = (refl, e)

put_takes : (bytes : List ℕ) (x : Record × List ℕ) → IsBytes bytes → put_at bytes ≡ Some x → Takes (1 ∷ bytes) (record_bytes x.0) x.1 × IsRecord x.0
unfolding put_at
put_takes bytes x fits e =
    let finish = λ (page place len : ℕ) (text : List ℕ × List ℕ). cond (ltb place 20 || ltb 4096 (place + len)) None (Some (Put page place text.0, text.1)) in
    let a = bind_some (u32_at bytes) (λ page. u16_at page.1 >>= λ place. u16_at place.1 >>= λ len. bytes_at len.0 len.1 >>= λ text.
    finish page.0 place.0 len.0 text) x e in
    let b = bind_some (u16_at a.0.1) (λ place. u16_at place.1 >>= λ len. bytes_at len.0 len.1 >>= λ text. finish a.0.0 place.0 len.0 text) x a.2 in
    let c = bind_some (u16_at b.0.1) (λ len. bytes_at len.0 len.1 >>= λ text. finish a.0.0 b.0.0 len.0 text) x b.2 in
    let d = bind_some (bytes_at c.0.0 c.0.1) (λ text. finish a.0.0 b.0.0 c.0.0 text) x c.2 in
    let g = guard_some (ltb b.0.0 20 || ltb 4096 (b.0.0 + c.0.0)) (Put a.0.0 b.0.0 d.0.0, d.0.1) x d.2 in
    let tests = neither (ltb b.0.0 20) (ltb 4096 (b.0.0 + c.0.0)) g.0 in
    let past_header : 20 ≤ b.0.0 = ltb-false _ _ tests.0 in
    let in_page : b.0.0 + c.0.0 ≤ 4096 = ltb-false _ _ tests.1 in
    let page = u32_takes bytes a.0.0 a.0.1 fits a.1 in
    let place = u16_takes a.0.1 b.0.0 b.0.1 page.0.rest_fits b.1 in
    let len = u16_takes b.0.1 c.0.0 c.0.1 place.0.rest_fits c.1 in
    let text = bytes_take c.0.0 c.0.1 d.0.0 d.0.1 len.0.rest_fits d.1 in
    let all = Takes-then bytes (u32_bytes a.0.0 ++ u16_bytes b.0.0 ++ u16_bytes c.0.0) c.0.1 d.0.0 d.0.1
    (Takes-then bytes (u32_bytes a.0.0 ++ u16_bytes b.0.0) b.0.1 (u16_bytes c.0.0) c.0.1
    (Takes-then bytes (u32_bytes a.0.0) a.0.1 (u16_bytes b.0.0) b.0.1 page.0 place.0) len.0) text.0 in
    let sized = subst (λ (n : ℕ). Takes bytes (u32_bytes a.0.0 ++ u16_bytes b.0.0 ++ u16_bytes n ++ d.0.0) d.0.1) (sym text.1) all in
    let made : Takes (1 ∷ bytes) (record_bytes (Put a.0.0 b.0.0 d.0.0)) d.0.1 =
    record { parts = ap (λ (l : List ℕ). 1 ∷ l) sized.parts; rest_fits = sized.rest_fits } in
    subst (λ (y : Record × List ℕ). Takes (1 ∷ bytes) (record_bytes y.0) y.1 × IsRecord y.0) g.1 (made, (page.1, past_header, rw text.1 in_page))

fresh_takes : (bytes : List ℕ) (x : Record × List ℕ) → IsBytes bytes → fresh_at bytes ≡ Some x → Takes (2 ∷ bytes) (record_bytes x.0) x.1 × IsRecord x.0
unfolding fresh_at
fresh_takes bytes x fits e =
    let a = bind_some (u32_at bytes) (λ page. Some (Fresh page.0, page.1)) x e in
    let page = u32_takes bytes a.0.0 a.0.1 fits a.1 in
    subst (λ (y : Record × List ℕ). Takes (2 ∷ bytes) (record_bytes y.0) y.1 × IsRecord y.0) (some_is (Fresh a.0.0, a.0.1) x a.2)
    (record { parts = ap (λ (l : List ℕ). 2 ∷ l) page.0.parts; rest_fits = page.0.rest_fits }, page.1)

-- a table's number and a row, or a number of keys and a key
row_spells : Spells (both_at u8_at (counted_at value_at)) (λ x. (x.0 ∷ []) ++ counted value_bytes x.1) (λ x. IsByte x.0 × IsCounted IsValue x.1)
row_spells = both_spells _ _ _ _ _ _ u8_spells (counted_spells _ _ _ value_spells)

row_key_spells : Spells (both_at (both_at u8_at u8_at) value_at) (λ x. (x.0.0 ∷ []) ++ (x.0.1 ∷ []) ++ value_bytes x.1)
    (λ x. (IsByte x.0.0 × IsByte x.0.1) × IsValue x.1)
row_key_spells = both_spells _ _ _ _ _ _ (both_spells _ _ _ _ _ _ u8_spells u8_spells) value_spells

row_put_takes : (bytes : List ℕ) (x : Record × List ℕ) → IsBytes bytes → row_put_at bytes ≡ Some x → Takes (3 ∷ 1 ∷ bytes) (record_bytes x.0) x.1 × IsRecord x.0
unfolding row_put_at
row_put_takes bytes x fits e =
    let a = bind_some (both_at u8_at (counted_at value_at) bytes) (λ parts. Some (RowPut parts.0.0 parts.0.1, parts.1)) x e in
    let parts = row_spells.takes bytes a.0 fits a.1 in
    subst (λ (y : Record × List ℕ). Takes (3 ∷ 1 ∷ bytes) (record_bytes y.0) y.1 × IsRecord y.0) (some_is (RowPut a.0.0.0 a.0.0.1, a.0.1) x a.2)
    (record { parts = ap (λ (l : List ℕ). 3 ∷ 1 ∷ l) parts.0.parts; rest_fits = parts.0.rest_fits }, parts.1)

row_remove_takes : (bytes : List ℕ) (x : Record × List ℕ) → IsBytes bytes → row_remove_at bytes ≡ Some x
    → Takes (3 ∷ 2 ∷ bytes) (record_bytes x.0) x.1 × IsRecord x.0
unfolding row_remove_at
row_remove_takes bytes x fits e =
    let a = bind_some (both_at (both_at u8_at u8_at) value_at bytes)
    (λ parts. cond (eqb parts.0.0.1 1) (Some (RowRemove parts.0.0.0 parts.0.1, parts.1)) None) x e in
    let last = guard_last (eqb a.0.0.0.1 1) (RowRemove a.0.0.0.0 a.0.0.1, a.0.1) x a.2 in
    let one : a.0.0.0.1 ≡ 1 = eqb-true _ _ last.0 in
    let parts = row_key_spells.takes bytes a.0 fits a.1 in
    let counted_one = subst (λ (n : ℕ). Takes bytes (a.0.0.0.0 ∷ n ∷ value_bytes a.0.0.1) a.0.1) one parts.0 in
    subst (λ (y : Record × List ℕ). Takes (3 ∷ 2 ∷ bytes) (record_bytes y.0) y.1 × IsRecord y.0) last.1
    (record { parts = ap (λ (l : List ℕ). 3 ∷ 2 ∷ l) counted_one.parts; rest_fits = counted_one.rest_fits }, (parts.1.0.0, parts.1.1))

new_table_takes : (bytes : List ℕ) (x : Record × List ℕ) → IsBytes bytes → new_table_at bytes ≡ Some x → Takes (3 ∷ 3 ∷ bytes) (record_bytes x.0) x.1
    × IsRecord x.0
unfolding new_table_at
new_table_takes bytes x fits e =
    let a = bind_some (schema_at bytes) (λ schema. Some (NewTable schema.0, schema.1)) x e in
    let schema = schema_spells.takes bytes a.0 fits a.1 in
    subst (λ (y : Record × List ℕ). Takes (3 ∷ 3 ∷ bytes) (record_bytes y.0) y.1 × IsRecord y.0) (some_is (NewTable a.0.0, a.0.1) x a.2)
    (record { parts = ap (λ (l : List ℕ). 3 ∷ 3 ∷ l) schema.0.parts; rest_fits = schema.0.rest_fits }, schema.1)

change_takes : (bytes : List ℕ) (x : Record × List ℕ) → IsBytes bytes → change_at bytes ≡ Some x → Takes (3 ∷ bytes) (record_bytes x.0) x.1 × IsRecord x.0
unfolding change_at u8_at
change_takes [] x fits e = absurd cc
change_takes (b ∷ rest) x fits e =
    let P = λ (k : ℕ). Takes (3 ∷ k ∷ rest) (record_bytes x.0) x.1 × IsRecord x.0 in
    elim (cases_eq b 1) [
      | inl is ↦ let read : row_put_at rest ≡ Some x = rw is at e in subst P (sym is) (row_put_takes rest x (λ i. fits (suc i)) read)
      | inr not_put ↦ elim (cases_eq b 2) [
        | inl is ↦ let read : row_remove_at rest ≡ Some x = rw is at e in subst P (sym is) (row_remove_takes rest x (λ i. fits (suc i)) read)
        | inr not_remove ↦ elim (cases_eq b 3) [
          | inl is ↦ let read : new_table_at rest ≡ Some x = rw is at e in subst P (sym is) (new_table_takes rest x (λ i. fits (suc i)) read)
          | inr neither ↦
              let none : cond (eqb b 1) (row_put_at rest) (cond (eqb b 2) (row_remove_at rest) (cond (eqb b 3) (new_table_at rest) None)) ≡ None =
              rw (ne_eqb b 1 not_put, ne_eqb b 2 not_remove, ne_eqb b 3 neither) refl in
              absurd (cc (none, e))
        ]
      ]
    ]

record_takes : (bytes : List ℕ) (x : Record × List ℕ) → IsBytes bytes → record_at bytes ≡ Some x → Takes bytes (record_bytes x.0) x.1 × IsRecord x.0
unfolding record_at u8_at
record_takes [] x fits e = absurd cc
record_takes (b ∷ rest) x fits e =
    let P = λ (k : ℕ). Takes (k ∷ rest) (record_bytes x.0) x.1 × IsRecord x.0 in
    elim (cases_eq b 1) [
      | inl is ↦ let read : put_at rest ≡ Some x = rw is at e in subst P (sym is) (put_takes rest x (λ i. fits (suc i)) read)
      | inr not_put ↦ elim (cases_eq b 2) [
        | inl is ↦ let read : fresh_at rest ≡ Some x = rw is at e in subst P (sym is) (fresh_takes rest x (λ i. fits (suc i)) read)
        | inr not_fresh ↦ elim (cases_eq b 3) [
          | inl is ↦ let read : change_at rest ≡ Some x = rw is at e in subst P (sym is) (change_takes rest x (λ i. fits (suc i)) read)
          | inr neither ↦
              let none : cond (eqb b 1) (put_at rest) (cond (eqb b 2) (fresh_at rest) (cond (eqb b 3) (change_at rest) None)) ≡ None =
              rw (ne_eqb b 1 not_put, ne_eqb b 2 not_fresh, ne_eqb b 3 neither) refl in
              absurd (cc (none, e))
        ]
      ]
    ]

record_again : (r : Record) (rest : List ℕ) → IsRecord r → record_at (record_bytes r ++ rest) ≡ Some (r, rest)
unfolding record_at change_at u8_at put_at fresh_at row_put_at row_remove_at new_table_at
record_again (Put page place text) rest is =
    let regrouped : u32_bytes page ++ u16_bytes place ++ u16_bytes (length text) ++ text ++ rest ≡ u32_bytes page ++
    (u16_bytes place ++ (u16_bytes (length text) ++ (text ++ rest))) = simp append_assoc in
    let low : ltb place 20 ≡ false = le-ltb _ _ is.1 in
    let high : ltb 4096 (place + length text) ≡ false = le-ltb _ _ is.2 in
    rw (
      regrouped,
      u32_again page _ is.0,
      u16_again place _ (omega (arith, is.2)),
      u16_again (length text) _ (omega (arith, is.2)),
      bytes_again text rest,
      low,
      high,
    ) refl
record_again (Fresh page) rest is = rw (u32_again page rest is) refl
record_again (RowPut table row) rest is = rw (row_spells.again (table, row) rest is) refl
record_again (RowRemove table key) rest is = rw (row_key_spells.again ((table, 1), key) rest ((is.0, omega arith), is.1)) refl
record_again (NewTable schema) rest is = rw (schema_spells.again schema rest is) refl

pub record_spells : Spells record_at record_bytes IsRecord
record_spells = record { takes = record_takes; again = record_again }

body_is : (bytes : List ℕ) (g : Group) → IsBytes bytes → body_at bytes ≡ Some g → (bytes ≡ body g) × (g.lsn < 2 ^ 64) × (length g.records < 2 ^ 16)
    × All IsRecord g.records
unfolding body_at body
body_is bytes g fits e =
    let finish = λ (lsn : ℕ) (records : List Record × List ℕ). cond (eqb (length records.1) 0) (Some (record { lsn = lsn; records = records.0 })) None in
    let a = bind_some (u64_at bytes) (λ lsn. u16_at lsn.1 >>= λ count. list_at record_at count.0 count.1 >>= λ records. finish lsn.0 records) g e in
    let b = bind_some (u16_at a.0.1) (λ count. list_at record_at count.0 count.1 >>= λ records. finish a.0.0 records) g a.2 in
    let c = bind_some (list_at record_at b.0.0 b.0.1) (λ records. finish a.0.0 records) g b.2 in
    let made : Group = record { lsn = a.0.0; records = c.0.0 } in
    let last = guard_last (eqb (length c.0.1) 0) made g c.2 in
    let lsn = u64_takes bytes a.0.0 a.0.1 fits a.1 in
    let count = u16_takes a.0.1 b.0.0 b.0.1 lsn.0.rest_fits b.1 in
    let records = list_takes record_at record_bytes IsRecord record_spells b.0.0 b.0.1 c.0 count.0.rest_fits c.1 in
    let nothing : c.0.1 ≡ [] = nil_from_length c.0.1 (eqb-true _ _ last.0) in
    let all = Takes-then bytes (u64_bytes a.0.0 ++ u16_bytes b.0.0) b.0.1 (flat_map record_bytes c.0.0) c.0.1
    (Takes-then bytes (u64_bytes a.0.0) a.0.1 (u16_bytes b.0.0) b.0.1 lsn.0 count.0) records.0 in
    let text = u64_bytes a.0.0 ++ u16_bytes b.0.0 ++ flat_map record_bytes c.0.0 in
    let whole : bytes ≡ u64_bytes a.0.0 ++ u16_bytes (length c.0.0) ++ flat_map record_bytes c.0.0 =
    all.parts ∙ ap (λ (l : List ℕ). text ++ l) nothing ∙ append-nil text ∙
    ap (λ (n : ℕ). u64_bytes a.0.0 ++ u16_bytes n ++ flat_map record_bytes c.0.0) (sym records.1) in
    subst (λ (h : Group). (bytes ≡ u64_bytes h.lsn ++ u16_bytes (length h.records) ++ flat_map record_bytes h.records) × (h.lsn < 2 ^ 64)
    × (length h.records < 2 ^ 16) × All IsRecord h.records) last.1
    (whole, lsn.1, rw records.1 count.1, records.2)

body_again : (g : Group) → IsGroup g → body_at (body g) ≡ Some g
unfolding body_at body
body_again g is =
    let regrouped : u64_bytes g.lsn ++ u16_bytes (length g.records) ++ flat_map record_bytes g.records ≡ u64_bytes g.lsn ++
    (u16_bytes (length g.records) ++ (flat_map record_bytes g.records ++ [])) =
    append_assoc (u64_bytes g.lsn) (u16_bytes (length g.records)) (flat_map record_bytes g.records) ∙
    ap (λ (l : List ℕ). u64_bytes g.lsn ++ (u16_bytes (length g.records) ++ l)) (sym (append-nil (flat_map record_bytes g.records))) in
    rw (
      regrouped,
      u64_again g.lsn _ is.lsn,
      u16_again (length g.records) _ is.count,
      list_again record_at record_bytes IsRecord record_spells g.records [] is.each,
    ) refl

pub group_takes : (bytes : List ℕ) (x : Group × List ℕ) → IsBytes bytes → group_at bytes ≡ Some x → Takes bytes (group_bytes x.0) x.1 × IsGroup x.0
unfolding group_at group_bytes
group_takes bytes x fits e =
    let a = bind_some (u32_at bytes) (λ len. bytes_at len.0 len.1 >>= λ text. body_at text.0 >>= λ group. Some (group, text.1)) x e in
    let b = bind_some (bytes_at a.0.0 a.0.1) (λ text. body_at text.0 >>= λ group. Some (group, text.1)) x a.2 in
    let c = bind_some (body_at b.0.0) (λ group. Some (group, b.0.1)) x b.2 in
    let len = u32_takes bytes a.0.0 a.0.1 fits a.1 in
    let text = bytes_take a.0.0 a.0.1 b.0.0 b.0.1 len.0.rest_fits b.1 in
    let is = body_is b.0.0 c.0 text.2 c.1 in
    let both = Takes-then bytes (u32_bytes a.0.0) a.0.1 b.0.0 b.0.1 len.0 text.0 in
    let size : a.0.0 ≡ length (body c.0) = sym text.1 ∙ ap length is.0 in
    let spelled = subst (λ (n : ℕ). Takes bytes (u32_bytes n ++ body c.0) b.0.1) size
    (subst (λ (l : List ℕ). Takes bytes (u32_bytes a.0.0 ++ l) b.0.1) is.0 both) in
    subst (λ (y : Group × List ℕ). Takes bytes (u32_bytes (length (body y.0)) ++ body y.0) y.1 × IsGroup y.0) (some_is (c.0, b.0.1) x c.2)
    (spelled, record { lsn = is.1; count = is.2; size = rw (← size) len.1; each = is.3 })

pub group_again : (g : Group) (rest : List ℕ) → IsGroup g → group_at (group_bytes g ++ rest) ≡ Some (g, rest)
unfolding group_at group_bytes
group_again g rest is =
    let regrouped : u32_bytes (length (body g)) ++ body g ++ rest ≡ u32_bytes (length (body g)) ++ (body g ++ rest) =
    append_assoc (u32_bytes (length (body g))) (body g) rest in
    rw (regrouped, u32_again (length (body g)) _ is.size, bytes_again (body g) rest, body_again g is) refl
