-- The records of a group, applied one by one to a page that is older, and then the group's stamp, are the group.
use Rattle.std.proofs.Common.{◌≡◌, ℕ, ◌+◌, ◌-◌, ◌^◌, ◌<◌, ◌≤◌, Bool, true, false, cond, List, [], ◌∷◌, ◌++◌, length, take, drop, refl, sym, ap, ◌∙◌, arith}
use Rattle.std.proofs.Common.{length-drop}
use Rattle.std.specs.Prelude.{◌==◌, ◌&&◌, ◌||◌, All, nat_lt}
use Rattle.std.specs.List.{list_any}
use Rattle.std.specs.Int.{w64, from_be_bytes}
use Rattle.std.proofs.lemmas.Bool.{ltb-true, lt-ltb, le-ltb}
use Rattle.std.proofs.lemmas.List.{drop-take, drop-append-le, take-append-le, take-take, length-take-le}
use Rattle.std.proofs.lemmas.List.Elements.{All-head, All-tail}
use Rattle.std.proofs.lemmas.List.Folds.{list_any-append}
use Rattle.std.proofs.lemmas.List.Sums.{fold-append}
use Rattle.stored_pages.specs.Words.{u64_at, lsn_of}
use Rattle.log_format.specs.declared.group.Group.{Group}
use Rattle.log_format.specs.declared.group.Record.{Record}
use Rattle.log_format.specs.declared.group.Record.TheVariants.{Put, Fresh, RowPut, RowRemove, NewTable}
use Rattle.log_format.specs.Group.{IsRecord, IsGroup}
use Rattle.mtr.specs.Seen.{with_bytes}
use Rattle.mini_txn.specs.Edits.{blank, edited_by, edited}
use Rattle.mini_txn.specs.View.{stamped}
use Rattle.mini_txn.proofs.Bodies.{lsn-stamped, length-stamped}
use Rattle.law_logged_pages.specs.Applied.{is_of, names, with_group}
use Rattle.law_logged_pages.proofs.Edits.{length-record, length-edited}
use Rattle.page_recovery.specs.Applying.{edited_below, edited_so_far, stamped_below, stamped_so_far}
use Rattle.page_recovery.proofs.Instead.{lsn-blank}

-- ---- a page that is older stays so while records are applied

lsn-written : (at : ℕ) (piece a : List ℕ) → 20 ≤ at → at ≤ length a → lsn_of (with_bytes at piece a) ≡ lsn_of a
unfolding u64_at
lsn-written at piece a begins within =
    let rest : List ℕ = piece ++ drop (at + length piece) a in
    let long : length (take at a) ≡ at = length-take-le at a within in
    let place : 12 + (at - 12) ≡ at = omega (arith, begins) in
    let cut : drop 12 (take at a) ≡ take (at - 12) (drop 12 a) = ap (λ (n : ℕ). drop 12 (take n a)) (sym place) ∙ drop-take 12 (at - 12) a in
    ap (from_be_bytes w64)
    (ap (take 8) (drop-append-le 12 (take at a) rest (omega (arith, long, begins)))
    ∙ take-append-le 8 (drop 12 (take at a)) rest (omega (arith, length-drop 12 (take at a), long, begins))
    ∙ ap (take 8) cut ∙ take-take 8 (at - 12) (drop 12 a) (omega (arith, begins)))

older_record : (lsn page : ℕ) (r : Record) (a : List ℕ) → IsRecord r → length a ≡ 4096 → lsn_of a < lsn → lsn_of (edited_by page a r) < lsn
older_record lsn page (Put other at piece) a is size older = go (other == page) where
  go : (b : Bool) → lsn_of (cond b (with_bytes at piece a) a) < lsn
  go true = let same = lsn-written at piece a is.1 (omega (arith, is.2, size)) in omega (arith, same, older)
  go false = older
older_record lsn page (Fresh other) a is size older = go (other == page) where
  go : (b : Bool) → lsn_of (cond b blank a) < lsn
  go true = let none = lsn-blank in omega (arith, none, older)
  go false = older
older_record lsn page (RowPut table row) a is size older = older
older_record lsn page (RowRemove table key) a is size older = older
older_record lsn page (NewTable schema) a is size older = older

older_records : (lsn page : ℕ) (rs : List Record) (a : List ℕ) → All IsRecord rs → length a ≡ 4096 → lsn_of a < lsn → lsn_of (edited page rs a) < lsn
older_records lsn page [] a all size older = older
older_records lsn page (r ∷ rs) a all size older =
    let is = All-head IsRecord r rs all in
    older_records lsn page rs (edited_by page a r) (All-tail IsRecord r rs all) (length-record page r a is size) (older_record lsn page r a is size older)

-- ---- record by record

pub edited_next : (lsn page : ℕ) (rs : List Record) (r : Record) (a : List ℕ) → All IsRecord rs → length a ≡ 4096
    → edited_below lsn r page (edited_so_far lsn rs page a) ≡ edited_so_far lsn (rs ++ r ∷ []) page a
edited_next lsn page rs r a all size = go (nat_lt (lsn_of a) lsn) refl where
  go : (b : Bool) → nat_lt (lsn_of a) lsn ≡ b → edited_below lsn r page (cond b (edited page rs a) a) ≡ cond b (edited page (rs ++ r ∷ []) a) a
  go true older =
      let still = lt-ltb (lsn_of (edited page rs a)) lsn (older_records lsn page rs a all size (ltb-true (lsn_of a) lsn older)) in
      ap (λ (t : Bool). cond t (edited_by page (edited page rs a) r) (edited page rs a)) still ∙ sym (fold-append (edited_by page) a rs (r ∷ []))
  go false newer = ap (λ (t : Bool). cond t (edited_by page a r) a) newer

pub length-so-far : (lsn page : ℕ) (rs : List Record) (a : List ℕ) → All IsRecord rs → length a ≡ 4096 → length (edited_so_far lsn rs page a) ≡ 4096
length-so-far lsn page rs a all size = go (nat_lt (lsn_of a) lsn) where
  go : (b : Bool) → length (cond b (edited page rs a) a) ≡ 4096
  go true = length-edited page rs a all size
  go false = size

-- ---- stamp by stamp

pub stamped_next : (lsn page : ℕ) (rs : List Record) (r : Record) (a : List ℕ) → lsn < 2 ^ 64 → length a ≡ 4096
    → stamped_below lsn r page (stamped_so_far lsn rs page a) ≡ stamped_so_far lsn (rs ++ r ∷ []) page a
stamped_next lsn page rs r a fits size =
    go (list_any (is_of page) rs) (is_of page r) (nat_lt (lsn_of a) lsn) refl refl
    ∙ sym (ap (λ (t : Bool). cond (t && nat_lt (lsn_of a) lsn) (stamped page lsn a) a) (list_any-append (is_of page) rs (r ∷ []))) where
      own : lsn_of (stamped page lsn a) ≡ lsn
      own = lsn-stamped page lsn a (omega (arith, size)) fits

      done : nat_lt (lsn_of (stamped page lsn a)) lsn ≡ false
      done = le-ltb (lsn_of (stamped page lsn a)) lsn (omega (arith, own))

      go : (b c d : Bool) → is_of page r ≡ c → nat_lt (lsn_of a) lsn ≡ d
          → stamped_below lsn r page (cond (b && d) (stamped page lsn a) a) ≡ cond ((b || (c || false)) && d) (stamped page lsn a) a
      go true c true is older =
          ap (λ (t : Bool). cond (is_of page r && t) (stamped page lsn (stamped page lsn a)) (stamped page lsn a)) done ∙ never (is_of page r) where
            never : (t : Bool) → cond (t && false) (stamped page lsn (stamped page lsn a)) (stamped page lsn a) ≡ stamped page lsn a
            never true = refl
            never false = refl
      go true c false is newer = ap (λ (t : Bool). cond (is_of page r && t) (stamped page lsn a) a) newer ∙ never (is_of page r) where
        never : (t : Bool) → cond (t && false) (stamped page lsn a) a ≡ a
        never true = refl
        never false = refl
      go false true d is older =
          (λ i. cond (is i && older i) (stamped page lsn a) a)
      go false false d is older = (λ i. cond (is i && older i) (stamped page lsn a) a)

pub length-stamps : (lsn page : ℕ) (rs : List Record) (a : List ℕ) → length a ≡ 4096 → length (stamped_so_far lsn rs page a) ≡ 4096
length-stamps lsn page rs a size = go (list_any (is_of page) rs && nat_lt (lsn_of a) lsn) where
  go : (b : Bool) → length (cond b (stamped page lsn a) a) ≡ 4096
  go true = length-stamped page lsn a size
  go false = size

-- ---- a group

silent_record : (page : ℕ) (r : Record) (a : List ℕ) → is_of page r ≡ false → edited_by page a r ≡ a
silent_record page (Put other at piece) a none = ap (λ (t : Bool). cond t (with_bytes at piece a) a) none
silent_record page (Fresh other) a none = ap (λ (t : Bool). cond t blank a) none
silent_record page (RowPut table row) a none = refl
silent_record page (RowRemove table key) a none = refl
silent_record page (NewTable schema) a none = refl

-- records of other pages leave the page
silent_records : (page : ℕ) (rs : List Record) (a : List ℕ) → list_any (is_of page) rs ≡ false → edited page rs a ≡ a
silent_records page [] a none = refl
silent_records page (r ∷ rs) a none = go (is_of page r) refl none (silent_records page rs a) where
  go : (b : Bool) → is_of page r ≡ b → (b || list_any (is_of page) rs) ≡ false → (list_any (is_of page) rs ≡ false → edited page rs a ≡ a)
      → edited page rs (edited_by page a r) ≡ a
  go true is other rest = absurd cc
  go false is other rest = ap (edited page rs) (silent_record page r a is) ∙ rest other

pub group_applied : (page : ℕ) (g : Group) (a : List ℕ) → IsGroup g → length a ≡ 4096
    → stamped_so_far g.lsn g.records page (edited_so_far g.lsn g.records page a) ≡ with_group page g a
unfolding with_group
group_applied page g a is size = go (nat_lt (lsn_of a) g.lsn) (names page g) refl refl where
  go : (d b : Bool) → nat_lt (lsn_of a) g.lsn ≡ d → names page g ≡ b
      → stamped_so_far g.lsn g.records page (cond d (edited page g.records a) a) ≡ cond (b && d) (stamped page g.lsn (edited page g.records a)) a
  go true true older named =
      let still = lt-ltb (lsn_of (edited page g.records a)) g.lsn (older_records g.lsn page g.records a is.each size (ltb-true (lsn_of a) g.lsn older)) in
      (λ i. cond (named i && still i) (stamped page g.lsn (edited page g.records a)) (edited page g.records a))
  go true false older none =
      ap (λ (t : Bool). cond (t && nat_lt (lsn_of (edited page g.records a)) g.lsn) (stamped page g.lsn (edited page g.records a))
      (edited page g.records a)) none
      ∙ silent_records page g.records a none
  go false true newer named = (λ i. cond (named i && newer i) (stamped page g.lsn a) a)
  go false false newer none = (λ i. cond (none i && newer i) (stamped page g.lsn a) a)
