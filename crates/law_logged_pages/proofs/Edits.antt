-- What a group makes of a page doesn't hang on the page's sum.
use Rattle.std.proofs.Common.{◌≡◌, ◌⊎◌, inl, inr, ℕ, ◌+◌, ◌-◌, ◌<◌, ◌≤◌, Bool, true, false, cond, List, [], ◌∷◌, ◌++◌, length, take, drop, get_or, refl, sym}
use Rattle.std.proofs.Common.{ap, ◌∙◌, arith, length-append, length-take, length-drop}
use Rattle.std.specs.Prelude.{◌==◌, ◌&&◌, All, nat_lt}
use Rattle.std.proofs.lemmas.Bool.{cases_lt}
use Rattle.std.proofs.lemmas.List.{get_or-take, get_or-drop, get_or_past, drop_at, drop-drop, drop-take, drop-append-le, length-take-le, length-replicate}
use Rattle.std.proofs.lemmas.List.Elements.{All-head, All-tail}
use Rattle.std.specs.Int.{w64, from_be_bytes}
use Rattle.schema_codec.specs.Numbers.{u32_bytes, u64_bytes}
use Rattle.stored_pages.specs.Words.{u64_at, lsn_of}
use Rattle.log_format.specs.declared.group.Group.{Group}
use Rattle.log_format.specs.declared.group.Record.{Record}
use Rattle.log_format.specs.declared.group.Record.TheVariants.{Put, Fresh, RowPut, RowRemove, NewTable}
use Rattle.log_format.specs.Group.{IsRecord, IsGroup}
use Rattle.mtr.specs.Seen.{with_bytes}
use Rattle.mini_txn.specs.Edits.{blank, edited_by, edited}
use Rattle.mini_txn.specs.View.{stamped}
use Rattle.mini_txn.proofs.Bodies.{length-stamped}
use Rattle.law_logged_pages.specs.Applied.{names, with_group}
use Rattle.law_logged_pages.specs.Stages.{AreBytes, SameButSum}

pub same_sym : (a b : List ℕ) → SameButSum a b → SameButSum b a
same_sym a b is = record { size = sym is.size; same = sym is.same }

pub same_along : (a b c : List ℕ) → SameButSum a b → SameButSum b c → SameButSum a c
same_along a b c one other = record { size = one.size ∙ other.size; same = one.same ∙ other.same }

pub same_itself : (a : List ℕ) → SameButSum a a
same_itself a = record { size = refl; same = refl }

-- ---- bytes

-- so are those of a part of them
pub bytes_within : (n m : ℕ) (bytes : List ℕ) → AreBytes (n + m) bytes → (i : ℕ) → get_or (take m (drop n bytes)) i 0 < 256
bytes_within n m bytes are i = go (cases_lt i m) where
  go : (i < m) ⊎ (m ≤ i) → get_or (take m (drop n bytes)) i 0 < 256
  go (inl below) =
      let here : get_or (take m (drop n bytes)) i 0 ≡ get_or bytes (n + i) 0 = get_or-take m (drop n bytes) i 0 below ∙ get_or-drop n bytes i 0 in
      let byte = are (n + i) (omega (arith, below)) in
      omega (arith, here, byte)
  go (inr past) =
      let none : get_or (take m (drop n bytes)) i 0 ≡ 0 = get_or_past (take m (drop n bytes)) i 0 (omega (arith, past, length-take m (drop n bytes))) in
      omega (arith, none)

-- ---- behind byte 8

pub drop_past : (n at : ℕ) (a b : List ℕ) → n ≤ at → drop n a ≡ drop n b → drop at a ≡ drop at b
drop_past n at a b begins same =
    let place : n + (at - n) ≡ at = omega (arith, begins) in
    ap (λ (m : ℕ). drop m a) (sym place) ∙ sym (drop-drop (at - n) n a) ∙ ap (drop (at - n)) same ∙ drop-drop (at - n) n b ∙ ap (λ (m : ℕ). drop m b) place

pub lsn-same : (a b : List ℕ) → drop 8 a ≡ drop 8 b → lsn_of a ≡ lsn_of b
unfolding u64_at
lsn-same a b same = ap (λ (l : List ℕ). from_be_bytes w64 (take 8 l)) (drop_past 8 12 a b (omega arith) same)

-- ---- a record

length-written : (at : ℕ) (piece a : List ℕ) → at + length piece ≤ length a → length (with_bytes at piece a) ≡ length a
length-written at piece a ends =
    omega (
      arith,
      length-append (take at a) (piece ++ drop (at + length piece) a),
      length-append piece (drop (at + length piece) a),
      length-take-le at a (omega (arith, ends)),
      length-drop (at + length piece) a,
      ends,
    )

front-written : (n at : ℕ) (piece a : List ℕ) → n ≤ at → at ≤ length a
    → drop n (with_bytes at piece a) ≡ take (at - n) (drop n a) ++ (piece ++ drop (at + length piece) a)
front-written n at piece a begins within =
    let place : n + (at - n) ≡ at = omega (arith, begins) in
    let long : n ≤ length (take at a) = omega (arith, begins, length-take-le at a within) in
    drop-append-le n (take at a) (piece ++ drop (at + length piece) a) long
    ∙ ap (λ (l : List ℕ). l ++ (piece ++ drop (at + length piece) a)) (ap (λ (m : ℕ). drop n (take m a)) (sym place) ∙ drop-take n (at - n) a)

same-written : (n at : ℕ) (piece a b : List ℕ) → n ≤ at → at ≤ length a → at ≤ length b → drop n a ≡ drop n b
    → drop n (with_bytes at piece a) ≡ drop n (with_bytes at piece b)
same-written n at piece a b begins in_a in_b same =
    front-written n at piece a begins in_a
    ∙ ap (λ (l : List ℕ). take (at - n) l ++ (piece ++ drop (at + length piece) a)) same
    ∙ ap (λ (l : List ℕ). take (at - n) (drop n b) ++ (piece ++ l)) (drop_past n (at + length piece) a b (omega (arith, begins)) same)
    ∙ sym (front-written n at piece b begins in_b)

pub length-blank : length blank ≡ 4096
unfolding blank
length-blank = length-replicate {A = ℕ} 4096 0

pub length-record : (page : ℕ) (r : Record) (a : List ℕ) → IsRecord r → length a ≡ 4096 → length (edited_by page a r) ≡ 4096
length-record page (Put other at piece) a is size = go (other == page) where
  go : (b : Bool) → length (cond b (with_bytes at piece a) a) ≡ 4096
  go true = length-written at piece a (omega (arith, is.2, size)) ∙ size
  go false = size
length-record page (Fresh other) a is size = go (other == page) where
  go : (b : Bool) → length (cond b blank a) ≡ 4096
  go true = length-blank
  go false = size
length-record page (RowPut table row) a is size = size
length-record page (RowRemove table key) a is size = size
length-record page (NewTable schema) a is size = size

same-record : (n page : ℕ) (r : Record) (a b : List ℕ) → n ≤ 20 → IsRecord r → length a ≡ 4096 → length b ≡ 4096 → drop n a ≡ drop n b
    → drop n (edited_by page a r) ≡ drop n (edited_by page b r)
same-record n page (Put other at piece) a b early is size_a size_b same = go (other == page) where
  go : (t : Bool) → drop n (cond t (with_bytes at piece a) a) ≡ drop n (cond t (with_bytes at piece b) b)
  go true = same-written n at piece a b (omega (arith, early, is.1)) (omega (arith, is.2, size_a)) (omega (arith, is.2, size_b)) same
  go false = same
same-record n page (Fresh other) a b early is size_a size_b same = go (other == page) where
  go : (t : Bool) → drop n (cond t blank a) ≡ drop n (cond t blank b)
  go true = refl
  go false = same
same-record n page (RowPut table row) a b early is size_a size_b same = same
same-record n page (RowRemove table key) a b early is size_a size_b same = same
same-record n page (NewTable schema) a b early is size_a size_b same = same

-- ---- records

pub length-edited : (page : ℕ) (rs : List Record) (a : List ℕ) → All IsRecord rs → length a ≡ 4096 → length (edited page rs a) ≡ 4096
length-edited page [] a all size = size
length-edited page (r ∷ rs) a all size =
    length-edited page rs (edited_by page a r) (All-tail IsRecord r rs all) (length-record page r a (All-head IsRecord r rs all) size)

pub same-edited : (n page : ℕ) (rs : List Record) (a b : List ℕ) → n ≤ 20 → All IsRecord rs → length a ≡ 4096 → length b ≡ 4096 → drop n a ≡ drop n b
    → drop n (edited page rs a) ≡ drop n (edited page rs b)
same-edited n page [] a b early all size_a size_b same = same
same-edited n page (r ∷ rs) a b early all size_a size_b same =
    let is = All-head IsRecord r rs all in
    same-edited n page rs (edited_by page a r) (edited_by page b r) early (All-tail IsRecord r rs all) (length-record page r a is size_a)
    (length-record page r b is size_b)
    (same-record n page r a b early is size_a size_b same)

-- ---- a group

pub front-stamped : (page lsn : ℕ) (a : List ℕ) → length a ≡ 4096 → drop 8 (stamped page lsn a) ≡ u32_bytes page ++ (u64_bytes lsn ++ drop 20 a)
front-stamped page lsn a size = drop_at (take 8 a) (u32_bytes page ++ (u64_bytes lsn ++ drop 20 a)) 8 (length-take-le 8 a (omega (arith, size)))

same-stamped : (page lsn : ℕ) (a b : List ℕ) → length a ≡ 4096 → length b ≡ 4096 → drop 8 a ≡ drop 8 b
    → drop 8 (stamped page lsn a) ≡ drop 8 (stamped page lsn b)
same-stamped page lsn a b size_a size_b same =
    front-stamped page lsn a size_a
    ∙ ap (λ (l : List ℕ). u32_bytes page ++ (u64_bytes lsn ++ l)) (drop_past 8 20 a b (omega arith) same)
    ∙ sym (front-stamped page lsn b size_b)

pub length-group : (page : ℕ) (g : Group) (a : List ℕ) → IsGroup g → length a ≡ 4096 → length (with_group page g a) ≡ 4096
unfolding with_group
length-group page g a is size = go (names page g && nat_lt (lsn_of a) g.lsn) where
  go : (t : Bool) → length (cond t (stamped page g.lsn (edited page g.records a)) a) ≡ 4096
  go true = length-stamped page g.lsn (edited page g.records a) (length-edited page g.records a is.each size)
  go false = size

pub same-group : (page : ℕ) (g : Group) (a b : List ℕ) → IsGroup g → length a ≡ 4096 → length b ≡ 4096 → drop 8 a ≡ drop 8 b
    → drop 8 (with_group page g a) ≡ drop 8 (with_group page g b)
unfolding with_group
same-group page g a b is size_a size_b same =
    go (names page g && nat_lt (lsn_of a) g.lsn)
    ∙ ap (λ (n : ℕ). drop 8 (cond (names page g && nat_lt n g.lsn) (stamped page g.lsn (edited page g.records b)) b)) (lsn-same a b same) where
      go : (t : Bool) → drop 8 (cond t (stamped page g.lsn (edited page g.records a)) a) ≡ drop 8 (cond t (stamped page g.lsn (edited page g.records b)) b)
      go true =
          same-stamped page g.lsn (edited page g.records a) (edited page g.records b) (length-edited page g.records a is.each size_a)
          (length-edited page g.records b is.each size_b) (same-edited 8 page g.records a b (omega arith) is.each size_a size_b same)
      go false = same
