-- Groups that leave the head of page 0.
use Rattle.std.proofs.Common.{◌≡◌, ◌≢◌, ⊎_elim, ℕ, ◌+◌, ◌-◌, ◌≤◌, Bool, true, false, cond, Some, None, List, [], ◌∷◌, ◌++◌, length, take, drop, replicate, refl}
use Rattle.std.proofs.Common.{sym, ap, ◌∙◌, arith, append_assoc, length-append, length-drop}
use Rattle.std.specs.Prelude.{◌==◌, ◌&&◌, All, nat_lt}
use Rattle.std.specs.Int.{w64, from_be_bytes}
use Rattle.std.proofs.lemmas.Bool.{eqb-true}
use Rattle.std.proofs.lemmas.List.{drop_at, drop-drop, drop-take, drop-append-le, take-append-le, take-take, length-take-le, drop-replicate, take-replicate}
use Rattle.std.proofs.lemmas.List.Elements.{All-head, All-tail, All-take}
use Rattle.store_api.specs.Areas.{State, Image, IsImage, IsHonest}
use Rattle.stored_pages.specs.Words.{u64_at, lsn_of}
use Rattle.log_format.specs.declared.group.Group.{Group}
use Rattle.log_format.specs.declared.group.Record.{Record}
use Rattle.log_format.specs.declared.group.Record.TheVariants.{Put, Fresh, RowPut, RowRemove, NewTable}
use Rattle.log_format.specs.Group.{IsRecord, IsGroup, AreGroups}
use Rattle.log_format.proofs.Groups.{AreGroups-take}
use Rattle.mtr.specs.Seen.{with_bytes}
use Rattle.mini_txn.specs.Edits.{blank, edited_by, edited}
use Rattle.mini_txn.specs.View.{stamped}
use Rattle.mini_txn.proofs.Bodies.{drop-stamped}
use Rattle.stored_pages.specs.Reading.{IsPageIn}
use Rattle.law_logged_pages.specs.Applied.{names, with_group, page_after, logical}
use Rattle.law_logged_pages.specs.Stages.{WasOnce, IsUnwritten, IsBase}
use Rattle.law_logged_pages.specs.Heads.{head_of, SparesHead, SpareHead}
use Rattle.law_logged_pages.specs.Keeping.{IsRun, Keeps, durable}
use Rattle.law_logged_pages.proofs.Edits.{drop_past, length-record, length-edited, length-group}

pub head-same : (n : ℕ) (a b : List ℕ) → n ≤ 32 → drop n a ≡ drop n b → head_of a ≡ head_of b
head-same n a b early same = ap (take 32) (drop_past n 32 a b early same)

-- ---- bytes that are put

-- before it
put_before : (at : ℕ) (piece a : List ℕ) → at + length piece ≤ 32 → length a ≡ 4096 → head_of (with_bytes at piece a) ≡ head_of a
put_before at piece a ends size =
    let n : ℕ = at + length piece in
    let front : List ℕ = take at a ++ piece in
    let long : length front ≡ n = omega (arith, length-append (take at a) piece, length-take-le at a (omega (arith, ends, size))) in
    let over : n + (32 - n) ≡ 32 = omega (arith, ends) in
    let parts : with_bytes at piece a ≡ front ++ drop n a = sym (append_assoc (take at a) piece (drop n a)) in
    let same : drop n (with_bytes at piece a) ≡ drop n a = ap (drop n) parts ∙ drop_at front (drop n a) n long in
    head-same n (with_bytes at piece a) a ends same

-- behind it
put_behind : (at : ℕ) (piece a : List ℕ) → 64 ≤ at → at ≤ length a → head_of (with_bytes at piece a) ≡ head_of a
put_behind at piece a begins within =
    let rest : List ℕ = piece ++ drop (at + length piece) a in
    let long : length (take at a) ≡ at = length-take-le at a within in
    let place : 32 + (at - 32) ≡ at = omega (arith, begins) in
    let cut : drop 32 (take at a) ≡ take (at - 32) (drop 32 a) = ap (λ (n : ℕ). drop 32 (take n a)) (sym place) ∙ drop-take 32 (at - 32) a in
    ap (take 32) (drop-append-le 32 (take at a) rest (omega (arith, long, begins)))
    ∙ take-append-le 32 (drop 32 (take at a)) rest (omega (arith, length-drop 32 (take at a), long, begins))
    ∙ ap (take 32) cut ∙ take-take 32 (at - 32) (drop 32 a) (omega (arith, begins))

record_spares : (r : Record) (a : List ℕ) → SparesHead r → IsRecord r → length a ≡ 4096 → head_of (edited_by 0 a r) ≡ head_of a
record_spares (Put page at piece) a spares is size = go (page == 0) refl where
  go : (b : Bool) → (page == 0) ≡ b → head_of (cond b (with_bytes at piece a) a) ≡ head_of a
  go true here =
      ⊎_elim
      (λ (ends : at + length piece ≤ 32). put_before at piece a ends size)
      (λ (begins : 64 ≤ at). put_behind at piece a begins (omega (arith, is.2, size)))
      (spares (eqb-true page 0 here))
  go false here = refl
record_spares (Fresh page) a spares is size = go (page == 0) refl where
  go : (b : Bool) → (page == 0) ≡ b → head_of (cond b blank a) ≡ head_of a
  go true here = absurd (spares (eqb-true page 0 here))
  go false here = refl
record_spares (RowPut table row) a spares is size = refl
record_spares (RowRemove table key) a spares is size = refl
record_spares (NewTable schema) a spares is size = refl

records_spare : (rs : List Record) (a : List ℕ) → All SparesHead rs → All IsRecord rs → length a ≡ 4096 → head_of (edited 0 rs a) ≡ head_of a
records_spare [] a spare all size = refl
records_spare (r ∷ rs) a spare all size =
    let is = All-head IsRecord r rs all in
    records_spare rs (edited_by 0 a r) (All-tail SparesHead r rs spare) (All-tail IsRecord r rs all) (length-record 0 r a is size)
    ∙ record_spares r a (All-head SparesHead r rs spare) is size

group_spares : (g : Group) (a : List ℕ) → All SparesHead g.records → IsGroup g → length a ≡ 4096 → head_of (with_group 0 g a) ≡ head_of a
unfolding with_group
group_spares g a spare is size = go (names 0 g && nat_lt (lsn_of a) g.lsn) where
  go : (b : Bool) → head_of (cond b (stamped 0 g.lsn (edited 0 g.records a)) a) ≡ head_of a
  go true =
      let long = length-edited 0 g.records a is.each size in
      head-same 20 (stamped 0 g.lsn (edited 0 g.records a)) (edited 0 g.records a) (omega arith)
      (drop-stamped 0 g.lsn (edited 0 g.records a) (omega (arith, long)))
      ∙ records_spare g.records a spare is.each size
  go false = refl

after_spares : (first : ℕ) (gs : List Group) (a : List ℕ) → SpareHead gs → AreGroups first gs → length a ≡ 4096 → head_of (page_after 0 gs a) ≡ head_of a
after_spares first [] a spare are size = refl
after_spares first (g ∷ gs) a spare are size =
    let P : Group → Type 0 = λ g. All SparesHead g.records in
    after_spares (first + 1) gs (with_group 0 g a) (All-tail P g gs spare) are.2 (length-group 0 g a are.1 size)
    ∙ group_spares g a (All-head P g gs spare) are.1 size

pub stage_spares : (base : ℕ → List ℕ) (first : ℕ) (groups : List Group) (count : ℕ) (bytes : List ℕ) → AreGroups first groups → IsBase first (base 0)
    → SpareHead groups
    → WasOnce base groups count 0 bytes → head_of bytes ≡ head_of (base 0)
stage_spares base first groups count bytes are is spare was =
    head-same 8 bytes (logical base groups was.after 0) (omega arith) was.same.same
    ∙ after_spares first (take was.after groups) (base 0) (All-take (λ g. All SparesHead g.records) was.after groups spare)
    (AreGroups-take was.after first groups are) is.size

-- ---- numbers in it

head-u64 : (at : ℕ) (a b : List ℕ) → 32 ≤ at → at + 8 ≤ 64 → head_of a ≡ head_of b → u64_at at a ≡ u64_at at b
unfolding u64_at
head-u64 at a b from to same = ap (from_be_bytes w64) (sym (inside a) ∙ ap (λ (l : List ℕ). take 8 (drop (at - 32) l)) same ∙ inside b) where
  inside : (c : List ℕ) → take 8 (drop (at - 32) (head_of c)) ≡ take 8 (drop at c)
  inside c =
      let parts : (at - 32) + (64 - at) ≡ 32 = omega (arith, from, to) in
      let place : 32 + (at - 32) ≡ at = omega (arith, from) in
      let cut : drop (at - 32) (head_of c) ≡ take (64 - at) (drop (at - 32) (drop 32 c)) =
      ap (λ (n : ℕ). drop (at - 32) (take n (drop 32 c))) (sym parts) ∙ drop-take (at - 32) (64 - at) (drop 32 c) in
      ap (take 8) cut ∙ take-take 8 (64 - at) (drop (at - 32) (drop 32 c)) (omega (arith, to))
      ∙ ap (take 8) (drop-drop (at - 32) 32 c ∙ ap (λ (n : ℕ). drop n c) place)

pub image_says : (run first flushed : ℕ) (groups : List Group) (base : ℕ → List ℕ) (s : State) (image : Image) (bytes : List ℕ)
    → IsRun first groups base → SpareHead groups
    → Keeps run first flushed groups base s → IsImage s image → IsHonest s image → IsPageIn image.pages image.double 0 (Some bytes)
    → (u64_at 32 bytes ≡ u64_at 32 (base 0)) × (u64_at 48 bytes ≡ u64_at 48 (base 0)) × (u64_at 56 bytes ≡ u64_at 56 (base 0))
image_says run first flushed groups base s image bytes is spare keeps left honest found =
    let was : WasOnce base groups (durable first flushed) 0 bytes = keeps.pages image left honest 0 (Some bytes) (omega arith) found in
    let same : head_of bytes ≡ head_of (base 0) = stage_spares base first groups (durable first flushed) bytes is.each (is.bases 0) spare was in
    let number : (at : ℕ) → 32 ≤ at → at + 8 ≤ 64 → u64_at at bytes ≡ u64_at at (base 0) = λ at from to. head-u64 at bytes (base 0) from to same in
    (number 32 (omega arith) (omega arith), number 48 (omega arith) (omega arith), number 56 (omega arith) (omega arith))

-- ---- page 0 is found

magic-blank : u64_at 32 blank ≡ 0
unfolding u64_at blank
magic-blank =
    let zeros : take 8 (drop 32 (replicate {A = ℕ} 4096 0)) ≡ replicate 8 0 =
    ap (take 8) (drop-replicate {X = ℕ} 32 4096 0) ∙ take-replicate {X = ℕ} 8 4064 0 (omega arith) in
    ap (from_be_bytes w64) zeros

pub image_has : (run first flushed : ℕ) (groups : List Group) (base : ℕ → List ℕ) (s : State) (image : Image) → u64_at 32 (base 0) ≢ 0
    → Keeps run first flushed groups base s → IsImage s image → IsHonest s image → IsPageIn image.pages image.double 0 None → ⊥
image_has run first flushed groups base s image marked keeps left honest none =
    let unwritten : IsUnwritten base groups 0 = keeps.pages image left honest 0 None (omega arith) none in
    marked (ap (u64_at 32) unwritten.zeros ∙ magic-blank)
