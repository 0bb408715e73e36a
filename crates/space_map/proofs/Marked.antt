-- One byte of the map is put: what it makes of the marks.
use Rattle.std.proofs.Common.{◌≡◌, ◌≢◌, inl, inr, ℕ, suc, ◌+◌, ◌-◌, ◌%◌, ◌<◌, List, [], ◌∷◌, length, take, drop, get_or, get_or-take, get_or-drop, sym, ap, ◌∙◌, subst, arith}
use Rattle.std.specs.Prelude.{slice_index, IsTrue, Result, Ok, Err, OnErr}
use Rattle.std.specs.Int.{bit_at}
use Rattle.std.proofs.lemmas.Bool.{cases_eq, cases_lt}
use Rattle.std.proofs.lemmas.List.{get_or_append_left, get_or-append_right, length-take-le}
use Rattle.mtr.specs.Seen.{MtrState, IsShown, with_bytes}
use Rattle.mtr.specs.Calls.{SamePages, SeesAt, Puts, Consults}
use Rattle.mtr.proofs.Behind.{byte-behind}
use Rattle.mtr.proofs.Consulting.{goes_then, put_goes, visits_then, visits_none}
use Rattle.space_map.specs.Map.{map_page, byte_of, mark_of}
use Rattle.space_map.specs.Taking.{map_pages, MarksPage, Marks}

pub on_err : {T E : Type 0} (r : Result T E) (P : Type 0) → P → OnErr r P
on_err (Ok value) P p = tt
on_err (Err why) P p = p

-- ---- one byte of a list

index_here : (at b : ℕ) (map : List ℕ) → at < length map → slice_index (with_bytes at (b ∷ []) map) at ≡ b
index_here at b map within =
    let rest = b ∷ drop (at + 1) map in
    let front : length (take at map) ≡ at = length-take-le at map (omega arith) in
    get_or-append_right (take at map) rest at at 0 (omega (arith, front)) (omega arith) ∙ ap (λ (n : ℕ). get_or rest n 0) {x = at - at} {y = 0} (omega arith)

index_behind : (at b i : ℕ) (map : List ℕ) → at < length map → at < i → slice_index (with_bytes at (b ∷ []) map) i ≡ slice_index map i
index_behind at b i map within after =
    let rest = b ∷ drop (at + 1) map in
    let front : length (take at map) ≡ at = length-take-le at map (omega arith) in
    let next : i - at ≡ suc (i - (at + 1)) = omega arith in
    let place : at + 1 + (i - (at + 1)) ≡ i = omega arith in
    get_or-append_right (take at map) rest at i 0 (omega (arith, front)) (omega arith)
    ∙ ap (λ (n : ℕ). get_or rest n 0) next ∙ get_or-drop (at + 1) map (i - (at + 1)) 0 ∙ ap (λ (n : ℕ). get_or map n 0) place

index_before : (at b i : ℕ) (map : List ℕ) → at < length map → i < at → slice_index (with_bytes at (b ∷ []) map) i ≡ slice_index map i
index_before at b i map within early =
    let front : length (take at map) ≡ at = length-take-le at map (omega arith) in
    get_or_append_left (take at map) (b ∷ drop (at + 1) map) 0 i (omega (arith, front)) ∙ get_or-take at map i 0 early

pub index_other : (at b i : ℕ) (map : List ℕ) → at < length map → i ≢ at → slice_index (with_bytes at (b ∷ []) map) i ≡ slice_index map i
index_other at b i map within ne = elim (cases_lt i at) [ inl early ↦ index_before at b i map within early | inr late ↦ index_behind at b i map within (omega arith) ]

-- ---- marks

-- pages of one byte have different bits
same_place : (page other : ℕ) → map_page other ≡ map_page page → byte_of other ≡ byte_of page → other % 8 ≡ page % 8 → other ≡ page
same_place page other map byte bit = omega arith

pub byte_inside : (page : ℕ) → byte_of page < 4096
byte_inside page = omega arith

-- the byte at a page's place, on the page of the map as it is seen now
new_byte : (page byte : ℕ) (old new : MtrState) → length (old.seen (map_page page)) ≡ 4096 → SeesAt (map_page page) (with_bytes (byte_of page) (byte ∷ []) (old.seen (map_page page))) old new → slice_index (new.seen (map_page page)) (byte_of page) ≡ byte
new_byte page byte old new long sees = ap (λ (l : List ℕ). slice_index l (byte_of page)) sees.here ∙ index_here (byte_of page) byte (old.seen (map_page page)) (omega (arith, long, byte_inside page))

other_mark : (page byte other : ℕ) (old new : MtrState) → length (old.seen (map_page page)) ≡ 4096 → SeesAt (map_page page) (with_bytes (byte_of page) (byte ∷ []) (old.seen (map_page page))) old new
    → ((bit : ℕ) → bit < 8 → bit ≢ page % 8 → bit_at byte bit ≡ bit_at (slice_index (old.seen (map_page page)) (byte_of page)) bit) → other ≢ page → mark_of new.seen other ≡ mark_of old.seen other
other_mark page byte other old new long sees bits ne = elim (cases_eq (map_page other) (map_page page)) [
  | inr apart ↦ ap (λ (l : List ℕ). bit_at (slice_index l (byte_of other)) (other % 8)) (sees.elsewhere (map_page other) apart)
  | inl one ↦ elim (cases_eq (byte_of other) (byte_of page)) [
    | inr apart ↦
        let here = index_other (byte_of page) byte (byte_of other) (old.seen (map_page page)) (omega (arith, long, byte_inside page)) apart in
        ap (λ (n : ℕ). bit_at (slice_index (new.seen n) (byte_of other)) (other % 8)) one
        ∙ ap (λ (l : List ℕ). bit_at (slice_index l (byte_of other)) (other % 8)) sees.here
        ∙ ap (λ (n : ℕ). bit_at n (other % 8)) here
        ∙ ap (λ (n : ℕ). bit_at (slice_index (old.seen n) (byte_of other)) (other % 8)) (sym one)
    | inl same ↦
        let below : other % 8 < 8 = omega arith in
        ap (λ (n : ℕ). bit_at (slice_index (new.seen n) (byte_of other)) (other % 8)) one
        ∙ ap (λ (n : ℕ). bit_at (slice_index (new.seen (map_page page)) n) (other % 8)) same
        ∙ ap (λ (n : ℕ). bit_at n (other % 8)) (new_byte page byte old new long sees)
        ∙ bits (other % 8) below (λ bit. ne (same_place page other one same bit))
        ∙ ap (λ (n : ℕ). bit_at (slice_index (old.seen (map_page page)) n) (other % 8)) (sym same)
        ∙ ap (λ (n : ℕ). bit_at (slice_index (old.seen n) (byte_of other)) (other % 8)) (sym one)
  ]
]

pub marks_page : (page mark byte : ℕ) (bytes : List ℕ) (old new : MtrState) → IsShown (old.seen (map_page page)) bytes → SeesAt (map_page page) (with_bytes (byte_of page) (byte ∷ []) (old.seen (map_page page))) old new
    → bit_at byte (page % 8) ≡ mark → ((bit : ℕ) → bit < 8 → bit ≢ page % 8 → bit_at byte bit ≡ bit_at (slice_index bytes (byte_of page)) bit) → MarksPage page mark old new
marks_page page mark byte bytes old new shown sees bit bits =
    let shows : slice_index bytes (byte_of page) ≡ slice_index (old.seen (map_page page)) (byte_of page) = byte-behind (byte_of page) bytes (old.seen (map_page page)) (omega arith) shown.same in
    record {
      size = shown.size;
      byte = byte;
      seen = sees;
      here = ap (λ (n : ℕ). bit_at n (page % 8)) (new_byte page byte old new shown.size sees) ∙ bit;
      others = λ other ne. other_mark page byte other old new shown.size sees (λ b below apart. bits b below apart ∙ ap (λ (n : ℕ). bit_at n b) shows) ne;
    }

-- what is seen after a look is put upon
pub seen_through : (page : ℕ) (bytes : List ℕ) (old between new : MtrState) → SamePages old between → SeesAt page bytes between new → SeesAt page bytes old new
seen_through page bytes old between new same sees = record {
  standing = sees.standing ∙ same.standing;
  fault = sees.fault ∙ same.fault;
  here = sees.here;
  elsewhere = λ other ne. sees.elsewhere other ne ∙ ap (λ (f : ℕ → List ℕ). f other) same.seen;
}

pub marks : (page mark byte : ℕ) (bytes : List ℕ) (old between new : MtrState) → (IsTrue old.told → IsShown (old.seen (map_page page)) bytes) → Consults map_pages old between → Puts (map_page page) (byte_of page) (byte ∷ []) between new
    → bit_at byte (page % 8) ≡ mark → ((bit : ℕ) → bit < 8 → bit ≢ page % 8 → bit_at byte bit ≡ bit_at (slice_index bytes (byte_of page)) bit) → Marks page mark old new
marks page mark byte bytes old between new shown looked put bit bits = record {
  goes = goes_then old between new looked.goes (put_goes (map_page page) (byte_of page) (byte ∷ []) between new (λ first. omega (arith, first)) put);
  pages = λ told.
      let told_between = put.keeps.told told in
      let same = looked.same told_between in
      let sees = subst (λ (f : ℕ → List ℕ). SeesAt (map_page page) (with_bytes (byte_of page) (byte ∷ []) (f (map_page page))) between new) same.seen (put.pages told) in
      marks_page page mark byte bytes old new (shown (looked.goes.told told_between)) (seen_through (map_page page) _ old between new same sees) bit bits;
  visits = visits_then map_pages old between new looked.visits (visits_none map_pages between new put.visited_is);
  spare = λ enough. omega (arith, put.spare (omega (arith, looked.spare)), looked.spare);
}
