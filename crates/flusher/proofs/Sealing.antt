-- A page with its number and its sum.
use Rattle.std.proofs.Common.{◌≡◌, ℕ, ◌+◌, ◌^◌, ◌<◌, ◌≤◌, ⊎_elim, List, ◌++◌, length}
use Rattle.std.proofs.Common.{take, drop, get_or, refl, sym, ◌∙◌, ap, subst, arith, length-take, length-drop}
use Rattle.std.proofs.lemmas.List.{take_at, drop_at, take-append-drop, get_or-take, get_or-drop, get_or_past, drop-drop}
use Rattle.std.proofs.lemmas.Bool.{cases_lt}
use Rattle.std.specs.Int.{w32, to_be_bytes, from_be_bytes}
use Rattle.std.proofs.lemmas.Nat.{from_be_bytes-to_be_bytes_4, be_bytes_4}
use Rattle.store_api.specs.Areas.{PassesSum}
use Rattle.stored_pages.specs.Words.{u32_at, number_of}
use Rattle.law_logged_pages.specs.Stages.{AreBytes}
use Rattle.flusher.specs.Gathering.{IsSealed}

module _ (page : ℕ) (old mid new : List ℕ) (fits : page < 2 ^ 32) (size : length old ≡ 4096) (bytes : (i : ℕ) → get_or old i 0 < 256)
    (numbered : mid ≡ take 8 old ++ (to_be_bytes w32 page ++ drop 12 old)) (summed : drop 8 new ≡ drop 8 mid) where
  back : drop 8 new ≡ to_be_bytes w32 page ++ drop 12 old
  back = summed ∙ (ap (drop 8) numbered ∙ drop_at (take 8 old) (to_be_bytes w32 page ++ drop 12 old) 8 (omega (arith, size, length-take 8 old)))

  number : number_of new ≡ page
  unfolding u32_at
  number = ap (λ (l : List ℕ). from_be_bytes w32 (take 4 l)) back ∙
      (ap (from_be_bytes w32) (take_at (to_be_bytes w32 page) (drop 12 old) 4 refl) ∙ from_be_bytes-to_be_bytes_4 page fits)

  behind_number : drop 12 new ≡ drop 12 old
  behind_number = sym (drop-drop 4 8 new) ∙ (ap (drop 4) back ∙ drop_at (to_be_bytes w32 page) (drop 12 old) 4 refl)

  field_bytes : (i : ℕ) → get_or (take 4 (drop 8 old)) i 0 < 256
  field_bytes i = ⊎_elim
      (λ (within : i < 4). subst (λ (n : ℕ). n < 256) (sym (get_or-take 4 (drop 8 old) i 0 within ∙ get_or-drop 8 old i 0)) (bytes (8 + i)))
      (λ (past : 4 ≤ i). subst (λ (n : ℕ). n < 256)
      (sym (get_or_past (take 4 (drop 8 old)) i 0 (omega (arith, past, length-take 4 (drop 8 old))))) (omega arith))
      (cases_lt i 4)

  whole : number_of old ≡ page → drop 8 new ≡ drop 8 old
  unfolding u32_at
  whole is =
      let field : to_be_bytes w32 page ≡ take 4 (drop 8 old) = be_bytes_4 (take 4 (drop 8 old)) page
      (omega (arith, size, length-take 4 (drop 8 old), length-drop 8 old)) field_bytes (sym is) in
      let parts : take 4 (drop 8 old) ++ drop 12 old ≡ drop 8 old = ap (λ (l : List ℕ). take 4 (drop 8 old) ++ l) (sym (drop-drop 4 8 old))
      ∙ take-append-drop 4 (drop 8 old) in
      back ∙ (ap (λ (l : List ℕ). l ++ drop 12 old) field ∙ parts)

  pub sealing : length new ≡ 4096 → PassesSum new → AreBytes 8 new → IsSealed page old new
  sealing long sum front = record {
    size = long ∙ sym size;
    sum = sum;
    front = front;
    number_is = number;
    behind = behind_number;
    same = whole;
  }
