-- Places stay chained as locks come and go.
use Rattle.std.proofs.Common.{◌≡◌, ℕ, ◌+◌, ◌<◌, ◌%◌, List, [], ◌∷◌, ◌++◌, inl, inr, length, set, get_or, sym, ap, ◌∙◌, arith, length-append, length-set}
use Rattle.std.specs.Prelude.{Option, None, Some}
use Rattle.std.proofs.lemmas.Bool.{cases_eq, cases_lt}
use Rattle.std.proofs.lemmas.List.{get_or-set_same, get_or-set_other, get_or_append_left, get_or_push, get_or_past}
use Rattle.inno_types.specs.declared.lock.Lock.{Lock}
use Rattle.lock_lists.specs.Last.{Chained}
use Rattle.lock_lists.specs.Places.{sum_of, mark_of, AreChained}

abbrev pub with_mark : Chained → ℕ → Chained
with_mark chain bucket = record { marks = chain.marks ++ Some bucket ∷ []; room = chain.room }

abbrev pub off_mark : Chained → ℕ → Chained
off_mark chain place = record { marks = set chain.marks place None; room = chain.room }

abbrev pub over_mark : Chained → ℕ → ℕ → Chained
over_mark chain place bucket = record { marks = set chain.marks place (Some bucket); room = chain.room }

module _ (places : List (Option Lock)) (spots txns : Chained) (chained : AreChained places spots txns) where
  -- a lock is added
  pub chained_push : (lock : Lock)
      → AreChained (places ++ Some lock ∷ []) (with_mark spots (sum_of lock.spot % spots.room)) (with_mark txns (lock.txn % txns.room))
  chained_push lock = record {
    spots_long = length-append spots.marks (spot ∷ []) ∙ ap (λ n. n + 1) chained.spots_long ∙ sym (length-append places (Some lock ∷ []));
    spots_at = λ i. elim (cases_lt i (length places)) [
      | inl within ↦ get_or_append_left spots.marks (spot ∷ []) None i (omega (arith, within, chained.spots_long)) ∙ chained.spots_at i
          ∙ sym (ap (mark_of spots.room) (get_or_append_left places (Some lock ∷ []) None i within))
      | inr past ↦ elim (cases_eq i (length places)) [
        | inl at ↦ get_or_push spots.marks spot None i (chained.spots_long ∙ sym at) ∙ sym (ap (mark_of spots.room) (get_or_push places (Some lock) None i (sym at)))
        | inr apart ↦
            get_or_past (spots.marks ++ spot ∷ []) i None (omega (arith, past, apart, chained.spots_long, length-append spots.marks (spot ∷ [])))
            ∙ sym (ap (mark_of spots.room) (get_or_past (places ++ Some lock ∷ []) i None (omega (arith, past, apart, length-append places (Some lock ∷ [])))))
      ]
    ];
    txns_long = length-append txns.marks (owner ∷ []) ∙ ap (λ n. n + 1) chained.txns_long ∙ sym (length-append places (Some lock ∷ []));
    txns_at = λ i held is. elim (cases_lt i (length places)) [
      | inl within ↦ get_or_append_left txns.marks (owner ∷ []) None i (omega (arith, within, chained.txns_long))
          ∙ chained.txns_at i held (sym (get_or_append_left places (Some lock ∷ []) None i within) ∙ is)
      | inr past ↦ elim (cases_eq i (length places)) [
        | inl at ↦
            let one : lock ≡ held = cc (get_or_push places (Some lock) None i (sym at), is) in
            get_or_push txns.marks owner None i (chained.txns_long ∙ sym at) ∙ ap (λ l. Some (l.txn % txns.room)) one
        | inr apart ↦ absurd (cc (get_or_past (places ++ Some lock ∷ []) i None (omega (arith, past, apart, length-append places (Some lock ∷ []))), is))
      ]
    ];
  } where
    spot : Option ℕ
    spot = Some (sum_of lock.spot % spots.room)

    owner : Option ℕ
    owner = Some (lock.txn % txns.room)

  -- a lock goes
  pub chained_off : (place : ℕ) → place < length places → AreChained (set places place None) (off_mark spots place) txns
  chained_off place lt = record {
    spots_long = length-set spots.marks place None ∙ chained.spots_long ∙ sym (length-set places place None);
    spots_at = λ i. elim (cases_eq i place) [
      | inl at ↦ ap (λ n. get_or (set spots.marks place None) n None) at ∙ get_or-set_same spots.marks place None None (omega (arith, lt, chained.spots_long))
          ∙ sym (ap (λ n. mark_of spots.room (get_or (set places place None) n None)) at ∙ ap (mark_of spots.room) (get_or-set_same places place None None lt))
      | inr apart ↦ get_or-set_other spots.marks place i None None apart ∙ chained.spots_at i
          ∙ sym (ap (mark_of spots.room) (get_or-set_other places place i None None apart))
    ];
    txns_long = chained.txns_long ∙ sym (length-set places place None);
    txns_at = λ i held is. elim (cases_eq i place) [
      | inl at ↦ absurd (cc (ap (λ n. get_or (set places place None) n None) at, get_or-set_same places place None None lt, is))
      | inr apart ↦ chained.txns_at i held (sym (get_or-set_other places place i None None apart) ∙ is)
    ];
  }

  -- a lock takes the place of another of its transaction
  pub chained_over : (place : ℕ) (held lock : Lock) → place < length places → get_or places place None ≡ Some held → held.txn ≡ lock.txn
      → AreChained (set places place (Some lock)) (over_mark (off_mark spots place) place (sum_of lock.spot % spots.room)) txns
  chained_over place held lock lt was same = record {
    spots_long = length-set off place on ∙ length-set spots.marks place None ∙ chained.spots_long ∙ sym (length-set places place (Some lock));
    spots_at = λ i. elim (cases_eq i place) [
      | inl at ↦ ap (λ n. get_or (set off place on) n None) at
          ∙ get_or-set_same off place on None (omega (arith, lt, chained.spots_long, length-set spots.marks place None))
          ∙ sym (ap (λ n. mark_of spots.room (get_or (set places place (Some lock)) n None)) at ∙ ap (mark_of spots.room) (get_or-set_same places place (Some lock) None lt))
      | inr apart ↦ get_or-set_other off place i on None apart ∙ get_or-set_other spots.marks place i None None apart ∙ chained.spots_at i
          ∙ sym (ap (mark_of spots.room) (get_or-set_other places place i (Some lock) None apart))
    ];
    txns_long = chained.txns_long ∙ sym (length-set places place (Some lock));
    txns_at = λ i other is. elim (cases_eq i place) [
      | inl at ↦
          let one : lock ≡ other = cc (ap (λ n. get_or (set places place (Some lock)) n None) at, get_or-set_same places place (Some lock) None lt, is) in
          ap (λ n. get_or txns.marks n None) at ∙ chained.txns_at place held was ∙ ap (λ n. Some (n % txns.room)) (same ∙ ap (λ l. l.txn) one)
      | inr apart ↦ chained.txns_at i other (sym (get_or-set_other places place i (Some lock) None apart) ∙ is)
    ];
  } where
    off : List (Option ℕ)
    off = set spots.marks place None

    on : Option ℕ
    on = Some (sum_of lock.spot % spots.room)

-- no place
pub chained_none : (spots txns : Chained) → spots.marks ≡ [] → txns.marks ≡ [] → AreChained [] spots txns
chained_none spots txns none none' = record {
  spots_long = ap length none;
  spots_at = λ i. ap (λ ms. get_or ms i None) none;
  txns_long = ap length none';
  txns_at = λ i lock is. absurd (cc is);
}
