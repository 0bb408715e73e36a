-- What the bytes of an entry tell of a value.
use Rattle.std.proofs.Common.{◌≡◌, ◌∙◌, sym, ap, refl, ℕ, ◌^◌, ◌<◌, Bool, true, false, nat_eq, List, [], ◌∷◌, ◌++◌, length}
use Rattle.std.specs.Bool.{Decides}
use Rattle.std.proofs.{lemmas.Bool.true≢false, lemmas.Bool.eqb-true, lemmas.Bool.eqb-false, lemmas.List.append_cancel_right, lemmas.List.same_from_push}
use Rattle.key_codec.specs.{Keys.padded, Numbers.u64_bytes}
use Rattle.key_codec.proofs.Once.{same_u64, same_padded}
use Rattle.row_search.specs.Owners.{TellsSame}

-- a number that was read beside the one that is sought
pub number_told : (found n : ℕ) (key : List ℕ) (own : Bool) → found < 2 ^ 64 → n < 2 ^ 64 → key ≡ u64_bytes found → own ≡ nat_eq found n
    → TellsSame (u64_bytes n) key own
number_told found n key true found_fits fits is tests = ap u64_bytes (sym (eqb-true found n (sym tests))) ∙ sym is
number_told found n key false found_fits fits is tests = λ e. eqb-false found n (sym tests) (sym (same_u64 n found fits found_fits (e ∙ is)))

-- a text that was read beside the one that is sought
pub text_told : (size len : ℕ) (text found front key : List ℕ) (own : Bool) → key ≡ front ++ len ∷ [] → front ≡ padded size found → length found ≡ len
    → Decides own (found ≡ text) → TellsSame (padded size text ++ length text ∷ []) key own
text_told size len text found front key true is front_is len_is own =
    let same = own.0 refl in
    ap (λ (t : List ℕ). padded size t ++ length t ∷ []) (sym same) ∙ (ap (λ (l : List ℕ). l ++ length found ∷ []) (sym front_is) ∙ (ap
    (λ n. front ++ n ∷ []) len_is ∙ sym is))
text_told size len text found front key false is front_is len_is own = λ e.
    let parts = same_from_push (padded size text) front (length text) len (e ∙ is) in
    true≢false (sym (own.1 (same_padded size found text (len_is ∙ sym parts.1) (sym front_is ∙ sym parts.0))))

-- what stands before a primary key tells of the entry
pub front_told : (code front primary entry : List ℕ) (own : Bool) → entry ≡ front ++ primary → TellsSame code front own → TellsSame (code ++ primary) entry own
front_told code front primary entry true is told = ap (λ (l : List ℕ). l ++ primary) told ∙ sym is
front_told code front primary entry false is told = λ e. told (append_cancel_right code front primary (e ∙ is))
