-- Readers and spellings that fit each other: what is read is spelled so, and what is spelled so is read.
use Rattle.std.proofs.Common.{◌≡◌, ℕ, zero, suc, ◌<◌, List, [], ◌∷◌, ◌++◌, length, All, Option, Some, refl, sym, ap, subst, ◌∙◌, append_assoc, arith}
use Rattle.std.specs.List.{flat_map}
use Rattle.std.proofs.lemmas.List.Elements.{All-nil, All-cons, All-head, All-tail}
use Rattle.std.proofs.lemmas.List.Concat.{flat_map-cons}
use Rattle.schema_codec.specs.Schema.{counted, IsCounted, name_bytes, IsName}
use Rattle.schema_codec.specs.Reading.{◌>>=◌, u8_at, bytes_at, both_at, list_at, counted_at, name_at}
use Rattle.schema_codec.proofs.Fields.{IsBytes, bind_some, some_is, Takes, Takes-then, bytes_take, bytes_again}

pub record Spells {A : Type 0} (item : List ℕ → Option (A × List ℕ)) (spell : A → List ℕ) (Is : A → Type 0) : Type 0 where
  pub takes : (bytes : List ℕ) (x : A × List ℕ) → IsBytes bytes → item bytes ≡ Some x → Takes bytes (spell x.0) x.1 × Is x.0
  pub again : (x : A) (rest : List ℕ) → Is x → item (spell x ++ rest) ≡ Some (x, rest)

-- ---- one byte

abbrev pub IsByte : ℕ → Type 0
IsByte b = b < 256

u8_takes : (bytes : List ℕ) (x : ℕ × List ℕ) → IsBytes bytes → u8_at bytes ≡ Some x → Takes bytes (x.0 ∷ []) x.1 × IsByte x.0
unfolding u8_at
u8_takes [] x fits e = absurd cc
u8_takes (b ∷ rest) x fits e =
    subst (λ (y : ℕ × List ℕ). Takes (b ∷ rest) (y.0 ∷ []) y.1 × IsByte y.0) (some_is (b, rest) x e) (record { parts = refl; rest_fits = λ i. fits (suc i) }, fits 0)

pub u8_again : (b : ℕ) (rest : List ℕ) → u8_at (b ∷ rest) ≡ Some (b, rest)
unfolding u8_at
u8_again b rest = refl

pub u8_spells : Spells u8_at (λ b. b ∷ []) IsByte
u8_spells = record { takes = u8_takes; again = λ b rest is. u8_again b rest }

-- ---- one, and then another

module _ {A B : Type 0} (first : List ℕ → Option (A × List ℕ)) (spell_a : A → List ℕ) (Is_a : A → Type 0) (second : List ℕ → Option (B × List ℕ)) (spell_b : B → List ℕ) (Is_b : B → Type 0)
    (one : Spells first spell_a Is_a) (other : Spells second spell_b Is_b) where
  both_takes : (bytes : List ℕ) (x : (A × B) × List ℕ) → IsBytes bytes → both_at first second bytes ≡ Some x → Takes bytes (spell_a x.0.0 ++ spell_b x.0.1) x.1 × (Is_a x.0.0 × Is_b x.0.1)
  both_takes bytes x fits e =
      let a = bind_some (first bytes) (λ y. second y.1 >>= λ z. Some ((y.0, z.0), z.1)) x e in
      let b = bind_some (second a.0.1) (λ z. Some ((a.0.0, z.0), z.1)) x a.2 in
      let front = one.takes bytes a.0 fits a.1 in
      let back = other.takes a.0.1 b.0 front.0.rest_fits b.1 in
      subst (λ (y : (A × B) × List ℕ). Takes bytes (spell_a y.0.0 ++ spell_b y.0.1) y.1 × (Is_a y.0.0 × Is_b y.0.1)) (some_is ((a.0.0, b.0.0), b.0.1) x b.2)
      (Takes-then bytes (spell_a a.0.0) a.0.1 (spell_b b.0.0) b.0.1 front.0 back.0, (front.1, back.1))

  both_again : (x : A × B) (rest : List ℕ) → Is_a x.0 × Is_b x.1 → both_at first second ((spell_a x.0 ++ spell_b x.1) ++ rest) ≡ Some (x, rest)
  both_again x rest is = rw (append_assoc (spell_a x.0) (spell_b x.1) rest, one.again x.0 (spell_b x.1 ++ rest) is.0, other.again x.1 rest is.1) refl

  pub both_spells : Spells (both_at first second) (λ x. spell_a x.0 ++ spell_b x.1) (λ x. Is_a x.0 × Is_b x.1)
  both_spells = record { takes = both_takes; again = both_again }

-- ---- the same, put together otherwise

abbrev pub made_at : {A B : Type 0} → (List ℕ → Option (A × List ℕ)) → (A → B) → List ℕ → Option (B × List ℕ)
made_at item make bytes = item bytes >>= λ p. Some (make p.0, p.1)

abbrev pub with_rest : {B : Type 0} → B → List ℕ → Option (B × List ℕ)
with_rest y rest = Some (y, rest)

module _ {A B : Type 0} (item : List ℕ → Option (A × List ℕ)) (spell_a : A → List ℕ) (Is_a : A → Type 0) (spells : Spells item spell_a Is_a)
    (make : A → B) (parts : B → A) (spell : B → List ℕ) (Is : B → Type 0)
    (made : (y : B) → make (parts y) ≡ y) (same : (x : A) → spell (make x) ≡ spell_a x) (fits_made : (x : A) → Is_a x → Is (make x)) (fits_parts : (y : B) → Is y → Is_a (parts y)) where
  make_takes : (bytes : List ℕ) (x : B × List ℕ) → IsBytes bytes → made_at item make bytes ≡ Some x → Takes bytes (spell x.0) x.1 × Is x.0
  make_takes bytes x fits e =
      let a = bind_some (item bytes) (λ p. Some (make p.0, p.1)) x e in
      let took = spells.takes bytes a.0 fits a.1 in
      subst (λ (y : B × List ℕ). Takes bytes (spell y.0) y.1 × Is y.0) (some_is (make a.0.0, a.0.1) x a.2) (rw same took.0, fits_made a.0.0 took.1)

  make_again : (y : B) (rest : List ℕ) → Is y → made_at item make (spell y ++ rest) ≡ with_rest y rest
  make_again y rest is =
      let as_parts : spell y ≡ spell_a (parts y) = ap spell (sym (made y)) ∙ same (parts y) in
      let read : item (spell y ++ rest) ≡ Some (parts y, rest) = ap (λ (l : List ℕ). item (l ++ rest)) as_parts ∙ spells.again (parts y) rest (fits_parts y is) in
      rw read (ap (λ (z : B). with_rest z rest) (made y))

  pub make_spells : Spells (made_at item make) spell Is
  make_spells = record { takes = make_takes; again = make_again }

-- ---- lists

module _ {A : Type 0} (item : List ℕ → Option (A × List ℕ)) (spell : A → List ℕ) (Is : A → Type 0) (spells : Spells item spell Is) where
  pub list_takes : (n : ℕ) (bytes : List ℕ) (x : List A × List ℕ) → IsBytes bytes → list_at item n bytes ≡ Some x → Takes bytes (flat_map spell x.0) x.1 × (length x.0 ≡ n) × All Is x.0
  unfolding list_at
  list_takes zero bytes x fits e =
      subst (λ (y : List A × List ℕ). Takes bytes (flat_map spell y.0) y.1 × (length y.0 ≡ 0) × All Is y.0) (some_is ([], bytes) x e) (record { parts = refl; rest_fits = fits }, refl, All-nil Is)
  list_takes (suc n) bytes x fits e =
      let a = bind_some (item bytes) (λ first. list_at item n first.1 >>= λ others. Some (first.0 ∷ others.0, others.1)) x e in
      let b = bind_some (list_at item n a.0.1) (λ others. Some (a.0.0 ∷ others.0, others.1)) x a.2 in
      let first = spells.takes bytes a.0 fits a.1 in
      let second = list_takes n a.0.1 b.0 first.0.rest_fits b.1 in
      let both = Takes-then bytes (spell a.0.0) a.0.1 (flat_map spell b.0.0) b.0.1 first.0 second.0 in
      subst (λ (y : List A × List ℕ). Takes bytes (flat_map spell y.0) y.1 × (length y.0 ≡ suc n) × All Is y.0) (some_is (a.0.0 ∷ b.0.0, b.0.1) x b.2)
      (rw flat_map-cons both, ap suc second.1, All-cons Is a.0.0 b.0.0 first.1 second.2)

  pub list_again : (xs : List A) (rest : List ℕ) → All Is xs → list_at item (length xs) (flat_map spell xs ++ rest) ≡ Some (xs, rest)
  unfolding list_at
  list_again [] rest all = refl
  list_again (x ∷ xs) rest all =
      let regrouped : flat_map spell (x ∷ xs) ++ rest ≡ spell x ++ (flat_map spell xs ++ rest) = append_assoc (spell x) (flat_map spell xs) rest in
      ap (list_at item (suc (length xs))) regrouped ∙ rw (spells.again x (flat_map spell xs ++ rest) (All-head Is x xs all), list_again xs rest (All-tail Is x xs all)) refl

  counted_takes : (bytes : List ℕ) (x : List A × List ℕ) → IsBytes bytes → counted_at item bytes ≡ Some x → Takes bytes (counted spell x.0) x.1 × IsCounted Is x.0
  counted_takes bytes x fits e =
      let a = bind_some (u8_at bytes) (λ n. list_at item n.0 n.1) x e in
      let count = u8_takes bytes a.0 fits a.1 in
      let items = list_takes a.0.0 a.0.1 x count.0.rest_fits a.2 in
      let all = Takes-then bytes (a.0.0 ∷ []) a.0.1 (flat_map spell x.0) x.1 count.0 items.0 in
      (subst (λ (n : ℕ). Takes bytes (n ∷ flat_map spell x.0) x.1) (sym items.1) all, (omega (arith, items.1, count.1), items.2))

  counted_again : (xs : List A) (rest : List ℕ) → IsCounted Is xs → counted_at item (counted spell xs ++ rest) ≡ Some (xs, rest)
  counted_again xs rest is = rw (u8_again (length xs) (flat_map spell xs ++ rest)) (list_again xs rest is.1)

  pub counted_spells : Spells (counted_at item) (counted spell) (IsCounted Is)
  counted_spells = record { takes = counted_takes; again = counted_again }

-- ---- names

name_takes : (bytes : List ℕ) (x : List ℕ × List ℕ) → IsBytes bytes → name_at bytes ≡ Some x → Takes bytes (name_bytes x.0) x.1 × IsName x.0
unfolding name_at
name_takes bytes x fits e =
    let a = bind_some (u8_at bytes) (λ len. bytes_at len.0 len.1) x e in
    let len = u8_takes bytes a.0 fits a.1 in
    let text = bytes_take a.0.0 a.0.1 x.0 x.1 len.0.rest_fits a.2 in
    let all = Takes-then bytes (a.0.0 ∷ []) a.0.1 x.0 x.1 len.0 text.0 in
    (subst (λ (n : ℕ). Takes bytes (n ∷ x.0) x.1) (sym text.1) all, omega (arith, text.1, len.1))

name_again : (name rest : List ℕ) → name_at (name_bytes name ++ rest) ≡ Some (name, rest)
unfolding name_at
name_again name rest = rw (u8_again (length name) (name ++ rest)) (bytes_again name rest)

pub name_spells : Spells name_at name_bytes IsName
name_spells = record { takes = name_takes; again = λ name rest is. name_again name rest }
