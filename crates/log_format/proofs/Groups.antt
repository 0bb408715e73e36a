-- Groups one behind the other, cut somewhere.
use Rattle.std.proofs.Common.{◌≡◌, inl, inr, ℕ, zero, suc, ◌+◌, ◌^◌, ◌<◌, ◌≤◌, List, [], ◌∷◌, ◌++◌, length, take, drop, refl, sym, ◌∙◌, ap, subst, arith, add-zero, append_assoc, length-append, take-append-drop}
use Rattle.std.specs.Int.{w32, from_be_bytes}
use Rattle.std.specs.List.{flat_map}
use Rattle.std.proofs.lemmas.Bool.{cases_lt}
use Rattle.std.proofs.lemmas.List.{take_at, take-append-le, append_cancel_left}
use Rattle.std.proofs.lemmas.Nat.{from_be_bytes-to_be_bytes_4}
use Rattle.log_format.specs.declared.group.Group.{Group}
use Rattle.schema_codec.specs.Numbers.{u32_bytes}
use Rattle.schema_codec.proofs.Lengths.{length-u16, length-u32, length-u64}
use Rattle.log_format.specs.Group.{record_bytes, body, group_bytes, IsGroup, AreGroups}
use Rattle.log_format.specs.Scan.{stream_of, NoGroup, HasWhole}

read-u32 : (n : ℕ) → n < 2 ^ 32 → from_be_bytes w32 (u32_bytes n) ≡ n
unfolding u32_bytes
read-u32 n fits = from_be_bytes-to_be_bytes_4 n fits

pub length-group : (g : Group) → length (group_bytes g) ≡ 4 + length (body g)
unfolding group_bytes
length-group g = omega (arith, length-append (u32_bytes (length (body g))) (body g), length-u32 (length (body g)))

pub length-body : (g : Group) → length (body g) ≡ 10 + length (flat_map record_bytes g.records)
unfolding body
length-body g = simp (length-append, length-u64, length-u16) (omega arith)

-- the first four bytes say how long the group is
length_read : (g : Group) (more : List ℕ) → IsGroup g → from_be_bytes w32 (take 4 (group_bytes g ++ more)) ≡ length (body g)
unfolding group_bytes
length_read g more is =
    ap (λ (l : List ℕ). from_be_bytes w32 (take 4 l)) (append_assoc (u32_bytes (length (body g))) (body g) more)
    ∙ ap (from_be_bytes w32) (take_at (u32_bytes (length (body g))) (body g ++ more) 4 (length-u32 (length (body g))))
    ∙ read-u32 (length (body g)) is.size

pub same_length : (g h : Group) (x y : List ℕ) → IsGroup g → IsGroup h → group_bytes g ++ x ≡ group_bytes h ++ y → length (group_bytes g) ≡ length (group_bytes h)
same_length g h x y is_g is_h same =
    let bodies : length (body g) ≡ length (body h) = sym (length_read g x is_g) ∙ ap (λ (l : List ℕ). from_be_bytes w32 (take 4 l)) same ∙ length_read h y is_h in
    omega (arith, bodies, length-group g, length-group h)

-- no group begins here
abbrev pub BeginsNone : List ℕ → Type 0
BeginsNone rest = (h : Group) (more : List ℕ) → IsGroup h → rest ≡ group_bytes h ++ more → ⊥

-- Of a front of the groups' bytes, the first so many groups stand whole, and none of the rest.
pub record Cut (groups : List Group) (front : List ℕ) : Type 0 where
  pub count : ℕ
  pub some : count ≤ length groups
  pub rest : List ℕ
  pub whole : front ≡ stream_of (take count groups) ++ rest
  pub none : BeginsNone rest

-- the bytes end within the first group
cut_short : (g : Group) (front back more : List ℕ) → IsGroup g → front ++ back ≡ group_bytes g ++ more → length front < length (group_bytes g) → BeginsNone front
cut_short g front back more is split short = λ (h : Group) (tail : List ℕ) is_h begins.
    let whole : group_bytes h ++ (tail ++ back) ≡ group_bytes g ++ more = sym (append_assoc (group_bytes h) tail back) ∙ ap (λ (l : List ℕ). l ++ back) (sym begins) ∙ split in
    let lengths = same_length h g (tail ++ back) more is_h is whole in
    let begun = ap length begins ∙ length-append (group_bytes h) tail in
    absurd (omega (arith, lengths, begun))

pub cut : (first : ℕ) (groups : List Group) (front back : List ℕ) → AreGroups first groups → front ++ back ≡ stream_of groups → Cut groups front
cut first [] front back are is =
    let empty : length front ≡ 0 = omega (arith, ap length is, length-append front back) in
    record {
      count = 0;
      some = omega arith;
      rest = front;
      whole = refl;
      none = λ (h : Group) (tail : List ℕ) is_h begins. absurd (omega (arith, empty, ap length begins, length-append (group_bytes h) tail, length-group h));
    }
cut first (g ∷ groups) front back are is = elim (cases_lt (length front) (length (group_bytes g))) [
  | inl short ↦ record { count = 0; some = omega arith; rest = front; whole = refl; none = cut_short g front back (stream_of groups) are.1 is short }
  | inr long ↦
      let n = length (group_bytes g) in
      let begins : take n front ≡ group_bytes g =
      sym (take-append-le n front back long) ∙ ap (λ (l : List ℕ). take n l) is ∙ take_at (group_bytes g) (stream_of groups) n refl in
      let parts : front ≡ group_bytes g ++ drop n front = sym (take-append-drop n front) ∙ ap (λ (l : List ℕ). l ++ drop n front) begins in
      let after : drop n front ++ back ≡ stream_of groups =
      append_cancel_left (group_bytes g) (drop n front ++ back) (stream_of groups) (sym (append_assoc (group_bytes g) (drop n front) back) ∙ ap (λ (l : List ℕ). l ++ back) (sym parts) ∙ is) in
      let rest = cut (first + 1) groups (drop n front) back are.2 after in
      record {
        count = suc rest.count;
        some = omega (arith, rest.some);
        rest = rest.rest;
        whole = parts ∙ ap (λ (l : List ℕ). group_bytes g ++ l) rest.whole ∙ sym (append_assoc (group_bytes g) (stream_of (take rest.count groups)) rest.rest);
        none = rest.none;
      }
]

pub AreGroups-take : (n first : ℕ) (groups : List Group) → AreGroups first groups → AreGroups first (take n groups)
AreGroups-take zero first groups are = tt
AreGroups-take (suc n) first [] are = tt
AreGroups-take (suc n) first (g ∷ groups) are = (are.0, are.1, AreGroups-take n (first + 1) groups are.2)

pub AreGroups-drop : (first : ℕ) (front back : List Group) → AreGroups first (front ++ back) → AreGroups (first + length front) back
AreGroups-drop first [] back are = subst (λ (n : ℕ). AreGroups n back) (sym (add-zero first)) are
AreGroups-drop first (g ∷ front) back are =
    let next : (first + 1) + length front ≡ first + suc (length front) = omega arith in
    subst (λ (n : ℕ). AreGroups n back) next (AreGroups-drop (first + 1) front back are.2)

pub AreGroups-push : (first : ℕ) (groups : List Group) (g : Group) → AreGroups first groups → IsGroup g → g.lsn ≡ first + length groups → AreGroups first (groups ++ g ∷ [])
AreGroups-push first [] g are is lsn = (omega (arith, lsn), is, tt)
AreGroups-push first (h ∷ groups) g are is lsn = (are.0, are.1, AreGroups-push (first + 1) groups g are.2 is (omega (arith, lsn)))

-- where a group's bytes would be all there and no group begins, none begins with more behind
pub none_with_more : (lsn : ℕ) (bytes more : List ℕ) → HasWhole bytes → NoGroup lsn bytes → NoGroup lsn (bytes ++ more)
none_with_more lsn bytes more whole none = λ (g : Group) (tail : List ℕ) is_g number begins.
    let n = length (group_bytes g) in
    let said : from_be_bytes w32 (take 4 bytes) ≡ length (body g) =
    ap (from_be_bytes w32) (sym (take-append-le 4 bytes more whole.0)) ∙ ap (λ (l : List ℕ). from_be_bytes w32 (take 4 l)) begins ∙ length_read g tail is_g in
    let within : n ≤ length bytes = omega (arith, whole.1, said, length-group g) in
    let front : take n bytes ≡ group_bytes g =
    sym (take-append-le n bytes more within) ∙ ap (λ (l : List ℕ). take n l) begins ∙ take_at (group_bytes g) tail n refl in
    none g (drop n bytes) is_g number (sym (take-append-drop n bytes) ∙ ap (λ (l : List ℕ). l ++ drop n bytes) front)
