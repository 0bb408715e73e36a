-- An inner page that gets an entry behind another one.
use Rattle.std.proofs.Common.{◌≡◌, ℕ, suc, ◌<◌, ◌^◌, List, [], ◌∷◌, ◌++◌, length, insert, refl, sym, ◌∙◌, ap, subst}
use Rattle.std.specs.Int.{w32, to_be_bytes, from_be_bytes}
use Rattle.std.proofs.lemmas.Nat.{from_be_bytes-to_be_bytes_4}
use Rattle.std.proofs.Math.Seq.{take-append_seam, drop-append_seam}
use Rattle.law_flat_tree.specs.Levels.{Fence}
use Rattle.law_flat_tree.specs.Levels.Fence.{Key}
use Rattle.law_flat_tree.specs.Pages.{child_of, entry_of, entries_of}
use Rattle.law_flat_tree.proofs.Pages.{map-insert}

entry_spelled : (key : List ℕ) (page : ℕ) → page < 2 ^ 32 → entry_of (length key) (key ++ to_be_bytes w32 page) ≡ (Key key, page)
entry_spelled key page fits =
    ap (λ k. (Key k, child_of (length key) (key ++ to_be_bytes w32 page))) (take-append_seam key (to_be_bytes w32 page))
    ∙ ap (λ l. (Key key, from_be_bytes w32 l)) (drop-append_seam key (to_be_bytes w32 page))
    ∙ ap (λ n. (Key key, n)) (from_be_bytes-to_be_bytes_4 page fits)

abbrev IsSome : {A : Type 0} → List A → Type 0
IsSome [] = ⊥
IsSome (x ∷ xs) = Unit {0}

some_behind : {A : Type 0} (e f : List A) (a : A) → IsSome (e ++ a ∷ f)
some_behind [] f a = tt
some_behind (x ∷ e) f a = tt

-- a record behind the first one is an entry there
entry_put : (n : ℕ) (low : Fence) (rs : List (List ℕ)) (i : ℕ) (x : List ℕ) → IsSome (entries_of n low rs)
    → entries_of n low (insert rs (suc i) x) ≡ insert (entries_of n low rs) (suc i) (entry_of n x)
entry_put n low [] i x some = absurd some
entry_put n low (r ∷ rs) i x some = ap (λ l. (low, child_of n r) ∷ l) (map-insert (entry_of n) rs i x)

put_behind : {A : Type 0} (e f : List A) (a b : A) → insert (e ++ a ∷ f) (suc (length e)) b ≡ e ++ a ∷ b ∷ f
put_behind [] f a b = refl
put_behind (x ∷ e) f a b = ap (λ l. x ∷ l) (put_behind e f a b)

pub parent_entries : (low : Fence) (rs : List (List ℕ)) (e f : List (Fence × ℕ)) (a : Fence × ℕ) (key : List ℕ) (page : ℕ) → page < 2 ^ 32
    → entries_of (length key) low rs ≡ e ++ a ∷ f
    → entries_of (length key) low (insert rs (suc (length e)) (key ++ to_be_bytes w32 page)) ≡ e ++ a ∷ (Key key, page) ∷ f
parent_entries low rs e f a key page fits is =
    entry_put (length key) low rs (length e) (key ++ to_be_bytes w32 page) (subst (λ l. IsSome l) (sym is) (some_behind e f a))
    ∙ ap (λ entry. insert (entries_of (length key) low rs) (suc (length e)) entry) (entry_spelled key page fits)
    ∙ ap (λ l. insert l (suc (length e)) (Key key, page)) is
    ∙ put_behind e f a (Key key, page)
