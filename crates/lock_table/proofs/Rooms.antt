-- The memory for cycles grows and never shrinks.
use Rattle.std.proofs.Common.{◌≡◌, ℕ, suc, zero, ◌<◌, ◌≤◌, Bool, true, false, cond, List, [], ◌∷◌, ◌++◌, length, get_or, take, set, refl, sym, ap, subst, ◌∙◌, arith, length-append, vec_len, vec_capacity}
use Rattle.std.proofs.lemmas.Bool.{eq-eqb, eqb-true, leb-true, le-leb}
use Rattle.std.proofs.Math.Seq.{take-append_seam}
use Rattle.std.specs.Prelude.{◌==◌, ◌&&◌, nat_le, filter}
use Rattle.std.specs.List.{AllByRecursion}
use Rattle.std.specs.declared.vec.Vec.{Vec}
use Rattle.std.specs.declared.alloc.Global.{Global}
use Rattle.lock_table.specs.declared.room.CycleRoom.{CycleRoom}
use Rattle.lock_table.specs.declared.room.EdgeRoom.{EdgeRoom}
use Rattle.lock_table.specs.Empty.{IsEmptyFor, HoldKeys, is_ready}
use Rattle.lock_table.specs.Room.{HasEdges, HasRoom, HasRooms, KeepsRooms}
use Rattle.lock_rules.proofs.Booleans.{first, second}
use Rattle.lock_table.proofs.Places.{all_push, all_weaker}

no_items : {A : Type 0} (xs : List A) → length xs ≡ 0 → xs ≡ []
no_items [] h = refl
no_items (x ∷ xs) h = absurd (omega (arith, h))

pub ready_is : (key : Vec ℕ Global) → is_ready key ≡ true → IsEmptyFor 67 key
ready_is key h = record {
  empty = no_items key.items (sym key.ok.0 ∙ eqb-true (vec_len key) 0 (first (vec_len key == 0) (nat_le 67 (vec_capacity key)) h));
  holds = leb-true 67 (vec_capacity key) (second (vec_len key == 0) (nat_le 67 (vec_capacity key)) h);
}

pub is_ready-holds : (key : Vec ℕ Global) → IsEmptyFor 67 key → is_ready key ≡ true
is_ready-holds key h = ap (λ b. b && nat_le 67 (vec_capacity key)) (eq-eqb (vec_len key) 0 (key.ok.0 ∙ ap length h.empty)) ∙ le-leb 67 (vec_capacity key) h.holds

pub keys_hold : (keys : List (Vec ℕ Global)) → HoldKeys (filter is_ready keys)
keys_hold [] = tt
keys_hold (key ∷ keys) = go (is_ready key) refl (keys_hold keys) where
  go : (b : Bool) → is_ready key ≡ b → HoldKeys (filter is_ready keys) → HoldKeys (cond b (key ∷ filter is_ready keys) (filter is_ready keys))
  go true is rest = (ready_is key is, rest)
  go false is rest = rest

pub keys_stay : (keys : List (Vec ℕ Global)) → HoldKeys keys → filter is_ready keys ≡ keys
keys_stay [] hold = refl
keys_stay (key ∷ keys) hold = ap (λ b. cond b (key ∷ filter is_ready keys) (filter is_ready keys)) (is_ready-holds key hold.0) ∙ ap (λ ks. key ∷ ks) (keys_stay keys hold.1)

module _ {A : Type 0} (P : A → Type 0) where
  pub all_get : (xs : List A) (i : ℕ) (x : A) → i < length xs → AllByRecursion P xs → P (get_or xs i x)
  all_get [] i x lt all = absurd (omega arith)
  all_get (y ∷ xs) zero x lt all = all.0
  all_get (y ∷ xs) (suc i) x lt all = all_get xs i x (omega arith) all.1

  pub all_set : (xs : List A) (i : ℕ) (y : A) → AllByRecursion P xs → P y → AllByRecursion P (set xs i y)
  all_set [] i y all here = tt
  all_set (x ∷ xs) zero y all here = (here, all.1)
  all_set (x ∷ xs) (suc i) y all here = (all.0, all_set xs i y all.1 here)

less_empty : {T : Type 0} (n m : ℕ) (list : Vec T Global) → n ≤ m → IsEmptyFor m list → IsEmptyFor n list
less_empty n m list le h = record { empty = h.empty; holds = omega (arith, h.holds) }

pub less_edges : (n m : ℕ) (room : EdgeRoom) → n ≤ m → HasEdges m room → HasEdges n room
less_edges n m room le h = record { list = less_empty n m room.edges le h.list; keys = omega (arith, h.keys); keys_hold = h.keys_hold }

pub less_room : (n m : ℕ) (room : CycleRoom) → n ≤ m → HasRoom m room → HasRoom n room
less_room n m room le h = record {
  cycle = less_edges n m room.cycle le h.cycle;
  first_copy = less_edges n m room.first_copy le h.first_copy;
  second_copy = less_edges n m room.second_copy le h.second_copy;
  path = less_empty n m room.path le h.path;
  visits = less_empty n m room.visits le h.visits;
}

pub keeps_trans : (a b c : List CycleRoom) → KeepsRooms a b → KeepsRooms b c → KeepsRooms a c
keeps_trans a b c p q = record { stays = λ n h. q.stays n (p.stays n h) }

-- one more room for so many
pub keeps_push : (count : ℕ) (old rooms : List CycleRoom) (room : CycleRoom) → KeepsRooms old rooms → length rooms < count → HasRoom count room → KeepsRooms old (rooms ++ room ∷ [])
keeps_push count old rooms room keeps lt here = record {
  stays = λ n h.
      let now = keeps.stays n h in
      let le : n ≤ count = omega (arith, now.enough) in
      record {
        enough = omega (arith, now.enough, length-append rooms (room ∷ []));
        each = all_push (HasRoom n) rooms room now.each (less_room n count room le here);
      };
}

-- all rooms, as they stand after a write through a slice
pub keeps_whole : (old rooms back : List CycleRoom) (len : ℕ) → len ≡ length rooms → length rooms ≡ length old → ((n : ℕ) → AllByRecursion (HasRoom n) old → AllByRecursion (HasRoom n) rooms) → KeepsRooms old (take len (rooms ++ back))
keeps_whole old rooms back len is same stays =
    subst (λ rs. KeepsRooms old rs) (sym (ap (λ m. take m (rooms ++ back)) is ∙ take-append_seam rooms back))
    (record { stays = λ n h. record { enough = omega (arith, h.enough, same); each = stays n h.each } })

-- memory for more requests serves fewer
pub fewer_wait : (n m : ℕ) (rooms : List CycleRoom) → n ≤ m → HasRooms m rooms → HasRooms n rooms
fewer_wait n m rooms le h = record {
  enough = omega (arith, h.enough);
  each = all_weaker (HasRoom m) (HasRoom n) (λ room has. less_room n m room le has) rooms h.each;
}
