-- What the history of a script holds, once each session has its calls in it.
use Rattle.std.proofs.Common.{◌≡◌, ℕ, zero, suc, ◌+◌, ◌<◌, ◌≤◌, ◌⊎◌, ◌||◌, not, Bool, true, false, List, [], ◌∷◌, ◌++◌, length, map}
use Rattle.std.proofs.Common.{refl, sym, ap, subst, ◌∙◌, inl, inr, arith}
use Rattle.std.specs.Prelude.{None, All, Any}
use Rattle.std.specs.List.{AllByRecursion, list_any}
use Rattle.std.proofs.lemmas.Bool.Decides.{eqb_tells}
use Rattle.std.proofs.lemmas.List.{append-nil}
use Rattle.inno_types.specs.declared.reply.Item.{Item}
use Rattle.inno_model.specs.declared.event.Event.{Event}
use Rattle.inno_model.specs.Past.{under_way}
use Rattle.inno_model.specs.Text.{items}
use Rattle.script.specs.declared.script.Script.{Script}
use Rattle.script.specs.declared.script.ScriptItem.{ScriptItem}
use Rattle.inno_model.specs.declared.board.Board.{Board}
use Rattle.inno_model.specs.Boards.{calls_of}
use Rattle.atomic_table.specs.Seated.{TableId}
use Rattle.turn_engine.specs.Sessions.{Sitting, own, HasCalls}
use Rattle.script_play.specs.Sessions.{items_of, HaveNames, FollowsScript, HasPlayed, AllRest}
use Rattle.script_play.proofs.Places.{nobodys}
use Rattle.script_play.specs.Playing.{HasBegun, IsWhole, HasBegunIn, HasPlayedIn, IsAll, AreNumbered}
use Rattle.script_play.proofs.Calls.{items_by_calls, under_way_by_calls}

-- the one of a number among numbered ones
pub find : (P : Sitting → Type 0) (from x : ℕ) (rs : List Sitting) → AreNumbered from (map (λ r. r.number) rs) → AllByRecursion P rs → from ≤ x
    → x < from + length rs → (r : Sitting) × P r × (r.number ≡ x)
find P from x [] numbered all le lt = absurd (omega (arith, le, lt))
find P from x (r ∷ rs) numbered all le lt = elim (eqb_tells x from) [
  | inl same ↦ (r, all.0, numbered.0 ∙ sym same.1)
  | inr differ ↦ find P (from + 1) x rs numbered.1 all.1 (let d = differ.1 in omega (arith, le, d)) (omega (arith, lt))
]

-- there is one of each number
pub any_of : (from x : ℕ) (rs : List Sitting) → AreNumbered from (map (λ r. r.number) rs) → from ≤ x → x < from + length rs → Any (λ r. r.number ≡ x) rs
any_of from x [] numbered le lt = absurd (omega (arith, le, lt))
any_of from x (r ∷ rs) numbered le lt = elim (eqb_tells x from) [
  | inl same ↦ (0, r, omega arith, refl, numbered.0 ∙ sym same.1)
  | inr differ ↦
      let later = any_of (from + 1) x rs numbered.1 (let d = differ.1 in omega (arith, le, d)) (omega (arith, lt)) in
      let bound = later.2 in (suc later.0, later.1, omega (arith, bound), later.3, later.4)
]

both : (P Q : Sitting → Type 0) (rs : List Sitting) → AllByRecursion P rs → AllByRecursion Q rs → AllByRecursion (λ r. P r × Q r) rs
both P Q [] ps qs = tt
both P Q (r ∷ rs) ps qs = ((ps.0, qs.0), both P Q rs ps.1 qs.1)

pub not_true : (b : Bool) → not b ≡ true → b ≡ false
not_true true is = cc
not_true false is = refl

neither : (a b : Bool) → (a || b) ≡ false → (a ≡ false) × (b ≡ false)
neither true b none = cc
neither false b none = (refl, none)

-- none was lost
pub none_lost : (rs : List Sitting) → list_any (λ (r : Sitting). r.lost) rs ≡ false → AllByRecursion (λ r. r.lost ≡ false) rs
none_lost [] none = tt
none_lost (r ∷ rs) none = let parts = neither r.lost (list_any (λ (s : Sitting). s.lost) rs) none in (parts.0, none_lost rs parts.1)

module _ (script : List ScriptItem) (past : List Event) (count : ℕ) (first : Sitting) (rs : List Sitting)
    (zeroth : first.number ≡ 0) (first_calls : calls_of first.number past ≡ own first) (first_begun : HasBegun script first)
    (calls : AllByRecursion (λ r. calls_of r.number past ≡ own r) rs) (begun : AllByRecursion (HasBegun script) rs)
    (numbered : AreNumbered 1 (map (λ r. r.number) rs)) (counted : count ≡ length rs + 1)
    (others : (x : ℕ) → count ≤ x → calls_of x past ≡ []) where
  of_one : (s : Sitting) (x : ℕ) → s.number ≡ x → calls_of s.number past ≡ own s → HasBegun script s
      → (left : List Item) × (items_of x script ≡ items x past ++ left)
  of_one s x is here begun_here = (
    begun_here.left,
    ap (λ u. items_of u script) (sym is) ∙ begun_here.items_are
        ∙ ap (λ list. list ++ begun_here.left) (ap (items s.number) (sym here) ∙ sym (items_by_calls s.number past) ∙ ap (λ u. items u past) is),
  )

  no_items : (x : ℕ) → calls_of x past ≡ [] → items x past ≡ []
  no_items x none = items_by_calls x past ∙ ap (items x) none

  pub follows_all : FollowsScript script past
  follows_all zero = of_one first 0 zeroth first_calls first_begun
  follows_all (suc x) = elim (let h : (suc x < count) ⊎ (count ≤ suc x) = search (arith) in h) [
    | inl here ↦
        let r = find (λ r. (calls_of r.number past ≡ own r) × HasBegun script r) 1 (suc x) rs numbered
        (both (λ r. calls_of r.number past ≡ own r) (HasBegun script) rs calls begun) (omega arith) (omega (arith, here, counted)) in
        of_one r.0 (suc x) r.2 r.1.0 r.1.1
    | inr beyond ↦ (items_of (suc x) script, sym (ap (λ list. list ++ items_of (suc x) script) (no_items (suc x) (others (suc x) beyond))))
  ]

  rests_one : (s : Sitting) (x : ℕ) → s.number ≡ x → calls_of s.number past ≡ own s → HasBegun script s → under_way x past ≡ None
  rests_one s x is here begun_here =
      ap (λ u. under_way u past) (sym is) ∙ under_way_by_calls s.number past ∙ ap (under_way s.number) here ∙ begun_here.rests

  pub rest_all : AllRest past
  rest_all zero = rests_one first 0 zeroth first_calls first_begun
  rest_all (suc x) = elim (let h : (suc x < count) ⊎ (count ≤ suc x) = search (arith) in h) [
    | inl here ↦
        let r = find (λ r. (calls_of r.number past ≡ own r) × HasBegun script r) 1 (suc x) rs numbered
        (both (λ r. calls_of r.number past ≡ own r) (HasBegun script) rs calls begun) (omega arith) (omega (arith, here, counted)) in
        rests_one r.0 (suc x) r.2 r.1.0 r.1.1
    | inr beyond ↦ under_way_by_calls (suc x) past ∙ ap (under_way (suc x)) (others (suc x) beyond)
  ]

  whole_one : (s : Sitting) (x : ℕ) → s.number ≡ x → calls_of s.number past ≡ own s → s.lost ≡ false → IsWhole script s → items x past ≡ items_of x script
  whole_one s x is here kept whole =
      ap (λ u. items u past) (sym is) ∙ items_by_calls s.number past ∙ ap (items s.number) here ∙ whole kept ∙ ap (λ u. items_of u script) is

  pub plays_all : (first_kept : first.lost ≡ false) (first_whole : IsWhole script first) (whole : AllByRecursion (IsWhole script) rs)
      (kept : AllByRecursion (λ r. r.lost ≡ false) rs) (named : All (λ item. item.s < count) script) (x : ℕ) → items x past ≡ items_of x script
  plays_all first_kept first_whole whole kept named zero = whole_one first 0 zeroth first_calls first_kept first_whole
  plays_all first_kept first_whole whole kept named (suc x) = elim (let h : (suc x < count) ⊎ (count ≤ suc x) = search (arith) in h) [
    | inl here ↦
        let r = find (λ r. (calls_of r.number past ≡ own r) × ((r.lost ≡ false) × IsWhole script r)) 1 (suc x) rs numbered
        (both (λ r. calls_of r.number past ≡ own r) (λ r. (r.lost ≡ false) × IsWhole script r) rs calls
        (both (λ r. r.lost ≡ false) (IsWhole script) rs kept whole)) (omega arith) (omega (arith, here, counted)) in
        whole_one r.0 (suc x) r.2 r.1.0 r.1.1.0 r.1.1.1
    | inr beyond ↦ no_items (suc x) (others (suc x) beyond) ∙ sym (nobodys (suc x) count script beyond named)
  ]

-- what holds of each holds of each by its place
by_each : (P : Sitting → Type 0) (rs : List Sitting) → All P rs → AllByRecursion P rs
by_each P [] all = tt
by_each P (r ∷ rs) all = (all 0 r (omega arith), by_each P rs (λ k d h. all (suc k) d (omega (arith, h))))

pub only : (P Q : Sitting → Type 0) (rs : List Sitting) → ((r : Sitting) → P r → Q r) → AllByRecursion P rs → AllByRecursion Q rs
only P Q [] f ps = tt
only P Q (r ∷ rs) f ps = (f r ps.0, only P Q rs f ps.1)

-- The engine comes out of the hall, and then the setup part leaves.
module _ (hall : TableId) (script : Script) (gathered left : Board) (first : Sitting) (rs : List Sitting)
    (zeroth : first.number ≡ 0) (played_first : HasPlayedIn hall script.items first) (begun : AllByRecursion (HasBegunIn hall script.items) rs)
    (numbered : AreNumbered 1 (map (λ r. r.number) rs)) (counted : length first.seen.names ≡ length rs + 1)
    (has_first : HasCalls gathered first) (has_each : All (HasCalls gathered) rs)
    (others : (x : ℕ) → length first.seen.names ≤ x → calls_of x gathered.past ≡ [])
    (still : (x : ℕ) → calls_of x left.past ≡ calls_of x gathered.past) where
  first_calls_left : calls_of first.number left.past ≡ own first
  first_calls_left = still first.number ∙ has_first.calls

  calls_left : AllByRecursion (λ r. calls_of r.number left.past ≡ own r) rs
  calls_left = only (HasCalls gathered) (λ r. calls_of r.number left.past ≡ own r) rs (λ r has. still r.number ∙ has.calls)
      (by_each (HasCalls gathered) rs has_each)

  begun_left : AllByRecursion (HasBegun script.items) rs
  begun_left = only (HasBegunIn hall script.items) (HasBegun script.items) rs (λ r is. is.1) begun

  others_left : (x : ℕ) → length first.seen.names ≤ x → calls_of x left.past ≡ []
  others_left x beyond = still x ∙ others x beyond

  pub follows_left : FollowsScript script.items left.past
  follows_left = follows_all script.items left.past (length first.seen.names) first rs zeroth first_calls_left played_first.0.1 calls_left begun_left numbered
      counted others_left

  pub rest_left : AllRest left.past
  rest_left = rest_all script.items left.past (length first.seen.names) first rs zeroth first_calls_left played_first.0.1 calls_left begun_left numbered counted
      others_left

  pub plays_left : IsAll script first rs → list_any (λ r. r.lost) rs ≡ false → HaveNames script → left.names ≡ first.seen.names
      → HasPlayed script left.names left.past
  plays_left all kept have_names names = record {
    names_are = names ∙ all.named;
    items = plays_all script.items left.past (length first.seen.names) first rs zeroth first_calls_left played_first.0.1 calls_left begun_left numbered counted
        others_left all.kept played_first.1 all.whole (none_lost rs kept)
        (subst (λ (names : List (List ℕ)). All (λ item. item.s < length names) script.items) (sym all.named) have_names);
  }
