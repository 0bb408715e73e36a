-- Slots that are taken out, edited and put back, and what every pool keeps.
use Rattle.std.proofs.Common.{◌≡◌, ℕ, zero, suc, ◌<◌, true, false, List, [], ◌∷◌, length, Option, Some, None, IfSome, refl, sym, ap, subst, ◌∙◌, arith}
use Rattle.std.specs.Prelude.{option_map, slice_set, slice_index_or}
use Rattle.std.specs.List.{swap}
use Rattle.std.specs.Option.{option_map_or}
use Rattle.std.proofs.lemmas.List.{set-set, length-set, get_or-set_same}
use Rattle.std.proofs.lemmas.List.Edits.{swap_is, length-swap}
use Rattle.buffer_pool.specs.Order.{used}
use Rattle.buffer_pool.specs.Frames.{FrameView, PoolView, IsPool, is_idle, is_idle_at}
use Rattle.buffer_pool.proofs.Orders.{used_knows}

pub put_twice : (slots : List (Option FrameView)) (page : ℕ) (edit : FrameView → FrameView) {slot result : Option FrameView} {once twice : List (Option FrameView)}
    → slot ≡ slice_index_or slots page None → once ≡ slice_set slots page None → twice ≡ slice_set once page result → result ≡ option_map edit slot
    → twice ≡ slice_set slots page (option_map edit (slice_index_or slots page None))
put_twice slots page edit {slot} {result} is one two edited =
    two ∙ (ap (λ xs. slice_set xs page result) one
    ∙ (set-set slots page None result ∙ ap (λ s. slice_set slots page s) (edited ∙ ap (option_map edit) is)))

idle_some : (frame : FrameView) (slot : Option FrameView) → option_map_or is_idle slot false ≡ true → option_map (λ (_ : FrameView). frame) slot ≡ Some frame
idle_some frame None h = cc
idle_some frame (Some other) h = refl

swapped : (slots : List (Option FrameView)) (i j : ℕ) → i < length slots → j < length slots → slice_index_or (swap slots i j) j None ≡ slice_index_or slots i None
swapped slots i j hi hj =
    let within : j < length (slice_set slots i (slice_index_or slots j None)) = subst (λ n. j < n) (sym (length-set slots i (slice_index_or slots j None))) hj in
    ap (λ xs. slice_index_or xs j None) (sym (swap_is slots i j None hi hj))
    ∙ get_or-set_same (slice_set slots i (slice_index_or slots j None)) j (slice_index_or slots i None) None within

pub put_moved : (slots : List (Option FrameView)) (from page : ℕ) (frame : FrameView) {slot result : Option FrameView} {exchanged once twice : List (Option FrameView)}
    → from < length slots → page < length slots → is_idle_at slots from ≡ true → exchanged ≡ swap slots from page
    → slot ≡ slice_index_or exchanged page None → once ≡ slice_set exchanged page None → twice ≡ slice_set once page result → result ≡ option_map (λ (_ : FrameView). frame) slot
    → twice ≡ slice_set (swap slots from page) page (Some frame)
put_moved slots from page frame {slot} {result} {exchanged} hf hp idle ex is one two edited =
    let found = is ∙ (ap (λ xs. slice_index_or xs page None) ex ∙ swapped slots from page hf hp) in
    let some = edited ∙ (ap (option_map (λ (_ : FrameView). frame)) found ∙ idle_some frame (slice_index_or slots from None) idle) in
    two ∙ (ap (λ xs. slice_set xs page result) one
    ∙ (set-set exchanged page None result ∙ (ap (λ xs. slice_set xs page result) ex ∙ ap (λ s. slice_set (swap slots from page) page s) some)))

-- an idle slot is one of the slots
pub idle_within : (slots : List (Option FrameView)) (page : ℕ) → is_idle_at slots page ≡ true → page < length slots
idle_within [] page h = cc
idle_within (slot ∷ slots) zero h = omega arith
idle_within (slot ∷ slots) (suc page) h = omega (arith, idle_within slots page h)

-- ---- what every pool keeps

abbrev shown : List (Option FrameView) → List ℕ → PoolView
shown slots order = record { slots = slots; order = order }

pub pool_of : {slots slots' : List (Option FrameView)} {order order' : List ℕ} → slots ≡ slots' → order ≡ order' → shown slots order ≡ shown slots' order'
pool_of {slots} {slots'} {order} {order'} a b = ap (λ xs. shown xs order) a ∙ ap (λ os. shown slots' os) b

as_long : (slots slots' : List (Option FrameView)) (order : List ℕ) → length slots' ≡ length slots → IsPool slots order → IsPool slots' order
as_long slots slots' order same pool = record {
  known = λ q below. pool.known q (subst (λ n. q < n) same below);
  few = subst (λ n. n < 4294967296) (sym same) pool.few;
}

pub kept-set : (slots : List (Option FrameView)) (order : List ℕ) (page : ℕ) (slot : Option FrameView) → IsPool slots order → IsPool (slice_set slots page slot) order
kept-set slots order page slot pool = as_long slots (slice_set slots page slot) order (length-set slots page slot) pool

pub kept-moved : (slots : List (Option FrameView)) (order : List ℕ) (from page : ℕ) (slot : Option FrameView) → IsPool slots order → IsPool (slice_set (swap slots from page) page slot) order
kept-moved slots order from page slot pool =
    as_long slots (slice_set (swap slots from page) page slot) order (length-set (swap slots from page) page slot ∙ length-swap slots from page) pool

pub kept-used : (slots : List (Option FrameView)) (order : List ℕ) (page : ℕ) → IsPool slots order → IsPool slots (used page order)
kept-used slots order page pool = record {
  known = λ q below. used_knows q page order (pool.known q below);
  few = pool.few;
}

pub kept_by : {slots slots' : List (Option FrameView)} {order order' : List ℕ} (page : ℕ) (slot : Option FrameView)
    → IsPool slots order → slots' ≡ slice_set slots page slot → order' ≡ used page order → IsPool slots' order'
kept_by {slots} {slots'} {order} {order'} page slot pool a b =
    subst (λ xs. IsPool xs order') (sym a) (subst (IsPool (slice_set slots page slot)) (sym b) (kept-used (slice_set slots page slot) order page (kept-set slots order page slot pool)))

pub kept_moved_by : {slots slots' : List (Option FrameView)} {order order' : List ℕ} (from page : ℕ) (slot : Option FrameView)
    → IsPool slots order → slots' ≡ slice_set (swap slots from page) page slot → order' ≡ used page order → IsPool slots' order'
kept_moved_by {slots} {slots'} {order} {order'} from page slot pool a b =
    let more = slice_set (swap slots from page) page slot in
    subst (λ xs. IsPool xs order') (sym a) (subst (IsPool more) (sym b) (kept-used more order page (kept-moved slots order from page slot pool)))

-- how often an absent frame is fixed says nothing
pub few_of : (slot : Option FrameView) (most : ℕ) → option_map_or (λ (frame : FrameView). frame.fixes) slot 0 < most → IfSome slot (λ frame. frame.fixes < most)
few_of None most h = tt
few_of (Some frame) most h = h
