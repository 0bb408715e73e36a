-- Copies in a list of entries: where one is found, and what a change of an entry leaves.
use Rattle.std.proofs.Common.{◌≡◌, ℕ, zero, suc, ◌+◌, ◌<◌, Bool, true, false, cond, List, [], ◌∷◌, ◌++◌, length, Option, Some, None, refl, sym, ap, subst}
use Rattle.std.proofs.Common.{◌∙◌, arith, get_or, set, take, length-take}
use Rattle.std.specs.Prelude.{◌==◌, ◌&&◌, ◌||◌, ◌≤◌, position, is_some, nat_lt}
use Rattle.std.specs.List.{list_any, position_or_len}
use Rattle.std.proofs.lemmas.Bool.{ltb-false, eqb-true, eq-eqb}
use Rattle.std.proofs.lemmas.List.{get_or-take, take_more_set, map_push}
use Rattle.std.proofs.lemmas.List.Sums.{fails_before_first}
use Rattle.std.proofs.lemmas.List.Quantifiers.{position-Some}
use Rattle.mini_txn.specs.declared.dealt.Entry.{Entry}
use Rattle.mini_txn.specs.Dealt.{first_of, own_copy, copy_of, pages_of, IsVisited, HasCopy}
use Rattle.mtr.specs.Seen.{is_in}

abbrev pub is_of : ℕ → Entry → Bool
is_of page entry = entry.page == page

abbrev pub is_copy_of : ℕ → Entry → Bool
is_copy_of page entry = entry.page == page && entry.copied

first-none : (o : Option (List ℕ)) → first_of o None ≡ o
first-none None = refl
first-none (Some b) = refl

first-assoc : (a b c : Option (List ℕ)) → first_of (first_of a b) c ≡ first_of a (first_of b c)
first-assoc None b c = refl
first-assoc (Some x) b c = refl

pub copy_of-append : (es fs : List Entry) (page : ℕ) → copy_of (es ++ fs) page ≡ first_of (copy_of es page) (copy_of fs page)
copy_of-append [] fs page = refl
copy_of-append (e ∷ es) fs page = ap (first_of (own_copy e page)) (copy_of-append es fs page)
    ∙ sym (first-assoc (own_copy e page) (copy_of es page) (copy_of fs page))

pub copy_of-push : (es : List Entry) (e : Entry) (page : ℕ) → copy_of (es ++ e ∷ []) page ≡ first_of (copy_of es page) (own_copy e page)
copy_of-push es e page = copy_of-append es (e ∷ []) page ∙ ap (first_of (copy_of es page)) (first-none (own_copy e page))

own_at : (e : Entry) (page : ℕ) → is_copy_of page e ≡ true → own_copy e page ≡ Some e.bytes
own_at e page h = go (e.page == page) e.copied h where
  go : (b d : Bool) → (b && d) ≡ true → cond b (cond d (Some e.bytes) None) None ≡ Some e.bytes
  go true true k = refl
  go true false k = cc
  go false d k = cc

own_none : (e : Entry) (page : ℕ) → is_copy_of page e ≡ false → own_copy e page ≡ None
own_none e page h = go (e.page == page) e.copied h where
  go : (b d : Bool) → (b && d) ≡ false → cond b (cond d (Some e.bytes) None) None ≡ None
  go true true k = cc
  go true false k = refl
  go false d k = refl

pub own_apart : (e : Entry) (page : ℕ) → is_of page e ≡ false → own_copy e page ≡ None
own_apart e page h = ap (λ b. cond b (cond e.copied (Some e.bytes) None) None) h

pub own_unread : (e : Entry) (page : ℕ) → e.copied ≡ false → own_copy e page ≡ None
own_unread e page h = go (e.page == page) where
  go : (b : Bool) → cond b (cond e.copied (Some e.bytes) None) None ≡ None
  go true = ap (λ d. cond d (Some e.bytes) None) h
  go false = refl

-- ---- at a position

-- the copy that is found first
pub copy_found : (page : ℕ) (es : List Entry) (i : ℕ) (d : Entry) → i < length es → is_copy_of page (get_or es i d) ≡ true
    → ((k : ℕ) → k < i → is_copy_of page (get_or es k d) ≡ false)
    → copy_of es page ≡ Some (get_or es i d).bytes
copy_found page [] i d within here before = absurd (omega (arith, within))
copy_found page (e ∷ es) zero d within here before = ap (λ o. first_of o (copy_of es page)) (own_at e page here)
copy_found page (e ∷ es) (suc i) d within here before =
    let zeroth : 0 < suc i = omega arith in
    ap (λ o. first_of o (copy_of es page)) (own_none e page (before 0 zeroth))
    ∙ copy_found page es i d (omega (arith, within)) here (λ k below. before (suc k) (omega (arith, below)))

pub copy_none : (page : ℕ) (es : List Entry) → list_any (is_copy_of page) es ≡ false → copy_of es page ≡ None
copy_none page [] h = refl
copy_none page (e ∷ es) h = go (is_copy_of page e) refl h (copy_none page es) where
  go : (b : Bool) → is_copy_of page e ≡ b → (b || list_any (is_copy_of page) es) ≡ false → (list_any (is_copy_of page) es ≡ false → copy_of es page ≡ None)
      → first_of (own_copy e page) (copy_of es page) ≡ None
  go true is k ih = cc
  go false is k ih = ap (λ o. first_of o (copy_of es page)) (own_none e page is) ∙ ih k

-- an entry is changed to one with a copy of the page
pub copy-set : (page : ℕ) (es : List Entry) (i : ℕ) (d e : Entry) → i < length es → is_copy_of page e ≡ true
    → ((k : ℕ) → k < i → own_copy (get_or es k d) page ≡ None)
    → copy_of (set es i e) page ≡ Some e.bytes
copy-set page [] i d e within is before = absurd (omega (arith, within))
copy-set page (f ∷ es) zero d e within is before = ap (λ o. first_of o (copy_of es page)) (own_at e page is)
copy-set page (f ∷ es) (suc i) d e within is before =
    let zeroth : 0 < suc i = omega arith in
    ap (λ o. first_of o (copy_of (set es i e) page)) (before 0 zeroth)
    ∙ copy-set page es i d e (omega (arith, within)) is (λ k below. before (suc k) (omega (arith, below)))

pub copy-set_other : (page : ℕ) (es : List Entry) (i : ℕ) (d e : Entry) → own_copy e page ≡ own_copy (get_or es i d) page → copy_of (set es i e) page
    ≡ copy_of es page
copy-set_other page [] i d e same = refl
copy-set_other page (f ∷ es) zero d e same = ap (λ o. first_of o (copy_of es page)) same
copy-set_other page (f ∷ es) (suc i) d e same = ap (first_of (own_copy f page)) (copy-set_other page es i d e same)

-- ---- the pages

pub is_in_pages : (page : ℕ) (es : List Entry) → is_in page (pages_of es) ≡ list_any (is_of page) es
is_in_pages page [] = refl
is_in_pages page (e ∷ es) = ap (λ b. is_of page e || b) (is_in_pages page es)

pub pages-set : (es : List Entry) (i : ℕ) (d e : Entry) → e.page ≡ (get_or es i d).page → pages_of (set es i e) ≡ pages_of es
pages-set [] i d e same = refl
pages-set (f ∷ es) zero d e same = ap (λ p. p ∷ pages_of es) same
pages-set (f ∷ es) (suc i) d e same = ap (λ ps. f.page ∷ ps) (pages-set es i d e same)

-- a page with a copy is dealt with
pub copied_is_in : (page : ℕ) (es : List Entry) → is_some (copy_of es page) ≡ true → is_in page (pages_of es) ≡ true
copied_is_in page [] h = cc
copied_is_in page (e ∷ es) h = go (e.page == page) e.copied h (copied_is_in page es) where
  go : (b d : Bool) → is_some (first_of (cond b (cond d (Some e.bytes) None) None) (copy_of es page)) ≡ true
      → (is_some (copy_of es page) ≡ true → is_in page (pages_of es) ≡ true)
      → (b || is_in page (pages_of es)) ≡ true
  go true d k ih = refl
  go false d k ih = ih k

-- ---- positions

module _ {X : Type 0} (p : X → Bool) where
  any_none : (xs : List X) → ((k : ℕ) (d : X) → k < length xs → p (get_or xs k d) ≡ false) → list_any p xs ≡ false
  any_none [] h = refl
  any_none (x ∷ xs) h =
      let first : p x ≡ false = h 0 x (omega arith) in
      ap (λ b. b || list_any p xs) first ∙ any_none xs (λ k d below. h (suc k) d (omega (arith, below)))

  pub any_at : (xs : List X) (i : ℕ) (d : X) → i < length xs → p (get_or xs i d) ≡ true → list_any p xs ≡ true
  any_at [] i d within here = absurd (omega (arith, within))
  any_at (x ∷ xs) zero d within here = ap (λ b. b || list_any p xs) here
  any_at (x ∷ xs) (suc i) d within here = go (p x) (any_at xs i d (omega (arith, within)) here) where
    go : (b : Bool) → list_any p xs ≡ true → (b || list_any p xs) ≡ true
    go true h = refl
    go false h = h

  pub position_none : (xs : List X) → position p xs ≡ None → list_any p xs ≡ false
  position_none xs h = go (nat_lt (position_or_len p xs) (length xs)) refl h where
    go : (b : Bool) → nat_lt (position_or_len p xs) (length xs) ≡ b → cond b (Some (position_or_len p xs)) None ≡ None → list_any p xs ≡ false
    go true is k = absurd cc
    go false is k =
        let past : length xs ≤ position_or_len p xs = ltb-false (position_or_len p xs) (length xs) is in
        any_none xs (λ i d below. fails_before_first p xs i d (omega (arith, below, past)))

  pub at_found : (xs : List X) (i : ℕ) → position p xs ≡ Some i → list_any p xs ≡ true
  at_found [] i h = absurd cc
  at_found (x ∷ xs) i h = let found = position-Some p (x ∷ xs) i x h in any_at (x ∷ xs) i x found.0 found.1

-- ---- what is found

pub found_in : (page : ℕ) (es : List Entry) → is_some (position (is_of page) es) ≡ is_in page (pages_of es)
found_in page es = go (position (is_of page) es) refl where
  go : (o : Option ℕ) → position (is_of page) es ≡ o → is_some o ≡ is_in page (pages_of es)
  go None is = sym (is_in_pages page es ∙ position_none (is_of page) es is)
  go (Some i) is = sym (is_in_pages page es ∙ at_found (is_of page) es i is)

-- ---- the entries in use

take_set : (count i : ℕ) (es : List Entry) (e : Entry) → take count (set es i e) ≡ set (take count es) i e
take_set zero i es e = refl
take_set (suc count) i [] e = refl
take_set (suc count) zero (x ∷ es) e = refl
take_set (suc count) (suc i) (x ∷ es) e = ap (λ (l : List Entry). x ∷ l) (take_set count i es e)

apart : (a b : ℕ) → (a ≡ b → ⊥) → (a == b) ≡ false
apart a b ne = go (a == b) refl where
  go : (d : Bool) → (a == b) ≡ d → (a == b) ≡ false
  go true is = absurd (ne (eqb-true a b is))
  go false is = is

both_left : (a b : Bool) → (a && b) ≡ true → a ≡ true
both_left true b h = refl
both_left false b h = cc

both_right : (a b : Bool) → (a && b) ≡ true → b ≡ true
both_right true b h = h
both_right false b h = cc

-- an entry of the page is changed to one with a copy
changed : (page : ℕ) (es : List Entry) (i : ℕ) (d e : Entry) → i < length es → is_of page (get_or es i d) ≡ true
    → ((k : ℕ) → k < i → own_copy (get_or es k d) page ≡ None)
    → e.page ≡ (get_or es i d).page → e.copied ≡ true → HasCopy page e.bytes es (set es i e)
changed page es i d e within here before same copied =
    let old : (get_or es i d).page ≡ page = eqb-true (get_or es i d).page page here in
    let is : e.page ≡ page = same ∙ old in
    let is_copy : is_copy_of page e ≡ true = ap (λ b. b && e.copied) (eq-eqb e.page page is) ∙ copied in
    record {
      pages = pages-set es i d e same;
      here = copy-set page es i d e within is_copy before;
      elsewhere = λ q ne.
          let one : own_copy e q ≡ None = own_apart e q (apart e.page q (λ k. ne (sym k ∙ is))) in
          let other : own_copy (get_or es i d) q ≡ None = own_apart (get_or es i d) q (apart (get_or es i d).page q (λ k. ne (sym k ∙ old))) in
          copy-set_other q es i d e (one ∙ sym other);
    }

-- the page's first entry gets a copy
pub set_copy : (page : ℕ) (bytes : List ℕ) (items : List Entry) (count i : ℕ) (old e : Entry) → position (is_of page) (take count items) ≡ Some i
    → old ≡ get_or items i old
    → e.page ≡ old.page → e.copied ≡ true → e.bytes ≡ bytes → HasCopy page bytes (take count items) (take count (set items i e))
set_copy page bytes items count i old e place is same copied written =
    let es : List Entry = take count items in
    let found = position-Some (is_of page) es i old place in
    let below : i < count = omega (arith, found.0, length-take count items) in
    let mine : get_or es i old ≡ old = get_or-take count items i old below ∙ sym is in
    let has = changed page es i old e found.0 found.1 (λ k less. own_apart (get_or es k old) page (found.2 k less)) (same
    ∙ sym (ap (λ (x : Entry). x.page) mine)) copied in
    subst (λ (l : List ℕ). HasCopy page l es (take count (set items i e))) written (subst (HasCopy page e.bytes es) (sym (take_set count i items e)) has)

-- where no entry is of the page, it isn't dealt with
pub none_of : (page : ℕ) (es : List Entry) → position (is_of page) es ≡ None → is_in page (pages_of es) ≡ true → ⊥
none_of page es none known =
    let clash : true ≡ false = sym known ∙ is_in_pages page es ∙ position_none (is_of page) es none in
    absurd cc

-- the copy that was found
pub copy_is : (page : ℕ) (items : List Entry) (count i : ℕ) (old : Entry) → position (is_copy_of page) (take count items) ≡ Some i → old
    ≡ get_or items i old → copy_of (take count items) page ≡ Some old.bytes
copy_is page items count i old place is =
    let es : List Entry = take count items in
    let found = position-Some (is_copy_of page) es i old place in
    let below : i < count = omega (arith, found.0, length-take count items) in
    let mine : get_or es i old ≡ old = get_or-take count items i old below ∙ sym is in
    copy_found page es i old found.0 found.1 found.2 ∙ ap (λ (x : Entry). Some x.bytes) mine

pub copy_is_none : (page : ℕ) (es : List Entry) → position (is_copy_of page) es ≡ None → copy_of es page ≡ None
copy_is_none page es none = copy_none page es (position_none (is_copy_of page) es none)

-- the bytes of the copy that was found are changed
pub write_copy : (page : ℕ) (bytes : List ℕ) (items : List Entry) (count i : ℕ) (old e : Entry) → position (is_copy_of page) (take count items)
    ≡ Some i → old ≡ get_or items i old
    → e.page ≡ old.page → e.copied ≡ old.copied → e.bytes ≡ bytes → HasCopy page bytes (take count items) (take count (set items i e))
write_copy page bytes items count i old e place is same copied written =
    let es : List Entry = take count items in
    let found = position-Some (is_copy_of page) es i old place in
    let below : i < count = omega (arith, found.0, length-take count items) in
    let mine : get_or es i old ≡ old = get_or-take count items i old below ∙ sym is in
    let here : is_of page (get_or es i old) ≡ true = both_left (is_of page (get_or es i old)) (get_or es i old).copied found.1 in
    let was : (get_or es i old).copied ≡ true = both_right (is_of page (get_or es i old)) (get_or es i old).copied found.1 in
    let has = changed page es i old e found.0 here (λ k less. own_none (get_or es k old) page (found.2 k less)) (same ∙ sym (ap (λ (x : Entry). x.page) mine))
    (copied ∙ sym (ap (λ (x : Entry). x.copied) mine) ∙ was) in
    subst (λ (l : List ℕ). HasCopy page l es (take count (set items i e))) written (subst (HasCopy page e.bytes es) (sym (take_set count i items e)) has)

-- a page is asked for that was not
pub one_visited : (page : ℕ) (items : List Entry) (count : ℕ) (e : Entry) → count < length items → is_in page (pages_of (take count items)) ≡ false
    → e.page ≡ page → e.copied ≡ false
    → IsVisited page (take count items) (take (count + 1) (set items count e))
one_visited page items count e within unknown is unread =
    let es : List Entry = take count items in
    subst (IsVisited page es) (sym (take_more_set items count e within)) (record {
      pages =
          map_push (λ (x : Entry). x.page) es e ∙ ap (λ (n : ℕ). pages_of es ++ n ∷ []) is
          ∙ sym (ap (λ b. cond b (pages_of es) (pages_of es ++ page ∷ [])) unknown);
      copies = λ q. copy_of-push es e q ∙ ap (first_of (copy_of es q)) (own_unread e q unread) ∙ first-none (copy_of es q);
    })
