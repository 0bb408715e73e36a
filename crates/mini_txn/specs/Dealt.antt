-- The pages that a mini-transaction deals with, in this order, and its copies of those that it has put.
use Rattle.std.specs.Prelude.{◌≡◌, ◌≢◌, ℕ, ◌==◌, List, [], ◌∷◌, map, Option, Some, None, if◌then◌else◌}
use Rattle.mini_txn.specs.declared.dealt.Entry.{Entry}
use Rattle.mtr.specs.Seen.{visit}

abbrev pub first_of : Option (List ℕ) → Option (List ℕ) → Option (List ℕ)
first_of None other = other
first_of (Some bytes) other = Some bytes

-- the copy that stands in the entry, if it is one of that page
abbrev pub own_copy : Entry → ℕ → Option (List ℕ)
own_copy entry page = if entry.page == page then (if entry.copied then Some entry.bytes else None) else None

abbrev pub copy_of : List Entry → ℕ → Option (List ℕ)
copy_of [] page = None
copy_of (entry ∷ more) page = first_of (own_copy entry page) (copy_of more page)

abbrev pub pages_of : List Entry → List ℕ
pages_of entries = map (λ entry. entry.page) entries

-- the page is one of those dealt with, and the copies stay
pub record IsVisited (page : ℕ) (old new : List Entry) : Type 0 where
  pub pages : pages_of new ≡ visit page (pages_of old)
  pub copies : (other : ℕ) → copy_of new other ≡ copy_of old other

-- the page has this copy, and the others stay
pub record HasCopy (page : ℕ) (bytes : List ℕ) (old new : List Entry) : Type 0 where
  pub pages : pages_of new ≡ pages_of old
  pub here : copy_of new page ≡ Some bytes
  pub elsewhere : (other : ℕ) → other ≢ page → copy_of new other ≡ copy_of old other
