-- A root that gets a level below it, on a page that was taken.
use Rattle.std.specs.Prelude.{◌≡◌, ◌≢◌, ℕ, suc, ◌<◌, List, length}
use Rattle.stored_pages.specs.declared.layout.TheConstants.{PAGE, PAGE_COUNT}
use Rattle.page_format.specs.Words.{level_of}
use Rattle.stored_pages.specs.Words.{u32_at}
use Rattle.page_format.specs.Shape.{HasTreeFields}
use Rattle.mtr.specs.Seen.{IsShown}

-- The bytes that were read show the root, which is one level below the new one, and the page that was taken is apart from it.
pub record IsRaiseReady (root number level : ℕ) (bytes : List ℕ) (pages : ℕ → List ℕ) : Type 0 where
  pub level_is : level ≡ suc (level_of (pages root))
  pub shown : IsShown (pages root) bytes
  pub fields : HasTreeFields (pages root)
  pub blank : length (pages number) ≡ PAGE
  pub apart : number ≢ root
  pub some_root : root ≢ 0
  pub some_number : number ≢ 0
  pub root_counted : root < u32_at PAGE_COUNT (pages 0)
  pub number_counted : number < u32_at PAGE_COUNT (pages 0)
