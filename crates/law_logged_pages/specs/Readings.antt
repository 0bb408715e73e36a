-- What the pages of a run read as: databases after some of its commits. D are the databases.
use Rattle.std.specs.Prelude.{◌≡◌, ℕ, ◌<◌, ◌≤◌, Option, List, length}
use Rattle.store_api.specs.Areas.{Image}
use Rattle.store_api.specs.declared.limits.TheConstants.{MOST_PAGES}
use Rattle.log_format.specs.declared.group.Group.{Group}
use Rattle.log_format.specs.Scan.{IsScan}
use Rattle.law_logged_pages.specs.Applied.{page_after, logical}
use Rattle.law_logged_pages.specs.Stages.{SameButSum, or_zeros}
use Rattle.law_logged_pages.specs.Keeping.{durable}

-- a way to read pages that looks at no sum
pub record IgnoresSums {D : Type 0} (Reads : (ℕ → List ℕ) → D → Type 0) : Type 0 where
  pub same : (a b : ℕ → List ℕ) → ((page : ℕ) → page < MOST_PAGES → SameButSum (a page) (b page)) → (d : D) → Reads b d → Reads a d

-- The pages after each number of groups, from the flushed ones on, read as the database after so many commits as these
-- groups hold. All groups hold all commits, and the flushed ones hold those that were acknowledged.
pub record ReadsAlong {D : Type 0} (Reads : (ℕ → List ℕ) → D → Type 0) (after : ℕ → D) (commits acked first flushed : ℕ) (groups : List Group)
    (base : ℕ → List ℕ) : Type 0 where
  pub held : ℕ → ℕ
  pub rise : (j m : ℕ) → j ≤ m → held j ≤ held m
  pub all : held (length groups) ≡ commits
  pub flushed_some : durable first flushed ≤ length groups
  pub flushed_acked : acked ≤ held (durable first flushed)
  pub reads : (m : ℕ) → durable first flushed ≤ m → m ≤ length groups → Reads (logical base groups m) (after (held m))

-- What is found of the pages, brought on by the groups that the log holds, reads as the database after some commits, with
-- all that were acknowledged among them.
pub record HoldsCommits {D : Type 0} (Reads : (ℕ → List ℕ) → D → Type 0) (after : ℕ → D) (commits acked run first : ℕ) (image : Image)
    (found : ℕ → Option (List ℕ)) : Type 0 where
  pub scanned : List Group
  pub scan : IsScan run first image.log scanned
  pub n : ℕ
  pub some : n ≤ commits
  pub all_acked : acked ≤ n
  pub reads : Reads (λ page. page_after page scanned (or_zeros (found page))) (after n)

-- What a world over pages has to show of each of its steps, and nothing about single groups: while it is held after these
-- commits, the pages that show it read as the database after them all.
abbrev pub HeldPagesRead : {D W : Type 0} → ((ℕ → List ℕ) → D → Type 0) → (W → (ℕ → D) → ℕ → Type 0) → (W → (ℕ → List ℕ) → Type 0) → Type 0
HeldPagesRead {D} {W} Reads IsHeld Shows =
    (world : W) (after : ℕ → D) (commits : ℕ) (pages : ℕ → List ℕ) → IsHeld world after commits → Shows world pages → Reads pages (after commits)
