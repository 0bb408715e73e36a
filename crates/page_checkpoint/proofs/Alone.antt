-- Page 0 alone in a batch.
use Rattle.std.proofs.Common.{◌≡◌, ℕ, ◌+◌, List, [], ◌++◌, length, Result, Ok, Err, OnOk, ◌∙◌, ap, arith}
use Rattle.std.proofs.lemmas.List.{take_all}
use Rattle.store_api.specs.Areas.{State}
use Rattle.doublewrite.specs.Batches.{BatchView, page_at}
use Rattle.doublewrite.specs.Kept.{HasPlaced}
use Rattle.page_checkpoint.specs.Beginning.{alone}

pub page_alone : (header : List ℕ) → length header ≡ 4096 → page_at (alone header) 0 ≡ header
page_alone header size = take_all 4096 header (omega (arith, size))

-- nothing was placed yet
pub none_placed : (batch : BatchView) (s : State) → batch.count ≡ 1 → HasPlaced (record { batch = batch; placed = 0 }) s
none_placed batch s one = record { each = λ k below. absurd (omega (arith, below)); synced = λ all. absurd (omega (arith, all, one)) }

-- the page was added to an empty batch
pub grown : (old new : BatchView) (header : List ℕ) → old ≡ record { count = 0; bytes = [] }
    → new ≡ record { count = old.count + 1; bytes = old.bytes ++ header } → new ≡ alone header
grown old new header none is = is ∙ ap (λ (b : BatchView). record { count = b.count + 1; bytes = b.bytes ++ header }) none

-- whatever was answered
pub on_any : {X E : Type 0} (P : Type 0) (r : Result X E) → P → OnOk r P
on_any P (Ok x) p = p
on_any P (Err e) p = tt

pub on_ok_along : {X E : Type 0} (r : Result X E) (P Q : Type 0) → OnOk r P → (P → Q) → OnOk r Q
on_ok_along (Ok x) P Q p gives = gives p
on_ok_along (Err e) P Q p gives = tt
