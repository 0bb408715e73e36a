-- Page 0 as it says the next run.
use Rattle.std.specs.Prelude.{◌≡◌, ℕ, List, take, drop}
use Rattle.stored_pages.specs.declared.layout.TheConstants.{RUN, FIRST_LSN}
use Rattle.stored_pages.specs.Words.{u64_at, number_of, lsn_of}

-- It has this LSN, and says this run and this first LSN. But for them and the sum it is as before.
pub record IsNextHeader (lsn run first : ℕ) (old new : List ℕ) : Type 0 where
  pub number : number_of new ≡ 0
  pub lsn_is : lsn_of new ≡ lsn
  pub of_run : u64_at RUN new ≡ run
  pub begins : u64_at FIRST_LSN new ≡ first
  pub middle : take 28 (drop 20 new) ≡ take 28 (drop 20 old)
  pub behind : drop 64 new ≡ drop 64 old
