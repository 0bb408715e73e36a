-- A run that has begun, while zeros are written over its log.
use Rattle.std.proofs.Common.{◌≡◌, ◌⊎◌, inl, inr, ⊎_elim, ℕ, ◌+◌, ◌-◌, ◌*◌, ◌≤◌, Bool, true, false, Option, Some, None, List, [], ◌++◌}
use Rattle.std.proofs.Common.{length, take, drop, replicate, refl, sym, ap, subst, ◌∙◌, arith, length-append, length-take, length-drop}
use Rattle.std.specs.Prelude.{All, Contains}
use Rattle.std.proofs.lemmas.List.{append-nil, drop_all, drop-replicate, take-replicate}
use Rattle.std.proofs.lemmas.List.Elements.{All-nil, All-push, All-contains}
use Rattle.store_api.specs.declared.disk.Area.TheVariants.{Log, Double, Pages}
use Rattle.store_api.specs.Areas.{State, Contents, Write, Puts, PassesSum, MayLeave, IsHonestArea}
use Rattle.store_api.specs.Areas.{WasWhole, Looked, Wrote, Synced, Within, piece, write_of}
use Rattle.store_api.proofs.Pieces.{length-piece}
use Rattle.log_format.specs.Group.{group_bytes}
use Rattle.log_format.specs.Block.{IsGood}
use Rattle.log_format.specs.Scan.{NoGroup}
use Rattle.log_format.proofs.Good.{IsGood-same}
use Rattle.log_format.proofs.Groups.{length-group}
use Rattle.redo_log.specs.View.{LogView}
use Rattle.redo_log.specs.Logged.{GoesOnAt, IsLogged, HoldsPrefix}
use Rattle.buffer_pool.specs.Frames.{PoolView, bytes_of}
use Rattle.page_recovery.specs.Leaving.{IsFileRun}
use Rattle.redo_log.proofs.GoesOn.{zeros_fail}
use Rattle.stored_pages.specs.Reading.{place_of}
use Rattle.doublewrite.specs.Kept.{HadCopy, IsSettled, WasPage}
use Rattle.law_logged_pages.specs.Stages.{SameButSum}
use Rattle.law_logged_pages.specs.Keeping.{IsPlaced}
use Rattle.law_logged_pages.proofs.Placement.{placed_keep}
use Rattle.flusher.specs.Flushing.{IsHome, IsNowhere}
use Rattle.page_checkpoint.specs.Beginning.{IsUnused, IsCleared, HoldsAll, HasBegun, LeavesBegun}

abbrev IsZeros : List ℕ → Type 0
IsZeros bytes = bytes ≡ replicate (length bytes) 0

-- the write leaves no block at the log's beginning
abbrev Spares : Write → Type 0
Spares w = (512 ≤ w.at) ⊎ (w.bytes ≡ replicate (length w.bytes) 0)

-- ---- zeros

-- a part of zeros
part_of_zeros : (bytes : List ℕ) (n at : ℕ) → bytes ≡ replicate (length bytes) 0 → at + n ≤ length bytes → take n (drop at bytes) ≡ replicate n 0
part_of_zeros bytes n at are within =
    ap (λ (l : List ℕ). take n (drop at l)) are ∙ ap (take n) (drop-replicate at (length bytes) 0)
    ∙ take-replicate n (length bytes - at) 0 (omega (arith, within))

-- no block of zeros is good
no_block : (run k : ℕ) (area : List ℕ) → area ≡ replicate (length area) 0 → IsGood run k area → ⊥
no_block run k area are good =
    zeros_fail (subst PassesSum (part_of_zeros area 512 (512 * k) are (let inside = good.inside in omega (arith, inside))) good.sum)

-- ---- the log's beginning

module _ (run : ℕ) (c : Contents) (is : IsUnused run c) (area : List ℕ) (honest : IsHonestArea 512 c area) (good : IsGood run 0 area) where
  size : length (piece 512 0 area) ≡ 512
  size = length-piece 512 0 area good.inside

  stood : take (length (piece 512 0 area)) (drop (512 * 0) c.synced) ≡ piece 512 0 area → ⊥
  stood there =
      let same : piece 512 0 c.synced ≡ piece 512 0 area = (λ i. take (sym size i) (drop (512 * 0) c.synced)) ∙ there in
      let long = ap length same ∙ size in
      let inside : 512 * (0 + 1) ≤ length c.synced = omega (arith, long, length-take 512 (drop (512 * 0) c.synced), length-drop (512 * 0) c.synced) in
      is.other (IsGood-same run 0 area c.synced inside (sym same) good)

  put : (w : Write) → (512 ≤ w.at) ⊎ (w.bytes ≡ replicate (length w.bytes) 0) → Puts (512 * 0) (piece 512 0 area) w → ⊥
  put w (inl late) puts = absurd (omega (arith, late, puts.begins))
  put w (inr zeros) puts =
      let part : take (length (piece 512 0 area)) (drop (512 * 0 - w.at) w.bytes) ≡ replicate (length (piece 512 0 area)) 0 =
      part_of_zeros w.bytes (length (piece 512 0 area)) (512 * 0 - w.at) zeros (omega (arith, puts.begins, puts.ends)) in
      let all : piece 512 0 area ≡ replicate 512 0 = sym puts.same ∙ part ∙ ap (λ (n : ℕ). replicate n 0) size in
      zeros_fail (subst PassesSum all good.sum)

  pub not_left : ⊥
  not_left =
      ⊎_elim stood
      (λ (w : (w : Write) × Contains c.writes w × Puts (512 * 0) (piece 512 0 area) w).
      put w.0 (All-contains Spares c.writes w.0 is.later w.1) w.2)
      (honest 0 good.inside good.sum)

-- ---- whatever a crash leaves

none_there : (lsn : ℕ) → NoGroup lsn []
none_there lsn g more is number begins =
    absurd (omega (arith, ap length begins, length-append (group_bytes g) more, length-group g))

module _ (capacity run last : ℕ) (base : ℕ → List ℕ) where
  abbrev Begun : State → Type 0
  Begun s = HasBegun capacity run last base s

  holds_none : (s : State) → Begun s → (image : List ℕ) → MayLeave s.log image → IsHonestArea 512 s.log image → HoldsPrefix run (last + 1) [] last image
  holds_none s is image left honest = record {
    count = 0;
    some = omega arith;
    all_flushed = omega arith;
    scan = record {
      stream = [];
      payload = record {
        blocks = 0;
        good = λ k below. absurd (omega (arith, below));
        bad = λ good. not_left run s.log is.unused image honest good;
        payload = refl;
      };
      held = record { rest = []; whole = refl; each = tt; ends = none_there (last + 1 + 0) };
    };
  }

  pub leaves : (s : State) → Begun s → LeavesBegun run last base s
  leaves s is = record {
    each = λ image left honest.
        let keeps = placed_keep (last + 1) last [] base s is.placed run (holds_none s is) in record {
          now = last;
          later = omega arith;
          log = holds_none s is image.log left.log honest.log;
          pages = λ page content below at. keeps.pages image left honest page content below at;
        };
  }

  -- ---- the pages stay as they are

  module _ (b s : State) (pages : s.pages ≡ b.pages) (double : s.double ≡ b.double) where
    was : (page : ℕ) (content : Option (List ℕ)) → WasPage s page content → WasPage b page content
    was page (Some bytes) at = (at.0, subst (λ (c : Contents). WasWhole c (4096 * page) bytes) pages at.1)
    was page None at = λ settled. at (subst (IsSettled page) (sym pages) settled)

    home : (page : ℕ) (bytes : List ℕ) → IsHome page bytes b → IsHome page bytes s
    home page bytes is = record {
      settled = subst (IsSettled page) (sym pages) is.settled;
      same = subst (λ (c : Contents). SameButSum (place_of page c.synced) bytes) (sym pages) is.same;
    }

    nowhere : (page : ℕ) (bytes : List ℕ) → IsNowhere page bytes b → IsNowhere page bytes s
    nowhere page bytes is = record { zeros = is.zeros; no_page = λ other at. is.no_page other (was page (Some other) at) }

    pub stays_begun : IsUnused run s.log → Begun b → Begun s
    stays_begun unused is = record {
      file = is.file;
      placed = record {
        stages = λ page content below at. is.placed.stages page content below (was page content at);
        settled = λ page below.
            ⊎_elim (λ (there : IsSettled page b.pages). inl (subst (IsSettled page) (sym pages) there))
            (λ (none : (bytes : List ℕ) → HadCopy page b.double bytes → ⊥).
            inr (λ bytes had. none bytes (subst (λ (c : Contents). HadCopy page c bytes) double had)))
            (is.placed.settled page below);
        copies = λ page bytes below had. is.placed.copies page bytes below (subst (λ (c : Contents). HadCopy page c bytes) double had);
      };
      each = λ page below.
          ⊎_elim (λ (there : IsHome page (base page) b). inl (home page (base page) there))
          (λ (none : IsNowhere page (base page) b). inr (nowhere page (base page) none)) (is.each page below);
      unused = unused;
    }

  -- ---- the calls

  pub looked : (ok : Bool) (b s : State) → Begun b → Within Log (Looked ok) b s → Begun s
  looked ok b s is within =
      stays_begun b s (within.elsewhere Pages (λ same. cc)) (within.elsewhere Double (λ same. cc))
      (record {
        other = subst (λ (l : List ℕ). IsGood run 0 l → ⊥) (sym within.here.synced) is.unused.other;
        later = subst (All Spares) (sym within.here.writes) is.unused.later;
      })
      is

  module _ (zeros : List ℕ) (are : zeros ≡ replicate (length zeros) 0) where
    write_bytes : (seen : List ℕ) → (write_of seen 0 zeros).bytes ≡ zeros
    write_bytes seen = let none : 0 - length seen ≡ 0 = omega arith in ap (λ (n : ℕ). replicate n 0 ++ zeros) none

    -- before the write
    pub record Ready (s : State) : Type 0 where
      pub begun : Begun s
      pub long : length s.log.seen ≡ length zeros

    -- after it
    pub record Written (ok : Bool) (s : State) : Type 0 where
      pub begun : Begun s
      pub seen : ok ≡ true → s.log.seen ≡ zeros

    pub wrote : (ok : Bool) (b s : State) → Ready b → Within Log (Wrote 0 zeros ok) b s → Written ok s
    wrote ok b s is within = record {
      begun =
          stays_begun b s (within.elsewhere Pages (λ same. cc)) (within.elsewhere Double (λ same. cc))
          (record {
            other = subst (λ (l : List ℕ). IsGood run 0 l → ⊥) (sym within.here.synced) is.begun.unused.other;
            later =
                subst (All Spares) (sym within.here.writes)
                (All-push Spares b.log.writes (write_of b.log.seen 0 zeros) is.begun.unused.later (inr (subst IsZeros (sym (write_bytes b.log.seen)) are)));
          })
          is.begun;
      seen = λ done.
          let w = write_of b.log.seen 0 zeros in
          let at : w.at ≡ 0 = omega arith in
          let past : length b.log.seen ≤ w.at + length w.bytes = omega (arith, at, ap length (write_bytes b.log.seen), is.long) in
          within.here.seen done
          ∙ ap (λ (l : List ℕ). take w.at b.log.seen ++ w.bytes ++ l) (drop_all (w.at + length w.bytes) b.log.seen past)
          ∙ append-nil (take w.at b.log.seen ++ w.bytes)
          ∙ (λ i. take (at i) b.log.seen ++ write_bytes b.log.seen i);
    }

    pub synced : (b s : State) → Written true b → Within Log (Synced true) b s → Begun s × IsCleared s.log
    synced b s is within =
        let done = within.here.done refl in
        let now : s.log.synced ≡ zeros = ap (λ (c : Contents). c.synced) done ∙ is.seen refl in
        let none : s.log.writes ≡ [] = ap (λ (c : Contents). c.writes) done in
        let all : s.log.synced ≡ replicate (length s.log.synced) 0 = now ∙ (are ∙ ap (λ (l : List ℕ). replicate (length l) 0) (sym now)) in (
          stays_begun b s (within.elsewhere Pages (λ same. cc)) (within.elsewhere Double (λ same. cc))
              (record {
                other = no_block run 0 s.log.synced all;
                later =
                    subst (All Spares) (sym none)
                    (All-nil Spares);
              })
              is.begun,
          record { rests = none; zeros = all },
        )

    pub failed : (ok : Bool) (b s : State) → Written ok b → Within Log (Synced false) b s → Begun s
    failed ok b s is within =
        let here = within.here.failed refl in
        stays_begun b s (within.elsewhere Pages (λ same. cc)) (within.elsewhere Double (λ same. cc))
        (record {
          other = subst (λ (l : List ℕ). IsGood run 0 l → ⊥) (sym here.0) is.begun.unused.other;
          later = subst (All Spares) (sym here.1) is.begun.unused.later;
        })
        is.begun

  -- a new log begins there
  pub begins_there : (s : State) → Begun s → IsCleared s.log → GoesOnAt run (last + 1) 0 [] s.log
  begins_there s is cleared = record {
    rests = cleared.rests;
    each = tt;
    good = λ k below. absurd (omega (arith, below));
    bad = λ k from good. no_block run k s.log.synced cleared.zeros good;
    stored = refl;
  }

  -- the disk holds all of the run with that log
  pub all_held : (first : ℕ) (pool : PoolView) (log : LogView) (s : State) → last + 1 ≡ first → log.run ≡ run → log.flushed + 1 ≡ first
      → SameButSum (bytes_of pool 0) (base 0) → Begun s → IsLogged first [] log s.log → HoldsAll capacity first [] base pool log s
  all_held first pool log s first_is run_is flushed same is logged =
      let last_is : last ≡ log.flushed = omega (arith, first_is, flushed) in
      let file : IsFileRun capacity log.run first [] base =
      subst (λ (n : ℕ). IsFileRun capacity n first [] base) (sym run_is) (subst (λ (n : ℕ). IsFileRun capacity run n [] base) first_is is.file) in
      record {
        file = file;
        held = record {
          run = file.is;
          logged = logged;
          pages =
              subst (λ (n : ℕ). IsPlaced first n [] base s) last_is (subst (λ (n : ℕ). IsPlaced n last [] base s) first_is is.placed);
        };
        each = λ page below clean. is.each page below;
        header = same;
      }
