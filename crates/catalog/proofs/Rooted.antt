-- A page is taken, made zeros and written as an empty leaf; and then another one.
use Rattle.std.proofs.Common.{◌≡◌, ◌≢◌, ℕ, ◌+◌, ◌*◌, ◌^◌, ◌<◌, ◌≤◌, inl, inr, List, [], ◌∷◌, ◌++◌, replicate, true, refl, sym, ap, subst, arith, length-append}
use Rattle.std.specs.Prelude.{IsTrue}
use Rattle.inno_types.specs.declared.value.Schema.{Schema}
use Rattle.mtr.specs.Seen.{MtrState, is_in, claim, capacity_of, IsWithin, with_bytes}
use Rattle.mtr.specs.Calls.{Makes, Puts}
use Rattle.mtr.proofs.Consulting.{goes_then, put_goes, consults_none, claim_left}
use Rattle.space_map.specs.Map.{mark_of, IsFree}
use Rattle.space_map.specs.Taking.{map_pages, HasPageCount}
use Rattle.space_map.specs.Taking as taking
use Rattle.space_map.proofs.Places.{distinct_map_pages}
use Rattle.catalog.specs.Creating.{leaf_head, IsEmptyLeaf, record_len, Reserves, MakesRoot, MakesRoots, Attempts}
use Rattle.catalog.proofs.Claims.{claim_one_more}
use Rattle.catalog.proofs.Entered.{leaves_kept, leaves_then}
use Rattle.catalog.proofs.Leaves.{leaf_on_zeros}
use Rattle.catalog.proofs.Reasons.{attempts_taken}
use Rattle.catalog.proofs.Reserving.{in_head, in_either, same_if_in, out_if_apart, out_of_map, reserves_none, reserves_then, reserves_taken, reserves_put}

-- ---- one root

module _ (root : ℕ) (old first : MtrState) (takes : taking.Takes root old first) (counts : IsTrue first.told → HasPageCount old.seen) where
  pub taken : Reserves (root ∷ []) [] old first
  taken = reserves_taken root old first takes counts

  pub claim_first : claim map_pages first.visited ≡ claim map_pages old.visited
  claim_first = claim_left map_pages old first distinct_map_pages takes.marks.visits

  pub attempts_first : Attempts 1 old first
  attempts_first = attempts_taken (root ∷ []) old first 1 taken (omega arith)

  module _ (above : 21 ≤ root) (second : MtrState) (makes : Makes root first second) where
    pub cleared : Reserves (root ∷ []) [] old second
    cleared = record {
      goes = goes_then old first second taken.goes makes.goes;
      pages = λ told.
          let told_first = makes.goes.told told in
          let few : capacity_of old ≤ 65536 = omega (arith, (counts told_first).1) in
          reserves_put (root ∷ []) root (replicate 4096 0) old first second few above (in_head root []) (taken.pages told_first) (makes.pages told);
    }

    pub within_second : IsWithin root second
    within_second = λ told.
        let told_first = makes.goes.told told in
        omega (arith, (takes.was_free told_first).within, (cleared.pages told).counted)

    pub attempts_second : Attempts 1 old second
    attempts_second = attempts_taken (root ∷ []) old second 1 cleared (omega arith)

    module _ (index width : ℕ) (small : index < 2 ^ 32) (narrow : width < 2 ^ 16) (some : 0 < width) (new : MtrState) (puts : Puts root 20 (leaf_head index width) second new) where
      written : Reserves (root ∷ []) [] old new
      written = record {
        goes = goes_then old second new cleared.goes (put_goes root 20 (leaf_head index width) second new (λ first. omega (arith, first)) puts);
        pages = λ told.
            let told_second = puts.keeps.told told in
            let few : capacity_of old ≤ 65536 = omega (arith, (counts (makes.goes.told told_second)).1) in
            reserves_put (root ∷ []) root (with_bytes 20 (leaf_head index width) (second.seen root)) old second new few above (in_head root []) (cleared.pages told_second) (puts.pages told);
      }

      pub makes_root : MakesRoot index width root old new
      makes_root = record {
        reserves = written;
        counts = λ told. counts (makes.goes.told (puts.keeps.told told));
        above = above;
        leaf = λ told. subst (IsEmptyLeaf index width) (sym (puts.pages told).here) (leaf_on_zeros index width (second.seen root) (makes.pages (puts.keeps.told told)).here small narrow some);
        deals = omega (arith, claim_first, claim_one_more map_pages root first.visited, ap (claim map_pages) makes.visited_is, ap (claim map_pages) puts.visited_is);
      }

-- ---- several

pub makes_none : (s : Schema) (table : ℕ) (state : MtrState) → MakesRoots s table 0 [] state state
makes_none s table state = record {
  count_is = refl;
  reserves = reserves_none [] state state (consults_none [] state);
  counts = λ some. absurd (omega arith);
  above = λ page h. absurd (cc);
  leaves = λ told. tt;
  deals = omega arith;
}

module _ (s : Schema) (table n index width root : ℕ) (roots : List ℕ) (old mid new : MtrState) (made : MakesRoots s table n roots old mid) (one : MakesRoot index width root mid new) where
  abbrev told_mid : IsTrue new.told → IsTrue mid.told
  told_mid = one.reserves.goes.told

  kept : IsTrue new.told → (page : ℕ) → is_in page roots ≡ true → new.seen page ≡ mid.seen page
  kept told page h =
      let before = made.reserves.pages (told_mid told) in
      let here = one.reserves.pages told in
      let apart : page ≢ root = λ same. omega (arith, before.used page h, (here.were_free root (in_head root [])).unmarked, ap (mark_of mid.seen) same) in
      here.elsewhere page (out_if_apart page root apart) refl (out_of_map page (omega (arith, made.above page h)))

  pub makes_more : index ≡ 8 * table + n → width ≡ record_len s n → MakesRoots s table (n + 1) (roots ++ root ∷ []) old new
  makes_more number len = record {
    count_is = omega (arith, length-append roots (root ∷ []), made.count_is);
    reserves = reserves_then roots (root ∷ []) [] [] old mid new made.reserves one.reserves;
    counts = λ some told.
        let counts = one.counts told in
        let same = (made.reserves.pages (told_mid told)).counted in
        (omega (arith, counts.0, same), omega (arith, counts.1, same));
    above = λ page h. elim (in_either page roots (root ∷ []) h) [
      | inl before ↦ made.above page before
      | inr here ↦ omega (arith, same_if_in page root here, one.above)
    ];
    leaves = λ told.
        let leaf = subst (λ (w : ℕ). IsEmptyLeaf (8 * table + n) w (new.seen root)) len (subst (λ (i : ℕ). IsEmptyLeaf i width (new.seen root)) number (one.leaf told)) in
        leaves_then s table 0 roots root new.seen n (omega (arith, made.count_is)) (leaves_kept s table 0 roots mid.seen new.seen (kept told) (made.leaves (told_mid told))) leaf;
    deals = omega (arith, made.deals, one.deals);
  }
