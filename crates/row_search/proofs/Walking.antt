-- How the steps end that walk the searched index.
use Rattle.std.proofs.Common.{◌≡◌, ◌≢◌, ◌∙◌, sym, ap, subst, refl, ℕ, ◌==◌, ◌<◌, ◌≤◌, Bool, true, false, ◌&&◌, not, List, [], ◌∷◌, length, Option, None, Some}
use Rattle.std.proofs.Common.{inl, inr, arith}
use Rattle.std.specs.{Prelude.IfSome, Prelude.is_some, Prelude.MatchOption, Prelude.find, Ordering.is_le, Ordering.is_lt}
use Rattle.std.proofs.lemmas.Bool.{both_ways, cond_both, eqb-true, eq-eqb}
use Rattle.inno_types.specs.{declared.value.Value.Value, declared.value.Schema.Schema, Order.IsBelow}
use Rattle.entries.specs.{Pairs.Pair, Pairs.AreRising, Pairs.key_cmp, Pairs.value_of, Pairs.IsFirstOf, Pairs.NonePasses, Index.Told, Calls.HasKey as IsAtKey}
use Rattle.entries.specs.{Calls.Seeks, Calls.Follows, Calls.next_of}
use Rattle.entries.proofs.{Found.first_is, Order.key_cmp_total}
use Rattle.store_api.specs.{declared.moves.Move.Move, declared.moves.Move.TheVariants.At, declared.moves.Move.TheVariants.End}
use Rattle.row_versions.specs.{declared.kept.Kept.Kept, declared.version.Version.Version}
use Rattle.law_stored_rows.specs.Records.{IsRecordWith}
use Rattle.sql_plan.specs.Visits.{index_key}
use Rattle.world.specs.{State.WorldState, Indexes.Calls, Undoing.IsUnchanged}
use Rattle.inno_db.specs.Indexes.{index_of}
use Rattle.row_search.specs.{declared.side.Side.Side, declared.side.Side.TheVariants.Before, declared.side.Side.TheVariants.Within}
use Rattle.row_search.specs.{declared.side.Side.TheVariants.Behind, declared.scan.Scan.Scan, declared.phase.Phase.Phase, Sights.rows_seen, FoundRows.AreFound}
use Rattle.row_search.specs.{Tables.ShowsTable, Tables.HoldsTable, Tables.ShowsRows, Tables.most_versions, Visits.phase_at, Visits.IsGivenPhase}
use Rattle.row_search.specs.{Ranges.IsOnSide, Ranges.bound_bytes, Ranges.primary_part, Ranges.lies_in, Ranges.lies_up_to, Ranges.lies_below}
use Rattle.row_search.specs.{declared.phase.Phase.TheVariants.Seek, declared.phase.Phase.TheVariants.Follow, declared.phase.Phase.TheVariants.Fetch}
use Rattle.row_search.specs.{declared.phase.Phase.TheVariants.Look, declared.phase.Phase.TheVariants.Sort, Searches.place_in, Searches.PhaseHolds}
use Rattle.row_search.specs.{Searches.IsSearching, Searches.IsComing, Searches.HasToGo, Searches.pairs_behind, Steps.OnlyMoves, Steps.Waits}
use Rattle.row_search.proofs.{KeyOrder.le_is, KeyOrder.not_lt, KeyOrder.le_lt, KeyOrder.begins_before, KeyOrder.fewer_behind_first}
use Rattle.row_search.proofs.{KeyOrder.fewer_behind_next, Rows.found_same, Goes.call_moves, Goes.call_unchanged, Goes.seek_put_off, Goes.index, Goes.at_old}
use Rattle.row_search.proofs.{Goes.Goes, Goes.FindsAt, Goes.goes_to, Goes.goes, Goes.waits, Goes.record_found, Goes.record_kept, Keys.whole_key, Coming.never}
use Rattle.row_search.proofs.{Coming.lies_before, Coming.bounds_of, Coming.comes_next, Coming.none_next, Coming.comes_behind, Coming.comes_before}

some_of : (o : Option Pair) → is_some o ≡ true → (pair : Pair) × (o ≡ Some pair)
some_of None h = cc
some_of (Some pair) h = (pair, refl)

module _ {actor : ℕ} {schema : Schema} {old : WorldState} {scan : Scan} {phase : Phase}
    (is : IsSearching actor schema old (record { scan = scan; phase = phase })) where
  -- The search has found the rows whose keys don't pass, and goes on to the first pair whose key passes.
  pub record GoesTo (passes : List ℕ → Bool) : Type 0 where
    pub came : (versions_at : Value → List Version) → FindsAt is (at_old is) scan.rows phase versions_at
        → (scan.range.empty ≡ false) × AreFound schema scan.which (rows_seen scan.sight versions_at) (lies_before schema scan passes) scan.rows.items
    pub below : (key : List ℕ) (row : List Value) → passes key ≡ true → lies_in schema scan row ≡ true → passes (index_key schema scan.which row) ≡ false
        → is_lt (key_cmp (index_key schema scan.which row) key) ≡ true
    pub left : (pairs : List Pair) (n : List ℕ) → HasToGo schema old.versions.kept_at (at_old is) pairs phase n
        → (k : ℕ) × (n ≡ 1 ∷ k ∷ 0 ∷ 0 ∷ []) × ((pair : Pair) → IsFirstOf passes pairs pair → pairs_behind (Some pair) pairs < k)

  module _ {passes : List ℕ → Bool} (to : GoesTo passes) where
    abbrev Finds : Option Pair → Type 0
    Finds found = Told (λ pairs. find (λ (pair : Pair). passes pair.0) pairs ≡ found) (old.indexes (index is))

    first : (found : Option Pair) → Finds found → (pairs : List Pair) → AreRising pairs → (old.indexes (index is)).pairs ≡ Some pairs
        → MatchOption found (NonePasses passes pairs) (IsFirstOf passes pairs)
    first found told pairs rising are =
        subst (λ (o : Option Pair). MatchOption o (NonePasses passes pairs) (IsFirstOf passes pairs))
        (subst (λ (o : Option (List Pair)). IfSome o (λ ps. find (λ (pair : Pair). passes pair.0) ps ≡ found)) are told) (first_is passes pairs rising)

    -- no pair is left
    pub none_left : {new : WorldState} → IsUnchanged old new → Finds None → Goes is new scan.rows Sort
    none_left unchanged told =
        goes is unchanged scan.rows Sort tt
        (λ versions_at shows was. none_next schema scan (rows_seen scan.sight versions_at) shows.searched shows.keys passes (to.came versions_at was).1
        (first None told shows.searched shows.rising shows.searched_are))
        (λ versions_at shows n was to_go. (0 ∷ 1 ∷ 0 ∷ 0 ∷ [], refl, rw (to.left shows.searched n to_go).1 (inl (omega arith))))

    -- a pair was given
    pub pair_given : {new : WorldState} → HoldsTable schema scan.table old → (key value : List ℕ) → Finds (Some (key, value))
        → OnlyMoves actor (index is) old new → (new.indexes (index is)).place actor ≡ Some (key, value) → (next : Phase)
        → IsGivenPhase scan key value next → Goes is new scan.rows next
    pair_given {new} holds key value told moves placed next given =
        subst (λ (p : Phase). Goes is new scan.rows p) (sym given.next_is)
        (goes_to is moves (Some (key, value)) placed scan.rows (phase_at scan.which key value given.side) (holds_at given.side)
        (λ versions_at shows was.
        let came = to.came versions_at was in
        let one = first_pair shows.searched shows.rising shows.searched_are in
        finds_at versions_at shows came.0 (comes_next schema scan (rows_seen scan.sight versions_at) shows.searched shows.keys passes came.1 (key, value) one
        (λ row lies no. to.below key row one.passes lies no)) given.side given.is_on)
        (λ versions_at shows n was to_go.
        let left = to.left shows.searched n to_go in
        nears_at shows.searched n left.0 left.1 (left.2 (key, value) (first_pair shows.searched shows.rising shows.searched_are)) given.side))
      where
        first_pair : (pairs : List Pair) → AreRising pairs → (old.indexes (index is)).pairs ≡ Some pairs → IsFirstOf passes pairs (key, value)
        first_pair = first (Some (key, value)) told

        at : IsAtKey key (place_in actor scan new)
        at = subst (λ (o : Option Pair). IsAtKey key o) (sym placed) refl

        -- in the clustered index the pair is the row's record
        own : (scan.which == 0) ≡ true → (versions_at : Value → List Version) (shows : ShowsTable schema scan.table old versions_at)
            → (primary_part schema key ≡ key) × (value_of (primary_part schema key) shows.pairs ≡ Some value)
        own clustered versions_at shows =
            let there =
            (first_pair shows.pairs shows.clustered.rising
            (ap (λ w. (old.indexes (index_of scan.table w)).pairs) (eqb-true scan.which 0 clustered) ∙ shows.pairs_are)).there in
            let whole = whole_key schema shows.clustered.primary key shows.clustered.primary_is (shows.clustered.keys key (ap is_some there)) in
            (whole, ap (λ k. value_of k shows.pairs) whole ∙ there)

        holds_at : (side : Side) → PhaseHolds actor schema scan new (phase_at scan.which key value side)
        holds_at Before = ap is_some placed
        holds_at Behind = tt
        holds_at Within =
            cond_both (scan.which == 0) (Look key value) (Fetch key) (λ (p : Phase). PhaseHolds actor schema scan new p)
            (λ clustered. (
              at,
              λ t. subst (λ (kept : ℕ → Option Kept). (versions : List Version) × IsRecordWith schema (primary_part schema key) kept (Some value) versions ×
                  (length versions ≤ most_versions)) (sym (moves.versions.kept t))
                  (record_kept is (primary_part schema key) value (λ versions_at shows. (own clustered versions_at shows).1) holds
                  (moves.versions.told t)),
            )) (λ keyed. at)

        finds_at : (versions_at : Value → List Version) → ShowsRows schema scan old versions_at → scan.range.empty ≡ false
            → AreFound schema scan.which (rows_seen scan.sight versions_at) (lies_below schema scan key) scan.rows.items → (side : Side)
            → IsOnSide scan.range key side → FindsAt is (Some (key, value)) scan.rows (phase_at scan.which key value side) versions_at
        finds_at versions_at shows some below Before out =
            (some, comes_before schema scan (rows_seen scan.sight versions_at) shows.searched shows.keys key below out)
        finds_at versions_at shows some below Behind out =
            comes_behind schema scan (rows_seen scan.sight versions_at) shows.searched shows.keys key below out
        finds_at versions_at shows some below Within inside =
            cond_both (scan.which == 0) (Look key value) (Fetch key) (λ (p : Phase). FindsAt is (Some (key, value)) scan.rows p versions_at)
            (λ clustered.
            let r = record_found is (primary_part schema key) value (λ versions_at shows. (own clustered versions_at shows).1) versions_at shows.table in
            (coming (λ zero. (own clustered versions_at shows.table).0), r.0, r.1, r.2))
            (λ keyed. coming (λ zero. absurd (both_ways (scan.which == 0) keyed (eq-eqb scan.which 0 zero)))) where
              coming : (scan.which ≡ 0 → primary_part schema key ≡ key) → IsComing schema scan (rows_seen scan.sight versions_at) key
              coming whole_if = record { below = below; within = rw (some, inside.0, inside.1); whole = whole_if }

        -- fewer pairs are left
        nears_at : (pairs : List Pair) (n : List ℕ) (k : ℕ) → n ≡ 1 ∷ k ∷ 0 ∷ 0 ∷ [] → pairs_behind (Some (key, value)) pairs < k → (side : Side)
            → (m : List ℕ) × HasToGo schema old.versions.kept_at (Some (key, value)) pairs (phase_at scan.which key value side) m × IsBelow m n
        nears_at pairs n k n_is less Before = (1 ∷ pairs_behind (Some (key, value)) pairs ∷ 0 ∷ 0 ∷ [], refl, rw n_is (inr (refl, inl less)))
        nears_at pairs n k n_is less Behind = (0 ∷ 1 ∷ 0 ∷ 0 ∷ [], refl, rw n_is (inl (omega arith)))
        nears_at pairs n k n_is less Within =
            cond_both (scan.which == 0) (Look key value) (Fetch key)
            (λ (p : Phase). (m : List ℕ) × HasToGo schema old.versions.kept_at (Some (key, value)) pairs p m × IsBelow m n)
            (λ clustered. (1 ∷ pairs_behind (Some (key, value)) pairs ∷ 3 ∷ 0 ∷ [], refl, rw n_is (inr (refl, inl less))))
            (λ keyed. (1 ∷ pairs_behind (Some (key, value)) pairs ∷ 4 ∷ 0 ∷ [], refl, rw n_is (inr (refl, inl less))))

-- ---- seek

module _ {actor : ℕ} {schema : Schema} {old : WorldState} {scan : Scan} (is : IsSearching actor schema old (record { scan = scan; phase = Seek })) where
  abbrev begins : List ℕ → Bool
  begins other = is_le (key_cmp (bound_bytes scan.range.low) other)

  seeks : GoesTo is begins
  seeks =
      record {
        came = λ versions_at was. (
          was.0,
          found_same schema (rows_seen scan.sight versions_at) (λ row. false) (lies_before schema scan begins)
              (λ value row seen. sym (never (lies_in schema scan row) (not (begins (index_key schema scan.which row))) (λ lies. ap not (from row lies))))
              was.1,
        );
        below = λ key row at lies no. absurd (both_ways (begins (index_key schema scan.which row)) no (from row lies));
        left = λ pairs n to_go. (length pairs, to_go, λ pair f. fewer_behind_first pair.0 pair.1 pairs f.there);
      }
    where
      from : (row : List Value) → lies_in schema scan row ≡ true → begins (index_key schema scan.which row) ≡ true
      from row lies = begins_before scan.range.low (index_key schema scan.which row) (bounds_of schema scan row lies).0

  pub seek_at : {new : WorldState} → HoldsTable schema scan.table old → (key value : List ℕ)
      → Calls (index is) (λ before after. Seeks actor (bound_bytes scan.range.low) before after (At key value)) old new → (next : Phase)
      → IsGivenPhase scan key value next → Goes is new scan.rows next
  seek_at holds key value c next given =
      pair_given is seeks holds key value c.index_is.here.0 (call_moves c actor (key, value) c.index_is.here.1) c.index_is.here.1.place next given

  pub seek_end : {new : WorldState} → Calls (index is) (λ before after. Seeks actor (bound_bytes scan.range.low) before after End) old new
      → Goes is new scan.rows Sort
  seek_end c = none_left is seeks (call_unchanged c c.index_is.here.1) c.index_is.here.0

  pub seek_waits : {new : WorldState} (why : Move) → Calls (index is) (λ before after. Seeks actor (bound_bytes scan.range.low) before after why) old new
      → ((key value : List ℕ) → why ≢ At key value) → why ≢ End
      → Waits actor schema old new (record { scan = scan; phase = Seek }) (record { scan = scan; phase = Seek }) why
  seek_waits {new} why c not_at not_end =
      let off =
      seek_put_off actor (bound_bytes scan.range.low) (old.indexes (index is)) (new.indexes (index is)) why c.index_is.here not_at not_end in
      waits is (call_unchanged c off.0) why off.1

-- ---- follow

module _ {actor : ℕ} {schema : Schema} {old : WorldState} {scan : Scan} (is : IsSearching actor schema old (record { scan = scan; phase = Follow })) where
  abbrev last : Pair
  last = (some_of (at_old is) is.phase).0

  last_is : at_old is ≡ Some last
  last_is = (some_of (at_old is) is.phase).1

  abbrev comes_later : List ℕ → Bool
  comes_later other = is_lt (key_cmp last.0 other)

  follows : GoesTo is comes_later
  follows =
      record {
        came = λ versions_at was. (
          was.0,
          found_same schema (rows_seen scan.sight versions_at) (lies_up_to schema scan last.0) (lies_before schema scan comes_later)
              (λ value row seen. ap (λ b. lies_in schema scan row && b) (le_is key_cmp key_cmp_total last.0 (index_key schema scan.which row)))
              (subst (λ (o : Option Pair). IfSome o (λ p. AreFound schema scan.which (rows_seen scan.sight versions_at) (lies_up_to schema scan p.0)
              scan.rows.items)) last_is was.1),
        );
        below = λ key row at lies no. le_lt key_cmp key_cmp_total (index_key schema scan.which row) last.0 key
            (not_lt key_cmp key_cmp_total last.0 (index_key schema scan.which row) no) at;
        left = λ pairs n to_go. (
          pairs_behind (Some last) pairs,
          to_go ∙ ap (λ (o : Option Pair). 1 ∷ pairs_behind o pairs ∷ 0 ∷ 0 ∷ []) last_is,
          λ pair f. fewer_behind_next last pair.0 pair.1 pairs f.there f.passes,
        );
      }

  behind_last : (found : Option Pair) → Told (λ pairs. next_of (at_old is) pairs ≡ found) (old.indexes (index is))
      → Told (λ pairs. next_of (Some last) pairs ≡ found) (old.indexes (index is))
  behind_last found = subst (λ (o : Option Pair). IfSome (old.indexes (index is)).pairs (λ pairs. next_of o pairs ≡ found)) last_is

  pub follow_at : {new : WorldState} → HoldsTable schema scan.table old → (key value : List ℕ)
      → Calls (index is) (λ before after. Follows actor before after (At key value)) old new → (next : Phase) → IsGivenPhase scan key value next
      → Goes is new scan.rows next
  follow_at holds key value c next given =
      pair_given is follows holds key value (behind_last (Some (key, value)) c.index_is.here.0) (call_moves c actor (key, value) c.index_is.here.1)
      c.index_is.here.1.place next given

  pub follow_end : {new : WorldState} → Calls (index is) (λ before after. Follows actor before after End) old new → Goes is new scan.rows Sort
  follow_end c = none_left is follows (call_unchanged c c.index_is.here.1) (behind_last None c.index_is.here.0)
