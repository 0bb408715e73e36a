-- A page that a commit has left is the next one that its groups make.
use Rattle.std.proofs.Common.{◌≡◌, inl, inr, ℕ, ◌+◌, ◌<◌, Bool, true, false, cond, List, [], ◌∷◌, ◌++◌, length, take, drop, refl, sym, ap, subst, ◌∙◌, arith}
use Rattle.std.proofs.Common.{length-append, length-drop, take-append-drop}
use Rattle.std.specs.Prelude.{◌==◌, ◌&&◌, ◌||◌, IsTrue, nat_lt, fold}
use Rattle.std.specs.List.{list_any}
use Rattle.std.specs.Int.{w32, w64, to_be_bytes}
use Rattle.std.proofs.lemmas.Bool.Decides.{nat_tests}
use Rattle.std.proofs.lemmas.List.{take_all, drop-drop, length-take-le}
use Rattle.std.proofs.lemmas.Nat.{be_bytes_4, be_bytes_8}
use Rattle.schema_codec.specs.Numbers.{u32_bytes, u64_bytes}
use Rattle.stored_pages.specs.Words.{u32_at, u64_at, number_of, lsn_of}
use Rattle.log_format.specs.declared.group.Group.{Group}
use Rattle.log_format.specs.declared.group.Record.{Record}
use Rattle.log_format.specs.declared.group.Record.TheVariants.{Put, Fresh, RowPut, RowRemove, NewTable}
use Rattle.log_format.specs.Group.{AreGroups}
use Rattle.log_format.proofs.Groups.{AreGroups-take, AreGroups-drop}
use Rattle.mtr.specs.Seen.{with_bytes}
use Rattle.mini_txn.specs.Edits.{blank, edited_by, edited}
use Rattle.mini_txn.specs.View.{body_of, stamped}
use Rattle.mini_txn.proofs.Bodies.{length-body, drop-body, length-stamped}
use Rattle.law_logged_pages.specs.Applied.{is_of, names, with_group, page_after, logical}
use Rattle.law_logged_pages.specs.Stages.{AreBytes, SameButSum, IsBase, begins_fresh}
use Rattle.law_logged_pages.specs.Committing.{IsCommitted, MayBe}
use Rattle.law_logged_pages.proofs.Edits.{bytes_within, drop_past, same-edited, length-edited, front-stamped}
use Rattle.law_logged_pages.proofs.Groups.{after-append, length-after, lsn_of_all}

-- ---- a group that makes the page

-- what stood there doesn't matter
edited-fresh : (page : ℕ) (rs : List Record) (a b : List ℕ) → IsTrue (begins_fresh page rs) → list_any (is_of page) rs ≡ true
    → edited page rs a ≡ edited page rs b
edited-fresh page [] a b fresh named = absurd cc
edited-fresh page (Put other at piece ∷ rs) a b fresh named = go (other == page) fresh named (edited-fresh page rs a b) where
  go : (t : Bool) → IsTrue (cond t false (begins_fresh page rs)) → (t || list_any (is_of page) rs) ≡ true
      → (IsTrue (begins_fresh page rs) → list_any (is_of page) rs ≡ true → edited page rs a ≡ edited page rs b)
      → fold (edited_by page) (cond t (with_bytes at piece a) a) rs ≡ fold (edited_by page) (cond t (with_bytes at piece b) b) rs
  go true is name rest = absurd cc
  go false is name rest = rest is name
edited-fresh page (Fresh other ∷ rs) a b fresh named = go (other == page) fresh named (edited-fresh page rs a b) where
  go : (t : Bool) → IsTrue (cond t true (begins_fresh page rs)) → (t || list_any (is_of page) rs) ≡ true
      → (IsTrue (begins_fresh page rs) → list_any (is_of page) rs ≡ true → edited page rs a ≡ edited page rs b)
      → fold (edited_by page) (cond t blank a) rs ≡ fold (edited_by page) (cond t blank b) rs
  go true is name rest = refl
  go false is name rest = rest is name
edited-fresh page (RowPut table row ∷ rs) a b fresh named = edited-fresh page rs a b fresh named
edited-fresh page (RowRemove table key ∷ rs) a b fresh named = edited-fresh page rs a b fresh named
edited-fresh page (NewTable schema ∷ rs) a b fresh named = edited-fresh page rs a b fresh named

-- ---- number and LSN in a page's bytes

spelled : (page lsn : ℕ) (new : List ℕ) → length new ≡ 4096 → AreBytes 20 new → number_of new ≡ page → lsn_of new ≡ lsn
    → drop 8 new ≡ u32_bytes page ++ (u64_bytes lsn ++ drop 20 new)
unfolding u32_at u64_at u32_bytes u64_bytes
spelled page lsn new size fits number is_lsn =
    let four : take 4 (drop 8 new) ≡ to_be_bytes w32 page =
    sym (be_bytes_4 (take 4 (drop 8 new)) page (length-take-le 4 (drop 8 new) (omega (arith, length-drop 8 new, size)))
    (bytes_within 8 4 new (λ i below. fits i (omega (arith, below)))) (sym number)) in
    let eight : take 8 (drop 12 new) ≡ to_be_bytes w64 lsn =
    sym (be_bytes_8 (take 8 (drop 12 new)) lsn (length-take-le 8 (drop 12 new) (omega (arith, length-drop 12 new, size)))
    (bytes_within 12 8 new fits) (sym is_lsn)) in
    let rest : drop 12 new ≡ to_be_bytes w64 lsn ++ drop 20 new =
    sym (take-append-drop 8 (drop 12 new)) ∙ ap (λ (l : List ℕ). l ++ drop 8 (drop 12 new)) eight ∙ ap (λ (l : List ℕ). to_be_bytes w64 lsn ++ l)
    (drop-drop 8 12 new) in
    sym (take-append-drop 4 (drop 8 new)) ∙ ap (λ (l : List ℕ). l ++ drop 4 (drop 8 new)) four
    ∙ ap (λ (l : List ℕ). to_be_bytes w32 page ++ l) (drop-drop 4 8 new ∙ rest)

-- ---- the next page

module _ (first page : ℕ) (groups : List Group) (g : Group) (base : ℕ → List ℕ) (are : AreGroups first (groups ++ g ∷ [])) (is : IsBase first (base page)) where
  before : List ℕ
  before = page_after page groups (base page)

  front_are : AreGroups first groups
  front_are = subst (AreGroups first) (take_front groups) (AreGroups-take (length groups) first (groups ++ g ∷ []) are) where
    take_front : (gs : List Group) → take (length gs) (gs ++ g ∷ []) ≡ gs
    take_front [] = refl
    take_front (h ∷ gs) = ap (λ (l : List Group). h ∷ l) (take_front gs)

  last_is : AreGroups (first + length groups) (g ∷ [])
  last_is = AreGroups-drop first groups (g ∷ []) are

  -- the next page is the group's work on the last one
  next_page : logical base (groups ++ g ∷ []) (length groups + 1) page ≡ with_group page g before
  unfolding before
  next_page =
      ap (λ (l : List Group). page_after page l (base page)) (take_all (length groups + 1) (groups ++ g ∷ []) (omega (arith, length-append groups (g ∷ []))))
      ∙ after-append page groups (g ∷ []) (base page)

  last_page : logical base groups (length groups) page ≡ before
  unfolding before
  last_page = ap (λ (l : List Group). page_after page l (base page)) (take_all (length groups) groups (omega arith))

  length-before : length before ≡ 4096
  unfolding before
  length-before = length-after page first groups (base page) front_are is.size

  lsn-before : lsn_of before < g.lsn
  unfolding before
  lsn-before = let below = lsn_of_all page first groups (base page) front_are is.size is.before in omega (arith, below, last_is.0)

  applies : names page g ≡ true → with_group page g before ≡ stamped page g.lsn (edited page g.records before)
  unfolding with_group
  applies named =
      let lsn = lsn-before in
      let test : nat_lt (lsn_of before) g.lsn ≡ true = grind (arith, nat_tests) in
      ap (λ (b : Bool). cond (b && nat_lt (lsn_of before) g.lsn) (stamped page g.lsn (edited page g.records before)) before) named
      ∙ ap (λ (b : Bool). cond b (stamped page g.lsn (edited page g.records before)) before) test

  pub makes_next : (old new : List ℕ) → length old ≡ 4096 → MayBe page g (logical base groups (length groups) page) old → names page g ≡ true
      → IsCommitted page g old new
      → SameButSum new (logical base (groups ++ g ∷ []) (length groups + 1) page)
  makes_next old new size may named made =
      let edits : List ℕ = edited page g.records before in
      let long : length edits ≡ 4096 = length-edited page g.records before last_is.1.each length-before in
      let whole : logical base (groups ++ g ∷ []) (length groups + 1) page ≡ stamped page g.lsn edits = next_page ∙ applies named in
      let behind : drop 20 (edited page g.records (body_of old)) ≡ drop 20 edits = edits_alike may in
      let front : drop 8 new ≡ drop 8 (stamped page g.lsn edits) =
      spelled page g.lsn new made.size made.bytes made.number made.lsn
      ∙ ap (λ (l : List ℕ). u32_bytes page ++ (u64_bytes g.lsn ++ l)) (made.behind ∙ behind)
      ∙ sym (front-stamped page g.lsn edits long) in
      record {
        size = made.size ∙ sym (ap (λ (l : List ℕ). length l) whole ∙ length-stamped page g.lsn edits long);
        same = front ∙ sym (ap (drop 8) whole);
      } where
        edits_alike : MayBe page g (logical base groups (length groups) page) old
            → drop 20 (edited page g.records (body_of old)) ≡ drop 20 (edited page g.records before)
        edits_alike (inl same) =
            let alike : drop 20 (body_of old) ≡ drop 20 before =
            drop-body old ∙ drop_past 8 20 old (logical base groups (length groups) page) (omega arith) same.same ∙ ap (drop 20) last_page in
            same-edited 20 page g.records (body_of old) before (omega arith) last_is.1.each (length-body old size) length-before alike
        edits_alike (inr fresh) = ap (drop 20) (edited-fresh page g.records (body_of old) before fresh named)

  pub leaves_page : names page g ≡ false → logical base (groups ++ g ∷ []) (length groups + 1) page ≡ logical base groups (length groups) page
  unfolding with_group
  leaves_page silent =
      next_page
      ∙ ap (λ (b : Bool). cond (b && nat_lt (lsn_of before) g.lsn) (stamped page g.lsn (edited page g.records before)) before) silent
      ∙ sym last_page
