-- A page with room and the next page on the way of a key, as they are read.
use Rattle.std.proofs.Common.{◌≡◌, ◌≢◌, ℕ, suc, ◌+◌, ◌*◌, ◌≤◌, List, [], ◌∷◌, length, true, get_or, sym, ◌∙◌, ap, subst, arith}
use Rattle.std.specs.Prelude.{IsTrue}
use Rattle.std.specs.List.{AllByRecursion}
use Rattle.store_api.specs.declared.visits.Visit.{Visit}
use Rattle.store_api.specs.declared.visits.Visit.TheVariants.{Bad}
use Rattle.page_format.specs.Words.{level_of, count_of, record_len_of, records_of}
use Rattle.mtr.specs.Seen.{MtrState, is_in, IsShown}
use Rattle.mtr.specs.Calls.{Consults}
use Rattle.law_flat_tree.specs.Pages.{child_of}
use Rattle.law_flat_tree.specs.Trees.{nodes}
use Rattle.law_flat_tree.proofs.Apart.{behind_of}
use Rattle.btree.specs.declared.tree.Tree.{Tree}
use Rattle.btree.specs.declared.page.Down.TheVariants.{Child}
use Rattle.btree.specs.Descents.{IsReadable, Leads}
use Rattle.btree.specs.Layout.{IsLaidOut, width_of}
use Rattle.btree.specs.Sound.{IsTreePage}
use Rattle.btree.proofs.Shown.{same_count, same_width, same_records, readable_shown, leads_shown, same_level}
use Rattle.btree.proofs.Standing.{reached_readable}
use Rattle.btree_change.specs.Edits.{HasRoom}
use Rattle.btree_split.specs.Placed.{IsParent}
use Rattle.btree_split.proofs.Placing as placing
use Rattle.btree_split.proofs.Followed.{room_shown}
use Rattle.btree_grow.specs.Cuts.{IsReady}
use Rattle.btree_grow.specs.Going.{GoesOn, IsStop}
use Rattle.btree_grow.specs.Grown.{StandsAbove}
use Rattle.btree_grow.proofs.Below.{GoesOnWith, with_next, reached, some_next, leads_on}
use Rattle.btree_grow.proofs.Going.{on_then, looked_on, looked_known_on}
use Rattle.btree_grow.proofs.TakenTree.{of_level}

laid_out_shown : (tree : Tree) (pages : ℕ → List ℕ) (page : ℕ) (bytes : List ℕ) → IsTreePage tree pages page → IsShown (pages page) bytes → IsLaidOut tree bytes
laid_out_shown tree pages page bytes is shown = record {
  width = same_width bytes (pages page) shown.same ∙ is.width ∙ ap (width_of tree) (sym (same_level bytes (pages page) shown.same));
  inside =
      subst (λ k. 208 + k * record_len_of bytes ≤ 4096) (sym (same_count bytes (pages page) shown.same))
      (subst (λ w. 208 + count_of (pages page) * w ≤ 4096) (sym (same_width bytes (pages page) shown.same)) is.fields.inside);
}

module _ (tree : Tree) (key : List ℕ) (n u : ℕ) (pages : ℕ → List ℕ) (stands : StandsAbove tree key (suc n) u pages) (above : List ℕ)
    (shown : IsShown (pages u) above) where
  parent : IsParent tree pages key u
  parent =
      let next = some_next tree key n u pages stands in
      let on = with_next tree key (suc n) u pages stands next.0 next.1 next.2 in
      record { tops = on.tops; upper = on.upper; lower = on.lower; under = on.under; at = on.at; holds = on.holds }

  parent_readable : IsReadable tree (pages u)
  parent_readable =
      reached_readable tree pages stands.placed.whole.sound key (length stands.tops) u (reached tree key (suc n) u pages stands)

  parent_inner : level_of (pages u) ≢ 0
  parent_inner none = omega (arith, none, placing.parent_level tree pages key u stands.placed parent)

  pub not_refused_parent : (IsReadable tree above → level_of above ≢ 0 → ⊥) → ⊥
  not_refused_parent refused =
      refused (readable_shown above (pages u) shown.same tree parent_readable) (λ none. parent_inner (sym (same_level above (pages u) shown.same) ∙ none))

  pub not_refused_room : (HasRoom above → ⊥) → ⊥
  not_refused_room full = full (room_shown (pages u) above (sym shown.same) stands.room)

  module _ (place child : ℕ) (leads : Leads tree key above (Child (child_of tree.key_len (get_or (records_of above) place []))))
      (child_is : child ≡ child_of tree.key_len (get_or (records_of above) place [])) where
    on : (rest : List ℕ) × (stands.way ≡ child ∷ rest)
    on =
        leads_on tree key n u pages stands child
        (leads_shown above (pages u) shown.same tree key (Child child) (subst (λ r. Leads tree key above (Child r)) (sym child_is) leads))

    below : GoesOnWith tree pages key (length stands.tops) u child on.0
    below = with_next tree key (suc n) u pages stands child on.0 on.1

    child_page : IsTreePage tree pages child
    child_page =
        of_level (IsTreePage tree pages) (nodes tree.key_len pages) below.lower key child below.child_holds
        (behind_of (AllByRecursion (IsTreePage tree pages)) below.tops (below.upper ∷ below.lower ∷ below.under)
        (subst (λ l. AllByRecursion (AllByRecursion (IsTreePage tree pages)) l) below.at stands.placed.whole.sound.each)).1.0

    child_full : HasRoom (pages child) → ⊥
    child_full = (subst (λ l. AllByRecursion (λ r. HasRoom (pages r) → ⊥) l) on.1 stands.full).0

    module _ (bytes : List ℕ) (child_shown : IsShown (pages child) bytes) where
      pub not_refused_child : (IsLaidOut tree bytes → (HasRoom bytes → ⊥) → ⊥) → ⊥
      not_refused_child refused =
          refused (laid_out_shown tree pages child bytes child_page child_shown) (λ room. child_full (room_shown bytes (pages child) child_shown.same room))

      pub ready : (middle : ℕ) → IsReady tree key n (record { parent = u; place = place; child = child; middle = middle }) above bytes pages
      ready middle = record {
        stands = stands;
        rest = on.0;
        next = on.1;
        child_is = child_is ∙ ap (λ (rs : List (List ℕ)). child_of tree.key_len (get_or rs place [])) (same_records above (pages u) shown.same);
        parent_shown = shown;
        child_shown = child_shown;
      }

-- ---- within a mini-transaction

module _ {M : Type 0} (state : M → MtrState) (tree : Tree) (key : List ℕ) (u : ℕ) (above : List ℕ) (a b : MtrState)
    (stands : IsTrue a.told → (n : ℕ) × StandsAbove tree key (suc n) u a.seen) (looked : Consults (u ∷ []) a b)
    (above_shown : IsTrue a.told → IsShown (a.seen u) above) where
  pub parent_stop : (why : Visit) → (why ≡ Bad u 1) × (IsReadable tree above → level_of above ≢ 0 → ⊥) → IsStop state a b why
  parent_stop why refused =
      subst (IsStop state a b) (sym refused.0) (λ told.
      let before = looked.goes.told told in
      let there = stands before in
      absurd (not_refused_parent tree key there.0 u a.seen there.1 above (above_shown before) refused.1))

  pub room_stop : (HasRoom above → ⊥) → IsStop state a b (Bad u 1)
  room_stop full told =
      let before = looked.goes.told told in
      let there = stands before in
      absurd (not_refused_room tree key there.0 u a.seen there.1 above (above_shown before) full)

  module _ (place child : ℕ) (bytes : List ℕ) (d : MtrState) (next : Consults (child ∷ []) b d)
      (leads : Leads tree key above (Child (child_of tree.key_len (get_or (records_of above) place []))))
      (child_is : child ≡ child_of tree.key_len (get_or (records_of above) place [])) (bytes_shown : IsTrue b.told → IsShown (b.seen child) bytes) where
    told_a : IsTrue d.told → IsTrue a.told
    told_a told = looked.goes.told (next.goes.told told)

    same : IsTrue d.told → d.seen ≡ a.seen
    same told = (next.same told).seen ∙ (looked.same (next.goes.told told)).seen

    shown : IsTrue d.told → IsShown (a.seen child) bytes
    shown told = subst (λ (f : ℕ → List ℕ). IsShown (f child) bytes) ((looked.same (next.goes.told told)).seen) (bytes_shown (next.goes.told told))

    pub child_stop : (why : Visit) → (why ≡ Bad child 1) × (IsLaidOut tree bytes → (HasRoom bytes → ⊥) → ⊥) → IsStop state a d why
    child_stop why refused =
        subst (IsStop state a d) (sym refused.0) (λ told.
        let there = stands (told_a told) in
        absurd (not_refused_child tree key there.0 u a.seen there.1 above (above_shown (told_a told)) place child leads child_is bytes (shown told) refused.1))

    pub is_ready : (middle n : ℕ) → IsTrue d.told → StandsAbove tree key (suc n) u a.seen
        → IsReady tree key n (record { parent = u; place = place; child = child; middle = middle }) above bytes d.seen
    is_ready middle n told there =
        subst (λ (f : ℕ → List ℕ). IsReady tree key n (record { parent = u; place = place; child = child; middle = middle }) above bytes f) (sym (same told))
        (ready tree key n u a.seen there above (above_shown (told_a told)) place child leads child_is bytes (shown told) middle)

    pub some_ready : (middle : ℕ) → IsTrue d.told
        → (n : ℕ) × IsReady tree key n (record { parent = u; place = place; child = child; middle = middle }) above bytes d.seen
    some_ready middle told = let there = stands (told_a told) in (there.0, is_ready middle there.0 told there.1)

    pub two_on : is_in u a.visited ≡ true → GoesOn 1 a d
    two_on known = on_then 0 1 1 a b d (omega arith) (looked_known_on u a b known looked) (looked_on child b d next)

    pub seen_same : IsTrue d.told → d.seen ≡ a.seen
    seen_same told = same told
