-- A placed tree whose root was raised over a page that was taken.
use Rattle.std.proofs.Common.{◌≡◌, ◌≢◌, inl, inr, ℕ, suc, ◌+◌, ◌*◌, ◌<◌, ◌≤◌}
use Rattle.std.proofs.Common.{Bool, List, [], ◌∷◌, length, drop, refl, sym, ◌∙◌, ap, subst, arith}
use Rattle.std.specs.Prelude.{if◌then◌else◌, None}
use Rattle.std.specs.List.{AllByRecursion}
use Rattle.std.proofs.lemmas.Bool.{cases_eq}
use Rattle.page_format.specs.Words.{level_of, count_of, record_len_of}
use Rattle.page_format.specs.Shape.{HasTreeFields}
use Rattle.page_format.proofs.Pieces.{length-pieces}
use Rattle.mtr.specs.Seen.{is_in, IsShown}
use Rattle.law_flat_tree.specs.Descents.{Holds}
use Rattle.law_flat_tree.specs.PageSplits.{StandsNowhere}
use Rattle.law_flat_tree.specs.Trees.{nodes}
use Rattle.law_flat_tree.proofs.Apart.{with_both, numbers_below}
use Rattle.law_flat_tree.proofs.PageSplits.{all_in}
use Rattle.space_map.specs.Map.{mark_of}
use Rattle.btree.specs.declared.tree.Tree.{Tree}
use Rattle.btree.specs.Sound.{lows_of, levels_of, IsTreePage, tree_pairs}
use Rattle.btree_change.specs.Edits.{HasRoom}
use Rattle.btree_split.specs.Halves.{IsTakenFor}
use Rattle.btree_split.specs.Placed.{IsPlacedPage, IsPlacedTree}
use Rattle.btree_split.specs.Ways.{IsWayTo, AreFull, IsLowestRoom}
use Rattle.btree_split.proofs.Followed.{room_shown}
use Rattle.btree_grow.specs.Raised.{RaisesTree}
use Rattle.btree_grow.proofs.Raising.{raised_placed, raised_pairs, raised_to, raised_held, raised_mark}
use Rattle.btree_grow.specs.Taken.{TakesPage}
use Rattle.btree_grow.specs.Grown.{Grows, HasGrown}
use Rattle.btree_grow.specs.Raising.{IsRaiseReady}
use Rattle.btree_grow.proofs.Below.{way_each, way_stays, full_stays}
use Rattle.btree_grow.proofs.SplitTree.{one_fewer, not_one, is_one, other_than}
use Rattle.btree_grow.proofs.TakenTree.{page_apart, page_stays, taken_levels, taken_pairs, taken_placed, taken_for}

-- The way of a key begins with the root.
pub record BeginsWith (tree : Tree) (pages : ℕ → List ℕ) (key : List ℕ) (full : ℕ) : Type 0 where
  pub rest : List ℕ
  pub leads : IsWayTo (nodes tree.key_len pages) key (lows_of tree pages) rest
  pub all_full : AreFull pages (tree.root ∷ rest)
  pub many : suc (length rest) ≡ full

pub begins_with : (tree : Tree) (pages : ℕ → List ℕ) (key : List ℕ) (full : ℕ) → IsLowestRoom tree pages key None full → BeginsWith tree pages key full
begins_with tree pages key full lowest = go lowest.way lowest.leads lowest.ends.0 lowest.ends.1 where
  go : (way : List ℕ) → IsWayTo (nodes tree.key_len pages) key (levels_of tree pages) way → AreFull pages way → length way ≡ full
      → BeginsWith tree pages key full
  go [] leads all many = absurd leads
  go (page ∷ rest) leads all many =
      let holds : Holds (nodes tree.key_len pages) (tree.root ∷ []) key page = leads.0 in
      let is : page ≡ tree.root =
      all_in (λ r. r ≡ tree.root) holds.xs holds.ys page (subst (λ l. AllByRecursion (λ r. r ≡ tree.root) l) holds.whole (refl, tt)) in
      record { rest = rest; leads = leads.1; all_full = subst (λ r. AreFull pages (r ∷ rest)) is all; many = many }

pub way_long : (tree : Tree) (pages : ℕ → List ℕ) (key : List ℕ) (levels : List (List ℕ)) (way : List ℕ) → IsWayTo (nodes tree.key_len pages) key levels way
    → length way ≡ length levels
way_long tree pages key [] [] leads = refl
way_long tree pages key [] (page ∷ way) leads = absurd leads
way_long tree pages key (level ∷ levels) [] leads = absurd leads
way_long tree pages key (level ∷ levels) (page ∷ way) leads = ap suc (way_long tree pages key levels way leads.1)

-- a way has a page for each level
pub root_level : (tree : Tree) (pages : ℕ → List ℕ) (key : List ℕ) (full : ℕ) → IsPlacedTree tree pages → IsLowestRoom tree pages key None full
    → full ≡ suc (level_of (pages tree.root))
root_level tree pages key full placed lowest =
    let begins = begins_with tree pages key full lowest in
    sym begins.many
    ∙ ap suc (way_long tree pages key (lows_of tree pages) begins.rest begins.leads ∙ sym placed.whole.sound.stands.numbered.0.0)

module _ (tree : Tree) (a b : ℕ → List ℕ) (q : ℕ) (placed : IsPlacedTree tree a) (takes : TakesPage q a b) where
  abbrev n : ℕ
  n = tree.key_len

  root_used : IsPlacedPage n a tree.root
  root_used = placed.placed.0.0

  root_page : IsTreePage tree a tree.root
  root_page = placed.whole.sound.each.0.0

  root_same : b tree.root ≡ a tree.root
  root_same = page_stays tree a b q placed takes tree.root root_used

  placed_b : IsPlacedTree tree b
  placed_b = taken_placed tree a b q placed takes

  taken : IsTakenFor tree b q
  taken = taken_for tree a b q placed takes

  pub raise_ready : (level : ℕ) → level ≡ suc (level_of (a tree.root)) → (bytes : List ℕ) → IsShown (a tree.root) bytes
      → IsRaiseReady tree.root q level bytes b
  raise_ready level level_is bytes shown = record {
    level_is = level_is ∙ ap (λ (l : List ℕ). suc (level_of l)) (sym root_same);
    shown = subst (λ l. IsShown l bytes) (sym root_same) shown;
    fields = subst HasTreeFields (sym root_same) root_page.fields;
    blank = takes.blank;
    apart = λ same. page_apart tree a b q placed takes tree.root root_used (sym same);
    some_root = root_page.some;
    some_number = λ none. omega (arith, none, takes.beyond);
    root_counted = placed_b.whole.counted.0.0;
    number_counted = taken.counted;
  }

  module _ (c : ℕ → List ℕ) (raises : RaisesTree tree q b c) where
    levels_same : levels_of tree b ≡ levels_of tree a
    levels_same = taken_levels tree a b q placed takes

    to : levels_of tree c ≡ (tree.root ∷ []) ∷ (q ∷ []) ∷ lows_of tree a
    to = raised_to tree b c q placed_b taken raises ∙ ap (λ (l : List (List ℕ)). (tree.root ∷ []) ∷ (q ∷ []) ∷ tail l) levels_same where
      tail : List (List ℕ) → List (List ℕ)
      tail [] = []
      tail (level ∷ levels) = levels

    mark_same : (r : ℕ) → r < 65536 → mark_of c r ≡ mark_of b r
    mark_same r few = raised_mark tree b c q placed_b taken raises r few

    grows : Grows tree (tree_pairs tree a) (q ∷ []) a c
    grows = record {
      placed = raised_placed tree b c q placed_b taken raises;
      pairs_are = raised_pairs tree b c q placed_b taken raises ∙ taken_pairs tree a b q placed takes;
      were_free = (takes.was_free, tt);
      stand = ((λ nowhere. (subst (λ l. StandsNowhere q l) to nowhere).1.0.0 refl), tt);
      rest = λ page nowhere out. subst (λ l. StandsNowhere page l) (sym to) (nowhere.0, ((not_one page q out, tt), nowhere.1));
      keep = λ page nowhere. let there = subst (λ l. StandsNowhere page l) to nowhere in (there.0, there.1.1);
      marks = λ page few. elim (cases_eq page q) [
        | inl same ↦
            subst (λ r. mark_of c r ≡ (if is_in r (q ∷ []) then 1 else mark_of a r)) (sym same)
            (mark_same q takes.small ∙ takes.used ∙ sym (ap (λ (x : Bool). if x then 1 else mark_of a q) (is_one q)))
        | inr apart ↦
            mark_same page few ∙ takes.marks page few apart ∙ sym (ap (λ (x : Bool). if x then 1 else mark_of a page) (other_than page q apart))
      ];
      others = λ page nowhere out far.
          let apart : page ≢ q = λ same. not_one page q out (sym same) in
          let not_root : page ≢ tree.root = λ same. nowhere.0.0 (sym same) in
          raises.others page not_root apart ∙ takes.others page apart far;
    }

    one_record : count_of (c tree.root) ≡ 1
    one_record =
        sym (length-pieces (record_len_of (c tree.root)) (count_of (c tree.root)) (drop 208 (c tree.root))) ∙ ap length raises.root.records

    header : c 0 ≡ a 0
    header =
        raises.others 0 (λ is. root_page.some (sym is)) (λ is. omega (arith, is, takes.beyond))
        ∙ takes.others 0 (λ is. omega (arith, is, takes.beyond)) (inl (omega arith))

    -- ---- the way below stays

    stays : (r : ℕ) → level_of (a r) < length (lows_of tree a) → IsPlacedPage n a r → c r ≡ a r
    stays r low used =
        let top : level_of (a tree.root) ≡ length (lows_of tree a) = placed.whole.sound.stands.numbered.0.0 in
        raises.others r (λ same. omega (arith, low, top, ap (λ (f : ℕ). level_of (a f)) same)) (page_apart tree a b q placed takes r used)
        ∙ page_stays tree a b q placed takes r used

    same_below : (key rest : List ℕ) → IsWayTo (nodes n a) key (lows_of tree a) rest → AllByRecursion (λ r. c r ≡ a r) rest
    same_below key rest leads =
        with_both (λ r. level_of (a r) < length (lows_of tree a)) (IsPlacedPage n a) (λ r. c r ≡ a r) stays rest
        (way_each (λ r. level_of (a r) < length (lows_of tree a)) (nodes n a) key (lows_of tree a) rest leads
        (numbers_below a (length (lows_of tree a)) (lows_of tree a) (omega arith) placed.whole.sound.stands.numbered.1))
        (way_each (IsPlacedPage n a) (nodes n a) key (lows_of tree a) rest leads placed.placed.1)

    full_page : (HasRoom (a tree.root) → ⊥) → HasRoom (c q) → ⊥
    full_page full room = full (room_shown (c q) (a tree.root) (raises.moved ∙ ap (drop 20) root_same) room)

    pub has_raised : n ≤ 80 → (key : List ℕ) (full : ℕ) → IsLowestRoom tree a key None full → HasGrown tree key 1 full tree.root a c
    has_raised short key full lowest =
        let begins = begins_with tree a key full lowest in
        let same = same_below key begins.rest begins.leads in
        let held = raised_held tree b c q placed_b taken raises key in
        record {
          taken = q ∷ [];
          many = refl;
          distinct = (refl, tt);
          grows = grows;
          above =
              record {
                placed = grows.placed;
                tops = [];
                upper = tree.root ∷ [];
                under = (q ∷ []) ∷ lows_of tree a;
                at = to;
                holds = held.0;
                room = subst (λ k. 208 + (k + 1) * record_len_of (c tree.root) ≤ 4096) (sym one_record)
                    (subst (λ w. 208 + (1 + 1) * w ≤ 4096) (sym raises.root.width) (omega (arith, short)));
                way = q ∷ begins.rest;
                leads = (held.1, way_stays n a c key (lows_of tree a) begins.rest same begins.leads);
                full = (full_page begins.all_full.0, full_stays a c begins.rest same begins.all_full.1);
                many = begins.many;
              };
          fewer = one_fewer tree a b c q (tree_pairs tree a) takes grows header;
          header = header;
        }
