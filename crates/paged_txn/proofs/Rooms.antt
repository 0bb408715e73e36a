-- Frames that are taken one by one, and frames that are let go one by one.
use Rattle.std.proofs.Common.{◌≡◌, ◌≢◌, ℕ, ◌+◌, ◌-◌, ◌<◌, ◌≤◌, Bool, true, false, cond, inl, inr, List, [], ◌∷◌, ◌++◌, length, Option, Some, None, refl, sym}
use Rattle.std.proofs.Common.{ap, subst}
use Rattle.std.proofs.Common.{◌∙◌, arith}
use Rattle.std.specs.Prelude.{◌==◌, ◌||◌, option_map, is_some, replicate}
use Rattle.std.specs.Option.{option_map_or}
use Rattle.std.proofs.lemmas.Bool.{cases_eq, eqb-true, eqb-false, eq-eqb}
use Rattle.std.proofs.lemmas.List.{length-set, get_or-set_same, get_or-set_other}
use Rattle.buffer_pool.specs.Frames.{FrameView, PoolView, slot_of, HasOneMore, is_page, unfixed}
use Rattle.mtr.specs.Seen.{is_in}
use Rattle.mini_txn.specs.declared.dealt.Entry.{Entry}
use Rattle.mini_txn.specs.Dealt.{pages_of}
use Rattle.paged_txn.specs.View.{HasFrames, holds, fixes_in}
use Rattle.paged_txn.specs.Ending.{let_go, LetsGo, LetsGoOne}

-- ---- frames that are taken

pub frames_had : (pages count : ℕ) (pool : PoolView) → HasFrames pages count pool → is_some (slot_of pool count) ≡ true → HasFrames pages (count + 1) pool
frames_had pages count pool has some = record {
  empty = has.empty;
  frames = λ q below within. elim (cases_eq q count) [
    | inl same ↦ ap (λ n. is_some (slot_of pool n)) same ∙ some
    | inr apart ↦ has.frames q (omega (arith, below, apart)) within
  ];
}

pub frames_more : (pages count : ℕ) (pool new : PoolView) → count < length pool.slots → HasFrames pages count pool → HasOneMore count pool new
    → HasFrames pages (count + 1) new
frames_more pages count pool new within has more =
    let slots = ap (λ (p : PoolView). p.slots) more.new_is in
    let here : slot_of new count ≡ Some more.frame = ap (λ s. Rattle.std.specs.Prelude.slice_index_or s count None) slots
    ∙ get_or-set_same pool.slots count (Some more.frame) None within in
    let other : (q : ℕ) → q ≢ count → slot_of new q ≡ slot_of pool q = λ q apart. ap (λ s. Rattle.std.specs.Prelude.slice_index_or s q None) slots
    ∙ get_or-set_other pool.slots count q (Some more.frame) None apart in
    record {
      empty = record {
        slots = ap length slots ∙ length-set pool.slots count (Some more.frame) ∙ has.empty.slots;
        none = λ q. elim (cases_eq q count) [
          | inl same ↦ (
            ap (λ n. holds (slot_of new n)) same ∙ ap holds here ∙ ap is_page more.content,
            ap (λ n. fixes_in (slot_of new n)) same ∙ ap fixes_in here ∙ more.fixes,
          )
          | inr apart ↦ (ap holds (other q apart) ∙ (has.empty.none q).0, ap fixes_in (other q apart) ∙ (has.empty.none q).1)
        ];
      };
      frames = λ q below in_file. elim (cases_eq q count) [
        | inl same ↦ ap (λ n. is_some (slot_of new n)) same ∙ ap is_some here
        | inr apart ↦ ap is_some (other q apart) ∙ has.frames q (omega (arith, below, apart)) in_file
      ];
    }

-- ---- frames that are let go

twice : (slot : Option FrameView) → fixes_in slot ≤ 1 → option_map let_go (option_map let_go slot) ≡ option_map let_go slot
twice None few = refl
twice (Some f) few = ap Some (go (f.fixes == 0) refl) where
  go : (b : Bool) → (f.fixes == 0) ≡ b → let_go (cond b f (unfixed f)) ≡ cond b f (unfixed f)
  go true is = ap (λ b. cond b f (unfixed f)) is
  go false is =
      let none : f.fixes - 1 ≡ 0 = omega (arith, few) in
      ap (λ b. cond b (unfixed f) (unfixed (unfixed f))) (eq-eqb (f.fixes - 1) 0 none)

less_fixes : (slot : Option FrameView) → fixes_in slot ≤ 1 → fixes_in (option_map let_go slot) ≤ 1
less_fixes None few = few
less_fixes (Some f) few = go (f.fixes == 0) where
  go : (b : Bool) → fixes_in (Some (cond b f (unfixed f))) ≤ 1
  go true = few
  go false = omega (arith, few)

in_push : (q : ℕ) (front : List Entry) (e : Entry) → is_in q (pages_of (front ++ e ∷ [])) ≡ (is_in q (pages_of front) || (e.page == q))
in_push q [] e = go (e.page == q) where
  go : (b : Bool) → (b || false) ≡ b
  go true = refl
  go false = refl
in_push q (x ∷ front) e = go (x.page == q) (in_push q front e) where
  go : (b : Bool) → is_in q (pages_of (front ++ e ∷ [])) ≡ (is_in q (pages_of front) || (e.page == q))
      → (b || is_in q (pages_of (front ++ e ∷ []))) ≡ ((b || is_in q (pages_of front)) || (e.page == q))
  go true h = refl
  go false h = h

pub one_goes : (front : List Entry) (e : Entry) (pool mid final : PoolView) → LetsGoOne e.page pool mid → LetsGo (pages_of front) mid final
    → LetsGo (pages_of (front ++ e ∷ [])) pool final
one_goes front e pool mid final one rest = record {
  slots = rest.slots ∙ one.slots;
  each = λ few q.
      let few_mid : (p : ℕ) → fixes_in (slot_of mid p) ≤ 1 =
      λ p. subst (λ (s : Option FrameView). fixes_in s ≤ 1) (sym (one.each p)) (small (p == e.page) (slot_of pool p) (few p)) in
      rest.each few_mid q ∙ go q (is_in q (pages_of front)) (q == e.page) refl (one.each q) (few q)
      ∙ ap (λ b. cond b (option_map let_go (slot_of pool q)) (slot_of pool q)) (sym (in_push q front e));
} where
  small : (b : Bool) (slot : Option FrameView) → fixes_in slot ≤ 1 → fixes_in (cond b (option_map let_go slot) slot) ≤ 1
  small true slot few = less_fixes slot few
  small false slot few = few

  turned : (q : ℕ) (b : Bool) → (q == e.page) ≡ b → (e.page == q) ≡ b
  turned q true is = eq-eqb e.page q (sym (eqb-true q e.page is))
  turned q false is = flip (e.page == q) refl where
    flip : (c : Bool) → (e.page == q) ≡ c → c ≡ false
    flip true h = absurd (eqb-false q e.page is (sym (eqb-true e.page q h)))
    flip false h = refl

  go : (q : ℕ) (a b : Bool) → (q == e.page) ≡ b → slot_of mid q ≡ cond (q == e.page) (option_map let_go (slot_of pool q)) (slot_of pool q)
      → fixes_in (slot_of pool q) ≤ 1
      → cond a (option_map let_go (slot_of mid q)) (slot_of mid q)
      ≡ cond (a || (e.page == q)) (option_map let_go (slot_of pool q)) (slot_of pool q)
  go q a true is each few =
      let mine : slot_of mid q ≡ option_map let_go (slot_of pool q) = each ∙ ap (λ b. cond b (option_map let_go (slot_of pool q)) (slot_of pool q)) is in
      ap (λ s. cond a (option_map let_go s) s) mine ∙ same a
      ∙ sym (ap (λ b. cond (a || b) (option_map let_go (slot_of pool q)) (slot_of pool q)) (turned q true is) ∙ any a) where
        same : (c : Bool) → cond c (option_map let_go (option_map let_go (slot_of pool q))) (option_map let_go (slot_of pool q)) ≡ option_map let_go
            (slot_of pool q)
        same true = twice (slot_of pool q) few
        same false = refl

        any : (c : Bool) → cond (c || true) (option_map let_go (slot_of pool q)) (slot_of pool q) ≡ option_map let_go (slot_of pool q)
        any true = refl
        any false = refl
  go q a false is each few =
      let mine : slot_of mid q ≡ slot_of pool q = each ∙ ap (λ b. cond b (option_map let_go (slot_of pool q)) (slot_of pool q)) is in
      ap (λ s. cond a (option_map let_go s) s) mine
      ∙ sym (ap (λ b. cond (a || b) (option_map let_go (slot_of pool q)) (slot_of pool q)) (turned q false is) ∙ none a) where
        none : (c : Bool) → cond (c || false) (option_map let_go (slot_of pool q)) (slot_of pool q) ≡ cond c (option_map let_go (slot_of pool q))
            (slot_of pool q)
        none true = refl
        none false = refl

pub none_goes : (pool : PoolView) (dealt : List Entry) → length dealt ≡ 0 → LetsGo (pages_of dealt) pool pool
none_goes pool [] none = record { slots = refl; each = λ few q. refl }
none_goes pool (e ∷ dealt) none = absurd (omega (arith, none))
