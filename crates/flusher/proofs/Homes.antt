-- Pages that nobody need flush stay so: while others are staged and placed, and while groups change others.
use Rattle.std.proofs.Common.{◌≡◌, ◌⊎◌, inl, inr, ⊎_elim, ℕ, ◌+◌, ◌-◌, ◌^◌, ◌*◌, ◌<◌, ◌≤◌, Bool, true, false, Some, List, [], ◌∷◌, ◌++◌, length, take, drop}
use Rattle.std.proofs.Common.{refl, sym, ◌∙◌, ap, subst, arith}
use Rattle.std.specs.Prelude.{◌&&◌, if◌then◌else◌, nat_lt, All, Contains}
use Rattle.std.proofs.lemmas.List.{take_all}
use Rattle.std.proofs.lemmas.List.Elements.{All-contains, All-head, All-tail}
use Rattle.store_api.specs.Areas.{Contents, State, Write, WasWhole, Puts, end_of, piece}
use Rattle.store_api.specs.Past.{Past, Now}
use Rattle.stored_pages.specs.Words.{number_of, lsn_of}
use Rattle.log_format.specs.declared.group.Group.{Group}
use Rattle.redo_log.specs.View.{LogView}
use Rattle.buffer_pool.specs.Frames.{PoolView, is_dirty, bytes_of}
use Rattle.stored_pages.specs.Reading.{IsGoodPage, place_of}
use Rattle.doublewrite.specs.Batches.{BatchView, StagedView, IsInBatch, number_at}
use Rattle.doublewrite.specs.Kept.{Spares, IsSettled, IsReady, IsStaged, IsStagedHonestly}
use Rattle.doublewrite.specs.Places.{Leads, LeavesPages}
use Rattle.law_logged_pages.specs.Applied.{names, with_group, page_after, logical}
use Rattle.law_logged_pages.specs.Stages.{SameButSum}
use Rattle.law_logged_pages.proofs.Groups.{after-append}
use Rattle.flusher.specs.Cleaning.{HasSamePages}
use Rattle.flusher.specs.Flushing.{AreNewest, HoldsRun, IsHome, AreHome, IsNowhere, IsKept, AreKept, AreSilent}
use Rattle.flusher.specs.Working.{AreChanged}
use Rattle.flusher.proofs.Told.{not_each_log, afterwards}

-- ---- where nothing was written in Pages

kept_same : (groups : List Group) (base : ℕ → List ℕ) (page : ℕ) (b s : State) → s.pages.synced ≡ b.pages.synced → s.pages.writes ≡ b.pages.writes
    → IsKept groups base page b → IsKept groups base page s
kept_same groups base page b s synced writes (inl home) = inl (record {
  settled = record {
    good = subst (λ (l : List ℕ). IsGoodPage page (place_of page l)) (sym synced) home.settled.good;
    spared = subst (All (Spares page)) (sym writes) home.settled.spared;
  };
  same = subst (λ (l : List ℕ). SameButSum (place_of page l) (logical base groups (length groups) page)) (sym synced) home.same;
})
kept_same groups base page b s synced writes (inr nowhere) = inr (record {
  zeros = nowhere.zeros;
  no_page = λ other was. nowhere.no_page other (was.0, before other was.1);
}) where
  before : (other : List ℕ) → WasWhole s.pages (4096 * page) other → WasWhole b.pages (4096 * page) other
  before other (inl there) = inl (ap (λ (l : List ℕ). take (length other) (drop (4096 * page) l)) (sym synced) ∙ there)
  before other (inr put) = inr (put.0, subst (λ (ws : List Write). Contains ws put.0) writes put.1, put.2)

pub kept_leads : (groups : List Group) (base : ℕ → List ℕ) (pool : PoolView) (old new : Past) → Leads LeavesPages old new
    → Now (AreKept groups base pool) old → Now (AreKept groups base pool) new
kept_leads groups base pool old new leads known s ticks is page below clean =
    let b = leads.now s ticks is in
    kept_same groups base page b.0 s (ap (λ (c : Contents). c.synced) b.2) (ap (λ (c : Contents). c.writes) b.2)
    (known b.0 (omega (arith, leads.later, ticks)) b.1 page below clean)

-- ---- while a batch is placed

-- what was whole in a settled place stands there
pub stood : (page : ℕ) (b : State) (bytes : List ℕ) → IsSettled page b.pages → IsGoodPage page bytes → WasWhole b.pages (4096 * page) bytes
    → bytes ≡ place_of page b.pages.synced
stood page b bytes settled good whole =
    ⊎_elim
    (λ (there : take (length bytes) (drop (4096 * page) b.pages.synced) ≡ bytes).
    sym there ∙ (λ i. take (good.size i) (drop (4096 * page) b.pages.synced)))
    (λ (put : (w : Write) × Contains b.pages.writes w × Puts (4096 * page) bytes w).
    let spares = All-contains (Spares page) b.pages.writes put.0 settled.spared put.1 in
    absurd (⊎_elim
    (λ (early : end_of put.0 ≤ 4096 * page). omega (arith, early, put.2.ends, good.size))
    (λ (late : 4096 * (page + 1) ≤ put.0.at). omega (arith, late, put.2.begins)) spares))
    whole

module _ (batch : BatchView) (b s : State) (staged : IsStaged b batch s) (page : ℕ) (out : (other : List ℕ) → IsInBatch batch page other
    → ⊥) (bytes : List ℕ) where
  before : (other : List ℕ) → IsGoodPage page other → WasWhole s.pages (4096 * page) other → WasWhole b.pages (4096 * page) other
  before other is whole =
      ⊎_elim (λ (here : IsInBatch batch page other). absurd (out other here))
      (λ (old : WasWhole b.pages (4096 * page) other). old) (staged.held page other is whole)

  pub stays_home : IsHome page bytes b → IsHome page bytes s
  stays_home home =
      let settled : IsSettled page s.pages = staged.settled page out home.settled in
      let place : List ℕ = place_of page s.pages.synced in
      let whole : WasWhole s.pages (4096 * page) place = inl (λ i. take (settled.good.size i) (drop (4096 * page) s.pages.synced)) in
      let old : place ≡ place_of page b.pages.synced = stood page b place home.settled settled.good (before place settled.good whole) in
      record { settled = settled; same = subst (λ (l : List ℕ). SameButSum l bytes) (sym old) home.same }

  pub stays_nowhere : IsNowhere page bytes b → IsNowhere page bytes s
  stays_nowhere none = record {
    zeros = none.zeros;
    no_page = λ other was. none.no_page other (was.0, before other was.0 was.1);
  }

-- once it is staged, the batch is staged over what stands now
staged_now : (batch : BatchView) (x b : State) → IsStaged x batch b → IsStaged b batch b
staged_now batch x b staged = record {
  double = staged.double;
  double_is = staged.double_is;
  copies = staged.copies;
  others = λ number k past good. inl ((λ i. take (good.size i) (drop (4096 * k) b.double.synced))
      ∙ ap (λ (c : Contents). piece 4096 k c.synced) staged.double_is);
  held = λ number bytes good whole. inr whole;
  settled = λ number out settled. settled;
  log_is = refl;
}

module _ (first : ℕ) (groups : List Group) (base : ℕ → List ℕ) (staged next : StagedView) (log : LogView) (old new : Past) (pool : PoolView)
    (same : next.batch ≡ staged.batch) (ready : Now IsReady old) (held : Now (HoldsRun first groups base (Some staged) log) old)
    (stands : (x : State) → Now (IsStagedHonestly x staged.batch) old → Now (IsStaged x next.batch) new)
    (changed : AreChanged (Some staged) pool) where
  out_of : (page : ℕ) → is_dirty pool page ≡ false → (other : List ℕ) → IsInBatch staged.batch page other → ⊥
  out_of page clean other there =
      let number : number_at staged.batch there.slot ≡ page = ap number_of there.page ∙ there.number_is in
      let clash : true ≡ false = sym (changed there.slot there.below) ∙ ap (is_dirty pool) number ∙ clean in
      cc

  stay : (x b s : State) → IsStagedHonestly x staged.batch b → AreKept groups base pool x → IsStaged x next.batch s → AreKept groups base pool s
  stay x b s known kept placed page below clean =
      let there : IsStaged x staged.batch s = subst (λ (batch : BatchView). IsStaged x batch s) same placed in
      ⊎_elim
      (λ (home : IsHome page (logical base groups (length groups) page) x). inl (stays_home staged.batch x s there page (out_of page clean) _ home))
      (λ (none : IsNowhere page (logical base groups (length groups) page) x). inr (stays_nowhere staged.batch x s there page (out_of page clean) _ none))
      (kept page below clean)

  -- the pages that were clean stay where they are
  pub placed_kept : Now (AreKept groups base pool) old → Now (AreKept groups base pool) new
  placed_kept kept =
      afterwards (λ x. IsStagedHonestly x staged.batch) (λ x. IsStaged x next.batch) (AreKept groups base pool)
      (λ s. not_each_log (λ x. IsStaged x next.batch) s (λ x p. p.log_is)) old new (λ x b. AreKept groups base pool x)
      (λ b ticks is. (
        b,
        (staged_now staged.batch (held b ticks is).pages.0 b (held b ticks is).pages.1.stands, (ready b ticks is).read_pages),
        kept b ticks is,
      ))
      stay stands

-- and those that became clean are home
pub settled_kept : (groups : List Group) (base : ℕ → List ℕ) (old new : PoolView) (past : Past) → AreNewest groups base old → HasSamePages old new
    → Now (AreKept groups base old) past → Now (AreHome old new) past → Now (AreKept groups base new) past
settled_kept groups base old new past newest same kept home s ticks is page below clean = go (is_dirty old page) refl where
  go : (b : Bool) → is_dirty old page ≡ b → IsKept groups base page s
  go false was = kept s ticks is page below was
  go true was =
      let there = home s ticks is page was clean in
      let now = newest.newest page was in
      inl (record {
        settled = there.settled;
        same = record {
          size = there.same.size ∙ ap length (same.bytes page) ∙ now.size;
          same = there.same.same ∙ ap (drop 8) (same.bytes page) ∙ now.same;
        };
      })

-- ---- while groups change other pages

second_of : {A : Type 0} (b c : Bool) (x y : A) → b ≡ false → (if b && c then x else y) ≡ y
second_of true c x y is = cc
second_of false c x y is = refl

unnamed : (page : ℕ) (g : Group) (bytes : List ℕ) → names page g ≡ false → with_group page g bytes ≡ bytes
unfolding with_group
unnamed page g bytes none = second_of (names page g) (nat_lt (lsn_of bytes) g.lsn) _ bytes none

after_silent : (page : ℕ) (more : List Group) (bytes : List ℕ) → AreSilent page more → page_after page more bytes ≡ bytes
after_silent page [] bytes silent = refl
after_silent page (g ∷ more) bytes silent =
    ap (page_after page more) (unnamed page g bytes (All-head (λ (h : Group). names page h ≡ false) g more silent))
    ∙ after_silent page more bytes (All-tail (λ (h : Group). names page h ≡ false) g more silent)

silent_logical : (base : ℕ → List ℕ) (groups more : List Group) (page : ℕ) → AreSilent page more
    → logical base (groups ++ more) (length (groups ++ more)) page ≡ logical base groups (length groups) page
silent_logical base groups more page silent =
    ap (λ (l : List Group). page_after page l (base page)) (take_all (length (groups ++ more)) (groups ++ more) (omega arith))
    ∙ after-append page groups more (base page) ∙ after_silent page more (page_after page groups (base page)) silent
    ∙ sym (ap (λ (l : List Group). page_after page l (base page)) (take_all (length groups) groups (omega arith)))

pub kept_outlasts : (groups more : List Group) (base : ℕ → List ℕ) (pool later : PoolView) (b s : State) → AreKept groups base pool b
    → ((page : ℕ) → is_dirty later page ≡ false → (is_dirty pool page ≡ false) × AreSilent page more)
    → s.pages.synced ≡ b.pages.synced → s.pages.writes ≡ b.pages.writes → AreKept (groups ++ more) base later s
kept_outlasts groups more base pool later b s kept was synced writes page below clean =
    let before = was page clean in
    let same = silent_logical base groups more page before.1 in
    subst (λ (l : List ℕ). IsHome page l s ⊎ IsNowhere page l s) (sym same) (kept_same groups base page b s synced writes (kept page below before.0))
