-- The facts of the lists, kept by each change of them.
use Rattle.std.proofs.Common.{◌≡◌, ℕ, ◌+◌, ◌≤◌, Bool, true, false, cond, length, arith, List, [], ◌∷◌, ◌++◌, refl, sym, ap, subst, ◌∙◌, append_assoc, append-nil}
use Rattle.std.proofs.lemmas.List.Folds.{list_any-append}
use Rattle.std.proofs.lemmas.Bool.{eq-eqb, eqb-true}
use Rattle.std.specs.Prelude.{◌==◌, ◌&&◌, ◌||◌, not, filter, Option, is_some}
use Rattle.std.specs.List.{list_any, AllByRecursion}
use Rattle.inno_types.specs.declared.lock.LockKind.{LockKind}
use Rattle.inno_types.specs.declared.lock.LockKind.TheVariants.{Rec, Gap, NextKey, Intent}
use Rattle.inno_types.specs.declared.lock.Mode.{Mode}
use Rattle.inno_types.specs.declared.lock.Mode.TheVariants.{S, X}
use Rattle.inno_types.specs.declared.lock.Level.{Level}
use Rattle.inno_types.specs.declared.lock.Level.TheVariants.{ReadUncommitted, ReadCommitted, RepeatableRead, Serializable}
use Rattle.inno_types.specs.declared.lock.Spot.{Spot}
use Rattle.inno_types.specs.declared.lock.Lock.{Lock}
use Rattle.inno_types.specs.declared.stmt.Bound.TheVariants.{Open}
use Rattle.lock_rules.specs.declared.rule.Rule.TheVariants.{RecordWent, CopiedOnInsert}
use Rattle.lock_rules.specs.declared.rule.Place.TheVariants.{New}
use Rattle.lock_rules.specs.Kinds.{is_intent, locks_gap, same_mode, same_level}
use Rattle.lock_rules.specs.Spots.{same_spot}
use Rattle.lock_rules.specs.Conflicts.{conflicts, covers, kind_of, kind_at, kinds_conflict}
use Rattle.lock_rules.specs.Rules.{FitsItsRule, number_of}
use Rattle.lock_rules.proofs.Booleans.{first, and_false, or_true, or_false, or_false-left, or_false-right, split}
use Rattle.lock_rules.proofs.Beside.{conflicts-back, spot_refl, txn_sym}
use Rattle.lock_table.specs.Queue.{serve, without, is_blocked, is_covered, is_waiting, is_among, AreOthers, AreSingle, AreBlocked, AreApart, AreSound, stands_beside}
use Rattle.lock_table.specs.Records.{moved, moved_on, left_by, uncovered, own_copies, copies, as_gap, becomes_gap}
use Rattle.lock_table.specs.View.{Table, after_insertion, must_wait, others}
use Rattle.lock_table.proofs.Stronger.{any_way}
use Rattle.lock_table.proofs.Places.{all_weaker, all_true, all_append, all_push, all_filter}

-- a property of all locks, along each change
module _ (R : Lock → Type 0) where
  -- those on other spots may get it from another one
  pub all_moved_to : (Q : Lock → Type 0) (by : Option ℕ) (gone next : Spot) → ((w : Lock) → R (as_gap (number_of RecordWent) next w))
      → ((w : Lock) → Q w → same_spot w.spot gone ≡ false → R w) → (done ws : List Lock) → AllByRecursion R done → AllByRecursion Q ws → AllByRecursion R (moved_on by gone next done ws)
  all_moved_to Q by gone next gaps stays done [] all others = all
  all_moved_to Q by gone next gaps stays done (w ∷ ws) all others =
      any_way by gone next (AllByRecursion R) done ws w
      (all_moved_to Q by gone next gaps stays (done ++ as_gap (number_of RecordWent) next w ∷ []) ws (all_push R done (as_gap (number_of RecordWent) next w) all (gaps w)) others.1)
      (all_moved_to Q by gone next gaps stays done ws all others.1)
      (λ elsewhere. all_moved_to Q by gone next gaps stays (done ++ w ∷ []) ws (all_push R done w all (stays w others.0 elsewhere)) others.1)

  pub all_moved : (by : Option ℕ) (gone next : Spot) → ((w : Lock) → R (as_gap (number_of RecordWent) next w)) → (ws : List Lock) → AllByRecursion R ws → AllByRecursion R (moved by gone next ws)
  all_moved by gone next gaps ws all = all_moved_to R by gone next gaps (λ w is _. is) [] ws tt all

  pub all_uncovered : (held ws : List Lock) → AllByRecursion R ws → AllByRecursion R (uncovered held ws)
  all_uncovered held [] all = tt
  all_uncovered held (w ∷ ws) all =
      elim (is_covered held w) as (λ b. AllByRecursion R (cond b (uncovered held ws) (w ∷ uncovered (held ++ w ∷ []) ws))) [
        | true ↦ all_uncovered held ws all.1
        | false ↦ (all.0, all_uncovered (held ++ w ∷ []) ws all.1)
      ]

  pub all_left : (by : Option ℕ) (gone next : Spot) → ((w : Lock) → R (as_gap (number_of RecordWent) next w)) → (ws : List Lock) → AllByRecursion R (left_by by gone next ws)
  all_left by gone next gaps [] = tt
  all_left by gone next gaps (w ∷ ws) = go (same_spot w.spot gone && becomes_gap by w) (all_left by gone next gaps ws) where
    go : (b : Bool) → AllByRecursion R (left_by by gone next ws) → AllByRecursion R (cond b (as_gap (number_of RecordWent) next w ∷ left_by by gone next ws) (left_by by gone next ws))
    go true rest = (gaps w, rest)
    go false rest = rest

  all_own : (txn : ℕ) (new next : Spot) → ((w : Lock) → R (as_gap (number_of CopiedOnInsert) new w)) → (ws : List Lock) → AllByRecursion R (own_copies txn new next ws)
  all_own txn new next gaps [] = tt
  all_own txn new next gaps (w ∷ ws) = go _ (all_own txn new next gaps ws) where
    go : (b : Bool) → AllByRecursion R (own_copies txn new next ws) → AllByRecursion R (cond b (as_gap (number_of CopiedOnInsert) new w ∷ own_copies txn new next ws) (own_copies txn new next ws))
    go true rest = (gaps w, rest)
    go false rest = rest

  pub all_copies : (txn : ℕ) (new next : Spot) → ((w : Lock) → R (as_gap (number_of CopiedOnInsert) new w)) → (ws : List Lock) → AllByRecursion R (copies txn new next ws)
  all_copies txn new next gaps ws = all_uncovered ws (own_copies txn new next ws) (all_own txn new next gaps ws)

  pub all_served : (held earlier queue : List Lock) → AllByRecursion R held → AllByRecursion R earlier → AllByRecursion R queue
      → AllByRecursion R (serve held earlier queue).granted × AllByRecursion R (serve held earlier queue).waiting
  all_served held earlier [] a b c = (a, b)
  all_served held earlier (asked ∷ queue) a b c =
      elim (is_blocked held earlier asked) as (λ d. AllByRecursion R (cond d (serve held (earlier ++ asked ∷ []) queue) (serve (held ++ asked ∷ []) earlier queue)).granted
      × AllByRecursion R (cond d (serve held (earlier ++ asked ∷ []) queue) (serve (held ++ asked ∷ []) earlier queue)).waiting) [
        | true ↦ all_served held (earlier ++ asked ∷ []) queue a (all_push R earlier asked b c.0) c.1
        | false ↦ all_served (held ++ asked ∷ []) earlier queue (all_push R held asked a c.0) b c.1
      ]

-- a gap lock stands beside every lock
pub gap_after : (rule : ℕ) (spot : Spot) (w held : Lock) → stands_beside held (as_gap rule spot w) ≡ true
gap_after rule spot w held = ap not (and_false (not (held.txn == w.txn) && same_spot held.spot spot))

gap_kinds : (b r : Bool) (kind : LockKind) (mode other : Mode) → (is_intent kind || not (b && kinds_conflict Gap mode (kind_at r kind) other)) ≡ true
gap_kinds b r Rec m n = ap not (and_false b)
gap_kinds b r Gap m n = ap not (and_false b)
gap_kinds b true NextKey m n = ap not (and_false b)
gap_kinds b false NextKey m n = ap not (and_false b)
gap_kinds b r Intent m n = refl

pub gap_before : (rule : ℕ) (spot : Spot) (w lock : Lock) → stands_beside (as_gap rule spot w) lock ≡ true
gap_before rule spot w lock = gap_kinds (not (w.txn == lock.txn) && same_spot spot lock.spot) (is_some lock.spot.key) lock.kind w.mode lock.mode

own_beside : (w : Lock) → stands_beside w w ≡ true
own_beside w =
    ap (λ b. is_intent w.kind || not (not b && same_spot w.spot w.spot && kinds_conflict (kind_of w) w.mode (kind_of w) w.mode)) (eq-eqb w.txn w.txn refl) ∙ or_true (is_intent w.kind)

pub mode_refl : (mode : Mode) → same_mode mode mode ≡ true
mode_refl S = refl
mode_refl X = refl

level_refl : (level : Level) → same_level level level ≡ true
level_refl ReadUncommitted = refl
level_refl ReadCommitted = refl
level_refl RepeatableRead = refl
level_refl Serializable = refl

four : (a b c d : Bool) → a ≡ true → b ≡ true → c ≡ true → d ≡ true → (a && b && true && c && d) ≡ true
four true true true d p q r s = s
four false b c d p q r s = cc
four true false c d p q r s = cc
four true true false d p q r s = cc

pub item_refl : (item : ℕ) (level : Level) → ((item == item) && same_level level level) ≡ true
item_refl item level = ap (λ b. b && same_level level level) (eq-eqb item item refl) ∙ level_refl level

-- a gap lock by the two rules on records that go and appear fits its rule
pub went_fits : (spot : Spot) (w : Lock) → FitsItsRule (as_gap (number_of RecordWent) spot w)
went_fits spot w = (
  record { rule = 12; level = w.reason.level; item = w.reason.item; index = spot.index; range = record { empty = false; low = Open; high = Open }; mode = w.mode; spot = spot; marked = false; place = New },
  four (spot.index == spot.index) (same_spot spot spot) (same_mode w.mode w.mode) _ (eq-eqb spot.index spot.index refl) (spot_refl spot) (mode_refl w.mode) (item_refl w.reason.item w.reason.level),
)

pub copy_fits : (spot : Spot) (w : Lock) → FitsItsRule (as_gap (number_of CopiedOnInsert) spot w)
copy_fits spot w = (
  record { rule = 13; level = w.reason.level; item = w.reason.item; index = spot.index; range = record { empty = false; low = Open; high = Open }; mode = w.mode; spot = spot; marked = false; place = New },
  four (spot.index == spot.index) (same_spot spot spot) (same_mode w.mode w.mode) _ (eq-eqb spot.index spot.index refl) (spot_refl spot) (mode_refl w.mode) (item_refl w.reason.item w.reason.level),
)

-- no transaction has two requests
waiting_less : (txn : ℕ) (xs : List Lock) (y : Lock) (zs : List Lock) → is_waiting txn (xs ++ y ∷ zs) ≡ false → is_waiting txn (xs ++ zs) ≡ false
waiting_less txn [] y zs none = or_false-right (y.txn == txn) (is_waiting txn zs) none
waiting_less txn (x ∷ xs) y zs none =
    or_false (x.txn == txn) (is_waiting txn (xs ++ zs)) (or_false-left (x.txn == txn) _ none) (waiting_less txn xs y zs (or_false-right (x.txn == txn) _ none))

single_less : (xs : List Lock) (y : Lock) (zs : List Lock) → AreSingle (xs ++ y ∷ zs) → AreSingle (xs ++ zs)
single_less [] y zs single = single.1
single_less (x ∷ xs) y zs single = (waiting_less x.txn xs y zs single.0, single_less xs y zs single.1)

pub waiting_filter : (txn : ℕ) (test : Lock → Bool) (ws : List Lock) → is_waiting txn ws ≡ false → is_waiting txn (filter test ws) ≡ false
waiting_filter txn test [] none = refl
waiting_filter txn test (w ∷ ws) none = go (test w) (waiting_filter txn test ws (or_false-right (w.txn == txn) _ none)) where
  go : (b : Bool) → is_waiting txn (filter test ws) ≡ false → is_waiting txn (cond b (w ∷ filter test ws) (filter test ws)) ≡ false
  go true rest = or_false (w.txn == txn) _ (or_false-left (w.txn == txn) _ none) rest
  go false rest = rest

pub single_filter : (test : Lock → Bool) (ws : List Lock) → AreSingle ws → AreSingle (filter test ws)
single_filter test [] single = tt
single_filter test (w ∷ ws) single = go (test w) (single_filter test ws single.1) where
  go : (b : Bool) → AreSingle (filter test ws) → AreSingle (cond b (w ∷ filter test ws) (filter test ws))
  go true rest = (waiting_filter w.txn test ws single.0, rest)
  go false rest = rest

waiting_push : (txn : ℕ) (ws : List Lock) (y : Lock) → is_waiting txn ws ≡ false → (y.txn == txn) ≡ false → is_waiting txn (ws ++ y ∷ []) ≡ false
waiting_push txn [] y none other = or_false (y.txn == txn) false other refl
waiting_push txn (w ∷ ws) y none other =
    or_false (w.txn == txn) _ (or_false-left (w.txn == txn) _ none) (waiting_push txn ws y (or_false-right (w.txn == txn) _ none) other)

pub single_push : (ws : List Lock) (y : Lock) → AreSingle ws → is_waiting y.txn ws ≡ false → AreSingle (ws ++ y ∷ [])
single_push [] y single none = (refl, tt)
single_push (w ∷ ws) y single none = (
  waiting_push w.txn ws y single.0 (txn_sym y.txn w.txn ∙ or_false-left (w.txn == y.txn) _ none),
  single_push ws y single.1 (or_false-right (w.txn == y.txn) _ none),
)

single_served : (held earlier queue : List Lock) → AreSingle (earlier ++ queue) → AreSingle (serve held earlier queue).waiting
single_served held earlier [] single = subst AreSingle (append-nil earlier) single
single_served held earlier (asked ∷ queue) single =
    elim (is_blocked held earlier asked) as (λ d. AreSingle (cond d (serve held (earlier ++ asked ∷ []) queue) (serve (held ++ asked ∷ []) earlier queue)).waiting) [
      | true ↦ single_served held (earlier ++ asked ∷ []) queue (subst AreSingle (sym (append_assoc earlier (asked ∷ []) queue)) single)
      | false ↦ single_served (held ++ asked ∷ []) earlier queue (single_less earlier asked queue single)
    ]

-- what is blocked stays blocked when locks are added
blocked_more : (held more earlier : List Lock) (asked : Lock) → is_blocked held earlier asked ≡ true → is_blocked (held ++ more) earlier asked ≡ true
blocked_more held more earlier asked blocked =
    ap (λ b. b || list_any (λ lock. conflicts lock asked) earlier) (list_any-append (λ lock. conflicts lock asked) held more)
    ∙ go (list_any (λ lock. conflicts lock asked) held) (list_any (λ lock. conflicts lock asked) more) (list_any (λ lock. conflicts lock asked) earlier) blocked where
      go : (a b c : Bool) → (a || c) ≡ true → ((a || b) || c) ≡ true
      go true b c h = refl
      go false true c h = refl
      go false false c h = h

pub all_blocked_more : (held more earlier ws : List Lock) → AreBlocked held earlier ws → AreBlocked (held ++ more) earlier ws
all_blocked_more held more earlier [] all = tt
all_blocked_more held more earlier (w ∷ ws) all = (blocked_more held more earlier w all.0, all_blocked_more held more (earlier ++ w ∷ []) ws all.1)

pub blocked_push : (held earlier ws : List Lock) (asked : Lock) → AreBlocked held earlier ws → is_blocked held (earlier ++ ws) asked ≡ true → AreBlocked held earlier (ws ++ asked ∷ [])
blocked_push held earlier [] asked all blocked = (ap (λ ws. is_blocked held ws asked) (sym (append-nil earlier)) ∙ blocked, tt)
blocked_push held earlier (w ∷ ws) asked all blocked = (
  all.0,
  blocked_push held (earlier ++ w ∷ []) ws asked all.1 (ap (λ vs. is_blocked held vs asked) (append_assoc earlier (w ∷ []) ws) ∙ blocked),
)

blocked_served : (held earlier queue : List Lock) → AreBlocked held [] earlier → AreBlocked (serve held earlier queue).granted [] (serve held earlier queue).waiting
blocked_served held earlier [] all = all
blocked_served held earlier (asked ∷ queue) all =
    split (is_blocked held earlier asked)
    (λ blocked. subst (λ d. AreBlocked (cond d (serve held (earlier ++ asked ∷ []) queue) (serve (held ++ asked ∷ []) earlier queue)).granted []
    (cond d (serve held (earlier ++ asked ∷ []) queue) (serve (held ++ asked ∷ []) earlier queue)).waiting) (sym blocked)
    (blocked_served held (earlier ++ asked ∷ []) queue (blocked_push held [] earlier asked all blocked)))
    (λ free. subst (λ d. AreBlocked (cond d (serve held (earlier ++ asked ∷ []) queue) (serve (held ++ asked ∷ []) earlier queue)).granted []
    (cond d (serve held (earlier ++ asked ∷ []) queue) (serve (held ++ asked ∷ []) earlier queue)).waiting) (sym free)
    (blocked_served (held ++ asked ∷ []) earlier queue (all_blocked_more held (asked ∷ []) [] earlier all)))

-- locks of two lists stand side by side
abbrev pub Beside : List Lock → List Lock → Type 0
Beside held locks = AllByRecursion (λ w. AllByRecursion (λ lock. stands_beside w lock ≡ true) locks) held

beside_join : (held xs ys : List Lock) → Beside held xs → Beside held ys → Beside held (xs ++ ys)
beside_join [] xs ys a b = tt
beside_join (w ∷ held) xs ys a b = (all_append _ xs ys a.0 b.0, beside_join held xs ys a.1 b.1)

-- a lock that nothing granted blocks stands beside all that is granted, and all that beside it
free_after : (held : List Lock) (asked : Lock) → list_any (λ lock. conflicts lock asked) held ≡ false → Beside held (asked ∷ [])
free_after [] asked free = tt
free_after (w ∷ held) asked free = (
  (ap (λ b. is_intent asked.kind || not b) (or_false-left (conflicts w asked) _ free) ∙ or_true (is_intent asked.kind), tt),
  free_after held asked (or_false-right (conflicts w asked) _ free),
)

free_before : (held : List Lock) (asked : Lock) → list_any (λ lock. conflicts lock asked) held ≡ false → AllByRecursion (λ lock. stands_beside asked lock ≡ true) held
free_before [] asked free = tt
free_before (w ∷ held) asked free = (conflicts-back w asked (or_false-left (conflicts w asked) _ free), free_before held asked (or_false-right (conflicts w asked) _ free))

pub apart_push : (held : List Lock) (asked : Lock) → AreApart held → list_any (λ lock. conflicts lock asked) held ≡ false → AreApart (held ++ asked ∷ [])
apart_push held asked apart free =
    all_push _ held asked (beside_join held held (asked ∷ []) apart (free_after held asked free)) (all_push _ held asked (free_before held asked free) (own_beside asked))

apart_served : (held earlier queue : List Lock) → AreApart held → AreApart (serve held earlier queue).granted
apart_served held earlier [] apart = apart
apart_served held earlier (asked ∷ queue) apart =
    split (is_blocked held earlier asked)
    (λ blocked. subst (λ d. AreApart (cond d (serve held (earlier ++ asked ∷ []) queue) (serve (held ++ asked ∷ []) earlier queue)).granted) (sym blocked)
    (apart_served held (earlier ++ asked ∷ []) queue apart))
    (λ free. subst (λ d. AreApart (cond d (serve held (earlier ++ asked ∷ []) queue) (serve (held ++ asked ∷ []) earlier queue)).granted) (sym free)
    (apart_served (held ++ asked ∷ []) earlier queue (apart_push held asked apart (or_false-left _ _ free))))

pub apart_filter : (test : Lock → Bool) (ws : List Lock) → AreApart ws → AreApart (filter test ws)
apart_filter test ws apart = all_filter _ test ws (all_weaker _ _ (λ w all. all_filter _ test ws all) ws apart)

-- once requests are served in order, all facts hold that don't speak of the order
pub served : (held queue : List Lock) → AreApart held → AreSingle queue → AllByRecursion FitsItsRule held → AllByRecursion FitsItsRule queue
    → AreSound (serve held [] queue).granted (serve held [] queue).waiting
served held queue apart single fit fit' =
    let fits = all_served FitsItsRule held [] queue fit tt fit' in
    record {
      single = single_served held [] queue single;
      blocked = blocked_served held [] queue tt;
      apart = apart_served held [] queue apart;
      granted_fit = fits.0;
      waiting_fit = fits.1;
    }

-- locks and gap locks together
pub apart_gaps : (held gaps : List Lock) → AreApart held → ((R : Lock → Type 0) → ((rule : ℕ) (spot : Spot) (w : Lock) → R (as_gap rule spot w)) → AllByRecursion R gaps) → AreApart (held ++ gaps)
apart_gaps held gaps apart of_gaps =
    all_append _ held gaps
    (beside_join held held gaps apart (all_true_on held (λ w. of_gaps (λ lock. stands_beside w lock ≡ true) (λ rule spot v. gap_after rule spot v w))))
    (of_gaps _ (λ rule spot v. all_true _ (λ lock. gap_before rule spot v lock) (held ++ gaps))) where
      all_true_on : (ws : List Lock) → ((w : Lock) → AllByRecursion (λ lock. stands_beside w lock ≡ true) gaps) → Beside ws gaps
      all_true_on ws f = all_true _ f ws

pub apart_moved : (by : Option ℕ) (gone next : Spot) (ws : List Lock) → AreApart ws → AreApart (moved by gone next ws)
apart_moved by gone next ws apart =
    all_moved _ by gone next (λ v. all_true _ (λ lock. gap_before (number_of RecordWent) next v lock) (moved by gone next ws)) ws
    (all_weaker _ _ (λ w all. all_moved _ by gone next (λ v. gap_after (number_of RecordWent) next v w) ws all) ws apart)

-- the facts of locks, and of requests, that serving them needs
abbrev pub AreLocks : List Lock → Type 0
AreLocks held = AreApart held × AllByRecursion FitsItsRule held

abbrev pub AreRequests : List Lock → Type 0
AreRequests queue = AreSingle queue × AllByRecursion FitsItsRule queue

pub served_as : (held queue granted waiting : List Lock) → AreLocks held → AreRequests queue → granted ≡ (serve held [] queue).granted → waiting ≡ (serve held [] queue).waiting → AreSound granted waiting
served_as held queue granted waiting locks requests is is' =
    subst (λ ws. AreSound granted ws) (sym is') (subst (λ ws. AreSound ws (serve held [] queue).waiting) (sym is) (served held queue locks.0 requests.0 locks.1 requests.1))

module _ (granted waiting : List Lock) (sound : AreSound granted waiting) where
  pub locks_are : AreLocks granted
  locks_are = (sound.apart, sound.granted_fit)

  pub requests_are : AreRequests waiting
  requests_are = (sound.single, sound.waiting_fit)

  pub locks_left : (test : Lock → Bool) (held : List Lock) → held ≡ filter test granted → AreLocks held
  locks_left test held is = subst AreLocks (sym is) (apart_filter test granted sound.apart, all_filter FitsItsRule test granted sound.granted_fit)

  pub requests_left : (test : Lock → Bool) (queue : List Lock) → queue ≡ filter test waiting → AreRequests queue
  requests_left test queue is = subst AreRequests (sym is) (single_filter test waiting sound.single, all_filter FitsItsRule test waiting sound.waiting_fit)

  -- a record goes
  pub locks_moved : (by : Option ℕ) (gone next : Spot) (held held' : List Lock) → held ≡ moved by gone next granted → held' ≡ held ++ uncovered held (left_by by gone next waiting) → AreLocks held'
  locks_moved by gone next held held' is is' =
      subst AreLocks (sym (is' ∙ ap (λ ws. ws ++ uncovered ws (left_by by gone next waiting)) is)) (
        apart_gaps now gaps_left (apart_moved by gone next granted sound.apart)
            (λ R gaps. all_uncovered R now (left_by by gone next waiting) (all_left R by gone next (λ w. gaps (number_of RecordWent) next w) waiting)),
        all_append FitsItsRule now gaps_left
            (all_moved FitsItsRule by gone next (went_fits next) granted sound.granted_fit)
            (all_uncovered FitsItsRule now (left_by by gone next waiting) (all_left FitsItsRule by gone next (went_fits next) waiting)),
      ) where
        now : List Lock
        now = moved by gone next granted

        gaps_left : List Lock
        gaps_left = uncovered now (left_by by gone next waiting)

  -- a record is inserted
  pub sound_copied : (txn : ℕ) (new next : Spot) → AreSound (granted ++ copies txn new next granted) waiting
  sound_copied txn new next = record {
    single = sound.single;
    blocked = all_blocked_more granted (copies txn new next granted) [] waiting sound.blocked;
    apart = apart_gaps granted (copies txn new next granted) sound.apart (λ R gaps. all_copies R txn new next (λ w. gaps (number_of CopiedOnInsert) new w) granted);
    granted_fit = all_append FitsItsRule granted (copies txn new next granted) sound.granted_fit (all_copies FitsItsRule txn new next (copy_fits new) granted);
    waiting_fit = sound.waiting_fit;
  }

  module _ (asked : Lock) (fits : FitsItsRule asked) where
    -- a request is queued
    pub sound_queued : is_waiting asked.txn waiting ≡ false → is_blocked granted waiting asked ≡ true → AreSound granted (waiting ++ asked ∷ [])
    sound_queued none blocked = record {
      single = single_push waiting asked sound.single none;
      blocked = blocked_push granted [] waiting asked sound.blocked blocked;
      apart = sound.apart;
      granted_fit = sound.granted_fit;
      waiting_fit = all_push FitsItsRule waiting asked sound.waiting_fit fits;
    }

    -- a request is granted
    pub sound_granted : is_blocked granted waiting asked ≡ false → AreSound (granted ++ asked ∷ []) waiting
    sound_granted free = record {
      single = sound.single;
      blocked = all_blocked_more granted (asked ∷ []) [] waiting sound.blocked;
      apart = apart_push granted asked sound.apart (or_false-left _ _ free);
      granted_fit = all_push FitsItsRule granted asked sound.granted_fit fits;
      waiting_fit = sound.waiting_fit;
    }

pub upto_without : (txn : ℕ) (ws : List Lock) → length (without txn ws) ≤ length ws
upto_without txn [] = omega arith
upto_without txn (w ∷ ws) = go (w.txn == txn) (upto_without txn ws) where
  go : (b : Bool) → length (without txn ws) ≤ length ws → length (cond (not b) (w ∷ without txn ws) (without txn ws)) ≤ length (w ∷ ws)
  go true le = omega (arith, le)
  go false le = omega (arith, le)

-- who waits is one of these, and goes with its request
pub fewer_without : (txn : ℕ) (ws : List Lock) → is_waiting txn ws ≡ true → length (without txn ws) + 1 ≤ length ws
fewer_without txn [] there = cc
fewer_without txn (w ∷ ws) there = go (w.txn == txn) (λ rest. fewer_without txn ws rest) there where
  go : (b : Bool) → (is_waiting txn ws ≡ true → length (without txn ws) + 1 ≤ length ws) → (b || is_waiting txn ws) ≡ true
      → length (cond (not b) (w ∷ without txn ws) (without txn ws)) + 1 ≤ length (w ∷ ws)
  go true fewer is = omega (arith, upto_without txn ws)
  go false fewer is = let le = fewer is in omega (arith, le)

-- the copies of the inserter's locks are its own
own_free : (txn : ℕ) (new next : Spot) (locks : List Lock) (asked : Lock) → asked.txn ≡ txn → list_any (λ lock. conflicts lock asked) (own_copies txn new next locks) ≡ false
own_free txn new next [] asked own = refl
own_free txn new next (lock ∷ locks) asked own =
    let rest = own_free txn new next locks asked own in
    split (lock.txn == txn && same_spot lock.spot next && locks_gap lock.kind)
    (λ copied. subst (λ b. list_any (λ held. conflicts held asked) (cond b (as_gap (number_of CopiedOnInsert) new lock ∷ own_copies txn new next locks) (own_copies txn new next locks)) ≡ false)
    (sym copied)
    (or_false (conflicts (as_gap (number_of CopiedOnInsert) new lock) asked) _
    (ap (λ b. not b && same_spot new asked.spot && kinds_conflict Gap lock.mode (kind_of asked) asked.mode)
    (eq-eqb lock.txn asked.txn (eqb-true lock.txn txn (first (lock.txn == txn) _ (first (lock.txn == txn && same_spot lock.spot next) _ copied)) ∙ sym own)))
    rest))
    (λ not_copied. subst (λ b. list_any (λ held. conflicts held asked)
    (cond b (as_gap (number_of CopiedOnInsert) new lock ∷ own_copies txn new next locks) (own_copies txn new next locks)) ≡ false) (sym not_copied) rest)

free_uncovered : (p : Lock → Bool) (held ws : List Lock) → list_any p ws ≡ false → list_any p (uncovered held ws) ≡ false
free_uncovered p held [] none = refl
free_uncovered p held (w ∷ ws) none =
    elim (is_covered held w) as (λ b. list_any p (cond b (uncovered held ws) (w ∷ uncovered (held ++ w ∷ []) ws)) ≡ false) [
      | true ↦ free_uncovered p held ws (or_false-right (p w) _ none)
      | false ↦ or_false (p w) _ (or_false-left (p w) _ none) (free_uncovered p (held ++ w ∷ []) ws (or_false-right (p w) _ none))
    ]

pub copies_free : (txn : ℕ) (new next : Spot) (locks : List Lock) (asked : Lock) → asked.txn ≡ txn → list_any (λ lock. conflicts lock asked) (copies txn new next locks) ≡ false
copies_free txn new next locks asked own = free_uncovered (λ lock. conflicts lock asked) locks (own_copies txn new next locks) (own_free txn new next locks asked own)

-- the locks of a record that is new: its inserter's own
pub sound_inserted : (t : Table) (next : Spot) (asked : Lock) → AreSound t.granted t.waiting → FitsItsRule asked → must_wait t asked ≡ false
    → AreSound (after_insertion next asked t.granted) t.waiting
sound_inserted t next asked sound fits free =
    let here = sound_copied t.granted t.waiting sound asked.txn asked.spot next in
    split (is_covered held asked || is_intent asked.kind)
    (λ nothing. subst (λ b. AreSound (cond b held (held ++ asked ∷ [])) t.waiting) (sym nothing) here)
    (λ more. subst (λ b. AreSound (cond b held (held ++ asked ∷ [])) t.waiting) (sym more)
    (sound_granted held t.waiting here asked fits
    (let unblocked : is_blocked t.granted t.waiting asked ≡ false = ap (λ b. not b && is_blocked t.granted t.waiting asked)
    (sym (or_false-left (is_covered t.granted asked) (is_covered added asked)
    (sym (list_any-append (λ lock. covers lock asked) t.granted added) ∙ or_false-left (is_covered held asked) _ more))) ∙ free in
    or_false _ _
    (list_any-append (λ lock. conflicts lock asked) t.granted added
    ∙ or_false _ _ (or_false-left _ _ unblocked) (copies_free asked.txn asked.spot next t.granted asked refl))
    (or_false-right (list_any (λ lock. conflicts lock asked) t.granted) _ unblocked)))) where
      added : List Lock
      added = copies asked.txn asked.spot next t.granted

      held : List Lock
      held = t.granted ++ added

-- ---- whose requests were taken back

all_waiting : (R : Lock → Type 0) (held earlier queue : List Lock) → AllByRecursion R earlier → AllByRecursion R queue → AllByRecursion R (serve held earlier queue).waiting
all_waiting R held earlier [] some all = some
all_waiting R held earlier (asked ∷ queue) some all =
    elim (is_blocked held earlier asked) as (λ d. AllByRecursion R (cond d (serve held (earlier ++ asked ∷ []) queue) (serve (held ++ asked ∷ []) earlier queue)).waiting) [
      | true ↦ all_waiting R held (earlier ++ asked ∷ []) queue (all_push R earlier asked some all.0) all.1
      | false ↦ all_waiting R (held ++ asked ∷ []) earlier queue some all.1
    ]

module _ (txns : List ℕ) where
  pub others_served : (held queue waiting : List Lock) → AreOthers txns queue → waiting ≡ (serve held [] queue).waiting → AreOthers txns waiting
  others_served held queue waiting all is = subst (AreOthers txns) (sym is) (all_waiting (λ asked. is_among asked.txn txns ≡ false) held [] queue tt all)

  pub others_left : (test : Lock → Bool) (queue left : List Lock) → AreOthers txns queue → left ≡ filter test queue → AreOthers txns left
  others_left test queue left all is = subst (AreOthers txns) (sym is) (all_filter (λ asked. is_among asked.txn txns ≡ false) test queue all)

  -- one more, whose request goes
  pub others_noted : (txn : ℕ) (b : Bool) (queue : List Lock) → AreOthers txns queue → AreOthers (cond b (txns ++ txn ∷ []) txns) (without txn queue)
  others_noted txn b [] all = tt
  others_noted txn b (w ∷ queue) all =
      let rest = others_noted txn b queue all.1 in
      split (w.txn == txn)
      (λ same. subst (λ d. AreOthers now (cond (not d) (w ∷ without txn queue) (without txn queue))) (sym same) rest)
      (λ other. subst (λ d. AreOthers now (cond (not d) (w ∷ without txn queue) (without txn queue))) (sym other) (
        elim b as (λ d. is_among w.txn (cond d (txns ++ txn ∷ []) txns) ≡ false) [
          | true ↦ list_any-append (λ t. t == w.txn) txns (txn ∷ []) ∙ or_false (is_among w.txn txns) _ all.0 (or_false (txn == w.txn) false (txn_sym txn w.txn ∙ other) refl)
          | false ↦ all.0
        ],
        rest,
      )) where
        now : List ℕ
        now = cond b (txns ++ txn ∷ []) txns

among_fewer : (txn : ℕ) (test : ℕ → Bool) (txns : List ℕ) → is_among txn txns ≡ false → is_among txn (filter test txns) ≡ false
among_fewer txn test [] none = refl
among_fewer txn test (t ∷ txns) none =
    elim (test t) as (λ b. is_among txn (cond b (t ∷ filter test txns) (filter test txns)) ≡ false) [
      | true ↦ or_false (t == txn) _ (or_false-left (t == txn) _ none) (among_fewer txn test txns (or_false-right (t == txn) _ none))
      | false ↦ among_fewer txn test txns (or_false-right (t == txn) _ none)
    ]

not_among_others : (txn : ℕ) (txns : List ℕ) → is_among txn (others txn txns) ≡ false
not_among_others txn [] = refl
not_among_others txn (t ∷ txns) =
    split (t == txn)
    (λ same. subst (λ b. is_among txn (cond (not b) (t ∷ others txn txns) (others txn txns)) ≡ false) (sym same) (not_among_others txn txns))
    (λ other. subst (λ b. is_among txn (cond (not b) (t ∷ others txn txns) (others txn txns)) ≡ false) (sym other)
    (or_false (t == txn) _ other (not_among_others txn txns)))

pub others_fewer : (txn : ℕ) (txns : List ℕ) (queue : List Lock) → AreOthers txns queue → AreOthers (others txn txns) queue
others_fewer txn txns queue all = all_weaker (λ asked. is_among asked.txn txns ≡ false) (λ asked. is_among asked.txn (others txn txns) ≡ false)
    (λ asked none. among_fewer asked.txn (λ t. not (t == txn)) txns none) queue all

pub others_asked : (txns : List ℕ) (queue : List Lock) (asked : Lock) → AreOthers txns queue → AreOthers (others asked.txn txns) (queue ++ asked ∷ [])
others_asked txns queue asked all =
    all_push (λ w. is_among w.txn (others asked.txn txns) ≡ false) queue asked (others_fewer asked.txn txns queue all) (not_among_others asked.txn txns)
