-- Signals in a past: how many were asked for, given and done, and what an item that awaits one has seen.
use Rattle.std.proofs.Common.{◌≡◌, ◌≢◌, ℕ, zero, suc, ◌+◌, ◌<◌, ◌≤◌, true, false, cond, Some, None, List, [], ◌∷◌, ◌++◌, length, refl, sym}
use Rattle.std.proofs.Common.{ap, subst, ◌∙◌, inl, inr, arith}
use Rattle.std.specs.Prelude.{Bool, take, drop, reverse, bytes_eq, ◌||◌}
use Rattle.std.specs.List.{AllByRecursion, list_any}
use Rattle.std.proofs.lemmas.Bool.{false≢true}
use Rattle.std.proofs.lemmas.Bool.Decides.{nat_tests, eqb_tells}
use Rattle.std.proofs.lemmas.List.{length-reverse, take-append-drop, take-append-le, reverse-append}
use Rattle.std.proofs.Math.Seq.{take-length}
use Rattle.std.proofs.lemmas.List.Folds.{list_any-append}
use Rattle.std.proofs.lemmas.List.Sorted.{list_any-IsPermutation, IsPermutation-reverse}
use Rattle.std.proofs.lemmas.Slice.Eq.{bytes_eq-Decides}
use Rattle.inno_types.specs.declared.reply.Item.{Item}
use Rattle.inno_types.specs.declared.reply.Item.TheVariants as items
use Rattle.inno_types.specs.declared.reply.Reply.{Reply}
use Rattle.inno_types.specs.declared.reply.Reply.TheVariants as replies
use Rattle.inno_model.specs.declared.event.Event.{Event}
use Rattle.inno_model.specs.declared.event.Event.TheVariants as events
use Rattle.inno_model.specs.Past.{under_way}
use Rattle.sql_grammar.specs.Grammar.{Spells}
use Rattle.sql_history.specs.Counts.{signals, signals_asked, signals_done, is_signal_of, has_stopped}
use Rattle.sql_history.specs.Legal.{IsLegal, MayEnd, EndsBy}
use Rattle.law_past_agreement.specs.Order.{IsOrdered}
use Rattle.sql_lists.specs.Steps.{is_apart}
use Rattle.session_engine.specs.Signals.{signals_ended, AreSpent, gives, HasSeenNone}

-- ---- no more are given than items have ended

abbrev pub IsNoSignal : Event → Type 0
IsNoSignal (events.Signal name) = ⊥
IsNoSignal other = Unit {0}

no_signal : (e : Event) → is_apart e ≡ false → IsNoSignal e
no_signal (events.Signal name) is = absurd (false≢true (sym is))
no_signal e is = tt

more_ended : (b : Bool) (given ended : ℕ) → given ≤ ended → given ≤ cond b (ended + 1) ended
more_ended true given ended le = omega (arith, le)
more_ended false given ended le = le

pub spent_on : (e : Event) (h : List Event) → IsNoSignal e → AreSpent h → AreSpent (e ∷ h)
spent_on (events.Signal name) h none spent = absurd none
spent_on (events.Ended s j reply) h none spent = λ name. more_ended (is_signal_of name (under_way s h)) (signals name h) (signals_ended name h) (spent name)
spent_on e h none spent = spent

pub spent_all : (es h : List Event) → AllByRecursion (λ e. is_apart e ≡ false) es → AreSpent h → AreSpent (es ++ h)
spent_all [] h all spent = spent
spent_all (e ∷ es) h all spent = spent_on e (es ++ h) (no_signal e all.0) (spent_all es h all.1 spent)

both_more : (b : Bool) (given ended : ℕ) → given ≤ ended → cond b (given + 1) given ≤ cond b (ended + 1) ended
both_more true given ended le = omega (arith, le)
both_more false given ended le = le

pub spent_signal : (s j : ℕ) (name : List ℕ) (reply : Reply) (h : List Event) → under_way s h ≡ Some (items.Signal name) → AreSpent h
    → AreSpent (events.Ended s j reply ∷ events.Signal name ∷ h)
spent_signal s j name reply h asked spent = λ other.
    subst (λ item. signals other (events.Signal name ∷ h) ≤ cond (is_signal_of other item) (signals_ended other h + 1) (signals_ended other h)) (sym asked)
    (both_more (bytes_eq name other) (signals other h) (signals_ended other h) (spent other))

-- ---- of the items that asked for a signal, those under way have not ended

abbrev pub bit : Bool → ℕ
bit true = 1
bit false = 0

abbrev pub total : (ℕ → ℕ) → ℕ → ℕ
total f zero = 0
total f (suc n) = f n + total f n

total_same : (f g : ℕ → ℕ) (n : ℕ) → ((u : ℕ) → u < n → f u ≡ g u) → total f n ≡ total g n
total_same f g zero same = refl
total_same f g (suc n) same = omega (arith, same n (omega arith), total_same f g n (λ u lt. same u (omega (arith, lt))))

total_one : (f g : ℕ → ℕ) (n t : ℕ) → t < n → ((u : ℕ) → u ≢ t → f u ≡ g u) → total f n + g t ≡ total g n + f t
total_one f g zero t lt same = absurd (omega (arith, lt))
total_one f g (suc n) t lt same =
    elim (eqb_tells t n) [
      | inl is ↦ subst (λ u. f n + total f n + g u ≡ g n + total g n + f u) (sym is.1)
          (omega (arith, total_same f g n (λ u below. same u (λ e. absurd (omega (arith, below, e, is.1))))))
      | inr differ ↦ omega (arith, same n (λ e. differ.1 (sym e)), total_one f g n t (omega (arith, lt, differ.1)) same)
    ]

total_mono : (f : ℕ → ℕ) (n m : ℕ) → n ≤ m → total f n ≤ total f m
total_mono f n zero le = let is : 0 ≡ n = omega (arith, le) in subst (λ k. total f k ≤ 0) is (omega arith)
total_mono f n (suc m) le =
    elim (eqb_tells n (suc m)) [
      | inl is ↦ subst (λ k. total f k ≤ total f (suc m)) (sym is.1) (omega arith)
      | inr differ ↦ omega (arith, total_mono f n m (omega (arith, le, differ.1)))
    ]

module _ (name : List ℕ) where
  abbrev pub waits : List Event → ℕ → ℕ
  waits h u = bit (is_signal_of name (under_way u h))

  same_wait : (h g : List Event) (u : ℕ) → under_way u g ≡ under_way u h → waits g u ≡ waits h u
  same_wait h g u is = ap (λ item. bit (is_signal_of name item)) is

  cond_bit : (b : Bool) (n : ℕ) → cond b (n + 1) n ≡ n + bit b
  cond_bit true n = refl
  cond_bit false n = omega arith

  other_started : (t j : ℕ) (item : Item) (h : List Event) (u : ℕ) → u ≢ t → under_way u (events.Started t j item ∷ h) ≡ under_way u h
  other_started t j item h u differ = grind (arith, nat_tests, differ)

  this_started : (t j : ℕ) (item : Item) (h : List Event) → under_way t (events.Started t j item ∷ h) ≡ Some item
  this_started t j item h = grind (arith, nat_tests)

  other_ended : (t j : ℕ) (reply : Reply) (h : List Event) (u : ℕ) → u ≢ t → under_way u (events.Ended t j reply ∷ h) ≡ under_way u h
  other_ended t j reply h u differ = grind (arith, nat_tests, differ)

  this_ended : (t j : ℕ) (reply : Reply) (h : List Event) → under_way t (events.Ended t j reply ∷ h) ≡ None
  this_ended t j reply h = grind (arith, nat_tests)

  -- of the first n sessions, those whose items ask for it haven't ended
  pub counted : (h : List Event) → IsOrdered h → (n : ℕ) → signals_ended name h + total (waits h) n ≤ signals_asked name h
  counted [] ordered n = none_waits n
    where
      none_waits : (k : ℕ) → 0 + total (waits []) k ≤ 0
      none_waits zero = omega arith
      none_waits (suc k) = omega (arith, none_waits k)
  counted (events.Started t j item ∷ h) ordered n =
      let g : List Event = events.Started t j item ∷ h in
      let before : waits h t ≡ 0 = ap (λ it. bit (is_signal_of name it)) ordered.0.0 in
      let now : waits g t ≡ bit (is_signal_of name (Some item)) = ap (λ it. bit (is_signal_of name it)) (this_started t j item h) in
      let asked : signals_asked name g ≡ signals_asked name h + bit (is_signal_of name (Some item)) =
      cond_bit (is_signal_of name (Some item)) (signals_asked name h) in
      let apart : (u : ℕ) → u ≢ t → waits g u ≡ waits h u = λ u differ. same_wait h g u (other_started t j item h u differ) in
      let m = n + (t + 1) in
      let all = counted h ordered.1 m in
      let one = total_one (waits g) (waits h) m t (omega arith) apart in
      omega (arith, total_mono (waits g) n m (omega arith), all, one, before, now, asked)
  counted (events.Ended t j reply ∷ h) ordered n =
      let g : List Event = events.Ended t j reply ∷ h in
      let now : waits g t ≡ 0 = ap (λ it. bit (is_signal_of name it)) (this_ended t j reply h) in
      let ended : signals_ended name g ≡ signals_ended name h + waits h t = cond_bit (is_signal_of name (under_way t h)) (signals_ended name h) in
      let apart : (u : ℕ) → u ≢ t → waits g u ≡ waits h u = λ u differ. same_wait h g u (other_ended t j reply h u differ) in
      let m = n + (t + 1) in
      let all = counted h ordered.1 m in
      let one = total_one (waits g) (waits h) m t (omega arith) apart in
      omega (arith, total_mono (waits g) n m (omega arith), all, one, now, ended)
  counted (e ∷ h) ordered n = counted h ordered.1 n

  pub same_name : bytes_eq name name ≡ true
  same_name = (bytes_eq-Decides name name).1 refl

  -- an item that asks for it has not been counted
  pub asks_more : (s : ℕ) (h : List Event) → IsOrdered h → under_way s h ≡ Some (items.Signal name) → signals_ended name h < signals_asked name h
  asks_more s h ordered asked =
      let one : waits h s ≡ 1 = ap (λ it. bit (is_signal_of name it)) asked ∙ ap bit same_name in
      omega (arith, counted h ordered (suc s), one)

-- ---- as many were given as items were done

is_name : (other name : List ℕ) → bytes_eq other name ≡ true → other ≡ name
is_name other name is = (bytes_eq-Decides other name).0 is

-- an item of a signal that was done has a signal of its own
done_by : (stopped : Bool) (s : ℕ) (name : List ℕ) (item : Item) (h : List Event) → EndsBy stopped Spells s item replies.Done h
    → is_signal_of name (Some item) ≡ true → signals_done name h < signals name h
done_by true s name item h ends is = (let no = ends.0 in cc)
done_by false s name (items.Sql text) h ends is = absurd (false≢true is)
done_by false s name (items.Await other) h ends is = absurd (false≢true is)
done_by false s name (items.Signal other) h ends is = subst (λ n. signals_done n h < signals n h) (is_name other name is) ends.2.0

done_more : (b : Bool) (done given : ℕ) → done ≤ given → (b ≡ true → done < given) → cond b (done + 1) done ≤ given
done_more true done given le less = omega (arith, less refl)
done_more false done given le less = le

given_more : (b : Bool) (done given : ℕ) → done ≤ given → done ≤ cond b (given + 1) given
given_more true done given le = omega (arith, le)
given_more false done given le = le

ends_done : (s j : ℕ) (name : List ℕ) (h : List Event) → MayEnd Spells s j replies.Done h → is_signal_of name (under_way s h) ≡ true
    → signals_done name h < signals name h
ends_done s j name h may is =
    done_by (has_stopped h) s name may.item h may.ends (ap (is_signal_of name) (sym may.asked) ∙ is)

pub done_within : (name : List ℕ) (h : List Event) → IsLegal Spells h → signals_done name h ≤ signals name h
done_within name [] legal = omega arith
done_within name (events.Signal other ∷ h) legal =
    given_more (bytes_eq other name) (signals_done name h) (signals name h) (done_within name h legal.1)
done_within name (events.Ended s j replies.Done ∷ h) legal =
    done_more (is_signal_of name (under_way s h)) (signals_done name h) (signals name h) (done_within name h legal.1) (ends_done s j name h legal.0.1)
done_within name (e ∷ h) legal = done_within name h legal.1

-- ---- what an item that awaits one has seen

some_more : (b : Bool) (given : ℕ) (later : Bool) → (b || later) ≡ true → (later ≡ true → 0 < given) → 0 < cond b (given + 1) given
some_more true given later is some = omega arith
some_more false given later is some = some is

pub given_some : (name : List ℕ) (h : List Event) → list_any (gives name) h ≡ true → 0 < signals name h
given_some name [] is = absurd (false≢true is)
given_some name (events.Signal other ∷ h) is =
    some_more (bytes_eq other name) (signals name h) (list_any (gives name) h) is (given_some name h)
given_some name (e ∷ h) is = given_some name h is

none_more : (b : Bool) (given : ℕ) (later : Bool) → (b || later) ≡ false → (later ≡ false → given ≡ 0) → cond b (given + 1) given ≡ 0
none_more true given later is none = absurd (false≢true (sym is))
none_more false given later is none = none is

pub given_none : (name : List ℕ) (h : List Event) → list_any (gives name) h ≡ false → signals name h ≡ 0
given_none name [] is = refl
given_none name (events.Signal other ∷ h) is =
    none_more (bytes_eq other name) (signals name h) (list_any (gives name) h) is (given_none name h)
given_none name (e ∷ h) is = given_none name h is

turned : (name : List ℕ) (h : List Event) → list_any (gives name) (reverse h) ≡ list_any (gives name) h
turned name h = sym (list_any-IsPermutation (gives name) h (reverse h) (IsPermutation-reverse h))

-- the signal stands among the entries behind those that were seen, or not at all
in_parts : (name : List ℕ) (seen : ℕ) (h : List Event)
    → list_any (gives name) h ≡ (list_any (gives name) (take seen (reverse h)) || list_any (gives name) (drop seen (reverse h)))
in_parts name seen h =
    sym (turned name h) ∙ ap (list_any (gives name)) (sym (take-append-drop seen (reverse h)))
    ∙ list_any-append (gives name) (take seen (reverse h)) (drop seen (reverse h))

pub seen_then : (name : List ℕ) (seen : ℕ) (h : List Event) (b : Bool) → HasSeenNone name seen h → list_any (gives name) (drop seen (reverse h)) ≡ b
    → list_any (gives name) h ≡ b
seen_then name seen h b has is = in_parts name seen h ∙ rw (has.none) is

pub seen_all : (name : List ℕ) (h : List Event) → list_any (gives name) h ≡ false → HasSeenNone name (length h) h
seen_all name h none =
    record {
      within = omega arith;
      none = ap (λ n. list_any (gives name) (take n (reverse h))) (sym (length-reverse h)) ∙ ap (list_any (gives name)) (take-length (reverse h))
          ∙ (turned name h ∙ none);
    }

pub seen_first : (name : List ℕ) (h : List Event) → HasSeenNone name 0 h
seen_first name h = record { within = omega arith; none = refl }

-- another entry leaves it
pub seen_on : (name : List ℕ) (seen : ℕ) (e : Event) (h : List Event) → HasSeenNone name seen h → HasSeenNone name seen (e ∷ h)
seen_on name seen e h has =
    record {
      within = omega (arith, has.within);
      none = ap (λ es. list_any (gives name) (take seen es)) (reverse-append (e ∷ []) h)
          ∙ (ap (list_any (gives name)) (take-append-le seen (reverse h) (e ∷ []) (omega (arith, has.within, length-reverse h))) ∙ has.none);
    }
