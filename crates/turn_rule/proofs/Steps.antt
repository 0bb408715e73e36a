-- Each kind of step keeps the rule of the turnstile, and tells its seat what the table shows.
use Rattle.std.proofs.Common.{◌≡◌, ◌≢◌, ℕ, zero, suc, ◌+◌, ◌<◌, ◌≤◌, ◌==◌, Bool, true, false, cond, List, [], ◌∷◌, ◌++◌, length, set, Option, Some, None, refl, sym, ap, ◌∙◌, subst, inl, inr, ⊎_elim, arith, length-append}
use Rattle.std.specs.Prelude.{slice_index, MatchBool}
use Rattle.std.proofs.lemmas.List.{append-nil as append_nil}
use Rattle.std.proofs.lemmas.Bool.Decides.{nat_tests}
use mathlib.Core.Logic.{dite}
use mathlib.Core.Option.{Option as Maybe, some, none, some-injective, some-ne-none}
use native.Mathlib.Decide.{ℕ_discrete}
use lib.ListN.{get_elem?}
use prog.Atomic.{either}
use Rattle.atomic_table.specs.Table.{State, Me, Act, step, keeps, takes, gives, Valid, homes_after, carried_after, Allows, Splits, Joins, opening, Seen, Final}
use Rattle.atomic_table.proofs.Lists.{at_set, set_here, set_else, set_again, at_longer as longer_at, at_last}
use Rattle.inno_model.specs.declared.board.Board.{Board}
use Rattle.inno_model.specs.Boards.{calls_of, places_of, Keeps, Grows}
use Rattle.inno_model.proofs.Keeping.{keeps_self}
use Rattle.inno_model.proofs.Places.{kept_calls, places_none}
use Rattle.turn_rule.specs.declared.rule.Claim.{Claim}
use Rattle.turn_rule.specs.declared.rule.View.{View}
use Rattle.turn_rule.specs.Turnstile.{claim, IsKept, Among, HasSession, IsSeat, IsHome, IsTurnKept, first_view}
use Rattle.turn_rule.specs.Steps.{HasTurn, MayHandBack, entered, published, idle, counted, newcomer, with_sessions, spent, Entered, Tried, Shown, MayPublish, MayDepart, Departed, MaySplit, IsAtRest, AllHeld, IsLast, Closes}
use Rattle.turn_rule.proofs.Claims.{off, within, at_longer, cond_yes, cond_no, seats_stay, all_kept, all_kept-append, owned_by, all_held, kept_on, others_on, apart-append, among-append, among-front, has_among, covers}

module _ {E : Type 0} (board : E → Board) where
  abbrev St : Type 0
  St = State (Option E) View

  abbrev Rule : St → Type 0
  Rule = IsTurnKept board

  abbrev state : List ℕ → List (Maybe (Option E)) → List View → St
  state ws hs vs = record { words = ws; homes = hs; views = vs }

  abbrev me : View → List (ℕ × Option E) → Me (Option E) View
  me v c = (v, c)

  abbrev slot_of : List (ℕ × Option E) → Option E
  slot_of [] = None
  slot_of (x ∷ xs) = x.1

  -- two seats that hold the turn are one
  one_holder : (s : St) (r : Rule s) (j id : ℕ) (u v : View) → get_elem? s.views j ≡ some u → get_elem? s.views id ≡ some v → u.turn ≡ true → v.turn ≡ true → j ≡ id
  one_holder s r j id u v e at t turn = ((r.seats j u e).holds t).is_holder ∙ sym ((r.seats id v at).holds turn).is_holder

  -- while a seat holds the turn, word 0 is not 0
  busy : (s : St) (r : Rule s) (id : ℕ) (v : View) → get_elem? s.views id ≡ some v → v.turn ≡ true → r.turn ≢ 0
  busy s r id v at turn z = let n = ((r.seats id v at).holds turn).number in absurd (omega arith)

  -- ---- enter and miss

  enters_free : (id new : ℕ) (v : View) (s : St) (r : Rule s) (h : IsHome board r.history r.seated s.homes) → v.live ≡ true → new ≡ v.mine.number + 1 → get_elem? s.views id ≡ some v → r.turn ≡ 0
      → let w = entered v (board h.engine) in Rule (state (new ∷ length r.history.past ∷ []) (none ∷ []) (set s.views id w)) × Entered board (me v []) (me w ((0, Some h.engine) ∷ []))
  enters_free id new v s r h live is at free =
      let b : Board = board h.engine in
      let w = entered v b in
      let f = r.seats id v at in
      let known = f.mine live in
      let all : length b.names ≡ r.seated = ap (λ (t : Board). length t.names) h.shows ∙ sym h.all in (
        record {
          turn = new;
          history = r.history;
          seated = r.seated;
          seat_of = r.seat_of;
          holder = id;
          words = refl;
          home = λ z. absurd (omega arith);
          out = λ _. record { slot = refl; view = w; at = set_here s.views id w (within s.views id v at); turn = refl };
          seats = seats_stay (IsSeat new r.history r.seated r.seat_of id) s.views id w
              (record {
                mine = λ _. record { seen = subst (λ (t : Board). Keeps v.mine.number t r.history) (sym h.shows) (keeps_self v.mine.number r.history); own = known.own; owned = known.owned; named = known.named };
                joined = f.joined;
                apart = f.apart;
                holds = λ _. record { live = live; is_holder = refl; seen = h.shows; counted = all; number = is };
              })
              (λ j u apart e. let k = r.seats j u e in record { mine = k.mine; joined = k.joined; apart = k.apart; holds = λ t. absurd (busy s r j u e t free) });
          unseated = r.unseated;
          covered = covers s.views id v w r.seat_of r.seated at (λ x m. m) r.covered;
          named = r.named;
          last = r.last;
        },
        record {
          engine = h.engine;
          view = refl;
          slot = refl;
          keeps = subst (λ (t : Board). Keeps v.mine.number v.mine.seen t) (sym h.shows) known.seen;
          own = known.own ∙ sym (ap (λ (t : Board). places_of v.mine.number t.past) h.shows);
          unseated = λ x above. ap (λ (t : Board). calls_of x t.past) h.shows ∙ r.unseated x (omega arith);
        },
      )

  enters_at : (id new : ℕ) (v : View) (s : St) (r : Rule s) → v.live ≡ true → new ≡ v.mine.number + 1 → get_elem? s.views id ≡ some v → (b : Bool) → (r.turn == 0) ≡ b
      → (w : View) × (a : Act (Option E)) × Valid s.homes [] a × Rule (state (either b new r.turn ∷ length r.history.past ∷ []) (homes_after s.homes [] a) (set s.views id w)) × MatchBool b (Entered board (me v []) (me w (carried_after [] a))) (me w (carried_after [] a) ≡ me v [])
  enters_at id new v s r live is at true free =
      let zero' : r.turn ≡ 0 = grind (arith, nat_tests) in
      let h = r.home zero' in
      let e : E = h.engine in
      let done = enters_free id new v s r h live is at zero' in (
        entered v (board e),
        takes 0 (Some e),
        ap (λ (hs : List (Maybe (Option E))). get_elem? hs 0) h.slot,
        subst (λ (hs : List (Maybe (Option E))). Rule (state (new ∷ length r.history.past ∷ []) hs (set s.views id (entered v (board e))))) (sym (ap (λ (hs : List (Maybe (Option E))). set hs 0 none) h.slot)) done.0,
        done.1,
      )
  enters_at id new v s r live is at false taken = (v, keeps, tt, subst (λ (vs : List View). Rule (state (r.turn ∷ length r.history.past ∷ []) s.homes vs)) (sym (set_again s.views id v at)) (subst (λ (ws : List ℕ). Rule (state ws s.homes s.views)) r.words r), refl)

  enters : (slots id new : ℕ) (v : View) → v.live ≡ true → new ≡ v.mine.number + 1
      → Allows Rule slots id (me v []) 0 (λ n. either (n == 0) new n) (Tried board (step slots 0 0 new none) (me v []))
  enters slots id new v live is s r count at small =
      let P : List ℕ → Type 0 = λ ws. (w : View) × (a : Act (Option E)) × Valid s.homes [] a × Rule (state (set ws 0 (either (slice_index ws 0 == 0) new (slice_index ws 0))) (homes_after s.homes [] a) (set s.views id w)) × MatchBool (slice_index ws 0 == 0) (Entered board (me v []) (me w (carried_after [] a))) (me w (carried_after [] a) ≡ me v []) in
      subst P (sym r.words) (enters_at id new v s r live is at (r.turn == 0) refl)

  pub may_enter : (slots id new : ℕ) (m : Me (Option E) View) → m.1 ≡ [] → m.0.live ≡ true → new ≡ m.0.mine.number + 1 → Allows Rule slots id m 0 (λ n. either (n == 0) new n) (Tried board (step slots 0 0 new none) m)
  may_enter slots id new m empty live is = subst (λ (c : List (ℕ × Option E)). Allows Rule slots id (me m.0 c) 0 (λ n. either (n == 0) new n) (Tried board (step slots 0 0 new none) (me m.0 c))) (sym empty) (enters slots id new m.0 live is)

  -- what entering and taking the engine out come to
  pub took : (found : ℕ) (m v w : Me (Option E) View) (e : E) → found ≡ 0 → Tried board (step 1 0 0 0 none) m found v → v.1 ≡ (0, Some e) ∷ [] → w ≡ (v.0, (0, None) ∷ []) → HasTurn board m e w
  took found m v w e free turn out rest =
      let h : Entered board m v = subst (λ (n : ℕ). MatchBool (n == 0) (Entered board m v) (v ≡ m)) free turn in
      let one : Some h.engine ≡ Some e = ap (λ (l : List (ℕ × Option E)). slot_of l) (sym h.slot ∙ out) in
      let same : h.engine ≡ e = cc in
      subst (λ (t : Me (Option E) View). HasTurn board m e t) (sym rest) (subst (λ (x : E). HasTurn board m x (me v.0 ((0, None) ∷ []))) same
      (record { view = h.view; slot = refl; keeps = h.keeps; own = h.own; unseated = h.unseated }))

  -- a seat that has the turn may hand the engine back once it has grown by calls of the seat's own session
  pub hands_back : (m w : Me (Option E) View) (e f : E) (len : ℕ) → HasTurn board m e w → Grows m.0.mine.number (board e) (board f) → (board f).names ≡ (board e).names → len ≡ length (board f).past → MayHandBack board w f len
  hands_back m w e f len h grows same is = subst (λ (t : Me (Option E) View). MayHandBack board t f len) (λ i. (sym h.view i, sym h.slot i))
      (record { slot = refl; turn = refl; settled = refl; grows = grows; same_names = same; len_is = is })

  -- ---- publish

  publishes_at : (id n : ℕ) (v : View) (e : E) (s : St) (r : Rule s) (p : MayPublish board (me v ((0, Some e) ∷ [])) n) → p.engine ≡ e → get_elem? s.views id ≡ some v
      → Rule (state (r.turn ∷ n ∷ []) s.homes (set s.views id (published v (board e))))
  publishes_at id n v e s r p one at =
      let b : Board = board e in
      let w = published v b in
      let x : ℕ = v.mine.number in
      let f = r.seats id v at in
      let h = f.holds p.turn in
      let known = f.mine h.live in
      let shown : board p.engine ≡ b = ap board one in
      let g : Grows x r.history b = subst (λ (t : Board). Grows x t b) h.seen (subst (λ (t : Board). Grows x v.mine.seen t) shown p.grows) in
      let other : (c : Claim) (j : ℕ) → j ≢ id → IsKept r.history r.seated r.seat_of j c → IsKept b r.seated r.seat_of j c =
      λ c j apart k. kept_on r.history b r.seated r.seat_of j c k (g c.number (λ same. apart (sym k.owned ∙ (ap r.seat_of same ∙ known.owned)))) in
      let names : length b.names ≤ length r.history.names + 1 = subst (λ (t : Board). length b.names ≤ length t.names + 1) h.seen (subst (λ (t : Board). length t.names ≤ length v.mine.seen.names + 1) shown p.few) in
      let longer = g (suc x) (λ z. omega arith) in record {
        turn = r.turn;
        history = b;
        seated = r.seated;
        seat_of = r.seat_of;
        holder = r.holder;
        words = ap (λ (k : ℕ). r.turn ∷ k ∷ []) (p.len_is ∙ ap (λ (t : Board). length t.past) shown);
        home = λ z. absurd (busy s r id v at p.turn z);
        out = λ some_turn. record { slot = (r.out some_turn).slot; view = w; at = ap (λ k. get_elem? (set s.views id w) k) (sym h.is_holder) ∙ set_here s.views id w (within s.views id v at); turn = p.turn };
        seats = seats_stay (IsSeat r.turn b r.seated r.seat_of r.holder) s.views id w
            (record {
              mine = λ _. record { seen = keeps_self x b; own = refl; owned = known.owned; named = known.named };
              joined = others_on r.history b r.seated r.seat_of id x v.joined (f.apart h.live).0 g f.joined;
              apart = f.apart;
              holds = λ _. record { live = h.live; is_holder = h.is_holder; seen = refl; counted = h.counted; number = h.number };
            })
            (λ j u apart at'. let k = r.seats j u at' in record {
              mine = λ live. other u.mine j apart (k.mine live);
              joined = all_kept r.history b r.seated r.seated r.seat_of r.seat_of j j (λ c. other c j apart) u.joined k.joined;
              apart = k.apart;
              holds = λ t. absurd (apart (one_holder s r j id u v at' at t p.turn));
            });
        unseated = λ y above. let named = known.named in kept_calls y r.history b (g y (λ same. absurd (omega arith))) ∙ r.unseated y above;
        covered = covers s.views id v w r.seat_of r.seated at (λ y m. m) r.covered;
        named = let a = r.named in omega (arith, ap (λ l. length l) longer.names, length-append r.history.names longer.joined);
        last = let all : r.seated ≡ length r.history.names = sym h.counted ∙ (p.settled ∙ ap (λ (t : Board). length t.names) h.seen) in omega arith;
      }

  publishes : (slots id n : ℕ) (v : View) (p0 : List (ℕ × Option E)) (p : MayPublish board (me v p0) n) → Allows Rule slots id (me v p0) 1 (λ _. n) (λ _. Shown board (step slots 1 n 0 none) (me v p0) n)
  publishes slots id n v p0 p s r count at small = (
    published v (board p.engine),
    keeps,
    tt,
    subst (λ (ws : List ℕ). Rule (state (set ws 1 n) s.homes (set s.views id (published v (board p.engine))))) (sym r.words)
        (publishes_at id n v p.engine s r (record { engine = p.engine; slot = refl; turn = p.turn; settled = p.settled; grows = p.grows; few = p.few; len_is = p.len_is }) refl at),
    λ e same. let there : Some p.engine ≡ Some e = ap (λ (l : List (ℕ × Option E)). slot_of l) (sym p.slot ∙ same) in let here : p.engine ≡ e = cc in ap (λ (x : E). me (published v (board x)) p0) here,
  )

  pub may_publish : (slots id n : ℕ) (m : Me (Option E) View) → MayPublish board m n → Allows Rule slots id m 1 (λ _. n) (λ _. Shown board (step slots 1 n 0 none) m n)
  may_publish slots id n m p = publishes slots id n m.0 m.1 p

  -- ---- depart

  departs_at : (id : ℕ) (v : View) (e : E) (s : St) (r : Rule s) → v.turn ≡ true → v.mine.seen ≡ board e → v.seated ≡ length v.mine.seen.names → get_elem? s.views id ≡ some v
      → Rule (state (0 ∷ length r.history.past ∷ []) (some (Some e) ∷ []) (set s.views id (idle v)))
  departs_at id v e s r turn seen all at =
      let f = r.seats id v at in
      let h = f.holds turn in record {
        turn = 0;
        history = r.history;
        seated = r.seated;
        seat_of = r.seat_of;
        holder = r.holder;
        words = refl;
        home = λ _. record { engine = e; slot = refl; shows = sym seen ∙ h.seen; all = sym h.counted ∙ (all ∙ ap (λ (t : Board). length t.names) h.seen) };
        out = λ z. absurd (z refl);
        seats = seats_stay (IsSeat 0 r.history r.seated r.seat_of r.holder) s.views id (idle v)
            (record { mine = f.mine; joined = f.joined; apart = f.apart; holds = λ t. absurd (off t) })
            (λ j u apart e'. let k = r.seats j u e' in record { mine = k.mine; joined = k.joined; apart = k.apart; holds = λ t. absurd (apart (one_holder s r j id u v e' at t turn)) });
        unseated = r.unseated;
        covered = covers s.views id v (idle v) r.seat_of r.seated at (λ x m. m) r.covered;
        named = r.named;
        last = r.last;
      }

  departs : (slots id : ℕ) (v : View) (e : E) → v.turn ≡ true → v.mine.seen ≡ board e → v.seated ≡ length v.mine.seen.names
      → let m = me v ((0, Some e) ∷ []) in Allows Rule slots id m 0 (λ _. 0) (λ _. Departed (step slots 0 0 0 none) m 0)
  departs slots id v e turn seen all s r count at small =
      let home : some (Some e) ∷ [] ≡ set s.homes 0 (some (Some e)) = sym (ap (λ (h : List (Maybe (Option E))). set h 0 (some (Some e))) (r.out (busy s r id v at turn)).slot) in (
        idle v,
        gives,
        tt,
        subst (λ (ws : List ℕ). Rule (state (set ws 0 0) (set s.homes 0 (some (Some e))) (set s.views id (idle v)))) (sym r.words)
            (subst (λ (hs : List (Maybe (Option E))). Rule (state (0 ∷ length r.history.past ∷ []) hs (set s.views id (idle v)))) home (departs_at id v e s r turn seen all at)),
        refl,
      )

  pub may_depart : (slots id : ℕ) (m : Me (Option E) View) → MayDepart board m → Allows Rule slots id m 0 (λ _. 0) (λ _. Departed (step slots 0 0 0 none) m 0)
  may_depart slots id m h = subst (λ (c : List (ℕ × Option E)). Allows Rule slots id (me m.0 c) 0 (λ _. 0) (λ _. Departed (step slots 0 0 0 none) (me m.0 c) 0)) (sym h.slot) (departs slots id m.0 h.engine h.turn h.seen h.all)

  -- ---- split

  pub may_split : (id : ℕ) (v : View) → MaySplit v → Splits Rule id v (counted v) (newcomer v)
  may_split id v p s r at =
      let f = r.seats id v at in
      let h = f.holds p.turn in
      let vs : List View = set s.views id (counted v) in
      let last : ℕ = length vs in
      let more : r.seated < length r.history.names = subst (λ (b : Board). r.seated < length b.names) h.seen (let t = h.counted in let o = p.owes in omega arith) in
      let o : ℕ → ℕ = λ x. cond (x == r.seated) last (r.seat_of x) in
      let old : (c : Claim) (j : ℕ) → IsKept r.history r.seated r.seat_of j c → IsKept r.history (r.seated + 1) o j c =
      λ c j k. let named = k.named in record { seen = k.seen; own = k.own; owned = cond_no c.number r.seated last (r.seat_of c.number) (λ same. absurd (omega arith)) ∙ k.owned; named = omega arith } in
      let here : get_elem? vs id ≡ some (counted v) = set_here s.views id (counted v) (within s.views id v at) in
      let seats : (j : ℕ) (u : View) → get_elem? vs j ≡ some u → IsSeat r.turn r.history (r.seated + 1) o r.holder j u =
      seats_stay (IsSeat r.turn r.history (r.seated + 1) o r.holder) s.views id (counted v)
      (record {
        mine = λ live. old v.mine id (f.mine live);
        joined = all_kept r.history r.history r.seated (r.seated + 1) r.seat_of o id id (λ c. old c id) v.joined f.joined;
        apart = f.apart;
        holds = λ _. record { live = h.live; is_holder = h.is_holder; seen = h.seen; counted = ap (λ (k : ℕ). k + 1) h.counted; number = h.number };
      })
      (λ j u apart e. let k = r.seats j u e in record {
        mine = λ live. old u.mine j (k.mine live);
        joined = all_kept r.history r.history r.seated (r.seated + 1) r.seat_of o j j (λ c. old c j) u.joined k.joined;
        apart = k.apart;
        holds = λ t. absurd (apart (one_holder s r j id u v e at t p.turn));
      }) in
      let count : v.seated ≡ r.seated = h.counted in
      let fresh : IsKept r.history (r.seated + 1) o last (claim v.seated v.mine.seen []) = record {
        seen = subst (λ (b : Board). Keeps v.seated b r.history) (sym h.seen) (keeps_self v.seated r.history);
        own = sym (places_none v.seated r.history.past (r.unseated v.seated (omega arith)));
        owned = cond_yes v.seated r.seated last (r.seat_of v.seated) count;
        named = omega arith;
      } in record {
        turn = r.turn;
        history = r.history;
        seated = r.seated + 1;
        seat_of = o;
        holder = r.holder;
        words = r.words;
        home = λ z. absurd (busy s r id v at p.turn z);
        out = λ some_turn. record { slot = (r.out some_turn).slot; view = counted v; at = ap (λ k. get_elem? (vs ++ newcomer v ∷ []) k) (sym h.is_holder) ∙ longer_at vs (newcomer v ∷ []) id (counted v) here; turn = p.turn };
        seats = λ j u e. ⊎_elim
            (λ t. seats j u t)
            (λ (t : (newcomer v ≡ u) × (j ≡ last)). subst (λ (x : ℕ × View). IsSeat r.turn r.history (r.seated + 1) o r.holder x.0 x.1) (λ i. (sym t.1 i, t.0 i)) (record { mine = λ _. fresh; joined = tt; apart = λ _. (λ m. m, tt); holds = λ t. absurd (off t) }))
            (at_longer vs (newcomer v) u j e);
        unseated = λ x above. r.unseated x (omega arith);
        covered = λ x below. dite (ℕ_discrete x r.seated)
            (λ is. (newcomer v, ap (λ k. get_elem? (vs ++ newcomer v ∷ []) k) (cond_yes x r.seated last (r.seat_of x) is) ∙ at_last vs (newcomer v) last refl, inl (refl, count ∙ sym is)))
            (λ ne. let was = covers s.views id v (counted v) r.seat_of r.seated at (λ y m. m) r.covered x (omega arith) in
            (was.0, ap (λ k. get_elem? (vs ++ newcomer v ∷ []) k) (cond_no x r.seated last (r.seat_of x) ne) ∙ longer_at vs (newcomer v ∷ []) (r.seat_of x) was.0 was.1, was.2));
        named = omega arith;
        last = let a = r.last in omega arith;
      }

  -- ---- join

  pub may_join : (id : ℕ) (v : View) (other : ℕ) (w : View) (c : List (ℕ × Option E)) (n : ℕ) → IsAtRest (me w c) n → Joins Rule id v other w (with_sessions v w) spent
  may_join id v other w c n p s r at apart at' =
      let both = with_sessions v w in
      let vs : List View = set s.views id both in
      let there : get_elem? s.views other ≡ some w = sym (set_else s.views id other both apart) ∙ at' in
      let f = r.seats id v at in
      let g = r.seats other w there in
      let o : ℕ → ℕ = λ x. cond (r.seat_of x == other) id (r.seat_of x) in
      let stays : (c : Claim) (j : ℕ) → j ≢ other → IsKept r.history r.seated r.seat_of j c → IsKept r.history r.seated o j c =
      λ c j n k. record { seen = k.seen; own = k.own; owned = cond_no (r.seat_of c.number) other id (r.seat_of c.number) (λ same. n (sym k.owned ∙ same)) ∙ k.owned; named = k.named } in
      let comes : (c : Claim) → IsKept r.history r.seated r.seat_of other c → IsKept r.history r.seated o id c =
      λ c k. record { seen = k.seen; own = k.own; owned = cond_yes (r.seat_of c.number) other id (r.seat_of c.number) k.owned; named = k.named } in
      let me_apart : id ≢ other = λ e. apart (sym e) in
      let P : ℕ → View → Type 0 = IsSeat r.turn r.history r.seated o r.holder in record {
        turn = r.turn;
        history = r.history;
        seated = r.seated;
        seat_of = o;
        holder = r.holder;
        words = r.words;
        home = r.home;
        out = λ some_turn.
            let t = r.out some_turn in
            let not_other : r.holder ≢ other = λ is. let one : w ≡ t.view = some-injective w t.view (sym there ∙ (ap (λ k. get_elem? s.views k) (sym is) ∙ t.at)) in absurd (off (sym p.idle ∙ (ap (λ x. x.turn) one ∙ t.turn))) in
            dite (ℕ_discrete r.holder id)
            (λ is. let one : v ≡ t.view = some-injective v t.view (sym at ∙ (ap (λ k. get_elem? s.views k) (sym is) ∙ t.at)) in
            record { slot = t.slot; view = both; at = set_else vs other r.holder spent not_other ∙ (ap (λ k. get_elem? vs k) is ∙ set_here s.views id both (within s.views id v at)); turn = ap (λ x. x.turn) one ∙ t.turn })
            (λ n. record { slot = t.slot; view = t.view; at = set_else vs other r.holder spent not_other ∙ (set_else s.views id r.holder both n ∙ t.at); turn = t.turn });
        seats = λ j u e. ⊎_elim
            (λ (t : (j ≡ other) × (spent ≡ u)). subst (λ (x : View). P j x) t.1 (record { mine = λ l. absurd (off l); joined = tt; apart = λ l. absurd (off l); holds = λ l. absurd (off l) }))
            (λ (t : (j ≢ other) × (get_elem? vs j ≡ some u)). (seats_stay (λ i x. i ≢ other → P i x) s.views id both
            (λ _. record {
              mine = λ l. stays v.mine id me_apart (f.mine l);
              joined = all_kept-append r.history r.seated o id v.joined (w.mine ∷ w.joined)
                  (all_kept r.history r.history r.seated r.seated r.seat_of o id id (λ c. stays c id me_apart) v.joined f.joined)
                  (comes w.mine (g.mine p.live), all_kept r.history r.history r.seated r.seated r.seat_of o other id comes w.joined g.joined);
              apart = λ l. apart-append (v.mine ∷ v.joined) (w.mine ∷ w.joined) (f.apart l) (g.apart p.live)
                  (λ x here theirs. me_apart (sym (owned_by r.history r.seated r.seat_of id (v.mine ∷ v.joined) x (f.mine l, f.joined) here) ∙ owned_by r.history r.seated r.seat_of other (w.mine ∷ w.joined) x (g.mine p.live, g.joined) theirs));
              holds = λ t. let h = f.holds t in record { live = h.live; is_holder = h.is_holder; seen = h.seen; counted = h.counted; number = h.number };
            })
            (λ i x n e' n'. let k = r.seats i x e' in record { mine = λ l. stays x.mine i n' (k.mine l); joined = all_kept r.history r.history r.seated r.seated r.seat_of o i i (λ c. stays c i n') x.joined k.joined; apart = k.apart; holds = k.holds })
            j u t.1) t.0)
            (at_set vs other j spent u e);
        unseated = r.unseated;
        covered = λ x below. let was = r.covered x below in dite (ℕ_discrete (r.seat_of x) other)
            (λ theirs. let one : w ≡ was.0 = some-injective w was.0 (sym there ∙ (ap (λ k. get_elem? s.views k) (sym theirs) ∙ was.1)) in (
              both,
              ap (λ k. get_elem? (set vs other spent) k) (cond_yes (r.seat_of x) other id (r.seat_of x) theirs) ∙ (set_else vs other id spent me_apart ∙ set_here s.views id both (within s.views id v at)),
              inr (among-append v.joined (w.mine ∷ w.joined) x (has_among w x (subst (λ (y : View). HasSession y x) (sym one) was.2))),
            ))
            (λ ne. let now' = covers s.views id v both r.seat_of r.seated at (λ y m. ⊎_elim (λ (t : (v.live ≡ true) × (v.mine.number ≡ y)). inl t) (λ (t : Among v.joined y). inr (among-front v.joined (w.mine ∷ w.joined) y t)) m) r.covered x below in
            (now'.0, ap (λ k. get_elem? (set vs other spent) k) (cond_no (r.seat_of x) other id (r.seat_of x) ne) ∙ (set_else vs other (r.seat_of x) spent ne ∙ now'.1), now'.2));
        named = r.named;
        last = r.last;
      }

  -- ---- the first table and the last

  pub opens : (e : E) → length (board e).names ≡ 1 → ((x : ℕ) → calls_of x (board e).past ≡ []) → Rule (opening (0 ∷ length (board e).past ∷ []) (Some e ∷ []) (first_view (board e)))
  opens e one none_called = record {
    turn = 0;
    history = board e;
    seated = 1;
    seat_of = λ x. 0;
    holder = 0;
    words = refl;
    home = λ _. record { engine = e; slot = refl; shows = refl; all = sym one };
    out = λ z. absurd (z refl);
    seats = only;
    unseated = λ x _. none_called x;
    covered = λ x below. (first_view (board e), refl, let z : 0 ≡ x = omega arith in inl (refl, z));
    named = omega arith;
    last = omega arith;
  }
    where
      only : (j : ℕ) (v : View) → get_elem? (first_view (board e) ∷ []) j ≡ some v → IsSeat 0 (board e) 1 (λ x. 0) 0 j v
      only zero v at = subst (λ (u : View). IsSeat 0 (board e) 1 (λ x. 0) 0 0 u) (some-injective (first_view (board e)) v at)
          (record { mine = λ _. record { seen = keeps_self 0 (board e); own = sym (places_none 0 (board e).past (none_called 0)); owned = refl; named = omega arith }; joined = tt; apart = λ _. (λ m. m, tt); holds = λ t. absurd (off t) })
      only (suc j) v at = absurd (some-ne-none v (sym at))

  -- once the last seat has taken in all others, nobody holds the turn
  last_is_free : (id : ℕ) (v : View) (s : St) (r : Rule s) → IsLast v → get_elem? s.views id ≡ some v → r.turn ≡ 0
  last_is_free id v s r last at = dite (ℕ_discrete r.turn 0) (λ z. z) (λ some_turn.
      let held = r.out some_turn in
      let u : View = held.view in
      let k = r.seats r.holder u held.at in
      let theirs = k.mine (k.holds held.turn).live in
      let f = r.seats id v at in
      let mine = f.mine last.live in
      let same_names : r.history.names ≡ v.mine.seen.names = mine.seen.names ∙ (ap (λ l. v.mine.seen.names ++ l) (mine.seen.alone last.first) ∙ append_nil v.mine.seen.names) in
      let count : length r.history.names ≡ length v.mine.seen.names = ap (λ l. length l) same_names in
      let named = theirs.named in
      let all = r.named in
      let here = owned_by r.history r.seated r.seat_of id (v.mine ∷ v.joined) u.mine.number (mine, f.joined) (last.all u.mine.number (omega arith)) in
      let same : r.holder ≡ id = sym theirs.owned ∙ here in
      let one : u ≡ v = some-injective u v (sym held.at ∙ (ap (λ i. get_elem? s.views i) same ∙ at)) in
      absurd (off (sym last.idle ∙ (sym (ap (λ x. x.turn) one) ∙ held.turn))))

  pub closes : (id : ℕ) (v : View) (ws : List ℕ) (xs : List (Option E)) → IsLast v → Final (Seen Rule id v) ws xs → (e : E) × (get_elem? xs 0 ≡ some (Some e)) × Closes board v e
  closes id v ws xs last end =
      let s = end.0 in
      let r = end.1.0 in
      let at = end.1.1 in
      let home = r.home (last_is_free id v s r last at) in
      let f = r.seats id v at in (
        home.engine,
        end.4 0 (Some home.engine) (ap (λ (h : List (Maybe (Option E))). get_elem? h 0) home.slot),
        record {
          held = subst (λ (b : Board). AllHeld b (v.mine ∷ v.joined)) (sym home.shows) (all_held r.history r.seated r.seat_of id (v.mine ∷ v.joined) (f.mine last.live, f.joined));
          unseated = subst (λ (b : Board). (x : ℕ) → length b.names ≤ x → calls_of x b.past ≡ []) (sym home.shows) (λ x none'. let all = home.all in r.unseated x (omega arith));
        },
      )

  pub closes_as : (id : ℕ) (v : View) (ws : List ℕ) (xs : List (Option E)) → IsLast v → Final (Seen Rule id v) ws xs → (o : Option E) (e : E) → get_elem? xs 0 ≡ some o → o ≡ Some e → Closes board v e
  closes_as id v ws xs last end o e at is =
      let found = closes id v ws xs last end in
      let x : E = found.0 in
      let one : Some x ≡ Some e = some-injective (Some x) (Some e) (sym found.1 ∙ (at ∙ ap some is)) in
      let same : x ≡ e = cc in
      subst (λ (y : E). Closes board v y) same found.2
