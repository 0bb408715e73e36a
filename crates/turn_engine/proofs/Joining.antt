-- What it means for the seats that a session joins.
use Rattle.std.proofs.Common.{◌≡◌, ℕ, zero, suc, false, ◌<◌, ◌≤◌, List, [], ◌∷◌, ◌++◌, length, Option, Some}
use Rattle.std.proofs.Common.{refl, sym, ap, ◌∙◌, subst, arith, length-append, inr}
use Rattle.std.specs.Prelude.{Result, Ok, Err, OnOk, OnErr}
use Rattle.std.proofs.lemmas.List.{append-nil}
use Rattle.atomic_table.specs.Seated.{TableId}
use Rattle.atomic_table.specs.Table.{Me}
use Rattle.inno_model.specs.declared.board.Board.{Board}
use Rattle.inno_model.specs.declared.board.Phase.{Phase}
use Rattle.inno_model.specs.Boards.{calls_of, phase_of, Keeps}
use Rattle.inno_model.proofs.Places.{kept_calls, places_none}
use Rattle.turn_rule.specs.declared.rule.View.{View}
use Rattle.turn_rule.specs.Turnstile.{first_view}
use Rattle.turn_rule.specs.Steps.{HasTurn, HasPublished, entered, published, idle, counted, newcomer}
use Rattle.turn_engine.specs.Calls.{Makes, Joins}
use Rattle.turn_engine.specs.Turns.{Rests, Went, HasJoined}
use Rattle.turn_engine.specs.Sessions.{Sitting, own, setup, IsUncalled}
use Rattle.turn_engine.proofs.Going.{kept_by_turn, grown, extends_trans, turned}

-- session 0 knows all names, since it alone lets others join
names_known : (a b : Board) → Keeps 0 a b → b.names ≡ a.names
names_known a b k = k.names ∙ (ap (λ l. a.names ++ l) (k.alone refl) ∙ append-nil a.names)

-- a session that hadn't joined has no calls once it has
newcomer_calls : (name : List ℕ) (b c : Board) → 0 < length b.names → ((x : ℕ) → length b.names ≤ x → calls_of x b.past ≡ []) → Joins name b c
    → calls_of (length b.names) c.past ≡ []
newcomer_calls name b c some unseated j =
    kept_calls (length b.names) b c (j.grows (length b.names) (λ none. absurd (omega (arith, none)))) ∙ unseated (length b.names) (omega arith)

has_joined : (name : List ℕ) (a b c : Board) (n : ℕ) → 0 < length a.names → Keeps 0 a b → ((x : ℕ) → length b.names ≤ x → calls_of x b.past ≡ [])
    → Joins name b c → n ≡ length b.names → HasJoined name a c n
has_joined name a b c n some k unseated j is =
    let known : length b.names ≡ length a.names = ap (λ l. length l) (names_known a b k) in
    let none : calls_of (length b.names) c.past ≡ [] = newcomer_calls name b c (omega (arith, known)) unseated j in record {
      extends = extends_trans a.past b.past c.past (k.newer, k.past) (grown 0 b c j.grows);
      own = j.own ∙ kept_calls 0 a b k;
      phase_stays = j.phase_stays ∙ k.phase;
      names = j.names ∙ ap (λ l. l ++ name ∷ []) (names_known a b k);
      number = is ∙ known;
      idle = ap (phase_of c) is ∙ j.idle;
      no_calls = ap (λ (x : ℕ). calls_of x c.past) is ∙ none;
    }

-- where nobody had called, nobody has once the first session has joined
none_called : (name : List ℕ) (a b : Board) → ((x : ℕ) → calls_of x a.past ≡ []) → Joins name a b → (x : ℕ) → calls_of x b.past ≡ []
none_called name a b none j zero = j.own ∙ none 0
none_called name a b none j (suc x) = kept_calls (suc x) a b (j.grows (suc x) (λ same. absurd (omega (arith, same)))) ∙ none (suc x)

still_none_called : (a b : Board) (p : Phase) → ((x : ℕ) → calls_of x a.past ≡ []) → Makes 0 a b [] p → (x : ℕ) → calls_of x b.past ≡ []
still_none_called a b p none m zero = m.own ∙ none 0
still_none_called a b p none m (suc x) = kept_calls (suc x) a b (m.grows (suc x) (λ same. absurd (omega (arith, same)))) ∙ none (suc x)

pub first_joined : {A B : Type 0} (name : List ℕ) (a b : Board) (r : Result A B) (p : Phase) → ((x : ℕ) → calls_of x a.past ≡ []) → OnOk r (Joins name a b)
    → OnErr r (Makes 0 a b [] p) → (x : ℕ) → calls_of x b.past ≡ []
first_joined name a b (Err u) p none j m x = still_none_called a b p none m x
first_joined name a b (Ok u) p none j m x = none_called name a b none j x

pub first_named : {A B : Type 0} (name : List ℕ) (a b : Board) (r : Result A B) → a.names ≡ [] → name ≡ setup → OnOk r (Joins name a b)
    → OnOk r (b.names ≡ setup ∷ [])
first_named name a b (Err u) nobody is j = tt
first_named name a b (Ok u) nobody is j = j.names ∙ (ap (λ l. l ++ name ∷ []) nobody ∙ ap (λ (n : List ℕ). n ∷ []) is)

pub still_unnamed : {A B : Type 0} (a b : Board) (r : Result A B) (p : Phase) → a.names ≡ [] → OnErr r (Makes 0 a b [] p) → OnErr r (b.names ≡ [])
still_unnamed a b (Ok u) p nobody m = tt
still_unnamed a b (Err u) p nobody m = m.names ∙ nobody

-- the seat of the first session
pub first_rests : {E : Type 0} (m : Me (Option E) View) (b : Board) → b.names ≡ setup ∷ [] → ((x : ℕ) → calls_of x b.past ≡ []) → m ≡ (first_view b, [])
    → Rests m 0
first_rests {E} m b one none is = subst (λ (t : Me (Option E) View). Rests t 0) (sym is) (record {
  at_rest = record { slot = refl; live = refl; idle = refl; number_is = refl };
  alone = refl;
  named = omega (arith, ap (λ l. length l) one);
  placed = sym (places_none 0 b.past (none 0));
})

-- the session of that seat has no calls of its own
pub first_own : {E : Type 0} (r : Sitting) (hall gate : TableId) (m : Me (Option E) View) (b : Board) → b.names ≡ setup ∷ []
    → ((x : ℕ) → calls_of x b.past ≡ []) → m ≡ (first_view b, []) → gate ≡ hall
    → (r.hall ≡ gate) × (r.number ≡ 0) × (r.seen ≡ m.0.mine.seen) × (r.lost ≡ false)
    → (r.hall ≡ hall) × (r.number ≡ 0) × (own r ≡ []) × (r.seen.names ≡ setup ∷ []) × (r.lost ≡ false)
first_own {E} r hall gate m b one none is same h =
    let seen : r.seen ≡ b = h.2 ∙ ap (λ (t : Me (Option E) View). t.0.mine.seen) is in
    (h.0 ∙ same, h.1, ap (λ (t : Board). calls_of r.number t.past) seen ∙ none r.number, ap (λ (t : Board). t.names) seen ∙ one, h.3)

-- the engine that is handed back
pub first_uncalled : {E : Type 0} (board : E → Board) (e f : E) → f ≡ e → (board e).names ≡ setup ∷ [] → ((x : ℕ) → calls_of x (board e).past ≡ [])
    → IsUncalled (board f)
first_uncalled board e f same named none = subst (λ t. IsUncalled (board t)) (sym same) (record { quiet = none; names = inr named })

module _ {E : Type 0} (board : E → Board) where
  abbrev Mine : Type 0
  Mine = Me (Option E) View

  -- the seat once it has published what the engine shows
  shows_it : (m w u p : Mine) (e f : E) → HasTurn board m e w → u ≡ (w.0, (0, Some f) ∷ []) → HasPublished board u p
      → p ≡ (published (entered m.0 (board e)) (board f), (0, Some f) ∷ [])
  shows_it m w u p e f h put shown =
      shown f (ap (λ (t : Mine). t.1) put) ∙ (ap (λ (t : Mine). (published t.0 (board f), t.1)) put ∙ ap
      (λ (v : View). (published v (board f), (0, Some f) ∷ [])) h.view)

  pub split_joined : (name : List ℕ) (m w u p q end : Mine) (e f : E) (n : ℕ) → Rests m 0 → HasTurn board m e w → Joins name (board e) (board f)
      → n ≡ length (board e).names → u ≡ (w.0, (0, Some f) ∷ []) → HasPublished board u p → q ≡ (counted p.0, p.1) → end ≡ (idle q.0, [])
      → HasJoined name m.0.mine.seen end.0.mine.seen n
  split_joined name m w u p q end e f n r h j is put shown cut last =
      let seen : end.0.mine.seen ≡ board f =
      ap (λ (t : Mine). t.0.mine.seen) last ∙ (ap (λ (t : Mine). t.0.mine.seen) cut ∙ ap (λ (t : Mine). t.0.mine.seen)
      (shows_it m w u p e f h put shown)) in
      subst (λ (t : Board). HasJoined name m.0.mine.seen t n) (sym seen)
      (has_joined name m.0.mine.seen (board e) (board f) n r.named (kept_by_turn board 0 m w e r h) h.unseated j is)

  newcomer_rests : (name : List ℕ) (m w u p t : Mine) (e f : E) (n : ℕ) → Rests m 0 → HasTurn board m e w → Joins name (board e) (board f)
      → n ≡ length (board e).names → u ≡ (w.0, (0, Some f) ∷ []) → HasPublished board u p → t ≡ (newcomer p.0, []) → Rests t n
  newcomer_rests name m w u p t e f n r h j is put shown given =
      let known : length (board e).names ≡ length m.0.mine.seen.names =
      ap (λ l. length l) (names_known m.0.mine.seen (board e) (kept_by_turn board 0 m w e r h)) in
      let some : 0 < length (board e).names = omega (arith, r.named, known) in
      let none : calls_of n (board f).past ≡ [] = ap (λ (x : ℕ). calls_of x (board f).past) is ∙ newcomer_calls name (board e) (board f) some h.unseated j in
      subst (λ (t : Mine). Rests t n) (sym (given ∙ ap (λ (v : Mine). (newcomer v.0, [])) (shows_it m w u p e f h put shown))) (record {
        at_rest = record { slot = refl; live = refl; idle = refl; number_is = sym is };
        alone = refl;
        named = omega (arith, is, ap (λ l. length l) j.names, length-append (board e).names (name ∷ []));
        placed = sym (places_none n (board f).past none);
      })

  -- the new seat has seen what that of session 0 has
  pub split_given : (name : List ℕ) (m w u p q end t : Mine) (e f : E) (n : ℕ) → Rests m 0 → HasTurn board m e w → Joins name (board e) (board f)
      → n ≡ length (board e).names → u ≡ (w.0, (0, Some f) ∷ []) → HasPublished board u p → q ≡ (counted p.0, p.1) → end ≡ (idle q.0, [])
      → t ≡ (newcomer p.0, [])
      → Rests t n × (t.0.mine.seen ≡ end.0.mine.seen)
  split_given name m w u p q end t e f n r h j is put shown cut last given = (
    newcomer_rests name m w u p t e f n r h j is put shown given,
    ap (λ (v : Mine). v.0.mine.seen) given ∙ sym (ap (λ (v : Mine). v.0.mine.seen) last ∙ ap (λ (v : Mine). v.0.mine.seen) cut),
  )

  pub join_refused : (m w end : Mine) (e f : E) → Rests m 0 → HasTurn board m e w → end ≡ (idle (published w.0 (board f)), [])
      → Makes 0 (board e) (board f) [] (phase_of (board e) 0) → Went 0 m.0.mine.seen end.0.mine.seen [] (phase_of m.0.mine.seen 0)
  join_refused m w end e f r h is made =
      subst (λ (p : Phase). Went 0 m.0.mine.seen end.0.mine.seen [] p) (kept_by_turn board 0 m w e r h).phase
      (turned board 0 m w end e f [] (phase_of (board e) 0) r h is made)
