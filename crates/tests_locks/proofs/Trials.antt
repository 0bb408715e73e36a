-- What the calls of the tests' fake engine mean for a seat.
use Rattle.std.proofs.Common.{◌≡◌, ℕ, zero, suc, ◌+◌, ◌<◌, List, [], ◌∷◌, ◌++◌, length, Option, Some, refl, sym, ap, ◌∙◌, subst, inl, inr, eq-eqb, ne_eqb, arith, length-append}
use Rattle.std.specs.Prelude.{Result, Ok, Err, OnOk, OnErr}
use Rattle.std.specs.declared.alloc.AllocError.{AllocError}
use Rattle.std.proofs.lemmas.List.{append-nil}
use Rattle.atomic_table.specs.Table.{Me}
use Rattle.inno_types.specs.declared.reply.Item.TheVariants.{Sql}
use Rattle.inno_types.specs.declared.reply.Reply.TheVariants.{Done}
use Rattle.inno_model.specs.declared.event.Event.TheVariants.{Started, Ended}
use Rattle.inno_model.specs.declared.board.Board.{Board}
use Rattle.inno_model.specs.Boards.{calls_of, Keeps, Grows}
use Rattle.inno_model.proofs.Keeping.{grows_self}
use Rattle.inno_model.proofs.Places.{kept_calls}
use Rattle.turn_rule.specs.declared.rule.Claim.{Claim}
use Rattle.turn_rule.specs.declared.rule.View.{View}
use Rattle.turn_rule.specs.Turnstile.{Among}
use Rattle.turn_rule.specs.Steps.{IsAtRest, HasTurn, MayHandBack, HasPublished, MaySplit, MayDepart, IsLast, entered, published, idle, counted, newcomer, with_sessions}
use Rattle.turn_rule.proofs.Steps.{hands_back}

abbrev Mine : Type 0
Mine = Me (Option Board) View

abbrev itself : Board → Board
itself b = b

-- the board after a whole call
abbrev after_call : ℕ → ℕ → Board → Board
after_call s j b = record { names = b.names; past = Ended s j Done ∷ Started s j (Sql []) ∷ b.past; phases = b.phases }

-- the board once a session has joined
abbrev after_join : List ℕ → Board → Board
after_join name b = record { names = b.names ++ name ∷ []; past = b.past; phases = b.phases }

call_grows : (s j : ℕ) (b : Board) → Grows s b (after_call s j b)
call_grows s j b y apart = record {
  newer = Ended s j Done ∷ Started s j (Sql []) ∷ [];
  past = refl;
  quiet = rw (ne_eqb s y (λ same. apart (sym same))) refl;
  phase = refl;
  joined = [];
  names = sym (append-nil b.names);
  alone = λ _. refl;
}

join_grows : (name : List ℕ) (b : Board) → Grows 0 b (after_join name b)
join_grows name b y apart = record { newer = []; past = refl; quiet = refl; phase = refl; joined = name ∷ []; names = refl; alone = λ first. absurd (apart first) }

-- ---- a call in a turn

pub call_handed_back : (s j len : ℕ) (m w : Mine) (a b : Board) (r : Result (Unit {0}) AllocError) → IsAtRest m s → HasTurn (λ e. e) m a w → OnOk r (b ≡ after_call s j a) → OnErr r (b ≡ a) → len ≡ length b.past → MayHandBack (λ e. e) w b len
call_handed_back s j len m w a b (Ok u) rest h ok err is =
    hands_back itself m w a b len h (subst (λ (x : ℕ). Grows x a b) (sym rest.number_is) (subst (λ (t : Board). Grows s a t) (sym ok) (call_grows s j a))) (ap (λ (t : Board). t.names) ok) is
call_handed_back s j len m w a b (Err u) rest h ok err is =
    hands_back itself m w a b len h (subst (λ (t : Board). Grows m.0.mine.number a t) (sym err) (grows_self m.0.mine.number a)) (ap (λ (t : Board). t.names) err) is

own_of_call : (s j : ℕ) (b : Board) → calls_of s (after_call s j b).past ≡ Ended s j Done ∷ Started s j (Sql []) ∷ calls_of s b.past
own_of_call s j b = rw (eq-eqb s s refl) refl

pub call_is_own : (s j : ℕ) (m w end : Mine) (a b : Board) (r : Result (Unit {0}) AllocError) → IsAtRest m s → HasTurn (λ e. e) m a w → OnOk r (b ≡ after_call s j a) → end ≡ (idle (published w.0 b), [])
    → OnOk r (calls_of s end.0.mine.seen.past ≡ Ended s j Done ∷ Started s j (Sql []) ∷ calls_of s m.0.mine.seen.past)
call_is_own s j m w end a b (Err u) rest h ok is = tt
call_is_own s j m w end a b (Ok u) rest h ok is =
    let before : calls_of s a.past ≡ calls_of s m.0.mine.seen.past = kept_calls s m.0.mine.seen a (subst (λ (x : ℕ). Keeps x m.0.mine.seen a) rest.number_is h.keeps) in
    ap (λ (t : Mine). calls_of s t.0.mine.seen.past) is ∙ (ap (λ (t : Board). calls_of s t.past) ok ∙ (own_of_call s j a ∙ ap (λ l. Ended s j Done ∷ Started s j (Sql []) ∷ l) before))

-- ---- a session that joins

-- the seat once it has published that name
joined_seat : (name : List ℕ) (m w u p : Mine) (a b : Board) → HasTurn (λ e. e) m a w → u ≡ (w.0, (0, Some b) ∷ []) → HasPublished (λ e. e) u p → p ≡ (published (entered m.0 a) b, (0, Some b) ∷ [])
joined_seat name m w u p a b h put shown =
    shown b (ap (λ (t : Mine). t.1) put) ∙ (ap (λ (t : Mine). (published t.0 b, t.1)) put ∙ ap (λ (v : View). (published v b, (0, Some b) ∷ [])) h.view)

pub join_may_split : (name : List ℕ) (m w u p : Mine) (a b : Board) → HasTurn (λ e. e) m a w → b ≡ after_join name a → u ≡ (w.0, (0, Some b) ∷ []) → HasPublished (λ e. e) u p → MaySplit p.0
join_may_split name m w u p a b h is put shown = subst (λ (t : Mine). MaySplit t.0) (sym (joined_seat name m w u p a b h put shown)) (record {
  turn = refl;
  owes = omega (arith, ap (λ (t : Board). length t.names) is, length-append a.names (name ∷ []));
})

pub join_may_depart : (name : List ℕ) (m w u p q : Mine) (a b : Board) → HasTurn (λ e. e) m a w → b ≡ after_join name a → u ≡ (w.0, (0, Some b) ∷ []) → HasPublished (λ e. e) u p → q ≡ (counted p.0, p.1) → MayDepart (λ e. e) q
join_may_depart name m w u p q a b h is put shown cut = subst (λ (t : Mine). MayDepart (λ e. e) t) (sym cut) (subst (λ (t : Mine). MayDepart (λ e. e) (counted t.0, t.1)) (sym (joined_seat name m w u p a b h put shown)) (record {
  engine = b;
  slot = refl;
  turn = refl;
  seen = refl;
  all = omega (arith, ap (λ (t : Board). length t.names) is, length-append a.names (name ∷ []));
}))

-- session 0 knows the names, since it alone lets others join
names_known : (m w : Mine) (a : Board) → IsAtRest m 0 → HasTurn (λ e. e) m a w → a.names ≡ m.0.mine.seen.names
names_known m w a rest h = h.keeps.names ∙ (ap (λ l. m.0.mine.seen.names ++ l) (h.keeps.alone rest.number_is) ∙ append-nil m.0.mine.seen.names)

pub newcomer_rests : (name : List ℕ) (m w u p r : Mine) (a b : Board) → IsAtRest m 0 → HasTurn (λ e. e) m a w → u ≡ (w.0, (0, Some b) ∷ []) → HasPublished (λ e. e) u p → r ≡ (newcomer p.0, []) → IsAtRest r (length m.0.mine.seen.names)
newcomer_rests name m w u p r a b rest h put shown given = subst (λ (t : Mine). IsAtRest t (length m.0.mine.seen.names)) (sym given) (subst (λ (t : Mine). IsAtRest {E = Board} (newcomer t.0, []) (length m.0.mine.seen.names)) (sym (joined_seat name m w u p a b h put shown)) (record {
  slot = refl;
  live = refl;
  idle = refl;
  number_is = ap (λ l. length l) (names_known m w a rest h);
}))

pub first_rests : (name : List ℕ) (m w u p q end : Mine) (a b : Board) → IsAtRest m 0 → HasTurn (λ e. e) m a w → u ≡ (w.0, (0, Some b) ∷ []) → HasPublished (λ e. e) u p → q ≡ (counted p.0, p.1) → end ≡ (idle q.0, []) → IsAtRest end 0
first_rests name m w u p q end a b rest h put shown cut last = subst (λ (t : Mine). IsAtRest t 0) (sym last) (subst (λ (t : Mine). IsAtRest {E = Board} (idle t.0, []) 0) (sym cut) (subst (λ (t : Mine). IsAtRest {E = Board} (idle (counted t.0), []) 0) (sym (joined_seat name m w u p a b h put shown))
    (record { slot = refl; live = rest.live; idle = refl; number_is = rest.number_is })))

pub one_name_more : (name : List ℕ) (m w u p q end : Mine) (a b : Board) → IsAtRest m 0 → HasTurn (λ e. e) m a w → b ≡ after_join name a → u ≡ (w.0, (0, Some b) ∷ []) → HasPublished (λ e. e) u p → q ≡ (counted p.0, p.1) → end ≡ (idle q.0, [])
    → length end.0.mine.seen.names ≡ length m.0.mine.seen.names + 1
one_name_more name m w u p q end a b rest h is put shown cut last =
    let seen : end.0.mine.seen ≡ b = ap (λ (t : Mine). t.0.mine.seen) last ∙ (ap (λ (t : Mine). t.0.mine.seen) cut ∙ ap (λ (t : Mine). t.0.mine.seen) (joined_seat name m w u p a b h put shown)) in
    let known : length a.names ≡ length m.0.mine.seen.names = ap (λ l. length l) (names_known m w a rest h) in
    let more : length end.0.mine.seen.names ≡ length (a.names ++ name ∷ []) = ap (λ (t : Board). length t.names) (seen ∙ is) in
    more ∙ (length-append a.names (name ∷ []) ∙ ap (λ (n : ℕ). n + 1) known)

-- ---- three sessions

pub last_of_three : (m x y u v : Mine) → IsAtRest m 0 → IsAtRest x 1 → IsAtRest y 2 → length m.0.mine.seen.names ≡ 3 → u ≡ (with_sessions m.0 x.0, m.1) → v ≡ (with_sessions u.0 y.0, u.1) → IsLast v.0
last_of_three m x y u v rest one two names first second = subst (λ (t : Mine). IsLast t.0) (sym second) (subst (λ (t : Mine). IsLast (with_sessions t.0 y.0)) (sym first) (record {
  live = rest.live;
  idle = rest.idle;
  first = rest.number_is;
  all = each m.0.joined;
}))
  where
    behind : (cs : List Claim) (n : ℕ) (ds : List Claim) → Among ds n → Among (cs ++ ds) n
    behind [] n ds h = h
    behind (c ∷ cs) n ds h = inr (behind cs n ds h)

    before : (cs : List Claim) (n : ℕ) (ds : List Claim) → Among cs n → Among (cs ++ ds) n
    before [] n ds h = absurd h
    before (c ∷ cs) n ds (inl h) = inl h
    before (c ∷ cs) n ds (inr h) = inr (before cs n ds h)

    each : (cs : List Claim) (n : ℕ) → n < length m.0.mine.seen.names → Among (m.0.mine ∷ ((cs ++ x.0.mine ∷ x.0.joined) ++ y.0.mine ∷ y.0.joined)) n
    each cs zero h = inl rest.number_is
    each cs (suc zero) h = inr (before (cs ++ x.0.mine ∷ x.0.joined) 1 (y.0.mine ∷ y.0.joined) (behind cs 1 (x.0.mine ∷ x.0.joined) (inl one.number_is)))
    each cs (suc (suc zero)) h = inr (behind (cs ++ x.0.mine ∷ x.0.joined) 2 (y.0.mine ∷ y.0.joined) (inl two.number_is))
    each cs (suc (suc (suc n))) h = absurd (omega (arith, names))
