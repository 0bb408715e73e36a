-- How far sessions are in a script, after each kind of move.
use Rattle.std.proofs.Common.{◌≡◌, ◌∙◌, sym, ap, subst, refl, ℕ, ◌+◌, ◌<◌, ◌≤◌, List, [], ◌∷◌, ◌++◌, ◌⊎◌, length, take, drop, get_or, set}
use Rattle.std.proofs.Common.{Bool, true, false, cond, eqb, arith, rules, suc, inl, inr}
use Rattle.std.specs.Prelude.{◌≢◌, max, min, All, Result, Ok, Err, OnOk, None, is_ok}
use Rattle.std.proofs.lemmas.Bool.{eq-eqb, ne_eqb}
use Rattle.std.proofs.lemmas.Bool.Decides.{eqb_tells}
use Rattle.std.proofs.lemmas.List.{take-append-drop, take-take, append-nil, get_or-set_same, get_or_past, take_more, length-take, length-take-le}
use Rattle.std.proofs.Math.Seq.{take-length}
use Rattle.inno_types.specs.declared.reply.Item.{Item}
use Rattle.inno_model.specs.declared.event.Event.{Event}
use Rattle.inno_model.specs.declared.event.Event.TheVariants.{Started}
use Rattle.inno_model.specs.Past.{under_way}
use Rattle.inno_model.specs.Text.{items}
use Rattle.script.specs.declared.script.Script.{Script}
use Rattle.script.specs.declared.script.ScriptItem.{ScriptItem}
use Rattle.script.specs.declared.script.Tick.{Tick}
use Rattle.script_play.specs.Sessions.{items_of, HasStarted, AreNamed, HaveNames, FollowsScript, HasPlayed, AllRest, seconds_in, PassesWaits}
use Rattle.script_play.proofs.Answering.{rests}

chosen : (b : Bool) (x : Item) (xs ys : List Item) → cond b (x ∷ (xs ++ ys)) (xs ++ ys) ≡ cond b (x ∷ xs) xs ++ ys
chosen true x xs ys = refl
chosen false x xs ys = refl

items_of_append : (s : ℕ) (xs ys : List ScriptItem) → items_of s (xs ++ ys) ≡ items_of s xs ++ items_of s ys
items_of_append s [] ys = refl
items_of_append s (x ∷ xs) ys = rw (items_of_append s xs ys) (chosen (eqb x.s s) x.item (items_of s xs) (items_of s ys))

pub other_item : (s n : ℕ) (script : List ScriptItem) (d : ScriptItem) → n < length script → (get_or script n d).s ≢ s
    → items_of s (take (n + 1) script) ≡ items_of s (take n script)
other_item s n script d h other =
    ap (items_of s) (take_more script n d h) ∙ items_of_append s (take n script) (get_or script n d ∷ [])
    ∙ ap (λ b. items_of s (take n script) ++ cond b ((get_or script n d).item ∷ []) []) (ne_eqb (get_or script n d).s s other) ∙ append-nil
    (items_of s (take n script))

pub own_item : (s n : ℕ) (script : List ScriptItem) (d : ScriptItem) → n < length script → (get_or script n d).s ≡ s
    → items_of s (take (n + 1) script) ≡ items_of s (take n script) ++ (get_or script n d).item ∷ []
own_item s n script d h own =
    ap (items_of s) (take_more script n d h) ∙ items_of_append s (take n script) (get_or script n d ∷ [])
    ∙ ap (λ b. items_of s (take n script) ++ cond b ((get_or script n d).item ∷ []) []) (eq-eqb (get_or script n d).s s own)

-- the place of a session moves
set_other : (places : List ℕ) (s t n : ℕ) → t ≢ s → get_or (set places s n) t 0 ≡ get_or places t 0
set_other places s t n apart = search (arith, rules)

set_within : (places : List ℕ) (s n bound : ℕ) → n ≤ bound → All (λ place. place ≤ bound) places → All (λ place. place ≤ bound) (set places s n)
set_within places s n bound h all = search (arith, rules)

-- the session starts an item before which only those of others stand from its place on
pub starts_item : (script : List ScriptItem) (places : List ℕ) (old new : List Event) (s n j : ℕ) (d : ScriptItem) → s < length places
    → n < length script → items_of s (take n script) ≡ items_of s (take (get_or places s 0) script) → (get_or script n d).s ≡ s
    → new ≡ Started s j (get_or script n d).item ∷ old → HasStarted script places old → HasStarted script (set places s (n + 1)) new
starts_item script places old new s n j d joined h over own is started = record {
  within = set_within places s (n + 1) (length script) (omega arith) started.within;
  items = λ t. elim (eqb_tells t s) [
    | inl same ↦ ap (items t) is ∙ ap (λ u. cond (eqb s u) (items u old ++ (get_or script n d).item ∷ []) (items u old)) same.1 ∙ ap
        (λ b. cond b (items s old ++ (get_or script n d).item ∷ []) (items s old)) (eq-eqb s s refl)
        ∙ ap (λ list. list ++ (get_or script n d).item ∷ []) (started.items s ∙ sym over)
        ∙ sym (own_item s n script d h own)
        ∙ ap (λ place. items_of s (take place script)) (sym (get_or-set_same places s (n + 1) 0 joined)) ∙ ap
        (λ u. items_of u (take (get_or (set places s (n + 1)) u 0) script)) (sym same.1)
    | inr other ↦ ap (items t) is ∙ ap (λ b. cond b (items t old ++ (get_or script n d).item ∷ []) (items t old)) (ne_eqb s t (λ e. other.1 (sym e)))
        ∙ started.items t ∙ ap (λ place. items_of t (take place script)) (sym (set_other places s t (n + 1) other.1))
  ];
}

-- nothing is started
pub stays : (script : List ScriptItem) (places : List ℕ) (old new : List Event) → ((s : ℕ) → items s new ≡ items s old) → HasStarted script places old
    → HasStarted script places new
stays script places old new same started = record { within = started.within; items = λ s. same s ∙ started.items s }

below : (s n : ℕ) → (s < n) ⊎ (n ≤ s)
below s n = search (arith, rules)

place_within : (bound : ℕ) (places : List ℕ) (s : ℕ) → All (λ place. place ≤ bound) places → get_or places s 0 ≤ bound
place_within bound places s within = elim (below s (length places)) [
  | inl here ↦ within s 0 here
  | inr past_all ↦ omega (arith, get_or_past places s 0 past_all)
]

known_length : (script : List ScriptItem) (n m : ℕ) → n ≤ m → n ≤ length script → n ≤ length (take m script)
known_length script n m h short = search (arith, rules, length-take)

-- more of the items are known
pub more_known : (script : List ScriptItem) (n m : ℕ) (places : List ℕ) (past : List Event) → n ≤ m → n ≤ length script
    → HasStarted (take n script) places past → HasStarted (take m script) places past
more_known script n m places past h short started =
    let front = length-take-le n script short in
    record {
      within = λ k d here. let fits = started.within k d here in omega (arith, fits, front, known_length script n m h short);
      items = λ s. let fits = place_within (length (take n script)) places s started.within in
          started.items s ∙ ap (items_of s) (take-take (get_or places s 0) n script (omega (arith, fits, front))
          ∙ sym (take-take (get_or places s 0) m script (omega (arith, fits, front, h))));
    }

pub whole_known : (script : List ScriptItem) (n : ℕ) (places : List ℕ) (past : List Event) → n ≤ length script
    → HasStarted (take n script) places past → HasStarted script places past
whole_known script n places past h started =
    subst (λ (list : List ScriptItem). HasStarted list places past) (take-length script) (more_known script n (length script) places past h h started)

-- what is known by then is no more than there is
pub no_further : (n known until most : ℕ) → known ≤ most → n ≡ max known (min until most) → n ≤ most
no_further n known until most h e = omega arith

pub follows : (script : List ScriptItem) (places : List ℕ) (past : List Event) → HasStarted script places past → FollowsScript script past
follows script places past started s =
    let place = get_or places s 0 in (
      items_of s (drop place script),
      ap (items_of s) (sym (take-append-drop place script)) ∙ items_of_append s (take place script) (drop place script) ∙ ap
          (λ list. list ++ items_of s (drop place script)) (sym (started.items s)),
    )

pub follows_nothing : (script : List ScriptItem) (past : List Event) → ((s : ℕ) → items s past ≡ []) → FollowsScript script past
follows_nothing script past nothing s = (items_of s script, ap (λ list. list ++ items_of s script) (sym (nothing s)))

-- where nobody has joined
pub nobody_named : (script : Script) (names : List (List ℕ)) → names ≡ [] → AreNamed script names
nobody_named script names none = (script.names, sym (ap (λ (list : List (List ℕ)). list ++ script.names) none))

-- a session without a name has no item
pub nobodys : (s n : ℕ) (script : List ScriptItem) → n ≤ s → All (λ item. item.s < n) script → items_of s script ≡ []
nobodys s n [] h named = refl
nobodys s n (x ∷ script) h named =
    let first : 0 < length (x ∷ script) = omega arith in
    let apart : x.s ≢ s = omega (arith, named 0 x first) in
    ap (λ b. cond b (x.item ∷ items_of s script) (items_of s script)) (ne_eqb x.s s apart) ∙ nobodys s n script h
    (λ k d bound. named (suc k) d (omega (arith, bound)))

-- all places are at the end
pub to_the_end : (script : Script) (places : List ℕ) (names : List (List ℕ)) (past : List Event) → HaveNames script → names ≡ script.names
    → length places ≡ length names → All (λ place. place ≡ length script.items) places
    → HasStarted script.items places past → HasPlayed script names past
to_the_end script places names past have_names names_are count ends started = record {
  names_are = names_are;
  items = λ s. elim (below s (length places)) [
    | inl here ↦ started.items s ∙ ap (λ place. items_of s (take place script.items)) (ends s 0 here) ∙ ap (items_of s) (take-length script.items)
    | inr past_all ↦ started.items s ∙ ap (λ place. items_of s (take place script.items)) (get_or_past places s 0 past_all)
        ∙ sym (nobodys s (length script.names) script.items (omega (arith, past_all, count, ap length names_are)) have_names)
  ];
}

-- none of the joined sessions has an item under way, and no other has one at all
pub to_rest : (script : List ScriptItem) (places : List ℕ) (past : List Event) → HasStarted script places past
    → ((s : ℕ) → s < length places → under_way s past ≡ None) → AllRest past
to_rest script places past started rest s = elim (below s (length places)) [
  | inl here ↦ rest s here
  | inr apart ↦ rests s past (started.items s ∙ ap (λ place. items_of s (take place script)) (get_or_past places s 0 apart))
]

-- what follows from the value of a call that succeeded
pub on_ok : {T E P Q : Type 0} (result : Result T E) → (P → Q) → OnOk result P → OnOk result Q
on_ok (Ok value) f p = f p
on_ok (Err error) f p = p

pub of_ok : {T E P : Type 0} (result : Result T E) → is_ok result ≡ true → OnOk result P → P
of_ok (Ok value) is p = p
of_ok (Err error) is p = cc

-- no time but waits passes, and then no time but waits
pub waits_on : (a b c : ℕ) → PassesWaits a b → PassesWaits b c → PassesWaits a c
waits_on a b c one other = (one.0 + other.0, let first = one.1 in let second = other.1 in omega (arith, first, second))

-- the script's seconds, one tick after another
seconds_append : (ticks : List Tick) (tick : Tick) → seconds_in (ticks ++ tick ∷ []) ≡ seconds_in ticks + tick.seconds
seconds_append [] tick = omega arith
seconds_append (first ∷ ticks) tick = omega (arith, seconds_append ticks tick)

pub seconds_more : (ticks : List Tick) (n : ℕ) (d : Tick) → n < length ticks
    → seconds_in (take (n + 1) ticks) ≡ seconds_in (take n ticks) + (get_or ticks n d).seconds
seconds_more ticks n d h = ap seconds_in (take_more ticks n d h) ∙ seconds_append (take n ticks) (get_or ticks n d)
