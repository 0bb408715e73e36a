-- A session that started an item has one.
use Rattle.std.proofs.Common.{◌≡◌, ◌∙◌, sym, ap, ℕ, ◌<◌, List, [], ◌∷◌, ◌++◌, length, take, drop, get_or, Bool, true, false, cond, eqb, arith, suc}
use Rattle.std.specs.Prelude.{◌≢◌, reverse}
use Rattle.std.proofs.lemmas.Bool.{eq-eqb}
use Rattle.std.proofs.lemmas.List.{length-append, take-append-drop, reverse-append, append_assoc}
use Rattle.std.proofs.Math.Seq.{drop-cons}
use Rattle.inno_types.specs.declared.reply.Item.{Item}
use Rattle.inno_model.specs.declared.event.Event.{Event}
use Rattle.inno_model.specs.declared.event.Event.TheVariants.{Started}
use Rattle.inno_model.specs.Text.{items}

no_nil : (xs : List Item) (x : Item) → xs ++ x ∷ [] ≢ []
no_nil xs x e = omega (arith, ap length e, length-append xs (x ∷ []))

older : (b : Bool) (xs : List Item) (x : Item) → cond b (xs ++ x ∷ []) xs ≡ [] → xs ≡ []
older true xs x h = absurd (no_nil xs x h)
older false xs x h = h

items_older : (s : ℕ) (newer past : List Event) → items s (newer ++ past) ≡ [] → items s past ≡ []
items_older s [] past h = h
items_older s (Started t j item ∷ newer) past h = items_older s newer past (older (eqb t s) (items s (newer ++ past)) item h)
items_older s (other ∷ newer) past h = items_older s newer past h

-- the entries up to one of them, newest first
split_at : (k : ℕ) (events : List Event) (event : Event) → k < length events → event ≡ get_or events k event → reverse events ≡ reverse (drop (suc k) events) ++ (event ∷ reverse (take k events))
split_at k events event bound at =
    let later = drop (suc k) events in
    ap reverse (sym (take-append-drop k events) ∙ ap (λ rest. take k events ++ rest) (drop-cons events k event bound ∙ ap (λ e. e ∷ later) (sym at)))
    ∙ reverse-append (take k events) (event ∷ later)
    ∙ ap (λ newer. newer ++ reverse (take k events)) (reverse-append (event ∷ []) later)
    ∙ append_assoc (reverse later) (event ∷ []) (reverse (take k events))

pub has_started : (s t j k : ℕ) (item : Item) (events : List Event) (event : Event) → k < length events → event ≡ get_or events k event → event ≡ Started t j item → t ≡ s → items s (reverse events) ≡ [] → ⊥
has_started s t j k item events event bound at is same none =
    let parts = split_at k events event bound at ∙ ap (λ e. reverse (drop (suc k) events) ++ (e ∷ reverse (take k events))) is in
    let now : items s (Started t j item ∷ reverse (take k events)) ≡ [] = items_older s (reverse (drop (suc k) events)) _ (ap (items s) (sym parts) ∙ none) in
    no_nil (items s (reverse (take k events))) item
    (ap (λ b. cond b (items s (reverse (take k events)) ++ item ∷ []) (items s (reverse (take k events)))) (sym (eq-eqb t s same)) ∙ now)
