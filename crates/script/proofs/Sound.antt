-- What is read can be played: each item is of a session with a name, and a statement where no signal may stand.
use Rattle.std.proofs.Common.{◌≡◌, refl, subst, ℕ, ◌+◌, ◌-◌, ◌<◌, ◌≤◌, List, [], ◌∷◌, ◌++◌, length, Bool, true, false, cond, eqb, Option, None, Some, drop, arith}
use Rattle.std.specs.Prelude.{◌≢◌, Result, Ok, Err, ◌&&◌, nat_lt, nat_le, bytes_eq, codes, slice_range, is_some}
use Rattle.std.proofs.lemmas.Bool.{eqb-false}
use Rattle.std.proofs.lemmas.List.{length-append}
use Rattle.std.proofs.lemmas.List.Elements.{All-push, All-nil}
use Rattle.std.proofs.lemmas.List.Sums.{prefix_len-le-length}
use Rattle.inno_types.specs.declared.reply.Item.{Item}
use Rattle.inno_types.specs.declared.reply.Item.TheVariants as items
use Rattle.script.specs.declared.part.Part.{Part}
use Rattle.script.specs.declared.part.Part.TheVariants.{Directive as DirectiveHere, Blank, Semicolon, Token, Unended}
use Rattle.script.specs.declared.directive.Directive.{Directive}
use Rattle.script.specs.declared.directive.Directive.TheVariants.{Session, Signal, Await, Tick}
use Rattle.script.specs.Parts.{part_at}
use Rattle.script.specs.Directives.{directive_at}
use Rattle.script.specs.declared.script.Script.{Script}
use Rattle.script.specs.declared.script.ScriptItem.{ScriptItem}
use Rattle.script.specs.declared.script.Directives.{Directives}
use Rattle.script.specs.declared.script.ScriptBad.{ScriptBad}
use Rattle.script.specs.declared.reading.Span.{Span}
use Rattle.script.specs.declared.reading.Reading.{Reading}
use Rattle.script.specs.Reading as spelled
use Rattle.script.specs.Script.{IsPlayable}
use Rattle.script.specs.declared.script.Limited.TheVariants as limited

pub record IsSound (allowed : Directives) (script : Script) (s : ℕ) : Type 0 where
  pub numbered : s < length script.names
  pub playable : IsPlayable allowed script

abbrev IsSoundReading : Directives → Reading → Type 0
IsSoundReading allowed reading = IsSound allowed reading.script reading.s

-- ---- results

apart : {A B : Type 0} (x : A) (y : B) → ◌≡◌ {A = Result A B} (Err y) (Ok x) → ⊥
apart x y is = cc

same_ok : {A B : Type 0} (x y : A) → ◌≡◌ {A = Result A B} (Ok x) (Ok y) → x ≡ y
same_ok x y is = cc

of_ok : {A B : Type 0} (P : A → Type 0) (x y : A) → ◌≡◌ {A = Result A B} (Ok x) (Ok y) → P x → P y
of_ok P x y is h = subst P (same_ok x y is) h

-- where a test leads to no refusal
unless : {A B : Type 0} (b : Bool) (bad : B) (r : Result A B) (x : A) → cond b (Err bad) r ≡ Ok x → r ≡ Ok x
unless true bad r x is = absurd (apart x bad is)
unless false bad r x is = is

where_true : {A B : Type 0} (b : Bool) (bad : B) (r : Result A B) (x : A) → cond b r (Err bad) ≡ Ok x → (b ≡ true) × (r ≡ Ok x)
where_true true bad r x is = (refl, is)
where_true false bad r x is = absurd (apart x bad is)

-- ---- an item more

one_item : (allowed : Directives) (reading : Reading) (item : Item) → (allowed.signals ≡ false → (text : List ℕ) × (item ≡ items.Sql text)) → IsSoundReading allowed reading → IsSoundReading allowed (spelled.with_item reading item)
one_item allowed reading item statement sound = record {
  numbered = sound.numbered;
  playable = record {
    named = All-push (λ (x : ScriptItem). x.s < length reading.script.names) reading.script.items (record { s = reading.s; item = item }) sound.playable.named sound.numbered;
    statements = λ none. All-push (λ (x : ScriptItem). (text : List ℕ) × (x.item ≡ items.Sql text)) reading.script.items (record { s = reading.s; item = item }) (sound.playable.statements none) (statement none);
  };
}

closed_sound : (allowed : Directives) (bytes : List ℕ) (reading : Reading) (statement : Option Span) → IsSoundReading allowed reading → IsSoundReading allowed (spelled.closed_at bytes reading statement)
closed_sound allowed bytes reading None sound = sound
closed_sound allowed bytes reading (Some span) sound = one_item allowed reading (items.Sql (slice_range bytes span.from span.to)) (λ none. (slice_range bytes span.from span.to, refl)) sound

grown_sound : (allowed : Directives) (reading : Reading) (from end : ℕ) (next : Reading) → IsSoundReading allowed reading → spelled.grown reading from end ≡ Ok next → IsSoundReading allowed next
grown_sound allowed reading from end next sound is =
    of_ok {B = ScriptBad} (IsSoundReading allowed) (record reading { statement = Some (record { from = from; to = end }); at = end }) next
    (unless (nat_lt spelled.most_statement_bytes (end - from)) (spelled.over limited.Statement spelled.most_statement_bytes) (Ok (record reading { statement = Some (record { from = from; to = end }); at = end })) next is) sound

extended_sound : (allowed : Directives) (reading : Reading) (end : ℕ) (statement : Option Span) (next : Reading) → IsSoundReading allowed reading → spelled.extended_at reading end statement ≡ Ok next → IsSoundReading allowed next
extended_sound allowed reading end (Some span) next sound is = grown_sound allowed reading span.from end next sound is
extended_sound allowed reading end None next sound is =
    grown_sound allowed reading reading.at end next sound (unless (nat_le spelled.most_items (length reading.script.items)) (spelled.over limited.Items spelled.most_items) (spelled.grown reading reading.at end) next is)

-- ---- a name more

number_within : (name : List ℕ) (names : List (List ℕ)) → spelled.number_of name names ≤ length names
number_within name names = prefix_len-le-length _ names

joined : (b : Bool) (n : ℕ) (names : List (List ℕ)) (name : List ℕ) → eqb n (length names) ≡ b → n ≤ length names → (length names ≤ length (cond b (names ++ name ∷ []) names)) × (n < length (cond b (names ++ name ∷ []) names))
joined true n names name e within = (omega (arith, length-append names (name ∷ [])), omega (arith, length-append names (name ∷ [])))
joined false n names name e within =
    let apart : n ≢ length names = eqb-false n (length names) e in
    (omega arith, omega (arith, apart))

more_names : (names : List (List ℕ)) (name : List ℕ) → (length names ≤ length (spelled.with_name names name)) × (spelled.number_of name names < length (spelled.with_name names name))
more_names names name = joined (eqb (spelled.number_of name names) (length names)) (spelled.number_of name names) names name refl (number_within name names)

named_sound : (allowed : Directives) (bytes : List ℕ) (reading : Reading) (name : List ℕ) (next : Reading) → IsSoundReading allowed reading → spelled.named bytes reading name ≡ Ok next → IsSoundReading allowed next
named_sound allowed bytes reading name next sound is =
    let names = reading.script.names in
    let after : Reading = record reading { script = record reading.script { names = spelled.with_name names name }; s = spelled.number_of name names } in
    let allowed_number = unless (bytes_eq name (codes "setup")) (spelled.bad_line bytes reading.at) (cond (nat_lt spelled.most_sessions (spelled.number_of name names)) (Err (spelled.over limited.Sessions spelled.most_sessions)) (Ok after)) next is in
    of_ok {B = ScriptBad} (IsSoundReading allowed) after next
    (unless (nat_lt spelled.most_sessions (spelled.number_of name names)) (spelled.over limited.Sessions spelled.most_sessions) (Ok after) next allowed_number)
    (record {
      numbered = (more_names names name).1;
      playable = record {
        named = λ k d h. omega (arith, sound.playable.named k d h, (more_names names name).0);
        statements = sound.playable.statements;
      };
    })

-- ---- directives

both_true : (a b : Bool) → (a && b) ≡ true → a ≡ true
both_true true b is = refl
both_true false b is = is

signalled_sound : (allowed : Directives) (bytes : List ℕ) (reading : Reading) (item : Item) (next : Reading) → IsSoundReading allowed reading → spelled.signalled allowed bytes reading item ≡ Ok next → IsSoundReading allowed next
signalled_sound allowed bytes reading item next sound is =
    let tests = where_true (allowed.signals && nat_lt 0 reading.s) (spelled.bad_line bytes reading.at) (cond (nat_le spelled.most_items (length reading.script.items)) (Err (spelled.over limited.Items spelled.most_items)) (Ok (spelled.with_item reading item))) next is in
    let signals = both_true allowed.signals (nat_lt 0 reading.s) tests.0 in
    of_ok {B = ScriptBad} (IsSoundReading allowed) (spelled.with_item reading item) next
    (unless (nat_le spelled.most_items (length reading.script.items)) (spelled.over limited.Items spelled.most_items) (Ok (spelled.with_item reading item)) next tests.1)
    (one_item allowed reading item (λ none. absurd (never signals none)) sound)
  where
    never : {b : Bool} → b ≡ true → b ≡ false → ⊥
    never is_true is_false = cc

heard_sound : (allowed : Directives) (bytes : List ℕ) (reading : Reading) (directive : Directive) (next : Reading) → IsSoundReading allowed reading → spelled.heard allowed bytes reading directive ≡ Ok next → IsSoundReading allowed next
heard_sound allowed bytes reading (Session name) next sound is = named_sound allowed bytes reading name next sound is
heard_sound allowed bytes reading (Signal name) next sound is = signalled_sound allowed bytes reading (items.Signal name) next sound is
heard_sound allowed bytes reading (Await name) next sound is = signalled_sound allowed bytes reading (items.Await name) next sound is
heard_sound allowed bytes reading (Tick seconds) next sound is =
    let after : Reading = record reading { script = record reading.script { ticks = reading.script.ticks ++ record { items = length reading.script.items; seconds = seconds } ∷ [] } } in
    of_ok {B = ScriptBad} (IsSoundReading allowed) after next (where_true allowed.ticks (spelled.bad_line bytes reading.at) (Ok after) next is).1
    (record { numbered = sound.numbered; playable = record { named = sound.playable.named; statements = sound.playable.statements } })

moved_sound : (allowed : Directives) (at : ℕ) (told : Result Reading ScriptBad) (next : Reading) → ((heard : Reading) → told ≡ Ok heard → IsSoundReading allowed heard) → spelled.moved at told ≡ Ok next → IsSoundReading allowed next
moved_sound allowed at (Ok heard) next sound is = of_ok {B = ScriptBad} (IsSoundReading allowed) (record heard { at = at }) next is (sound heard refl)
moved_sound allowed at (Err bad) next sound is = absurd (apart next bad is)

obeyed_sound : (allowed : Directives) (bytes : List ℕ) (reading : Reading) (found : Option (Directive × List ℕ)) (next : Reading) → IsSoundReading allowed reading → spelled.obeyed_at allowed bytes reading found ≡ Ok next → IsSoundReading allowed next
obeyed_sound allowed bytes reading None next sound is = absurd (apart next (spelled.bad_line bytes reading.at) is)
obeyed_sound allowed bytes reading (Some found) next sound is =
    moved_sound allowed (length bytes - length found.1) (spelled.heard allowed bytes reading found.0) next (λ heard. heard_sound allowed bytes reading found.0 heard sound) is

taken_sound : (allowed : Directives) (bytes : List ℕ) (reading : Reading) (part : Part) (next : Reading) → IsSoundReading allowed reading → spelled.taken allowed bytes reading part ≡ Ok next → IsSoundReading allowed next
taken_sound allowed bytes reading DirectiveHere next sound is = obeyed_sound allowed bytes reading (directive_at (drop reading.at bytes)) next sound is
taken_sound allowed bytes reading (Blank end) next sound is = of_ok {B = ScriptBad} (IsSoundReading allowed) (record reading { at = end }) next is sound
taken_sound allowed bytes reading Semicolon next sound is =
    of_ok {B = ScriptBad} (IsSoundReading allowed) (record (spelled.closed bytes reading) { at = reading.at + 1 }) next is (closed_sound allowed bytes reading reading.statement sound)
taken_sound allowed bytes reading (Token end) next sound is = extended_sound allowed reading end reading.statement next sound is
taken_sound allowed bytes reading Unended next sound is = absurd (apart next (spelled.bad_line bytes reading.at) is)

pub step_sound : (allowed : Directives) (bytes : List ℕ) (reading next : Reading) → IsSoundReading allowed reading → spelled.step allowed bytes reading ≡ Ok next → IsSoundReading allowed next
step_sound allowed bytes reading next sound is =
    taken_sound allowed bytes reading (part_at bytes reading.at (is_some reading.statement)) next sound
    (unless (nat_lt spelled.most_bytes (length bytes) && nat_le spelled.most_bytes reading.at) (spelled.over limited.Script spelled.most_bytes) (spelled.taken allowed bytes reading (part_at bytes reading.at (is_some reading.statement))) next is)

pub begun_sound : (allowed : Directives) → IsSoundReading allowed spelled.begun
begun_sound allowed = record {
  numbered = omega arith;
  playable = record {
    named = All-nil (λ (x : ScriptItem). x.s < 1);
    statements = λ none. All-nil (λ (x : ScriptItem). (text : List ℕ) × (x.item ≡ items.Sql text));
  };
}

pub finished_playable : (allowed : Directives) (bytes : List ℕ) (reading : Reading) (script : Script) → IsSoundReading allowed reading → spelled.finished bytes reading ≡ Ok script → IsPlayable allowed script
finished_playable allowed bytes reading script sound is =
    of_ok {B = ScriptBad} (IsPlayable allowed) (spelled.closed bytes reading).script script
    (unless (nat_lt spelled.most_bytes (length bytes)) (spelled.over limited.Script spelled.most_bytes) (Ok (spelled.closed bytes reading).script) script is)
    (closed_sound allowed bytes reading reading.statement sound).playable
