-- What each entry makes of what the sessions have set.
use Rattle.std.proofs.Common.{◌≡◌, ◌≢◌, ℕ, ◌<◌, Bool, true, false, eqb, Some, List, [], ◌∷◌, ◌++◌, length, zero, suc, get_or, set, refl, sym, subst, inl, inr}
use Rattle.std.proofs.Common.{arith}
use Rattle.std.proofs.lemmas.Bool.Decides.{nat_tests, eqb_tells}
use Rattle.std.proofs.lemmas.List.{get_or-set_same, get_or-set_other}
use Rattle.inno_types.specs.declared.reply.Reply.TheVariants as replies
use Rattle.inno_types.specs.declared.reply.Item.TheVariants as items
use Rattle.inno_types.specs.declared.lock.Level.{Level}
use Rattle.inno_model.specs.declared.event.Event.{Event}
use Rattle.inno_model.specs.declared.event.Event.TheVariants as events
use Rattle.inno_model.specs.Past.{is_of, under_way, own, level}
use Rattle.sql_grammar.specs.Grammar.{Spells}
use Rattle.sql_lists.specs.Kept.{is_of_signal}
use Rattle.sql_history.specs.Items.{Asks}
use Rattle.sql_history.specs.Settings.{Setting, HasSet, SetByItem, at_first, at_begin, at_end, set_by}
use Rattle.std.specs.Prelude.{is_some}
use Rattle.inno_types.specs.{declared.stmt.Stmt.Stmt, declared.reply.Reply.Reply}

abbrev pub AllSet : List Event → List Setting → Type 0
AllSet h settings = (u : ℕ) → HasSet Spells u h (get_or settings u at_first)

-- an entry leaves what other sessions have set
pub set_other : (e : Event) (h : List Event) (u : ℕ) (x : Setting) → is_of u e ≡ false → HasSet Spells u h x → HasSet Spells u (e ∷ h) x
set_other (events.Begin t n l) h u x other held = rw other held
set_other (events.Committed t) h u x other held = rw other held
set_other (events.RolledBack t) h u x other held = rw other held
set_other (events.Ended t j reply) h u x other held = rw other held
set_other e h u x other held = held

same_test : (s : ℕ) → eqb s s ≡ true
same_test s = grind (arith, nat_tests)

-- of the session the entry makes this of it, and others have set what they had
pub sets_one : (e : Event) (h : List Event) (settings : List Setting) (s : ℕ) (x : Setting) → s < length settings → ((u : ℕ) → u ≢ s → is_of u e ≡ false)
    → AllSet h settings → HasSet Spells s (e ∷ h) x → AllSet (e ∷ h) (set settings s x)
sets_one e h settings s x lt others all here u =
    elim (eqb_tells u s) [
      | inl same ↦ subst (λ v. HasSet Spells v (e ∷ h) (get_or (set settings s x) v at_first)) (sym same.1)
          (subst (HasSet Spells s (e ∷ h)) (sym (get_or-set_same settings s x at_first lt)) here)
      | inr differ ↦ subst (HasSet Spells u (e ∷ h)) (sym (get_or-set_other settings s u x at_first differ.1))
          (set_other e h u (get_or settings u at_first) (others u differ.1) (all u))
    ]

-- an entry that sets nothing
pub sets_none : (e : Event) (h : List Event) (settings : List Setting) → ((u : ℕ) (x : Setting) → HasSet Spells u h x → HasSet Spells u (e ∷ h) x)
    → AllSet h settings → AllSet (e ∷ h) settings
sets_none e h settings keeps all u = keeps u (get_or settings u at_first) (all u)

-- one more session, which has set nothing
pub get_or-joined : (settings : List Setting) (u : ℕ) → get_or (settings ++ at_first ∷ []) u at_first ≡ get_or settings u at_first
get_or-joined [] zero = refl
get_or-joined [] (suc u) = refl
get_or-joined (x ∷ settings) zero = refl
get_or-joined (x ∷ settings) (suc u) = get_or-joined settings u

pub sets_joined : (h : List Event) (settings : List Setting) → AllSet h settings → AllSet h (settings ++ at_first ∷ [])
sets_joined h settings all u = subst (HasSet Spells u h) (sym (get_or-joined settings u)) (all u)

-- ---- one's own entries

pub set_at_begin : (h : List Event) (s n : ℕ) (l : Level) (x : Setting) → HasSet Spells s h x → HasSet Spells s (events.Begin s n l ∷ h) (at_begin x)
set_at_begin h s n l x held = rw (same_test s) (x, held, refl)

pub set_at_commit : (h : List Event) (s : ℕ) (x : Setting) → HasSet Spells s h x → HasSet Spells s (events.Committed s ∷ h) (at_end x)
set_at_commit h s x held = rw (same_test s) (x, held, refl)

pub set_at_rollback : (h : List Event) (s : ℕ) (x : Setting) → HasSet Spells s h x → HasSet Spells s (events.RolledBack s ∷ h) (at_end x)
set_at_rollback h s x held = rw (same_test s) (x, held, refl)

-- a reply that isn't Done sets nothing
quiet : (item : _) (reply : Reply) (made : ℕ) (is_open : Bool) (x : Setting) → reply ≢ replies.Done → SetByItem Spells item reply made is_open x x
quiet (Some (items.Sql text)) replies.Done made is_open x not_done = absurd (not_done refl)
quiet item reply made is_open x not_done = refl

pub set_at_end : (h : List Event) (s j : ℕ) (reply : Reply) (x : Setting) → reply ≢ replies.Done → HasSet Spells s h x
    → HasSet Spells s (events.Ended s j reply ∷ h) x
set_at_end h s j reply x not_done held = rw (same_test s) (x, held, quiet (under_way s h) reply (length (own s h)) (is_some (level s h)) x not_done)

-- an item of a signal sets nothing
quiet_signal : (item : _) (made : ℕ) (is_open : Bool) (x : Setting) → is_of_signal item ≡ true → SetByItem Spells item replies.Done made is_open x x
quiet_signal (Some (items.Sql text)) made is_open x asked = (let no = asked in cc)
quiet_signal item made is_open x asked = refl

pub set_at_signal : (h : List Event) (s j : ℕ) (x : Setting) → is_of_signal (under_way s h) ≡ true → HasSet Spells s h x
    → HasSet Spells s (events.Ended s j replies.Done ∷ h) x
set_at_signal h s j x asked held = rw (same_test s) (x, held, quiet_signal (under_way s h) (length (own s h)) (is_some (level s h)) x asked)

-- a statement that was done sets what it sets
pub set_at_done : (h : List Event) (s j : ℕ) (stmt : Stmt) (x : Setting) → Asks Spells s stmt h → HasSet Spells s h x
    → HasSet Spells s (events.Ended s j replies.Done ∷ h) (set_by stmt (length (own s h)) (is_some (level s h)) x)
set_at_done h s j stmt x asks held = rw (same_test s) (x, held, rw (asks.1) (stmt, asks.2, refl))
