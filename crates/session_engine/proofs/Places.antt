-- What is added to the past keeps the places of its syntax errors exact.
use Rattle.std.proofs.Common.{◌≡◌, ◌∙◌, ℕ, true, Some, List, [], ◌∷◌, ◌++◌, refl, sym, subst, inl, inr}
use Rattle.std.specs.List.{AllByRecursion}
use Rattle.inno_types.specs.declared.reply.Item.TheVariants.{Sql}
use Rattle.inno_types.specs.declared.reply.Reply.{Reply}
use Rattle.inno_types.specs.declared.reply.Reply.TheVariants.{Fail}
use Rattle.inno_types.specs.declared.reply.SqlError.TheVariants.{Syntax}
use Rattle.inno_types.specs.declared.stmt.Stmt.{Stmt}
use Rattle.inno_model.specs.declared.event.Event.{Event}
use Rattle.inno_model.specs.declared.event.Event.TheVariants as events
use Rattle.inno_model.specs.Past.{is_of, under_way}
use Rattle.sql_grammar.specs.Grammar.{Spells}
use Rattle.sql_prefix.specs.declared.parser.ParseBad.TheVariants as bad
use Rattle.sql_prefix.specs.Refused.{IsRefusedAt}
use Rattle.session_engine.specs.declared.seats.SignalItem.{SignalItem}
use Rattle.session_engine.specs.declared.seats.SignalItem.TheVariants.{Gives, Awaits}
use Rattle.session_engine.specs.Seats.{HasAsked, IsSpelled}
use Rattle.session_engine.specs.Calls.{KeepsItems, HasGiven}
use Rattle.session_engine.specs.Places.{IsExact, HasExactPlaces}

-- ---- entries within an item

entry_exact : (e : Event) (past : List Event) → KeepsItems e → HasExactPlaces past → HasExactPlaces (e ∷ past)
entry_exact (events.Ended s j reply) past keeps exact = absurd keeps
entry_exact e past keeps exact = exact

pub entries_exact : (s : ℕ) (entries past : List Event) → AllByRecursion (λ e. (is_of s e ≡ true) × KeepsItems e) entries → HasExactPlaces past
    → HasExactPlaces (entries ++ past)
entries_exact s [] past each exact = exact
entries_exact s (e ∷ entries) past each exact = entry_exact e (entries ++ past) each.0.1 (entries_exact s entries past each.1 exact)

pub item_before : (e : Event) (h : List Event) (s : ℕ) → KeepsItems e → under_way s (e ∷ h) ≡ under_way s h
item_before (events.Started t j item) h s keeps = absurd keeps
item_before (events.Ended t j reply) h s keeps = absurd keeps
item_before e h s keeps = refl

item_stays : (s : ℕ) (entries past : List Event) → AllByRecursion (λ e. (is_of s e ≡ true) × KeepsItems e) entries
    → under_way s (entries ++ past) ≡ under_way s past
item_stays s [] past each = refl
item_stays s (e ∷ entries) past each = item_before e (entries ++ past) s each.0.1 ∙ item_stays s entries past each.1

pub spelled_still : (s : ℕ) (entries past : List Event) → AllByRecursion (λ e. (is_of s e ≡ true) × KeepsItems e) entries → IsSpelled s past
    → IsSpelled s (entries ++ past)
spelled_still s entries past each spelled = (spelled.0, (spelled.1.0, item_stays s entries past each ∙ spelled.1.1, spelled.1.2))

-- ---- an item ends

statement_exact : (text : List ℕ) (stmt : Stmt) → Spells text stmt → (reply : Reply) → IsExact (Some (Sql text)) reply
statement_exact text stmt spells (Fail (Syntax at)) = λ none. absurd (none stmt spells)
statement_exact text stmt spells reply = tt

pub spelled_exact : (s : ℕ) (reply : Reply) (past : List Event) → IsSpelled s past → IsExact (under_way s past) reply
spelled_exact s reply past spelled =
    subst (λ item. IsExact item reply) (sym spelled.1.1) (statement_exact spelled.1.0 spelled.0 spelled.1.2 reply)

pub refused_exact : (s at : ℕ) (text : List ℕ) (past : List Event) → under_way s past ≡ Some (Sql text) → IsRefusedAt text (bad.Syntax at)
    → IsExact (under_way s past) (Fail (Syntax at))
refused_exact s at text past item refused =
    subst (λ item. IsExact item (Fail (Syntax at))) (sym item) (λ none. (refused.0, refused.1, refused.2))

signal_exact : (s : ℕ) (item : SignalItem) (reply : Reply) (past : List Event) → HasAsked s item past → IsExact (under_way s past) reply
signal_exact s (Gives name) reply past asked = subst (λ item. IsExact item reply) (sym asked.asked) tt
signal_exact s (Awaits wait) reply past asked = subst (λ item. IsExact item reply) (sym asked.0.asked) tt

pub signals_exact : (s : ℕ) (item : SignalItem) (reply : Reply) (old past : List Event) → HasAsked s item old → HasGiven s old past → HasExactPlaces old
    → IsExact (under_way s past) reply × HasExactPlaces past
signals_exact s item reply old past asked (inl same) exact =
    subst (λ h. IsExact (under_way s h) reply × HasExactPlaces h) (sym same) (signal_exact s item reply old asked, exact)
signals_exact s item reply old past asked (inr given) exact =
    subst (λ h. IsExact (under_way s h) reply × HasExactPlaces h) (sym given.2) (signal_exact s item reply old asked, exact)
