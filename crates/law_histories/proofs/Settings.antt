-- A history whose texts are read by the grammar asks for one statement in each item, and sets one thing for each session.
use Rattle.std.proofs.Common.{◌≡◌, ℕ, List, [], ◌∷◌, length, Option, Some, Bool, true, false, refl, sym, ap, ◌∙◌, subst}
use Rattle.std.specs.Prelude.{is_some, ◌==◌}
use Rattle.inno_types.specs.declared.reply.Item.{Item}
use Rattle.inno_types.specs.declared.reply.Item.TheVariants.{Sql}
use Rattle.inno_types.specs.declared.reply.Reply.{Reply}
use Rattle.inno_types.specs.declared.reply.Reply.TheVariants.{Done}
use Rattle.inno_types.specs.declared.stmt.Stmt.{Stmt}
use Rattle.inno_types.specs.declared.stmt.Stmt.TheVariants as stmt
use Rattle.inno_model.specs.declared.event.Event.{Event}
use Rattle.inno_model.specs.declared.event.Event.TheVariants.{Begin, Ended, Committed, RolledBack}
use Rattle.inno_model.specs.Past.{level, own, under_way}
use Rattle.sql_grammar.specs.Grammar.{Spells}
use Rattle.sql_history.specs.Items.{Asks}
use Rattle.sql_history.specs.Settings.{Setting, at_begin, at_end, set_by, IfOwn, SetByItem, HasSet}
use Rattle.law_histories.specs.Trees.{tree_of, SameStatement}
use Rattle.law_histories.proofs.Statements.{one_tree}
use Rattle.law_histories.proofs.OneOutcome.{plain_same}

pub asked_one : (s : ℕ) (a b : Stmt) (past : List Event) → Asks Spells s a past → Asks Spells s b past → SameStatement a b
asked_one s a b past p q =
    let same_text : p.0 ≡ q.0 = cc in one_tree p.0 a b p.2 (subst (λ (text : List ℕ). Spells text b) (sym same_text) q.2)

pub by_either : {A B C D X : Type 0} (b : Bool) → IfOwn b A B → IfOwn b C D → (A → C → X) → (B → D → X) → X
by_either true x y f g = f x y
by_either false x y f g = g x y

set_same : (a b : Stmt) → tree_of a ≡ tree_of b → (made : ℕ) (is_open : Bool) (before : Setting) → set_by a made is_open before ≡ set_by b made is_open before
set_same (stmt.Select s t f l) (stmt.Select v u g m) e made is_open before = refl
set_same (stmt.Select s t f l) b e made is_open before = absurd (cc)
set_same (stmt.Update t xs f) (stmt.Update u ys g) e made is_open before = refl
set_same (stmt.Update t xs f) b e made is_open before = absurd (cc)
set_same (stmt.Delete t f) (stmt.Delete u g) e made is_open before = refl
set_same (stmt.Delete t f) b e made is_open before = absurd (cc)
set_same a b e made is_open before = ap (λ (s : Stmt). set_by s made is_open before) (plain_same a b e)

set_by_item : (item : Option Item) (reply : Reply) (made : ℕ) (is_open : Bool) (x y a b : Setting) → x ≡ y → SetByItem Spells item reply made is_open x a
    → SetByItem Spells item reply made is_open y b → a ≡ b
set_by_item (Some (Sql text)) Done made is_open x y a b e p q =
    p.2 ∙ set_same p.0 q.0 (one_tree text p.0 q.0 p.1 q.1) made is_open x ∙ ap (λ (before : Setting). set_by q.0 made is_open before) e ∙ sym q.2
set_by_item item reply made is_open x y a b e p q = p ∙ e ∙ sym q

pub set_one : (s : ℕ) (past : List Event) (a b : Setting) → HasSet Spells s past a → HasSet Spells s past b → a ≡ b
set_one s [] a b p q = p ∙ sym q
set_one s (Begin t n l ∷ past) a b p q =
    by_either (t == s) p q (λ e f. e.2 ∙ ap at_begin (set_one s past e.0 f.0 e.1 f.1) ∙ sym f.2) (λ e f. set_one s past a b e f)
set_one s (Committed t ∷ past) a b p q =
    by_either (t == s) p q (λ e f. e.2 ∙ ap at_end (set_one s past e.0 f.0 e.1 f.1) ∙ sym f.2) (λ e f. set_one s past a b e f)
set_one s (RolledBack t ∷ past) a b p q =
    by_either (t == s) p q (λ e f. e.2 ∙ ap at_end (set_one s past e.0 f.0 e.1 f.1) ∙ sym f.2) (λ e f. set_one s past a b e f)
set_one s (Ended t j reply ∷ past) a b p q =
    by_either (t == s) p q (λ e f. set_by_item (under_way s past) reply (length (own s past)) (is_some (level s past)) e.0 f.0 a b
    (set_one s past e.0 f.0 e.1 f.1) e.2 f.2) (λ e f. set_one s past a b e f)
set_one s (other ∷ past) a b p q = set_one s past a b p q
