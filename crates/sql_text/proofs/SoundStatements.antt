-- What is read is spelled so: whole statements.
use Rattle.std.proofs.Common.{◌≡◌, ℕ, List, [], ◌∷◌, ◌++◌, length, Option, Some, Result, Ok, IfOk, refl, sym, ap, subst}
use Rattle.inno_types.specs.declared.lock.Mode.{Mode}
use Rattle.inno_types.specs.declared.lock.Mode.TheVariants.{S, X}
use Rattle.inno_types.specs.declared.stmt.Comparison.TheVariants.{Equal}
use Rattle.inno_types.specs.declared.stmt.Filter.{Filter}
use Rattle.inno_types.specs.declared.stmt.Expr.{Expr}
use Rattle.inno_types.specs.declared.stmt.Set.{Set}
use Rattle.inno_types.specs.declared.stmt.Selected.{Selected}
use Rattle.inno_types.specs.declared.stmt.Selected.TheVariants.{Columns}
use Rattle.inno_types.specs.declared.stmt.Stmt.TheVariants as stmt
use Rattle.sql_grammar.specs.declared.token.Word.TheVariants as word
use Rattle.sql_grammar.specs.declared.token.Token.{Token}
use Rattle.sql_grammar.specs.declared.token.Token.TheVariants.{Key, Bare, Compare, Comma, Star}
use Rattle.sql_grammar.specs.Grammar.{Name, Lit, Commas, Tuple, Condition, Loose, Where, Expression, Assignment, Choice, Locking, Statement}
use Rattle.sql_grammar.specs.Grammar as grammar
use Rattle.sql_conditions.specs.Parts.{◌>>=◌, name_at, after_comma, commas_at, end_of}
use Rattle.sql_text.specs.Whole as read
use Rattle.sql_conditions.proofs.Sound.{bind, weaker, name_sound, items_sound, end_sound, ends_sound}

-- what holds of what is read, where it is read
pub at_ok : {A : Type 0} (P : A → Type 0) (r : Result A (List Token)) (a : A) → IfOk r P → r ≡ Ok a → P a
at_ok P r a h e = subst (λ (r : Result _ (List Token)). IfOk r P) e h

pub name_read : (xs ys : List Token) (name : List ℕ) → name_at xs ≡ Ok (name, ys) → Name xs name ys
name_read xs ys name e = at_ok (λ r. Name xs r.0 r.1) (name_at xs) (name, ys) (name_sound xs) e

-- ---- SELECT, UPDATE and DELETE

from_sound : (xs : List Token) → IfOk (read.after_from xs) (λ ys. xs ≡ Key word.From ∷ ys)
from_sound [] = tt
from_sound (Key word.From ∷ ys) = refl
from_sound (other ∷ ys) = tt

set_word_sound : (xs : List Token) → IfOk (read.after_set xs) (λ ys. xs ≡ Key word.Set ∷ ys)
set_word_sound [] = tt
set_word_sound (Key word.Set ∷ ys) = refl
set_word_sound (other ∷ ys) = tt

equal_sound : (xs : List Token) → IfOk (read.after_equal xs) (λ ys. xs ≡ Compare Equal ∷ ys)
equal_sound [] = tt
equal_sound (Compare Equal ∷ ys) = refl
equal_sound (other ∷ ys) = tt

pub choice_sound : (xs : List Token) → IfOk (read.choice_at xs) (λ r. Choice xs r.0 r.1)
unfolding read.choice_at
choice_sound (Star ∷ rest) = grammar.all
choice_sound xs = bind (commas_at name_at xs) (λ names. Ok (Columns names.0, names.1)) (λ r. Commas Name xs r.0 r.1) (λ r. Choice xs r.0 r.1) (items_sound name_at Name name_sound (length xs) xs) (λ names c. grammar.some c)

mode_sound : (xs : List Token) (a : List ℕ) → IfOk (read.mode_of xs) (λ lock. Locking (Key word.Lock ∷ Key word.In ∷ Bare (Some word.Share) a ∷ xs) lock)
unfolding read.mode_of
mode_sound [] a = tt
mode_sound (Bare (Some word.Mode) b ∷ xs) a = ends_sound (Some S) (λ lock. Locking (Key word.Lock ∷ Key word.In ∷ Bare (Some word.Share) a ∷ Bare (Some word.Mode) b ∷ xs) lock) xs
    (λ e. subst (λ (ts : List Token). Locking (Key word.Lock ∷ Key word.In ∷ Bare (Some word.Share) a ∷ Bare (Some word.Mode) b ∷ ts) (Some S)) (sym e) grammar.lock_in_share_mode)
mode_sound (other ∷ xs) a = tt

share_mode_sound : (xs : List Token) → IfOk (read.share_mode_of xs) (λ lock. Locking (Key word.Lock ∷ Key word.In ∷ xs) lock)
unfolding read.share_mode_of
share_mode_sound [] = tt
share_mode_sound (Bare (Some word.Share) a ∷ xs) = mode_sound xs a
share_mode_sound (other ∷ xs) = tt

in_share_mode_sound : (xs : List Token) → IfOk (read.in_share_mode_of xs) (λ lock. Locking (Key word.Lock ∷ xs) lock)
unfolding read.in_share_mode_of
in_share_mode_sound [] = tt
in_share_mode_sound (Key word.In ∷ xs) = share_mode_sound xs
in_share_mode_sound (other ∷ xs) = tt

for_lock_sound : (xs : List Token) → IfOk (read.for_lock_of xs) (λ lock. Locking (Key word.For ∷ xs) lock)
unfolding read.for_lock_of
for_lock_sound [] = tt
for_lock_sound (Bare (Some word.Share) a ∷ xs) = ends_sound (Some S) (λ lock. Locking (Key word.For ∷ Bare (Some word.Share) a ∷ xs) lock) xs (λ e. subst (λ (ts : List Token). Locking (Key word.For ∷ Bare (Some word.Share) a ∷ ts) (Some S)) (sym e) grammar.for_share)
for_lock_sound (Key word.Update ∷ xs) = ends_sound (Some X) (λ lock. Locking (Key word.For ∷ Key word.Update ∷ xs) lock) xs (λ e. subst (λ (ts : List Token). Locking (Key word.For ∷ Key word.Update ∷ ts) (Some X)) (sym e) grammar.for_update)
for_lock_sound (other ∷ xs) = tt

pub locking_sound : (xs : List Token) → IfOk (read.locking_of xs) (λ lock. Locking xs lock)
unfolding read.locking_of
locking_sound [] = grammar.unsaid
locking_sound (Key word.For ∷ xs) = for_lock_sound xs
locking_sound (Key word.Lock ∷ xs) = in_share_mode_sound xs
locking_sound (other ∷ xs) = tt

where_sound : (xs rest : List Token) → read.behind_where xs ≡ Some rest → xs ≡ Key word.Where ∷ rest
where_sound [] rest e = cc
where_sound (Key word.Where ∷ xs) rest e = let same : xs ≡ rest = cc in ap (λ (r : List Token). Key word.Where ∷ r) same
where_sound (other ∷ xs) rest e = cc

pub where_spelled : (xs behind rest : List Token) (f : Filter) → read.behind_where xs ≡ Some behind → Condition Loose behind f rest → Where xs (Some f) rest
where_spelled xs behind rest f e c = subst (λ (ts : List Token). Where ts (Some f) rest) (sym (where_sound xs behind e)) (grammar.those c)

pub from_table_sound : (xs : List Token) → IfOk (read.from_table_at xs) (λ r. (from : List Token) × (xs ≡ Key word.From ∷ from) × Name from r.0 r.1)
unfolding read.from_table_at
from_table_sound xs =
    bind (read.after_from xs) (λ from. name_at from) (λ ys. xs ≡ Key word.From ∷ ys) (λ r. (from : List Token) × (xs ≡ Key word.From ∷ from) × Name from r.0 r.1) (from_sound xs)
    (λ from e. weaker (name_at from) (λ r. Name from r.0 r.1) (λ r. (from : List Token) × (xs ≡ Key word.From ∷ from) × Name from r.0 r.1) (name_sound from) (λ r n. (from, e, n)))

pub set_table_sound : (xs : List Token) → IfOk (read.set_table_at xs) (λ r. Name xs r.0 (Key word.Set ∷ r.1))
unfolding read.set_table_at
set_table_sound xs =
    bind (name_at xs) (λ table. read.after_set table.1 >>= λ rest. Ok (table.0, rest)) (λ r. Name xs r.0 r.1) (λ r. Name xs r.0 (Key word.Set ∷ r.1)) (name_sound xs)
    (λ table n. bind (read.after_set table.1) (λ rest. Ok (table.0, rest)) (λ ys. table.1 ≡ Key word.Set ∷ ys) (λ r. Name xs r.0 (Key word.Set ∷ r.1)) (set_word_sound table.1)
    (λ ys e. subst (λ (ts : List Token). Name xs table.0 ts) e n))

pub where_lock_spelled : (xs rest : List Token) (f : Option Filter) (lock : Option Mode) → Where xs f rest → read.locking_of rest ≡ Ok lock → (rest : List Token) × Where xs f rest × Locking rest lock
where_lock_spelled xs rest f lock w l = (rest, w, at_ok (λ lock. Locking rest lock) (read.locking_of rest) lock (locking_sound rest) l)

pub last_where_spelled : (xs rest : List Token) (f : Option Filter) → Where xs f rest → end_of rest ≡ Ok tt → Where xs f []
last_where_spelled xs rest f w z = subst (λ (ts : List Token). Where xs f ts) (at_ok (λ _. rest ≡ []) (end_of rest) tt (end_sound rest) z) w

pub select_spelled : (xs r1 r2 : List Token) (selected : Selected) (table : List ℕ) (f : Option Filter) (lock : Option Mode) → read.choice_at xs ≡ Ok (selected, r1) → read.from_table_at r1 ≡ Ok (table, r2) → (rest : List Token) × Where r2 f rest × Locking rest lock
    → Statement (Key word.Select ∷ xs) (stmt.Select selected table f lock)
select_spelled xs r1 r2 selected table f lock a b w =
    let c = at_ok (λ r. Choice xs r.0 r.1) (read.choice_at xs) (selected, r1) (choice_sound xs) a in
    let t = at_ok (λ r. (from : List Token) × (r1 ≡ Key word.From ∷ from) × Name from r.0 r.1) (read.from_table_at r1) (table, r2) (from_table_sound r1) b in
    grammar.select (subst (λ (ts : List Token). Choice xs selected ts) t.1 c) t.2 w.1 w.2

pub update_spelled : (xs right rest : List Token) (table : List ℕ) (sets : List Set) (f : Option Filter) → read.set_table_at xs ≡ Ok (table, right) → Commas Assignment right sets rest → Where rest f [] → Statement (Key word.Update ∷ xs) (stmt.Update table sets f)
update_spelled xs right rest table sets f n c w = grammar.update (at_ok (λ r. Name xs r.0 (Key word.Set ∷ r.1)) (read.set_table_at xs) (table, right) (set_table_sound xs) n) c w

pub delete_spelled : (xs rest : List Token) (table : List ℕ) (f : Option Filter) → read.from_table_at xs ≡ Ok (table, rest) → Where rest f [] → Statement (Key word.Delete ∷ xs) (stmt.Delete table f)
delete_spelled xs rest table f b w =
    let t = at_ok (λ r. (from : List Token) × (xs ≡ Key word.From ∷ from) × Name from r.0 r.1) (read.from_table_at xs) (table, rest) (from_table_sound xs) b in
    subst (λ (ts : List Token). Statement (Key word.Delete ∷ ts) (stmt.Delete table f)) (sym t.1) (grammar.delete t.2 w)

pub assignment_spelled : (xs r1 right rest : List Token) (column : List ℕ) (value : Expr) → name_at xs ≡ Ok (column, r1) → read.after_equal r1 ≡ Ok right → Expression Loose right value rest → Assignment xs (record { column = column; value = value }) rest
assignment_spelled xs r1 right rest column value n b x =
    let e = at_ok (λ ys. r1 ≡ Compare Equal ∷ ys) (read.after_equal r1) right (equal_sound r1) b in
    grammar.assign (subst (λ (ts : List Token). Name xs column ts) e (name_read xs r1 column n)) x

-- ---- assignments one after the other

-- they begin so, each with a comma behind it
pub data Begun : List Token → List Set → List Token → Type 0 where
  here : {xs : List Token} → Begun xs [] xs
  one : {xs ys zs : List Token} {set : Set} {others : List Set} → Assignment xs set (Comma ∷ ys) → Begun ys others zs → Begun xs (set ∷ others) zs

comma_read : (xs ys : List Token) → after_comma xs ≡ Some ys → xs ≡ Comma ∷ ys
comma_read [] ys e = cc
comma_read (Comma ∷ xs) ys e = let same : xs ≡ ys = cc in ap (λ (r : List Token). Comma ∷ r) same
comma_read (other ∷ xs) ys e = cc

begun_more : {xs ys zs : List Token} {sets : List Set} {set : Set} → Begun xs sets ys → Assignment ys set (Comma ∷ zs) → Begun xs (sets ++ set ∷ []) zs
begun_more here a = one a here
begun_more (one b c) a = one b (begun_more c a)

pub begins_on : (xs ys after more : List Token) (sets new : List Set) (set : Set) → new ≡ sets ++ set ∷ [] → Begun xs sets ys → Assignment ys set after → after_comma after ≡ Some more → Begun xs new more
begins_on xs ys after more sets new set p b a e =
    let c = subst (λ (ts : List Token). Assignment ys set ts) (comma_read after more e) a in
    subst (λ (ss : List Set). Begun xs ss more) (sym p) (begun_more b c)

begun_all : {xs ys zs : List Token} {sets : List Set} {set : Set} → Begun xs sets ys → Assignment ys set zs → Commas Assignment xs (sets ++ set ∷ []) zs
begun_all here a = grammar.last a
begun_all (one b c) a = grammar.more b (begun_all c a)

pub ends_with : (xs ys after : List Token) (sets new : List Set) (set : Set) → new ≡ sets ++ set ∷ [] → Begun xs sets ys → Assignment ys set after → Commas Assignment xs new after
ends_with xs ys after sets new set p b a = subst (λ (ss : List Set). Commas Assignment xs ss after) (sym p) (begun_all b a)

pub none_begun : (xs : List Token) (sets : List Set) → sets ≡ [] → Begun xs sets xs
none_begun xs sets e = subst (λ (ss : List Set). Begun xs ss xs) (sym e) here
