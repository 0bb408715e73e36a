-- What tables that come later leave as it was: the numbers of those that are there, and the rows that were seen.
use Rattle.std.proofs.Common.{◌≡◌, ℕ, suc, ◌+◌, ◌<◌, ◌≤◌, Bool, true, false, cond, Some, None, List, [], ◌∷◌, ◌++◌, length, refl, sym, ap, subst, ◌∙◌, arith}
use Rattle.std.proofs.Common.{length-append}
use Rattle.std.proofs.lemmas.Bool.Decides.{nat_tests}
use Rattle.std.proofs.lemmas.List.{append-nil}
use Rattle.std.specs.Prelude.{nat_lt, not, bytes_eq}
use Rattle.std.specs.List.{AllByRecursion, position, position_or_len}
use Rattle.inno_types.specs.declared.value.Schema.{Schema}
use Rattle.inno_types.specs.declared.stmt.Stmt.{Stmt}
use Rattle.inno_db.specs.declared.change.Change.{Change}
use Rattle.inno_db.specs.declared.change.Change.TheVariants as changes
use Rattle.inno_db.specs.Outcome.{table_read}
use Rattle.inno_model.specs.declared.event.Event.{Event}
use Rattle.inno_model.specs.declared.event.Event.TheVariants as events
use Rattle.inno_model.specs.Past.{own, commits, committed}
use Rattle.inno_model.proofs.Commits.{committed_stays}
use Rattle.sql_history.specs.Readings.{is_plain_select}
use Rattle.law_past_agreement.specs.Order.{created, IsTabled, IsNoOthers}
use Rattle.law_past_agreement.specs.Rows.{seen}
use Rattle.read_statement.proofs.Selects.{of_plain}

-- an entry of a session adds a table at most
pub grown : (t : ℕ) (e : Event) (h : List Event) → IsNoOthers t e → (more : List Schema) × (created (e ∷ h) ≡ created h ++ more)
grown t (events.Opened db) h mine = (let x = mine in cc)
grown t (events.Changed u (changes.Create schema)) h mine = (schema ∷ [], refl)
grown t (events.Changed u (changes.Put table row)) h mine = ([], sym (append-nil (created h)))
grown t (events.Changed u (changes.Remove table key)) h mine = ([], sym (append-nil (created h)))
grown t e h mine = ([], sym (append-nil (created h)))

-- ---- the number of a table

or_len_stays : {X : Type 0} (p : X → Bool) (xs ys : List X) → position_or_len p xs < length xs → position_or_len p (xs ++ ys) ≡ position_or_len p xs
or_len_stays p [] ys lt = absurd (omega arith)
or_len_stays p (x ∷ xs) ys lt = go (p x) lt (or_len_stays p xs ys) where
  go : (b : Bool) → cond (not b) (1 + position_or_len p xs) 0 < suc (length xs)
      → (position_or_len p xs < length xs → position_or_len p (xs ++ ys) ≡ position_or_len p xs)
      → cond (not b) (1 + position_or_len p (xs ++ ys)) 0 ≡ cond (not b) (1 + position_or_len p xs) 0
  go true less later = refl
  go false less later = ap (λ n. 1 + n) (later (omega (arith, less)))

position_stays : {X : Type 0} (p : X → Bool) (xs ys : List X) (n : ℕ) → position p xs ≡ Some n → position p (xs ++ ys) ≡ Some n
position_stays p xs ys n is = go (nat_lt (position_or_len p xs) (length xs)) refl is where
  go : (b : Bool) → nat_lt (position_or_len p xs) (length xs) ≡ b → cond b (Some (position_or_len p xs)) None ≡ Some n → position p (xs ++ ys) ≡ Some n
  go false at found = (let x = found in cc)
  go true at found =
      let lt : position_or_len p xs < length xs = grind (arith, nat_tests, at) in
      let same : position_or_len p (xs ++ ys) ≡ position_or_len p xs = or_len_stays p xs ys lt in
      let within : nat_lt (position_or_len p (xs ++ ys)) (length (xs ++ ys)) ≡ true = grind (arith, nat_tests, same, lt, length-append xs ys) in
      rw within (ap Some same ∙ found)

pub table_stays : (schemas more : List Schema) (n : ℕ) (statement : Stmt) → is_plain_select statement ≡ true → table_read schemas statement ≡ Some n
    → table_read (schemas ++ more) statement ≡ Some n
table_stays schemas more n =
    of_plain (λ statement. table_read schemas statement ≡ Some n → table_read (schemas ++ more) statement ≡ Some n)
    (λ selected table condition is. position_stays (λ schema. bytes_eq schema.name table) schemas more n is)

-- ---- the rows that were seen

tabled_one : (n m : ℕ) → n ≤ m → (change : Change) → IsTabled n change → IsTabled m change
tabled_one n m le (changes.Create schema) is = tt
tabled_one n m le (changes.Put table row) is = omega arith
tabled_one n m le (changes.Remove table key) is = omega arith

tabled_more : (n m : ℕ) → n ≤ m → (cs : List Change) → AllByRecursion (IsTabled n) cs → AllByRecursion (IsTabled m) cs
tabled_more n m le [] all = tt
tabled_more n m le (c ∷ cs) all = (tabled_one n m le c all.0, tabled_more n m le cs all.1)

module _ (t s n : ℕ) (e : Event) (h : List Event) (mine : IsNoOthers t e) (same-own : own s (e ∷ h) ≡ own s h) (within : n ≤ commits h) where
  pub same_seen : seen (e ∷ h) s n ≡ seen h s n
  same_seen = ap (λ cs. cs ++ committed n (e ∷ h)) same-own ∙ ap (λ cs. own s h ++ cs) (committed_stays e h n within)

  pub tabled_stays : AllByRecursion (IsTabled (length (created h))) (seen h s n) → AllByRecursion (IsTabled (length (created (e ∷ h)))) (seen (e ∷ h) s n)
  tabled_stays all =
      let more = grown t e h mine in
      subst (λ cs. AllByRecursion (IsTabled (length (created (e ∷ h)))) cs) (sym same_seen)
      (tabled_more (length (created h)) (length (created (e ∷ h)))
      (subst (λ (l : List Schema). length (created h) ≤ length l) (sym more.1) (omega (arith, length-append (created h) more.0))) (seen h s n) all)
