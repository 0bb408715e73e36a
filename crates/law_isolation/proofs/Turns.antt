-- Who is at work in a serial history, and what nobody else changes meanwhile.
use Rattle.std.proofs.Common.{◌≡◌, ◌≢◌, ◌∙◌, ap, sym, refl, ℕ, Bool, true, false, List, [], ◌∷◌, Option, Some, None, arith}
use Rattle.std.specs.Prelude.{◌==◌, ◌||◌, is_some}
use Rattle.std.proofs.lemmas.Bool.Decides.{nat_tests}
use Rattle.inno_types.specs.declared.lock.Level.{Level}
use Rattle.inno_types.specs.declared.reply.Item.{Item}
use Rattle.inno_types.specs.declared.reply.Item.TheVariants.{Sql}
use Rattle.inno_model.specs.declared.event.Event.{Event}
use Rattle.inno_model.specs.declared.event.Event.TheVariants.{Begin, View, Committed, RolledBack}
use Rattle.inno_model.specs.Past.{is_of, under_way, level, view_of, commits, IsOpen}
use Rattle.inno_model.proofs.Untouched.{untouched}
use Rattle.sql_history.specs.Items.{Language}
use Rattle.sql_history.specs.Legal.{IsLegal}
use Rattle.law_isolation.specs.Turns.{is_statement, is_at_work, IsSerial, IsOfOne}
use Rattle.law_histories.proofs.Entries.{by_session, true_false, open_not}

one_session : (s t : ℕ) (e : Event) → is_of s e ≡ true → t ≢ s → is_of t e ≡ false
one_session s t e is apart = grind (arith, nat_tests, is, apart)

pub work_untouched : (s : ℕ) (e : Event) (past : List Event) → is_of s e ≡ false → is_at_work s (e ∷ past) ≡ is_at_work s past
work_untouched s e past other =
    let same = untouched e past s other in
    ap (λ (l : Option Level). is_some l || is_statement (under_way s (e ∷ past))) same.level_is ∙ ap
    (λ (i : Option Item). is_some (level s past) || is_statement i) same.item

pub open_works : (s : ℕ) (past : List Event) → IsOpen s past → is_at_work s past ≡ true
open_works s past is_open = ap (λ b. b || is_statement (under_way s past)) is_open

or_true : (b : Bool) → (b || true) ≡ true
or_true true = refl
or_true false = refl

pub statement_works : (s : ℕ) (text : List ℕ) (past : List Event) → under_way s past ≡ Some (Sql text) → is_at_work s past ≡ true
statement_works s text past asked = ap (λ (i : Option Item). is_some (level s past) || is_statement i) asked ∙ or_true (is_some (level s past))

-- While a session is at work no other is.
pub others_idle : (past : List Event) → IsSerial past → (s t : ℕ) → is_at_work s past ≡ true → t ≢ s → is_at_work t past ≡ false
others_idle [] serial s t works apart = refl
others_idle (e ∷ past) serial s t works apart =
    elim (is_of s e) as (λ b. is_of s e ≡ b → is_at_work t (e ∷ past) ≡ false) [
      | true ↦ λ mine. work_untouched t e past (one_session s t e mine apart) ∙ serial.0 s t mine apart
      | false ↦ λ other.
          let working = sym (work_untouched s e past other) ∙ works in
          elim (is_of t e) as (λ b. is_of t e ≡ b → is_at_work t (e ∷ past) ≡ false) [
            | true ↦ λ its. true_false working (serial.0 t s its (λ same. apart (sym same)))
            | false ↦ λ none. work_untouched t e past none ∙ others_idle past serial.1 s t working apart
          ] refl
    ] refl

-- Nobody but the one session is at work.
none_beside : (s other : ℕ) (past : List Event) → IsOfOne s past → other ≢ s → is_at_work other past ≡ false
none_beside s other [] mine apart = refl
none_beside s other (e ∷ past) mine apart =
    elim (is_of other e) as (λ b. is_of other e ≡ b → is_at_work other (e ∷ past) ≡ false) [
      | true ↦ λ its. absurd (apart (mine.0 other its))
      | false ↦ λ none. work_untouched other e past none ∙ none_beside s other past mine.1 apart
    ] refl

pub one_serial : (s : ℕ) (past : List Event) → IsOfOne s past → IsSerial past
one_serial s [] mine = tt
one_serial s (e ∷ past) mine =
    ((λ t other its apart. none_beside s other past mine.1 (λ same. apart (same ∙ sym (mine.0 t its)))), one_serial s past mine.1)

idle_parts : (l : Option Level) (i : Option Item) → (is_some l || is_statement i) ≡ false → (l ≡ None) × (is_statement i ≡ false)
idle_parts None i idle = (refl, idle)
idle_parts (Some l) i idle = true_false refl idle

pub idle_closed : (s : ℕ) (past : List Event) → is_at_work s past ≡ false → level s past ≡ None
idle_closed s past idle = (idle_parts (level s past) (under_way s past) idle).0

pub idle_asks : (s : ℕ) (past : List Event) → is_at_work s past ≡ false → is_statement (under_way s past) ≡ false
idle_asks s past idle = (idle_parts (level s past) (under_way s past) idle).1

-- another's commit does not come while the session is at work
pub no_commit : {A : Type 0} (t s : ℕ) (past : List Event) → (t == s) ≡ false → IsSerial (Committed t ∷ past) → is_at_work s past ≡ true → A
no_commit t s past is serial works =
    let mine : is_of t (Committed t) ≡ true = grind (arith, nat_tests) in
    let apart : s ≢ t = grind (arith, nat_tests, is) in
    true_false works (serial.0 t s mine apart)

module _ (says : Language) where
  -- a transaction's view shows what was committed when it began
  pub view_latest : (s n : ℕ) (past : List Event) → IsLegal says past → IsSerial past → IsOpen s past → view_of s past ≡ Some n → n ≡ commits past
  view_latest s n [] legal serial is_open view = open_not s [] is_open refl
  view_latest s n (Begin t m l ∷ past) legal serial is_open view =
      by_session t s (λ is same. (let e = rw is at view in cc)) (λ is. view_latest s n past legal.1 serial.1 (rw is at is_open) (rw is at view))
  view_latest s n (View t ∷ past) legal serial is_open view =
      by_session t s (λ is same. (let e = rw is at view in cc)) (λ is. view_latest s n past legal.1 serial.1 is_open (rw is at view))
  view_latest s n (Committed t ∷ past) legal serial is_open view =
      by_session t s (λ is same. (let e = rw is at is_open in cc)) (λ is. let e = rw is at is_open in no_commit t s past is serial (open_works s past e))
  view_latest s n (RolledBack t ∷ past) legal serial is_open view =
      by_session t s (λ is same. (let e = rw is at is_open in cc)) (λ is. view_latest s n past legal.1 serial.1 (rw is at is_open) view)
  view_latest s n (e ∷ past) legal serial is_open view = view_latest s n past legal.1 serial.1 is_open view
