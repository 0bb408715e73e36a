-- Each entry of a history that opens once goes on from the database that its past has come to.
use Rattle.std.proofs.Common.{◌≡◌, ◌∙◌, ap, sym, subst, refl, ℕ, ◌+◌, ◌-◌, ◌<◌, List, [], ◌∷◌, ◌++◌, length, length-drop, get_or, take, drop, reverse}
use Rattle.std.proofs.Common.{arith}
use Rattle.std.specs.Prelude.{length, Result, Ok, Err, IfOk}
use Rattle.std.proofs.Math.Seq.{drop-append_seam}
use Rattle.std.proofs.lemmas.Bool.Decides.{nat_tests}
use Rattle.std.proofs.lemmas.List.{take-append-drop, take_more, reverse-append, length-reverse}
use Rattle.inno_db.specs.declared.change.Change.{Change}
use Rattle.inno_db.specs.Database.{Database}
use Rattle.inno_db.specs.Keyed.{IsKeyed}
use Rattle.inno_model.specs.declared.event.Event.{Event}
use Rattle.inno_model.specs.declared.event.Event.TheVariants.{Opened, Begin, Changed, Undone, Committed, RolledBack}
use Rattle.inno_model.specs.Past.{own, oldest, opening, changed, commits, committed, db_after}
use Rattle.sql_history.proofs.Pasts.{commit_adds}
use Rattle.run_outcome.specs.Replay.{OpensOnce}
use Rattle.run_outcome.specs.Pending.{changes_of}
use Rattle.run_outcome.specs.Entries.{GoesOn}

-- the database is the one after the commits of the past, and the changes of each session are its own
pub record IsReplayed (past : List Event) (db : Database) (pending : List (List Change)) : Type 0 where
  pub db_is : IsKeyed (opening past) → db ≡ db_after (commits past) past
  pub own_is : (s : ℕ) → reverse (changes_of s pending) ≡ own s past

-- what holds of a value where a premise does
pub given : {T E : Type 0} (result : Result T E) (K : Type 0) (P : T → Type 0) → IfOk result (λ value. K → P value) → K → IfOk result P
given (Ok value) K P holds k = holds k
given (Err error) K P holds k = holds

-- ---- a past that opens once

once_before : (e : Event) (past : List Event) → OpensOnce (e ∷ past) → OpensOnce past
once_before (Opened db) past once = subst OpensOnce (sym once) tt
once_before e past once = once

once_earlier : (newer old : List Event) → OpensOnce (newer ++ old) → OpensOnce old
once_earlier [] old once = once
once_earlier (e ∷ newer) old once = once_earlier newer old (once_before e (newer ++ old) once)

-- ---- what it makes

pub at_first : (db : Database) → db ≡ opening [] → IsReplayed [] db []
at_first db is = record { db_is = λ keyed. is; own_is = λ s. refl }

-- the first of some changes, the newest first
first_ones : (keep : ℕ) (changes : List Change) → reverse (take keep changes) ≡ oldest keep (reverse changes)
first_ones keep changes =
    let both = take-append-drop keep changes in
    let left = length-reverse (drop keep changes) in
    let all = length-reverse changes in
    let behind : length (reverse changes) - keep ≡ length (reverse (drop keep changes)) = omega (arith, left, all, length-drop keep changes) in
    sym (ap (λ n. drop n (reverse changes)) behind
    ∙ ap (λ cs. drop (length (reverse (drop keep changes))) (reverse cs)) (sym both)
    ∙ ap (drop (length (reverse (drop keep changes)))) (reverse-append (take keep changes) (drop keep changes))
    ∙ drop-append_seam (reverse (drop keep changes)) (reverse (take keep changes)))

pub goes_on : (e : Event) (past : List Event) (db db' : Database) (pending pending' : List (List Change)) → OpensOnce (e ∷ past)
    → IsReplayed past db pending → GoesOn e db pending db' pending'
    → IsReplayed (e ∷ past) db' pending'
goes_on (Opened opened) past db db' pending pending' once is goes = record {
  db_is = λ keyed. goes.0 keyed ∙ sym (ap (λ h. changed opened (committed (commits h) h)) once);
  own_is = λ s. ap (λ p. reverse (changes_of s p)) goes.1 ∙ is.own_is s;
}
goes_on (Begin t n level) past db db' pending pending' once is goes = record {
  db_is = λ keyed. goes.0 ∙ is.db_is keyed;
  own_is = λ s. let them = goes.1 s in let was = is.own_is s in grind (arith, nat_tests, them, was);
}
goes_on (Changed t change) past db db' pending pending' once is goes = record {
  db_is = λ keyed. goes.0 ∙ is.db_is keyed;
  own_is = λ s. let them = goes.1 s in let was = is.own_is s in
      let more = reverse-append (changes_of t pending) (change ∷ []) in grind (arith, nat_tests, them, was, more);
}
goes_on (Undone t keep) past db db' pending pending' once is goes = record {
  db_is = λ keyed. goes.0 ∙ is.db_is keyed;
  own_is = λ s. let them = goes.1 s in let was = is.own_is s in
      let first = first_ones keep (changes_of t pending) in grind (arith, nat_tests, them, was, first);
}
goes_on (Committed t) past db db' pending pending' once is goes = record {
  db_is = λ keyed. goes.0 ∙ ap (λ d. changed d (reverse (changes_of t pending))) (is.db_is keyed)
      ∙ ap (changed (db_after (commits past) past)) (is.own_is t) ∙ sym (commit_adds t past);
  own_is = λ s. let them = goes.1 s in let was = is.own_is s in grind (arith, nat_tests, them, was);
}
goes_on (RolledBack t) past db db' pending pending' once is goes = record {
  db_is = λ keyed. goes.0 ∙ is.db_is keyed;
  own_is = λ s. let them = goes.1 s in let was = is.own_is s in grind (arith, nat_tests, them, was);
}
goes_on e past db db' pending pending' once is goes = record {
  db_is = λ keyed. goes.0 ∙ is.db_is keyed;
  own_is = λ s. ap (λ p. reverse (changes_of s p)) goes.1 ∙ is.own_is s;
}

-- ---- over whole lists

-- the past up to the next entry
pub next_past : (entries : List Event) (i : ℕ) (e : Event) → i < length entries → e ≡ get_or entries i e
    → reverse (take (i + 1) entries) ≡ e ∷ reverse (take i entries)
next_past entries i e less is =
    ap reverse (take_more entries i e less) ∙ reverse-append (take i entries) (get_or entries i e ∷ [])
    ∙ ap (λ x. x ∷ reverse (take i entries)) (sym is)

pub once_here : (entries past : List Event) (i : ℕ) (e : Event) → i < length entries → e ≡ get_or entries i e → reverse entries ≡ past → OpensOnce past
    → OpensOnce (e ∷ reverse (take i entries))
once_here entries past i e less is whole once =
    let parts = sym (reverse-append (take (i + 1) entries) (drop (i + 1) entries)) ∙ ap reverse (take-append-drop (i + 1) entries) ∙ whole in
    let all = subst OpensOnce (sym parts) once in
    subst OpensOnce (next_past entries i e less is) (once_earlier (reverse (drop (i + 1) entries)) (reverse (take (i + 1) entries)) all)
