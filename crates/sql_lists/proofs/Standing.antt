-- Which tables stand for a session, as entries come: a table is made and committed in one step.
use Rattle.std.proofs.Common.{◌≡◌, ℕ, ◌+◌, ◌-◌, ◌<◌, ◌≤◌, Bool, true, false, cond, eqb, List, [], ◌∷◌, ◌++◌, length, drop, refl, sym, ap, subst, ◌∙◌}
use Rattle.std.proofs.Common.{inl, inr, arith}
use Rattle.std.proofs.lemmas.Bool.Decides.{nat_tests, eqb_tells}
use Rattle.std.proofs.lemmas.Bool.{false≢true}
use Rattle.std.proofs.lemmas.List.{append-nil, append_assoc, length-append}
use Rattle.std.specs.List.{list_any}
use Rattle.inno_types.specs.declared.value.Schema.{Schema}
use Rattle.inno_model.specs.declared.event.Event.{Event}
use Rattle.inno_model.specs.declared.event.Event.TheVariants as events
use Rattle.inno_model.specs.Past.{own, oldest, commits, committed, opening, changed}
use Rattle.sql_history.specs.Statements.{schemas_now}
use Rattle.law_past_agreement.specs.Order.{created, is_creation, IsUndoable}
use Rattle.sql_lists.specs.Kept.{AreStanding, made}
use Rattle.sql_lists.proofs.Staying.{committed_more}
use Rattle.inno_db.specs.{Database.Database, declared.change.Change.Change, declared.change.Change.TheVariants.Create, declared.change.Change.TheVariants.Put}
use Rattle.inno_db.specs.{declared.change.Change.TheVariants.Remove, declared.limits.TheConstants.MOST_TABLES}

-- the tables of a database after changes
pub schemas_after : (db : Database) (changes : List Change) → (changed db changes).schemas ≡ db.schemas ++ made changes
schemas_after db [] = sym (append-nil db.schemas)
schemas_after db (Create schema ∷ changes) =
    ap (λ schemas. schemas ++ schema ∷ []) (schemas_after db changes) ∙ append_assoc db.schemas (made changes) (schema ∷ [])
schemas_after db (Put table row ∷ changes) = schemas_after db changes
schemas_after db (Remove table key ∷ changes) = schemas_after db changes

pub made_append : (xs ys : List Change) → made (xs ++ ys) ≡ made ys ++ made xs
made_append [] ys = sym (append-nil (made ys))
made_append (Create schema ∷ xs) ys = ap (λ schemas. schemas ++ schema ∷ []) (made_append xs ys) ∙ append_assoc (made ys) (made xs) (schema ∷ [])
made_append (Put table row ∷ xs) ys = made_append xs ys
made_append (Remove table key ∷ xs) ys = made_append xs ys

made_none : (changes : List Change) → list_any is_creation changes ≡ false → made changes ≡ []
made_none [] none = refl
made_none (Create schema ∷ changes) none = absurd (false≢true (sym none))
made_none (Put table row ∷ changes) none = made_none changes none
made_none (Remove table key ∷ changes) none = made_none changes none

-- the tables that stand for a session: those of the opening, the committed ones, and its own
pub now_is : (s : ℕ) (h : List Event) → schemas_now s h ≡ (opening h).schemas ++ (made (committed (commits h) h) ++ made (own s h))
now_is s h =
    schemas_after (opening h) (own s h ++ committed (commits h) h) ∙ ap (λ schemas. (opening h).schemas ++ schemas)
    (made_append (own s h) (committed (commits h) h))

-- an entry that makes no table, and leaves who is making one
module _ (old new : List Event)
    (makers : (u : ℕ) → list_any is_creation (own u new) ≡ list_any is_creation (own u old))
    (tables : created new ≡ created old)
    (now : (s : ℕ) → schemas_now s new ≡ schemas_now s old)
    (stands : AreStanding old) where
  pub stands_same : AreStanding new
  stands_same =
      record {
        none = λ s. makers s ∙ stands.none s;
        tables = λ s. tables ∙ (stands.tables s ∙ sym (now s));
        few = subst (λ (schemas : List Schema). length schemas ≤ MOST_TABLES) (sym tables) stands.few;
      }

-- an entry that changes nothing
pub stands_plain : (e : Event) (h : List Event) → ((u : ℕ) → own u (e ∷ h) ≡ own u h) → created (e ∷ h) ≡ created h
    → ((s : ℕ) → schemas_now s (e ∷ h) ≡ schemas_now s h) → AreStanding h → AreStanding (e ∷ h)
stands_plain e h own_is tables now stands = stands_same h (e ∷ h) (λ u. ap (list_any is_creation) (own_is u)) tables now stands

-- a change of a row
made_row : (b : Bool) (change : Change) (changes : List Change) → is_creation change ≡ false → made (cond b (change ∷ changes) changes) ≡ made changes
made_row true (Create schema) changes row = absurd (false≢true (sym row))
made_row true (Put table row) changes is = refl
made_row true (Remove table key) changes is = refl
made_row false change changes row = refl

any_row : (b : Bool) (change : Change) (changes : List Change) → is_creation change ≡ false
    → list_any is_creation (cond b (change ∷ changes) changes) ≡ list_any is_creation changes
any_row true change changes row = rw row refl
any_row false change changes row = refl

created_row : (t : ℕ) (change : Change) (h : List Event) → is_creation change ≡ false → created (events.Changed t change ∷ h) ≡ created h
created_row t (Create schema) h row = absurd (false≢true (sym row))
created_row t (Put table row) h is = refl
created_row t (Remove table key) h is = refl

pub stands_row : (t : ℕ) (change : Change) (h : List Event) → is_creation change ≡ false → AreStanding h → AreStanding (events.Changed t change ∷ h)
stands_row t change h row stands =
    stands_same h (events.Changed t change ∷ h) (λ u. any_row (eqb t u) change (own u h) row) (created_row t change h row)
    (λ s. now_is s (events.Changed t change ∷ h) ∙
    (ap (λ schemas. (opening h).schemas ++ (made (committed (commits h) h) ++ schemas)) (made_row (eqb t s) change (own s h) row) ∙ sym (now_is s h)))
    stands

-- a session without changes begins or ends
own_gone : (b : Bool) (changes : List Change) → (b ≡ true → changes ≡ []) → cond b [] changes ≡ changes
own_gone true changes none = sym (none refl)
own_gone false changes none = refl

none_at : (t u : ℕ) (h : List Event) → own t h ≡ [] → eqb t u ≡ true → own u h ≡ []
none_at t u h none is = elim (eqb_tells t u) [ inl same ↦ subst (λ v. own v h ≡ []) same.1 none | inr differ ↦ absurd (false≢true (sym differ.0 ∙ is)) ]

stands_gone : (t : ℕ) (h : List Event) → own t h ≡ [] → (e : Event) → ((u : ℕ) → own u (e ∷ h) ≡ cond (eqb t u) [] (own u h))
    → created (e ∷ h) ≡ created h → ((s : ℕ) → schemas_now s (e ∷ h) ≡ (opening h).schemas ++ (made (committed (commits h) h) ++ made (own s (e ∷ h))))
    → AreStanding h → AreStanding (e ∷ h)
stands_gone t h none e is tables now stands =
    let own_is : (u : ℕ) → own u (e ∷ h) ≡ own u h = λ u. is u ∙ own_gone (eqb t u) (own u h) (none_at t u h none) in
    stands_same h (e ∷ h) (λ u. ap (list_any is_creation) (own_is u)) tables
    (λ s. now s ∙ (ap (λ changes. (opening h).schemas ++ (made (committed (commits h) h) ++ made changes)) (own_is s) ∙ sym (now_is s h))) stands

pub stands_begun : (t n : ℕ) (l : _) (h : List Event) → own t h ≡ [] → AreStanding h → AreStanding (events.Begin t n l ∷ h)
stands_begun t n l h none = stands_gone t h none (events.Begin t n l) (λ u. refl) refl (λ s. now_is s (events.Begin t n l ∷ h))

pub stands_rolled_back : (t : ℕ) (h : List Event) → own t h ≡ [] → AreStanding h → AreStanding (events.RolledBack t ∷ h)
stands_rolled_back t h none = stands_gone t h none (events.RolledBack t) (λ u. refl) refl (λ s. now_is s (events.RolledBack t ∷ h))

-- a change of a row is put back
dropped_one : (n : ℕ) (change : Change) (before : List Change) → n ≡ 1 → drop n (change ∷ before) ≡ before
dropped_one n change before is = rw is refl

pub oldest_one : (change : Change) (before : List Change) (keep : ℕ) → length before ≡ keep → oldest keep (change ∷ before) ≡ before
oldest_one change before keep is = dropped_one (length (change ∷ before) - keep) change before (omega (arith, is))

undone_is : (keep : ℕ) (changes : List Change) → IsUndoable keep changes
    → (list_any is_creation (oldest keep changes) ≡ list_any is_creation changes) × (made (oldest keep changes) ≡ made changes)
undone_is keep [] undoable = absurd undoable
undone_is keep (Create schema ∷ before) undoable = absurd undoable.0
undone_is keep (Put table row ∷ before) undoable = let is = oldest_one (Put table row) before keep undoable.1 in (ap (list_any is_creation) is, ap made is)
undone_is keep (Remove table key ∷ before) undoable =
    let is = oldest_one (Remove table key) before keep undoable.1 in (ap (list_any is_creation) is, ap made is)

one_of : (X : Type 0) (f : List Change → X) (b : Bool) (x y : List Change) → (b ≡ true → f x ≡ f y) → f (cond b x y) ≡ f y
one_of X f true x y same = same refl
one_of X f false x y same = refl

at_session : (t u : ℕ) (P : ℕ → Type 0) → P t → eqb t u ≡ true → P u
at_session t u P here is = elim (eqb_tells t u) [ inl same ↦ subst P same.1 here | inr differ ↦ absurd (false≢true (sym differ.0 ∙ is)) ]

pub stands_undone : (t keep : ℕ) (h : List Event) → IsUndoable keep (own t h) → AreStanding h → AreStanding (events.Undone t keep ∷ h)
stands_undone t keep h undoable stands =
    let is : (u : ℕ) → eqb t u ≡ true → (list_any is_creation (oldest keep (own u h)) ≡ list_any is_creation (own u h)) ×
    (made (oldest keep (own u h)) ≡ made (own u h)) =
    λ u at. at_session t u (λ v. (list_any is_creation (oldest keep (own v h)) ≡ list_any is_creation (own v h)) ×
    (made (oldest keep (own v h)) ≡ made (own v h))) (undone_is keep (own t h) undoable) at in
    stands_same h (events.Undone t keep ∷ h) (λ u. one_of Bool (list_any is_creation) (eqb t u) (oldest keep (own u h)) (own u h) (λ at. (is u at).0)) refl
    (λ s. now_is s (events.Undone t keep ∷ h) ∙
    (ap (λ schemas. (opening h).schemas ++ (made (committed (commits h) h) ++ schemas))
    (one_of (List Schema) made (eqb t s) (oldest keep (own s h)) (own s h) (λ at. (is s at).1)) ∙ sym (now_is s h)))
    stands

-- ---- a commit

pub committed_is : (t : ℕ) (h : List Event) → committed (commits h + 1) (events.Committed t ∷ h) ≡ own t h ++ committed (commits h) h
committed_is t h = grind (arith, nat_tests, committed_more (commits h + 1) h (omega arith))

module _ (t : ℕ) (h : List Event) (stands : AreStanding h) where
  abbrev tables_before : List Schema
  tables_before = made (committed (commits h) h)

  -- a session's changes make no table, before the commit and after it
  none_after : (s : ℕ) → list_any is_creation (own s (events.Committed t ∷ h)) ≡ false
  none_after s = one_of Bool (list_any is_creation) (eqb t s) [] (own s h) (λ is. sym (stands.none s)) ∙ stands.none s

  now_after : (s : ℕ)
      → schemas_now s (events.Committed t ∷ h) ≡ (opening h).schemas ++ ((tables_before ++ made (own t h)) ++ made (own s (events.Committed t ∷ h)))
  now_after s =
      now_is s (events.Committed t ∷ h)
      ∙ ap (λ schemas. (opening h).schemas ++ (schemas ++ made (own s (events.Committed t ∷ h))))
      (ap made (committed_is t h) ∙ made_append (own t h) (committed (commits h) h))

  mine : (s : ℕ) → made (own s (events.Committed t ∷ h)) ≡ made (own s h)
  mine s = made_none (own s (events.Committed t ∷ h)) (none_after s) ∙ sym (made_none (own s h) (stands.none s))

  tables_after : (s : ℕ) → created h ≡ schemas_now s (events.Committed t ∷ h)
  tables_after s =
      stands.tables s ∙ (now_is s h
      ∙ (ap (λ schemas. (opening h).schemas ++ (schemas ++ made (own s h))) (sym (append-nil tables_before))
      ∙ (ap (λ schemas. (opening h).schemas ++ ((tables_before ++ schemas) ++ made (own s h))) (sym (made_none (own t h) (stands.none t)))
      ∙ (ap (λ schemas. (opening h).schemas ++ ((tables_before ++ made (own t h)) ++ schemas)) (sym (mine s)) ∙ sym (now_after s)))))

  pub stands_committed : AreStanding (events.Committed t ∷ h)
  stands_committed = record { none = none_after; tables = tables_after; few = stands.few }

-- ---- a table is made and committed, by a session without other changes

module _ (t : ℕ) (schema : Schema) (h : List Event) (new : own t h ≡ []) (room : length (created h) < MOST_TABLES) (stands : AreStanding h) where
  abbrev with_table : List Event
  with_table = events.Changed t (Create schema) ∷ h

  abbrev first : List Schema
  first = (opening h).schemas

  abbrev before : List Schema
  before = made (committed (commits h) h)

  own_here : own t with_table ≡ Create schema ∷ []
  own_here = (let x : own t with_table ≡ Create schema ∷ own t h = grind (arith, nat_tests) in x) ∙ ap (λ changes. Create schema ∷ changes) new

  none_now : (s : ℕ) → list_any is_creation (own s (events.Committed t ∷ with_table)) ≡ false
  none_now s = elim (eqb_tells t s) [ inl same ↦ rw same.0 refl | inr apart ↦ rw apart.0 (stands.none s) ]

  left : (s : ℕ) → made (own s (events.Committed t ∷ with_table)) ≡ []
  left s = made_none (own s (events.Committed t ∷ with_table)) (none_now s)

  below : (s : ℕ) → created h ≡ first ++ before
  below s =
      stands.tables s ∙ (now_is s h ∙ (ap (λ schemas. first ++ (before ++ schemas)) (made_none (own s h) (stands.none s))
      ∙ ap (λ schemas. first ++ schemas) (append-nil before)))

  made_now : made (committed (commits h + 1) (events.Committed t ∷ with_table)) ≡ before ++ schema ∷ []
  made_now = ap made (committed_is t with_table) ∙ ap (λ changes. made (changes ++ committed (commits h) h)) own_here

  tables_here : (s : ℕ) → created h ++ schema ∷ [] ≡ schemas_now s (events.Committed t ∷ with_table)
  tables_here s =
      ap (λ schemas. schemas ++ schema ∷ []) (below s) ∙ (append_assoc first before (schema ∷ [])
      ∙ (ap (λ schemas. first ++ schemas) (sym made_now)
      ∙ (ap (λ schemas. first ++ schemas) (sym (append-nil (made (committed (commits h + 1) (events.Committed t ∷ with_table)))))
      ∙ (ap (λ schemas. first ++ (made (committed (commits h + 1) (events.Committed t ∷ with_table)) ++ schemas)) (sym (left s))
      ∙ sym (now_is s (events.Committed t ∷ with_table))))))

  pub stands_made : AreStanding (events.Committed t ∷ (events.Changed t (Create schema) ∷ h))
  stands_made =
      record {
        none = none_now;
        tables = tables_here;
        few = subst (λ n. n ≤ MOST_TABLES) (sym (length-append (created h) (schema ∷ []))) (omega (arith, room));
      }
