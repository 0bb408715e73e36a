-- The work of an open transaction beside its changes and its savepoints, over the database that it began on.
use Rattle.std.proofs.Common.{◌≡◌, ◌∙◌, ap, sym, subst, refl, ℕ, ◌≤◌, ◌-◌, Bool, true, false, not, List, [], ◌∷◌, ◌++◌, length, length-append, suc, drop, reverse, Option, Some, None, arith}
use Rattle.std.specs.Prelude.{filter, bytes_eq, if◌then◌else◌}
use Rattle.inno_types.specs.declared.reply.Reply.{Reply}
use Rattle.inno_db.specs.declared.change.Change.{Change}
use Rattle.inno_db.specs.Database.{Database}
use Rattle.inno_db.specs.Changes.{apply}
use Rattle.inno_db.specs.Outcome.{outcome}
use Rattle.inno_types.specs.declared.stmt.Stmt.{Stmt}
use Rattle.inno_model.specs.Past.{changed, oldest}
use Rattle.sql_history.specs.declared.settings.Save.{Save}
use Rattle.sql_history.specs.Settings.{without, back_to, made_at}
use Rattle.sql_history.specs.Serial.{Piece, is_kept_as, pieces_to, after_work, AnswersOver, WorkAnswers}
use Rattle.sql_history.proofs.Pasts.{changed_append}
use Rattle.law_histories.specs.Work.{AllIn, IsReplied, Tracks}
use Rattle.law_db.proofs.Applicable.{outcome-AreApplicable}
use Rattle.law_histories.proofs.Placing.{changed_turned, AllIn-append, applicable-in}

pub ran-changed : (db : Database) (statement : Stmt) (before : List Change)
    → changed db (reverse (outcome statement (changed db before)).changes ++ before) ≡ apply (changed db before) (outcome statement (changed db before)).changes
ran-changed db statement before =
    let changes = (outcome statement (changed db before)).changes in
    changed_append db (reverse changes) before ∙ changed_turned (changed db before) changes

pub tracks-work : (db : Database) (pieces : List Piece) (saves : List Save) (own : List Change) → Tracks db pieces saves own
    → after_work db pieces ≡ changed db own
tracks-work db [] saves own t = ap (changed db) (sym t.1)
tracks-work db (Piece.kept name ∷ pieces) saves own t = tracks-work db pieces t.0 own t.2
tracks-work db (Piece.ran statement reply ∷ pieces) saves own t =
    ap (λ (d : Database). apply d (outcome statement d).changes) (tracks-work db pieces saves t.0 t.3)
    ∙ sym (ran-changed db statement t.0) ∙ ap (changed db) (sym t.1)

replied-over : (reply : Option Reply) (statement : Stmt) (a b : Database) → b ≡ a → IsReplied reply (outcome statement a)
    → AnswersOver b (Piece.ran statement reply)
replied-over None statement a b is replied = tt
replied-over (Some reply) statement a b is replied = replied ∙ ap (λ (d : Database). (outcome statement d).reply) (sym is)

pub tracks-answers : (db : Database) (pieces : List Piece) (saves : List Save) (own : List Change) → Tracks db pieces saves own → WorkAnswers db pieces
tracks-answers db [] saves own t = tt
tracks-answers db (Piece.kept name ∷ pieces) saves own t = (tracks-answers db pieces t.0 own t.2, tt)
tracks-answers db (Piece.ran statement reply ∷ pieces) saves own t =
    (tracks-answers db pieces saves t.0 t.3, replied-over reply statement (changed db t.0) (after_work db pieces) (tracks-work db pieces saves t.0 t.3) t.2)

pub tracks-in : (db : Database) (pieces : List Piece) (saves : List Save) (own : List Change) → Tracks db pieces saves own → AllIn db own
tracks-in db [] saves own t = subst (AllIn db) (sym t.1) tt
tracks-in db (Piece.kept name ∷ pieces) saves own t = tracks-in db pieces t.0 own t.2
tracks-in db (Piece.ran statement reply ∷ pieces) saves own t =
    let changes = (outcome statement (changed db t.0)).changes in
    subst (AllIn db) (sym t.1)
    (AllIn-append db (reverse changes) t.0 (tracks-in db pieces saves t.0 t.3)
    (applicable-in (changed db t.0) changes (outcome-AreApplicable statement (changed db t.0))))

-- ---- savepoints

-- a savepoint that is kept anew takes the place of the one of its name
abbrev pub left : List ℕ → List Piece → List Piece
left name pieces = filter (λ piece. not (is_kept_as name piece)) pieces

pub tracks-without : (name : List ℕ) (db : Database) (pieces : List Piece) (saves : List Save) (own : List Change) → Tracks db pieces saves own
    → Tracks db (left name pieces) (without name saves) own
tracks-without name db [] saves own t = (ap (without name) t.0, t.1)
tracks-without name db (Piece.ran statement reply ∷ pieces) saves own t = (t.0, t.1, t.2, tracks-without name db pieces saves t.0 t.3)
tracks-without name db (Piece.kept other ∷ pieces) saves own t =
    subst (λ (ss : List Save). Tracks db (left name (Piece.kept other ∷ pieces)) (without name ss) own) (sym t.1)
    (by_test (bytes_eq other name) (tracks-without name db pieces t.0 own t.2))
  where
    by_test : (b : Bool) → Tracks db (left name pieces) (without name t.0) own
        → Tracks db (if not b then Piece.kept other ∷ left name pieces else left name pieces)
        (if not b then record { name = other; made = length own } ∷ without name t.0 else without name t.0) own
    by_test true rest = rest
    by_test false rest = (without name t.0, refl, rest)

some_not_none : {A : Type 0} {made : ℕ} → ◌≡◌ {A = Option ℕ} None (Some made) → A
some_not_none e = cc

made-within : (name : List ℕ) (made : ℕ) (db : Database) (pieces : List Piece) (saves : List Save) (own : List Change) → Tracks db pieces saves own
    → made_at name saves ≡ Some made → made ≤ length own
made-within name made db [] saves own t is = some_not_none (sym (ap (made_at name) t.0) ∙ is)
made-within name made db (Piece.ran statement reply ∷ pieces) saves own t is =
    let changes = (outcome statement (changed db t.0)).changes in
    let behind = made-within name made db pieces saves t.0 t.3 is in
    omega (arith, ap length t.1, length-append (reverse changes) t.0, behind)
made-within name made db (Piece.kept other ∷ pieces) saves own t is =
    by_test (bytes_eq other name) (λ e. made-within name made db pieces t.0 own t.2 e) (sym (ap (made_at name) t.1) ∙ is)
  where
    by_test : (b : Bool) → (made_at name t.0 ≡ Some made → made ≤ length own) → (if b then Some (length own) else made_at name t.0) ≡ Some made
        → made ≤ length own
    by_test true behind e = let same : length own ≡ made = cc in omega (arith, same)
    by_test false behind e = behind e

oldest-all : (own : List Change) → oldest (length own) own ≡ own
oldest-all own = ap (λ n. drop n own) (let none : length own - length own ≡ 0 = omega arith in none)

oldest-behind : (made : ℕ) (later before : List Change) → made ≤ length before → oldest made (later ++ before) ≡ oldest made before
oldest-behind made [] before within = refl
oldest-behind made (change ∷ later) before within =
    let less : length (change ∷ (later ++ before)) - made ≡ suc (length (later ++ before) - made) = omega (arith, length-append later before, within) in
    ap (λ n. drop n (change ∷ (later ++ before))) less ∙ oldest-behind made later before within

-- ROLLBACK TO keeps what was done by the savepoint
pub tracks-back : (name : List ℕ) (made : ℕ) (db : Database) (pieces : List Piece) (saves : List Save) (own : List Change) → Tracks db pieces saves own
    → made_at name saves ≡ Some made → Tracks db (pieces_to name pieces) (back_to name saves) (oldest made own)
tracks-back name made db [] saves own t is = some_not_none (sym (ap (made_at name) t.0) ∙ is)
tracks-back name made db (Piece.ran statement reply ∷ pieces) saves own t is =
    let changes = (outcome statement (changed db t.0)).changes in
    subst (Tracks db (pieces_to name pieces) (back_to name saves))
    (sym (ap (oldest made) t.1 ∙ oldest-behind made (reverse changes) t.0 (made-within name made db pieces saves t.0 t.3 is)))
    (tracks-back name made db pieces saves t.0 t.3 is)
tracks-back name made db (Piece.kept other ∷ pieces) saves own t is =
    subst (λ (ss : List Save). Tracks db (pieces_to name (Piece.kept other ∷ pieces)) (back_to name ss) (oldest made own)) (sym t.1)
    (by_test (bytes_eq other name) (λ e. tracks-back name made db pieces t.0 own t.2 e) (sym (ap (made_at name) t.1) ∙ is))
  where
    by_test : (b : Bool) → (made_at name t.0 ≡ Some made → Tracks db (pieces_to name pieces) (back_to name t.0) (oldest made own))
        → (if b then Some (length own) else made_at name t.0) ≡ Some made
        → Tracks db (if b then Piece.kept other ∷ pieces else pieces_to name pieces)
        (if b then record { name = other; made = length own } ∷ t.0 else back_to name t.0) (oldest made own)
    by_test true behind e =
        let same : length own ≡ made = cc in
        subst (Tracks db (Piece.kept other ∷ pieces) (record { name = other; made = length own } ∷ t.0)) (sym (oldest-all own) ∙ ap (λ n. oldest n own) same)
        (t.0, refl, t.2)
    by_test false behind e = behind e
