-- From where a statement is given up, or refused.
use Rattle.std.proofs.Common.{◌≡◌, ℕ, ◌+◌, ◌<◌, Bool, true, false, Option, List, [], ◌∷◌, ◌++◌, length, take}
use Rattle.std.proofs.Common.{reverse, refl, sym, ap, subst, ◌∙◌, inl, inr}
use Rattle.std.proofs.lemmas.Bool.{false≢true}
use Rattle.std.proofs.lemmas.List.{append_assoc}
use Rattle.std.specs.Prelude.{is_some, not}
use Rattle.inno_types.specs.declared.stmt.Stmt.{Stmt}
use Rattle.inno_types.specs.declared.stmt.Stmt.TheVariants as stmt
use Rattle.inno_types.specs.declared.reply.Reply.{Reply}
use Rattle.inno_types.specs.declared.reply.Reply.TheVariants as replies
use Rattle.inno_types.specs.declared.reply.SqlError.TheVariants as errors
use Rattle.inno_types.specs.declared.value.Value.{Value}
use Rattle.inno_db.specs.declared.change.Change.{Change}
use Rattle.inno_db.specs.declared.change.Change.TheVariants.{Put}
use Rattle.inno_db.specs.Database.{Database, Place}
use Rattle.inno_db.specs.declared.outcome.Outcome.{Outcome}
use Rattle.inno_db.specs.Changes.{apply}
use Rattle.inno_db.specs.Outcome.{outcome}
use Rattle.inno_model.specs.declared.event.Event.{Event}
use Rattle.inno_model.specs.Moments.{Sometime}
use Rattle.inno_model.specs.Past.{changed, level, own, IsOpen}
use Rattle.sql_history.specs.Items.{own_before, base, point, HasMade}
use Rattle.sql_history.specs.Legal.{IsWriting}
use Rattle.law_histories.specs.Space.{is_of_pages}
use Rattle.sql_history.specs.Counts.{rows_kept, most_rows}
use Rattle.shared_lists.specs.Tasks.{Task, Idle}
use Rattle.shared_lists.specs.Steps.{IsLacking}
use Rattle.shared_lists.specs.declared.answers.Hindrance.{Hindrance}
use Rattle.shared_lists.specs.declared.answers.Hindrance.TheVariants as hindrances
use Rattle.sql_lists.proofs.Staying.{point_now}
use Rattle.write_statement.specs.declared.machine.Part.{Part}
use Rattle.giving_up.specs.declared.leaving.Work.{Work}
use Rattle.giving_up.specs.Replies.{is_count, is_refusal}
use Rattle.write_statement.specs.Parts.{GoesOnWith}
use Rattle.giving_up.specs.Replies.{KeepsReply, PutsRows, MayAnswer}
use Rattle.giving_up.specs.Leaving.{IsWorking, IsBackingOut, MayGoBack}
use Rattle.write_statement.specs.Running.{IsEarly, IsChanging}
use Rattle.giving_up.specs.Leaving.{given_up, given_up_for}
use Rattle.write_statement.specs.Running.{basis_for}
use Rattle.law_db.specs.Beside.{touches}
use Rattle.law_claims.specs.Claims.{Claim, Tables, Basis, RestsOn, Stands}
use Rattle.law_claims.proofs.Standing.{stands_now}
use Rattle.law_claims.proofs.Keeping.{all_kept}
use Rattle.giving_up.proofs.Touched.{touched_later}
use Rattle.write_statement.proofs.PartByPart.{goes_here}
use Rattle.write_statement.proofs.Changes.{taken, parts_are}
use Rattle.write_statement.proofs.Removing.{RemovesAlone, no_put, removes}

-- ---- from where it is given up

-- it has changed nothing yet, and finds no memory
early_given_up : (h : List Event) (writer : Option ℕ) (s : ℕ) (statement : Stmt) (work : Work) → IsEarly s statement work.alone h
    → work.before ≡ length (own s h) → work.kept ≡ replies.NoMemory → work.given ≡ replies.NoMemory → IsBackingOut h writer s work
early_given_up h writer s statement work early before-is kept-is given-is =
    let now = point_now h s early.goes_on.not_over in
    record {
      statement = statement;
      working = early.working;
      before_is = before-is ∙ ap length early.unchanged;
      same = given-is ∙ sym kept-is;
      backs = ap is_count kept-is;
      reply = record {
        was_open = ap (λ p. is_some (level s p)) now ∙ early.working.is_open;
        count = 0;
        made = subst (λ p. HasMade 0 s (outcome statement (base s p)).changes p) (sym now) early.unchanged;
        answers = subst (λ (kept : Reply). MayAnswer s statement 0 kept h) (sym kept-is) tt;
      };
      moves = inr (record { not_over = early.goes_on.not_over; stays = inl (kept-is, refl) });
      rest = [];
      own_is = early.unchanged;
    }

-- a refusal is no error of pages
not_pages : (b : Bool) → not b ≡ true → b ≡ false
not_pages false is = refl
not_pages true is = absurd (false≢true is)

module _ (g : List Event) (writer : Option ℕ) (s : ℕ) (part : Part) (next : Database → Outcome) (todo : List Change)
    (r : IsChanging g writer s part next todo) where
  -- the changes that are made come first, over any rows that the whole goes on over
  first_made : (db : Database) → GoesOnWith r.statement db (r.made ++ reverse todo) next → take (length r.made) (outcome r.statement db).changes ≡ r.made
  first_made db goes =
      let more : List Change = (next (apply db (r.made ++ reverse todo))).changes in
      ap (take (length r.made)) (goes.changes ∙ append_assoc r.made (reverse todo) more) ∙ taken r.made (reverse todo ++ more)

  made_now : HasMade (length r.made) s (outcome r.statement (base s g)).changes g
  made_now = r.own_is ∙ ap (λ changes. reverse changes ++ own_before s g) (sym (first_made (base s g) (goes_here g writer s part next todo r)))

  -- what its reply rests on is kept: more than the changes that are made or to be made, where it is refused
  module _ (kept : Reply) (basis : Basis)
      (more : (claim : Claim) → RestsOn (base s g).schemas (basis_for r.searched (todo ++ own s g)) claim → RestsOn (base s g).schemas basis claim)
      (among : (place : Place) → touches (base s g).schemas (own s g) place ≡ true → touches (base s g).schemas basis.changes place ≡ true)
      (refuses : is_refusal kept ≡ true → Stands basis (λ db. (outcome r.statement db).reply ≡ kept) (base s g)) where
    pub keeps_reply : KeepsReply s (length r.made) kept r.statement g writer
    keeps_reply =
        record {
          basis = basis;
          keeps = λ claim rests. all_kept s Tables claim g writer (r.keeps Tables tt);
          among = among;
          stands = λ others leaves. record {
            changes =
                first_made (changed (base s g) others) (r.goes others (λ claim rests. leaves claim (more claim rests)))
                ∙ sym (first_made (base s g) (goes_here g writer s part next todo r));
            reply = λ is.
                refuses is others leaves ∙ sym (stands_now basis (λ db. (outcome r.statement db).reply ≡ kept) (base s g) (refuses is));
          };
        }

  -- where no refusal is told, nothing more
  unrefused_keeps : (kept : Reply) → is_refusal kept ≡ false → KeepsReply s (length r.made) kept r.statement g writer
  unrefused_keeps kept no-refusal =
      keeps_reply kept (basis_for r.searched (todo ++ own s g)) (λ claim rests. rests) (touched_later (base s g).schemas todo (own s g))
      (λ is. absurd (false≢true (sym no-refusal ∙ is)))

  -- with another reply, for which it may be given up
  pub gives_up : (other : Work) → other.alone ≡ part.alone → other.before ≡ part.before → other.given ≡ other.kept → is_count other.kept ≡ false
      → MayAnswer s r.statement (length r.made) other.kept g → KeepsReply s (length r.made) other.kept r.statement g writer → IsBackingOut g writer s other
  gives_up other same-alone same-before same no-count answers keeps =
      let now = point_now g s r.goes_on.not_over in
      record {
        statement = r.statement;
        working = subst (λ alone. IsWorking s r.statement alone g) (sym same-alone) r.working;
        before_is = same-before ∙ r.before_is;
        same = same;
        backs = no-count;
        reply = record {
          was_open = ap (λ p. is_some (level s p)) now ∙ r.working.is_open;
          count = length r.made;
          made = subst (λ p. HasMade (length r.made) s (outcome r.statement (base s p)).changes p) (sym now) made_now;
          answers = answers;
        };
        moves = inr (record { not_over = r.goes_on.not_over; stays = inr keeps });
        rest = reverse r.made;
        own_is = r.own_is;
      }

  refused_answers : (count : ℕ) (kept : Reply) → is_refusal kept ≡ true → kept ≡ (outcome r.statement (base s (point s g))).reply
      → (is_count kept ≡ false) × MayAnswer s r.statement count kept g
  refused_answers count (replies.Fail error) is answer = (refl, inl (not_pages (is_of_pages error) is, answer))
  refused_answers count other is answer = absurd (false≢true is)

  -- the interpreter refuses it
  pub refused : (kept given : Reply) → given ≡ kept → is_refusal kept ≡ true → kept ≡ (outcome r.statement (base s g)).reply
      → KeepsReply s (length r.made) kept r.statement g writer
      → IsBackingOut g writer s (record { alone = part.alone; before = part.before; kept = kept; given = given })
  refused kept given same is answer keeps =
      let now = point_now g s r.goes_on.not_over in
      let answers = refused_answers (length r.made) kept is (answer ∙ ap (λ p. (outcome r.statement (base s p)).reply) (sym now)) in
      gives_up (record { alone = part.alone; before = part.before; kept = kept; given = given }) refl refl same answers.0 answers.1 keeps

-- at this moment
now_so : (P : List Event → Type 0) (s : ℕ) (h : List Event) → IsOpen s h → P h → Sometime P s h
now_so P s [] is-open here = absurd (false≢true is-open)
now_so P s (e ∷ h) is-open here = inl here

-- ---- for want of memory

-- nothing is changed yet
pub early_no_memory : (past : List Event) (writer : Option ℕ) (task : Task) (s : ℕ) (statement : Stmt) (alone : Bool) (before : ℕ)
    → IsEarly s statement alone past → before ≡ length (own s past) → task ≡ Idle
    → IsBackingOut past writer s (given_up alone before) × MayGoBack before s past task
early_no_memory past writer task s statement alone before early before-is idle =
    (early_given_up past writer s statement (given_up alone before) early before-is refl refl, inl idle)

pub changing_no_memory : (past : List Event) (writer : Option ℕ) (s : ℕ) (part : Part) (next : Database → Outcome) (todo : List Change)
    → IsChanging past writer s part next todo → IsBackingOut past writer s (given_up part.alone part.before)
changing_no_memory past writer s part next todo r = gives_up past writer s part next todo r (given_up part.alone part.before) refl refl refl refl tt
    (unrefused_keeps past writer s part next todo r replies.NoMemory refl)

-- ---- for what a change lacks

pub changing_hindered : (past : List Event) (writer : Option ℕ) (s : ℕ) (part : Part) (next : Database → Outcome) (todo : List Change) (why : Hindrance)
    → IsLacking why → IsChanging past writer s part next todo → IsBackingOut past writer s (given_up_for why part.alone part.before)
changing_hindered past writer s part next todo hindrances.NoMemory lacks r = changing_no_memory past writer s part next todo r
changing_hindered past writer s part next todo (hindrances.Full need free) lacks r =
    let reply : Reply = replies.Fail (errors.Full need free) in
    gives_up past writer s part next todo r (given_up_for (hindrances.Full need free) part.alone part.before) refl refl refl refl (inr lacks)
    (unrefused_keeps past writer s part next todo r reply refl)
changing_hindered past writer s part next todo hindrances.TooDeep lacks r =
    let reply : Reply = replies.Fail errors.TooDeep in
    gives_up past writer s part next todo r (given_up_for hindrances.TooDeep part.alone part.before) refl refl refl refl (inr lacks)
    (unrefused_keeps past writer s part next todo r reply refl)

-- ---- for want of rows

puts_rows : (db : Database) (statement : Stmt) (before : List Change) (table : ℕ) (row : List Value) (later : List Change) → IsWriting statement
    → (outcome statement db).changes ≡ before ++ Put table row ∷ later → PutsRows statement
puts_rows db (stmt.Insert name columns tuples) before table row later writes is = tt
puts_rows db (stmt.Update name sets condition) before table row later writes is = tt
puts_rows db (stmt.Delete name condition) before table row later writes is =
    absurd (no_put before table row later (subst RemovesAlone is (removes db name condition)))
puts_rows db other before table row later writes is = absurd writes

abbrev pub broken_off : Part → ℕ → Work
broken_off part rows = record { alone = part.alone; before = part.before; kept = replies.RunLimit rows; given = replies.RunLimit rows }

pub overfull : (past : List Event) (writer : Option ℕ) (s : ℕ) (part : Part) (next : Database → Outcome) (todo : List Change) (table : ℕ) (row : List Value)
    (rows : ℕ) → IsChanging past writer s part next (todo ++ Put table row ∷ []) → most_rows < rows → rows ≡ rows_kept past + 1
    → IsBackingOut past writer s (broken_off part rows)
overfull past writer s part next todo table row rows r many count =
    let parts = parts_are past writer s part next todo (Put table row) r in
    let puts = puts_rows (base s past) r.statement r.made table row parts.0 r.working.writes parts.1 in
    gives_up past writer s part next (todo ++ Put table row ∷ []) r (broken_off part rows) refl refl refl refl
    (many, puts, now_so (λ h. rows ≡ rows_kept h + 1) s past r.working.is_open count)
    (unrefused_keeps past writer s part next (todo ++ Put table row ∷ []) r (replies.RunLimit rows) refl)
