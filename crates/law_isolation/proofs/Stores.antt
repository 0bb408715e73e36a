-- Standing work is kept by each step of a store, and so no commit meets what another has searched and locked.
-- `law_locked_work` cites it, with searches and locks for what is kept.
use Rattle.std.proofs.Common.{◌≡◌, ◌≢◌, ◌∙◌, ap, sym, refl, subst, ℕ, ◌≤◌, true, false, List, [], ◌∷◌, ◌++◌, length, Option, Some, inl, inr, arith}
use Rattle.std.specs.Prelude.{◌==◌, is_some}
use Rattle.std.proofs.lemmas.Bool.Decides.{nat_tests}
use Rattle.inno_types.specs.declared.lock.Level.{Level}
use Rattle.inno_types.specs.declared.reply.Reply.{Reply}
use Rattle.inno_types.specs.declared.stmt.Stmt.{Stmt}
use Rattle.inno_db.specs.declared.change.Change.{Change}
use Rattle.inno_db.specs.Database.{Database}
use Rattle.inno_model.specs.declared.event.Event.{Event}
use Rattle.inno_model.specs.declared.event.Event.TheVariants.{Ended, Committed}
use Rattle.inno_model.specs.Past.{own, level, txn, IsOpen}
use Rattle.sql_history.specs.Items.{Language}
use Rattle.sql_history.specs.Statements.{Sight, sight_of}
use Rattle.sql_history.specs.Counts.{has_stopped}
use Rattle.sql_history.specs.Legal.{IsLegal}
use Rattle.sql_history.specs.Serial.{Piece}
use Rattle.law_db.specs.Beside.{IsBesideStatement}
use Rattle.law_histories.specs.Work.{committed_db}
use Rattle.law_histories.proofs.Alike.{ReadsOne}
use Rattle.law_histories.proofs.Entries.{by_session}
use Rattle.law_isolation.specs.Standing.{HasStanding}
use Rattle.law_isolation.specs.Phantoms.{AreSparedAt, SparesLocked}
use Rattle.law_isolation.specs.Kept.{KeptIn, AreStanding, BringAll}
use Rattle.law_isolation.specs.Stood.{IsAmong}
use Rattle.law_isolation.specs.Stores.{Locks, EndNone, kept_in, StandsIn, CommitsSpare, Steps}
use Rattle.law_isolation.proofs.Stays.{standing_first, standing_each, standing_as, standing_entries}

module _ (says : Language) where
  -- where no item of the session ends nothing is brought
  none_brought : (keeps : KeptIn) (s : ℕ) (entries past : List Event) → EndNone s entries → BringAll says keeps s entries past
  none_brought keeps s [] past none = tt
  none_brought keeps s (Ended t j reply ∷ entries) past none = (λ same. absurd (none.0 same), none_brought keeps s entries past none.1)
  none_brought keeps s (e ∷ entries) past none = (tt, none_brought keeps s entries past none)

  brought_as : (keeps other : KeptIn) (s : ℕ) (entries past : List Event)
      → ((n : ℕ) (l : Option Level) (piece : Piece) (made : ℕ) → keeps n l piece made → other n l piece made)
      → BringAll says keeps s entries past → BringAll says other s entries past
  brought_as keeps other s [] past turns brought = tt
  brought_as keeps other s (Ended t j reply ∷ entries) past turns brought = (
    λ same runs is_open counts statement asks rows. turns (txn s (entries ++ past)) (level s (entries ++ past)) (Piece.ran statement (Some reply)) _
        (brought.0 same runs is_open counts statement asks rows),
    brought_as keeps other s entries past turns brought.1,
  )
  brought_as keeps other s (e ∷ entries) past turns brought = (tt, brought_as keeps other s entries past turns brought.1)

  -- what is kept for each standing piece leaves each beside a commit
  module _ (one : ReadsOne says) (keeps : KeptIn) (s : ℕ) (l : Level) (past : List Event) (db : Database) (changes : List Change) where
    pub each_spared : AreStanding says keeps s past → has_stopped past ≡ false → level s past ≡ Some l
        → ((statement : Stmt) (reply : Option Reply) (made : ℕ) → sight_of l false statement ≡ Sight.of_latest
        → keeps (txn s past) (Some l) (Piece.ran statement reply) made → IsBesideStatement statement db changes)
        → (pieces : List Piece) → HasStanding says s past pieces → AreSparedAt l pieces db changes
    each_spared standing runs open_at beside pieces stands = among pieces (λ piece is. is)
      where
        is_open : IsOpen s past
        is_open = ap is_some open_at

        among : (some : List Piece) → ((piece : Piece) → IsAmong piece some → IsAmong piece pieces) → AreSparedAt l some db changes
        among [] all = tt
        among (Piece.kept name ∷ some) all = (tt, among some (λ piece is. all piece (inr is)))
        among (Piece.ran statement reply ∷ some) all = (
          λ latest.
              let each = standing_each says one keeps s past standing runs is_open statement reply
              (pieces, stands, all (Piece.ran statement reply) (inl refl)) in
              beside statement reply each.0 latest (subst (λ o. keeps (txn s past) o (Piece.ran statement reply) each.0) open_at each.2),
          among some (λ piece is. all piece (inr is)),
        )

  module _ (one : ReadsOne says) (Store : Type 0) (past_of : Store → List Event) (keeps : ℕ → Piece → ℕ → Store → Type 0) where
    pub stands_first : (store : Store) → past_of store ≡ [] → StandsIn says Store past_of keeps store
    stands_first store none =
        record {
          standing = λ s. subst (λ (h : List Event). AreStanding says (kept_in says Store past_of keeps s store) s h) (sym none)
              (standing_first says (kept_in says Store past_of keeps s store) s);
          spared = subst (SparesLocked says) (sym none) tt;
        }

    module _ (t : ℕ) (entries : List Event) (old new : Store) (legal : IsLegal says (past_of new)) (steps : Steps says Store past_of keeps t entries old new)
        (stands : StandsIn says Store past_of keeps old) where
      -- kept at the end of the step, where the transaction is still the one
      abbrev later : ℕ → KeptIn
      later s n l piece made =
          IsOpen s (past_of new) → n ≡ txn s (past_of new) → made ≤ length (own s (past_of new)) → Locks l piece → keeps s piece made new

      legal_all : IsLegal says (entries ++ past_of old)
      legal_all = subst (IsLegal says) steps.adds legal

      brought : (s : ℕ) → BringAll says (later s) s entries (past_of old)
      brought s = by_session t s
          (λ is same. subst (λ u. BringAll says (later u) u entries (past_of old)) same
          (brought_as (kept_in says Store past_of keeps t new) (later t) t entries (past_of old)
          (λ n l piece made kept is_open number less locks. kept locks) steps.brings))
          (λ other. none_brought (later s) s entries (past_of old) (steps.others s
          (λ same. let e : (t == s) ≡ true = grind (arith, nat_tests, same) in (let f = sym e ∙ other in cc))))

      standing_on : (s : ℕ) → AreStanding says (kept_in says Store past_of keeps s new) s (past_of new)
      standing_on s =
          let before = standing_as says (kept_in says Store past_of keeps s old) (later s) s (past_of old)
          (λ runs is_open piece made stood less kept still number within locks. steps.keeps_on s made piece is_open still number within (kept locks))
          (stands.standing s) in
          let behind = subst (λ (h : List Event). AreStanding says (later s) s h) (sym steps.adds)
          (standing_entries says one (later s) s entries (past_of old) legal_all (brought s) before) in
          standing_as says (later s) (kept_in says Store past_of keeps s new) s (past_of new)
          (λ runs is_open piece made stood less kept locks. kept is_open refl less locks) behind

      -- each commit among the entries
      spared_on : (some : List Event) → IsLegal says (some ++ past_of old) → ((s : ℕ) → s ≢ t → EndNone s some)
          → CommitsSpare says Store past_of keeps t old some
          → SparesLocked says (some ++ past_of old)
      spared_on [] allowed none spare = stands.spared
      spared_on (Committed u ∷ some) allowed none spare = (
        λ s l pieces differ open_at stood.
            let apart : s ≢ t = λ e. differ (e ∙ sym spare.0.0) in
            let middle = standing_entries says one (kept_in says Store past_of keeps s old) s some (past_of old) allowed.1
            (none_brought (kept_in says Store past_of keeps s old) s some (past_of old) (none s apart)) (stands.standing s) in
            each_spared one (kept_in says Store past_of keeps s old) s l (some ++ past_of old) (committed_db (some ++ past_of old))
            (own u (some ++ past_of old)) middle
            allowed.0.1 open_at
            (λ statement reply made latest kept. subst (λ v. IsBesideStatement statement (committed_db (some ++ past_of old)) (own v (some ++ past_of old)))
            (sym spare.0.0)
            (spare.0.1 s made statement reply apart (ap is_some open_at) (kept latest)))
            pieces stood,
        spared_on some allowed.1 none spare.1,
      )
      spared_on (Ended u j reply ∷ some) allowed none spare = spared_on some allowed.1 (λ s differ. (none s differ).1) spare.1
      spared_on (e ∷ some) allowed none spare = spared_on some allowed.1 none spare.1

      -- What stands is kept on by the step.
      pub stands_on : StandsIn says Store past_of keeps new
      stands_on =
          record {
            standing = standing_on;
            spared = subst (SparesLocked says) (sym steps.adds) (spared_on entries legal_all steps.others steps.commits);
          }
