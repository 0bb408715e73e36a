-- What stands behind an entry stood before it, or is the piece of the item that ends; so what is kept for each stays kept.
-- `Stores` makes of it a law of steps. Which work stands is told by `HasWork` and the standing changes.
use Rattle.std.proofs.Common.{◌≡◌, ◌∙◌, ap, sym, refl, subst, ℕ, ◌≤◌, ◌<◌, true, false, List, [], ◌∷◌, ◌++◌, length, Option, Some, inl, inr, ◌⊎◌, arith}
use Rattle.std.specs.Prelude.{◌==◌}
use Rattle.inno_types.specs.declared.reply.Item.{Item}
use Rattle.inno_types.specs.declared.reply.Reply.{Reply}
use Rattle.inno_types.specs.declared.stmt.Stmt.{Stmt}
use Rattle.inno_types.specs.declared.stmt.Stmt.TheVariants as stmt
use Rattle.inno_model.specs.declared.event.Event.{Event}
use Rattle.inno_model.specs.declared.event.Event.TheVariants.{Ended}
use Rattle.inno_model.specs.Past.{is_of, own, level, txn, IsOpen}
use Rattle.sql_history.specs.Items.{Language, Asks}
use Rattle.sql_history.specs.Settings.{at_first}
use Rattle.sql_history.specs.Statements.{is_on_rows}
use Rattle.sql_history.specs.Counts.{has_stopped}
use Rattle.sql_history.specs.Legal.{IsLegal, MayEnd}
use Rattle.sql_history.specs.Serial.{Piece, HasDone, DoesItem, pieces_to}
use Rattle.law_histories.specs.Work.{settled}
use Rattle.law_histories.proofs.Alike.{ReadsOne}
use Rattle.law_histories.proofs.Entries.{by_session, open_not, true_false, no_item}
use Rattle.law_isolation.proofs.Going.{reads_back}
use Rattle.law_isolation.specs.Kept.{KeptIn, Carries, AreStanding, Brings, BringAll, is_counted}
use Rattle.law_isolation.specs.Stood.{IsAmong, IsStanding, IsNew}
use Rattle.law_isolation.proofs.Pieces.{kept_as, kept_each}
use Rattle.law_isolation.proofs.StandingOn.{standing_other, standing_mine}
use Rattle.law_isolation.proofs.Ends.{end_moves}

module _ (says : Language) where
  pub standing_first : (keeps : KeptIn) (s : ℕ) → AreStanding says keeps s []
  standing_first keeps s =
      record { setting = at_first; is_set = refl; carries = λ runs is_open pieces done. open_not s [] is_open refl }

  -- ---- what is kept for each piece that stands, and something else for each

  -- of each statement that stands it is kept
  module _ (one : ReadsOne says) (keeps : KeptIn) (s : ℕ) (past : List Event) where
    abbrev Kept : Stmt → Option Reply → Type 0
    Kept statement reply = (before : ℕ) × (before ≤ length (own s past)) × keeps (txn s past) (level s past) (Piece.ran statement reply) before

    pub standing_each : AreStanding says keeps s past → has_stopped past ≡ false → IsOpen s past → (statement : Stmt) (reply : Option Reply)
        → IsStanding says s past (Piece.ran statement reply) → Kept statement reply
    standing_each standing runs is_open statement reply stands = by_case stands.1.2
      where
        done : List Piece
        done = stands.1.0

        carries : Carries says (keeps (txn s past) (level s past)) s past done standing.setting.saves
        carries = standing.carries runs is_open done stands.1.1

        whole : (pieces : List Piece) → pieces ≡ done → IsAmong (Piece.ran statement reply) pieces → length (settled s past) ≤ length (own s past)
            → Carries says (keeps (txn s past) (level s past)) s past done standing.setting.saves → Kept statement reply
        whole pieces same among within (inl all) =
            let each = kept_each (keeps (txn s past) (level s past)) done standing.setting.saves (length (settled s past)) all.kept statement reply
            (subst (IsAmong (Piece.ran statement reply)) same among) in
            (each.0, (let a = each.1 in omega (arith, a, within)), each.2)
        whole pieces same among within (inr (inl back)) = absurd (let a = back.less in omega (arith, a, within))
        whole pieces same among within (inr (inr lost)) = absurd (let a = lost.0 in omega (arith, a, within))

        part : (pieces : List Piece) (name : List ℕ) → pieces ≡ pieces_to name done → IsAmong (Piece.ran statement reply) pieces
            → length (own s past) < length (settled s past) → Asks says s (stmt.RollbackTo name) past
            → Carries says (keeps (txn s past) (level s past)) s past done standing.setting.saves → Kept statement reply
        part pieces name same among less asks (inl all) = absurd (let a = all.within in omega (arith, a, less))
        part pieces name same among less asks (inr (inl back)) =
            let named : back.name ≡ name = (let e = reads_back says one s name past (stmt.RollbackTo back.name) asks back.asks in cc) in
            let here = subst (IsAmong (Piece.ran statement reply)) (same ∙ ap (λ (n : List ℕ). pieces_to n done) (sym named)) among in
            let each = kept_each (keeps (txn s past) (level s past)) (pieces_to back.name done) _ back.made back.kept statement reply here in
            (each.0, (let a = each.1 in let b = back.within in omega (arith, a, b)), each.2)
        part pieces name same among less asks (inr (inr (lost, inl ending))) = no_item (sym ending.0 ∙ asks.1)
        part pieces name same among less asks (inr (inr (lost, inr (inl all)))) =
            absurd (let e = reads_back says one s name past stmt.Rollback asks all in cc)
        part pieces name same among less asks (inr (inr (lost, inr (inr rows)))) =
            absurd (let e = ap is_on_rows (reads_back says one s name past rows.0 asks rows.1) in let f = rows.2 in cc)

        by_case : (((length (settled s past) ≤ length (own s past)) × (stands.0 ≡ done))
            ⊎ ((length (own s past) < length (settled s past)) × ((name : List ℕ) × Asks says s (stmt.RollbackTo name) past ×
            (stands.0 ≡ pieces_to name done))))
            → Kept statement reply
        by_case (inl all) = whole stands.0 all.1 stands.2 all.0 carries
        by_case (inr back) = part stands.0 back.1.0 back.1.2 stands.2 back.0 back.1.1 carries

  -- what is kept for each that stands is turned into something else
  pub standing_as : (keeps other : KeptIn) (s : ℕ) (past : List Event)
      → (has_stopped past ≡ false → IsOpen s past → (piece : Piece) (before : ℕ) → IsStanding says s past piece → before ≤ length (own s past)
      → keeps (txn s past) (level s past) piece before → other (txn s past) (level s past) piece before)
      → AreStanding says keeps s past → AreStanding says other s past
  standing_as keeps other s past turns standing =
      record {
        setting = standing.setting;
        is_set = standing.is_set;
        carries = λ runs is_open pieces done. carried runs is_open pieces done (standing.carries runs is_open pieces done);
      }
    where
      carried : has_stopped past ≡ false → IsOpen s past → (pieces : List Piece) → HasDone says s past pieces
          → Carries says (keeps (txn s past) (level s past)) s past pieces standing.setting.saves
          → Carries says (other (txn s past) (level s past)) s past pieces standing.setting.saves
      carried runs is_open pieces done (inl whole) =
          inl record {
            within = whole.within;
            kept =
                kept_as (keeps (txn s past) (level s past)) (other (txn s past) (level s past)) pieces standing.setting.saves (length (settled s past))
                (length (own s past)) whole.within
                (λ piece before among less. turns runs is_open piece before (pieces, (pieces, done, inl (whole.within, refl)), among) less) whole.kept;
          }
      carried runs is_open pieces done (inr (inl back)) =
          inr (inl record {
            less = back.less;
            name = back.name;
            asks = back.asks;
            made = back.made;
            is = back.is;
            within = back.within;
            kept =
                kept_as (keeps (txn s past) (level s past)) (other (txn s past) (level s past)) (pieces_to back.name pieces) _ back.made
                (length (own s past)) back.within
                (λ piece before among less. turns runs is_open piece before
                (pieces_to back.name pieces, (pieces, done, inr (back.less, (back.name, back.asks, refl))), among) less) back.kept;
          })
      carried runs is_open pieces done (inr (inr lost)) = inr (inr lost)

  -- ---- entry by entry

  module _ (one : ReadsOne says) (keeps : KeptIn) (s : ℕ) where
    standing_end : (t j : ℕ) (reply : Reply) (past : List Event) → (t == s) ≡ true → IsLegal says past → MayEnd says s j reply past
        → (has_stopped past ≡ false → IsOpen s past → is_counted says reply ≡ true → (statement : Stmt) → Asks says s statement past
        → is_on_rows statement ≡ true → keeps (txn s past) (level s past) (Piece.ran statement (Some reply)) (length (settled s past)))
        → AreStanding says keeps s past → AreStanding says keeps s (Ended t j reply ∷ past)
    standing_end t j reply past is legal may brings standing =
        let moves =
        end_moves says one (keeps (txn s past) (level s past)) s past legal standing.setting standing.is_set may.item reply brings may.asked may.ends in
        record {
          setting = moves.setting;
          is_set = rw is (standing.setting, standing.is_set, rw may.asked moves.sets);
          carries = λ runs is_open pieces done.
              let did = rw is at done in
              inl record {
                within = rw is (omega arith);
                kept = rw is (moves.kept runs is_open did.0 pieces (standing.carries runs is_open did.0 did.1)
                    (subst (λ (i : Option Item). DoesItem says i reply did.0 pieces) may.asked did.2));
              };
        }

    pub standing_entry : (e : Event) (past : List Event) → IsLegal says (e ∷ past) → Brings says keeps s e past → AreStanding says keeps s past
        → AreStanding says keeps s (e ∷ past)
    standing_entry e past legal brings standing =
        elim (is_of s e) as (λ b. is_of s e ≡ b → AreStanding says keeps s (e ∷ past)) [
          | true ↦ λ mine. of_own e past mine legal brings standing
          | false ↦ λ other. standing_other says keeps s e past other standing
        ] refl
      where
        of_own : (e : Event) (past : List Event) → is_of s e ≡ true → IsLegal says (e ∷ past) → Brings says keeps s e past → AreStanding says keeps s past
            → AreStanding says keeps s (e ∷ past)
        of_own (Ended t j reply) past mine legal brings standing =
            by_session t s
            (λ is same. standing_end t j reply past is legal.1 (subst (λ u. MayEnd says u j reply past) same legal.0.1) (brings same) standing)
            (λ other. true_false mine other)
        of_own e past mine legal brings standing = standing_mine says one keeps s e past refl mine legal standing

    -- through all entries of a step
    pub standing_entries : (entries past : List Event) → IsLegal says (entries ++ past) → BringAll says keeps s entries past → AreStanding says keeps s past
        → AreStanding says keeps s (entries ++ past)
    standing_entries [] past legal brings standing = standing
    standing_entries (e ∷ entries) past legal brings standing =
        standing_entry e (entries ++ past) legal brings.0 (standing_entries entries past legal.1 brings.1 standing)

  -- ---- what stands behind an entry stood before it

  module _ (one : ReadsOne says) where
    abbrev Anything : KeptIn
    Anything n l piece before = Unit {0}

    anything_brought : (s : ℕ) (e : Event) (past : List Event) → Brings says Anything s e past
    anything_brought s (Ended t j reply) past = λ same runs is_open counts statement asks rows. tt
    anything_brought s e past = tt

    -- in a legal history pieces, savepoints and numbers of changes go together
    pub numbers_stand : (s : ℕ) (past : List Event) → IsLegal says past → AreStanding says Anything s past
    numbers_stand s [] legal = standing_first Anything s
    numbers_stand s (e ∷ past) legal = standing_entry one Anything s e past legal (anything_brought s e past) (numbers_stand s past legal.1)

    module _ (s : ℕ) (e : Event) (past : List Event) where
      abbrev Stood : KeptIn
      Stood n l piece before = IsStanding says s past piece ⊎ IsNew says s e past piece

      new_brought : (e : Event) → Brings says (λ n l piece before. IsStanding says s past piece ⊎ IsNew says s e past piece) s e past
      new_brought (Ended t j reply) = λ same runs is_open counts statement asks rows. inr (same, (statement, asks, rows, refl))
      new_brought other = tt

      pub standing_stays : IsLegal says (e ∷ past) → has_stopped (e ∷ past) ≡ false → IsOpen s (e ∷ past) → (statement : Stmt) (reply : Option Reply)
          → IsStanding says s (e ∷ past) (Piece.ran statement reply)
          → IsStanding says s past (Piece.ran statement reply) ⊎ IsNew says s e past (Piece.ran statement reply)
      standing_stays legal runs is_open statement reply stands =
          let before = standing_as Anything Stood s past (λ runs is_open piece before stood less any. inl stood) (numbers_stand s past legal.1) in
          (standing_each one Stood s (e ∷ past) (standing_entry one Stood s e past legal (new_brought e) before) runs is_open statement reply stands).2
