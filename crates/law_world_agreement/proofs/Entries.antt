-- Entries that change no transaction, and a change that is put back.
use Rattle.std.proofs.Common.{◌≡◌, ◌≢◌, ⊎_elim, ℕ, ◌+◌, ◌<◌, ◌^◌, false, List, ◌∷◌, length, slice_get, option_map, is_some, Some, None}
use Rattle.std.proofs.Common.{inr, refl, sym, ap, subst, ◌∙◌, arith}
use Rattle.std.proofs.lemmas.Bool.Decides.{nat_tests}
use Rattle.std.proofs.lemmas.Option.{slice_get_cases}
use Rattle.inno_types.specs.{declared.reply.Item.Item, declared.reply.Reply.Reply}
use Rattle.inno_db.specs.declared.change.Change.{Change}
use Rattle.inno_model.specs.declared.event.Event.{Event}
use Rattle.inno_model.specs.declared.event.Event.TheVariants.{Started, Ended, Acked, Undone, Signal}
use Rattle.inno_model.specs.Past.{is_of, level, txn, own, view_of, committed, started, under_way, opening}
use Rattle.row_versions.specs.{declared.place.Place.Place, Chains.Chains, Chains.Pops}
use Rattle.law_past_agreement.specs.{Ids.id_of, Ids.is_among, Ids.txns_of, Rows.place_in, Rows.is_at, Rows.row_opened}
use Rattle.law_past_agreement.specs.{Order.created, Order.IsOfRow, Order.IsUndoable, Order.MayCome}
use Rattle.law_past_agreement.proofs.{Ids.ids_of, Rows.rows_stay, Rows.rows_undone, Rows.own_undone, Standing.view_agrees}
use Rattle.world.specs.State.{WorldState, Session}
use Rattle.law_world_agreement.specs.{Agreement.sight_of, Agreement.Agrees, Steps.IsEntered, Steps.IsTakenBackBy}
use Rattle.law_world_agreement.proofs.Settled.{works_at, Keeps, keeps_of, kept_of, works_are, work_stays, agreeing, agrees_alike, after}
use Rattle.law_world_agreement.proofs.Opening.{joined_of, mine_tells}

-- the entry changes no transaction, no row and no table
record IsQuiet (e : Event) (h : List Event) : Type 0 where
  level_is : (u : ℕ) → level u (e ∷ h) ≡ level u h
  txn_is : (u : ℕ) → txn u (e ∷ h) ≡ txn u h
  id_is : (u : ℕ) → id_of (e ∷ h) u ≡ id_of h u
  own_is : (u : ℕ) → own u (e ∷ h) ≡ own u h
  view_is : (u : ℕ) → view_of u (e ∷ h) ≡ view_of u h
  among_is : (n id : ℕ) → is_among (e ∷ h) n id ≡ is_among h n id
  committed_is : (n : ℕ) → committed n (e ∷ h) ≡ committed n h
  txns_are : txns_of h ≡ txns_of (e ∷ h)
  tables : created h ≡ created (e ∷ h)
  opening_is : opening (e ∷ h) ≡ opening h

there_at : (xs : List Session) (s : ℕ) → s < length xs → (x : Session) × (slice_get xs s ≡ Some x)
there_at xs s lt = ⊎_elim (λ there. (there.0, there.2)) (λ past. absurd (omega (arith, lt, past.0))) (slice_get_cases xs s).1

module _ (chains : Chains) (old new : WorldState) where
  quiet : (e : Event) (s : ℕ) → IsQuiet e old.past → ((u : ℕ) → u ≢ s → is_of u e ≡ false) → MayCome old.past e → Agrees chains old
      → s < length old.names → length old.past + 1 < 2 ^ 63 → IsEntered (e ∷ old.past) old new → Agrees chains new
  quiet e s is mine may agrees joined few entered =
      let h = old.past in
      let there = there_at old.sessions s (omega (arith, joined, agrees.count)) in
      let was : works_at s old.sessions ≡ Some there.0.work = ap (option_map (λ (x : Session). x.work)) there.1 in
      after agrees e s mine may few joined
      (record { past = entered.past_is; names = entered.names; count = entered.count; others = λ u differs. entered.works u })
      (entered.schemas ∙ (agrees.lists.tables ∙ is.tables)) (entered.txns ∙ (agrees.lists.txns_are ∙ is.txns_are))
      there.0.work (entered.works s ∙ was)
      (work_stays e h s may (ids_of h agrees.lists.ordered) (is.level_is s) (is.txn_is s) (is.id_is s) (is.own_is s) (is.view_is s) there.0.work
      (subst (Keeps h s) was (keeps_of agrees s)))
      (λ place. rw (entered.schemas, is.opening_is) (rows_stay (row_opened h place) (is_at old.schemas place) e h (λ u. inr (is.id_is u)) is.own_is is.among_is
      is.committed_is (agrees.lists.rows place)))

  -- no entry was added
  pub unentered_agrees : Agrees chains old → IsEntered old.past old new → Agrees chains new
  unentered_agrees agrees entered =
      agrees_alike chains (record new { past = old.past; names = old.names; schemas = old.schemas; txns = old.txns }) new
      (agreeing agrees.lists.ordered agrees.lists.small agrees.lists.tables agrees.lists.txns_are
      (λ u. subst (Keeps old.past u) (sym (entered.works u)) (keeps_of agrees u)) agrees.lists.rows agrees.lists.strangers
      (entered.count ∙ agrees.count)) entered.names entered.past_is entered.schemas entered.txns refl

  pub started_agrees : (s j : ℕ) (item : Item) → Agrees chains old → s < length old.names → under_way s old.past ≡ None → j ≡ started s old.past + 1
      → length old.past + 1 < 2 ^ 63 → IsEntered (Started s j item ∷ old.past) old new → Agrees chains new
  started_agrees s j item agrees joined idle j_is = quiet (Started s j item) s (assumption) (mine_tells s) (idle, j_is) agrees joined

  pub ended_agrees : (s j : ℕ) (reply : Reply) → Agrees chains old → s < length old.names → MayCome old.past (Ended s j reply)
      → length old.past + 1 < 2 ^ 63 → IsEntered (Ended s j reply ∷ old.past) old new → Agrees chains new
  ended_agrees s j reply agrees joined may = quiet (Ended s j reply) s (assumption) (mine_tells s) may agrees joined

  pub acked_agrees : (s moment : ℕ) → Agrees chains old → s < length old.names → MayCome old.past (Acked s moment)
      → length old.past + 1 < 2 ^ 63 → IsEntered (Acked s moment ∷ old.past) old new → Agrees chains new
  acked_agrees s moment agrees joined may = quiet (Acked s moment) s (assumption) (mine_tells s) may agrees joined

  pub signal_agrees : (s : ℕ) (name : List ℕ) → Agrees chains old → s < length old.names → length old.past + 1 < 2 ^ 63
      → IsEntered (Signal name ∷ old.past) old new → Agrees chains new
  signal_agrees s name agrees = quiet (Signal name) s (assumption) (λ u differs. refl) tt agrees

pub taken_back_agrees : (chains chains' : Chains) (old new : WorldState) (s keep : ℕ) (change : Change) (before : List Change)
    (place : Place) → Agrees chains old → own s old.past ≡ change ∷ before → keep ≡ length before → IsOfRow change
    → place_in old.schemas change ≡ Some place → (by : IsTakenBackBy s keep old new) → Pops chains chains' place → length old.past + 1 < 2 ^ 63 → Agrees
    chains' new
taken_back_agrees chains chains' old new s keep change before place agrees own_is keep_is of_row place_is by pops few =
    let h = old.past in
    let mine = kept_of agrees by.had in
    let undoable : IsUndoable keep (own s h) = rw own_is (of_row, sym keep_is) in
    let may : MayCome h (Undone s keep) = (ap is_some mine.level_is, undoable) in
    let count : length (own s h) ≡ keep + 1 = ap length own_is ∙ omega (arith, keep_is) in
    let own_now : own s (Undone s keep ∷ h) ≡ before = own_undone s keep change before h own_is count in
    after agrees (Undone s keep) s (mine_tells s) may few (joined_of agrees by.had.session_is)
    (record { past = by.past; names = by.names; count = by.count; others = λ u differs. ap (option_map (λ (x : Session). x.work)) (by.others u differs) })
    (by.schemas ∙ agrees.lists.tables) (by.txns ∙ agrees.lists.txns_are) (Some by.work_now) (works_are by.has)
    (let view = view_agrees (Undone s keep) h s may (ids_of h agrees.lists.ordered) (λ id some same. same) refl
    (option_map sight_of by.work.view) mine.view_is in
    grind (arith, nat_tests, mine, by, view, own_now, keep_is))
    (λ p. rw by.schemas (rows_undone (row_opened h p) (is_at old.schemas p) s keep change before h own_is count
    (grind (arith, pops p, place_is)) (agrees.lists.rows p)))
