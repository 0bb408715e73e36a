-- What an entry leaves of what a CREATE TABLE knows.
use Rattle.std.proofs.Common.{◌≡◌, ℕ, true, false, List, [], ◌∷◌, sym, subst, ◌∙◌, length}
use Rattle.std.specs.List.{AllByRecursion}
use Rattle.inno_types.specs.declared.lock.Level.{Level}
use Rattle.inno_types.specs.declared.stmt.Stmt.{Stmt}
use Rattle.inno_db.specs.declared.change.Change.{Change}
use Rattle.inno_db.specs.Outcome.{outcome}
use Rattle.inno_model.specs.declared.event.Event.{Event}
use Rattle.inno_model.specs.Past.{did, begins_txn, commits_txn, rolls_back_txn, level}
use Rattle.sql_history.specs.Items.{own_before, base, point, HasMade}
use Rattle.sql_history.specs.Waiting.{is_victim}
use Rattle.sql_history.specs.Legal.{EndsCreate}
use Rattle.law_past_agreement.specs.Order.{IsOfRow}
use Rattle.sql_lists.proofs.Staying.{is_within, point_stays}
use Rattle.giving_up.proofs.Own.{takes_on}
use Rattle.giving_up.proofs.Ends.{Spares, begins_same, commits_same, rolls_same, victim_same}
use Rattle.create_statement.specs.Knowing.{IsAt, IsToBegin, IsCommitted}

-- ---- an entry that neither starts nor ends an item

abbrev pub at_on : (s : ℕ) (statement : Stmt) (e : Event) (h : List Event) → is_within s e ≡ true → AllByRecursion IsOfRow (own_before s (e ∷ h))
    → did is_victim s (e ∷ h) ≡ false → IsAt s statement h → IsAt s statement (e ∷ h)
at_on s statement e h within rows victim at =
    record { takes = takes_on e h s within statement at.takes; kind = at.kind; no_victim = victim; rows_before = rows }

pub to_begin_on : (s : ℕ) (statement : Stmt) (l : Level) (e : Event) (h : List Event) → is_within s e ≡ true
    → AllByRecursion IsOfRow (own_before s (e ∷ h)) → did is_victim s (e ∷ h) ≡ false → IsToBegin s statement l h → IsToBegin s statement l (e ∷ h)
to_begin_on s statement l e h within rows victim b =
    record { at = at_on s statement e h within rows victim b.at; level_is = b.level_is }

-- an entry that leaves how the item is to end
pub ends_on : (s : ℕ) (e : Event) (h : List Event) (changes : List Change) → level s (e ∷ h) ≡ level s h → did begins_txn s (e ∷ h) ≡ did begins_txn s h
    → did commits_txn s (e ∷ h) ≡ did commits_txn s h → did rolls_back_txn s (e ∷ h) ≡ did rolls_back_txn s h → point s (e ∷ h) ≡ point s h
    → EndsCreate s changes h → EndsCreate s changes (e ∷ h)
ends_on s e h [] same-level same-begun same-committed same-rolled same ends = (same-level ∙ ends.0, same-begun ∙ ends.1, same-rolled ∙ ends.2)
ends_on s e h (change ∷ changes) same-level same-begun same-committed same-rolled same ends = (
  record { closed = same-level ∙ ends.0.closed; committed = same-committed ∙ ends.0.committed; not_rolled_back = same-rolled ∙ ends.0.not_rolled_back },
  same-begun ∙ ends.1,
  subst (HasMade (length (change ∷ changes)) s (change ∷ changes)) (sym same) ends.2,
)

-- ---- an entry of another session, or the acknowledgement of its commit

module _ (e : Event) (h : List Event) (s : ℕ) (sp : Spares e h s) where
  rows_spared : AllByRecursion IsOfRow (own_before s h) → AllByRecursion IsOfRow (own_before s (e ∷ h))
  rows_spared rows = subst (AllByRecursion IsOfRow) (sym sp.had_is) rows

  pub to_begin_spared : (statement : Stmt) (l : Level) → IsToBegin s statement l h → IsToBegin s statement l (e ∷ h)
  to_begin_spared statement l b = to_begin_on s statement l e h sp.within (rows_spared b.at.rows_before) (victim_same e h s sp ∙ b.at.no_victim) b

  pub committed_spared : (statement : Stmt) → IsCommitted s statement h → IsCommitted s statement (e ∷ h)
  committed_spared statement c =
      let stays : point s (e ∷ h) ≡ point s h = point_stays e h s c.over (sp.over_is ∙ c.over) in
      record {
        at = at_on s statement e h sp.within (rows_spared c.at.rows_before) (victim_same e h s sp ∙ c.at.no_victim) c.at;
        ends =
            subst (λ p. EndsCreate s (outcome statement (base s p)).changes (e ∷ h)) (sym stays)
            (ends_on s e h (outcome statement (base s (point s h))).changes sp.level_is (begins_same e h s sp) (commits_same e h s sp) (rolls_same e h s sp)
            stays c.ends);
        over = sp.over_is ∙ c.over;
        closed = sp.level_is ∙ c.closed;
        new = sp.own_is ∙ c.new;
      }
