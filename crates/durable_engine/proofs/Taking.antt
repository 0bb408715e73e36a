-- How far the entries of a step have been taken over into the log.
use Rattle.std.proofs.Common.{◌≡◌, ◌⊎◌, ℕ, suc, ◌+◌, ◌<◌, Bool, true, false, List, [], ◌∷◌, ◌++◌, length, take, drop, get_or, reverse, refl, sym, ap, ◌∙◌, inl}
use Rattle.std.proofs.Common.{inr, arith}
use Rattle.std.proofs.lemmas.Bool.{false≢true}
use Rattle.std.proofs.lemmas.List.{reverse-append}
use Rattle.std.proofs.Math.Seq.{drop-cons, take-add}
use Rattle.inno_model.specs.declared.event.Event.{Event}
use Rattle.inno_model.specs.declared.event.Event.TheVariants as events
use Rattle.inno_model.specs.Past.{begins_txn}
use Rattle.commit_log.specs.View.{IsReady}
use Rattle.commit_log.specs.DraftsView.{DraftView, draft_of}
use Rattle.durable_engine.specs.Entering.{MayEnter, TellsOne, TellNone}

none_after : (e : Event) (later : List Event) → begins_txn e ≡ false → TellsOne (e ∷ later) → TellNone later
none_after (events.Begin s n level) later plain tells = absurd (false≢true (sym plain))
none_after (events.Changed s change) later plain tells = tells.1
none_after e later plain tells = tells

begun_after : (e : Event) (later : List Event) → begins_txn e ≡ true → TellsOne (e ∷ later) → TellsOne later
begun_after (events.Begin s n level) later begins tells = tells
begun_after (events.Changed s change) later begins tells = absurd (false≢true begins)
begun_after e later begins tells = absurd (false≢true begins)

either : (b : Bool) → (b ≡ true) ⊎ (b ≡ false)
either true = inl refl
either false = inr refl

-- the entries behind one
pub may_after : (s : ℕ) (before after : Bool) (e : Event) (later : List Event) → (begins_txn e ≡ true → after ≡ before)
    → MayEnter s before (e ∷ later) → MayEnter s after later
may_after s before after e later stays may =
    record {
      mine = may.mine.1;
      tells = elim may.tells [
        | inr none ↦ inr none.1
        | inl ready ↦ elim (either (begins_txn e)) [
          | inl begins ↦ inl (stays begins ∙ ready.0, begun_after e later begins ready.1)
          | inr plain ↦ inr (none_after e later plain ready.1)
        ]
      ];
    }

-- the entries from one on
pub dropped : (i : ℕ) (entries : List Event) (e : Event) → i < length entries → drop i entries ≡ get_or entries i e ∷ drop (i + 1) entries
dropped i entries e within =
    let next : suc i ≡ i + 1 = omega arith in drop-cons entries i e within ∙ ap (λ n. get_or entries i e ∷ drop n entries) next

-- one entry more was taken over
pub reverse_more : (i : ℕ) (entries : List Event) (e : Event) → i < length entries
    → reverse (take (i + 1) entries) ≡ get_or entries i e ∷ reverse (take i entries)
reverse_more i entries e within =
    ap reverse (take-add i 1 entries ∙ ap (λ rest. take i entries ++ take 1 rest) (drop-cons entries i e within))
    ∙ reverse-append (take i entries) (get_or entries i e ∷ [])
