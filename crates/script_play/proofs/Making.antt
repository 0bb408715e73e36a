-- What a session has begun of a script after one item of it more.
use Rattle.std.proofs.Common.{◌≡◌, ◌≢◌, ℕ, ◌+◌, ◌<◌, Bool, true, false, List, [], ◌∷◌, ◌++◌, length, take, get_or, cond}
use Rattle.std.proofs.Common.{refl, sym, ap, subst, ◌∙◌, append_assoc}
use Rattle.std.specs.Prelude.{None, MatchBool}
use Rattle.std.proofs.lemmas.Bool.{eq-eqb}
use Rattle.std.proofs.lemmas.List.{append-nil}
use Rattle.std.proofs.Math.Seq.{take-length}
use Rattle.inno_types.specs.declared.reply.Item.{Item}
use Rattle.inno_types.specs.declared.reply.Reply.{Reply}
use Rattle.inno_types.specs.declared.reply.Reply.TheVariants as replies
use Rattle.inno_model.specs.declared.event.Event.{Event}
use Rattle.inno_model.specs.declared.event.Event.TheVariants.{Started, Ended}
use Rattle.inno_model.specs.Past.{under_way}
use Rattle.inno_model.specs.Text.{items}
use Rattle.script.specs.declared.script.ScriptItem.{ScriptItem}
use Rattle.atomic_table.specs.Seated.{TableId}
use Rattle.turn_engine.specs.Calls.{item_number}
use Rattle.turn_engine.specs.Sessions.{Sitting, own, Executed}
use Rattle.script_play.specs.Sessions.{items_of}
use Rattle.script_play.proofs.Places.{own_item, other_item}
use Rattle.script_play.specs.Playing.{HasBegun, IsWhole}

-- a session that has made no call has begun no item
pub unbegun : (script : List ScriptItem) (s t : Sitting) → own s ≡ [] → own t ≡ own s → HasBegun script t
unbegun script s t none same = record {
  left = items_of t.number script;
  items_are = sym (ap (λ calls. items t.number calls ++ items_of t.number script) (same ∙ none));
  rests = ap (under_way t.number) (same ∙ none);
}

module _ (script : List ScriptItem) (n : ℕ) (d : ScriptItem) (here : n < length script) (s t : Sitting) where
  -- an item of another session
  pub passes : (get_or script n d).s ≢ s.number → t ≡ s → HasBegun (take n script) s → IsWhole (take n script) s
      → HasBegun (take (n + 1) script) t × IsWhole (take (n + 1) script) t
  passes apart same begun whole =
      let still = other_item s.number n script d here apart in
      rw same (
        record { left = begun.left; items_are = still ∙ begun.items_are; rests = begun.rests },
        λ kept. whole kept ∙ sym still,
      )

  module _ (mine : (get_or script n d).s ≡ s.number) (same : t.number ≡ s.number) where
    item : Item
    item = (get_or script n d).item

    grows : items_of t.number (take (n + 1) script) ≡ items_of s.number (take n script) ++ (get_or script n d).item ∷ []
    grows = ap (λ u. items_of u (take (n + 1) script)) same ∙ own_item s.number n script d here mine

    idles : own t ≡ own s → HasBegun (take n script) s → HasBegun (take (n + 1) script) t
    idles calls begun =
        let items-same : items t.number (own t) ≡ items s.number (own s) = ap (λ u. items u (own t)) same ∙ ap (items s.number) calls in
        record {
          left = begun.left ++ (get_or script n d).item ∷ [];
          items_are = grows ∙ ap (λ list. list ++ (get_or script n d).item ∷ []) begun.items_are
              ∙ append_assoc (items s.number (own s)) begun.left ((get_or script n d).item ∷ [])
              ∙ ap (λ list. list ++ (begun.left ++ (get_or script n d).item ∷ [])) (sym items-same);
          rests = ap (λ u. under_way u (own t)) same ∙ ap (under_way s.number) calls ∙ begun.rests;
        }

    module _ (k : ℕ) (reply : Reply)
        (calls : own t ≡ Ended s.number k reply ∷ Started s.number k (get_or script n d).item ∷ own s)
        (whole : items s.number (own s) ≡ items_of s.number (take n script)) where
      own-items : items t.number (own t) ≡ items s.number (own s) ++ (get_or script n d).item ∷ []
      own-items =
          ap (λ u. items u (own t)) same ∙ ap (items s.number) calls
          ∙ ap (λ b. cond b (items s.number (own s) ++ (get_or script n d).item ∷ []) (items s.number (own s))) (eq-eqb s.number s.number refl)

      all-items : items t.number (own t) ≡ items_of t.number (take (n + 1) script)
      all-items = own-items ∙ ap (λ list. list ++ (get_or script n d).item ∷ []) whole ∙ sym grows

      nothing-left : under_way t.number (own t) ≡ None
      nothing-left =
          ap (λ u. under_way u (own t)) same ∙ ap (under_way s.number) calls
          ∙ ap (λ b. cond b None (under_way s.number (Started s.number k (get_or script n d).item ∷ own s))) (eq-eqb s.number s.number refl)

      makes : HasBegun (take (n + 1) script) t × IsWhole (take (n + 1) script) t
      makes = (
        record { left = []; items_are = sym (append-nil (items t.number (own t)) ∙ all-items); rests = nothing-left },
        λ kept. all-items,
      )

    -- an item of the session
    pub calls_on : (was is : Bool) (k : ℕ) (reply : Reply) → s.lost ≡ was → t.lost ≡ is
        → MatchBool was ((reply ≡ replies.NoMemory) × (t ≡ s)) (MatchBool is ((reply ≡ replies.NoMemory) × (own t ≡ own s))
        (own t ≡ Ended s.number k reply ∷ Started s.number k (get_or script n d).item ∷ own s))
        → HasBegun (take n script) s → IsWhole (take n script) s → HasBegun (take (n + 1) script) t × IsWhole (take (n + 1) script) t
    calls_on true is k reply was_is is_is call begun whole =
        (idles (ap own call.1) begun, λ kept. let e = sym was_is ∙ sym (ap (λ (u : Sitting). u.lost) call.1) ∙ kept in cc)
    calls_on false true k reply was_is is_is call begun whole = (idles call.1 begun, λ kept. let e = sym is_is ∙ kept in cc)
    calls_on false false k reply was_is is_is call begun whole = makes k reply call (whole was_is)

-- The session has made its calls among the first n items, in this hall.
pub record HasCalled (hall : TableId) (first : Sitting) (script : List ScriptItem) (n : ℕ) (s : Sitting) : Type 0 where
  pub hall_is : s.hall ≡ hall
  pub number_is : s.number ≡ first.number
  pub names : first.number ≡ 0 → s.seen.names ≡ first.seen.names
  pub begun : HasBegun (take n script) s
  pub whole : IsWhole (take n script) s

module _ (hall : TableId) (first : Sitting) (script : List ScriptItem) (n : ℕ) (x : ScriptItem) (here : n < length script) (at : x ≡ get_or script n x)
    (s t : Sitting) (called : HasCalled hall first script n s) where
  pub called_other : x.s ≢ first.number → t ≡ s → HasCalled hall first script (n + 1) t
  called_other apart same =
      let on = passes script n x here s t (λ is. apart (ap (λ (y : ScriptItem). y.s) at ∙ is ∙ called.number_is)) same called.begun called.whole in
      record {
        hall_is = ap (λ (u : Sitting). u.hall) same ∙ called.hall_is;
        number_is = ap (λ (u : Sitting). u.number) same ∙ called.number_is;
        names = λ zero. ap (λ (u : Sitting). u.seen.names) same ∙ called.names zero;
        begun = on.0;
        whole = on.1;
      }

  pub called_own : (reply : Reply) → x.s ≡ first.number → t.hall ≡ s.hall → t.number ≡ s.number → (s.number ≡ 0 → t.seen.names ≡ s.seen.names)
      → Executed s x.item reply t → HasCalled hall first script (n + 1) t
  called_own reply mine same_hall same_number same_names call =
      let call_at = subst (λ (y : ScriptItem). Executed s y.item reply t) at call in
      let on = calls_on script n x here s t (sym (ap (λ (y : ScriptItem). y.s) at) ∙ mine ∙ sym called.number_is) same_number s.lost t.lost
      (item_number s.number s.seen) reply refl refl call_at called.begun called.whole in
      record {
        hall_is = same_hall ∙ called.hall_is;
        number_is = same_number ∙ called.number_is;
        names = λ zero. same_names (called.number_is ∙ zero) ∙ called.names zero;
        begun = on.0;
        whole = on.1;
      }
