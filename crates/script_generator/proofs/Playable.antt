-- A generated script can be played: its items are statements, each of a session that has a name.
use Rattle.std.proofs.Common.{◌≡◌, refl, ℕ, zero, suc, ◌+◌, ◌<◌, Bool, true, false, cond, List, [], ◌∷◌, ◌++◌, length, length-append, arith}
use Rattle.std.specs.Prelude.{All, codes, nat_lt}
use Rattle.std.specs.Fmt.{decimal}
use Rattle.std.proofs.lemmas.List.Elements.{All-append, All-cons}
use Rattle.inno_types.specs.declared.reply.Item.TheVariants.{Sql}
use Rattle.script.specs.declared.script.Directives.{Directives}
use Rattle.script.specs.declared.script.ScriptItem.{ScriptItem}
use Rattle.script.specs.Script.{IsPlayable}
use Rattle.script_generator.specs.declared.transfer.Transfer.{Transfer}
use Rattle.script_generator.specs.Generated.{names_to, setup, session_items, after_transfers, all_sessions, after_sessions, create_text, insert_text, generated}
use Rattle.script_generator.specs.Transfers.{drawn, statement, pair, taking, giving, updates, transaction}

-- a statement of one of so many sessions
abbrev IsOf : ℕ → ScriptItem → Type 0
IsOf count item = (item.s < count) × ((text : List ℕ) × (item.item ≡ Sql text))

none : (P : ScriptItem → Type 0) → All P []
none P k d h = absurd (omega arith)

of_statement : (count s : ℕ) (text : List ℕ) → s < count → IsOf count (statement s text)
of_statement count s text less = (less, (text, refl))

of_pair : (count s : ℕ) (first second : List ℕ) → s < count → All (IsOf count) (pair s first second)
of_pair count s first second less =
    All-cons (IsOf count) (statement s first) (statement s second ∷ []) (of_statement count s first less)
    (All-cons (IsOf count) (statement s second) [] (of_statement count s second less) (none (IsOf count)))

of_either : (count s : ℕ) (b : Bool) (t : Transfer) → s < count
    → All (IsOf count) (cond b (pair s (taking t) (giving t)) (pair s (giving t) (taking t)))
of_either count s true t less = of_pair count s (taking t) (giving t) less
of_either count s false t less = of_pair count s (giving t) (taking t) less

of_updates : (count s : ℕ) (t : Transfer) → s < count → All (IsOf count) (updates s t)
unfolding updates
of_updates count s t less = of_either count s (nat_lt t.from t.to) t less

of_transaction : (count s : ℕ) (t : Transfer) → s < count → All (IsOf count) (transaction s t)
unfolding transaction
of_transaction count s t less =
    All-cons (IsOf count) (statement s (codes "BEGIN")) (updates s t ++ statement s (codes "COMMIT") ∷ []) (of_statement count s (codes "BEGIN") less)
    (All-append (IsOf count) (updates s t) (statement s (codes "COMMIT") ∷ []) (of_updates count s t less)
    (All-cons (IsOf count) (statement s (codes "COMMIT")) [] (of_statement count s (codes "COMMIT") less) (none (IsOf count))))

of_session : (count s n state : ℕ) → s < count → All (IsOf count) (session_items s n state)
unfolding session_items
of_session count s zero state less = none (IsOf count)
of_session count s (suc n) state less =
    All-append (IsOf count) (session_items s n state) (transaction s (drawn (after_transfers n state))) (of_session count s n state less)
    (of_transaction count s (drawn (after_transfers n state)) less)

of_sessions : (count transfers s state : ℕ) → s < count → All (IsOf count) (all_sessions transfers s state)
unfolding all_sessions
of_sessions count transfers zero state less = none (IsOf count)
of_sessions count transfers (suc s) state less =
    let fewer : s < count = omega arith in
    All-append (IsOf count) (all_sessions transfers s state) (session_items (suc s) transfers (after_sessions transfers s state))
    (of_sessions count transfers s state fewer) (of_session count (suc s) transfers (after_sessions transfers s state) less)

of_setup : (count : ℕ) → 0 < count → All (IsOf count) setup
unfolding setup
of_setup count some = of_pair count 0 create_text insert_text some

as_many : (s : ℕ) → length (names_to s) ≡ s + 1
unfolding names_to
as_many zero = refl
as_many (suc s) = omega (arith, length-append (names_to s) ((codes "s" ++ decimal (suc s)) ∷ []), as_many s)

pub can_be_played : (number sessions transfers : ℕ) (allowed : Directives) → IsPlayable allowed (generated number sessions transfers)
can_be_played number sessions transfers allowed =
    let count = length (names_to sessions) in
    let many = as_many sessions in
    let some : 0 < count = omega (arith, many) in
    let last : sessions < count = omega (arith, many) in
    let all : All (IsOf count) (setup ++ all_sessions transfers sessions number) =
    All-append (IsOf count) setup (all_sessions transfers sessions number) (of_setup count some) (of_sessions count transfers sessions number last) in
    record { named = λ k d h. (all k d h).0; statements = λ no k d h. (all k d h).1 }
