-- What contracts see of a session and of its receipt, and what a call does.
use Rattle.std.specs.Prelude.{◌≡◌, ◌⊎◌, ℕ, ◌<◌, Bool, true, false, List, [], ◌∷◌, ◌++◌, length, map, slice_index_or, codes, MatchBool, refl}
use Rattle.std.specs.Coded.{Coded, code_by, coded×, coded_ℕ, coded_bool}
use Rattle.inno_types.specs.declared.reply.Item.{Item}
use Rattle.inno_types.specs.declared.reply.Reply.{Reply}
use Rattle.inno_types.specs.declared.reply.Reply.TheVariants as replies
use Rattle.inno_model.specs.declared.event.Event.{Event}
use Rattle.inno_model.specs.declared.event.Event.TheVariants.{Started, Ended}
use Rattle.inno_model.specs.Recorded.{Extends}
use Rattle.atomic_table.specs.Seated.{TableId, table_id_coded}
use Rattle.inno_model.specs.declared.board.Board.{Board}
use Rattle.inno_model.specs.declared.board.Phase.{Phase}
use Rattle.inno_model.specs.contracts.Board as of_board
use Rattle.inno_model.specs.Boards.{calls_of, places_of, phase_of}
use Rattle.turn_rule.specs.declared.rule.Claim.{Claim}
use Rattle.turn_rule.specs.declared.rule.View.{View}
use Rattle.turn_rule.specs.Turnstile.{claim}
use Rattle.turn_rule.specs.Steps.{spent}
use Rattle.turn_engine.specs.Calls.{item_number}

-- A session, or its receipt: the hall that it is of, its number, and what it has seen. A lost one has found no memory
-- for a call, and makes no further one.
pub record Sitting : Type 0 where
  pub hall : TableId
  pub number : ℕ
  pub seen : Board
  pub lost : Bool

abbrev pub sitting_code : Coded Sitting
sitting_code =
    code_by (TableId × (ℕ × (Board × Bool))) (coded× table_id_coded (coded× coded_ℕ (coded× of_board.the_row.coded coded_bool)))
    (λ s. (s.hall, (s.number, (s.seen, s.lost)))) (λ p. record { hall = p.0; number = p.1.0; seen = p.1.1.0; lost = p.1.1.1 }) (λ _. refl)

-- the one view of a badge
abbrev pub view_in : List View → View
view_in views = slice_index_or views 0 spent

abbrev pub sitting : TableId → List View → Bool → Sitting
sitting hall views lost = record { hall = hall; number = (view_in views).mine.number; seen = (view_in views).mine.seen; lost = lost }

-- The badge is that of a session's seat at rest, which has seen so many entries, and the session is this far.
pub record IsSeated (views : List View) (number seen : ℕ) (phase : Phase) : Type 0 where
  pub one : views ≡ view_in views ∷ []
  pub live : (view_in views).live ≡ true
  pub idle : (view_in views).turn ≡ false
  pub alone : (view_in views).joined ≡ []
  pub number_is : (view_in views).mine.number ≡ number
  pub named : number < length (view_in views).mine.seen.names
  pub placed : (view_in views).mine.own ≡ places_of number (view_in views).mine.seen.past
  pub counted : seen ≡ length (view_in views).mine.seen.past
  pub phase_is : phase_of (view_in views).mine.seen number ≡ phase

-- the session's own entries, the newest first, and their places in the history
abbrev pub own : Sitting → List Event
own s = calls_of s.number s.seen.past

abbrev pub own_places : Sitting → List ℕ
own_places s = places_of s.number s.seen.past

-- The call stands in the history once, with its reply. Or there was no memory, and it does not stand there.
abbrev pub Executed : Sitting → Item → Reply → Sitting → Type 0
Executed s item reply t = MatchBool s.lost
    ((reply ≡ replies.NoMemory) × (t ≡ s))
    (MatchBool t.lost
    ((reply ≡ replies.NoMemory) × (own t ≡ own s))
    (own t ≡ Ended s.number (item_number s.number s.seen) reply ∷ Started s.number (item_number s.number s.seen) item ∷ own s))

-- the name of the first session
abbrev pub setup : List ℕ
setup = codes "setup"

-- Nobody has called, and no session but the first has joined.
pub record IsUncalled (b : Board) : Type 0 where
  pub quiet : (x : ℕ) → calls_of x b.past ≡ []
  pub names : (b.names ≡ []) ⊎ (b.names ≡ setup ∷ [])

abbrev pub claim_of : Sitting → Claim
claim_of s = claim s.number s.seen (own_places s)

-- a seat, once it has taken in those of these receipts
abbrev pub gathered : View → List Sitting → View
gathered v receipts = record { live = v.live; turn = v.turn; seated = v.seated; mine = v.mine; joined = v.joined ++ map claim_of receipts }

-- The board has the session's own entries at their places and no others of it, goes on from what the session has seen, and
-- has it as far.
pub record HasCalls (b : Board) (s : Sitting) : Type 0 where
  pub calls : calls_of s.number b.past ≡ own s
  pub places : places_of s.number b.past ≡ own_places s
  pub extends : Extends s.seen.past b.past
  pub phase : phase_of b s.number ≡ phase_of s.seen s.number
