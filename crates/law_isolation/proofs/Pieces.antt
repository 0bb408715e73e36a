-- What is kept for pieces of work: for fewer of them, with more changes, by other savepoints.
-- `StandingOn`, `Ends` and `Stays` ask it. No entry of a history is met here.
use Rattle.std.proofs.Common.{◌≡◌, ◌∙◌, ap, sym, subst, refl, ℕ, ◌≤◌, Bool, true, false, not, List, [], ◌∷◌, Option, Some, None, inl, inr, arith}
use Rattle.std.specs.Prelude.{bytes_eq, if◌then◌else◌}
use Rattle.inno_types.specs.declared.reply.Reply.{Reply}
use Rattle.inno_types.specs.declared.stmt.Stmt.{Stmt}
use Rattle.sql_history.specs.declared.settings.Save.{Save}
use Rattle.sql_history.specs.Settings.{without, back_to, made_at}
use Rattle.sql_history.specs.Serial.{Piece, pieces_to}
use Rattle.law_histories.proofs.Pieces.{left}
use Rattle.law_isolation.specs.Kept.{KeptFor, AreKept}
use Rattle.law_isolation.specs.Stood.{IsAmong}

pub kept_more : (keeps : KeptFor) (pieces : List Piece) (saves : List Save) (made more : ℕ) → made ≤ more → AreKept keeps pieces saves made
    → AreKept keeps pieces saves more
kept_more keeps [] saves made more less kept = kept
kept_more keeps (Piece.kept name ∷ pieces) saves made more less kept = (kept.0, kept.1, (let a = kept.2 in omega (arith, a, less)), kept.3, kept.4)
kept_more keeps (Piece.ran statement reply ∷ pieces) saves made more less kept = (kept.0, (let a = kept.1 in omega (arith, a, less)), kept.2, kept.3)

-- for each piece something else
pub kept_as : (keeps other : KeptFor) (pieces : List Piece) (saves : List Save) (made most : ℕ) → made ≤ most
    → ((piece : Piece) (before : ℕ) → IsAmong piece pieces → before ≤ most → keeps piece before → other piece before) → AreKept keeps pieces saves made
    → AreKept other pieces saves made
kept_as keeps other [] saves made most less turns kept = kept
kept_as keeps other (Piece.kept name ∷ pieces) saves made most less turns kept = (
  kept.0,
  kept.1,
  kept.2,
  kept.3,
  kept_as keeps other pieces kept.0 kept.1 most (let a = kept.2 in omega (arith, a, less)) (λ piece before among. turns piece before (inr among)) kept.4,
)
kept_as keeps other (Piece.ran statement reply ∷ pieces) saves made most less turns kept =
    let within : kept.0 ≤ most = (let a = kept.1 in omega (arith, a, less)) in (
      kept.0,
      kept.1,
      turns (Piece.ran statement reply) kept.0 (inl refl) within kept.2,
      kept_as keeps other pieces saves kept.0 most within (λ piece before among. turns piece before (inr among)) kept.3,
    )

-- of a statement among them it is kept
pub kept_each : (keeps : KeptFor) (pieces : List Piece) (saves : List Save) (made : ℕ) → AreKept keeps pieces saves made → (statement : Stmt)
    (reply : Option Reply) → IsAmong (Piece.ran statement reply) pieces → (before : ℕ) × (before ≤ made) × keeps (Piece.ran statement reply) before
kept_each keeps [] saves made kept statement reply among = absurd among
kept_each keeps (Piece.kept name ∷ pieces) saves made kept statement reply (inl same) = (cc)
kept_each keeps (Piece.kept name ∷ pieces) saves made kept statement reply (inr among) =
    let rest = kept_each keeps pieces kept.0 kept.1 kept.4 statement reply among in
    (rest.0, (let a = rest.1 in let b = kept.2 in omega (arith, a, b)), rest.2)
kept_each keeps (Piece.ran first answer ∷ pieces) saves made kept statement reply (inl same) =
    (kept.0, kept.1, subst (λ (p : Piece). keeps p kept.0) (sym same) kept.2)
kept_each keeps (Piece.ran first answer ∷ pieces) saves made kept statement reply (inr among) =
    let rest = kept_each keeps pieces saves kept.0 kept.3 statement reply among in
    (rest.0, (let a = rest.1 in let b = kept.1 in omega (arith, a, b)), rest.2)

-- ---- savepoints

pub kept_without : (keeps : KeptFor) (name : List ℕ) (pieces : List Piece) (saves : List Save) (made : ℕ) → AreKept keeps pieces saves made
    → AreKept keeps (left name pieces) (without name saves) made
kept_without keeps name [] saves made kept = ap (without name) kept
kept_without keeps name (Piece.ran statement reply ∷ pieces) saves made kept =
    (kept.0, kept.1, kept.2, kept_without keeps name pieces saves kept.0 kept.3)
kept_without keeps name (Piece.kept other ∷ pieces) saves made kept =
    subst (λ (ss : List Save). AreKept keeps (left name (Piece.kept other ∷ pieces)) (without name ss) made) (sym kept.3)
    (by_test (bytes_eq other name) (kept_without keeps name pieces kept.0 kept.1 kept.4))
  where
    by_test : (b : Bool) → AreKept keeps (left name pieces) (without name kept.0) kept.1
        → AreKept keeps (if not b then Piece.kept other ∷ left name pieces else left name pieces)
        (if not b then record { name = other; made = kept.1 } ∷ without name kept.0 else without name kept.0) made
    by_test true rest = kept_more keeps (left name pieces) (without name kept.0) kept.1 made kept.2 rest
    by_test false rest = (without name kept.0, kept.1, kept.2, refl, rest)

some_not_none : {A : Type 0} {made : ℕ} → ◌≡◌ {A = Option ℕ} None (Some made) → A
some_not_none e = cc

-- a savepoint has no more changes, and what is kept up to it stays
pub kept_back : (keeps : KeptFor) (name : List ℕ) (at : ℕ) (pieces : List Piece) (saves : List Save) (made : ℕ) → AreKept keeps pieces saves made
    → made_at name saves ≡ Some at → (at ≤ made) × AreKept keeps (pieces_to name pieces) (back_to name saves) at
kept_back keeps name at [] saves made kept is = some_not_none (sym (ap (made_at name) kept) ∙ is)
kept_back keeps name at (Piece.ran statement reply ∷ pieces) saves made kept is =
    let rest = kept_back keeps name at pieces saves kept.0 kept.3 is in
    ((let a = kept.1 in let b = rest.0 in omega (arith, a, b)), rest.1)
kept_back keeps name at (Piece.kept other ∷ pieces) saves made kept is =
    subst (λ (ss : List Save). (at ≤ made) × AreKept keeps (pieces_to name (Piece.kept other ∷ pieces)) (back_to name ss) at) (sym kept.3)
    (by_test (bytes_eq other name)
    (λ e. let rest = kept_back keeps name at pieces kept.0 kept.1 kept.4 e in
    ((let a = kept.2 in let b = rest.0 in omega (arith, a, b)), rest.1))
    (sym (ap (made_at name) kept.3) ∙ is))
  where
    by_test : (b : Bool) → (made_at name kept.0 ≡ Some at → (at ≤ made) × AreKept keeps (pieces_to name pieces) (back_to name kept.0) at)
        → (if b then Some kept.1 else made_at name kept.0) ≡ Some at
        → (at ≤ made) × AreKept keeps (if b then Piece.kept other ∷ pieces else pieces_to name pieces)
        (if b then record { name = other; made = kept.1 } ∷ kept.0 else back_to name kept.0) at
    by_test true behind e =
        let same : kept.1 ≡ at = cc in
        subst (λ n. (n ≤ made) × AreKept keeps (Piece.kept other ∷ pieces) (record { name = other; made = kept.1 } ∷ kept.0) n) same
        (kept.2, (kept.0, kept.1, omega arith, refl, kept.4))
    by_test false behind e = behind e
