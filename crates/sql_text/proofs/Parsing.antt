-- From the reading of the tokens to what the bytes spell.
use Rattle.std.proofs.Common.{◌≡◌, ℕ, List, Ok, Err, subst}
use Rattle.inno_types.specs.declared.stmt.Stmt.{Stmt}
use Rattle.sql_grammar.specs.declared.token.Token.{Token}
use Rattle.sql_grammar.specs.Tokens.{AreTokens}
use Rattle.sql_grammar.specs.Grammar.{Statement, Spells}
use Rattle.sql_text.specs.Whole.{statement_of}
use Rattle.sql_text.proofs.CompleteStatements.{statement_complete}

pub spells : (bytes : List ℕ) (tokens : List Token) (s : Stmt) → AreTokens bytes tokens → Statement tokens s → Spells bytes s
spells bytes tokens s l p = record { tokens = tokens; lexed = l; parsed = p }

pub some_unread : (bytes : List ℕ) (tokens : List Token) (unread : ℕ) → ((others : List Token) → AreTokens bytes others → (unread ≡ 0) × (others ≡ tokens)) → (unread ≡ 0 → ⊥) → (s : Stmt) → Spells bytes s → ⊥
some_unread bytes tokens unread only h s p = h (only p.tokens p.lexed).0

pub not_read : (bytes : List ℕ) (tokens rest : List Token) (unread : ℕ) → ((others : List Token) → AreTokens bytes others → (unread ≡ 0) × (others ≡ tokens)) → statement_of tokens ≡ Err rest → (s : Stmt) → Spells bytes s → ⊥
not_read bytes tokens rest unread only e s p =
    let same : statement_of tokens ≡ Ok tt = subst (λ (ts : List Token). statement_of ts ≡ Ok tt) (only p.tokens p.lexed).1 (statement_complete p.parsed) in
    cc
