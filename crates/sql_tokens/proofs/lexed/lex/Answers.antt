use Rattle.std.proofs.Common.{◌≡◌, List}
use Rattle.std.proofs.lemmas.Result.{IfOk-weaker}
use Rattle.sql_grammar.specs.declared.token.Token.{Token}
use Rattle.sql_grammar.specs.Tokens.{AreTokens}
use Rattle.sql_tokens.specs.Reading.{IsLexed}
use Rattle.sql_tokens.proofs.Joined.{whole, others_same}
use Rattle.sql_tokens.proofs.lexed.lex.Goals as goal

pub returns-clause-whole : goal.returns-clause-whole
returns-clause-whole c =
    let bytes = c.args.bytes.now in
    IfOk-weaker c.read_all.result (λ l. IsLexed bytes l.tokens.items l.lefts.items l.unread) (λ l. l.unread ≡ 0 → AreTokens bytes l.tokens.items) (λ l h. whole bytes l.lefts.items l.tokens.items l.unread h) c.read_all.ensures

pub returns-clause-only : goal.returns-clause-only
returns-clause-only c =
    let bytes = c.args.bytes.now in
    IfOk-weaker c.read_all.result (λ l. IsLexed bytes l.tokens.items l.lefts.items l.unread) (λ l. (others : List Token) → AreTokens bytes others → (l.unread ≡ 0) × (others ≡ l.tokens.items)) (λ l h others a. others_same bytes l.lefts.items l.tokens.items others l.unread h a) c.read_all.ensures
