-- Ways to finish a statement that was cut off, before its brackets are closed.
use Rattle.std.specs.Prelude.{List, [], ◌∷◌, Some}
use Rattle.inno_types.specs.declared.stmt.Comparison.TheVariants.{Equal}
use Rattle.sql_grammar.specs.declared.token.Word.{Word}
use Rattle.sql_grammar.specs.declared.token.Word.TheVariants as word
use Rattle.sql_grammar.specs.declared.token.Token.{Token}
use Rattle.sql_grammar.specs.declared.token.Token.TheVariants.{Key, Bare, Compare, Open, Close}
use Rattle.sql_grammar.specs.Words.{spelling}
use Rattle.sql_prefix.proofs.Cuts.{X, Zero}

-- a word that is not reserved, in capital letters
abbrev pub said : Word → Token
said w = Bare (Some w) (spelling w)

pub data End : List Token → Type 0 where
  nothing : End []
  zero : End (Zero ∷ [])
  zero_tuple : End (Open ∷ Zero ∷ Close ∷ [])
  in_zero : End (Key word.In ∷ Open ∷ Zero ∷ Close ∷ [])
  zero_and_zero : End (Zero ∷ Key word.And ∷ Zero ∷ [])
  and_zero : End (Key word.And ∷ Zero ∷ [])
  equals_zero : End (Compare Equal ∷ Zero ∷ [])
  zero_is_zero : End (Zero ∷ Compare Equal ∷ Zero ∷ [])
  null : End (Key word.Null ∷ [])
  name_equals_zero : End (X ∷ Compare Equal ∷ Zero ∷ [])
  set_name : End (Key word.Set ∷ X ∷ Compare Equal ∷ Zero ∷ [])
  name_set : End (X ∷ Key word.Set ∷ X ∷ Compare Equal ∷ Zero ∷ [])
  name : End (X ∷ [])
  from : End (Key word.From ∷ X ∷ [])
  name_from : End (X ∷ Key word.From ∷ X ∷ [])
  update : End (Key word.Update ∷ [])
  mode : End (said word.Mode ∷ [])
  share_mode : End (said word.Share ∷ said word.Mode ∷ [])
  in_share_mode : End (Key word.In ∷ said word.Share ∷ said word.Mode ∷ [])
  values : End (Key word.Values ∷ Open ∷ Zero ∷ Close ∷ [])
  name_values : End (X ∷ Key word.Values ∷ Open ∷ Zero ∷ Close ∷ [])
  kind : End (Key word.BigInt ∷ [])
  column : End (X ∷ Key word.BigInt ∷ [])
  columns : End (Open ∷ X ∷ Key word.BigInt ∷ Close ∷ [])
  table : End (X ∷ Open ∷ X ∷ Key word.BigInt ∷ Close ∷ [])
  exists : End (Key word.Exists ∷ X ∷ Open ∷ X ∷ Key word.BigInt ∷ Close ∷ [])
  not_exists : End (Key word.Not ∷ Key word.Exists ∷ X ∷ Open ∷ X ∷ Key word.BigInt ∷ Close ∷ [])
  create_table : End (Key word.Table ∷ X ∷ Open ∷ X ∷ Key word.BigInt ∷ Close ∷ [])
  key : End (Key word.Key ∷ [])
  name_in_brackets : End (Open ∷ X ∷ Close ∷ [])
  key_of_name : End (Key word.Key ∷ Open ∷ X ∷ Close ∷ [])
  inno_db : End (said word.InnoDb ∷ [])
  begin : End (said word.Begin ∷ [])
  transaction : End (said word.Transaction ∷ [])
  snapshot : End (said word.Snapshot ∷ [])
  consistent : End (said word.Consistent ∷ said word.Snapshot ∷ [])
  autocommit : End (said word.Autocommit ∷ Compare Equal ∷ Zero ∷ [])
  read : End (said word.Read ∷ [])
  committed : End (said word.Committed ∷ [])
  serializable : End (said word.Serializable ∷ [])
  level : End (said word.Level ∷ said word.Serializable ∷ [])
  isolation : End (said word.Isolation ∷ said word.Level ∷ said word.Serializable ∷ [])
  set_transaction : End (said word.Transaction ∷ said word.Isolation ∷ said word.Level ∷ said word.Serializable ∷ [])

-- what stands behind the brackets of a list of columns
abbrev pub Tuples : List Token
Tuples = Key word.Values ∷ Open ∷ Zero ∷ Close ∷ []

-- before the closing brackets, and behind them
pub data Final : List Token → List Token → Type 0 where
  last : {f : List Token} → End f → Final f []
  column_then : Final (X ∷ []) Tuples
  columns_then : Final [] Tuples
