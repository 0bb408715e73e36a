-- What stands before the fields of a record.
use Rattle.std.specs.Prelude.{◌≡◌, ℕ, List, ◌++◌}
use Rattle.store_api.specs.declared.answers.Version.{Version}
use Rattle.row_codec.specs.declared.read.Head.{Head}
use Rattle.row_codec.specs.Rows.{head_code}

-- the bytes are this head, and the fields behind it
abbrev pub IsHeadOf : Head → List ℕ → List ℕ → Type 0
IsHeadOf head fields bytes = bytes ≡ head_code head.marked head.writer head.pointer ++ fields

abbrev pub version_head : Version → Head
version_head version = record { marked = version.marked; writer = version.writer; pointer = version.pointer }
