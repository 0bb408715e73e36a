-- How far the steps of a session's task come.
use Rattle.std.specs.Prelude.{List}
use Rattle.std.specs.declared.convert.Infallible.{Infallible}
use Rattle.inno_types.specs.declared.value.Value.{Value}
use Rattle.store_api.specs.declared.stepped.Stepped.{Stepped}
use Rattle.shared_lists.specs.{declared.answers.ChangePart.ChangePart, declared.answers.Hindrance.Hindrance}

abbrev pub Searched : Type 0
Searched = Stepped (List (List Value)) Hindrance

abbrev pub Changed : Type 0
Changed = Stepped ChangePart Hindrance

abbrev pub Undone : Type 0
Undone = Stepped (Unit {0}) Infallible
