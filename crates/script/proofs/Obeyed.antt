-- A directive that was found and done moves the place behind its line.
use Rattle.std.proofs.Common.{◌≡◌, ℕ, ◌-◌, ◌≤◌, List, length, take, drop, Some, Ok, refl, arith}
use Rattle.std.proofs.lemmas.List.{take_all, length-drop}
use Rattle.script.specs.declared.directive.Directive.{Directive}
use Rattle.script.specs.declared.script.Directives.{Directives}
use Rattle.script.specs.declared.reading.Reading.{Reading}
use Rattle.script.specs.Directives.{directive_at}
use Rattle.script.specs.Reading as read

pub obeys : (allowed : Directives) (bytes : List ℕ) (reading new : Reading) (directive : Directive) (rest : List ℕ)
    → directive_at (take (length bytes - reading.at) (drop reading.at bytes)) ≡ Some (directive, rest)
    → read.heard allowed bytes reading directive ≡ Ok new → read.obeyed allowed bytes reading ≡ Ok (record new { at = length bytes - length rest })
obeys allowed bytes reading new directive rest found done =
    let all : take (length bytes - reading.at) (drop reading.at bytes) ≡ drop reading.at bytes =
    take_all (length bytes - reading.at) (drop reading.at bytes) (omega (arith, length-drop reading.at bytes)) in
    let here : directive_at (drop reading.at bytes) ≡ Some (directive, rest) = rw all at found in
    rw here (rw done refl)
