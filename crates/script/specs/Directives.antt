-- The directives: `@session NAME`, `@signal NAME`, `@await NAME` and `@tick N`, with one space between the words.
use Rattle.std.specs.Prelude.{ℕ, ◌+◌, ◌-◌, ◌*◌, List, take, drop, Option, Some, None, length, ◌&&◌, nat_le, nat_eq, codes, fold, if◌then◌else◌}
use Rattle.std.specs.List.{prefix_len, starts_with}
use Rattle.std.specs.Option.{option_map}
use Rattle.script.specs.declared.directive.Directive.{Directive}
use Rattle.script.specs.declared.directive.Directive.TheVariants.{Session, Signal, Await, Tick}
use Rattle.script.specs.declared.directive.Naming.{Naming}
use Rattle.script.specs.declared.directive.Naming.TheVariants as naming
use Rattle.script.specs.Lines.{after_end}
use Rattle.script.specs.Names.{is_digit, is_name_byte}

-- what stands behind a word at the front
abbrev pub behind : List ℕ → List ℕ → Option (List ℕ)
behind bytes word = if starts_with nat_eq bytes word then Some (drop (length word) bytes) else None

-- so many bytes and the end of the line, and what follows the line
abbrev pub word_of : ℕ → List ℕ → Option (List ℕ × List ℕ)
word_of len bytes = option_map (λ rest. (take len bytes, rest)) (after_end (drop len bytes))

-- the directive that says this of its name
abbrev pub named : Naming → List ℕ → Directive
named naming.Session name = Session name
named naming.Signal name = Signal name
named naming.Await name = Await name

-- 1 to 32 letters, digits or underscores, and the end of the line
abbrev pub name_at : List ℕ → Option (List ℕ × List ℕ)
name_at bytes =
    let len = prefix_len is_name_byte bytes in
    if nat_le 1 len && nat_le len 32 then word_of len bytes else None

abbrev pub number_of : List ℕ → ℕ
number_of digits = fold (λ n digit. n * 10 + (digit - 48)) 0 digits

-- 1 to 5 digits, and the end of the line
abbrev pub number_at : List ℕ → Option (ℕ × List ℕ)
number_at bytes =
    let len = prefix_len is_digit bytes in
    if nat_le 1 len && nat_le len 5 then option_map (λ x. (number_of x.0, x.1)) (word_of len bytes) else None

-- a directive whose name ends the line
abbrev pub named_at : Naming → List ℕ → Option (Directive × List ℕ)
named_at naming bytes = option_map (λ x. (named naming x.0, x.1)) (name_at bytes)

abbrev pub tick_at : List ℕ → Option (Directive × List ℕ)
tick_at bytes = option_map (λ x. (Tick x.0, x.1)) (number_at bytes)

-- `@signal NAME` or `@await NAME`
abbrev pub signal_at : List ℕ → Option (Directive × List ℕ)
signal_at bytes =
    if starts_with nat_eq bytes (codes "@signal ") then option_map (λ x. (Signal x.0, x.1)) (name_at (drop 8 bytes))
    else (if starts_with nat_eq bytes (codes "@await ") then option_map (λ x. (Await x.0, x.1)) (name_at (drop 7 bytes))
    else None)

-- the directive whose line begins here, and what follows the line
abbrev pub directive_at : List ℕ → Option (Directive × List ℕ)
directive_at bytes =
    if starts_with nat_eq bytes (codes "@session ") then option_map (λ x. (Session x.0, x.1)) (name_at (drop 9 bytes))
    else (if starts_with nat_eq bytes (codes "@tick ") then option_map (λ x. (Tick x.0, x.1)) (number_at (drop 6 bytes))
    else signal_at bytes)
