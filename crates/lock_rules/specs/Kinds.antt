-- Kinds, modes and levels of locks.
use Rattle.std.specs.Prelude.{Bool, true, false, ◌&&◌, not}
use Rattle.inno_types.specs.declared.lock.LockKind.{LockKind}
use Rattle.inno_types.specs.declared.lock.LockKind.TheVariants.{Rec, Gap, NextKey, Intent}
use Rattle.inno_types.specs.declared.lock.Mode.{Mode}
use Rattle.inno_types.specs.declared.lock.Mode.TheVariants.{S, X}
use Rattle.inno_types.specs.declared.lock.Level.{Level}
use Rattle.inno_types.specs.declared.lock.Level.TheVariants.{ReadUncommitted, ReadCommitted, RepeatableRead, Serializable}

-- it locks the record at its spot
abbrev pub locks_record : LockKind → Bool
locks_record Rec = true
locks_record Gap = false
locks_record NextKey = true
locks_record Intent = false

-- it keeps insertions out of the gap before its spot
abbrev pub locks_gap : LockKind → Bool
locks_gap Rec = false
locks_gap Gap = true
locks_gap NextKey = true
locks_gap Intent = false

abbrev pub is_intent : LockKind → Bool
is_intent Rec = false
is_intent Gap = false
is_intent NextKey = false
is_intent Intent = true

abbrev pub is_shared : Mode → Bool
is_shared S = true
is_shared X = false

abbrev pub same_kind : LockKind → LockKind → Bool
same_kind Rec kind = locks_record kind && not (locks_gap kind)
same_kind Gap kind = locks_gap kind && not (locks_record kind)
same_kind NextKey kind = locks_record kind && locks_gap kind
same_kind Intent kind = is_intent kind

abbrev pub same_mode : Mode → Mode → Bool
same_mode S mode = is_shared mode
same_mode X mode = not (is_shared mode)

-- repeatable read and serializable
abbrev pub is_upper : Level → Bool
is_upper ReadUncommitted = false
is_upper ReadCommitted = false
is_upper RepeatableRead = true
is_upper Serializable = true

abbrev pub same_level : Level → Level → Bool
same_level ReadUncommitted ReadUncommitted = true
same_level ReadCommitted ReadCommitted = true
same_level RepeatableRead RepeatableRead = true
same_level Serializable Serializable = true
same_level level other = false
