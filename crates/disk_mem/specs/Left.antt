-- The bytes that a crash leaves of an area, where it takes each write since the last sync in one way.
use Rattle.std.specs.Prelude.{ℕ, ◌/◌, List, length, take, fold}
use Rattle.store_api.specs.Areas.{Write, Contents, State, Image, write_of, overwritten}
use Rattle.disk_mem.specs.declared.image.Pick.{Pick}
use Rattle.disk_mem.specs.declared.image.Pick.TheVariants.{Lost, Kept, Torn}

-- after a write more: the old bytes, the new ones, or the new ones in its first half
abbrev pub left_after : Pick → List ℕ → Write → List ℕ
left_after Lost image w = image
left_after Kept image w = overwritten image (write_of image w.at w.bytes)
left_after Torn image w = overwritten image (write_of image w.at (take (length w.bytes / 2) w.bytes))

abbrev pub left_by : Pick → Contents → List ℕ
left_by pick c = fold (left_after pick) c.synced c.writes

abbrev pub image_by : Pick → State → Image
image_by pick s = record { log = left_by pick s.log; double = left_by pick s.double; pages = left_by pick s.pages }
