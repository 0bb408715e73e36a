-- Errors of stores that keep pages: no page is left, or a tree has grown as high as it may.
use Rattle.std.specs.Prelude.{Bool, true, false, nat_le}
use Rattle.inno_types.specs.declared.reply.SqlError.{SqlError}
use Rattle.inno_types.specs.declared.reply.SqlError.TheVariants.{Full, TooDeep}
use Rattle.inno_types.specs.declared.reply.Reply.{Reply}
use Rattle.inno_types.specs.declared.reply.Reply.TheVariants.{Fail}
use Rattle.inno_model.specs.declared.event.Event.{Event}
use Rattle.inno_model.specs.declared.event.Event.TheVariants.{Ended}

abbrev pub is_of_pages : SqlError → Bool
is_of_pages (Full need free) = true
is_of_pages TooDeep = true
is_of_pages other = false

abbrev pub says_of_pages : Reply → Bool
says_of_pages (Fail error) = is_of_pages error
says_of_pages other = false

-- as many pages are free as it says are needed
abbrev pub misstates_pages : SqlError → Bool
misstates_pages (Full need free) = nat_le need free
misstates_pages other = false

-- an item ends for want of pages where, by its own words, there was none
abbrev pub ends_without_want : Event → Bool
ends_without_want (Ended s j (Fail error)) = misstates_pages error
ends_without_want other = false
