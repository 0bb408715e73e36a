use Rattle.file_zero.proofs.Places.{too_short, first_or_other, not_good}
use Rattle.file_zero.proofs.header.is_in_place.Goals as goal

pub returns-then-len-lt-PAGE : goal.returns-then-len-lt-PAGE
returns-then-len-lt-PAGE c = λ pages read. too_short c.args.len c.args.place.now pages c.requires.size read c.if-len-lt-PAGE.true

pub returns-in-Some : goal.returns-in-Some
returns-in-Some c = λ pages read. first_or_other c.args.len c.args.place.now pages c.requires.size read c.in-Some.found c.if-len-lt-PAGE.false c.in-Some.ensures

pub returns-in-None : goal.returns-in-None
returns-in-None c = λ pages read. not_good c.args.len c.args.place.now pages c.requires.size read c.if-len-lt-PAGE.false c.in-None.ensures
