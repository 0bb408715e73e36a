use Rattle.page_recovery.proofs.Places.{not_good}
use Rattle.page_recovery.proofs.reading.is_page.Goals as goal

pub returns-in-None : goal.returns-in-None
returns-in-None c = λ area read. not_good c.args.page c.args.len c.args.place.now area c.requires.size read c.if-len-lt-PAGE.false c.in-None.ensures
