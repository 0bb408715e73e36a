use Rattle.std.proofs.Common.{ap, ◌∙◌, List, take}
use Rattle.std.specs.Prelude.{is_some, position}
use Rattle.mini_txn.specs.declared.dealt.Entry.{Entry}
use Rattle.mini_txn.proofs.Entries.{found_in, is_of}
use Rattle.mini_txn.proofs.dealt.Dealt.contains.Goals as goal

pub returns : goal.returns
returns c =
    c.is_some.ensures
    ∙ ap is_some (c.place_of.ensures ∙ ap (λ (l : List Entry). position (is_of c.args.page) (take c.self.inside.count l)) c.deref.ensures.value
    ∙ ap (position (is_of c.args.page)) c.self.view_is)
    ∙ found_in c.args.page c.args.self.now
