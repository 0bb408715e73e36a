use Rattle.std.proofs.Common.{ap, sym, ◌∙◌, List, take}
use Rattle.std.specs.Prelude.{position}
use Rattle.mini_txn.specs.declared.dealt.Entry.{Entry}
use Rattle.mini_txn.specs.Dealt.{copy_of}
use Rattle.mini_txn.proofs.Entries.{copy_is, copy_is_none, is_copy_of}
use Rattle.mini_txn.proofs.dealt.Dealt.copy.Goals as goal

pub returns-in-Some-clause-value : goal.returns-in-Some-clause-value
returns-in-Some-clause-value c =
    let found = sym (c.place_of_copy.ensures ∙ ap (λ (l : List Entry). position (is_copy_of c.args.page)
    (take c.self.inside.count l)) c.deref.ensures.value) ∙ c.in-Some.is in
    sym (copy_is c.args.page c.self.inside.entries.items c.self.inside.count c.in-Some.place c.index.result.now found c.index.ensures)
    ∙ ap (λ (l : List Entry). copy_of l c.args.page) c.self.view_is

pub returns-in-None-clause-value : goal.returns-in-None-clause-value
returns-in-None-clause-value c =
    let found = sym (c.place_of_copy.ensures ∙ ap (λ (l : List Entry). position (is_copy_of c.args.page)
    (take c.self.inside.count l)) c.deref.ensures.value) ∙ c.in-None.is in
    sym (copy_is_none c.args.page (take c.self.inside.count c.self.inside.entries.items) found) ∙ ap (λ (l : List Entry). copy_of l c.args.page) c.self.view_is
