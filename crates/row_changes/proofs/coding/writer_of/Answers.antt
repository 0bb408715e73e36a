use Rattle.std.proofs.Common.{sym, ◌∙◌, eq-eqb}
use Rattle.std.proofs.lemmas.Bool.{ne_eqb}
use Rattle.row_changes.proofs.Ids.{told}
use Rattle.row_changes.proofs.coding.writer_of.Goals as goal

abbrev pub returns-then-own-ne0 : goal.returns-then-own-ne0
returns-then-own-ne0 g c = λ session work has.
    let id_is = (told _ session work _ _ has (c.session-own.ensures session has.session_is)).1 in
    rw (ne_eqb work.id 0 (λ is. c.if-own-ne0.true (id_is ∙ is))) id_is

abbrev pub returns : goal.returns
returns g c = λ session work has.
    rw (eq-eqb work.id 0 (sym (told _ session work _ _ has (c.session-own.ensures session has.session_is)).1 ∙ c.if-own-ne0.false)) c.next_id.ensures
