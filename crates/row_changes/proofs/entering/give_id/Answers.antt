use Rattle.std.proofs.Common.{sym, ap, subst, ◌∙◌}
use Rattle.txn_table.specs.Txns.{is_there, id_at}
use Rattle.row_changes.proofs.{Sessions.one_found, Ids.told, Ids.gives_told, Ids.keeps_id}
use Rattle.row_changes.proofs.entering.give_id.Goals as goal

abbrev pub give_id-requires-clause-there : goal.give_id-requires-clause-there
give_id-requires-clause-there g c =
    let has = c.requires.2 in
    subst (λ txn. is_there txn (g.W.World.state c.args.world.now).txns.open_txns)
    (sym (one_found _ _ c.in-Some.is (told _ _ _ _ _ has (c.session-standing.ensures _ has.session_is)).0)) c.requires.3.there

abbrev pub give_id-requires-clause-none : goal.give_id-requires-clause-none
give_id-requires-clause-none g c =
    let has = c.requires.2 in
    let standing = c.session-standing.ensures _ has.session_is in
    ap (λ txn. id_at txn (g.W.World.state c.args.world.now).txns.open_txns) (one_found _ _ c.in-Some.is (told _ _ _ _ _ has standing).0) ∙ c.requires.3.id ∙
    sym (told _ _ _ _ _ has standing).1 ∙ c.if-standing-ne0.false

abbrev pub returns-then-standing-ne0 : goal.returns-then-standing-ne0
returns-then-standing-ne0 g c = λ session work has.
    keeps_id _ _ _ _ has (λ none. c.if-standing-ne0.true ((told _ _ _ _ _ has (c.session-standing.ensures session has.session_is)).1 ∙ none))

abbrev pub returns-in-Some : goal.returns-in-Some
returns-in-Some g c = λ session work has.
    gives_told _ _ _ _ _ _ _ _ _ c.requires.2 c.requires.3 has (c.session-standing.ensures _ c.requires.2.session_is) c.in-Some.is c.if-standing-ne0.false
    c.give_id.ensures.given

abbrev pub returns-in_default : goal.returns-in_default
returns-in_default g c =
    λ session work has. absurd (c.in_default.not-Some work.txn (told _ _ _ _ _ has (c.session-standing.ensures session has.session_is)).0)
