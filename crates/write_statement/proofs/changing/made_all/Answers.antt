use Rattle.std.proofs.Common.{◌≡◌, List, sym, [], ◌∷◌, ◌+◌, ◌*◌, length, refl, ap, ◌∙◌, inl, arith}
use Rattle.std.specs.Prelude.{reverse}
use Rattle.std.proofs.lemmas.List.{length-append, reverse-append}
use Rattle.shared_lists.specs.Tasks.{Idle}
use Rattle.write_statement.specs.Parts.{of_rest}
use Rattle.write_statement.proofs.PartByPart.{goes_next, all_made}
use Rattle.write_statement.proofs.Turning.{turns_none, changing_given_up}
use Rattle.write_statement.proofs.changing.made_all.Goals as goal

none_left : {A : Type 0} (items : List A) → length items ≡ 0 → items ≡ []
none_left [] none = refl
none_left (item ∷ items) none = absurd (omega (arith, none))

pub finish-requires-clause-made : goal.finish-requires-clause-made
finish-requires-clause-made g c =
    all_made c.args.lists.now.past c.args.lists.now.writer c.args.session c.args.part c.requires.changing
    (ap reverse (none_left c.args.part.later.items (sym c.args.part.later.ok.0 ∙ c.in_default.ensures.cases.0)))

pub returns-in_default-clause-nears : goal.returns-in_default-clause-nears
returns-in_default-clause-nears g c = c.finish.ensures.nears (length c.args.part.later.items)

pub search_part-requires-clause-changing : goal.search_part-requires-clause-changing
search_part-requires-clause-changing g c =
    goes_next c.args.lists.now.past c.args.lists.now.writer c.args.session c.args.part c.requires.changing c.in-Some.tuple
    (record { stmt = c.in-Ok.stmt; later = c.pop.new.self; table = c.args.part.table; alone = c.args.part.alone; before = c.args.part.before })
    (ap reverse c.in-Some.ensures.items ∙ reverse-append c.pop.new.self.items (c.in-Some.tuple ∷ [])) c.in-Ok.ensures refl refl refl

pub returns-in-Ok-clause-nears : goal.returns-in-Ok-clause-nears
returns-in-Ok-clause-nears g c =
    c.search_part.ensures.nears (4 + 2 * length c.args.part.later.items)
    (omega (arith, ap length c.in-Some.ensures.items, length-append c.pop.new.self.items (c.in-Some.tuple ∷ []))) _ _ _

pub returns-in-Err-clause-steps : goal.returns-in-Err-clause-steps
returns-in-Err-clause-steps g c =
    changing_given_up c.args.session c.args.lists.now c.args.lists.now Idle c.args.part (of_rest c.args.part) [] c.give_up_at.result.0
    c.give_up_at.result.1 c.requires.changing (turns_none c.args.session c.args.lists.now c.requires.idle) (inl refl) c.give_up_at.ensures.state
    c.give_up_at.ensures.answer
