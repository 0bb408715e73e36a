use Rattle.std.proofs.lemmas.Grind.{common_steps, elements}
use Rattle.std.proofs.Common.{◌≡◌, ◌∙◌, sym, ap, subst, length, List, ◌++◌, ℕ, arith}
use Rattle.std.specs.Prelude.{All}
use Rattle.script.specs.declared.script.ScriptItem.{ScriptItem}
use Rattle.script_play.specs.Sessions.{HasStarted}
use Rattle.script_play.proofs.Places.{nobody_named}
use Rattle.script_play.proofs.Places.{follows, follows_nothing, on_ok, to_the_end, to_rest}
use Rattle.script_play.proofs.SetUp.{nothing_first}
use Rattle.script_play.proofs.playing.play.Goals as goal

pub returns-then-is_empty-clause-follows : goal.returns-then-is_empty-clause-follows
returns-then-is_empty-clause-follows g c = follows_nothing c.args.script.now.items (g.E.Sessions.shown c.args.engine.now).past c.requires.new.items

pub returns-in_err-join_all-clause-follows : goal.returns-in_err-join_all-clause-follows
returns-in_err-join_all-clause-follows g c = follows_nothing c.args.script.now.items (g.E.Sessions.shown c.join_all.new.engine).past c.join_all.ensures.nothing

pub returns-in_err-resize-clause-follows : goal.returns-in_err-resize-clause-follows
returns-in_err-resize-clause-follows g c = follows_nothing c.args.script.now.items (g.E.Sessions.shown c.join_all.new.engine).past c.join_all.ensures.nothing

pub returns-clause-follows : goal.returns-clause-follows
returns-clause-follows g c =
    let past = (g.E.Sessions.shown c.play_items.new.engine).past in
    follows c.args.script.now.items c.play_items.new.places past
    (subst (λ (list : List ScriptItem). HasStarted list c.play_items.new.places past) c.as_slice-2.ensures c.play_items.ensures.plays.started)

pub returns-clause-played : goal.returns-clause-played
returns-clause-played g c =
    let shown = g.E.Sessions.shown c.play_items.new.engine in
    let places = c.play_items.new.places in
    let plays = c.play_items.ensures.plays in
    on_ok c.play_items.result
    (λ ends. to_the_end c.args.script.now places shown.names shown.past c.requires.named
    (plays.names ∙ c.in_ok-join_all.ensures.names ∙ c.as_slice.ensures) plays.count
    (subst (λ (list : List ScriptItem). All (λ place. place ≡ length list) places) c.as_slice-2.ensures ends)
    (subst (λ (list : List ScriptItem). HasStarted list places shown.past) c.as_slice-2.ensures plays.started))
    c.play_items.ensures.ends

pub returns-clause-rests : goal.returns-clause-rests
returns-clause-rests g c =
    let shown = g.E.Sessions.shown c.play_items.new.engine in
    let places = c.play_items.new.places in
    let plays = c.play_items.ensures.plays in
    on_ok c.play_items.result
    (λ rest. to_rest c.args.script.now.items places shown.past
    (subst (λ (list : List ScriptItem). HasStarted list places shown.past) c.as_slice-2.ensures plays.started)
    (λ s lt. rest s (omega (arith, lt, plays.count))))
    c.play_items.ensures.rest

pub returns-then-is_empty-clause-named : goal.returns-then-is_empty-clause-named
returns-then-is_empty-clause-named g c = nobody_named c.args.script.now (g.E.Sessions.shown c.args.engine.now).names c.requires.new.names

pub returns-in_err-join_all-clause-named : goal.returns-in_err-join_all-clause-named
returns-in_err-join_all-clause-named g c =
    let named = c.join_all.ensures.named in (named.0, sym c.as_slice.ensures ∙ named.1)

pub returns-in_err-resize-clause-named : goal.returns-in_err-resize-clause-named
returns-in_err-resize-clause-named g c =
    let named = c.join_all.ensures.named in (named.0, sym c.as_slice.ensures ∙ named.1)

pub returns-clause-named : goal.returns-clause-named
returns-clause-named g c =
    let named = c.join_all.ensures.named in (
      named.0,
      sym c.as_slice.ensures ∙ named.1
          ∙ ap (λ (list : List (List ℕ)). list ++ named.0) (sym c.play_items.ensures.plays.names),
    )

pub returns-then-is_empty-clause-set_up : goal.returns-then-is_empty-clause-set_up
returns-then-is_empty-clause-set_up g c = nothing_first (g.E.Sessions.shown c.args.engine.now).past c.requires.new.items

pub returns-in_err-join_all-clause-set_up : goal.returns-in_err-join_all-clause-set_up
returns-in_err-join_all-clause-set_up g c = nothing_first (g.E.Sessions.shown c.join_all.new.engine).past c.join_all.ensures.nothing

pub returns-in_err-resize-clause-set_up : goal.returns-in_err-resize-clause-set_up
returns-in_err-resize-clause-set_up g c = nothing_first (g.E.Sessions.shown c.join_all.new.engine).past c.join_all.ensures.nothing

pub play_items-requires-clause-starts : goal.play_items-requires-clause-starts
play_items-requires-clause-starts g c = grind (arith, elements) steps 2000000

pub play_items-requires-clause-few : goal.play_items-requires-clause-few
play_items-requires-clause-few g c = grind (arith, common_steps) steps 2000000
