use Rattle.sql_lists.proofs.Moving.{takes_back_nears}
use Rattle.session_engine.proofs.Leaving.{takes_back_goes, takes_back_quietly}
use Rattle.session_engine.proofs.steps.take_back.Goals as goal

pub returns-in-Went : goal.returns-in-Went
returns-in-Went g c =
    record {
      goes = takes_back_goes c.args.s c.args.lists.now c.undo.new.self c.requires.goes_out c.undo.result c.requires.stands c.undo.ensures.takes;
      quiet = takes_back_quietly c.args.s c.args.lists.now c.undo.new.self c.requires.goes_out c.undo.result c.undo.ensures.takes;
      nears = takes_back_nears c.args.s c.args.lists.now c.undo.new.self c.undo.result c.requires.stands c.undo.ensures.takes;
    }

pub returns-in-Done : goal.returns-in-Done
returns-in-Done g c =
    record {
      goes = takes_back_goes c.args.s c.args.lists.now c.undo.new.self c.requires.goes_out c.undo.result c.requires.stands c.undo.ensures.takes;
      quiet = takes_back_quietly c.args.s c.args.lists.now c.undo.new.self c.requires.goes_out c.undo.result c.undo.ensures.takes;
      nears = takes_back_nears c.args.s c.args.lists.now c.undo.new.self c.undo.result c.requires.stands c.undo.ensures.takes;
    }
