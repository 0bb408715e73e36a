use Rattle.std.proofs.Common.{◌≡◌, ◌+◌, ◌<◌, ◌++◌, ◌∷◌, [], ℕ, List, length, map, take, sym, ap, subst, ◌∙◌, append_assoc, arith}
use Rattle.std.specs.List.{AllByRecursion}
use Rattle.std.proofs.lemmas.List.{length-append, length-take-le, take_more}
use Rattle.inno_model.specs.declared.board.Board.{Board}
use Rattle.inno_model.specs.Boards.{calls_of}
use Rattle.turn_engine.specs.Sessions.{Sitting}
use Rattle.script_play.specs.Playing.{IsNew, AreNumbered}
use Rattle.script_play.proofs.ThreadsSetUp.{extends_on, one_more}
use Rattle.script_play.proofs.Splitting.{numbered_more, all_more, map_more, map_length}
use Rattle.script_play.proofs.beginning.split_all.Goals as goal

pub loop-name-preserved : goal.loop-name-preserved
loop-name-preserved g c =
    let i = c.loop-name.invariant in
    let s = c.in-Ok.ensures in
    let n = c.loop-name.name-index in
    let names = c.args.names.now in
    let before = c.args.first.now.seen.names in
    let old = c.loop-name.sessions.items in
    let session = c.in-Ok.session in
    let items = c.push_reserved.ensures.items in
    let name = c.name-item.result in
    let numbers = map_more (λ (x : Sitting). x.number) old session in
    let long = length-append before (take n names) in
    let few = length-take-le n names i.within in
    let many = map_length (λ (x : Sitting). x.number) old in
    record {
      hall = s.same.0 ∙ i.hall;
      number = s.same.1;
      own_stays = s.same.2 ∙ i.own_stays;
      lost = s.same.3 ∙ i.lost;
      names = s.names ∙ (ap (λ (list : List (List ℕ)). list ++ name ∷ []) i.names ∙ (append_assoc before (take n names) (name ∷ [])
          ∙ ap (λ (list : List (List ℕ)). before ++ list) (ap (λ (x : List ℕ). take n names ++ x ∷ []) c.name-item.is
          ∙ sym (take_more names n name c.loop-name-test.true))));
      seen = extends_on c.args.first.now.seen.past c.loop-name.first.seen.past c.split.new.self.seen.past i.seen s.seen;
      uncalled = one_more c.args.first.now.seen.past c.split.new.self.seen.past (length before) (length c.loop-name.first.seen.names)
          (length c.split.new.self.seen.names) i.uncalled (extends_on c.args.first.now.seen.past c.loop-name.first.seen.past c.split.new.self.seen.past i.seen s.seen)
          (ap length s.names ∙ length-append c.loop-name.first.seen.names (name ∷ []))
          (subst (λ (x : ℕ). calls_of x c.split.new.self.seen.past ≡ []) s.ok.1
          (subst (λ (b : Board). calls_of session.number b.past ≡ []) s.together s.ok.2));
      count = ap length items ∙ (length-append old (session ∷ []) ∙ omega (arith, i.count));
      within = omega (arith, c.loop-name-test.true);
      new = subst (AllByRecursion (IsNew c.args.hall.now)) (sym items) (all_more (IsNew c.args.hall.now) old session i.new (s.ok.0 ∙ i.hall, s.ok.2, s.ok.3));
      numbered = subst (λ (list : List Sitting). AreNumbered (length before) (map (λ (x : Sitting). x.number) list)) (sym items)
          (subst (AreNumbered (length before)) (sym numbers)
          (numbered_more (length before) (map (λ (x : Sitting). x.number) old) session.number i.numbered
          (s.ok.1 ∙ (ap length i.names ∙ omega (arith, long, few, many, i.count, i.within)))));
      room = c.push_reserved.ensures.capacity ∙ i.room;
    }

pub returns-in-Err-clause-seen : goal.returns-in-Err-clause-seen
returns-in-Err-clause-seen g c =
    extends_on c.args.first.now.seen.past c.loop-name.first.seen.past c.split.new.self.seen.past c.loop-name.invariant.seen c.in-Err.ensures.seen

pub returns-in-Err-clause-uncalled : goal.returns-in-Err-clause-uncalled
returns-in-Err-clause-uncalled g c = λ x from below.
    c.loop-name.invariant.uncalled x from (subst (λ (names : List (List ℕ)). x < length names) c.in-Err.ensures.names below)
