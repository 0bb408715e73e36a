-- `Keeps` and `Grows` are orders.
use Rattle.std.proofs.Common.{ℕ, [], ◌++◌, refl, sym, ap, ◌∙◌, append_assoc}
use Rattle.std.proofs.lemmas.List.{append-nil}
use Rattle.inno_model.specs.declared.board.Board.{Board}
use Rattle.inno_model.specs.Boards.{calls_of, Keeps, Grows}
use Rattle.inno_model.proofs.Places.{calls_of-append}

pub keeps_self : (x : ℕ) (a : Board) → Keeps x a a
keeps_self x a = record { newer = []; past = refl; quiet = refl; phase = refl; joined = []; names = sym (append-nil a.names); alone = λ _. refl }

pub keeps_trans : (x : ℕ) (a b c : Board) → Keeps x a b → Keeps x b c → Keeps x a c
keeps_trans x a b c p q = record {
  newer = q.newer ++ p.newer;
  past = q.past ∙ (ap (λ l. q.newer ++ l) p.past ∙ sym (append_assoc q.newer p.newer a.past));
  quiet = calls_of-append x q.newer p.newer ∙ (ap (λ l. l ++ calls_of x p.newer) q.quiet ∙ p.quiet);
  phase = q.phase ∙ p.phase;
  joined = p.joined ++ q.joined;
  names = q.names ∙ (ap (λ l. l ++ q.joined) p.names ∙ append_assoc a.names p.joined q.joined);
  alone = λ is. ap (λ l. l ++ q.joined) (p.alone is) ∙ q.alone is;
}

pub grows_self : (x : ℕ) (a : Board) → Grows x a a
grows_self x a = λ y _. keeps_self y a
