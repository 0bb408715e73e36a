use Rattle.std.proofs.Common.{◌≡◌, Bool, true, false, List, ℕ, Option, Some, None, sym, ap, ◌∙◌, refl}
use Rattle.std.specs.Prelude.{is_some}
use Rattle.entries.specs.Pairs.{Pair, first_after}
use Rattle.btree.specs.Sound.{tree_pairs}
use Rattle.btree.specs.Walks.{IsNextKey}
use Rattle.tree_use.specs.Stored.{Stored}
use Rattle.tree_use.proofs.pages.TreePages.read_key_after.Goals as goal

next_is_there : (found : Bool) (key : List ℕ) (pair : Option Pair) → IsNextKey found key pair → found ≡ is_some pair
next_is_there true key None is = absurd is
next_is_there true key (Some pair) is = refl
next_is_there false key pair is = sym (ap is_some is)

pub returns-clause-found : goal.returns-clause-found
returns-clause-found g c =
    let pairs = tree_pairs c.self.inside.tree (g.M.Mtr.state c.self.inside.m).standing in
    next_is_there c.read_next.result c.read_next.new.into.items (first_after c.as_slice.result.now pairs) c.read_next.ensures.next
    ∙ (ap (λ (k : List ℕ). is_some (first_after k pairs)) c.as_slice.ensures
    ∙ ap (λ (s : Stored). is_some (first_after c.args.key.now s.pairs)) c.self.view_is)
