use Rattle.std.proofs.Common.{◌≡◌, ◌<◌, ◌+◌, ◌++◌, ◌∷◌, [], ◌∙◌, length, set, get_or, sym, ap, subst, arith, length-append, length-set}
use Rattle.std.specs.Prelude.{Some}
use Rattle.std.proofs.lemmas.List.{get_or_read}
use Rattle.lock_lists.specs.Last.{AreLinked, Chained}
use Rattle.lock_lists.proofs.Links.{linked_push}
use Rattle.lock_lists.proofs.chains.Chains.push.Goals as goal

pub invariant_of-self : goal.invariant_of-self
invariant_of-self c =
    let bucket = c.args.bucket in
    let newest = c.self.inside.newest.items in
    let marks = c.self.inside.marks.items in
    let older = c.self.inside.older.items in
    let within : bucket < length newest = subst (λ (t : Chained). bucket < t.room) (sym c.self.view_is) c.requires.bucket in
    let read : c.index-newest.result.now ≡ get_or newest bucket 0 = get_or_read newest bucket c.index-newest.result.now within c.index-newest.ensures 0 in
    let long : c.len.result ≡ length marks + 1 =
    omega (arith, c.len.ensures, c.push_reserved-2.new.self.ok.0, ap length c.push_reserved-2.ensures.items, length-append marks (Some bucket ∷ [])) in
    let links = c.push_reserved.ensures.items ∙ ap (λ n. older ++ n ∷ []) read in
    let same = length-set newest bucket c.len.result in (
      subst (λ n. AreLinked (set newest bucket n) c.push_reserved-2.new.self.items c.push_reserved.new.self.items) (sym long)
          (subst (λ ms. AreLinked (set newest bucket (length marks + 1)) ms c.push_reserved.new.self.items) (sym c.push_reserved-2.ensures.items)
          (subst (AreLinked (set newest bucket (length marks + 1)) (marks ++ Some bucket ∷ [])) (sym links) (linked_push newest older marks c.self.invariant.0 bucket within))),
      omega (arith, c.self.invariant.1, c.push_reserved-2.ensures.capacity, same),
      omega (arith, c.self.invariant.2, c.push_reserved.ensures.capacity, same),
    )
