use Rattle.std.proofs.Common.{◌≡◌, ◌≤◌, ◌<◌, ◌+◌, ◌∙◌, length, set, get_or, sym, subst, arith, length-set}
use Rattle.std.specs.Prelude.{None, Some}
use Rattle.std.proofs.lemmas.List.{get_or_read}
use Rattle.lock_lists.specs.Last.{IsNext, AreLinked, Chained}
use Rattle.lock_lists.proofs.Links.{unlinked_next, unlinked_newest}
use Rattle.lock_lists.proofs.chains.Chains.unlink.Goals as goal

pub next_from-next-requires-clause-bucket : goal.next_from-next-requires-clause-bucket
next_from-next-requires-clause-bucket c =
    let place = c.args.place in
    let marks = c.self.inside.marks.items in
    let within : place < length marks = subst (λ (t : Chained). place < length t.marks) (sym c.self.view_is) c.requires in
    let at : get_or marks place None ≡ Some c.in-Some.bucket = sym (get_or_read marks place c.index.result.now within c.index.ensures None) ∙ c.in-Some.is in
    subst (λ ns. c.in-Some.bucket < length ns) (sym c.deref.ensures.value) (c.self.invariant.0.buckets place c.in-Some.bucket at)

pub invariant_of-self : goal.invariant_of-self
invariant_of-self c =
    let place = c.args.place in
    let bucket = c.in-Some.bucket in
    let newest = c.self.inside.newest.items in
    let marks = c.self.inside.marks.items in
    let older = c.self.inside.older.items in
    let next = c.next_from-next.result in
    let within : place < length marks = subst (λ (t : Chained). place < length t.marks) (sym c.self.view_is) c.requires in
    let at : get_or marks place None ≡ Some bucket = sym (get_or_read marks place c.index.result.now within c.index.ensures None) ∙ c.in-Some.is in
    let follows : IsNext bucket marks (place + 1) next = subst (λ ms. IsNext bucket ms (place + 1) next) c.deref-in-Some.ensures.value c.next_from-next.ensures in
    let read : c.index-older.result.now ≡ get_or older place 0 =
    get_or_read older place c.index-older.result.now (omega (arith, within, c.self.invariant.0.long)) c.index-older.ensures 0 in
    let lt : next < length marks = omega (arith, c.if-next-len.true, c.len.ensures, c.self.inside.marks.ok.0) in (
      subst (λ n. AreLinked newest (set marks place None) (set older next n)) (sym read)
          (unlinked_next newest older marks c.self.invariant.0 bucket place next at follows lt),
      c.self.invariant.1,
      c.self.invariant.2,
    )

pub invariant_of-self-else-next-len : goal.invariant_of-self-else-next-len
invariant_of-self-else-next-len c =
    let place = c.args.place in
    let bucket = c.in-Some.bucket in
    let newest = c.self.inside.newest.items in
    let marks = c.self.inside.marks.items in
    let older = c.self.inside.older.items in
    let next = c.next_from-next.result in
    let within : place < length marks = subst (λ (t : Chained). place < length t.marks) (sym c.self.view_is) c.requires in
    let at : get_or marks place None ≡ Some bucket = sym (get_or_read marks place c.index.result.now within c.index.ensures None) ∙ c.in-Some.is in
    let follows : IsNext bucket marks (place + 1) next = subst (λ ms. IsNext bucket ms (place + 1) next) c.deref-in-Some.ensures.value c.next_from-next.ensures in
    let read : c.index-older.result.now ≡ get_or older place 0 =
    get_or_read older place c.index-older.result.now (omega (arith, within, c.self.invariant.0.long)) c.index-older.ensures 0 in
    let last : length marks ≤ next = omega (arith, c.if-next-len.false, c.len.ensures, c.self.inside.marks.ok.0) in
    let same = length-set newest bucket c.index-older.result.now in (
      subst (λ n. AreLinked (set newest bucket n) (set marks place None) older) (sym read)
          (unlinked_newest newest older marks c.self.invariant.0 bucket place next at follows last),
      omega (arith, c.self.invariant.1, same),
      omega (arith, c.self.invariant.2, same),
    )
