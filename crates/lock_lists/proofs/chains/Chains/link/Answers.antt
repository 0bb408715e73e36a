use Rattle.std.proofs.Common.{◌≡◌, ◌≤◌, ◌<◌, ◌+◌, length, get_or, sym, subst, arith, length-set}
use Rattle.std.specs.Prelude.{None}
use Rattle.lock_lists.specs.Last.{IsNext, IsLast, Chained}
use Rattle.lock_lists.proofs.Links.{linked_next, linked_newest}
use Rattle.lock_lists.proofs.chains.Chains.link.Goals as goal

pub invariant_of-self : goal.invariant_of-self
invariant_of-self c =
    let place = c.args.place in
    let bucket = c.args.bucket in
    let newest = c.self.inside.newest.items in
    let marks = c.self.inside.marks.items in
    let older = c.self.inside.older.items in
    let next = c.next_from-next.result in
    let before = c.last_before-older.result in
    let lt : bucket < length newest = subst (λ (t : Chained). bucket < t.room) (sym c.self.view_is) c.requires.bucket in
    let within : place < length marks = subst (λ (t : Chained). place < length t.marks) (sym c.self.view_is) c.requires.place in
    let free : get_or marks place None ≡ None = subst (λ (t : Chained). get_or t.marks place None ≡ None) (sym c.self.view_is) c.requires.free in
    let follows : IsNext bucket marks place next = subst (λ ms. IsNext bucket ms place next) c.deref-5.ensures.value c.next_from-next.ensures in
    let goes : IsLast bucket marks place before = subst (λ ms. IsLast bucket ms place before) c.deref-2.ensures.value c.last_before-older.ensures in
    let below : next < length marks = omega (arith, c.if-next-len.true, c.len.ensures, c.self.inside.marks.ok.0) in (
      linked_next newest older marks c.self.invariant.0 bucket place next before lt within free follows goes below,
      c.self.invariant.1,
      c.self.invariant.2,
    )

pub invariant_of-self-else-next-len : goal.invariant_of-self-else-next-len
invariant_of-self-else-next-len c =
    let place = c.args.place in
    let bucket = c.args.bucket in
    let newest = c.self.inside.newest.items in
    let marks = c.self.inside.marks.items in
    let older = c.self.inside.older.items in
    let next = c.next_from-next.result in
    let before = c.last_before-older.result in
    let lt : bucket < length newest = subst (λ (t : Chained). bucket < t.room) (sym c.self.view_is) c.requires.bucket in
    let within : place < length marks = subst (λ (t : Chained). place < length t.marks) (sym c.self.view_is) c.requires.place in
    let free : get_or marks place None ≡ None = subst (λ (t : Chained). get_or t.marks place None ≡ None) (sym c.self.view_is) c.requires.free in
    let follows : IsNext bucket marks place next = subst (λ ms. IsNext bucket ms place next) c.deref-5.ensures.value c.next_from-next.ensures in
    let goes : IsLast bucket marks place before = subst (λ ms. IsLast bucket ms place before) c.deref-2.ensures.value c.last_before-older.ensures in
    let last : length marks ≤ next = omega (arith, c.if-next-len.false, c.len.ensures, c.self.inside.marks.ok.0) in
    let same = length-set newest bucket (place + 1) in (
      linked_newest newest older marks c.self.invariant.0 bucket place next before lt within free follows goes last,
      omega (arith, c.self.invariant.1, same),
      omega (arith, c.self.invariant.2, same),
    )
