use Rattle.std.proofs.Common.{◌≡◌, ◌≤◌, Bool, cond, [], ◌∷◌, ◌++◌, ap, length-append, false, ◌<◌, ◌+◌, length, sym, refl, subst, ◌∙◌, List, take, arith}
use Rattle.std.proofs.lemmas.List.{length-map, length-take-le}
use Rattle.std.specs.Vec.{with_item}
use Rattle.mtr.specs.Seen.{is_in}
use Rattle.mini_txn.specs.declared.dealt.Entry.{Entry}
use Rattle.mini_txn.specs.Dealt.{pages_of, IsVisited}
use Rattle.mini_txn.proofs.Entries.{one_visited}
use Rattle.mini_txn.proofs.dealt.Dealt.visit.Goals as goal

pub returns-then-not-contains : goal.returns-then-not-contains
returns-then-not-contains c =
    let i = c.self.inside in
    let unknown : is_in c.args.page (pages_of c.args.self.now) ≡ false = sym c.contains.ensures ∙ c.if-not-contains.true in
    let entry : Entry = record { page = c.args.page; copied = false; bytes = c.index_mut-entry.result.now.bytes } in
    let now = c.args.self.now in
    let pages = pages_of now in
    let few = subst (λ (b : Bool). length (cond b pages (pages ++ c.args.page ∷ [])) ≤ 24) unknown c.requires in
    let long : length (take i.count i.entries.items) ≡ length now = ap length c.self.view_is in
    let count : length (take i.count i.entries.items) ≡ i.count = length-take-le i.count i.entries.items
    (omega (arith, c.self.invariant.0, c.self.invariant.1)) in
    let within : i.count < length i.entries.items = omega (
      arith,
      few,
      long,
      count,
      length-append pages (c.args.page ∷ []),
      length-map now
          (λ (e : Entry). e.page),
      c.self.invariant.0,
    ) in
    subst (λ (l : List Entry). IsVisited c.args.page l (take (i.count + 1) (with_item i.entries i.count entry).items)) c.self.view_is
    (one_visited c.args.page i.entries.items i.count entry within
    (subst (λ (l : List Entry). is_in c.args.page (pages_of l) ≡ false) (sym c.self.view_is) unknown) refl refl)
