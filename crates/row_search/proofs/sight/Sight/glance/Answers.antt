use Rattle.std.proofs.Common.{◌≡◌, ◌∙◌, sym, Some, true, false, rules}
use Rattle.row_codec.specs.Heads.{version_head}
use Rattle.row_search.specs.Sights.{sees_by}
use Rattle.row_search.proofs.sight.Sight.glance.Goals as goal

pub returns-then-not-sees : goal.returns-then-not-sees
returns-then-not-sees c = λ version numbers is.
    let read : c.read_head.result ≡ Some c.in_ok-head.head = search rules in
    let back = c.read_head.ensures.back c.args.schema.now version c.args.key.now numbers is in
    let same : c.in_ok-head.head ≡ version_head version = cc in
    let unseen : sees_by c.args.self.now version.writer ≡ false = rw same at (sym c.sees.ensures ∙ c.if-not-sees.true) in
    rw (same, unseen)

pub returns-then-head : goal.returns-then-head
returns-then-head c = λ version numbers is.
    let read : c.read_head.result ≡ Some c.in_ok-head.head = search rules in
    let back = c.read_head.ensures.back c.args.schema.now version c.args.key.now numbers is in
    let same : c.in_ok-head.head ≡ version_head version = cc in
    let seen : sees_by c.args.self.now version.writer ≡ true = rw same at (sym c.sees.ensures ∙ c.if-not-sees.false) in
    let marked : version.marked ≡ true = rw same at c.if-head.true in
    rw (seen, marked)
