use Rattle.std.proofs.Common.{◌≡◌, ◌<◌, ◌≤◌, List, length, take, sym, ap, ◌∙◌, arith, vec_capacity}
use Rattle.inno_db.specs.declared.change.Change.{Change}
use Rattle.inno_model.specs.Past.{oldest}
use Rattle.commit_log.specs.DraftsView.{DraftView, bytes_of, cut_to}
use Rattle.commit_log.specs.Drafted.{drafted}
use Rattle.commit_log.proofs.DraftSpelling.{kept, drafted_is, count_is, grown, as_view}
use Rattle.commit_log.proofs.Cut.{all_oldest, start_is, cut}
use Rattle.commit_log.proofs.draft.Draft.cut.Goals as goal

pub invariant_of-self : goal.invariant_of-self
invariant_of-self c =
    let i = c.self.inside in
    let changes = drafted (length i.starts.items) i.bytes.items in
    let within : c.args.keep < length i.starts.items = omega (arith, c.if-keep-len.true, c.len.ensures, i.starts.ok.0) in
    let start = c.index.result.now in
    let start_there : start ≡ length (bytes_of (oldest c.args.keep changes)) =
    c.index.ensures ∙ start_is changes i.bytes.items i.starts.items i.ready i.promised (vec_capacity i.bytes)
    (vec_capacity i.starts) c.self.invariant c.args.keep within start in
    let left =
    cut changes i.bytes.items i.starts.items i.ready i.promised (vec_capacity i.bytes) (vec_capacity i.starts) c.self.invariant c.args.keep within
    start (vec_capacity i.bytes) (vec_capacity i.starts) start_there (omega arith) (omega arith) in
    let bytes = c.truncate.new.self in
    let starts = c.truncate-then-keep-len.new.self in
    let now =
    grown (oldest c.args.keep changes) (take start i.bytes.items) (take c.args.keep i.starts.items) i.ready i.promised (vec_capacity i.bytes)
    (vec_capacity i.starts) left
    bytes.items starts.items (vec_capacity bytes) (vec_capacity starts) c.truncate.ensures.items c.truncate-then-keep-len.ensures.items
    (omega (arith, c.truncate.ensures.capacity)) (omega (arith, c.truncate-then-keep-len.ensures.capacity)) in
    kept (oldest c.args.keep changes) bytes.items starts.items i.ready i.promised (vec_capacity bytes) (vec_capacity starts) now

pub returns-then-keep-len : goal.returns-then-keep-len
returns-then-keep-len c =
    let i = c.self.inside in
    let changes = drafted (length i.starts.items) i.bytes.items in
    let within : c.args.keep < length i.starts.items = omega (arith, c.if-keep-len.true, c.len.ensures, i.starts.ok.0) in
    let start = c.index.result.now in
    let start_there : start ≡ length (bytes_of (oldest c.args.keep changes)) =
    c.index.ensures ∙ start_is changes i.bytes.items i.starts.items i.ready i.promised (vec_capacity i.bytes)
    (vec_capacity i.starts) c.self.invariant c.args.keep within start in
    let left =
    cut changes i.bytes.items i.starts.items i.ready i.promised (vec_capacity i.bytes) (vec_capacity i.starts) c.self.invariant c.args.keep within
    start (vec_capacity i.bytes) (vec_capacity i.starts) start_there (omega arith) (omega arith) in
    let bytes = c.truncate.new.self in
    let starts = c.truncate-then-keep-len.new.self in
    let now =
    grown (oldest c.args.keep changes) (take start i.bytes.items) (take c.args.keep i.starts.items) i.ready i.promised (vec_capacity i.bytes)
    (vec_capacity i.starts) left
    bytes.items starts.items (vec_capacity bytes) (vec_capacity starts) c.truncate.ensures.items c.truncate-then-keep-len.ensures.items
    (omega (arith, c.truncate.ensures.capacity)) (omega (arith, c.truncate-then-keep-len.ensures.capacity)) in
    ap (λ (l : List Change). as_view l i.ready i.promised)
    (drafted_is (oldest c.args.keep changes) bytes.items starts.items i.ready i.promised (vec_capacity bytes) (vec_capacity starts) now)
    ∙ ap (λ (v : DraftView). cut_to c.args.keep v) c.self.view_is

pub returns-else-keep-len : goal.returns-else-keep-len
returns-else-keep-len c =
    let i = c.self.inside in
    let changes = drafted (length i.starts.items) i.bytes.items in
    let count = count_is changes i.bytes.items i.starts.items i.ready i.promised (vec_capacity i.bytes) (vec_capacity i.starts) c.self.invariant in
    let few : length changes ≤ c.args.keep = omega (arith, count, c.if-keep-len.false, c.len.ensures, i.starts.ok.0) in
    sym c.self.view_is
    ∙ ap (λ (l : List Change). as_view l i.ready i.promised) (sym (all_oldest c.args.keep changes few))
    ∙ ap (λ (v : DraftView). cut_to c.args.keep v) c.self.view_is
