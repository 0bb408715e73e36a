use Rattle.std.proofs.Common.{◌≡◌, true, length, sym, ap, subst, ◌∙◌, arith}
use Rattle.std.specs.Prelude.{nat_le}
use Rattle.std.proofs.lemmas.Bool.{leb-true}
use Rattle.stored_pages.specs.Words.{u32_at}
use Rattle.buffer_pool.specs.Frames.{bytes_of}
use Rattle.paged_txn.specs.View.{IsPaged, Begins}
use Rattle.paged_txn.specs.Bringing.{IsRefused}
use Rattle.paged_txn.proofs.Dirty.{opened_clean}
use Rattle.paged_txn.proofs.Opened.{opened_paged, opened_begins, unread_paged, unread_begins}
use Rattle.paged_txn.proofs.work.counts_few.Goals as goal

pub returns-in-Ok-clause-paged : goal.returns-in-Ok-clause-paged
returns-in-Ok-clause-paged g c =
    let past = g.D.Disk.past c.args.disk.now in
    let now = g.D.Disk.past c.bring.new.disk in
    let mid = c.bring.new.pool in
    opened_paged past c.args.pool.now c.requires now mid c.let_go.new.pool c.in-Ok.ensures.ok c.let_go.ensures (nat_le c.read_u32.result c.pages.result)
    (λ few.
    let most = leb-true c.read_u32.result c.pages.result few in
    let count : u32_at 44 (bytes_of mid 0) ≡ c.read_u32.result = sym (c.read_u32.ensures ∙ ap (u32_at 44) c.bytes.ensures.value) in
    omega (arith, most, count, c.pages.ensures))

pub returns-in-Ok-clause-begins : goal.returns-in-Ok-clause-begins
returns-in-Ok-clause-begins g c =
    let past = g.D.Disk.past c.args.disk.now in
    let now = g.D.Disk.past c.bring.new.disk in
    opened_begins past c.args.pool.now c.requires now c.bring.new.pool c.let_go.new.pool c.in-Ok.ensures.ok c.let_go.ensures
    (nat_le c.read_u32.result c.pages.result)

pub returns-in-Err-Bad-clause-paged : goal.returns-in-Err-Bad-clause-paged
returns-in-Err-Bad-clause-paged g c =
    let past = g.D.Disk.past c.args.disk.now in
    let now = g.D.Disk.past c.bring.new.disk in
    let why = subst (IsRefused 0 past now c.args.pool.now) c.in-Err-Bad.field-0-is c.in-Err-Bad.ensures.refused in
    subst (λ p. IsPaged p now _ _ true) (sym c.in-Err-Bad.ensures.same) (unread_paged past c.args.pool.now c.requires now why.2)

pub returns-in-Err-Bad-clause-begins : goal.returns-in-Err-Bad-clause-begins
returns-in-Err-Bad-clause-begins g c =
    let past = g.D.Disk.past c.args.disk.now in
    let now = g.D.Disk.past c.bring.new.disk in
    let why = subst (IsRefused 0 past now c.args.pool.now) c.in-Err-Bad.field-0-is c.in-Err-Bad.ensures.refused in
    subst (λ p. Begins (length c.args.pool.now.slots) past now p true) (sym c.in-Err-Bad.ensures.same)
    (unread_begins past c.args.pool.now c.requires now why.2)

pub returns-in-Ok-clause-clean : goal.returns-in-Ok-clause-clean
returns-in-Ok-clause-clean g c =
    let past = g.D.Disk.past c.args.disk.now in
    let now = g.D.Disk.past c.bring.new.disk in
    opened_clean 0 past now c.args.pool.now c.bring.new.pool c.let_go.new.pool c.requires c.in-Ok.ensures.ok c.let_go.ensures
