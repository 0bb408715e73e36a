use Rattle.std.proofs.Common.{◌≡◌, ℕ, ◌+◌, List, length, sym, ◌∙◌, ap, subst}
use Rattle.inno_model.specs.Past.{changed}
use Rattle.log_format.specs.declared.group.Group.{Group}
use Rattle.law_crashes.specs.Records.{no_db, changes_in}
use Rattle.file_zero.specs.Reading.{IsFound}
use Rattle.file_zero.specs.Refused.{IsTooMany}
use Rattle.store_api.proofs.Looks.{stays_join}
use Rattle.file_zero.proofs.Refusals.{many_refused, is_found}
use Rattle.file_zero.proofs.mounting.read_files.Goals as goal

pub returns-in-Ok-clause-found : goal.returns-in-Ok-clause-found
returns-in-Ok-clause-found g c =
    let mid = g.D.Disk.past c.read_header.new.disk in
    let now = g.D.Disk.past c.read_log.new.disk in
    let header = c.in_ok-header.header in
    let stored = c.in_ok-groups.field-0 in
    let m = c.in-Ok.mounted in
    let reads : m.db ≡ changed no_db (changes_in stored.groups) =
    c.in-Ok.ensures.db ∙ ap (λ (gs : List Group). changed no_db (changes_in gs)) c.as_slice.ensures in
    let numbers : m.next ≡ header.first + length stored.groups = c.in-Ok.ensures.next ∙ ap (λ (gs : List Group). header.first + length gs) c.as_slice.ensures in
    let found = is_found mid now header.run header.first stored.groups stored.block stored.rest c.in_ok-header.ensures.header c.in_ok-groups.ensures.same
    c.in_ok-groups.ensures.groups m.next m.db c.in_ok-groups.ensures.rows reads numbers c.in-Ok.ensures.some in
    subst (λ (n : ℕ). IsFound m.run n m.next m.db stored.rest now) (sym c.in-Ok.ensures.block)
    (subst (λ (n : ℕ). IsFound n stored.block m.next m.db stored.rest now) (sym c.in-Ok.ensures.run) found)

pub returns-in-Ok-clause-same : goal.returns-in-Ok-clause-same
returns-in-Ok-clause-same g c =
    let past = g.D.Disk.past in
    stays_join (past c.args.disk.now) (past c.read_header.new.disk) (past c.read_log.new.disk) c.in_ok-header.ensures.same c.in_ok-groups.ensures.same

pub returns-clause-refused : goal.returns-clause-refused
returns-clause-refused g c =
    let past = g.D.Disk.past in
    let mid = past c.read_header.new.disk in
    let now = past c.read_log.new.disk in
    let header = c.in_ok-header.header in
    let stored = c.in_ok-groups.field-0 in
    let many = subst (λ (gs : List Group). IsTooMany (changed no_db (changes_in gs)) c.in-Err.why) c.as_slice.ensures c.in-Err.ensures.large in
    many_refused mid now header.run header.first stored.groups stored.block stored.rest c.in_ok-header.ensures.header c.in_ok-groups.ensures.same
    c.in_ok-groups.ensures.groups (past c.args.disk.now) c.in-Err.why many
