use Rattle.std.proofs.Common.{◌+◌, refl, sym, ap, subst}
use Rattle.inno_types.specs.declared.lock.Lock.{Lock}
use Rattle.lock_rules.specs.Rules.{FitsItsRule}
use Rattle.lock_table.specs.Records.{own_gaps}
use Rattle.lock_table.specs.View.{IsAskedFor, HasPlaces}
use Rattle.law_locks.proofs.AtOnce.{new_is_taken}
use Rattle.law_locks.proofs.Places.{new_needs_no_wait}
use Rattle.world.specs.State.{WorldState}
use Rattle.change_locks.proofs.Fitting.{new_fits, new_asked}
use Rattle.change_locks.proofs.locker.Locker.hold_new.Goals as goal

pub on_insert-requires : goal.on_insert-requires
on_insert-requires g c =
    let old = g.W.World.state c.args.world.now in
    let lock = c.args.lock.now in
    let stands = c.requires.stands in
    record {
      fits = subst FitsItsRule (sym c.requires.lock) (new_fits c.args.self.now lock.spot c.requires.key);
      asked_for = subst (λ (l : Lock). IsAskedFor l.reason.rule) (sym c.requires.lock) (new_asked c.args.self.now lock.spot);
      short = c.requires.short;
      free = new_needs_no_wait stands.0 stands.1 lock.spot c.args.next.now stands.2 old.locks lock stands.3 refl;
      room =
          subst (λ txn. HasPlaces (own_gaps txn c.args.next.now old.locks.granted + 1) old.locks) (sym (ap (λ (l : Lock). l.txn) c.requires.lock))
          c.requires.room;
    }

pub returns-clause-takes : goal.returns-clause-takes
returns-clause-takes g c = λ key.
    let old = g.W.World.state c.args.world.now in
    let new = g.W.World.state c.on_insert.new.self in
    let lock = c.args.lock.now in
    let stands = c.requires.stands in
    new_is_taken c.args.self.now.txn stands.0 stands.1 key lock.spot c.args.next.now old.locks new.locks lock stands.2 stands.3
    (record {
      own = ap (λ (l : Lock). l.txn) c.requires.lock;
      kind = ap (λ (l : Lock). l.kind) c.requires.lock;
      mode = ap (λ (l : Lock). l.mode) c.requires.lock;
      spot = refl;
    })
    (ap (λ (w : WorldState). w.locks) c.on_insert.ensures)
