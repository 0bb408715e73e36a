use Rattle.std.proofs.Common.{◌≡◌, false, List, sym, subst}
use Rattle.std.specs.Prelude.{◌++◌}
use Rattle.inno_types.specs.declared.lock.Lock.{Lock}
use Rattle.lock_table.specs.Queue.{is_blocked}
use Rattle.lock_table.specs.Records.{copies}
use Rattle.law_locks.proofs.Places.{granted_with_room, new_is_free}
use Rattle.law_locks.proofs.standing.new_records_with_room_are_granted.Goals as goal

pub returns : goal.returns
returns c txn records new_key new next old inserted last asked answer insertion all granted waiting room own at is =
    let free : is_blocked inserted.granted inserted.waiting asked ≡ false
    = subst (λ (ls : List Lock). is_blocked ls inserted.waiting asked ≡ false) (sym granted)
    (subst (λ (ws : List Lock). is_blocked (old.granted ++ copies txn new next old.granted) ws asked ≡ false) (sym waiting)
    (new_is_free records new_key new next insertion txn old.granted old.waiting asked all own at)) in
    granted_with_room inserted last asked answer free room is
