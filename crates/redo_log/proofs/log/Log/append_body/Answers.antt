use Rattle.std.proofs.lemmas.Grind.{common_steps}
use Rattle.std.proofs.Common.{◌≡◌, true, false, max, ℕ, ◌+◌, ◌-◌, ◌*◌, ◌^◌, ◌≤◌, ◌<◌, refl, List, [], ◌++◌, ◌∷◌, length, take, drop, sym, ◌∙◌, ap, subst, arith, length-take, length-drop}
use Rattle.std.proofs.lemmas.List.{take_all, length-take-le}
use Rattle.std.specs.List.{flat_map}
use Rattle.log_format.specs.declared.group.Group.{Group}
use Rattle.log_format.specs.Group.{record_bytes, group_bytes}
use Rattle.log_format.specs.Block.{AreBlocks, payload_of, blocks_for}
use Rattle.redo_log.specs.View.{LogView, Stay, room_of, spare_of, numbers_left}
use Rattle.redo_log.specs.Logged.{IsLogged}
use Rattle.redo_log.specs.Halves.{IsWritten}
use Rattle.redo_log.proofs.Appended.{appended}
use Rattle.redo_log.proofs.Halves.{written_more}
use Rattle.redo_log.proofs.Spare.{too_long, no_fewer, no_more, work_fits, some_room, has_numbers, has_room, spare_after, need_fits}
use Rattle.redo_log.proofs.log.Log.append_body.Goals as goal

pub returns-in_err-rest-clause-suffices : goal.returns-in_err-rest-clause-suffices
returns-in_err-rest-clause-suffices c = λ rs is enough.
    let i = c.self.inside in
    let g : Group = record { lsn = i.next; records = rs } in
    let S = spare_of i.room (length i.pending.items) (i.block + i.count) i.next in
    let spare : c.args.self.now.spare ≡ S = ap (λ (l : LogView). l.spare) (sym c.self.view_is) in
    let short : S < length (group_bytes g) = c.in_err-rest.ensures.full S rs is (omega (arith, c.self.invariant.room_fits))
    (omega (
      arith,
      length-take (length c.deref.result.now - 512 * c.kept-kept.result) (drop (512 * c.kept-kept.result) c.deref.result.now),
      length-drop (512 * c.kept-kept.result) c.deref.result.now,
      ap length c.deref.ensures.value,
      c.self.invariant.waits,
      c.self.invariant.room_work,
    )) in
    absurd (too_long g i.room (length i.pending.items) (i.block + i.count) i.next short (omega (arith, enough, spare)))

pub overflow_add-want-2 : goal.overflow_add-want-2
overflow_add-want-2 c =
    let i = c.self.inside in
    let kept = c.kept-kept.result in
    let g : Group = record { lsn = i.next; records = c.requires.0 } in
    let work = c.put_behind.new.work.items in
    let rest = c.in_ok-rest.rest.now in
    let few : kept ≤ i.count = omega (arith, c.kept-kept.ensures.few, ap (λ (l : LogView). l.count) c.self.view_is) in
    let most : i.count ≤ kept + 1 = omega (arith, c.kept-kept.ensures.most, ap (λ (l : LogView). l.count) c.self.view_is) in
    let before = c.deref.result.now in
    let all : take (length before - 512 * kept) (drop (512 * kept) before) ≡ drop (512 * kept) before =
    take_all (length before - 512 * kept) (drop (512 * kept) before) (omega (arith, length-drop (512 * kept) before)) in
    let whole : work ++ rest ≡ payload_of (drop (512 * kept) i.pending.items) ++ group_bytes g =
    c.in_ok-rest.ensures.ok c.requires.0 c.requires.1
    ∙ ap (λ (l : List ℕ). payload_of l ++ group_bytes g) (all ∙ ap (λ (l : List ℕ). drop (512 * kept) l) c.deref.ensures.value) in
    let long : c.len.result ≡ length work = omega (arith, c.len.ensures, c.put_behind.new.work.ok.0) in
    let fits : c.len.result + length rest < 2 ^ 32 + 512 =
    omega (arith, long, work_fits kept i.count i.pending.items work rest g few most c.self.invariant.whole whole (c.in_ok-rest.ensures.group c.requires.0 c.requires.1)) in
    record { fits = omega (arith, fits) }

pub overflow_mul-want : goal.overflow_mul-want
overflow_mul-want c =
    let i = c.self.inside in
    let kept = c.kept-kept.result in
    let g : Group = record { lsn = i.next; records = c.requires.0 } in
    let work = c.put_behind.new.work.items in
    let rest = c.in_ok-rest.rest.now in
    let few : kept ≤ i.count = omega (arith, c.kept-kept.ensures.few, ap (λ (l : LogView). l.count) c.self.view_is) in
    let most : i.count ≤ kept + 1 = omega (arith, c.kept-kept.ensures.most, ap (λ (l : LogView). l.count) c.self.view_is) in
    let before = c.deref.result.now in
    let all : take (length before - 512 * kept) (drop (512 * kept) before) ≡ drop (512 * kept) before =
    take_all (length before - 512 * kept) (drop (512 * kept) before) (omega (arith, length-drop (512 * kept) before)) in
    let whole : work ++ rest ≡ payload_of (drop (512 * kept) i.pending.items) ++ group_bytes g =
    c.in_ok-rest.ensures.ok c.requires.0 c.requires.1
    ∙ ap (λ (l : List ℕ). payload_of l ++ group_bytes g) (all ∙ ap (λ (l : List ℕ). drop (512 * kept) l) c.deref.ensures.value) in
    let long : c.len.result ≡ length work = omega (arith, c.len.ensures, c.put_behind.new.work.ok.0) in
    let fits : c.len.result + length rest < 2 ^ 32 + 512 =
    omega (arith, long, work_fits kept i.count i.pending.items work rest g few most c.self.invariant.whole whole (c.in_ok-rest.ensures.group c.requires.0 c.requires.1)) in
    let need : 512 * blocks_for (c.len.result + length rest) < 2 ^ 33 = need_fits (c.len.result + length rest) fits in
    record { fits = omega (arith, need) }

pub overflow_add-want-3 : goal.overflow_add-want-3
overflow_add-want-3 c =
    let i = c.self.inside in
    let kept = c.kept-kept.result in
    let g : Group = record { lsn = i.next; records = c.requires.0 } in
    let work = c.put_behind.new.work.items in
    let rest = c.in_ok-rest.rest.now in
    let few : kept ≤ i.count = omega (arith, c.kept-kept.ensures.few, ap (λ (l : LogView). l.count) c.self.view_is) in
    let most : i.count ≤ kept + 1 = omega (arith, c.kept-kept.ensures.most, ap (λ (l : LogView). l.count) c.self.view_is) in
    let before = c.deref.result.now in
    let all : take (length before - 512 * kept) (drop (512 * kept) before) ≡ drop (512 * kept) before =
    take_all (length before - 512 * kept) (drop (512 * kept) before) (omega (arith, length-drop (512 * kept) before)) in
    let whole : work ++ rest ≡ payload_of (drop (512 * kept) i.pending.items) ++ group_bytes g =
    c.in_ok-rest.ensures.ok c.requires.0 c.requires.1
    ∙ ap (λ (l : List ℕ). payload_of l ++ group_bytes g) (all ∙ ap (λ (l : List ℕ). drop (512 * kept) l) c.deref.ensures.value) in
    let long : c.len.result ≡ length work = omega (arith, c.len.ensures, c.put_behind.new.work.ok.0) in
    let fits : c.len.result + length rest < 2 ^ 32 + 512 =
    omega (arith, long, work_fits kept i.count i.pending.items work rest g few most c.self.invariant.whole whole (c.in_ok-rest.ensures.group c.requires.0 c.requires.1)) in
    let need : 512 * blocks_for (c.len.result + length rest) < 2 ^ 33 = need_fits (c.len.result + length rest) fits in
    record { fits = omega (arith, need, few, c.self.invariant.whole, c.self.invariant.waits, c.self.invariant.room_fits) }

pub overflow_sub-more : goal.overflow_sub-more
overflow_sub-more c =
    let i = c.self.inside in
    let kept = c.kept-kept.result in
    let g : Group = record { lsn = i.next; records = c.requires.0 } in
    let work = c.put_behind.new.work.items in
    let rest = c.in_ok-rest.rest.now in
    let few : kept ≤ i.count = omega (arith, c.kept-kept.ensures.few, ap (λ (l : LogView). l.count) c.self.view_is) in
    let most : i.count ≤ kept + 1 = omega (arith, c.kept-kept.ensures.most, ap (λ (l : LogView). l.count) c.self.view_is) in
    let before = c.deref.result.now in
    let all : take (length before - 512 * kept) (drop (512 * kept) before) ≡ drop (512 * kept) before =
    take_all (length before - 512 * kept) (drop (512 * kept) before) (omega (arith, length-drop (512 * kept) before)) in
    let whole : work ++ rest ≡ payload_of (drop (512 * kept) i.pending.items) ++ group_bytes g =
    c.in_ok-rest.ensures.ok c.requires.0 c.requires.1
    ∙ ap (λ (l : List ℕ). payload_of l ++ group_bytes g) (all ∙ ap (λ (l : List ℕ). drop (512 * kept) l) c.deref.ensures.value) in
    let long : c.len.result ≡ length work = omega (arith, c.len.ensures, c.put_behind.new.work.ok.0) in
    let put : blocks_for (c.len.result + length rest) ≡ blocks_for (length work + length rest) = ap (λ (m : ℕ). blocks_for (m + length rest)) long in
    let least = no_fewer kept i.count i.pending.items work rest g few most c.self.invariant.whole whole in
    omega (arith, least, put, c.len-2.ensures, i.pending.ok.0, c.self.invariant.whole)

pub returns-then-numbers_from-max-clause-suffices : goal.returns-then-numbers_from-max-clause-suffices
returns-then-numbers_from-max-clause-suffices c = λ rs is enough.
    let i = c.self.inside in
    let kept = c.kept-kept.result in
    let g : Group = record { lsn = i.next; records = rs } in
    let work = c.put_behind.new.work.items in
    let rest = c.in_ok-rest.rest.now in
    let few : kept ≤ i.count = omega (arith, c.kept-kept.ensures.few, ap (λ (l : LogView). l.count) c.self.view_is) in
    let most : i.count ≤ kept + 1 = omega (arith, c.kept-kept.ensures.most, ap (λ (l : LogView). l.count) c.self.view_is) in
    let before = c.deref.result.now in
    let all : take (length before - 512 * kept) (drop (512 * kept) before) ≡ drop (512 * kept) before =
    take_all (length before - 512 * kept) (drop (512 * kept) before) (omega (arith, length-drop (512 * kept) before)) in
    let whole : work ++ rest ≡ payload_of (drop (512 * kept) i.pending.items) ++ group_bytes g =
    c.in_ok-rest.ensures.ok rs is
    ∙ ap (λ (l : List ℕ). payload_of l ++ group_bytes g) (all ∙ ap (λ (l : List ℕ). drop (512 * kept) l) c.deref.ensures.value) in
    let long : c.len.result ≡ length work = omega (arith, c.len.ensures, c.put_behind.new.work.ok.0) in
    let put : blocks_for (c.len.result + length rest) ≡ blocks_for (length work + length rest) = ap (λ (m : ℕ). blocks_for (m + length rest)) long in
    let more : 512 * kept + 512 * blocks_for (c.len.result + length rest) ≤ length i.pending.items + room_of rs =
    omega (arith, put, no_more kept i.count i.pending.items work rest g few most c.self.invariant.whole whole, c.self.invariant.whole) in
    let S = spare_of i.room (length i.pending.items) (i.block + i.count) i.next in
    let spare : c.args.self.now.spare ≡ S = ap (λ (l : LogView). l.spare) (sym c.self.view_is) in
    let grown = 512 * kept + 512 * blocks_for (c.len.result + length rest) - c.len-2.result in
    let numbers : max grown 512 ≤ numbers_left (i.block + i.count) i.next =
    has_numbers (room_of rs) grown i.room (length i.pending.items) (i.block + i.count) i.next (omega (arith, more, c.len-2.ensures, i.pending.ok.0))
    (some_room g) (omega (arith, enough, spare)) in
    absurd (omega (arith, numbers, c.numbers_from.ensures, c.max.ensures, c.if-numbers_from-max.true))

pub returns-in_err-self-inside-clause-suffices : goal.returns-in_err-self-inside-clause-suffices
returns-in_err-self-inside-clause-suffices c = λ rs is enough.
    let i = c.self.inside in
    let kept = c.kept-kept.result in
    let g : Group = record { lsn = i.next; records = rs } in
    let work = c.put_behind.new.work.items in
    let rest = c.in_ok-rest.rest.now in
    let few : kept ≤ i.count = omega (arith, c.kept-kept.ensures.few, ap (λ (l : LogView). l.count) c.self.view_is) in
    let most : i.count ≤ kept + 1 = omega (arith, c.kept-kept.ensures.most, ap (λ (l : LogView). l.count) c.self.view_is) in
    let before = c.deref.result.now in
    let all : take (length before - 512 * kept) (drop (512 * kept) before) ≡ drop (512 * kept) before =
    take_all (length before - 512 * kept) (drop (512 * kept) before) (omega (arith, length-drop (512 * kept) before)) in
    let whole : work ++ rest ≡ payload_of (drop (512 * kept) i.pending.items) ++ group_bytes g =
    c.in_ok-rest.ensures.ok rs is
    ∙ ap (λ (l : List ℕ). payload_of l ++ group_bytes g) (all ∙ ap (λ (l : List ℕ). drop (512 * kept) l) c.deref.ensures.value) in
    let long : c.len.result ≡ length work = omega (arith, c.len.ensures, c.put_behind.new.work.ok.0) in
    let put : blocks_for (c.len.result + length rest) ≡ blocks_for (length work + length rest) = ap (λ (m : ℕ). blocks_for (m + length rest)) long in
    let more : 512 * kept + 512 * blocks_for (c.len.result + length rest) ≤ length i.pending.items + room_of rs =
    omega (arith, put, no_more kept i.count i.pending.items work rest g few most c.self.invariant.whole whole, c.self.invariant.whole) in
    let S = spare_of i.room (length i.pending.items) (i.block + i.count) i.next in
    let spare : c.args.self.now.spare ≡ S = ap (λ (l : LogView). l.spare) (sym c.self.view_is) in
    let within : 512 * kept + 512 * blocks_for (c.len.result + length rest) ≤ i.room =
    omega (
      arith,
      has_room (room_of rs) i.room (length i.pending.items) (i.block + i.count) i.next c.self.invariant.waits
          (omega (arith, enough, spare)),
      more,
    ) in
    let none : false ≡ true = c.in_err-self-inside.ensures.enough within in
    absurd (cc)

pub returns-clause-ok : goal.returns-clause-ok
returns-clause-ok c = λ rs of first groups d is.
    let i = c.self.inside in
    let kept = c.kept-kept.result in
    let g : Group = record { lsn = i.next; records = rs } in
    let work = c.put_behind.new.work.items in
    let rest = c.in_ok-rest.rest.now in
    let few : kept ≤ i.count = omega (arith, c.kept-kept.ensures.few, ap (λ (l : LogView). l.count) c.self.view_is) in
    let most : i.count ≤ kept + 1 = omega (arith, c.kept-kept.ensures.most, ap (λ (l : LogView). l.count) c.self.view_is) in
    let before = c.deref.result.now in
    let all : take (length before - 512 * kept) (drop (512 * kept) before) ≡ drop (512 * kept) before =
    take_all (length before - 512 * kept) (drop (512 * kept) before) (omega (arith, length-drop (512 * kept) before)) in
    let whole : work ++ rest ≡ payload_of (drop (512 * kept) i.pending.items) ++ group_bytes g =
    c.in_ok-rest.ensures.ok rs of
    ∙ ap (λ (l : List ℕ). payload_of l ++ group_bytes g) (all ∙ ap (λ (l : List ℕ). drop (512 * kept) l) c.deref.ensures.value) in
    let long : c.len.result ≡ length work = omega (arith, c.len.ensures, c.put_behind.new.work.ok.0) in
    let n = c.put_both_as_blocks-count.result in
    let put = c.put_both_as_blocks-count.ensures.blocks in
    let bytes : c.deref-2.result.now ++ rest ≡ payload_of (drop (512 * kept) i.pending.items) ++ group_bytes g =
    ap (λ (l : List ℕ). l ++ rest) (c.deref-2.ensures.value ∙ c.in_ok-self-inside.ensures.work) ∙ whole in
    let blocks = subst (λ (l : List ℕ). AreBlocks i.run (i.block + kept) l n put.0) bytes put.1 in
    let log : LogView = record {
      run = i.run;
      block = i.block;
      pending = i.pending.items;
      count = i.count;
      tried = i.tried;
      next = i.next;
      flushed = i.flushed;
      spare =
          spare_of i.room (length i.pending.items) (i.block + i.count) i.next;
    } in
    let stay : Stay kept log = record {
      tried = omega (arith, c.kept-kept.ensures.tried, ap (λ (l : LogView). l.tried) c.self.view_is);
      few = few;
      most = most;
    } in
    let after = spare_of c.in_ok-self-inside.field-0 (length c.put_both_as_blocks-count.new.out.items) (i.block + (kept + n)) (i.next + 1) in
    let there : take (512 * kept) i.pending.items ++ put.0 ≡ c.put_both_as_blocks-count.new.out.items =
    sym
    (put.2
    ∙ ap (λ (l : List ℕ). l ++ put.0) (c.truncate.ensures.items ∙ ap (λ (l : List ℕ). take (512 * kept) l) c.in_ok-self-inside.ensures.pending)) in
    let now = appended first groups log d (subst (λ (l : LogView). IsLogged first groups l d) (sym c.self.view_is) is) g
    (c.in_ok-rest.ensures.group rs of) refl kept stay n put.0 blocks after in
    let pending = subst
    (λ (l : List ℕ). IsLogged first (groups ++ g ∷ [])
    (record { run = i.run; block = i.block; pending = l; count = kept + n; tried = i.tried; next = i.next + 1; flushed = i.flushed; spare = after }) d)
    there now in
    subst
    (λ (l : LogView). IsLogged first (groups ++ record { lsn = l.next; records = rs } ∷ [])
    (record { run = i.run; block = i.block; pending = c.put_both_as_blocks-count.new.out.items; count = kept + n; tried = i.tried; next = i.next + 1; flushed = i.flushed; spare = after }) d)
    c.self.view_is pending

pub returns-clause-written : goal.returns-clause-written
returns-clause-written c = λ rs of first groups w d is.
    let i = c.self.inside in
    let kept = c.kept-kept.result in
    let g : Group = record { lsn = i.next; records = rs } in
    let work = c.put_behind.new.work.items in
    let rest = c.in_ok-rest.rest.now in
    let few : kept ≤ i.count = omega (arith, c.kept-kept.ensures.few, ap (λ (l : LogView). l.count) c.self.view_is) in
    let most : i.count ≤ kept + 1 = omega (arith, c.kept-kept.ensures.most, ap (λ (l : LogView). l.count) c.self.view_is) in
    let before = c.deref.result.now in
    let all : take (length before - 512 * kept) (drop (512 * kept) before) ≡ drop (512 * kept) before =
    take_all (length before - 512 * kept) (drop (512 * kept) before) (omega (arith, length-drop (512 * kept) before)) in
    let whole : work ++ rest ≡ payload_of (drop (512 * kept) i.pending.items) ++ group_bytes g =
    c.in_ok-rest.ensures.ok rs of
    ∙ ap (λ (l : List ℕ). payload_of l ++ group_bytes g) (all ∙ ap (λ (l : List ℕ). drop (512 * kept) l) c.deref.ensures.value) in
    let long : c.len.result ≡ length work = omega (arith, c.len.ensures, c.put_behind.new.work.ok.0) in
    let n = c.put_both_as_blocks-count.result in
    let put = c.put_both_as_blocks-count.ensures.blocks in
    let bytes : c.deref-2.result.now ++ rest ≡ payload_of (drop (512 * kept) i.pending.items) ++ group_bytes g =
    ap (λ (l : List ℕ). l ++ rest) (c.deref-2.ensures.value ∙ c.in_ok-self-inside.ensures.work) ∙ whole in
    let blocks = subst (λ (l : List ℕ). AreBlocks i.run (i.block + kept) l n put.0) bytes put.1 in
    let log : LogView = record {
      run = i.run;
      block = i.block;
      pending = i.pending.items;
      count = i.count;
      tried = i.tried;
      next = i.next;
      flushed = i.flushed;
      spare =
          spare_of i.room (length i.pending.items) (i.block + i.count) i.next;
    } in
    let stay : Stay kept log = record {
      tried = omega (arith, c.kept-kept.ensures.tried, ap (λ (l : LogView). l.tried) c.self.view_is);
      few = few;
      most = most;
    } in
    let after = spare_of c.in_ok-self-inside.field-0 (length c.put_both_as_blocks-count.new.out.items) (i.block + (kept + n)) (i.next + 1) in
    let there : take (512 * kept) i.pending.items ++ put.0 ≡ c.put_both_as_blocks-count.new.out.items =
    sym
    (put.2
    ∙ ap (λ (l : List ℕ). l ++ put.0) (c.truncate.ensures.items ∙ ap (λ (l : List ℕ). take (512 * kept) l) c.in_ok-self-inside.ensures.pending)) in
    let now = written_more first groups w log d (subst (λ (l : LogView). IsWritten first groups w l d) (sym c.self.view_is) is) g
    (c.in_ok-rest.ensures.group rs of) refl kept stay n put.0 blocks after in
    let pending = subst
    (λ (l : List ℕ). IsWritten first (groups ++ g ∷ []) w
    (record { run = i.run; block = i.block; pending = l; count = kept + n; tried = i.tried; next = i.next + 1; flushed = i.flushed; spare = after }) d)
    there now in
    subst
    (λ (l : LogView). IsWritten first (groups ++ record { lsn = l.next; records = rs } ∷ []) w
    (record { run = i.run; block = i.block; pending = c.put_both_as_blocks-count.new.out.items; count = kept + n; tried = i.tried; next = i.next + 1; flushed = i.flushed; spare = after }) d)
    c.self.view_is pending

pub returns-clause-spare : goal.returns-clause-spare
returns-clause-spare c = λ rs is.
    let i = c.self.inside in
    let kept = c.kept-kept.result in
    let g : Group = record { lsn = i.next; records = rs } in
    let work = c.put_behind.new.work.items in
    let rest = c.in_ok-rest.rest.now in
    let few : kept ≤ i.count = omega (arith, c.kept-kept.ensures.few, ap (λ (l : LogView). l.count) c.self.view_is) in
    let most : i.count ≤ kept + 1 = omega (arith, c.kept-kept.ensures.most, ap (λ (l : LogView). l.count) c.self.view_is) in
    let before = c.deref.result.now in
    let all : take (length before - 512 * kept) (drop (512 * kept) before) ≡ drop (512 * kept) before =
    take_all (length before - 512 * kept) (drop (512 * kept) before) (omega (arith, length-drop (512 * kept) before)) in
    let whole : work ++ rest ≡ payload_of (drop (512 * kept) i.pending.items) ++ group_bytes g =
    c.in_ok-rest.ensures.ok rs is
    ∙ ap (λ (l : List ℕ). payload_of l ++ group_bytes g) (all ∙ ap (λ (l : List ℕ). drop (512 * kept) l) c.deref.ensures.value) in
    let long : c.len.result ≡ length work = omega (arith, c.len.ensures, c.put_behind.new.work.ok.0) in
    let put : blocks_for (c.len.result + length rest) ≡ blocks_for (length work + length rest) = ap (λ (m : ℕ). blocks_for (m + length rest)) long in
    let more : 512 * kept + 512 * blocks_for (c.len.result + length rest) ≤ length i.pending.items + room_of rs =
    omega (arith, put, no_more kept i.count i.pending.items work rest g few most c.self.invariant.whole whole, c.self.invariant.whole) in
    let S = spare_of i.room (length i.pending.items) (i.block + i.count) i.next in
    let spare : c.args.self.now.spare ≡ S = ap (λ (l : LogView). l.spare) (sym c.self.view_is) in
    let n = c.put_both_as_blocks-count.result in
    let n_is : n ≡ blocks_for (c.len.result + length rest) =
    c.put_both_as_blocks-count.ensures.count
    ∙ ap (λ (l : List ℕ). blocks_for (length l + length rest)) (c.deref-2.ensures.value ∙ c.in_ok-self-inside.ensures.work)
    ∙ sym put in
    let want = 512 * kept + 512 * blocks_for (c.len.result + length rest) in
    let longer : length c.put_both_as_blocks-count.new.out.items ≡ want =
    omega (
      arith,
      c.put_both_as_blocks-count.new.out.ok.0,
      c.put_both_as_blocks-count.ensures.len,
      c.truncate.new.self.ok.0,
      ap length (c.truncate.ensures.items ∙ ap (λ (l : List ℕ). take (512 * kept) l) c.in_ok-self-inside.ensures.pending),
      length-take-le (512 * kept) i.pending.items (omega (arith, few, c.self.invariant.whole)),
      n_is,
    ) in
    let room : c.in_ok-self-inside.field-0 ≡ max i.room want = c.in_ok-self-inside.ensures.room in
    let later : i.block + (kept + n) ≤ i.block + i.count + blocks_for (14 + length (flat_map record_bytes rs)) =
    omega (arith, n_is, more, c.self.invariant.whole) in
    let after = spare_after (room_of rs) i.room (length i.pending.items) (i.block + i.count) i.next (blocks_for (14 + length (flat_map record_bytes rs))) want
    (i.block + (kept + n)) refl (omega arith) more later in
    rw (spare, room, longer) after

pub overflow_mul-end : goal.overflow_mul-end
overflow_mul-end c = grind (arith, common_steps)

pub slice_bounds-put_behind-count : goal.slice_bounds-put_behind-count
slice_bounds-put_behind-count c = grind (arith, common_steps)

pub slice_bounds-put_behind-start : goal.slice_bounds-put_behind-start
slice_bounds-put_behind-start c = grind (arith, common_steps)

pub slice_bounds-put_behind-end : goal.slice_bounds-put_behind-end
slice_bounds-put_behind-end c = grind (arith, common_steps)

pub put_behind-requires-clause-body : goal.put_behind-requires-clause-body
put_behind-requires-clause-body c = grind (arith, common_steps)

pub put_behind-requires-clause-whole : goal.put_behind-requires-clause-whole
put_behind-requires-clause-whole c = grind (arith, common_steps)

pub put_behind-requires-clause-room : goal.put_behind-requires-clause-room
put_behind-requires-clause-room c = grind (arith, common_steps)

pub invariant_of-self : goal.invariant_of-self
invariant_of-self c = grind (arith, common_steps)

pub returns-in_err-rest-clause-lsn : goal.returns-in_err-rest-clause-lsn
returns-in_err-rest-clause-lsn c = grind (arith, common_steps)

pub returns-in_err-rest-clause-run : goal.returns-in_err-rest-clause-run
returns-in_err-rest-clause-run c = grind (arith, common_steps)

pub returns-in_err-rest-clause-flushed : goal.returns-in_err-rest-clause-flushed
returns-in_err-rest-clause-flushed c = grind (arith, common_steps)

pub returns-in_err-rest-clause-next : goal.returns-in_err-rest-clause-next
returns-in_err-rest-clause-next c = grind (arith, common_steps)

pub returns-in_err-rest-clause-ok : goal.returns-in_err-rest-clause-ok
returns-in_err-rest-clause-ok c = grind (arith, common_steps)

pub returns-in_err-rest-clause-front : goal.returns-in_err-rest-clause-front
returns-in_err-rest-clause-front c = grind (arith, common_steps)

pub returns-in_err-rest-clause-written : goal.returns-in_err-rest-clause-written
returns-in_err-rest-clause-written c = grind (arith, common_steps)

pub returns-in_err-rest-clause-spare : goal.returns-in_err-rest-clause-spare
returns-in_err-rest-clause-spare c = grind (arith, common_steps)

pub returns-in_err-rest-clause-err : goal.returns-in_err-rest-clause-err
returns-in_err-rest-clause-err c = grind (arith, common_steps)

pub overflow_add-want : goal.overflow_add-want
overflow_add-want c = grind (arith, common_steps)

pub overflow_add-self-inside : goal.overflow_add-self-inside
overflow_add-self-inside c = grind (arith, common_steps)

pub invariant_of-self-then-numbers_from-max : goal.invariant_of-self-then-numbers_from-max
invariant_of-self-then-numbers_from-max c = grind (arith, common_steps)

pub returns-then-numbers_from-max-clause-run : goal.returns-then-numbers_from-max-clause-run
returns-then-numbers_from-max-clause-run c = grind (arith, common_steps)

pub returns-then-numbers_from-max-clause-flushed : goal.returns-then-numbers_from-max-clause-flushed
returns-then-numbers_from-max-clause-flushed c = grind (arith, common_steps)

pub returns-then-numbers_from-max-clause-front : goal.returns-then-numbers_from-max-clause-front
returns-then-numbers_from-max-clause-front c = grind (arith, common_steps)

pub returns-then-numbers_from-max-clause-err : goal.returns-then-numbers_from-max-clause-err
returns-then-numbers_from-max-clause-err c = grind (arith, common_steps)

pub widened-requires-clause-fits : goal.widened-requires-clause-fits
widened-requires-clause-fits c = grind (arith, common_steps)

pub widened-requires-clause-pending_holds : goal.widened-requires-clause-pending_holds
widened-requires-clause-pending_holds c = grind (arith, common_steps)

pub widened-requires-clause-work_holds : goal.widened-requires-clause-work_holds
widened-requires-clause-work_holds c = grind (arith, common_steps)

pub invariant_of-self-in_err-self-inside : goal.invariant_of-self-in_err-self-inside
invariant_of-self-in_err-self-inside c = grind (arith, common_steps)

pub returns-in_err-self-inside-clause-lsn : goal.returns-in_err-self-inside-clause-lsn
returns-in_err-self-inside-clause-lsn c = grind (arith, common_steps)

pub returns-in_err-self-inside-clause-run : goal.returns-in_err-self-inside-clause-run
returns-in_err-self-inside-clause-run c = grind (arith, common_steps)

pub returns-in_err-self-inside-clause-flushed : goal.returns-in_err-self-inside-clause-flushed
returns-in_err-self-inside-clause-flushed c = grind (arith, common_steps)

pub returns-in_err-self-inside-clause-next : goal.returns-in_err-self-inside-clause-next
returns-in_err-self-inside-clause-next c = grind (arith, common_steps)

pub returns-in_err-self-inside-clause-ok : goal.returns-in_err-self-inside-clause-ok
returns-in_err-self-inside-clause-ok c = grind (arith, common_steps)

pub returns-in_err-self-inside-clause-front : goal.returns-in_err-self-inside-clause-front
returns-in_err-self-inside-clause-front c = grind (arith, common_steps)

pub returns-in_err-self-inside-clause-written : goal.returns-in_err-self-inside-clause-written
returns-in_err-self-inside-clause-written c = grind (arith, common_steps)

pub returns-in_err-self-inside-clause-spare : goal.returns-in_err-self-inside-clause-spare
returns-in_err-self-inside-clause-spare c = grind (arith, common_steps)

pub returns-in_err-self-inside-clause-err : goal.returns-in_err-self-inside-clause-err
returns-in_err-self-inside-clause-err c = grind (arith, common_steps)

pub overflow_add-self-inside-2 : goal.overflow_add-self-inside-2
overflow_add-self-inside-2 c = grind (arith, common_steps)

pub put_both_as_blocks-count-requires-clause-numbers : goal.put_both_as_blocks-count-requires-clause-numbers
put_both_as_blocks-count-requires-clause-numbers c = grind (arith, common_steps)

pub put_both_as_blocks-count-requires-clause-room : goal.put_both_as_blocks-count-requires-clause-room
put_both_as_blocks-count-requires-clause-room c = grind (arith, common_steps)

pub overflow_add-self : goal.overflow_add-self
overflow_add-self c = grind (arith, common_steps)

pub overflow_add-self-2 : goal.overflow_add-self-2
overflow_add-self-2 c = grind (arith, common_steps)

pub overflow_sub-result : goal.overflow_sub-result
overflow_sub-result c = grind (arith, common_steps)

pub invariant_of-self-2 : goal.invariant_of-self-2
invariant_of-self-2 c = grind (arith, common_steps)

pub returns-clause-lsn : goal.returns-clause-lsn
returns-clause-lsn c = grind (arith, common_steps)

pub returns-clause-run : goal.returns-clause-run
returns-clause-run c = grind (arith, common_steps)

pub returns-clause-flushed : goal.returns-clause-flushed
returns-clause-flushed c = grind (arith, common_steps)

pub returns-clause-next : goal.returns-clause-next
returns-clause-next c = grind (arith, common_steps)

pub returns-clause-front : goal.returns-clause-front
returns-clause-front c = grind (arith, common_steps)
