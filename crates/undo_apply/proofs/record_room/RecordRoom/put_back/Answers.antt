use Rattle.std.proofs.Common.{◌<◌, ℕ, List, length, arith, ◌≡◌, ⊎_elim, [], ap, ◌∙◌}
use Rattle.std.specs.Prelude.{slice_set}
use Rattle.std.proofs.lemmas.{List.get_or-set_other, List.get_or-set_same, List.length-set, Bool.cases_eq}
use Rattle.undo_apply.specs.Lengths.{AreOfEachLength}
use Rattle.undo_apply.proofs.record_room.RecordRoom.put_back.Goals as goal

-- a list that was taken out and is put back, as long as it was
given_again : (size : ℕ) (lists : List (List ℕ)) (list : List ℕ) → length list < size → AreOfEachLength size lists
    → AreOfEachLength size (slice_set (slice_set lists (length list) []) (length list) list)
given_again size lists list within are =
    let without = slice_set lists (length list) [] in
    let long = length-set lists (length list) [] in
    let inside : length list < length without = omega (arith, within, are.count, long) in record {
      count = length-set without (length list) list ∙ (long ∙ are.count);
      each = λ n below. ⊎_elim
          (λ same. rw same (rw (get_or-set_same without (length list) list [] inside)))
          (λ differs. ap length (get_or-set_other without (length list) n list [] differs ∙ get_or-set_other lists (length list) n [] [] differs)
          ∙ are.each n below) (cases_eq n (length list));
    }

lent_and_given : (size : ℕ) (lists lent given : List (List ℕ)) (list bytes : List ℕ) → length bytes < size → AreOfEachLength size lists → list ≡ bytes
    → lent ≡ slice_set lists (length bytes) [] → given ≡ slice_set lent (length list) list → AreOfEachLength size given
lent_and_given size lists lent given list bytes within are same lends gives =
    rw (gives, lends, ← same) (given_again size lists list (rw same within) are)

pub invariant_of-self : goal.invariant_of-self
invariant_of-self g c =
    let room = c.self.inside in
    let fits = c.requires.under_way.3.tells.undo_is in
    let short_key : length c.args.read.now.key.items < 68 = (let short = fits.key in omega (arith, short)) in
    let short_value : length c.args.read.now.value.items < 1025 = (let short = fits.value in omega (arith, short)) in
    record {
      keys = lent_and_given 68 room.keys.items c.take_written.new.lists.items c.give_back.new.lists.items c.take_written.result c.deref.result.now
          (rw c.deref.ensures.value short_key) c.self.invariant.keys c.take_written.ensures.written
          c.take_written.ensures.lists c.give_back.ensures;
      values = lent_and_given 1025 room.values.items c.take_written-2.new.lists.items c.give_back-2.new.lists.items c.take_written-2.result
          c.deref-2.result.now (rw c.deref-2.ensures.value short_value) c.self.invariant.values
          c.take_written-2.ensures.written c.take_written-2.ensures.lists c.give_back-2.ensures;
    }
