-- What a group more makes of a log.
use Rattle.std.proofs.Common.{◌≡◌, ℕ, ◌+◌, ◌*◌, List, [], ◌∷◌, ◌++◌, take, drop, sym, ◌∙◌, ap, subst, arith, append_assoc, length-append}
use Rattle.std.proofs.lemmas.List.{append-nil}
use Rattle.std.proofs.lemmas.List.Concat.{flat_map-append}
use Rattle.std.proofs.lemmas.List.Elements.{All-weaker}
use Rattle.store_api.specs.Areas.{Contents}
use Rattle.log_format.specs.declared.group.Group.{Group}
use Rattle.log_format.specs.Group.{group_bytes, IsGroup}
use Rattle.log_format.specs.Block.{AreBlocks, payload_of}
use Rattle.log_format.specs.Scan.{stream_of}
use Rattle.log_format.proofs.Groups.{AreGroups-push}
use Rattle.log_format.proofs.Open.{AreBlocks-more}
use Rattle.redo_log.specs.View.{LogView, Stay}
use Rattle.redo_log.specs.Logged.{WritesFront, IsLogged}
use Rattle.redo_log.proofs.Crash.{length-pending}
use Rattle.redo_log.proofs.Halves.{front_kept}

module _ (first : ℕ) (groups : List Group) (log : LogView) (c : Contents) (is : IsLogged first groups log c) (g : Group) (is_group : IsGroup g)
    (number : g.lsn ≡ log.next) (kept : ℕ) (stay : Stay kept log) (n : ℕ) (blocks : List ℕ)
    (put : AreBlocks log.run (log.block + kept) (payload_of (drop (512 * kept) log.pending) ++ group_bytes g) n blocks) where
  pub appended : (spare : ℕ)
      → IsLogged first (groups ++ g ∷ []) (record {
        run = log.run;
        block = log.block;
        pending = take (512 * kept) log.pending ++ blocks;
        count = kept + n;
        tried = log.tried;
        next = log.next + 1;
        flushed = log.flushed;
        spare =
            spare;
      }) c
  appended spare = record {
    durable = is.durable;
    waiting = is.waiting ++ g ∷ [];
    split = ap (λ (l : List Group). l ++ g ∷ []) is.split ∙ append_assoc is.durable is.waiting (g ∷ []);
    each = AreGroups-push first groups g is.each is_group (number ∙ is.next);
    next = omega (arith, is.next, length-append groups (g ∷ []));
    flushed = is.flushed;
    good = is.good;
    bad = is.bad;
    stored = is.stored;
    blocks =
        let stream : stream_of is.waiting ++ group_bytes g ≡ stream_of (is.waiting ++ g ∷ []) =
        ap (λ (l : List ℕ). stream_of is.waiting ++ l) (sym (append-nil (group_bytes g))) ∙ sym (flat_map-append group_bytes is.waiting (g ∷ [])) in
        subst (λ (l : List ℕ). AreBlocks log.run log.block l (kept + n) (take (512 * kept) log.pending ++ blocks)) stream
        (AreBlocks-more log.run log.block (stream_of is.waiting) log.count log.pending is.blocks kept stay.few stay.most (group_bytes g) n blocks put);
    writes =
        All-weaker (WritesFront log.block log.tried log.pending) (WritesFront log.block log.tried (take (512 * kept) log.pending ++ blocks))
        (front_kept log.block log.tried kept log.pending blocks stay.tried (omega (arith, stay.few, length-pending first groups log c is))) c.writes is.writes;
  }
