use Rattle.std.proofs.lemmas.Grind.{common_steps}
use Rattle.std.proofs.Common.{◌≡◌, ◌+◌, ◌*◌, ◌++◌, ℕ, List, length, take, drop, nat_lt, sym, ◌∙◌, ap, subst, arith}
use Rattle.std.proofs.lemmas.Bool.Decides.{nat_tests}
use Rattle.std.proofs.lemmas.List.{take_at}
use Rattle.log_format.specs.Block.{payloads}
use Rattle.log_format.specs.Given.{ReaderView, HasGiven}
use Rattle.log_format.proofs.Streamed.{piece_given}
use Rattle.log_format.proofs.reader.Reader.read_piece.Goals as goal

pub returns-clause-given : goal.returns-clause-given
returns-clause-given g c = λ first area given is s ticks told same.
    let i = c.self.inside in
    let good = c.in_ok-good.good in
    let bytes = take c.in-Ok.len c.deref.result.now in
    let r : ReaderView = record { run = i.run; block = i.block; next = i.next; rest = drop i.at i.stream.items; ended = i.ended } in
    let long : length c.read.new.into ≡ 32768 = omega arith in
    let whole : take i.piece.len (c.read.new.into ++ drop (length c.read.new.into) i.piece.items) ≡ c.read.new.into =
    take_at c.read.new.into (drop (length c.read.new.into) i.piece.items) i.piece.len (omega (arith, long, i.piece.ok.0)) in
    let read : bytes ≡ take 32768 (drop (512 * i.block) area) =
    ap (λ (l : List ℕ). take c.in-Ok.len l) (c.deref.ensures.value ∙ whole)
    ∙ c.in-Ok.ensures.bytes s ticks told
    ∙ (λ j. take (long j) (drop (512 * i.block) (same j))) in
    let now = piece_given first area given r (subst (λ (v : ReaderView). HasGiven first area given v) (sym c.self.view_is) is) bytes read good
    c.in_ok-good.ensures.good (nat_lt good 64) (λ less. grind (arith, nat_tests, less)) in
    let items : c.put_payloads.new.out.items ≡ drop i.at i.stream.items ++ payloads good bytes =
    c.in_ok-good.ensures.payloads ∙ ap (λ (l : List ℕ). l ++ payloads good bytes) c.drop_front.ensures in
    subst
    (λ (l : List ℕ). HasGiven first area given
    (record { run = i.run; block = i.block + good; next = i.next; rest = l; ended = nat_lt good 64 }))
    (sym items) now

pub invariant_of-self : goal.invariant_of-self
invariant_of-self g c = grind (arith, common_steps) steps 2000000
