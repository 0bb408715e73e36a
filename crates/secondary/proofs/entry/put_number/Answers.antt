use Rattle.std.proofs.Common.{◌≡◌, ◌∙◌, ℕ, ap, sym}
use Rattle.std.specs.Int.{w64, to_be_bytes}
use Rattle.key_codec.specs.Keys.{raised}
use Rattle.key_codec.specs.Numbers.{u64_bytes}
use Rattle.secondary.proofs.Answered.{appended}
use Rattle.secondary.proofs.entry.put_number.Goals as goal

pub returns-in-Some-clause-ok : goal.returns-in-Some-clause-ok
unfolding u64_bytes
returns-in-Some-clause-ok c = λ n fits is.
    let up : c.raised_bits.result ≡ raised n = c.raised_bits.ensures n fits (sym c.in-Some.ensures.found ∙ is) in
    let bytes : c.u64_bytes.result ≡ u64_bytes (raised n) = c.u64_bytes.ensures ∙ ap (λ (k : ℕ). to_be_bytes w64 k) up in
    appended c.extend_from_slice.result c.extend_from_slice.new.self.items c.args.out.now.items c.u64_bytes.result (u64_bytes (raised n)) c.extend_from_slice.ensures.items bytes

pub returns-in-None-clause-ok : goal.returns-in-None-clause-ok
returns-in-None-clause-ok c = λ n fits is. absurd (c.in-None.ensures.none _ is)
