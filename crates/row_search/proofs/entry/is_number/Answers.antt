use Rattle.std.proofs.Common.{rules, ◌≡◌, ◌<◌, ◌^◌, refl, subst, nat_eq}
use Rattle.key_codec.specs.{Keys.raised, Numbers.u64_bytes}
use Rattle.row_search.specs.Owners.{TellsSame}
use Rattle.row_search.proofs.Spelled.{number_told}
use Rattle.row_search.proofs.entry.is_number.Goals as goal

pub returns-in-Some : goal.returns-in-Some
returns-in-Some c =
    let found_fits : c.in-Some.found < 2 ^ 64 = search rules in
    let is : c.key_number-raised.result ≡ raised c.args.number = search rules in
    subst (λ n. TellsSame (u64_bytes n) c.args.key.now (nat_eq c.in-Some.found c.key_number-raised.result)) is
    (number_told c.in-Some.found c.key_number-raised.result c.args.key.now (nat_eq c.in-Some.found c.key_number-raised.result) found_fits
    c.key_number-raised.type_inv c.in-Some.ensures.found refl)
