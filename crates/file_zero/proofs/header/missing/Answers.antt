use Rattle.std.proofs.Common.{◌∙◌, ap}
use Rattle.std.proofs.lemmas.List.{take_rest}
use Rattle.sum64.specs.Fnv.{fnv_of}
use Rattle.file_zero.proofs.Places.{damaged}
use Rattle.file_zero.proofs.header.missing.Goals as goal

pub returns : goal.returns
returns c = λ pages read.
    let same = damaged c.args.len c.args.place.now pages c.requires.size read c.if-len-lt-PAGE.false in
    record {
      at = same.at;
      long = same.long;
      says = c.read_u64.ensures ∙ same.says;
      is = c.fnv.ensures ∙ ap fnv_of (take_rest c.args.place.now 8) ∙ same.is;
    }
