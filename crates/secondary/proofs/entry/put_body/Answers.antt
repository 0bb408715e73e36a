use Rattle.std.proofs.Common.{◌≡◌, ◌∙◌, length, sym, ap}
use Rattle.key_codec.proofs.Lengths.{length-u64_bytes}
use Rattle.secondary.proofs.Answered.{renamed, as_many}
use Rattle.secondary.proofs.Bodies.{number_there, text_there}
use Rattle.secondary.proofs.entry.put_body.Goals as goal

pub returns-in-BigInt-clause-ok : goal.returns-in-BigInt-clause-ok
returns-in-BigInt-clause-ok c = λ value has is.
    let number = number_there c.args.kind value c.args.body.now c.in-BigInt.is has is in
    renamed c.put_number.result c.put_number.new.out.items c.args.out.now.items _ _ (c.put_number.ensures.ok number.n number.fits number.body_is) (sym number.key_is)

pub returns-in-BigInt-clause-full : goal.returns-in-BigInt-clause-full
returns-in-BigInt-clause-full c = λ value has is.
    let number = number_there c.args.kind value c.args.body.now c.in-BigInt.is has is in
    let eight : 8 ≡ length c.args.body.now = sym (ap length number.body_is ∙ length-u64_bytes _) in
    as_many c.put_number.result _ _ 8 (length c.args.body.now) c.put_number.ensures.full eight

pub returns-in-VarBinary-clause-ok : goal.returns-in-VarBinary-clause-ok
returns-in-VarBinary-clause-ok c = λ value has is.
    let text = text_there c.args.kind _ value c.args.body.now c.in-VarBinary.is has is in
    renamed c.put_text.result c.put_text.new.out.items c.args.out.now.items _ _ (c.put_text.ensures.ok text.len text.text text.body_is) (sym text.key_is)
