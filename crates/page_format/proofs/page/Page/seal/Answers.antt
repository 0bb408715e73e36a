use Rattle.std.proofs.Common.{◌≡◌, ◌++◌, drop}
use Rattle.std.specs.Int.{w64, to_be_bytes}
use Rattle.sum64.specs.Fnv.{fnv_of}
use Rattle.page_format.proofs.Sealed.{readable}
use Rattle.stored_pages.proofs.Sealed.{sealed}
use Rattle.page_format.proofs.page.Page.seal.Goals as goal

pub returns : goal.returns
returns c =
    let sum : c.fnv-sum.result ≡ fnv_of (drop 8 c.self.inside.bytes) = rw c.behind.ensures.value at c.fnv-sum.ensures in
    let new : c.write_over.new.bytes ≡ to_be_bytes w64 c.fnv-sum.result ++ drop 8 c.self.inside.bytes = rw c.u64_bytes.ensures at c.write_over.ensures in
    let done = sealed c.self.inside.bytes c.write_over.new.bytes c.fnv-sum.result sum new in
    let old : c.args.self.now ≡ c.self.inside.bytes = cc (c.self.view_is) in
    record { sum = done.0; kept = rw old done.1; readable = rw old (readable c.self.inside.bytes c.write_over.new.bytes done.0 done.1) }
