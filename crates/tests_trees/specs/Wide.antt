-- An index for keys of sixty bytes and values of a hundred and forty.
use Rattle.std.specs.Prelude.{◌≡◌, IfSome}
use Rattle.entries.specs.Index.{Index}

abbrev pub AreWide : Index → Type 0
AreWide index = IfSome index.paged (λ p. (p.key_len ≡ 60) × (p.value_len ≡ 140))
