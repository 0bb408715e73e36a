-- What refuses a part refuses what is read behind it too.
use Rattle.std.proofs.Common.{◌≡◌, List, Result, Ok, Err, ap, subst}
use Rattle.sql_grammar.specs.declared.token.Token.{Token}
use Rattle.sql_conditions.specs.declared.refusal.Refusal.{Refusal}
use Rattle.sql_conditions.specs.declared.refusal.Refusal.TheVariants as refusal
use Rattle.sql_conditions.specs.Parts.{◌>>=◌, Fails}

pub fails_bind : {A B : Type 0} (e : Refusal) (r : Result A (List Token)) (f : A → Result B (List Token)) → Fails e r → Fails e (r >>= f)
fails_bind refusal.NoMemory r f h = tt
fails_bind (refusal.Unexpected left) (Ok a) f h = cc
fails_bind (refusal.Unexpected left) (Err rest) f h = (h.0, (let same : rest ≡ h.0 = cc in ap (λ (r : List Token). Err r) same), h.2)

pub same_fails : {A : Type 0} (e : Refusal) (r s : Result A (List Token)) → r ≡ s → Fails e r → Fails e s
same_fails e r s q h = subst (Fails e) q h
