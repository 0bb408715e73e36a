-- How many versions a pointer leads to, counted along what is kept.
use Rattle.std.proofs.Common.{◌≡◌, ℕ, zero, suc, ◌+◌, ◌==◌, ◌≤◌, Bool, true, false, cond, List, [], ◌∷◌, length, Option, Some, None, refl, sym, ap, subst}
use Rattle.std.proofs.Common.{◌∙◌, arith, eq-eqb}
use Rattle.std.proofs.lemmas.Bool.{ne_eqb}
use Rattle.inno_types.specs.declared.value.Schema.{Schema}
use Rattle.law_stored_rows.specs.Records.{LeadTo}
use Rattle.desks.specs.Undoing.{one_more, versions_from}
use Rattle.row_versions.specs.{declared.kept.Kept.Kept, declared.version.Version.Version}

cond_most : (b : Bool) (n most : ℕ) → n ≤ most → cond b 0 n ≤ most
cond_most true n most few = omega arith
cond_most false n most few = few

one_more_most : (most : ℕ) (further : ℕ → ℕ) (found : Option Kept) → ((pointer : ℕ) → further pointer ≤ most) → one_more found further ≤ suc most
one_more_most most further None few = omega arith
one_more_most most further (Some found) few = omega (arith, few found.version.pointer)

pub versions_most : (most : ℕ) (kept : ℕ → Option Kept) (pointer : ℕ) → versions_from most kept pointer ≤ most
versions_most zero kept pointer = omega arith
versions_most (suc most) kept pointer =
    cond_most (pointer == 0) (one_more (kept pointer) (versions_from most kept)) (suc most)
    (one_more_most most (versions_from most kept) (kept pointer) (versions_most most kept))

none_from : (most : ℕ) (kept : ℕ → Option Kept) (pointer : ℕ) → pointer ≡ 0 → versions_from most kept pointer ≡ 0
none_from zero kept pointer zero_is = refl
none_from (suc most) kept pointer zero_is = ap (λ (b : Bool). cond b 0 (one_more (kept pointer) (versions_from most kept))) (eq-eqb pointer 0 zero_is)

-- as many as the pointer leads to
pub versions_are : (schema : Schema) (key : List ℕ) (kept : ℕ → Option Kept) (most pointer : ℕ) (versions : List Version)
    → LeadTo schema key kept pointer versions → length versions ≤ most → versions_from most kept pointer ≡ length versions
versions_are schema key kept most pointer [] leads few = none_from most kept pointer leads
versions_are schema key kept zero pointer (version ∷ older) leads few = absurd (omega arith)
versions_are schema key kept (suc most) pointer (version ∷ older) (found, is, leads) few =
    let rest : versions_from most kept found.version.pointer ≡ length older =
    versions_are schema key kept most found.version.pointer older leads (omega arith) in
    let more : 1 + versions_from most kept found.version.pointer ≡ length (version ∷ older) = omega (arith, rest) in
    ap (λ (b : Bool). cond b 0 (one_more (kept pointer) (versions_from most kept))) (ne_eqb pointer 0 is.leads)
    ∙ ap (λ (o : Option Kept). one_more o (versions_from most kept)) is.there
    ∙ more

one_kept : (a b : Kept) → Some a ≡ Some b → a ≡ b
one_kept a b same = cc

-- A pointer leads to no more versions one time than another.
pub as_many : (schema : Schema) (key : List ℕ) (kept : ℕ → Option Kept) (pointer : ℕ) (versions others : List Version)
    → LeadTo schema key kept pointer versions → LeadTo schema key kept pointer others → length versions ≡ length others
as_many schema key kept pointer [] [] none leads = refl
as_many schema key kept pointer [] (other ∷ others) none (found, is, leads) = absurd (is.leads none)
as_many schema key kept pointer (version ∷ versions) [] (found, is, leads) none = absurd (is.leads none)
as_many schema key kept pointer (version ∷ versions) (other ∷ others) (found, is, leads) (again, so, further) =
    let same : found ≡ again = one_kept found again (sym is.there ∙ so.there) in
    ap suc (as_many schema key kept again.version.pointer versions others
    (subst (λ (k : Kept). LeadTo schema key kept k.version.pointer versions) same leads) further)
