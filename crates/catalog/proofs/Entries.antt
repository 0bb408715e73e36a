-- Entries are read as they are spelled.
use Rattle.std.proofs.Common.{◌≡◌, ℕ, ◌+◌, List, ◌++◌, length, Some, None, refl, sym, subst, ◌∙◌, ap, append_assoc}
use Rattle.std.specs.List.{flat_map}
use Rattle.catalog.specs.declared.held.Held.{Held}
use Rattle.schema_codec.specs.Numbers.{u32_bytes}
use Rattle.schema_codec.specs.Schema.{schema_bytes}
use Rattle.schema_codec.specs.Reading.{◌>>=◌, u32_at, list_at, schema_at}
use Rattle.schema_codec.proofs.Fields.{IsBytes, bind_some, some_is, Takes-then, u32_takes, u32_again}
use Rattle.schema_codec.proofs.Spells.{Spells, list_takes, list_again}
use Rattle.schema_codec.proofs.Schemas.{schema_spells}
use Rattle.catalog.specs.Entry.{entry_bytes, IsRoot, IsEntry}
use Rattle.catalog.specs.Reading.{entry_at}
use Rattle.catalog.specs.Refused.{BeginsWith}

root_spells : Spells u32_at u32_bytes IsRoot
root_spells = record { takes = λ bytes x fits e. u32_takes bytes x.0 x.1 fits e; again = u32_again }

abbrev made : Held → List ℕ → Held × List ℕ
made held rest = (held, rest)

pub entry_takes : (bytes : List ℕ) (x : Held × List ℕ) → IsBytes bytes → entry_at bytes ≡ Some x → BeginsWith x.0 bytes
unfolding entry_at
entry_takes bytes x fits e =
    let a = bind_some (schema_at bytes) (λ schema. list_at u32_at (1 + length schema.0.keys) schema.1 >>= λ roots. Some (made (record { schema = schema.0; roots = roots.0 }) roots.1)) x e in
    let b = bind_some (list_at u32_at (1 + length a.0.0.keys) a.0.1) (λ roots. Some (made (record { schema = a.0.0; roots = roots.0 }) roots.1)) x a.2 in
    let schema = schema_spells.takes bytes a.0 fits a.1 in
    let roots = list_takes u32_at u32_bytes IsRoot root_spells (1 + length a.0.0.keys) a.0.1 b.0 schema.0.rest_fits b.1 in
    let all = Takes-then bytes (schema_bytes a.0.0) a.0.1 (flat_map u32_bytes b.0.0) b.0.1 schema.0 roots.0 in
    subst (λ (y : Held × List ℕ). BeginsWith y.0 bytes) (some_is (made (record { schema = a.0.0; roots = b.0.0 }) b.0.1) x b.2)
    (record { is_entry = record { schema = schema.1; count = roots.1; roots = roots.2 }; rest = b.0.1; parts = all.parts })

entry_again : (held : Held) (rest : List ℕ) → IsEntry held → entry_at (entry_bytes held ++ rest) ≡ Some (held, rest)
unfolding entry_at
entry_again held rest is =
    let regrouped : schema_bytes held.schema ++ flat_map u32_bytes held.roots ++ rest ≡ schema_bytes held.schema ++ (flat_map u32_bytes held.roots ++ rest) = append_assoc (schema_bytes held.schema) (flat_map u32_bytes held.roots) rest in
    let roots : list_at u32_at (1 + length held.schema.keys) (flat_map u32_bytes held.roots ++ rest) ≡ Some (held.roots, rest) =
    ap (λ (n : ℕ). list_at u32_at n (flat_map u32_bytes held.roots ++ rest)) (sym is.count) ∙ list_again u32_at u32_bytes IsRoot root_spells held.roots rest is.roots in
    rw (regrouped, schema_spells.again held.schema (flat_map u32_bytes held.roots ++ rest) is.schema, roots) refl

-- bytes that begin with an entry are read
pub begins_read : (bytes : List ℕ) (held : Held) (begins : BeginsWith held bytes) → entry_at bytes ≡ Some (held, begins.rest)
begins_read bytes held begins = ap entry_at begins.parts ∙ entry_again held begins.rest begins.is_entry

-- bytes begin with one entry at most
pub one_entry : (bytes : List ℕ) (a b : Held) → BeginsWith a bytes → BeginsWith b bytes → a ≡ b
one_entry bytes a b first second =
    ap (λ (x : Held × List ℕ). x.0) (some_is (a, first.rest) (b, second.rest) (sym (begins_read bytes a first) ∙ begins_read bytes b second))

pub not_refused : (bytes : List ℕ) (held : Held) → entry_at bytes ≡ None → BeginsWith held bytes → ⊥
not_refused bytes held none begins =
    let read : entry_at bytes ≡ Some (held, begins.rest) = begins_read bytes held begins in
    cc
