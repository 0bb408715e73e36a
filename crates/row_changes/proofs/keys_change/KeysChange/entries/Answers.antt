use Rattle.std.proofs.Common.{inl, inr, ℕ, ◌<◌, length, arith, sym, ap, subst, ◌∙◌}
use Rattle.std.specs.Prelude.{option_copied}
use Rattle.std.proofs.lemmas.{Result.IfOk-weaker, Option.slice_get_cases}
use Rattle.inno_types.specs.declared.value.Schema.{Schema}
use Rattle.law_stored_rows.specs.Storable.{IsStorable, IsKeyOn}
use Rattle.row_changes.specs.Keys.{HasColumnOf}
use Rattle.row_changes.proofs.Sessions.{one_found}
use Rattle.row_changes.proofs.keys_change.KeysChange.entries.Goals as goal

-- each key of a table that can be stored is on one of its columns
has_columns : (schema : Schema) → IsStorable schema → (which : ℕ) → which < length schema.keys → HasColumnOf schema which
has_columns schema storable which less = elim (slice_get_cases schema.keys which).1 [
  | inl (key, within, there, same) ↦
      let on = subst (IsKeyOn schema.columns storable.column.kind) same (storable.keys which key less) in
      record { key = key; key_is = there; indexed = on.column; indexed_is = on.there }
  | inr (beyond, none) ↦ absurd (omega (arith, less, beyond))
]

pub next_entries-requires-clause-keys : goal.next_entries-requires-clause-keys
next_entries-requires-clause-keys g c =
    let p = c.requires.2 in
    subst (λ (s : Schema). (which : ℕ) → which < length s.keys → HasColumnOf s which)
    (one_found p.schema c.in-Some.schema.now p.table.there (sym c.schema.ensures ∙ ap option_copied c.in-Some.is)) (has_columns p.schema p.table.storable)

abbrev pub returns : goal.returns
returns g c =
    IfOk-weaker c.next_entries.result _ _
    (λ r holds s there. rw (one_found s c.in-Some.schema.now there (sym c.schema.ensures ∙ ap option_copied c.in-Some.is)) holds) c.next_entries.ensures
