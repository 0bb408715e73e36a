-- What a change of the versions at one place leaves, and what stays when more is kept.
use Rattle.std.proofs.Common.{◌≡◌, ◌∙◌, sym, ℕ, ◌<◌, ◌≤◌, false, List, ◌∷◌, length, Option, Some, slice_get, arith}
use Rattle.std.proofs.lemmas.Option.{slice_get_within}
use Rattle.inno_types.specs.{declared.value.Value.Value, declared.value.Key.Key, declared.value.Schema.Schema}
use Rattle.entries.specs.Pairs.{Pair}
use Rattle.row_versions.specs.{declared.kept.Kept.Kept, declared.place.Place.Place, declared.version.Version.Version}
use Rattle.row_versions.specs.Chains.{Chains, versions_at, is_same_place, older, Pushes, Pops}
use Rattle.law_stored_rows.specs.{Edits.clustered_index, Records.KeepsMore, Tables.in_table, Tables.Said, Tables.AreCodedAs, Tables.LagAt}
use Rattle.law_stored_rows.proofs.{Values.place_itself, RowRecords.clustered_still}

abbrev pub at : ℕ → Value → Place
at table value = record { table = table; key = value }

-- ---- one place has other versions

-- all other places have the versions that they had
abbrev pub StaysElsewhere : Chains → Chains → Place → Type 0
StaysElsewhere before after place = (other : Place) → is_same_place place other ≡ false → versions_at other after ≡ versions_at other before

module _ (before after : Chains) (place : Place) where
  pub pushed_here : (version : Version) → Pushes before after place version → versions_at place after ≡ version ∷ versions_at place before
  pushed_here version pushes = rw (place_itself place) at (pushes place)

  pub pushed_elsewhere : (version : Version) → Pushes before after place version → StaysElsewhere before after place
  pushed_elsewhere version pushes other apart = rw apart at (pushes other)

  pub popped_here : Pops before after place → versions_at place after ≡ older (versions_at place before)
  popped_here pops = rw (place_itself place) at (pops place)

  pub popped_elsewhere : Pops before after place → StaysElsewhere before after place
  popped_elsewhere pops other apart = rw apart at (pops other)

  -- the keys go on saying of all other places what is there
  pub lag_stays : (said : Said) → StaysElsewhere before after place → LagAt place before said → LagAt place after said
  lag_stays said elsewhere lag table which value apart = lag table which value apart ∙ sym (elsewhere (at table value) apart)

-- ---- keys

pub few_of : (schema : Schema) (which : ℕ) (key : Key) → length schema.keys ≤ 4 → slice_get schema.keys which ≡ Some key → which < 4
few_of schema which key few is = let within : which < length schema.keys = slice_get_within schema.keys which key is in omega arith

-- ---- more is kept

pub coded_still : (schemas : List Schema) (indexes : ℕ → List Pair) (old new : ℕ → Option Kept) (chains : Chains) (said : Said) → KeepsMore old new
    → AreCodedAs schemas indexes old chains said → AreCodedAs schemas indexes new chains said
coded_still schemas indexes old new chains said more is = record {
  clustered = record {
    tables = λ table schema there. clustered_still table schema old new (indexes (clustered_index table)) (in_table table chains) more
        (is.clustered.tables table schema there);
    nowhere_else = is.clustered.nowhere_else;
  };
  keyed = is.keyed;
}
