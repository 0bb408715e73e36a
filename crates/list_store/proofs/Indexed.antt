-- A call of one index, seen in the whole store.
use Rattle.std.proofs.Common.{◌≡◌, ◌≢◌, ℕ, ◌*◌, ◌<◌, ◌≤◌, Bool, true, false, List, length, Option, None, Some, refl, ap, sym, ◌∙◌, subst, arith}
use Rattle.std.specs.Prelude.{slice_get, slice_set, IfSome}
use Rattle.std.proofs.lemmas.Option.{slice_get_within}
use Rattle.inno_types.specs.declared.value.Schema.{Schema}
use Rattle.store_api.specs.declared.answers.Undo.{Undo}
use Rattle.store_api.specs.declared.moves.Move.{Move}
use Rattle.store_api.specs.declared.moves.Move.TheVariants.{At, End, Done, Step, Latch, Again, Full, TooDeep, Failed, Bad, NoMemory}
use Rattle.entries.specs.declared.list_index.ListIndex.{ListIndex}
use Rattle.entries.specs.Pairs.{Pair, AreSound}
use Rattle.entries.specs.Index.{Index, Told, IsAsBefore}
use Rattle.entries.specs.Calls.{is_done, released, Tidies, Inserts, Replaces, Leaves}
use Rattle.entries.specs.Lists.{shown}
use Rattle.row_versions.specs.declared.kept.Kept.{Kept}
use Rattle.world.specs.{State.IsIndex, Stores.CountsFree}
use Rattle.world.specs.Indexes.{InsertsWith, ReplacesWith, KeepsIf}
use Rattle.index_store.specs.State.{StoreState}
use Rattle.index_store.specs.Indexes.{InIndex, StaysBeside, Calls, Changes, Brings, IsLogged}
use Rattle.index_store.proofs.Places.{get_set_here, get_set_elsewhere}
use Rattle.list_store.specs.Slots.{slotted, kept_behind, filled_if}
use Rattle.list_store.specs.Kept.{KeepsOnly}
use Rattle.list_store.specs.Parts.{ListParts, store_of, index_of_list}
use Rattle.list_store.proofs.Filled.{kept_filled, kept_elsewhere}

pub as_before : (list : Option ListIndex) → IsAsBefore (index_of_list list) (index_of_list list)
as_before None = record { pairs = refl; place = refl; awaited = refl }
as_before (Some list) = record { pairs = refl; place = refl; awaited = refl }

-- to tidy a list changes nothing
pub tidied : (actor : ℕ) (old new : ListIndex) (answer : Move) → Tidies actor (shown old) (shown new) answer → IsAsBefore (shown old) (shown new)
tidied actor old new Done h = h
tidied actor old new NoMemory h = h
tidied actor old new Step h = h.all
tidied actor old new (Latch by) h = h.all
tidied actor old new Again h = h.all
tidied actor old new Failed h = absurd h.cause
tidied actor old new (Bad page rule) h = h.all
tidied actor old new (At key value) h = absurd h
tidied actor old new End h = absurd h
tidied actor old new (Full need free) h = absurd h
tidied actor old new TooDeep h = absurd h

-- after that the actor leaves
pub left : (actor : ℕ) (old between new : ListIndex) (answer : Move) → Tidies actor (shown old) (shown between) answer
    → Leaves actor (shown between) (shown new) → Leaves actor (shown old) (shown new)
left actor old between new answer tidy leaves =
    let same = tidied actor old between answer tidy in
    record {
      pairs = leaves.pairs ∙ ap Some same.pairs;
      place = leaves.place;
      others = λ other another. leaves.others other another ∙ ap (λ (f : ℕ → Option Pair). f other) same.place;
      awaited = leaves.awaited ∙ ap (released actor) same.awaited;
    }

pub left_sound : (actor : ℕ) (between new : ListIndex) → Told AreSound (shown between) → Leaves actor (shown between) (shown new) → Told AreSound (shown new)
left_sound actor between new sound leaves = subst (λ (pairs : Option (List Pair)). IfSome pairs AreSound) (sym leaves.pairs) sound

pub index_within : (schemas : List Schema) (index indexes : ℕ) → IsIndex schemas index → indexes ≡ 8 * length schemas → index < indexes
index_within schemas index indexes is numbered = omega (arith, is.number, is.few, slice_get_within schemas is.table is.schema is.there, numbered)

in_index : (indexes : List ListIndex) (p q : ListParts) (index : ℕ) (old new : ListIndex) (step : Index → Index → Type 0) → slice_get p.indexes index ≡ Some old
    → q.indexes ≡ slice_set p.indexes index new → step (shown old) (shown new) → Told AreSound (shown new) → InIndex index step (store_of p) (store_of q)
in_index indexes p q index old new step there is stepped sound =
    let here : slice_get q.indexes index ≡ Some new = rw is (get_set_here p.indexes index new (slice_get_within p.indexes index old there)) in
    record {
      here = rw (there, here) stepped;
      elsewhere = λ other another. rw (is, get_set_elsewhere p.indexes index other new another) (as_before (slice_get p.indexes other));
      sound = rw here sound;
      later = rw (there, here) tt;
    }

pub calls_one : (p : ListParts) (index : ℕ) (old new : ListIndex) (step : Index → Index → Type 0) → slice_get p.indexes index ≡ Some old
    → step (shown old) (shown new) → Told AreSound (shown new) → Calls index step (store_of p) (store_of (record p { indexes = slice_set p.indexes index new }))
calls_one p index old new step there stepped sound = record {
  index_is = in_index p.indexes p (record p { indexes = slice_set p.indexes index new }) index old new step there refl stepped sound;
  beside = record { schemas = refl; versions = record { told = λ told. told; kept = λ told. refl }; rooms = refl; later = tt };
}

pub inserts_with : (undo : Undo) (actor : ℕ) (key value : List ℕ) (old new : Index) (answer : Move) → Inserts actor key value old new answer
    → InsertsWith (Some undo) actor key value old new answer
inserts_with undo actor key value old new NoMemory h = h.1
inserts_with undo actor key value old new Done h = h
inserts_with undo actor key value old new Step h = h
inserts_with undo actor key value old new (Latch by) h = h
inserts_with undo actor key value old new Again h = h
inserts_with undo actor key value old new Failed h = h
inserts_with undo actor key value old new (Bad page rule) h = h
inserts_with undo actor key value old new (At found kept) h = h
inserts_with undo actor key value old new End h = h
inserts_with undo actor key value old new (Full need free) h = h
inserts_with undo actor key value old new TooDeep h = h

pub replaces_with : (undo : Undo) (actor : ℕ) (key value : List ℕ) (old new : Index) (answer : Move) → Replaces actor key value old new answer
    → ReplacesWith (Some undo) actor key value old new answer
replaces_with undo actor key value old new NoMemory h = h.1
replaces_with undo actor key value old new Done h = h
replaces_with undo actor key value old new Step h = h
replaces_with undo actor key value old new (Latch by) h = h
replaces_with undo actor key value old new Again h = h
replaces_with undo actor key value old new Failed h = h
replaces_with undo actor key value old new (Bad page rule) h = h
replaces_with undo actor key value old new (At found kept) h = h
replaces_with undo actor key value old new End h = h
replaces_with undo actor key value old new (Full need free) h = h
replaces_with undo actor key value old new TooDeep h = h

-- a call that has not changed its index brings nothing
brings_none : (actor : ℕ) (undo : Undo) (old new : StoreState) (answer : Move) → answer ≢ Done → StaysBeside old new
    → Brings actor (Some undo) (is_done answer) old new
brings_none actor undo old new NoMemory other h = h
brings_none actor undo old new Done other h = absurd (other refl)
brings_none actor undo old new Step other h = h
brings_none actor undo old new (Latch by) other h = h
brings_none actor undo old new Again other h = h
brings_none actor undo old new Failed other h = h
brings_none actor undo old new (Bad page rule) other h = h
brings_none actor undo old new (At found kept) other h = h
brings_none actor undo old new End other h = h
brings_none actor undo old new (Full need free) other h = h
brings_none actor undo old new TooDeep other h = h

-- a store in memory has no pages that could be counted
pub counts_none : (answer : Move) → CountsFree answer None
counts_none (Full need free) = tt
counts_none Done = tt
counts_none NoMemory = tt
counts_none Step = tt
counts_none (Latch by) = tt
counts_none Again = tt
counts_none Failed = tt
counts_none (Bad page rule) = tt
counts_none (At found kept) = tt
counts_none End = tt
counts_none TooDeep = tt

pub changes_none : (p : ListParts) (index actor : ℕ) (undo : Undo) (old new : ListIndex) (call : Index → Index → Move → Type 0) (answer : Move)
    → slice_get p.indexes index ≡ Some old
    → answer ≢ Done → call (shown old) (shown new) answer → Told AreSound (shown new)
    → Changes index actor (Some undo) call (store_of p) (store_of (record p { indexes = slice_set p.indexes index new })) answer
changes_none p index actor undo old new call answer there other called sound =
    let one = calls_one p index old new (λ before after. call before after answer) there called sound in
    record {
      index_is = one.index_is;
      beside = brings_none actor undo (store_of p) (store_of (record p { indexes = slice_set p.indexes index new })) answer
          other one.beside;
      counted = counts_none answer;
    }

-- the index has changed, and then the record was logged
pub changes_logged : (p q : ListParts) (index actor : ℕ) (undo : Undo) (old new : ListIndex) (call : Index → Index → Move → Type 0)
    → slice_get p.indexes index ≡ Some old
    → call (shown old) (shown new) Done → Told AreSound (shown new) → q.indexes ≡ slice_set p.indexes index new
    → IsLogged actor undo (store_of (record p { indexes = slice_set p.indexes index new })) (store_of q)
    → Changes index actor (Some undo) call (store_of p) (store_of q) Done
changes_logged p q index actor undo old new call there called sound is logged = record {
  index_is = in_index p.indexes p q index old new (λ before after. call before after Done) there is called sound;
  beside = record { schemas = logged.schemas; kept = logged.kept; others = logged.others; later = logged.later };
  counted = tt;
}

-- what is kept where a record is logged
pub keeps : (keeps_one : Bool) (schemas : List Schema) (pointer : ℕ) (undo : Undo) (kept : Option Kept) (slots : List (Option Kept))
    → KeepsOnly keeps_one schemas undo kept
    → 0 < pointer → pointer ≤ length slots → kept_behind slots pointer ≡ None → KeepsIf keeps_one schemas pointer undo (slotted slots)
    (slotted (filled_if pointer kept slots))
keeps true schemas pointer undo None slots h above there fresh = absurd h
keeps true schemas pointer undo (Some kept) slots h above there fresh = record {
  told = λ told. told;
  version = kept.version;
  kept = h.version;
  fresh = λ told. fresh;
  here = λ told. kept_filled slots pointer kept above there
      ∙ (λ i. Some (record { table = h.table i; key = h.key i; version = kept.version; bytes = h.bytes i }));
  elsewhere = λ other another told. kept_elsewhere slots pointer other kept above another;
}
keeps false schemas pointer undo kept slots h above there fresh = rw h (record { told = λ told. told; kept = λ told. refl })
