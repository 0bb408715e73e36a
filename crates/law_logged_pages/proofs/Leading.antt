-- Stages of a page: they lead on, they stay, and a page whose LSN is flushed is one.
use Rattle.std.proofs.Common.{◌≡◌, inl, inr, ℕ, ◌+◌, ◌<◌, ◌≤◌, Bool, true, false, cond, Option, Some, None, List, [], ◌∷◌, ◌++◌, length, take, drop, refl, sym}
use Rattle.std.proofs.Common.{ap, subst, ◌∙◌, arith, take-append-drop}
use Rattle.std.specs.Prelude.{◌==◌, IsTrue}
use Rattle.std.proofs.lemmas.Bool.{cases_lt}
use Rattle.std.proofs.lemmas.List.{take-append-le}
use Rattle.std.proofs.lemmas.List.Concat.{flat_map-append}
use Rattle.stored_pages.specs.Words.{lsn_of}
use Rattle.log_format.specs.declared.group.Group.{Group}
use Rattle.log_format.specs.declared.group.Record.{Record}
use Rattle.log_format.specs.declared.group.Record.TheVariants.{Put, Fresh, RowPut, RowRemove, NewTable}
use Rattle.log_format.specs.Group.{AreGroups}
use Rattle.law_logged_pages.specs.Applied.{page_after, logical}
use Rattle.law_logged_pages.specs.Stages.{SameButSum, IsBase, begins_fresh, records_in, WasOnce, IsStage, or_zeros}
use Rattle.law_logged_pages.proofs.Edits.{same_itself, lsn-same}
use Rattle.law_logged_pages.proofs.Groups.{leads_on, not_past}

pub stage_leads_on : (base : ℕ → List ℕ) (first : ℕ) (groups : List Group) (j m page : ℕ) (content : Option (List ℕ)) → AreGroups first groups
    → IsBase first (base page) → j ≤ m
    → IsStage base groups j page content → SameButSum (page_after page (take m groups) (or_zeros content)) (logical base groups m page)
stage_leads_on base first groups j m page (Some bytes) are is upto stage =
    leads_on first groups are base page is stage.after m bytes (omega (arith, stage.upto, upto)) stage.same
stage_leads_on base first groups j m page None are is upto stage =
    subst (λ (l : List ℕ). SameButSum (page_after page (take m groups) l) (logical base groups m page)) stage.zeros (same_itself (logical base groups m page))

pub flushed_once : (base : ℕ → List ℕ) (first : ℕ) (groups : List Group) (count m page : ℕ) (bytes : List ℕ) → AreGroups first groups
    → IsBase first (base page) → count ≤ length groups
    → lsn_of bytes < first + count → SameButSum bytes (logical base groups m page) → WasOnce base groups count page bytes
flushed_once base first groups count m page bytes are is some below same = elim (cases_lt count m) [
  | inl past ↦
      let lsn : lsn_of bytes ≡ lsn_of (logical base groups m page) = lsn-same bytes (logical base groups m page) same.same in
      let stays = not_past first groups are base page is count m (omega (arith, past)) some (omega (arith, lsn, below)) in
      record { after = count; upto = omega arith; same = subst (SameButSum bytes) stays same }
  | inr upto ↦ record { after = m; upto = upto; same = same }
]

-- ---- fresh pages

fresh_front : (page : ℕ) (rs more : List Record) → IsTrue (begins_fresh page (rs ++ more)) → IsTrue (begins_fresh page rs)
fresh_front page [] more is = refl
fresh_front page (Put other at bytes ∷ rs) more is = go (other == page) is (fresh_front page rs more) where
  go : (b : Bool) → IsTrue (cond b false (begins_fresh page (rs ++ more))) → (IsTrue (begins_fresh page (rs ++ more)) → IsTrue (begins_fresh page rs))
      → IsTrue (cond b false (begins_fresh page rs))
  go true h rest = h
  go false h rest = rest h
fresh_front page (Fresh other ∷ rs) more is = go (other == page) is (fresh_front page rs more) where
  go : (b : Bool) → IsTrue (cond b true (begins_fresh page (rs ++ more))) → (IsTrue (begins_fresh page (rs ++ more)) → IsTrue (begins_fresh page rs))
      → IsTrue (cond b true (begins_fresh page rs))
  go true h rest = refl
  go false h rest = rest h
fresh_front page (RowPut table row ∷ rs) more is = fresh_front page rs more is
fresh_front page (RowRemove table key ∷ rs) more is = fresh_front page rs more is
fresh_front page (NewTable schema ∷ rs) more is = fresh_front page rs more is

-- so are the first groups
pub fresh_taken : (page m : ℕ) (groups : List Group) → IsTrue (begins_fresh page (records_in groups)) → IsTrue (begins_fresh page (records_in (take m groups)))
fresh_taken page m groups is =
    let whole : records_in groups ≡ records_in (take m groups) ++ records_in (drop m groups) =
    ap records_in (sym (take-append-drop m groups)) ∙ flat_map-append (λ (g : Group). g.records) (take m groups) (drop m groups) in
    fresh_front page (records_in (take m groups)) (records_in (drop m groups)) (subst (λ (l : List Record). IsTrue (begins_fresh page l)) whole is)

pub stage_stays : (base : ℕ → List ℕ) (groups more : List Group) (j m page : ℕ) (content : Option (List ℕ)) → j ≤ m → j ≤ length groups
    → (content ≡ None → IsTrue (begins_fresh page (records_in (groups ++ more)))) → IsStage base groups j page content
    → IsStage base (groups ++ more) m page content
stage_stays base groups more j m page (Some bytes) upto some fresh stage =
    let same : take stage.after (groups ++ more) ≡ take stage.after groups = take-append-le stage.after groups more (omega (arith, stage.upto, some)) in
    record {
      after = stage.after;
      upto = omega (arith, stage.upto, upto);
      same = subst (λ (l : List Group). SameButSum bytes (page_after page l (base page))) (sym same) stage.same;
    }
stage_stays base groups more j m page None upto some fresh stage = record { zeros = stage.zeros; fresh = fresh refl }
