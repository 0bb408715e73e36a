-- Pages that become what something makes of them, one record after the other.
use Rattle.std.proofs.Common.{◌≡◌, ℕ, ◌+◌, ◌^◌, ◌<◌, Option, List, [], ◌∷◌, ◌++◌, length, take, get_or, sym, ap, subst, ◌∙◌, arith}
use Rattle.std.specs.Prelude.{All}
use Rattle.std.proofs.lemmas.List.{take_more}
use Rattle.std.proofs.lemmas.List.Elements.{All-weaker, All-take}
use Rattle.log_format.specs.declared.group.Group.{Group}
use Rattle.log_format.specs.declared.group.Record.{Record}
use Rattle.log_format.specs.Group.{IsRecord, IsGroup}
use Rattle.law_logged_pages.specs.Applied.{with_group, page_after}
use Rattle.law_logged_pages.proofs.Groups.{after-append}
use Rattle.law_logged_pages.proofs.Edits.{length-group}
use Rattle.page_recovery.specs.Pages.{page_of, ArePages, BecomeBy}
use Rattle.page_recovery.specs.Applying.{MayApply, edited_below, edited_so_far, stamped_below, stamped_so_far}
use Rattle.page_recovery.proofs.Applied.{edited_next, stamped_next, length-so-far, group_applied}

abbrev Slots : Type 0
Slots = List (Option (List ℕ))

-- ---- all records of a group

pub edits_next : (lsn : ℕ) (rs next : List Record) (r : Record) (old mid new : Slots) → ArePages old → All IsRecord rs → next ≡ rs ++ r ∷ []
    → BecomeBy (edited_so_far lsn rs) old mid → BecomeBy (edited_below lsn r) mid new → BecomeBy (edited_so_far lsn next) old new
edits_next lsn rs next r old mid new are all is so_far one =
    subst (λ (l : List Record). BecomeBy (edited_so_far lsn l) old new) (sym is)
    (record {
      count = one.count ∙ so_far.count;
      pages = λ page. one.pages page ∙ ap (edited_below lsn r page) (so_far.pages page) ∙ edited_next lsn page rs r (page_of old page) all (are.whole page);
    })

pub stamps_next : (lsn : ℕ) (rs next : List Record) (r : Record) (old mid new : Slots) → ArePages old → lsn < 2 ^ 64 → next ≡ rs ++ r ∷ []
    → BecomeBy (stamped_so_far lsn rs) old mid → BecomeBy (stamped_below lsn r) mid new → BecomeBy (stamped_so_far lsn next) old new
stamps_next lsn rs next r old mid new are fits is so_far one =
    subst (λ (l : List Record). BecomeBy (stamped_so_far lsn l) old new) (sym is)
    (record {
      count = one.count ∙ so_far.count;
      pages = λ page. one.pages page ∙ ap (stamped_below lsn r page) (so_far.pages page) ∙ stamped_next lsn page rs r (page_of old page) fits (are.whole page);
    })

pub edited_pages : (lsn : ℕ) (rs : List Record) (old new : Slots) → ArePages old → All IsRecord rs → BecomeBy (edited_so_far lsn rs) old new → ArePages new
edited_pages lsn rs old new are all became = record {
  whole = λ page. ap (λ (l : List ℕ). length l) (became.pages page) ∙ length-so-far lsn page rs (page_of old page) all (are.whole page);
  few = omega (arith, became.count, are.few);
}

-- ---- a group, and groups

pub group_becomes : (g : Group) (old mid new : Slots) → ArePages old → IsGroup g → BecomeBy (edited_so_far g.lsn g.records) old mid
    → BecomeBy (stamped_so_far g.lsn g.records) mid new → BecomeBy (λ page bytes. with_group page g bytes) old new
group_becomes g old mid new are is edits stamps = record {
  count = stamps.count ∙ edits.count;
  pages = λ page.
      stamps.pages page ∙ ap (stamped_so_far g.lsn g.records page) (edits.pages page) ∙ group_applied page g (page_of old page) is (are.whole page);
}

pub groups_next : (gs next : List Group) (g : Group) (old mid new : Slots) → next ≡ gs ++ g ∷ [] → BecomeBy (λ page bytes. page_after page gs bytes) old mid
    → BecomeBy (λ page bytes. with_group page g bytes) mid new → BecomeBy (λ page bytes. page_after page next bytes) old new
groups_next gs next g old mid new is so_far one =
    subst (λ (l : List Group). BecomeBy (λ page bytes. page_after page l bytes) old new) (sym is)
    (record {
      count = one.count ∙ so_far.count;
      pages = λ page.
          one.pages page ∙ ap (with_group page g) (so_far.pages page) ∙ sym (after-append page gs (g ∷ []) (page_of old page));
    })

-- the first so many, and one more
pub one_more : {A : Type 0} (items : List A) (i : ℕ) (x : A) → i < length items → x ≡ get_or items i x → take (i + 1) items ≡ take i items ++ x ∷ []
one_more items i x below is = take_more items i x below ∙ ap (λ y. take i items ++ y ∷ []) (sym is)

pub records_of : (count i : ℕ) (rs : List Record) → All (MayApply count) rs → All IsRecord (take i rs)
records_of count i rs may = All-take IsRecord i rs (All-weaker (MayApply count) IsRecord (λ r is. is.0) rs may)

pub grouped_pages : (g : Group) (old new : Slots) → ArePages old → IsGroup g → BecomeBy (λ page bytes. with_group page g bytes) old new → ArePages new
grouped_pages g old new are is became = record {
  whole = λ page. ap (λ (l : List ℕ). length l) (became.pages page) ∙ length-group page g (page_of old page) is (are.whole page);
  few = omega (arith, became.count, are.few);
}
