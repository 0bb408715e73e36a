-- A page whose LSN is below the run's first was changed by none of its groups.
use Rattle.std.proofs.Common.{◌≡◌, inl, inr, ℕ, ◌+◌, ◌<◌, Bool, true, false, cond, Option, Some, None, List, [], ◌∷◌, length, refl, ap, ◌∙◌, arith}
use Rattle.std.specs.Prelude.{◌&&◌, nat_lt}
use Rattle.store_api.specs.Areas.{State}
use Rattle.stored_pages.specs.Words.{lsn_of}
use Rattle.log_format.specs.declared.group.Group.{Group}
use Rattle.log_format.specs.Group.{AreGroups}
use Rattle.doublewrite.specs.Repairing.{WasRead}
use Rattle.mini_txn.specs.Edits.{edited}
use Rattle.mini_txn.specs.View.{stamped}
use Rattle.law_logged_pages.specs.Applied.{names, with_group, page_after}
use Rattle.law_logged_pages.specs.Stages.{or_zeros}
use Rattle.law_logged_pages.proofs.Edits.{length-group, length-blank}
use Rattle.law_logged_pages.proofs.Groups.{lsn_reached, lsns_rise}
use Rattle.page_recovery.specs.declared.recovering.Recovered.{Recovered}
use Rattle.page_recovery.specs.Pages.{page_of}
use Rattle.page_recovery.specs.Recovering.{IsRecovered}

not_named : (page : ℕ) (g : Group) (a : List ℕ) → names page g ≡ false → with_group page g a ≡ a
unfolding with_group
not_named page g a none = ap (λ (b : Bool). cond (b && nat_lt (lsn_of a) g.lsn) (stamped page g.lsn (edited page g.records a)) a) none

pub untouched : (page first : ℕ) (gs : List Group) (a : List ℕ) → AreGroups first gs → length a ≡ 4096 → lsn_of (page_after page gs a) < first
    → page_after page gs a ≡ a
untouched page first [] a are size below = refl
untouched page first (g ∷ gs) a are size below =
    go (names page g) refl (untouched page (first + 1) gs (with_group page g a) are.2 long (omega (arith, below))) where
      long : length (with_group page g a) ≡ 4096
      long = length-group page g a are.1 size

      go : (b : Bool) → names page g ≡ b → page_after page gs (with_group page g a) ≡ with_group page g a
          → page_after page gs (with_group page g a) ≡ a
      go true named rest =
          let here = lsn_reached page g a are.1 size named in
          let later = lsns_rise page (first + 1) gs (with_group page g a) are.2 long in
          absurd (omega (arith, here, later, below, are.0))
      go false none rest = rest ∙ not_named page g a none

length-read : (before : State) (page : ℕ) (content : Option (List ℕ)) → WasRead before page content → length (or_zeros content) ≡ 4096
length-read before page None was = length-blank
length-read before page (Some bytes) (inl there) = there.1.size
length-read before page (Some bytes) (inr copied) = copied.1.copy.good.size

pub as_it_was : (before : State) (r : Recovered) (page : ℕ) → IsRecovered (WasRead before) before.log.seen r → page < length r.pages
    → lsn_of (page_of r.pages page) < r.first → (content : Option (List ℕ)) × WasRead before page content × (page_of r.pages page ≡ or_zeros content)
as_it_was before r page rec within below =
    let one = rec.pages page within in
    let lsn = ap (λ (l : List ℕ). lsn_of l) one.2 in (
      one.0,
      one.1,
      one.2 ∙ untouched page r.first rec.groups (or_zeros one.0) rec.scan.held.each (length-read before page one.0 one.1) (omega (arith, below, lsn)),
    )
