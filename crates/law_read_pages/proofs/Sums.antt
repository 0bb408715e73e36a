-- What pages alone read as has nothing to do with their sums.
-- A commit and a flush write sums; so pages in memory and on a disk read as one. `Going` and the laws of `undo` ask it.
use Rattle.std.proofs.Common.{◌≡◌, ℕ, ◌<◌, Bool, false, true, cond, List, ◌++◌, drop, sym, inl, inr, ap, subst, ◌∙◌, arith, drop-drop}
use Rattle.std.specs.Prelude.{nat_lt, replicate}
use Rattle.std.proofs.lemmas.Bool.{cases_lt}
use Rattle.std.proofs.lemmas.Bool.Decides.{nat_tests}
use Rattle.mini_txn.specs.View.{body_of}
use Rattle.mini_txn.specs.Edits.{blank}
use Rattle.law_logged_pages.specs.Stages.{SameButSum}
use Rattle.law_logged_pages.specs.Readings.{IgnoresSums}
use Rattle.law_read_pages.specs.Undo.{bare_pages, IsShadow, open_on, ReadAsDb}
use Rattle.law_read_pages.specs.Pages.{StandForDb}

same_body : (a b : List ℕ) → SameButSum a b → body_of a ≡ body_of b
unfolding body_of
same_body a b same =
    let rest : drop 20 a ≡ drop 20 b = sym (drop-drop 12 8 a) ∙ ap (drop 12) same.same ∙ drop-drop 12 8 b in
    ap (λ (l : List ℕ). replicate 20 0 ++ l) rest

same_bare : (a b : ℕ → List ℕ) → ((page : ℕ) → page < 65536 → SameButSum (a page) (b page)) → (page : ℕ) → bare_pages a page ≡ bare_pages b page
same_bare a b same page = elim (cases_lt page 65536) [
  | inl below ↦ (let test : nat_lt page 65536 ≡ true = grind (arith, nat_tests) in
      ap (λ (t : Bool). cond t (body_of (a page)) blank) test ∙ same_body (a page) (b page) (same page below)
      ∙ sym (ap (λ (t : Bool). cond t (body_of (b page)) blank) test))
  | inr past ↦ (let test : nat_lt page 65536 ≡ false = grind (arith, nat_tests) in
      ap (λ (t : Bool). cond t (body_of (a page)) blank) test ∙ sym (ap (λ (t : Bool). cond t (body_of (b page)) blank) test))
]

pub ignores : IgnoresSums ReadAsDb
ignores = record {
  same = λ a b alike db is.
      let bare : bare_pages b ≡ bare_pages a = λ i page. sym (same_bare a b alike page) i in
      record {
        kept = is.kept;
        shadow = subst (λ (p : ℕ → List ℕ). IsShadow p is.kept) bare is.shadow;
        stands = subst (λ (p : ℕ → List ℕ). StandForDb p is.kept (open_on p) db) bare is.stands;
      };
}
