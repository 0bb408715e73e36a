use Rattle.std.proofs.Common.{◌≡◌, true, ap, sym, refl, subst, ◌∙◌, List, take}
use Rattle.std.specs.Prelude.{position}
use Rattle.std.specs.Vec.{with_item}
use Rattle.mtr.specs.Seen.{is_in}
use Rattle.mini_txn.specs.declared.dealt.Entry.{Entry}
use Rattle.mini_txn.specs.Dealt.{pages_of, HasCopy}
use Rattle.mini_txn.proofs.Entries.{set_copy, none_of, is_of}
use Rattle.mini_txn.proofs.dealt.Dealt.set.Goals as goal

pub returns-in-Some : goal.returns-in-Some
returns-in-Some c =
    let i = c.self.inside in
    let found = sym (c.place_of.ensures ∙ ap (λ (l : List Entry). position (is_of c.args.page) (take i.count l)) c.deref.ensures.value) ∙ c.in-Some.is in
    let old = c.index_mut-entry.result.now in
    let entry : Entry = record { page = old.page; copied = true; bytes = c.copy_from_slice.new.self } in
    subst (λ (l : List Entry). HasCopy c.args.page c.args.bytes.now l (take i.count (with_item i.entries c.in-Some.place entry).items)) c.self.view_is
    (set_copy c.args.page c.args.bytes.now i.entries.items i.count c.in-Some.place old entry found c.index_mut-entry.ensures.value refl refl
    c.copy_from_slice.ensures.after)

pub returns-in-None : goal.returns-in-None
returns-in-None c =
    let i = c.self.inside in
    let found = sym (c.place_of.ensures ∙ ap (λ (l : List Entry). position (is_of c.args.page) (take i.count l)) c.deref.ensures.value) ∙ c.in-None.is in
    absurd (none_of c.args.page (take i.count i.entries.items) found
    (subst (λ (l : List Entry). is_in c.args.page (pages_of l) ≡ true) (sym c.self.view_is) c.requires.dealt_with))
