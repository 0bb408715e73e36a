use Rattle.std.proofs.Common.{ap, sym, subst, ◌∙◌, List, take, refl, IfSome, Option, ℕ}
use Rattle.std.specs.Prelude.{position, is_some}
use Rattle.std.specs.Vec.{with_item}
use Rattle.mtr.specs.Seen.{with_bytes}
use Rattle.mini_txn.specs.declared.dealt.Entry.{Entry}
use Rattle.mini_txn.specs.Dealt.{copy_of, HasCopy}
use Rattle.mini_txn.proofs.Entries.{copy_is, copy_is_none, write_copy, is_copy_of}
use Rattle.mini_txn.proofs.dealt.Dealt.write.Goals as goal

pub returns-in-Some : goal.returns-in-Some
returns-in-Some c =
    let i = c.self.inside in
    let found = sym (c.place_of_copy.ensures ∙ ap (λ (l : List Entry). position (is_copy_of c.args.page) (take i.count l)) c.deref.ensures.value)
    ∙ c.in-Some.is in
    let old = c.index_mut-entry.result.now in
    let entry : Entry = record { page = old.page; copied = old.copied; bytes = c.write_over.new.bytes } in
    let new : List Entry = take i.count (with_item i.entries c.in-Some.place entry).items in
    let copy = copy_is c.args.page i.entries.items i.count c.in-Some.place old found c.index_mut-entry.ensures.value in
    let has = write_copy c.args.page (with_bytes c.args.at c.args.bytes.now old.bytes) i.entries.items i.count c.in-Some.place old entry found
    c.index_mut-entry.ensures.value refl refl c.write_over.ensures in
    subst (λ (l : List Entry). IfSome (copy_of l c.args.page) (λ copy. HasCopy c.args.page (with_bytes c.args.at c.args.bytes.now copy) l new)) c.self.view_is
    (subst (λ (o : Option (List ℕ)). IfSome o (λ copy. HasCopy c.args.page (with_bytes c.args.at c.args.bytes.now copy)
    (take i.count i.entries.items) new)) (sym copy) has)

pub returns-in-None : goal.returns-in-None
returns-in-None c =
    let i = c.self.inside in
    let found = sym (c.place_of_copy.ensures ∙ ap (λ (l : List Entry). position (is_copy_of c.args.page) (take i.count l)) c.deref.ensures.value)
    ∙ c.in-None.is in
    let none = copy_is_none c.args.page (take i.count i.entries.items) found in
    let here = ap (λ (l : List Entry). copy_of l c.args.page) (sym c.self.view_is) ∙ none in
    let clash = sym c.requires.copied ∙ ap is_some here in
    absurd cc
