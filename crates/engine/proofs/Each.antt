-- What holds of each item of a list, up to an index.
use Rattle.std.proofs.Common.{◌≡◌, ℕ, ◌+◌, ◌<◌, ◌≤◌, List, [], ◌∷◌, ◌++◌, length, take, get_or, All, sym, ◌∙◌, ap, subst}
use Rattle.std.proofs.lemmas.List.{take_more, take_all}
use Rattle.std.proofs.lemmas.List.Elements.{All-push, All-get_or}

module _ {A : Type 0} (P : A → Type 0) (items : List A) (i : ℕ) where
  pub one_more : (x : A) → All P (take i items) → i < length items → x ≡ get_or items i x → P x → All P (take (i + 1) items)
  one_more x so_far below is here =
      subst (All P) (sym (take_more items i x below ∙ ap (λ (y : A). take i items ++ y ∷ []) (sym is))) (All-push P (take i items) x so_far here)

  pub all_of_them : All P (take i items) → length items ≤ i → All P items
  all_of_them so_far past = subst (All P) (take_all i items past) so_far

  pub item_of : (x : A) → i < length items → x ≡ get_or items i x → All P items → P x
  item_of x below is all = subst P (sym is) (All-get_or P items i x below all)
