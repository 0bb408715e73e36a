-- What a crash leaves where nothing is pending.
use Rattle.std.proofs.Common.{◌≡◌, inl, ℕ, ◌+◌, ◌*◌, ◌≤◌, max, List, [], length, take, drop, sym, ◌∙◌, ap, subst, arith}
use Rattle.std.specs.Prelude.{fold, All}
use Rattle.std.proofs.lemmas.List.{take_all}
use Rattle.std.proofs.lemmas.List.Elements.{All-nil}
use Rattle.store_api.specs.Areas.{Contents, State, Image, Write, MayLeave, IsImage, IsHonest, IsHonestArea, end_of}
use Rattle.store_api.proofs.Images.{left_before}
use Rattle.store_api.proofs.Pieces.{length-piece}
use Rattle.law_crashes.specs.Header.{SaysRun}
use Rattle.law_crashes.specs.Files.{IsAtRest}
use Rattle.law_crashes.specs.Since.{HasHeader}

pub left_at_rest : (c : Contents) (image : List ℕ) → c.writes ≡ [] → MayLeave c image → image ≡ c.synced
left_at_rest c image rests left =
    let short : length image ≤ length c.synced =
    subst (λ (ws : List Write). length image ≤ fold (λ n w. max n (end_of w)) (length c.synced) ws) rests left.no_longer in
    let front =
    left_before c image left (length c.synced) (omega arith)
    (subst (All (λ w. length c.synced ≤ w.at)) (sym rests) (All-nil (λ w. length c.synced ≤ w.at))) in
    sym (take_all (length c.synced) image short) ∙ front ∙ take_all (length c.synced) c.synced (omega arith)

honest_area : (size : ℕ) (c : Contents) (image : List ℕ) → image ≡ c.synced → IsHonestArea size c image
honest_area size c image same = λ k inside passes.
    inl (ap (λ (n : ℕ). take n (drop (size * k) c.synced)) (length-piece size k image inside) ∙ ap (λ (l : List ℕ). take size (drop (size * k) l)) (sym same))

-- what is on the disk was written whole
pub honest_at_rest : (s : State) (image : Image) → IsAtRest s → IsImage s image → IsHonest s image
honest_at_rest s image rests left = record {
  log = honest_area 512 s.log image.log (left_at_rest s.log image.log rests.log left.log);
  double = honest_area 4096 s.double image.double (left_at_rest s.double image.double rests.double left.double);
  pages = honest_area 4096 s.pages image.pages (left_at_rest s.pages image.pages rests.pages left.pages);
}

-- page 0 as any crash leaves it
pub header_left : (run first : ℕ) (double pages : Contents) (s : State) (image : Image) → HasHeader run first double pages → s.double ≡ double
    → s.pages ≡ pages → IsImage s image
    → SaysRun run first image.pages image.double
header_left run first double pages s image header double_is pages_is left =
    let same_pages : image.pages ≡ pages.synced =
    left_at_rest pages image.pages header.pages_rest (subst (λ (c : Contents). MayLeave c image.pages) pages_is left.pages) in
    let same_double : image.double ≡ double.synced =
    left_at_rest double image.double header.double_rests (subst (λ (c : Contents). MayLeave c image.double) double_is left.double) in
    subst (λ (l : List ℕ). SaysRun run first l image.double) (sym same_pages) (subst (SaysRun run first pages.synced) (sym same_double) header.says)
