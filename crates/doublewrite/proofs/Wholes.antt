-- What stood whole in an area, from call to call, and pages that are good in their places for good.
use Rattle.std.proofs.Common.{◌≡◌, ◌⊎◌, inl, inr, ⊎_elim, ℕ, ◌+◌, ◌*◌, ◌<◌, ◌≤◌, max, List, [], ◌∷◌, ◌++◌, length, take, drop, sym, ◌∙◌, ap, subst, arith}
use Rattle.std.specs.Prelude.{All, Contains, fold}
use Rattle.std.proofs.lemmas.List.{ext_get_or}
use Rattle.std.proofs.lemmas.List.Elements.{All-nil, All-weaker, Contains-append_left, Contains-push_cases}
use Rattle.store_api.specs.Areas.{Write, Contents, MayLeave, Misses, IsHonestArea, Puts, WasWhole, piece, end_of}
use Rattle.store_api.proofs.Pieces.{same_part}
use Rattle.stored_pages.specs.Reading.{IsGoodPage, place_of}
use Rattle.doublewrite.specs.Kept.{IsSettled, Spares}
use Rattle.stored_pages.proofs.Newest.{inside}

-- ---- one write more

pub wrote_before : (c d : Contents) (w : Write) (at : ℕ) (bytes : List ℕ) → d.synced ≡ c.synced → d.writes ≡ c.writes ++ w ∷ [] → WasWhole c at bytes → WasWhole d at bytes
wrote_before c d w at bytes synced writes whole =
    ⊎_elim
    (λ (stood : take (length bytes) (drop at c.synced) ≡ bytes). inl (ap (λ (l : List ℕ). take (length bytes) (drop at l)) synced ∙ stood))
    (λ (put : (v : Write) × Contains c.writes v × Puts at bytes v). inr (put.0, subst (λ (l : List Write). Contains l put.0) (sym writes) (Contains-append_left c.writes (w ∷ []) put.0 put.1), put.2))
    whole

pub wrote_by : (c d : Contents) (w : Write) (at : ℕ) (bytes : List ℕ) → d.synced ≡ c.synced → d.writes ≡ c.writes ++ w ∷ [] → WasWhole d at bytes → WasWhole c at bytes ⊎ Puts at bytes w
wrote_by c d w at bytes synced writes whole =
    ⊎_elim
    (λ (stood : take (length bytes) (drop at d.synced) ≡ bytes). inl (inl (ap (λ (l : List ℕ). take (length bytes) (drop at l)) (sym synced) ∙ stood)))
    (λ (put : (v : Write) × Contains d.writes v × Puts at bytes v).
    ⊎_elim
    (λ (old : Contains c.writes put.0). inl (inr (put.0, old, put.2)))
    (λ (new : w ≡ put.0). inr (subst (Puts at bytes) (sym new) put.2))
    (Contains-push_cases c.writes w put.0 (subst (λ (l : List Write). Contains l put.0) writes put.1)))
    whole

-- only what is on the disk and what was written since matters
pub WasWhole-same : (c d : Contents) (at : ℕ) (bytes : List ℕ) → d.synced ≡ c.synced → d.writes ≡ c.writes → WasWhole c at bytes → WasWhole d at bytes
WasWhole-same c d at bytes synced writes whole =
    ⊎_elim
    (λ (stood : take (length bytes) (drop at c.synced) ≡ bytes). inl (ap (λ (l : List ℕ). take (length bytes) (drop at l)) synced ∙ stood))
    (λ (put : (v : Write) × Contains c.writes v × Puts at bytes v). inr (put.0, subst (λ (l : List Write). Contains l put.0) (sym writes) put.1, put.2))
    whole

-- where nothing was written since
pub stood : (c : Contents) (at : ℕ) (bytes : List ℕ) → c.writes ≡ [] → WasWhole c at bytes → take (length bytes) (drop at c.synced) ≡ bytes
stood c at bytes none whole =
    ⊎_elim
    (λ (is : take (length bytes) (drop at c.synced) ≡ bytes). is)
    (λ (put : (v : Write) × Contains c.writes v × Puts at bytes v). let there : Contains [] put.0 = subst (λ (l : List Write). Contains l put.0) none put.1 in absurd (omega (arith, there.1)))
    whole

-- a crash leaves what is there then
pub left_alone : (c : Contents) (image : List ℕ) → c.writes ≡ [] → MayLeave c image → image ≡ c.synced
left_alone c image none left =
    let all : All (Misses 0) c.writes = subst (All (Misses 0)) (sym none) (All-nil (Misses 0)) in
    let no_longer : length image ≤ length c.synced = subst (λ (l : List Write). length image ≤ fold (λ n w. max n (end_of w)) (length c.synced) l) none left.no_longer in
    ext_get_or 0 image c.synced (omega (arith, left.no_shorter, no_longer))
    (λ i below. left.same i (omega (arith, below, no_longer)) (subst (All (Misses i)) (sym none) (All-nil (Misses i))))

-- ---- pages

-- a good page of full size that stood at the last sync is what stands in its place
pub stood_page : (number : ℕ) (bytes area : List ℕ) → IsGoodPage number bytes → take (length bytes) (drop (4096 * number) area) ≡ bytes → place_of number area ≡ bytes
stood_page number bytes area good is = ap (λ (n : ℕ). take n (drop (4096 * number) area)) (sym good.size) ∙ is

-- a good place of an honest image was whole
pub honest_page : (k number : ℕ) (c : Contents) (image : List ℕ) → IsHonestArea 4096 c image → IsGoodPage number (piece 4096 k image) → WasWhole c (4096 * k) (piece 4096 k image)
honest_page k number c image honest good = honest k (omega (arith, inside k image good.size)) good.sum

misses_place : (number i : ℕ) (w : Write) → 4096 * number ≤ i → i < 4096 * number + 4096 → Spares number w → Misses i w
misses_place number i w from to spares =
    ⊎_elim
    (λ (before : end_of w ≤ 4096 * number). inr (omega (arith, before, from)))
    (λ (behind : 4096 * (number + 1) ≤ w.at). inl (omega (arith, behind, to)))
    spares

-- every crash leaves a settled page
pub settled_left : (number : ℕ) (c : Contents) (image : List ℕ) → IsSettled number c → MayLeave c image → place_of number image ≡ place_of number c.synced
settled_left number c image settled left =
    let within = inside number c.synced settled.good.size in
    same_part (4096 * number) 4096 image c.synced (omega (arith, within, left.no_shorter)) within
    (λ i from to. left.same i (omega (arith, to, within)) (All-weaker (Spares number) (Misses i) (λ (w : Write) spares. misses_place number i w from to spares) c.writes settled.spared))

pub settled_good : (number : ℕ) (c : Contents) (image : List ℕ) → IsSettled number c → MayLeave c image → IsGoodPage number (place_of number image)
settled_good number c image settled left = subst (IsGoodPage number) (sym (settled_left number c image settled left)) settled.good
