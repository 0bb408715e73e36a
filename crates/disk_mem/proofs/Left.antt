-- What a crash leaves after a call more.
use Rattle.std.proofs.Common.{◌≡◌, ◌≢◌, inl, inr, ⊎_elim, ℕ, ◌+◌, ◌-◌, ◌/◌, ◌<◌, ◌≤◌, min, Bool, Some, None, List, [], ◌∷◌, ◌++◌, length, take, replicate, get_or, refl, sym, ◌∙◌, ap, subst, arith, append_assoc, append-nil, length-append, length-take}
use Rattle.std.specs.Prelude.{fold}
use Rattle.std.specs.Prelude.{Vec}
use Rattle.std.specs.declared.alloc.Global.{Global}
use Rattle.std.proofs.lemmas.Bool.{cases_lt}
use Rattle.std.proofs.lemmas.Bool.Decides.{nat_tests}
use Rattle.std.proofs.lemmas.List.{length-replicate, take_more}
use Rattle.std.proofs.lemmas.List.Sums.{fold_push}
use Rattle.store_api.specs.declared.disk.Area.{Area}
use Rattle.store_api.specs.declared.disk.Area.TheVariants.{Log, Double, Pages}
use Rattle.store_api.specs.Areas.{Write, Contents, State, Image, MayLeave, IsImage, Misses, contents_of, end_of, write_of, overwritten}
use Rattle.disk_mem.specs.declared.image.Pick.{Pick}
use Rattle.disk_mem.specs.declared.image.Pick.TheVariants.{Lost, Kept, Torn}
use Rattle.disk_mem.specs.Left.{left_after, left_by, image_by}
use Rattle.disk_mem.specs.declared.call.Call.{Call}
use Rattle.disk_mem.specs.declared.call.Call.TheVariants.{Look, Write as WriteCall, Sync}
use Rattle.disk_mem.specs.declared.areas.Areas.{Areas}
use Rattle.disk_mem.specs.Replay.{after_write, after_sync, after_call, area_after, resting, state_after, told_at, IsResting}
use Rattle.store_api.specs.Past.{Past}
use Rattle.disk_mem.specs.Seen.{all_before, all_last, furthest}
use Rattle.store_api.proofs.Overwritten.{length-overwritten, missed}

-- a write ends where its bytes end, wherever the area ended
end_is : (seen : List ℕ) (at : ℕ) (bytes : List ℕ) → end_of (write_of seen at bytes) ≡ at + length bytes
end_is seen at bytes = omega (arith, length-append (replicate (at - length seen) 0) bytes, length-replicate {A = ℕ} (at - length seen) 0)

-- ---- the bytes by a pick are allowed

-- the writes since the last sync are these
abbrev pub since : Contents → List Write → Contents
since c writes = record { seen = c.seen; synced = c.synced; writes = writes }

-- old bytes
old_left : (c : Contents) (writes : List Write) (w : Write) (image : List ℕ) → MayLeave (since c writes) image → MayLeave (since c (writes ++ w ∷ [])) image
old_left c writes w image left =
    record {
      no_shorter = left.no_shorter;
      no_longer = omega (arith, left.no_longer, furthest (since c writes) w);
      same = λ i inside all. left.same i inside (all_before (Misses i) writes w all);
    }

-- the first of the new bytes
part_left : (c : Contents) (writes : List Write) (w : Write) (part image : List ℕ) → length part ≤ length w.bytes → MayLeave (since c writes) image
    → MayLeave (since c (writes ++ w ∷ [])) (overwritten image (write_of image w.at part))
part_left c writes w part image short left =
    let v = write_of image w.at part in
    let within : v.at ≤ length image = omega arith in
    let long = length-overwritten image v within in
    record {
      no_shorter = omega (arith, left.no_shorter, long);
      no_longer = omega (arith, left.no_longer, long, furthest (since c writes) w, end_is image w.at part, short);
      same = λ i inside all.
          let in_image : i < length image = omega (arith, inside, left.no_shorter) in
          let misses : Misses i v = ⊎_elim
          (λ (before : i < w.at). inl (omega (arith, before, in_image)))
          (λ (behind : end_of w ≤ i). inr (omega (arith, behind, end_is image w.at part, short)))
          (all_last (Misses i) writes w all) in
          missed image v i within in_image misses ∙ left.same i inside (all_before (Misses i) writes w all);
    }

one_left : (pick : Pick) (c : Contents) (writes : List Write) (w : Write) (image : List ℕ) → MayLeave (since c writes) image → MayLeave (since c (writes ++ w ∷ [])) (left_after pick image w)
one_left Lost c writes w image left = old_left c writes w image left
one_left Kept c writes w image left = part_left c writes w w.bytes image (omega arith) left
one_left Torn c writes w image left =
    part_left c writes w (take (length w.bytes / 2) w.bytes) image (omega (arith, length-take (length w.bytes / 2) w.bytes)) left

all_left : (pick : Pick) (c : Contents) (writes more : List Write) (image : List ℕ) → MayLeave (since c writes) image → MayLeave (since c (writes ++ more)) (fold (left_after pick) image more)
all_left pick c writes [] image left = rw append-nil left
all_left pick c writes (w ∷ more) image left =
    let next = all_left pick c (writes ++ w ∷ []) more (left_after pick image w) (one_left pick c writes w image left) in
    subst (λ (l : List Write). MayLeave (since c l) (fold (left_after pick) (left_after pick image w) more)) (append_assoc writes (w ∷ []) more) next

none_left : (c : Contents) → MayLeave (since c []) c.synced
none_left c = record { no_shorter = omega arith; no_longer = omega arith; same = λ i inside all. refl }

left_by_may_be_left : (pick : Pick) (c : Contents) → MayLeave c (left_by pick c)
left_by_may_be_left pick c = all_left pick c [] c.writes c.synced (none_left c)

pub image_by_is_image : (pick : Pick) (s : State) → IsImage s (image_by pick s)
image_by_is_image pick s = record { log = left_by_may_be_left pick s.log; double = left_by_may_be_left pick s.double; pages = left_by_may_be_left pick s.pages }

-- ---- the bytes after a call more

pub left_by-write : (pick : Pick) (at : ℕ) (bytes : List ℕ) (done : Bool) (c : Contents) → left_by pick (after_write at bytes done c) ≡ left_after pick (left_by pick c) (write_of c.seen at bytes)
left_by-write pick at bytes done c = fold_push (left_after pick) c.synced c.writes (write_of c.seen at bytes)

pub area_write : (area : Area) (c : Contents) (at : ℕ) (bytes : _) (done : Bool) → area_after area c (WriteCall area at bytes done) ≡ after_write at bytes.items done c
area_write Log c at bytes done = refl
area_write Double c at bytes done = refl
area_write Pages c at bytes done = refl

pub area_sync : (area : Area) (c : Contents) (done : Bool) → area_after area c (Sync area done) ≡ after_sync done c
area_sync Log c done = refl
area_sync Double c done = refl
area_sync Pages c done = refl

pub area_other_write : (area other : Area) (c : Contents) (at : ℕ) (bytes : _) (done : Bool) → other ≢ area → area_after area c (WriteCall other at bytes done) ≡ c
area_other_write Log Log c at bytes done apart = absurd (apart refl)
area_other_write Double Double c at bytes done apart = absurd (apart refl)
area_other_write Pages Pages c at bytes done apart = absurd (apart refl)
area_other_write Log Double c at bytes done apart = refl
area_other_write Log Pages c at bytes done apart = refl
area_other_write Double Log c at bytes done apart = refl
area_other_write Double Pages c at bytes done apart = refl
area_other_write Pages Log c at bytes done apart = refl
area_other_write Pages Double c at bytes done apart = refl

area_other_sync : (area other : Area) (c : Contents) (done : Bool) → other ≢ area → area_after area c (Sync other done) ≡ c
area_other_sync Log Log c done apart = absurd (apart refl)
area_other_sync Double Double c done apart = absurd (apart refl)
area_other_sync Pages Pages c done apart = absurd (apart refl)
area_other_sync Log Double c done apart = refl
area_other_sync Log Pages c done apart = refl
area_other_sync Double Log c done apart = refl
area_other_sync Double Pages c done apart = refl
area_other_sync Pages Log c done apart = refl
area_other_sync Pages Double c done apart = refl

-- the write of a call in this area
pub left_by-call : (pick : Pick) (area other : Area) (c : Contents) (call : Call) (at : ℕ) (bytes : Vec ℕ Global) (done : Bool) → other ≡ area → call ≡ WriteCall other at bytes done
    → left_by pick (area_after area c call) ≡ left_after pick (left_by pick c) (write_of c.seen at bytes.items)
left_by-call pick area other c call at bytes done same is =
    let whole : area_after area c call ≡ after_write at bytes.items done c =
    ap (area_after area c) (is ∙ ap (λ (a : Area). WriteCall a at bytes done) same) ∙ area_write area c at bytes done in
    ap (left_by pick) whole ∙ left_by-write pick at bytes.items done c

-- each area goes on as the disk does
pub area_after_is : (area : Area) (s : State) (call : Call) → area_after area (contents_of area s) call ≡ contents_of area (after_call s call)
area_after_is area s Look = refl
area_after_is Log s (WriteCall Log at bytes done) = refl
area_after_is Log s (WriteCall Double at bytes done) = refl
area_after_is Log s (WriteCall Pages at bytes done) = refl
area_after_is Double s (WriteCall Log at bytes done) = refl
area_after_is Double s (WriteCall Double at bytes done) = refl
area_after_is Double s (WriteCall Pages at bytes done) = refl
area_after_is Pages s (WriteCall Log at bytes done) = refl
area_after_is Pages s (WriteCall Double at bytes done) = refl
area_after_is Pages s (WriteCall Pages at bytes done) = refl
area_after_is Log s (Sync Log done) = refl
area_after_is Log s (Sync Double done) = refl
area_after_is Log s (Sync Pages done) = refl
area_after_is Double s (Sync Log done) = refl
area_after_is Double s (Sync Double done) = refl
area_after_is Double s (Sync Pages done) = refl
area_after_is Pages s (Sync Log done) = refl
area_after_is Pages s (Sync Double done) = refl
area_after_is Pages s (Sync Pages done) = refl

-- what is known of an area after the first so many calls
pub record Passed (pick : Pick) (area : Area) (start : List ℕ) (calls : List Call) (i : ℕ) (seen image : List ℕ) : Type 0 where
  pub each : (first : Areas) → (contents_of area (resting first)).seen ≡ start
      → ((contents_of area (state_after first (take i calls))).seen ≡ seen) × (left_by pick (contents_of area (state_after first (take i calls))) ≡ image)

synced_at : (area : Area) (first : Areas) → (contents_of area (resting first)).synced ≡ (contents_of area (resting first)).seen
synced_at Log first = refl
synced_at Double first = refl
synced_at Pages first = refl

no_writes_at : (area : Area) (first : Areas) → (contents_of area (resting first)).writes ≡ []
no_writes_at Log first = refl
no_writes_at Double first = refl
no_writes_at Pages first = refl

rests_at : (pick : Pick) (area : Area) (first : Areas) → left_by pick (contents_of area (resting first)) ≡ (contents_of area (resting first)).seen
rests_at pick area first = ap (λ (l : List Write). fold (left_after pick) (contents_of area (resting first)).synced l) (no_writes_at area first) ∙ synced_at area first

pub none_passed : (pick : Pick) (area : Area) (start : List ℕ) (calls : List Call) → Passed pick area start calls 0 start start
none_passed pick area start calls = record { each = λ first is. (is, rests_at pick area first ∙ is) }

pub one_passed : (pick : Pick) (area : Area) (start : List ℕ) (calls : List Call) (i : ℕ) (call : Call) (seen image new_seen new_image : List ℕ) → Passed pick area start calls i seen image → i < length calls → call ≡ get_or calls i call
    → ((c : Contents) → c.seen ≡ seen → (area_after area c call).seen ≡ new_seen)
    → ((c : Contents) → c.seen ≡ seen → left_by pick c ≡ image → left_by pick (area_after area c call) ≡ new_image)
    → Passed pick area start calls (i + 1) new_seen new_image
one_passed pick area start calls i call seen image new_seen new_image so_far below item sees leaves = record {
  each = λ first is.
      let s = state_after first (take i calls) in
      let known = so_far.each first is in
      let next : state_after first (take (i + 1) calls) ≡ after_call s call =
      ap (state_after first) (take_more calls i call below ∙ ap (λ (x : Call). take i calls ++ x ∷ []) (sym item)) ∙ fold_push after_call (resting first) (take i calls) call in
      let there : area_after area (contents_of area s) call ≡ contents_of area (state_after first (take (i + 1) calls)) = area_after_is area s call ∙ ap (contents_of area) (sym next) in
      (ap (λ (c : Contents). c.seen) (sym there) ∙ sees (contents_of area s) known.0, ap (left_by pick) (sym there) ∙ leaves (contents_of area s) known.0 known.1);
}

-- the state that is told of a moment comes from the calls up to it
pub at_moment : (start : Areas) (calls : List Call) (m : ℕ) (s : State) (upto : List Call) → told_at start calls m ≡ Some s → upto ≡ take (min (length calls) m) calls → state_after start upto ≡ s
at_moment start calls m s upto told is = elim (cases_lt (length calls) m) [
  | inl past ↦ let none : told_at start calls m ≡ None = grind (arith, nat_tests) in absurd (cc)
  | inr within ↦
      let some : told_at start calls m ≡ Some (state_after start (take m calls)) = grind (arith, nat_tests) in
      let same : state_after start (take m calls) ≡ s = cc in
      let number : min (length calls) m ≡ m = omega arith in
      ap (state_after start) (is ∙ ap (λ (n : ℕ). take n calls) number) ∙ same
]

pub IsResting-same : (image other : Image) (past : Past) → image.log ≡ other.log → image.double ≡ other.double → image.pages ≡ other.pages → IsResting image past → IsResting other past
IsResting-same image other past log double pages resting = record { moment = resting.moment; state = rw (sym log, sym double, sym pages) resting.state }
