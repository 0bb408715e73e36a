-- What stands in one slot of the pool, before the page's place on the disk.
use Rattle.std.proofs.Common.{◌≡◌, ℕ, ◌+◌, ◌-◌, ◌<◌, ◌≤◌, Bool, true, false, cond, ◌⊎◌, inl, inr, List, Option, Some, None, refl, sym, ap, subst, ◌∙◌, arith}
use Rattle.std.specs.Prelude.{◌==◌, ◌&&◌, nat_lt, option_map}
use Rattle.std.specs.Option.{option_map_or}
use Rattle.std.proofs.lemmas.Bool.{eqb-true, eqb-false}
use Rattle.buffer_pool.specs.declared.frame.Content.{Content}
use Rattle.buffer_pool.specs.declared.frame.Content.TheVariants.{Empty, New, Clean, Dirty}
use Rattle.buffer_pool.specs.Frames.{FrameView, is_page, is_written, is_kept, is_idle, fixed, unfixed, marked, content_after}
use Rattle.mini_txn.specs.Edits.{blank}
use Rattle.mini_txn.specs.View.{body_of}
use Rattle.paged_txn.specs.View.{is_good, can_be_read, holds, stands, fixes_in, bytes_in, is_clean, is_clean_in, standing_by, fault_by, IsFrame}
use Rattle.paged_txn.specs.Ending.{let_go}

-- the same page is seen in both, and the same fault
pub record IsSame (readable : Bool) (place : List ℕ) (old new : Option FrameView) : Type 0 where
  pub standing : standing_by new readable place ≡ standing_by old readable place
  pub fault : fault_by new readable ≡ fault_by old readable

pub same_self : (readable : Bool) (place : List ℕ) (slot : Option FrameView) → IsSame readable place slot slot
same_self readable place slot = record { standing = refl; fault = refl }

pub same_is : (readable : Bool) (place : List ℕ) (old new : Option FrameView) → new ≡ old → IsSame readable place old new
same_is readable place old new is = record { standing = ap (λ s. standing_by s readable place) is; fault = ap (λ s. fault_by s readable) is }

-- neither stands
pub same_bare : (readable : Bool) (place : List ℕ) (old new : Option FrameView) → stands old ≡ false → stands new ≡ false → IsSame readable place old new
same_bare readable place old new a b = record {
  standing =
      ap (λ t. cond t (body_of (bytes_in new)) (cond readable (body_of place) blank)) b
      ∙ sym (ap (λ t. cond t (body_of (bytes_in old)) (cond readable (body_of place) blank)) a);
  fault = ap (λ t. cond t None (cond readable None (Some 0))) b ∙ sym (ap (λ t. cond t None (cond readable None (Some 0))) a);
}

-- both stand with the same bytes
pub same_both : (readable : Bool) (place : List ℕ) (old new : Option FrameView) → stands old ≡ true → stands new ≡ true
    → body_of (bytes_in new) ≡ body_of (bytes_in old) → IsSame readable place old new
same_both readable place old new a b same = record {
  standing =
      ap (λ t. cond t (body_of (bytes_in new)) (cond readable (body_of place) blank)) b ∙ same
      ∙ sym (ap (λ t. cond t (body_of (bytes_in old)) (cond readable (body_of place) blank)) a);
  fault = ap (λ t. cond t None (cond readable None (Some 0))) b ∙ sym (ap (λ t. cond t None (cond readable None (Some 0))) a);
}

-- one stands as the other can be read
pub same_read : (readable : Bool) (place : List ℕ) (old new : Option FrameView) → stands old ≡ true → stands new ≡ false → readable ≡ true
    → body_of (bytes_in old) ≡ body_of place → IsSame readable place old new × IsSame readable place new old
same_read readable place old new a b can same =
    let fresh : standing_by new readable place ≡ body_of place =
    ap (λ t. cond t (body_of (bytes_in new)) (cond readable (body_of place) blank)) b ∙ ap (λ t. cond t (body_of place) blank) can in
    let was : standing_by old readable place ≡ body_of place =
    ap (λ t. cond t (body_of (bytes_in old)) (cond readable (body_of place) blank)) a ∙ same in
    let fine : fault_by new readable ≡ None =
    ap (λ t. cond t None (cond readable None (Some 0))) b ∙ ap (λ t. cond t None (Some 0)) can in
    let fine_was : fault_by old readable ≡ None = ap (λ t. cond t None (cond readable None (Some 0))) a in (
      record { standing = fresh ∙ sym was; fault = fine ∙ sym fine_was },
      record { standing = was ∙ sym fresh; fault = fine_was ∙ sym fine },
    )

pub bare_stands : (slot : Option FrameView) → holds slot ≡ false → stands slot ≡ false
bare_stands None h = refl
bare_stands (Some frame) h = go frame.content h where
  go : (content : Content) → is_page content ≡ false → is_written content ≡ false
  go Empty k = refl
  go New k = refl
  go Clean k = cc
  go Dirty k = cc

pub stands_holds : (slot : Option FrameView) → stands slot ≡ true → holds slot ≡ true
stands_holds None h = cc
stands_holds (Some frame) h = go frame.content h where
  go : (content : Content) → is_written content ≡ true → is_page content ≡ true
  go Empty k = cc
  go New k = cc
  go Clean k = refl
  go Dirty k = refl

pub clean_stands : (slot : Option FrameView) → is_clean_in slot ≡ true → stands slot ≡ true
clean_stands None h = cc
clean_stands (Some frame) h = go frame.content h where
  go : (content : Content) → is_clean content ≡ true → is_written content ≡ true
  go Empty k = cc
  go New k = cc
  go Clean k = refl
  go Dirty k = cc

and_left : (a b : Bool) → (a && b) ≡ true → a ≡ true
and_left true b k = refl
and_left false b k = cc

and_right : (a b : Bool) → (a && b) ≡ true → b ≡ true
and_right true b k = k
and_right false b k = cc

and_none : (a : Bool) → (a && false) ≡ false
and_none true = refl
and_none false = refl

-- ---- frames

-- what is known of less is known
pub frame_less : (known now : Bool) (page : ℕ) (place later : List ℕ) (dealt : Bool) (slot : Option FrameView) → (now ≡ true → known ≡ true)
    → (now ≡ true → later ≡ place) → IsFrame known page place dealt slot → IsFrame now page later dealt slot
frame_less known now page place later dealt slot was same frame = record {
  fixes = frame.fixes;
  written = frame.written;
  kept = λ k clean.
      let old = frame.kept (was k) clean in
      (ap (is_good page) (same k) ∙ old.0, old.1 ∙ sym (ap body_of (same k)));
}

pub frame_is : (known : Bool) (page : ℕ) (place : List ℕ) (dealt now : Bool) (slot new : Option FrameView) → now ≡ dealt → new ≡ slot
    → IsFrame known page place dealt slot → IsFrame known page place now new
frame_is known page place dealt now slot new same is frame =
    subst (λ (d : Bool). IsFrame known page place d new) (sym same) (subst (IsFrame known page place dealt) (sym is) frame)

-- no page is in the slot
pub frame_bare : (known : Bool) (page : ℕ) (place : List ℕ) (dealt : Bool) (slot : Option FrameView) → holds slot ≡ false → fixes_in slot ≡ 0
    → IsFrame known page place dealt slot
frame_bare known page place dealt slot bare none = record {
  fixes = none ∙ sym (ap (λ b. cond (dealt && b) 1 0) bare ∙ ap (λ b. cond b 1 0) (and_none dealt));
  written = λ d h. let clash : false ≡ true = sym bare ∙ h in absurd cc;
  kept = λ k clean. let clash : false ≡ true = sym bare ∙ stands_holds slot (clean_stands slot clean) in absurd cc;
}

-- a page that nobody deals with is fixed
pub fixed_frame : (known : Bool) (page : ℕ) (place : List ℕ) (slot : Option FrameView) → IsFrame known page place false slot → holds slot ≡ true
    → IsFrame known page place true (option_map fixed slot)
fixed_frame known page place None frame h = absurd cc
fixed_frame known page place (Some f) frame h = record {
  fixes = ap (λ n. n + 1) frame.fixes ∙ sym (ap (λ b. cond b 1 0) h);
  written = λ d k. absurd cc;
  kept = frame.kept;
}

pub fixed_same : (readable : Bool) (place : List ℕ) (slot : Option FrameView) → IsSame readable place slot (option_map fixed slot)
fixed_same readable place None = record { standing = refl; fault = refl }
fixed_same readable place (Some f) = record { standing = refl; fault = refl }

-- ---- an idle frame

pub idle_unfixed : (slot : Option FrameView) → option_map_or is_idle slot false ≡ true → fixes_in slot ≡ 0
idle_unfixed None h = refl
idle_unfixed (Some f) h = eqb-true f.fixes 0 (and_left (f.fixes == 0) (is_kept f.content) h)

-- it is empty, or its page is clean
idle_is : (slot : Option FrameView) → option_map_or is_idle slot false ≡ true → (stands slot ≡ false) ⊎ (is_clean_in slot ≡ true)
idle_is None h = inl refl
idle_is (Some f) h = go f.content (and_right (f.fixes == 0) (is_kept f.content) h) where
  go : (content : Content) → is_kept content ≡ true → (is_written content ≡ false) ⊎ (is_clean content ≡ true)
  go Empty k = inl refl
  go New k = cc
  go Clean k = inr refl
  go Dirty k = cc

-- its page can be read as it was, once it is given up
pub given_same : (known : Bool) (page count : ℕ) (place : List ℕ) (dealt : Bool) (old new : Option FrameView) → known ≡ true
    → nat_lt page count ≡ true → IsFrame known page place dealt old → option_map_or is_idle old false ≡ true → holds new ≡ false
    → IsSame (can_be_read count page place) place old new
given_same known page count place dealt old new k within frame idle bare = elim (idle_is old idle) [
  | inl none ↦ same_bare (can_be_read count page place) place old new none (bare_stands new bare)
  | inr clean ↦
      let kept = frame.kept k clean in
      let can : can_be_read count page place ≡ true = ap (λ b. b && is_good page place) within ∙ kept.0 in
      (same_read (can_be_read count page place) place old new (clean_stands old clean) (bare_stands new bare) can kept.1).0
]

-- ---- a frame is let go

pub record IsLetGo (slot new : Option FrameView) : Type 0 where
  pub fixes : fixes_in new ≡ 0
  pub stands_is : stands new ≡ stands slot
  pub bytes : bytes_in new ≡ bytes_in slot
  pub clean : is_clean_in new ≡ is_clean_in slot
  pub holds_is : holds new ≡ true → stands new ≡ true

pub lets_go : (slot : Option FrameView) → fixes_in slot ≤ 1 → (holds slot ≡ true → 0 < fixes_in slot) → IsLetGo slot (option_map let_go slot)
lets_go None few held = record { fixes = refl; stands_is = refl; bytes = refl; clean = refl; holds_is = λ h. absurd cc }
lets_go (Some f) few held = go (f.fixes == 0) refl where
  none : (b : Bool) → (f.fixes == 0) ≡ b → b ≡ true → IsLetGo (Some f) (Some (cond b f (unfixed f)))
  none true is h =
      let zero_is : f.fixes ≡ 0 = eqb-true f.fixes 0 is in
      record { fixes = zero_is; stands_is = refl; bytes = refl; clean = refl; holds_is = λ there. absurd (omega (arith, held there, zero_is)) }
  none false is h = absurd cc

  one : f.fixes ≡ 1 → (content : Content)
      → IsLetGo (Some (marked content f.fixes f)) (Some (marked (content_after content f.fixes) (f.fixes - 1) f))
  one is Empty = record { fixes = omega (arith, is); stands_is = refl; bytes = refl; clean = refl; holds_is = λ h. absurd cc }
  one is Clean = record { fixes = omega (arith, is); stands_is = refl; bytes = refl; clean = refl; holds_is = λ h. refl }
  one is Dirty = record { fixes = omega (arith, is); stands_is = refl; bytes = refl; clean = refl; holds_is = λ h. refl }
  one is New = subst (λ (b : Bool). IsLetGo (Some (marked New f.fixes f)) (Some (marked (cond b Empty New) (f.fixes - 1) f)))
      (sym (ap (λ n. n == 1) is)) (record { fixes = omega (arith, is); stands_is = refl; bytes = refl; clean = refl; holds_is = λ h. absurd cc })

  go : (b : Bool) → (f.fixes == 0) ≡ b → IsLetGo (Some f) (Some (cond b f (unfixed f)))
  go true is = none true is refl
  go false is = one (omega (arith, few, eqb-false f.fixes 0 is)) f.content
