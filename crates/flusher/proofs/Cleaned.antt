-- Pages that are clean once they are placed.
use Rattle.std.proofs.Common.{◌≡◌, ◌≢◌, ⊎_elim, ℕ, suc, ◌<◌, ◌≤◌, Bool, true, false, List, [], length, Option, Some, None, refl, sym, ◌∙◌, ap, subst, arith}
use Rattle.std.specs.Prelude.{not, ◌&&◌, ◌||◌, ◌==◌, if◌then◌else◌, option_map, slice_set, slice_index_or}
use Rattle.std.specs.Option.{option_map_or}
use Rattle.std.proofs.lemmas.Bool.{cases_lt, eq-eqb}
use Rattle.std.proofs.lemmas.Bool.Decides.{eqb_tells}
use Rattle.std.proofs.lemmas.List.{length-set, get_or-set_same, get_or-set_other, get_or_past}
use Rattle.stored_pages.specs.Words.{number_of, lsn_of}
use Rattle.buffer_pool.specs.declared.frame.Content.{Content}
use Rattle.buffer_pool.specs.declared.frame.Content.TheVariants.{Empty, New, Clean, Dirty}
use Rattle.buffer_pool.specs.Frames.{FrameView, PoolView, slot_of, is_pooled, is_dirty, is_standing, is_page}
use Rattle.buffer_pool.specs.Frames.{is_changed, is_written, holds_page, bytes_of, fixes_of, at_slot, placed, marked}
use Rattle.doublewrite.specs.Batches.{BatchView, StagedView, page_at, number_at}
use Rattle.flusher.specs.Cleaning.{is_among, cleaned, CleansBy, Cleans, CleansOne, HasSamePages, Settles, waits}

-- ---- a frame

abbrev content_if : Content → Bool → Content
content_if content test = if is_changed content && test then Clean else content

content_twice : (content : Content) (a b : Bool) → content_if (content_if content a) b ≡ content_if content (b || a)
content_twice Empty a b = refl
content_twice New a b = refl
content_twice Clean a b = refl
content_twice Dirty true true = refl
content_twice Dirty true false = refl
content_twice Dirty false true = refl
content_twice Dirty false false = refl

page_still : (content : Content) (test : Bool) → is_page (content_if content test) ≡ is_page content
page_still Empty test = refl
page_still New test = refl
page_still Clean test = refl
page_still Dirty true = refl
page_still Dirty false = refl

written_still : (content : Content) (test : Bool) → is_written (content_if content test) ≡ is_written content
written_still Empty test = refl
written_still New test = refl
written_still Clean test = refl
written_still Dirty true = refl
written_still Dirty false = refl

changed_left : (content : Content) (test : Bool) → is_changed (content_if content test) ≡ (is_changed content && not test)
changed_left Empty test = refl
changed_left New test = refl
changed_left Clean test = refl
changed_left Dirty true = refl
changed_left Dirty false = refl

-- ---- a slot

slot_twice : (a b : ℕ → Bool) (slot : Option FrameView)
    → option_map (cleaned b) (option_map (cleaned a) slot) ≡ option_map (cleaned (λ lsn. b lsn || a lsn)) slot
slot_twice a b None = refl
slot_twice a b (Some frame) =
    ap (λ (content : Content). Some (marked content frame.fixes frame)) (content_twice frame.content (a (lsn_of frame.bytes)) (b (lsn_of frame.bytes)))

-- ---- a pool

pub cleans_more : (batch : BatchView) (k : ℕ) (a b c : PoolView) → Cleans batch k a b → CleansOne (page_at batch k) b c
    → Cleans batch (suc k) a c
cleans_more batch k a b c first next = record {
  order = next.order ∙ first.order;
  slots = next.slots ∙ first.slots;
  frames = λ page.
      let one : ℕ → Bool = λ lsn. number_at batch k == page && lsn == lsn_of (page_at batch k) in
      next.frames page ∙ (ap (option_map (cleaned one)) (first.frames page) ∙ slot_twice (is_among batch k page) one (slot_of a page));
}

-- ---- what stays

abbrev bytes_in : Option FrameView → List ℕ
bytes_in slot = option_map_or (λ (frame : FrameView). frame.bytes) slot []

slot_bytes : (test : ℕ → Bool) (slot : Option FrameView) → bytes_in (option_map (cleaned test) slot) ≡ bytes_in slot
slot_bytes test None = refl
slot_bytes test (Some frame) = refl

slot_fixes : (test : ℕ → Bool) (slot : Option FrameView)
    → option_map_or (λ (frame : FrameView). frame.fixes) (option_map (cleaned test) slot) 0 ≡ option_map_or (λ (frame : FrameView). frame.fixes) slot 0
slot_fixes test None = refl
slot_fixes test (Some frame) = refl

slot_pooled : (test : ℕ → Bool) (slot : Option FrameView)
    → option_map_or holds_page (option_map (cleaned test) slot) false ≡ option_map_or holds_page slot false
slot_pooled test None = refl
slot_pooled test (Some frame) = page_still frame.content (test (lsn_of frame.bytes))

slot_standing : (test : ℕ → Bool) (slot : Option FrameView)
    → option_map_or (λ (frame : FrameView). is_written frame.content) (option_map (cleaned test) slot) false ≡ option_map_or
    (λ (frame : FrameView). is_written frame.content) slot false
slot_standing test None = refl
slot_standing test (Some frame) = written_still frame.content (test (lsn_of frame.bytes))

-- which changed pages are changed still
slot_changed : (test : ℕ → Bool) (slot : Option FrameView)
    → option_map_or (λ (frame : FrameView). is_changed frame.content) (option_map (cleaned test) slot) false
    ≡ (option_map_or (λ (frame : FrameView). is_changed frame.content) slot false && not (test (lsn_of (bytes_in slot))))
slot_changed test None = refl
slot_changed test (Some frame) = changed_left frame.content (test (lsn_of frame.bytes))

same_none : (old new : PoolView) → new ≡ old → HasSamePages old new
same_none old new is = record {
  order = ap (λ (p : PoolView). p.order) is;
  slots = ap (λ (p : PoolView). length p.slots) is;
  pooled = λ page. ap (λ (p : PoolView). is_pooled p page) is;
  standing = λ page. ap (λ (p : PoolView). is_standing p page) is;
  bytes = λ page. ap (λ (p : PoolView). bytes_of p page) is;
  fixes = λ page. ap (λ (p : PoolView). fixes_of p page) is;
}

same_by : (test : ℕ → ℕ → Bool) (old new : PoolView) → CleansBy test old new → HasSamePages old new
same_by test old new cleans = record {
  order = cleans.order;
  slots = cleans.slots;
  pooled = λ page. ap (λ (slot : Option FrameView). option_map_or holds_page slot false) (cleans.frames page) ∙ slot_pooled (test page) (slot_of old page);
  standing = λ page. ap (λ (slot : Option FrameView). option_map_or (λ (frame : FrameView). is_written frame.content) slot false)
      (cleans.frames page) ∙ slot_standing (test page) (slot_of old page);
  bytes = λ page. ap bytes_in (cleans.frames page) ∙ slot_bytes (test page) (slot_of old page);
  fixes = λ page. ap (λ (slot : Option FrameView). option_map_or (λ (frame : FrameView). frame.fixes) slot 0) (cleans.frames page)
      ∙ slot_fixes (test page) (slot_of old page);
}

pub settled_same : (batch : Option BatchView) (old new : PoolView) → Settles batch old new → HasSamePages old new
settled_same None old new settles = same_none old new settles
settled_same (Some batch) old new settles = same_by (is_among batch batch.count) old new settles

-- a page is changed once a batch is in its place exactly where it waited
pub waits_as_before : (staged : StagedView) (old new : PoolView) (page : ℕ) → Cleans staged.batch staged.batch.count old new
    → is_dirty new page ≡ waits (Some staged) old page
waits_as_before staged old new page cleans =
    ap (λ (slot : Option FrameView). option_map_or (λ (frame : FrameView). is_changed frame.content) slot false) (cleans.frames page)
    ∙ slot_changed (is_among staged.batch staged.batch.count page) (slot_of old page)
