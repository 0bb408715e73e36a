-- What the calls of a disk make of what reads of Pages give.
use Rattle.std.proofs.Common.{◌≡◌, ◌≢◌, ⊎_elim, inl, inr, ℕ, ◌*◌, ◌<◌, ◌≤◌, Bool, true, List, length, refl, ◌∙◌, ap, arith}
use Rattle.std.proofs.lemmas.Bool.{cases_lt}
use Rattle.store_api.specs.declared.disk.Area.TheVariants.{Double, Pages}
use Rattle.store_api.specs.Areas.{Contents, State, Within, Wrote, Synced, overwritten, write_of}
use Rattle.store_api.specs.Past.{Past, Goes}
use Rattle.doublewrite.specs.Batches.{BatchView, IsBatch, page_at, number_at}
use Rattle.doublewrite.specs.Kept.{filled}
use Rattle.doublewrite.specs.Places.{Leads, LeavesPages, PutsPage}
use Rattle.doublewrite.proofs.Batched.{good_at}
use Rattle.doublewrite.proofs.Bytes.{filled_same, filled_whole, untouched, written_there}
use Rattle.stored_pages.proofs.Newest.{inside}

-- ---- calls

pub leads_by : (step call : State → State → Type 0) (old new : Past) → Goes call old new → ((b s : State) → call b s → step b s) → Leads step old new
leads_by step call old new goes gives = record {
  later = goes.later;
  now = λ s ticks is.
      let before = goes.now s (omega (arith, goes.later, ticks)) is in
      (before.0, before.1, gives before.0 s before.2);
}

-- one call more
pub leads_on : (first call step : State → State → Type 0) (old mid new : Past) → Leads first old mid → Goes call mid new
    → ((a b s : State) → first a b → call b s → step a s) → Leads step old new
leads_on first call step old mid new leads goes gives = record {
  later = omega (arith, leads.later, goes.later);
  now = λ s ticks is.
      let between = goes.now s (omega (arith, goes.later, ticks)) is in
      let before = leads.now between.0 (omega (arith, goes.later, ticks)) between.1 in
      (before.0, before.1, gives before.0 between.0 s before.2 between.2);
}

-- ---- the copies

pub copy_leads : (bytes : List ℕ) (ok : Bool) (old new : Past) → Goes (Within Double (Wrote 0 bytes ok)) old new → Leads LeavesPages old new
copy_leads bytes ok old new goes = leads_by LeavesPages (Within Double (Wrote 0 bytes ok)) old new goes (λ b s within. within.elsewhere Pages (λ same. cc))

pub copied_leads : (bytes : List ℕ) (ok : Bool) (old mid new : Past) → Goes (Within Double (Wrote 0 bytes true)) old mid → Goes (Within Double (Synced ok)) mid new
    → Leads LeavesPages old new
copied_leads bytes ok old mid new write sync =
    leads_on LeavesPages (Within Double (Synced ok)) LeavesPages old mid new (copy_leads bytes true old mid write) sync
    (λ a b s same within. within.elsewhere Pages (λ same. cc) ∙ same)

-- ---- a page in place

module _ (number : ℕ) (bytes : List ℕ) (size : length bytes ≡ 4096) where
  filled_here : (seen : List ℕ) → filled number (overwritten seen (write_of seen (4096 * number) bytes)) ≡ bytes
  filled_here seen =
      let there = written_there number seen bytes size in
      filled_whole number (overwritten seen (write_of seen (4096 * number) bytes))
      (inside number (overwritten seen (write_of seen (4096 * number) bytes)) (ap length there ∙ size)) ∙ there

  filled_elsewhere : (seen : List ℕ) (other : ℕ) → other ≢ number
      → filled other (overwritten seen (write_of seen (4096 * number) bytes)) ≡ filled other seen
  filled_elsewhere seen other apart = filled_same other (overwritten seen (write_of seen (4096 * number) bytes)) seen (λ i from to.
      untouched seen (4096 * number) bytes i (⊎_elim
      (λ (before : other < number). inl (omega (arith, to, before)))
      (λ (le : number ≤ other). ⊎_elim
      (λ (behind : number < other). inr (omega (arith, from, behind, size)))
      (λ (other_le : other ≤ number). absurd (apart (omega (arith, le, other_le))))
      (cases_lt number other))
      (cases_lt other number)))

  puts : (b s : State) → Within Pages (Wrote (4096 * number) bytes true) b s → PutsPage number bytes b s
  puts b s within =
      let seen = within.here.seen refl in
      record {
        here = ap (filled number) seen ∙ filled_here b.pages.seen;
        elsewhere = λ other apart. ap (filled other) seen ∙ filled_elsewhere b.pages.seen other apart;
      }

  puts_synced : (a b s : State) → PutsPage number bytes a b → Within Pages (Synced true) b s → PutsPage number bytes a s
  puts_synced a b s put within =
      let seen : s.pages.seen ≡ b.pages.seen = ap (λ (c : Contents). c.seen) (within.here.done refl) in
      record {
        here = ap (filled number) seen ∙ put.here;
        elsewhere = λ other apart. ap (filled other) seen ∙ put.elsewhere other apart;
      }

module _ (batch : BatchView) (is : IsBatch batch) (slot : ℕ) (below : slot < batch.count) (old mid : Past)
    (write : Goes (Within Pages (Wrote (4096 * number_at batch slot) (page_at batch slot) true)) old mid) where
  pub place_leads : Leads (PutsPage (number_at batch slot) (page_at batch slot)) old mid
  place_leads = leads_by (PutsPage (number_at batch slot) (page_at batch slot)) (Within Pages (Wrote (4096 * number_at batch slot) (page_at batch slot) true))
      old mid write (puts (number_at batch slot) (page_at batch slot) (good_at batch is slot below).size)

  pub placed_leads : (new : Past) → Goes (Within Pages (Synced true)) mid new → Leads (PutsPage (number_at batch slot) (page_at batch slot)) old new
  placed_leads new sync =
      leads_on (PutsPage (number_at batch slot) (page_at batch slot)) (Within Pages (Synced true)) (PutsPage (number_at batch slot) (page_at batch slot))
      old mid new place_leads sync (puts_synced (number_at batch slot) (page_at batch slot) (good_at batch is slot below).size)
