-- Groups of rows alone: a log area holds one list of them, and what an engine logs is such a list.
use Rattle.std.proofs.Common.{◌≡◌, inl, inr, ℕ, suc, ◌+◌, ◌<◌, true, Option, Some, List, [], ◌∷◌, ◌++◌, length, take, refl, sym, ◌∙◌, ap, subst, arith, add-zero, append_assoc, length-append}
use Rattle.std.specs.Prelude.{All, IsTrue, if◌then◌else◌, Bool, false}
use Rattle.std.proofs.lemmas.Bool.{cases_lt}
use Rattle.std.proofs.lemmas.List.{append-nil, take_at}
use Rattle.std.proofs.lemmas.List.Concat.{flat_map-append}
use Rattle.std.proofs.lemmas.List.Elements.{All-nil, All-push, All-append, All-take, All-head, All-tail}
use Rattle.inno_db.specs.declared.change.Change.{Change}
use Rattle.inno_db.specs.declared.change.Change.TheVariants.{Create, Put, Remove}
use Rattle.inno_model.specs.declared.event.Event.{Event}
use Rattle.inno_model.specs.declared.event.Event.TheVariants.{Committed}
use Rattle.inno_model.specs.Past.{own}
use Rattle.log_format.specs.declared.group.Group.{Group}
use Rattle.log_format.specs.declared.group.Record.{Record}
use Rattle.log_format.specs.Group.{group_bytes, IsGroup, AreGroups}
use Rattle.log_format.specs.Block.{payloads}
use Rattle.log_format.specs.Reading.{group_at}
use Rattle.log_format.specs.Scan.{stream_of, HoldsPayloads, IsScan}
use Rattle.log_format.proofs.Groups.{AreGroups-take, AreGroups-drop}
use Rattle.log_format.proofs.TwoLaws.{group_again}
use Rattle.schema_codec.proofs.Fields.{some_is}
use Rattle.law_crashes.specs.Records.{record_of, records_of}
use Rattle.law_crashes.specs.Commits.{is_none, logged, groups_of}
use Rattle.law_crashes.specs.RowScan.{is_of_rows, HasRowsOnly, NoRowGroup, IsRowScan}
use Rattle.law_crashes.specs.Since.{all_groups}

-- ---- one list

one_count : (run : ℕ) (area : List ℕ) (xs ys : List ℕ) (one : HoldsPayloads run area xs) (other : HoldsPayloads run area ys) → one.blocks ≡ other.blocks
one_count run area xs ys one other = elim (cases_lt one.blocks other.blocks) [
  | inl less ↦ absurd (one.bad (other.good one.blocks less))
  | inr le ↦ elim (cases_lt other.blocks one.blocks) [
    | inl more ↦ absurd (other.bad (one.good other.blocks more))
    | inr ge ↦ omega arith
  ]
]

one_stream : (run : ℕ) (area : List ℕ) (xs ys : List ℕ) → HoldsPayloads run area xs → HoldsPayloads run area ys → xs ≡ ys
one_stream run area xs ys one other = one.payload ∙ ap (λ (n : ℕ). payloads n area) (one_count run area xs ys one other) ∙ sym other.payload

abbrev read_as : Group → List ℕ → Option (Group × List ℕ)
read_as g rest = Some (g, rest)

same_front : (g h : Group) (x y : List ℕ) → IsGroup g → IsGroup h → group_bytes g ++ x ≡ group_bytes h ++ y → (g ≡ h) × (x ≡ y)
same_front g h x y is_g is_h same =
    let read : read_as g x ≡ read_as h y = sym (group_again g x is_g) ∙ ap group_at same ∙ group_again h y is_h in
    let both = some_is (g, x) (h, y) read in
    (ap (λ (p : Group × List ℕ). p.0) both, ap (λ (p : Group × List ℕ). p.1) both)

-- each group has an LSN of its own, and records of rows alone
abbrev AreRowGroups : ℕ → List Group → Type 0
AreRowGroups first [] = Unit {0}
AreRowGroups first (g ∷ gs) = (g.lsn ≡ first) × IsGroup g × HasRowsOnly g × AreRowGroups (first + 1) gs

both : (first : ℕ) (gs : List Group) → AreGroups first gs → All HasRowsOnly gs → AreRowGroups first gs
both first [] are rows = tt
both first (g ∷ gs) are rows = (are.0, are.1, All-head HasRowsOnly g gs rows, both (first + 1) gs are.2 (All-tail HasRowsOnly g gs rows))

one_list : (first : ℕ) (gs hs : List Group) (x y : List ℕ) → AreRowGroups first gs → AreRowGroups first hs → stream_of gs ++ x ≡ stream_of hs ++ y
    → NoRowGroup (first + length gs) x → NoRowGroup (first + length hs) y → gs ≡ hs
one_list first [] [] x y are_g are_h same end_g end_h = refl
one_list first [] (h ∷ hs) x y are_g are_h same end_g end_h =
    absurd (end_g h (stream_of hs ++ y) are_h.1 are_h.2 (are_h.0 ∙ sym (add-zero first)) (same ∙ append_assoc (group_bytes h) (stream_of hs) y))
one_list first (g ∷ gs) [] x y are_g are_h same end_g end_h =
    absurd (end_h g (stream_of gs ++ x) are_g.1 are_g.2 (are_g.0 ∙ sym (add-zero first)) (sym same ∙ append_assoc (group_bytes g) (stream_of gs) x))
one_list first (g ∷ gs) (h ∷ hs) x y are_g are_h same end_g end_h =
    let split = sym (append_assoc (group_bytes g) (stream_of gs) x) ∙ same ∙ append_assoc (group_bytes h) (stream_of hs) y in
    let front = same_front g h (stream_of gs ++ x) (stream_of hs ++ y) are_g.1 are_h.1 split in
    let next : (n : ℕ) → first + suc n ≡ (first + 1) + n = λ n. omega arith in
    let rest =
    one_list (first + 1) gs hs x y are_g.3 are_h.3 front.1 (subst (λ (n : ℕ). NoRowGroup n x) (next (length gs)) end_g)
    (subst (λ (n : ℕ). NoRowGroup n y) (next (length hs)) end_h) in
    λ i. front.0 i ∷ rest i

pub one_row_scan : (run first : ℕ) (area : List ℕ) (groups others : List Group) → IsRowScan run first area groups → IsRowScan run first area others
    → groups ≡ others
one_row_scan run first area groups others one other =
    one_list first groups others one.rest other.rest (both first groups one.each one.of_rows) (both first others other.each other.of_rows)
    (sym one.whole ∙ one_stream run area one.stream other.stream one.payload other.payload ∙ other.whole) one.ends other.ends

-- ---- of a scan that takes all groups

-- of a list of groups the first so many, where the next one, if any, has a record of a page
abbrev pub EndsRows : List Group → Type 0
EndsRows [] = Unit {0}
EndsRows (g ∷ gs) = HasRowsOnly g → ⊥

no_more : (first : ℕ) (groups others : List Group) (rest : List ℕ) → AreGroups first (groups ++ others) → EndsRows others
    → ((g : Group) (more : List ℕ) → IsGroup g → g.lsn ≡ first + length (groups ++ others) → rest ≡ group_bytes g ++ more → ⊥)
    → NoRowGroup (first + length groups) (stream_of others ++ rest)
no_more first groups [] rest are other none =
    λ (g : Group) (more : List ℕ) is rows lsn begins. none g more is (lsn ∙ ap (λ (gs : List Group). first + length gs) (sym (append-nil groups))) begins
no_more first groups (h ∷ others) rest are other none = λ (g : Group) (more : List ℕ) is rows lsn begins.
    let there = AreGroups-drop first groups (h ∷ others) are in
    let same = same_front h g (stream_of others ++ rest) more there.1 is (sym (append_assoc (group_bytes h) (stream_of others) rest) ∙ begins) in
    other (subst HasRowsOnly (sym same.0) rows)

pub cut_scan : (run first : ℕ) (area : List ℕ) (all groups others : List Group) → IsScan run first area all → all ≡ groups ++ others
    → All HasRowsOnly groups → EndsRows others → IsRowScan run first area groups
cut_scan run first area all groups others scan split rows other =
    let are : AreGroups first (groups ++ others) = subst (AreGroups first) split scan.held.each in
    record {
      stream = scan.stream;
      payload = scan.payload;
      rest = stream_of others ++ scan.held.rest;
      whole =
          scan.held.whole ∙ ap (λ (gs : List Group). stream_of gs ++ scan.held.rest) split ∙ ap (λ (l : List ℕ). l ++ scan.held.rest)
          (flat_map-append group_bytes groups others)
          ∙ append_assoc (stream_of groups) (stream_of others) scan.held.rest;
      each = subst (AreGroups first) (take_at groups others (length groups) refl) (AreGroups-take (length groups) first (groups ++ others) are);
      of_rows = rows;
      ends = no_more first groups others scan.held.rest are other
          (λ g more is lsn begins. scan.held.ends g more is (lsn ∙ ap (λ (gs : List Group). first + length gs) (sym split)) begins);
    }

pub row_scan : (run first : ℕ) (area : List ℕ) (groups : List Group) → IsScan run first area groups → All HasRowsOnly groups → IsRowScan run first area groups
row_scan run first area groups scan rows = cut_scan run first area groups groups [] scan (sym (append-nil groups)) rows tt

-- ---- what an engine logs

change_of_rows : (c : Change) → IsTrue (is_of_rows (record_of c))
change_of_rows (Create schema) = refl
change_of_rows (Put table row) = refl
change_of_rows (Remove table key) = refl

abbrev IsOfRows : Record → Type 0
IsOfRows r = IsTrue (is_of_rows r)

records_of_rows : (cs : List Change) → All IsOfRows (records_of cs)
records_of_rows [] = All-nil IsOfRows
records_of_rows (c ∷ cs) = All-push IsOfRows (records_of cs) (record_of c) (records_of_rows cs) (change_of_rows c)

one_more : (b : Bool) (gs : List Group) (g : Group) → All HasRowsOnly gs → HasRowsOnly g → All HasRowsOnly (if b then gs else gs ++ g ∷ [])
one_more true gs g rows one = rows
one_more false gs g rows one = All-push HasRowsOnly gs g rows one

groups_of_rows : (first : ℕ) (past : List Event) → All HasRowsOnly (groups_of first past)
groups_of_rows first [] = All-nil HasRowsOnly
groups_of_rows first (Committed s ∷ past) =
    one_more (is_none (own s past)) (groups_of first past) (record { lsn = first + logged past; records = records_of (own s past) })
    (groups_of_rows first past) (records_of_rows (own s past))
groups_of_rows first (e ∷ past) = groups_of_rows first past

pub logged_rows : (k first : ℕ) (base : List Group) (past : List Event) → All HasRowsOnly base
    → All HasRowsOnly (base ++ take k (groups_of (first + length base) past))
logged_rows k first base past rows =
    All-append HasRowsOnly base (take k (groups_of (first + length base) past)) rows
    (All-take HasRowsOnly k (groups_of (first + length base) past) (groups_of_rows (first + length base) past))
