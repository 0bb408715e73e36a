-- What a mount keeps of the files: while it reads nothing changes, and what it has read is what they stood for.
use Rattle.std.proofs.Common.{◌≡◌, ◌⊎◌, inl, inr, refl, ℕ, ◌≤◌, Option, Some, None, List, [], ◌∷◌, length, sym, ◌∙◌, ap, subst, arith}
use Rattle.store_api.specs.Areas.{Contents, State, Image, MayLeave, IsImage, seen_image}
use Rattle.store_api.specs.Past.{Past, Now, Meanwhile}
use Rattle.inno_db.specs.Database.{Database}
use Rattle.inno_model.specs.declared.event.Event.TheVariants.{Opened}
use Rattle.inno_model.specs.Past.{changed}
use Rattle.log_format.specs.declared.group.Group.{Group}
use Rattle.stored_pages.specs.Reading.{IsPageIn}
use Rattle.law_crashes.specs.Header.{SaysRun}
use Rattle.law_crashes.specs.Records.{no_db, changes_in}
use Rattle.law_crashes.specs.Files.{IsAtRest, StandsFor, Files, LeavesFiles}
use Rattle.law_crashes.specs.Since.{KeepsSince, HasHeader, LogRests, IsBegun, IsScanned, StillScans, IsMounted}
use Rattle.law_crashes.proofs.AtRest.{left_at_rest}
use Rattle.law_crashes.proofs.Keeps.{files_before, leaves_opened}
use Rattle.law_crashes.proofs.Mount.{keeps_scanned}
use Rattle.file_zero.specs.Looks.{LeavesPages, Had}
use Rattle.store_api.specs.Looks.{HoldsSame, HoldsAs, Looks, LeavesState}
use Rattle.file_zero.specs.Reading.{SaysHeader, IsOfRun, IsFound, HoldsDatabase}

-- what a disk holds by its own law
abbrev pub IsLawful : Past → Type 0
IsLawful past = (m : ℕ) (s : State) → past.state_at m ≡ Some s → IsImage s (seen_image s)

-- ---- an area where nothing is pending

-- a read gives what stood there before
seen_before : (b s : Contents) → HoldsSame b s → b.writes ≡ [] → MayLeave b b.seen → (image : List ℕ) → MayLeave s image → image ≡ b.seen
seen_before b s same rests law image left = left_at_rest s image (same.1 ∙ rests) left ∙ same.0 ∙ sym (left_at_rest b b.seen rests law)

image_before : (b s : State) (image : Image) → HoldsAs b s → IsAtRest b → IsImage b (seen_image b) → IsImage s image → image ≡ seen_image b
image_before b s image holds rests law left =
    let log = seen_before b.log s.log holds.log rests.log law.log image.log left.log in
    let double = seen_before b.double s.double holds.double rests.double law.double image.double left.double in
    let pages = seen_before b.pages s.pages holds.pages rests.pages law.pages image.pages left.pages in
    λ i. record { log = log i; double = double i; pages = pages i }

-- what a disk tells, if it does
nothing : Contents
nothing = record { seen = []; synced = []; writes = [] }

one_byte : Contents
one_byte = record { seen = 0 ∷ []; synced = []; writes = [] }

two_sizes : (n : ℕ) → n ≡ 0 → n ≡ 1 → ⊥
two_sizes n none one = absurd (omega arith)

two_contents : nothing ≡ one_byte → ⊥
unfolding nothing one_byte
two_contents same = two_sizes (length one_byte.seen) (ap (λ (c : Contents). length c.seen) (sym same)) refl

says_as : (run first : ℕ) (t s : State) → SaysHeader run first t → s.double ≡ t.double → s.pages ≡ t.pages → SaysHeader run first s
says_as run first t s says double pages = record {
  page = says.page;
  read = subst (λ (c : Contents). IsPageIn c.seen s.double.seen 0 (Some says.page)) (sym pages)
      (subst (λ (c : Contents). IsPageIn t.pages.seen c.seen 0 (Some says.page)) (sym double) says.read);
  header = says.header;
}

state_in : State → Option State → State
state_in other (Some s) = s
state_in other None = other

told_or_not : (told : Option State) → (told ≡ None) ⊎ ((s : State) × (told ≡ Some s))
told_or_not None = inl refl
told_or_not (Some s) = inr (s, refl)

same_state : (a b : State) → Some a ≡ Some b → a ≡ b
unfolding state_in
same_state a b same = ap (λ (o : Option State). state_in a o) same

module _ (root mid : Past) (law : IsLawful root) (law_mid : IsLawful mid) (looks : Looks root mid) where
  -- a state that is told holds what was there at first
  holds_first : (db : Database) (files : Files root mid db) (m : ℕ) (s : State) → root.moment ≤ m → m ≤ mid.moment → mid.state_at m ≡ Some s
      → HoldsAs files.state s
  holds_first db files m s low high is =
      let look = looks.each m s files.ticks low high is in
      subst (λ (b : State). HoldsAs b s) (same_state look.0 files.state (sym look.1 ∙ files.told)) look.2

  first_law : (db : Database) (files : Files root mid db) → IsImage files.state (seen_image files.state)
  first_law db files = law root.moment files.state files.told

  pub looks_leave : LeavesFiles root mid
  looks_leave = record {
    later = looks.later;
    kept = looks.kept;
    each = λ db files m s image low high is left honest.
        subst (λ (i : Image). StandsFor i db)
        (sym (image_before files.state s image (holds_first db files m s low high is) files.rests (first_law db files) left)) files.stands;
  }

  module _ (run block next rest : ℕ) (db : Database) (found : IsFound run block next db rest mid) where
    pub now_told : State
    now_told = state_in (record { log = nothing; double = nothing; pages = nothing }) (mid.state_at mid.moment)

    told_is : (s : State) → mid.state_at mid.moment ≡ Some s → now_told ≡ s
    unfolding now_told state_in
    told_is s is = ap (λ (o : Option State). state_in (record { log = nothing; double = nothing; pages = nothing }) o) is

    scanned : Now (IsScanned run found.first block found.groups rest now_told.double now_told.pages) mid
    scanned s ticks is =
        let here = found.log s ticks is in
        record {
          scan = here.scan;
          ends = here.ends;
          long = here.long;
          double_is = ap (λ (t : State). t.double) (sym (told_is s is));
          pages_is = ap (λ (t : State). t.pages) (sym (told_is s is));
        }

    -- page 0 says the run and the first LSN by which the log was read
    says : (s : State) → SaysHeader run found.first s → (db : Database) → StandsFor (seen_image s) db → SaysRun run found.first s.pages.seen s.double.seen
    says s header at stands =
        let read = stands.says.each header.page header.read in
        let run_is : stands.of_run ≡ run = sym read.of_run ∙ header.header.of_run in
        let first_is : stands.begins ≡ found.first = sym read.begins ∙ header.header.begins in
        subst (λ (n : ℕ). SaysRun run n s.pages.seen s.double.seen) first_is
        (subst (λ (n : ℕ). SaysRun n stands.begins s.pages.seen s.double.seen) run_is stands.says)

    known : (at : Database) → Files root mid at → LogRests mid × HasHeader run found.first now_told.double now_told.pages
    known at files =
        let last = files.tells mid.moment looks.later (omega arith) in
        let s = last.0 in
        let holds = holds_first at files mid.moment s looks.later (omega arith) last.1 in
        let seen = law_mid mid.moment s last.1 in
        let stands = subst (λ (i : Image). StandsFor i at) (sym (image_before files.state s (seen_image s) holds files.rests (first_law at files) seen))
        files.stands in
        let double_rests : s.double.writes ≡ [] = holds.double.1 ∙ files.rests.double in
        let pages_rest : s.pages.writes ≡ [] = holds.pages.1 ∙ files.rests.pages in
        let header : HasHeader run found.first s.double s.pages = record {
          double_rests = double_rests;
          pages_rest = pages_rest;
          says = subst (λ (l : List ℕ). SaysRun run found.first l s.double.synced) (left_at_rest s.pages s.pages.seen pages_rest seen.pages)
              (subst (SaysRun run found.first s.pages.seen) (left_at_rest s.double s.double.seen double_rests seen.double)
              (says s (found.header s files.ticks last.1) at stands));
        } in (
          λ t ticks is. (holds_first at files mid.moment t looks.later (omega arith) is).log.1 ∙ files.rests.log,
          subst (λ (t : State). HasHeader run found.first t.double t.pages) (sym (told_is s last.1)) header,
        )

    module _ (now : Past) (crash : Meanwhile (λ s. LogRests mid → StillScans run found.first found.groups now_told.double now_told.pages s) mid now) where
      keeps : KeepsSince root now (Opened (changed no_db (changes_in found.groups)) ∷ [])
      keeps = keeps_scanned run found.first found.groups block rest now_told.double now_told.pages root mid now law_mid looks_leave scanned known crash

      pub leaves_mounted : LeavesFiles root now
      leaves_mounted = leaves_opened root now (changed no_db (changes_in found.groups)) keeps

      pub mounted : Now (IsBegun run found.first block found.groups now_told.double now_told.pages) now → IsMounted root now run block next db
      mounted begun = record {
        first = found.first;
        base = found.groups;
        double = now_told.double;
        pages = now_told.pages;
        of_rows = found.of_rows;
        reads = found.reads;
        numbers = found.numbers;
        some = found.some;
        begun = begun;
        header = λ at files. (known at (files_before root mid now at crash.later crash.kept files)).1;
        keeps = subst (λ (d : Database). KeepsSince root now (Opened d ∷ [])) (sym found.reads) keeps;
      }

    -- with the clauses of the calls that write
    pub leaves_after : (now : Past)
        → ((r f : ℕ) (base : List Group) (double pages : Contents) → Now (IsScanned r f block base rest double pages) mid
        → Meanwhile (λ s. LogRests mid → StillScans r f base double pages s) mid now) → LeavesFiles root now
    leaves_after now crash = leaves_mounted now (crash run found.first found.groups now_told.double now_told.pages scanned)

    -- the calls that write leave all but the log
    module _ (now : Past)
        (crash : (r f : ℕ) (base : List Group) (double pages : Contents) → Now (IsScanned r f block base rest double pages) mid
        → Meanwhile (λ s. LogRests mid → StillScans r f base double pages s) mid now)
        (begun : (r f : ℕ) (base : List Group) (double pages : Contents) → Now (IsScanned r f block base rest double pages) mid
        → Now (IsBegun r f block base double pages) now) where
      left_pages : LeavesPages mid now
      left_pages = λ s ticks is.
          let later = (crash run found.first found.groups now_told.double now_told.pages scanned).later in
          elim (told_or_not (mid.state_at mid.moment)) [
            | inr told ↦
                let after = begun run found.first found.groups now_told.double now_told.pages scanned s ticks is in
                let same = told_is told.0 told.1 in
                let double : s.double ≡ told.0.double = after.double_is ∙ ap (λ (u : State). u.double) same in
                let pages : s.pages ≡ told.0.pages = after.pages_is ∙ ap (λ (u : State). u.pages) same in
                (omega (arith, later, ticks), told.0, told.1, double, pages)
            | inl none ↦
                let any : (double : Contents) → Now (IsScanned run found.first block found.groups rest double nothing) mid =
                λ double t before told. absurd (let never : None ≡ Some t = sym none ∙ told in cc) in
                let one = begun run found.first found.groups nothing nothing (any nothing) s ticks is in
                let other = begun run found.first found.groups one_byte nothing (any one_byte) s ticks is in
                absurd (two_contents (sym one.double_is ∙ other.double_is))
          ]

      -- page 0 still says the run by which the log was read
      pub header_after : Now (IsOfRun run) now
      header_after = λ s ticks is.
          let b = left_pages s ticks is in
          (found.first, says_as run found.first b.1 s (found.header b.1 b.0 b.2) b.3 b.4)

      pub pages_after : LeavesState root mid → LeavesPages root now
      pages_after stays = λ s ticks is.
          let b = left_pages s ticks is in
          let first = stays b.1 b.0 b.2 in
          (first.0, b.1, first.1, b.3, b.4)

      -- the files held the database that was read
      pub held_after : LeavesState root mid → Had (HoldsDatabase db) root now
      held_after stays = λ s ticks is.
          let b = left_pages s ticks is in
          let first = stays b.1 b.0 b.2 in
          let log = found.log b.1 b.0 b.2 in (
            first.0,
            b.1,
            first.1,
            record {
              run = run;
              first = found.first;
              groups = found.groups;
              header = found.header b.1 b.0 b.2;
              scan = log.scan;
              makes = found.reads;
            },
          )

    pub mounted_after : (now : Past)
        → ((r f : ℕ) (base : List Group) (double pages : Contents) → Now (IsScanned r f block base rest double pages) mid
        → Meanwhile (λ s. LogRests mid → StillScans r f base double pages s) mid now)
        → ((r f : ℕ) (base : List Group) (double pages : Contents) → Now (IsScanned r f block base rest double pages) mid
        → Now (IsBegun r f block base double pages) now) → IsMounted root now run block next db
    mounted_after now crash begun =
        mounted now (crash run found.first found.groups now_told.double now_told.pages scanned)
        (begun run found.first found.groups now_told.double now_told.pages scanned)
