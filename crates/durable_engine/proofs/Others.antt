-- What a session's item has made stays what it may have made, while the engine stops and items of others start and end.
use Rattle.std.proofs.Common.{◌≡◌, ◌≢◌, ◌∙◌, ap, sym, subst, refl, ℕ, Bool, true, false, List, ◌∷◌, ◌++◌, reverse, take}
use Rattle.std.proofs.Common.{inl, inr}
use Rattle.std.proofs.Common.{⊎_elim, arith}
use Rattle.std.proofs.lemmas.Bool.Decides.{nat_tests}
use Rattle.inno_types.specs.declared.lock.Level.{Level}
use Rattle.inno_types.specs.declared.reply.Cause.{Cause}
use Rattle.inno_types.specs.declared.reply.Item.{Item}
use Rattle.inno_types.specs.declared.reply.Reply.{Reply}
use Rattle.inno_types.specs.declared.stmt.Stmt.{Stmt}
use Rattle.inno_db.specs.Database.{Database, Place}
use Rattle.inno_db.specs.declared.change.Change.{Change}
use Rattle.inno_model.specs.declared.event.Event.{Event}
use Rattle.inno_model.specs.declared.event.Event.TheVariants.{Started, Ended, Stopped}
use Rattle.inno_model.specs.Moments.{starts}
use Rattle.inno_model.specs.Past.{started, under_way, before_item, level, own, view_of}
use Rattle.sql_history.specs.Items.{Language, is_over, point, own_before, base, HasMade}
use Rattle.sql_history.specs.Settings.{Setting, HasSet}
use Rattle.sql_history.specs.Statements.{Sight}
use Rattle.sql_history.specs.LooseReading.{newest, IsLooseReading, IsQuiet}
use Rattle.sql_history.specs.Answers.{MaySee, TakesLatest, HasBegun, BreaksOff, seen_by}
use Rattle.sql_history.specs.Legal.{Takes, MadeSome, sight_in, is_leaving}
use Rattle.sql_history.proofs.Pasts.{point_now}

-- what an entry leaves as it was that is no business of the session's
pub record LeavesAlone (s : ℕ) (e : Event) (past : List Event) : Type 0 where
  pub quiet : starts s e ≡ false
  pub count : started s (e ∷ past) ≡ started s past
  pub item : under_way s (e ∷ past) ≡ under_way s past
  pub before : before_item s (e ∷ past) ≡ before_item s past
  pub leaving : is_leaving s (e ∷ past) ≡ is_leaving s past
  pub level_is : level s (e ∷ past) ≡ level s past
  pub own_is : own s (e ∷ past) ≡ own s past
  pub own_before_is : own_before s (e ∷ past) ≡ own_before s past
  pub view_is : view_of s (e ∷ past) ≡ view_of s past
  pub seen_is : (n : ℕ) → seen_by s n (e ∷ past) ≡ seen_by s n past
  pub base_is : base s (e ∷ past) ≡ base s past
  pub newest_is : newest (e ∷ past) ≡ newest past
  pub over_is : is_over s (e ∷ past) ≡ is_over s past

pub others_start : (s t j : ℕ) (item : Item) (past : List Event) → t ≢ s → LeavesAlone s (Started t j item) past
others_start s t j item past apart = grind (arith, nat_tests, apart)

pub others_end : (s t j : ℕ) (reply : Reply) (past : List Event) → t ≢ s → LeavesAlone s (Ended t j reply) past
others_end s t j reply past apart = grind (arith, nat_tests, apart)

pub all_stop : (s : ℕ) (cause : Cause) (past : List Event) → LeavesAlone s (Stopped cause) past
all_stop s cause past = grind arith

module _ (s : ℕ) (e : Event) (past : List Event) (alone : LeavesAlone s e past) where
  -- what holds at the point still does
  at_point : (P : List Event → Type 0) → (P past → P (e ∷ past)) → P (point s past) → P (point s (e ∷ past))
  at_point P on was = by (is_over s past) refl
    where
      by : (b : Bool) → is_over s past ≡ b → P (point s (e ∷ past))
      by true over = subst P (sym (rw (alone.over_is ∙ over) (rw over refl))) was
      by false goes_on =
          let stays : point s (e ∷ past) ≡ e ∷ past = rw (alone.over_is ∙ goes_on) refl in
          subst P (sym stays) (on (subst P (point_now s past goes_on) was))

  loose : (rows : List Event → Database) (Quiet : Place → List Event → Type 0) (db : Database) → rows (e ∷ past) ≡ rows past
      → IsLooseReading s rows Quiet db past → IsLooseReading s rows Quiet db (e ∷ past)
  loose rows Quiet db same r = record {
    tables = r.tables ∙ ap (λ (d : Database). d.schemas) (sym same);
    still = λ place row stands quiet. r.still place row (stands.1 alone.quiet) (quiet.1 alone.quiet);
    moved = λ place. ⊎_elim (λ none. inl none) (λ some. inr (inr (alone.quiet, some))) (r.moved place);
  }

  may_see : (sight : Sight) (statement : Stmt) (db : Database) → MaySee sight s statement db past → MaySee sight s statement db (e ∷ past)
  may_see Sight.of_view statement db sees = (sees.0, alone.view_is ∙ sees.1, sees.2 ∙ sym (alone.seen_is sees.0))
  may_see Sight.of_latest statement db sees = sees ∙ sym alone.base_is
  may_see Sight.of_moments statement db sees =
      (loose (base s) (λ place h. Unit {0}) db alone.base_is sees.0, subst (TakesLatest statement db) (sym alone.base_is) sees.1)
  may_see Sight.of_dirty_moments statement db sees = loose newest (IsQuiet s) db alone.newest_is sees

  made_there : (count : ℕ) (changes : List Change) → HasMade count s changes past → HasMade count s changes (e ∷ past)
  made_there count changes made = alone.own_is ∙ made ∙ ap (λ cs. reverse (take count changes) ++ cs) (sym alone.own_before_is)

  none_there : own s past ≡ own_before s past → own s (e ∷ past) ≡ own_before s (e ∷ past)
  none_there none = alone.own_is ∙ none ∙ sym alone.own_before_is

  level_there : level s (point s (e ∷ past)) ≡ level s (point s past)
  level_there = at_point (λ h. level s h ≡ level s (point s past)) (λ same. alone.level_is ∙ same) refl

  breaks_off : (sight : Sight) (statement : Stmt) → BreaksOff sight s statement past → BreaksOff sight s statement (e ∷ past)
  breaks_off sight statement was = ⊎_elim
      (λ none. inl (at_point (λ h. own s h ≡ own_before s h) none_there none))
      (λ (begun : HasBegun sight s statement past). inr (record {
        db = begun.db;
        sees = at_point (MaySee sight s statement begun.db) (may_see sight statement begun.db) begun.sees;
        count = begun.count;
        changes = at_point (HasMade begun.count s _) (made_there begun.count _) begun.changes;
      }))
      was

  takes : (says : Language) (statement : Stmt) → Takes says s statement past → Takes says s statement (e ∷ past)
  takes says statement was = record {
    asks = (was.asks.0, alone.item ∙ was.asks.1, was.asks.2);
    setting = was.setting;
    is_set = subst (λ h. HasSet says s h was.setting) (sym alone.before) was.is_set;
    not_refused = inr (alone.quiet, was.not_refused);
  }

  sight_same : (l : Level) (setting : Setting) (statement : Stmt) → sight_in l s setting statement (e ∷ past) ≡ sight_in l s setting statement past
  sight_same l setting statement = rw alone.before refl

  pub made_some : (says : Language) → MadeSome says s past → MadeSome says s (e ∷ past)
  unfolding takes
  made_some says was = ⊎_elim
      (λ none. inl (at_point (λ h. own s h ≡ own_before s h) none_there none))
      (λ broke. inr (
        broke.0,
        takes says broke.0 broke.1,
        λ l is. subst (λ sight. BreaksOff sight s broke.0 (e ∷ past)) (sym (sight_same l broke.1.setting broke.0))
            (breaks_off (sight_in l s broke.1.setting broke.0 past) broke.0 (broke.2 l (sym level_there ∙ is))),
      ))
      was
