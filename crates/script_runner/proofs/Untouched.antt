-- What a crash leaves of files that nobody has written to, and of an engine that nothing was asked of.
use Rattle.std.proofs.Common.{◌≡◌, ℕ, ◌≤◌, Some, List, [], ◌∷◌, refl, sym, ◌∙◌, ap, subst, arith}
use Rattle.store_api.specs.Areas.{Contents, State, Image, MayLeave, IsImage, seen_image}
use Rattle.store_api.specs.Past.{Past, Meanwhile}
use Rattle.inno_db.specs.Database.{Database}
use Rattle.inno_model.specs.declared.event.Event.{Event}
use Rattle.law_crashes.specs.Files.{IsAtRest, StandsFor, Files, LeavesFiles}
use Rattle.law_crashes.specs.Since.{KeepsSince}
use Rattle.law_crashes.proofs.AtRest.{left_at_rest}
use Rattle.script_runner.specs.Run.{KeepsFiles}

same_state : (a b : State) → Some a ≡ Some b → a ≡ b
same_state a b same = cc

seen_left : (c : Contents) (image : List ℕ) → c.writes ≡ [] → MayLeave c c.seen → MayLeave c image → image ≡ c.seen
seen_left c image rests law left = left_at_rest c image rests left ∙ sym (left_at_rest c c.seen rests law)

image_seen : (s : State) (image : Image) → IsAtRest s → IsImage s (seen_image s) → IsImage s image → image ≡ seen_image s
image_seen s image rests law left =
    let log = seen_left s.log image.log rests.log law.log left.log in
    let double = seen_left s.double image.double rests.double law.double left.double in
    let pages = seen_left s.pages image.pages rests.pages law.pages left.pages in
    λ i. record { log = log i; double = double i; pages = pages i }

-- a crash of files at rest leaves what a read gives
pub leaves_untouched : (root : Past) → ((m : ℕ) (s : State) → root.state_at m ≡ Some s → IsImage s (seen_image s)) → LeavesFiles root root
leaves_untouched root law = record {
  later = omega arith;
  kept = λ m ticks before. refl;
  each = λ db files m s image low high is left honest.
      let now : m ≡ root.moment = omega (arith, low, high) in
      let here : s ≡ files.state = same_state s files.state (sym is ∙ (ap root.state_at now ∙ files.told)) in
      let left_here : IsImage files.state image = subst (λ (t : State). IsImage t image) here left in
      subst (λ (i : Image). StandsFor i db) (sym (image_seen files.state image files.rests (law root.moment files.state files.told) left_here)) files.stands;
}

-- an engine in which nothing has happened leaves the files too
pub keeps_files : (root now : Past) (past : List Event) → KeepsSince root now past → KeepsFiles root now past
keeps_files root now (e ∷ past) keeps = keeps
keeps_files root now [] keeps = record {
  later = keeps.later;
  kept = keeps.kept;
  each = λ db files m s image low high is left honest.
      subst (StandsFor image) (keeps.opens db files) (keeps.each db files m s image low high is left honest).stands;
}

-- no moment has passed
pub no_while : (P : State → Type 0) (past : Past) → Meanwhile P past past
no_while P past = record {
  later = omega arith;
  kept = λ m ticks before. refl;
  each = λ m s ticks low high is. absurd (omega (arith, low, high));
}
