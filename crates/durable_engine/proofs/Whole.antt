-- Where the last commit of every session may be acknowledged now, whatever a crash leaves holds every commit.
use Rattle.std.proofs.Common.{◌≡◌, ℕ, List, [], ◌∷◌, refl, sym, subst, arith}
use Rattle.std.proofs.lemmas.Bool.Decides.{nat_tests}
use Rattle.inno_model.specs.declared.event.Event.{Event}
use Rattle.inno_model.specs.declared.event.Event.TheVariants.{Committed, Acked}
use Rattle.inno_model.specs.Past.{commits, db_after}
use Rattle.store_api.specs.Past.{Past}
use Rattle.law_crashes.specs.Commits.{place}
use Rattle.law_crashes.specs.Files.{StandsFor}
use Rattle.law_crashes.specs.Since.{KeepsSince}
use Rattle.durable_engine.specs.Whole.{HoldsAll}

-- the session of the newest commit
abbrev newest : List Event → ℕ
newest [] = 0
newest (Committed s ∷ past) = s
newest (other ∷ past) = newest past

newest_place : (past : List Event) → place (newest past) past ≡ commits past
newest_place [] = refl
newest_place (Committed s ∷ past) = grind (arith, nat_tests)
newest_place (other ∷ past) = newest_place past

pub holds_all : (root now : Past) (past : List Event) → KeepsSince root now (Acked (newest past) now.moment ∷ past) → HoldsAll root now past
holds_all root now past keeps = record {
  each = λ db files s image told is honest.
      let some = keeps.each db files now.moment s image keeps.later (omega arith) told is honest in
      let reaches : commits past ≡ some.n = grind (arith, nat_tests, some.some, some.all_acked, newest_place past) in
      subst (λ n. StandsFor image (db_after n past)) (sym reaches) some.stands;
}
