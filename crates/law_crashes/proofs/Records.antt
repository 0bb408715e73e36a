-- Records tell the changes that they were made of, and groups one behind the other make one database after the other.
use Rattle.std.proofs.Common.{◌≡◌, List, [], ◌∷◌, ◌++◌, refl, sym, ◌∙◌, ap, append_assoc}
use Rattle.std.proofs.lemmas.List.{append-nil}
use Rattle.inno_db.specs.Database.{Database}
use Rattle.inno_db.specs.Changes.{apply_one}
use Rattle.inno_db.specs.declared.change.Change.{Change}
use Rattle.inno_db.specs.declared.change.Change.TheVariants.{Create, Put, Remove}
use Rattle.inno_model.specs.Past.{changed}
use Rattle.log_format.specs.declared.group.Group.{Group}
use Rattle.log_format.specs.declared.group.Record.{Record}
use Rattle.law_crashes.specs.Records.{record_of, records_of, change_of, changes_of, changes_in}

changes_of-append : (xs ys : List Record) → changes_of (xs ++ ys) ≡ changes_of ys ++ changes_of xs
changes_of-append [] ys = sym (append-nil (changes_of ys))
changes_of-append (x ∷ xs) ys =
    ap (λ (l : List Change). l ++ change_of x) (changes_of-append xs ys) ∙ append_assoc (changes_of ys) (changes_of xs) (change_of x)

change_back : (c : Change) → change_of (record_of c) ≡ c ∷ []
change_back (Create schema) = refl
change_back (Put table row) = refl
change_back (Remove table key) = refl

pub changes_back : (cs : List Change) → changes_of (records_of cs) ≡ cs
changes_back [] = refl
changes_back (c ∷ cs) =
    changes_of-append (records_of cs) (record_of c ∷ [])
    ∙ ap (λ (l : List Change). l ++ changes_of (records_of cs)) (change_back c)
    ∙ ap (λ (l : List Change). c ∷ l) (changes_back cs)

pub changes_in-append : (xs ys : List Group) → changes_in (xs ++ ys) ≡ changes_in ys ++ changes_in xs
changes_in-append [] ys = sym (append-nil (changes_in ys))
changes_in-append (x ∷ xs) ys =
    ap (λ (l : List Change). l ++ changes_of x.records) (changes_in-append xs ys) ∙ append_assoc (changes_in ys) (changes_in xs) (changes_of x.records)

pub changed-append : (db : Database) (xs ys : List Change) → changed db (xs ++ ys) ≡ changed (changed db ys) xs
changed-append db [] ys = refl
changed-append db (x ∷ xs) ys = ap (λ (d : Database). apply_one d x) (changed-append db xs ys)
