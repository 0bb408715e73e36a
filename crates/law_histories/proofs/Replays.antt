-- A history whose texts are read by the grammar has one work for each transaction, up to where boxes lie, and so one replay.
use Rattle.std.proofs.Common.{◌≡◌, ℕ, inl, inr, List, [], ◌∷◌, map, Option, Some, None, Bool, true, false, not, refl, sym, ap, ◌∙◌, subst}
use Rattle.std.specs.Prelude.{filter, if◌then◌else◌, bytes_eq, ◌==◌}
use Rattle.inno_types.specs.declared.reply.Item.{Item}
use Rattle.inno_types.specs.declared.reply.Item.TheVariants.{Sql}
use Rattle.inno_types.specs.declared.reply.Reply.{Reply}
use Rattle.inno_types.specs.declared.reply.Reply.TheVariants.{Done, Count, Rows}
use Rattle.inno_types.specs.declared.stmt.Stmt.{Stmt}
use Rattle.inno_types.specs.declared.stmt.Stmt.TheVariants as stmt
use Rattle.inno_db.specs.Database.{Database}
use Rattle.inno_db.specs.Changes.{apply}
use Rattle.inno_db.specs.declared.outcome.Outcome.{Outcome}
use Rattle.inno_model.specs.declared.event.Event.{Event}
use Rattle.inno_model.specs.declared.event.Event.TheVariants.{Begin, Started, Ended, Committed}
use Rattle.inno_model.specs.Past.{under_way}
use Rattle.sql_grammar.specs.Grammar.{Spells}
use Rattle.sql_history.specs.Statements.{is_on_rows}
use Rattle.sql_history.specs.Serial.{Piece, is_kept_as, pieces_to, with_answer, with_item, DoesStatement, DoesItem, HasDone, HasWorked, compared, with_later, AreWorks, after_piece, after_work, alone, AnswersOver, WorkAnswers, WorksAnswer}
use Rattle.law_histories.specs.Trees.{StmtTree, tree_of, SameStatement}
use Rattle.law_histories.specs.Trees as tree
use Rattle.law_histories.proofs.Statements.{one_tree}
use Rattle.law_histories.proofs.OneOutcome.{outcome_same}
use Rattle.law_histories.proofs.Settings.{by_either, asked_one}

-- ---- a transaction's work by its trees

data PieceTree : Type 0 where
  ran : StmtTree → Option Reply → PieceTree
  kept : List ℕ → PieceTree

abbrev piece_tree : Piece → PieceTree
piece_tree (Piece.ran statement reply) = ran (tree_of statement) reply
piece_tree (Piece.kept name) = kept name

abbrev trees : List Piece → List PieceTree
trees pieces = map piece_tree pieces

abbrev is_kept : List ℕ → PieceTree → Bool
is_kept name (ran t reply) = false
is_kept name (kept other) = bytes_eq other name

abbrev trees_to : List ℕ → List PieceTree → List PieceTree
trees_to name [] = []
trees_to name (t ∷ ts) = if is_kept name t then t ∷ ts else trees_to name ts

abbrev with_answer_of : StmtTree → Reply → List PieceTree → List PieceTree
with_answer_of t (Rows rows) ts = ran t (Some (Rows rows)) ∷ ts
with_answer_of t (Count n) ts = ran t (Some (Count n)) ∷ ts
with_answer_of t other ts = ts

abbrev with_plain : Stmt → Reply → List PieceTree → List PieceTree
with_plain (stmt.Savepoint name) Done ts = kept name ∷ filter (λ t. not (is_kept name t)) ts
with_plain (stmt.RollbackTo name) Done ts = trees_to name ts
with_plain statement reply ts = if is_on_rows statement then with_answer_of (tree.Other statement) reply ts else ts

abbrev with_tree : StmtTree → Reply → List PieceTree → List PieceTree
with_tree (tree.Other statement) reply ts = with_plain statement reply ts
with_tree t reply ts = with_answer_of t reply ts

trees_kept : (name : List ℕ) (ps : List Piece) → trees (pieces_to name ps) ≡ trees_to name (trees ps)
trees_kept name [] = refl
trees_kept name (Piece.ran statement reply ∷ ps) = trees_kept name ps
trees_kept name (Piece.kept other ∷ ps) = by_test (bytes_eq other name) (trees_kept name ps)
  where
    by_test : (b : Bool) → trees (pieces_to name ps) ≡ trees_to name (trees ps)
        → trees (if b then Piece.kept other ∷ ps else pieces_to name ps) ≡ (if b then kept other ∷ trees ps else trees_to name (trees ps))
    by_test true e = refl
    by_test false e = e

-- the pieces without a savepoint of this name
abbrev without : List ℕ → List Piece → List Piece
without name ps = filter (λ p. not (is_kept_as name p)) ps

abbrev trees_left : List ℕ → List PieceTree → List PieceTree
trees_left name ts = filter (λ t. not (is_kept name t)) ts

trees_without : (name : List ℕ) (ps : List Piece) → trees (without name ps) ≡ trees_left name (trees ps)
trees_without name [] = refl
trees_without name (Piece.ran statement reply ∷ ps) = ap (λ (ts : List PieceTree). ran (tree_of statement) reply ∷ ts) (trees_without name ps)
trees_without name (Piece.kept other ∷ ps) = by_test (bytes_eq other name) (trees_without name ps)
  where
    by_test : (b : Bool) → trees (without name ps) ≡ trees_left name (trees ps)
        → trees (if not b then Piece.kept other ∷ without name ps else without name ps) ≡
        (if not b then kept other ∷ trees_left name (trees ps) else trees_left name (trees ps))
    by_test true e = e
    by_test false e = ap (λ (ts : List PieceTree). kept other ∷ ts) e

answer_tree : (s : Stmt) (reply : Reply) (ps : List Piece) → trees (with_answer s reply ps) ≡ with_answer_of (tree_of s) reply (trees ps)
answer_tree s (Rows rows) ps = refl
answer_tree s (Count n) ps = refl
answer_tree s other ps = refl

item_tree : (s : Stmt) (reply : Reply) (ps : List Piece) → trees (with_item s reply ps) ≡ with_tree (tree_of s) reply (trees ps)
item_tree (stmt.Select selected table f lock) reply ps = answer_tree (stmt.Select selected table f lock) reply ps
item_tree (stmt.Insert table columns tuples) reply ps = answer_tree (stmt.Insert table columns tuples) reply ps
item_tree (stmt.Update table sets f) reply ps = answer_tree (stmt.Update table sets f) reply ps
item_tree (stmt.Delete table f) reply ps = answer_tree (stmt.Delete table f) reply ps
item_tree (stmt.Savepoint name) Done ps = ap (λ (ts : List PieceTree). kept name ∷ ts) (trees_without name ps)
item_tree (stmt.Savepoint name) other ps = refl
item_tree (stmt.RollbackTo name) Done ps = trees_kept name ps
item_tree (stmt.RollbackTo name) other ps = refl
item_tree other reply ps = refl

-- ---- one work

statement_done : (text : List ℕ) (reply : Reply) (ps qs xs ys : List Piece) → trees ps ≡ trees qs → DoesStatement Spells text reply ps xs
    → DoesStatement Spells text reply qs ys → trees xs ≡ trees ys
statement_done text reply ps qs xs ys e d k =
    let same = one_tree text d.0 k.0 d.1 k.1 in
    let l = item_tree d.0 reply ps in let r = item_tree k.0 reply qs in
    ap trees d.2 ∙ l ∙ ap (λ (t : StmtTree). with_tree t reply (trees ps)) same ∙ ap (λ (ts : List PieceTree). with_tree (tree_of k.0) reply ts) e ∙ sym r ∙
    ap trees (sym k.2)

stays : (ps qs xs ys : List Piece) → trees ps ≡ trees qs → xs ≡ ps → ys ≡ qs → trees xs ≡ trees ys
stays ps qs xs ys e f g = ap trees f ∙ e ∙ ap trees (sym g)

item_done : (item : Option Item) (reply : Reply) (ps qs xs ys : List Piece) → trees ps ≡ trees qs → DoesItem Spells item reply ps xs
    → DoesItem Spells item reply qs ys → trees xs ≡ trees ys
item_done (Some (Sql text)) Done ps qs xs ys e d k = statement_done text Done ps qs xs ys e d k
item_done (Some (Sql text)) (Count n) ps qs xs ys e d k = statement_done text (Count n) ps qs xs ys e d k
item_done (Some (Sql text)) (Rows rows) ps qs xs ys e d k = statement_done text (Rows rows) ps qs xs ys e d k
item_done item reply ps qs xs ys e d k = stays ps qs xs ys e d k

done_one : (s : ℕ) (past : List Event) (xs ys : List Piece) → HasDone Spells s past xs → HasDone Spells s past ys → trees xs ≡ trees ys
done_one s [] xs ys d k = stays [] [] xs ys refl d k
done_one s (Begin t n l ∷ past) xs ys d k = by_either (t == s) d k (λ e f. stays [] [] xs ys refl e f) (λ e f. done_one s past xs ys e f)
done_one s (Ended t j reply ∷ past) xs ys d k =
    by_either (t == s) d k (λ e f. item_done (under_way s past) reply e.0 f.0 xs ys (done_one s past e.0 f.0 e.1 f.1) e.2 f.2)
    (λ e f. done_one s past xs ys e f)
done_one s (other ∷ past) xs ys d k = done_one s past xs ys d k

worked_one : (s : ℕ) (later : Option Reply) (past : List Event) (xs ys : List Piece) → HasWorked Spells s later past xs → HasWorked Spells s later past ys
    → trees xs ≡ trees ys
worked_one s later past xs ys (ps, d, inl b) (qs, k, inl c) =
    let same = asked_one s b.1.0 c.1.0 past b.1.1 c.1.1 in
    let e = done_one s past ps qs d k in
    ap trees b.1.2 ∙ ap (λ (t : StmtTree). ran t (compared later) ∷ trees ps) same ∙ ap (λ (ts : List PieceTree). ran (tree_of c.1.0) (compared later) ∷ ts)
    e ∙ ap trees (sym c.1.2)
worked_one s later past xs ys (ps, d, inl b) (qs, k, inr c) = absurd (cc)
worked_one s later past xs ys (ps, d, inr b) (qs, k, inl c) = absurd (cc)
worked_one s later past xs ys (ps, d, inr b) (qs, k, inr c) = stays ps qs xs ys (done_one s past ps qs d k) b.1 c.1

works_one : (later : ℕ → Option Reply) (past : List Event) (xs ys : List (List Piece)) → AreWorks Spells later past xs → AreWorks Spells later past ys
    → map trees xs ≡ map trees ys
works_one later [] xs ys d k = ap (map trees) d ∙ ap (map trees) (sym k)
works_one later (Ended s j reply ∷ past) xs ys d k = works_one (with_later s (Some reply) later) past xs ys d k
works_one later (Started s j item ∷ past) xs ys d k = works_one (with_later s None later) past xs ys d k
works_one later (Committed s ∷ past) xs ys d k =
    let first = worked_one s (later s) past d.0 k.0 d.2 k.2 in
    let rest = works_one later past d.1 k.1 d.3 k.3 in
    ap (map trees) d.4 ∙ ap (λ (ts : List PieceTree). ts ∷ map trees d.1) first ∙ ap (λ (ts : List (List PieceTree)). trees k.0 ∷ ts) rest ∙ ap (map trees)
    (sym k.4)
works_one later (other ∷ past) xs ys d k = works_one later past xs ys d k

-- ---- one replay

piece_same : (db : Database) (p q : Piece) → piece_tree p ≡ piece_tree q → after_piece db p ≡ after_piece db q
piece_same db (Piece.ran s r) (Piece.ran t o) e =
    let same : tree_of s ≡ tree_of t = cc in ap (λ (x : Outcome). apply db x.changes) (outcome_same s t same db)
piece_same db (Piece.ran s r) (Piece.kept name) e = absurd (cc)
piece_same db (Piece.kept name) (Piece.ran s r) e = absurd (cc)
piece_same db (Piece.kept name) (Piece.kept other) e = refl

work_same : (db : Database) (ps qs : List Piece) → trees ps ≡ trees qs → after_work db ps ≡ after_work db qs
work_same db [] [] e = refl
work_same db [] (q ∷ qs) e = absurd (cc)
work_same db (p ∷ ps) [] e = absurd (cc)
work_same db (p ∷ ps) (q ∷ qs) e =
    ap (λ (d : Database). after_piece d p) (work_same db ps qs (cc)) ∙ piece_same (after_work db qs) p q (cc)

alone_same : (db : Database) (xs ys : List (List Piece)) → map trees xs ≡ map trees ys → alone db xs ≡ alone db ys
alone_same db [] [] e = refl
alone_same db [] (y ∷ ys) e = absurd (cc)
alone_same db (x ∷ xs) [] e = absurd (cc)
alone_same db (x ∷ xs) (y ∷ ys) e =
    ap (λ (d : Database). after_work d x) (alone_same db xs ys (cc)) ∙ work_same (alone db ys) x y (cc)

answer_same : (db : Database) (p q : Piece) → piece_tree p ≡ piece_tree q → AnswersOver db p → AnswersOver db q
answer_same db (Piece.ran s (Some r)) (Piece.ran t (Some o)) e h =
    let same : tree_of s ≡ tree_of t = cc in let replies : r ≡ o = cc in
    sym replies ∙ h ∙ ap (λ (x : Outcome). x.reply) (outcome_same s t same db)
answer_same db (Piece.ran s (Some r)) (Piece.ran t None) e h = tt
answer_same db (Piece.ran s None) (Piece.ran t (Some o)) e h = absurd (cc)
answer_same db (Piece.ran s None) (Piece.ran t None) e h = tt
answer_same db (Piece.ran s r) (Piece.kept name) e h = absurd (cc)
answer_same db (Piece.kept name) (Piece.ran s r) e h = absurd (cc)
answer_same db (Piece.kept name) (Piece.kept other) e h = tt

work_answers : (db : Database) (ps qs : List Piece) → trees ps ≡ trees qs → WorkAnswers db ps → WorkAnswers db qs
work_answers db [] [] e h = tt
work_answers db [] (q ∷ qs) e h = absurd (cc)
work_answers db (p ∷ ps) [] e h = absurd (cc)
work_answers db (p ∷ ps) (q ∷ qs) e h =
    let rest : trees ps ≡ trees qs = cc in
    let here = answer_same (after_work db ps) p q (cc) h.1 in
    (work_answers db ps qs rest h.0, subst (λ (d : Database). AnswersOver d q) (work_same db ps qs rest) here)

works_answer : (db : Database) (xs ys : List (List Piece)) → map trees xs ≡ map trees ys → WorksAnswer db xs → WorksAnswer db ys
works_answer db [] [] e h = tt
works_answer db [] (y ∷ ys) e h = absurd (cc)
works_answer db (x ∷ xs) [] e h = absurd (cc)
works_answer db (x ∷ xs) (y ∷ ys) e h =
    let rest : map trees xs ≡ map trees ys = cc in
    let here = work_answers (alone db xs) x y (cc) h.1 in
    (works_answer db xs ys rest h.0, subst (λ (d : Database). WorkAnswers d y) (alone_same db xs ys rest) here)

pub one_replay : (past : List Event) (xs ys : List (List Piece)) (db : Database) → AreWorks Spells (λ s. None) past xs
    → AreWorks Spells (λ s. None) past ys → WorksAnswer db xs → WorksAnswer db ys × (alone db xs ≡ alone db ys)
one_replay past xs ys db d k h =
    let same = works_one (λ s. None) past xs ys d k in (works_answer db xs ys same h, alone_same db xs ys same)
