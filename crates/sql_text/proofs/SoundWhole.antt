-- What is read is spelled so: by the first words.
use Rattle.std.proofs.Common.{◌≡◌, ℕ, List, [], ◌∷◌, Some, Result, Ok, Err, IfOk, refl, sym, ap, ◌∙◌, subst}
use Rattle.inno_types.specs.declared.stmt.Stmt.{Stmt}
use Rattle.sql_grammar.specs.declared.token.Word.{Word}
use Rattle.sql_grammar.specs.declared.token.Word.TheVariants as word
use Rattle.sql_grammar.specs.declared.token.Token.{Token}
use Rattle.sql_grammar.specs.declared.token.Token.TheVariants.{Key, Bare}
use Rattle.sql_grammar.specs.Grammar.{Statement}
use Rattle.sql_conditions.specs.declared.refusal.Refusal.{Refusal}
use Rattle.sql_conditions.specs.Parts.{Gives, read_it}
use Rattle.sql_text.specs.Whole as whole
use Rattle.sql_text.specs.Whole.{first_of, behind_key, behind_word, statement_of}
use Rattle.sql_conditions.proofs.Refused.{fails_bind}
use Rattle.sql_simple_statements.proofs.Sound.{begin_sound, start_sound, commit_sound, rollback_sound, savepoint_statement_sound}

pub gives_unit : {A : Type 0} (result : Result A Refusal) (r : Result A (List Token)) → Gives (λ s. s) result r → Gives (λ _. tt) result (read_it r)
gives_unit (Ok s) r h = rw h refl
gives_unit (Err e) r h = fails_bind e r (λ a. Ok tt) h

pub gives_spelled : {A : Type 0} (result : Result A Refusal) (r : Result A (List Token)) (P : A → Type 0) → Gives (λ s. s) result r → IfOk r P → IfOk result P
gives_spelled (Ok s) r P h k = subst (λ (r : Result _ (List Token)). IfOk r P) h k
gives_spelled (Err e) r P h k = tt

word_sound : (w : Word) (name : List ℕ) (all xs : List Token) → IfOk (behind_word w all xs) (λ s. Statement (Bare (Some w) name ∷ xs) s)
unfolding behind_word
word_sound word.Begin name all xs = begin_sound name xs
word_sound word.Start name all xs = start_sound name xs
word_sound word.Commit name all xs = commit_sound name xs
word_sound word.Rollback name all xs = rollback_sound name xs
word_sound word.Savepoint name all xs = savepoint_statement_sound name xs
word_sound other name all xs = tt

key_first : (tokens rest : List Token) (w : Word) → first_of tokens ≡ whole.OfKey w rest → tokens ≡ Key w ∷ rest
unfolding first_of
key_first [] rest w e = cc
key_first (Key v ∷ tokens) rest w e = let one : v ≡ w = cc in let two : tokens ≡ rest = cc in ap (λ (x : Word). Key x ∷ tokens) one ∙ ap (λ (ts : List Token). Key w ∷ ts) two
key_first (Bare (Some v) name ∷ tokens) rest w e = cc
key_first (other ∷ tokens) rest w e = cc

bare_first : (tokens rest : List Token) (w : Word) → first_of tokens ≡ whole.OfBare w rest → (name : List ℕ) × (tokens ≡ Bare (Some w) name ∷ rest)
unfolding first_of
bare_first [] rest w e = cc
bare_first (Key v ∷ tokens) rest w e = cc
bare_first (Bare (Some v) name ∷ tokens) rest w e = let one : v ≡ w = cc in let two : tokens ≡ rest = cc in (name, ap (λ (x : Word). Bare (Some x) name ∷ tokens) one ∙ ap (λ (ts : List Token). Bare (Some w) name ∷ ts) two)
bare_first (other ∷ tokens) rest w e = cc

pub by_key : (result : Result Stmt Refusal) (tokens rest : List Token) (w : Word) → first_of tokens ≡ whole.OfKey w rest → Gives (λ _. tt) result (behind_key w tokens rest) → Gives (λ _. tt) result (statement_of tokens)
unfolding statement_of
by_key result tokens rest w e h = rw e h

pub key_spelled : (result : Result Stmt Refusal) (tokens rest : List Token) (w : Word) → first_of tokens ≡ whole.OfKey w rest → IfOk result (λ s. Statement (Key w ∷ rest) s) → IfOk result (λ s. Statement tokens s)
key_spelled result tokens rest w e h = subst (λ (ts : List Token). IfOk result (λ s. Statement ts s)) (sym (key_first tokens rest w e)) h

pub by_word : (result : Result Stmt Refusal) (tokens rest : List Token) (w : Word) → first_of tokens ≡ whole.OfBare w rest → Gives (λ s. s) result (behind_word w tokens rest) → Gives (λ _. tt) result (statement_of tokens)
unfolding statement_of
by_word result tokens rest w e h = rw e (gives_unit result (behind_word w tokens rest) h)

pub word_spelled : (result : Result Stmt Refusal) (tokens rest : List Token) (w : Word) → first_of tokens ≡ whole.OfBare w rest → Gives (λ s. s) result (behind_word w tokens rest) → IfOk result (λ s. Statement tokens s)
word_spelled result tokens rest w e h =
    let b = bare_first tokens rest w e in
    subst (λ (ts : List Token). IfOk result (λ s. Statement ts s)) (sym b.1) (gives_spelled result (behind_word w tokens rest) (λ s. Statement (Bare (Some w) b.0 ∷ rest) s) h (word_sound w b.0 tokens rest))

pub by_other : (tokens : List Token) → first_of tokens ≡ whole.OfOther → statement_of tokens ≡ Err tokens
unfolding statement_of
by_other tokens e = rw e refl
