-- Of the same tokens one list of definitions is read, as CREATE TABLE has it. What may be left out of a definition
-- is told by what must stand behind it.
use Rattle.std.proofs.Common.{◌≡◌, ℕ, List, [], ◌∷◌, Option, Bool, refl, sym, ap, subst}
use Rattle.inno_types.specs.declared.stmt.DeclaredKind.{DeclaredKind}
use Rattle.inno_types.specs.declared.stmt.Definition.{Definition}
use Rattle.inno_types.specs.declared.stmt.Definition.TheVariants as definition
use Rattle.sql_grammar.specs.declared.token.Word.TheVariants as word
use Rattle.sql_grammar.specs.declared.token.Token.{Token}
use Rattle.sql_grammar.specs.declared.token.Token.TheVariants.{Key, Close, Comma}
use Rattle.sql_grammar.specs.Grammar.{Name, Commas, ColumnKind, Nullable, Primary, KeyWord, Bracketed, Define, IfNotExists}
use Rattle.sql_grammar.specs.Grammar as grammar
use Rattle.law_histories.proofs.Parts.{Same, behind, along, name_same, commas_one}

-- what stands behind a definition
abbrev EndsDefinition : List Token → Type 0
EndsDefinition (Comma ∷ rest) = Unit {0}
EndsDefinition (Close ∷ rest) = Unit {0}
EndsDefinition other = ⊥

-- neither NOT nor NULL
abbrev BeginsNoNull : List Token → Type 0
BeginsNoNull [] = Unit {0}
BeginsNoNull (Key word.Not ∷ rest) = ⊥
BeginsNoNull (Key word.Null ∷ rest) = ⊥
BeginsNoNull (other ∷ rest) = Unit {0}

kind_one : {xs ys zs : List Token} {a b : DeclaredKind} → ColumnKind xs a ys → ColumnKind xs b zs → Same a b ys zs
kind_one grammar.big_int grammar.big_int = (refl, refl)
kind_one grammar.var_binary grammar.var_binary = (refl, refl)

nullable_one : {xs ys zs : List Token} {a b : Option Bool} → Nullable xs a ys → Nullable xs b zs → BeginsNoNull ys → BeginsNoNull zs → Same a b ys zs
nullable_one grammar.unsaid grammar.unsaid h k = (refl, refl)
nullable_one grammar.unsaid grammar.not_null h k = absurd h
nullable_one grammar.unsaid grammar.null h k = absurd h
nullable_one grammar.not_null grammar.unsaid h k = absurd k
nullable_one grammar.not_null grammar.not_null h k = (refl, refl)
nullable_one grammar.null grammar.unsaid h k = absurd k
nullable_one grammar.null grammar.null h k = (refl, refl)

primary_one : {xs ys zs : List Token} {a b : Bool} → Primary xs a ys → Primary xs b zs → EndsDefinition ys → EndsDefinition zs → Same a b ys zs
primary_one grammar.unsaid grammar.unsaid h k = (refl, refl)
primary_one grammar.unsaid grammar.primary h k = absurd h
primary_one grammar.primary grammar.unsaid h k = absurd k
primary_one grammar.primary grammar.primary h k = (refl, refl)

ends_no_null : (xs : List Token) → EndsDefinition xs → BeginsNoNull xs
ends_no_null [] h = tt
ends_no_null (Comma ∷ rest) h = tt
ends_no_null (Close ∷ rest) h = tt
ends_no_null (other ∷ rest) h = absurd h

primary_no_null : {xs ys : List Token} {p : Bool} → Primary xs p ys → EndsDefinition ys → BeginsNoNull xs
primary_no_null {xs = xs} grammar.unsaid h = ends_no_null xs h
primary_no_null grammar.primary h = tt

bracketed_one : {xs ys zs : List Token} {a b : List ℕ} → Bracketed xs a ys → Bracketed xs b zs → Same a b ys zs
bracketed_one (grammar.bracketed n) (grammar.bracketed m) = let s = name_same refl n m in (s.0, behind s.1)

bracketed_same : {xs us ys zs : List Token} {a b : List ℕ} → xs ≡ us → Bracketed xs a ys → Bracketed us b zs → Same a b ys zs
bracketed_same e b c = along Bracketed (λ xs ys zs a b n m. bracketed_one n m) e b c

key_word_one : {xs ys zs : List Token} → KeyWord xs ys → KeyWord xs zs → ys ≡ zs
key_word_one grammar.key grammar.key = refl
key_word_one grammar.index grammar.index = refl

key_no_name : {A : Type 0} {xs ys zs : List Token} {name : List ℕ} → KeyWord xs ys → Name xs name zs → A
key_no_name grammar.key n = elim n [ ]
key_no_name grammar.index n = elim n [ ]

bracket_no_name : {A : Type 0} {xs us ys zs : List Token} {column name : List ℕ} → xs ≡ us → Bracketed xs column ys → Name us name zs → A
bracket_no_name e (grammar.bracketed c) grammar.bare = absurd (cc)
bracket_no_name e (grammar.bracketed c) grammar.quoted = absurd (cc)

column_one : {xs ys zs ws vs ps qs rs ts : List Token} {name other : List ℕ} {k l : DeclaredKind} {n m : Option Bool} {p q : Bool} → Name xs name ys
    → ColumnKind ys k zs → Nullable zs n ws → Primary ws p vs → Name xs other ps → ColumnKind ps l qs → Nullable qs m rs → Primary rs q ts
    → EndsDefinition vs → EndsDefinition ts → Same (definition.Column name k n p) (definition.Column other l m q) vs ts
column_one {rs = rs} {ts = ts} {m = m} {q = q} a b c d x y z w h i =
    let s = name_same refl a x in
    let t = along ColumnKind (λ xs ys zs a b k l. kind_one k l) s.1 b y in
    let u = nullable_one c (subst (λ (o : List Token). Nullable o m rs) (sym t.1) z) (primary_no_null d h) (primary_no_null w i) in
    let v = primary_one d (subst (λ (o : List Token). Primary o q ts) (sym u.1) w) h i in
    (cc, v.1)

define_one : {xs ys zs : List Token} {a b : Definition} → Define xs a ys → Define xs b zs → EndsDefinition ys → EndsDefinition zs → Same a b ys zs
define_one (grammar.column n k u p) (grammar.column m l v q) h i = column_one n k u p m l v q h i
define_one (grammar.column n k u p) (grammar.primary b) h i = elim n [ ]
define_one (grammar.column n k u p) (grammar.key w b) h i = key_no_name w n
define_one (grammar.column n k u p) (grammar.named_key w m b) h i = key_no_name w n
define_one (grammar.primary b) (grammar.column n k u p) h i = elim n [ ]
define_one (grammar.primary b) (grammar.primary c) h i = let s = bracketed_one b c in (ap definition.Primary s.0, s.1)
define_one (grammar.primary b) (grammar.key w c) h i = elim w [ ]
define_one (grammar.primary b) (grammar.named_key w n c) h i = elim w [ ]
define_one (grammar.key w b) (grammar.column n k u p) h i = key_no_name w n
define_one (grammar.key w b) (grammar.primary c) h i = elim w [ ]
define_one (grammar.key w b) (grammar.key v c) h i = let s = bracketed_same (key_word_one w v) b c in (cc, s.1)
define_one (grammar.key w b) (grammar.named_key v n c) h i = bracket_no_name (key_word_one w v) b n
define_one (grammar.named_key w n b) (grammar.column m k u p) h i = key_no_name w m
define_one (grammar.named_key w n b) (grammar.primary c) h i = elim w [ ]
define_one (grammar.named_key w n b) (grammar.key v c) h i = bracket_no_name (key_word_one v w) c n
define_one (grammar.named_key w n b) (grammar.named_key v m c) h i =
    let s = name_same (key_word_one w v) n m in let t = bracketed_same s.1 b c in (cc, t.1)

define_same : {xs us ys zs : List Token} {a b : Definition} → xs ≡ us → Define xs a ys → Define us b zs → EndsDefinition ys → EndsDefinition zs → Same a b ys zs
define_same {zs = zs} {b = b} e c d h i = define_one c (subst (λ (ts : List Token). Define ts b zs) (sym e) d) h i

pub definitions_same : {xs us ys zs : List Token} {a b : List Definition} → xs ≡ us → Commas Define xs a (Close ∷ ys) → Commas Define us b (Close ∷ zs)
    → Same a b (Close ∷ ys) (Close ∷ zs)
definitions_same e c d = commas_one Define EndsDefinition (λ ys. tt) (λ xs us ys zs a b e i j f g. define_same e i j f g) e c d tt tt tt tt

pub skips_one : {xs ys zs us vs : List Token} {a b : Bool} {table other : List ℕ} → IfNotExists xs a ys → IfNotExists xs b zs → Name ys table us
    → Name zs other vs → Same a b ys zs
skips_one grammar.unsaid grammar.unsaid n m = (refl, refl)
skips_one grammar.unsaid grammar.said n m = elim n [ ]
skips_one grammar.said grammar.unsaid n m = elim m [ ]
skips_one grammar.said grammar.said n m = (refl, refl)
