-- What more tokens make of what was read: an answer that left tokens over stays, and what was cut off can be finished.
use Rattle.std.proofs.Common.{◌≡◌, ℕ, List, [], ◌∷◌, ◌++◌, Result, Ok, Err, refl, sym, ◌∙◌, subst, append_assoc}
use Rattle.sql_grammar.specs.declared.token.Token.{Token}
use Rattle.sql_grammar.specs.Tokens.{AreTokens}
use Rattle.sql_conditions.specs.Parts.{◌>>=◌}

-- bytes that spell the tokens, whatever follows
abbrev pub Said : List Token → Type 0
Said us = (bytes : List ℕ) × ((rest : List ℕ) (more : List Token) → AreTokens rest more → AreTokens (bytes ++ rest) (us ++ more))

pub said_both : (us vs : List Token) → Said us → Said vs → Said (us ++ vs)
said_both us vs s t = (
  s.0 ++ t.0,
  (λ rest more a.
      subst (λ (ts : List Token). AreTokens ((s.0 ++ t.0) ++ rest) ts) (sym (append_assoc us vs more))
      (subst (λ (bs : List ℕ). AreTokens bs (us ++ (vs ++ more))) (sym (append_assoc s.0 t.0 rest)) (s.1 (t.0 ++ rest) (vs ++ more) (t.1 rest more a)))),
)

pub said_nothing : Said []
said_nothing = ([], λ rest more a. a)

-- what a reader gives of some tokens, and what it gives where more stand behind them, if they are such
pub data Stays {A X : Type 0} (make : A → List Token → X) (Fits : List Token → Type 0) (r : Result X (List Token))
    (more : List Token → Result X (List Token)) : Type 0 where
  took : (a : A) (t : Token) (rest : List Token) → r ≡ Ok (make a (t ∷ rest)) → ((zs : List Token) → more zs ≡ Ok (make a (t ∷ (rest ++ zs))))
      → Stays make Fits r more
  took_all : (a : A) → r ≡ Ok (make a []) → ((zs : List Token) → Fits zs → more zs ≡ Ok (make a zs)) → Stays make Fits r more
  faulty : (t : Token) (rest : List Token) → r ≡ Err (t ∷ rest) → ((zs : List Token) → more zs ≡ Err (t ∷ (rest ++ zs))) → Stays make Fits r more
  cut_off : (g : List Token) (a : A) → r ≡ Err [] → Said g → ((zs : List Token) → Fits zs → more (g ++ zs) ≡ Ok (make a zs)) → Stays make Fits r more

-- the same of a reader that nothing may follow
pub data Settles {A : Type 0} (r : Result A (List Token)) (more : List Token → Result A (List Token)) : Type 0 where
  whole : (a : A) → r ≡ Ok a → Settles r more
  wrong : (t : Token) (rest : List Token) → r ≡ Err (t ∷ rest) → ((zs : List Token) → more zs ≡ Err (t ∷ (rest ++ zs))) → Settles r more
  short : (g : List Token) (a : A) → r ≡ Err [] → Said g → more g ≡ Ok a → Settles r more

-- what a reader gives of nothing
pub data Starts {A X : Type 0} (make : A → List Token → X) (Before Fits : List Token → Type 0) (r : List Token → Result X (List Token)) : Type 0 where
  wanted : (g : List Token) (a : A) → r [] ≡ Err [] → Said g → ((zs : List Token) → Fits zs → Before (g ++ zs))
      → ((zs : List Token) → Fits zs → r (g ++ zs) ≡ Ok (make a zs)) → Starts make Before Fits r
  unsaid : (a : A) → r [] ≡ Ok (make a []) → ((zs : List Token) → Fits zs → Before zs) → ((zs : List Token) → Fits zs → r zs ≡ Ok (make a zs))
      → Starts make Before Fits r

pub data StartsLast {A : Type 0} (Before : List Token → Type 0) (r : List Token → Result A (List Token)) : Type 0 where
  last_wanted : (g : List Token) (a : A) → r [] ≡ Err [] → Said g → Before g → r g ≡ Ok a → StartsLast Before r
  last_unsaid : (a : A) → r [] ≡ Ok a → Before [] → StartsLast Before r

pub same_stays : {A X : Type 0} {make : A → List Token → X} {Fits : List Token → Type 0} {r s : Result X (List Token)}
    {more others : List Token → Result X (List Token)}
    → s ≡ r → ((zs : List Token) → others zs ≡ more zs) → Stays make Fits r more → Stays make Fits s others
same_stays e f (took a t rest h k) = took a t rest (e ∙ h) (λ zs. f zs ∙ k zs)
same_stays e f (took_all a h k) = took_all a (e ∙ h) (λ zs z. f zs ∙ k zs z)
same_stays e f (faulty t rest h k) = faulty t rest (e ∙ h) (λ zs. f zs ∙ k zs)
same_stays e f (cut_off g a h s k) = cut_off g a (e ∙ h) s (λ zs z. f (g ++ zs) ∙ k zs z)

pub same_settles : {A : Type 0} {r s : Result A (List Token)} {more others : List Token → Result A (List Token)}
    → s ≡ r → ((zs : List Token) → others zs ≡ more zs) → Settles r more → Settles s others
same_settles e f (whole a h) = whole a (e ∙ h)
same_settles e f (wrong t rest h k) = wrong t rest (e ∙ h) (λ zs. f zs ∙ k zs)
same_settles e f (short g a h s k) = short g a (e ∙ h) s (f g ∙ k)

-- a part that looks no further
pub reads : {A X : Type 0} {make : A → List Token → X} {Fits : List Token → Type 0} {r : Result X (List Token)} {more : List Token → Result X (List Token)}
    → (a : A) (rest : List Token) → r ≡ Ok (make a rest) → ((zs : List Token) → more zs ≡ Ok (make a (rest ++ zs))) → Stays make Fits r more
reads a [] h k = took_all a h (λ zs z. k zs)
reads a (t ∷ rest) h k = took a t rest h k

module _ {A B X Y : Type 0} {make : A → List Token → X} {form : B → List Token → Y} {Before Fits : List Token → Type 0} {r : Result X (List Token)}
    {more : List Token → Result X (List Token)} (k : X → Result Y (List Token)) where
  -- a part, and another one behind it
  pub then : Stays make Before r more
      → ((a : A) (t : Token) (rest : List Token) → r ≡ Ok (make a (t ∷ rest)) → Stays form Fits (k (make a (t ∷ rest))) (λ zs. k (make a (t ∷ (rest ++ zs)))))
      → ((a : A) → Starts form Before Fits (λ zs. k (make a zs))) → Stays form Fits (r >>= k) (λ zs. more zs >>= k)
  then (took a t rest h l) next start = same_stays (rw h refl) (λ zs. rw (l zs) refl) (next a t rest h)
  then (took_all a h l) next start = by_start (start a)
    where
      by_start : Starts form Before Fits (λ zs. k (make a zs)) → Stays form Fits (r >>= k) (λ zs. more zs >>= k)
      by_start (wanted g b e s before m) = cut_off g b (rw h e) s (λ zs z. rw (l (g ++ zs) (before zs z)) (m zs z))
      by_start (unsaid b e before m) = took_all b (rw h e) (λ zs z. rw (l zs (before zs z)) (m zs z))
  then (faulty t rest h l) next start = faulty t rest (rw h refl) (λ zs. rw (l zs) refl)
  then (cut_off f a h s l) next start = by_start (start a)
    where
      by_start : Starts form Before Fits (λ zs. k (make a zs)) → Stays form Fits (r >>= k) (λ zs. more zs >>= k)
      by_start (wanted g b e t before m) =
          cut_off (f ++ g) b (rw h refl) (said_both f g s t) (λ zs z. rw (append_assoc f g zs, l (g ++ zs) (before zs z)) (m zs z))
      by_start (unsaid b e before m) = cut_off f b (rw h refl) s (λ zs z. rw (l zs (before zs z)) (m zs z))

module _ {A B X : Type 0} {make : A → List Token → X} {Before : List Token → Type 0} {r : Result X (List Token)} {more : List Token → Result X (List Token)}
    (k : X → Result B (List Token)) where
  -- a part, and the last one behind it
  pub then_last : Stays make Before r more
      → ((a : A) (t : Token) (rest : List Token) → r ≡ Ok (make a (t ∷ rest)) → Settles (k (make a (t ∷ rest))) (λ zs. k (make a (t ∷ (rest ++ zs)))))
      → ((a : A) → StartsLast Before (λ zs. k (make a zs))) → Settles (r >>= k) (λ zs. more zs >>= k)
  then_last (took a t rest h l) next start = same_settles (rw h refl) (λ zs. rw (l zs) refl) (next a t rest h)
  then_last (took_all a h l) next start = by_start (start a)
    where
      by_start : StartsLast Before (λ zs. k (make a zs)) → Settles (r >>= k) (λ zs. more zs >>= k)
      by_start (last_wanted g b e s before m) = short g b (rw h e) s (rw (l g before) m)
      by_start (last_unsaid b e before) = whole b (rw h e)
  then_last (faulty t rest h l) next start = wrong t rest (rw h refl) (λ zs. rw (l zs) refl)
  then_last (cut_off f a h s l) next start = by_start (start a)
    where
      by_start : StartsLast Before (λ zs. k (make a zs)) → Settles (r >>= k) (λ zs. more zs >>= k)
      by_start (last_wanted g b e t before m) = short (f ++ g) b (rw h refl) (said_both f g s t) (rw (l g before) m)
      by_start (last_unsaid b e before) = short (f ++ []) b (rw h refl) (said_both f [] s said_nothing) (rw (l [] before) e)

-- what was read is put into another form
module _ {A B X Y : Type 0} {make : A → List Token → X} {form : B → List Token → Y} {Fits : List Token → Type 0} {r : Result X (List Token)}
    {more : List Token → Result X (List Token)} (k : X → Result Y (List Token)) (view : A → B)
    (is : (a : A) (zs : List Token) → k (make a zs) ≡ Ok (form (view a) zs)) where
  pub made_of : Stays make Fits r more → Stays form Fits (r >>= k) (λ zs. more zs >>= k)
  made_of s =
      then k s (λ a t rest e. took (view a) t rest (is a (t ∷ rest)) (λ zs. is a (t ∷ (rest ++ zs))))
      (λ a. unsaid (view a) (is a []) (λ zs z. z) (λ zs z. is a zs))

pub last_made_of : {A B : Type 0} {r : Result A (List Token)} {more : List Token → Result A (List Token)} (view : A → B) → Settles r more
    → Settles (r >>= λ a. Ok (view a)) (λ zs. more zs >>= λ a. Ok (view a))
last_made_of view (whole a h) = whole (view a) (rw h refl)
last_made_of view (wrong t rest h k) = wrong t rest (rw h refl) (λ zs. rw (k zs) refl)
last_made_of view (short g a h s k) = short g (view a) (rw h refl) s (rw k refl)
