-- Which bytes finish a token or a blank that is cut off.
use Rattle.std.proofs.Common.{◌≡◌, ℕ, suc, ◌+◌, List, [], ◌∷◌, ◌++◌, Option, Some, None, Bool, true, false, ◌&&◌, refl, ◌∙◌, ap, sym, arith, append_assoc}
use Rattle.std.specs.Prelude.{◌==◌}
use Rattle.std.specs.List.{prefix_len}
use Rattle.sql_grammar.specs.Tokens.{after_line, after_comment, with_front, quoted, doubled, text_in, closes, escapes, escaped, front_while}

-- ---- lines and comments

pub data LineCut (p : List ℕ) : Type 0 where
  ended : (q r : List ℕ) → p ≡ q ++ r → ((c : List ℕ) → after_line (p ++ c) ≡ r ++ c) → LineCut p
  open_line : ((tail : List ℕ) → after_line (p ++ (10 ∷ tail)) ≡ tail) → LineCut p

line_step : (b : ℕ) (p : List ℕ) (t : Bool) → (b == 10) ≡ t → LineCut p → LineCut (b ∷ p)
unfolding after_line
line_step b p true e h = ended (b ∷ []) p refl (λ c. rw e refl)
line_step b p false e (ended q r f g) = ended (b ∷ q) r (ap (λ (x : List ℕ). b ∷ x) f) (λ c. rw (e, g c) refl)
line_step b p false e (open_line g) = open_line (λ tail. rw (e, g tail) refl)

pub line_cut : (p : List ℕ) → LineCut p
unfolding after_line
line_cut [] = open_line (λ tail. refl)
line_cut (b ∷ p) = line_step b p (b == 10) refl (line_cut p)

pub data CommentCut (p : List ℕ) : Type 0 where
  ended : (q r : List ℕ) → p ≡ q ++ r → ((c : List ℕ) → after_comment (p ++ c) ≡ Some (r ++ c)) → CommentCut p
  open_comment : ((tail : List ℕ) → after_comment (p ++ (42 ∷ 47 ∷ tail)) ≡ Some tail) → CommentCut p

lone_step : (b : ℕ) (t : Bool) → (b == 42) ≡ t → (tail : List ℕ) → after_comment (b ∷ 42 ∷ 47 ∷ tail) ≡ Some tail
unfolding after_comment
lone_step b true e tail = rw e refl
lone_step b false e tail = rw e refl

comment_step : (b x : ℕ) (p : List ℕ) (t : Bool) → (b == 42 && x == 47) ≡ t → CommentCut (x ∷ p) → CommentCut (b ∷ x ∷ p)
unfolding after_comment
comment_step b x p true e h = ended (b ∷ x ∷ []) p refl (λ c. rw e refl)
comment_step b x p false e (ended q r f g) = ended (b ∷ q) r (ap (λ (y : List ℕ). b ∷ y) f) (λ c. rw e (g c))
comment_step b x p false e (open_comment g) = open_comment (λ tail. rw e (g tail))

pub comment_cut : (p : List ℕ) → CommentCut p
unfolding after_comment
comment_cut [] = open_comment (λ tail. refl)
comment_cut (b ∷ []) = open_comment (lone_step b (b == 42) refl)
comment_cut (b ∷ x ∷ p) = comment_step b x p (b == 42 && x == 47) refl (comment_cut (x ∷ p))

-- ---- runs

pub data Run (g : ℕ → Bool) (p : List ℕ) : Type 0 where
  stops : (q r : List ℕ) → p ≡ q ++ r → ((c : List ℕ) → front_while g (p ++ c) ≡ (q, r ++ c)) → Run g p
  goes : ((c : List ℕ) → front_while g (p ++ c) ≡ (p ++ (front_while g c).0, (front_while g c).1)) → Run g p

pub takes : (g : ℕ → Bool) (b : ℕ) (bs : List ℕ) → g b ≡ true → front_while g (b ∷ bs) ≡ (b ∷ (front_while g bs).0, (front_while g bs).1)
takes g b bs e = let h : 1 + prefix_len g bs ≡ suc (prefix_len g bs) = omega arith in rw (e, h) refl

pub leaves : (g : ℕ → Bool) (b : ℕ) (bs : List ℕ) → g b ≡ false → front_while g (b ∷ bs) ≡ ([], b ∷ bs)
leaves g b bs e = rw e refl

run_step : (g : ℕ → Bool) (b : ℕ) (p : List ℕ) (t : Bool) → g b ≡ t → Run g p → Run g (b ∷ p)
run_step g b p true e (stops q r f h) = stops (b ∷ q) r (ap (λ (y : List ℕ). b ∷ y) f) (λ c. takes g b (p ++ c) e ∙ ap (λ (x : List ℕ × List ℕ). (b ∷ x.0, x.1)) (h c))
run_step g b p true e (goes h) = goes (λ c. takes g b (p ++ c) e ∙ ap (λ (x : List ℕ × List ℕ). (b ∷ x.0, x.1)) (h c))
run_step g b p false e h = stops [] (b ∷ p) refl (λ c. leaves g b (p ++ c) e)

pub run : (g : ℕ → Bool) (p : List ℕ) → Run g p
run g [] = goes (λ c. refl)
run g (b ∷ p) = run_step g b p (g b) refl (run g p)

-- ---- quoted names

nothing_in_front : (x : Option (List ℕ × List ℕ)) → x ≡ with_front [] x
nothing_in_front None = refl
nothing_in_front (Some r) = refl

more_in_front : (xs ys : List ℕ) (x : Option (List ℕ × List ℕ)) → with_front xs (with_front ys x) ≡ with_front (xs ++ ys) x
more_in_front xs ys None = refl
more_in_front xs ys (Some r) = ap (λ (z : List ℕ). Some (z, r.1)) (sym (append_assoc xs ys r.0))

pub data QuoteCut (q : ℕ) (read : List ℕ → Option (List ℕ × List ℕ)) (p : List ℕ) : Type 0 where
  ended : (name front r : List ℕ) → p ≡ front ++ r → ((c : List ℕ) → read (p ++ c) ≡ Some (name, r ++ c)) → QuoteCut q read p
  at_quote : (name : List ℕ) → ((c : List ℕ) → read (p ++ c) ≡ with_front name (doubled q c)) → QuoteCut q read p
  unclosed : (name : List ℕ) → ((c : List ℕ) → read (p ++ c) ≡ with_front name (quoted q c)) → QuoteCut q read p

-- behind one more byte
quote_more : (q b : ℕ) (front : List ℕ) (read next : List ℕ → Option (List ℕ × List ℕ)) (p : List ℕ) → ((bs : List ℕ) → next (b ∷ bs) ≡ with_front front (read bs)) → QuoteCut q read p → QuoteCut q next (b ∷ p)
quote_more q b front read next p s (ended name begin r e h) =
    ended (front ++ name) (b ∷ begin) r (ap (λ (y : List ℕ). b ∷ y) e) (λ c. s (p ++ c) ∙ ap (λ (x : Option (List ℕ × List ℕ)). with_front front x) (h c))
quote_more q b front read next p s (at_quote name h) =
    at_quote (front ++ name) (λ c. s (p ++ c) ∙ ap (λ (x : Option (List ℕ × List ℕ)). with_front front x) (h c) ∙ more_in_front front name (doubled q c))
quote_more q b front read next p s (unclosed name h) =
    unclosed (front ++ name) (λ c. s (p ++ c) ∙ ap (λ (x : Option (List ℕ × List ℕ)). with_front front x) (h c) ∙ more_in_front front name (quoted q c))

-- the same behind a byte that adds nothing
quote_same : (q b : ℕ) (read next : List ℕ → Option (List ℕ × List ℕ)) (p : List ℕ) → ((bs : List ℕ) → next (b ∷ bs) ≡ read bs) → QuoteCut q read p → QuoteCut q next (b ∷ p)
quote_same q b read next p s h = quote_more q b [] read next p (λ bs. s bs ∙ nothing_in_front (read bs)) h

quoted_step : (q b : ℕ) (p : List ℕ) (t : Bool) → (b == q) ≡ t → QuoteCut q (quoted q) p → QuoteCut q (doubled q) p → QuoteCut q (quoted q) (b ∷ p)
unfolding quoted
quoted_step q b p true e h d = quote_same q b (doubled q) (quoted q) p (λ bs. rw e refl) d
quoted_step q b p false e h d = quote_more q b (b ∷ []) (quoted q) (quoted q) p (λ bs. rw e refl) h

doubled_step : (q b : ℕ) (p : List ℕ) (t : Bool) → (b == q) ≡ t → QuoteCut q (quoted q) p → QuoteCut q (doubled q) (b ∷ p)
unfolding quoted
doubled_step q b p true e h = quote_more q b (q ∷ []) (quoted q) (doubled q) p (λ bs. rw e refl) h
doubled_step q b p false e h = ended [] [] (b ∷ p) refl (λ c. rw e refl)

pub quote_cut : (q : ℕ) (p : List ℕ) → QuoteCut q (quoted q) p × QuoteCut q (doubled q) p
unfolding quoted
quote_cut q [] = (unclosed [] (λ c. nothing_in_front (quoted q c)), at_quote [] (λ c. nothing_in_front (doubled q c)))
quote_cut q (b ∷ p) = let h = quote_cut q p in (quoted_step q b p (b == q) refl h.0 h.1, doubled_step q b p (b == q) refl h.0)

-- ---- texts

pub data TextCut (q : ℕ) (read : List ℕ → Option (List ℕ × List ℕ)) (p : List ℕ) : Type 0 where
  ended : (text front r : List ℕ) → p ≡ front ++ r → ((c : List ℕ) → read (p ++ c) ≡ Some (text, r ++ c)) → TextCut q read p
  at_quote : (text : List ℕ) → ((c : List ℕ) → read (p ++ c) ≡ with_front text (closes q c)) → TextCut q read p
  unclosed : (text : List ℕ) → ((c : List ℕ) → read (p ++ c) ≡ with_front text (text_in q c)) → TextCut q read p
  escaping : (text : List ℕ) → ((c : List ℕ) → read (p ++ c) ≡ with_front text (escapes q c)) → TextCut q read p

text_more : (q b : ℕ) (front : List ℕ) (read next : List ℕ → Option (List ℕ × List ℕ)) (p : List ℕ) → ((bs : List ℕ) → next (b ∷ bs) ≡ with_front front (read bs)) → TextCut q read p → TextCut q next (b ∷ p)
text_more q b front read next p s (ended text begin r e h) =
    ended (front ++ text) (b ∷ begin) r (ap (λ (y : List ℕ). b ∷ y) e) (λ c. s (p ++ c) ∙ ap (λ (x : Option (List ℕ × List ℕ)). with_front front x) (h c))
text_more q b front read next p s (at_quote text h) =
    at_quote (front ++ text) (λ c. s (p ++ c) ∙ ap (λ (x : Option (List ℕ × List ℕ)). with_front front x) (h c) ∙ more_in_front front text (closes q c))
text_more q b front read next p s (unclosed text h) =
    unclosed (front ++ text) (λ c. s (p ++ c) ∙ ap (λ (x : Option (List ℕ × List ℕ)). with_front front x) (h c) ∙ more_in_front front text (text_in q c))
text_more q b front read next p s (escaping text h) =
    escaping (front ++ text) (λ c. s (p ++ c) ∙ ap (λ (x : Option (List ℕ × List ℕ)). with_front front x) (h c) ∙ more_in_front front text (escapes q c))

text_same : (q b : ℕ) (read next : List ℕ → Option (List ℕ × List ℕ)) (p : List ℕ) → ((bs : List ℕ) → next (b ∷ bs) ≡ read bs) → TextCut q read p → TextCut q next (b ∷ p)
text_same q b read next p s h = text_more q b [] read next p (λ bs. s bs ∙ nothing_in_front (read bs)) h

text_step : (q b : ℕ) (p : List ℕ) (t u : Bool) → (b == q) ≡ t → (b == 92) ≡ u → TextCut q (text_in q) p → TextCut q (closes q) p → TextCut q (escapes q) p → TextCut q (text_in q) (b ∷ p)
unfolding text_in
text_step q b p true u e f h k l = text_same q b (closes q) (text_in q) p (λ bs. rw e refl) k
text_step q b p false true e f h k l = text_same q b (escapes q) (text_in q) p (λ bs. rw (e, f) refl) l
text_step q b p false false e f h k l = text_more q b (b ∷ []) (text_in q) (text_in q) p (λ bs. rw (e, f) refl) h

closes_step : (q b : ℕ) (p : List ℕ) (t : Bool) → (b == q) ≡ t → TextCut q (text_in q) p → TextCut q (closes q) (b ∷ p)
unfolding text_in
closes_step q b p true e h = text_more q b (q ∷ []) (text_in q) (closes q) p (λ bs. rw e refl) h
closes_step q b p false e h = ended [] [] (b ∷ p) refl (λ c. rw e refl)

pub text_cut : (q : ℕ) (p : List ℕ) → TextCut q (text_in q) p × TextCut q (closes q) p × TextCut q (escapes q) p
unfolding text_in
text_cut q [] = (unclosed [] (λ c. nothing_in_front (text_in q c)), at_quote [] (λ c. nothing_in_front (closes q c)), escaping [] (λ c. nothing_in_front (escapes q c)))
text_cut q (b ∷ p) =
    let h = text_cut q p in
    (text_step q b p (b == q) (b == 92) refl refl h.0 h.1 h.2, closes_step q b p (b == q) refl h.0, text_more q b (escaped b) (text_in q) (escapes q) p (λ bs. refl) h.0)
