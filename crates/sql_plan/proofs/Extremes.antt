-- The first of some literals, by a test, does not go behind a value that equals one of them.
use Rattle.std.proofs.Common.{◌≡◌, Bool, true, false, List, [], ◌∷◌, Option, Some, None, refl, sym, ap, ◌∙◌, subst, ◌⊎◌, inl, inr}
use Rattle.std.specs.Prelude.{if◌then◌else◌}
use Rattle.std.specs.List.{list_all}
use Rattle.std.specs.declared.cmp.Ordering.TheVariants.{Equal}
use Rattle.inno_types.specs.declared.value.Value.{Value}
use Rattle.inno_types.specs.declared.stmt.Comparison.TheVariants as is
use Rattle.inno_types.specs.declared.stmt.Literal.{Literal}
use Rattle.inno_db.specs.declared.data_type.DataType.{DataType}
use Rattle.inno_db.specs.declared.truth.Truth.{Truth}
use Rattle.inno_db.specs.declared.truth.Truth.TheVariants.{True, False, Unknown}
use Rattle.inno_db.specs.Database.{value_cmp}
use Rattle.inno_db.specs.Conditions.{is_null, compared, is_in, or_of, literal_value}
use Rattle.inno_db.specs.Typing.{literal_fits}
use Rattle.sql_plan.specs.Intervals.{former, first_of_all}
use Rattle.sql_plan.proofs.Order.{Precedes, equal_is}
use Rattle.sql_plan.proofs.Admitted.{has_type, and_both, typed_literal, is_met}

-- there is a value, of the type, that v does not go before
pub record IsReached (before : Value → Value → Bool) (type : DataType) (v : Value) (found : Option Value) : Type 0 where
  pub first : Value
  pub is : found ≡ Some first
  pub typed : has_type type first ≡ true
  pub not_before : before v first ≡ false

-- a value that may be missing has the type
abbrev pub MayHaveType : DataType → Option Value → Type 0
MayHaveType type None = Unit {0}
MayHaveType type (Some m) = has_type type m ≡ true

either : (a b : Truth) → or_of a b ≡ True → (a ≡ True) ⊎ (b ≡ True)
either True b e = inl refl
either False b e = inr e
either Unknown True e = inr refl
either Unknown False e = absurd cc
either Unknown Unknown e = absurd cc

-- NULL is in no list
pub among_present : (v : Value) (literals : List Literal) → is_in v literals ≡ True → is_null v ≡ false
among_present v [] e = absurd cc
among_present v (literal ∷ literals) e = elim (either (compared is.Equal v (literal_value literal)) (is_in v literals) e) [
  | inl same ↦ (is_met is.Equal v (literal_value literal) same).left
  | inr later ↦ among_present v literals later
]

module _ {before : Value → Value → Bool} (order : Precedes before) (type : DataType) (v : Value) where
  -- the one of two values that goes first is as good as the first of them
  former_kept : (b : Bool) (w m : Value) → before w m ≡ b → has_type type w ≡ true → has_type type m ≡ true → before v m ≡ false → IsReached before type v (Some (if b then w else m))
  former_kept true w m e w_typed m_typed not_before = record { first = w; is = refl; typed = w_typed; not_before = order.carried v w m e not_before }
  former_kept false w m e w_typed m_typed not_before = record { first = m; is = refl; typed = m_typed; not_before = not_before }

  step_kept : (b : Bool) (m : Value) (literal : Literal) → is_null (literal_value literal) ≡ b → literal_fits type literal ≡ true → has_type type m ≡ true → before v m ≡ false
      → IsReached before type v (if b then Some m else Some (former before (Some m) (literal_value literal)))
  step_kept true m literal e fits typed not_before = record { first = m; is = refl; typed = typed; not_before = not_before }
  step_kept false m literal e fits typed not_before =
      former_kept (before (literal_value literal) m) (literal_value literal) m refl (typed_literal type literal fits e) typed not_before

  -- once v does not go before what was found, it does not go before what is found later
  kept : (m : Value) (literals : List Literal) → has_type type m ≡ true → before v m ≡ false → list_all (literal_fits type) literals ≡ true → IsReached before type v (first_of_all before (Some m) literals)
  kept m [] typed not_before fit = record { first = m; is = refl; typed = typed; not_before = not_before }
  kept m (literal ∷ literals) typed not_before fit =
      let fits = and_both (literal_fits type literal) (list_all (literal_fits type) literals) fit in
      let step = step_kept (is_null (literal_value literal)) m literal refl fits.0 typed not_before in
      subst (λ (o : Option Value). IsReached before type v (first_of_all before o literals)) (sym step.is) (kept step.first literals step.typed step.not_before fits.1)

  -- a literal that equals v is met: whatever was found before
  meets : (o : Option Value) (w : Value) → MayHaveType type o → is_null w ≡ false → has_type type w ≡ true → value_cmp v w ≡ Equal → IsReached before type v (Some (former before o w))
  meets None w typed present w_typed same = record { first = w; is = refl; typed = w_typed; not_before = order.apart v w same }
  meets (Some m) w typed present w_typed same = by (before w m) refl
    where
      by : (b : Bool) → before w m ≡ b → IsReached before type v (Some (if b then w else m))
      by true e = record { first = w; is = refl; typed = w_typed; not_before = order.apart v w same }
      by false e = record { first = m; is = refl; typed = typed; not_before = order.alike v w m same ∙ e }

  former_typed : (b : Bool) (w m : Value) → has_type type w ≡ true → has_type type m ≡ true → has_type type (if b then w else m) ≡ true
  former_typed true w m w_typed m_typed = w_typed
  former_typed false w m w_typed m_typed = m_typed

  step_typed : (b : Bool) (o : Option Value) (literal : Literal) → is_null (literal_value literal) ≡ b → literal_fits type literal ≡ true → MayHaveType type o
      → MayHaveType type (if b then o else Some (former before o (literal_value literal)))
  step_typed true o literal e fits typed = typed
  step_typed false None literal e fits typed = typed_literal type literal fits e
  step_typed false (Some m) literal e fits typed = former_typed (before (literal_value literal) m) (literal_value literal) m (typed_literal type literal fits e) typed

  -- v equals one of the literals, so it does not go before the first of them
  pub reached : (o : Option Value) (literals : List Literal) → MayHaveType type o → list_all (literal_fits type) literals ≡ true → is_in v literals ≡ True → IsReached before type v (first_of_all before o literals)
  reached o [] typed fit e = absurd cc
  reached o (literal ∷ literals) typed fit e =
      let w = literal_value literal in
      let fits = and_both (literal_fits type literal) (list_all (literal_fits type) literals) fit in
      let next : Option Value = if is_null w then o else Some (former before o w) in
      elim (either (compared is.Equal v w) (is_in v literals) e) [
        | inl same ↦
            let met = is_met is.Equal v w same in
            let found = meets o w typed met.right (typed_literal type literal fits.0 met.right) (equal_is (value_cmp v w) met.met) in
            let is_next : next ≡ Some (former before o w) = ap (λ (b : Bool). if b then o else Some (former before o w)) met.right in
            subst (λ (n : Option Value). IsReached before type v (first_of_all before n literals)) (sym (is_next ∙ found.is)) (kept found.first literals found.typed found.not_before fits.1)
        | inr later ↦ reached next literals (step_typed (is_null w) o literal refl fits.0 typed) fits.1 later
      ]
