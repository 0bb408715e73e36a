-- The spot of a key when records appear and go.
use Rattle.std.proofs.Common.{◌≡◌, ◌≢◌, ◌∙◌, ℕ, true, false, List, [], ◌∷◌, ◌⊎◌, inl, inr, refl, sym, ap, subst}
use Rattle.std.specs.Prelude.{◌||◌, not, nat_eq, cond, Option, None, Some}
use Rattle.std.specs.List.{list_any, list_all}
use Rattle.std.specs.Cmp.Lexicographic.{pointwise, bytes_decides}
use Rattle.lock_rules.specs.Coverage.{is_below, is_before, is_in_gap, stands_in, without_record}
use Rattle.lock_rules.proofs.Booleans.{first, second, both, or_left, or_right, or_cases, or_false-left, or_false-right, implies, implied, true_false, split}
use Rattle.lock_table.proofs.Covering.{below_trans, not_both, one_of, before_trans}
use Rattle.law_locks.specs.Guards.{IsSpotOf}

-- ---- what lies in a gap

-- a record that stands
abbrev pub Stands : List (List ℕ) → List ℕ → Type 0
Stands records key = stands_in records (Some key) ≡ true

pub in_gap-before : (records : List (List ℕ)) (spot : Option (List ℕ)) (key : List ℕ) → is_in_gap records spot key ≡ true → is_before key spot ≡ true
in_gap-before records spot key h = first (is_before key spot) _ h

all_behind : (records : List (List ℕ)) (spot : Option (List ℕ)) (key q : List ℕ) → list_all (λ r. not (is_before r spot) || is_below r key) records ≡ true
    → Stands records q → is_before q spot ≡ true → is_below q key ≡ true
all_behind [] spot key q all stands before = cc
all_behind (r ∷ records) spot key q all stands before =
    elim (or_cases (pointwise nat_eq r q) _ stands) [
      | inl same ↦ subst (λ (k : List ℕ). is_below k key ≡ true) ((bytes_decides r q).0 same)
          (implies (is_before r spot) (is_below r key) (first _ _ all) (ap (λ (k : List ℕ). is_before k spot) ((bytes_decides r q).0 same) ∙ before))
      | inr rest ↦ all_behind records spot key q (second (not (is_before r spot) || is_below r key) _ all) rest before
    ]

-- each record before the spot lies below the key
pub in_gap-behind : (records : List (List ℕ)) (spot : Option (List ℕ)) (key q : List ℕ) → is_in_gap records spot key ≡ true → Stands records q
    → is_before q spot ≡ true → is_below q key ≡ true
in_gap-behind records spot key q h stands before = all_behind records spot key q (second (is_before key spot) _ h) stands before

behind_all : (records : List (List ℕ)) (spot : Option (List ℕ)) (key : List ℕ)
    → ((q : List ℕ) → Stands records q → is_before q spot ≡ true → is_below q key ≡ true)
    → list_all (λ r. not (is_before r spot) || is_below r key) records ≡ true
behind_all [] spot key each = refl
behind_all (r ∷ records) spot key each =
    both _ _ (implied (is_before r spot) (is_below r key) (each r (or_left _ _ ((bytes_decides r r).1 refl))))
    (behind_all records spot key (λ q stands before. each q (or_right (pointwise nat_eq r q) _ stands) before))

pub in_gap-from : (records : List (List ℕ)) (spot : Option (List ℕ)) (key : List ℕ) → is_before key spot ≡ true
    → ((q : List ℕ) → Stands records q → is_before q spot ≡ true → is_below q key ≡ true) → is_in_gap records spot key ≡ true
in_gap-from records spot key before each = both _ _ before (behind_all records spot key each)

-- a gap among fewer records
pub in_gap-fewer : (old new : List (List ℕ)) (spot : Option (List ℕ)) (key : List ℕ) → ((q : List ℕ) → Stands new q → Stands old q)
    → is_in_gap old spot key ≡ true → is_in_gap new spot key ≡ true
in_gap-fewer old new spot key fewer h =
    in_gap-from new spot key (in_gap-before old spot key h) (λ q stands before. in_gap-behind old spot key q h (fewer q stands) before)

-- ---- one spot

pub not_itself : (a : List ℕ) → is_below a a ≡ true → ⊥
not_itself a h = not_both a a h h

-- two spots in whose gap a key lies are one
pub one_gap : (records : List (List ℕ)) (key : List ℕ) (a b : Option (List ℕ)) → stands_in records a ≡ true → stands_in records b ≡ true
    → is_in_gap records a key ≡ true → is_in_gap records b key ≡ true → a ≡ b
one_gap records key None None sa sb ga gb = refl
one_gap records key None (Some b) sa sb ga gb =
    absurd (not_both b key (in_gap-behind records None key b ga sb refl) (in_gap-before records (Some b) key gb))
one_gap records key (Some a) None sa sb ga gb =
    absurd (not_both a key (in_gap-behind records None key a gb sa refl) (in_gap-before records (Some a) key ga))
one_gap records key (Some a) (Some b) sa sb ga gb =
    elim (one_of a b) [
      | inl less ↦ absurd (not_both a key (in_gap-behind records (Some b) key a gb sa less) (in_gap-before records (Some a) key ga))
      | inr other ↦ elim other [
        | inl same ↦ ap Some same
        | inr more ↦ absurd (not_both b key (in_gap-behind records (Some a) key b ga sb more) (in_gap-before records (Some b) key gb))
      ]
    ]

-- a key that lies in a gap has no record
pub new_not : (records : List (List ℕ)) (key : List ℕ) (spot : Option (List ℕ)) → is_in_gap records spot key ≡ true → Stands records key → ⊥
new_not records key spot gap stands = not_itself key (in_gap-behind records spot key key gap stands (in_gap-before records spot key gap))

-- each key has one spot alone
pub one_spot : (records : List (List ℕ)) (key : List ℕ) (a b : Option (List ℕ)) → IsSpotOf records key a → IsSpotOf records key b → a ≡ b
one_spot records key a b first second =
    elim first.at [
      | inl here ↦ elim second.at [
        | inl also ↦ here ∙ sym also
        | inr gap ↦ absurd (new_not records key b gap (subst (λ (s : Option (List ℕ)). stands_in records s ≡ true) here first.stands))
      ]
      | inr gap ↦ elim second.at [
        | inl also ↦ absurd (new_not records key a gap (subst (λ (s : Option (List ℕ)). stands_in records s ≡ true) also second.stands))
        | inr other ↦ one_gap records key a b first.stands second.stands gap other
      ]
    ]

one_more : (r : List ℕ) (records : List (List ℕ)) (spot : Option (List ℕ)) → stands_in records spot ≡ true → stands_in (r ∷ records) spot ≡ true
one_more r records None stands = refl
one_more r records (Some q) stands = or_right (pointwise nat_eq r q) _ stands

-- where no record of a key stands, the key lies in the gap before the least one above it, or before the supremum
record IsLeast (records : List (List ℕ)) (key : List ℕ) : Type 0 where
  spot : Option (List ℕ)
  stands : stands_in records spot ≡ true
  gap : is_in_gap records spot key ≡ true

least : (key : List ℕ) (records : List (List ℕ)) → stands_in records (Some key) ≡ false → IsLeast records key
least key [] absent = record { spot = None; stands = refl; gap = refl }
least key (r ∷ records) absent =
    let rest = least key records (or_false-right (pointwise nat_eq r key) _ absent) in
    elim (one_of r key) [
      | inl below ↦ record {
        spot = rest.spot;
        stands = one_more r records rest.spot rest.stands;
        gap = in_gap-from (r ∷ records) rest.spot key (in_gap-before records rest.spot key rest.gap) (λ q stands before.
            elim (or_cases (pointwise nat_eq r q) _ stands) [
              | inl same ↦ subst (λ (k : List ℕ). is_below k key ≡ true) ((bytes_decides r q).0 same) below
              | inr there ↦ in_gap-behind records rest.spot key q rest.gap there before
            ]);
      }
      | inr other ↦ elim other [
        | inl same ↦ absurd (true_false _ ((bytes_decides r key).1 same) (or_false-left (pointwise nat_eq r key) _ absent))
        | inr above ↦
            split (is_before r rest.spot)
            (λ before. record {
              spot = Some r;
              stands = or_left _ _ ((bytes_decides r r).1 refl);
              gap = in_gap-from (r ∷ records) (Some r) key above (λ q stands under.
                  elim (or_cases (pointwise nat_eq r q) _ stands) [
                    | inl same ↦ absurd (not_itself r (subst (λ (k : List ℕ). is_below k r ≡ true) (sym ((bytes_decides r q).0 same)) under))
                    | inr there ↦ in_gap-behind records rest.spot key q rest.gap there (before_trans q r rest.spot under before)
                  ]);
            })
            (λ not_before. record {
              spot = rest.spot;
              stands = one_more r records rest.spot rest.stands;
              gap = in_gap-from (r ∷ records) rest.spot key (in_gap-before records rest.spot key rest.gap) (λ q stands before.
                  elim (or_cases (pointwise nat_eq r q) _ stands) [
                    | inl same ↦ absurd (true_false _ (subst (λ (k : List ℕ). is_before k rest.spot ≡ true) (sym ((bytes_decides r q).0 same)) before)
                        not_before)
                    | inr there ↦ in_gap-behind records rest.spot key q rest.gap there before
                  ]);
            })
      ]
    ]

pub some_spot : (records : List (List ℕ)) (key : List ℕ) → (spot : Option (List ℕ)) × IsSpotOf records key spot
some_spot records key =
    split (stands_in records (Some key))
    (λ stands. (Some key, record { stands = stands; at = inl refl }))
    (λ absent. let found = least key records absent in (found.spot, record { stands = found.stands; at = inr found.gap }))

-- ---- a record is inserted before the next spot

module _ (records : List (List ℕ)) (new key : List ℕ) (next : Option (List ℕ)) (next_stands : stands_in records next ≡ true)
    (follows : is_in_gap records next new ≡ true) where
  -- the next spot was that of the new key
  pub new_spot : IsSpotOf records new next
  new_spot = record { stands = next_stands; at = inr follows }

  -- and of each key of which the new record is the spot now
  was_next : IsSpotOf (new ∷ records) key (Some new) → IsSpotOf records key next
  was_next now = elim now.at [
    | inl same ↦ subst (λ (k : List ℕ). IsSpotOf records k next) (let e : new ≡ key = cc in e) new_spot
    | inr gap ↦ record {
      stands = next_stands;
      at =
          inr (in_gap-from records next key (before_trans key new next (in_gap-before (new ∷ records) (Some new) key gap)
          (in_gap-before records next new follows))
          (λ q stands before. in_gap-behind (new ∷ records) (Some new) key q gap (or_right (pointwise nat_eq new q) _ stands)
          (in_gap-behind records next new q follows stands before)));
    }
  ]

  still_spot : (spot : Option (List ℕ)) → stands_in records spot ≡ true → IsSpotOf (new ∷ records) key spot → IsSpotOf records key spot
  still_spot spot stands now = record {
    stands = stands;
    at =
        elim now.at [
          | inl same ↦ inl same
          | inr gap ↦ inr
              (in_gap-fewer (new ∷ records) records spot key (λ q there. or_right (pointwise nat_eq new q) _ there) gap)
        ];
  }

  -- The spot of a key is what it was, or the new record, and was the next spot then.
  pub spot_before : (spot : Option (List ℕ)) → IsSpotOf (new ∷ records) key spot → IsSpotOf records key spot ⊎ ((spot ≡ Some new) × IsSpotOf records key next)
  spot_before None now = inl (still_spot None refl now)
  spot_before (Some r) now =
      elim (or_cases (pointwise nat_eq new r) _ now.stands) [
        | inl same ↦
            let is : new ≡ r = (bytes_decides new r).0 same in
            inr (ap Some (sym is), was_next (subst (λ (k : List ℕ). IsSpotOf (new ∷ records) key (Some k)) (sym is) now))
        | inr there ↦ inl (still_spot (Some r) there now)
      ]

-- ---- a record goes

module _ (gone : List ℕ) where
  pub stood : (records : List (List ℕ)) (q : List ℕ) → Stands (without_record gone records) q → Stands records q
  stood [] q stands = stands
  stood (r ∷ records) q stands =
      split (pointwise nat_eq r gone)
      (λ is. or_right (pointwise nat_eq r q) _ (stood records q
      (subst (λ b. list_any (λ k. pointwise nat_eq k q) (cond (not b) (r ∷ without_record gone records) (without_record gone records)) ≡ true) is stands)))
      (λ is_not. elim (or_cases (pointwise nat_eq r q) _
      (subst (λ b. list_any (λ k. pointwise nat_eq k q) (cond (not b) (r ∷ without_record gone records) (without_record gone records)) ≡ true) is_not
      stands)) [
        | inl same ↦ or_left _ _ same
        | inr rest ↦ or_right (pointwise nat_eq r q) _ (stood records q rest)
      ])

  pub stays : (records : List (List ℕ)) (q : List ℕ) → q ≢ gone → Stands records q → Stands (without_record gone records) q
  stays [] q differ stands = stands
  stays (r ∷ records) q differ stands =
      split (pointwise nat_eq r gone)
      (λ is. subst (λ b. list_any (λ k. pointwise nat_eq k q) (cond (not b) (r ∷ without_record gone records) (without_record gone records)) ≡ true) (sym is)
      (elim (or_cases (pointwise nat_eq r q) _ stands) [
        | inl same ↦ absurd (differ (sym ((bytes_decides r q).0 same) ∙ (bytes_decides r gone).0 is))
        | inr rest ↦ stays records q differ rest
      ]))
      (λ is_not. subst (λ b. list_any (λ k. pointwise nat_eq k q) (cond (not b) (r ∷ without_record gone records) (without_record gone records)) ≡ true)
      (sym is_not)
      (elim (or_cases (pointwise nat_eq r q) _ stands) [
        | inl same ↦ or_left _ _ same
        | inr rest ↦ or_right (pointwise nat_eq r q) _ (stays records q differ rest)
      ]))

  pub gone_not : (records : List (List ℕ)) → Stands (without_record gone records) gone → ⊥
  gone_not [] stands = cc
  gone_not (r ∷ records) stands =
      split (pointwise nat_eq r gone)
      (λ is. gone_not records (subst (λ b. list_any (λ k. pointwise nat_eq k gone)
      (cond (not b) (r ∷ without_record gone records) (without_record gone records)) ≡ true) is stands))
      (λ is_not. elim (or_cases (pointwise nat_eq r gone) _
      (subst (λ b. list_any (λ k. pointwise nat_eq k gone) (cond (not b) (r ∷ without_record gone records) (without_record gone records)) ≡ true) is_not
      stands)) [
        | inl same ↦ true_false _ same is_not
        | inr rest ↦ gone_not records rest
      ])

  module _ (records : List (List ℕ)) (next : Option (List ℕ)) (was : Stands records gone)
      (next_stands : stands_in (without_record gone records) next ≡ true) (follows : is_in_gap (without_record gone records) next gone ≡ true)
      (key : List ℕ) where
    abbrev left : List (List ℕ)
    left = without_record gone records

    spot_stood : (spot : Option (List ℕ)) → stands_in left spot ≡ true → stands_in records spot ≡ true
    spot_stood None stands = refl
    spot_stood (Some r) stands = stood records r stands

    -- where the record that goes does not come between the key and the spot
    same_spot_before : (spot : Option (List ℕ)) → IsSpotOf left key spot → (is_before gone spot ≡ true → is_below gone key ≡ true) → IsSpotOf records key spot
    same_spot_before spot now apart = record {
      stands = spot_stood spot now.stands;
      at = elim now.at [
        | inl same ↦ inl same
        | inr gap ↦ inr (in_gap-from records spot key (in_gap-before left spot key gap) (λ q stands before.
            split (pointwise nat_eq q gone)
            (λ is. subst (λ (k : List ℕ). is_below k key ≡ true) (sym ((bytes_decides q gone).0 is))
            (apart (subst (λ (k : List ℕ). is_before k spot ≡ true) ((bytes_decides q gone).0 is) before)))
            (λ is_not. in_gap-behind left spot key q gap (stays records q (λ e. true_false _ ((bytes_decides q gone).1 e) is_not) stands) before)))
      ];
    }

    abbrev WasGone : Option (List ℕ) → Type 0
    WasGone spot = (spot ≡ next) × IsSpotOf records key (Some gone)

    -- where it was the key's own record
    own_gone : (spot : Option (List ℕ)) → IsSpotOf left key spot → key ≡ gone → WasGone spot
    own_gone spot now same = elim now.at [
      | inl here ↦ absurd (gone_not records (subst (λ (s : Option (List ℕ)). stands_in left s ≡ true) (here ∙ ap Some same) now.stands))
      | inr gap ↦ (
        one_gap left gone spot next now.stands next_stands (subst (λ (k : List ℕ). is_in_gap left spot k ≡ true) same gap) follows,
        record { stands = was; at = inl (ap Some (sym same)) },
      )
    ]

    -- where it stood between the key and the spot
    between : (spot : Option (List ℕ)) → IsSpotOf left key spot → is_below key gone ≡ true → is_before gone spot ≡ true → WasGone spot
    between spot now less before = elim now.at [
      | inl here ↦ absurd (not_both gone key (subst (λ (s : Option (List ℕ)). is_before gone s ≡ true) here before) less)
      | inr gap ↦
          let below : (q : List ℕ) → Stands records q → is_before q (Some gone) ≡ true → is_below q key ≡ true =
          λ q stands under. in_gap-behind left spot key q gap
          (stays records q (λ e. not_itself gone (subst (λ (k : List ℕ). is_below k gone ≡ true) e under)) stands)
          (before_trans q gone spot under before) in (
            one_gap left gone spot next now.stands next_stands
                (in_gap-from left spot gone before (λ q stands under. below_trans q key gone (in_gap-behind left spot key q gap stands under) less)) follows,
            record { stands = was; at = inr (in_gap-from records (Some gone) key less below) },
          )
    ]

    -- The spot of a key is what it was, or the next spot now, and was the record that is gone.
    pub spot_after : (spot : Option (List ℕ)) → IsSpotOf left key spot → IsSpotOf records key spot ⊎ WasGone spot
    spot_after spot now =
        elim (one_of key gone) [
          | inl less ↦ split (is_before gone spot) (λ before. inr (between spot now less before))
              (λ not_before. inl (same_spot_before spot now (λ before. absurd (true_false _ before not_before))))
          | inr other ↦ elim other [
            | inl same ↦ inr (own_gone spot now same)
            | inr more ↦ inl (same_spot_before spot now (λ before. more))
          ]
        ]
