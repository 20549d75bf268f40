-- Of records in a list, the first of the greatest is chosen, and the others are passed over for it (U6 of 02).
-- Assumes nothing.
use Prim.Native.Nat.{ℕ, zero, suc, ◌+◌, ◌≤◌, ◌<◌}
use native.Mathlib.Decide.{dec_lt, ℕ_discrete}
use native.Mathlib.Nat.{add-zero}
use native.Mathlib.Numerals.{add-one}
use native.Mathlib.Omega.{arith}
use mathlib.Core.Bool.{Bool, true, false, cond}
use mathlib.Core.List.{List, [], ◌∷◌}
use mathlib.Core.Logic.{◌⊎◌, inl, inr, ◌↔◌, ⊎_elim}
use mathlib.Core.Path.{◌≡◌, refl, sym, subst, ap, ◌∙◌}
use lib.Dec.{T}
use lib.ListN.{length, drop, drop_of_length-le}
use lib.Seq.{drop-cons}
use Rattle.schedule.specs.Rule.{Refusal}
use Rattle.schedule.specs.Answers.{Answer, accepted, refused}
use Rattle.schedule.specs.Exchange.{series, issue, withdrawn, flag_rule, wrapper_form}
use Rattle.schedule.specs.Exchange.{Outranks, outranks, along, standing, record_at, handed_back, both_of, pair_answer, pair_bytes}
use Rattle.laws.proofs.WrappedLaws.{outranks_sound, right_sound, series_sound, copy_sound}
use Rattle.laws.proofs.WrappedLaws.{is_right, one_series, none_other, turned, by_tests, along-step, standing-first, standing_lt}
use Rattle.demands.specs.Exchange.{StandsAmong, IsRight, Taken, IsChosen, IsRefused}
use Rattle.demands.specs.Exchange.{TurnedAway, nothing, wrapper, two_series, other_bytes}
use Rattle.demands.specs.Exchange.{OneAmong, OneStands, OthersPassedOver, PairsAreAnswered}

-- ---- rank

-- two records do not outrank each other
not_both : (x y : List ℕ) → Outranks x y → ¬ Outranks y x
not_both x y h k =
    ⊎_elim
    (λ a. ⊎_elim (λ b. omega (arith, a, b)) (λ b. omega (arith, a, b.0)) k)
    (λ a. ⊎_elim (λ b. omega (arith, a.0, b)) (λ b. omega (arith, a.1, b.1)) k)
    h

-- what outranks y outranks whatever does not outrank y
above_all : (z x y : List ℕ) → Outranks z y → ¬ Outranks x y → Outranks z x
above_all z x y h lower = ⊎_elim (λ l. inl (omega (arith, l, not-higher))) equal h
  where
    not-higher : ¬ (issue y < issue x)
    not-higher l = lower (inl l)

    equal : (issue y ≡ issue z) × (withdrawn y < withdrawn z) → Outranks z x
    equal g = elim (dec_lt (issue x) (issue z)) [
      | yes l ↦ inl l
      | no l ↦ (let same : issue x ≡ issue z = omega (arith, l, not-higher, g.0) in
          inr (
            same,
            (let not_above : ¬ (withdrawn y < withdrawn x) = λ b. lower (inr (g.0 ∙ sym same, b)) in
                omega (arith, not_above, g.1)),
          ))
    ]

-- ---- the one that stands among the first k

pub stands_once : (ws : List (List ℕ)) (k r s : ℕ) → StandsAmong ws k r → StandsAmong ws k s → r ≡ s
stands_once ws k r s h g = elim (dec_lt r s) [
  | yes l ↦ absurd (h.by_none s g.among (g.first r l))
  | no l ↦ elim (dec_lt s r) [
    | yes m ↦ absurd (g.by_none r h.among (h.first s m))
    | no m ↦ omega arith
  ]
]

-- the next one outranks it
stands_new : (ws : List (List ℕ)) (k r : ℕ) → StandsAmong ws k r → Outranks (record_at ws k) (record_at ws r)
    → StandsAmong ws (k + 1) k
stands_new ws k r h o = record {
  among = omega arith;
  by_none = λ j l. elim (dec_lt j k) [
    | yes b ↦ not_both (record_at ws k) (record_at ws j) (above j b)
    | no b ↦ (let e : j ≡ k = omega (arith, l) in
        subst (λ (i : ℕ). ¬ Outranks (record_at ws i) (record_at ws k)) (sym e)
        (λ z. not_both (record_at ws k) (record_at ws k) z z))
  ];
  first = above;
}
  where
    above : (j : ℕ) → j < k → Outranks (record_at ws k) (record_at ws j)
    above j b = above_all (record_at ws k) (record_at ws j) (record_at ws r) o (h.by_none j b)

-- or does not
stands_old : (ws : List (List ℕ)) (k r : ℕ) → StandsAmong ws k r → ¬ Outranks (record_at ws k) (record_at ws r)
    → StandsAmong ws (k + 1) r
stands_old ws k r h o = record {
  among = omega (arith, h.among);
  by_none = λ j l. elim (dec_lt j k) [
    | yes b ↦ h.by_none j b
    | no b ↦ (let e : j ≡ k = omega (arith, l) in
        subst (λ (i : ℕ). ¬ Outranks (record_at ws i) (record_at ws r)) (sym e) o)
  ];
  first = h.first;
}

-- among fewer it stands too
stands_fewer : (ws : List (List ℕ)) (n k r : ℕ) → StandsAmong ws n r → r < k → k ≤ n → StandsAmong ws k r
stands_fewer ws n k r h l m =
    record { among = l; by_none = λ j b. h.by_none j (omega (arith, b, m)); first = h.first }

stands-first : (ws : List (List ℕ)) → StandsAmong ws 1 0
stands-first ws = record {
  among = omega arith;
  by_none = λ j l.
      let e : j ≡ 0 = omega (arith, l) in
      subst (λ (i : ℕ). ¬ Outranks (record_at ws i) (record_at ws 0)) (sym e)
      (λ z. not_both (record_at ws 0) (record_at ws 0) z z);
  first = λ j l. absurd (omega (arith, l));
}

-- ---- along the list

-- a flag is 0 or 1
flag_of : (w : List ℕ) → IsRight w → withdrawn w ≤ 1
unfolding wrapper_form flag_rule
flag_of w h = h.1.1.0 0 0 (omega arith) (omega arith)

-- what the answer says
abbrev Says : List (List ℕ) → Answer ℕ → Type 0
Says ws (accepted r) = IsChosen ws r
Says ws (refused x) = IsRefused ws x

-- one more is taken
taken_next : (ws : List (List ℕ)) (k : ℕ) → ((j : ℕ) → j < k → Taken ws j) → Taken ws k → (j : ℕ) → j < k + 1 → Taken ws j
taken_next ws k t h j l = elim (dec_lt j k) [
  | yes b ↦ t j b
  | no b ↦ (let e : j ≡ k = omega (arith, l) in subst (Taken ws) (sym e) h)
]

-- record k is taken beside the one that stands before it
taken_beside : (ws : List (List ℕ)) (k r : ℕ) → StandsAmong ws k r
    → T (is_right (record_at ws k)) → T (one_series (record_at ws r) (record_at ws k))
    → T (none_other (record_at ws r) (record_at ws k)) → Taken ws k
taken_beside ws k r s right one copy = record {
  right = (right_sound w).0 right;
  of_one_series = λ q h. subst (λ (i : ℕ). series w ≡ series (record_at ws i)) (stands_once ws k r q s h) of_one_series;
  copies = λ q h.
      subst (λ (i : ℕ). issue w ≡ issue (record_at ws i) → withdrawn w ≡ withdrawn (record_at ws i) → w ≡ record_at ws i)
      (stands_once ws k r q s h) ((copy_sound x w).0 copy of_one_series);
}
  where
    x : List ℕ
    x = record_at ws r

    w : List ℕ
    w = record_at ws k

    of_one_series : series w ≡ series x
    of_one_series = (series_sound x w).0 one

-- or turned away by the first of the three that fails
turned_54 : (ws : List (List ℕ)) (k : ℕ) → k < length ws → ((j : ℕ) → j < k → Taken ws j)
    → ¬ T (is_right (record_at ws k)) → Says ws (turned 54 k)
turned_54 ws k l t wrong = record {
  taken = t;
  turned_away = wrapper refl l (λ h. wrong ((right_sound (record_at ws k)).1 h));
  no_column = refl;
}

turned_55 : (ws : List (List ℕ)) (k r : ℕ) → k < length ws → StandsAmong ws k r → ((j : ℕ) → j < k → Taken ws j)
    → T (is_right (record_at ws k)) → ¬ T (one_series (record_at ws r) (record_at ws k)) → Says ws (turned 55 k)
turned_55 ws k r l s t right other =
    let x : List ℕ = record_at ws r in
    let w : List ℕ = record_at ws k in
    record {
      taken = t;
      turned_away = two_series refl l ((right_sound w).0 right) r s (λ e. other ((series_sound x w).1 e));
      no_column = refl;
    }

turned_56 : (ws : List (List ℕ)) (k r : ℕ) → k < length ws → StandsAmong ws k r → ((j : ℕ) → j < k → Taken ws j)
    → T (is_right (record_at ws k)) → T (one_series (record_at ws r) (record_at ws k))
    → ¬ T (none_other (record_at ws r) (record_at ws k)) → Says ws (turned 56 k)
turned_56 ws k r l s t right one other = record {
  taken = t;
  turned_away = elim (ℕ_discrete (issue w) (issue x)) [
    | yes i ↦ elim (ℕ_discrete (withdrawn w) (withdrawn x)) [
      | yes f ↦ other_bytes refl l ((right_sound w).0 right) r s ((series_sound x w).0 one) i f
          (λ e. other (holds.1 (λ _ _ _. e)))
      | no f ↦ absurd (other (holds.1 (λ _ _ g. absurd (f g))))
    ]
    | no i ↦ absurd (other (holds.1 (λ _ g _. absurd (i g))))
  ];
  no_column = refl;
}
  where
    x : List ℕ
    x = record_at ws r

    w : List ℕ
    w = record_at ws k

    holds : T (none_other x w) ↔ (series w ≡ series x → issue w ≡ issue x → withdrawn w ≡ withdrawn x → w ≡ x)
    holds = copy_sound x w

-- the answer from record k on, with n of them left
walk : (ws : List (List ℕ)) (n k r : ℕ) → k + n ≡ length ws → StandsAmong ws k r → ((j : ℕ) → j < k → Taken ws j)
    → Says ws (along k r (record_at ws r) (drop k ws))
unfolding along
walk ws zero k r e s t =
    subst (λ (rest : List (List ℕ)). Says ws (along k r (record_at ws r) rest))
    (sym (drop_of_length-le ws {i = k} (omega (arith, e))))
    (record {
      taken = λ j l. t j (omega (arith, l, e));
      stands = subst (λ (i : ℕ). StandsAmong ws i r) (sym (add-zero k) ∙ e) s;
    })
walk ws (suc n) k r e s t =
    let l : k < length ws = omega (arith, e) in
    let x : List ℕ = record_at ws r in
    let w : List ℕ = record_at ws k in
    subst (λ (rest : List (List ℕ)). Says ws (along k r x rest))
    (sym (drop-cons ws k [] l ∙ ap (λ (i : ℕ). w ∷ drop i ws) (sym (add-one k))))
    (subst (Says ws) (sym (along-step k r x w (drop (k + 1) ws)))
    (by_tests (Says ws) (is_right w) (one_series x w) (none_other x w) (outranks w x) k
    (along (k + 1) k w (drop (k + 1) ws)) (along (k + 1) r x (drop (k + 1) ws))
    (turned_54 ws k l t)
    (turned_55 ws k r l s t)
    (turned_56 ws k r l s t)
    (λ h i j o.
    walk ws n (k + 1) k (omega (arith, e)) (stands_new ws k r s ((outranks_sound w x).0 o))
    (taken_next ws k t (taken_beside ws k r s h i j)))
    (λ h i j o.
    walk ws n (k + 1) r (omega (arith, e)) (stands_old ws k r s (λ z. o ((outranks_sound w x).1 z)))
    (taken_next ws k t (taken_beside ws k r s h i j)))))

-- of every list
pub answer-says : (ws : List (List ℕ)) → Says ws (standing ws)
unfolding standing
answer-says [] = record {
  taken = λ k l. absurd (omega (arith, l));
  turned_away = nothing refl refl refl;
  no_column = refl;
}
answer-says (w ∷ ws) = subst (Says (w ∷ ws)) (sym (standing-first w ws)) (by (is_right w) (λ t. t) (λ f. f))
  where
    all : List (List ℕ)
    all = w ∷ ws

    none_before : (j : ℕ) → j < 0 → Taken all j
    none_before j l = absurd (omega (arith, l))

    first-only : (j : ℕ) → j < 1 → j ≡ 0
    first-only j l = omega (arith, l)

    taken-first : T (is_right w) → (j : ℕ) → j < 1 → Taken all j
    taken-first t j l = subst (Taken all) (sym (first-only j l)) (record {
      right = (right_sound w).0 t;
      of_one_series = λ r h. absurd (omega (arith, h.among));
      copies = λ r h. absurd (omega (arith, h.among));
    })

    by : (right : Bool) → (T right → T (is_right w)) → ((¬ T right) → ¬ T (is_right w))
        → Says all (cond right (along 1 0 w ws) (turned 54 0))
    by true passed failed = walk all (length ws) 1 0 (omega arith) (stands-first all) (taken-first (passed tt))
    by false passed failed = turned_54 all 0 (omega arith) none_before (failed (λ t. t))

-- ---- and only then

-- what is taken is not turned away
not_taken : (ws : List (List ℕ)) (k number : ℕ) → TurnedAway ws k number → k < length ws → ¬ Taken ws k
not_taken ws k number (nothing n z e) l t = omega (arith, l, e)
not_taken ws k number (wrapper n _ wrong) l t = wrong t.right
not_taken ws k number (two_series n _ h r s wrong) l t = wrong (t.of_one_series r s)
not_taken ws k number (other_bytes n _ h r s i j f wrong) l t = wrong (t.copies r s j f)

-- a record is turned away by one number
one_number : (ws : List (List ℕ)) (k m n : ℕ) → TurnedAway ws k m → TurnedAway ws k n → m ≡ n
one_number ws k m n (nothing a _ _) (nothing b _ _) = a ∙ sym b
one_number ws k m n (nothing a _ z) (wrapper b l _) = absurd (omega (arith, z, l))
one_number ws k m n (nothing a _ z) (two_series b l _ _ _ _) = absurd (omega (arith, z, l))
one_number ws k m n (nothing a _ z) (other_bytes b l _ _ _ _ _ _ _) = absurd (omega (arith, z, l))
one_number ws k m n (wrapper a l _) (nothing b _ z) = absurd (omega (arith, z, l))
one_number ws k m n (wrapper a _ _) (wrapper b _ _) = a ∙ sym b
one_number ws k m n (wrapper a _ wrong) (two_series b _ h _ _ _) = absurd (wrong h)
one_number ws k m n (wrapper a _ wrong) (other_bytes b _ h _ _ _ _ _ _) = absurd (wrong h)
one_number ws k m n (two_series a l _ _ _ _) (nothing b _ z) = absurd (omega (arith, z, l))
one_number ws k m n (two_series a _ h _ _ _) (wrapper b _ wrong) = absurd (wrong h)
one_number ws k m n (two_series a _ _ _ _ _) (two_series b _ _ _ _ _) = a ∙ sym b
one_number ws k m n (two_series a _ _ r s wrong) (other_bytes b _ _ q g e _ _ _) =
    absurd (wrong (subst (λ (i : ℕ). series (record_at ws k) ≡ series (record_at ws i)) (stands_once ws k q r g s) e))
one_number ws k m n (other_bytes a l _ _ _ _ _ _ _) (nothing b _ z) = absurd (omega (arith, z, l))
one_number ws k m n (other_bytes a _ h _ _ _ _ _ _) (wrapper b _ wrong) = absurd (wrong h)
one_number ws k m n (other_bytes a _ _ q g e _ _ _) (two_series b _ _ r s wrong) =
    absurd (wrong (subst (λ (i : ℕ). series (record_at ws k) ≡ series (record_at ws i)) (stands_once ws k q r g s) e))
one_number ws k m n (other_bytes a _ _ _ _ _ _ _ _) (other_bytes b _ _ _ _ _ _ _ _) = a ∙ sym b

-- there is a record to be turned away, or none at all
turned_in : (ws : List (List ℕ)) (k number : ℕ) → TurnedAway ws k number → (k < length ws) ⊎ ((k ≡ 0) × (length ws ≡ 0))
turned_in ws k number (nothing _ z e) = inr (z, e)
turned_in ws k number (wrapper _ l _) = inl l
turned_in ws k number (two_series _ l _ _ _ _) = inl l
turned_in ws k number (other_bytes _ l _ _ _ _ _ _ _) = inl l

-- not both
not_chosen : (ws : List (List ℕ)) (x : Refusal) (r : ℕ) → IsRefused ws x → ¬ IsChosen ws r
not_chosen ws x r h c =
    ⊎_elim
    (λ l. not_taken ws x.A x.number h.turned_away l (c.taken x.A l))
    (λ e. omega (arith, e.1, c.stands.among))
    (turned_in ws x.A x.number h.turned_away)

-- the first refusal is one
not_earlier : (ws : List (List ℕ)) (x y : Refusal) → IsRefused ws x → IsRefused ws y → ¬ (x.A < y.A)
not_earlier ws x y h g l =
    ⊎_elim
    (λ i. not_taken ws x.A x.number h.turned_away i (g.taken x.A l))
    (λ e. ⊎_elim (λ i. omega (arith, i, e.1)) (λ z. omega (arith, l, z.0)) (turned_in ws y.A y.number g.turned_away))
    (turned_in ws x.A x.number h.turned_away)

one_refusal : (ws : List (List ℕ)) (x y : Refusal) → IsRefused ws x → IsRefused ws y → x ≡ y
one_refusal ws x y h g =
    let a : x.A ≡ y.A = omega (arith, not_earlier ws y x g h, not_earlier ws x y h g) in
    let number : x.number ≡ y.number =
    one_number ws y.A x.number y.number
    (subst (λ (k : ℕ). TurnedAway ws k x.number) a h.turned_away) g.turned_away in
    let b : x.B ≡ y.B = h.no_column ∙ sym g.no_column in
    (λ i. record { number = number i; A = a i; B = b i })

pub one_stands : OneStands
one_stands ws = (
  λ r. (λ e. subst (Says ws) e (answer-says ws), only-chosen r (standing ws) (answer-says ws)),
  λ x. (λ e. subst (Says ws) e (answer-says ws), only-refused x (standing ws) (answer-says ws)),
)
  where
    only-chosen : (r : ℕ) (a : Answer ℕ) → Says ws a → IsChosen ws r → a ≡ accepted r
    only-chosen r (accepted s) h c = ap accepted (stands_once ws (length ws) s r h.stands c.stands)
    only-chosen r (refused x) h c = absurd (not_chosen ws x r h c)

    only-refused : (x : Refusal) (a : Answer ℕ) → Says ws a → IsRefused ws x → a ≡ refused x
    only-refused x (accepted s) h g = absurd (not_chosen ws x s g h)
    only-refused x (refused y) h g = ap refused (one_refusal ws y x h g)

-- ---- the others

-- one stands among the first k + 1
stands-some : (ws : List (List ℕ)) (k : ℕ) → (r : ℕ) × StandsAmong ws (suc k) r
stands-some ws zero = (0, stands-first ws)
stands-some ws (suc k) = after (stands-some ws k)
  where
    w : List ℕ
    w = record_at ws (suc k)

    after : (r : ℕ) × StandsAmong ws (suc k) r → (r : ℕ) × StandsAmong ws (suc (suc k)) r
    after found = by (outranks w (record_at ws found.0)) (outranks_sound w (record_at ws found.0))
      where
        by : (o : Bool) → T o ↔ Outranks w (record_at ws found.0) → (r : ℕ) × StandsAmong ws (suc (suc k)) r
        by true h = (
          suc k,
          subst (λ (n : ℕ). StandsAmong ws n (suc k)) (add-one (suc k))
              (stands_new ws (suc k) found.0 found.1 (h.0 tt)),
        )
        by false h = (
          found.0,
          subst (λ (n : ℕ). StandsAmong ws n found.0) (add-one (suc k))
              (stands_old ws (suc k) found.0 found.1 h.1),
        )

pub one_among : OneAmong
one_among ws zero l = absurd (omega (arith, l))
one_among ws (suc k) l =
    let found = stands-some ws k in
    (found.0, (found.1, λ s h. stands_once ws (suc k) s found.0 h found.1))

-- all are of the first one's series
series_of_first : (ws : List (List ℕ)) → ((k : ℕ) → k < length ws → Taken ws k)
    → (n k : ℕ) → k < n → k < length ws → series (record_at ws k) ≡ series (record_at ws 0)
series_of_first ws t zero k l m = absurd (omega (arith, l))
series_of_first ws t (suc n) zero l m = refl
series_of_first ws t (suc n) (suc k) l m =
    let found = stands-some ws k in
    let r : ℕ = found.0 in
    (t (suc k) m).of_one_series r found.1
    ∙ series_of_first ws t n r (omega (arith, l, found.1.among)) (omega (arith, m, found.1.among))

pub others-passed_over : OthersPassedOver
others-passed_over ws r e k l = record {
  of_one_series = of_first k l ∙ sym (of_first r c.stands.among);
  not_above = c.stands.by_none k l;
  copies = copies;
  withdrawn_only_for = λ f. elim (dec_lt (issue w) (issue x)) [
    | yes b ↦ inl b
    | no b ↦ inr (only_equal f (highest b))
  ];
}
  where
    c : IsChosen ws r
    c = ((one_stands ws).0 r).0 e

    x : List ℕ
    x = record_at ws r

    w : List ℕ
    w = record_at ws k

    of_first : (j : ℕ) → j < length ws → series (record_at ws j) ≡ series (record_at ws 0)
    of_first j m = series_of_first ws c.taken (suc j) j (omega arith) m

    same_number : ¬ (r < k) → ¬ (k < r) → k ≡ r
    same_number b a = omega (arith, b, a)

    copies : issue w ≡ issue x → withdrawn w ≡ withdrawn x → w ≡ x
    copies i f = elim (dec_lt r k) [
      | yes b ↦ (c.taken k l).copies r (stands_fewer ws (length ws) k r c.stands b (omega (arith, l))) i f
      | no b ↦ elim (dec_lt k r) [
        | yes a ↦ absurd (⊎_elim (λ z. omega (arith, i, z)) (λ z. omega (arith, f, z.1)) (c.stands.first k a))
        | no a ↦ ap (record_at ws) (same_number b a)
      ]
    ]

    highest : ¬ (issue w < issue x) → issue w ≡ issue x
    highest lower = elim (dec_lt (issue x) (issue w)) [
      | yes b ↦ absurd (c.stands.by_none k l (inl b))
      | no b ↦ omega (arith, lower, b)
    ]

    flag : withdrawn x ≤ 1
    flag = flag_of x (c.taken r c.stands.among).right

    only_equal : withdrawn w ≡ 1 → issue w ≡ issue x → w ≡ x
    only_equal f i = copies i (elim (dec_lt (withdrawn x) (withdrawn w)) [
      | yes b ↦ absurd (c.stands.by_none k l (inr (sym i, b)))
      | no b ↦ omega (arith, flag, f)
    ])

-- ---- a pair

pub pairs_are_answered : PairsAreAnswered
unfolding pair_answer pair_bytes handed_back
pairs_are_answered x y = record {
  first = ap (handed_back (both_of x y));
  second = ap (handed_back (both_of x y));
  no_other = standing_lt (both_of x y);
  nothing = λ z. ap (handed_back (both_of x y));
  stands = (one_stands (both_of x y)).0;
  turned_away = (one_stands (both_of x y)).1;
}
