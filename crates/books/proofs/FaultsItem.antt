-- One element of a side: it is refused exactly by the fault of the smallest number. Assumes nothing.
use Rattle.std.proofs.Common.{◌≡◌, ℕ, ◌+◌, ◌<◌, ◌≤◌, false, ◌&&◌, ◌||◌, ◌⊎◌, List, [], ◌∷◌, ◌++◌, length, eqb, ltb, leb, Option, Some, None, Ok, Err, Result, sym, refl, ap, ap₂, ◌∙◌, subst, inl, inr, append-nil, arith}
use Rattle.std.specs.Bool.{Decides}
use Rattle.std.proofs.lemmas.Bool.{cases_Bool, cond_both, eqb-true, eqb-false, leb-true, leb-false, le-leb, ne_eqb}
use Rattle.std.proofs.lemmas.Bool.Decides.{Decides-eqb, Decides-ltb, Decides-or, Decides-and, not_from_Decides}
use Rattle.std.proofs.lemmas.List.{length-append}
use Rattle.sexp.specs.declared.refusals.Refusal.{Refusal}
use Rattle.sexp.specs.declared.refusals.Refusal.TheVariants.{UnknownSign, NameLength, WholeSegment, OtherSign, RuleLimit}
use Rattle.sexp.specs.Refusals.{number_of}
use Rattle.rules.specs.declared.signs.Sign.{Sign}
use Rattle.rules.specs.declared.signs.Sign.TheVariants.{Variable, Segment}
use Rattle.rules.specs.Complete.{In}
use Rattle.rules.specs.Patterns.{Slot, quote, sign_octet, firsts, segments}
use Rattle.books.specs.declared.checking.Side.{Side}
use Rattle.books.specs.declared.checking.Side.TheVariants.{Pattern, Template}
use Rattle.books.specs.Items.{Item}
use Rattle.books.specs.Scanning.{Seen, is_segment, differ, sign_of, crowded, scan_element, scan_new, scan_known, scan_name, scan_atom, scan_item}
use Rattle.rules.specs.Signs.{HasSign}
use Rattle.books.specs.Faults.{Writes, Named, Fault, name_before, written_by, names_before, FaultAt}
use Rattle.books.proofs.FaultsNames.{some_same, added, added_known, added_new, firsts_added, sign_in, sign_none, sign_told}

-- an element that writes no name, and has a sign where it is an atom
pub data Plain (i : Item) : Type 0 where
  a_list : i.atom ≡ None → Plain i
  constant : (os : List ℕ) → i.atom ≡ Some (quote ∷ os) → Plain i

-- what an element can be
pub data Shape (i : Item) : Type 0 where
  plain : Plain i → Shape i
  unsigned : (os : List ℕ) → i.atom ≡ Some os → (HasSign os → ⊥) → Shape i
  name : (s : Slot) → Writes i s → Shape i

sign_first : (o : ℕ) (os : List ℕ) → HasSign (o ∷ os) → (o ≡ 39) ⊎ ((o ≡ 58) ⊎ (o ≡ 33))
sign_first o os (inl e) = inl e
sign_first o os (inr h) = inr (go h.0 h.1)
  where
    go : (sign : Sign) → o ≡ sign_octet sign → (o ≡ 58) ⊎ (o ≡ 33)
    go Variable e = inl e
    go Segment e = inr e

pub shape : (i : Item) → Shape i
shape i = go i.atom refl
  where
    signed : (o : ℕ) (os : List ℕ) → i.atom ≡ Some (o ∷ os) → Shape i
    signed o os e = elim (cases_Bool (eqb o 39)) [
      | inl q ↦ plain (constant os (e ∙ ap (λ x. Some (x ∷ os)) (eqb-true o 39 q)))
      | inr nq ↦ elim (cases_Bool (eqb o 58)) [
        | inl v ↦ name (record { sign = Variable; name = os }) (e ∙ ap (λ x. Some (x ∷ os)) (eqb-true o 58 v))
        | inr nv ↦ elim (cases_Bool (eqb o 33)) [
          | inl s ↦ name (record { sign = Segment; name = os }) (e ∙ ap (λ x. Some (x ∷ os)) (eqb-true o 33 s))
          | inr ns ↦ unsigned (o ∷ os) e (λ h. elim (sign_first o os h) [
            | inl p ↦ eqb-false o 39 nq p
            | inr r ↦ elim r [ inl p ↦ eqb-false o 58 nv p | inr p ↦ eqb-false o 33 ns p ]
          ])
        ]
      ]
    ]

    go : (a : Option (List ℕ)) → i.atom ≡ a → Shape i
    go None e = plain (a_list e)
    go (Some []) e = unsigned [] e (λ h. h)
    go (Some (o ∷ os)) e = signed o os e

sign_same : (a b : Sign) → sign_octet a ≡ sign_octet b → a ≡ b
sign_same Variable Variable e = refl
sign_same Variable Segment e = absurd (omega arith)
sign_same Segment Variable e = absurd (omega arith)
sign_same Segment Segment e = refl

pub writes_same : (i : Item) (s t : Slot) → Writes i s → Writes i t → s ≡ t
writes_same i s t v w =
    let e : sign_octet s.sign ∷ s.name ≡ sign_octet t.sign ∷ t.name = some_same (sym v ∙ w) in
    ap₂ (λ x y. record { sign = x; name = y }) (sign_same s.sign t.sign cc) cc

pub plain_writes : (i : Item) (s : Slot) → Plain i → Writes i s → ⊥
plain_writes i s (a_list e) w = let z : None ≡ Some (sign_octet s.sign ∷ s.name) = sym e ∙ w in absurd cc
plain_writes i s (constant os e) w =
    let z : quote ∷ os ≡ sign_octet s.sign ∷ s.name = some_same (sym e ∙ w) in
    let y : 39 ≡ sign_octet s.sign = cc in
    go s.sign y
  where
    go : (g : Sign) → 39 ≡ sign_octet g → ⊥
    go Variable q = omega arith
    go Segment q = omega arith

pub plain_signed : (i : Item) (os : List ℕ) → Plain i → i.atom ≡ Some os → HasSign os
plain_signed i os (a_list e) w = let z : None ≡ Some os = sym e ∙ w in absurd cc
plain_signed i os (constant qs e) w = subst HasSign (some_same (sym e ∙ w)) (inl refl)

pub name_signed : (i : Item) (s : Slot) (os : List ℕ) → Writes i s → i.atom ≡ Some os → HasSign os
name_signed i s os v w = subst HasSign (some_same (sym v ∙ w)) (inr (s.sign, refl))

-- what becomes of each
scan_plain : (side : Side) (seen : Seen) (i : Item) → Plain i → scan_item side seen i ≡ scan_element seen i.place
scan_plain side seen i (a_list e) = rw (e, scan_item)
scan_plain side seen i (constant os e) = rw (e, scan_item)

scan_slot : (side : Side) (seen : Seen) (at : ℕ) (g : Sign) (os : List ℕ) → scan_atom side seen at (sign_octet g ∷ os) ≡ scan_name side seen at (record { sign = g; name = os })
scan_slot side seen at Variable os = refl
scan_slot side seen at Segment os = refl

scan_named : (side : Side) (seen : Seen) (i : Item) (s : Slot) → Writes i s → scan_item side seen i ≡ scan_name side seen i.place s
scan_named side seen i s w = rw (w, scan_item) (scan_slot side seen i.place s.sign s.name)

scan_no_sign : (side : Side) (seen : Seen) (at : ℕ) (os : List ℕ) → (HasSign os → ⊥) → scan_atom side seen at os ≡ Err (UnknownSign at)
scan_no_sign side seen at [] h = refl
scan_no_sign side seen at (o ∷ os) h =
    rw (ne_eqb o 39 (λ e. h (inl e)), ne_eqb o 58 (λ e. h (inr (Variable, e))), ne_eqb o 33 (λ e. h (inr (Segment, e))), scan_atom)

scan_unsigned : (side : Side) (seen : Seen) (i : Item) (os : List ℕ) → i.atom ≡ Some os → (HasSign os → ⊥) → scan_item side seen i ≡ Err (UnknownSign i.place)
scan_unsigned side seen i os e h = rw (e, scan_item) (scan_no_sign side seen i.place os h)

-- what is wrong with a name, where n elements stand in front of it, and these names of the pattern
abbrev Misnamed : Slot → Type 0
Misnamed s = (length s.name ≡ 0) ⊎ (32 < length s.name)

abbrev Whole : ℕ → Slot → Type 0
Whole n s = (s.sign ≡ Segment) × (n ≡ 0)

abbrev Other : List Slot → Slot → Type 0
Other names s = (sign : Sign) × In (record { sign = sign; name = s.name }) names × (sign ≡ s.sign → ⊥)

abbrev Crowded : List Slot → Slot → Type 0
Crowded names s = (16 ≤ length names) ⊎ ((s.sign ≡ Segment) × (4 ≤ segments names))

decides_misnamed : (s : Slot) → Decides (eqb (length s.name) 0 || ltb 32 (length s.name)) (Misnamed s)
decides_misnamed s = Decides-or _ _ (Decides-eqb (length s.name) 0) (Decides-ltb 32 (length s.name))

decides_segment : (g : Sign) → Decides (is_segment g) (g ≡ Segment)
decides_segment Variable = (λ e. absurd cc, λ e. absurd cc)
decides_segment Segment = (λ e. refl, λ e. refl)

decides_whole : (n : ℕ) (s : Slot) → Decides (is_segment s.sign && eqb n 0) (Whole n s)
decides_whole n s = Decides-and _ _ (decides_segment s.sign) (Decides-eqb n 0)

pub differ_tells : (a b : Sign) → Decides (differ a b) (a ≡ b → ⊥)
differ_tells Variable Variable = (λ e. absurd cc, λ h. absurd (h refl))
differ_tells Variable Segment = (λ e p. cc, λ h. refl)
differ_tells Segment Variable = (λ e p. cc, λ h. refl)
differ_tells Segment Segment = (λ e. absurd cc, λ h. absurd (h refl))

pub differ_same : (a b : Sign) → differ a b ≡ false → a ≡ b
differ_same Variable Variable e = refl
differ_same Variable Segment e = absurd cc
differ_same Segment Variable e = absurd cc
differ_same Segment Segment e = refl

decides_leb : (a b : ℕ) → Decides (leb a b) (a ≤ b)
decides_leb a b = (leb-true a b, le-leb a b)

decides_crowded : (s : Slot) (names : List Slot) → Decides (crowded s.sign names) (Crowded names s)
decides_crowded s names = Decides-or _ _ (decides_leb 16 (length names)) (Decides-and _ _ (decides_segment s.sign) (decides_leb 4 (segments names)))

module _ (side : Side) (n : ℕ) (names : List Slot) (i : Item) where
  -- every fault of the element has at least this number
  abbrev AtLeast : ℕ → Type 0
  AtLeast b = (j : Refusal) → Fault side n names i j → b ≤ number_of j

  least : AtLeast 5
  least j (Fault.unsigned e h) = omega arith
  least j (Fault.misnamed s w h) = omega arith
  least j (Fault.whole s w g z) = omega arith
  least j (Fault.other s w m h) = omega arith
  least j (Fault.large h) = omega arith
  least j (Fault.many_names s p w f h) = omega arith
  least j (Fault.many_segments s p w g f h) = omega arith
  least j (Fault.unbound s t w f) = omega arith

  least_plain : (b : ℕ) → Plain i → (256 ≤ n → b ≤ 9) → AtLeast b
  least_plain b p large j (Fault.unsigned {os} e h) = absurd (h (plain_signed i os p e))
  least_plain b p large j (Fault.misnamed s w h) = absurd (plain_writes i s p w)
  least_plain b p large j (Fault.whole s w g z) = absurd (plain_writes i s p w)
  least_plain b p large j (Fault.other s w m h) = absurd (plain_writes i s p w)
  least_plain b p large j (Fault.large h) = large h
  least_plain b p large j (Fault.many_names s q w f h) = absurd (plain_writes i s p w)
  least_plain b p large j (Fault.many_segments s q w g f h) = absurd (plain_writes i s p w)
  least_plain b p large j (Fault.unbound s t w f) = absurd (plain_writes i s p w)

  -- the faults of a name
  record Ways (s : Slot) (b : ℕ) : Type 0 where
    misnamed : Misnamed s → b ≤ 6
    whole : Whole n s → b ≤ 7
    other : Other names s → b ≤ 8
    large : 256 ≤ n → b ≤ 9
    many : side ≡ Pattern → (Named s.name names → ⊥) → Crowded names s → b ≤ 9
    unbound : side ≡ Template → (Named s.name names → ⊥) → b ≤ 10

  least_name : (s : Slot) (b : ℕ) → Writes i s → Ways s b → AtLeast b
  least_name s b v ways j (Fault.unsigned {os} e h) = absurd (h (name_signed i s os v e))
  least_name s b v ways j (Fault.misnamed t w h) = ways.misnamed (rw (writes_same i s t v w) h)
  least_name s b v ways j (Fault.whole t w g z) = ways.whole (rw (writes_same i s t v w) (g, z))
  least_name s b v ways j (Fault.other t {sign} w m h) = ways.other (rw (writes_same i s t v w) (sign, m, h))
  least_name s b v ways j (Fault.large h) = ways.large h
  least_name s b v ways j (Fault.many_names t q w f h) = ways.many q (rw (writes_same i s t v w) f) (inl h)
  least_name s b v ways j (Fault.many_segments t q w g f h) = ways.many q (rw (writes_same i s t v w) f) (rw (writes_same i s t v w) (inr (g, h)))
  least_name s b v ways j (Fault.unbound t q w f) = ways.unbound q (rw (writes_same i s t v w) f)

-- the names that an element adds
name_before-then : (os : List ℕ) (xs ys : List Slot) → name_before os (xs ++ ys) ≡ name_before os xs ++ ys
name_before-then [] xs ys = refl
name_before-then (o ∷ os) xs ys = elim (cases_Bool (eqb o 58)) [
  | inl e ↦ rw (e, name_before)
  | inr e ↦ elim (cases_Bool (eqb o 33)) [ inl h ↦ rw (e, h, name_before) | inr h ↦ rw (e, h, name_before) ]
]

pub written_then : (is js : List Item) → written_by (is ++ js) ≡ written_by is ++ written_by js
written_then [] js = refl
written_then (i ∷ is) js = go (written_then is js) i.atom refl
  where
    go : written_by (is ++ js) ≡ written_by is ++ written_by js → (a : Option (List ℕ)) → i.atom ≡ a → written_by ((i ∷ is) ++ js) ≡ written_by (i ∷ is) ++ written_by js
    go more None e = rw e more
    go more (Some os) e = rw e (ap (name_before os) more ∙ name_before-then os (written_by is) (written_by js))

pub plain_written : (i : Item) (is : List Item) → Plain i → written_by (i ∷ is) ≡ written_by is
plain_written i is (a_list e) = rw (e, written_by)
plain_written i is (constant os e) = rw (e, written_by)

slot_before : (g : Sign) (os : List ℕ) (ss : List Slot) → name_before (sign_octet g ∷ os) ss ≡ record { sign = g; name = os } ∷ ss
slot_before Variable os ss = refl
slot_before Segment os ss = refl

pub name_written : (i : Item) (s : Slot) (is : List Item) → Writes i s → written_by (i ∷ is) ≡ s ∷ written_by is
name_written i s is w = rw w (slot_before s.sign s.name (written_by is))

no_sign_before : (os : List ℕ) (ss : List Slot) → (HasSign os → ⊥) → name_before os ss ≡ ss
no_sign_before [] ss h = refl
no_sign_before (o ∷ os) ss h = rw (ne_eqb o 58 (λ e. h (inr (Variable, e))), ne_eqb o 33 (λ e. h (inr (Segment, e))), name_before)

pub unsigned_written : (i : Item) (os : List ℕ) (is : List Item) → i.atom ≡ Some os → (HasSign os → ⊥) → written_by (i ∷ is) ≡ written_by is
unsigned_written i os is e h = rw e (no_sign_before os (written_by is) h)

-- the names of the pattern behind an element
pub plain_behind : (side : Side) (pattern before : List Item) (i : Item) → Plain i → names_before side pattern (before ++ (i ∷ [])) ≡ names_before side pattern before
plain_behind Pattern pattern before i p = ap firsts (written_then before (i ∷ []) ∙ (ap (λ ss. written_by before ++ ss) (plain_written i [] p) ∙ append-nil (written_by before)))
plain_behind Template pattern before i p = refl

pub name_behind : (pattern before : List Item) (i : Item) (s : Slot) → Writes i s → names_before Pattern pattern (before ++ (i ∷ [])) ≡ added s (names_before Pattern pattern before)
name_behind pattern before i s w = ap firsts (written_then before (i ∷ []) ∙ ap (λ ss. written_by before ++ ss) (name_written i s [] w)) ∙ firsts_added (written_by before) s

pub known_behind : (side : Side) (pattern before : List Item) (i : Item) (s : Slot) (sign : Sign) → Writes i s → sign_of s.name (names_before side pattern before) ≡ Some sign
    → names_before side pattern (before ++ (i ∷ [])) ≡ names_before side pattern before
known_behind Pattern pattern before i s sign w e = name_behind pattern before i s w ∙ added_known s (firsts (written_by before)) sign e
known_behind Template pattern before i s sign w e = refl

one_sign : (side : Side) (pattern before : List Item) (s : Slot) → In s (names_before side pattern before) → sign_of s.name (names_before side pattern before) ≡ Some s.sign
one_sign Pattern pattern before s m = sign_told s (written_by before) m
one_sign Template pattern before s m = sign_told s (written_by pattern) m

-- what has been passed where these elements are behind
abbrev pub seen_at : Side → (pattern before : List Item) → Seen
seen_at side pattern before = record { elements = length before; names = names_before side pattern before }

-- an element's verdict: its fault of the smallest number; or it has none, and is behind
abbrev pub Judged : Side → (pattern before : List Item) → Item → Result Seen Refusal → Type 0
Judged side pattern before i (Err k) = FaultAt side pattern before i k × ((j : Refusal) → FaultAt side pattern before i j → number_of k ≤ number_of j)
Judged side pattern before i (Ok next) = ((j : Refusal) → FaultAt side pattern before i j → ⊥) × (next ≡ seen_at side pattern (before ++ (i ∷ [])))

-- no fault has a number above 10
most : (side : Side) (n : ℕ) (names : List Slot) (i : Item) (j : Refusal) → Fault side n names i j → number_of j ≤ 10
most side n names i j (Fault.unsigned e h) = omega arith
most side n names i j (Fault.misnamed s w h) = omega arith
most side n names i j (Fault.whole s w g z) = omega arith
most side n names i j (Fault.other s w m h) = omega arith
most side n names i j (Fault.large h) = omega arith
most side n names i j (Fault.many_names s p w f h) = omega arith
most side n names i j (Fault.many_segments s p w g f h) = omega arith
most side n names i j (Fault.unbound s t w f) = omega arith

module _ (side : Side) (pattern before : List Item) (i : Item) where
  abbrev names : List Slot
  names = names_before side pattern before

  no_fault : AtLeast side (length before) names i 11 → (j : Refusal) → FaultAt side pattern before i j → ⊥
  no_fault h j f = omega (arith, h j f, most side (length before) names i j f)

  one_more : length (before ++ (i ∷ [])) ≡ length before + 1
  one_more = length-append before (i ∷ [])

  judged_plain : Plain i → Judged side pattern before i (scan_element (seen_at side pattern before) i.place)
  judged_plain p = cond_both (leb 256 (length before)) _ _ (Judged side pattern before i)
      (λ e. (Fault.large (leb-true 256 (length before) e), least_plain side (length before) names i 9 p (λ h. omega arith)))
      (λ e. (
        no_fault (least_plain side (length before) names i 11 p (λ h. absurd (omega (arith, leb-false 256 (length before) e)))),
        ap₂ (λ x y. record { elements = x; names = y }) (sym one_more) (sym (plain_behind side pattern before i p)),
      ))

  module _ (s : Slot) (w : Writes i s) where
    judged_misnamed : Misnamed s → Judged side pattern before i (Err (NameLength i.place))
    judged_misnamed h = (
      Fault.misnamed s w h,
      least_name side (length before) names i s 6 w (record {
        misnamed = λ h. omega arith;
        whole = λ h. omega arith;
        other = λ h. omega arith;
        large = λ h. omega arith;
        many = λ q h c. omega arith;
        unbound = λ q h. omega arith;
      }),
    )

    module _ (fair : Misnamed s → ⊥) where
      judged_whole : Whole (length before) s → Judged side pattern before i (Err (WholeSegment i.place))
      judged_whole h = (
        Fault.whole s w h.0 h.1,
        least_name side (length before) names i s 7 w (record {
          misnamed = λ h. absurd (fair h);
          whole = λ h. omega arith;
          other = λ h. omega arith;
          large = λ h. omega arith;
          many = λ q h c. omega arith;
          unbound = λ q h. omega arith;
        }),
      )

      module _ (part : Whole (length before) s → ⊥) where
        judged_other : Other names s → Judged side pattern before i (Err (OtherSign i.place))
        judged_other h = (
          Fault.other s w h.1 h.2,
          least_name side (length before) names i s 8 w (record {
            misnamed = λ h. absurd (fair h);
            whole = λ h. absurd (part h);
            other = λ h. omega arith;
            large = λ h. omega arith;
            many = λ q h c. omega arith;
            unbound = λ q h. omega arith;
          }),
        )

        module _ (agrees : Other names s → ⊥) where
          judged_large : 256 ≤ length before → Judged side pattern before i (Err (RuleLimit i.place))
          judged_large h = (
            Fault.large h,
            least_name side (length before) names i s 9 w (record {
              misnamed = λ h. absurd (fair h);
              whole = λ h. absurd (part h);
              other = λ h. absurd (agrees h);
              large = λ h. omega arith;
              many = λ q h c. omega arith;
              unbound = λ q h. omega arith;
            }),
          )

          judged_element : Named s.name names → names_before side pattern (before ++ (i ∷ [])) ≡ names → Judged side pattern before i (scan_element (seen_at side pattern before) i.place)
          judged_element known same = cond_both (leb 256 (length before)) _ _ (Judged side pattern before i)
              (λ e. judged_large (leb-true 256 (length before) e))
              (λ e. (
                no_fault (least_name side (length before) names i s 11 w (record {
                  misnamed = λ h. absurd (fair h);
                  whole = λ h. absurd (part h);
                  other = λ h. absurd (agrees h);
                  large = λ h. absurd (omega (arith, leb-false 256 (length before) e));
                  many = λ q h c. absurd (h known);
                  unbound = λ q h. absurd (h known);
                })),
                ap₂ (λ x y. record { elements = x; names = y }) (sym one_more) (sym same),
              ))

        unnamed_agrees : sign_of s.name names ≡ None → Other names s → ⊥
        unnamed_agrees e h = sign_none s.name names e (record { sign = h.0; among = h.1 })

        known_agrees : (sign : Sign) → sign_of s.name names ≡ Some sign → sign ≡ s.sign → Other names s → ⊥
        known_agrees sign e p h = h.2 (some_same (sym (one_sign side pattern before (record { sign = h.0; name = s.name }) h.1) ∙ e) ∙ p)

        judged_known : (sign : Sign) → sign_of s.name names ≡ Some sign → Judged side pattern before i (scan_known side (seen_at side pattern before) i.place s (Some sign))
        judged_known sign e = cond_both (differ sign s.sign) _ _ (Judged side pattern before i)
            (λ d. judged_other (sign, sign_in s.name names sign e, (differ_tells sign s.sign).0 d))
            (λ d. judged_element (known_agrees sign e (differ_same sign s.sign d)) (record { sign = sign; among = sign_in s.name names sign e }) (known_behind side pattern before i s sign w e))

module _ (pattern before : List Item) (i : Item) (s : Slot) (w : Writes i s) (fair : Misnamed s → ⊥) (part : Whole (length before) s → ⊥) where
  judged_crowded : sign_of s.name (names_before Pattern pattern before) ≡ None → Crowded (names_before Pattern pattern before) s → Judged Pattern pattern before i (Err (RuleLimit i.place))
  judged_crowded e full = (
    fault full,
    least_name Pattern (length before) (names_before Pattern pattern before) i s 9 w (record {
      misnamed = λ h. absurd (fair h);
      whole = λ h. absurd (part h);
      other = λ h. absurd (unnamed_agrees Pattern pattern before i s w fair part e h);
      large = λ h. omega arith;
      many = λ q h c. omega arith;
      unbound = λ q h. omega arith;
    }),
  )
    where
      new : Named s.name (names_before Pattern pattern before) → ⊥
      new = sign_none s.name (names_before Pattern pattern before) e

      fault : Crowded (names_before Pattern pattern before) s → FaultAt Pattern pattern before i (RuleLimit i.place)
      fault (inl h) = Fault.many_names s refl w new h
      fault (inr h) = Fault.many_segments s refl w h.0 new h.1

  judged_added : sign_of s.name (names_before Pattern pattern before) ≡ None → (256 ≤ length before → ⊥) → (Crowded (names_before Pattern pattern before) s → ⊥)
      → Judged Pattern pattern before i (Ok (record { elements = length before + 1; names = names_before Pattern pattern before ++ (s ∷ []) }))
  judged_added e few room = (
    no_fault Pattern pattern before i (least_name Pattern (length before) (names_before Pattern pattern before) i s 11 w (record {
      misnamed = λ h. absurd (fair h);
      whole = λ h. absurd (part h);
      other = λ h. absurd (unnamed_agrees Pattern pattern before i s w fair part e h);
      large = λ h. absurd (few h);
      many = λ q h c. absurd (room c);
      unbound = λ q h. absurd cc;
    })),
    ap₂ (λ x y. record { elements = x; names = y }) (sym (one_more Pattern pattern before i)) (sym (name_behind pattern before i s w ∙ added_new s (names_before Pattern pattern before) e)),
  )

  judged_new : (side : Side) → sign_of s.name (names_before side pattern before) ≡ None → Judged side pattern before i (scan_new side (seen_at side pattern before) i.place s)
  judged_new Pattern e = let limit = Decides-or _ _ (decides_leb 256 (length before)) (decides_crowded s (names_before Pattern pattern before)) in
      cond_both (leb 256 (length before) || crowded s.sign (names_before Pattern pattern before)) _ _ (Judged Pattern pattern before i)
      (λ b. elim (limit.0 b) [
        | inl h ↦ judged_large Pattern pattern before i s w fair part (unnamed_agrees Pattern pattern before i s w fair part e) h
        | inr h ↦ judged_crowded e h
      ])
      (λ b. judged_added e (λ h. not_from_Decides _ limit b (inl h)) (λ h. not_from_Decides _ limit b (inr h)))
  judged_new Template e = cond_both (leb 256 (length before)) _ _ (Judged Template pattern before i)
      (λ b. judged_large Template pattern before i s w fair part (unnamed_agrees Template pattern before i s w fair part e) (leb-true 256 (length before) b))
      (λ b. (
        Fault.unbound s refl w (sign_none s.name _ e),
        least_name Template (length before) (names_before Template pattern before) i s 10 w (record {
          misnamed = λ h. absurd (fair h);
          whole = λ h. absurd (part h);
          other = λ h. absurd (unnamed_agrees Template pattern before i s w fair part e h);
          large = λ h. absurd (omega (arith, leb-false 256 (length before) b));
          many = λ q h c. absurd cc;
          unbound = λ q h. omega arith;
        }),
      ))

-- an element is refused exactly by its fault of the smallest number
module _ (side : Side) (pattern before : List Item) (i : Item) where
  judged_name : (s : Slot) → Writes i s → Judged side pattern before i (scan_name side (seen_at side pattern before) i.place s)
  judged_name s w =
      cond_both (eqb (length s.name) 0 || ltb 32 (length s.name)) _ _ (Judged side pattern before i)
      (λ b. judged_misnamed side pattern before i s w ((decides_misnamed s).0 b))
      (λ b. let fair : Misnamed s → ⊥ = not_from_Decides _ (decides_misnamed s) b in
      cond_both (is_segment s.sign && eqb (length before) 0) _ _ (Judged side pattern before i)
      (λ c. judged_whole side pattern before i s w fair ((decides_whole (length before) s).0 c))
      (λ c. let part : Whole (length before) s → ⊥ = not_from_Decides _ (decides_whole (length before) s) c in
      known fair part (sign_of s.name (names_before side pattern before)) refl))
    where
      known : (Misnamed s → ⊥) → (Whole (length before) s → ⊥) → (o : Option Sign) → sign_of s.name (names_before side pattern before) ≡ o → Judged side pattern before i (scan_known side (seen_at side pattern before) i.place s (sign_of s.name (names_before side pattern before)))
      known fair part (Some sign) e = rw e (judged_known side pattern before i s w fair part sign e)
      known fair part None e = rw e (judged_new pattern before i s w fair part side e)

  judged_unsigned : (os : List ℕ) → i.atom ≡ Some os → (HasSign os → ⊥) → Judged side pattern before i (Err (UnknownSign i.place))
  judged_unsigned os e h = (Fault.unsigned e h, least side (length before) (names_before side pattern before) i)

  pub judged : Judged side pattern before i (scan_item side (seen_at side pattern before) i)
  judged = go (shape i)
    where
      go : Shape i → Judged side pattern before i (scan_item side (seen_at side pattern before) i)
      go (plain p) = rw (scan_plain side (seen_at side pattern before) i p) (judged_plain side pattern before i p)
      go (unsigned os e h) = rw (scan_unsigned side (seen_at side pattern before) i os e h) (judged_unsigned os e h)
      go (name s w) = rw (scan_named side (seen_at side pattern before) i s w) (judged_name s w)
