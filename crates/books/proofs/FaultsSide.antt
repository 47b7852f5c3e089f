-- A side of a rule: it is refused exactly by its first fault. Assumes nothing.
use Rattle.std.proofs.Common.{◌≡◌, ℕ, cond, List, [], ◌∷◌, ◌++◌, length, eqb, Ok, Err, Result, sym, refl, ap, ◌∙◌, append-nil, append_assoc, arith}
use Rattle.std.proofs.lemmas.List.{length-append}
use Rattle.sexp.specs.declared.refusals.Refusal.{Refusal}
use Rattle.sexp.specs.declared.refusals.Refusal.TheVariants.{UnknownSign, NameLength, WholeSegment, OtherSign, RuleLimit, UnboundName}
use Rattle.sexp.specs.Refusals.{number_of}
use Rattle.rules.specs.Patterns.{Slot}
use Rattle.books.specs.declared.checking.Side.{Side}
use Rattle.books.specs.Items.{Item}
use Rattle.books.specs.Scanning.{Seen, scan_item, scan}
use Rattle.books.specs.Faults.{Fault, FaultAt, Faultless, FirstFault}
use Rattle.books.proofs.FaultsItem.{seen_at, Judged, judged}

-- one list, cut at two of its elements: at the same one, or one is in front of the other
data Cuts {A : Type 0} (xs : List A) (x : A) (us ys : List A) (y : A) (vs : List A) : Type 0 where
  same : xs ≡ ys → x ≡ y → Cuts xs x us ys y vs
  former : (ws : List A) → ys ≡ xs ++ (x ∷ ws) → Cuts xs x us ys y vs
  later : (ws : List A) → xs ≡ ys ++ (y ∷ ws) → Cuts xs x us ys y vs

cuts : {A : Type 0} (xs : List A) (x : A) (us ys : List A) (y : A) (vs : List A) → xs ++ (x ∷ us) ≡ ys ++ (y ∷ vs) → Cuts xs x us ys y vs
cuts [] x us [] y vs e = same refl cc
cuts [] x us (z ∷ ys) y vs e = former ys cc
cuts (z ∷ xs) x us [] y vs e = later xs cc
cuts (z ∷ xs) x us (w ∷ ys) y vs e = elim (cuts xs x us ys y vs cc) [
  | same p q ↦ same (cc) q
  | former ws p ↦ former ws cc
  | later ws p ↦ later ws cc
]

no_cut : {A : Type 0} (xs : List A) (x : A) (us : List A) → [] ≡ xs ++ (x ∷ us) → ⊥
no_cut [] x us e = absurd cc
no_cut (z ∷ xs) x us e = absurd cc

-- a refusal of an element, told by its number
abbrev refusal_of : ℕ → ℕ → Refusal
refusal_of place n =
    cond (eqb n 5) (UnknownSign place)
    (cond (eqb n 6) (NameLength place)
    (cond (eqb n 7) (WholeSegment place)
    (cond (eqb n 8) (OtherSign place)
    (cond (eqb n 9) (RuleLimit place)
    (UnboundName place)))))

fault_number : {side : Side} {n : ℕ} {names : List Slot} {i : Item} {k : Refusal} → Fault side n names i k → k ≡ refusal_of i.place (number_of k)
fault_number (Fault.unsigned e h) = refl
fault_number (Fault.misnamed s w h) = refl
fault_number (Fault.whole s w g z) = refl
fault_number (Fault.other s w m h) = refl
fault_number (Fault.large h) = refl
fault_number (Fault.many_names s p w f h) = refl
fault_number (Fault.many_segments s p w g f h) = refl
fault_number (Fault.unbound s t w f) = refl

-- elements without a fault
module _ (side : Side) (pattern : List Item) where
  pub faultless_none : Faultless side pattern []
  faultless_none before behind i k e f = no_cut before i behind e

  pub faultless_more : (is : List Item) (i : Item) → Faultless side pattern is → ((k : Refusal) → FaultAt side pattern is i k → ⊥) → Faultless side pattern (is ++ (i ∷ []))
  faultless_more is i h last before behind j k e f = go (cuts is i [] before j behind e)
    where
      go : Cuts is i [] before j behind → ⊥
      go (same p q) = last k (rw (p, q) f)
      go (former ws p) = omega (arith, ap length e, ap length p, length-append is (i ∷ []), length-append before (j ∷ behind), length-append is (i ∷ ws))
      go (later ws p) = h before ws j k p f

  -- what is told of a side
  abbrev pub Scanned : List Item → Result Seen Refusal → Type 0
  Scanned is (Err k) = FirstFault side pattern is k
  Scanned is (Ok seen) = Faultless side pattern is × (seen ≡ seen_at side pattern is)

  pub scanned : (is before : List Item) → Faultless side pattern before → Scanned (before ++ is) (scan side (seen_at side pattern before) is)
  scanned [] before h = rw (append-nil before) (h, refl)
  scanned (i ∷ is) before h = go (scan_item side (seen_at side pattern before) i) refl (judged side pattern before i) (scanned is (before ++ (i ∷ [])))
    where
      go : (r : Result Seen Refusal) → scan_item side (seen_at side pattern before) i ≡ r → Judged side pattern before i r
          → (Faultless side pattern (before ++ (i ∷ [])) → Scanned ((before ++ (i ∷ [])) ++ is) (scan side (seen_at side pattern (before ++ (i ∷ []))) is))
          → Scanned (before ++ (i ∷ is)) (scan side (seen_at side pattern before) (i ∷ is))
      go (Err k) e j more = rw (e, scan) (record { before = before; item = i; behind = is; stands = refl; none_before = h; fault = j.0; smallest = j.1 })
      go (Ok next) e j more = rw (e, scan) (rw (j.1) (rw (append_assoc before (i ∷ []) is) at (more (faultless_more before i h j.0))))

  -- at most one refusal is the first fault
  pub first_same : (is : List Item) (k j : Refusal) → FirstFault side pattern is k → FirstFault side pattern is j → k ≡ j
  first_same is k j f g = go (cuts f.before f.item f.behind g.before g.item g.behind (sym f.stands ∙ g.stands))
    where
      go : Cuts f.before f.item f.behind g.before g.item g.behind → k ≡ j
      go (same p q) =
          let here : FaultAt side pattern f.before f.item j = rw (p, q) g.fault in
          let there : FaultAt side pattern g.before g.item k = rw (← p, ← q) f.fault in
          let number : number_of k ≡ number_of j = omega (arith, f.smallest j here, g.smallest k there) in
          fault_number f.fault ∙ (ap (refusal_of f.item.place) number ∙ sym (fault_number here))
      go (former ws p) = absurd (g.none_before f.before ws f.item k p f.fault)
      go (later ws p) = absurd (f.none_before g.before ws g.item j p g.fault)

  pub faultless_first : (is : List Item) (k : Refusal) → Faultless side pattern is → FirstFault side pattern is k → ⊥
  faultless_first is k h f = h f.before f.behind f.item k f.stands f.fault
