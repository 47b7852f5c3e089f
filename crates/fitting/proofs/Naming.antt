-- Finding the first occurrence of a name among the entries of a trail, from the bottom. Assumes nothing.
use Rattle.std.proofs.Common.{Bor, ◌≡◌, ℕ, zero, suc, ◌+◌, ◌-◌, ◌<◌, ◌≤◌, Bool, true, false, ◌||◌, true≢false, bytes_eq, List, [], ◌∷◌, ◌++◌, length, reverse, take, drop, Some, None, append_assoc, append-nil, inl, inr, ⊎_elim, refl, sym, ap, ◌∙◌, subst, arith}
use Rattle.std.specs.List.{slice_get}
use Rattle.std.proofs.lemmas.List.{reverse-append, length-reverse, take-append-drop, take_more, take_all, length-drop}
use Rattle.std.proofs.lemmas.Option.{slice_get_within, slice_get_cases, get_or_from_slice_get}
use Rattle.std.proofs.Math.Seq.{drop-cons}
use Rattle.sexp.specs.Elements.{octets}
use Rattle.sexp.specs.declared.tokens.Token.TheVariants.{Atom as AtomToken}
use Rattle.holder.specs.Placed.{Placed, nothing, atom_at, list_at, run_at, octets_of, IsAtom}
use Rattle.texts.specs.Walked.{FirstToken}
use Rattle.rules.specs.declared.signs.Sign.{Sign}
use Rattle.rules.specs.declared.signs.Sign.TheVariants.{Variable as VariableSign, Segment as SegmentSign}
use Rattle.rules.specs.Complete.{In}
use Rattle.rules.specs.Bindings.{Binding, binding, value, width}
use Rattle.rules.specs.Goals.{is_bound}
use Rattle.rules.proofs.Names.{value_new}
use Rattle.fitting.specs.declared.marks.Laid.{Laid as LaidAs}
use Rattle.fitting.specs.declared.marks.Laid.TheVariants.{List as ListLaid, Variable as VariableLaid, Segment as SegmentLaidAs}
use Rattle.fitting.specs.declared.marks.Mark.{Mark}
use Rattle.fitting.specs.Entries.{Entry}
use Rattle.fitting.specs.Cursors.{elements_from}
use Rattle.fitting.specs.Trails.{name_of, is_marked, name_at, laid_at, bound_in}
use Rattle.fitting.specs.Sound.{Named, EntrySound, Sound, IsLaid}
use Rattle.fitting.specs.Moves.{Finds, MarksName}
use Rattle.fitting.proofs.Cursors.{width_stands}
use Rattle.fitting.proofs.Entries.{slice_get_either, sound_at}

-- the token that is told of an element
pub atom_told : (r : Placed) (offset : ℕ) (os : Bor (List ℕ)) → FirstToken r (AtomToken offset os) → IsAtom r × (octets_of r ≡ os.now)
atom_told nothing offset os t = absurd t
atom_told (atom_at p (octets xs) es) offset os t = let e = t.1 in (tt, cc)
atom_told (list_at p inner es) offset os t = absurd t

-- a name has a sign in front
pub named_long : (r : Placed) (sign : Sign) (os : List ℕ) → Named sign r → octets_of r ≡ os → 1 ≤ length os
named_long r sign os n e = omega (arith, ap length (sym e ∙ n.writes))

-- whether a mark is of a name is told by the octets behind the sign
pub tail_marked : (pat : Placed) (m : Mark) (os name : List ℕ) → (m.laid ≡ ListLaid → ⊥) → octets_of (run_at m.pattern pat) ≡ os → bytes_eq name (take (length os - 1) (drop 1 os)) ≡ is_marked pat m name
tail_marked pat m os name n e = go m.laid refl
  where
    whole : take (length os - 1) (drop 1 os) ≡ name_of (run_at m.pattern pat)
    whole = take_all (length os - 1) (drop 1 os) (omega (arith, length-drop 1 os)) ∙ ap (drop 1) (sym e)

    go : (l : LaidAs) → m.laid ≡ l → bytes_eq name (take (length os - 1) (drop 1 os)) ≡ is_marked pat m name
    go ListLaid is = absurd (n is)
    go VariableLaid is = rw (is, is_marked) (ap (bytes_eq name) whole)
    go SegmentLaidAs is = rw (is, is_marked) (ap (bytes_eq name) whole)

-- an entry that is read is on the trail
in_trail : (trail : List Entry) (i : ℕ) (e : Entry) → slice_get (reverse trail) i ≡ Some e → In e trail
in_trail [] i e g = cc
in_trail (x ∷ trail) i e g =
    ⊎_elim (λ h. inr (in_trail trail i e h)) (λ h. inl (sym h)) (slice_get_either (reverse trail) x i e (rw (reverse-append (x ∷ []) trail) at g))

-- what is bound behind other bindings
is_bound_right : (name : List ℕ) (b c : List Binding) → is_bound name b ≡ false → is_bound name (b ++ c) ≡ is_bound name c
is_bound_right name [] c h = refl
is_bound_right name (x ∷ b) c h = go (bytes_eq name x.slot.name) refl (is_bound_right name b c)
  where
    go : (t : Bool) → bytes_eq name x.slot.name ≡ t → (is_bound name b ≡ false → is_bound name (b ++ c) ≡ is_bound name c) → is_bound name ((x ∷ b) ++ c) ≡ is_bound name c
    go true e ih = absurd (true≢false (rw e at h))
    go false e ih = rw e (ih (rw e at h))

or_false : (b : Bool) → b || false ≡ b
or_false true = refl
or_false false = refl

module _ (pat rec : Placed) where
  -- what an entry binds, and entries from the bottom
  abbrev bound_by : Entry → List Binding
  bound_by e = elim e.0.laid [
    | ListLaid ↦ []
    | VariableLaid ↦ binding VariableSign (name_at pat rec e) (laid_at pat rec e) ∷ []
    | SegmentLaidAs ↦ binding SegmentSign (name_at pat rec e) (laid_at pat rec e) ∷ []
  ]

  abbrev bound_up : List Entry → List Binding
  bound_up [] = []
  bound_up (e ∷ es) = bound_by e ++ bound_up es

  bound_up-append : (xs ys : List Entry) → bound_up (xs ++ ys) ≡ bound_up xs ++ bound_up ys
  bound_up-append [] ys = refl
  bound_up-append (e ∷ xs) ys = ap (bound_by e ++◌) (bound_up-append xs ys) ∙ sym (append_assoc (bound_by e) (bound_up xs) (bound_up ys))

  bound_more : (e : Entry) (trail : List Entry) → bound_in pat rec (e ∷ trail) ≡ bound_in pat rec trail ++ bound_by e
  bound_more e trail = go e.0.laid refl
    where
      go : (l : LaidAs) → e.0.laid ≡ l → bound_in pat rec (e ∷ trail) ≡ bound_in pat rec trail ++ bound_by e
      go ListLaid is = rw (is, bound_in, bound_by) (sym (append-nil (bound_in pat rec trail)))
      go VariableLaid is = rw (is, bound_in, bound_by) refl
      go SegmentLaidAs is = rw (is, bound_in, bound_by) refl

  bound_reversed : (trail : List Entry) → bound_in pat rec trail ≡ bound_up (reverse trail)
  bound_reversed [] = refl
  bound_reversed (e ∷ trail) =
      bound_more e trail
      ∙ (ap (λ b. b ++ bound_by e) (bound_reversed trail)
      ∙ (ap (bound_up (reverse trail) ++◌) (sym (append-nil (bound_by e)))
      ∙ (sym (bound_up-append (reverse trail) (e ∷ [])) ∙ ap bound_up (sym (reverse-append (e ∷ []) trail)))))

  -- a mark is of a name just if its entry binds it
  marked_bound : (name : List ℕ) (e : Entry) → is_bound name (bound_by e) ≡ is_marked pat e.0 name
  marked_bound name e = go e.0.laid refl
    where
      go : (l : LaidAs) → e.0.laid ≡ l → is_bound name (bound_by e) ≡ is_marked pat e.0 name
      go ListLaid is = rw (is, bound_by, is_marked) refl
      go VariableLaid is = rw (is, bound_by, is_marked) (or_false (bytes_eq name (name_at pat rec e)))
      go SegmentLaidAs is = rw (is, bound_by, is_marked) (or_false (bytes_eq name (name_at pat rec e)))

  -- its mark is of a name of the pattern, and what it stands for lies in the record
  pub marks_name : (e : Entry) (below : List Entry) → EntrySound pat rec e below → MarksName pat e.0
  marks_name e below s = go e.0.laid refl s.laid
    where
      go : (l : LaidAs) → e.0.laid ≡ l → IsLaid pat rec l e.0 e.1 below → MarksName pat e.0
      go ListLaid is h = λ n. absurd (n is)
      go VariableLaid is h = λ n. (VariableSign, h.0)
      go SegmentLaidAs is h = λ n. (SegmentSign, h.named)

  laid_within : (e : Entry) (below : List Entry) (name : List ℕ) → EntrySound pat rec e below → is_marked pat e.0 name ≡ true → e.0.length ≤ width (elements_from rec (Some e.1))
  laid_within e below name s t = go e.0.laid refl s.laid
    where
      run : (n w : ℕ) → (0 < n → n ≤ w) → n ≤ w
      run zero w h = omega arith
      run (suc n) w h = h (omega arith)

      go : (l : LaidAs) → e.0.laid ≡ l → IsLaid pat rec l e.0 e.1 below → e.0.length ≤ width (elements_from rec (Some e.1))
      go ListLaid is h = let f : false ≡ true = rw (is, is_marked) at t in cc
      go VariableLaid is h = omega (arith, h.2, width_stands (run_at e.1 rec) h.1)
      go SegmentLaidAs is h = run e.0.length (width (elements_from rec (Some e.1))) (λ some. (h.run some).1.1)

  -- what is found behind bindings of other names
  found_behind : (b c : List Binding) (name : List ℕ) (e : Entry) → is_bound name b ≡ false → is_marked pat e.0 name ≡ true →
      (is_bound name (b ++ (bound_by e ++ c)) ≡ true) × (value name (b ++ (bound_by e ++ c)) ≡ laid_at pat rec e)
  found_behind b c name e f t = go e.0.laid refl
    where
      go : (l : LaidAs) → e.0.laid ≡ l → (is_bound name (b ++ (bound_by e ++ c)) ≡ true) × (value name (b ++ (bound_by e ++ c)) ≡ laid_at pat rec e)
      go ListLaid is = let f : false ≡ true = rw (is, is_marked) at t in cc
      go VariableLaid is =
          let same : bytes_eq name (name_at pat rec e) ≡ true = rw (is, is_marked) at t in
          let by : bound_by e ≡ binding VariableSign (name_at pat rec e) (laid_at pat rec e) ∷ [] = rw (is, bound_by) refl in (
            rw by (is_bound_right name b (binding VariableSign (name_at pat rec e) (laid_at pat rec e) ∷ c) f ∙ rw same refl),
            rw by (value_new b (binding VariableSign (name_at pat rec e) (laid_at pat rec e) ∷ c) name f ∙ rw same refl),
          )
      go SegmentLaidAs is =
          let same : bytes_eq name (name_at pat rec e) ≡ true = rw (is, is_marked) at t in
          let by : bound_by e ≡ binding SegmentSign (name_at pat rec e) (laid_at pat rec e) ∷ [] = rw (is, bound_by) refl in (
            rw by (is_bound_right name b (binding SegmentSign (name_at pat rec e) (laid_at pat rec e) ∷ c) f ∙ rw same refl),
            rw by (value_new b (binding SegmentSign (name_at pat rec e) (laid_at pat rec e) ∷ c) name f ∙ rw same refl),
          )

  -- none of the lowest entries is of a name
  abbrev pub NoneOf : List Entry → List ℕ → ℕ → Type 0
  NoneOf trail name i = is_bound name (bound_up (take i (reverse trail))) ≡ false

  pub none_more : (trail : List Entry) (name : List ℕ) (i : ℕ) (e : Entry) → NoneOf trail name i → slice_get (reverse trail) i ≡ Some e → is_marked pat e.0 name ≡ false → NoneOf trail name (i + 1)
  none_more trail name i e f g t =
      let up = reverse trail in
      let low = slice_get_within up i e g in
      rw (take_more up i e low, get_or_from_slice_get up i e e g, bound_up-append (take i up) (e ∷ []), append-nil (bound_by e))
      (is_bound_right name (bound_up (take i up)) (bound_by e) f ∙ (marked_bound name e ∙ t))

  pub none_all : (trail : List Entry) (name : List ℕ) (i : ℕ) → NoneOf trail name i → length trail ≤ i → Finds pat rec trail name None
  none_all trail name i f l =
      rw (bound_reversed trail) (subst (λ up. is_bound name (bound_up up) ≡ false) (take_all i (reverse trail) (omega (arith, length-reverse trail))) f)

  pub none_past : (trail : List Entry) (name : List ℕ) (i : ℕ) → NoneOf trail name i → slice_get (reverse trail) i ≡ None → Finds pat rec trail name None
  none_past trail name i f g = none_all trail name i f (⊎_elim (λ t. let some = t.2 in absurd cc) (λ t. omega (arith, t.0, length-reverse trail)) (slice_get_cases (reverse trail) i).1)

  pub finds : (trail : List Entry) (name : List ℕ) (i : ℕ) (e : Entry) → Sound pat rec trail → NoneOf trail name i → slice_get (reverse trail) i ≡ Some e → is_marked pat e.0 name ≡ true → Finds pat rec trail name (Some e)
  finds trail name i e s f g t =
      let up = reverse trail in
      let low = slice_get_within up i e g in
      let sound = sound_at pat rec trail i e s g in
      let split : up ≡ take i up ++ (e ∷ drop (suc i) up) = sym (take-append-drop i up) ∙ ap (take i up ++◌) (drop-cons up i e low ∙ ap (λ x. x ∷ drop (suc i) up) (get_or_from_slice_get up i e e g)) in
      let bindings = bound_reversed trail ∙ (ap bound_up split ∙ bound_up-append (take i up) (e ∷ drop (suc i) up)) in
      let found = found_behind (bound_up (take i up)) (bound_up (drop (suc i) up)) name e f t in
      (ap (is_bound name) bindings ∙ found.0, ap (value name) bindings ∙ found.1, laid_within e sound.0 name sound.1 t, in_trail trail i e g, t)
