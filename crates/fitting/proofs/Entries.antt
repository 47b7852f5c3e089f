-- What a trail stands for when an entry is put on it, and the entries of its lists. Assumes nothing.
use Rattle.std.proofs.Common.{◌≡◌, ◌≢◌, ℕ, zero, suc, ◌-◌, ◌≤◌, true, false, eqb, List, [], ◌∷◌, ◌++◌, length, reverse, Some, None, ◌⊎◌, inl, inr, ⊎_elim, refl, sym, ap, ◌∙◌, subst, arith}
use Rattle.std.proofs.lemmas.Bool.{ne_eqb, cases_Bool, eqb-true}
use Rattle.std.proofs.lemmas.List.{reverse-append, length-reverse}
use Rattle.std.specs.List.{slice_get}
use Rattle.holder.specs.Placed.{Placed, erase, run_at, behind, IsList}
use Rattle.rules.specs.Signs.{Signed}
use Rattle.fitting.specs.declared.marks.Laid.TheVariants.{List as ListLaid}
use Rattle.fitting.specs.Entries.{Entry}
use Rattle.fitting.specs.Trails.{goals_behind, goals_around}
use Rattle.fitting.specs.Sound.{IsListAt, left_behind, left_around, EntrySound, Sound}
use Rattle.fitting.specs.Leads.{placed_behind, placed_around}
use Rattle.fitting.specs.Moves.{steps_behind, steps_around}

-- an entry in a list, read at its index
pub slice_get_last : {A : Type 0} (xs : List A) (x : A) → slice_get (xs ++ (x ∷ [])) (length xs) ≡ Some x
slice_get_last [] x = refl
slice_get_last (y ∷ xs) x = slice_get_last xs x

pub slice_get_more : {A : Type 0} (xs ys : List A) (i : ℕ) (x : A) → slice_get xs i ≡ Some x → slice_get (xs ++ ys) i ≡ Some x
slice_get_more [] ys i x e = cc
slice_get_more (y ∷ xs) ys zero x e = e
slice_get_more (y ∷ xs) ys (suc i) x e = slice_get_more xs ys i x e

pub slice_get_either : {A : Type 0} (xs : List A) (y : A) (i : ℕ) (x : A) → slice_get (xs ++ (y ∷ [])) i ≡ Some x → (slice_get xs i ≡ Some x) ⊎ (y ≡ x)
slice_get_either [] y zero x e = inr cc
slice_get_either [] y (suc i) x e = cc
slice_get_either (z ∷ xs) y zero x e = inl e
slice_get_either (z ∷ xs) y (suc i) x e = slice_get_either xs y i x e

-- a list that is open is among the entries
pub list_below : (at : ℕ) (trail : List Entry) → IsListAt at trail → at ≤ length trail
list_below at [] h = omega (arith, h)
list_below at (e ∷ trail) h =
    elim (cases_Bool (eqb at (suc (length trail)))) as (λ _. at ≤ suc (length trail)) [
      | inl t ↦ omega (arith, eqb-true at (suc (length trail)) t)
      | inr f ↦ omega (arith, list_below at trail (rw (f, IsListAt) at h))
    ]

-- an entry more changes nothing for the lists below
abbrev Above : ℕ → List Entry → Type 0
Above at trail = eqb at (suc (length trail)) ≡ false

above : (at : ℕ) (trail : List Entry) → at ≤ length trail → Above at trail
above at trail l = ne_eqb at (suc (length trail)) (λ e. absurd (omega arith))

pub list_push : (at : ℕ) (e : Entry) (trail : List Entry) → IsListAt at trail → IsListAt at (e ∷ trail)
list_push at e trail h = rw (above at trail (list_below at trail h), IsListAt) h

-- a trail stays, or an entry is put on it
pub data Keeps (old : List Entry) : List Entry → Type 0 where
  same : Keeps old old
  more : {e : Entry} → Keeps old (e ∷ old)

pub keeps_list : (at : ℕ) (old new : List Entry) → Keeps old new → IsListAt at old → IsListAt at new
keeps_list at old _ same h = h
keeps_list at old _ (more {e}) h = list_push at e old h

pub keeps_length : (old new : List Entry) → Keeps old new → length new ≤ suc (length old)
keeps_length old _ same = omega arith
keeps_length old _ (more {e}) = omega arith

module _ (pat rec : Placed) where
  pub goals_push : (at : ℕ) (e : Entry) (trail : List Entry) → at ≤ length trail → goals_around pat rec at (e ∷ trail) ≡ goals_around pat rec at trail
  goals_push at e trail l = rw (above at trail l, goals_around) refl

  pub placed_push : (at : ℕ) (e : Entry) (trail : List Entry) → at ≤ length trail → placed_around pat rec at (e ∷ trail) ≡ placed_around pat rec at trail
  placed_push at e trail l = rw (above at trail l, placed_around) refl

  pub left_push : (at : ℕ) (e : Entry) (trail : List Entry) → at ≤ length trail → left_around pat rec at (e ∷ trail) ≡ left_around pat rec at trail
  left_push at e trail l = rw (above at trail l, left_around) refl

  pub steps_push : (at : ℕ) (e : Entry) (trail : List Entry) → at ≤ length trail → steps_around pat at (e ∷ trail) ≡ steps_around pat at trail
  steps_push at e trail l = rw (above at trail l, steps_around) refl

  pub keeps_goals : (at : ℕ) (old new : List Entry) → Keeps old new → at ≤ length old → goals_around pat rec at new ≡ goals_around pat rec at old
  keeps_goals at old _ same l = refl
  keeps_goals at old _ (more {e}) l = goals_push at e old l

  pub keeps_placed : (at : ℕ) (old new : List Entry) → Keeps old new → at ≤ length old → placed_around pat rec at new ≡ placed_around pat rec at old
  keeps_placed at old _ same l = refl
  keeps_placed at old _ (more {e}) l = placed_push at e old l

  pub keeps_left : (at : ℕ) (old new : List Entry) → Keeps old new → at ≤ length old → left_around pat rec at new ≡ left_around pat rec at old
  keeps_left at old _ same l = refl
  keeps_left at old _ (more {e}) l = left_push at e old l

  pub keeps_steps : (at : ℕ) (old new : List Entry) → Keeps old new → at ≤ length old → steps_around pat at new ≡ steps_around pat at old
  keeps_steps at old _ same l = refl
  keeps_steps at old _ (more {e}) l = steps_push at e old l

  -- the entry of a list that is open: what is left around it is what is behind that list and left around that
  pub record ListAt (at : ℕ) (trail : List Entry) (e : Entry) : Type 0 where
    pub pattern : IsList (run_at e.0.pattern pat)
    pub place : IsList (run_at e.1 rec)
    pub around : IsListAt e.0.around trail
    pub signed : e.0.around ≢ 0 → Signed (erase (behind (run_at e.0.pattern pat)))
    pub goals : goals_around pat rec at trail ≡ goals_behind pat rec e (goals_around pat rec e.0.around trail)
    pub placed : placed_around pat rec at trail ≡ placed_behind pat rec e (placed_around pat rec e.0.around trail)
    pub left : left_around pat rec at trail ≡ left_behind pat rec e (left_around pat rec e.0.around trail)
    pub steps : steps_around pat at trail ≡ steps_behind pat e (steps_around pat e.0.around trail)

  -- that entry is found at its index
  abbrev Found : ℕ → List Entry → Type 0
  Found at trail = (e : Entry) × (slice_get (reverse trail) (at - 1) ≡ Some e) × ListAt at trail e

  list_last : (at : ℕ) (e : Entry) (trail : List Entry) → EntrySound pat rec e trail → eqb at (suc (length trail)) ≡ true → e.0.laid ≡ ListLaid → Found at (e ∷ trail)
  list_last at e trail s t laid =
      let is : at ≡ suc (length trail) = eqb-true at (suc (length trail)) t in
      let low = list_below e.0.around trail s.around in
      let lists = rw laid at s.laid in (
        e,
        rw (reverse-append (e ∷ []) trail) (subst (λ i. slice_get (reverse trail ++ (e ∷ [])) i ≡ Some e) (omega (arith, length-reverse trail)) (slice_get_last (reverse trail) e)),
        record {
          pattern = lists.0;
          place = lists.1;
          around = list_push e.0.around e trail s.around;
          signed = s.signed;
          goals = rw (t, goals_around) (ap (goals_behind pat rec e) (sym (goals_push e.0.around e trail low)));
          placed = rw (t, placed_around) (ap (placed_behind pat rec e) (sym (placed_push e.0.around e trail low)));
          left = rw (t, left_around) (ap (left_behind pat rec e) (sym (left_push e.0.around e trail low)));
          steps = rw (t, steps_around) (ap (steps_behind pat e) (sym (steps_push e.0.around e trail low)));
        },
      )

  list_more : (at : ℕ) (x : Entry) (trail : List Entry) → eqb at (suc (length trail)) ≡ false → Found at trail → Found at (x ∷ trail)
  list_more at x trail f found =
      let e = found.0 in
      let a = found.2 in
      let low = list_below e.0.around trail a.around in (
        e,
        rw (reverse-append (x ∷ []) trail) (slice_get_more (reverse trail) (x ∷ []) (at - 1) e found.1),
        record {
          pattern = a.pattern;
          place = a.place;
          around = list_push e.0.around x trail a.around;
          signed = a.signed;
          goals = rw (f, goals_around) (a.goals ∙ ap (goals_behind pat rec e) (sym (goals_push e.0.around x trail low)));
          placed = rw (f, placed_around) (a.placed ∙ ap (placed_behind pat rec e) (sym (placed_push e.0.around x trail low)));
          left = rw (f, left_around) (a.left ∙ ap (left_behind pat rec e) (sym (left_push e.0.around x trail low)));
          steps = rw (f, steps_around) (a.steps ∙ ap (steps_behind pat e) (sym (steps_push e.0.around x trail low)));
        },
      )

  list_found : (at : ℕ) (trail : List Entry) → Sound pat rec trail → IsListAt at trail → at ≢ 0 → Found at trail
  list_found at [] s h n = absurd (n h)
  list_found at (e ∷ trail) s h n =
      elim (cases_Bool (eqb at (suc (length trail)))) as (λ _. Found at (e ∷ trail)) [
        | inl t ↦ list_last at e trail s.0 t (rw (t, IsListAt) at h)
        | inr f ↦ list_more at e trail f (list_found at trail s.1 (rw (f, IsListAt) at h) n)
      ]

  pub list_some : (at : ℕ) (trail : List Entry) → Sound pat rec trail → IsListAt at trail → at ≢ 0 → slice_get (reverse trail) (at - 1) ≡ None → ⊥
  list_some at trail s h n g = let found = list_found at trail s h n in let e = found.1 in cc

  pub list_at : (at : ℕ) (trail : List Entry) (e : Entry) → Sound pat rec trail → IsListAt at trail → at ≢ 0 → slice_get (reverse trail) (at - 1) ≡ Some e → ListAt at trail e
  list_at at trail e s h n g = let found = list_found at trail s h n in let is = found.1 in subst (ListAt at trail) (cc) found.2

  -- every entry keeps to what is said of it, on top of some trail
  pub sound_at : (trail : List Entry) (i : ℕ) (e : Entry) → Sound pat rec trail → slice_get (reverse trail) i ≡ Some e → (below : List Entry) × EntrySound pat rec e below
  sound_at [] i e s g = cc
  sound_at (x ∷ trail) i e s g =
      ⊎_elim
      (λ h. sound_at trail i e s.1 h)
      (λ h. (trail, subst (λ y. EntrySound pat rec y trail) h s.0))
      (slice_get_either (reverse trail) x i e (rw (reverse-append (x ∷ []) trail) at g))
