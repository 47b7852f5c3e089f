-- What is told of the names of the fit that stands. Assumes nothing.
use Rattle.std.proofs.Common.{◌≡◌, ℕ, zero, suc, ◌<◌, ◌==◌, Bool, true, false, true≢false, cond, List, Some, None, Ok, Err, refl, sym, ap, ap₂, ◌∙◌, subst, arith}
use Rattle.std.specs.Bool.{then_some}
use Rattle.std.proofs.lemmas.Bool.{lt-ltb, eqb-true}
use Rattle.std.proofs.Math.Dec.{ltb}
use Rattle.sexp.specs.declared.refusals.Refusal.{Refusal}
use Rattle.sexp.specs.Elements.{Elements}
use Rattle.sexp.specs.declared.refusals.Refusal.TheVariants.{UnknownName}
use Rattle.holder.specs.Placed.{Placed, nothing, atom_at, list_at, erase, run_at, ◌or_else◌, front as place_of, Stands}
use Rattle.holder.specs.Walks.{first_of}
use Rattle.texts.specs.Label.{text_tree}
use Rattle.rules.specs.Complete.{In}
use Rattle.rules.specs.Patterns.{Rule, Slot, slots, names, written, pattern_of}
use Rattle.rules.specs.Signs.{Signed}
use Rattle.rules.proofs.Writing.{pattern_of-written, written-signed}
use Rattle.rules.specs.Bindings.{value, width, fill}
use Rattle.rules.specs.Goals.{is_bound}
use Rattle.books.specs.declared.places.PlacedRule.{PlacedRule}
use Rattle.fitting.specs.declared.jobs.Position.{Position}
use Rattle.fitting.specs.declared.searching.Search.{Search}
use Rattle.fitting.specs.Entries.{Entry}
use Rattle.fitting.specs.Cursors.{elements_from}
use Rattle.fitting.specs.Moves.{Finds}
use Rattle.fitting.specs.Occurs.{Occurs}
use Rattle.fitting.specs.Finding.{found_in, pattern_at}
use Rattle.fitting.specs.Filling.{HoldsFor, filled_at}
use Rattle.fitting.specs.Jobs.{NoneStands, small, no_fit, StandsLaid, Shows, unknown, nothing as shows_nothing, some, ShowTells, WriteTells}
use Rattle.fitting.specs.Jobs.ShowTells.{small as show_small, no_fit as show_no_fit}
use Rattle.fitting.specs.Jobs.WriteTells.{small as write_small, no_fit as write_no_fit}
use Rattle.fitting.proofs.Cursors.{width-front}
use Rattle.rules.proofs.Names.{in_firsts}
use Rattle.fitting.proofs.Standing.{bound_slot, slot_bound}

-- a run that begins at a place and has an element has it there
front_either : (x y : Placed) (p : ℕ) → (0 < width (erase x) → place_of x ≡ Some p) → (0 < width (erase y) → place_of y ≡ Some p) → 0 < width (erase (x or_else y)) → place_of (x or_else y) ≡ Some p
front_either nothing y p h k l = k l
front_either (atom_at q a x) y p h k l = h l
front_either (list_at q inner x) y p h k l = h l

pub front_at : (p : ℕ) (t : Placed) → 0 < width (erase (run_at p t)) → place_of (run_at p t) ≡ Some p
front_at p nothing l = absurd (omega (arith, l))
front_at p (atom_at q a es) l = go (p == q) refl (front_at p es)
  where
    go : (t : Bool) → (p == q) ≡ t → (0 < width (erase (run_at p es)) → place_of (run_at p es) ≡ Some p) → place_of (cond (p == q) (atom_at q a es) (run_at p es)) ≡ Some p
    go true e ih = rw e (ap Some (sym (eqb-true p q e)))
    go false e ih = rw e (ih (rw e at l))
front_at p (list_at q inner es) l = go (p == q) refl (front_either (run_at p inner) (run_at p es) p (front_at p inner) (front_at p es))
  where
    go : (t : Bool) → (p == q) ≡ t → (0 < width (erase (run_at p inner or_else run_at p es)) → place_of (run_at p inner or_else run_at p es) ≡ Some p) → place_of (cond (p == q) (list_at q inner es) (run_at p inner or_else run_at p es)) ≡ Some p
    go true e ih = rw e (ap Some (sym (eqb-true p q e)))
    go false e ih = rw e (ih (rw e at l))

-- where none stands, show and write tell so
pub show_none : {book : List Rule} {tree : Placed} {marks places : ℕ} {position : Position} {name : List ℕ} {k l : Refusal} → NoneStands book (erase tree) marks places position k → k ≡ l →
    ShowTells book tree marks places position name (Err l)
show_none {book} {tree} {marks} {places} {position} {name} h e = subst (λ k. ShowTells book tree marks places position name (Err k)) e (go h)
  where
    go : {k : Refusal} → NoneStands book (erase tree) marks places position k → ShowTells book tree marks places position name (Err k)
    go (small h) = show_small h
    go (no_fit large none) = show_no_fit large none

pub write_none : {book : List Rule} {e : Elements} {marks places : ℕ} {position : Position} {out : List ℕ} {k l : Refusal} → NoneStands book e marks places position k → k ≡ l →
    WriteTells book e marks places position out (Err l) out
write_none {book} {e} {marks} {places} {position} {out} h is = subst (λ k. WriteTells book e marks places position out (Err k) out) is (go h)
  where
    go : {k : Refusal} → NoneStands book e marks places position k → WriteTells book e marks places position out (Err k) out
    go (small h) = write_small h
    go (no_fit large none) = write_no_fit large none

module _ {H : Type 0} {book : List Rule} {tree : Placed} {position : Position} {r : PlacedRule} {fit : Search H} (s : StandsLaid book tree position r fit) where
  -- a name that is bound occurs in the pattern, and each of the pattern's names is bound
  pub name_occurs : (name : List ℕ) → is_bound name (found_in tree fit) ≡ true → Occurs name s.standing.rule.pattern
  name_occurs name h =
      let b = bound_slot name (found_in tree fit) h in
      let x : Slot = record { sign = b.0; name = name } in
      (b.0, in_firsts (slots s.standing.rule.pattern) x (subst (In x) s.laid.fit.names b.1))

  name_named : (x : Slot) → In x (names s.standing.rule.pattern) → is_bound x.name (found_in tree fit) ≡ true
  name_named x h = slot_bound x (found_in tree fit) (subst (In x) (sym s.laid.fit.names) h)

  pub name_bound : (x : Slot) → In x (slots s.standing.rule.pattern) → is_bound x.name (found_in tree fit) ≡ true
  name_bound x h = name_named x (s.lies.lawful.agree x h)

  -- a name that is not found is unknown
  pub shows_unknown : (name : List ℕ) → Finds (text_tree fit.text.text.now) tree fit.trail.entries name None → Shows tree name s.standing.rule s.standing.bindings (Err UnknownName)
  shows_unknown name h = unknown (λ o. true≢false (sym (name_bound (record { sign = o.0; name = name }) o.1) ∙ h))

  -- one that is found has as many elements as its mark, from its place on
  pub shows_found : (name : List ℕ) (e : Entry) → Finds (text_tree fit.text.text.now) tree fit.trail.entries name (Some e) → Shows tree name s.standing.rule s.standing.bindings (Ok (then_some (ltb 0 e.0.length) e.1, e.0.length))
  shows_found name e found = subst (λ m. Shows tree name s.standing.rule m (Ok (then_some (ltb 0 e.0.length) e.1, e.0.length))) s.bindings (go e.0.length refl)
    where
      long : width (value name (found_in tree fit)) ≡ e.0.length
      long = ap width found.1 ∙ width-front e.0.length (elements_from tree (Some e.1)) found.2

      go : (n : ℕ) → e.0.length ≡ n → Shows tree name s.standing.rule (found_in tree fit) (Ok (then_some (ltb 0 e.0.length) e.1, e.0.length))
      go zero is = rw is (shows_nothing (name_occurs name found.0) (long ∙ is))
      go (suc n) is =
          let some_long : 0 < e.0.length = omega (arith, is) in
          rw (lt-ltb 0 e.0.length some_long) (subst (λ k. Shows tree name s.standing.rule (found_in tree fit) (Ok (Some e.1, k))) long (some (s.laid.firsts name e found some_long) (omega (arith, long, some_long)) (front_at e.1 tree (omega (arith, found.2, some_long)))))

  -- the template is read where it lies, it can be filled, and gives the result
  template_read : pattern_at fit.text.text.now r.template ≡ s.standing.rule.template
  template_read = ap (λ t. pattern_at t.text.now r.template) s.text ∙ (ap pattern_of s.lies.template.writes ∙ pattern_of-written s.standing.rule.template)

  pub write_filled : filled_at tree fit r.template ≡ fill s.standing.bindings s.standing.rule.template
  write_filled = ap₂ fill s.bindings template_read

  pub write_holds : HoldsFor tree fit r.template
  write_holds = record {
    sound = s.laid.sound.sound;
    stands = subst (λ t. Stands (run_at r.template (text_tree t.text.now))) (sym s.text) s.lies.template.stands;
    signed = subst Signed (sym written_there) (written-signed s.standing.rule.template);
    bound = λ x h. name_named x (s.lies.lawful.bound x (subst (λ p. In x (slots p)) template_read h));
  }
    where
      written_there : first_of (run_at r.template (text_tree fit.text.text.now)) ≡ written s.standing.rule.template
      written_there = ap (λ t. first_of (run_at r.template (text_tree t.text.now))) s.text ∙ s.lies.template.writes
