-- Where names occur first, one step of a pattern at a time: each step keeps to what is said of those laid and those to come. Assumes nothing.
use Rattle.std.proofs.Common.{◌≡◌, ◌≢◌, ℕ, ◌<◌, Bool, true, false, inl, inr, ⊎_elim, List, [], ◌∷◌, ◌++◌, append_assoc, bytes_eq, true≢false, refl, sym, ap, ◌∙◌, subst}
use Rattle.std.proofs.lemmas.Slice.Eq.{bytes_eq-Decides}
use Rattle.sexp.specs.Elements.{Atom, Elements, none, atom, list, ◌then◌}
use Rattle.holder.specs.Placed.{Placed, run_at, inside, behind}
use Rattle.rules.specs.declared.signs.Sign.{Sign}
use Rattle.rules.specs.Patterns.{Pattern, done, constant, slot, group, Slot, slots}
use Rattle.rules.specs.Bindings.{Binding, binding, value, Single, width}
use Rattle.rules.specs.Goals.{Goal, is_bound, Completes}
use Rattle.rules.proofs.Names.{value_bound, value_new, value_first}
use Rattle.rules.proofs.Orders.{in_either}
use Rattle.rules.proofs.Completing.{completes-done, completes-constant, completes-group, completes-repeated, completes-new}
use Rattle.fitting.specs.declared.marks.Laid.TheVariants.{List as ListLaid}
use Rattle.fitting.specs.Entries.{Entry}
use Rattle.fitting.specs.Occurs.{behind_all, FirstAt, here, past_constant, past_name, in_list, past_list}
use Rattle.fitting.specs.Trails.{is_marked, bound_in}
use Rattle.fitting.specs.Leads.{PlacedGoal, FirstIn, Leads}

-- a name that is bound is none that is not
bound_other : (b : List Binding) (one other : List ℕ) → is_bound one b ≡ true → is_bound other b ≡ false → one ≢ other
bound_other b one other t f e = true≢false (sym t ∙ (ap (λ n. is_bound n b) e ∙ f))

-- what is not bound with a binding more is not bound before, and has another name
unbound_before : (name : List ℕ) (b : List Binding) (y : Binding) → is_bound name (b ++ (y ∷ [])) ≡ false → (is_bound name b ≡ false) × (y.slot.name ≢ name)
unbound_before name [] y h = (refl, λ e. go (bytes_eq name y.slot.name) ((bytes_eq-Decides name y.slot.name).1 (sym e)) h)
  where
    go : (t : Bool) → bytes_eq name y.slot.name ≡ true → is_bound name (y ∷ []) ≡ false → ⊥
    go t s h = let f : true ≡ false = rw s at h in true≢false f
unbound_before name (x ∷ b) y h = go (bytes_eq name x.slot.name) refl (unbound_before name b y)
  where
    go : (t : Bool) → bytes_eq name x.slot.name ≡ t → (is_bound name (b ++ (y ∷ [])) ≡ false → (is_bound name b ≡ false) × (y.slot.name ≢ name)) → (is_bound name (x ∷ b) ≡ false) × (y.slot.name ≢ name)
    go true e ih = absurd (true≢false (rw e at h))
    go false e ih = let t = ih (rw e at h) in (rw e t.0, t.1)

-- what stands behind the first element of a pattern, seen from that element
module _ (m : List Binding) (name : List ℕ) (ps : List PlacedGoal) (r x : Placed) where
  first_done : FirstIn m name ps x → FirstIn m name ((done, r) ∷ ps) x
  first_done f = inr ((λ o. o.1), f)

  module _ (q : Pattern) where
    first_constant : (a : Atom) → FirstIn m name ((q, behind r) ∷ ps) x → FirstIn m name ((constant a q, r) ∷ ps) x
    first_constant a (inl f) = inl (past_constant a f)
    first_constant a (inr f) = inr f

    first_name : (sign : Sign) (other : List ℕ) (n : ℕ) → other ≢ name → width (value other m) ≡ n → FirstIn m name ((q, behind_all n r) ∷ ps) x → FirstIn m name ((slot sign other q, r) ∷ ps) x
    first_name sign other n apart wide (inl f) = inl (past_name sign other apart (subst (λ k. FirstAt m name q (behind_all k r) x) (sym wide) f))
    first_name sign other n apart wide (inr f) = inr ((λ o. ⊎_elim (λ e. apart (sym (ap (λ (s : Slot). s.name) e))) (λ i. f.0 (o.0, i)) o.1), f.1)

    first_list : (inner : Pattern) → FirstIn m name ((inner, inside r) ∷ ((q, behind r) ∷ ps)) x → FirstIn m name ((group inner q, r) ∷ ps) x
    first_list inner (inl f) = inl (in_list q f)
    first_list inner (inr (n, inl f)) = inl (past_list inner n f)
    first_list inner (inr (n, inr f)) = inr ((λ o. ⊎_elim (λ i. n (o.0, i)) (λ i. f.0 (o.0, i)) (in_either _ (slots inner) (slots q) o.1)), f.1)

module _ {pat rec : Placed} {p : Pattern} where
  -- the same, written otherwise
  pub leads_like : {trail : List Entry} {gs hs : List Goal} {ps qs : List PlacedGoal} → gs ≡ hs → ps ≡ qs → Leads pat rec p trail gs ps → Leads pat rec p trail hs qs
  leads_like {trail} {hs} {ps} g e h = subst (Leads pat rec p trail hs) e (subst (λ x. Leads pat rec p trail x ps) g h)

  -- an entry of a list lays no name
  pub leads_more : {trail : List Entry} {gs : List Goal} {ps : List PlacedGoal} (e : Entry) → e.0.laid ≡ ListLaid → Leads pat rec p trail gs ps → Leads pat rec p (e ∷ trail) gs ps
  leads_more {trail} {gs} {ps} e is h = record {
    laid = λ m name x c i t l. ⊎_elim (λ s. absurd (no_name name (subst (λ (y : Entry). is_marked pat y.0 name ≡ true) s t))) (λ j. h.laid m name x (before m c) j t l) i;
    ahead = λ m name x c n f. h.ahead m name x (before m c) (subst (λ b. is_bound name b ≡ false) same n) f;
  }
    where
      same : bound_in pat rec (e ∷ trail) ≡ bound_in pat rec trail
      same = rw (is, bound_in) refl

      before : (m : List Binding) → Completes (bound_in pat rec (e ∷ trail)) gs m → Completes (bound_in pat rec trail) gs m
      before m c = subst (λ b. Completes b gs m) same c

      no_name : (name : List ℕ) → is_marked pat e.0 name ≡ true → ⊥
      no_name name t = let f : false ≡ true = rw (is, is_marked) at t in true≢false (sym f)

  module _ {trail : List Entry} {gs : List Goal} {ps : List PlacedGoal} {r : Placed} where
    -- the end of a list
    pub leads-done : Leads pat rec p trail ((done, none) ∷ gs) ((done, r) ∷ ps) → Leads pat rec p trail gs ps
    leads-done h = record {
      laid = λ m name e c. h.laid m name e ((completes-done (bound_in pat rec trail) gs m).1 c);
      ahead = λ m name x c n f. h.ahead m name x ((completes-done (bound_in pat rec trail) gs m).1 c) n (first_done m name ps r x f);
    }

    -- a constant
    pub leads-constant : {q : Pattern} {next : Placed} {a : Atom} {es : Elements} → next ≡ behind r → Leads pat rec p trail ((constant a q, atom a es) ∷ gs) ((constant a q, r) ∷ ps) → Leads pat rec p trail ((q, es) ∷ gs) ((q, next) ∷ ps)
    leads-constant {q} {a = a} {es} is h = record {
      laid = λ m name e c. h.laid m name e ((completes-constant (bound_in pat rec trail) a q es gs m).1 c);
      ahead = λ m name x c n f. h.ahead m name x ((completes-constant (bound_in pat rec trail) a q es gs m).1 c) n (first_constant m name ps r x q a (subst (λ (y : Placed). FirstIn m name ((q, y) ∷ ps) x) is f));
    }

    -- a list is entered
    pub leads-group : {i q : Pattern} {inner es : Elements} → Leads pat rec p trail ((group i q, list inner es) ∷ gs) ((group i q, r) ∷ ps) →
        Leads pat rec p trail ((i, inner) ∷ ((q, es) ∷ gs)) ((i, inside r) ∷ ((q, behind r) ∷ ps))
    leads-group {i} {q} {inner} {es} h = record {
      laid = λ m name e c. h.laid m name e ((completes-group (bound_in pat rec trail) i q inner es gs m).1 c);
      ahead = λ m name x c n f. h.ahead m name x ((completes-group (bound_in pat rec trail) i q inner es gs m).1 c) n (first_list m name ps r x q i f);
    }

    -- a name that is bound
    pub leads-repeated : {q : Pattern} {next : Placed} {sign : Sign} {name : List ℕ} {es rest : Elements} → is_bound name (bound_in pat rec trail) ≡ true → es ≡ value name (bound_in pat rec trail) then rest →
        next ≡ behind_all (width (value name (bound_in pat rec trail))) r →
        Leads pat rec p trail ((slot sign name q, es) ∷ gs) ((slot sign name q, r) ∷ ps) → Leads pat rec p trail ((q, rest) ∷ gs) ((q, next) ∷ ps)
    leads-repeated {q} {sign = sign} {name} {es} {rest} k parts is h = record {
      laid = λ m other e c. h.laid m other e (before m c);
      ahead = λ m other x c n f. h.ahead m other x (before m c) n
          (first_name m other ps r x q sign name (width (value name (bound_in pat rec trail))) (bound_other (bound_in pat rec trail) name other k n) (wide m c)
          (subst (λ (y : Placed). FirstIn m other ((q, y) ∷ ps) x) is f));
    }
      where
        before : (m : List Binding) → Completes (bound_in pat rec trail) ((q, rest) ∷ gs) m → Completes (bound_in pat rec trail) ((slot sign name q, es) ∷ gs) m
        before m c = subst (λ y. Completes (bound_in pat rec trail) ((slot sign name q, y) ∷ gs) m) (sym parts) ((completes-repeated (bound_in pat rec trail) sign name q rest gs m k).1 c)

        wide : (m : List Binding) → Completes (bound_in pat rec trail) ((q, rest) ∷ gs) m → width (value name m) ≡ width (value name (bound_in pat rec trail))
        wide m c = ap width (ap (value name) c.extends ∙ value_bound (bound_in pat rec trail) c.new name k)

    -- a new name is laid: it occurs first at its entry's place
    pub leads-new : {q : Pattern} {next : Placed} {es rest : Elements} (sign : Sign) (name : List ℕ) (one : Elements) (e : Entry) → bound_in pat rec (e ∷ trail) ≡ bound_in pat rec trail ++ (binding sign name one ∷ []) →
        ((other : List ℕ) → is_marked pat e.0 other ≡ true → other ≡ name) → (0 < e.0.length → r ≡ run_at e.1 rec) →
        is_bound name (bound_in pat rec trail) ≡ false → es ≡ one then rest → Single (record { sign = sign; name = name }) one → next ≡ behind_all (width one) r →
        Leads pat rec p trail ((slot sign name q, es) ∷ gs) ((slot sign name q, r) ∷ ps) → Leads pat rec p (e ∷ trail) ((q, rest) ∷ gs) ((q, next) ∷ ps)
    leads-new {q} {es = es} {rest} sign name one e binds marked place k parts single is h = record {
      laid = λ m other x c i t l. ⊎_elim (λ s. new_laid m other x c s t l) (λ j. h.laid m other x (before m c) j t l) i;
      ahead = λ m other x c n f.
          let u = unbound_before other (bound_in pat rec trail) (binding sign name one) (subst (λ b. is_bound other b ≡ false) binds n) in
          h.ahead m other x (before m c) u.0 (first_name m other ps r x q sign name (width one) u.1 (ap width (stands_for m c)) (subst (λ (y : Placed). FirstIn m other ((q, y) ∷ ps) x) is f));
    }
      where
        with_new : (m : List Binding) → Completes (bound_in pat rec (e ∷ trail)) ((q, rest) ∷ gs) m → Completes (bound_in pat rec trail ++ (binding sign name one ∷ [])) ((q, rest) ∷ gs) m
        with_new m c = subst (λ b. Completes b ((q, rest) ∷ gs) m) binds c

        before : (m : List Binding) → Completes (bound_in pat rec (e ∷ trail)) ((q, rest) ∷ gs) m → Completes (bound_in pat rec trail) ((slot sign name q, es) ∷ gs) m
        before m c = (completes-new (bound_in pat rec trail) sign name q es gs m k).1 (one, rest, parts, single, with_new m c)

        stands_for : (m : List Binding) → Completes (bound_in pat rec (e ∷ trail)) ((q, rest) ∷ gs) m → value name m ≡ one
        stands_for m c =
            let d = with_new m c in
            ap (value name) (d.extends ∙ append_assoc (bound_in pat rec trail) (binding sign name one ∷ []) d.new)
            ∙ (value_new (bound_in pat rec trail) (binding sign name one ∷ d.new) name k ∙ value_first (binding sign name one) d.new)

        new_laid : (m : List Binding) (other : List ℕ) (x : Entry) → Completes (bound_in pat rec (e ∷ trail)) ((q, rest) ∷ gs) m → x ≡ e → is_marked pat x.0 other ≡ true → 0 < x.0.length → FirstAt m other p rec (run_at x.1 rec)
        new_laid m other x c s t l =
            subst (λ (y : Entry). FirstAt m other p rec (run_at y.1 rec)) (sym s)
            (subst (λ n. FirstAt m n p rec (run_at e.1 rec)) (sym (marked other (subst (λ (y : Entry). is_marked pat y.0 other ≡ true) s t)))
            (subst (λ (y : Placed). FirstAt m name p rec y) (place (subst (λ (y : Entry). 0 < y.0.length) s l))
            (h.ahead m name r (before m c) k (inl (here sign q r)))))
