-- Which node is that of the element at a place. Assumes nothing.
use Rattle.std.proofs.Common.{◌≡◌, ℕ, ◌+◌, ◌*◌, ◌/◌, ◌%◌, ◌<◌, ◌≤◌, List, ◌∷◌, length, get_or, drop, Some, nat_lt, eqb, sym, refl, ap, ◌∙◌, subst, ⊎_elim, inl, inr, arith}
use Rattle.std.specs.Bool.{then_some}
use Rattle.std.proofs.lemmas.List.{drop-drop, drop_more}
use Rattle.std.proofs.lemmas.Bool.{eqb-true, cases_Bool, cases_lt, lt-ltb, le-ltb}
use Rattle.sexp.specs.Elements.{octets, Elements, none, atom, list, count}
use Rattle.holder.specs.Placed.{Placed, nothing, atom_at, list_at, run_at, ◌or_else◌, front, Stands}
use Rattle.holder.proofs.Walk.{Part, whole, after, within, later, part_at}
use Rattle.tables.specs.declared.nodes.Node.{Node}
use Rattle.tables.specs.declared.places.Place.{Place}
use Rattle.tables.specs.Nodes.{list_node, IsTable}
use Rattle.tables.specs.Begins.{Begins}
use Rattle.tables.specs.Places.{number, place_of}
use Rattle.tables.specs.Planted.{planted}
use Rattle.tables.specs.Unique.{the_table, table_single}
use Rattle.tables.specs.Standing.{Standing}
use Rattle.tables.specs.Meant.{meant}

-- the node at an index
abbrev pub node_at : List Node → ℕ → Node
node_at ns i = get_or ns i (list_node 0)

module _ (o : List ℕ) (ns : List Node) where
  at_node : (i : ℕ) (es : Elements) → i < length ns → Begins o (drop i ns) es → Begins o (node_at ns i ∷ drop (i + 1) ns) es
  at_node i es h b = subst (λ ms. Begins o ms es) (drop_more ns i (list_node 0) h) b

  -- a run of the record, laid out from an index on up to the end of the list around it
  pub record Spot (r : Placed) : Type 0 where
    pub index : ℕ
    pub end : ℕ
    pub es : Elements
    pub is : r ≡ planted index end es
    pub laid : Begins o (drop index ns) es
    pub filled : index + count es ≡ end
    pub most : end ≤ length ns

  behind_atom : (p : ℕ) (a : _) (rest : Placed) (s : Spot (atom_at p a rest)) → Spot rest
  behind_atom p a rest s = go s.es s.is s.laid s.filled
    where
      go : (es : Elements) → atom_at p a rest ≡ planted s.index s.end es → Begins o (drop s.index ns) es → s.index + count es ≡ s.end → Spot rest
      go none is laid filled = cc
      go (list inner es) is laid filled = cc
      go (atom (octets os) es) is laid filled =
          let most = s.most in
          record { index = s.index + 1; end = s.end; es = es; is = cc; laid = (at_node s.index (atom (octets os) es) (omega arith) laid).1; filled = omega arith; most = most }

  behind_list : (p : ℕ) (held rest : Placed) (s : Spot (list_at p held rest)) → Spot rest
  behind_list p held rest s = go s.es s.is s.laid s.filled
    where
      go : (es : Elements) → list_at p held rest ≡ planted s.index s.end es → Begins o (drop s.index ns) es → s.index + count es ≡ s.end → Spot rest
      go none is laid filled = cc
      go (atom a es) is laid filled = cc
      go (list inner es) is laid filled =
          let most = s.most in
          let b = at_node s.index (list inner es) (omega arith) laid in
          record {
            index = s.index + 1 + count inner;
            end = s.end;
            es = es;
            is = cc;
            laid = subst (λ ms. Begins o ms es) (drop-drop (count inner) (s.index + 1) ns) b.1.1;
            filled = omega arith;
            most = most;
          }

  inside_list : (p : ℕ) (held rest : Placed) (s : Spot (list_at p held rest)) → Spot held
  inside_list p held rest s = go s.es s.is s.laid s.filled
    where
      go : (es : Elements) → list_at p held rest ≡ planted s.index s.end es → Begins o (drop s.index ns) es → s.index + count es ≡ s.end → Spot held
      go none is laid filled = cc
      go (atom a es) is laid filled = cc
      go (list inner es) is laid filled =
          let most = s.most in
          let b = at_node s.index (list inner es) (omega arith) laid in
          record { index = s.index + 1; end = s.index + 1 + count inner; es = inner; is = cc; laid = b.1.0; filled = refl; most = omega arith }

  part_spot : (r t : Placed) → Part r t → Spot t → Spot r
  part_spot r _ whole s = s
  part_spot r (atom_at p a es) (after h) s = part_spot r es h (behind_atom p a es s)
  part_spot r (list_at p held es) (within h) s = part_spot r held h (inside_list p held es s)
  part_spot r (list_at p held es) (later h) s = part_spot r es h (behind_list p held es s)

-- a run that begins at a place begins with the element of that place
front_run : (p : ℕ) (t : Placed) → Stands (run_at p t) → front (run_at p t) ≡ Some p
front_run p nothing s = absurd s
front_run p (atom_at q a es) s =
    elim (cases_Bool (eqb p q)) as (λ _. front (run_at p (atom_at q a es)) ≡ Some p) [
      | inl e ↦ rw e (ap Some (sym (eqb-true p q e)))
      | inr e ↦ rw e (front_run p es (rw e at s))
    ]
front_run p (list_at q inner es) s =
    elim (cases_Bool (eqb p q)) as (λ _. front (run_at p (list_at q inner es)) ≡ Some p) [
      | inl e ↦ rw e (ap Some (sym (eqb-true p q e)))
      | inr e ↦ rw e (front_or (run_at p inner) (run_at p es) (rw e at s) (front_run p inner) (front_run p es))
    ]
  where
    front_or : (x y : Placed) → Stands (x or_else y) → (Stands x → front x ≡ Some p) → (Stands y → front y ≡ Some p) → front (x or_else y) ≡ Some p
    front_or nothing y s f g = g s
    front_or (atom_at r a xs) y s f g = f tt
    front_or (list_at r i xs) y s f g = f tt

-- the first of elements that fill the nodes from an index up to an end
front_planted : (index end : ℕ) (es : Elements) → index + count es ≡ end → front (planted index end es) ≡ then_some (nat_lt index end) (number index end)
front_planted index end none f = rw (le-ltb index end (omega arith)) refl
front_planted index end (atom a es) f = rw (lt-ltb index end (omega arith)) refl
front_planted index end (list inner es) f = rw (lt-ltb index end (omega arith)) refl

-- the same test, further on
moved_test : (i c : ℕ) → nat_lt (i + 1) (i + 1 + c) ≡ nat_lt 1 (1 + c)
moved_test i c =
    ⊎_elim (λ (h : 0 < c). lt-ltb (i + 1) (i + 1 + c) (omega arith) ∙ sym (lt-ltb 1 (1 + c) (omega arith))) (λ (h : c ≤ 0). le-ltb (i + 1) (i + 1 + c) (omega arith) ∙ sym (le-ltb 1 (1 + c) (omega arith))) (cases_lt 0 c)

-- a place's number tells its two parts
place_number : (index end : ℕ) → index < 65536 → place_of (number index end) ≡ record { index = index; end = end }
place_number index end h =
    let first : (65536 * end + index) % 65536 ≡ index = omega arith in
    let second : (65536 * end + index) / 65536 ≡ end = omega arith in
    let place : ℕ → ℕ → Place = λ i e. record { index = i; end = e } in
    ap (λ i. place i ((65536 * end + index) / 65536)) first ∙ ap (place index) second

module _ (o : List ℕ) (ns : List Node) where
  -- the node of an element's place, and what it says
  pub record Stood (place : Place) (r : Placed) : Type 0 where
    pub inside : place.index < length ns
    pub standing : Standing o place (node_at ns place.index) r

  stood_at : (index end : ℕ) (es : Elements) → Stands (planted index end es) → Begins o (drop index ns) es → index + count es ≡ end → end ≤ length ns → length ns ≤ 4096 → Stood (record { index = index; end = end }) (planted index end es)
  stood_at index end none s laid filled most few = absurd s
  stood_at index end (atom (octets os) es) s laid filled most few =
      let b = at_node o ns index (atom (octets os) es) (omega arith) laid in
      let one = b.0.span in
      record {
        inside = omega arith;
        standing = record {
          kind = rw b.0.kind refl;
          atom = λ t. b.0;
          inside = λ t. absurd t;
          behind = rw one (front_planted (index + 1) end es (omega arith));
          within = omega (arith, one);
          most = omega arith;
        };
      }
  stood_at index end (list inner es) s laid filled most few =
      let b = at_node o ns index (list inner es) (omega arith) laid in
      let span = b.0.span in
      let far : index + (1 + count inner) ≡ index + 1 + count inner = omega arith in
      record {
        inside = omega arith;
        standing = record {
          kind = rw b.0.kind refl;
          atom = λ t. absurd t;
          inside = λ t. rw (span, far, ← moved_test index (count inner)) (front_planted (index + 1) (index + 1 + count inner) inner refl);
          behind = rw (span, far) (front_planted (index + 1 + count inner) end es (omega arith));
          within = omega (arith, span);
          most = omega arith;
        };
      }

  -- what stands at a place of the record is the element of the node that the place names
  pub stood : (ok : ∥ IsTable o ns ∥₁) (p : ℕ) → Stands (run_at p (meant o ns ok).tree) → Stood (place_of p) (run_at p (meant o ns ok).tree)
  stood ok p s =
      let t = the_table o ns ok in
      let single = table_single o ns t.elements t.table in
      let tree = planted 0 (length ns) t.elements in
      let root : Spot o ns tree = record { index = 0; end = length ns; es = t.elements; is = refl; laid = single.begins; filled = omega (arith, single.all); most = omega arith } in
      let spot = part_spot o ns (run_at p tree) tree (part_at p tree s) root in
      let few : length ns ≤ 4096 = omega (arith, single.all, single.within.few) in
      go spot.index spot.end spot.es (run_at p tree) spot.is s (front_run p tree s) spot.laid spot.filled spot.most few
    where
      go : (index end : ℕ) (es : Elements) (r : Placed) → r ≡ planted index end es → Stands r → front r ≡ Some p → Begins o (drop index ns) es → index + count es ≡ end → end ≤ length ns → length ns ≤ 4096 → Stood (place_of p) r
      go index end none r is s f laid filled most few = absurd (subst Stands is s)
      go index end (atom a es) r is s f laid filled most few =
          let here : number index end ≡ p = cc in
          let place = place_number index end (omega arith) in
          subst (λ q. Stood (place_of q) r) here (rw place (subst (Stood (record { index = index; end = end })) (sym is) (stood_at index end (atom a es) (subst Stands is s) laid filled most few)))
      go index end (list inner es) r is s f laid filled most few =
          let here : number index end ≡ p = cc in
          let place = place_number index end (omega arith) in
          subst (λ q. Stood (place_of q) r) here (rw place (subst (Stood (record { index = index; end = end })) (sym is) (stood_at index end (list inner es) (subst Stands is s) laid filled most few)))

  pub stood_there : (ok : ∥ IsTable o ns ∥₁) (p : ℕ) (place : Place) (i : ℕ) → place ≡ place_of p → i ≡ place.index → Stands (run_at p (meant o ns ok).tree) → Standing o place (node_at ns i) (run_at p (meant o ns ok).tree)
  stood_there ok p place i e f s = rw (f, e) (stood ok p s).standing
