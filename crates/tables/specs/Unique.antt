-- A run of nodes is the table of one record at most. Assumes nothing.
use Rattle.std.specs.Prelude.{◌≡◌, ℕ, suc, ◌+◌, ◌≤◌, List, [], ◌∷◌, ◌++◌, length, take, drop, refl}
use Rattle.std.proofs.Common.{sym, ap, ◌∙◌, subst, append_assoc, append-nil, arith, length-append, length-drop}
use Rattle.std.proofs.lemmas.List.{drop_at, drop-drop, take_all}
use Rattle.std.proofs.Math.Seq.{take-add}
use Rattle.std.proofs.Props.{props}
use mathlib.Core.Logic.{∥∥₁_elim}
use mathlib.Core.HLevel.{Unit-prop, ⊥_prop, ×_prop, Σ_prop_path}
use Rattle.sexp.specs.Elements.{octets, Elements, none, atom, list, ◌then◌, count, Record, ShortAtoms}
use Rattle.sexp.proofs.Runs.{then-none, count-then}
use Rattle.tables.specs.declared.nodes.Node.{Node}
use Rattle.tables.specs.Nodes.{list_node, atom_node, Lays, empty, leaf, branch, Table, IsTable}
use Rattle.tables.specs.Begins.{ListNode, Begins, One, Single}

-- as many nodes as elements
pub lays_count : {o : List ℕ} {ns : List Node} {es : Elements} → Lays o ns es → count es ≡ length ns
lays_count empty = refl
lays_count (leaf l h) = omega (arith, lays_count h)
lays_count (branch {within} {rest} h k) = omega (arith, lays_count h, lays_count k, length-append within rest)

-- nodes that lay out elements begin with them, whatever follows
pub lays_begins : {o : List ℕ} {ns : List Node} {es : Elements} (more : List Node) → Lays o ns es → Begins o (ns ++ more) es
lays_begins more empty = tt
lays_begins more (leaf l h) = (record { kind = refl; span = refl; inside = l; spelled = refl }, lays_begins more h)
lays_begins {o} more (branch {within} {rest} {inner} {es} h k) =
    let n = lays_count h in
    let joined : (within ++ rest) ++ more ≡ within ++ (rest ++ more) = append_assoc within rest more in
    let behind : drop (count inner) (within ++ (rest ++ more)) ≡ rest ++ more = drop_at within (rest ++ more) (count inner) (sym n) in
    rw joined (record { kind = refl; span = omega (arith, n); no_offset = refl; no_length = refl }, (lays_begins (rest ++ more) h, subst (λ ms. Begins o ms es) (sym behind) (lays_begins more k)))

-- a node is what it says
is_atom : (n : Node) → n.kind ≡ 1 → n.span ≡ 1 → n ≡ atom_node n.offset n.length
is_atom n k s =
    let node : ℕ → ℕ → Node = λ x y. record { kind = x; span = y; offset = n.offset; length = n.length } in
    ap (λ x. node x n.span) k ∙ ap (node 1) s

is_list : (held : ℕ) (n : Node) → ListNode held n → n ≡ list_node (1 + held)
is_list held n h =
    let node : ℕ → ℕ → ℕ → ℕ → Node = λ w x y z. record { kind = w; span = x; offset = y; length = z } in
    ap (λ w. node w n.span n.offset n.length) h.kind ∙ (ap (λ x. node 0 x n.offset n.length) h.span ∙ (ap (λ y. node 0 (1 + held) y n.length) h.no_offset ∙ ap (node 0 (1 + held) 0) h.no_length))

-- and the nodes that they begin with lay them out
pub begins_lays : (o : List ℕ) (es : Elements) (ns : List Node) → Begins o ns es → Lays o (take (count es) ns) es
begins_lays o none ns b = empty
begins_lays o (atom a es) [] b = absurd b
begins_lays o (list inner es) [] b = absurd b
begins_lays o (atom (octets os) es) (n ∷ ns) b =
    let one : 1 + count es ≡ suc (count es) = omega arith in
    let node = is_atom n b.0.kind b.0.span in
    rw (one, b.0.spelled) (subst (λ m. Lays o (m ∷ take (count es) ns) (atom (octets (take n.length (drop n.offset o))) es)) (sym node) (leaf b.0.inside (begins_lays o es ns b.1)))
begins_lays o (list inner es) (n ∷ ns) b =
    let held = begins_lays o inner ns b.1.0 in
    let behind = begins_lays o es (drop (count inner) ns) b.1.1 in
    let node : n ≡ list_node (1 + length (take (count inner) ns)) = subst (λ k. n ≡ list_node (1 + k)) (lays_count held) (is_list (count inner) n b.0) in
    let one : 1 + count inner + count es ≡ suc (count inner + count es) = omega arith in
    let parts : take (count inner + count es) ns ≡ take (count inner) ns ++ take (count es) (drop (count inner) ns) = take-add (count inner) (count es) ns in
    rw (one, parts) (subst (λ m. Lays o (m ∷ (take (count inner) ns ++ take (count es) (drop (count inner) ns))) (list inner es)) (sym node) (branch held behind))

-- as many nodes at least as elements
pub begins_count : (o : List ℕ) (es : Elements) (ns : List Node) → Begins o ns es → count es ≤ length ns
begins_count o none ns b = omega arith
begins_count o (atom a es) [] b = absurd b
begins_count o (list inner es) [] b = absurd b
begins_count o (atom (octets os) es) (n ∷ ns) b = omega (arith, begins_count o es ns b.1)
begins_count o (list inner es) (n ∷ ns) b = omega (arith, begins_count o inner ns b.1.0, begins_count o es (drop (count inner) ns) b.1.1, length-drop (count inner) ns)

-- the nodes of the elements alone begin with them
pub begins_front : (o : List ℕ) (es : Elements) (ns : List Node) → Begins o ns es → Begins o (take (count es) ns) es
begins_front o es ns b = subst (λ ms. Begins o ms es) (append-nil (take (count es) ns)) (lays_begins [] (begins_lays o es ns b))

count_none : (es : Elements) → count es ≡ 0 → es ≡ none
count_none none e = refl
count_none (atom a es) e = absurd (omega arith)
count_none (list inner es) e = absurd (omega arith)

-- a run that goes on from one as long is that one
no_longer : (es gs more : Elements) → gs ≡ es then more → count gs ≡ count es → gs ≡ es
no_longer es gs more is e =
    let no_more : more ≡ none = count_none more (omega (arith, count-then es more, ap count is)) in
    is ∙ (ap (λ x. es then x) no_more ∙ then-none es)

list_goes_on : (inner held es gs more : Elements) → held ≡ inner → gs ≡ es then more → list held gs ≡ list inner es then more
list_goes_on inner held es gs more h k = ap (λ x. list x gs) h ∙ ap (list inner) k

-- what longer elements go on with
pub record Onward (o : List ℕ) (es gs : Elements) (ns : List Node) : Type 0 where
  pub more : Elements
  pub is : gs ≡ es then more
  pub begins : Begins o (drop (count es) ns) more

-- of two runs with which nodes begin, the longer goes on from the shorter
pub onward : (o : List ℕ) (es gs : Elements) (ns : List Node) → Begins o ns es → Begins o ns gs → count es ≤ count gs → Onward o es gs ns
onward o none gs ns b c h = record { more = gs; is = refl; begins = c }
onward o (atom a es) none ns b c h = absurd (omega arith)
onward o (list inner es) none ns b c h = absurd (omega arith)
onward o (atom a es) (atom d gs) [] b c h = absurd b
onward o (atom a es) (list held gs) [] b c h = absurd b
onward o (list inner es) (atom d gs) [] b c h = absurd b
onward o (list inner es) (list held gs) [] b c h = absurd b
onward o (atom (octets os) es) (list held gs) (n ∷ ns) b c h = absurd (omega (arith, b.0.kind, c.0.kind))
onward o (list inner es) (atom (octets ps) gs) (n ∷ ns) b c h = absurd (omega (arith, b.0.kind, c.0.kind))
onward o (atom (octets os) es) (atom (octets ps) gs) (n ∷ ns) b c h =
    let on = onward o es gs ns b.1 c.1 (omega arith) in
    let same : ps ≡ os = c.0.spelled ∙ sym b.0.spelled in
    let one : 1 + count es ≡ suc (count es) = omega arith in
    record {
      more = on.more;
      is = ap (λ x. atom (octets x) gs) same ∙ ap (atom (octets os)) on.is;
      begins = rw one on.begins;
    }
onward o (list inner es) (list held gs) (n ∷ ns) b c h =
    let sizes : count inner ≡ count held = omega (arith, b.0.span, c.0.span) in
    let within = onward o inner held ns b.1.0 c.1.0 (omega arith) in
    let same : held ≡ inner = no_longer inner held within.more within.is (sym sizes) in
    let on = onward o es gs (drop (count inner) ns) b.1.1 (subst (λ k. Begins o (drop k ns) gs) (sym sizes) c.1.1) (omega arith) in
    let one : 1 + count inner + count es ≡ suc (count inner + count es) = omega arith in
    record {
      more = on.more;
      is = list_goes_on inner held es gs on.more same on.is;
      begins = rw one (subst (λ ms. Begins o ms on.more) (drop-drop (count es) (count inner) ns) on.begins);
    }

-- two runs of one length with which nodes begin are the same
begins_same : (o : List ℕ) (es gs : Elements) (ns : List Node) → Begins o ns es → Begins o ns gs → count gs ≡ count es → gs ≡ es
begins_same o es gs ns b c e =
    let on = onward o es gs ns b c (omega arith) in
    no_longer es gs on.more on.is e

-- a record is a run of one element
record_one : (e : Elements) → Record e → One e
record_one none r = r
record_one (atom a es) r = ap count r
record_one (list inner es) r = ap count r

one_record : (e : Elements) → One e → Record e
one_record none h = h
one_record (atom a es) h = count_none es h
one_record (list inner es) h = count_none es h

module _ (o : List ℕ) (ns : List Node) where
  -- what nodes say has at most one proof
  begins_prop : (e : Elements) (ms : List Node) → IsProp (Begins o ms e)
  begins_prop none ms = Unit-prop
  begins_prop (atom a es) [] = ⊥_prop
  begins_prop (list inner es) [] = ⊥_prop
  begins_prop (atom (octets os) es) (m ∷ ms) = ×_prop (hlevel props) (begins_prop es ms)
  begins_prop (list inner es) (m ∷ ms) = ×_prop (hlevel props) (×_prop (begins_prop inner ms) (begins_prop es (drop (count inner) ms)))

  one_prop : (e : Elements) → IsProp (One e)
  one_prop none = ⊥_prop
  one_prop (atom a es) = hlevel props
  one_prop (list inner es) = hlevel props

  short_prop : (e : Elements) → IsProp (ShortAtoms e)
  short_prop none = Unit-prop
  short_prop (atom a es) = ×_prop (hlevel props) (short_prop es)
  short_prop (list inner es) = ×_prop (short_prop inner) (short_prop es)

  single_prop : (e : Elements) → IsProp (Single o ns e)
  single_prop e = hlevel (props, begins_prop, one_prop, short_prop)

  -- a table, by the one relation and by the other
  pub table_single : (e : Elements) → Table o ns e → Single o ns e
  table_single e t =
      record {
        begins = subst (λ ms. Begins o ms e) (append-nil ns) (lays_begins [] t.lays);
        all = lays_count t.lays;
        one = record_one e t.root;
        within = t.within;
      }

  pub single_table : (e : Elements) → Single o ns e → Table o ns e
  single_table e s =
      record {
        lays = subst (λ ms. Lays o ms e) (take_all (count e) ns (omega (arith, s.all))) (begins_lays o e ns s.begins);
        root = one_record e s.one;
        within = s.within;
      }

  single_same : (e g : Elements) → Single o ns e → Single o ns g → e ≡ g
  single_same e g s t = begins_same o g e ns t.begins s.begins (s.all ∙ sym t.all)

  pub table_same : (e g : Elements) → Table o ns e → Table o ns g → e ≡ g
  table_same e g s t = single_same e g (table_single e s) (table_single g t)

  -- a table of some record is the table of one that can be named, since it is of one only
  pub the_table : ∥ IsTable o ns ∥₁ → IsTable o ns
  the_table t =
      let one : IsProp ((e : Elements) × Single o ns e) = λ x y. Σ_prop_path single_prop (single_same x.0 y.0 x.1 y.1) in
      let found : (e : Elements) × Single o ns e = ∥∥₁_elim t one (λ k. (k.elements, table_single k.elements k.table)) in
      record { elements = found.0; table = single_table found.0 found.1 }
