-- The first element of a run of nodes, and the elements of one list, passed one by one. Assumes nothing.
use Rattle.std.proofs.Common.{◌≡◌, ℕ, suc, ◌+◌, ◌-◌, ◌<◌, ◌≤◌, List, [], ◌∷◌, ◌++◌, length, take, drop, None, sym, refl, ap, ◌∙◌, subst, append_assoc, arith, length-drop, length-take-le}
use Rattle.std.proofs.lemmas.List.{drop-drop, take-append-drop}
use Rattle.sexp.specs.Elements.{octets, Elements, none, atom, list, ◌then◌, count, depth, ShortAtoms}
use Rattle.sexp.proofs.Runs.{count-then, depth-then, short_then, short_parts}
use Rattle.tables.specs.declared.nodes.Node.{Node}
use Rattle.tables.specs.Begins.{ListNode, AtomNode, Begins, One}
use Rattle.tables.specs.Checks.{Says, Fits, FitsBefore, NoneFits}
use Rattle.tables.specs.Unique.{lays_begins, begins_lays, begins_count, begins_front, onward}

-- two runs, one behind the other
begins_then : (o : List ℕ) (es fs : Elements) (ns : List Node) → Begins o ns es → Begins o (drop (count es) ns) fs → Begins o ns (es then fs)
begins_then o none fs ns b c = c
begins_then o (atom a es) fs [] b c = absurd b
begins_then o (list inner es) fs [] b c = absurd b
begins_then o (atom (octets os) es) fs (n ∷ ns) b c =
    let one : 1 + count es ≡ suc (count es) = omega arith in
    (b.0, begins_then o es fs ns b.1 (rw one at c))
begins_then o (list inner es) fs (n ∷ ns) b c =
    let one : 1 + count inner + count es ≡ suc (count inner + count es) = omega arith in
    let far : Begins o (drop (count inner + count es) ns) fs = rw one at c in
    (b.0, (b.1.0, begins_then o es fs (drop (count inner) ns) b.1.1 (subst (λ ms. Begins o ms fs) (sym (drop-drop (count es) (count inner) ns)) far)))

-- with more nodes behind them, nodes begin as they do
begins_more : (o : List ℕ) (es : Elements) (ns ms : List Node) → Begins o ns es → Begins o (ns ++ ms) es
begins_more o es ns ms b =
    let parts : take (count es) ns ++ (drop (count es) ns ++ ms) ≡ ns ++ ms = sym (append_assoc (take (count es) ns) (drop (count es) ns) ms) ∙ ap (λ xs. xs ++ ms) (take-append-drop (count es) ns) in
    subst (λ xs. Begins o xs es) parts (lays_begins (drop (count es) ns ++ ms) (begins_lays o es ns b))

-- the elements that were passed from the start of a list's nodes on
pub record Passed (o : List ℕ) (levels : ℕ) (start left : List Node) : Type 0 where
  pub elements : Elements
  pub begins : Begins o start elements
  pub behind : left ≡ drop (count elements) start
  pub shallow : depth elements ≤ levels
  pub short : ShortAtoms elements

pub passed_more : (o : List ℕ) (levels : ℕ) (start left rest : List Node) → Passed o levels start left → FitsBefore o levels left rest → Passed o levels start rest
passed_more o levels start left rest p f =
    let far : Begins o (drop (count p.elements) start) f.first = subst (λ ns. Begins o ns f.first) p.behind f.fits.begins in
    record {
      elements = p.elements then f.first;
      begins = begins_then o p.elements f.first start p.begins far;
      behind = f.behind ∙ (ap (drop (count f.first)) p.behind ∙ (drop-drop (count f.first) (count p.elements) start ∙ ap (λ k. drop k start) (sym (count-then p.elements f.first))));
      shallow = omega (arith, depth-then p.elements f.first, p.shallow, f.fits.shallow);
      short = short_then p.elements f.first p.short f.fits.short;
    }

one_counts : (e : Elements) → One e → 0 < count e
one_counts none h = absurd h
one_counts (atom a es) h = omega arith
one_counts (list inner es) h = omega arith

-- an element takes a node at least
pub fewer : (o : List ℕ) (levels : ℕ) (ns rest : List Node) → FitsBefore o levels ns rest → length rest < length ns
fewer o levels ns rest f =
    omega (arith, one_counts f.first f.fits.one, begins_count o f.first ns f.fits.begins, ap length f.behind, length-drop (count f.first) ns)

-- the run's first element by itself
abbrev first : Elements → Elements
first none = none
first (atom a es) = atom a none
first (list inner es) = list inner none

first_fits : (o : List ℕ) (levels : ℕ) (es : Elements) (ns : List Node) → 0 < count es → Begins o ns es → depth es ≤ levels → ShortAtoms es → Fits o levels ns (first es)
first_fits o levels none ns some b d s = absurd (omega arith)
first_fits o levels (atom a es) [] some b d s = absurd b
first_fits o levels (list inner es) [] some b d s = absurd b
first_fits o levels (atom (octets os) es) (n ∷ ns) some b d s = record { begins = (b.0, tt); one = refl; shallow = omega arith; short = (s.0, tt) }
first_fits o levels (list inner es) (n ∷ ns) some b d s = record { begins = (b.0, (b.1.0, tt)); one = refl; shallow = omega arith; short = (s.0, tt) }

module _ (o : List ℕ) (levels : ℕ) (n : Node) (ns nodes : List Node) (is : nodes ≡ n ∷ ns) where
  -- a node of no element
  pub no_content : Says o n None → NoneFits o levels nodes
  no_content h = rw is none_fits
    where
      none_fits : NoneFits o levels (n ∷ ns)
      none_fits none f = f.one
      none_fits (atom (octets os) es) f = h.1 os f.begins.0
      none_fits (list inner es) f = h.0 (count inner) f.begins.0

  -- an atom that is short enough
  pub fits_atom : (os : List ℕ) → AtomNode o os n → 0 < levels → length os ≤ 1024 → FitsBefore o levels nodes ns
  fits_atom os h some small = rw is (record { first = atom (octets os) none; fits = record { begins = (h, tt); one = refl; shallow = omega arith; short = (small, tt) }; behind = refl })

  module _ (held : ℕ) (node : ListNode held n) where
    -- a list whose nodes are too few
    pub short_list : length ns < held → NoneFits o levels nodes
    short_list few = rw is none_fits
      where
        none_fits : NoneFits o levels (n ∷ ns)
        none_fits none f = f.one
        none_fits (atom (octets os) es) f = absurd (omega (arith, f.begins.0.kind, node.kind))
        none_fits (list inner es) f = absurd (omega (arith, f.begins.0.span, node.span, begins_count o inner ns f.begins.1.0))

    module _ (some : 1 ≤ levels) (deeper : ℕ) (less : deeper ≡ levels - 1) (start left : List Node) (enough : held ≤ length ns) (front : start ≡ take held ns) (p : Passed o deeper start left) where
      -- a list whose elements were all passed
      pub fits_list : length left ≡ 0 → FitsBefore o levels nodes (drop held ns)
      fits_list done =
          let all : count p.elements ≡ held = omega (arith, begins_count o p.elements start p.begins, ap length p.behind, length-drop (count p.elements) start, ap length front, length-take-le held ns enough) in
          let within : Begins o ns p.elements = subst (λ ms. Begins o ms p.elements) (ap (λ ms. ms ++ drop held ns) front ∙ take-append-drop held ns) (begins_more o p.elements start (drop held ns) p.begins) in
          let spans : n.span ≡ 1 + count p.elements = omega (arith, node.span) in
          let one : 1 + count p.elements + 0 ≡ suc held = omega arith in
          rw is (record {
            first = list p.elements none;
            fits = record {
              begins = (record { kind = node.kind; span = spans; no_offset = node.no_offset; no_length = node.no_length }, (within, tt));
              one = refl;
              shallow = omega (arith, p.shallow);
              short = (p.short, tt);
            };
            behind = rw one refl;
          })

      -- a list in which some element does not fit
      pub stray_list : 0 < length left → NoneFits o deeper left → NoneFits o levels nodes
      stray_list more_left stray = rw is none_fits
        where
          none_fits : NoneFits o levels (n ∷ ns)
          none_fits none f = f.one
          none_fits (atom (octets os) es) f = absurd (omega (arith, f.begins.0.kind, node.kind))
          none_fits (list inner es) f =
              let all : count inner ≡ held = omega (arith, f.begins.0.span, node.span) in
              let whole : Begins o start inner = subst (λ ms. Begins o ms inner) (ap (λ k. take k ns) all ∙ sym front) (begins_front o inner ns f.begins.1.0) in
              let size : length start ≡ held = ap length front ∙ length-take-le held ns enough in
              let on = onward o p.elements inner start p.begins whole (omega (arith, begins_count o p.elements start p.begins)) in
              let more : 0 < count on.more = omega (arith, count-then p.elements on.more, ap count on.is, ap length p.behind, length-drop (count p.elements) start) in
              let deep : depth on.more ≤ deeper = omega (arith, depth-then p.elements on.more, ap depth on.is, f.shallow) in
              let short = short_parts p.elements on.more (subst ShortAtoms on.is f.short.0) in
              stray (first on.more) (first_fits o deeper on.more left more (subst (λ ms. Begins o ms on.more) (sym p.behind) on.begins) deep short.1)

pub ruleset passing = (fewer, passed_more, fits_atom)
