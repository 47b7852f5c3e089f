-- A record within the limits is read back from its text. Assumes nothing.
use Rattle.std.proofs.Common.{◌≡◌, ℕ, ◌+◌, ◌<◌, ◌≤◌, List, [], ◌∷◌, ◌++◌, length, decimal, sym, refl, ap, ◌∙◌, ap₂, inl, inr, append-nil, arith}
use Rattle.std.proofs.lemmas.List.{length-append}
use Rattle.sexp.specs.Elements.{Atom, octets, Elements, none, atom, list, Record, count, depth, size, ShortAtoms, Within, Sized}
use Rattle.sexp.specs.Text.{atom_then, text_then, text}
use Rattle.sexp.specs.Faults.{Due, Room}
use Rattle.sexp.specs.Reading.{read, onward, opened, reading, concluded, verdict, accepted}
use Rattle.sexp.proofs.Runs.{onward-none, onward_then, opened_closed, text_front}
use Rattle.sexp.proofs.Lexing.{lex_opening, lex_closing}
use Rattle.sexp.proofs.Steps.{reads_string, step_opening, step_closing, step_whole, verdict_sized}
use Rattle.sexp.proofs.Decimal.{decimal_is}

module _ (end : ℕ) where
  -- one atom, and what follows it
  pub reads_atom : (d c at : ℕ) (a : Atom) (r : List ℕ) → Due d c → Room d c → size a ≤ 1024 → reading end 0 d c at (atom_then a r) ≡ onward (atom a none) (reading end 0 d (c + 1) (at + length (atom_then a [])) r)
  reads_atom d c at (octets os) r due room l =
      reads_string end d c at os r due room (decimal_is (length os) (omega arith)) l
      ∙ ap (λ x. onward (atom (octets os) none) (reading end 0 d (c + 1) (at + length (decimal (length os) ++ (58 ∷ x))) r)) (sym (append-nil os))

  -- one list, whose elements are read, and what follows it
  pub reads_list : (d c at at' : ℕ) (inner : Elements) (r : List ℕ) → Due d c → Room d c
      → reading end 0 (d + 1) (c + 1) (at + 1) (text_then inner (41 ∷ r)) ≡ onward inner (reading end 0 (d + 1) (c + 1 + count inner) at' (41 ∷ r))
      → reading end 0 d c at (40 ∷ text_then inner (41 ∷ r)) ≡ onward (list inner none) (reading end 0 d (c + 1 + count inner) (at' + 1) r)
  reads_list d c at at' inner r due room h =
      step_opening end d c at (40 ∷ text_then inner (41 ∷ r)) (lex_opening end d c at (text_then inner (41 ∷ r)) due room)
      ∙ ap opened (h ∙ ap (onward inner) (step_closing end (d + 1) (c + 1 + count inner) at' (41 ∷ r) (lex_closing end (d + 1) (c + 1 + count inner) at' r (omega arith))))
      ∙ opened_closed inner _
      ∙ ap (λ x. onward (list inner none) (reading end 0 x (c + 1 + count inner) (at' + 1) r)) (omega arith)

  -- a run inside a list
  pub reads_run : (d c at : ℕ) (es : Elements) (r : List ℕ) → 0 < d → d + depth es ≤ 32 → c + count es ≤ 4096 → ShortAtoms es → reading end 0 d c at (text_then es r) ≡ onward es (reading end 0 d (c + count es) (at + length (text es)) r)
  reads_run d c at none r p deep many short = sym (onward-none _ ∙ ap₂ (λ x y. reading end 0 d x y r) (omega arith) (omega arith))
  reads_run d c at (atom a es) r p deep many short =
      reads_atom d c at a (text_then es r) (inl p) (omega arith) short.0
      ∙ ap (onward (atom a none)) (reads_run d (c + 1) (at + length (atom_then a [])) es r p (omega arith) (omega arith) short.1)
      ∙ onward_then (atom a none) es _
      ∙ ap₂ (λ x y. onward (atom a es) (reading end 0 d x y r)) (omega arith) (omega (arith, ap length (text_front (atom a none) (text es)) ∙ length-append (atom_then a []) (text es)))
  reads_run d c at (list inner es) r p deep many short =
      reads_list d c at (at + 1 + length (text inner)) inner (text_then es r) (inl p) (omega arith)
      (reads_run (d + 1) (c + 1) (at + 1) inner (41 ∷ text_then es r) (omega arith) (omega arith) (omega arith) short.0)
      ∙ ap (onward (list inner none)) (reads_run d (c + 1 + count inner) (at + 1 + length (text inner) + 1) es r p (omega arith) (omega arith) short.1)
      ∙ onward_then (list inner none) es _
      ∙ ap₂ (λ x y. onward (list inner es) (reading end 0 d x y r)) (omega arith) (omega (arith, ap length (text_front inner (41 ∷ text es)) ∙ length-append (text inner) (41 ∷ text es)))

  -- the root, from the front of a text to its end
  root_atom : (a : Atom) → size a ≤ 1024 → reading end 0 0 0 0 (atom_then a []) ≡ read (atom a none ∷ [])
  root_atom a short =
      reads_atom 0 0 0 a [] (inr refl) (omega arith) short ∙ ap (onward (atom a none)) (step_whole end 0 1 0 (λ due. omega arith))

  root_list : (inner : Elements) → 1 + depth inner ≤ 32 → 1 + count inner ≤ 4096 → ShortAtoms inner → reading end 0 0 0 0 (text (list inner none)) ≡ read (list inner none ∷ [])
  root_list inner deep many short =
      reads_list 0 0 0 (1 + length (text inner)) inner [] (inr refl) (omega arith) (reads_run 1 1 1 inner (41 ∷ []) (omega arith) deep many short)
      ∙ ap (onward (list inner none)) (step_whole end 0 (1 + count inner) 0 (λ due. omega arith))

  pub reads_root : (e : Elements) → Record e → Within e → reading end 0 0 0 0 (text e) ≡ read (e ∷ [])
  reads_root none p w = absurd p
  reads_root (atom a es) p w = rw p (root_atom a w.short.0)
  reads_root (list inner es) p w = rw p (root_list inner (omega arith) (omega arith) w.short.0)

pub text_accepted : (e : Elements) → Record e → Within e → Sized (text e) → verdict (text e) ≡ accepted e
text_accepted e p w s = verdict_sized (text e) s ∙ ap concluded (reads_root (length (text e)) e p w)
