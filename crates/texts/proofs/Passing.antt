-- Tokens passed one after another lead to the end of the element at a place. Assumes nothing.
use Rattle.std.proofs.Common.{Bor, ◌≡◌, ℕ, ◌+◌, ◌-◌, ◌<◌, ◌≤◌, List, [], ◌∷◌, ◌++◌, length, drop, decimal, true, Ok, Err, Result, sym, refl, ap, ◌∙◌, subst, inl, inr, append_assoc, arith}
use Rattle.std.proofs.lemmas.List.{length-append, length-drop}
use Rattle.sexp.specs.declared.refusals.Refusal.{Refusal}
use Rattle.sexp.specs.declared.tokens.Cursor.{Cursor}
use Rattle.sexp.specs.declared.tokens.Step.{Step}
use Rattle.sexp.specs.declared.tokens.Token.{Token}
use Rattle.sexp.specs.declared.tokens.Token.TheVariants.{Opening, Closing, Atom as AtomToken}
use Rattle.sexp.specs.Elements.{octets, Elements, none, atom, list, count, depth, ShortAtoms, Within}
use Rattle.sexp.specs.Faults.{Due, Room}
use Rattle.sexp.specs.Reading.{Lexeme, opening, closing, string, fault, lexeme, verdict}
use Rattle.sexp.specs.Text.{atom_then, text_then, text}
use Rattle.sexp.specs.Tokens.{lexeme_at, TellsToken, Tells}
use Rattle.sexp.proofs.Decimal.{decimal_is}
use Rattle.sexp.proofs.Lexing.{lex_opening, lex_closing, lex_atom}
use Rattle.holder.specs.Placed.{Placed, octets_of, Stands, IsAtom}
use Rattle.holder.specs.Walks.{first_of}
use Rattle.texts.specs.Label.{label, accepts}
use Rattle.texts.specs.Walked.{run_from, reading_at, end_at, FirstToken, TellsElement}
use Rattle.texts.proofs.Standing.{Found, found, drop_past, tail, inside_text, stands_text}

-- the text of what is left of some open lists, the innermost first, each with its ")", and then rest
abbrev pub closing_then : List Elements → List ℕ → List ℕ
closing_then [] rest = rest
closing_then (e ∷ es) rest = text_then e (41 ∷ closing_then es rest)

-- what is left of them keeps within the limits
abbrev pub Fine : List Elements → Type 0
Fine [] = Unit {0}
Fine (e ∷ es) = (length es + 1 + depth e ≤ 32) × ShortAtoms e × Fine es

abbrev pub total : List Elements → ℕ
total [] = 0
total (e ∷ es) = count e + total es

-- from a cursor on, all open lists close, and then the text goes on as it does at the offset end
pub record Ahead (end : ℕ) (from : Cursor) : Type 0 where
  pub lists : List Elements
  pub level : from.depth ≡ length lists
  pub left : drop from.at from.text.now ≡ closing_then lists (drop end from.text.now)
  pub inside : from.at ≤ length from.text.now
  pub few : from.count + total lists ≤ 4096
  pub fine : Fine lists

-- the cursor behind a token
abbrev pub moved : Cursor → (at depth count : ℕ) → Cursor
moved from at depth count = record { text = from.text; at = at; depth = depth; count = count }

-- so it is behind the token l that stands at `from`; a fault is none
abbrev pub After : (end : ℕ) (from : Cursor) → Lexeme → Type 0
After end from opening = Ahead end (moved from (from.at + 1) (from.depth + 1) (from.count + 1))
After end from closing = Ahead end (moved from (from.at + 1) (from.depth - 1) from.count)
After end from (string os more) = Ahead end (moved from (from.at + (more + 1)) from.depth (from.count + 1))
After end from (fault k) = ⊥

-- how many octets of an atom's text stand behind the first
abbrev pub more_of : List ℕ → ℕ
more_of os = length (decimal (length os)) + length os

module _ (end : ℕ) (from : Cursor) where
  abbrev Here : Type 0
  Here = After end from (lexeme_at from)

  -- the text from the cursor on, and behind some open lists
  abbrev ahead_text : List ℕ
  ahead_text = drop from.at from.text.now

  abbrev left_of : List Elements → List ℕ
  left_of lists = closing_then lists (drop end from.text.now)

  lexed : (t : List ℕ) (l : Lexeme) → ahead_text ≡ t → lexeme (length from.text.now) from.depth from.count from.at t ≡ l → lexeme_at from ≡ l
  lexed t l left e = ap (lexeme (length from.text.now) from.depth from.count from.at) left ∙ e

  -- behind a part of the text, with the lists that are open there
  passed : (part : List ℕ) (at depth count : ℕ) (lists : List Elements) → ahead_text ≡ part ++ left_of lists → at ≡ from.at + length part
      → depth ≡ length lists → count + total lists ≤ 4096 → Fine lists → 0 < length part → Ahead end (moved from at depth count)
  passed part at depth count lists left e level many fine some =
      record {
        lists = lists;
        level = level;
        left = ap (λ x. drop x from.text.now) e ∙ drop_past from.text.now part (left_of lists) from.at (length part) left refl;
        inside = omega (arith, ap length left, length-append part (left_of lists), length-drop from.at from.text.now);
        few = many;
        fine = fine;
      }

  -- behind the opening of a list its elements are left
  after_opening : (inner : Elements) (lists : List Elements) → Due from.depth from.count → from.depth ≡ length lists
      → ahead_text ≡ 40 ∷ left_of (inner ∷ lists) → from.depth < 32 → from.count + 1 + total (inner ∷ lists) ≤ 4096 → Fine (inner ∷ lists) → Here
  after_opening inner lists due level left deep many fine =
      let e : lexeme_at from ≡ opening = lexed _ opening left (lex_opening (length from.text.now) from.depth from.count from.at (left_of (inner ∷ lists)) due (deep, omega arith)) in
      subst (After end from) (sym e)
      (passed (40 ∷ []) (from.at + 1) (from.depth + 1) (from.count + 1) (inner ∷ lists) left refl (omega arith) many fine (omega arith))

  after_closing : (lists : List Elements) → from.depth ≡ length lists + 1
      → ahead_text ≡ 41 ∷ left_of lists → from.count + total lists ≤ 4096 → Fine lists → Here
  after_closing lists level left many fine =
      let e : lexeme_at from ≡ closing = lexed _ closing left (lex_closing (length from.text.now) from.depth from.count from.at (left_of lists) (omega arith)) in
      subst (After end from) (sym e)
      (passed (41 ∷ []) (from.at + 1) (from.depth - 1) from.count lists left refl (omega arith) many fine (omega arith))

  lexed_atom : (os rest : List ℕ) → Due from.depth from.count → Room from.depth from.count → length os ≤ 1024
      → ahead_text ≡ atom_then (octets os) rest → lexeme_at from ≡ string os (more_of os)
  lexed_atom os rest due room short left =
      lexed (atom_then (octets os) rest) (string os (more_of os)) left
      (lex_atom (length from.text.now) from.depth from.count from.at os rest due room (decimal_is (length os) (omega arith)) short)

  after_atom : (os : List ℕ) (lists : List Elements) → Due from.depth from.count → from.depth ≡ length lists
      → ahead_text ≡ atom_then (octets os) (left_of lists) → from.depth < 32 → length os ≤ 1024 → from.count + 1 + total lists ≤ 4096 → Fine lists → Here
  after_atom os lists due level left deep short many fine =
      let part : List ℕ = decimal (length os) ++ (58 ∷ os) in
      let whole : ahead_text ≡ part ++ left_of lists = left ∙ sym (append_assoc (decimal (length os)) (58 ∷ os) (left_of lists)) in
      let wide : length part ≡ more_of os + 1 = length-append (decimal (length os)) (58 ∷ os) ∙ omega arith in
      subst (After end from) (sym (lexed_atom os (left_of lists) due (deep, omega arith) short left))
      (passed part (from.at + (more_of os + 1)) from.depth (from.count + 1) lists whole (omega arith) level many fine (omega arith))

  -- behind a token inside a list
  stepped_at : (lists : List Elements) → 0 < from.depth → from.depth ≡ length lists → ahead_text ≡ left_of lists → from.count + total lists ≤ 4096 → Fine lists → Here
  stepped_at [] some level left many fine = absurd (omega arith)
  stepped_at (none ∷ lists) some level left many fine = after_closing lists (omega arith) left (omega arith) fine.2
  stepped_at (atom (octets os) es ∷ lists) some level left many fine =
      let deep = fine.0 in
      after_atom os (es ∷ lists) (inl some) level left (omega arith) fine.1.0 (omega arith) (omega arith, fine.1.1, fine.2)
  stepped_at (list inner es ∷ lists) some level left many fine =
      let deep = fine.0 in
      after_opening inner (es ∷ lists) (inl some) level left (omega arith) (omega arith) (omega arith, fine.1.0, (omega arith, fine.1.1, fine.2))

  pub stepped : Ahead end from → 0 < from.depth → Here
  stepped a some = stepped_at a.lists some a.level a.left a.few a.fine

  -- what a token that was told leads to
  pub record Onward (next : Cursor) : Type 0 where
    pub same : next.text ≡ from.text
    pub ahead : Ahead end next

  onward_to : (at depth count : ℕ) (next : Cursor) → Ahead end (moved from at depth count) → next ≡ moved from at depth count → Onward next
  onward_to at depth count next a e = rw e (record { same = refl; ahead = a })

  onward : (l : Lexeme) (token : Token) (next : Cursor) → After end from l → TellsToken from l token next → Onward next
  onward l (Opening at) next a tells = onward_to _ _ _ next (subst (After end from) tells.0 a) tells.2
  onward l (Closing at) next a tells = onward_to _ _ _ next (subst (After end from) tells.0 a) tells.2
  onward l (AtomToken at os) next a tells = onward_to _ _ _ next (subst (After end from) tells.1 a) tells.3

  pub told : (s : Step) → Here → Tells from (lexeme_at from) (Ok s) → Onward s.next
  told s a tells = onward (lexeme_at from) s.token s.next a tells

  pub never_fault : (k : Refusal) → Here → Tells from (lexeme_at from) (Err k) → ⊥
  never_fault k a tells = subst (After end from) tells a

-- the element at a place, read as a root is
module _ (given : Bor (List ℕ)) (p : ℕ) (r : Placed) (f : Found given.now p r) where
  abbrev first : Lexeme
  first = lexeme_at (reading_at given p)

  first_at : (es : Elements) (rest : List ℕ) → Stands (label p es) → drop p given.now ≡ text_then es rest
      → drop (end_at p (label p es)) given.now ≡ text_then (tail es) rest → Within es → After (end_at p (label p es)) (reading_at given p) first
  first_at none rest s here gone w = absurd s
  first_at (atom (octets os) es) rest s here gone w =
      let left = here ∙ ap (atom_then (octets os)) (sym gone) in
      let few = w.few in
      after_atom (end_at p (label p (atom (octets os) es))) (reading_at given p) os [] (inr refl) refl left (omega arith) w.short.0 (omega arith) tt
  first_at (list inner es) rest s here gone w =
      let left = here ∙ ap (λ x. 40 ∷ text_then inner (41 ∷ x)) (sym gone) in
      let few = w.few in
      let shallow = w.shallow in
      after_opening (end_at p (label p (list inner es))) (reading_at given p) inner [] (inr refl) refl left (omega arith) (omega arith) (omega arith, w.short.0, tt)

  gone : Stands r → drop (end_at p r) given.now ≡ text_then (tail f.run) f.rest
  gone s = drop_past given.now _ (text_then (tail f.run) f.rest) p (length (text (first_of r))) (stands_text given.now p r f s) refl

  pub first_after : Stands r → After (end_at p r) (reading_at given p) first
  first_after s =
      let behind = subst (λ x. drop (end_at p x) given.now ≡ text_then (tail f.run) f.rest) f.same (gone s) in
      subst (λ x. After (end_at p x) (reading_at given p) first) (sym f.same) (first_at f.run f.rest (subst Stands f.same s) f.here behind f.within)

  end_inside : Stands r → end_at p r ≤ length given.now
  end_inside s =
      omega (arith, inside_text given.now p r f s, ap length (stands_text given.now p r f s), length-append (text (first_of r)) (text_then (tail f.run) f.rest), length-drop p given.now)

  ended : (lists : List Elements) (to : Cursor) → to.text ≡ given → Stands r → to.depth ≡ length lists
      → drop to.at to.text.now ≡ closing_then lists (drop (end_at p r) to.text.now) → to.at ≤ length to.text.now → to.depth ≤ 0 → to.at ≡ end_at p r
  ended [] to same s level left inside none_open =
      omega (arith, ap length left, length-drop to.at to.text.now, length-drop (end_at p r) to.text.now, end_inside s, ap (λ x. length x.now) same)
  ended (e ∷ es) to same s level left inside none_open = absurd (omega arith)

  pub at_end : (to : Cursor) → to.text ≡ given → Stands r → Ahead (end_at p r) to → to.depth ≤ 0 → to.at ≡ end_at p r
  at_end to same s a none_open = ended a.lists to same s a.level a.left a.inside none_open

  -- an atom's octets are told by the token at its place
  atom_lexed : (es : Elements) (rest : List ℕ) → IsAtom (label p es) → drop p given.now ≡ text_then es rest → ShortAtoms es
      → first ≡ string (octets_of (label p es)) (more_of (octets_of (label p es)))
  atom_lexed none rest s here short = absurd s
  atom_lexed (atom (octets os) es) rest s here short = lexed_atom 0 (reading_at given p) os (text_then es rest) (inr refl) (omega arith) short.0 here
  atom_lexed (list inner es) rest s here short = absurd s

  -- what a token is that stands at an atom's place
  abbrev pub Spells : Token → Type 0
  Spells (Opening at) = ⊥
  Spells (Closing at) = ⊥
  Spells (AtomToken at os) = os.now ≡ octets_of r

  pub spells : (token : Token) (next : Cursor) → IsAtom r → TellsToken (reading_at given p) first token next → Spells token
  spells token next s =
      let e = atom_lexed f.run f.rest (subst IsAtom f.same s) f.here f.within.short in
      go token (e ∙ ap (λ x. string (octets_of x) (more_of (octets_of x))) (sym f.same))
    where
      go : (token : Token) → first ≡ string (octets_of r) (more_of (octets_of r)) → TellsToken (reading_at given p) first token next → Spells token
      go (Opening at) e tells = let t = tells.0 in cc
      go (Closing at) e tells = let t = tells.0 in cc
      go (AtomToken at os) e tells = let t = tells.1 in cc

  -- the first token of an element
  opens : (inner es : Elements) (rest : List ℕ) → drop p given.now ≡ text_then (list inner es) rest → first ≡ opening
  opens inner es rest here =
      lexed 0 (reading_at given p) (40 ∷ text_then inner (41 ∷ text_then es rest)) opening here
      (lex_opening (length given.now) 0 0 p (text_then inner (41 ∷ text_then es rest)) (inr refl) (omega arith, omega arith))

  first_token : (es : Elements) (rest : List ℕ) → drop p given.now ≡ text_then es rest → Within es → (token : Token) (next : Cursor)
      → Stands (label p es) → TellsToken (reading_at given p) first token next → FirstToken (label p es) token
  first_token none rest here w token next s t = absurd s
  first_token (atom (octets os) es) rest here w (Opening at) next s t = let e = atom_lexed (atom (octets os) es) rest tt here w.short in let o = t.0 in cc
  first_token (atom (octets os) es) rest here w (Closing at) next s t = let e = atom_lexed (atom (octets os) es) rest tt here w.short in let o = t.0 in cc
  first_token (atom (octets os) es) rest here w (AtomToken at cs) next s t = let e = atom_lexed (atom (octets os) es) rest tt here w.short in let o = t.1 in (t.2, cc)
  first_token (list inner es) rest here w (Opening at) next s t = t.1
  first_token (list inner es) rest here w (Closing at) next s t = let e = opens inner es rest here in let o = t.0 in cc
  first_token (list inner es) rest here w (AtomToken at cs) next s t = let e = opens inner es rest here in let o = t.1 in cc

  found_token : (token : Token) (next : Cursor) → Stands r → TellsToken (reading_at given p) first token next → FirstToken r token
  found_token token next s t = subst (λ x. FirstToken x token) (sym f.same) (first_token f.run f.rest f.here f.within token next (subst Stands f.same s) t)

pub tells_element : (given : Bor (List ℕ)) (p : ℕ) → accepts (verdict given.now) ≡ true → (told : Result Step Refusal)
    → Tells (reading_at given p) (lexeme_at (reading_at given p)) told → TellsElement (run_from given.now p) told
tells_element given p ok (Ok s) t = λ stands. found_token given p (run_from given.now p) (found given.now p ok stands) s.token s.next stands t
tells_element given p ok (Err k) t = λ stands.
    never_fault (end_at p (run_from given.now p)) (reading_at given p) k (first_after given p (run_from given.now p) (found given.now p ok stands) stands) t
