-- What a load has passed and written: an element, a run, a whole list. Assumes nothing.
use Rattle.std.proofs.Common.{Bor, ◌≡◌, ℕ, ◌+◌, ◌-◌, ◌≤◌, List, [], ◌∷◌, length, get_or, take, drop, set, decimal, sym, refl, ap, ◌∙◌, subst, arith}
use Rattle.std.proofs.lemmas.List.{take-set, get_or-take, get_or-set_same, length-set}
use Rattle.sexp.specs.declared.refusals.Refusal.{Refusal}
use Rattle.sexp.specs.declared.tokens.Cursor.{Cursor}
use Rattle.sexp.specs.Elements.{octets, Elements, none, atom, list, ◌then◌, count}
use Rattle.sexp.specs.Reading.{onward, opened}
use Rattle.sexp.specs.Text.{text}
use Rattle.sexp.specs.declared.tokens.Token.{Token}
use Rattle.sexp.specs.declared.tokens.Token.TheVariants.{Opening, Atom}
use Rattle.sexp.specs.Tokens.{lexeme_at, TellsToken}
use Rattle.sexp.proofs.Decimal.{decimal_text}
use Rattle.sexp.proofs.Runs.{count-then, length_list, length-then, onward-none, onward_then, opened_closed}
use Rattle.sexp.proofs.Spanned.{passes}
use Rattle.sexp.proofs.Steps.{Strung, strung}
use Rattle.tables.specs.declared.nodes.Node.{Node}
use Rattle.tables.specs.Nodes.{list_node, atom_node}
use Rattle.loading.specs.declared.loading.Found.{Found}
use Rattle.loading.specs.declared.loading.Found.TheVariants.{Element, Close}
use Rattle.loading.specs.declared.loading.Loader.{Loader}
use Rattle.loading.specs.Fills.{loading_at, loading_from, Fills, Closes, Fails, FindsThat, Claimed}
use Rattle.loading.specs.Laid.{nodes_from}
use Rattle.loading.proofs.Lacks.{load_opens, load_passes}
use Rattle.loading.proofs.Laid.{spelled_extent, count_text}
use Rattle.loading.proofs.Parts.{shorter, written, run_laid, list_laid}

-- runs
pub fills_none : (l : Loader) → Fills l l none
fills_none l =
    record {
      same = refl;
      goes_on = sym (onward-none (loading_from l));
      level = refl;
      counted = omega arith;
      claimed = omega arith;
      size = refl;
      kept = refl;
      laid = refl;
      extent = omega arith;
    }

module _ (a b c : Loader) (es : Elements) (h : Fills a b es) where
  kept_before : take b.mark.now.used c.nodes.now ≡ take b.mark.now.used b.nodes.now → take a.mark.now.used c.nodes.now ≡ take a.mark.now.used a.nodes.now
  kept_before k = shorter a.mark.now.used b.mark.now.used c.nodes.now b.nodes.now (omega (arith, h.claimed)) k ∙ h.kept

  pub fills_more : (e : Elements) → Fills b c e → Fills a c (es then e)
  fills_more e k =
      record {
        same = k.same ∙ h.same;
        goes_on = h.goes_on ∙ ap (onward es) k.goes_on ∙ onward_then es e (loading_from c);
        level = k.level ∙ h.level;
        counted = omega (arith, h.counted, k.counted, count-then es e);
        claimed = omega (arith, h.claimed, k.claimed, count-then es e);
        size = k.size ∙ h.size;
        kept = kept_before k.kept;
        laid = run_laid a.cursor.at a.mark.now.used es e b.nodes.now c.nodes.now h.laid
            (subst (λ u. take u c.nodes.now ≡ take u b.nodes.now) h.claimed k.kept)
            (subst (λ u. take (count e) (drop u c.nodes.now) ≡ nodes_from (a.cursor.at + length (text es)) e) h.claimed
            (k.laid ∙ ap (λ p. nodes_from p e) h.extent));
        extent = omega (arith, h.extent, k.extent, length-then es e);
      }

  pub fails_more : (k : Refusal) → Fails b c k → Fails a c k
  fails_more k f = record { refuses = h.goes_on ∙ ap (onward es) f.refuses; kept = kept_before f.kept }

-- what is no element is the end of the list
pub found_close : (from to : Loader) (f : Found) → (f ≡ Element → ⊥) → FindsThat from to f → Closes from to
found_close from to Element n h = absurd (n refl)
found_close from to Close n h = h

-- the token at a load's cursor, and the cursor behind it
module _ (from : Loader) (token : Token) (next : Cursor) (told : TellsToken from.cursor (lexeme_at from.cursor) token next) where
  abbrev at_next : Loader
  at_next = record { cursor = next; nodes = from.nodes; mark = from.mark }

  -- an atom
  module _ (offset : ℕ) (os : Bor (List ℕ)) (is : token ≡ Atom offset os) where
    told_atom : TellsToken from.cursor (lexeme_at from.cursor) (Atom offset os) next
    told_atom = subst (λ k. TellsToken from.cursor (lexeme_at from.cursor) k next) is told

    strung_atom : Strung from.cursor.depth from.cursor.count (drop from.cursor.at from.cursor.text.now) os.now told_atom.0
    strung_atom = strung (length from.cursor.text.now) from.cursor.depth from.cursor.count from.cursor.at (drop from.cursor.at from.cursor.text.now) os.now told_atom.0 told_atom.1

    behind_atom : next.at ≡ from.cursor.at + (told_atom.0 + 1)
    behind_atom = ap (λ (c : Cursor). c.at) told_atom.3

    -- its octets lie from behind its colon up to the cursor behind it
    atom_extent : next.at ≡ from.cursor.at + (length (decimal (length os.now)) + 1) + length os.now
    atom_extent =
        let s = strung_atom in
        omega (arith, s.extent, behind_atom, ap length (decimal_text s.writes (omega (arith, s.short))))

    pub atom_inside : (length os.now ≤ next.at) × (next.at ≤ length from.cursor.text.now)
    atom_inside = (omega (arith, atom_extent), omega (arith, (passes from.cursor os.now told_atom.0 told_atom.1).1, behind_atom))

    pub found_atom : (to : Loader) (node : Node) → node ≡ atom_node (next.at - length os.now) (length os.now) → Claimed at_next to node → FindsThat from to Element
    found_atom to node is_node claim =
        let u : ℕ = from.mark.now.used in
        let left : ℕ = length from.nodes.now - u in
        let on = passes from.cursor os.now told_atom.0 told_atom.1 in
        let here : to.cursor.at ≡ from.cursor.at + (told_atom.0 + 1) = ap (λ (c : Cursor). c.at) claim.cursor ∙ behind_atom in
        let cursor = claim.cursor ∙ told_atom.3 in
        let size : length to.nodes.now ≡ length from.nodes.now = ap length claim.nodes ∙ length-set from.nodes.now u node in
        let place : next.at - length os.now ≡ from.cursor.at + (length (decimal (length os.now)) + 1) = omega (arith, atom_extent) in (
          (
            atom (octets os.now) none,
            refl,
            record {
              same = ap (λ (c : Cursor). c.text) cursor;
              goes_on = load_passes left from.cursor os.now told_atom.0 told_atom.1 (omega (arith, claim.some))
                  ∙ ap (onward (atom (octets os.now) none)) (sym (ap (loading_at (left - 1)) cursor) ∙ ap (λ k. loading_at k to.cursor) (omega (arith, size, claim.used)));
              level = ap (λ (c : Cursor). c.depth) cursor;
              counted = ap (λ (c : Cursor). c.count) cursor;
              claimed = claim.used;
              size = size;
              kept = ap (take u) claim.nodes ∙ take-set from.nodes.now u node;
              laid = ap (λ ns. take 1 (drop u ns)) claim.nodes ∙ written u 0 node from.nodes.now claim.some
                  ∙ ap (λ n. n ∷ []) (is_node ∙ ap (λ p. atom_node p (length os.now)) place);
              extent = omega (arith, here, behind_atom, atom_extent, spelled_extent os.now);
            },
          ),
          omega (arith, here),
          omega (arith, here, on.1),
        )

  -- a list: its node is written, with no span yet, and its elements follow
  module _ (offset : ℕ) (is : token ≡ Opening offset) (inner : Loader) (claim : Claimed at_next inner (list_node 0)) where
    abbrev u : ℕ
    u = from.mark.now.used

    told_list : TellsToken from.cursor (lexeme_at from.cursor) (Opening offset) next
    told_list = subst (λ k. TellsToken from.cursor (lexeme_at from.cursor) k next) is told

    entered : inner.cursor ≡ record { text = from.cursor.text; at = from.cursor.at + 1; depth = from.cursor.depth + 1; count = from.cursor.count + 1 }
    entered = claim.cursor ∙ told_list.2

    inner_size : length inner.nodes.now ≡ length from.nodes.now
    inner_size = ap length claim.nodes ∙ length-set from.nodes.now u (list_node 0)

    inner_kept : take u inner.nodes.now ≡ take u from.nodes.now
    inner_kept = ap (take u) claim.nodes ∙ take-set from.nodes.now u (list_node 0)

    inner_goes_on : loading_from from ≡ opened (loading_from inner)
    inner_goes_on =
        load_opens (length from.nodes.now - u) from.cursor told_list.0 (omega (arith, claim.some))
        ∙ ap opened (sym (ap (loading_at (length from.nodes.now - u - 1)) entered) ∙ ap (λ m. loading_at m inner.cursor) (omega (arith, inner_size, claim.used)))

    -- refused behind its opening
    pub fails_list : (to : Loader) (k : Refusal) → Fails inner to k → Fails from to k
    fails_list to k f =
        record {
          refuses = inner_goes_on ∙ ap opened f.refuses;
          kept = shorter u (u + 1) to.nodes.now inner.nodes.now (omega arith) (subst (λ m. take m to.nodes.now ≡ take m inner.nodes.now) claim.used f.kept) ∙ inner_kept;
        }

    -- its elements were found, and its span was written when it closed
    module _ (last close : Loader) (es : Elements) (h : Fills inner last es) (k : Closes last close) where
      closed_size : length close.nodes.now ≡ length from.nodes.now
      closed_size = ap length k.nodes ∙ h.size ∙ inner_size

      closed_used : close.mark.now.used ≡ u + 1 + count es
      closed_used = omega (arith, k.claimed, h.claimed, claim.used)

      inside : close.cursor.at ≤ length from.cursor.text.now
      inside = omega (arith, k.inside, ap (λ x. length x.now) h.same, ap (λ (c : Cursor). length c.text.now) entered)

      pub span_short : close.mark.now.used - u ≤ length from.cursor.text.now
      span_short = omega (arith, closed_used, count_text es, h.extent, k.behind, inside)

      closed_front : take (u + 1) close.nodes.now ≡ take (u + 1) inner.nodes.now
      closed_front = ap (take (u + 1)) k.nodes ∙ subst (λ m. take m last.nodes.now ≡ take m inner.nodes.now) claim.used h.kept

      -- the list's node is as it was written
      still : (d : Node) → get_or close.nodes.now u d ≡ list_node 0
      still d =
          sym (get_or-take (u + 1) close.nodes.now u d (omega arith)) ∙ ap (λ ns. get_or ns u d) closed_front ∙ get_or-take (u + 1) inner.nodes.now u d (omega arith)
          ∙ ap (λ ns. get_or ns u d) claim.nodes ∙ get_or-set_same from.nodes.now u (list_node 0) d claim.some

      -- the node with its span
      abbrev spanned : ℕ → Node → Node
      spanned index was = record { kind = was.kind; span = close.mark.now.used - index; offset = was.offset; length = was.length }

      inside_laid : take (count es) (drop (u + 1) close.nodes.now) ≡ nodes_from (from.cursor.at + 1) es
      inside_laid =
          ap (λ (ns : List Node). take (count es) (drop (u + 1) ns)) k.nodes
          ∙ ap (λ (m : ℕ). take (count es) (drop m last.nodes.now)) (sym claim.used)
          ∙ h.laid ∙ ap (λ (c : Cursor). nodes_from c.at es) entered

      pub found_list : (to : Loader) (index : ℕ) (d : Node) → index ≡ u → to.cursor ≡ close.cursor → to.mark.now.used ≡ close.mark.now.used → to.nodes.now ≡ set close.nodes.now index (spanned index (get_or close.nodes.now index d)) → FindsThat from to Element
      found_list to index d at_index cursor mark nodes =
          let at : inner.cursor.at ≡ from.cursor.at + 1 = ap (λ (c : Cursor). c.at) entered in
          let here : to.cursor.at ≡ close.cursor.at = ap (λ (c : Cursor). c.at) cursor in
          let size : length to.nodes.now ≡ length from.nodes.now = ap length nodes ∙ length-set close.nodes.now index _ ∙ closed_size in
          let span : close.mark.now.used - u ≡ 1 + count es = omega (arith, closed_used) in
          let written : to.nodes.now ≡ set close.nodes.now u (list_node (1 + count es)) =
          nodes ∙ ap (λ (i : ℕ). set close.nodes.now i (spanned i (get_or close.nodes.now i d))) at_index ∙ ap (λ (n : Node). set close.nodes.now u (spanned u n)) (still d) ∙ ap (λ (m : ℕ). set close.nodes.now u (list_node m)) span in (
            (
              list es none,
              refl,
              record {
                same = ap (λ (c : Cursor). c.text) cursor ∙ k.same ∙ h.same ∙ ap (λ (c : Cursor). c.text) entered;
                goes_on = inner_goes_on ∙ ap opened (h.goes_on ∙ ap (onward es) k.goes_on) ∙ opened_closed es (loading_from close)
                    ∙ ap (onward (list es none)) (ap (λ m. loading_at m close.cursor) (omega (arith, closed_size, size, mark)) ∙ ap (loading_at (length to.nodes.now - to.mark.now.used)) (sym cursor));
                level = omega (arith, ap (λ (c : Cursor). c.depth) cursor, k.level, h.level, ap (λ (c : Cursor). c.depth) entered);
                counted = omega (arith, ap (λ (c : Cursor). c.count) cursor, k.counted, h.counted, ap (λ (c : Cursor). c.count) entered);
                claimed = omega (arith, mark, closed_used);
                size = size;
                kept = ap (take u) written ∙ take-set close.nodes.now u (list_node (1 + count es)) ∙ shorter u (u + 1) close.nodes.now inner.nodes.now (omega arith) closed_front ∙ inner_kept;
                laid = ap (λ (ns : List Node). take (count (list es none)) (drop u ns)) written
                    ∙ list_laid from.cursor.at u es close.nodes.now (omega (arith, claim.some, closed_size)) inside_laid;
                extent = omega (arith, here, k.behind, h.extent, at, length_list es none);
              },
            ),
            omega (arith, here, k.behind, h.extent, at),
            omega (arith, here, inside),
          )
