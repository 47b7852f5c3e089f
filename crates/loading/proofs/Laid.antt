-- The nodes of a run's text: how many they are, and that they lay the run out. Assumes nothing.
use Rattle.std.proofs.Common.{◌≡◌, ℕ, ◌+◌, ◌≤◌, List, [], ◌∷◌, ◌++◌, length, take, drop, decimal, sym, refl, ap, ◌∙◌, subst, append_assoc, arith, length-drop}
use Rattle.std.proofs.lemmas.List.{drop-drop, drop_at, take_at, length-append}
use Rattle.sexp.specs.Elements.{octets, Elements, none, atom, list, ◌then◌, count}
use Rattle.sexp.specs.Text.{atom_then, text_then, text}
use Rattle.sexp.proofs.Runs.{text_front, length_atom, length_list}
use Rattle.tables.specs.Nodes.{list_node, atom_node, Lays, empty, leaf, branch}
use Rattle.loading.specs.Laid.{nodes_from}

-- how long an atom's text is
pub spelled_extent : (os : List ℕ) → length (atom_then (octets os) []) ≡ length (decimal (length os)) + 1 + length os
spelled_extent os = omega (arith, length-append (decimal (length os)) (58 ∷ (os ++ [])), length-append os [])

-- an element has an octet at least
pub count_text : (es : Elements) → count es ≤ length (text es)
count_text none = omega arith
count_text (atom (octets os) es) = omega (arith, count_text es, spelled_extent os, length_atom (octets os) es)
count_text (list inner es) = omega (arith, count_text inner, count_text es, length_list inner es)

-- a node for each element
pub nodes_count : (p : ℕ) (es : Elements) → length (nodes_from p es) ≡ count es
nodes_count p none = refl
nodes_count p (atom (octets os) es) = omega (arith, nodes_count (p + length (atom_then (octets os) [])) es)
nodes_count p (list inner es) =
    let n = p + (length (text inner) + 2) in
    omega (arith, nodes_count (p + 1) inner, nodes_count n es, length-append (nodes_from (p + 1) inner) (nodes_from n es))

-- one run and then another
pub nodes-then : (p : ℕ) (es fs : Elements) → nodes_from p (es then fs) ≡ nodes_from p es ++ nodes_from (p + length (text es)) fs
nodes-then p none fs = ap (λ q. nodes_from q fs) (omega arith)
nodes-then p (atom (octets os) es) fs =
    let q = p + length (atom_then (octets os) []) in
    let node = atom_node (p + (length (decimal (length os)) + 1)) (length os) in
    ap (node ∷◌) (nodes-then q es fs ∙ ap (λ r. nodes_from q es ++ nodes_from r fs) (omega (arith, length_atom (octets os) es)))
nodes-then p (list inner es) fs =
    let q = p + (length (text inner) + 2) in
    let within = nodes_from (p + 1) inner in
    ap (list_node (1 + count inner) ∷◌)
    (ap (within ++◌) (nodes-then q es fs ∙ ap (λ r. nodes_from q es ++ nodes_from r fs) (omega (arith, length_list inner es)))
    ∙ sym (append_assoc within (nodes_from q es) (nodes_from (p + length (text (list inner es))) fs)))

-- where a run's text stands, its nodes lay it out
pub nodes_lay : (t : List ℕ) (p : ℕ) (es : Elements) (rest : List ℕ) → drop p t ≡ text_then es rest → Lays t (nodes_from p es) es
nodes_lay t p none rest here = empty
nodes_lay t p (atom (octets os) es) rest here =
    let ds : List ℕ = decimal (length os) ++ (58 ∷ []) in
    let after : List ℕ = text_then es rest in
    let wide : length ds ≡ length (decimal (length os)) + 1 = length-append (decimal (length os)) (58 ∷ []) in
    let at : ℕ = p + (length (decimal (length os)) + 1) in
    let parts : drop p t ≡ ds ++ (os ++ after) = here ∙ sym (append_assoc (decimal (length os)) (58 ∷ []) (os ++ after)) in
    let behind_colon : drop at t ≡ os ++ after =
    sym (drop-drop (length (decimal (length os)) + 1) p t) ∙ ap (drop (length (decimal (length os)) + 1)) parts ∙ drop_at ds (os ++ after) (length (decimal (length os)) + 1) wide in
    let behind : drop (p + length (atom_then (octets os) [])) t ≡ after =
    ap (λ k. drop k t) (omega (arith, spelled_extent os)) ∙ sym (drop-drop (length os) at t) ∙ ap (drop (length os)) behind_colon ∙ drop_at os after (length os) refl in
    let is : take (length os) (drop at t) ≡ os = ap (take (length os)) behind_colon ∙ take_at os after (length os) refl in
    let within : at + length os ≤ length t = omega (arith, length-drop p t, ap length parts, wide, length-append ds (os ++ after), length-append os after) in
    let later = nodes_lay t (p + length (atom_then (octets os) [])) es rest behind in
    subst (λ xs. Lays t (nodes_from p (atom (octets os) es)) (atom (octets xs) es)) is (leaf within later)
nodes_lay t p (list inner es) rest here =
    let after : List ℕ = text_then es rest in
    let q : ℕ = p + (length (text inner) + 2) in
    let opened : drop (p + 1) t ≡ text_then inner (41 ∷ after) = sym (drop-drop 1 p t) ∙ ap (drop 1) here in
    let closed : drop (p + 1 + length (text inner)) t ≡ 41 ∷ after =
    sym (drop-drop (length (text inner)) (p + 1) t) ∙ ap (drop (length (text inner))) (opened ∙ text_front inner (41 ∷ after)) ∙ drop_at (text inner) (41 ∷ after) (length (text inner)) refl in
    let behind : drop q t ≡ after = ap (λ k. drop k t) (omega arith) ∙ sym (drop-drop 1 (p + 1 + length (text inner)) t) ∙ ap (drop 1) closed in
    subst (λ k. Lays t (list_node (1 + k) ∷ (nodes_from (p + 1) inner ++ nodes_from q es)) (list inner es)) (nodes_count (p + 1) inner)
    (branch (nodes_lay t (p + 1) inner (41 ∷ after) opened) (nodes_lay t q es rest behind))
