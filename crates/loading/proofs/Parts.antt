-- Nodes written at a mark, and what stays of those below it. Assumes nothing.
use Rattle.std.proofs.Common.{◌≡◌, ℕ, suc, ◌+◌, ◌<◌, ◌≤◌, List, ◌∷◌, ◌++◌, length, take, drop, set, sym, ap, ◌∙◌, ap₂, append-nil, arith}
use Rattle.std.proofs.lemmas.List.{take-take, drop-take, drop-set, drop-drop}
use Rattle.std.proofs.Math.Seq.{take-add}
use Rattle.sexp.specs.Elements.{Elements, none, list, ◌then◌, count}
use Rattle.sexp.specs.Text.{text}
use Rattle.sexp.proofs.Runs.{count-then}
use Rattle.tables.specs.declared.nodes.Node.{Node}
use Rattle.tables.specs.Nodes.{list_node}
use Rattle.loading.specs.Laid.{nodes_from}
use Rattle.loading.proofs.Laid.{nodes-then}

-- equal fronts have equal shorter fronts
pub shorter : (m n : ℕ) (xs ys : List Node) → m ≤ n → take n xs ≡ take n ys → take m xs ≡ take m ys
shorter m n xs ys h e = sym (take-take m n xs h) ∙ ap (take m) e ∙ take-take m n ys h

-- equal fronts have equal parts
pub same_part : (u k : ℕ) (xs ys : List Node) → take (u + k) xs ≡ take (u + k) ys → take k (drop u xs) ≡ take k (drop u ys)
same_part u k xs ys e = sym (drop-take u k xs) ∙ ap (drop u) e ∙ drop-take u k ys

-- two parts that meet
pub joined_part : (u k j : ℕ) (xs : List Node) → take (k + j) (drop u xs) ≡ take k (drop u xs) ++ take j (drop (u + k) xs)
joined_part u k j xs = take-add k j (drop u xs) ∙ ap (λ x. take k (drop u xs) ++ take j x) (drop-drop k u xs)

-- the part that begins with a node where it is written
pub written : (u k : ℕ) (n : Node) (xs : List Node) → u < length xs → take (suc k) (drop u (set xs u n)) ≡ n ∷ take k (drop (u + 1) xs)
written u k n xs h = ap (take (suc k)) (drop-set xs u n h)

-- a run and then more of it, written behind
pub run_laid : (p u : ℕ) (es e : Elements) (ys zs : List Node) → take (count es) (drop u ys) ≡ nodes_from p es → take (u + count es) zs ≡ take (u + count es) ys → take (count e) (drop (u + count es) zs) ≡ nodes_from (p + length (text es)) e → take (count (es then e)) (drop u zs) ≡ nodes_from p (es then e)
run_laid p u es e ys zs a same b =
    ap (λ k. take k (drop u zs)) (count-then es e)
    ∙ joined_part u (count es) (count e) zs
    ∙ ap₂ ◌++◌ (same_part u (count es) zs ys same ∙ a) b
    ∙ sym (nodes-then p es e)

-- a list's node, its span written when it closes
pub list_laid : (p u : ℕ) (es : Elements) (ys : List Node) → u < length ys → take (count es) (drop (u + 1) ys) ≡ nodes_from (p + 1) es → take (count (list es none)) (drop u (set ys u (list_node (1 + count es)))) ≡ nodes_from p (list es none)
list_laid p u es ys h a =
    let wide : count (list es none) ≡ suc (count es) = omega arith in
    ap (λ k. take k (drop u (set ys u (list_node (1 + count es))))) wide
    ∙ written u (count es) (list_node (1 + count es)) ys h
    ∙ ap (list_node (1 + count es) ∷◌) (a ∙ sym (append-nil (nodes_from (p + 1) es)))
