-- Texts of elements put at the front of an output, one behind another. Assumes nothing.
use Rattle.std.proofs.Common.{◌≡◌, ℕ, ◌+◌, ◌-◌, ◌<◌, ◌≤◌, Option, Some, List, [], ◌∷◌, ◌++◌, length, decimal, set, sym, refl, ap, ◌∙◌, append_assoc, append-nil, arith, length-append}
use borrow.Rule.Slice.PartMut.{put_mid, mid_of}
use Rattle.sexp.specs.Elements.{octets, Elements, none, atom, list, ◌then◌}
use Rattle.sexp.specs.Text.{text}
use Rattle.sexp.proofs.Runs.{text_then-then, text_front, length-then, length_list}
use Rattle.holder.specs.Placed.{Placed, Meaning, run_at, front as place_of, behind}
use Rattle.holder.specs.Walks.{first_of, put_front}
use Rattle.holder.proofs.Puts.{put_then, put_octet}
use Rattle.rules.specs.Bindings.{width}
use Rattle.fitting.specs.Cursors.{elements_from, front}
use Rattle.fitting.proofs.Cursors.{next_elements, front_less}
use Rattle.fitting.proofs.Loops.{InList, InRun, list_stands, run_stands, run_more, run_front}

-- an atom's text: how many octets it has, a colon and the octets
pub text_atom : (os : List ℕ) → text (atom (octets os) none) ≡ (decimal (length os) ++ (58 ∷ [])) ++ os
text_atom os = ap (λ rest. decimal (length os) ++ (58 ∷ rest)) (append-nil os) ∙ sym (append_assoc (decimal (length os)) (58 ∷ []) os)

-- what is put before, and then the text of elements, is at the front of an output, and ends there
pub record Putting (before : List ℕ) (done : Elements) (at : ℕ) (old out : List ℕ) : Type 0 where
  pub end : at ≡ length (before ++ text done)
  pub put : out ≡ put_front (before ++ text done) old

pub putting_more : (x : Elements) {before : List ℕ} {done : Elements} {at n : ℕ} {old out new : List ℕ} → Putting before done at old out → n ≡ length (text x) → new ≡ put_front (text x) (mid_of at (length out - at) out)
    → Putting before (done then x) (at + n) old (put_mid at (length out - at) out new)
putting_more x {before = before} {done = done} {at = at} {old = old} {out = out} {new = new} so_far long put =
    let all : (before ++ text done) ++ text x ≡ before ++ text (done then x) = append_assoc before (text done) (text x) ∙ ap (before ++◌) (sym (text_then-then done x [] ∙ text_front done (text x))) in
    record {
      end = rw (← all, so_far.end, long) (sym (length-append (before ++ text done) (text x)));
      put = rw (← all) (put_then (before ++ text done) (text x) old out new at so_far.end so_far.put put);
    }

-- a list's "(" is put, and the ")" behind its elements
pub putting_begins : (old : List ℕ) → 0 < length old → Putting (40 ∷ []) none 1 old (set old 0 40)
putting_begins old some = record { end = refl; put = put_octet [] old old 40 0 refl some refl }

pub putting_ends : {es done : Elements} {at : ℕ} {old out : List ℕ} → Putting (40 ∷ []) done at old out → es ≡ list done none → at < length out → set out at 41 ≡ put_front (text es) old
putting_ends {es = es} {done = done} {at = at} {old = old} {out = out} so_far whole room =
    let all : text es ≡ 40 ∷ (text done ++ (41 ∷ [])) = rw whole (ap (40 ∷◌) (text_front done (41 ∷ []))) in
    rw all (put_octet (40 ∷ text done) old out 41 at so_far.end room so_far.put)

-- there is room for the next element of a list, and for the ")" behind the last
pub list_room : (m : Meaning) {r : Placed} {done : Elements} {at : Option ℕ} {p : ℕ} → InList m.tree r done at → at ≡ Some p → length (text done) + length (text (first_of (run_at p m.tree))) + 2 ≤ length (text (first_of r))
list_room m {r = r} {done = done} {p = p} so_far e =
    let x = first_of (run_at p m.tree) in
    let rest = elements_from m.tree (place_of (behind (run_at p m.tree))) in
    let here : elements_from m.tree (Some p) ≡ x then rest = next_elements m p _ (list_stands so_far e) refl in
    let whole : first_of r ≡ list (done then elements_from m.tree (Some p)) none = rw e at so_far.whole in
    omega (arith, ap (λ es. length (text es)) whole, length_list (done then elements_from m.tree (Some p)) none, length-then done (elements_from m.tree (Some p)), ap (λ es. length (text es)) here, length-then x rest)

pub end_room : {es done : Elements} → es ≡ list done none → length (text es) ≡ length (text done) + 2
end_room {done = done} whole = omega (arith, ap (λ es. length (text es)) whole, length_list done none)

-- there is room for the next element of a run
pub run_room : (m : Meaning) {es done : Elements} {n : ℕ} {at : Option ℕ} {p : ℕ} (many : ℕ) → InRun m.tree es done n at → n < many → many ≤ width es → at ≡ Some p
    → length (text done) + length (text (first_of (run_at p m.tree))) ≤ length (text (front many es))
run_room m {es = es} {done = done} {n = n} {p = p} many so_far less wide e =
    let x = first_of (run_at p m.tree) in
    let more : front (n + 1) es ≡ done then x = run_front (n + 1) (run_more m so_far (run_stands many so_far less wide e) e refl) refl in
    let begins = front_less (n + 1) many es (omega (arith, less)) in
    omega (arith, ap (λ es. length (text es)) (begins.1 ∙ ap (λ z. z then begins.0) more), length-then (done then x) begins.0, length-then done x)
