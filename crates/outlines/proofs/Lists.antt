-- The state of the loop over a list's elements. Assumes nothing.
use Rattle.std.proofs.Common.{◌≡◌, ℕ, ◌+◌, ◌*◌, ◌<◌, ◌≤◌, List, [], ◌++◌, replicate, refl, sym, ap, ◌∙◌, append_assoc, append-nil, arith}
use Rattle.sexp.specs.Elements.{octets, depth}
use Rattle.holder.specs.Placed.{Placed, nothing, atom_at, list_at, erase, inside, behind, IsList, IsAtom, octets_of}
use Rattle.holder.specs.Walks.{first_of}
use Rattle.outlines.specs.Outline.{atom_line, list_line, outline}

-- between two elements of the list r: those left are less deep than it, and with their lines those added so far are its own
pub record Listing (r left : Placed) (n : ℕ) (old out : List ℕ) : Type 0 where
  pub shallow : depth (erase left) < depth (first_of r)
  pub lines : out ++ outline (n + 1) (erase left) ≡ old ++ outline n (first_of r)

-- the lines of a run: those of its first element, and then of those behind it
outline_first : (n : ℕ) (r : Placed) → outline n (erase r) ≡ outline n (first_of r) ++ outline n (erase (behind r))
outline_first n nothing = refl
outline_first n (atom_at p (octets os) es) = simp (append_assoc, append-nil)
outline_first n (list_at p inner es) = simp (append_assoc, append-nil)

depth_first : (r : Placed) → depth (first_of r) ≤ depth (erase r)
depth_first nothing = omega arith
depth_first (atom_at p a es) = omega arith
depth_first (list_at p inner es) = omega arith

depth_behind : (r : Placed) → depth (erase (behind r)) ≤ depth (erase r)
depth_behind nothing = omega arith
depth_behind (atom_at p a es) = omega arith
depth_behind (list_at p inner es) = omega arith

-- an atom's lines
pub atom_lines : (n : ℕ) (r : Placed) (old : List ℕ) → IsAtom r → (old ++ replicate (2 * n) 32) ++ atom_line (octets_of r) ≡ old ++ outline n (first_of r)
atom_lines n nothing old s = absurd s
atom_lines n (atom_at p (octets os) es) old s = simp (append_assoc, append-nil)
atom_lines n (list_at p inner es) old s = absurd s

pub listing_none : (r left : Placed) (n : ℕ) (old out : List ℕ) → IsList r → left ≡ inside r → out ≡ (old ++ replicate (2 * n) 32) ++ list_line (erase left) → Listing r left n old out
listing_none nothing left n old out s is added = absurd s
listing_none (atom_at p a es) left n old out s is added = absurd s
listing_none (list_at p inner es) left n old out s is added = record { shallow = rw is (omega arith); lines = rw (added, is) (simp (append_assoc, append-nil)) }

-- what an inner element's own lines ask for
pub less_deep : (r left e : Placed) (n : ℕ) (old out : List ℕ) → Listing r left n old out → left ≡ e → depth (first_of e) < depth (first_of r)
less_deep r left e n old out so_far is =
    let shallow : depth (erase e) < depth (first_of r) = rw is at so_far.shallow in
    omega (arith, depth_first e)

pub listing_more : (r left e next : Placed) (n : ℕ) (old out new : List ℕ) → Listing r left n old out → left ≡ e → new ≡ out ++ outline (n + 1) (first_of e) → next ≡ behind e → Listing r next n old new
listing_more r left e next n old out new so_far is added after =
    let shallow : depth (erase e) < depth (first_of r) = rw is at so_far.shallow in
    let lines : out ++ outline (n + 1) (erase e) ≡ old ++ outline n (first_of r) = rw is at so_far.lines in
    record {
      shallow = rw after (omega (arith, depth_behind e));
      lines = rw (added, after) (append_assoc out (outline (n + 1) (first_of e)) (outline (n + 1) (erase (behind e))) ∙ ap (out ++◌) (sym (outline_first (n + 1) e)) ∙ lines);
    }

pub listing_all : (r left : Placed) (n : ℕ) (old out : List ℕ) → Listing r left n old out → left ≡ nothing → out ≡ old ++ outline n (first_of r)
listing_all r left n old out so_far is =
    let lines : out ++ [] ≡ old ++ outline n (first_of r) = rw is at so_far.lines in
    sym (append-nil out) ∙ lines
