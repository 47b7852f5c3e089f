-- The state of the loops over a list's elements.
use Rattle.std.proofs.Common.{◌≡◌, ℕ, ◌+◌, ◌-◌, ◌<◌, ◌≤◌, List, [], ◌∷◌, ◌++◌, length, set, sym, refl, ap, ◌∙◌, append_assoc, arith, length-append}
use borrow.Rule.Slice.PartMut.{put_mid, mid_of}
use Rattle.sexp.specs.Elements.{depth}
use Rattle.sexp.specs.Text.{text}
use Rattle.holder.specs.Placed.{Placed, nothing, atom_at, list_at, erase, inside, behind, Stands, IsList}
use Rattle.holder.specs.Walks.{first_of, put_front, Limited}
use Rattle.holder.proofs.Puts.{put_then, put_octet}
use Rattle.holder.proofs.Texts.{text_first, text_list, text_most}
use Rattle.holder.proofs.Walk.{list_stands}

-- between two elements of the list r: those left are less deep than it, and their octets and those counted so far are those of its text
pub record Counted (r left : Placed) (total : ℕ) : Type 0 where
  pub shallow : depth (erase left) < depth (first_of r)
  pub octets : total + length (text (erase left)) ≡ length (text (first_of r))

-- the same where it is put: what is put so far, what is left and ")" are its text
pub record Putting (r left : Placed) (at : ℕ) (old out : List ℕ) : Type 0 where
  pub some : 1 ≤ at
  pub done : List ℕ
  pub end : at ≡ length done
  pub put : out ≡ put_front done old
  pub whole : done ++ (text (erase left) ++ (41 ∷ [])) ≡ text (first_of r)

pub length_first : (r : Placed) → length (text (erase r)) ≡ length (text (first_of r)) + length (text (erase (behind r)))
length_first r = ap length (text_first r) ∙ length-append (text (first_of r)) (text (erase (behind r)))

pub length_list : (r : Placed) → IsList r → length (text (first_of r)) ≡ 2 + length (text (erase (inside r)))
length_list r s = rw (text_list r s) (simp length-append (omega arith))

-- an element is deeper than what it holds
pub depth_inside : (r : Placed) → Stands r → depth (erase (inside r)) < depth (first_of r)
depth_inside nothing s = absurd s
depth_inside (atom_at p a es) s = omega arith
depth_inside (list_at p inner es) s = omega arith

depth_behind : (r : Placed) → depth (erase (behind r)) ≤ depth (erase r)
depth_behind nothing = omega arith
depth_behind (atom_at p a es) = omega arith
depth_behind (list_at p inner es) = omega arith

pub counted_none : (r left : Placed) → IsList r → left ≡ inside r → Counted r left 2
counted_none r left s is = record { shallow = rw is (depth_inside r (list_stands r s)); octets = rw is (sym (length_list r s)) }

pub counted_more : (r left e next : Placed) (total x : ℕ) → Counted r left total → left ≡ e → x ≡ length (text (first_of e)) → next ≡ behind e → Counted r next (total + x)
counted_more r left e next total x so_far is counted after =
    let shallow : depth (erase e) < depth (first_of r) = rw is at so_far.shallow in
    let octets : total + length (text (erase e)) ≡ length (text (first_of r)) = rw is at so_far.octets in
    record { shallow = rw after (omega (arith, depth_behind e)); octets = rw after (omega (arith, length_first e)) }

-- what has been counted, one more element included, is no more than the list
pub counted_most : (r left e : Placed) (total x : ℕ) → Limited (erase r) → Counted r left total → left ≡ e → x ≡ length (text (first_of e)) → total + x ≤ 4218880
counted_most r left e total x limits so_far is counted =
    let octets : total + length (text (erase e)) ≡ length (text (first_of r)) = rw is at so_far.octets in
    omega (arith, text_most (erase r) limits, length_first r, length_first e)

pub putting_none : (r left : Placed) (old : List ℕ) → IsList r → left ≡ inside r → length (text (first_of r)) ≤ length old → Putting r left 1 old (set old 0 40)
putting_none r left old s is room =
    record {
      some = omega arith;
      done = 40 ∷ [];
      end = refl;
      put = put_octet [] old old 40 0 refl (omega (arith, length_list r s)) refl;
      whole = rw is (sym (text_list r s));
    }

-- there is room for the next element, and for ")" behind the last one
pub room_first : (r left e : Placed) (at : ℕ) (old out : List ℕ) → Putting r left at old out → left ≡ e → length (text (first_of r)) ≤ length out → at + length (text (first_of e)) < length out
room_first r left e at old out so_far is room =
    let all : length (so_far.done ++ (text (erase e) ++ (41 ∷ []))) ≡ length (text (first_of r)) = rw is at (ap length so_far.whole) in
    let n = simp length-append at all in
    let end = so_far.end in
    omega (arith, length_first e)

pub putting_more : (r left e next : Placed) (at x : ℕ) (old out new : List ℕ) → Putting r left at old out → left ≡ e → x ≡ length (text (first_of e)) → new ≡ put_front (text (first_of e)) (mid_of at (length out - at) out) → next ≡ behind e → Putting r next (at + x) old (put_mid at (length out - at) out new)
putting_more r left e next at x old out new so_far is counted put after =
    let some = so_far.some in
    record {
      some = omega arith;
      done = so_far.done ++ text (first_of e);
      end = rw (so_far.end, counted) (sym (length-append so_far.done (text (first_of e))));
      put = put_then so_far.done (text (first_of e)) old out new at so_far.end so_far.put put;
      whole = rw (after, append_assoc so_far.done (text (first_of e)) (text (erase (behind e)) ++ (41 ∷ [])), ← append_assoc (text (first_of e)) (text (erase (behind e))) (41 ∷ []), ← text_first e, ← is) so_far.whole;
    }

pub putting_all : (r left : Placed) (at : ℕ) (old out : List ℕ) → Putting r left at old out → left ≡ nothing → length (text (first_of r)) ≤ length out → set out at 41 ≡ put_front (text (first_of r)) old
putting_all r left at old out so_far is room =
    let whole : so_far.done ++ (41 ∷ []) ≡ text (first_of r) = rw is at so_far.whole in
    let behind = room_first r left nothing at old out so_far is room in
    rw (← whole) (put_octet so_far.done old out 41 at so_far.end (omega arith) so_far.put)
