use Rattle.std.proofs.Common.{◌≡◌, ℕ, ◌+◌, ◌-◌, ◌≤◌, List, [], ◌∷◌, ◌++◌, length, take, drop, decimal, refl, sym, ap, ◌∙◌, subst, append_assoc, arith, length-append}
use Rattle.std.proofs.lemmas.Slice.{drop-append-drop}
use Rattle.std.proofs.Math.Seq.{take-append_seam}
use borrow.Rule.Slice.PartMut.{put_mid, post_of, Post-is}
use Rattle.sexp.specs.Text.{text}
use Rattle.holder.specs.Walks.{put_front}
use Rattle.fitting.specs.Filling.{filled_atom}
use Rattle.fitting.proofs.Putting.{text_atom}
use Rattle.fitting.proofs.Filled.{constant_gives, name_gives, name_found}
use Rattle.fitting.proofs.searching.Search.put_atom.Goals as goal

-- octets copied to where what was put before ends
put_copied : (s t old out copy : List ℕ) (at : ℕ) → at ≡ length s → out ≡ put_front s old → copy ≡ t → put_mid at (at + length t - at) out copy ≡ put_front (s ++ t) old
put_copied s t old out copy at e so_far same =
    let first : take at out ≡ s = rw (so_far, e) (take-append_seam s (drop (length s) old)) in
    let last : post_of at (at + length t - at) out ≡ drop (length s + length t) old =
    Post-is at (at + length t) out (omega arith) ∙ rw (so_far, e) (drop-append-drop (length s) old s (length s + length t) (omega arith) refl) in
    rw (first, last, same, length-append s t) (sym (append_assoc s t (drop (length s + length t) old)))

pub put_run-requires-clause-room : goal.put_run-requires-clause-room
put_run-requires-clause-room g c =
    let s = c.args.self.now in
    let gives = name_gives (g.H.Holder.meaning s.record.now).tree s c.args.octets.now c.in-Some.mark c.in-Some.first c.in-Some-Name.ensures c.in-Some-Name.field-0-is c.in-Some.ensures in
    subst (λ es. length (text es) ≤ length c.args.output.now) gives c.requires.room

pub unreachable-requires : goal.unreachable-requires
unreachable-requires g c =
    let s = c.args.self.now in
    name_found (g.H.Holder.meaning s.record.now).tree s c.args.octets.now c.requires.fills c.in-Some-Name.ensures c.in-Some-Name.field-0-is c.in-None-find.ensures

pub returns-in-Some-Constant-clause-put : goal.returns-in-Some-Constant-clause-put
returns-in-Some-Constant-clause-put g c =
    let s = c.args.self.now in
    let rec = (g.H.Holder.meaning s.record.now).tree in
    let rest = c.in-Some-Constant.octets.now in
    let before = decimal (length rest) ++ (58 ∷ []) in
    let whole : text (filled_atom rec s c.args.octets.now) ≡ before ++ rest = ap text (constant_gives rec s c.args.octets.now c.in-Some-Constant.ensures c.in-Some-Constant.field-0-is) ∙ text_atom rest in
    let start : c.put_length-start.result ≡ length before = c.put_length-start.ensures.end ∙ sym (length-append (decimal (length rest)) (58 ∷ [])) in
    rw whole (put_copied before rest c.args.output.now c.put_length-start.new.output c.copy_from_slice.new.self c.put_length-start.result start c.put_length-start.ensures.put c.copy_from_slice.ensures.after)

pub returns-in-Some-clause-end : goal.returns-in-Some-clause-end
returns-in-Some-clause-end g c =
    let s = c.args.self.now in
    rw (name_gives (g.H.Holder.meaning s.record.now).tree s c.args.octets.now c.in-Some.mark c.in-Some.first c.in-Some-Name.ensures c.in-Some-Name.field-0-is c.in-Some.ensures) c.put_run.ensures.end

pub returns-in-Some-clause-put : goal.returns-in-Some-clause-put
returns-in-Some-clause-put g c =
    let s = c.args.self.now in
    rw (name_gives (g.H.Holder.meaning s.record.now).tree s c.args.octets.now c.in-Some.mark c.in-Some.first c.in-Some-Name.ensures c.in-Some-Name.field-0-is c.in-Some.ensures) c.put_run.ensures.put
