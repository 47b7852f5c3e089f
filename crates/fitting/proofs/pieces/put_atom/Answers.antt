use Rattle.std.proofs.Common.{◌≡◌, [], ◌∷◌, ◌++◌, decimal, length, sym, ap, ◌∙◌, arith, length-append}
use Rattle.sexp.specs.Text.{text}
use Rattle.holder.specs.Placed.{run_at, octets_of}
use Rattle.holder.specs.Walks.{first_of, put_front}
use Rattle.holder.proofs.Puts.{put_then}
use Rattle.fitting.proofs.Cursors.{first_of_atom}
use Rattle.fitting.proofs.Putting.{text_atom}
use Rattle.fitting.proofs.pieces.put_atom.Goals as goal

pub returns-clause-end : goal.returns-clause-end
returns-clause-end g c =
    let r = run_at c.args.place (g.H.Holder.meaning c.args.holder.now).tree in
    let os = octets_of r in
    let count = c.length_at-count.ensures in
    let number = decimal (length os) in
    let whole : text (first_of r) ≡ (number ++ (58 ∷ [])) ++ os = ap text (first_of_atom r c.requires.atom) ∙ text_atom os in
    omega (arith, ap length whole, length-append (number ++ (58 ∷ [])) os, length-append number (58 ∷ []), c.put_length-start.ensures.end, ap (λ n. length (decimal n)) count, count)

pub returns-clause-put : goal.returns-clause-put
returns-clause-put g c =
    let r = run_at c.args.place (g.H.Holder.meaning c.args.holder.now).tree in
    let os = octets_of r in
    let old = c.args.output.now in
    let count = c.length_at-count.ensures in
    let number = decimal (length os) in
    let before = number ++ (58 ∷ []) in
    let whole : text (first_of r) ≡ before ++ os = ap text (first_of_atom r c.requires.atom) ∙ text_atom os in
    let start : c.put_length-start.result ≡ length before = c.put_length-start.ensures.end ∙ rw count (sym (length-append number (58 ∷ []))) in
    let put : c.put_length-start.new.output ≡ put_front before old = c.put_length-start.ensures.put ∙ ap (λ n. put_front (decimal n ++ (58 ∷ [])) old) count in
    rw whole (put_then before os old c.put_length-start.new.output c.put_octets.new.output c.put_length-start.result start put c.put_octets.ensures)
