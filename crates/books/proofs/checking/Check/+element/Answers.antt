use Rattle.std.proofs.lemmas.Result.{err_from_is_err_and}
use Rattle.sexp.specs.Tokens.{lexeme_at}
use Rattle.texts.specs.Walked.{run_from, reading_at}
use Rattle.books.specs.Checks.{seen_by}
use Rattle.books.proofs.Told.{told}
use Rattle.books.proofs.Scans.{atom_scan}
use Rattle.books.proofs.Listing.{listing_begun, listing_more, listing_smaller, listing_fault}
use Rattle.books.proofs.checking.Check.+element.Goals as goal

pub loop-rest-init : goal.loop-rest-init
loop-rest-init t c =
    let from = reading_at c.args.self.now.record.text c.args.place in
    let first = told (run_from c.args.self.now.record.text.now c.args.place) from (lexeme_at from) c.in_ok-octets.field-0 c.in_ok-octets.ensures.element c.in_ok-octets.ensures.token c.requires in
    let opening = c.in-Opening.is in
    listing_begun c.args.self.now c.args.place c.pass.new.self c.first_in-rest.result (rw opening at first) c.in_ok-pass-in-Opening.ensures c.first_in-rest.ensures

pub returns-in_err-element-in-Opening : goal.returns-in_err-element-in-Opening
returns-in_err-element-in-Opening t c =
    let p = err_from_is_err_and c.from_residual-in_err-element-in-Opening.result c.from_residual-in_err-element-in-Opening.ensures.1 in
    rw (p.1, p.2) (listing_fault c.args.self.now c.args.place c.loop-rest.self c.loop-rest.rest c.in-Some.inner c.loop-rest.invariant c.in-Some.is c.in_err-element-in-Opening.field-0.0 c.in_err-element-in-Opening.ensures)

pub loop-rest-smaller : goal.loop-rest-smaller
loop-rest-smaller t c =
    listing_smaller c.args.self.now c.args.place c.loop-rest.self c.loop-rest.rest c.in-Some.inner c.loop-rest.invariant c.in-Some.is c.element.new.self c.next_after-rest.result c.in_ok-element-in-Opening.ensures c.next_after-rest.ensures

pub loop-rest-preserved : goal.loop-rest-preserved
loop-rest-preserved t c =
    listing_more c.args.self.now c.args.place c.loop-rest.self c.loop-rest.rest c.in-Some.inner c.loop-rest.invariant c.in-Some.is c.element.new.self c.next_after-rest.result c.in_ok-element-in-Opening.ensures c.next_after-rest.ensures

pub returns-in-Atom : goal.returns-in-Atom
returns-in-Atom t c =
    let from = reading_at c.args.self.now.record.text c.args.place in
    let first = told (run_from c.args.self.now.record.text.now c.args.place) from (lexeme_at from) c.in_ok-octets.field-0 c.in_ok-octets.ensures.element c.in_ok-octets.ensures.token c.requires in
    let atom = c.in-Atom.is in
    rw (atom_scan c.args.self.now.side (seen_by c.args.self.now) (run_from c.args.self.now.record.text.now c.args.place) c.args.place c.in-Atom.octets (rw atom at first)) c.atom.ensures
