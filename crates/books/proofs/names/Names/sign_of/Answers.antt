use Rattle.std.proofs.Common.{rules, tests, ◌∙◌}
use Rattle.std.specs.Str.{bytes_eq}
use Rattle.std.proofs.lemmas.Iterator.{YieldsList-from_slice}
use Rattle.std.proofs.lemmas.Iterator.Search.{find_from_yields_List}
use Rattle.books.proofs.Slots.{sign_told}
use Rattle.books.proofs.names.Names.sign_of.Goals as goal

pub returns-in_err-found : goal.returns-in_err-found
returns-in_err-found c =
    let found = find_from_yields_List (λ n. bytes_eq c.args.octets.now n.octets.now) _ _ c.find.result c.find.ensures.ran (YieldsList-from_slice c.as_slice.result.now cc) (λ x b q k. search (rules, tests)) in
    let told = sign_told c.args.octets.now c.as_slice.result.now c.args.self.now c.find.result found c.as_slice.ensures in
    let none = c.in_err-found.was in
    c.from_residual.ensures ∙ (rw none at told)

pub returns : goal.returns
returns c =
    let found = find_from_yields_List (λ n. bytes_eq c.args.octets.now n.octets.now) _ _ c.find.result c.find.ensures.ran (YieldsList-from_slice c.as_slice.result.now cc) (λ x b q k. search (rules, tests)) in
    let told = sign_told c.args.octets.now c.as_slice.result.now c.args.self.now c.find.result found c.as_slice.ensures in
    let some = c.in_ok-found.was in
    rw some at told
