use Rattle.std.proofs.Common.{sym, refl, ◌∙◌, subst, arith}
use Rattle.std.proofs.lemmas.Result.{err_from_is_err_and}
use Rattle.sexp.specs.Elements.{none}
use Rattle.loading.specs.Fills.{Fails, FindsThat, Finds}
use Rattle.loading.proofs.Filled.{fills_none, fills_more, fails_more, found_close, atom_inside, found_atom, fails_list, span_short, found_list}
use Rattle.loading.proofs.loading.Loader.+element.Goals as goal

pub overflow_sub-node : goal.overflow_sub-node
overflow_sub-node t c = (atom_inside c.args.self.now _ _ c.in_ok-step.ensures.token _ _ c.in-Atom.is).0

pub overflow_cast-node : goal.overflow_cast-node
overflow_cast-node t c =
    let inside = atom_inside c.args.self.now _ _ c.in_ok-step.ensures.token _ _ c.in-Atom.is in
    omega (arith, inside.1, c.requires.sized)

pub overflow_cast-node-in-Atom : goal.overflow_cast-node-in-Atom
overflow_cast-node-in-Atom t c =
    let inside = atom_inside c.args.self.now _ _ c.in_ok-step.ensures.token _ _ c.in-Atom.is in
    omega (arith, inside.0, inside.1, c.requires.sized)

pub returns-in_ok-claim-in-Atom-clause-found : goal.returns-in_ok-claim-in-Atom-clause-found
returns-in_ok-claim-in-Atom-clause-found t c =
    found_atom c.args.self.now _ _ c.in_ok-step.ensures.token _ _ c.in-Atom.is c.claim.new.self _ refl c.in_ok-claim-in-Atom.ensures.claim.1

pub loop-init : goal.loop-init
loop-init t c = (refl, refl, (none, fills_none _))

pub loop-preserved : goal.loop-preserved
loop-preserved t c =
    let found = subst (FindsThat c.loop.self c.element.new.self) c.in-Element.is c.in_ok-element-in-Opening.ensures.found in
    let so_far = c.loop.invariant.2 in (
      c.element.ensures.nodes ∙ c.loop.invariant.0,
      c.element.ensures.mark ∙ c.loop.invariant.1,
      (_, fills_more _ c.loop.self c.element.new.self so_far.0 so_far.1 found.0.0 found.0.2),
    )

pub returns-in_err-element-in-Opening-clause-found : goal.returns-in_err-element-in-Opening-clause-found
returns-in_err-element-in-Opening-clause-found t c =
    let p = err_from_is_err_and c.from_residual-in_err-element-in-Opening.result c.from_residual-in_err-element-in-Opening.ensures.1 in
    let so_far = c.loop.invariant.2 in
    let fails = fails_more _ c.loop.self c.element.new.self so_far.0 so_far.1 _ c.in_err-element-in-Opening.ensures.found in
    subst (Finds c.args.self.now c.element.new.self) (sym p.1)
    (subst (Fails c.args.self.now c.element.new.self) (sym p.2)
    (fails_list c.args.self.now _ _ c.in_ok-step.ensures.token _ c.in-Opening.is c.claim-in-Opening.new.self c.in_ok-index-in-Opening.ensures.claim.1 c.element.new.self _ fails))

pub overflow_cast-self : goal.overflow_cast-self
overflow_cast-self t c =
    let so_far = c.loop.invariant.2 in
    let closes = found_close c.loop.self c.element.new.self c.in_ok-element-in-Opening.field-0 c.in_default.not-Element c.in_ok-element-in-Opening.ensures.found in
    let index = c.in_ok-index-in-Opening.ensures.claim.0 in
    let short = span_short c.args.self.now _ _ c.in_ok-step.ensures.token _ c.in-Opening.is c.claim-in-Opening.new.self c.in_ok-index-in-Opening.ensures.claim.1 c.loop.self c.element.new.self so_far.0 so_far.1 closes in
    omega (arith, short, index, c.requires.sized)

pub returns-in_default-clause-found : goal.returns-in_default-clause-found
returns-in_default-clause-found t c =
    let so_far = c.loop.invariant.2 in
    let closes = found_close c.loop.self c.element.new.self c.in_ok-element-in-Opening.field-0 c.in_default.not-Element c.in_ok-element-in-Opening.ensures.found in
    found_list c.args.self.now _ _ c.in_ok-step.ensures.token _ c.in-Opening.is c.claim-in-Opening.new.self c.in_ok-index-in-Opening.ensures.claim.1 c.loop.self c.element.new.self so_far.0 so_far.1 closes _ c.in_ok-index-in-Opening.index _ c.in_ok-index-in-Opening.ensures.claim.0 refl refl refl
