use Rattle.std.proofs.Common.{◌≡◌, ◌<◌, length, Some, arith, sym, subst}
use Rattle.std.proofs.lemmas.Bool.Decides.{nat_tests}
use Rattle.tables.specs.Checks.{Says, FitsBefore}
use Rattle.tables.proofs.Passing.{no_content, short_list, fits_list, stray_list}
use Rattle.tables.proofs.checking.+behind_first.Goals as goal

pub returns-in_err-octets : goal.returns-in_err-octets
returns-in_err-octets t c =
    rw c.from_residual-in_err-octets.ensures (no_content _ _ _ _ _ c.in_ok-node.ensures.cases.0 c.in_err-octets.ensures)

pub returns-in_err-inner-in-List : goal.returns-in_err-inner-in-List
returns-in_err-inner-in-List t c =
    let node = subst (λ k. Says c.args.beside.now c.in_ok-node.node.now (Some k)) c.in-List.is c.in_ok-octets.ensures in
    rw c.from_residual-in_err-inner-in-List.ensures (short_list _ _ _ _ _ c.in_ok-node.ensures.cases.0 c.in-List.held node c.in_err-inner-in-List.ensures.cases)

pub returns-in_err-inner-in-List-2 : goal.returns-in_err-inner-in-List-2
returns-in_err-inner-in-List-2 t c =
    let node = subst (λ k. Says c.args.beside.now c.in_ok-node.node.now (Some k)) c.in-List.is c.in_ok-octets.ensures in
    let split = c.in_ok-inner-in-List.ensures.cases in
    let some : 0 < length c.loop-inner.inner.now = grind (arith, nat_tests) in
    rw c.from_residual-in_err-inner-in-List-2.ensures (stray_list _ _ _ _ _ c.in_ok-node.ensures.cases.0 c.in-List.held node c.in_ok-deeper.ensures.0 _ c.in_ok-deeper.ensures.1 _ _ split.0 split.1 c.loop-inner.invariant some c.in_err-inner-in-List-2.ensures)

pub returns-after-loop-inner : goal.returns-after-loop-inner
returns-after-loop-inner t c =
    let node = subst (λ k. Says c.args.beside.now c.in_ok-node.node.now (Some k)) c.in-List.is c.in_ok-octets.ensures in
    let split = c.in_ok-inner-in-List.ensures.cases in
    let done : length c.loop-inner.inner.now ≡ 0 = grind (arith, nat_tests) in
    subst (FitsBefore c.args.beside.now c.args.levels c.args.nodes.now) (sym split.2) (fits_list _ _ _ _ _ c.in_ok-node.ensures.cases.0 c.in-List.held node c.in_ok-deeper.ensures.0 _ c.in_ok-deeper.ensures.1 _ _ split.0 split.1 c.loop-inner.invariant done)
