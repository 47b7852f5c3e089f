use Rattle.std.proofs.Common.{rules, Err, sym, refl, ap, ◌∙◌, subst}
use Rattle.std.proofs.lemmas.Result.{err_from_is_err_and}
use Rattle.loading.specs.Fills.{FindsThat}
use Rattle.loading.proofs.Whole.{unsized, faulty, whole, trailing, laid, refused_promised, loaded_promised}
use Rattle.loading.proofs.loading.load.Goals as goal

pub returns-then-is_missized : goal.returns-then-is_missized
returns-then-is_missized c =
    refused_promised _ c.args.text.now c.args.mark.now.used c.args.nodes.now _ (unsized _ c.args.text.now (sym c.if-is_missized.ensures)) _ refl _ _ c.args.nodes.now (search rules) (search rules) refl

pub returns-in_err-element : goal.returns-in_err-element
returns-in_err-element c =
    let p = err_from_is_err_and c.from_residual.result c.from_residual.ensures.1 in
    let fails = c.in_err-element.ensures.found in
    let stopped = faulty c.args.text (sym c.if-is_missized.ensures) _ refl c.element.new.self c.in_err-element.field-0.0 fails in
    refused_promised _ c.args.text.now c.args.mark.now.used c.args.nodes.now _ stopped _ (p.1 ∙ ap Err p.2) _ _ c.element.new.self.nodes.now (search rules) (search rules) fails.kept

pub returns-then-at-text : goal.returns-then-at-text
returns-then-at-text c =
    let found = (subst (FindsThat _ c.element.new.self) c.in-Element.is c.in_ok-element.ensures.found).0 in
    let stopped = trailing c.args.text (sym c.if-is_missized.ensures) _ refl c.element.new.self found.0 found.1 found.2 c.if-at-text.true in
    refused_promised _ c.args.text.now c.args.mark.now.used c.args.nodes.now _ stopped _ refl _ _ c.element.new.self.nodes.now (search rules) (search rules) found.2.kept

pub returns : goal.returns
returns c =
    let found = (subst (FindsThat _ c.element.new.self) c.in-Element.is c.in_ok-element.ensures.found).0 in
    let read = whole c.args.text (sym c.if-is_missized.ensures) _ refl c.element.new.self found.0 found.1 found.2 c.if-at-text.false in
    let nodes = laid c.args.text (sym c.if-is_missized.ensures) _ refl c.element.new.self found.0 found.1 found.2 in
    loaded_promised _ c.args.text.now c.args.mark.now.used c.args.nodes.now found.0 read _ _ c.element.new.self.nodes.now (ap (λ m. m.used) c.keep.ensures ∙ found.2.claimed) (search rules) found.2.kept nodes
