use Rattle.std.proofs.Common.{rules, ◌≡◌, ◌++◌, ◌∷◌, [], ◌∙◌, ap}
use Rattle.outlines.proofs.Lines.{spaces_more}
use Rattle.outlines.proofs.outline.add_indent.Goals as goal

pub loop-preserved : goal.loop-preserved
loop-preserved c =
    let added : c.extend_from_slice.new.self.items ≡ c.loop.lines.items ++ (32 ∷ (32 ∷ [])) = search rules in
    added ∙ ap (λ xs. xs ++ (32 ∷ (32 ∷ []))) c.loop.invariant ∙ spaces_more c.args.lines.now.items c.loop.counter
