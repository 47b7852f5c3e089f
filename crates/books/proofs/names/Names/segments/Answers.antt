use Rattle.std.proofs.Common.{rules, tests, ◌≡◌, length, ap, sym, ◌∙◌}
use Rattle.std.specs.List.{filter}
use Rattle.std.proofs.lemmas.Iterator.{YieldsList-from_slice}
use Rattle.std.proofs.lemmas.Iterator.Consumers.{YieldsList-from_filter, count_from_yields_List}
use Rattle.rules.specs.Patterns.{segments}
use Rattle.books.specs.Scanning.{is_segment}
use Rattle.books.proofs.Slots.{segments_found}
use Rattle.books.proofs.names.Names.segments.Goals as goal

pub returns : goal.returns
returns c =
    let counted : c.count.result ≡ length (filter (λ n. is_segment n.sign) c.as_slice.result.now) = count_from_yields_List c.filter.result c.count.result c.count.ensures.ran (YieldsList-from_filter _ (λ n. is_segment n.sign) (YieldsList-from_slice c.as_slice.result.now cc) c.filter.ensures.closure (λ x b q k. search (rules, tests))) in
    counted ∙ sym (segments_found c.as_slice.result.now) ∙ ap segments c.as_slice.ensures
