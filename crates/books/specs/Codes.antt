-- A draft's meaning as a pair, by which a proof tells drafts apart. Assumes nothing.
use Rattle.std.specs.Prelude.{List, refl}
use Rattle.std.specs.Coded.{Coded, code_by, coded×, coded_list}
use Rattle.holder.specs.Codes.{placed_code}
use Rattle.holder.specs.Placed.{Placed}
use Rattle.rules.specs.Codes.{rule_code}
use Rattle.rules.specs.Patterns.{Rule}
use Rattle.books.specs.Drafts.{Drafted}

abbrev pub drafted_code : Coded Drafted
drafted_code = code_by (List Rule × Placed) (coded× (coded_list rule_code) placed_code) (λ d. (d.taken, d.left)) (λ p. record { taken = p.0; left = p.1 }) (λ d. refl)
