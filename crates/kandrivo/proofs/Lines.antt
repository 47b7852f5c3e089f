-- Names added to a line one behind another. Assumes nothing.
use Rattle.std.proofs.Common.{◌≡◌, ℕ, ◌+◌, ◌<◌, List, ◌++◌, length, get_or, take, sym, ap, ◌∙◌}
use Rattle.std.proofs.lemmas.List.{flat_map_more, take_more}
use Rattle.std.specs.List.{flat_map}
use Rattle.books.specs.declared.names.Name.{Name}
use Rattle.kandrivo.specs.Lines.{name_shown}

pub shown_more : (start before after : List ℕ) (names : List Name) (i : ℕ) (d : Name) → i < length names
    → before ≡ start ++ flat_map name_shown (take i names) → after ≡ before ++ name_shown (get_or names i d)
    → after ≡ start ++ flat_map name_shown (take (i + 1) names)
shown_more start before after names i d h so_far is =
    is ∙ rw so_far (flat_map_more name_shown start (take i names) (get_or names i d))
    ∙ ap (λ xs. start ++ flat_map name_shown xs) (sym (take_more names i d h))
