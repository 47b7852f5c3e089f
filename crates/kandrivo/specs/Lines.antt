-- The lines that the program prints. Assumes nothing.
use Rattle.std.specs.Prelude.{ℕ, List, [], ◌∷◌, ◌++◌, length, codes, decimal, Vec, Some, None, Ok, Err, Result}
use Rattle.std.specs.Global.{Global}
use Rattle.std.specs.List.{flat_map}
use Rattle.sexp.specs.declared.reader.Extent.{Extent}
use Rattle.sexp.specs.declared.refusals.Refusal.{Refusal}
use Rattle.sexp.specs.Lines.{outcome_line, refusal_line}
use Rattle.sexp.specs.Refusals.{number_of}
use Rattle.outlines.specs.Escapes.{shown}
use Rattle.rules.specs.Patterns.{sign_octet}
use Rattle.books.specs.declared.names.Name.{Name}
use Rattle.fitting.specs.declared.runs.Answer.{Answer}
use Rattle.fitting.specs.declared.runs.Answer.TheVariants.{Fit, End, Shown, Written, Rewound, Refused}

-- what is printed of the check of a file
abbrev pub check_line : List ℕ → Result Extent Refusal → List ℕ
check_line path answer = path ++ (codes ": " ++ outcome_line answer)

-- a name with its sign, behind a space
abbrev pub name_shown : Name → List ℕ
name_shown n = 32 ∷ (sign_octet n.sign ∷ flat_map shown n.octets.now)

-- what is printed of a rule that was taken: its number and the names of its pattern
abbrev pub rule_line : (number : ℕ) → List Name → List ℕ
rule_line number names = codes "rule " ++ (decimal number ++ (flat_map name_shown names ++ (10 ∷ [])))

-- what is printed of a fit: its number, that of its rule, and the text that it gives or why there is none
abbrev pub text_shown : Result (Vec ℕ Global) Refusal → List ℕ
text_shown (Ok text) = flat_map shown text.items
text_shown (Err k) = refusal_line k

abbrev pub fit_line : (count rule : ℕ) → Result (Vec ℕ Global) Refusal → List ℕ
fit_line count rule text = decimal count ++ (codes " rule " ++ (decimal rule ++ (codes ": " ++ (text_shown text ++ (10 ∷ [])))))

-- what is printed of what a call told
abbrev pub answer_words : Answer → List ℕ
answer_words (Fit rule count) = codes "fit " ++ (decimal rule ++ (codes " " ++ decimal count))
answer_words (End count) = codes "end " ++ decimal count
answer_words (Shown (Some place) elements) = codes "shown " ++ (decimal place ++ (codes " " ++ decimal elements))
answer_words (Shown None elements) = codes "shown - " ++ decimal elements
answer_words (Written text) = codes "wrote " ++ (decimal (length text.items) ++ (codes ": " ++ flat_map shown text.items))
answer_words Rewound = codes "rewound"
answer_words (Refused k) = codes "refused " ++ decimal (number_of k)

abbrev pub answer_line : Answer → List ℕ
answer_line a = answer_words a ++ (10 ∷ [])
