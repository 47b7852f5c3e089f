-- The law over runs: what a list of calls tells, made one after another on one job, for a book and a record. Assumes nothing.
use Rattle.std.specs.Prelude.{◌≡◌, ℕ, suc, ◌+◌, ◌<◌, ◌≤◌, ◌⊎◌, Bool, true, false, List, [], ◌∷◌, length, slice_get, Some, None}
use Rattle.std.specs.Borrow.{Bor}
use Rattle.sexp.specs.declared.refusals.Refusal.TheVariants.{SmallMemory, NoFit, UnknownName, ResultTooLarge, ShortOutput}
use Rattle.sexp.specs.Elements.{Elements}
use Rattle.sexp.specs.Text.{text}
use Rattle.holder.specs.Placed.{Placed, erase, front}
use Rattle.rules.specs.Patterns.{Rule}
use Rattle.rules.specs.Bindings.{fill, value, width}
use Rattle.rules.specs.Fits.{IsRule, Numbered}
use Rattle.rules.specs.Complete.{Complete}
use Rattle.fitting.specs.declared.runs.Memory.{Memory}
use Rattle.fitting.specs.declared.runs.Call.{Call}
use Rattle.fitting.specs.declared.runs.Call.TheVariants.{Next, Show, Write, Rewind}
use Rattle.fitting.specs.declared.runs.Answer.{Answer}
use Rattle.fitting.specs.declared.runs.Answer.TheVariants.{Fit, End, Shown, Written, Rewound, Refused}
use Rattle.fitting.specs.Jobs.{TooLarge}
use Rattle.fitting.specs.Occurs.{Occurs, FirstAt}

-- a call is handed too little working memory
abbrev pub IsSmall : Memory → Type 0
IsSmall m = (m.marks < 256) ⊎ (m.places < 256)

-- show answers from the fit f, of the rule r: the name is none of its pattern; or no place and 0, where it stands for no element; or the
-- place of the first element that it stands for, at its first occurrence, and how many it stands for
pub data FromShow (tree : Placed) (r : Rule) (f : Numbered) (name : List ℕ) : Answer → Type 0 where
  unknown : (Occurs name r.pattern → ⊥) → FromShow tree r f name (Refused UnknownName)
  nothing : Occurs name r.pattern → width (value name f.bindings) ≡ 0 → FromShow tree r f name (Shown None 0)
  some : {x : Placed} {p : ℕ} → FirstAt f.bindings name r.pattern tree x → 0 < width (value name f.bindings) → front x ≡ Some p
      → FromShow tree r f name (Shown (Some p) (width (value name f.bindings)))

-- an answer is this text, written
abbrev pub IsText : List ℕ → Answer → Type 0
IsText t (Fit rule count) = ⊥
IsText t (End count) = ⊥
IsText t (Shown place elements) = ⊥
IsText t (Written octets) = octets.items ≡ t
IsText t Rewound = ⊥
IsText t (Refused k) = ⊥

-- write answers with the text of the elements e: they are too large; or the output, of so many octets, is too short; or their text
pub data FromWrite (e : Elements) (octets : ℕ) : Answer → Type 0 where
  large : TooLarge e → FromWrite e octets (Refused ResultTooLarge)
  short : (TooLarge e → ⊥) → octets < length (text e) → FromWrite e octets (Refused ShortOutput)
  written : (a : Answer) → (TooLarge e → ⊥) → length (text e) ≤ octets → IsText (text e) a → FromWrite e octets a

module _ (book : List Rule) (tree : Placed) (fits : List Numbered) where
  -- the fit f, of the rule r, stands: it was told last, and neither the end nor a rewind has come since
  pub record FitStands (told : ℕ) (ended : Bool) (f : Numbered) (r : Rule) : Type 0 where
    pub last : ℕ
    pub is_last : told ≡ suc last
    pub not_ended : ended ≡ false
    pub is : slice_get fits last ≡ Some f
    pub rule : IsRule book f.rule r

  -- where `told` of the fits, the first ones of the list, were told since the opening or the last rewind, and perhaps the end: what a call
  -- tells, and how many were told then, and whether the end was
  pub data Tells (told : ℕ) (ended : Bool) : Call → Answer → ℕ → Bool → Type 0 where
    -- next tells the next fit of the list, and how many have been told with it
    fit : {m : Memory} {f : Numbered} → (IsSmall m → ⊥) → slice_get fits told ≡ Some f → Tells told ended (Next m) (Fit f.rule (told + 1)) (told + 1) false
    -- or the end, when all have been told
    all : {m : Memory} → (IsSmall m → ⊥) → told ≡ length fits → Tells told ended (Next m) (End told) told true
    next_refused : {m : Memory} → IsSmall m → Tells told ended (Next m) (Refused SmallMemory) told ended
    -- show and write answer from the fit that stands
    show : {m : Memory} {name : Bor (List ℕ)} {a : Answer} (f : Numbered) (r : Rule) → (IsSmall m → ⊥) → FitStands told ended f r → FromShow tree r f name.now a
        → Tells told ended (Show name m) a told ended
    write : {m : Memory} {octets : ℕ} {a : Answer} (f : Numbered) (r : Rule) → (IsSmall m → ⊥) → FitStands told ended f r → FromWrite (fill f.bindings r.template) octets a
        → Tells told ended (Write octets m) a told ended
    -- or are refused, where none stands
    show_none : {m : Memory} {name : Bor (List ℕ)} → (IsSmall m → ⊥) → (told ≡ 0) ⊎ (ended ≡ true) → Tells told ended (Show name m) (Refused NoFit) told ended
    write_none : {m : Memory} {octets : ℕ} → (IsSmall m → ⊥) → (told ≡ 0) ⊎ (ended ≡ true) → Tells told ended (Write octets m) (Refused NoFit) told ended
    show_refused : {m : Memory} {name : Bor (List ℕ)} → IsSmall m → Tells told ended (Show name m) (Refused SmallMemory) told ended
    write_refused : {m : Memory} {octets : ℕ} → IsSmall m → Tells told ended (Write octets m) (Refused SmallMemory) told ended
    rewind : Tells told ended Rewind Rewound 0 false

  -- the calls of a list, one after another
  pub data Run : ℕ → Bool → List Call → List Answer → Type 0 where
    nothing : {told : ℕ} {ended : Bool} → Run told ended [] []
    more : {told : ℕ} {ended : Bool} {c : Call} {cs : List Call} {a : Answer} {rest : List Answer} (now : ℕ) (ends : Bool) → Tells told ended c a now ends → Run now ends cs rest → Run told ended (c ∷ cs) (a ∷ rest)

-- a run on a book and a record: the fits told since the opening or the last rewind are the first ones of the complete list, in its order;
-- next says that none is left exactly when all have been told, and counts those that were; show and write answer from the fit that stands
pub record FollowsTheList (book : List Rule) (tree : Placed) (calls : List Call) (answers : List Answer) : Type 0 where
  pub fits : List Numbered
  pub complete : Complete book (erase tree) fits
  pub run : Run book tree fits 0 false calls answers

-- two answers are the same but for the place that show tells
abbrev pub Same : Answer → Answer → Type 0
Same (Fit m i) (Fit n j) = (m ≡ n) × (i ≡ j)
Same (End i) (End j) = i ≡ j
Same (Shown p m) (Shown q n) = m ≡ n
Same (Written t) (Written u) = t.items ≡ u.items
Same Rewound Rewound = Unit {0}
Same (Refused j) (Refused k) = j ≡ k
Same a b = ⊥

abbrev pub AllSame : List Answer → List Answer → Type 0
AllSame [] [] = Unit {0}
AllSame [] (b ∷ bs) = ⊥
AllSame (a ∷ rest) [] = ⊥
AllSame (a ∷ rest) (b ∷ bs) = Same a b × AllSame rest bs

-- two calls are the same: of one kind, with equal names, equal lengths of output and equal working memory; where a name lies is free
pub data SameCall : Call → Call → Type 0 where
  both_next : {m : Memory} → SameCall (Next m) (Next m)
  both_show : {name other : Bor (List ℕ)} {m : Memory} → name.now ≡ other.now → SameCall (Show name m) (Show other m)
  both_write : {octets : ℕ} {m : Memory} → SameCall (Write octets m) (Write octets m)
  both_rewind : SameCall Rewind Rewind

abbrev pub SameCalls : List Call → List Call → Type 0
SameCalls [] [] = Unit {0}
SameCalls [] (d ∷ ds) = ⊥
SameCalls (c ∷ cs) [] = ⊥
SameCalls (c ∷ cs) (d ∷ ds) = SameCall c d × SameCalls cs ds

-- behind any holder of an equal record the same calls tell the same: whatever they tell there, which follows the list too
abbrev pub EqualRecordsTellTheSame : List Rule → Placed → List Call → List Answer → Type 0
EqualRecordsTellTheSame book tree calls answers =
    (other : Placed) (again : List Call) (told : List Answer) → erase other ≡ erase tree → SameCalls calls again → FollowsTheList book other again told → AllSame answers told
