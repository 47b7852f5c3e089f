-- The first token of an element, told at a place. Assumes nothing.
use Rattle.std.proofs.Common.{ℕ, sym, ◌∙◌}
use Rattle.sexp.specs.declared.tokens.Cursor.{Cursor}
use Rattle.sexp.specs.declared.tokens.Step.{Step}
use Rattle.sexp.specs.declared.tokens.Token.{Token}
use Rattle.sexp.specs.declared.tokens.Token.TheVariants.{Opening, Closing, Atom as AtomToken}
use Rattle.sexp.specs.Reading.{Lexeme}
use Rattle.sexp.specs.Tokens.{TellsToken}
use Rattle.holder.specs.Placed.{Placed, nothing, atom_at, list_at, Stands, IsList}
use Rattle.texts.specs.Walked.{FirstToken}

-- a token with another offset
abbrev pub put_at : ℕ → Token → Token
put_at place (Opening at) = Opening place
put_at place (Closing at) = Closing place
put_at place (AtomToken at os) = AtomToken place os

-- the place that was asked for is the element's own
pub told : (r : Placed) (from : Cursor) (l : Lexeme) (step : Step) → (Stands r → FirstToken r step.token) → TellsToken from l step.token step.next → Stands r → FirstToken r (put_at from.at step.token)
told r from l step first tells stands = go r step.token (first stands) tells
  where
    go : (x : Placed) (token : Token) → FirstToken x token → TellsToken from l token step.next → FirstToken x (put_at from.at token)
    go nothing token f t = absurd f
    go (atom_at p a es) (Opening at) f t = absurd f
    go (atom_at p a es) (Closing at) f t = absurd f
    go (atom_at p a es) (AtomToken at os) f t = (sym t.2 ∙ f.0, f.1)
    go (list_at p inner es) (Opening at) f t = sym t.1 ∙ f
    go (list_at p inner es) (Closing at) f t = absurd f
    go (list_at p inner es) (AtomToken at os) f t = absurd f

pub opens_list : (r : Placed) (place : ℕ) → FirstToken r (Opening place) → IsList r
opens_list nothing place t = absurd t
opens_list (atom_at p a es) place t = absurd t
opens_list (list_at p inner es) place t = tt
