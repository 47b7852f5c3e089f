-- What the private functions of loading tell. Assumes nothing.
use Rattle.std.specs.Prelude.{◌≡◌, ℕ, ◌+◌, ◌-◌, ◌<◌, ◌≤◌, length, take, drop, Some, None, Ok, Err, Option, Result, slice_set}
use Rattle.sexp.specs.declared.refusals.Refusal.{Refusal}
use Rattle.sexp.specs.declared.refusals.Refusal.TheVariants.{NoNode}
use Rattle.sexp.specs.declared.tokens.Cursor.{Cursor}
use Rattle.sexp.specs.Checks.{reading_from}
use Rattle.sexp.specs.Elements.{Elements, Record, count}
use Rattle.sexp.specs.Reading.{Reading, refused, onward, closed}
use Rattle.sexp.specs.Text.{text}
use Rattle.tables.specs.declared.nodes.Node.{Node}
use Rattle.loading.specs.declared.loading.Found.{Found}
use Rattle.loading.specs.declared.loading.Found.TheVariants.{Element, Close}
use Rattle.loading.specs.declared.loading.Loader.{Loader}
use Rattle.loading.specs.Lacking.{unused, lacking}
use Rattle.loading.specs.Laid.{nodes_from}

-- a reading, unless an element is without a node
abbrev pub placed : Option ℕ → Reading → Reading
placed (Some at) r = refused (NoNode at)
placed None r = r

-- what is loaded from a cursor on, where left nodes are unused
abbrev pub loading_at : (left : ℕ) → Cursor → Reading
loading_at left from = placed (lacking (length from.text.now) left 0 from.depth from.count from.at (drop from.at from.text.now)) (reading_from from)

-- what a load that is under way comes to
abbrev pub loading_from : Loader → Reading
loading_from l = loading_at (unused l.nodes.now l.mark.now.used) l.cursor

-- the nodes that were used at `from` have not changed at `to`
abbrev pub Kept : Loader → Loader → Type 0
Kept from to = take from.mark.now.used to.nodes.now ≡ take from.mark.now.used from.nodes.now

-- the text of the elements es stands between two cursors inside one list, and their nodes lie between the marks
pub record Fills (from to : Loader) (es : Elements) : Type 0 where
  pub same : to.cursor.text ≡ from.cursor.text
  pub goes_on : loading_from from ≡ onward es (loading_from to)
  pub level : to.cursor.depth ≡ from.cursor.depth
  pub counted : to.cursor.count ≡ from.cursor.count + count es
  pub claimed : to.mark.now.used ≡ from.mark.now.used + count es
  pub size : length to.nodes.now ≡ length from.nodes.now
  pub kept : Kept from to
  pub laid : take (count es) (drop from.mark.now.used to.nodes.now) ≡ nodes_from from.cursor.at es
  pub extent : to.cursor.at ≡ from.cursor.at + length (text es)

-- at `from` the innermost list closes, and `to` is behind it; no node is written
pub record Closes (from to : Loader) : Type 0 where
  pub same : to.cursor.text ≡ from.cursor.text
  pub goes_on : loading_from from ≡ closed (loading_from to)
  pub some : 0 < from.cursor.depth
  pub level : to.cursor.depth ≡ from.cursor.depth - 1
  pub counted : to.cursor.count ≡ from.cursor.count
  pub claimed : to.mark.now.used ≡ from.mark.now.used
  pub nodes : to.nodes.now ≡ from.nodes.now
  pub behind : to.cursor.at ≡ from.cursor.at + 1
  pub inside : to.cursor.at ≤ length from.cursor.text.now

-- the load is refused, and the nodes used before have not changed
pub record Fails (from to : Loader) (k : Refusal) : Type 0 where
  pub refuses : loading_from from ≡ refused k
  pub kept : Kept from to

-- an element or the end of the list stands at `from`, and `to` is behind it; or loading is refused
abbrev pub FindsThat : (from to : Loader) → Found → Type 0
FindsThat from to Element = ((e : Elements) × Record e × Fills from to e) × (from.cursor.at < to.cursor.at) × (to.cursor.at ≤ length from.cursor.text.now)
FindsThat from to Close = Closes from to

abbrev pub Finds : (from to : Loader) → Result Found Refusal → Type 0
Finds from to (Ok f) = FindsThat from to f
Finds from to (Err k) = Fails from to k

-- a node is written into the first unused one
pub record Claimed (from to : Loader) (node : Node) : Type 0 where
  pub some : from.mark.now.used < length from.nodes.now
  pub cursor : to.cursor ≡ from.cursor
  pub used : to.mark.now.used ≡ from.mark.now.used + 1
  pub nodes : to.nodes.now ≡ slice_set from.nodes.now from.mark.now.used node

-- none is unused
pub record Unclaimed (from to : Loader) : Type 0 where
  pub none : length from.nodes.now ≤ from.mark.now.used
  pub nodes : to.nodes.now ≡ from.nodes.now

-- a claim at the offset `at` tells the node's index, or that none is left
abbrev pub Claims : (from to : Loader) (at : ℕ) (node : Node) → Result ℕ Refusal → Type 0
Claims from to at node (Ok index) = (index ≡ from.mark.now.used) × Claimed from to node
Claims from to at node (Err k) = (k ≡ NoNode at) × Unclaimed from to
