-- How a reader answers where a limit is passed.
use Rattle.std.specs.Prelude.{◌≡◌, ℕ, suc, ◌+◌, nat_lt, nat_le, ◌⊎◌, Option, Some, None, Result, IsErrAnd, if◌then◌else◌}
use Rattle.page_tree.specs.Fragments.{Limit, TooDeep, TooManyNodes}
use Rattle.page_tree.specs.declared.TheConstants.{NODE_LIMIT, DEPTH_LIMIT}
use Rattle.dom_arena.specs.declared.refusals.DomError.{DomError}
use Rattle.dom_arena.specs.declared.refusals.DomError.TheVariants as dom
use Rattle.html_tree.specs.declared.reader.PageError.{PageError}
use Rattle.html_tree.specs.declared.reader.PageError.TheVariants as error

-- the error that says that this limit is passed
abbrev pub page_error : Limit → PageError
page_error TooDeep = error.TooDeep
page_error TooManyNodes = error.TooManyNodes

-- the error of a page by that of the arena
abbrev pub error_of : DomError → PageError
error_of dom.TooDeep = error.TooDeep
error_of dom.TooManyNodes = error.TooManyNodes
error_of dom.IsDocument = error.NoMemory
error_of (dom.NoSuchNode n) = error.NoMemory
error_of (dom.NotElement n) = error.NoMemory
error_of (dom.NotText n) = error.NoMemory
error_of (dom.IntoItself n) = error.NoMemory
error_of (dom.BadPlace place) = error.NoMemory
error_of dom.NoMemory = error.NoMemory

-- the limit that one node passes, in so many elements of a fragment that is put below a node of this depth, where the tree
-- has `live` nodes before it
abbrev pub next_limit : ℕ → ℕ → ℕ → Option Limit
next_limit depth live within =
    if nat_lt DEPTH_LIMIT (depth + suc within) then Some TooDeep else (if nat_le NODE_LIMIT live then Some TooManyNodes else None)

-- the result is this error, or says that there was no memory
abbrev pub FailsWith : {X : Type 0} → Result X PageError → PageError → Type 0
FailsWith result e = IsErrAnd result (λ f. (f ≡ e) ⊎ (f ≡ error.NoMemory))
