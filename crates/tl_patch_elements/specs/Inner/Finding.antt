-- Elements that are found token by token.
use Rattle.std.specs.Prelude.{◌≡◌, ℕ, Bool, true, false, not, ◌||◌, ◌&&◌, ◌==◌, List, ◌++◌, map, reverse, ⊤}
use Rattle.tl_html_spec.specs.HtmlTokenizer.{HtmlToken, is_white_space}
use Rattle.tl_html_spec.specs.Balanced.{Balance}
use Rattle.tl_html_parts.specs.Parts.{name_of}
use Rattle.tl_html_balance.specs.View.{open_names}
use Rattle.tl_html_balance.specs.declared.balance.Opening.{Opening}
use Rattle.tl_html_balance.specs.declared.balance.Opening.TheVariants as opens
use Rattle.tl_html_balance.specs.declared.balance.PutIn.{PutIn}
use Rattle.tl_html_balance.specs.declared.balance.PutIn.TheVariants as puts
use Rattle.tl_spec.specs.Lex.ByteClass.{is_void}
use Rattle.tl_patch_spec.specs.Elements.{Element, OpenElement, PlacedToken, balance_after, balanced_at, elements_of}
use Rattle.tl_patch_elements.specs.View.{elements_view}
use Rattle.tl_patch_elements.specs.declared.finder.OpenElement.{OpenElement as CodeOpenElement}
use Rattle.tl_patch_elements.specs.declared.finder.Finder.{Finder}

abbrev pub open_view : CodeOpenElement → OpenElement
open_view o = (name_of o.name.now, o.start)

-- the elements that are open, the innermost first
abbrev pub stack_of : Finder → List OpenElement
stack_of f = map open_view (reverse f.open_elements.items)

-- the elements that ended, and those that these tokens end
abbrev pub elements_with : Finder → List PlacedToken → List Element
elements_with f rest = elements_view f.ended.items ++ elements_of (stack_of f) rest

-- the open tags; whether a line feed goes says nothing of elements
abbrev pub balance_of : Finder → Bool → Balance
balance_of f feed = record { open_tags = open_names f.open_tags; drops_feed = feed }

-- the new one has gone past these tokens of a piece
pub record Finds (old new : Finder) (place : ℕ) (tokens : List HtmlToken) : Type 0 where
  pub elements : (feed : Bool) (rest : List PlacedToken) →
      elements_with old (balanced_at place (balance_of old feed) tokens ++ rest)
      ≡ elements_with new rest
  pub names : (feed : Bool) →
      (balance_after (balance_of old feed) tokens).open_tags ≡ open_names new.open_tags

-- whether a character ends a head: white space stays in it, and NUL is dropped
abbrev pub is_seen : ℕ → Bool
is_seen b = not ((b == 0) || is_white_space b)

-- whether a start tag is a whole element by its name
abbrev pub is_alone : Opening → Bool
is_alone opens.Void = true
is_alone _ = false

-- what an end tag puts in
abbrev pub is_nothing : PutIn → Bool
is_nothing puts.Nothing = true
is_nothing _ = false

abbrev pub is_paragraph : PutIn → Bool
is_paragraph puts.Paragraph = true
is_paragraph _ = false

-- its name says whether it is a whole element
abbrev pub IsNamed : PutIn → List ℕ → Type 0
IsNamed puts.Nothing name = ⊤
IsNamed puts.LineBreak name = is_void name ≡ true
IsNamed puts.Paragraph name = is_void name ≡ false

-- a NUL goes, and a line feed where one goes that comes next
abbrev pub goes : Bool → ℕ → Bool
goes drops_feed b = (b == 0) || (drops_feed && (b == 10))
