-- Relative selectors: in a text of them each complex selector may begin with a combinator, which
-- leads from the scope, as if `:scope` stood before it. A selector in brackets may not.
use Rattle.std.specs.Option.{is_some}
use Rattle.std.specs.Prelude.{ℕ, ◌+◌, Bool, true, false, not, ◌&&◌, if◌then◌else◌, List, length, Ok, Result}
use Rattle.tl_css.specs.declared.error.Cause.{Cause}
use Rattle.tl_css.specs.declared.error.Wrong.{Wrong}
use Rattle.tl_css.specs.declared.selector.Anchor.TheVariants.{Scope}
use Rattle.tl_css.specs.declared.text.role.Combinator.TheVariants.{Descendant}
use Rattle.tl_css.specs.declared.text.role.Before.TheVariants.{Begin}
use Rattle.tl_css.specs.declared.text.role.Role.TheVariants.{Top}
use Rattle.tl_css.specs.Item.{Item, Part, begin_at, combinator_of, is_top}
use Rattle.tl_css.specs.Lexical.{begins, gap_at}
use Rattle.tl_css.specs.PseudoClass.{Whole, outermost}
use Rattle.tl_css.specs.Read.{Read, ◌>>=◌}
use Rattle.tl_css.specs.Reading.{Open, item_at, placed, start, within_by}
use Rattle.tl_css.specs.Selector.{Css}

abbrev pub begins_combinator : List ℕ → Bool
begins_combinator s = begins (λ b. is_some (combinator_of b)) s

-- the first item of a complex selector, from behind the gap before it: `:scope`, of which no byte
-- stands there, where a combinator does
abbrev pub led_by : List ℕ → Read Item
led_by s = if begins_combinator s
    then Ok (Part (Begin Descendant) (length s) (Whole (outermost Scope)), s)
    else begin_at Top s

abbrev pub led_at : List ℕ → Read Item
led_at s = gap_at s >>= λ gap. led_by gap.1

-- a complex selector begins that stands in no brackets
abbrev pub begins_top : Open → Bool
begins_top open_ = is_top open_.role && not open_.begun

-- the next item of the list that is being read; `true`: of relative selectors
abbrev pub item_by : Bool → Open → List ℕ → Read Item
item_by relative open_ s =
    if relative && begins_top open_ then led_at s else item_at open_ s

-- the selector that a text is; `true`: one of relative selectors. A `:scope` takes no byte, and the
-- combinator and the simple selector behind it take two
unfoldable pub read_by : Bool → List ℕ → Result Css Wrong
read_by relative text = within_by (item_by relative) (length text + 1) start text

-- the selector that a text of relative selectors is, or where it is wrong and why
abbrev pub relative_at : List ℕ → Result Css (ℕ × Cause)
relative_at text = placed text (read_by true text)
