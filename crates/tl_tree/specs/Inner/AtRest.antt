-- Where each character of a text does the same: it goes in, or is ignored, and that is all.
use Rattle.std.specs.Prelude.{Bool, List, None, Option, Some, [], false, nat_le, not, true, ℕ, ◌&&◌, ◌*◌, ◌+◌, ◌||◌, ◌∷◌}
use Rattle.tl_dom_spec.specs.Builder.{Builder, Entry, Mode, a_character, adjusted_current_node, formatting, in_body, in_caption, in_cell, in_template, marker, text_mode}
use Rattle.tl_dom_spec.specs.Dispatcher.{is_html_content}
use Rattle.tl_dom_spec.specs.Path.{Path, is_open_number}

-- the latest active formatting element after the last marker
abbrev pub latest_of : List Entry → Option ℕ
latest_of [] = None
latest_of (marker ∷ entries) = None
latest_of (formatting k tag ∷ entries) = Some k

abbrev pub is_open_or_none : Option ℕ → Path → Bool
is_open_or_none None path = true
is_open_or_none (Some k) path = is_open_number k path

-- whether no active formatting element is to be opened again
abbrev pub is_rebuilt : Builder → Bool
is_rebuilt b = is_open_or_none (latest_of b.active) b.path

-- whether characters go by the rules of "in body" in a mode
abbrev pub takes_body : Mode → Bool
takes_body in_body = true
takes_body in_caption = true
takes_body in_cell = true
takes_body in_template = true
takes_body _ = false

abbrev pub is_text : Mode → Bool
is_text text_mode = true
is_text _ = false

abbrev pub rests : Mode → Bool → Bool
rests m body = is_text m || (takes_body m && body)

-- whether a token makes the excess no greater
abbrev pub is_counted : Builder → Bool
is_counted b = nat_le b.added (4 * b.tokens + b.excess)

abbrev pub is_at_rest : Builder → Bool
is_at_rest b =
    not b.skips
    && (rests b.mode (not b.is_frameset_ok && is_rebuilt b)
    && (is_counted b && is_html_content (adjusted_current_node b) (a_character 0)))
