-- The modes up to the head and after it (13.2.6.4.1 to .6), and the text of elements without markup
-- (.8). What a mode does "using the rules for" another one is a call of that one.
use Rattle.std.specs.Char.{is_ascii_whitespace}
use Rattle.std.specs.Prelude.{Bool, None, Option, Some, codes, false, if◌then◌else◌, true, ◌∷◌}
use Rattle.tl_dom_spec.specs.Tags.{Tag, bare_tag}
use Rattle.tl_dom_spec.specs.Quirks.{is_quirky}
use Rattle.tl_dom_spec.specs.Groups.{Group, a_base, a_break, a_frameset, a_link, a_noframes, a_noscript, a_script, a_style, a_template, a_title, the_body, the_head, the_html}
use Rattle.tl_dom_spec.specs.Path.{Place, and_doctype, here, into_head, no_nodes, put}
use Rattle.tl_dom_spec.specs.Builder.{Again, Builder, Done, Outcome, Token, a_character, a_comment, a_doctype, a_start, add_attributes, add_one, after_head, an_end, appropriate_place, before_head, before_html, end_of_file, frameset_not_ok, has_template, in_body, in_frameset, in_head, in_head_noscript, in_template, insert_and_pop_at, insert_character, insert_comment, insert_element, insert_element_at, insert_implied, insert_marker, parse_raw_text, parse_raw_text_at, pop_current_node, switch_to}
use Rattle.tl_dom_spec.specs.Reset.{template_end_tag}

-- a start tag of `html` by the rules of "in body" (13.2.6.4.7)
abbrev pub html_start : Builder → Tag → Builder
html_start b t = if has_template b then b else add_attributes 1 t.attributes b

-- the end tags that act as anything else in these modes: head, body, html, br
abbrev pub is_body_end : Group → Bool
is_body_end the_body = true
is_body_end the_html = true
is_body_end a_break = true
is_body_end _ = false

abbrev pub is_head_end : Group → Bool
is_head_end the_head = true
is_head_end g = is_body_end g

-- "initial" (13.2.6.4.1)

abbrev pub without_doctype : Builder → Outcome
without_doctype b = Again (switch_to before_html (record b { is_quirks = true }))

abbrev pub initial_step : Builder → Token → Outcome
initial_step b (a_character c) =
    if is_ascii_whitespace c then Done b else without_doctype b
initial_step b (a_comment own) = Done (insert_comment own b)
initial_step b (a_doctype own) =
    Done (record b {
      path = put here (and_doctype no_nodes own) b.path;
      is_quirks = is_quirky own.said;
      mode = before_html;
    })
initial_step b _ = without_doctype b

-- "before html" (.2)

abbrev pub html_opened : Builder → Tag → Builder
html_opened b t = switch_to before_head (insert_element t b)

abbrev pub html_implied : Builder → Outcome
html_implied b = Again (add_one (html_opened b (bare_tag (codes "html"))))

abbrev pub before_html_start : Builder → Group → Tag → Outcome
before_html_start b the_html t = Done (html_opened b t)
before_html_start b g t = html_implied b

abbrev pub before_html_step : Builder → Token → Outcome
before_html_step b (a_character c) = if is_ascii_whitespace c then Done b else html_implied b
before_html_step b (a_comment own) = Done (insert_comment own b)
before_html_step b (a_doctype own) = Done b
before_html_step b (a_start g t closes) = before_html_start b g t
before_html_step b (an_end g name) = if is_head_end g then html_implied b else Done b
before_html_step b end_of_file = html_implied b

-- "before head" (.3)

abbrev pub head_opened : Builder → Tag → Builder
head_opened b t = switch_to in_head (record (insert_element t b) { has_head = true })

abbrev pub head_implied : Builder → Outcome
head_implied b = Again (add_one (head_opened b (bare_tag (codes "head"))))

abbrev pub before_head_start : Builder → Group → Tag → Outcome
before_head_start b the_html t = Done (html_start b t)
before_head_start b the_head t = Done (head_opened b t)
before_head_start b g t = head_implied b

abbrev pub before_head_step : Builder → Token → Outcome
before_head_step b (a_character c) = if is_ascii_whitespace c then Done b else head_implied b
before_head_step b (a_comment own) = Done (insert_comment own b)
before_head_step b (a_doctype own) = Done b
before_head_step b (a_start g t closes) = before_head_start b g t
before_head_step b (an_end g name) = if is_head_end g then head_implied b else Done b
before_head_step b end_of_file = head_implied b

-- "in head" (.4)

abbrev pub head_closed : Builder → Builder
head_closed b = switch_to after_head (pop_current_node b)

abbrev pub template_opened : Place → Tag → Builder → Builder
template_opened where_to t b =
    let opened = insert_element_at where_to t (frameset_not_ok (insert_marker b)) in
    switch_to in_template (record opened { templates = in_template ∷ opened.templates })

-- elements of the head, at a place; `None` where a tag is none of these
abbrev pub head_part : Place → Group → Tag → Builder → Option Builder
head_part where_to a_base t b = Some (insert_and_pop_at where_to t b)
head_part where_to a_link t b = Some (insert_and_pop_at where_to t b)
head_part where_to a_title t b = Some (parse_raw_text_at where_to t b)
head_part where_to a_noframes t b = Some (parse_raw_text_at where_to t b)
head_part where_to a_style t b = Some (parse_raw_text_at where_to t b)
head_part where_to a_script t b = Some (parse_raw_text_at where_to t b)
head_part where_to a_template t b = Some (template_opened where_to t b)
head_part where_to g t b = None

abbrev pub done_or : Outcome → Option Builder → Outcome
done_or other None = other
done_or other (Some b) = Done b

abbrev pub noscript_in_head : Builder → Tag → Builder
noscript_in_head b t =
    if b.flags.is_scripting then parse_raw_text t b
    else switch_to in_head_noscript (insert_element t b)

abbrev pub in_head_start : Builder → Group → Tag → Outcome
in_head_start b the_html t = Done (html_start b t)
in_head_start b the_head t = Done b
in_head_start b a_noscript t = Done (noscript_in_head b t)
in_head_start b g t = done_or (Again (head_closed b)) (head_part (appropriate_place b) g t b)

abbrev pub in_head_end : Builder → Group → Outcome
in_head_end b the_head = Done (head_closed b)
in_head_end b a_template = Done (template_end_tag b)
in_head_end b g = if is_body_end g then Again (head_closed b) else Done b

abbrev pub in_head_step : Builder → Token → Outcome
in_head_step b (a_character c) =
    if is_ascii_whitespace c then Done (insert_character c b) else Again (head_closed b)
in_head_step b (a_comment own) = Done (insert_comment own b)
in_head_step b (a_doctype own) = Done b
in_head_step b (a_start g t closes) = in_head_start b g t
in_head_step b (an_end g name) = in_head_end b g
in_head_step b end_of_file = Again (head_closed b)

-- "in head noscript" (.5)

abbrev pub noscript_closed : Builder → Builder
noscript_closed b = switch_to in_head (pop_current_node b)

abbrev pub noscript_start : Builder → Group → Tag → Outcome
noscript_start b the_html t = Done (html_start b t)
noscript_start b a_link t = in_head_start b a_link t
noscript_start b a_noframes t = in_head_start b a_noframes t
noscript_start b a_style t = in_head_start b a_style t
noscript_start b the_head t = Done b
noscript_start b a_noscript t = Done b
noscript_start b g t = Again (noscript_closed b)

abbrev pub noscript_end : Builder → Group → Outcome
noscript_end b a_noscript = Done (noscript_closed b)
noscript_end b a_break = Again (noscript_closed b)
noscript_end b g = Done b

abbrev pub in_head_noscript_step : Builder → Token → Outcome
in_head_noscript_step b (a_character c) =
    if is_ascii_whitespace c then Done (insert_character c b) else Again (noscript_closed b)
in_head_noscript_step b (a_comment own) = Done (insert_comment own b)
in_head_noscript_step b (a_doctype own) = Done b
in_head_noscript_step b (a_start g t closes) = noscript_start b g t
in_head_noscript_step b (an_end g name) = noscript_end b g
in_head_noscript_step b end_of_file = Again (noscript_closed b)

-- "after head" (.6): what belongs into the head goes to its end

abbrev pub body_implied : Builder → Outcome
body_implied b = Again (switch_to in_body (insert_implied (codes "body") b))

abbrev pub after_head_start : Builder → Group → Tag → Outcome
after_head_start b the_html t = Done (html_start b t)
after_head_start b the_body t = Done (switch_to in_body (frameset_not_ok (insert_element t b)))
after_head_start b a_frameset t = Done (switch_to in_frameset (insert_element t b))
after_head_start b the_head t = Done b
after_head_start b g t = done_or (body_implied b) (head_part into_head g t b)

abbrev pub after_head_end : Builder → Group → Outcome
after_head_end b a_template = Done (template_end_tag b)
after_head_end b g = if is_body_end g then body_implied b else Done b

abbrev pub after_head_step : Builder → Token → Outcome
after_head_step b (a_character c) =
    if is_ascii_whitespace c then Done (insert_character c b) else body_implied b
after_head_step b (a_comment own) = Done (insert_comment own b)
after_head_step b (a_doctype own) = Done b
after_head_step b (a_start g t closes) = after_head_start b g t
after_head_step b (an_end g name) = after_head_end b g
after_head_step b end_of_file = body_implied b

-- "text" (.8)

abbrev pub text_closed : Builder → Builder
text_closed b = switch_to b.original (pop_current_node b)

abbrev pub text_step : Builder → Token → Outcome
text_step b (a_character c) = Done (insert_character c b)
text_step b end_of_file = Again (text_closed b)
text_step b _ = Done (text_closed b)
