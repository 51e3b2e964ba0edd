-- The rules of the modes of templates, after the body and of framesets keep what holds of a builder.
use Rattle.std.proofs.Common.{codes, refl, ◌||◌}
use Rattle.std.specs.Char.{is_ascii_whitespace}
use Rattle.tl_dom_spec.specs.Tags.{Tag, is_any}
use Rattle.tl_dom_spec.specs.Groups.{Group, a_base, a_frame, a_frameset, a_link, a_noframes, a_script, a_style, a_template, a_title, the_html}
use Rattle.tl_dom_spec.specs.Path.{behind, elements}
use Rattle.tl_dom_spec.specs.Builder.{Builder, Done, Token, a_character, a_comment, a_doctype, a_start, after_after_body, after_frameset, an_end, current_tag, end_of_file, insert_character, is_fragment, is_only, pop_current_node, switch_to}
use Rattle.tl_dom_spec.specs.Body.{in_body_step}
use Rattle.tl_dom_spec.specs.Outer.{after_after_body_step, after_after_frameset_step, after_body_end, after_body_start, after_body_step, after_frameset_end, after_frameset_start, after_frameset_step, back_in_body, frameset_closed, frameset_end, frameset_start, in_frameset_step, in_template_step, template_end, template_start}
use Rattle.tl_dom_spec.proofs.Allowed.{Allowed}
use Rattle.tl_dom_spec.proofs.Staying.{less_templates, template_mode_is}
use Rattle.tl_dom_spec.proofs.Kept.{Holds, HoldsAfter, Roams, alone-Holds, character-Holds, comment-Holds, comment_at-Holds, either, either-after, insert-Holds, pop-Holds, template_end_tag-Holds}
use Rattle.tl_dom_spec.proofs.HeadRules.{Allows, Starts, html_start-Holds, in_head_start-Holds}
use Rattle.tl_dom_spec.proofs.BodyRules.{in_body_step-Holds}

pub template_start-Holds : (R : Allowed) (b : Builder) (g : Group) (t : Tag) → Starts R g t → Roams b → Holds R b → HoldsAfter R (template_start b g t)
template_start-Holds R b a_base t k n h = in_head_start-Holds R b a_base t k n h
template_start-Holds R b a_link t k n h = in_head_start-Holds R b a_link t k n h
template_start-Holds R b a_noframes t k n h = in_head_start-Holds R b a_noframes t k n h
template_start-Holds R b a_script t k n h = in_head_start-Holds R b a_script t k n h
template_start-Holds R b a_style t k n h = in_head_start-Holds R b a_style t k n h
template_start-Holds R b a_template t k n h = in_head_start-Holds R b a_template t k n h
template_start-Holds R b a_title t k n h = in_head_start-Holds R b a_title t k n h
template_start-Holds R b g t k n h =
    (h.0, λ y. let s = h.1 y in (s.0, s.1, (template_mode_is g, less_templates b.templates s.2), s.3))

pub template_end-Holds : (R : Allowed) (b : Builder) (g : Group) → Holds R b → HoldsAfter R (template_end b g)
template_end-Holds R b a_template h = template_end_tag-Holds R b h
template_end-Holds R b g h = h

pub in_template_step-Holds : (R : Allowed) (b : Builder) (token : Token) → Allows R token → Roams b → Holds R b → HoldsAfter R (in_template_step b token)
in_template_step-Holds R b (a_start g t closes) k n h = template_start-Holds R b g t k n h
in_template_step-Holds R b (an_end g name) k n h = template_end-Holds R b g h
in_template_step-Holds R b token k n h = in_body_step-Holds R b token k n h

pub back_in_body-Holds : (R : Allowed) (b : Builder) → Holds R b → HoldsAfter R (back_in_body b)
back_in_body-Holds R b h = h

pub after_body_start-Holds : (R : Allowed) (b : Builder) (g : Group) (t : Tag) → Starts R g t → Holds R b → HoldsAfter R (after_body_start b g t)
after_body_start-Holds R b the_html t k h = html_start-Holds R b t (k.more refl) h
after_body_start-Holds R b g t k h = back_in_body-Holds R b h

pub after_body_end-Holds : (R : Allowed) (b : Builder) (g : Group) → Holds R b → HoldsAfter R (after_body_end b g)
after_body_end-Holds R b the_html h = either R (is_fragment b) b (switch_to after_after_body b) h h
after_body_end-Holds R b g h = back_in_body-Holds R b h

pub after_body_step-Holds : (R : Allowed) (b : Builder) (token : Token) → Allows R token → Roams b → Holds R b → HoldsAfter R (after_body_step b token)
after_body_step-Holds R b (a_character c) k n h = either-after R (is_ascii_whitespace c) (in_body_step b (a_character c)) (back_in_body b) (in_body_step-Holds R b (a_character c) k n h) (back_in_body-Holds R b h)
after_body_step-Holds R b (a_comment bytes) k n h = comment_at-Holds R (behind 1) bytes b k h
after_body_step-Holds R b (a_doctype own) k n h = h
after_body_step-Holds R b (a_start g t closes) k n h = after_body_start-Holds R b g t k h
after_body_step-Holds R b (an_end g name) k n h = after_body_end-Holds R b g h
after_body_step-Holds R b end_of_file k n h = h

pub frameset_start-Holds : (R : Allowed) (b : Builder) (g : Group) (t : Tag) → Starts R g t → Roams b → Holds R b → HoldsAfter R (frameset_start b g t)
frameset_start-Holds R b the_html t k n h = html_start-Holds R b t (k.more refl) h
frameset_start-Holds R b a_frameset t k n h = insert-Holds R t b (k.opens refl) h
frameset_start-Holds R b a_frame t k n h = alone-Holds R t b k.alone h
frameset_start-Holds R b a_noframes t k n h = in_head_start-Holds R b a_noframes t k n h
frameset_start-Holds R b g t k n h = h

pub frameset_closed-Holds : (R : Allowed) (b : Builder) → Holds R b → Holds R (frameset_closed b)
frameset_closed-Holds R b h = let outside = pop_current_node b in (either R (is_fragment outside || is_any (codes "frameset") (current_tag outside)) outside (switch_to after_frameset outside) (pop-Holds R b h) (pop-Holds R b h))

pub frameset_end-Holds : (R : Allowed) (b : Builder) (g : Group) → Holds R b → Holds R (frameset_end b g)
frameset_end-Holds R b a_frameset h = either R (is_only (elements b.path)) b (frameset_closed b) h (frameset_closed-Holds R b h)
frameset_end-Holds R b g h = h

pub in_frameset_step-Holds : (R : Allowed) (b : Builder) (token : Token) → Allows R token → Roams b → Holds R b → HoldsAfter R (in_frameset_step b token)
in_frameset_step-Holds R b (a_character c) k n h = either R (is_ascii_whitespace c) (insert_character c b) b (character-Holds R c b k h) h
in_frameset_step-Holds R b (a_comment bytes) k n h = comment-Holds R bytes b k h
in_frameset_step-Holds R b (a_doctype own) k n h = h
in_frameset_step-Holds R b (a_start g t closes) k n h = frameset_start-Holds R b g t k n h
in_frameset_step-Holds R b (an_end g name) k n h = frameset_end-Holds R b g h
in_frameset_step-Holds R b end_of_file k n h = h

pub after_frameset_start-Holds : (R : Allowed) (b : Builder) (g : Group) (t : Tag) → Starts R g t → Roams b → Holds R b → HoldsAfter R (after_frameset_start b g t)
after_frameset_start-Holds R b the_html t k n h = html_start-Holds R b t (k.more refl) h
after_frameset_start-Holds R b a_noframes t k n h = in_head_start-Holds R b a_noframes t k n h
after_frameset_start-Holds R b g t k n h = h

pub after_frameset_end-Holds : (R : Allowed) (b : Builder) (g : Group) → Holds R b → Holds R (after_frameset_end b g)
after_frameset_end-Holds R b the_html h = h
after_frameset_end-Holds R b g h = h

pub after_frameset_step-Holds : (R : Allowed) (b : Builder) (token : Token) → Allows R token → Roams b → Holds R b → HoldsAfter R (after_frameset_step b token)
after_frameset_step-Holds R b (a_character c) k n h = either R (is_ascii_whitespace c) (insert_character c b) b (character-Holds R c b k h) h
after_frameset_step-Holds R b (a_comment bytes) k n h = comment-Holds R bytes b k h
after_frameset_step-Holds R b (a_doctype own) k n h = h
after_frameset_step-Holds R b (a_start g t closes) k n h = after_frameset_start-Holds R b g t k n h
after_frameset_step-Holds R b (an_end g name) k n h = after_frameset_end-Holds R b g h
after_frameset_step-Holds R b end_of_file k n h = h

pub after_after_body_step-Holds : (R : Allowed) (b : Builder) (token : Token) → Allows R token → Roams b → Holds R b → HoldsAfter R (after_after_body_step b token)
after_after_body_step-Holds R b (a_character c) k n h = either-after R (is_ascii_whitespace c) (in_body_step b (a_character c)) (back_in_body b) (in_body_step-Holds R b (a_character c) k n h) (back_in_body-Holds R b h)
after_after_body_step-Holds R b (a_comment bytes) k n h = comment_at-Holds R (behind 0) bytes b k h
after_after_body_step-Holds R b (a_doctype own) k n h = h
after_after_body_step-Holds R b (a_start g t closes) k n h = after_body_start-Holds R b g t k h
after_after_body_step-Holds R b (an_end g name) k n h = back_in_body-Holds R b h
after_after_body_step-Holds R b end_of_file k n h = h

pub after_after_frameset_step-Holds : (R : Allowed) (b : Builder) (token : Token) → Allows R token → Roams b → Holds R b → HoldsAfter R (after_after_frameset_step b token)
after_after_frameset_step-Holds R b (a_character c) k n h = either-after R (is_ascii_whitespace c) (in_body_step b (a_character c)) (Done b) (in_body_step-Holds R b (a_character c) k n h) h
after_after_frameset_step-Holds R b (a_comment bytes) k n h = comment_at-Holds R (behind 0) bytes b k h
after_after_frameset_step-Holds R b (a_doctype own) k n h = h
after_after_frameset_step-Holds R b (a_start g t closes) k n h = after_frameset_start-Holds R b g t k n h
after_after_frameset_step-Holds R b (an_end g name) k n h = h
after_after_frameset_step-Holds R b end_of_file k n h = h
