-- What tokens give, and the rules of the modes up to the head and after it: each keeps what holds of a builder.
use Rattle.std.proofs.Common.{Bool, None, Option, Some, codes, false, refl, subst, true, ◌≡◌, ◌⊎◌, if◌then◌else◌}
use Rattle.std.specs.Prelude.{⊤}
use Rattle.std.proofs.lemmas.Bool.{cond_both}
use Rattle.std.specs.Char.{is_ascii_whitespace}
use Rattle.tl_html_spec.specs.HtmlTokenizer.{after_start}
use Rattle.tl_dom_spec.specs.Tags.{Tag, bare_tag, is_html, math_space, svg_space}
use Rattle.tl_dom_spec.specs.Groups.{Group, a_base, a_break, a_column, a_detail, a_format, a_frame, a_frameset, a_link, a_math, a_nobr, a_noframes, a_noscript, a_rule, a_script, a_style, a_template, a_title, a_void, an_anchor, an_image, an_input, the_body, the_head, the_html}
use Rattle.tl_dom_spec.specs.Path.{Place, into_head}
use Rattle.tl_dom_spec.specs.Builder.{Again, Builder, Done, Outcome, Token, a_character, a_comment, a_doctype, a_start, add_attributes, an_end, appropriate_place, end_of_file, frameset_not_ok, has_template, in_head_noscript, insert_character, insert_element, insert_element_at, insert_marker, parse_raw_text, state_inside, switch_to}
use Rattle.tl_dom_spec.specs.Adjusted.{foreign_name, foreign_tag}
use Rattle.tl_dom_spec.specs.Head.{after_head_end, after_head_start, after_head_step, before_head_start, before_head_step, before_html_start, before_html_step, body_implied, done_or, head_closed, head_implied, head_opened, head_part, html_implied, html_opened, html_start, in_head_end, in_head_noscript_step, in_head_start, in_head_step, initial_step, is_body_end, is_head_end, noscript_closed, noscript_end, noscript_in_head, noscript_start, template_opened, text_closed, text_step, without_doctype}
use Rattle.tl_dom_spec.specs.Dispatcher.{is_svg_start}
use Rattle.tl_dom_spec.specs.Lawful.{adds_attributes}
use Rattle.tl_dom_spec.proofs.Allowed.{Allowed}
use Rattle.tl_dom_spec.proofs.Pending.{IsPlain}
use Rattle.tl_dom_spec.proofs.Kept.{Holds, HoldsAfter, Roams, alone_at-Holds, attributes-Holds, character-Holds, comment-Holds, doctype-Holds, either, either-after, insert-Holds, insert_at-Holds, marker-Holds, pop-Holds, raw_text-Holds, raw_text_at-Holds, template_end_tag-Holds}

-- whether an element of the group is inserted and popped at once, so that nothing stands below it
abbrev pub is_alone : Group → Bool
is_alone a_base = true
is_alone a_link = true
is_alone a_break = true
is_alone a_void = true
is_alone an_image = true
is_alone an_input = true
is_alone a_detail = true
is_alone a_rule = true
is_alone a_column = true
is_alone a_frame = true
is_alone _ = false

abbrev pub is_image : Group → Bool
is_image an_image = true
is_image _ = false

abbrev pub is_math_start : Group → Bool
is_math_start a_math = true
is_math_start _ = false

abbrev pub is_noscript : Group → Bool
is_noscript a_noscript = true
is_noscript _ = false

-- whether an element of the group is listed as active
abbrev pub is_listed_group : Group → Bool
is_listed_group an_anchor = true
is_listed_group a_format = true
is_listed_group a_nobr = true
is_listed_group _ = false

-- what a start tag of a group gives
pub record Starts (R : Allowed) (g : Group) (t : Tag) : Type 0 where
  pub opens : is_alone g ≡ false → R.Opens t
  pub alone : R.Stands t
  pub image : is_image g ≡ true → R.Stands (record t { name = codes "img" })
  pub math : is_math_start g ≡ true → R.Opens (foreign_tag math_space t)
  pub svg : is_svg_start g ≡ true → R.Opens (foreign_tag svg_space t)
  -- in foreign content, where this is the adjusted current node
  pub foreign : (own : Tag) → is_html own ≡ false → R.Opens own ⊎ R.Around own →
      R.Opens (foreign_tag own.space (record t { name = foreign_name own.space t.name }))
  pub more : adds_attributes g ≡ true → R.Adds t.attributes
  -- in raw text; in `noscript` with scripting alone
  pub inside : is_noscript g ≡ false → R.Reads (state_inside t.name)
  pub scripted : R.Scripts true → R.Reads (state_inside t.name)
  pub after : R.Reads (after_start t.name)
  pub listed : R.Grouped → is_listed_group g ≡ true → IsPlain t

-- what a token gives
abbrev pub Allows : Allowed → Token → Type 0
Allows R (a_character c) = R.Says c
Allows R (a_start g t closes) = Starts R g t
Allows R (an_end g name) = ⊤
Allows R (a_comment bytes) = R.Notes bytes
Allows R (a_doctype own) = R.Types own
Allows R end_of_file = ⊤

abbrev pub HoldsIf : Allowed → Option Builder → Type 0
HoldsIf R None = ⊤
HoldsIf R (Some b) = Holds R b

pub html_start-Holds : (R : Allowed) (b : Builder) (t : Tag) → R.Adds t.attributes → Holds R b → Holds R (html_start b t)
html_start-Holds R b t a h = either R (has_template b) b (add_attributes 1 t.attributes b) h (attributes-Holds R 1 t.attributes b a h)

pub without_doctype-Holds : (R : Allowed) (b : Builder) → Holds R b → HoldsAfter R (without_doctype b)
without_doctype-Holds R b h = h

pub initial_step-Holds : (R : Allowed) (b : Builder) (token : Token) → Allows R token → Holds R b → HoldsAfter R (initial_step b token)
initial_step-Holds R b (a_character c) k h = either-after R (is_ascii_whitespace c) (Done b) (without_doctype b) h (without_doctype-Holds R b h)
initial_step-Holds R b (a_comment bytes) k h = comment-Holds R bytes b k h
initial_step-Holds R b (a_doctype own) k h = doctype-Holds R own b k h
initial_step-Holds R b _ k h = without_doctype-Holds R b h

pub html_opened-Holds : (R : Allowed) (b : Builder) (t : Tag) → R.Opens t → Holds R b → Holds R (html_opened b t)
html_opened-Holds R b t o h = insert-Holds R t b o h

pub html_implied-Holds : (R : Allowed) (b : Builder) → Holds R b → HoldsAfter R (html_implied b)
html_implied-Holds R b h = html_opened-Holds R b (bare_tag (codes "html")) R.html h

pub before_html_start-Holds : (R : Allowed) (b : Builder) (g : Group) (t : Tag) → Starts R g t → Holds R b → HoldsAfter R (before_html_start b g t)
before_html_start-Holds R b the_html t k h = html_opened-Holds R b t (k.opens refl) h
before_html_start-Holds R b g t k h = html_implied-Holds R b h

pub before_html_step-Holds : (R : Allowed) (b : Builder) (token : Token) → Allows R token → Holds R b → HoldsAfter R (before_html_step b token)
before_html_step-Holds R b (a_character c) k h = either-after R (is_ascii_whitespace c) (Done b) (html_implied b) h (html_implied-Holds R b h)
before_html_step-Holds R b (a_comment bytes) k h = comment-Holds R bytes b k h
before_html_step-Holds R b (a_doctype own) k h = h
before_html_step-Holds R b (a_start g t closes) k h = before_html_start-Holds R b g t k h
before_html_step-Holds R b (an_end g name) k h = either-after R (is_head_end g) (html_implied b) (Done b) (html_implied-Holds R b h) h
before_html_step-Holds R b end_of_file k h = html_implied-Holds R b h

pub head_opened-Holds : (R : Allowed) (b : Builder) (t : Tag) → R.Opens t → Holds R b → Holds R (head_opened b t)
head_opened-Holds R b t o h = insert-Holds R t b o h

pub head_implied-Holds : (R : Allowed) (b : Builder) → Holds R b → HoldsAfter R (head_implied b)
head_implied-Holds R b h = head_opened-Holds R b (bare_tag (codes "head")) R.head h

pub before_head_start-Holds : (R : Allowed) (b : Builder) (g : Group) (t : Tag) → Starts R g t → Holds R b → HoldsAfter R (before_head_start b g t)
before_head_start-Holds R b the_html t k h = html_start-Holds R b t (k.more refl) h
before_head_start-Holds R b the_head t k h = head_opened-Holds R b t (k.opens refl) h
before_head_start-Holds R b g t k h = head_implied-Holds R b h

pub before_head_step-Holds : (R : Allowed) (b : Builder) (token : Token) → Allows R token → Holds R b → HoldsAfter R (before_head_step b token)
before_head_step-Holds R b (a_character c) k h = either-after R (is_ascii_whitespace c) (Done b) (head_implied b) h (head_implied-Holds R b h)
before_head_step-Holds R b (a_comment bytes) k h = comment-Holds R bytes b k h
before_head_step-Holds R b (a_doctype own) k h = h
before_head_step-Holds R b (a_start g t closes) k h = before_head_start-Holds R b g t k h
before_head_step-Holds R b (an_end g name) k h = either-after R (is_head_end g) (head_implied b) (Done b) (head_implied-Holds R b h) h
before_head_step-Holds R b end_of_file k h = head_implied-Holds R b h

pub head_closed-Holds : (R : Allowed) (b : Builder) → Holds R b → Holds R (head_closed b)
head_closed-Holds R b h = pop-Holds R b h

pub template_opened-Holds : (R : Allowed) (place : Place) (t : Tag) (b : Builder) → R.Opens t → Holds R b → Holds R (template_opened place t b)
template_opened-Holds R where_to t b o h = let opened = insert_element_at where_to t (frameset_not_ok (insert_marker b)) in (let x = insert_at-Holds R where_to t (frameset_not_ok (insert_marker b)) o (marker-Holds R b h) in (x.0, λ g. let s = x.1 g in (s.0, s.1, (refl, s.2), s.3)))

-- with scripting alone the state is set
pub scripted-Holds : (R : Allowed) (b : Builder) (t : Tag) (other : Builder) → R.Opens t → (R.Scripts true → R.Reads (state_inside t.name)) → Roams b → Holds R b → Holds R other →
    Holds R (if b.flags.is_scripting then parse_raw_text t b else other)
scripted-Holds R b t other o r n h k =
    cond_both b.flags.is_scripting (parse_raw_text t b) other (Holds R) (λ e. raw_text-Holds R t b o (r (subst R.Scripts e h.0.3.scripts)) n h) (λ _. k)

pub noscript_in_head-Holds : (R : Allowed) (b : Builder) (t : Tag) → R.Opens t → (R.Scripts true → R.Reads (state_inside t.name)) → Roams b → Holds R b → Holds R (noscript_in_head b t)
noscript_in_head-Holds R b t o r n h = scripted-Holds R b t (switch_to in_head_noscript (insert_element t b)) o r n h (insert-Holds R t b o h)

pub in_head_end-Holds : (R : Allowed) (b : Builder) (g : Group) → Holds R b → HoldsAfter R (in_head_end b g)
in_head_end-Holds R b the_head h = head_closed-Holds R b h
in_head_end-Holds R b a_template h = template_end_tag-Holds R b h
in_head_end-Holds R b g h = either-after R (is_body_end g) (Again (head_closed b)) (Done b) (head_closed-Holds R b h) h

pub noscript_closed-Holds : (R : Allowed) (b : Builder) → Holds R b → Holds R (noscript_closed b)
noscript_closed-Holds R b h = pop-Holds R b h

pub head_part-Holds : (R : Allowed) (place : Place) (g : Group) (t : Tag) (b : Builder) → Starts R g t → Roams b → Holds R b → HoldsIf R (head_part place g t b)
head_part-Holds R place a_base t b k n h = alone_at-Holds R place t b k.alone h
head_part-Holds R place a_link t b k n h = alone_at-Holds R place t b k.alone h
head_part-Holds R place a_title t b k n h = raw_text_at-Holds R place t b (k.opens refl) (k.inside refl) n h
head_part-Holds R place a_noframes t b k n h = raw_text_at-Holds R place t b (k.opens refl) (k.inside refl) n h
head_part-Holds R place a_style t b k n h = raw_text_at-Holds R place t b (k.opens refl) (k.inside refl) n h
head_part-Holds R place a_script t b k n h = raw_text_at-Holds R place t b (k.opens refl) (k.inside refl) n h
head_part-Holds R place a_template t b k n h = template_opened-Holds R place t b (k.opens refl) h
head_part-Holds R place g t b k n h = tt

done_or-Holds : (R : Allowed) (other : Outcome) (b : Option Builder) → HoldsAfter R other → HoldsIf R b → HoldsAfter R (done_or other b)
done_or-Holds R other None h k = h
done_or-Holds R other (Some b) h k = k

pub in_head_start-Holds : (R : Allowed) (b : Builder) (g : Group) (t : Tag) → Starts R g t → Roams b → Holds R b → HoldsAfter R (in_head_start b g t)
in_head_start-Holds R b the_html t k n h = html_start-Holds R b t (k.more refl) h
in_head_start-Holds R b the_head t k n h = h
in_head_start-Holds R b a_noscript t k n h = noscript_in_head-Holds R b t (k.opens refl) k.scripted n h
in_head_start-Holds R b g t k n h =
    done_or-Holds R (Again (head_closed b)) (head_part (appropriate_place b) g t b) (head_closed-Holds R b h) (head_part-Holds R (appropriate_place b) g t b k n h)

pub in_head_step-Holds : (R : Allowed) (b : Builder) (token : Token) → Allows R token → Roams b → Holds R b → HoldsAfter R (in_head_step b token)
in_head_step-Holds R b (a_character c) k n h = either-after R (is_ascii_whitespace c) (Done (insert_character c b)) (Again (head_closed b)) (character-Holds R c b k h) (head_closed-Holds R b h)
in_head_step-Holds R b (a_comment bytes) k n h = comment-Holds R bytes b k h
in_head_step-Holds R b (a_doctype own) k n h = h
in_head_step-Holds R b (a_start g t closes) k n h = in_head_start-Holds R b g t k n h
in_head_step-Holds R b (an_end g name) k n h = in_head_end-Holds R b g h
in_head_step-Holds R b end_of_file k n h = head_closed-Holds R b h

pub noscript_start-Holds : (R : Allowed) (b : Builder) (g : Group) (t : Tag) → Starts R g t → Roams b → Holds R b → HoldsAfter R (noscript_start b g t)
noscript_start-Holds R b the_html t k n h = html_start-Holds R b t (k.more refl) h
noscript_start-Holds R b a_link t k n h = in_head_start-Holds R b a_link t k n h
noscript_start-Holds R b a_noframes t k n h = in_head_start-Holds R b a_noframes t k n h
noscript_start-Holds R b a_style t k n h = in_head_start-Holds R b a_style t k n h
noscript_start-Holds R b the_head t k n h = h
noscript_start-Holds R b a_noscript t k n h = h
noscript_start-Holds R b g t k n h = noscript_closed-Holds R b h

pub noscript_end-Holds : (R : Allowed) (b : Builder) (g : Group) → Holds R b → HoldsAfter R (noscript_end b g)
noscript_end-Holds R b a_noscript h = noscript_closed-Holds R b h
noscript_end-Holds R b a_break h = noscript_closed-Holds R b h
noscript_end-Holds R b g h = h

pub in_head_noscript_step-Holds : (R : Allowed) (b : Builder) (token : Token) → Allows R token → Roams b → Holds R b → HoldsAfter R (in_head_noscript_step b token)
in_head_noscript_step-Holds R b (a_character c) k n h = either-after R (is_ascii_whitespace c) (Done (insert_character c b)) (Again (noscript_closed b)) (character-Holds R c b k h) (noscript_closed-Holds R b h)
in_head_noscript_step-Holds R b (a_comment bytes) k n h = comment-Holds R bytes b k h
in_head_noscript_step-Holds R b (a_doctype own) k n h = h
in_head_noscript_step-Holds R b (a_start g t closes) k n h = noscript_start-Holds R b g t k n h
in_head_noscript_step-Holds R b (an_end g name) k n h = noscript_end-Holds R b g h
in_head_noscript_step-Holds R b end_of_file k n h = noscript_closed-Holds R b h

pub body_implied-Holds : (R : Allowed) (b : Builder) → Holds R b → HoldsAfter R (body_implied b)
body_implied-Holds R b h = insert-Holds R (bare_tag (codes "body")) b R.body h

pub after_head_end-Holds : (R : Allowed) (b : Builder) (g : Group) → Holds R b → HoldsAfter R (after_head_end b g)
after_head_end-Holds R b a_template h = template_end_tag-Holds R b h
after_head_end-Holds R b g h = either-after R (is_body_end g) (body_implied b) (Done b) (body_implied-Holds R b h) h

pub after_head_start-Holds : (R : Allowed) (b : Builder) (g : Group) (t : Tag) → Starts R g t → Roams b → Holds R b → HoldsAfter R (after_head_start b g t)
after_head_start-Holds R b the_html t k n h = html_start-Holds R b t (k.more refl) h
after_head_start-Holds R b the_body t k n h = insert-Holds R t b (k.opens refl) h
after_head_start-Holds R b a_frameset t k n h = insert-Holds R t b (k.opens refl) h
after_head_start-Holds R b the_head t k n h = h
after_head_start-Holds R b g t k n h = done_or-Holds R (body_implied b) (head_part into_head g t b) (body_implied-Holds R b h) (head_part-Holds R into_head g t b k n h)

pub after_head_step-Holds : (R : Allowed) (b : Builder) (token : Token) → Allows R token → Roams b → Holds R b → HoldsAfter R (after_head_step b token)
after_head_step-Holds R b (a_character c) k n h = either-after R (is_ascii_whitespace c) (Done (insert_character c b)) (body_implied b) (character-Holds R c b k h) (body_implied-Holds R b h)
after_head_step-Holds R b (a_comment bytes) k n h = comment-Holds R bytes b k h
after_head_step-Holds R b (a_doctype own) k n h = h
after_head_step-Holds R b (a_start g t closes) k n h = after_head_start-Holds R b g t k n h
after_head_step-Holds R b (an_end g name) k n h = after_head_end-Holds R b g h
after_head_step-Holds R b end_of_file k n h = body_implied-Holds R b h

pub text_closed-Holds : (R : Allowed) (b : Builder) → Holds R b → Holds R (text_closed b)
text_closed-Holds R b h = pop-Holds R b h

pub text_step-Holds : (R : Allowed) (b : Builder) (token : Token) → Allows R token → Holds R b → HoldsAfter R (text_step b token)
text_step-Holds R b (a_character c) k h = character-Holds R c b k h
text_step-Holds R b end_of_file k h = text_closed-Holds R b h
text_step-Holds R b _ k h = text_closed-Holds R b h
