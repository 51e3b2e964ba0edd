-- The rules of "in body" keep what holds of a builder.
use Rattle.std.proofs.Common.{Bool, List, None, Option, Some, [], ap, codes, false, if◌then◌else◌, refl, true, ℕ, ◌==◌, ◌∙◌, ◌∷◌, ◌≡◌}
use Rattle.std.specs.Char.{is_ascii_whitespace}
use Rattle.std.proofs.lemmas.Bool.{cond_both}
use Rattle.tl_html_spec.specs.HtmlTokenizer.{after_start}
use Rattle.tl_dom_spec.specs.Tags.{Namespace, Tag, bare_tag, has_value, is_any, is_heading, is_item_bound, is_named, is_paragraph, is_scope, is_select, math_space, no_tag, svg_space}
use Rattle.tl_dom_spec.specs.Groups.{Group, a_base, a_block, a_break, a_button, a_caption, a_cell, a_column, a_column_group, a_description, a_detail, a_form, a_format, a_frame, a_frameset, a_heading, a_link, a_mark, a_math, a_nobr, a_noembed, a_noframes, a_noscript, a_paragraph, a_plaintext, a_preformatted, a_row, a_ruby_base, a_ruby_text, a_rule, a_script, a_select, a_style, a_table, a_table_body, a_template, a_textarea, a_title, a_void, an_anchor, an_example, an_iframe, an_image, an_input, an_item, an_option, an_option_group, an_svg, the_body, the_head, the_html}
use Rattle.tl_dom_spec.specs.Path.{elements, has_number, has_tag, is_open_number, taken_out, within}
use Rattle.tl_dom_spec.specs.Builder.{Again, Builder, Done, Entry, Token, a_character, a_comment, a_doctype, a_start, add_attributes, after_body, an_end, clear_to_last_marker, close_except_for, current_tag, end_of_file, formatting, frameset_not_ok, generate_implied_end_tags, generate_implied_end_tags_except_for, has_in_button_scope, has_in_list_item_scope, has_in_scope, has_template, in_frameset, insert_and_pop, insert_character, insert_element, insert_implied, is_context, marker, pop_current_node, pop_until, state_inside, switch_to, with_path}
use Rattle.tl_dom_spec.specs.Formatting.{Listed, listed, reconstruct_formatting, reopen, reopen_each, unlisted}
use Rattle.tl_dom_spec.specs.Adoption.{adoption_agency}
use Rattle.tl_dom_spec.specs.Reset.{close_template}
use Rattle.tl_dom_spec.specs.Adjusted.{foreign_tag, insert_foreign_element}
use Rattle.tl_dom_spec.specs.Body.{anchor_ended, body_character, body_end, body_number, body_start, body_start_at, close_in_scope, close_p, earlier_item, file_ended, form_at, form_ended, form_taken_out, frameset_start_at, from_html, heading_closed, in_body_step, input_inserted, item_closed, item_closed_at, item_ended, mark_ended, nobr_ended, noscript_start_in_body, option_ended, option_start, p_ended, ruby_closed, rule_start, select_closed, select_start, table_start_in_body, textarea_start, void_start}
use Rattle.tl_dom_spec.proofs.Allowed.{Allowed}
use Rattle.tl_dom_spec.specs.Lawful.{is_text_mode}
use Rattle.tl_dom_spec.proofs.Kept.{Holds, HoldsAfter, Roams, agency-Holds, alone-Holds, attributes-Holds, character-Holds, clear-Holds, close-Holds, close_template-Holds, comment-Holds, either, either-after, form-Holds, formatting-Holds, from_html-Holds, implied-Holds, insert-Holds, marker-Holds, other_end-Holds, pop-Holds, pop_until-Holds, raw_text-Holds, reads-Holds, reconstruct-Holds, taken_out-Holds, template_end_tag-Holds, unlisted-Holds}
use Rattle.tl_dom_spec.proofs.HeadRules.{Allows, Starts, html_start-Holds, in_head_start-Holds, scripted-Holds}

pub foreign-Holds : (R : Allowed) (space : Namespace) (t : Tag) (closes : Bool) (b : Builder) → R.Opens (foreign_tag space t) → Holds R b → Holds R (insert_foreign_element space t closes b)
foreign-Holds R space t closes b o h =
    either R closes (insert_and_pop (foreign_tag space t) b) (insert_element (foreign_tag space t) b)
    (alone-Holds R (foreign_tag space t) b (R.stands (foreign_tag space t) o) h) (insert-Holds R (foreign_tag space t) b o h)

pub close_p-Holds : (R : Allowed) (b : Builder) → Holds R b → Holds R (close_p b)
close_p-Holds R b h = either R (has_in_button_scope is_paragraph b) (close_except_for is_paragraph is_paragraph b) b (close-Holds R is_paragraph is_paragraph b h) h

pub close_in_scope-Holds : (R : Allowed) (but : Tag → Bool) (test : Tag → Bool) (b : Builder) → Holds R b → Holds R (close_in_scope but test b)
close_in_scope-Holds R but test b h = either R (has_in_scope test b) (close_except_for but test b) b (close-Holds R but test b h) h

pub heading_closed-Holds : (R : Allowed) (b : Builder) → Holds R b → Holds R (heading_closed b)
heading_closed-Holds R b h = either R (is_heading (current_tag b)) (pop_current_node b) b (pop-Holds R b h) h

pub item_closed_at-Holds : (R : Allowed) (own : Option Tag) (b : Builder) → Holds R b → Holds R (item_closed_at own b)
item_closed_at-Holds R None b h = h
item_closed_at-Holds R (Some t) b h = close-Holds R (is_named t.name) (is_named t.name) b h

pub item_closed-Holds : (R : Allowed) (test : Tag → Bool) (b : Builder) → Holds R b → Holds R (item_closed test b)
item_closed-Holds R test b h = close_p-Holds R (item_closed_at (earlier_item test (is_item_bound b.flags.counts_search) (elements b.path)) b) (item_closed_at-Holds R (earlier_item test (is_item_bound b.flags.counts_search) (elements b.path)) b h)

pub ruby_closed-Holds : (R : Allowed) (test : Tag → Bool) (b : Builder) → Holds R b → Holds R (ruby_closed test b)
ruby_closed-Holds R but b h = either R (has_in_scope (is_any (codes "ruby")) b) (generate_implied_end_tags_except_for but b) b (implied-Holds R but b h) h

pub body_start_at-Holds : (R : Allowed) (n : Option ℕ) (b : Builder) (t : Tag) → R.Adds t.attributes → Holds R b → Holds R (body_start_at n b t)
body_start_at-Holds R None b t a h = h
body_start_at-Holds R (Some n) b t a h = either R (has_template b) b (frameset_not_ok (add_attributes n t.attributes b)) h (attributes-Holds R n t.attributes b a h)

pub frameset_start_at-Holds : (R : Allowed) (n : Option ℕ) (b : Builder) (t : Tag) → body_number (elements b.path) ≡ n → R.Opens t → Holds R b → Holds R (frameset_start_at n b t)
frameset_start_at-Holds R None b t e o h = h
frameset_start_at-Holds R (Some k) b t e o h =
    let outside : Builder = with_path b (from_html b.path) in
    either R b.is_frameset_ok (switch_to in_frameset (insert_element t outside)) b
    (insert-Holds R t outside o (from_html-Holds R b h)) h

pub form_at-Holds : (R : Allowed) (is_within : Bool) (form : Option ℕ) (b : Builder) (t : Tag) → R.Opens t → Holds R b → Holds R (form_at is_within form b t)
form_at-Holds R true form b t o h = insert-Holds R t (close_p b) o (close_p-Holds R b h)
form_at-Holds R false (Some k) b t o h = h
form_at-Holds R false None b t o h = let ready = close_p b in (form-Holds R (Some ready.next) (insert_element t ready) (insert-Holds R t ready o (close_p-Holds R b h)))

anchor_ended-Holds : (R : Allowed) (own : Option Listed) (b : Builder) → Holds R b → Holds R (anchor_ended own b)
anchor_ended-Holds R None b h = h
anchor_ended-Holds R (Some own) b h =
    let ended : Builder = adoption_agency own.tag.name b in
    let less : Builder = record ended { active = unlisted own.number ended.active } in
    let k : Holds R less = unlisted-Holds R own.number ended (agency-Holds R own.tag.name b h) in
    cond_both (is_open_number own.number ended.path) (taken_out own.number ended.path) ended.path (λ path. Holds R (record less { path = path }))
    (λ _. taken_out-Holds R own.number less k) (λ _. k)

pub nobr_ended-Holds : (R : Allowed) (name : List ℕ) (b : Builder) → Holds R b → Holds R (nobr_ended name b)
nobr_ended-Holds R name b h = either R (has_in_scope (is_named name) b) (reconstruct_formatting (adoption_agency name b)) b (reconstruct-Holds R (adoption_agency name b) (agency-Holds R name b h)) h

pub select_closed-Holds : (R : Allowed) (b : Builder) → Holds R b → Holds R (select_closed b)
select_closed-Holds R b h = either R (has_in_scope is_select b) (pop_until is_select b) b (pop_until-Holds R is_select b h) h

pub void_start-Holds : (R : Allowed) (b : Builder) (t : Tag) → R.Stands t → Holds R b → Holds R (void_start b t)
void_start-Holds R b t s h = alone-Holds R t (reconstruct_formatting b) s (reconstruct-Holds R b h)

pub input_inserted-Holds : (R : Allowed) (t : Tag) (b : Builder) → R.Stands t → Holds R b → Holds R (input_inserted t b)
input_inserted-Holds R t b s h = let with_input = insert_and_pop t (reconstruct_formatting (select_closed b)) in (either R (has_value (codes "type") (codes "hidden") t.attributes) with_input (frameset_not_ok with_input) (alone-Holds R t (reconstruct_formatting (select_closed b)) s (reconstruct-Holds R (select_closed b) (select_closed-Holds R b h))) (alone-Holds R t (reconstruct_formatting (select_closed b)) s (reconstruct-Holds R (select_closed b) (select_closed-Holds R b h))))

pub select_start-Holds : (R : Allowed) (b : Builder) (t : Tag) → R.Opens t → Holds R b → Holds R (select_start b t)
select_start-Holds R b t o h = either R (is_context is_select b.context) b (if has_in_scope is_select b then pop_until is_select b else frameset_not_ok (insert_element t (reconstruct_formatting b))) h (either R (has_in_scope is_select b) (pop_until is_select b) (frameset_not_ok (insert_element t (reconstruct_formatting b))) (pop_until-Holds R is_select b h) (insert-Holds R t (reconstruct_formatting b) o (reconstruct-Holds R b h)))

pub option_ended-Holds : (R : Allowed) (but : Tag → Bool) (b : Builder) → Holds R b → Holds R (option_ended but b)
option_ended-Holds R but b h = either R (has_in_scope is_select b) (generate_implied_end_tags_except_for but b) (if is_any (codes "option") (current_tag b) then pop_current_node b else b) (implied-Holds R but b h) (either R (is_any (codes "option") (current_tag b)) (pop_current_node b) b (pop-Holds R b h) h)

pub option_start-Holds : (R : Allowed) (but : Tag → Bool) (b : Builder) (t : Tag) → R.Opens t → Holds R b → Holds R (option_start but b t)
option_start-Holds R but b t o h = insert-Holds R t (reconstruct_formatting (option_ended but b)) o (reconstruct-Holds R (option_ended but b) (option_ended-Holds R but b h))

pub rule_start-Holds : (R : Allowed) (b : Builder) (t : Tag) → R.Stands t → Holds R b → Holds R (rule_start b t)
rule_start-Holds R b t s h = alone-Holds R t (if has_in_scope is_select b then generate_implied_end_tags b else b) s (either R (has_in_scope is_select b) (generate_implied_end_tags b) b (implied-Holds R no_tag b h) h)

pub textarea_start-Holds : (R : Allowed) (b : Builder) (t : Tag) → R.Opens t → R.Reads (state_inside t.name) → Roams b → Holds R b → Holds R (textarea_start b t)
textarea_start-Holds R b t o r n h = raw_text-Holds R t (frameset_not_ok b) o r n h

pub noscript_start_in_body-Holds : (R : Allowed) (b : Builder) (t : Tag) → R.Opens t → (R.Scripts true → R.Reads (state_inside t.name)) → Roams b → Holds R b → Holds R (noscript_start_in_body b t)
noscript_start_in_body-Holds R b t o r n h =
    scripted-Holds R b t (insert_element t (reconstruct_formatting b)) o r n h (insert-Holds R t (reconstruct_formatting b) o (reconstruct-Holds R b h))

pub table_start_in_body-Holds : (R : Allowed) (b : Builder) (t : Tag) → R.Opens t → Holds R b → Holds R (table_start_in_body b t)
table_start_in_body-Holds R b t o h = insert-Holds R t (if b.is_quirks then b else close_p b) o (either R b.is_quirks b (close_p b) h (close_p-Holds R b h))

reopened-mode : (b : Builder) (entries : List Entry) → (reopen_each b entries).mode ≡ b.mode
reopened-mode b [] = refl
reopened-mode b (marker ∷ entries) = refl
reopened-mode b (formatting k tag ∷ entries) =
    elim (is_open_number k b.path) as (λ v. (elim v as (λ _. Builder) [
      | true ↦ record b { active = formatting k tag ∷ entries }
      | false ↦ reopen tag (reopen_each b entries)
    ]).mode ≡ b.mode) [
      | true ↦ refl
      | false ↦ reopened-mode b entries
    ]

closed-mode : (b : Builder) → (close_p b).mode ≡ b.mode
closed-mode b =
    cond_both (has_in_button_scope is_paragraph b) (close_except_for is_paragraph is_paragraph b) b (λ (c : Builder). c.mode ≡ b.mode) (λ _. refl) (λ _. refl)

closed_roams : (b : Builder) → Roams b → Roams (reconstruct_formatting (close_p b))
closed_roams b n = ap is_text_mode (reopened-mode (close_p b) (close_p b).active ∙ closed-mode b) ∙ n

pub body_start-Holds : (R : Allowed) (b : Builder) (g : Group) (t : Tag) (closes : Bool) → Starts R g t → Roams b → Holds R b → HoldsAfter R (body_start b g t closes)
body_start-Holds R b the_html t closes k n h = html_start-Holds R b t (k.more refl) h
body_start-Holds R b a_base t closes k n h = in_head_start-Holds R b a_base t k n h
body_start-Holds R b a_link t closes k n h = in_head_start-Holds R b a_link t k n h
body_start-Holds R b a_noframes t closes k n h = in_head_start-Holds R b a_noframes t k n h
body_start-Holds R b a_script t closes k n h = in_head_start-Holds R b a_script t k n h
body_start-Holds R b a_style t closes k n h = in_head_start-Holds R b a_style t k n h
body_start-Holds R b a_template t closes k n h = in_head_start-Holds R b a_template t k n h
body_start-Holds R b a_title t closes k n h = in_head_start-Holds R b a_title t k n h
body_start-Holds R b the_body t closes k n h = body_start_at-Holds R (body_number (elements b.path)) b t (k.more refl) h
body_start-Holds R b a_frameset t closes k n h = frameset_start_at-Holds R (body_number (elements b.path)) b t refl (k.opens refl) h
body_start-Holds R b a_paragraph t closes k n h = insert-Holds R t (close_p b) (k.opens refl) (close_p-Holds R b h)
body_start-Holds R b a_block t closes k n h = insert-Holds R t (close_p b) (k.opens refl) (close_p-Holds R b h)
body_start-Holds R b a_heading t closes k n h = insert-Holds R t (heading_closed (close_p b)) (k.opens refl) (heading_closed-Holds R (close_p b) (close_p-Holds R b h))
body_start-Holds R b a_preformatted t closes k n h = insert-Holds R t (close_p b) (k.opens refl) (close_p-Holds R b h)
body_start-Holds R b a_form t closes k n h = form_at-Holds R (has_template b) b.form b t (k.opens refl) h
body_start-Holds R b an_item t closes k n h = insert-Holds R t (item_closed (is_any (codes "li")) (frameset_not_ok b)) (k.opens refl) (item_closed-Holds R (is_any (codes "li")) (frameset_not_ok b) h)
body_start-Holds R b a_description t closes k n h = insert-Holds R t (item_closed (is_any (codes "dd dt")) (frameset_not_ok b)) (k.opens refl) (item_closed-Holds R (is_any (codes "dd dt")) (frameset_not_ok b) h)
body_start-Holds R b a_plaintext t closes k n h = reads-Holds R (after_start t.name) (insert_element t (close_p b)) k.after (insert-Holds R t (close_p b) (k.opens refl) (close_p-Holds R b h))
body_start-Holds R b a_button t closes k n h = insert-Holds R t (reconstruct_formatting (close_in_scope no_tag (is_any (codes "button")) b)) (k.opens refl) (reconstruct-Holds R (close_in_scope no_tag (is_any (codes "button")) b) (close_in_scope-Holds R no_tag (is_any (codes "button")) b h))
body_start-Holds R b an_anchor t closes k n h = formatting-Holds R t (reconstruct_formatting (anchor_ended (listed t.name b.active) b)) (k.opens refl) (λ y. k.listed y refl) (reconstruct-Holds R (anchor_ended (listed t.name b.active) b) (anchor_ended-Holds R (listed t.name b.active) b h))
body_start-Holds R b a_format t closes k n h = formatting-Holds R t (reconstruct_formatting b) (k.opens refl) (λ y. k.listed y refl) (reconstruct-Holds R b h)
body_start-Holds R b a_nobr t closes k n h = formatting-Holds R t (nobr_ended t.name (reconstruct_formatting b)) (k.opens refl) (λ y. k.listed y refl) (nobr_ended-Holds R t.name (reconstruct_formatting b) (reconstruct-Holds R b h))
body_start-Holds R b a_mark t closes k n h = marker-Holds R (insert_element t (reconstruct_formatting b)) (insert-Holds R t (reconstruct_formatting b) (k.opens refl) (reconstruct-Holds R b h))
body_start-Holds R b a_table t closes k n h = table_start_in_body-Holds R b t (k.opens refl) h
body_start-Holds R b a_break t closes k n h = void_start-Holds R b t k.alone h
body_start-Holds R b a_void t closes k n h = void_start-Holds R b t k.alone h
body_start-Holds R b an_image t closes k n h = void_start-Holds R b (record t { name = codes "img" }) (k.image refl) h
body_start-Holds R b an_input t closes k n h = either R (is_context is_select b.context) b (input_inserted t b) h (input_inserted-Holds R t b k.alone h)
body_start-Holds R b a_detail t closes k n h = alone-Holds R t b k.alone h
body_start-Holds R b a_rule t closes k n h = rule_start-Holds R (close_p b) t k.alone (close_p-Holds R b h)
body_start-Holds R b a_textarea t closes k n h = textarea_start-Holds R b t (k.opens refl) (k.inside refl) n h
body_start-Holds R b an_example t closes k n h = raw_text-Holds R t (frameset_not_ok (reconstruct_formatting (close_p b))) (k.opens refl) (k.inside refl) (closed_roams b n) (reconstruct-Holds R (close_p b) (close_p-Holds R b h))
body_start-Holds R b an_iframe t closes k n h = raw_text-Holds R t (frameset_not_ok b) (k.opens refl) (k.inside refl) n h
body_start-Holds R b a_noembed t closes k n h = raw_text-Holds R t b (k.opens refl) (k.inside refl) n h
body_start-Holds R b a_noscript t closes k n h = noscript_start_in_body-Holds R b t (k.opens refl) k.scripted n h
body_start-Holds R b a_select t closes k n h = select_start-Holds R b t (k.opens refl) h
body_start-Holds R b an_option t closes k n h = option_start-Holds R (is_any (codes "optgroup")) b t (k.opens refl) h
body_start-Holds R b an_option_group t closes k n h = option_start-Holds R no_tag b t (k.opens refl) h
body_start-Holds R b a_ruby_base t closes k n h = insert-Holds R t (ruby_closed no_tag b) (k.opens refl) (ruby_closed-Holds R no_tag b h)
body_start-Holds R b a_ruby_text t closes k n h = insert-Holds R t (ruby_closed (is_any (codes "rtc")) b) (k.opens refl) (ruby_closed-Holds R (is_any (codes "rtc")) b h)
body_start-Holds R b a_math t closes k n h = foreign-Holds R math_space t closes (reconstruct_formatting b) (k.math refl) (reconstruct-Holds R b h)
body_start-Holds R b an_svg t closes k n h = foreign-Holds R svg_space t closes (reconstruct_formatting b) (k.svg refl) (reconstruct-Holds R b h)
body_start-Holds R b a_caption t closes k n h = h
body_start-Holds R b a_column t closes k n h = h
body_start-Holds R b a_column_group t closes k n h = h
body_start-Holds R b a_frame t closes k n h = h
body_start-Holds R b the_head t closes k n h = h
body_start-Holds R b a_table_body t closes k n h = h
body_start-Holds R b a_cell t closes k n h = h
body_start-Holds R b a_row t closes k n h = h
body_start-Holds R b g t closes k n h = insert-Holds R t (reconstruct_formatting b) (k.opens refl) (reconstruct-Holds R b h)

pub p_ended-Holds : (R : Allowed) (b : Builder) → Holds R b → Holds R (p_ended b)
p_ended-Holds R b h = close-Holds R is_paragraph is_paragraph (if has_in_button_scope is_paragraph b then b else insert_implied (codes "p") b) (either R (has_in_button_scope is_paragraph b) b (insert_implied (codes "p") b) h (insert-Holds R (bare_tag (codes "p")) b R.paragraph h))

pub item_ended-Holds : (R : Allowed) (b : Builder) → Holds R b → Holds R (item_ended b)
item_ended-Holds R b h = either R (has_in_list_item_scope (is_any (codes "li")) b) (close_except_for (is_any (codes "li")) (is_any (codes "li")) b) b (close-Holds R (is_any (codes "li")) (is_any (codes "li")) b h) h

pub mark_ended-Holds : (R : Allowed) (name : List ℕ) (b : Builder) → Holds R b → Holds R (mark_ended name b)
mark_ended-Holds R name b h = either R (has_in_scope (is_named name) b) (clear_to_last_marker (close_except_for no_tag (is_named name) b)) b (clear-Holds R (close_except_for no_tag (is_named name) b) (close-Holds R no_tag (is_named name) b h)) h

form_taken_out-Holds : (R : Allowed) (form : Option ℕ) (b : Builder) → Holds R b → Holds R (form_taken_out form b)
form_taken_out-Holds R None b h = h
form_taken_out-Holds R (Some k) b h =
    let closing : Builder = generate_implied_end_tags b in
    either R (within (has_number k) (has_tag is_scope) (elements b.path)) (with_path closing (taken_out k closing.path)) b
    (taken_out-Holds R k closing (implied-Holds R no_tag b h)) h

pub form_ended-Holds : (R : Allowed) (b : Builder) → Holds R b → Holds R (form_ended b)
form_ended-Holds R b h = either R (has_template b) (close_in_scope no_tag (is_any (codes "form")) b) (form_taken_out b.form (record b { form = None })) (close_in_scope-Holds R no_tag (is_any (codes "form")) b h) (form_taken_out-Holds R b.form (record b { form = None }) (form-Holds R None b h))

pub body_end-Holds : (R : Allowed) (b : Builder) (g : Group) (name : List ℕ) → Holds R b → HoldsAfter R (body_end b g name)
body_end-Holds R b a_template name h = template_end_tag-Holds R b h
body_end-Holds R b the_body name h = either R (has_in_scope (is_any (codes "body")) b) (switch_to after_body b) b h h
body_end-Holds R b the_html name h = either-after R (has_in_scope (is_any (codes "body")) b) (Again (switch_to after_body b)) (Done b) h h
body_end-Holds R b a_block name h = close_in_scope-Holds R no_tag (is_named name) b h
body_end-Holds R b a_button name h = close_in_scope-Holds R no_tag (is_named name) b h
body_end-Holds R b a_preformatted name h = close_in_scope-Holds R no_tag (is_named name) b h
body_end-Holds R b a_select name h = close_in_scope-Holds R no_tag (is_named name) b h
body_end-Holds R b a_form name h = form_ended-Holds R b h
body_end-Holds R b a_paragraph name h = p_ended-Holds R b h
body_end-Holds R b an_item name h = item_ended-Holds R b h
body_end-Holds R b a_description name h = close_in_scope-Holds R (is_named name) (is_named name) b h
body_end-Holds R b a_heading name h = close_in_scope-Holds R no_tag is_heading b h
body_end-Holds R b an_anchor name h = agency-Holds R name b h
body_end-Holds R b a_format name h = agency-Holds R name b h
body_end-Holds R b a_nobr name h = agency-Holds R name b h
body_end-Holds R b a_mark name h = mark_ended-Holds R name b h
body_end-Holds R b a_break name h = void_start-Holds R b (bare_tag (codes "br")) R.line_break h
body_end-Holds R b g name h = other_end-Holds R name b h

pub body_character-Holds : (R : Allowed) (c : ℕ) (b : Builder) → R.Says c → Holds R b → Holds R (body_character c b)
body_character-Holds R c b k h = either R (c == 0) b (if is_ascii_whitespace c then insert_character c (reconstruct_formatting b) else frameset_not_ok (insert_character c (reconstruct_formatting b))) h (either R (is_ascii_whitespace c) (insert_character c (reconstruct_formatting b)) (frameset_not_ok (insert_character c (reconstruct_formatting b))) (character-Holds R c (reconstruct_formatting b) k (reconstruct-Holds R b h)) (character-Holds R c (reconstruct_formatting b) k (reconstruct-Holds R b h)))

pub file_ended-Holds : (R : Allowed) (b : Builder) → Holds R b → HoldsAfter R (file_ended b)
file_ended-Holds R b h = either-after R (has_template b) (Again (close_template b)) (Done b) (close_template-Holds R b h) h

pub in_body_step-Holds : (R : Allowed) (b : Builder) (token : Token) → Allows R token → Roams b → Holds R b → HoldsAfter R (in_body_step b token)
in_body_step-Holds R b (a_character c) k n h = body_character-Holds R c b k h
in_body_step-Holds R b (a_comment bytes) k n h = comment-Holds R bytes b k h
in_body_step-Holds R b (a_doctype own) k n h = h
in_body_step-Holds R b (a_start g t closes) k n h = body_start-Holds R b g t closes k n h
in_body_step-Holds R b (an_end g name) k n h = body_end-Holds R b g name h
in_body_step-Holds R b end_of_file k n h = file_ended-Holds R b h
