use Rattle.std.proofs.Common.{refl}
use Rattle.std.specs.Char.{encode_utf8}
use Rattle.tl_html_print.proofs.again_examples.read_again.Goals as goal
use Rattle.tl_html_spec.specs.Reader.{read}

pub returns-clause-markup : goal.returns-clause-markup
unfolding encode_utf8 read
returns-clause-markup c = refl

pub returns-clause-key_that_begins_with_equals : goal.returns-clause-key_that_begins_with_equals
unfolding encode_utf8 read
returns-clause-key_that_begins_with_equals c = refl

pub returns-clause-line_ends_of_the_page : goal.returns-clause-line_ends_of_the_page
unfolding encode_utf8 read
returns-clause-line_ends_of_the_page c = refl

pub returns-clause-comments : goal.returns-clause-comments
unfolding encode_utf8 read
returns-clause-comments c = refl

pub returns-clause-bogus_comments : goal.returns-clause-bogus_comments
unfolding encode_utf8 read
returns-clause-bogus_comments c = refl

pub returns-clause-title : goal.returns-clause-title
unfolding encode_utf8 read
returns-clause-title c = refl

pub returns-clause-style : goal.returns-clause-style
unfolding encode_utf8 read
returns-clause-style c = refl

pub returns-clause-style_that_the_page_cuts : goal.returns-clause-style_that_the_page_cuts
unfolding encode_utf8 read
returns-clause-style_that_the_page_cuts c = refl

pub returns-clause-script : goal.returns-clause-script
unfolding encode_utf8 read
returns-clause-script c = refl

pub returns-clause-script_in_a_script : goal.returns-clause-script_in_a_script
unfolding encode_utf8 read
returns-clause-script_in_a_script c = refl

pub returns-clause-first_line_feed : goal.returns-clause-first_line_feed
unfolding encode_utf8 read
returns-clause-first_line_feed c = refl

pub returns-clause-title_in_svg : goal.returns-clause-title_in_svg
unfolding encode_utf8 read
returns-clause-title_in_svg c = refl

pub returns-clause-style_in_svg : goal.returns-clause-style_in_svg
unfolding encode_utf8 read
returns-clause-style_in_svg c = refl
