use Rattle.std.proofs.Common.{refl}
use Rattle.std.specs.Char.{encode_utf8}
use Rattle.tl_html_print.proofs.again_examples.not_read_again.Goals as goal
use Rattle.tl_html_spec.specs.Reader.{read}

pub returns-clause-return_in_a_text : goal.returns-clause-return_in_a_text
unfolding encode_utf8 read
returns-clause-return_in_a_text c = refl

pub returns-clause-return_in_a_value : goal.returns-clause-return_in_a_value
unfolding encode_utf8 read
returns-clause-return_in_a_value c = refl

pub returns-clause-return_in_a_title : goal.returns-clause-return_in_a_title
unfolding encode_utf8 read
returns-clause-return_in_a_title c = refl

pub returns-clause-plaintext : goal.returns-clause-plaintext
unfolding encode_utf8 read
returns-clause-plaintext c = refl

pub returns-clause-script_left_open : goal.returns-clause-script_left_open
unfolding encode_utf8 read
returns-clause-script_left_open c = refl

pub returns-clause-script_left_open_behind_another : goal.returns-clause-script_left_open_behind_another
unfolding encode_utf8 read
returns-clause-script_left_open_behind_another c = refl

pub returns-clause-markup_in_a_title_of_svg : goal.returns-clause-markup_in_a_title_of_svg
unfolding encode_utf8 read
returns-clause-markup_in_a_title_of_svg c = refl

pub returns-clause-markup_in_a_style_of_svg : goal.returns-clause-markup_in_a_style_of_svg
unfolding encode_utf8 read
returns-clause-markup_in_a_style_of_svg c = refl

pub returns-clause-below_another : goal.returns-clause-below_another
unfolding encode_utf8 read
returns-clause-below_another c = refl

pub returns-clause-beside_another : goal.returns-clause-beside_another
unfolding encode_utf8 read
returns-clause-beside_another c = refl
