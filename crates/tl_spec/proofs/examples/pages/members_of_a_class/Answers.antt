use Rattle.std.proofs.Common.{◌≡◌, false, [], ◌∷◌, ◌++◌, refl, codes}
use Rattle.std.specs.Str.{chars, is_utf8}
use lib.Utf8.{encode}
use Rattle.tl_spec.proofs.Print.Ascii.{members-ascii}
use Rattle.tl_spec.proofs.examples.pages.members_of_a_class.Goals as goal

cut_letter : is_utf8 (codes "a " ++ 0xC3 ∷ []) ≡ false
unfolding is_utf8 chars encode
cut_letter = refl

pub returns-clause-tab : goal.returns-clause-tab
returns-clause-tab c = members-ascii (codes "a" ++ 0x09 ∷ codes "b") refl

pub returns-clause-line_feed : goal.returns-clause-line_feed
returns-clause-line_feed c = members-ascii (codes "a" ++ 0x0A ∷ codes "b") refl

pub returns-clause-form_feed : goal.returns-clause-form_feed
returns-clause-form_feed c = members-ascii (codes "a" ++ 0x0C ∷ codes "b") refl

pub returns-clause-carriage_return : goal.returns-clause-carriage_return
returns-clause-carriage_return c = members-ascii (codes "a" ++ 0x0D ∷ codes "b") refl

pub returns-clause-spaces : goal.returns-clause-spaces
returns-clause-spaces c = members-ascii (codes " a  b ") refl

pub returns-clause-vertical_tab : goal.returns-clause-vertical_tab
returns-clause-vertical_tab c = members-ascii (codes "a" ++ 0x0B ∷ codes "b") refl

pub returns-clause-not_utf8 : goal.returns-clause-not_utf8
returns-clause-not_utf8 c = rw cut_letter refl
