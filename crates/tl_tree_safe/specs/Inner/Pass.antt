-- What is kept of trees and made to stay, printed in one pass over them.
use Rattle.std.specs.Prelude.{Bool, List, [], false, filter, if◌then◌else◌, ℕ, ◌&&◌, ◌++◌, ◌∷◌}
use Rattle.tl_dom_spec.specs.HtmlForest.{HtmlForest, comment, doctype, element, no_trees, text}
use Rattle.tl_dom_spec.specs.Tags.{Tag}
use Rattle.tl_html_print.specs.Serialized.{end_tag, escaped, start_tag}
use Rattle.tl_spec.specs.Lex.ByteClass.{is_void}
use Rattle.tl_tree_safe.specs.Fitted.{Names, at_top, is_read, past_lines}
use Rattle.tl_tree_safe.specs.Characters.{cleaned}
use Rattle.tl_tree_safe.specs.Kept.{Part, goes, kept_tag, part_of, stays, unwrapped}
use Rattle.tl_tree_safe.specs.Lists.{ListedWords}
use Rattle.tl_tree_spec.specs.Builder.{is_flow, mode_of}
use Rattle.tl_tree_spec.specs.Groups.{group}
use Rattle.tl_tree_spec.specs.HtmlForest.{is_empty}
use Rattle.tl_tree_spec.specs.Stays.{is_preformatted, may_be_read}

-- bytes that are written, and whether the innermost open element is one that drops a line feed
-- first, and has nothing in it yet
pub record Written : Type 0 where
  pub bytes : List ℕ
  pub fresh : Bool

abbrev pub unchanged : Bool → Written
unchanged fresh = record { bytes = []; fresh = fresh }

-- one, and then another
abbrev pub followed : Written → (Bool → Written) → Written
followed w more =
    let later = more w.fresh in record { bytes = w.bytes ++ later.bytes; fresh = later.fresh }

-- Texts

-- what stays of a text
abbrev pub text_said : Names → List ℕ → List ℕ
text_said names bytes = filter (may_be_read (is_flow (mode_of names))) (cleaned bytes)

abbrev pub first_said : Bool → List ℕ → List ℕ
first_said fresh bytes = if fresh then past_lines bytes else bytes

abbrev pub text_pass : Names → Bool → List ℕ → Written
text_pass names fresh bytes =
    let said = first_said fresh (text_said names bytes) in
    record { bytes = escaped false said; fresh = fresh && is_empty said }

-- Elements

-- an element that is written, with what is written in it
abbrev pub element_pass : Tag → (Bool → Written) → Written
element_pass tag below =
    if is_void tag.name
    then record { bytes = start_tag tag ++ []; fresh = false }
    else record {
      bytes =
          start_tag tag ++ ((below (is_preformatted (group tag.name))).bytes ++ end_tag tag);
      fresh = false;
    }

-- what stands in the place of a listed one that may not stand there
abbrev pub place_pass : Tag → Bool → (Bool → Written) → Written
place_pass tag fresh below = if is_void tag.name then unchanged fresh else below fresh

-- what becomes of an element, where that is written of what is in it: where it stands, and in its
-- place
abbrev pub part_pass :
    ListedWords → Names → Bool → Tag → (Bool → Written) → (Bool → Written) → Part → Written
part_pass p names fresh tag inner below stays =
    if is_read names tag.name then element_pass (kept_tag p tag) inner
    else place_pass tag fresh below
part_pass p names fresh tag inner below unwrapped = below fresh
part_pass p names fresh tag inner below goes = unchanged fresh

-- Trees

abbrev pub pass : ListedWords → Names → Bool → HtmlForest → Written
pass p names fresh no_trees = unchanged fresh
pass p names fresh (text own more) =
    followed (text_pass names fresh own.said) (λ now. pass p names now more)
pass p names fresh (comment own more) = pass p names fresh more
pass p names fresh (doctype own more) = pass p names fresh more
pass p names fresh (element tag below more) =
    followed (part_pass p names fresh tag
    (λ now. pass p (tag.name ∷ names) now below)
    (λ now. pass p names now below)
    (part_of p tag))
    (λ now. pass p names now more)

abbrev pub passed : ListedWords → HtmlForest → List ℕ
passed p trees = (pass p at_top false trees).bytes
