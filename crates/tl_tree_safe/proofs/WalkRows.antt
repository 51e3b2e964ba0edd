-- What is written of a row follows from its kind.
use Rattle.std.proofs.Common.{Bool, List, None, Option, Some, [], ap, ap₂, false, if◌then◌else◌, not, refl, sym, true, ℕ, ◌∙◌, ◌≡◌}
use Rattle.std.specs.Option.{option_and_then, option_map, unwrap_or}
use Rattle.tl_dom_spec.specs.Tags.{Tag, is_html}
use Rattle.tl_html_print.specs.Inner.Printed.{html_name, tag_of}
use Rattle.tl_html_print.specs.Serialized.{start_tag}
use Rattle.tl_safe_fit.specs.declared.kinds.Kind as element
use Rattle.tl_safe_fit.specs.declared.levels.Level.{Level}
use Rattle.tl_tree.specs.Asked.{kind_of, node_at, text_of}
use Rattle.tl_tree.specs.Rows.{Node, Row, a_comment, a_doctype, a_text, an_element, contents}
use Rattle.tl_tree.specs.declared.kind.Kind.{Kind}
use Rattle.tl_tree.specs.declared.kind.Kind.TheVariants.{Element, Text}
use Rattle.tl_tree_safe.specs.Inner.Walk.{Spot, behind_element, behind_node, behind_row, behind_text, end_or_none, fate_at, fate_of, fate_written, is_passed, is_passed_at, is_passed_node, named_fate, node_written, row_written, start_at, text_at, text_written}
use Rattle.tl_tree_safe.specs.Kept.{kept_tag}
use Rattle.tl_tree_safe.specs.Lists.{ListedWords}
use Rattle.tl_tree_safe.specs.declared.fate.Fate.{Fate}
use Rattle.tl_tree_safe.specs.declared.fate.Fate.TheVariants.{Goes, Stays, Unwrapped}

-- the tag of a row that is an element
pub record IsElement (o : Option Node) : Type 0 where
  pub tag : Tag
  pub is : o ≡ Some (an_element tag)

pub element_of : (o : Option Node) → option_map kind_of o ≡ Some Element → IsElement o
element_of None e = cc
element_of (Some (an_element tag)) e = record { tag = tag; is = refl }
element_of (Some contents) e = cc
element_of (Some (a_text own)) e = cc
element_of (Some (a_comment own)) e = cc
element_of (Some (a_doctype own)) e = cc

fate_same : (p : ListedWords) (level : Level) (tag : Tag) →
    unwrap_or (option_map (named_fate p level) (if is_html tag then Some tag.name else None)) Goes ≡ fate_of p level tag
fate_same p level tag = here (is_html tag)
  where
    here : (h : Bool) → unwrap_or (option_map (named_fate p level) (if h then Some tag.name else None)) Goes ≡ (if not h then Goes else named_fate p level tag.name)
    here true = refl
    here false = refl

module _ (p : ListedWords) (R : List Row) (spot : Spot) (n : ℕ) where
  pub fate_by : (tag : Tag) → node_at R n ≡ Some (an_element tag) → fate_at p R spot.level n ≡ fate_of p spot.level tag
  fate_by tag e =
      ap (λ o. unwrap_or (option_map (named_fate p spot.level) (option_and_then html_name o)) Goes) e ∙ fate_same p spot.level tag

  module _ (is : option_map kind_of (node_at R n) ≡ Some Element) where
    pub element_written : row_written p R spot n ≡ fate_written (start_at p R n) (fate_at p R spot.level n)
    element_written =
        let own = element_of (node_at R n) is in
        ap (λ o. unwrap_or (option_map (node_written p spot) o) []) own.is
        ∙ ap₂ fate_written
        (sym (ap (λ o. unwrap_or (option_map (λ tag. start_tag (kept_tag p tag)) (option_and_then tag_of o)) []) own.is))
        (sym (fate_by own.tag own.is))

    pub element_behind : behind_row p R spot n ≡ behind_element n (end_or_none R n) (fate_at p R spot.level n) spot
    element_behind =
        let own = element_of (node_at R n) is in
        ap (λ o. unwrap_or (option_map (behind_node p n (end_or_none R n) spot) o) spot) own.is
        ∙ ap (λ (f : Fate). behind_element n (end_or_none R n) f spot) (sym (fate_by own.tag own.is))

    pub element_passed : is_passed_at p R spot n ≡ is_passed (fate_at p R spot.level n)
    element_passed =
        let own = element_of (node_at R n) is in
        ap (λ o. unwrap_or (option_map (is_passed_node p spot) o) false) own.is
        ∙ ap is_passed (sym (fate_by own.tag own.is))

  -- a text

  pub text_row : option_map kind_of (node_at R n) ≡ Some Text → row_written p R spot n ≡ unwrap_or (option_map (text_written spot) (text_at R n)) []
  text_row = here (node_at R n)
    where
      here : (o : Option Node) → option_map kind_of o ≡ Some Text → unwrap_or (option_map (node_written p spot) o) [] ≡ unwrap_or (option_map (text_written spot) (option_and_then text_of o)) []
      here None e = cc
      here (Some (an_element tag)) e = cc
      here (Some contents) e = cc
      here (Some (a_text own)) e = refl
      here (Some (a_comment own)) e = cc
      here (Some (a_doctype own)) e = cc

  pub text_behind : option_map kind_of (node_at R n) ≡ Some Text → behind_row p R spot n ≡ unwrap_or (option_map (behind_text spot) (text_at R n)) spot
  text_behind = here (node_at R n)
    where
      here : (o : Option Node) → option_map kind_of o ≡ Some Text →
          unwrap_or (option_map (behind_node p n (end_or_none R n) spot) o) spot ≡ unwrap_or (option_map (behind_text spot) (option_and_then text_of o)) spot
      here None e = cc
      here (Some (an_element tag)) e = cc
      here (Some contents) e = cc
      here (Some (a_text own)) e = refl
      here (Some (a_comment own)) e = cc
      here (Some (a_doctype own)) e = cc

  -- no element is passed but by what becomes of it
  pub others_entered : (option_map kind_of (node_at R n) ≡ Some Element → ⊥) → is_passed_at p R spot n ≡ false
  others_entered = here (node_at R n)
    where
      here : (o : Option Node) → (option_map kind_of o ≡ Some Element → ⊥) → unwrap_or (option_map (is_passed_node p spot) o) false ≡ false
      here None e = refl
      here (Some (an_element tag)) e = absurd (e refl)
      here (Some contents) e = refl
      here (Some (a_text own)) e = refl
      here (Some (a_comment own)) e = refl
      here (Some (a_doctype own)) e = refl

  -- what is neither

  module _ (no_element : option_map kind_of (node_at R n) ≡ Some Element → ⊥) (no_text : option_map kind_of (node_at R n) ≡ Some Text → ⊥) where
    pub nothing_written : row_written p R spot n ≡ []
    nothing_written = here (node_at R n) no_element no_text
      where
        here : (o : Option Node) → (option_map kind_of o ≡ Some Element → ⊥) → (option_map kind_of o ≡ Some Text → ⊥) → unwrap_or (option_map (node_written p spot) o) [] ≡ []
        here None e t = refl
        here (Some (an_element tag)) e t = absurd (e refl)
        here (Some contents) e t = refl
        here (Some (a_text own)) e t = absurd (t refl)
        here (Some (a_comment own)) e t = refl
        here (Some (a_doctype own)) e t = refl

    pub nothing_behind : behind_row p R spot n ≡ spot
    nothing_behind = here (node_at R n) no_element no_text
      where
        here : (o : Option Node) → (option_map kind_of o ≡ Some Element → ⊥) → (option_map kind_of o ≡ Some Text → ⊥) → unwrap_or (option_map (behind_node p n (end_or_none R n) spot) o) spot ≡ spot
        here None e t = refl
        here (Some (an_element tag)) e t = absurd (e refl)
        here (Some contents) e t = refl
        here (Some (a_text own)) e t = absurd (t refl)
        here (Some (a_comment own)) e t = refl
        here (Some (a_doctype own)) e t = refl

-- An element that doesn't stay

module _ (f : Fate) (goes : (k : element.Kind) → f ≡ Stays k → ⊥) where
  pub others_write_nothing : (start : List ℕ) → fate_written start f ≡ []
  others_write_nothing start = here f goes
    where
      here : (f : Fate) → ((k : element.Kind) → f ≡ Stays k → ⊥) → fate_written start f ≡ []
      here (Stays k) other = absurd (other k refl)
      here Unwrapped other = refl
      here Goes other = refl

  pub others_behind : (number end : ℕ) (spot : Spot) → behind_element number end f spot ≡ spot
  others_behind number end spot = here f goes
    where
      here : (f : Fate) → ((k : element.Kind) → f ≡ Stays k → ⊥) → behind_element number end f spot ≡ spot
      here (Stays k) other = absurd (other k refl)
      here Unwrapped other = refl
      here Goes other = refl

-- The kind of a row that was asked for

pub other_kind : (k other : Kind) (asked : Option Kind) → Some k ≡ asked → (k ≡ other → ⊥) → asked ≡ Some other → ⊥
other_kind k other asked is differs same = differs cc

pub no_kind : (other : Kind) (asked : Option Kind) → None ≡ asked → asked ≡ Some other → ⊥
no_kind other asked is same = cc
