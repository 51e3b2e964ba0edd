use Rattle.std.proofs.Common.{List, Some, ap, append-nil, sym, ◌++◌, ◌∙◌, ◌≡◌, ℕ}
use Rattle.std.specs.Option.{option_map}
use Rattle.tl_tree.specs.Asked.{kind_of, node_at}
use Rattle.tl_tree.specs.Rows.{Row}
use Rattle.tl_tree.specs.TreeView.{rows_in}
use Rattle.tl_tree.specs.declared.kind.Kind.{Kind}
use Rattle.tl_tree.specs.declared.kind.Kind.TheVariants.{Element, Text}
use Rattle.tl_tree_safe.proofs.WalkRows.{element_behind, element_passed, element_written, no_kind, nothing_behind, nothing_written, other_kind, others_entered, text_behind, text_row}
use Rattle.tl_tree_safe.specs.Inner.Walk.{Spot, behind_element, end_or_none, fate_written, is_passed, spot_of, start_at}
use Rattle.tl_tree_safe.specs.Lists.{ListedWords}
use Rattle.tl_tree_safe.specs.Policies.{listed_words}
use Rattle.tl_tree_safe.specs.declared.fate.Fate.{Fate}
use Rattle.tl_tree_safe.proofs.writer.Writer.put.Goals as goal

-- Past the rows

pub returns-in_default-clause-text : goal.returns-in_default-clause-text
returns-in_default-clause-text c =
    let R : List Row = rows_in c.args.tree.now in
    let o : List ℕ = c.args.out.now.items in
    let asked = option_map kind_of (node_at R c.args.number) in
    sym (append-nil o)
    ∙ ap (λ x. o ++ x)
    (sym (nothing_written (listed_words c.args.known.now.lists) R (spot_of c.args.self.now) c.args.number (no_kind Element asked c.in_default.ensures) (no_kind Text asked c.in_default.ensures)))

pub returns-in_default-clause-spot : goal.returns-in_default-clause-spot
returns-in_default-clause-spot c =
    let R : List Row = rows_in c.args.tree.now in
    let asked = option_map kind_of (node_at R c.args.number) in
    sym (nothing_behind (listed_words c.args.known.now.lists) R (spot_of c.args.self.now) c.args.number (no_kind Element asked c.in_default.ensures) (no_kind Text asked c.in_default.ensures))

pub returns-in_default-clause-passed : goal.returns-in_default-clause-passed
returns-in_default-clause-passed c =
    let R : List Row = rows_in c.args.tree.now in
    let asked = option_map kind_of (node_at R c.args.number) in
    sym (others_entered (listed_words c.args.known.now.lists) R (spot_of c.args.self.now) c.args.number (no_kind Element asked c.in_default.ensures))

-- An element

pub returns-in_ok-put_element-in-Element-clause-text : goal.returns-in_ok-put_element-in-Element-clause-text
returns-in_ok-put_element-in-Element-clause-text c =
    let p : ListedWords = listed_words c.args.known.now.lists in
    let R : List Row = rows_in c.args.tree.now in
    let s : Spot = spot_of c.args.self.now in
    let o : List ℕ = c.args.out.now.items in
    let is : option_map kind_of (node_at R c.args.number) ≡ Some Element = sym c.in-Some.ensures ∙ ap (λ (k : Kind). Some k) c.in-Element.is in
    c.in_ok-put_element-in-Element.ensures.text
    ∙ ap (λ (f : Fate). o ++ fate_written (start_at p R c.args.number) f) c.fate_of-fate.ensures
    ∙ ap (λ x. o ++ x) (sym (element_written p R s c.args.number is))

pub returns-in_ok-put_element-in-Element-clause-spot : goal.returns-in_ok-put_element-in-Element-clause-spot
returns-in_ok-put_element-in-Element-clause-spot c =
    let p : ListedWords = listed_words c.args.known.now.lists in
    let R : List Row = rows_in c.args.tree.now in
    let s : Spot = spot_of c.args.self.now in
    let is : option_map kind_of (node_at R c.args.number) ≡ Some Element = sym c.in-Some.ensures ∙ ap (λ (k : Kind). Some k) c.in-Element.is in
    c.in_ok-put_element-in-Element.ensures.spot
    ∙ ap (λ (f : Fate). behind_element c.args.number (end_or_none R c.args.number) f s) c.fate_of-fate.ensures
    ∙ sym (element_behind p R s c.args.number is)

pub returns-in_ok-put_element-in-Element-clause-passed : goal.returns-in_ok-put_element-in-Element-clause-passed
returns-in_ok-put_element-in-Element-clause-passed c =
    let p : ListedWords = listed_words c.args.known.now.lists in
    let R : List Row = rows_in c.args.tree.now in
    let s : Spot = spot_of c.args.self.now in
    let is : option_map kind_of (node_at R c.args.number) ≡ Some Element = sym c.in-Some.ensures ∙ ap (λ (k : Kind). Some k) c.in-Element.is in
    c.is_passed.ensures ∙ ap is_passed c.fate_of-fate.ensures ∙ sym (element_passed p R s c.args.number is)

-- A text

pub returns-in_ok-put_text-in-Text-clause-text : goal.returns-in_ok-put_text-in-Text-clause-text
returns-in_ok-put_text-in-Text-clause-text c =
    let R : List Row = rows_in c.args.tree.now in
    let o : List ℕ = c.args.out.now.items in
    let is : option_map kind_of (node_at R c.args.number) ≡ Some Text = sym c.in-Some.ensures ∙ ap (λ (k : Kind). Some k) c.in-Text.is in
    c.in_ok-put_text-in-Text.ensures.text ∙ ap (λ x. o ++ x) (sym (text_row (listed_words c.args.known.now.lists) R (spot_of c.args.self.now) c.args.number is))

pub returns-in_ok-put_text-in-Text-clause-spot : goal.returns-in_ok-put_text-in-Text-clause-spot
returns-in_ok-put_text-in-Text-clause-spot c =
    let R : List Row = rows_in c.args.tree.now in
    let is : option_map kind_of (node_at R c.args.number) ≡ Some Text = sym c.in-Some.ensures ∙ ap (λ (k : Kind). Some k) c.in-Text.is in
    c.in_ok-put_text-in-Text.ensures.spot ∙ sym (text_behind (listed_words c.args.known.now.lists) R (spot_of c.args.self.now) c.args.number is)

pub returns-in_ok-put_text-in-Text-clause-passed : goal.returns-in_ok-put_text-in-Text-clause-passed
returns-in_ok-put_text-in-Text-clause-passed c =
    let R : List Row = rows_in c.args.tree.now in
    let is : option_map kind_of (node_at R c.args.number) ≡ Some Text = sym c.in-Some.ensures ∙ ap (λ (k : Kind). Some k) c.in-Text.is in
    sym (others_entered (listed_words c.args.known.now.lists) R (spot_of c.args.self.now) c.args.number (text_no_element R c.args.number is))
  where
    text_no_element : (R : List Row) (n : ℕ) → option_map kind_of (node_at R n) ≡ Some Text → option_map kind_of (node_at R n) ≡ Some Element → ⊥
    text_no_element R n t e = cc

-- What is neither

pub returns-in_default-kind-clause-text : goal.returns-in_default-kind-clause-text
returns-in_default-kind-clause-text c =
    let R : List Row = rows_in c.args.tree.now in
    let o : List ℕ = c.args.out.now.items in
    let k : Kind = c.in-Some.kind in
    let asked = option_map kind_of (node_at R c.args.number) in
    sym (append-nil o)
    ∙ ap (λ x. o ++ x)
    (sym (nothing_written (listed_words c.args.known.now.lists) R (spot_of c.args.self.now) c.args.number
    (other_kind k Element asked c.in-Some.ensures c.in_default-kind.not-Element) (other_kind k Text asked c.in-Some.ensures c.in_default-kind.not-Text)))

pub returns-in_default-kind-clause-spot : goal.returns-in_default-kind-clause-spot
returns-in_default-kind-clause-spot c =
    let R : List Row = rows_in c.args.tree.now in
    let k : Kind = c.in-Some.kind in
    let asked = option_map kind_of (node_at R c.args.number) in
    sym (nothing_behind (listed_words c.args.known.now.lists) R (spot_of c.args.self.now) c.args.number
    (other_kind k Element asked c.in-Some.ensures c.in_default-kind.not-Element) (other_kind k Text asked c.in-Some.ensures c.in_default-kind.not-Text))

pub returns-in_default-kind-clause-passed : goal.returns-in_default-kind-clause-passed
returns-in_default-kind-clause-passed c =
    let R : List Row = rows_in c.args.tree.now in
    let asked = option_map kind_of (node_at R c.args.number) in
    sym (others_entered (listed_words c.args.known.now.lists) R (spot_of c.args.self.now) c.args.number (other_kind c.in-Some.kind Element asked c.in-Some.ensures c.in_default-kind.not-Element))
