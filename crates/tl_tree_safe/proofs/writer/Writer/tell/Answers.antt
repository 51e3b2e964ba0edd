use Rattle.std.proofs.Common.{List, Some, ap, append-nil, map, sym, ◌++◌, ◌∙◌, ◌≡◌}
use Rattle.std.proofs.lemmas.Result.{IfOk-equal}
use Rattle.std.specs.Option.{option_map}
use Rattle.tl_tree.specs.Asked.{kind_of, node_at}
use Rattle.tl_tree.specs.Rows.{Row}
use Rattle.tl_tree.specs.TreeView.{rows_in}
use Rattle.tl_tree.specs.declared.kind.Kind.{Kind}
use Rattle.tl_tree.specs.declared.kind.Kind.TheVariants.{Element}
use Rattle.tl_tree_safe.proofs.TellingSteps.{element_told, others_told}
use Rattle.tl_tree_safe.proofs.WalkRows.{no_kind, other_kind}
use Rattle.tl_tree_safe.specs.Inner.Telling.{fate_told_at}
use Rattle.tl_tree_safe.specs.Inner.Walk.{Spot, spot_of}
use Rattle.tl_tree_safe.specs.Lists.{ListedWords}
use Rattle.tl_tree_safe.specs.Policies.{listed_words}
use Rattle.tl_tree_safe.specs.Removed.{Gone, gone_of}
use Rattle.tl_tree_safe.specs.declared.fate.Fate.{Fate}
use Rattle.tl_tree_safe.proofs.writer.Writer.tell.Goals as goal

pub returns-in_default : goal.returns-in_default
returns-in_default c =
    let R : List Row = rows_in c.args.tree.now in
    let o : List Gone = map gone_of c.args.told.now.items in
    let asked = option_map kind_of (node_at R c.args.number) in
    sym (append-nil o)
    ∙ ap (λ x. o ++ x) (sym (others_told (listed_words c.args.known.now.lists) R (spot_of c.args.self.now) c.args.number (no_kind Element asked c.in_default.ensures)))

pub returns-in-Element : goal.returns-in-Element
returns-in-Element c =
    let p : ListedWords = listed_words c.args.known.now.lists in
    let R : List Row = rows_in c.args.tree.now in
    let s : Spot = spot_of c.args.self.now in
    let o : List Gone = map gone_of c.args.told.now.items in
    let is : option_map kind_of (node_at R c.args.number) ≡ Some Element = sym c.in-Some.ensures ∙ ap (λ (k : Kind). Some k) c.in-Element.is in
    IfOk-equal c.tell_element.result _ _ _ c.tell_element.ensures
    (ap (λ (f : Fate). o ++ fate_told_at p R c.args.number f) c.fate_of-fate.ensures ∙ ap (λ x. o ++ x) (element_told p R s c.args.number is))

pub returns-in_default-kind : goal.returns-in_default-kind
returns-in_default-kind c =
    let R : List Row = rows_in c.args.tree.now in
    let o : List Gone = map gone_of c.args.told.now.items in
    let asked = option_map kind_of (node_at R c.args.number) in
    sym (append-nil o)
    ∙ ap (λ x. o ++ x)
    (sym (others_told (listed_words c.args.known.now.lists) R (spot_of c.args.self.now) c.args.number (other_kind c.in-Some.kind Element asked c.in-Some.ensures c.in_default-kind.not-Element)))
