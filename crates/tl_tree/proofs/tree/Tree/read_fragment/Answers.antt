use Rattle.std.proofs.Common.{List, ap, false, length, refl, subst, true, ◌<◌, ◌^◌, ◌∙◌, ℕ}
use Rattle.std.proofs.lemmas.Result.{IfOk-weaker}
use Rattle.tl_dom_spec.specs.Builder.{Builder, end_of_file}
use Rattle.tl_dom_spec.specs.Dispatcher.{token_done}
use Rattle.tl_dom_spec.specs.HtmlTree.{children_of, fragment_read}
use Rattle.tl_tree.proofs.OnErrors.{if-all}
use Rattle.tl_tree.proofs.Sourced.{fragment-sourced}
use Rattle.tl_tree.proofs.TreesRead.{fragment-trees, same-little, same-quirks}
use Rattle.tl_tree.specs.Contexts.{context_of}
use Rattle.tl_tree.specs.Inner.Builders.{flags_of}
use Rattle.tl_tree.specs.Inner.Reading.{left_of}
use Rattle.tl_tree.specs.Inner.Sourced.{AreSources}
use Rattle.tl_tree.specs.Rows.{rows_of}
use Rattle.tl_tree.specs.Sources.{IsOutOfProportionAt, bounds_in, fragment_begin}
use Rattle.tl_tree.proofs.tree.Tree.read_fragment.Goals as goal

pub returns-clause-tree : goal.returns-clause-tree
returns-clause-tree c =
    let built = token_done (left_of c.in_ok-reader.reader) end_of_file in
    IfOk-weaker c.into_tree.result _ _
    (λ tree is. fragment-trees built tree is ∙ ap (λ (b : Builder). rows_of (children_of b)) c.in_ok-reader.ensures.left)
    c.into_tree.ensures.tree

pub returns-clause-quirks : goal.returns-clause-quirks
returns-clause-quirks c =
    let flags = flags_of c.args.flags in
    let context = context_of c.args.context in
    let page = c.args.text.now in
    let built = token_done (left_of c.in_ok-reader.reader) end_of_file in
    IfOk-weaker c.into_tree.result _ _
    (λ tree is. same-quirks built (fragment_read flags context page) tree c.in_ok-reader.ensures.left is)
    c.into_tree.ensures.quirks

pub returns-clause-sources : goal.returns-clause-sources
returns-clause-sources c =
    let flags = flags_of c.args.flags in
    let context = context_of c.args.context in
    let page = c.args.text.now in
    let begin = fragment_begin flags context in
    let built = token_done (left_of c.in_ok-reader.reader) end_of_file in
    if-all c.into_tree.result _ _ _ _
    (λ tree is whole of.
    fragment-sourced flags context page tree built (bounds_in tree.sources) (fragment-trees built tree is) refl
    (whole ∙ ap length c.in_ok-reader.ensures.page)
    (subst (λ (own : List ℕ). AreSources own begin built (bounds_in tree.sources)) c.in_ok-reader.ensures.page
    (of begin c.in_ok-reader.ensures.sources)))
    c.into_tree.ensures.tree c.into_tree.ensures.end c.into_tree.ensures.sources

pub returns-clause-in_proportion : goal.returns-clause-in_proportion
returns-clause-in_proportion c =
    let flags = flags_of c.args.flags in
    let context = context_of c.args.context in
    let page = c.args.text.now in
    let built = token_done (left_of c.in_ok-reader.reader) end_of_file in
    IfOk-weaker c.into_tree.result _ _
    (λ _ is. same-little built (fragment_read flags context page) true c.in_ok-reader.ensures.left is)
    c.into_tree.ensures.little

pub returns-clause-out_of_proportion : goal.returns-clause-out_of_proportion
returns-clause-out_of_proportion c at is =
    let flags = flags_of c.args.flags in
    let context = context_of c.args.context in
    let page = c.args.text.now in
    let built = token_done (left_of c.in_ok-reader.reader) end_of_file in
    same-little built (fragment_read flags context page) false c.in_ok-reader.ensures.left (c.into_tree.ensures.large at is)

pub returns-clause-place : goal.returns-clause-place
returns-clause-place c at is =
    let flags = flags_of c.args.flags in
    let context = context_of c.args.context in
    let page = c.args.text.now in
    let begin = fragment_begin flags context in
    subst (λ (own : List ℕ). IsOutOfProportionAt own begin at) c.in_ok-reader.ensures.page
    (c.into_tree.ensures.place at is begin c.in_ok-reader.ensures.sources c.in_ok-reader.ensures.little)

pub returns-clause-short : goal.returns-clause-short
returns-clause-short c =
    IfOk-weaker c.into_tree.result _ _
    (λ _ short. subst (λ (own : List ℕ). length own < 2 ^ 32) c.in_ok-reader.ensures.page short)
    c.into_tree.ensures.short
