use Rattle.std.proofs.Common.{None, [], ap, arith, length, ℕ, ◌++◌, ◌-◌, ◌∙◌, ◌∷◌, ◌≡◌}
use Rattle.std.proofs.lemmas.Result.{on_ok_weaker}
use Rattle.json.specs.Token.{begin_array, end_array}
use Rattle.tl_tree.specs.Sources.{source_at}
use Rattle.tl_tree.specs.TreeView.{rows_in}
use Rattle.tl_tree_extract.proofs.Sinks.{three}
use Rattle.tl_tree_extract.specs.Inner.Sinks.{after}
use Rattle.tl_tree_extract.specs.Json.{rows_tokens}
use Rattle.tl_tree_extract.proofs.node_json.put_document.Goals as goal

pub returns-clause-adds : goal.returns-clause-adds
returns-clause-adds g c =
    let rows = rows_in c.args.tree.now in
    let all : c.len.result - 0 ≡ length rows = omega (arith, c.len.ensures) in
    on_ok_weaker c.mark-2.result
    (λ e.
    three _ _ _ _ _ _ _ c.in_ok-mark.ensures.adds c.in_ok-write_rows.ensures.adds e
    ∙ ap (λ (n : ℕ). after (begin_array ∷ (rows_tokens None (source_at c.args.tree.now) rows 0 n ++ end_array ∷ [])) (g.S.Sink.taken c.args.out.now)) all)
    c.mark-2.ensures.adds
