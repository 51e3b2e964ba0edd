use Rattle.std.proofs.Common.{ap, arith, drop, length, length-drop, sym, take, ◌∙◌}
use Rattle.std.specs.List.{list_all}
use Rattle.tl_dom_spec.specs.Runs.{is_of_run, kind_of}
use Rattle.tl_tree.proofs.RunTexts.{said-bound, said-length}
use Rattle.tl_tree.specs.Inner.Builders.{builder_of, token_of}
use Rattle.tl_tree.specs.Inner.Modes.{mode_of}
use Rattle.tl_tree.proofs.builder.Builder.run_len.Goals as goal

pub behind_first-rest-requires : goal.behind_first-rest-requires
unfolding token_of
behind_first-rest-requires c =
    let is = ap length c.bytes-bytes.ensures in
    omega (arith, is, c.requires)

pub overflow_cast-result : goal.overflow_cast-result
unfolding token_of
overflow_cast-result c =
    let b = c.args.self.now in
    let is = ap length c.bytes-bytes.ensures in
    let rest = ap length c.behind_first-rest.ensures in
    let behind = length-drop 1 c.bytes-bytes.result.now in
    let long = said-length b in
    let bound = said-bound b in
    let within = c.run_len.ensures.within in
    omega arith

pub returns-clause-within : goal.returns-clause-within
unfolding token_of
returns-clause-within c =
    let is = ap length c.bytes-bytes.ensures in
    let rest = ap length c.behind_first-rest.ensures in
    let behind = length-drop 1 c.bytes-bytes.result.now in
    let within = c.run_len.ensures.within in
    let some = c.requires in
    omega arith

pub returns-clause-same : goal.returns-clause-same
unfolding builder_of token_of
returns-clause-same c =
    let b = c.args.self.now in
    let n = c.run_len.result in
    let rest = c.behind_first-rest.result.now in
    ap (λ xs. list_all (is_of_run (mode_of b.mode) (kind_of c.args.first)) (take n xs))
    (sym (c.behind_first-rest.ensures ∙ ap (drop 1) c.bytes-bytes.ensures))
    ∙ ap (λ kind. list_all (is_of_run (mode_of b.mode) kind) (take n rest)) (sym c.kind_of.ensures)
    ∙ c.run_len.ensures.same
