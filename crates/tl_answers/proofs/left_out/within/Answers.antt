use Rattle.std.proofs.Common.{Bool, List, ap, length, ◌∙◌, ◌≡◌}
use Rattle.std.proofs.lemmas.Result.{IfOk-weaker}
use Rattle.tl_answers.proofs.Within.{all_within}
use Rattle.tl_answers.specs.Inner.Within.{withins_before}
use Rattle.tl_answers.specs.LeftOut.{marks_in}
use Rattle.tl_tree.specs.Rows.{Row}
use Rattle.tl_tree.specs.TreeView.{rows_in}
use Rattle.tl_tree_extract.specs.Boxes.{is_left_out}
use Rattle.tl_answers.proofs.left_out.within.Goals as goal

pub returns : goal.returns
returns c = λ ns found.
    let rows : List Row = rows_in c.args.tree.now in
    let marks : c.as_slice.result.now ≡ marks_in rows ns = c.as_slice.ensures.value ∙ c.in_ok-marks.ensures ns found in
    IfOk-weaker c.spread.result _ _
    (λ all e. λ n. ap (λ (v : List Bool). is_left_out v n) (e ∙ ap (λ (m : List Bool). withins_before m rows (length rows)) marks) ∙ all_within rows ns n)
    c.spread.ensures
