use Rattle.std.proofs.Common.{◌++◌, map, ap, sym, ◌∙◌, string_bytes}
use Rattle.tl_spec.specs.Print.{print_pairs}
use Rattle.tl_attributes.specs.AttributesView.{pair_view}
use Rattle.tl.proofs.Printing.{pairs-listed}
use Rattle.tl.proofs.walk.print.write_pairs.Goals as goal

pub loop-pair-init : goal.loop-pair-init
loop-pair-init c = ap (λ ps. string_bytes c.args.out.now ++ print_pairs ps) (sym (pairs-listed c.args.attributes.now) ∙ ap (map pair_view) (sym c.iter-pair-items.ensures.value) ∙ ap (map pair_view) (sym c.into_iter-pair-iterator.ensures.into_iter_gives))
