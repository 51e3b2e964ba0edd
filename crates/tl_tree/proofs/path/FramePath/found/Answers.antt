use Rattle.std.proofs.Common.{arith, ap, sym, ◌∙◌}
use Rattle.tl_dom_spec.specs.Dispatcher.{found_in}
use Rattle.tl_tree.proofs.Begun.{found-begun}
use Rattle.tl_tree.proofs.Skipped.{none-further}
use Rattle.tl_tree.proofs.StackWalk.{stacked-all}
use Rattle.tl_tree.specs.Inner.Limits.{is_lowered, is_of_kind}
use Rattle.tl_tree.specs.Inner.MetNames.{in_lower_case}
use Rattle.tl_tree.specs.declared.role.Kind.TheVariants.{Html}
use Rattle.tl_tree.proofs.path.FramePath.found.Goals as goal

pub returns-in_default : goal.returns-in_default
returns-in_default c =
    let p = c.args.self.now in
    let own = p.frames.ok.0 in
    sym (ap (found_in c.args.name.now) (stacked-all p c.len.result (omega arith) ∙ c.open_below.ensures.none c.in_default.is))

pub loop-outer-init : goal.loop-outer-init
loop-outer-init c =
    let p = c.args.self.now in
    let name = c.args.name.now in
    let own = p.frames.ok.0 in
    let top = c.in-Some.top in
    let within = c.in-Some.ensures.within in
    let limit = c.max-limit.result in
    let greater = c.max-limit.ensures in
    record {
      bound = omega (arith, c.min-inner.ensures);
      same =
          ap (found_in name) (stacked-all p c.len.result (omega arith) ∙ c.in-Some.ensures.some)
          ∙ found-begun name p top limit c.min-inner.result c.min-inner.ensures (omega arith)
          (none-further (is_of_kind Html) p c.kind_limit.result limit (omega arith) c.kind_limit.ensures.skips)
          (none-further (is_lowered (in_lower_case name)) p c.name_limit.result limit (omega arith) c.name_limit.ensures.skips);
    }
