use Rattle.std.proofs.Common.{List, ap, rules, sym, ◌∙◌, ◌≡◌}
use Rattle.tl_tree_safe.proofs.OpenElements.{last_first, none_first}
use Rattle.std.specs.Prelude.{reverse}
use Rattle.tl_tree_safe.specs.Inner.Walk.{ends_before}
use Rattle.tl_tree_safe.specs.declared.writer.Open.{Open}
use Rattle.tl_tree_safe.proofs.writer.Writer.ends_before.Goals as goal

pub returns-in-Some : goal.returns-in-Some
returns-in-Some c =
    let all : c.deref.result.now ≡ c.args.self.now.opens.items = search rules in
    let own = last_first c.deref.result.now c.in-Some.open.now c.in-Some.ensures.value in
    ap (ends_before c.args.number) (sym own.1 ∙ ap reverse all)

pub returns-in-None : goal.returns-in-None
returns-in-None c =
    let all : c.deref.result.now ≡ c.args.self.now.opens.items = search rules in
    ap (λ (os : List Open). ends_before c.args.number (reverse os)) (sym (none_first c.deref.result.now c.in-None.ensures.value) ∙ all)
