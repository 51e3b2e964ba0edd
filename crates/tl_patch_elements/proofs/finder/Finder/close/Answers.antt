use Rattle.std.proofs.Common.{ℕ, Bool, List, ◌∷◌, drop, refl, ap, sym, ◌∙◌}
use Rattle.tl_html_spec.specs.HtmlTokenizer.{EndTag}
use Rattle.tl_html_balance.specs.View.{open_names}
use Rattle.tl_patch_spec.specs.Elements.{PlacedToken, at_piece}
use Rattle.tl_patch_elements.specs.Inner.Finding.{elements_with}
use Rattle.tl_patch_elements.proofs.Closing.{close_end, close_step}
use Rattle.tl_patch_elements.proofs.finder.Finder.close.Goals as goal

pub loop-number-init : goal.loop-number-init
loop-number-init c = record { names = refl; elements = λ rest. refl }

pub loop-number-preserved : goal.loop-number-preserved
loop-number-preserved c = record {
  names = c.in_ok-end_innermost.ensures.names ∙ c.loop-number.invariant.names;
  elements = close_step c.args.self.now c.loop-number.self c.end_innermost.new.self (open_names c.args.self.now.open_tags) c.args.count c.loop-number.number c.args.at c.args.is_own
      c.requires c.loop-number-test.true c.loop-number.invariant.elements
      (λ (name : List ℕ) (rest : List PlacedToken).
      ap (λ (v : Bool). elements_with c.loop-number.self (at_piece c.args.at v (EndTag name) ∷ rest)) (sym c.is_last_own-is_last_own.ensures)
      ∙ c.in_ok-end_innermost.ensures.elements name rest);
}

pub returns : goal.returns
returns c = record {
  names = c.close.ensures ∙ ap (drop c.args.count) c.loop-number.invariant.names;
  elements = close_end c.args.self.now c.loop-number.self (open_names c.args.self.now.open_tags) c.args.count c.loop-number.number c.args.at c.args.is_own
      c.loop-number-test.false c.loop-number.invariant.elements;
}
