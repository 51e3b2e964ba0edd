use Rattle.std.proofs.Common.{◌≡◌, ◌++◌, List, take, drop}
use Rattle.tl_html_balance.specs.View.{open_names}
use Rattle.tl_patch_spec.specs.Elements.{PlacedToken}
use Rattle.tl_patch_elements.specs.Inner.Finding.{elements_with}
use Rattle.tl_patch_elements.proofs.Closing.{EndsOf}
use Rattle.tl_patch_elements.proofs.finder.Finder.close.Given as goal

abbrev pub invariant-loop-number : goal.invariant-loop-number
invariant-loop-number l = record {
  names : open_names l.self.open_tags ≡ open_names l.fn.self.open_tags;
  elements : (rest : List PlacedToken) →
      elements_with l.fn.self (EndsOf l.is_own l.at (take l.count (open_names l.fn.self.open_tags)) ++ rest)
      ≡ elements_with l.self (EndsOf l.is_own l.at (drop l.number (take l.count (open_names l.fn.self.open_tags))) ++ rest);
}
