use Rattle.std.proofs.Common.{◌≡◌, ◌≤◌, ◌-◌, Some, length, take}
use Rattle.tl_html_tokens.specs.Inner.Through.{through}
use Rattle.tl_html_tokens.specs.declared.stage.Stage.TheVariants.{BeforeKey}
use Rattle.tl_html_tokens.proofs.attributes.attributes_in_front.Given as goal

abbrev pub invariant-loop-tag : goal.invariant-loop-tag
invariant-loop-tag l = record {
  through : through (BeforeKey l.tag) (take l.at l.text) ≡ Some (BeforeKey l.tag);
  within : l.at ≤ length l.text;
}

abbrev pub decreases-loop-tag : goal.decreases-loop-tag
decreases-loop-tag l = length l.text - l.at
