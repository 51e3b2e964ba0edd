use Rattle.std.proofs.Common.{◌-◌, ◌≤◌, ◌++◌, Bool, List, ℕ, drop, length}
use Rattle.tl_html_parts.specs.Inner.TagParts.{GoesOn}
use Rattle.tl_html_parts.specs.Places.{AreParts, pairs_in}
use Rattle.tl_html_parts.specs.Rest.{HasRest}
use Rattle.tl_html_parts.proofs.tag_front.read_attributes.Given as goal

abbrev pub invariant-loop-found : goal.invariant-loop-found
invariant-loop-found l = record {
  rest : (more : List (List ℕ × List ℕ)) (closes : Bool) → HasRest (drop l.at l.text) more closes →
      HasRest (drop l.from l.text) (pairs_in l.text l.attributes.items ++ more) closes;
  parts : AreParts l.text l.attributes.items;
  goes_on : GoesOn l.text l.from l.at;
  within : l.at ≤ length l.text;
}

abbrev pub decreases-loop-found : goal.decreases-loop-found
decreases-loop-found l = length l.text - l.at
