use Rattle.std.proofs.Common.{◌-◌, ◌≤◌, ◌++◌, Bool, List, ℕ, drop, length, map}
use Rattle.tl_html_parts.specs.Parts.{attribute_view}
use Rattle.tl_html_parts.specs.Rest.{HasRest}
use Rattle.tl_html_parts.proofs.parts.tag_parts.Given as goal

abbrev pub invariant-loop-found : goal.invariant-loop-found
invariant-loop-found l = record {
  rest : (more : List (List ℕ × List ℕ)) (closes : Bool) → HasRest (drop l.at l.bytes) more closes →
      HasRest (drop l.name.end l.bytes) (map attribute_view l.attributes.items ++ more) closes;
  within : l.at ≤ length l.bytes;
}

abbrev pub decreases-loop-found : goal.decreases-loop-found
decreases-loop-found l = length l.bytes - l.at
