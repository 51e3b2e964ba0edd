use Rattle.std.proofs.Common.{◌≡◌, length, option_map, None}
use Rattle.tl_selector.specs.View.{selector}
use Rattle.tl_spec.specs.Select.Reading.{nest}
use Rattle.tl_spec.specs.Select.Reading.{parts_at, next_at, End, Bad}
use Rattle.tl_selector.proofs.parser.complex.parse_rest.Given as goal

abbrev pub invariant-parts : goal.invariant-parts
invariant-parts l = record {
  nests : option_map (nest (option_map selector l.before) (selector l.chain)) (parts_at l.rest) ≡ option_map (nest None (selector l.fn.first)) (parts_at l.fn.s);
  alone : next_at l.fn.s ≡ End → (l.rest ≡ l.fn.s) × (l.before ≡ None);
  bad : next_at l.fn.s ≡ Bad → l.rest ≡ l.fn.s;
}

abbrev pub decreases-parts : goal.decreases-parts
decreases-parts l = length l.rest
