use Rattle.std.proofs.Common.{◌≡◌, take, true}
use Rattle.std.specs.List.{list_all}
use Rattle.tl_html_parts.specs.Bytes.{is_kept_in_name}
use Rattle.tl_html_parts.proofs.name.are_kept.Given as goal

abbrev pub invariant-loop-byte : goal.invariant-loop-byte
invariant-loop-byte l = list_all is_kept_in_name (take l.byte-index l.name) ≡ true
