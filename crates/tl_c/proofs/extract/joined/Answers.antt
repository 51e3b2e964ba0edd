use Rattle.std.proofs.Common.{List, rules, ℕ, ◌≡◌}
use Rattle.tl_c.proofs.Joined.{joined_by}
use Rattle.url.specs.Parts.{serialize}
use Rattle.tl_c.proofs.extract.joined.Goals as goal

pub returns : goal.returns
returns c =
    let written : c.extend_from_slice.new.self.items ≡ serialize c.in_ok-target.target = search rules in
    joined_by c.args.base.now c.in_ok-text_of.field-0.now c.args.link.now c.in_ok-base.base c.in_ok-target.target c.extend_from_slice.new.self.items
    c.in_ok-text_of.ensures.reads c.in_ok-text_of.ensures.text c.in_ok-base.ensures c.in_ok-target.ensures written
