use Rattle.std.proofs.Common.{rules, None, ◌≡◌}
use Rattle.tl_patch_select.proofs.Sources.{whole_if}
use Rattle.tl_patch_select.proofs.whole.Sources.crossing.Goals as goal

pub returns-clause-whole : goal.returns-clause-whole
returns-clause-whole c =
    let first : c.stray-stray.result ≡ None = search rules in
    let second : c.stray-other.result ≡ None = search rules in
    whole_if c.args.tree.now c.args.number c.end_of.result c.args.stretch c.args.self.now c.stray-stray.result c.stray-other.result c.end_of.ensures c.requires first second c.stray-stray.ensures.none c.stray-other.ensures.none
