use Rattle.std.proofs.Common.{ap, map, ◌++◌, ◌∙◌}
use Rattle.std.proofs.lemmas.Bool.Decides.{Decides-eqb}
use Rattle.std.proofs.lemmas.List.{append_assoc, map-append}
use Rattle.std.proofs.lemmas.Slice.Eq.{strip_prefix_is}
use Rattle.tl_tree.specs.TreeView.{rows_in}
use Rattle.tl_tree_edit.specs.Events.{says}
use Rattle.tl_tree_edit.specs.Inner.Walk.{rest_of}
use Rattle.tl_tree_edit.proofs.events.Events.take_bytes.Goals as goal

pub returns-clause-taken : goal.returns-clause-taken
returns-clause-taken c =
    λ _.
    let found = rw c.in-Some.is at (strip_prefix_is Decides-eqb c.args.self.now.text.now c.args.bytes.now c.strip_prefix.result c.strip_prefix.ensures.cases) in
    let behind = rest_of (rows_in c.args.self.now.tree.now) c.args.self.now.ends.items c.args.self.now.number in
    ap (λ text. map says text ++ behind) found
    ∙ (ap (λ events. events ++ behind) (map-append says c.args.bytes.now c.in-Some.rest.now) ∙ append_assoc (map says c.args.bytes.now) (map says c.in-Some.rest.now) behind)
