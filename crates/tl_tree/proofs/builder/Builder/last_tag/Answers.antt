use Rattle.std.proofs.Common.{Option, ap, sym, ℕ}
use Rattle.std.specs.Option.{option_map}
use Rattle.tl_dom_spec.specs.Reset as reset
use Rattle.tl_tree.specs.Inner.Builders.{builder_of}
use Rattle.tl_tree.specs.Inner.Store.{tag_at}
use Rattle.tl_tree.proofs.builder.Builder.last_tag.Goals as goal

pub returns-in-Some-clause-stands : goal.returns-in-Some-clause-stands
unfolding builder_of
returns-in-Some-clause-stands c =
    let b = c.args.self.now in
    sym (ap (λ (o : Option ℕ). reset.last_tag (option_map (tag_at b.path.store) o) (tag_at b.path.store c.args.tag)) c.in-Some.is)

pub returns-in-None-clause-stands : goal.returns-in-None-clause-stands
unfolding builder_of
returns-in-None-clause-stands c =
    let b = c.args.self.now in
    sym (ap (λ (o : Option ℕ). reset.last_tag (option_map (tag_at b.path.store) o) (tag_at b.path.store c.args.tag)) c.in-None.is)
