use Rattle.std.proofs.Common.{refl}
use Rattle.tl_tree.specs.Inner.Builders.{builder_of, token_of}
use Rattle.tl_tree.proofs.builder.Builder.set_text.Goals as goal

pub invariant_of-self : goal.invariant_of-self
invariant_of-self c =
    let k = c.args.self.now.known in
    record {
      known = record {
        numbered = k.numbered;
        listed = k.listed;
        own = k.own;
        around = k.around;
        said = c.requires;
        typed = k.typed;
        tallied = k.tallied;
      };
    }

pub returns-clause-ok : goal.returns-clause-ok
unfolding builder_of
returns-clause-ok c = refl

pub returns-clause-page : goal.returns-clause-page
unfolding token_of
returns-clause-page c = refl

pub returns-clause-text : goal.returns-clause-text
unfolding token_of
returns-clause-text c = refl
